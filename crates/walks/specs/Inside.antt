-- What the private function promises: what the slow engine promises, as a reply. Nothing public is stated by this file.
use Rattle.std.specs.Prelude.{◌≡◌, ℕ, Result, Ok, Err}
use Rattle.refusals.specs.declared.Refusal.TheVariants.{WalkCutShort}
use Rattle.slow_engine.specs.declared.Walked.{Walked}
use Rattle.slow_engine.specs.Promise.{Arrives, StopsShort}
use Rattle.walks.specs.declared.replies.WalkRefusal.{WalkRefusal}

abbrev pub WalksDown : (a b limit : ℕ) → Result Walked WalkRefusal → Type 0
WalksDown a b limit (Ok walked) = Arrives a b limit walked.gas walked.values
WalksDown a b limit (Err walk) = (walk.refusal ≡ WalkCutShort) × StopsShort a b limit walk.values
