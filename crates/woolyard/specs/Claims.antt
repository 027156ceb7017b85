-- docs/RULES.md, "Claims": what `woolyard_claims` leaves with its caller: the number and the claim of the one reply, as they are. The lists are only read.
use Rattle.std.specs.Prelude.{ℕ}
use Rattle.claims.specs.Lists.{FiveLists}
use Rattle.claims.specs.Replies.{Replies}

abbrev pub ClaimsAnswers : FiveLists → (number claim : ℕ) → Type 0
ClaimsAnswers lists number claim = Replies lists (record { number = number; claim = claim })
