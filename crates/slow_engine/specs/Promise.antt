-- docs/RULES.md, "The walk": what `walk` promises, the gas root, under the property that the quick engine's has too, and how many values of g were
-- worked out; or the limit, where it is below that.
use Rattle.std.specs.Prelude.{◌≡◌, ℕ, ◌+◌, ◌-◌, ◌≤◌, ◌<◌, Result, Ok, Err}
use Rattle.cubic.specs.Cubic.{N, GasRoot}
use Rattle.cubic.specs.Promise.{Within}
use Rattle.slow_engine.specs.declared.Walked.{Walked}
use Rattle.slow_engine.specs.declared.WalkError.{WalkError}
use Rattle.slow_engine.specs.declared.WalkError.TheVariants.{CutShort, OutOfBounds}

-- how many places there are from N + b down to z, both counted
abbrev pub way : (b z : ℕ) → ℕ
way b z = N + b - z + 1

pub record Arrives (a b limit gas values : ℕ) : Type 0 where
  pub within : Within a b
  pub is_gas : GasRoot a b gas
  pub is_way : values ≡ way b gas
  pub suffices : way b gas ≤ limit

pub record StopsShort (a b limit values : ℕ) : Type 0 where
  pub within : Within a b
  pub too_few : (gas : ℕ) → GasRoot a b gas → limit < way b gas
  pub is_limit : values ≡ limit

abbrev pub Walks : (a b limit : ℕ) → Result Walked WalkError → Type 0
Walks a b limit (Ok walk) = Arrives a b limit walk.gas walk.values
Walks a b limit (Err (CutShort values)) = StopsShort a b limit values
Walks a b limit (Err OutOfBounds) = Within a b → ⊥
