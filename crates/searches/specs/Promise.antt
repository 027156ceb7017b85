-- docs/RULES.md, "Crossings, roots and kinds": what a search promises: its end, as `FallsTo` and `ClimbsTo` of `cubic` say it, for a and b within the bounds, and none outside.
-- No starting point occurs here.
use Rattle.std.specs.Prelude.{ℕ, Option, Some, None}
use Rattle.cubic.specs.Promise.{Within}

abbrev pub Ends : (End : (a b z : ℕ) → Type 0) (a b : ℕ) → Option ℕ → Type 0
Ends End a b (Some z) = Within a b × End a b z
Ends End a b None = Within a b → ⊥
