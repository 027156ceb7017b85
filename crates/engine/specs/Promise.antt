-- docs/RULES.md, "Crossings, roots and kinds": what `solve` promises, the two roots of the definitions, or that a or b lies outside the bounds.
-- No starting point occurs here.
use Rattle.std.specs.Prelude.{ℕ, Option, Some, None}
use Rattle.cubic.specs.Promise.{Within, BothRoots}
use Rattle.engine.specs.declared.Roots.{Roots}

abbrev pub Solves : (a b : ℕ) → Option Roots → Type 0
Solves a b (Some roots) = BothRoots a b roots.gas roots.dense
Solves a b None = Within a b → ⊥
