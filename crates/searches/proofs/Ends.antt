-- The end of a search on the cubic that `Cubic::new` made of a and b is its end for a and b. Assumes nothing.
use Prim.Native.Nat.{ℕ}
use Rattle.std.specs.Prelude.{Some}
use Rattle.cubic.specs.Bounded.{IsCubic}
use Rattle.cubic.specs.declared.Cubic.{Cubic}
use Rattle.searches.specs.Promise.{Ends}

pub of_cubic : (End : (a b z : ℕ) → Type 0) {a b z : ℕ} {cubic : Cubic} → IsCubic a b cubic → End cubic.a cubic.b z → Ends End a b (Some z)
of_cubic End is end = (is.within, rw (is.is_a, is.is_b) at end)
