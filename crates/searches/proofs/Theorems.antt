-- What a search promises is its end within the bounds, and fixes its answer. Assumes nothing.
use mathlib.Core.Path.{◌≡◌, refl, ap}
use Prim.Native.Nat.{ℕ}
use Rattle.std.specs.Prelude.{Option, Some, None}
use Rattle.cubic.specs.Promise.{Within}
use Rattle.cubic.specs.Sides.{FallsTo, ClimbsTo}
use Rattle.cubic.proofs.Ends.{falls_once, climbs_once}
use Rattle.searches.specs.Promise.{Ends}

module _ (End : (a b z : ℕ) → Type 0) (a b : ℕ) where
  pub end_within : (r : Option ℕ) → Within a b → Ends End a b r → (z : ℕ) × ((r ≡ Some z) × End a b z)
  end_within (Some z) w ends = (z, (refl, ends.1))
  end_within None w out = absurd (out w)

  ends_once : ((r s : ℕ) → End a b r → End a b s → r ≡ s) → (r s : Option ℕ) → Ends End a b r → Ends End a b s → r ≡ s
  ends_once once (Some z) (Some y) p q = ap Some (once z y p.1 q.1)
  ends_once once (Some z) None p q = absurd (q p.0)
  ends_once once None (Some y) p q = absurd (p q.0)
  ends_once once None None p q = refl

pub gas_crossing_determined : (a b : ℕ) (r s : Option ℕ) → Ends FallsTo a b r → Ends FallsTo a b s → r ≡ s
gas_crossing_determined a b = ends_once FallsTo a b (λ r s. falls_once)

pub dense_crossing_determined : (a b : ℕ) (r s : Option ℕ) → Ends ClimbsTo a b r → Ends ClimbsTo a b s → r ≡ s
dense_crossing_determined a b = ends_once ClimbsTo a b (λ r s. climbs_once)
