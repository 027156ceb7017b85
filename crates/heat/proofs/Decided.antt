-- Every double is in the range or out of it, and three tests that compute tell which. Assumes nothing.
use mathlib.Core.Bool.{Bool, true, false, ◌&&◌}
use mathlib.Core.Logic.{◌⊎◌, inl, inr}
use Prim.Native.Nat.{◌*◌}
use lib.Dec.{T, leb, leb→le, le→leb}
use lib.Ieee.{Float}
use lib.Ieee.Fits.{and_i, and_l, and_r}
use lib.Ieee.Positive.{positive, num, den}
use Rattle.heat.specs.Promise.{InRange}

module _ (kelvin : Float) where
  abbrev from : Bool
  from = leb (14 * den kelvin) (num kelvin)

  abbrev to : Bool
  to = leb (num kelvin) (1000 * den kelvin)

  abbrev pub inside : Bool
  inside = positive kelvin && (from && to)

  pub told_inside : T inside → InRange kelvin
  told_inside passed =
      let ends = and_r (positive kelvin) (from && to) passed in
      record {
        is_number = and_l (positive kelvin) (from && to) passed;
        from_14 = leb→le _ _ (and_l from to ends);
        to_1000 = leb→le _ _ (and_r from to ends);
      }

  pub passes : InRange kelvin → T inside
  passes in_range = and_i (positive kelvin) (from && to) in_range.is_number (and_i from to (le→leb _ _ in_range.from_14) (le→leb _ _ in_range.to_1000))

  pub in_or_out : InRange kelvin ⊎ (InRange kelvin → ⊥)
  in_or_out = go inside told_inside passes
    where
      go : (test : Bool) → (T test → InRange kelvin) → (InRange kelvin → T test) → InRange kelvin ⊎ (InRange kelvin → ⊥)
      go true told passed = inl (told tt)
      go false told passed = inr passed
