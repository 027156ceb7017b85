-- Table 4's ranges cover every temperature that is a fraction, and no two of them hold the same one: each is the range that three comparisons
-- find. Assumes nothing.
use mathlib.Core.Path.{◌≡◌, refl, sym, ◌∙◌}
use mathlib.Core.Bool.{Bool, true, false, cond}
use Prim.Native.Nat.{ℕ, ◌*◌}
use native.Mathlib.Omega.{arith}
use lib.Dec.{leb}
use borrow.Author.Tests.{le-leb, lt-leb, leb-true, leb-false}
use Rattle.heat.specs.Printed.{Range, up_to_40, up_to_150, up_to_500, above_500, Within}

abbrev pub range_of : (numerator denominator : ℕ) → Range
range_of numerator denominator =
    cond (leb numerator (40 * denominator)) up_to_40
    (cond (leb numerator (150 * denominator)) up_to_150
    (cond (leb numerator (500 * denominator)) up_to_500 above_500))

module _ (numerator denominator : ℕ) where
  found : (range : Range) → Within range numerator denominator → range_of numerator denominator ≡ range
  found up_to_40 to = simp (le-leb _ _ to)
  found up_to_150 (above, to) = simp (lt-leb _ _ above, le-leb _ _ to)
  found up_to_500 (above, to) = simp (lt-leb numerator (40 * denominator) (omega (arith, above)), lt-leb _ _ above, le-leb _ _ to)
  found above_500 above =
      simp (lt-leb numerator (40 * denominator) (omega (arith, above)), lt-leb numerator (150 * denominator) (omega (arith, above)), lt-leb _ _ above)

  pub one_range : (range other : Range) → Within range numerator denominator → Within other numerator denominator → range ≡ other
  one_range range other within within_too = sym (found range within) ∙ found other within_too

  -- and it is within the one found
  pub found_holds : Within (range_of numerator denominator) numerator denominator
  found_holds = go _ _ _ refl refl refl
    where
      go : (first second third : Bool) → leb numerator (40 * denominator) ≡ first → leb numerator (150 * denominator) ≡ second → leb numerator (500 * denominator) ≡ third
          → Within (cond first up_to_40 (cond second up_to_150 (cond third up_to_500 above_500))) numerator denominator
      go true second third e f g = leb-true _ _ e
      go false true third e f g = (leb-false _ _ e, leb-true _ _ f)
      go false false true e f g = (leb-false _ _ f, leb-true _ _ g)
      go false false false e f g = leb-false _ _ g
