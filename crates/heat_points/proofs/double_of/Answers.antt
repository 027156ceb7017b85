-- `heat_points::double_of` meets its contract. A pattern is a NaN's exactly where it is above the infinity's, the sign left out.
-- Assumes nothing.
use mathlib.Core.Path.{◌≡◌, refl, sym, ◌∙◌}
use mathlib.Core.Bool.{true, true≢false}
use lib.Ieee.{Float, nan, inf, fin, binary64, div, is_nan, of_bits}
use lib.Ieee.Bits.{nan_bits_is, nan_bits_above}
use borrow.Author.Tests.{lt-ltb, le-ltb}
use Rattle.heat_points.proofs.double_of.Goals as goal

only_nan : (x : Float) → is_nan x ≡ true → nan ≡ x
unfolding is_nan
only_nan nan is-nan = refl
only_nan (inf s) is-nan = absurd (true≢false (sym is-nan))
only_nan (fin s m e) is-nan = absurd (true≢false (sym is-nan))

nought_over_nought : div binary64 (of_bits binary64 0) (of_bits binary64 0) ≡ nan
unfolding div of_bits
nought_over_nought = refl

pub returns-then-bits-gt-INFINITY : goal.returns-then-bits-gt-INFINITY
returns-then-bits-gt-INFINITY c =
    let bits = c.args.bits in
    nought_over_nought ∙ only_nan (of_bits binary64 bits) (sym (nan_bits_is binary64 bits) ∙ nan_bits_above binary64 bits ∙ lt-ltb _ _ c.if-bits-gt-INFINITY.true)

pub float_from_bits-result : goal.float_from_bits-result
float_from_bits-result c =
    let bits = c.args.bits in
    rw (nan_bits_above binary64 bits ∙ le-ltb _ _ c.if-bits-gt-INFINITY.false) tt
