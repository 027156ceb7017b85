-- Up to 40 K the chain runs over zeros, and each of its steps but the last leaves zero: the answer is A1 itself, the double of 10.3121.
-- Assumes nothing.
use mathlib.Core.Path.{◌≡◌, refl, ap, ◌∙◌, sym}
use mathlib.Core.Bool.{false, true}
use Prim.Native.Nat.{◌*◌}
use native.Mathlib.Nat.{zero-mul, mul-pos}
use lib.Dec.{T, lit<}
use lib.IntN.{pos}
use lib.Ieee.{Float, nan, inf, fin, binary64, up, down, round, mul, add, of_bits}
use lib.Ieee.Fits.{down_pos}
use lib.Ieee.Positive.{positive}
use lib.Ieee.Scale.{round_same}
use Rattle.heat.specs.declared.table.Coefficients.{Coefficients}
use Rattle.heat.specs.Printed.{Decimal, plus, up_to_40, printed}
use Rattle.heat.specs.Table.{nearest_double, coefficients_of}
use Rattle.heat.specs.Evaluation.{step, evaluated}

abbrev nought : Float
nought = fin false 0 (pos 0)

times : (kelvin : Float) → T (positive kelvin) → mul binary64 nought kelvin ≡ nought
unfolding mul
times nan is_number = absurd is_number
times (inf s) is_number = absurd is_number
times (fin true m e) is_number = absurd is_number
times (fin false m e) is_number =
    round_same binary64 false (0 * (m * up e)) (1 * down e) 0 1 (mul-pos (lit< tt) (down_pos e)) (lit< tt) (simp zero-mul) ∙ zero_is
  where
    zero_is : round binary64 false 0 1 ≡ nought
    zero_is = unfold round in refl

abbrev only : Decimal
only = plus 103121 4 0

pattern : Float
pattern = of_bits binary64 0x4024_9fcb_923a_29c7

is_pattern : nearest_double only ≡ pattern
unfolding pattern nearest_double round of_bits
is_pattern = refl

nothing_added : add binary64 nought nought ≡ nought
unfolding add
nothing_added = refl

added : add binary64 nought pattern ≡ pattern
unfolding pattern add of_bits
added = refl

through_zeros : (row : Coefficients) (kelvin : Float) → T (positive kelvin) → row.a2 ≡ nought → row.a3 ≡ nought → row.a4 ≡ nought → row.a5 ≡ nought → evaluated row kelvin ≡ add binary64 nought row.a1
unfolding evaluated step
through_zeros row kelvin is_number a2 a3 a4 a5 = simp (a2, a3, a4, a5, times kelvin is_number, nothing_added)

-- the first row has one coefficient, and zeros
first_row : (kelvin : Float) → T (positive kelvin) → evaluated (coefficients_of up_to_40) kelvin ≡ add binary64 nought (nearest_double only)
unfolding coefficients_of printed nearest_double round
first_row kelvin is_number = through_zeros (coefficients_of up_to_40) kelvin is_number refl refl refl refl

pub constant_up_to_40 : (kelvin : Float) → T (positive kelvin) → evaluated (coefficients_of up_to_40) kelvin ≡ nearest_double only
constant_up_to_40 kelvin is_number = first_row kelvin is_number ∙ ap (add binary64 nought) is_pattern ∙ added ∙ sym is_pattern
