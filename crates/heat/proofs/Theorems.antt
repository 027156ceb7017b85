-- What is proved of the heat capacity, beside its contract: every double has exactly one reply, an answer is a finite number and so has one bit
-- pattern, and up to 40 K it is the double of 10.3121. Assumes nothing.
use mathlib.Core.Path.{◌≡◌, refl, sym, ap, ◌∙◌}
use mathlib.Core.Bool.{not}
use mathlib.Core.Logic.{inl, inr}
use Prim.Native.Nat.{ℕ, ◌^◌, ◌<◌}
use lib.Dec.{T}
use lib.Ieee.{Float, nan, inf, fin, binary64, is_nan, of_bits, to_bits}
use lib.Ieee.Bits.{to_bits-of_bits}
use lib.Ieee.Positive.{num, den}
use lib.Ieee.Scale.{finite}
use Rattle.heat.specs.declared.replies.HeatCapacity.{HeatCapacity}
use Rattle.heat.specs.declared.replies.HeatCapacity.TheVariants.{KilojoulesPerKilogramKelvin, OutOfRange}
use Rattle.heat.specs.Printed.{plus, up_to_40}
use Rattle.heat.specs.Table.{Holds, nearest_double}
use Rattle.heat.specs.Replies.{comes_back, number_of}
use Rattle.heat.specs.Promise.{InRange, Answered, Answers}
use Rattle.heat.proofs.Ranges.{range_of, found_holds}
use Rattle.heat.proofs.Decided.{told_inside, in_or_out}
use Rattle.heat.proofs.Exactly.{in_range_is_answered, out_of_range_is_refused}
use Rattle.heat.proofs.Points.{told_held}
use Rattle.heat.proofs.Finite as finite_answers
use Rattle.heat.proofs.Constant.{constant_up_to_40}

-- ---- the contract fixes the reply, and every double has one
pub reply_determined : (kelvin : Float) (reply other : HeatCapacity) → Answers kelvin (comes_back reply) → Answers kelvin (comes_back other) → reply ≡ other
reply_determined kelvin (KilojoulesPerKilogramKelvin heat) other answers answers_too =
    ap KilojoulesPerKilogramKelvin answers.is_evaluated ∙ sym (in_range_is_answered kelvin answers.in_range answers.range answers.holds other answers_too)
reply_determined kelvin OutOfRange other answers answers_too = sym (out_of_range_is_refused kelvin answers.out_of_range other answers_too)

pub record HasReply (kelvin : Float) : Type 0 where
  pub reply : HeatCapacity
  pub answers : Answers kelvin (comes_back reply)

pub every_double_has_a_reply : (kelvin : Float) → HasReply kelvin
every_double_has_a_reply kelvin =
    elim (in_or_out kelvin) [
      | inl inside ↦
          record {
            reply = KilojoulesPerKilogramKelvin _;
            answers = record { in_range = inside; range = range_of (num kelvin) (den kelvin); holds = found_holds (num kelvin) (den kelvin); is_evaluated = refl };
          }
      | inr outside ↦ record { reply = OutOfRange; answers = record { is_5 = refl; out_of_range = outside } }
    ]

pub number_determined : (reply : HeatCapacity) {number other : ℕ} → number ≡ number_of reply → other ≡ number_of reply → number ≡ other
number_determined reply is is_too = is ∙ sym is_too

-- ---- an answer is a number
module _ (kelvin heat : Float) (answered : Answered kelvin heat) where
  pub answer_is_finite : T (finite heat)
  answer_is_finite = finite_answers.answer_is_finite kelvin heat answered

  pub answer_is_no_nan : T (not (is_nan heat))
  unfolding is_nan
  answer_is_no_nan = no_nan heat answer_is_finite
    where
      no_nan : (x : Float) → T (finite x) → T (not (is_nan x))
      no_nan nan is_finite = absurd is_finite
      no_nan (inf s) is_finite = tt
      no_nan (fin s m e) is_finite = tt

  -- A NaN of the logic stands for many patterns, every other double for one. So an answer that is equal as data is equal bit for bit.
  pub answer_has_one_pattern : (pattern : ℕ) → pattern < 2 ^ 64 → of_bits binary64 pattern ≡ heat → pattern ≡ to_bits binary64 heat
  answer_has_one_pattern pattern in_64_bits is_answer =
      sym (to_bits-of_bits binary64 pattern in_64_bits (rw is_answer answer_is_no_nan)) ∙ ap (to_bits binary64) is_answer

-- ---- the rules' point at 40 K, and the whole range that it is the end of
pub up_to_40_is_10_3121 : (kelvin : Float) → InRange kelvin → Holds up_to_40 kelvin → (reply : HeatCapacity) → Answers kelvin (comes_back reply) → reply ≡ KilojoulesPerKilogramKelvin (nearest_double (plus 103121 4 0))
up_to_40_is_10_3121 kelvin inside holds reply answers =
    in_range_is_answered kelvin inside up_to_40 holds reply answers ∙ ap KilojoulesPerKilogramKelvin (constant_up_to_40 kelvin inside.is_number)

pub at_40_is_10_3121 : (reply : HeatCapacity) → Answers (of_bits binary64 0x4044_0000_0000_0000) (comes_back reply) → reply ≡ KilojoulesPerKilogramKelvin (nearest_double (plus 103121 4 0))
unfolding of_bits
at_40_is_10_3121 =
    let forty = of_bits binary64 0x4044_0000_0000_0000 in
    up_to_40_is_10_3121 forty (told_inside forty tt) (told_held forty up_to_40 tt)
