-- The test of an answered row: the state is within its ranges, the row's t, p, s, a and b are the state's, the answer's roots are those of
-- a and b, and its densities are those of the roots. Assumes nothing.
use mathlib.Core.Path.{refl, ap₂}
use Prim.Native.Nat.{ℕ}
use Rattle.std.specs.Prelude.{Ok}
use Rattle.refusals.specs.Checks.{NoneOf, answers}
use Rattle.refusals.proofs.Lists.{none_both}
use Rattle.books.specs.Layouts.{last_slot}
use Rattle.books.specs.Bytes.{in_bytes}
use Rattle.books.proofs.Slots as slots
use Rattle.cubic.specs.Cubic.{Kind, ONE, SPLIT}
use Rattle.fluid.specs.declared.choice.Fluid.{Fluid}
use Rattle.fluid.specs.declared.coefficients.Reduced.{Reduced}
use Rattle.fluid.specs.Figures.{number_of, Accepted}
use Rattle.fluid.specs.Checks.{state_checks}
use Rattle.squares.specs.SquareRoot.{SquareRoot}
use Rattle.fluid.specs.Reduced.{Reduces}
use Rattle.fluid.proofs.Accepting.{passes}
use Rattle.squares.proofs.Squares.{square_root}
use Rattle.replies.specs.declared.Answer.{Answer}
use Rattle.replies.specs.declared.Answer.TheVariants.{One, Split}
use Rattle.replies.specs.declared.Figures.{Figures}
use Rattle.replies.specs.Figures.{answered_with, figures_of}
use Rattle.state.specs.Replies.{Answered}
use Rattle.worked.specs.Rows.{Span, ForEach, in_book, Replied, RightAnswer}
use Rattle.worked.proofs.Tests.{Tested, by, ◌with◌, equal, at_most, below}
use Rattle.worked.proofs.Spans.{for_each, then_each}
use Rattle.worked.proofs.Roots.{roots}

abbrev pub whole_root : (n root : ℕ) → Tested (SquareRoot n root)
whole_root n root = by square_root with at_most _ _ with below _ _

abbrev pub placed : (slot : ℕ) → Tested (NoneOf (in_book slot))
placed slot = by (λ up_to_last. slots.placed in_bytes slot 192 (refl, up_to_last)) with at_most slot last_slot

module _ (fluid : Fluid) (millikelvin pascals : ℕ) where
  abbrev pub accepted : Tested (Accepted fluid millikelvin pascals)
  accepted =
      by (λ cold hot low high. record { from_coldest = cold; to_hottest = hot; from_lowest = low; to_highest = high })
      with at_most _ _ with at_most _ _ with at_most _ _ with at_most _ _

  abbrev pub reduces : (reduced : Reduced) → Tested (Reduces fluid millikelvin pascals reduced)
  reduces reduced =
      by (λ t p s a b. record { is_t = t; is_p = p; is_s = s; is_a = a; is_b = b })
      with equal _ _ with equal _ _ with whole_root _ _ with equal _ _ with equal _ _

  module _ (reduced : Reduced) (kind : Kind) (gas dense gas_density dense_density : ℕ) where
    abbrev pub is_answer : Tested (Answered (number_of fluid) millikelvin pascals (answered_with kind gas dense gas_density dense_density))
    is_answer =
        by (λ reduces roots gas_is dense_is.
        record {
          found = record { fluid = fluid; gas = gas; dense = dense };
          roots = record { is_number = refl; reduced = reduced; reduces = reduces; is_gas = roots.is_gas; is_dense = roots.is_dense };
          kind = kind;
          is_kind = roots.is_kind;
          is_figures = ap₂ (answered_with kind gas dense) gas_is dense_is;
        })
        with reduces reduced with roots reduced.a reduced.b gas dense kind with equal _ _ with equal _ _

  module _ (slots : Span) (figures : Figures) where
    abbrev pub in_place : Tested (Answered (number_of fluid) millikelvin pascals figures) → Tested (ForEach slots (λ slot. Replied (number_of fluid) millikelvin pascals slot figures))
    in_place tested =
        by (λ accepted answered.
        then_each slots
        (λ slot placed.
        answers
        (none_both (state_checks (number_of fluid) millikelvin pascals) (in_book slot) (passes fluid refl millikelvin pascals accepted) placed)
        answered))
        with accepted with tested with for_each slots placed

  module _ (reduced : Reduced) (slots : Span) where
    abbrev pub replies : (answer : Answer) → Tested (ForEach slots (λ slot. Replied (number_of fluid) millikelvin pascals slot (figures_of (Ok answer))))
    replies (One root grams) = in_place slots _ (is_answer reduced ONE root root grams grams)
    replies (Split gas dense gas_density dense_density) = in_place slots _ (is_answer reduced SPLIT gas dense gas_density dense_density)

  module _ (critical_temperature critical_pressure : ℕ) (reduced : Reduced) (slots : Span) (answer : Answer) where
    abbrev pub right_answer : Tested (RightAnswer fluid millikelvin pascals critical_temperature critical_pressure reduced slots answer)
    right_answer =
        by (λ temperature pressure reduces replies.
        record { is_critical_millikelvin = temperature; is_critical_pascals = pressure; reduces = reduces; replies = replies })
        with equal _ _ with equal _ _ with reduces reduced with replies reduced slots answer
