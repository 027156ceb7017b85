-- How many digits a number has, one more at a time, and how long a section is, one state line more at a time. Assumes nothing.
use mathlib.Core.Path.{◌≡◌, ap}
use mathlib.Core.List.{List, [], ◌∷◌}
use Prim.Native.Nat.{ℕ, ◌+◌, ◌-◌, ◌*◌, ◌^◌, ◌≤◌, ◌<◌}
use native.Mathlib.Omega.{arith}
use lib.ListN.{length, length-append}
use Rattle.buffers.proofs.Digits.{fewest_is_length}
use Rattle.sheets.specs.Grammar.{Writable, decimal, line, state_lines, section}
use Rattle.sheets.proofs.Numerals.{decimal_is_numeral}
use Rattle.measures.specs.Columns.{paired}
use Rattle.measures.specs.Inside.{Width, MakesSection, longest_section, SectionLength, state_line}
use Rattle.measures.proofs.Sections.{count_first, no_lines, first_line, others_make_section, state_line_long, count_line_long}

-- what `width` keeps: a power of ten, which the number is above but for the last step
pub record Grown (number width above : ℕ) : Type 0 where
  pub is_power : above ≡ 10 ^ width
  pub some : 1 ≤ width
  pub few : width ≤ above
  pub needed : 1 < width → 10 ^ (width - 1) ≤ number

module _ {number width above : ℕ} (grown : Grown number width above) where
  pub all_digits : Writable number → number < above → Width number width
  all_digits writable below =
      let is_width : width ≡ length (decimal number) = fewest_is_length width number writable (grown.some, omega (arith, grown.is_power), grown.needed) in
      record { is_width = is_width; few = omega (arith, (decimal_is_numeral number writable).at_most_ten) }

-- what the loop keeps: the length so far, and what is left, make the section's
pub record Measured (millikelvin pascals left_millikelvin left_pascals : List ℕ) (so_far : ℕ) : Type 0 where
  pub lists : MakesSection left_millikelvin left_pascals
  pub is_length : so_far + length (state_lines (paired left_millikelvin left_pascals)) ≡ length (section (paired millikelvin pascals))
  pub short : so_far + 22 * length left_millikelvin ≤ longest_section

module _ {millikelvin pascals : List ℕ} where
  pub count_measured : {width : ℕ} → MakesSection millikelvin pascals → Width (length millikelvin) width → Measured millikelvin pascals millikelvin pascals (width + 1)
  count_measured lists is_width =
      record {
        lists = lists;
        is_length =
            omega (arith, is_width.is_width, count_line_long (length millikelvin), ap length (count_first lists), length-append (line (decimal (length millikelvin))) (state_lines (paired millikelvin pascals)));
        short = omega (arith, is_width.few, lists.few);
      }

  module _ {temperature pressure so_far : ℕ} {left_millikelvin left_pascals : List ℕ} (measured : Measured millikelvin pascals (temperature ∷ left_millikelvin) (pressure ∷ left_pascals) so_far) where
    pub line_measured : {first second : ℕ} → Width temperature first → Width pressure second → Measured millikelvin pascals left_millikelvin left_pascals (so_far + (first + second + 2))
    line_measured is_first is_second =
        let one_line = state_line_long temperature pressure in
        let lines = ap length (first_line temperature pressure left_millikelvin left_pascals) in
        let both = length-append (state_line temperature pressure) (state_lines (paired left_millikelvin left_pascals)) in
        record {
          lists = others_make_section measured.lists;
          is_length = omega (arith, measured.is_length, is_first.is_width, is_second.is_width, one_line, lines, both);
          short = omega (arith, measured.short, is_first.few, is_second.few);
        }

  pub all_measured : {left_pascals : List ℕ} {so_far : ℕ} → Measured millikelvin pascals [] left_pascals so_far → SectionLength millikelvin pascals so_far
  all_measured {left_pascals} measured =
      record { is_length = omega (arith, measured.is_length, ap length (no_lines left_pascals)); short = omega (arith, measured.short) }
