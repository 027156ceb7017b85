-- A state line and a section put into a buffer that has room for them. Assumes nothing.
use mathlib.Core.Path.{◌≡◌, refl, sym, ap, ap₂, ◌∙◌}
use mathlib.Core.List.{List, [], ◌∷◌, ◌++◌, append_assoc, append-nil}
use Prim.Native.Nat.{ℕ}
use native.Mathlib.Omega.{arith}
use lib.ListN.{length}
use Rattle.buffers.specs.Puts.{most_digits, Holds, Puts}
use Rattle.buffers.proofs.Digits.{digits_are_decimal}
use Rattle.buffers.proofs.Underway.{Underway, none_put, part_fits, part_held, part_put, all_put, last_fits, last_held}
use Rattle.sheets.specs.Grammar.{line_end, space, digits, decimal, pair_text, state_lines, section}
use Rattle.measures.specs.Columns.{paired}
use Rattle.measures.specs.Inside.{MakesSection, state_line}
use Rattle.writer.specs.Inside.{StateFits, SectionFits}
use Rattle.measures.proofs.Sections.{count_first, no_lines, first_line, next_writable, others_make_section}

-- two numbers, with a space between them and the line's end behind; both bytes are said by equations, so that other ones are refused there
module _ {temperature pressure at : ℕ} {before with_temperature with_space with_pressure after gap last : List ℕ} {temperature_end pressure_start pressure_end next : ℕ} where
  pub state_put : StateFits temperature pressure before at → Puts (digits most_digits temperature) before at with_temperature temperature_end → Puts gap with_temperature temperature_end with_space pressure_start → Puts (digits most_digits pressure) with_space pressure_start with_pressure pressure_end → Puts last with_pressure pressure_end after next → gap ≡ space ∷ [] → last ≡ line_end ∷ [] → Holds (state_line temperature pressure) before at after next
  unfolding pair_text
  state_put fits puts_temperature puts_gap puts_pressure puts_last is_gap is_last =
      let heated = part_put (none_put (state_line temperature pressure) before at fits.room) (digits most_digits temperature) (gap ++ (digits most_digits pressure ++ last)) is_line puts_temperature in
      let spaced = part_put heated gap (digits most_digits pressure ++ last) refl puts_gap in
      let pressed = part_put spaced (digits most_digits pressure) last refl puts_pressure in
      all_put (part_put pressed last [] (sym (append-nil last)) puts_last) refl
    where
      is_line : state_line temperature pressure ≡ digits most_digits temperature ++ (gap ++ (digits most_digits pressure ++ last))
      is_line =
          append_assoc (decimal temperature) (space ∷ decimal pressure) (line_end ∷ [])
          ∙ ap₂ (λ (t p : List ℕ). t ++ (space ∷ (p ++ (line_end ∷ [])))) (sym (digits_are_decimal temperature fits.writable.temperature)) (sym (digits_are_decimal pressure fits.writable.pressure))
          ∙ ap₂ (λ (g l : List ℕ). digits most_digits temperature ++ (g ++ (digits most_digits pressure ++ l))) (sym is_gap) (sym is_last)

-- what the loop keeps: the lines of the states that are left are what is left to put
pub record Written (millikelvin pascals before : List ℕ) (at : ℕ) (left_millikelvin left_pascals buffer : List ℕ) (end : ℕ) : Type 0 where
  pub lists : MakesSection left_millikelvin left_pascals
  pub underway : Underway (state_lines (paired millikelvin pascals)) before at (state_lines (paired left_millikelvin left_pascals)) buffer end

module _ {millikelvin pascals before : List ℕ} {at : ℕ} where
  module _ {temperature pressure : ℕ} {left_millikelvin left_pascals buffer : List ℕ} {end : ℕ} (written : Written millikelvin pascals before at (temperature ∷ left_millikelvin) (pressure ∷ left_pascals) buffer end) where
    -- the line that comes has room
    pub state_fits : StateFits temperature pressure buffer end
    state_fits =
        record {
          writable = next_writable written.lists;
          room = part_fits written.underway (state_line temperature pressure) (state_lines (paired left_millikelvin left_pascals)) (first_line temperature pressure left_millikelvin left_pascals);
        }

    pub state_written : {after : List ℕ} {next : ℕ} → Holds (state_line temperature pressure) buffer end after next → Written millikelvin pascals before at left_millikelvin left_pascals after next
    state_written holds =
        record {
          lists = others_make_section written.lists;
          underway = part_held written.underway (state_line temperature pressure) (state_lines (paired left_millikelvin left_pascals)) (first_line temperature pressure left_millikelvin left_pascals) holds;
        }

  pub all_written : {left_pascals buffer : List ℕ} {end : ℕ} → Written millikelvin pascals before at [] left_pascals buffer end → Holds (state_lines (paired millikelvin pascals)) before at buffer end
  all_written {left_pascals} written = all_put written.underway (no_lines left_pascals)

-- the count and the line's end, said by equations too, and then the state lines
module _ {millikelvin pascals before : List ℕ} {at : ℕ} (fits : SectionFits millikelvin pascals before at) {with_count buffer last : List ℕ} {count count_end start : ℕ} (puts_count : Puts (digits most_digits count) before at with_count count_end) (puts_last : Puts last with_count count_end buffer start) (is_count : count ≡ length millikelvin) (is_last : last ≡ line_end ∷ []) where
  counted : Underway (section (paired millikelvin pascals)) before at (state_lines (paired millikelvin pascals)) buffer start
  counted =
      let numbered = part_put (none_put (section (paired millikelvin pascals)) before at fits.room) (digits most_digits count) (last ++ state_lines (paired millikelvin pascals)) is_section puts_count in
      part_put numbered last (state_lines (paired millikelvin pascals)) refl puts_last
    where
      is_section : section (paired millikelvin pascals) ≡ digits most_digits count ++ (last ++ state_lines (paired millikelvin pascals))
      is_section =
          sym (count_first fits.lists)
          ∙ append_assoc (decimal (length millikelvin)) (line_end ∷ []) (state_lines (paired millikelvin pascals))
          ∙ ap₂ (λ (c l : List ℕ). c ++ (l ++ state_lines (paired millikelvin pascals))) (ap decimal (sym is_count) ∙ sym (digits_are_decimal count (omega (arith, fits.lists.few, is_count)))) (sym is_last)

  -- all states are left
  pub begins : {left_millikelvin left_pascals : List ℕ} → left_millikelvin ≡ millikelvin → left_pascals ≡ pascals → Written millikelvin pascals buffer start left_millikelvin left_pascals buffer start
  begins all_millikelvin all_pascals =
      rw (all_millikelvin, all_pascals) (record { lists = fits.lists; underway = none_put (state_lines (paired millikelvin pascals)) buffer start (last_fits counted) })

  pub section_put : {after : List ℕ} {next : ℕ} → Holds (state_lines (paired millikelvin pascals)) buffer start after next → Holds (section (paired millikelvin pascals)) before at after next
  section_put holds = last_held counted holds
