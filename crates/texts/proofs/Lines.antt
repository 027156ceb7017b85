-- A line put at the start of a buffer, which has room for it, is written there. Assumes nothing.
use mathlib.Core.Path.{◌≡◌, refl}
use mathlib.Core.List.{List, [], ◌∷◌, ◌++◌}
use Prim.Native.Nat.{ℕ, ◌+◌, ◌*◌, ◌≤◌}
use native.Mathlib.Omega.{arith}
use lib.ListN.{length, length-append}
use borrow.Author.Tests.{le-leb}
use Rattle.sheets.specs.Grammar.{line_end}
use Rattle.sheets.proofs.Numerals.{digits_at_most}
use Rattle.buffers.specs.Puts.{most_digits, Holds, Puts}
use Rattle.buffers.proofs.Holding.{after_long, up_to_end, put_with_room}
use Rattle.buffers.proofs.Underway.{Underway, none_put, part_fits, part_held, part_put, last_fits, last_held}
use Rattle.texts.specs.Texts.{spaced, numbers_text}
use Rattle.texts.specs.Buffer.{longest_word, most_numbers, longest_line, Written, Fitted}

numbers_short : (numbers : List ℕ) → length (numbers_text numbers) ≤ length numbers * (1 + most_digits)
numbers_short [] = omega arith
numbers_short (number ∷ numbers) = omega (arith, numbers_short numbers, digits_at_most most_digits number, length-append (spaced number) (numbers_text numbers))

module _ (word numbers : List ℕ) where
  -- the word, the numbers and the line's end, one behind another; the last byte is said by an equation, so that another one is refused there
  module _ {before with_word : List ℕ} {word_end : ℕ} (short : length word ≤ longest_word) (few : length numbers ≤ most_numbers) (large : longest_line ≤ length before) (puts_word : Puts word before 0 with_word word_end) where
    abbrev whole : List ℕ
    whole = word ++ (numbers_text numbers ++ (line_end ∷ []))

    whole_short : length whole ≤ longest_line
    whole_short =
        omega (arith, length-append word (numbers_text numbers ++ (line_end ∷ [])), length-append (numbers_text numbers) (line_end ∷ []), numbers_short numbers)

    room : 0 + length whole ≤ length before
    room = omega (arith, whole_short)

    worded : Underway whole before 0 (numbers_text numbers ++ (line_end ∷ [])) with_word word_end
    worded = part_put (none_put whole before 0 room) word (numbers_text numbers ++ (line_end ∷ [])) refl puts_word

    -- the numbers have room behind the word
    pub numbers_fit : word_end + length (numbers_text numbers) ≤ length with_word
    numbers_fit = part_fits worded (numbers_text numbers) (line_end ∷ []) refl

    module _ {with_numbers after last : List ℕ} {numbers_end next : ℕ} (numbers_hold : Holds (numbers_text numbers) with_word word_end with_numbers numbers_end) (puts_last : Puts last with_numbers numbers_end after next) (is_last : last ≡ line_end ∷ []) where
      line_holds : Holds whole before 0 after next
      line_holds =
          let numbered = part_held worded (numbers_text numbers) (line_end ∷ []) refl numbers_hold in
          last_held numbered (put_with_room (rw is_last at puts_last) (last_fits numbered))

      pub fitted : Written (Fitted word numbers) (record { bytes = after; length = next })
      fitted =
          record {
            sized = record { inside = omega (arith, whole_short, line_holds.reaches, after_long room line_holds); short = omega (arith, whole_short, line_holds.reaches) };
            is_line = rw (le-leb (length word) longest_word short, le-leb (length numbers) most_numbers few) (up_to_end room line_holds);
          }
