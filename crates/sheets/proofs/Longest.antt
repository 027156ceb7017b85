-- No line that may stand has more than 21 bytes before its end: two numbers of ten digits, and a space. So what is longer is a fault, and so is what
-- follows where no line is wanted. Assumes nothing.
use mathlib.Core.Path.{◌≡◌, refl, sym, ap, ◌∙◌}
use mathlib.Core.Bool.{Bool, true, false, cond, false≢true}
use mathlib.Core.List.{List, [], ◌∷◌, ◌++◌}
use Prim.Native.Nat.{ℕ, zero, suc, ◌/◌, ◌%◌, ◌≤◌, ◌<◌}
use native.Mathlib.Omega.{arith}
use lib.Dec.{ltb, eqb}
use lib.ListN.{length, drop, length-append}
use borrow.Author.Tests.{ne_eqb, eqb-true, ltb-false}
use Rattle.sheets.specs.declared.Cursor.{Cursor}
use Rattle.sheets.specs.Grammar.{line_end, space, digit, behind, digits, decimal, Pair, pair_text}
use Rattle.sheets.specs.Reading.{Begins, IsFault, line_of}
use Rattle.sheets.specs.Lines.{wants_line}
use Rattle.sheets.proofs.Splits.{Endless, endless_decimal, endless_pair, line_of_text}

digits_short : (places number : ℕ) → length (digits places number) ≤ places
unfolding digits
digits_short zero number = omega arith
digits_short (suc places) number = one_or_more (ltb number 10) (digits_short places (number / 10))
  where
    one_or_more : (t : Bool) → length (digits places (number / 10)) ≤ places → length (behind t number (digits places (number / 10))) ≤ suc places
    one_or_more true higher = omega arith
    one_or_more false higher = omega (arith, higher, length-append (digits places (number / 10)) (digit (number % 10) ∷ []))

decimal_short : (number : ℕ) → length (decimal number) ≤ 10
unfolding decimal
decimal_short number = digits_short 10 number

pub pair_short : (pair : Pair) → length (pair_text pair) ≤ 21
unfolding pair_text
pair_short pair =
    omega (arith, length-append (decimal pair.millikelvin) (space ∷ decimal pair.pascals), decimal_short pair.millikelvin, decimal_short pair.pascals)

-- a line that goes on behind a text is longer than it
line_goes_on : (text : List ℕ) (byte : ℕ) (rest : List ℕ) → Endless text → (byte ≡ line_end → ⊥) → length text < length (line_of (text ++ (byte ∷ rest)))
line_goes_on [] byte rest endless no_end = rw (ne_eqb byte line_end no_end) (omega arith)
line_goes_on (first ∷ text) byte rest endless no_end =
    let later = line_goes_on text byte rest endless.1 no_end in
    rw (ne_eqb first line_end endless.0) (omega arith)

module _ (bytes : List ℕ) (cursor : Cursor) (text : List ℕ) (byte : ℕ) (rest : List ℕ) (splits : drop cursor.place bytes ≡ text ++ (byte ∷ rest)) where
  something_follows : drop cursor.place bytes ≡ [] → ⊥
  something_follows nothing = omega (arith, sym (ap length splits) ∙ ap length nothing, length-append text (byte ∷ rest))

  module _ {sections : ℕ} where
    pub long_line_faulty : Endless text → (byte ≡ line_end → ⊥) → 21 ≤ length text → IsFault sections bytes cursor cursor.place
    long_line_faulty endless no_end long =
        record {
          no_count_line = λ after line. too_short (decimal line.count) line.begins (endless_decimal line.count) (let short = decimal_short line.count in omega arith);
          no_state_line = λ state after line. too_short (pair_text line.pair) line.begins (endless_pair line.pair) (pair_short line.pair);
          not_over = λ over. something_follows over.nothing_follows;
          is_place = refl;
        }
      where
        too_short : (other : List ℕ) → Begins bytes cursor other → Endless other → length other ≤ 21 → ⊥
        too_short other begins ends short =
            let goes_on = line_goes_on text byte rest endless no_end in
            let is_line = sym (ap line_of splits) ∙ ap line_of begins.splits ∙ line_of_text other begins.rest ends in
            omega (arith, goes_on, ap length is_line)

    pub unwanted_faulty : wants_line sections cursor ≡ false → IsFault sections bytes cursor cursor.place
    unwanted_faulty none =
        record {
          no_count_line = λ after line. left_or_not (eqb cursor.left 0) refl none line.none_left line.wanted;
          no_state_line = λ state after line. wanted_or_not (eqb cursor.left 0) refl none line.wanted;
          not_over = λ over. something_follows over.nothing_follows;
          is_place = refl;
        }
      where
        left_or_not : (t : Bool) → eqb cursor.left 0 ≡ t → cond t (ltb cursor.begun sections) true ≡ false → cursor.left ≡ 0 → cursor.begun < sections → ⊥
        left_or_not true e unwanted none_left wanted = let begun = ltb-false cursor.begun sections unwanted in omega arith
        left_or_not false e unwanted none_left wanted = false≢true (sym unwanted)

        wanted_or_not : (t : Bool) → eqb cursor.left 0 ≡ t → cond t (ltb cursor.begun sections) true ≡ false → 0 < cursor.left → ⊥
        wanted_or_not true e unwanted some_left = let left = eqb-true cursor.left 0 e in omega arith
        wanted_or_not false e unwanted some_left = false≢true (sym unwanted)
