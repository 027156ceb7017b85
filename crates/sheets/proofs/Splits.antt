-- Where a line ends: the first byte 10 splits bytes into a line and the rest, and the text of a number or of two has no such byte. Assumes
-- nothing.
use mathlib.Core.Path.{◌≡◌, refl, sym, ap, ◌∙◌}
use mathlib.Core.Logic.{◌⊎◌, inl, inr}
use mathlib.Core.Bool.{Bool, true, false}
use mathlib.Core.List.{List, [], ◌∷◌, ◌++◌}
use Prim.Native.Nat.{ℕ, zero, suc, ◌+◌, ◌/◌, ◌≤◌, ◌<◌}
use native.Mathlib.Numerals.{add-one}
use native.Mathlib.Omega.{arith}
use lib.Dec.{eqb, ltb}
use lib.ListN.{length, take, drop, length-append, length-drop}
use lib.Seq.{take-length, take-append_seam, drop-drop, drop-append-add}
use borrow.Author.Tests.{eqb-true, eqb-false, ne_eqb}
use Rattle.sheets.specs.Grammar.{line_end, space, behind, digits, decimal, Pair, pair_text}
use Rattle.sheets.specs.Reading.{up_to, line_of}
use Rattle.sheets.specs.Digests.{or_later, whole_line}

-- no byte of it ends a line
abbrev pub Endless : List ℕ → Type 0
Endless [] = Unit {0}
Endless (byte ∷ bytes) = (byte ≡ line_end → ⊥) × Endless bytes

pub endless_append : (text more : List ℕ) → Endless text → Endless more → Endless (text ++ more)
endless_append [] more first second = second
endless_append (byte ∷ text) more first second = (first.0, endless_append text more first.1 second)

endless_digits : (places number : ℕ) → Endless (digits places number)
unfolding digits
endless_digits zero number = tt
endless_digits (suc places) number = one_or_more (ltb number 10) (endless_digits places (number / 10))
  where
    one_or_more : (t : Bool) → Endless (digits places (number / 10)) → Endless (behind t number (digits places (number / 10)))
    one_or_more true higher = (λ e. omega arith, tt)
    one_or_more false higher = endless_append (digits places (number / 10)) _ higher (λ e. omega arith, tt)

pub endless_decimal : (number : ℕ) → Endless (decimal number)
unfolding decimal
endless_decimal number = endless_digits 10 number

pub endless_pair : (pair : Pair) → Endless (pair_text pair)
unfolding pair_text
endless_pair pair =
    endless_append (decimal pair.millikelvin) (space ∷ decimal pair.pascals) (endless_decimal pair.millikelvin) (λ e. omega arith, endless_decimal pair.pascals)

pub line_of_text : (text rest : List ℕ) → Endless text → line_of (text ++ (line_end ∷ rest)) ≡ text
line_of_text [] rest endless = refl
line_of_text (byte ∷ text) rest endless = rw (ne_eqb byte line_end endless.0) (ap (λ (l : List ℕ). byte ∷ l) (line_of_text text rest endless.1))

-- so two lines with their ends, and what follows, are equal only part by part
pub lines_apart : (text text' rest rest' : List ℕ) → Endless text → Endless text' → text ++ (line_end ∷ rest) ≡ text' ++ (line_end ∷ rest') → text ≡ text'
lines_apart text text' rest rest' endless endless' same = sym (line_of_text text rest endless) ∙ ap line_of same ∙ line_of_text text' rest' endless'

pub whole_line_of_text : (text rest : List ℕ) → Endless text → whole_line (text ++ (line_end ∷ rest)) ≡ suc (length text)
whole_line_of_text [] rest endless = refl
whole_line_of_text (byte ∷ text) rest endless = rw (ne_eqb byte line_end endless.0) (ap suc (whole_line_of_text text rest endless.1))

-- a line's end is there
pub record Ended (bytes line : List ℕ) : Type 0 where
  pub rest : List ℕ
  pub splits : bytes ≡ line ++ (line_end ∷ rest)
  pub endless : Endless line

-- all bytes are one line, and it has no end
pub record Unended (bytes line : List ℕ) (whole : ℕ) : Type 0 where
  pub all : bytes ≡ line
  pub is_whole : whole ≡ length bytes

pub split : (bytes : List ℕ) → Ended bytes (line_of bytes) ⊎ Unended bytes (line_of bytes) (whole_line bytes)
split [] = inr (record { all = refl; is_whole = refl })
split (byte ∷ bytes) = end_or_not (eqb byte line_end) refl (split bytes)
  where
    end_or_not : (t : Bool) → eqb byte line_end ≡ t → Ended bytes (line_of bytes) ⊎ Unended bytes (line_of bytes) (whole_line bytes) → Ended (byte ∷ bytes) (up_to t byte (line_of bytes)) ⊎ Unended (byte ∷ bytes) (up_to t byte (line_of bytes)) (or_later t (whole_line bytes))
    end_or_not true e later = inl (record { rest = bytes; splits = ap (λ (b : ℕ). b ∷ bytes) (eqb-true byte line_end e); endless = tt })
    end_or_not false e (inl later) =
        inl (record { rest = later.rest; splits = ap (λ (l : List ℕ). byte ∷ l) later.splits; endless = (eqb-false byte line_end e, later.endless) })
    end_or_not false e (inr later) = inr (record { all = ap (λ (l : List ℕ). byte ∷ l) later.all; is_whole = ap suc later.is_whole })

-- bytes with no line's end are one line, whole
pub unended_whole : (bytes : List ℕ) → Endless bytes → Unended bytes (line_of bytes) (whole_line bytes)
unended_whole [] endless = record { all = refl; is_whole = refl }
unended_whole (byte ∷ bytes) endless =
    let later = unended_whole bytes endless.1 in
    rw (ne_eqb byte line_end endless.0) (record { all = ap (λ (l : List ℕ). byte ∷ l) later.all; is_whole = ap suc later.is_whole })

-- a line is the first part of the bytes that it is the line of
pub take_line : (bytes : List ℕ) → take (length (line_of bytes)) bytes ≡ line_of bytes
take_line bytes = ended_or_not (split bytes)
  where
    ended_or_not : Ended bytes (line_of bytes) ⊎ Unended bytes (line_of bytes) (whole_line bytes) → take (length (line_of bytes)) bytes ≡ line_of bytes
    ended_or_not (inl found) = ap (take (length (line_of bytes))) found.splits ∙ take-append_seam (line_of bytes) (line_end ∷ found.rest)
    ended_or_not (inr found) = ap (take (length (line_of bytes))) found.all ∙ take-length (line_of bytes)

-- the line, and its end if that is there, are within the bytes
pub record Inside (bytes : List ℕ) : Type 0 where
  pub text_inside : length (line_of bytes) ≤ length bytes
  pub end_inside : whole_line bytes ≤ length bytes

pub inside : (bytes : List ℕ) → Inside bytes
inside bytes = ended_or_not (split bytes)
  where
    ended_or_not : Ended bytes (line_of bytes) ⊎ Unended bytes (line_of bytes) (whole_line bytes) → Inside bytes
    ended_or_not (inl found) =
        let long = ap length found.splits ∙ length-append (line_of bytes) (line_end ∷ found.rest) in
        let whole = ap whole_line found.splits ∙ whole_line_of_text (line_of bytes) found.rest found.endless in
        record { text_inside = omega (arith, long); end_inside = omega (arith, long, whole) }
    ended_or_not (inr found) = record { text_inside = omega (arith, ap length found.all); end_inside = omega (arith, found.is_whole) }

module _ (bytes : List ℕ) (place : ℕ) (text rest : List ℕ) (splits : drop place bytes ≡ text ++ (line_end ∷ rest)) where
  -- what follows a line
  pub drop_behind : drop (place + suc (length text)) bytes ≡ rest
  drop_behind =
      sym (drop-drop (suc (length text)) place bytes)
      ∙ ap (drop (suc (length text))) splits
      ∙ ap (λ (n : ℕ). drop n (text ++ (line_end ∷ rest))) (sym (add-one (length text)))
      ∙ drop-append-add text (line_end ∷ rest) 1

  pub ends_inside : place + length text < length bytes
  ends_inside = omega (arith, sym (length-drop place bytes) ∙ ap length splits ∙ length-append text (line_end ∷ rest))
