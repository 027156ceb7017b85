-- A digest means a text: whatever bytes are taken, the digest after them is that of a number, a number and a space, two numbers, or bad; and
-- the text of a number, or of two, comes to them. Assumes nothing.
use mathlib.Core.Path.{◌≡◌, refl, sym, ap, subst, ◌∙◌}
use mathlib.Core.Bool.{Bool, true, false, cond}
use mathlib.Core.List.{List, [], ◌∷◌, ◌++◌, append_assoc, append-nil, foldl, foldl-append}
use Prim.Native.Nat.{ℕ, zero, suc, ◌+◌, ◌*◌, ◌/◌, ◌%◌, ◌≤◌, ◌<◌}
use native.Mathlib.Omega.{arith}
use lib.Dec.{eqb, ltb}
use borrow.Author.Tests.{eqb-true, ltb-true, ltb-false, ne_eqb, lt-ltb}
use Rattle.sheets.specs.declared.Digest.{Digest}
use Rattle.sheets.specs.declared.Digest.TheVariants.{Empty, First, AfterSpace, Second, Bad}
use Rattle.std.specs.Prelude.{Option, Some, None}
use Rattle.sheets.specs.Grammar.{eleven_digits, space, digit, behind, digits, decimal, Writable, Pair, WritablePair, pair_text}
use Rattle.sheets.specs.Digests.{ten_digits, opens, grows, first_of, second_of, takes}
use Rattle.sheets.proofs.Digits.{Told, opens_told, opens_digit, GrownTold, grows_told, grows_digit, room, decimal_digit, decimal_next}

-- the text is this number
pub record Spells (text : List ℕ) (number : ℕ) : Type 0 where
  pub writable : Writable number
  pub is_text : text ≡ decimal number

-- the text is a number and what follows it
pub record Leads (text : List ℕ) (number : ℕ) (behind : List ℕ) : Type 0 where
  pub writable : Writable number
  pub is_text : text ≡ decimal number ++ (space ∷ behind)

abbrev pub Means : Digest → (text : List ℕ) → Type 0
Means Empty text = text ≡ []
Means (First number) text = Spells text number
Means (AfterSpace number) text = Leads text number []
Means (Second first second) text = Writable second × Leads text first (decimal second)
Means Bad text = Unit {0}

pub record SpellsPair (text : List ℕ) (pair : Pair) : Type 0 where
  pub writable : WritablePair pair
  pub is_text : text ≡ pair_text pair

pub pair_means : (text : List ℕ) (first second : ℕ) → Means (Second first second) text → SpellsPair text (record { millikelvin = first; pascals = second })
unfolding pair_text
pair_means text first second means =
    record { writable = record { temperature = means.1.writable; pressure = means.0 }; is_text = means.1.is_text }

-- What holds of the digest that is made of a number, if it holds where there is none and where there is one: a number's first digit, and its
-- next.
module _ (byte : ℕ) where
  opened : (read : Option ℕ) → Told read byte → (Holds : Digest → Type 0) → (put : Option ℕ → Digest) → Holds (put None) → ((number : ℕ) → Writable number → byte ∷ [] ≡ decimal number → Holds (put (Some number))) → Holds (put read)
  opened None told Holds put bad good = bad
  opened (Some value) told Holds put bad good =
      good value (omega (arith, told.small)) (ap (λ (b : ℕ). b ∷ []) told.is_byte ∙ sym (decimal_digit value told.small))

  grown : (number : ℕ) (read : Option ℕ) → GrownTold read number byte → (Holds : Digest → Type 0) → (put : Option ℕ → Digest) → Holds (put None) → ((next : ℕ) → Writable next → decimal number ++ (byte ∷ []) ≡ decimal next → Holds (put (Some next))) → Holds (put read)
  grown number None told Holds put bad good = bad
  grown number (Some next) told Holds put bad good =
      good next (omega (arith, told.has_room, told.is_next, told.is_digit.small))
      (ap (λ (b : ℕ). decimal number ++ (b ∷ [])) told.is_digit.is_byte
      ∙ sym (decimal_next number told.value told.not_zero told.has_room told.is_digit.small)
      ∙ ap decimal (sym told.is_next))

  -- one byte more keeps the meaning
  pub means_on : (digest : Digest) (text : List ℕ) → Means digest text → Means (takes digest byte) (text ++ (byte ∷ []))
  means_on Empty text means =
      opened (opens byte) (opens_told byte) (λ d. Means d (text ++ (byte ∷ []))) first_of tt
      (λ number writable is_text. record { writable = writable; is_text = ap (λ (l : List ℕ). l ++ (byte ∷ [])) means ∙ is_text })
  means_on (First number) text means = space_or_digit (eqb byte space) refl
    where
      space_or_digit : (t : Bool) → eqb byte space ≡ t → Means (cond t (AfterSpace number) (first_of (grows number byte))) (text ++ (byte ∷ []))
      space_or_digit true e =
          record {
            writable = means.writable;
            is_text = ap (λ (l : List ℕ). l ++ (byte ∷ [])) means.is_text ∙ ap (λ (b : ℕ). decimal number ++ (b ∷ [])) (eqb-true byte space e);
          }
      space_or_digit false e =
          grown number (grows number byte) (grows_told number byte) (λ d. Means d (text ++ (byte ∷ []))) first_of tt
          (λ next writable is_text. record { writable = writable; is_text = ap (λ (l : List ℕ). l ++ (byte ∷ [])) means.is_text ∙ is_text })
  means_on (AfterSpace number) text means =
      opened (opens byte) (opens_told byte) (λ d. Means d (text ++ (byte ∷ []))) (second_of number) tt
      (λ second writable is_text. (
        writable,
        record {
          writable = means.writable;
          is_text =
              ap (λ (l : List ℕ). l ++ (byte ∷ [])) means.is_text
              ∙ append_assoc (decimal number) (space ∷ []) (byte ∷ [])
              ∙ ap (λ (l : List ℕ). decimal number ++ (space ∷ l)) is_text;
        },
      ))
  means_on (Second first second) text means =
      grown second (grows second byte) (grows_told second byte) (λ d. Means d (text ++ (byte ∷ []))) (second_of first) tt
      (λ next writable is_text. (
        writable,
        record {
          writable = means.1.writable;
          is_text =
              ap (λ (l : List ℕ). l ++ (byte ∷ [])) means.1.is_text
              ∙ append_assoc (decimal first) (space ∷ decimal second) (byte ∷ [])
              ∙ ap (λ (l : List ℕ). decimal first ++ (space ∷ l)) is_text;
        },
      ))
  means_on Bad text means = tt

-- so a digest of any bytes means them
pub means_all : (bytes before : List ℕ) (digest : Digest) → Means digest before → Means (foldl takes digest bytes) (before ++ bytes)
means_all [] before digest means = subst (Means digest) (sym (append-nil before)) means
means_all (byte ∷ bytes) before digest means =
    subst (Means (foldl takes (takes digest byte) bytes)) (append_assoc before (byte ∷ []) bytes)
    (means_all bytes (before ++ (byte ∷ [])) (takes digest byte) (means_on byte digest before means))

pub digest_means : (text : List ℕ) → Means (foldl takes Empty text) text
digest_means text = means_all text [] Empty refl

-- the other way: whatever reads a number from some beginning, digit by digit, holds the number behind its decimal
pub record Reader {D : Type 0} (step : D → ℕ → D) (begin : D) (holds : ℕ → D) : Type 0 where
  pub opens_to : (value : ℕ) → value < 10 → step begin (digit value) ≡ holds value
  pub grows_to : (number value : ℕ) → 0 < number → number < ten_digits → value < 10 → step (holds number) (digit value) ≡ holds (10 * number + value)

module _ {D : Type 0} {step : D → ℕ → D} {begin : D} {holds : ℕ → D} (reader : Reader step begin holds) where
  digits_read : (places number : ℕ) → number < 10 * room places → 10 * room places ≤ eleven_digits → foldl step begin (digits (suc places) number) ≡ holds number
  unfolding digits
  digits_read zero number below few = rw (lt-ltb number 10 below) (reader.opens_to number below)
  digits_read (suc places) number below few = one_or_more (ltb number 10) refl (digits_read places (number / 10))
    where
      one_or_more : (t : Bool) → ltb number 10 ≡ t → (number / 10 < 10 * room places → 10 * room places ≤ eleven_digits → foldl step begin (digits (suc places) (number / 10)) ≡ holds (number / 10)) → foldl step begin (behind t number (digits (suc places) (number / 10))) ≡ holds number
      one_or_more true e tenth = reader.opens_to number (ltb-true number 10 e)
      one_or_more false e tenth =
          let many : 10 ≤ number = ltb-false number 10 e in
          let whole : 10 * (number / 10) + number % 10 ≡ number = omega arith in
          foldl-append step begin (digits (suc places) (number / 10)) (digit (number % 10) ∷ [])
          ∙ ap (λ (d : D). step d (digit (number % 10))) (tenth (omega arith) (omega arith))
          ∙ reader.grows_to (number / 10) (number % 10) (omega arith) (omega arith) (omega arith)
          ∙ ap holds whole

  pub decimal_read : (number : ℕ) → Writable number → foldl step begin (decimal number) ≡ holds number
  unfolding decimal
  decimal_read number writable = digits_read 9 number writable (omega arith)

-- a line's first number, and the one behind its space
first_reader : Reader takes Empty First
first_reader =
    record {
      opens_to = λ value small. ap first_of (opens_digit value small);
      grows_to = λ number value positive has_room small.
          simp (ne_eqb (digit value) space (λ e. omega arith), grows_digit number value positive has_room small);
    }

second_reader : (first : ℕ) → Reader takes (AfterSpace first) (Second first)
second_reader first =
    record {
      opens_to = λ value small. ap (second_of first) (opens_digit value small);
      grows_to = λ number value positive has_room small. ap (second_of first) (grows_digit number value positive has_room small);
    }

pub first_read : (number : ℕ) → Writable number → foldl takes Empty (decimal number) ≡ First number
first_read = decimal_read first_reader

pub pair_read : (pair : Pair) → WritablePair pair → foldl takes Empty (pair_text pair) ≡ Second pair.millikelvin pair.pascals
unfolding pair_text
pair_read pair writable =
    foldl-append takes Empty (decimal pair.millikelvin) (space ∷ decimal pair.pascals)
    ∙ ap (λ (d : Digest). foldl takes (takes d space) (decimal pair.pascals)) (first_read pair.millikelvin writable.temperature)
    ∙ decimal_read (second_reader pair.millikelvin) pair.pascals writable.pressure
