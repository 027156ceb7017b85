-- One digit: what `opens` and `grows` make of a byte, and how a number's digits follow from those of its tenth part. Assumes nothing.
use mathlib.Core.Path.{◌≡◌, refl, sym, ap, subst, ◌∙◌}
use mathlib.Core.Bool.{Bool, true, false, cond}
use mathlib.Core.List.{List, [], ◌∷◌, ◌++◌}
use Prim.Native.Nat.{ℕ, zero, suc, ◌+◌, ◌-◌, ◌*◌, ◌/◌, ◌%◌, ◌≤◌, ◌<◌}
use native.Mathlib.Omega.{arith}
use lib.Dec.{ltb, leb, eqb}
use borrow.Author.Tests.{ltb-false, leb-false, eqb-false, lt-ltb, le-ltb, lt-leb, ne_eqb}
use Rattle.std.specs.Prelude.{Option, Some, None}
use Rattle.sheets.specs.Grammar.{digit, behind, digits, decimal}
use Rattle.sheets.specs.Digests.{ten_digits, opens, behind_digits, grows}

-- the byte is this digit
pub record IsDigit (byte value : ℕ) : Type 0 where
  pub is_byte : byte ≡ digit value
  pub small : value < 10

-- a number that may take one more digit, and does
pub record Grown (number byte next : ℕ) : Type 0 where
  pub value : ℕ
  pub is_digit : IsDigit byte value
  pub not_zero : 0 < number
  pub has_room : number < ten_digits
  pub is_next : next ≡ 10 * number + value

abbrev pub Told : Option ℕ → (byte : ℕ) → Type 0
Told None byte = Unit {0}
Told (Some value) byte = IsDigit byte value

pub opens_told : (byte : ℕ) → Told (opens byte) byte
opens_told byte = low (ltb byte 48) refl
  where
    high : (t : Bool) → 48 ≤ byte → ltb 57 byte ≡ t → Told (cond t None (Some (byte - 48))) byte
    high true above e = tt
    high false above e = let below : byte ≤ 57 = ltb-false 57 byte e in record { is_byte = omega arith; small = omega arith }

    low : (t : Bool) → ltb byte 48 ≡ t → Told (cond t None (cond (ltb 57 byte) None (Some (byte - 48)))) byte
    low true e = tt
    low false e = high (ltb 57 byte) (ltb-false byte 48 e) refl

pub read_digit : (byte : ℕ) {value : ℕ} {read : Option ℕ} → read ≡ opens byte → read ≡ Some value → IsDigit byte value
read_digit byte from_byte to_value = subst (λ (number : Option ℕ). Told number byte) (sym from_byte ∙ to_value) (opens_told byte)

pub opens_digit : (value : ℕ) → value < 10 → opens (digit value) ≡ Some value
opens_digit value small =
    let above : 48 ≤ digit value = omega arith in
    let below : digit value ≤ 57 = omega arith in
    let same : digit value - 48 ≡ value = omega arith in
    simp (le-ltb (digit value) 48 above, le-ltb 57 (digit value) below, same)

abbrev pub GrownTold : Option ℕ → (number byte : ℕ) → Type 0
GrownTold None number byte = Unit {0}
GrownTold (Some next) number byte = Grown number byte next

pub grows_told : (number byte : ℕ) → GrownTold (grows number byte) number byte
grows_told number byte = zero_or_not (eqb number 0) refl
  where
    by_digit : (read : Option ℕ) → Told read byte → 0 < number → number < ten_digits → GrownTold (behind_digits number read) number byte
    by_digit None told positive room = tt
    by_digit (Some value) told positive room = record { value = value; is_digit = told; not_zero = positive; has_room = room; is_next = refl }

    full_or_not : (t : Bool) → 0 < number → leb ten_digits number ≡ t → GrownTold (cond t None (behind_digits number (opens byte))) number byte
    full_or_not true positive e = tt
    full_or_not false positive e = by_digit (opens byte) (opens_told byte) positive (leb-false ten_digits number e)

    zero_or_not : (t : Bool) → eqb number 0 ≡ t → GrownTold (cond t None (cond (leb ten_digits number) None (behind_digits number (opens byte)))) number byte
    zero_or_not true e = tt
    zero_or_not false e = let not_zero = eqb-false number 0 e in full_or_not (leb ten_digits number) (omega arith) refl

pub grows_digit : (number value : ℕ) → 0 < number → number < ten_digits → value < 10 → grows number (digit value) ≡ Some (10 * number + value)
grows_digit number value positive room small =
    simp (ne_eqb number 0 (λ e. omega arith), lt-leb ten_digits number room, opens_digit value small)

-- the numbers that `suc places` digits can write are those below `10 * room places`
abbrev pub room : (places : ℕ) → ℕ
room zero = 1
room (suc places) = 10 * room places

-- one place more changes nothing where there are enough
pub enough : (places number : ℕ) → number < 10 * room places → digits (suc places) number ≡ digits (suc (suc places)) number
unfolding digits
enough zero number below = simp (lt-ltb number 10 below)
enough (suc places) number below = one_or_more (ltb number 10) refl (enough places (number / 10))
  where
    one_or_more : (t : Bool) → ltb number 10 ≡ t → (number / 10 < 10 * room places → digits (suc places) (number / 10) ≡ digits (suc (suc places)) (number / 10)) → behind t number (digits (suc places) (number / 10)) ≡ behind t number (digits (suc (suc places)) (number / 10))
    one_or_more true e same = refl
    one_or_more false e same = ap (λ (l : List ℕ). l ++ (digit (number % 10) ∷ [])) (same (omega arith))

pub decimal_digit : (value : ℕ) → value < 10 → decimal value ≡ digit value ∷ []
unfolding decimal digits
decimal_digit value small = simp (lt-ltb value 10 small)

pub digits_next : (places number value : ℕ) → 0 < number → value < 10 → digits (suc places) (10 * number + value) ≡ digits places number ++ (digit value ∷ [])
unfolding digits
digits_next places number value positive small =
    let many : 10 ≤ 10 * number + value = omega arith in
    let tenth : (10 * number + value) / 10 ≡ number = omega arith in
    let last : (10 * number + value) % 10 ≡ value = omega arith in
    simp (le-ltb (10 * number + value) 10 many, tenth, last)

pub decimal_next : (number value : ℕ) → 0 < number → number < ten_digits → value < 10 → decimal (10 * number + value) ≡ decimal number ++ (digit value ∷ [])
unfolding decimal
decimal_next number value positive has_room small =
    digits_next 9 number value positive small ∙ ap (λ (l : List ℕ). l ++ (digit value ∷ [])) (enough 8 number has_room)
