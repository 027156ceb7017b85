-- The rules' words for a number, and `decimal`: each writable number is written so, and a text that is a number is the decimal of what it reads
-- as. Assumes nothing.
use mathlib.Core.Path.{◌≡◌, refl, sym, ap, subst, ◌∙◌}
use mathlib.Core.Bool.{Bool, true, false}
use mathlib.Core.List.{List, [], ◌∷◌, ◌++◌, foldl}
use Prim.Native.Nat.{ℕ, zero, suc, ◌-◌, ◌*◌, ◌/◌, ◌%◌, ◌≤◌, ◌<◌}
use native.Mathlib.Nat.{not-suc-le-zero}
use native.Mathlib.Omega.{arith}
use lib.Dec.{ltb}
use lib.ListN.{length, length-append}
use borrow.Author.Tests.{ltb-true, ltb-false, lt-ltb, ne_eqb}
use Rattle.sheets.specs.declared.Digest.{Digest}
use Rattle.sheets.specs.declared.Digest.TheVariants.{Empty, First}
use Rattle.sheets.specs.Grammar.{eleven_digits, space, digit, behind, digits, decimal, Writable}
use Rattle.sheets.specs.Numerals.{EachDigit, Numeral, reads_on, value_of}
use Rattle.sheets.specs.Digests.{opens, grows, first_of, takes}
use Rattle.sheets.proofs.Digits.{opens_digit, grows_digit, room}
use Rattle.sheets.proofs.Texts.{Spells, Means, digest_means, Reader, decimal_read}

-- a decimal is a numeral

each_append : (text : List ℕ) (value : ℕ) → value < 10 → EachDigit text → EachDigit (text ++ (digit value ∷ []))
each_append [] value small each = (omega arith, omega arith, tt)
each_append (byte ∷ text) value small each = (each.0, each.1, each_append text value small each.2)

each_digits : (places number : ℕ) → EachDigit (digits places number)
unfolding digits
each_digits zero number = tt
each_digits (suc places) number = one_or_more (ltb number 10) refl (each_digits places (number / 10))
  where
    one_or_more : (t : Bool) → ltb number 10 ≡ t → EachDigit (digits places (number / 10)) → EachDigit (behind t number (digits places (number / 10)))
    one_or_more true e higher = let small : number < 10 = ltb-true number 10 e in (omega arith, omega arith, tt)
    one_or_more false e higher = each_append (digits places (number / 10)) (number % 10) (omega arith) higher

pub digits_at_most : (places number : ℕ) → length (digits places number) ≤ places
unfolding digits
digits_at_most zero number = omega arith
digits_at_most (suc places) number = one_or_more (ltb number 10) (digits_at_most places (number / 10))
  where
    one_or_more : (t : Bool) → length (digits places (number / 10)) ≤ places → length (behind t number (digits places (number / 10))) ≤ suc places
    one_or_more true few = omega arith
    one_or_more false few = omega (arith, length-append (digits places (number / 10)) (digit (number % 10) ∷ []))

-- the text begins with another digit than 0, or is the digit 0 alone
abbrev Leads : List ℕ → Type 0
Leads [] = ⊥
Leads (byte ∷ text) = byte ≡ digit 0 → text ≡ []

abbrev LeadsOn : List ℕ → Type 0
LeadsOn [] = ⊥
LeadsOn (byte ∷ text) = byte ≡ digit 0 → ⊥

on_append : (text more : List ℕ) → LeadsOn text → LeadsOn (text ++ more)
on_append [] more leads = absurd leads
on_append (byte ∷ text) more leads = leads

leads_on : (places number : ℕ) → 0 < number → number < 10 * room places → LeadsOn (digits (suc places) number)
unfolding digits
leads_on zero number positive below = rw (lt-ltb number 10 below) (λ e. omega arith)
leads_on (suc places) number positive below = one_or_more (ltb number 10) refl (leads_on places (number / 10))
  where
    one_or_more : (t : Bool) → ltb number 10 ≡ t → (0 < number / 10 → number / 10 < 10 * room places → LeadsOn (digits (suc places) (number / 10))) → LeadsOn (behind t number (digits (suc places) (number / 10)))
    one_or_more true e higher = λ same. omega arith
    one_or_more false e higher =
        let many : 10 ≤ number = ltb-false number 10 e in
        on_append (digits (suc places) (number / 10)) _ (higher (omega arith) (omega arith))

leads : (text : List ℕ) → LeadsOn text → Leads text
leads [] on = on
leads (byte ∷ text) on = λ same. absurd (on same)

leads_decimal : (number : ℕ) → Writable number → Leads (decimal number)
unfolding decimal digits
leads_decimal zero writable = λ same. refl
leads_decimal (suc number) writable = leads (digits 10 (suc number)) (leads_on 9 (suc number) (omega arith) writable)

-- what `Leads` says, for the text as a whole
no_zero : (text rest : List ℕ) → Leads text → text ≡ digit 0 ∷ rest → rest ≡ []
no_zero [] rest leads same = absurd leads
no_zero (byte ∷ text) rest leads same = sym (ap tail same) ∙ leads (ap head same)
  where
    head : List ℕ → ℕ
    head [] = 0
    head (first ∷ others) = first

    tail : List ℕ → List ℕ
    tail [] = []
    tail (first ∷ others) = others

at_least : (text : List ℕ) → Leads text → 1 ≤ length text
at_least [] leads = absurd leads
at_least (byte ∷ text) leads = omega arith

pub decimal_is_numeral : (number : ℕ) → Writable number → Numeral (decimal number)
unfolding decimal
decimal_is_numeral number writable =
    record {
      each_digit = each_digits 10 number;
      at_least_one = at_least (decimal number) (leads_decimal number writable);
      at_most_ten = digits_at_most 10 number;
      no_leading_zero = λ rest same. no_zero (decimal number) rest (leads_decimal number writable) same;
    }

value_reader : Reader reads_on 0 (λ number. number)
value_reader = record { opens_to = λ value small. omega arith; grows_to = λ number value positive has_room small. omega arith }

pub value_of_decimal : (number : ℕ) → Writable number → value_of (decimal number) ≡ number
value_of_decimal = decimal_read value_reader

-- a numeral is a decimal

-- a number below this has room for so many digits more
abbrev limit : (more : ℕ) → ℕ
limit zero = eleven_digits
limit (suc more) = limit more / 10

limit_small : (more : ℕ) → limit more ≤ eleven_digits
limit_small zero = omega arith
limit_small (suc more) = let below = limit_small more in omega arith

reads_further : (text : List ℕ) (more number : ℕ) → 0 < number → number < limit more → length text ≤ more → EachDigit text → foldl takes (First number) text ≡ First (foldl reads_on number text)
reads_further [] more number positive below short each = refl
reads_further (byte ∷ text) zero number positive below short each = absurd (not-suc-le-zero short)
reads_further (byte ∷ text) (suc more) number positive below short each =
    ap (λ (d : Digest). foldl takes d text) taken
    ∙ reads_further text more (reads_on number byte) (omega arith) (omega (arith, each.0, each.1)) (omega arith) each.2
  where
    is_digit : byte ≡ digit (byte - digit 0)
    is_digit = omega (arith, each.0)

    taken : takes (First number) byte ≡ First (reads_on number byte)
    taken =
        simp (ne_eqb byte space (λ same. omega (arith, each.0)))
        (ap first_of (ap (grows number) is_digit ∙ grows_digit number (byte - digit 0) positive (omega (arith, limit_small more)) (omega (arith, each.0, each.1))))

-- the digit 0 is alone, and any other may be followed by nine
reads_first : (text : List ℕ) (number : ℕ) → number < 10 → (number ≡ 0 → text ≡ []) → length text ≤ 9 → EachDigit text → foldl takes (First number) text ≡ First (foldl reads_on number text)
reads_first text zero small alone short each = rw (alone refl) refl
reads_first text (suc number) small alone short each = reads_further text 9 (suc number) (omega arith) small short each

numeral_read : (text : List ℕ) → Numeral text → foldl takes Empty text ≡ First (value_of text)
numeral_read [] numeral = absurd (not-suc-le-zero numeral.at_least_one)
numeral_read (byte ∷ text) numeral = ap (λ (d : Digest). foldl takes d text) opened ∙ reads_first text (reads_on 0 byte) small alone (omega (arith, numeral.at_most_ten)) each.2
  where
    each : EachDigit (byte ∷ text)
    each = numeral.each_digit

    small : reads_on 0 byte < 10
    small = omega (arith, each.0, each.1)

    is_digit : byte ≡ digit (reads_on 0 byte)
    is_digit = omega (arith, each.0)

    opened : takes Empty byte ≡ First (reads_on 0 byte)
    opened = ap first_of (ap opens is_digit ∙ opens_digit (reads_on 0 byte) small)

    alone : reads_on 0 byte ≡ 0 → text ≡ []
    alone none = let zero_digit : byte ≡ digit 0 = omega (arith, each.0) in numeral.no_leading_zero text (ap (λ (b : ℕ). b ∷ text) zero_digit)

pub numeral_is_decimal : (text : List ℕ) → Numeral text → Spells text (value_of text)
numeral_is_decimal text numeral = subst (λ (d : Digest). Means d text) (numeral_read text numeral) (digest_means text)
