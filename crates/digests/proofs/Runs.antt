-- Digits that are taken at once: each is a step that a scan would make. Assumes nothing.
use mathlib.Core.Path.{◌≡◌, sym, ap, subst, ◌∙◌}
use mathlib.Core.List.{List}
use Prim.Native.Nat.{ℕ, suc, ◌+◌, ◌<◌}
use native.Mathlib.Numerals.{add-one}
use native.Mathlib.Omega.{arith}
use native.Mathlib.Nat.{add-zero, add-suc, suc-add}
use lib.ListN.{length, drop, get_or}
use lib.Seq.{drop-cons}
use Rattle.std.proofs.lemmas.List.{drop-drop}
use borrow.Author.Tests.{ne_eqb}
use Rattle.sheets.specs.declared.Digest.{Digest}
use Rattle.sheets.specs.declared.Digest.TheVariants.{First, Second}
use Rattle.std.specs.Prelude.{Option, Some}
use Rattle.sheets.specs.Grammar.{space, line_end}
use Rattle.sheets.specs.Digests.{grows, second_of, takes, scans}
use Rattle.sheets.proofs.Digits.{Grown, GrownTold, grows_told}
use Rattle.digests.specs.declared.Run.{Run}
use Rattle.digests.specs.declared.Onward.{Onward}
use Rattle.digests.specs.Inside.{Growing, Runs, GoesOn}

-- a byte by which a number goes on is a digit
digit : (number byte next : ℕ) → grows number byte ≡ Some next → Grown number byte next
digit number byte next is = subst (λ (told : Option ℕ). GrownTold told number byte) is (grows_told number byte)

pub first_grows : Growing First
first_grows number byte next is =
    let no_space : byte ≡ space → ⊥ = λ same. let more = (digit number byte next is).is_digit.is_byte in omega (arith, same, more) in
    simp (ne_eqb byte space no_space, is)

pub second_grows : (first : ℕ) → Growing (Second first)
second_grows first number byte next is = ap (second_of first) is

-- a scan goes on with what is left, from whatever place it counts
goes_on : (bytes : List ℕ) (from place : ℕ) (digest : Digest) → from < length bytes → (get_or bytes from 0 ≡ line_end → ⊥) → scans place digest (drop from bytes) ≡ scans (suc place) (takes digest (get_or bytes from 0)) (drop (suc from) bytes)
goes_on bytes from place digest inside no_end = simp (drop-cons bytes from 0 inside, ne_eqb (get_or bytes from 0) line_end no_end, add-suc, suc-add)

pub none_taken : (rest : List ℕ) (number : ℕ) → Runs rest number (record { number = number; digits = 0 })
none_taken rest number = record { within = omega arith; same = λ place digest growing. ap (λ (n : ℕ). scans n (digest number) rest) (add-zero place) }

pub one_taken : {rest : List ℕ} {number so_far digits next : ℕ} → Runs rest number (record { number = so_far; digits = digits }) → digits < length rest → grows so_far (get_or rest digits 0) ≡ Some next → Runs rest number (record { number = next; digits = digits + 1 })
one_taken {rest} {number} {so_far} {digits} {next} runs inside is =
    let no_end : get_or rest digits 0 ≡ line_end → ⊥ = λ same. let more = (digit so_far (get_or rest digits 0) next is).is_digit.is_byte in omega (arith, same, more) in
    record {
      within = omega (arith, inside);
      same = λ place digest growing.
          rw (add-one digits)
          (ap (λ (d : Digest). scans (place + suc digits) d (drop (suc digits) rest)) (sym (growing so_far (get_or rest digits 0) next is))
          ∙ ap (λ (n : ℕ). scans n (takes (digest so_far) (get_or rest digits 0)) (drop (suc digits) rest)) (add-suc place digits)
          ∙ sym (goes_on rest digits (place + digits) (digest so_far) inside no_end)
          ∙ runs.same place digest growing);
    }

-- behind a digest whose number goes on, and behind one that has none
pub goes_by_digits : {rest : List ℕ} {number : ℕ} (run : Run) (digest : ℕ → Digest) → Growing digest → Runs rest number run → GoesOn rest (digest number) (record { digest = digest run.number; taken = run.digits })
goes_by_digits run digest growing runs = record { within = runs.within; same = λ place. runs.same place digest growing }

pub stays : (rest : List ℕ) (digest : Digest) → GoesOn rest digest (record { digest = digest; taken = 0 })
stays rest digest = record { within = omega arith; same = λ place. ap (λ (n : ℕ). scans n digest rest) (add-zero place) }

-- one byte of a scan, and then the digits behind it
pub steps_on : (bytes : List ℕ) (end : ℕ) (digest : Digest) {longer : Digest} {onward : Onward} → end < length bytes → (get_or bytes end 0 ≡ line_end → ⊥) → longer ≡ takes digest (get_or bytes end 0) → GoesOn (drop (end + 1) bytes) longer onward → scans (end + 1 + onward.taken) onward.digest (drop (end + 1 + onward.taken) bytes) ≡ scans end digest (drop end bytes)
steps_on bytes end digest {longer} {onward} inside no_end is_longer goes =
    ap (λ (l : List ℕ). scans (end + 1 + onward.taken) onward.digest l) (sym (drop-drop onward.taken (end + 1) bytes))
    ∙ goes.same (end + 1)
    ∙ ap (λ (d : Digest). scans (end + 1) d (drop (end + 1) bytes)) is_longer
    ∙ ap (λ (n : ℕ). scans n (takes digest (get_or bytes end 0)) (drop n bytes)) (add-one end)
    ∙ sym (goes_on bytes end end digest inside no_end)
