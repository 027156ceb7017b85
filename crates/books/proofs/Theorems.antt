-- What is proved of the book in bytes: what is written into a slot reads back, no byte of another slot is touched, and the promises of `start_in`
-- and `leave` fix their answers. Assumes nothing.
use mathlib.Core.Path.{◌≡◌, refl, sym, ap, ◌∙◌}
use mathlib.Core.Logic.{◌≢◌, inl, inr}
use mathlib.Core.List.{List}
use Prim.Native.Nat.{ℕ, ◌+◌, ◌*◌, ◌/◌, ◌%◌, ◌<◌}
use native.Mathlib.Decide.{ℕ_discrete}
use native.Mathlib.Omega.{arith}
use lib.ListN.{length, get_or, set, length-set}
use lib.Seq.{get_or-set_same, get_or-set_other, ext_get_or}
use Rattle.std.specs.Prelude.{Result, Ok, Err}
use Rattle.refusals.specs.declared.Refusal.{Refusal}
use Rattle.books.specs.Layouts.{HasSlot}
use Rattle.books.specs.Bytes.{three_byte_numbers, in_bytes}
use Rattle.books.specs.Promise.{Starts, Leaves}
use Rattle.books.proofs.Holding.{Holds}

module _ (book : List ℕ) (slot number : ℕ) where
  -- the book as its three bytes are written, one after another
  abbrev one : List ℕ
  one = set book (3 * slot) (number % 256)

  abbrev two : List ℕ
  two = set one (3 * slot + 1) (number / 256 % 256)

  abbrev three : List ℕ
  three = in_bytes.put book slot number

  -- no byte but the slot's own is touched
  pub other_bytes_stay : (place : ℕ) → place / 3 ≢ slot → get_or three place 0 ≡ get_or book place 0
  other_bytes_stay place other =
      get_or-set_other two (3 * slot + 2) place _ 0 (λ same. other (omega arith))
      ∙ get_or-set_other one (3 * slot + 1) place _ 0 (λ same. other (omega arith))
      ∙ get_or-set_other book (3 * slot) place _ 0 (λ same. other (omega arith))

  module _ (there : HasSlot in_bytes slot (length book)) where
    low : get_or three (3 * slot) 0 ≡ number % 256
    low =
        get_or-set_other two (3 * slot + 2) (3 * slot) _ 0 (λ same. omega arith)
        ∙ get_or-set_other one (3 * slot + 1) (3 * slot) _ 0 (λ same. omega arith)
        ∙ get_or-set_same book (3 * slot) _ 0 (omega arith)

    middle : get_or three (3 * slot + 1) 0 ≡ number / 256 % 256
    middle =
        get_or-set_other two (3 * slot + 2) (3 * slot + 1) _ 0 (λ same. omega arith) ∙ get_or-set_same one (3 * slot + 1) _ 0 (simp length-set (omega arith))

    high : get_or three (3 * slot + 2) 0 ≡ number / 65536 % 256
    high = get_or-set_same two (3 * slot + 2) _ 0 (simp length-set (omega arith))

    -- what is written reads back, for every number below 2^24
    pub three_bytes_hold_a_root : number < three_byte_numbers → in_bytes.says three slot ≡ number
    three_bytes_hold_a_root fits = omega (arith, low, middle, high)

    -- and no other book of bytes says it there and is the same elsewhere
    module _ (after : List ℕ) (of_bytes : (place : ℕ) → get_or after place 0 < 256) where
      pub only_book_that_says_it : length after ≡ length book → in_bytes.says after slot ≡ number → ((place : ℕ) → place / 3 ≢ slot → get_or after place 0 ≡ get_or book place 0) → after ≡ three
      only_book_that_says_it as_long says elsewhere =
          ext_get_or 0 after three (as_long ∙ sym (simp length-set)) (λ place within. by_slot place (ℕ_discrete (place / 3) slot))
        where
          by_place : (place : ℕ) → place / 3 ≡ slot → Dec (place ≡ 3 * slot) → Dec (place ≡ 3 * slot + 1) → get_or after place 0 ≡ get_or three place 0
          by_place place own (yes is_first) second = rw is_first (omega (arith, low, of_bytes (3 * slot), of_bytes (3 * slot + 1)))
          by_place place own (no f) (yes is_second) = rw is_second (omega (arith, middle, of_bytes (3 * slot), of_bytes (3 * slot + 1)))
          by_place place own (no f) (no f') =
              let is_third : place ≡ 3 * slot + 2 = omega arith in
              rw is_third (omega (arith, high, of_bytes (3 * slot), of_bytes (3 * slot + 1), of_bytes (3 * slot + 2)))

          by_slot : (place : ℕ) → Dec (place / 3 ≡ slot) → get_or after place 0 ≡ get_or three place 0
          by_slot place (yes own) = by_place place own (ℕ_discrete place (3 * slot)) (ℕ_discrete place (3 * slot + 1))
          by_slot place (no f) = elsewhere place f ∙ sym (other_bytes_stay place f)

pub in_bytes_holds : Holds in_bytes
in_bytes_holds =
    record {
      keeps_length = λ book slot number. simp length-set;
      reads_back = three_bytes_hold_a_root;
      keeps_others = λ book slot number other apart. omega (
        arith,
        other_bytes_stay book slot number (3 * other) (λ same. apart (omega arith)),
        other_bytes_stay book slot number (3 * other + 1) (λ same. apart (omega arith)),
        other_bytes_stay book slot number (3 * other + 2) (λ same. apart (omega arith)),
      );
    }

-- two answers that keep what `start_in` promises are equal
pub start_determined : (book : List ℕ) (slot start other : ℕ) → Starts book slot start → Starts book slot other → start ≡ other
start_determined book slot start other (inl p) (inl q) = p.1 ∙ sym q.1
start_determined book slot start other (inl p) (inr q) = absurd (q.0 p.0)
start_determined book slot start other (inr p) (inl q) = absurd (p.0 q.0)
start_determined book slot start other (inr p) (inr q) = p.1 ∙ sym q.1

-- and so are two that keep what `leave` promises, with the books they leave
pub leaving_determined : (before : List ℕ) (slot root : ℕ) {after after' : List ℕ} (r s : Result (Unit {0}) Refusal) → Leaves before slot root after r → Leaves before slot root after' s → (r ≡ s) × (after ≡ after')
leaving_determined before slot root (Ok left) (Ok left') p q = (refl, p.1 ∙ sym q.1)
leaving_determined before slot root (Ok left) (Err refusal) p q = absurd (q.0 p.0)
leaving_determined before slot root (Err refusal) (Ok left) p q = absurd (p.0 q.0)
leaving_determined before slot root (Err refusal) (Err refusal') p q = (ap Err (p.1 ∙ sym q.1), p.2 ∙ sym q.2)
