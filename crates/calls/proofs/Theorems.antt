-- Two answers that keep what `find` or `find_with_book` promises are equal, and so are the books they leave; every check of a call can be
-- decided. Assumes nothing.
use mathlib.Core.Path.{◌≡◌, refl, sym, ap, ◌∙◌}
use mathlib.Core.List.{List, ◌++◌}
use Prim.Native.Nat.{ℕ}
use native.Mathlib.Decide.{ℕ_discrete}
use lib.ListN.{length}
use Rattle.std.specs.Prelude.{Result}
use Rattle.refusals.specs.declared.Refusal.{Refusal}
use Rattle.refusals.specs.Numbers.{outcome}
use Rattle.refusals.specs.declared.Refusal.TheVariants.{NoSuchSide}
use Rattle.refusals.proofs.Theorems.{EachDecided, decided_both}
use Rattle.books.specs.Layouts.{Layout, slot_checks}
use Rattle.books.specs.Bytes.{in_bytes}
use Rattle.books.proofs.Slots.{slot_decided}
use Rattle.replies.specs.Sides.{gas, dense}
use Rattle.fluid.specs.Checks.{state_checks}
use Rattle.fluid.proofs.Accepting.{state_decided}
use Rattle.roots.specs.declared.Found.{Found}
use Rattle.roots.proofs.Theorems.{finding_once}
use Rattle.calls.specs.declared.Form.{Form}
use Rattle.calls.specs.declared.Form.TheVariants.{Whole, Side}
use Rattle.calls.specs.Checks.{form_checks}
use Rattle.calls.specs.Promise.{FindsAs, book_with, FindsWithBook}

module _ (form : Form) (number millikelvin pascals : ℕ) where
  pub finding_determined : (r s : Result Found Refusal) → FindsAs form number millikelvin pascals (outcome r) → FindsAs form number millikelvin pascals (outcome s) → r ≡ s
  finding_determined = finding_once number millikelvin pascals (state_checks number millikelvin pascals ++ form_checks form)

  pub finding_with_book_determined : (slot : ℕ) (book : List ℕ) (r s : Result Found Refusal) (after after' : List ℕ) → FindsWithBook form number millikelvin pascals slot book (outcome r) after → FindsWithBook form number millikelvin pascals slot book (outcome s) after' → (r ≡ s) × (after ≡ after')
  finding_with_book_determined slot book r s after after' p q =
      let checks = state_checks number millikelvin pascals ++ form_checks form ++ slot_checks in_bytes slot (length book) in
      let same : r ≡ s = finding_once number millikelvin pascals checks r s p.finds q.finds in
      (same, p.leaves ∙ ap (λ (f : Result Found Refusal). book_with book slot (outcome f)) same ∙ sym q.leaves)

form_decided : (form : Form) → EachDecided (form_checks form)
form_decided Whole = tt
form_decided (Side side) = (record { refusal = NoSuchSide; is_number = refl; decide = neither (ℕ_discrete side gas) (ℕ_discrete side dense) }, tt)
  where
    neither : Dec (side ≡ gas) → Dec (side ≡ dense) → Dec ((side ≡ gas → ⊥) × (side ≡ dense → ⊥))
    neither (yes same) other = no (λ none. none.0 same)
    neither (no f) (yes same) = no (λ none. none.1 same)
    neither (no f) (no f') = yes (f, f')

-- all checks of a call, without a book and with one of any layout
module _ (form : Form) (number millikelvin pascals : ℕ) where
  pub call_decided : EachDecided (state_checks number millikelvin pascals ++ form_checks form)
  call_decided =
      decided_both (state_checks number millikelvin pascals) (form_checks form) (state_decided number millikelvin pascals) (form_decided form)

  pub call_with_book_decided : (layout : Layout) (slot length : ℕ) → EachDecided (state_checks number millikelvin pascals ++ form_checks form ++ slot_checks layout slot length)
  call_with_book_decided layout slot length =
      decided_both (state_checks number millikelvin pascals ++ form_checks form) (slot_checks layout slot length) call_decided (slot_decided layout slot length)
