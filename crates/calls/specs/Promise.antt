-- docs/RULES.md, "Sides" and "The book": what `find` and `find_with_book` promise, of what their answers come back as. No starting point occurs
-- here, and of the book at entry what is found knows the length alone.
use Rattle.std.specs.Prelude.{◌≡◌, List, ◌++◌, ℕ, length}
use Rattle.refusals.specs.Checks.{Outcome, with_value, with_number, Gives}
use Rattle.books.specs.Layouts.{slot_checks}
use Rattle.books.specs.Bytes.{in_bytes}
use Rattle.fluid.specs.Checks.{state_checks}
use Rattle.roots.specs.declared.Found.{Found}
use Rattle.roots.specs.Promise.{HasRoots}
use Rattle.calls.specs.declared.Form.{Form}
use Rattle.calls.specs.Checks.{form_checks}

abbrev pub FindsAs : Form → (number millikelvin pascals : ℕ) → Outcome Found → Type 0
FindsAs form number millikelvin pascals =
    Gives (state_checks number millikelvin pascals ++ form_checks form) (HasRoots number millikelvin pascals)

-- an answered call leaves the gas root in its slot; a refused one leaves the book as it was
abbrev pub book_with : (before : List ℕ) (slot : ℕ) → Outcome Found → List ℕ
book_with before slot (with_value found) = in_bytes.put before slot found.gas
book_with before slot (with_number refusal) = before

pub record FindsWithBook (form : Form) (number millikelvin pascals slot : ℕ) (before : List ℕ) (outcome : Outcome Found) (after : List ℕ) : Type 0 where
  pub finds : Gives (state_checks number millikelvin pascals ++ form_checks form ++ slot_checks in_bytes slot (length before)) (HasRoots number millikelvin pascals) outcome
  pub leaves : after ≡ book_with before slot outcome
