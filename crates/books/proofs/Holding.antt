-- What makes a layout hold roots. Whatever is proved of calls that share a book draws on these laws alone. Assumes nothing.
use mathlib.Core.Path.{◌≡◌, sym, ◌∙◌}
use mathlib.Core.Logic.{◌≢◌}
use mathlib.Core.List.{List}
use Prim.Native.Nat.{ℕ, ◌≤◌, ◌<◌}
use native.Mathlib.Decide.{ℕ_discrete}
use lib.ListN.{length}
use Rattle.books.specs.Layouts.{Layout, last_slot, HasSlot, SameNumbers}
use Rattle.books.specs.Bytes.{three_byte_numbers}

-- a number below 2^24 that is put into a slot is what the slot says then; every other slot says what it said
pub record Holds (layout : Layout) : Type 0 where
  pub keeps_length : (book : List ℕ) (slot number : ℕ) → length (layout.put book slot number) ≡ length book
  pub reads_back : (book : List ℕ) (slot number : ℕ) → HasSlot layout slot (length book) → number < three_byte_numbers → layout.says (layout.put book slot number) slot ≡ number
  pub keeps_others : (book : List ℕ) (slot number other : ℕ) → other ≢ slot → layout.says (layout.put book slot number) other ≡ layout.says book other

-- two books that say the same numbers do so after a number is put into one slot of both
module _ {layout layout' : Layout} (holds : Holds layout) (holds' : Holds layout') {book other : List ℕ} (same : SameNumbers layout layout' book other) where
  pub same_numbers_put : {slot number : ℕ} → HasSlot layout slot (length book) → HasSlot layout' slot (length other) → number < three_byte_numbers → SameNumbers layout layout' (layout.put book slot number) (layout'.put other slot number)
  same_numbers_put {slot} {number} there there' fits = record { slot_for_slot = λ any up_to_last. by_slot any up_to_last (ℕ_discrete any slot) }
    where
      by_slot : (any : ℕ) → any ≤ last_slot → Dec (any ≡ slot) → layout.says (layout.put book slot number) any ≡ layout'.says (layout'.put other slot number) any
      by_slot any up_to_last (yes is_slot) = rw is_slot (holds.reads_back book slot number there fits ∙ sym (holds'.reads_back other slot number there' fits))
      by_slot any up_to_last (no f) = holds.keeps_others book slot number any f ∙ same.slot_for_slot any up_to_last ∙ sym (holds'.keeps_others other slot number any f)
