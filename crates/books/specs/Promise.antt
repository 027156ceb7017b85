-- docs/RULES.md, "The book": what the functions on the book promise.
use Rattle.std.specs.Prelude.{◌≡◌, ◌⊎◌, List, ℕ, length, Result, Ok, Err}
use Rattle.refusals.specs.declared.Refusal.{Refusal}
use Rattle.refusals.specs.declared.Refusal.TheVariants.{NoSuchSlot}
use Rattle.books.specs.Layouts.{HasSlot}
use Rattle.books.specs.Bytes.{in_bytes}

-- what is read of a slot, and 0 where there is no such slot
abbrev pub Starts : (book : List ℕ) (slot start : ℕ) → Type 0
Starts book slot start =
    (HasSlot in_bytes slot (length book) × (start ≡ in_bytes.says book slot)) ⊎ ((HasSlot in_bytes slot (length book) → ⊥) × (start ≡ 0))

-- what became of the book, by whether it has the slot
abbrev pub Leaves : (before : List ℕ) (slot root : ℕ) (after : List ℕ) → Result (Unit {0}) Refusal → Type 0
Leaves before slot root after (Ok left) = HasSlot in_bytes slot (length before) × (after ≡ in_bytes.put before slot root)
Leaves before slot root after (Err refusal) =
    (HasSlot in_bytes slot (length before) → ⊥) × (refusal ≡ NoSuchSlot) × (after ≡ before)
