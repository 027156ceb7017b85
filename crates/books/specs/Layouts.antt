-- docs/RULES.md, "The book", whatever a slot is made of.
use Rattle.std.specs.Prelude.{◌≡◌, ◌⊎◌, List, [], ◌∷◌, ℕ, ◌≤◌, ◌<◌, length}
use Rattle.refusals.specs.Checks.{Check, ◌if◌, NoneOf}

-- how many elements a book has, what a slot of it says, and the book with a number put into a slot
pub record Layout : Type 0 where
  pub elements : ℕ
  pub says : (book : List ℕ) (slot : ℕ) → ℕ
  pub put : (book : List ℕ) (slot number : ℕ) → List ℕ

abbrev pub last_slot : ℕ
last_slot = 63

abbrev pub NoSlot : Layout → (slot length : ℕ) → Type 0
NoSlot layout slot length = (length ≡ layout.elements → ⊥) ⊎ (last_slot < slot)

abbrev pub slot_checks : Layout → (slot length : ℕ) → List Check
slot_checks layout slot length = 4 if NoSlot layout slot length ∷ []

abbrev pub Placed : Layout → (slot length : ℕ) → Type 0
Placed layout slot length = NoneOf (slot_checks layout slot length)

-- the same without the list
abbrev pub HasSlot : Layout → (slot length : ℕ) → Type 0
HasSlot layout slot length = (length ≡ layout.elements) × (slot ≤ last_slot)

-- Of two books, however each is laid out: both are as long as their layout says, or neither is;
pub record BothOrNeither (layout layout' : Layout) (book other : List ℕ) : Type 0 where
  pub forth : length book ≡ layout.elements → length other ≡ layout'.elements
  pub back : length other ≡ layout'.elements → length book ≡ layout.elements

-- and they say the same numbers.
pub record SameNumbers (layout layout' : Layout) (book other : List ℕ) : Type 0 where
  pub slot_for_slot : (slot : ℕ) → slot ≤ last_slot → layout.says book slot ≡ layout'.says other slot
