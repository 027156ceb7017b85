-- docs/RULES.md, "A sheet written": a text put into a buffer from a place on. How a number is written, the grammar of `sheets` says.
use Rattle.std.specs.Prelude.{◌≡◌, List, ◌++◌, ℕ, ◌+◌, ◌≤◌, ◌<◌, length, take, drop}

-- of a number of 64 bits
abbrev pub most_digits : ℕ
most_digits = 20

-- the buffer with the text in it; what lay before the place and what lies behind the text is as it was
abbrev pub holding : (text before : List ℕ) (at : ℕ) → List ℕ
holding text before at = take at before ++ (text ++ drop (at + length text) before)

-- the text is in the buffer, and ends at the next place
pub record Holds (text before : List ℕ) (at : ℕ) (after : List ℕ) (next : ℕ) : Type 0 where
  pub is_after : after ≡ holding text before at
  pub reaches : next ≡ at + length text

-- a text that has room is put, and for one that has none nothing is changed
pub data Puts (text before : List ℕ) (at : ℕ) (after : List ℕ) (next : ℕ) : Type 0 where
  has_room : at + length text ≤ length before → Holds text before at after next → Puts text before at after next
  no_room : length before < at + length text → after ≡ before → next ≡ at → Puts text before at after next
