-- docs/RULES.md, "What the programs print": how a line of `sheet` is written, single spaces between and byte 10 after. A number has the digits
-- that the grammar of `sheets` gives it.
use Rattle.std.specs.Prelude.{◌≡◌, List, [], ◌∷◌, ◌++◌, ℕ}
use Rattle.sheets.specs.Grammar.{space, line_end, digits}
use Rattle.buffers.specs.Puts.{most_digits}

-- a space and a number in decimal
abbrev pub spaced : (number : ℕ) → List ℕ
spaced number = space ∷ digits most_digits number

-- each number behind a space, in their order
abbrev pub numbers_text : (numbers : List ℕ) → List ℕ
numbers_text [] = []
numbers_text (number ∷ numbers) = spaced number ++ numbers_text numbers

-- a word, numbers and the line's end
abbrev pub Line : (word numbers : List ℕ) → (text : List ℕ) → Type 0
Line word numbers text = text ≡ word ++ (numbers_text numbers ++ (line_end ∷ []))
