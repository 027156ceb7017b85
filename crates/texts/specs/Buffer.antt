-- docs/RULES.md, "What the programs print": how long a line is at most, and what it means that a text holds one.
use Rattle.std.specs.Prelude.{◌≡◌, cond, List, [], ℕ, ◌+◌, ◌*◌, ◌≤◌, leb, length, take}
use Rattle.texts.specs.declared.Text.{Text}
use Rattle.buffers.specs.Puts.{most_digits}
use Rattle.texts.specs.Texts.{Line}

-- that of SPLIT and of SHEET
abbrev pub longest_word : ℕ
longest_word = 5

-- a root and a density of either side
abbrev pub most_numbers : ℕ
most_numbers = 4

-- a word, numbers with a space before each, and the line's end
abbrev pub longest_line : ℕ
longest_line = longest_word + most_numbers * (1 + most_digits) + 1

abbrev pub bytes_of : Text → List ℕ
bytes_of text = take text.length text.bytes

-- a text's length is within it, and no more than a line takes
pub record Sized (text : Text) : Type 0 where
  pub inside : text.length ≤ length text.bytes
  pub short : text.length ≤ longest_line

-- a text that holds a line of this kind
pub record Written (Kind : List ℕ → Type 0) (text : Text) : Type 0 where
  pub sized : Sized text
  pub is_line : Kind (bytes_of text)

-- the line of a word and numbers; a longer word, or more numbers, than there is room for give an empty one
abbrev pub Fitted : (word numbers : List ℕ) → (text : List ℕ) → Type 0
Fitted word numbers text =
    cond (leb (length word) longest_word) (cond (leb (length numbers) most_numbers) (Line word numbers text) (text ≡ [])) (text ≡ [])
