-- A line of output is fixed by its word and its numbers: two texts that are such a line are equal. Assumes nothing.
use mathlib.Core.Path.{◌≡◌, sym, ◌∙◌}
use mathlib.Core.Bool.{Bool, true, false, cond}
use mathlib.Core.List.{List, [], ◌∷◌, ◌++◌}
use Prim.Native.Nat.{ℕ}
use lib.Dec.{leb}
use lib.ListN.{length}
use Rattle.sheets.specs.Grammar.{line_end}
use Rattle.texts.specs.declared.Text.{Text}
use Rattle.texts.specs.Texts.{numbers_text, Line}
use Rattle.texts.specs.Buffer.{longest_word, most_numbers, bytes_of, Written, Fitted}

abbrev pub Once : (Text : List ℕ → Type 0) → Type 0
Once Text = (text text' : List ℕ) → Text text → Text text' → text ≡ text'

is_once : (bytes : List ℕ) → Once (λ text. text ≡ bytes)
is_once bytes text text' one other = one ∙ sym other

pub either_once : {Text Other : List ℕ → Type 0} (t : Bool) → Once Text → Once Other → Once (λ text. cond t (Text text) (Other text))
either_once true text_once other_once = text_once
either_once false text_once other_once = other_once

pub line_once : (word numbers : List ℕ) → Once (Line word numbers)
line_once word numbers = is_once (word ++ (numbers_text numbers ++ (line_end ∷ [])))

-- What a text holds is fixed.
pub line_determined : (word numbers : List ℕ) (text text' : Text) → Written (Fitted word numbers) text → Written (Fitted word numbers) text' → bytes_of text ≡ bytes_of text'
line_determined word numbers text text' one other =
    let nothing_once = is_once [] in
    either_once (leb (length word) longest_word) (either_once (leb (length numbers) most_numbers) (line_once word numbers) nothing_once) nothing_once
    (bytes_of text) (bytes_of text') one.is_line other.is_line
