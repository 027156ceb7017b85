-- docs/RULES.md, "What the programs print": how a line of the page is laid out, a label, left-aligned, and three cells, right-aligned.
use Rattle.std.specs.Prelude.{List, [], ◌∷◌, ◌++◌, ℕ, ◌+◌, ◌-◌, ◌*◌, length, replicate}
use Rattle.sheets.specs.Grammar.{space, line_end}

-- the longest label has 24 letters
abbrev pub label_columns : ℕ
label_columns = 24

-- the largest number of 64 bits has 20 digits, and a space stands before it
abbrev pub cell_columns : ℕ
cell_columns = 21

abbrev pub spaces : (many : ℕ) → List ℕ
spaces many = replicate many space

unfoldable pub left_aligned : (columns : ℕ) (text : List ℕ) → List ℕ
left_aligned columns text = text ++ spaces (columns - length text)

unfoldable pub right_aligned : (columns : ℕ) (text : List ℕ) → List ℕ
right_aligned columns text = spaces (columns - length text) ++ text

-- byte 10 stands behind the last cell
abbrev pub line_text : (label hydrogen oxygen nitrogen : List ℕ) → List ℕ
line_text label hydrogen oxygen nitrogen =
    left_aligned label_columns label ++ (right_aligned cell_columns hydrogen ++ (right_aligned cell_columns oxygen ++ (right_aligned cell_columns nitrogen ++ (line_end ∷ []))))

abbrev pub line_bytes : ℕ
line_bytes = label_columns + 3 * cell_columns + 1
