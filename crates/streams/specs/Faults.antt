-- docs/RULES.md, "What the programs print": the line on standard error, what failed and why, and the room that it has.
use Rattle.std.specs.Prelude.{List, [], ◌∷◌, ◌++◌, ℕ}
use Rattle.sheets.specs.Grammar.{line_end}

-- byte 58 is the colon, byte 32 the space
abbrev pub fault_text : (what why : List ℕ) → List ℕ
fault_text what why = what ++ ((58 ∷ 32 ∷ []) ++ (why ++ (line_end ∷ [])))

abbrev pub room_for_a_reason : ℕ
room_for_a_reason = 256

abbrev pub longest_fault : ℕ
longest_fault = 512
