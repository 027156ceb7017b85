-- docs/RULES.md, "A sheet in parts": what one byte more does, by the rules in their order, and then what many do, one after another.
use Rattle.std.specs.Prelude.{cond, List, [], ◌∷◌, ◌++◌, ℕ, suc, ◌+◌, leb, eqb, Ok, Err, Some, None, Result}
use Rattle.sheets.specs.declared.State.{State}
use Rattle.sheets.specs.declared.Cursor.{Cursor}
use Rattle.sheets.specs.declared.Digest.TheVariants.{Empty}
use Rattle.sheets.specs.declared.Fault.TheVariants.{Malformed, TooLong}
use Rattle.sheets.specs.declared.Line.{Line}
use Rattle.sheets.specs.declared.Line.TheVariants.{Count, Told}
use Rattle.sheets.specs.Grammar.{all_sections, line_end}
use Rattle.sheets.specs.Reading.{start}
use Rattle.sheets.specs.Digests.{takes}
use Rattle.sheets.specs.Lines.{ended, wants_line}
use Rattle.readings.specs.Readers.{most_bytes}
use Rattle.parts.specs.declared.Standing.{Standing}
use Rattle.sheets.specs.declared.Fault.{Fault}

-- of the bytes of a good line, without its end
abbrev pub longest_line : ℕ
longest_line = 21

-- where no fault was met, what is kept of the line that is not over yet
abbrev pub Reader : Type 0
Reader = Result Standing Fault

-- what bytes leave, and the states that they answer
pub record Outcome : Type 0 where
  pub after : Reader
  pub states : List State

abbrev pub quiet : Reader → Outcome
quiet reader = record { after = reader; states = [] }

-- at the start of a line
abbrev pub opened : Cursor → (state_lines : ℕ) → Reader
opened cursor state_lines = Ok (record { cursor = cursor; digest = Empty; held = 0; state_lines = state_lines })

-- before the first byte
abbrev pub at_start : Reader
at_start = opened start 0

-- one state line more, in numbers that have an end
abbrev pub another : (state_lines : ℕ) → ℕ
another state_lines = cond (leb most_bytes state_lines) state_lines (suc state_lines)

-- a line that has ended: a count line, a state line or a fault, and nothing else
abbrev pub behind_line : Line → (state_lines : ℕ) → Outcome
behind_line (Count after) state_lines = quiet (opened after state_lines)
behind_line (Told (Ok (Some told))) state_lines = record { after = opened told.after (another state_lines); states = told.state ∷ [] }
behind_line (Told (Ok None)) state_lines = quiet (Err TooLong)
behind_line (Told (Err fault)) state_lines = quiet (Err fault)

module _ (standing : Standing) where
  -- how many bytes came so far
  abbrev pub total : ℕ
  total = standing.cursor.place + standing.held

  -- a byte that is no line's end: at most 21 belong to a good line
  abbrev pub holds : (byte : ℕ) → Outcome
  holds byte =
      cond (leb longest_line standing.held)
      (quiet (Err (Malformed standing.cursor.place)))
      (quiet (Ok (record { cursor = standing.cursor; digest = takes standing.digest byte; held = suc standing.held; state_lines = standing.state_lines })))

  -- a byte of a line that is wanted: the line is met at its end
  abbrev pub reads : (byte : ℕ) → Outcome
  reads byte =
      cond (eqb byte line_end) (behind_line (ended all_sections standing.cursor (suc total) standing.digest) standing.state_lines) (holds byte)

  -- 7 at the byte that passes the most, and before 6; then a byte behind the last line that is wanted, at once
  abbrev pub steps : (byte : ℕ) → Outcome
  steps byte =
      cond (leb most_bytes total) (quiet (Err TooLong)) (cond (wants_line all_sections standing.cursor) (reads byte) (quiet (Err (Malformed standing.cursor.place))))

-- behind a fault no byte changes anything
abbrev pub takes_byte : Reader → (byte : ℕ) → Outcome
takes_byte (Ok standing) byte = steps standing byte
takes_byte (Err fault) byte = quiet (Err fault)

-- one after another: the last leaves what is left, and the answers come in their order
abbrev pub then : Outcome → Outcome → Outcome
then first second = record { after = second.after; states = first.states ++ second.states }

unfoldable pub taking : Reader → (bytes : List ℕ) → Outcome
taking reader [] = quiet reader
taking reader (byte ∷ bytes) = then (takes_byte reader byte) (taking (takes_byte reader byte).after bytes)
