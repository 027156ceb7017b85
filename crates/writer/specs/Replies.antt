-- docs/RULES.md, "A sheet written": what comes back of lists that are to be written, with the buffer as it is left.
use Rattle.std.specs.Prelude.{◌≡◌, List, ◌++◌, ℕ, length, drop}
use Rattle.refusals.specs.Checks.{Tells}
use Rattle.sheets.specs.Grammar.{sheet}
use Rattle.measures.specs.declared.reply.WriteFigures.{WriteFigures}
use Rattle.measures.specs.Columns.{Columns, lists_of}
use Rattle.measures.specs.Checks.{write_checks}
use Rattle.measures.specs.Replies.{answered, refused_with}

-- what is told, and the buffer after
pub record Leaving : Type 0 where
  pub figures : WriteFigures
  pub buffer : List ℕ

abbrev pub left : (figures : WriteFigures) (buffer : List ℕ) → Leaving
left figures buffer = record { figures = figures; buffer = buffer }

-- where refused, the buffer is as it was
abbrev pub Untouched : (buffer : List ℕ) (refusal : ℕ) → Leaving → Type 0
Untouched buffer refusal after = after ≡ left (refused_with refusal) buffer

-- the sheet stands at the start of the buffer, and behind it all is as it was
abbrev pub HoldsSheet : (bytes buffer : List ℕ) → Leaving → Type 0
HoldsSheet bytes buffer after = after ≡ left (answered bytes) (bytes ++ drop (length bytes) buffer)

abbrev pub Writes : List Columns → (buffer : List ℕ) → Leaving → Type 0
Writes fluids buffer = Tells (write_checks fluids (length buffer)) (Untouched buffer) (HoldsSheet (sheet (lists_of fluids)) buffer)
