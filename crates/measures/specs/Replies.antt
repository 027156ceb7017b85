-- docs/RULES.md, "A sheet written": what is told of lists, where there is room for so many bytes.
use Rattle.std.specs.Prelude.{◌≡◌, List, ℕ, length, Result, Ok, Err}
use Rattle.refusals.specs.Checks.{Tells}
use Rattle.sheets.specs.Grammar.{sheet}
use Rattle.measures.specs.declared.reply.WriteRefusal.{WriteRefusal}
use Rattle.measures.specs.declared.reply.WriteRefusal.TheVariants.{ListsUnfit, TooManyDigits, NoRoom}
use Rattle.measures.specs.declared.reply.WriteFigures.{WriteFigures}
use Rattle.measures.specs.Columns.{Columns, lists_of}
use Rattle.measures.specs.Checks.{write_checks}

abbrev pub answered : (bytes : List ℕ) → WriteFigures
answered bytes = record { number = 0; length = length bytes }

abbrev pub refused_with : (refusal : ℕ) → WriteFigures
refused_with refusal = record { number = refusal; length = 0 }

-- how long the sheet is, or why there is none
abbrev pub WriteReply : Type 0
WriteReply = Result ℕ WriteRefusal

abbrev pub figures_of : WriteReply → WriteFigures
figures_of (Ok long) = record { number = 0; length = long }
figures_of (Err ListsUnfit) = refused_with 8
figures_of (Err TooManyDigits) = refused_with 9
figures_of (Err NoRoom) = refused_with 10

-- a refusal has no length
abbrev pub NumberAndZero : (refusal : ℕ) → WriteFigures → Type 0
NumberAndZero refusal figures = figures ≡ refused_with refusal

-- the first check that applies, or how long the sheet is that the grammar writes from the lists
abbrev pub Told : List Columns → (room : ℕ) → WriteFigures → Type 0
Told fluids room = Tells (write_checks fluids room) NumberAndZero (λ figures. figures ≡ answered (sheet (lists_of fluids)))
