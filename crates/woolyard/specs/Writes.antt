-- docs/RULES.md, "A sheet written": what `woolyard_write_sheet` leaves with its caller: the number and the length of the one reply, and the buffer, as they are. The lists are only read.
use Rattle.std.specs.Prelude.{List, ℕ}
use Rattle.measures.specs.Columns.{Columns}
use Rattle.writer.specs.Replies.{left, Writes}

abbrev pub WriteAnswers : List Columns → (before : List ℕ) (number length : ℕ) (after : List ℕ) → Type 0
WriteAnswers fluids before number length after = Writes fluids before (left (record { number = number; length = length }) after)
