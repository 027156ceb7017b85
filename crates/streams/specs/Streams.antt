-- docs/RULES.md, "What the programs print": what one call of C's read or write came to, and what was read.
use Rattle.std.specs.Prelude.{◌≡◌, ◌↔◌, ◌<◌, Bool, cond, ℕ, eqb, ltb, ℤ, pos, negsuc, List, length, Option, Result, Ok, Err, IfOk, IsErrAnd, IsTrue}
use Rattle.std.specs.IoError.{error_kind}
use Rattle.std.specs.Io.KnownBytes.{IsAtEnd}
use Rattle.std.specs.declared.io.Error.{Error}
use Rattle.std.specs.declared.io.ErrorKind.{ErrorKind}
use Rattle.streams.specs.declared.Call.{Call}

-- a number below 0 is no number of bytes; where a signal came, the call is to be made again
unfoldable pub call_of : (got : ℤ) (interrupted : Bool) (most : ℕ) → Call
call_of (negsuc got) interrupted most = cond interrupted Call.Interrupted Call.Failed
call_of (pos got) interrupted most = cond (eqb got 0) Call.Nothing (cond (ltb most got) (Call.Bytes most) (Call.Bytes got))

-- what C's call answered, where std tells a count or why it failed
abbrev pub got_of : {E : Type 0} → Result ℕ E → ℤ
got_of (Ok count) = pos count
got_of (Err why) = negsuc 0

-- and whether errno then said that a signal came
abbrev pub IsInterrupted : Result ℕ Error → Type 0
IsInterrupted answer = IsErrAnd answer (λ why. error_kind why ≡ ErrorKind.Interrupted)

abbrev pub CameTo : Result ℕ Error → (most : ℕ) → Call → Type 0
CameTo answer most call = (interrupted : Bool) × (IsTrue interrupted ↔ IsInterrupted answer) × (call ≡ call_of (got_of answer) interrupted most)

-- an input that failed is not taken for a short one: where there is room for more, no byte is left that is known of
abbrev pub NoShortInput : {E : Type 0} → Result ℕ E → (buffer : List ℕ) → (left : Option (List ℕ)) → Type 0
NoShortInput result buffer left = IfOk result (λ held. held < length buffer → IsAtEnd left)
