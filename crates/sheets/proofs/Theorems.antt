-- What is proved of the definitions: what lists write is read as those very lists, no other lists write to it, a number has one way to be
-- written, and each step of a reading is fixed. Assumes nothing.
use mathlib.Core.Path.{◌≡◌, sym, ap, ◌∙◌}
use mathlib.Core.Bool.{Bool}
use mathlib.Core.List.{List}
use Prim.Native.Nat.{ℕ}
use native.Mathlib.Omega.{arith}
use Rattle.sheets.specs.declared.Cursor.{Cursor}
use Rattle.sheets.specs.declared.Digest.{Digest}
use Rattle.sheets.specs.declared.Scanned.{Scanned}
use Rattle.sheets.specs.declared.Line.{Line}
use Rattle.std.specs.Prelude.{Ok, None}
use Rattle.sheets.specs.Grammar.{decimal, Writable, Pair, Good, states_from}
use Rattle.sheets.specs.Numerals.{Numeral, value_of}
use Rattle.sheets.specs.Reading.{start, Reads}
use Rattle.sheets.specs.Digests.{scans}
use Rattle.sheets.specs.Lines.{ended, wants_line, met}
use Rattle.sheets.proofs.Readable.{good_read}
use Rattle.sheets.proofs.Once.{sheet_once}
use Rattle.sheets.proofs.Numerals.{decimal_is_numeral, value_of_decimal, numeral_is_decimal}

-- Each number of at most ten digits has exactly one way to be written, and its decimal is that.
pub record WrittenAs (number : ℕ) (text : List ℕ) : Type 0 where
  pub numeral : Numeral text
  pub is_value : value_of text ≡ number

pub decimal_is_written : (number : ℕ) → Writable number → WrittenAs number (decimal number)
decimal_is_written number writable = record { numeral = decimal_is_numeral number writable; is_value = value_of_decimal number writable }

pub one_way_to_write : (number : ℕ) (text : List ℕ) → WrittenAs number text → text ≡ decimal number
one_way_to_write number text written = (numeral_is_decimal text written.numeral).is_text ∙ ap decimal written.is_value

-- What is written so has a number of at most ten digits.
pub written_is_writable : (number : ℕ) (text : List ℕ) → WrittenAs number text → Writable number
written_is_writable number text written = omega (arith, (numeral_is_decimal text written.numeral).writable, written.is_value)

module _ {sections : ℕ} (bytes : List ℕ) where
  -- What lists write, a walk of the cursor from the start gives back: one state line after another, and then the end.
  pub good_sheet_reads_as_written : (lists : List (List Pair)) → Good sections bytes lists → Reads sections bytes start (states_from 0 lists) (Ok None)
  good_sheet_reads_as_written = good_read sections bytes

  -- They are the only lists that write to it.
  pub written_once : (lists lists' : List (List Pair)) → Good sections bytes lists → Good sections bytes lists' → lists ≡ lists'
  written_once lists lists' good good' =
      sheet_once lists lists' good.writable good'.writable (good.has_sections ∙ sym good'.has_sections) (sym good.written ∙ good'.written)

pub start_determined : (cursor cursor' : Cursor) → cursor ≡ start → cursor' ≡ start → cursor ≡ cursor'
start_determined cursor cursor' is_start is_start' = is_start ∙ sym is_start'

pub scan_determined : (place : ℕ) (before : Digest) (bytes : List ℕ) (scanned scanned' : Scanned) → scanned ≡ scans place before bytes → scanned' ≡ scans place before bytes → scanned ≡ scanned'
scan_determined place before bytes scanned scanned' is_scan is_scan' = is_scan ∙ sym is_scan'

pub line_at_determined : (sections : ℕ) (bytes : List ℕ) (cursor : Cursor) (line line' : Line) → line ≡ met sections bytes cursor → line' ≡ met sections bytes cursor → line ≡ line'
line_at_determined sections bytes cursor line line' is_met is_met' = is_met ∙ sym is_met'

pub ended_line_determined : (sections : ℕ) (cursor : Cursor) (next : ℕ) (digest : Digest) (line line' : Line) → line ≡ ended sections cursor next digest → line' ≡ ended sections cursor next digest → line ≡ line'
ended_line_determined sections cursor next digest line line' is is' = is ∙ sym is'

pub wants_line_determined : (sections : ℕ) (cursor : Cursor) (wants wants' : Bool) → wants ≡ wants_line sections cursor → wants' ≡ wants_line sections cursor → wants ≡ wants'
wants_line_determined sections cursor wants wants' is is' = is ∙ sym is'
