-- The bytes of a line, none of them its end: they are held, or the first that is too many is met. Assumes nothing.
use mathlib.Core.Path.{◌≡◌, sym, ap, ◌∙◌}
use mathlib.Core.Bool.{true, false}
use mathlib.Core.List.{List, [], ◌∷◌, foldl}
use Prim.Native.Nat.{ℕ, suc, ◌+◌, ◌-◌, ◌≤◌, ◌<◌}
use native.Mathlib.Nat.{add-zero, suc-add, add-suc}
use native.Mathlib.Omega.{arith}
use native.Mathlib.Decide.{dec_le}
use lib.ListN.{length}
use borrow.Author.Tests.{eq-eqb, ne_eqb, le-leb, lt-leb}
use Rattle.sheets.specs.Grammar.{all_sections, line_end}
use Rattle.sheets.specs.Digests.{takes}
use Rattle.sheets.specs.Lines.{ended, wants_line}
use Rattle.sheets.proofs.Splits.{Endless}
use Rattle.readings.specs.Readers.{most_bytes}
use Rattle.parts.specs.declared.Standing.{Standing}
use Rattle.parts.specs.Bytes.{Reader, longest_line, Outcome, total, quiet, behind_line, takes_byte, taking}
use Rattle.sheets.specs.declared.Fault.TheVariants.{Malformed, TooLong}
use Rattle.std.specs.Prelude.{Ok, Err}
use Rattle.parts.proofs.Bytes.{behind_quiet, Stays, stays, one_byte}

-- with this text held too
abbrev pub grown : Standing → (text : List ℕ) → Standing
grown standing text =
    record {
      cursor = standing.cursor;
      digest = foldl takes standing.digest text;
      held = standing.held + length text;
      state_lines = standing.state_lines;
    }

abbrev pub Wants : Standing → Type 0
Wants standing = wants_line all_sections standing.cursor ≡ true

-- one byte
module _ (standing : Standing) (byte : ℕ) where
  abbrev pub one_more : Standing
  one_more = record { cursor = standing.cursor; digest = takes standing.digest byte; held = suc standing.held; state_lines = standing.state_lines }

  pub passes_most : most_bytes ≤ total standing → takes_byte (Ok standing) byte ≡ quiet (Err TooLong)
  passes_most long = simp (le-leb most_bytes (total standing) long)

  pub not_wanted : total standing < most_bytes → wants_line all_sections standing.cursor ≡ false → takes_byte (Ok standing) byte ≡ quiet (Err (Malformed standing.cursor.place))
  not_wanted short none = simp (lt-leb most_bytes (total standing) short, none)

  module _ (short : total standing < most_bytes) (wants : Wants standing) where
    pub is_held : (byte ≡ line_end → ⊥) → standing.held < longest_line → takes_byte (Ok standing) byte ≡ quiet (Ok one_more)
    is_held no_end few = simp (lt-leb most_bytes (total standing) short, wants, ne_eqb byte line_end no_end, lt-leb longest_line standing.held few)

    pub is_too_many : (byte ≡ line_end → ⊥) → longest_line ≤ standing.held → takes_byte (Ok standing) byte ≡ quiet (Err (Malformed standing.cursor.place))
    is_too_many no_end many = simp (lt-leb most_bytes (total standing) short, wants, ne_eqb byte line_end no_end, le-leb longest_line standing.held many)

    pub is_end : byte ≡ line_end → takes_byte (Ok standing) byte ≡ behind_line (ended all_sections standing.cursor (suc (total standing)) standing.digest) standing.state_lines
    is_end end = simp (lt-leb most_bytes (total standing) short, wants, eq-eqb byte line_end end)

module _ (standing : Standing) where
  -- what is left of the room for the whole sheet, and for the line
  abbrev pub room : ℕ
  room = most_bytes - total standing

  abbrev pub spare : ℕ
  spare = longest_line - standing.held

same_held : (standing : Standing) (byte : ℕ) (text : List ℕ) → grown (one_more standing byte) text ≡ grown standing (byte ∷ text)
same_held standing byte text =
    ap (λ (n : ℕ). record { cursor = standing.cursor; digest = foldl takes standing.digest (byte ∷ text); held = n; state_lines = standing.state_lines })
    (suc-add standing.held (length text) ∙ sym (add-suc standing.held (length text)))

-- many of them: each goes by the byte at its head, and what that leaves
module _ (standing : Standing) (byte : ℕ) (text : List ℕ) where
  pub goes_on : (after : Reader) → takes_byte (Ok standing) byte ≡ quiet after → taking (Ok standing) (byte ∷ text) ≡ taking after text
  goes_on after is = behind_quiet (Ok standing) (byte ∷ []) text (one_byte (Ok standing) byte ∙ is)

  pub stops : (fault : Reader) → Stays fault → takes_byte (Ok standing) byte ≡ quiet fault → taking (Ok standing) (byte ∷ text) ≡ quiet fault
  stops fault is_fault is = goes_on fault is ∙ stays fault is_fault text

pub text_held : (standing : Standing) (text : List ℕ) → Endless text → Wants standing → total standing + length text ≤ most_bytes → length text ≤ spare standing → taking (Ok standing) text ≡ quiet (Ok (grown standing text))
unfolding taking
text_held standing [] endless wants short few =
    ap (λ (n : ℕ). quiet (Ok (record { cursor = standing.cursor; digest = standing.digest; held = n; state_lines = standing.state_lines }))) (sym (add-zero standing.held))
text_held standing (byte ∷ text) endless wants short few =
    goes_on standing byte text _ (is_held standing byte (omega arith) wants endless.0 (omega arith))
    ∙ text_held (one_more standing byte) text endless.1 wants (omega arith) (omega arith)
    ∙ ap (λ (s : Standing). quiet (Ok s)) (same_held standing byte text)

-- the first byte that is too many for the line comes before the first that is too many for the sheet
pub text_too_many : (standing : Standing) (text : List ℕ) → Endless text → Wants standing → spare standing < length text → spare standing < room standing → taking (Ok standing) text ≡ quiet (Err (Malformed standing.cursor.place))
text_too_many standing [] endless wants many short = absurd (omega arith)
text_too_many standing (byte ∷ text) endless wants many short =
    full_or_not (λ few. text_too_many (one_more standing byte) text endless.1 wants (omega arith) (omega arith)) (dec_le longest_line standing.held)
  where
    fault : Outcome
    fault = quiet (Err (Malformed standing.cursor.place))

    full_or_not : (standing.held < longest_line → taking (Ok (one_more standing byte)) text ≡ fault) → Dec (longest_line ≤ standing.held) → taking (Ok standing) (byte ∷ text) ≡ fault
    full_or_not later (yes full) = stops standing byte text _ tt (is_too_many standing byte (omega arith) wants endless.0 full)
    full_or_not later (no few) = goes_on standing byte text _ (is_held standing byte (omega arith) wants endless.0 (omega arith)) ∙ later (omega arith)

-- or not before it
pub text_too_long : (standing : Standing) (text : List ℕ) → Endless text → Wants standing → room standing < length text → room standing ≤ spare standing → taking (Ok standing) text ≡ quiet (Err TooLong)
text_too_long standing [] endless wants long first = absurd (omega arith)
text_too_long standing (byte ∷ text) endless wants long first =
    full_or_not (λ few. text_too_long (one_more standing byte) text endless.1 wants (omega arith) (omega arith)) (dec_le most_bytes (total standing))
  where
    full_or_not : (total standing < most_bytes → taking (Ok (one_more standing byte)) text ≡ quiet (Err TooLong)) → Dec (most_bytes ≤ total standing) → taking (Ok standing) (byte ∷ text) ≡ quiet (Err TooLong)
    full_or_not later (yes full) = stops standing byte text _ tt (passes_most standing byte full)
    full_or_not later (no few) = goes_on standing byte text _ (is_held standing byte (omega arith) wants endless.0 (omega arith)) ∙ later (omega arith)
