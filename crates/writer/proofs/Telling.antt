-- What a refusal leaves in the buffer, and what an answer does. Assumes nothing.
use mathlib.Core.Path.{◌≡◌, ap, ap₂, ◌∙◌}
use mathlib.Core.List.{List, ◌++◌}
use Prim.Native.Nat.{ℕ}
use native.Mathlib.Nat.{zero-add}
use native.Mathlib.Omega.{arith}
use lib.ListN.{length, drop}
use Rattle.std.specs.Prelude.{Ok, Err}
use Rattle.refusals.specs.Checks.{refuses, answers}
use Rattle.buffers.specs.Puts as buffers
use Rattle.sheets.specs.Grammar.{sheet}
use Rattle.measures.specs.declared.reply.WriteRefusal.{WriteRefusal}
use Rattle.measures.specs.declared.reply.WriteRefusal.TheVariants.{ListsUnfit, TooManyDigits, NoRoom}
use Rattle.measures.specs.declared.reply.WriteFigures.{WriteFigures}
use Rattle.measures.specs.Columns.{Columns, lists_of}
use Rattle.measures.specs.Replies.{figures_of, Told}
use Rattle.measures.proofs.Telling.{Passes, number_in}
use Rattle.writer.specs.Replies.{left, Writes}

module _ (fluids : List Columns) {before : List ℕ} where
  writes_nothing : {figures : WriteFigures} → (figures.number ≡ 0 → ⊥) → Told fluids (length before) figures → Writes fluids before (left figures before)
  writes_nothing not_0 (refuses refusal first told) = refuses refusal first (ap (λ (f : WriteFigures). left f before) told)
  writes_nothing not_0 (answers none told) = absurd (not_0 (ap number_in told))

  pub writes_refusal : (refusal : WriteRefusal) → Told fluids (length before) (figures_of (Err refusal)) → Writes fluids before (left (figures_of (Err refusal)) before)
  writes_refusal ListsUnfit = writes_nothing (λ same. omega arith)
  writes_refusal TooManyDigits = writes_nothing (λ same. omega arith)
  writes_refusal NoRoom = writes_nothing (λ same. omega arith)

  pub writes_sheet : {after : List ℕ} {long next : ℕ} → Passes fluids (length before) long → buffers.Holds (sheet (lists_of fluids)) before 0 after next → Writes fluids before (left (figures_of (Ok long)) after)
  writes_sheet passes holds =
      answers passes.none
      (ap₂ (λ (n : ℕ) (l : List ℕ). left (record { number = 0; length = n }) l) passes.is_length (holds.is_after ∙ ap (λ (n : ℕ). sheet (lists_of fluids) ++ drop n before) (zero-add (length (sheet (lists_of fluids))))))
