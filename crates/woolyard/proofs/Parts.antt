-- What is proved of the two calls for a sheet that arrives in parts, beside their contracts: each fixes the number and every value that its caller lent,
-- whatever numbers are kept, and the next call goes on from where this one left the reader. Assumes nothing.
use mathlib.Core.Path.{◌≡◌, sym, ap, subst, ◌∙◌}
use mathlib.Core.List.{List}
use Prim.Native.Nat.{ℕ}
use Rattle.std.specs.Prelude.{Option, Some, None}
use Rattle.sheets.specs.declared.State.{State}
use Rattle.parts.specs.declared.Taken.{Taken}
use Rattle.parts.specs.Takes.{number_of}
use Rattle.parts.proofs.Calls.{take_determined}
use Rattle.kept.specs.Numbers.{reader_of, numbers_of}
use Rattle.kept.proofs.Theorems.{nothing_is_lost}
use Rattle.laying.specs.Lines.{nine_zeros, AnswersBrought}
use Rattle.laying.proofs.Theorems.{told_alike, same_brought}
use Rattle.woolyard.specs.Parts.{TakeAnswers, EndAnswers}

module _ (before : List ℕ) where
  -- whatever numbers are kept
  pub parts_take_determined : (part : List ℕ) {number number' taken taken' : ℕ} {after after' answer answer' : List ℕ} → TakeAnswers before part number after taken answer → TakeAnswers before part number' after' taken' answer' → ((number ≡ number') × (after ≡ after')) × ((taken ≡ taken') × (answer ≡ answer'))
  parts_take_determined part {answer' = answer'} p q =
      let same = take_determined (reader_of before) part p.reply q.reply p.takes q.takes in (
        told_alike (λ (r : Taken). number_of r.brought r.reader) (λ (r : Taken). numbers_of r.reader) same p.is_number q.is_number p.is_after q.is_after,
        (
          p.is_taken ∙ ap (λ (r : Taken). r.taken) same ∙ sym q.is_taken,
          same_brought p.reply.brought p.brings (subst (λ (r : Taken). AnswersBrought r.brought answer') (sym same) q.brings),
        ),
      )

  pub parts_end_determined : {number number' : ℕ} {reading reading' : List ℕ} → EndAnswers before number reading → EndAnswers before number' reading' → (number ≡ number') × (reading ≡ reading')
  parts_end_determined p q = (p.is_number ∙ sym q.is_number, p.is_reading ∙ sym q.is_reading)

  -- what is kept is the reader that the reply has
  pub goes_on_from_here : {part : List ℕ} {number taken : ℕ} {after answer : List ℕ} (p : TakeAnswers before part number after taken answer) → reader_of after ≡ p.reply.reader
  goes_on_from_here p = ap reader_of p.is_after ∙ nothing_is_lost p.reply.reader

  -- where no state line ended, zeros
  pub nothing_brought_lays_zeros : {part : List ℕ} {number taken : ℕ} {after answer : List ℕ} → TakeAnswers before part number after taken answer → (number ≡ 0 → ⊥) → answer ≡ nine_zeros
  nothing_brought_lays_zeros {part} {number} {taken} {after} {answer} p some = by_brought p.reply.brought p.is_number p.brings
    where
      by_brought : (brought : Option State) → number ≡ number_of brought p.reply.reader → AnswersBrought brought answer → answer ≡ nine_zeros
      by_brought (Some state) is brings = absurd (some is)
      by_brought None is brings = brings
