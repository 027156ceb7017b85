-- A slot that there is, by the list of checks and by numbers. Assumes nothing.
use mathlib.Core.Path.{◌≡◌, refl, sym, ◌∙◌}
use mathlib.Core.Logic.{◌⊎◌, inl, inr, ⊎_elim}
use mathlib.Core.List.{List}
use Prim.Native.Nat.{ℕ, ◌≤◌}
use native.Mathlib.Nat.{not-le_of_lt, lt_of_not-le}
use native.Mathlib.Decide.{dec_le, ℕ_discrete}
use lib.ListN as list
use Rattle.refusals.specs.declared.Refusal.TheVariants.{NoSuchSlot}
use Rattle.refusals.specs.Checks.{FirstOf}
use Rattle.refusals.proofs.Theorems.{EachDecided}
use Rattle.books.specs.Layouts.{Layout, last_slot, NoSlot, slot_checks, Placed, HasSlot, BothOrNeither}

module _ (layout : Layout) (slot length : ℕ) where
  there_or_missing : HasSlot layout slot length ⊎ NoSlot layout slot length
  there_or_missing = by_tests (ℕ_discrete length layout.elements) (dec_le slot last_slot)
    where
      by_tests : Dec (length ≡ layout.elements) → Dec (slot ≤ last_slot) → HasSlot layout slot length ⊎ NoSlot layout slot length
      by_tests (yes is_book) (yes up_to_last) = inl (is_book, up_to_last)
      by_tests (yes is_book) (no f) = inr (inr (lt_of_not-le f))
      by_tests (no f) slot_test = inr (inl f)

  never_both : HasSlot layout slot length → NoSlot layout slot length → ⊥
  never_both there = ⊎_elim (λ other. other there.0) (λ past. not-le_of_lt past there.1)

  pub placed : HasSlot layout slot length → Placed layout slot length
  placed there = (never_both there, tt)

  pub has_slot : Placed layout slot length → HasSlot layout slot length
  has_slot none = ⊎_elim (λ there. there) (λ missing. absurd (none.0 missing)) there_or_missing

  pub missing : (HasSlot layout slot length → ⊥) → FirstOf (slot_checks layout slot length) 4
  missing not_there = inl (⊎_elim (λ there. absurd (not_there there)) (λ missing. missing) there_or_missing, refl)

  pub slot_decided : EachDecided (slot_checks layout slot length)
  slot_decided = (record { refusal = NoSuchSlot; is_number = refl; decide = ⊎_elim (λ there. no (never_both there)) (λ missing. yes missing) there_or_missing }, tt)

-- ---- two books, of which both are as long as they have to be or neither is
pub alike_by_length : {layout : Layout} {book other : List ℕ} → list.length book ≡ list.length other → BothOrNeither layout layout book other
alike_by_length same = record { forth = λ is_book. sym same ∙ is_book; back = λ is_book. same ∙ is_book }

module _ {layout layout' : Layout} {book other : List ℕ} (alike : BothOrNeither layout layout' book other) where
  -- that stays so while each is as long as it was
  pub alike_after : {after after' : List ℕ} → list.length after ≡ list.length book → list.length after' ≡ list.length other → BothOrNeither layout layout' after after'
  alike_after kept kept' =
      record { forth = λ is_book. kept' ∙ alike.forth (sym kept ∙ is_book); back = λ is_book. kept ∙ alike.back (sym kept' ∙ is_book) }

  -- the same is told of a slot of either
  module _ (slot : ℕ) where
    pub has_slot_alike : HasSlot layout slot (list.length book) → HasSlot layout' slot (list.length other)
    has_slot_alike there = (alike.forth there.0, there.1)

    pub placed_alike : Placed layout slot (list.length book) → Placed layout' slot (list.length other)
    placed_alike none = placed layout' slot (list.length other) (has_slot_alike (has_slot layout slot (list.length book) none))

    pub first_alike : (refusal : ℕ) → FirstOf (slot_checks layout slot (list.length book)) refusal → FirstOf (slot_checks layout' slot (list.length other)) refusal
    first_alike refusal (inl (inl no_book, is_4)) = inl (inl (λ is_book. no_book (alike.back is_book)), is_4)
    first_alike refusal (inl (inr past, is_4)) = inl (inr past, is_4)
    first_alike refusal (inr later) = absurd later.1
