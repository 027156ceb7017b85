-- What is proved of a list of claims beside its contract: every five lists have exactly one reply; it is 8 exactly where their lengths differ and 0 exactly
-- where every claim stands; every claim before the one reported stands, and those behind it change nothing. Assumes nothing.
use mathlib.Core.Path.{◌≡◌, refl, sym, ap, ap₂, subst, ◌∙◌}
use mathlib.Core.Bool.{false}
use mathlib.Core.Logic.{◌⊎◌, inl, inr, ◌↔◌}
use mathlib.Core.List.{[]}
use Prim.Native.Nat.{ℕ, ◌≤◌, ◌<◌}
use native.Mathlib.Omega.{arith}
use Rattle.std.specs.Prelude.{Result, Ok, Err}
use Rattle.refusals.specs.declared.Refusal.{Refusal}
use Rattle.refusals.specs.Numbers.{number_of_refusal}
use Rattle.refusals.specs.Checks.{FirstOf, refuses, answers}
use Rattle.refusals.proofs.Lists.{has_number, number_on_list}
use Rattle.refusals.proofs.Theorems.{find, refusal_of, number_determines_refusal, no_refusal_has, never_zero, tells_once, none_is_answered}
use Rattle.claims.specs.declared.reply.ClaimsRefusal.{ClaimsRefusal}
use Rattle.claims.specs.declared.reply.ClaimsFigures.{ClaimsFigures}
use Rattle.claims.specs.Claims.{Claim, Stands, claim_checks}
use Rattle.claims.specs.Lists.{FiveLists, lists_of, count, UnequalLengths, OneLength, claim_at, StandBefore}
use Rattle.claims.specs.Replies.{answered, refused_with, figures_of, FirstRefused, Checked, all_stand, one_refused, length_checks, Replies}
use Rattle.claims.proofs.Lists.{none_before, checked_once, checked, one_length_is_not_unequal, one_length_or_not, tells_unequal, tells_checked}

abbrev number_in : ClaimsFigures → ℕ
number_in figures = figures.number

abbrev claim_in : ClaimsFigures → ℕ
claim_in figures = figures.claim

-- lists of unequal lengths are told by a number that no claim is refused by
never_eight : (refusal : Refusal) → number_of_refusal refusal ≡ 8 → ⊥
unfolding refusal_of find
never_eight = no_refusal_has 8 (λ same. omega arith)

pub figures_determine_reply : (r s : Result (Unit {0}) ClaimsRefusal) → figures_of r ≡ figures_of s → r ≡ s
figures_determine_reply (Ok done) (Ok done') same = refl
figures_determine_reply (Ok done) (Err (ClaimsRefusal.Claim claim refusal)) same = absurd (never_zero refusal (sym (ap number_in same)))
figures_determine_reply (Ok done) (Err ClaimsRefusal.LengthsDiffer) same = absurd (let number : ◌≡◌ {A = ℕ} 0 8 = ap number_in same in omega arith)
figures_determine_reply (Err (ClaimsRefusal.Claim claim refusal)) (Ok done) same = absurd (never_zero refusal (ap number_in same))
figures_determine_reply (Err (ClaimsRefusal.Claim claim refusal)) (Err (ClaimsRefusal.Claim claim' refusal')) same =
    ap₂ (λ claim refusal. Err (ClaimsRefusal.Claim claim refusal)) (ap claim_in same) (number_determines_refusal refusal refusal' (ap number_in same))
figures_determine_reply (Err (ClaimsRefusal.Claim claim refusal)) (Err ClaimsRefusal.LengthsDiffer) same = absurd (never_eight refusal (ap number_in same))
figures_determine_reply (Err ClaimsRefusal.LengthsDiffer) (Ok done) same = absurd (let number : ◌≡◌ {A = ℕ} 8 0 = ap number_in same in omega arith)
figures_determine_reply (Err ClaimsRefusal.LengthsDiffer) (Err (ClaimsRefusal.Claim claim refusal)) same = absurd (never_eight refusal (sym (ap number_in same)))
figures_determine_reply (Err ClaimsRefusal.LengthsDiffer) (Err ClaimsRefusal.LengthsDiffer) same = refl

pub figures_determined : (reply : Result (Unit {0}) ClaimsRefusal) {figures other : ClaimsFigures} → figures ≡ figures_of reply → other ≡ figures_of reply → figures ≡ other
figures_determined reply p q = p ∙ sym q

module _ (lists : FiveLists) where
  pub told_once : (figures other : ClaimsFigures) → Replies lists figures → Replies lists other → figures ≡ other
  told_once = tells_once (length_checks lists) (λ refusal figures other p q. p ∙ sym q) checked_once

  pub claims_determined : (r s : Result (Unit {0}) ClaimsRefusal) → Replies lists (figures_of r) → Replies lists (figures_of s) → r ≡ s
  claims_determined r s p q = figures_determine_reply r s (told_once (figures_of r) (figures_of s) p q)

  pub every_list_has_a_reply : (reply : Result (Unit {0}) ClaimsRefusal) × Replies lists (figures_of reply)
  every_list_has_a_reply = by_lengths (one_length_or_not lists)
    where
      by_lengths : OneLength lists ⊎ UnequalLengths lists → (reply : Result (Unit {0}) ClaimsRefusal) × Replies lists (figures_of reply)
      by_lengths (inl one) = let told = checked lists (count lists) in (told.0, tells_checked one told.1)
      by_lengths (inr unequal) = (Err ClaimsRefusal.LengthsDiffer, tells_unequal unequal)

module _ {lists : FiveLists} {figures : ClaimsFigures} where
  -- every claim before the one reported stands,
  pub first_refused : Replies lists figures → StandBefore lists figures.claim
  first_refused (refuses refusal first told) = rw (ap claim_in told) none_before
  first_refused (answers none (all_stand stand is_answered)) = rw (ap claim_in is_answered) none_before
  first_refused (answers none (one_refused claim refusal first is_refused)) = rw (ap claim_in is_refused) first.before

  -- and that one is refused by the first of its own checks that applies
  pub refused_by_its_first : Replies lists figures → (figures.number ≡ 0 → ⊥) → (figures.number ≡ 8 → ⊥) → FirstRefused lists (count lists) figures.claim figures.number
  refused_by_its_first (refuses refusal (inl unequal) told) not_0 not_8 = absurd (not_8 (ap number_in told ∙ unequal.1))
  refused_by_its_first (refuses refusal (inr later) told) not_0 not_8 = absurd later.1
  refused_by_its_first (answers none (all_stand stand is_answered)) not_0 not_8 = absurd (not_0 (ap number_in is_answered))
  refused_by_its_first (answers none (one_refused claim refusal first is_refused)) not_0 not_8 = rw is_refused first

  -- a claim is refused by no number but those of its checks
  never_by : (number : ℕ) → ((claim : ℕ) → has_number number (claim_checks (claim_at lists claim)) ≡ false) → {claim refusal : ℕ} → FirstRefused lists (count lists) claim refusal → figures ≡ refused_with refusal claim → figures.number ≡ number → ⊥
  never_by number without {claim} {refusal} first told is_number =
      number_on_list number (claim_checks (claim_at lists claim)) refusal (without claim) first.is_first (sym (ap number_in told) ∙ is_number)

  module _ (replies : Replies lists figures) where
    where_unequal : UnequalLengths lists → figures ≡ refused_with 8 0
    where_unequal unequal = told_once lists figures (refused_with 8 0) replies (tells_unequal unequal)

    where_all_stand : OneLength lists × StandBefore lists (count lists) → figures ≡ answered
    where_all_stand (one, stand) = told_once lists figures answered replies (tells_checked one (all_stand stand refl))

    checked_where : OneLength lists → Checked lists (count lists) figures
    checked_where one = none_is_answered (length_checks lists) (one_length_is_not_unequal one, tt) replies

    -- 8 exactly where the lengths differ, whatever the claims are
    pub unequal_exactly : (figures.number ≡ 8) ↔ UnequalLengths lists
    unequal_exactly = (λ is_8. by_lengths is_8 (one_length_or_not lists), λ unequal. ap number_in (where_unequal unequal))
      where
        never_8 : figures.number ≡ 8 → Checked lists (count lists) figures → ⊥
        never_8 is_8 (all_stand stand is_answered) = let number : ◌≡◌ {A = ℕ} 0 8 = sym (ap number_in is_answered) ∙ is_8 in omega arith
        never_8 is_8 (one_refused claim refusal first told) = never_by 8 (λ claim. refl) first told is_8

        by_lengths : figures.number ≡ 8 → OneLength lists ⊎ UnequalLengths lists → UnequalLengths lists
        by_lengths is_8 (inl one) = absurd (never_8 is_8 (checked_where one))
        by_lengths is_8 (inr unequal) = unequal

    -- 0 exactly where they do not and every claim's root is its side's
    pub all_stand_exactly : (figures.number ≡ 0) ↔ (OneLength lists × StandBefore lists (count lists))
    all_stand_exactly = (λ is_0. by_lengths is_0 (one_length_or_not lists), λ given. ap number_in (where_all_stand given))
      where
        all : figures.number ≡ 0 → Checked lists (count lists) figures → StandBefore lists (count lists)
        all is_0 (all_stand stand is_answered) = stand
        all is_0 (one_refused claim refusal first told) = absurd (never_by 0 (λ claim. refl) first told is_0)

        by_lengths : figures.number ≡ 0 → OneLength lists ⊎ UnequalLengths lists → OneLength lists × StandBefore lists (count lists)
        by_lengths is_0 (inl one) = (one, all is_0 (checked_where one))
        by_lengths is_0 (inr unequal) = let number : ◌≡◌ {A = ℕ} 8 0 = sym (ap number_in (where_unequal unequal)) ∙ is_0 in absurd (omega arith)

    -- in both cases no claim is named, and the caller gets 0
    pub no_claim_is_zero : (figures.number ≡ 0) ⊎ (figures.number ≡ 8) → figures.claim ≡ 0
    no_claim_is_zero (inl is_0) = ap claim_in (where_all_stand (all_stand_exactly.0 is_0))
    no_claim_is_zero (inr is_8) = ap claim_in (where_unequal (unequal_exactly.0 is_8))

  -- Claims behind the first refused one are not looked at: whatever is there, the same is told.
  pub behind_changes_nothing : Replies lists figures → (figures.number ≡ 0 → ⊥) → (figures.number ≡ 8 → ⊥) → (other : FiveLists) → OneLength other → figures.claim < count other → ((k : ℕ) → k ≤ figures.claim → claim_at other k ≡ claim_at lists k) → Replies other figures
  behind_changes_nothing replies not_0 not_8 other one within same =
      let first = refused_by_its_first replies not_0 not_8 in
      tells_checked one
      (one_refused figures.claim figures.number
      (record {
        within = within;
        before = record { stands = λ earlier below. subst Stands (sym (same earlier (omega arith))) (first.before.stands earlier below) };
        is_first = subst (λ (claim : Claim). FirstOf (claim_checks claim) figures.number) (sym (same figures.claim (omega arith))) first.is_first;
      }) refl)

-- an empty list stands
pub empty_list_stands : {figures : ClaimsFigures} → Replies (lists_of [] [] [] [] []) figures → figures ≡ answered
empty_list_stands {figures} replies =
    told_once (lists_of [] [] [] [] []) figures answered replies (tells_checked (record { of_millikelvin = refl; of_pascals = refl; of_sides = refl; of_roots = refl }) (all_stand none_before refl))
