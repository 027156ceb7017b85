-- What a call tells is fixed where each refusal is told in one way and an answer is one; and every list of checks that can each be decided
-- gives a first that applies or none. Assumes nothing.
use mathlib.Core.Path.{◌≡◌, refl, sym, ap, subst, ◌∙◌}
use mathlib.Core.Logic.{◌⊎◌, inl, inr}
use mathlib.Core.List.{List, [], ◌∷◌, ◌++◌}
use mathlib.Core.Bool.{false, cond}
use Prim.Native.Nat.{ℕ}
use native.Mathlib.Omega.{arith}
use lib.Dec.{eqb}
use Rattle.refusals.specs.declared.Refusal.{Refusal}
use Rattle.refusals.specs.declared.Refusal.TheVariants.{NoSuchFluid, TemperatureTooLow, TemperatureTooHigh, PressureTooLow, PressureTooHigh, NoSuchSide, NoSuchSlot, WalkCutShort, ScalingOutOfRange, RootDiffers}
use Rattle.std.specs.Prelude.{Result, Ok, Err}
use Rattle.refusals.specs.Numbers.{number_of_refusal, outcome}
use Rattle.refusals.proofs.Lists.{none_or_first, has_number, number_on_list}
use Rattle.refusals.specs.Checks.{Check, NoneOf, FirstOf, Tells, refuses, answers, Outcome, with_value, with_number, Gives}

pub first_once : (checks : List Check) (refusal other : ℕ) → FirstOf checks refusal → FirstOf checks other → refusal ≡ other
first_once [] refusal other first first' = absurd first
first_once (check ∷ checks) refusal other (inl here) (inl here') = here.1 ∙ sym here'.1
first_once (check ∷ checks) refusal other (inl here) (inr later) = absurd (later.0 here.0)
first_once (check ∷ checks) refusal other (inr later) (inl here) = absurd (later.0 here.0)
first_once (check ∷ checks) refusal other (inr later) (inr later') = first_once checks refusal other later.1 later'.1

module _ {Figures : Type 0} (checks : List Check) {Refused : ℕ → Figures → Type 0} {Answers : Figures → Type 0} (refused_once : (refusal : ℕ) (figures other : Figures) → Refused refusal figures → Refused refusal other → figures ≡ other) (answered_once : (figures other : Figures) → Answers figures → Answers other → figures ≡ other) where
  pub tells_once : (figures other : Figures) → Tells checks Refused Answers figures → Tells checks Refused Answers other → figures ≡ other
  tells_once figures other (refuses refusal first told) (refuses refusal' first' told') =
      refused_once refusal figures other told (subst (λ (n : ℕ). Refused n other) (first_once checks refusal' refusal first' first) told')
  tells_once figures other (refuses refusal first told) (answers none told') = absurd (none_or_first checks refusal none first)
  tells_once figures other (answers none told) (refuses refusal first told') = absurd (none_or_first checks refusal none first)
  tells_once figures other (answers none told) (answers none' told') = answered_once figures other told told'

-- a call to which no check applies is answered
pub none_is_answered : {Figures : Type 0} (checks : List Check) {Refused : ℕ → Figures → Type 0} {Answers : Figures → Type 0} {figures : Figures} → NoneOf checks → Tells checks Refused Answers figures → Answers figures
none_is_answered checks none (refuses refusal first told) = absurd (none_or_first checks refusal none first)
none_is_answered checks none (answers none' given) = given

-- and one that is not answered is refused
pub not_answered_is_refused : {Figures : Type 0} {checks : List Check} {Refused : ℕ → Figures → Type 0} {Answers : Figures → Type 0} {figures : Figures} → (Answers figures → ⊥) → Tells checks Refused Answers figures → (refusal : ℕ) × Refused refusal figures
not_answered_is_refused not_answered (refuses refusal first told) = (refusal, told)
not_answered_is_refused not_answered (answers none given) = absurd (not_answered given)

-- a call that tells 0, which is the number of no check, is answered
pub zero_is_answered : {Figures : Type 0} (number_of_lem : Figures → ℕ) (checks : List Check) {Refused : ℕ → Figures → Type 0} {Answers : Figures → Type 0} {figures : Figures} → has_number 0 checks ≡ false → ((refusal : ℕ) → Refused refusal figures → number_of_lem figures ≡ refusal) → number_of_lem figures ≡ 0 → Tells checks Refused Answers figures → NoneOf checks × Answers figures
zero_is_answered number_of_lem checks without tells_number is_0 (refuses refusal first told) =
    absurd (number_on_list 0 checks refusal without first (sym (tells_number refusal told) ∙ is_0))
zero_is_answered number_of_lem checks without tells_number is_0 (answers none given) = (none, given)

pub gives_once : {Value : Type 0} (checks : List Check) {Is : Value → Type 0} → ((given other : Value) → Is given → Is other → given ≡ other) → (outcome other : Outcome Value) → Gives checks Is outcome → Gives checks Is other → outcome ≡ other
gives_once checks once (with_value given) (with_value given') p q = ap with_value (once given given' p.1 q.1)
gives_once checks once (with_value given) (with_number refusal) p q = absurd (none_or_first checks refusal p.0 q)
gives_once checks once (with_number refusal) (with_value given) p q = absurd (none_or_first checks refusal q.0 p)
gives_once checks once (with_number refusal) (with_number refusal') p q = ap with_number (first_once checks refusal refusal' p q)

-- a check that can be decided, and the refusal that has its number
pub record Decided (check : Check) : Type 0 where
  pub refusal : Refusal
  pub is_number : number_of_refusal refusal ≡ check.number
  pub decide : Dec check.Applies

abbrev pub EachDecided : List Check → Type 0
EachDecided [] = Unit {0}
EachDecided (check ∷ checks) = Decided check × EachDecided checks

pub decided_both : (checks more : List Check) → EachDecided checks → EachDecided more → EachDecided (checks ++ more)
decided_both [] more decided decided_more = decided_more
decided_both (check ∷ checks) more decided decided_more = (decided.0, decided_both checks more decided.1 decided_more)

abbrev pub First : List Check → Type 0
First checks = (refusal : Refusal) × FirstOf checks (number_of_refusal refusal)

pub first_or_none : (checks : List Check) → EachDecided checks → First checks ⊎ NoneOf checks
first_or_none [] decided = inr tt
first_or_none (check ∷ checks) decided = by_test decided.0.decide (first_or_none checks decided.1)
  where
    by_test : Dec check.Applies → First checks ⊎ NoneOf checks → First (check ∷ checks) ⊎ NoneOf (check ∷ checks)
    by_test (yes applies) later = inl (decided.0.refusal, inl (applies, decided.0.is_number))
    by_test (no f) (inl first) = inl (first.0, inr (f, first.1))
    by_test (no f) (inr none) = inr (f, none)

-- the refusal that has a number, among some
unfoldable pub find : ℕ → List Refusal → Refusal
find number [] = NoSuchFluid
find number (refusal ∷ refusals) = cond (eqb (number_of_refusal refusal) number) refusal (find number refusals)

unfoldable pub refusal_of : ℕ → Refusal
refusal_of number = find number (NoSuchFluid ∷ TemperatureTooLow ∷ TemperatureTooHigh ∷ PressureTooLow ∷ PressureTooHigh ∷ NoSuchSide ∷ NoSuchSlot ∷ WalkCutShort ∷ ScalingOutOfRange ∷ RootDiffers ∷ [])

pub refusal_of_number : (refusal : Refusal) → refusal_of (number_of_refusal refusal) ≡ refusal
unfolding refusal_of find
refusal_of_number NoSuchFluid = refl
refusal_of_number TemperatureTooLow = refl
refusal_of_number TemperatureTooHigh = refl
refusal_of_number PressureTooLow = refl
refusal_of_number PressureTooHigh = refl
refusal_of_number NoSuchSide = refl
refusal_of_number NoSuchSlot = refl
refusal_of_number WalkCutShort = refl
refusal_of_number ScalingOutOfRange = refl
refusal_of_number RootDiffers = refl

pub number_determines_refusal : (refusal other : Refusal) → number_of_refusal refusal ≡ number_of_refusal other → refusal ≡ other
number_determines_refusal refusal other same = sym (refusal_of_number refusal) ∙ ap refusal_of same ∙ refusal_of_number other

-- a number is no refusal's where the way back from it ends at a refusal of another number;
pub no_refusal_has : (number : ℕ) → (number_of_refusal (refusal_of number) ≡ number → ⊥) → (refusal : Refusal) → number_of_refusal refusal ≡ number → ⊥
no_refusal_has number unlike refusal is_number =
    unlike (ap number_of_refusal (sym (ap refusal_of is_number) ∙ refusal_of_number refusal) ∙ is_number)

-- so that of an answered call is none's
pub never_zero : (refusal : Refusal) → number_of_refusal refusal ≡ 0 → ⊥
unfolding refusal_of find
never_zero = no_refusal_has 0 (λ same. omega arith)

-- what came back tells which result it was
result_of : {Value : Type 0} → Outcome Value → Result Value Refusal
result_of (with_value value) = Ok value
result_of (with_number refusal) = Err (refusal_of refusal)

result_back : {Value : Type 0} (r : Result Value Refusal) → result_of (outcome r) ≡ r
unfolding result_of
result_back (Ok value) = refl
result_back (Err refusal) = ap Err (refusal_of_number refusal)

-- so two results that keep the same promise are equal, where two values that do are
pub result_once : {Value : Type 0} (checks : List Check) {Is : Value → Type 0} → ((given other : Value) → Is given → Is other → given ≡ other) → (r s : Result Value Refusal) → Gives checks Is (outcome r) → Gives checks Is (outcome s) → r ≡ s
result_once checks once r s p q =
    sym (result_back r) ∙ ap result_of (gives_once checks once (outcome r) (outcome s) p q) ∙ result_back s

-- two answers that keep what `number` promises are equal
pub number_determined : (refusal : Refusal) {number other : ℕ} → number ≡ number_of_refusal refusal → other ≡ number_of_refusal refusal → number ≡ other
number_determined refusal p q = p ∙ sym q
