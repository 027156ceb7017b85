-- None of a list applies or one is the first, and that one's number is on the list; and a list of checks behind another, as a call with a book has
-- behind that of a call without. Assumes nothing.
use mathlib.Core.Path.{◌≡◌, refl, sym, subst, ◌∙◌}
use mathlib.Core.Logic.{inl, inr}
use mathlib.Core.Bool.{Bool, true, false, cond}
use mathlib.Core.List.{List, [], ◌∷◌, ◌++◌}
use Prim.Native.Nat.{ℕ}
use borrow.Author.Tests.{eqb-false}
use lib.Dec.{T, eqb}
use Rattle.refusals.specs.Checks.{Check, NoneOf, FirstOf, Tells, refuses, answers}

pub none_or_first : (checks : List Check) (refusal : ℕ) → NoneOf checks → FirstOf checks refusal → ⊥
none_or_first [] refusal none first = first
none_or_first (check ∷ checks) refusal none (inl here) = none.0 here.0
none_or_first (check ∷ checks) refusal none (inr later) = none_or_first checks refusal none.1 later.1

-- whether a check has the number, which computes where the numbers are written out, however many there are
abbrev pub has_number : (number : ℕ) → List Check → Bool
has_number number [] = false
has_number number (check ∷ checks) = cond (eqb check.number number) true (has_number number checks)

pub number_on_list : (number : ℕ) (checks : List Check) (refusal : ℕ) → has_number number checks ≡ false → FirstOf checks refusal → refusal ≡ number → ⊥
number_on_list number [] refusal without first same = first
number_on_list number (check ∷ checks) refusal without first same =
    by_test (eqb check.number number) refl without first (λ without later. number_on_list number checks refusal without later same)
  where
    by_test : (t : Bool) → eqb check.number number ≡ t → cond t true (has_number number checks) ≡ false → FirstOf (check ∷ checks) refusal → (has_number number checks ≡ false → FirstOf checks refusal → ⊥) → ⊥
    by_test true is_here without first behind = subst T without tt
    by_test false not_here without (inl here) behind = eqb-false check.number number not_here (sym here.1 ∙ same)
    by_test false not_here without (inr later) behind = behind without later.1

pub none_both : (checks more : List Check) → NoneOf checks → NoneOf more → NoneOf (checks ++ more)
none_both [] more none None-more = None-more
none_both (check ∷ checks) more none None-more = (none.0, none_both checks more none.1 None-more)

pub none_front : (checks more : List Check) → NoneOf (checks ++ more) → NoneOf checks
none_front [] more none = tt
none_front (check ∷ checks) more none = (none.0, none_front checks more none.1)

pub first_front : (checks more : List Check) (refusal : ℕ) → FirstOf checks refusal → FirstOf (checks ++ more) refusal
first_front [] more refusal first = absurd first
first_front (check ∷ checks) more refusal (inl here) = inl here
first_front (check ∷ checks) more refusal (inr later) = inr (later.0, first_front checks more refusal later.1)

pub first_behind : (checks more : List Check) (refusal : ℕ) → NoneOf checks → FirstOf more refusal → FirstOf (checks ++ more) refusal
first_behind [] more refusal none first = first
first_behind (check ∷ checks) more refusal none first = inr (none.0, first_behind checks more refusal none.1 first)

-- Behind the same checks others may stand of which the same is told;
first_behind_same : (checks more other : List Check) (refusal : ℕ) → (FirstOf more refusal → FirstOf other refusal) → FirstOf (checks ++ more) refusal → FirstOf (checks ++ other) refusal
first_behind_same [] more other refusal same first = same first
first_behind_same (check ∷ checks) more other refusal same (inl here) = inl here
first_behind_same (check ∷ checks) more other refusal same (inr later) = inr (later.0, first_behind_same checks more other refusal same later.1)

pub none_behind : (checks more : List Check) → NoneOf (checks ++ more) → NoneOf more
none_behind [] more none = none
none_behind (check ∷ checks) more none = none_behind checks more none.1

first_past : (checks more : List Check) (refusal : ℕ) → NoneOf checks → FirstOf (checks ++ more) refusal → FirstOf more refusal
first_past [] more refusal none first = first
first_past (check ∷ checks) more refusal none (inl here) = absurd (none.0 here.0)
first_past (check ∷ checks) more refusal none (inr later) = first_past checks more refusal none.1 later.1

module _ {Figures : Type 0} (checks : List Check) {Refused : ℕ → Figures → Type 0} {Answers : Figures → Type 0} {figures : Figures} where
  pub tells_behind_same : (more other : List Check) → ((refusal : ℕ) → FirstOf more refusal → FirstOf other refusal) → (NoneOf more → NoneOf other) → Tells (checks ++ more) Refused Answers figures → Tells (checks ++ other) Refused Answers figures
  tells_behind_same more other same none (refuses refusal first told) = refuses refusal (first_behind_same checks more other refusal (same refusal) first) told
  tells_behind_same more other same none (answers passed told) =
      answers (none_both checks other (none_front checks more passed) (none (none_behind checks more passed))) told

  -- so checks of which none applies change nothing, behind all others
  pub tells_without : (more : List Check) → NoneOf more → Tells (checks ++ more) Refused Answers figures → Tells (checks ++ []) Refused Answers figures
  tells_without more none = tells_behind_same more [] (λ refusal first. none_or_first more refusal none first) (λ passed. tt)

  -- and between others
  pub tells_without_between : (between more : List Check) → NoneOf between → Tells (checks ++ (between ++ more)) Refused Answers figures → Tells (checks ++ more) Refused Answers figures
  tells_without_between between more none =
      tells_behind_same (between ++ more) more (λ refusal first. first_past between more refusal none first) (λ passed. none_behind between more passed)
