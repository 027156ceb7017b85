-- The least number of a kind that can be tested, found from any one of the kind. Assumes nothing.
use mathlib.Core.Path.{subst}
use mathlib.Core.Logic.{⊎_elim}
use Prim.Native.Nat.{ℕ, zero, suc, ◌+◌, ◌<◌}
use native.Mathlib.Nat.{add-zero, zero-add, add-suc, suc-add, le_of_suc-le-suc, eq-or-lt_of_le, not-suc-le-zero}

pub record Least (P : ℕ → Type 0) : Type 0 where
  pub at : ℕ
  pub holds : P at
  pub none_before : (y : ℕ) → y < at → P y → ⊥

module _ (P : ℕ → Type 0) (test : (n : ℕ) → Dec (P n)) where
  seek : (from left : ℕ) → ((y : ℕ) → y < from → P y → ⊥) → P (from + left) → Least P
  seek from zero none p = record { at = from; holds = rw add-zero at p; none_before = none }
  seek from (suc left) none p = by_test (test from) (λ further. seek (suc from) left further (rw (add-suc, ← suc-add) at p))
    where
      further : (P from → ⊥) → (y : ℕ) → y < suc from → P y → ⊥
      further f y before q =
          ⊎_elim (λ same. f (subst P same q)) (λ earlier. none y earlier q) (eq-or-lt_of_le (le_of_suc-le-suc before))

      by_test : Dec (P from) → (((y : ℕ) → y < suc from → P y → ⊥) → Least P) → Least P
      by_test (yes q) go_on = record { at = from; holds = q; none_before = none }
      by_test (no f) go_on = go_on (further f)

  pub least : (n : ℕ) → P n → Least P
  least n p = seek zero n (λ y before q. not-suc-le-zero before) (rw zero-add p)
