-- A fact with a test that computes and shows it, and the ways to make one from others: so the test of a row is written down together with
-- the law that it is sound. Compared numbers are mostly left out, `_`: the fact that is to be shown decides them. Assumes nothing.
use mathlib.Core.Path.{◌≡◌}
use mathlib.Core.Bool.{Bool, true, false, not, ◌&&◌, ◌||◌}
use Prim.Native.Nat.{ℕ, ◌≤◌, ◌<◌}
use lib.Dec.{T, T_not, leb, ltb, eqb, leb→le, ltb→lt, eqb→eq, eqb_refl}

-- What is made of these is an `abbrev`, so that the test of a row of numerals computes.
pub record Tested (Fact : Type 0) : Type 0 where
  pub test : Bool
  pub shows : T test → Fact

-- `by f with s with t` passes where s and t do, and f makes its fact of theirs
abbrev pub by : {A : Type 0} → A → Tested A
by a = record { test = true; shows = λ passed. a }

pub apply : {A B : Type 0} (s t : Bool) → (T s → A → B) → (T t → A) → T (s && t) → B
apply true t f a passed = f tt (a passed)
apply false t f a passed = absurd passed

infixl 10 ◌with◌
abbrev pub ◌with◌ : {A B : Type 0} → Tested (A → B) → Tested A → Tested B
f with a = record { test = f.test && a.test; shows = apply f.test a.test f.shows a.shows }

pub choose : {A : Type 0} (s t : Bool) → (T s → A) → (T t → A) → T (s || t) → A
choose true t a b passed = a tt
choose false t a b passed = b passed

infixl 5 ◌or◌
abbrev pub ◌or◌ : {A : Type 0} → Tested A → Tested A → Tested A
a or b = record { test = a.test || b.test; shows = choose a.test b.test a.shows b.shows }

abbrev pub never : {A : Type 0} → Tested A
never = record { test = false; shows = λ passed. absurd passed }

module _ (m n : ℕ) where
  abbrev pub equal : Tested (m ≡ n)
  equal = record { test = eqb m n; shows = eqb→eq m n }

  pub unequal : T (not (eqb m n)) → m ≡ n → ⊥
  unequal passed same = T_not (eqb m n) passed (rw same (eqb_refl n))

  abbrev pub differ : Tested (m ≡ n → ⊥)
  differ = record { test = not (eqb m n); shows = unequal }

  abbrev pub at_most : Tested (m ≤ n)
  at_most = record { test = leb m n; shows = leb→le m n }

  abbrev pub below : Tested (m < n)
  below = record { test = ltb m n; shows = ltb→lt m n }
