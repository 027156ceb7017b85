-- Tests at each number of a span. A fact that depends on the number is tested number by number, which at all numbers cannot be; one that
-- does not is tested once, and is had of each by `at_each`. Assumes nothing.
use mathlib.Core.Path.{◌≡◌, subst}
use Prim.Native.Nat.{ℕ, zero, suc, ◌≤◌}
use native.Mathlib.Omega.{arith}
use native.Mathlib.Decide.{dec_le}
use Rattle.worked.specs.Rows.{Span, only, up_to, all, ForEach}
use Rattle.worked.proofs.Tests.{Tested, by, ◌with◌, never}

module _ (Holds : ℕ → Type 0) where
  pub at_zero : Holds zero → (k : ℕ) → k ≤ zero → Holds k
  at_zero holds k limit = let same : zero ≡ k = omega arith in subst Holds same holds

  pub one_more : (n : ℕ) → Holds (suc n) → ((k : ℕ) → k ≤ n → Holds k) → (k : ℕ) → k ≤ suc n → Holds k
  one_more n last before k limit = by_order (dec_le k n)
    where
      by_order : Dec (k ≤ n) → Holds k
      by_order (yes h) = before k h
      by_order (no f) = let same : suc n ≡ k = omega arith in subst Holds same last

  abbrev pub through : (n : ℕ) → ((k : ℕ) → Tested (Holds k)) → Tested ((k : ℕ) → k ≤ n → Holds k)
  through zero tested = by at_zero with tested zero
  through (suc n) tested = by (one_more n) with tested (suc n) with through n tested

module _ {Holds : ℕ → Type 0} where
  abbrev pub for_each : (span : Span) → ((n : ℕ) → Tested (Holds n)) → Tested (ForEach span Holds)
  for_each (only n) tested = tested n
  for_each (up_to n) tested = through Holds n tested
  for_each all tested = never

  pub at_each : (span : Span) → ((n : ℕ) → Holds n) → ForEach span Holds
  at_each (only n) holds = holds n
  at_each (up_to n) holds = λ k limit. holds k
  at_each all holds = holds

  -- what holds of each number of a span, and then something else of each
  pub then_each : {Follows : ℕ → Type 0} (span : Span) → ((n : ℕ) → Holds n → Follows n) → ForEach span Holds → ForEach span Follows
  then_each (only n) follows holds = follows n holds
  then_each (up_to n) follows holds = λ k limit. follows k (holds k limit)
  then_each all follows holds = λ k. follows k (holds k)
