-- A list of numbers, asked for one that has too many digits. Assumes nothing.
use mathlib.Core.Bool.{Bool, true, false}
use mathlib.Core.List.{List, [], ◌∷◌}
use mathlib.Core.Logic.{inl, inr}
use Prim.Native.Nat.{ℕ, zero, suc, ◌<◌}
use native.Mathlib.Omega.{arith}
use lib.ListN.{length}
use Rattle.std.specs.Bool.{MatchBool}
use Rattle.std.specs.List.{AllWithin, HoldsAt}
use Rattle.sheets.specs.Grammar.{eleven_digits}
use Rattle.measures.specs.Checks.{Some, TooManyDigits}
use Rattle.measures.specs.Inside.{Decides}

some_at : (numbers : List ℕ) (k : ℕ) → k < length numbers → HoldsAt TooManyDigits numbers k → Some TooManyDigits numbers
some_at [] k below many = absurd (omega arith)
some_at (number ∷ numbers) zero below many = inl (many 0)
some_at (number ∷ numbers) (suc k) below many = inr (some_at numbers k (omega arith) many)

none_within : (numbers : List ℕ) → AllWithin (λ number. number < eleven_digits) numbers 0 (length numbers) → Some TooManyDigits numbers → ⊥
none_within [] few some = some
none_within (number ∷ numbers) few (inl many) = omega (arith, few 0 0 (omega arith) (omega arith))
none_within (number ∷ numbers) few (inr some) = none_within numbers (λ k d at_least below. few (suc k) d (omega arith) (omega arith)) some

-- what is found is so
pub some_decided : (numbers : List ℕ) (found : Bool) → MatchBool found ((k : ℕ) × (k < length numbers) × HoldsAt TooManyDigits numbers k) (AllWithin (λ number. number < eleven_digits) numbers 0 (length numbers)) → Decides (Some TooManyDigits numbers) found
some_decided numbers true found = some_at numbers found.0 found.1 found.2
some_decided numbers false few = none_within numbers few
