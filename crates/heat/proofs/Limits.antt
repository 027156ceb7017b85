-- A temperature against a whole number of kelvin: what a comparison of doubles tells of the exact fractions, and the other way round. These
-- laws serve every limit, and a NaN needs no case of its own: it passes no comparison. Assumes nothing.
use mathlib.Core.Path.{◌≡◌, subst}
use mathlib.Core.Bool.{Bool, true, false}
use Prim.Native.Nat.{ℕ, ◌*◌, ◌≤◌, ◌<◌}
use native.Mathlib.Nat.{lt_of_not-le}
use native.Mathlib.Omega.{arith}
use lib.Dec.{T}
use Rattle.std.proofs.lemmas.Float.{T_from_true}
use lib.Ieee.{Float, le}
use lib.Ieee.Positive.{positive, num, den, le→cross, cross→le}

-- the double is the whole number n
abbrev pub Whole : ℕ → Float → Type 0
Whole n limit = T (positive limit) × (num limit ≡ n) × (den limit ≡ 1)

failed : {test : Bool} → test ≡ false → T test → ⊥
failed left test = subst T left test

pub at_least : (n : ℕ) (limit kelvin : Float) → Whole n limit → T (positive kelvin) → le limit kelvin ≡ true → n * den kelvin ≤ num kelvin
at_least n limit kelvin whole is_number taken =
    omega (arith, simp (whole.1, whole.2) at (le→cross limit kelvin whole.0 is_number (T_from_true _ taken)))

pub at_most : (n : ℕ) (limit kelvin : Float) → Whole n limit → T (positive kelvin) → le kelvin limit ≡ true → num kelvin ≤ n * den kelvin
at_most n limit kelvin whole is_number taken =
    omega (arith, simp (whole.1, whole.2) at (le→cross kelvin limit is_number whole.0 (T_from_true _ taken)))

pub below : (n : ℕ) (limit kelvin : Float) → Whole n limit → T (positive kelvin) → le limit kelvin ≡ false → num kelvin < n * den kelvin
below n limit kelvin whole is_number left =
    lt_of_not-le
    (λ (from : n * den kelvin ≤ num kelvin).
    failed left (cross→le limit kelvin whole.0 is_number (simp (whole.1, whole.2) (omega (arith, from)))))

pub above : (n : ℕ) (limit kelvin : Float) → Whole n limit → T (positive kelvin) → le kelvin limit ≡ false → n * den kelvin < num kelvin
above n limit kelvin whole is_number left =
    lt_of_not-le
    (λ (to : num kelvin ≤ n * den kelvin).
    failed left (cross→le kelvin limit is_number whole.0 (simp (whole.1, whole.2) (omega (arith, to)))))
