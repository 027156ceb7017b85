-- The one law that ties the signed g of the rules to its two halves over naturals: g(z) = plus(z) - minus(z).
-- After this file nothing is signed. Assumes nothing.
use mathlib.Core.Path.{◌≡◌, refl, ap}
use mathlib.Core.Bool.{Bool, true, false, cond}
use Prim.Native.Nat.{ℕ, zero, suc, ◌+◌, ◌*◌, ◌-◌, ◌<◌}
use native.Mathlib.Omega.{arith}
use lib.Dec.{ltb}
use borrow.Author.Tests.{ltb-true, ltb-false}
use lib.IntN.{ℤ, pos, negsuc, neg_ℤ, sub_ℕ, ◌+ℤ◌, ◌*ℤ◌}
use Rattle.cubic.specs.Cubic.{N, polynomial, g, Positive}
use Rattle.cubic.specs.Sides.{plus, minus}

abbrev pub Differ : ℤ → ℕ → ℕ → Type 0
Differ (pos n) x y = n + y ≡ x
Differ (negsuc n) x y = x + suc n ≡ y

-- the signed number i is x less y
pub record Less (i : ℤ) (x y : ℕ) : Type 0 where
  pub differ : Differ i x y

pub whole : (n : ℕ) → Less (pos n) n 0
whole n = omega arith

less : (m n : ℕ) → Less (sub_ℕ m n) m n
less m n = by_test (ltb m n) refl
  where
    by_test : (t : Bool) → ltb m n ≡ t → Less (cond t (negsuc (n - suc m)) (pos (m - n))) m n
    by_test true e = omega (arith, ltb-true m n e)
    by_test false e = omega (arith, ltb-false m n e)

-- the same number as another difference
moved : {i : ℤ} {x y v w : ℕ} → Less i x y → x + w ≡ v + y → Less i v w
moved {i = pos n} h e = omega arith
moved {i = negsuc n} h e = omega arith

pub sum : {i j : ℤ} {x y v w : ℕ} → Less i x y → Less j v w → Less (i +ℤ j) (x + v) (y + w)
sum {i = pos m} {j = pos n} h k = omega arith
sum {i = pos m} {j = negsuc n} h k = moved (less m (suc n)) (omega arith)
sum {i = negsuc m} {j = pos n} h k = moved (less n (suc m)) (omega arith)
sum {i = negsuc m} {j = negsuc n} h k = omega arith

pub opposite : {i : ℤ} {x y : ℕ} → Less i x y → Less (neg_ℤ i) y x
opposite {i = pos zero} h = omega arith
opposite {i = pos (suc n)} h = omega arith
opposite {i = negsuc n} h = omega arith

pub scaled : {i : ℤ} {x y : ℕ} (z : ℕ) → Less i x y → Less (i *ℤ pos z) (x * z) (y * z)
scaled {i = pos n} z h = record { differ = omega (arith, ap (λ (t : ℕ). t * z) h.differ) }
scaled {i = negsuc n} z h = moved (opposite (whole (suc n * z))) (omega (arith, ap (λ (t : ℕ). t * z) h.differ))

g_is : (a b z : ℕ) → Less (g a b z) (plus a z) (minus a b z)
unfolding g polynomial plus minus
g_is a b z =
    let middle = sum (sum (whole (N * a)) (opposite (whole (b * b)))) (opposite (whole (N * b))) in
    moved (sum (sum (sum (whole (z * z * z)) (opposite (whole (N * z * z)))) (scaled z middle)) (opposite (whole (N * a * b))))
    (omega arith)

pub to_positive : (a b z : ℕ) → minus a b z < plus a z → Positive (g a b z)
to_positive a b z h = from (g a b z) (g_is a b z)
  where
    from : (i : ℤ) → Less i (plus a z) (minus a b z) → Positive i
    from (pos n) l = omega arith
    from (negsuc n) l = omega arith

pub of_positive : (a b z : ℕ) → Positive (g a b z) → minus a b z < plus a z
of_positive a b z = from (g a b z) (g_is a b z)
  where
    from : (i : ℤ) → Less i (plus a z) (minus a b z) → Positive i → minus a b z < plus a z
    from (pos n) l p = omega arith
    from (negsuc n) l p = absurd p
