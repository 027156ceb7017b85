-- Quotients rounded down: they keep the order, and one can be worked out in parts. Assumes nothing.
use mathlib.Core.Logic.{⊎_elim}
use mathlib.Core.Path.{◌≡◌, sym, ap, ◌∙◌}
use Prim.Native.Nat.{ℕ, ◌+◌, ◌*◌, ◌/◌, ◌%◌, ◌≤◌, ◌<◌}
use native.Mathlib.Nat.{mul-le-mul_left, div-mul-le_self, div-add-mod, le-div_iff_mul-le, mul-add-div_right, eq-zero-or-pos, div-zero, le_refl, le_of_eq}
use native.Mathlib.Omega.{arith}

pub quotient_from : {k x c : ℕ} → 0 < c → k * c ≤ x → k ≤ x / c
quotient_from some times = (le-div_iff_mul-le some).1 times

-- more above the bar and less below it make no smaller quotient
pub quotient_grows : {x y c d : ℕ} → 0 < d → d ≤ c → x ≤ y → x / c ≤ y / d
quotient_grows {x} {y} {c} {d} some less more =
    quotient_from some (omega (arith, div-mul-le_self x c, mul-le-mul_left (x / c) less))

-- over the same number, be it 0
pub quotient_rises : {x y : ℕ} (c : ℕ) → x ≤ y → x / c ≤ y / c
quotient_rises {x} {y} c more =
    ⊎_elim (λ none. rw none (le_of_eq (div-zero x ∙ sym (div-zero y)))) (λ some. quotient_grows some (le_refl c) more) (eq-zero-or-pos c)

-- What x leaves over m is carried on: x c is (x / m) c times m, and (x % m) c more.
pub in_parts : (x c m : ℕ) → 0 < m → x / m * c + x % m * c / m ≡ x * c / m
in_parts x c m some =
    let whole : x / m * c * m + x % m * c ≡ x * c = omega (arith, ap (λ (t : ℕ). t * c) (div-add-mod x m)) in
    sym (rw whole at (mul-add-div_right some (x / m * c) (x % m * c)))
