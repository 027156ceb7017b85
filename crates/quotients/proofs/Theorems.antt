-- Every two numbers have one quotient, and it is the logic's own. Assumes nothing.
use Rattle.std.proofs.Common.{◌≡◌, ℕ, ◌/◌, sym, ◌∙◌, ⊎_elim, eq-zero-or-pos, le_antisymm}
use native.Mathlib.Nat.{div-zero}
use Rattle.quotients.specs.Quotient.{Quotient}
use Rattle.quotients.proofs.Quotients.{over_zero, divided}

-- two answers that keep what `quotient` promises are equal
pub quotient_determined : {n divisor r s : ℕ} → Quotient n divisor r → Quotient n divisor s → r ≡ s
quotient_determined {n} {divisor} {r} {s} p q =
    ⊎_elim (λ none. p.of_zero none ∙ sym (q.of_zero none)) (λ some. le_antisymm (q.largest some r p.product) (p.largest some s q.product)) (eq-zero-or-pos divisor)

pub quotient_exists : (n divisor : ℕ) → Quotient n divisor (n / divisor)
quotient_exists n divisor =
    ⊎_elim (λ none. over_zero none (rw none (div-zero n))) (λ some. divided some) (eq-zero-or-pos divisor)

pub is_the_quotient : {n divisor r : ℕ} → Quotient n divisor r → r ≡ n / divisor
is_the_quotient {n} {divisor} p = quotient_determined p (quotient_exists n divisor)
