-- The one law that ties the signed quartic of the rules to its halves over naturals. After this file nothing is signed. Assumes nothing.
use mathlib.Core.Path.{◌≡◌, sym, ap, ◌∙◌}
use Prim.Native.Nat.{ℕ, ◌+◌, ◌*◌, ◌-◌, ◌≤◌, ◌<◌}
use native.Mathlib.Nat.{mul-le-mul_right}
use native.Mathlib.Omega.{arith}
use lib.Dec.{leb→le, le→leb, ltb→lt, lt→ltb}
use lib.IntN.{ℤ, pos, neg_ℤ, ◌+ℤ◌, ◌-ℤ◌, +ℤ_assoc, +ℤ_comm, +ℤ-neg_ℤ_cancel}
use Rattle.numbers.proofs.Squares.{twice_product}
use Rattle.viscosity.specs.Quartic.{polynomial, numerator, denominator, RoundedDown}
use Rattle.viscosity.specs.Inside.{added, taken}

-- What is taken away never reaches the last of what is added, 1.0230: the square of 305 x - 765000 is not negative.
pub taken_fits : (x : ℕ) → taken x + 1023000000000000000 ≤ added x
unfolding added taken
taken_fits x = omega (arith, mul-le-mul_right (x * x) (twice_product (305 * x) 765000))

later : (a b c : ℤ) → a -ℤ b +ℤ c ≡ a +ℤ c -ℤ b
later a b c = +ℤ_assoc a (neg_ℤ b) c ∙ ap (λ (t : ℤ). a +ℤ t) (+ℤ_comm (neg_ℤ b) c) ∙ sym (+ℤ_assoc a c (neg_ℤ b))

-- what is taken away second may be taken away last
taken_last : (a b c d e v : ℕ) → v + b ≡ a + c + d + e → pos a -ℤ pos b +ℤ pos c +ℤ pos d +ℤ pos e ≡ pos v
taken_last a b c d e v same =
    ap (λ (t : ℤ). t +ℤ pos d +ℤ pos e) (later (pos a) (pos b) (pos c))
    ∙ ap (λ (t : ℤ). t +ℤ pos e) (later (pos (a + c)) (pos b) (pos d))
    ∙ later (pos (a + c + d)) (pos b) (pos e)
    ∙ ap (λ (n : ℕ). pos n -ℤ pos b) (sym same)
    ∙ +ℤ-neg_ℤ_cancel (pos v) (pos b)

numerator_is : (x : ℕ) → numerator x ≡ pos (added x - taken x)
unfolding numerator polynomial added taken
numerator_is x =
    taken_last (93324 * x * x * x * x) (407580 * 1000 * x * x * x) (585330 * 1000 * 1000 * x * x) (233640 * 1000 * 1000 * 1000 * x)
    (1023000 * 1000 * 1000 * 1000 * 1000) (added x - taken x) (omega (arith, taken_fits x))

-- the quartic rounded down, by its halves
pub record Between (x y : ℕ) : Type 0 where
  pub from : y * denominator + taken x ≤ added x
  pub below : added x < (y + 1) * denominator + taken x

pub between : {x y : ℕ} → RoundedDown x y → Between x y
between {x} {y} down =
    let at_most = leb→le (y * denominator) (added x - taken x) (rw (numerator_is x) at down.at_most.le) in
    let more = ltb→lt (added x - taken x) ((y + 1) * denominator) (rw (numerator_is x) at down.next_is_more.lt) in
    omega (arith, taken_fits x)

pub rounded_down : {x y : ℕ} → Between x y → RoundedDown x y
rounded_down {x} {y} h =
    record {
      at_most = record { le = rw (numerator_is x) (le→leb (y * denominator) (added x - taken x) (omega (arith, taken_fits x))) };
      next_is_more = record { lt = rw (numerator_is x) (lt→ltb (added x - taken x) ((y + 1) * denominator) (omega (arith, taken_fits x))) };
    }
