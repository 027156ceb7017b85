-- A fraction rounded down is one number, and a test that computes tells whether a number is it. Assumes nothing.
use mathlib.Core.Path.{◌≡◌}
use mathlib.Core.Bool.{Bool, ◌&&◌}
use Prim.Native.Nat.{ℕ, ◌+◌, ◌*◌, ◌≤◌}
use native.Mathlib.Nat.{le_antisymm, mul-le-mul_right}
use native.Mathlib.Omega.{arith}
use native.Mathlib.Decide.{dec_le}
use lib.Dec.{T, le→leb}
use lib.IntN.{pos}
use lib.Signed.{le_z, lt_z, le_z_yes, lt_z_yes, <ℤ-≤ℤ_trans, clash_ℤ}
use mir.Facts.{and_yes}
use Rattle.heat_table.specs.Fractions.{Fraction, RoundedDown}

abbrev pub rounded_holds : Fraction → ℕ → Bool
rounded_holds x n = le_z (pos (n * x.denominator)) x.numerator && lt_z x.numerator (pos ((n + 1) * x.denominator))

pub passed : (x : Fraction) (n : ℕ) → T (rounded_holds x n) → RoundedDown x n
passed x n test =
    let both = and_yes (le_z (pos (n * x.denominator)) x.numerator) (lt_z x.numerator (pos ((n + 1) * x.denominator))) test in
    record { at_most = le_z_yes both.0; next_is_more = lt_z_yes both.1 }

not_more : {x : Fraction} {n m : ℕ} → RoundedDown x n → RoundedDown x m → n ≤ m
not_more {x} {n} {m} p q = by_test (dec_le n m)
  where
    by_test : Dec (n ≤ m) → n ≤ m
    by_test (yes h) = h
    by_test (no f) =
        let more : m + 1 ≤ n = omega arith in
        clash_ℤ (<ℤ-≤ℤ_trans q.next_is_more (le_z_yes (le→leb ((m + 1) * x.denominator) (n * x.denominator) (mul-le-mul_right x.denominator more)))) p.at_most

pub rounded_once : {x : Fraction} {n m : ℕ} → RoundedDown x n → RoundedDown x m → n ≡ m
rounded_once p q = le_antisymm (not_more p q) (not_more q p)
