-- The toolchain writes a number by its fewest digits, and the grammar by its tenth part and its last digit: the two are one text. Assumes
-- nothing.
use mathlib.Core.Path.{◌≡◌, refl, sym, ap, ◌∙◌}
use mathlib.Core.List.{[], ◌∷◌}
use Prim.Native.Nat.{ℕ, zero, suc, ◌-◌, ◌*◌, ◌/◌, ◌%◌, ◌^◌, ◌≤◌, ◌<◌}
use native.Mathlib.Nat.{pow-le-pow_right}
use native.Mathlib.Decide.{dec_le}
use native.Mathlib.Omega.{arith}
use lib.ListN.{length, length-append}
use borrow.Author.Tests.{lt-ltb, le-ltb}
use Rattle.io.specs.Digits as toolchain
use Rattle.io.specs.Digits.{IsDigitCount}
use Rattle.sheets.specs.Grammar.{digits, decimal, Writable}
use Rattle.sheets.proofs.Digits.{room, enough}
use Rattle.buffers.specs.Puts.{most_digits}

-- the tenth part of a number has a digit less
tenth : (number places : ℕ) → IsDigitCount 10 1 number (suc (suc places)) → (10 ≤ number) × IsDigitCount 10 1 (number / 10) (suc places)
tenth number places fewest =
    let some : 1 ≤ 10 ^ places = pow-le-pow_right {n = 10} (omega arith) {i = 0} {j = places} (omega arith) in
    let one_less : suc (suc places) - 1 ≡ suc places = omega arith in
    let two_less : suc places - 1 ≡ places = omega arith in
    let power : 10 ^ suc places ≤ number = rw one_less at (fewest.2 (omega arith)) in
    (omega arith, (omega arith, omega (arith, fewest.1), λ more. rw two_less (omega arith)))

pub toolchain_digits : (places most number : ℕ) → IsDigitCount 10 1 number places → places ≤ most → toolchain.last_digits 10 places number ≡ digits most number
unfolding digits
toolchain_digits zero most number fewest enough = absurd (omega (arith, fewest.0))
toolchain_digits (suc places) zero number fewest enough = absurd (omega arith)
toolchain_digits (suc zero) (suc most) number fewest enough =
    let small : number < 10 = omega (arith, fewest.1) in
    let last : number % 10 ≡ number = omega arith in
    simp (last, lt-ltb number 10 small)
toolchain_digits (suc (suc places)) (suc most) number fewest enough =
    let parts = tenth number places fewest in
    let last : number % 10 < 10 = omega arith in
    simp (le-ltb number 10 parts.0, lt-ltb (number % 10) 10 last, toolchain_digits (suc places) most (number / 10) parts.1 (omega arith))

-- a number below a power of ten has no more digits than that has zeros
pub no_more_digits : (number places zeros : ℕ) → IsDigitCount 10 1 number places → 1 ≤ zeros → number < 10 ^ zeros → places ≤ zeros
no_more_digits number places zeros fewest some below = few_or_many (dec_le places zeros)
  where
    few_or_many : Dec (places ≤ zeros) → places ≤ zeros
    few_or_many (yes few) = few
    few_or_many (no many) =
        let power : 10 ^ zeros ≤ 10 ^ (places - 1) = pow-le-pow_right {n = 10} (omega arith) (omega arith) in
        absurd (omega (arith, power, fewest.2 (omega arith)))

pub digits_long : (places number : ℕ) → length (toolchain.last_digits 10 places number) ≡ places
digits_long zero number = refl
digits_long (suc places) number = omega (arith, digits_long places (number / 10), length-append (toolchain.last_digits 10 places (number / 10)) (toolchain.hex_digit_ascii (number % 10) ∷ []))

-- so a number of at most ten digits has as many as it takes to hold it
pub fewest_is_length : (places number : ℕ) → Writable number → IsDigitCount 10 1 number places → places ≡ length (decimal number)
unfolding decimal
fewest_is_length places number writable fewest =
    sym (digits_long places number) ∙ ap length (toolchain_digits places 10 number fewest (no_more_digits number places 10 fewest (omega arith) (omega arith)))

-- more places change nothing for such a number
abbrev raised : (more places : ℕ) → ℕ
raised zero places = places
raised (suc more) places = raised more (suc places)

widened : (more places number : ℕ) → number < 10 * room places → digits (suc places) number ≡ digits (raised more (suc places)) number
widened zero places number below = refl
widened (suc more) places number below = enough places number below ∙ widened more (suc places) number (omega arith)

pub digits_are_decimal : (number : ℕ) → Writable number → digits most_digits number ≡ decimal number
unfolding decimal
digits_are_decimal number writable = sym (widened 10 9 number writable)
