-- The straight line, rounded down, over plain numbers: it is one number, at its ends it is its ends, and it never leaves what lies between them.
-- Assumes nothing.
use mathlib.Core.Path.{◌≡◌, ap}
use Prim.Native.Nat.{ℕ, ◌+◌, ◌*◌, ◌-◌, ◌/◌, ◌≤◌, ◌<◌}
use native.Mathlib.Nat.{mul-le-mul, mul-le-mul_right}
use native.Mathlib.Omega.{arith}
use native.Mathlib.Decide.{dec_le}
use Rattle.heat_table.specs.Line.{OnLine, Between, rising, falling}

-- 64 bits hold what either end adds, where the ends have 16 bits
pub record Shares (below above past : ℕ) : Type 0 where
  pub of_below : below * (1000 - past) ≤ 65535 * 1000
  pub of_above : above * past ≤ 65535 * 1000

pub shares : {below above past : ℕ} → below ≤ 65535 → above ≤ 65535 → past ≤ 1000 → Shares below above past
shares {past = past} below_fits above_fits inside =
    let ahead : 1000 - past ≤ 1000 = omega arith in
    record { of_below = mul-le-mul below_fits ahead; of_above = mul-le-mul above_fits inside }

pub rounded : {below above past heat : ℕ} → past ≤ 1000 → heat * 1000 ≤ below * (1000 - past) + above * past → below * (1000 - past) + above * past < (heat + 1) * 1000 → OnLine below above past heat
rounded {past = past} inside at_most next_is_more =
    record { ahead = 1000 - past; is_ahead = omega arith; at_most = at_most; next_is_more = next_is_more }

-- and there is such a number
pub line_exists : (below above past : ℕ) → past ≤ 1000 → OnLine below above past ((below * (1000 - past) + above * past) / 1000)
line_exists below above past inside = rounded inside (omega arith) (omega arith)

pub starts : (below above : ℕ) → OnLine below above 0 below
starts below above = rounded (omega arith) (omega arith) (omega arith)

pub ends : (below above : ℕ) → OnLine below above 1000 above
ends below above = rounded (omega arith) (omega arith) (omega arith)

module _ {below above past heat : ℕ} (line : OnLine below above past heat) where
  -- what neither end is below, the line is not below either, and so with above
  at_least : {bound : ℕ} → bound ≤ below → bound ≤ above → bound ≤ heat
  at_least {bound} to_below to_above =
      omega (arith, line, mul-le-mul_right line.ahead to_below, mul-le-mul_right past to_above, ap (λ (t : ℕ). bound * t) line.is_ahead)

  no_more : {bound : ℕ} → below ≤ bound → above ≤ bound → heat ≤ bound
  no_more {bound} from_below from_above =
      omega (arith, line, mul-le-mul_right line.ahead from_below, mul-le-mul_right past from_above, ap (λ (t : ℕ). bound * t) line.is_ahead)

  pub lies_between : Between below above heat
  lies_between = by_test (dec_le below above)
    where
      by_test : Dec (below ≤ above) → Between below above heat
      by_test (yes h) = rising (at_least (omega arith) h) (no_more h (omega arith))
      by_test (no f) = falling (at_least (omega arith) (omega arith)) (no_more (omega arith) (omega arith))

  pub line_once : {other : ℕ} → OnLine below above past other → heat ≡ other
  line_once line' =
      let ahead : line.ahead ≡ line'.ahead = omega (arith, line.is_ahead, line'.is_ahead) in
      omega (arith, line, line', ap (λ (t : ℕ). below * t) ahead)

  pub at_start : past ≡ 0 → heat ≡ below
  at_start is_0 = line_once (rw is_0 (starts below above))

  pub at_end : past ≡ 1000 → heat ≡ above
  at_end is_1000 = line_once (rw is_1000 (ends below above))
