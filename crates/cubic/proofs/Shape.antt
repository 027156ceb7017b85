-- The shape of g, over its two halves: not positive up to b, positive above N + b; and its step is the smaller the nearer z is to the bend.
-- Assumes nothing.
use mathlib.Core.Path.{◌≡◌}
use Prim.Native.Nat.{ℕ, zero, suc, ◌+◌, ◌*◌, ◌-◌, ◌≤◌, ◌<◌}
use native.Mathlib.Nat.{add-zero, add-sub_of_le, mul-le-mul, mul-le-mul_left, mul-le-mul_right, le_of_lt, lt_of_not-le}
use native.Mathlib.Omega.{arith}
use Rattle.cubic.specs.Cubic.{N}
use Rattle.cubic.specs.Sides.{plus, minus, plus_step, minus_step, bend}

-- With w = z (z + b) both halves, and b z z more, are a multiple of w and a multiple of N a:
-- plus is z w + N a z and minus is (N + b) w + N a b. So z against b, and z against N + b, decide.
pub to_b : (a b z : ℕ) → z ≤ b → plus a z ≤ minus a b z
unfolding plus minus
to_b a b z h = omega (arith, mul-le-mul_left (N * a) h, mul-le-mul_right (z * (z + b)) h)

pub above_grid : (a b z : ℕ) → N + b < z → minus a b z < plus a z
unfolding plus minus
above_grid a b z h =
    omega (arith, mul-le-mul_left (N * a) (le_of_lt h), mul-le-mul_right (z * (z + b)) h, mul-le-mul h h)

pub plus_grows : (a z : ℕ) → plus a (suc z) ≡ plus a z + plus_step a z
unfolding plus plus_step
plus_grows a z = omega arith

pub minus_grows : (a b z : ℕ) → minus a b (suc z) ≡ minus a b z + minus_step b z
unfolding minus minus_step
minus_grows a b z = omega arith

plus_step_at : (a z k : ℕ) → plus_step a (z + k) ≡ plus_step a z + k * (3 * (2 * z + k + 1))
unfolding plus_step
plus_step_at a z k = omega arith

minus_step_at : (b z k : ℕ) → minus_step b (z + k) ≡ minus_step b z + k * (2 * N)
unfolding minus_step
minus_step_at b z k = omega arith

-- y lies between z and the bend
pub data Towards (z y : ℕ) : Type 0 where
  upwards : z ≤ y → y ≤ bend → Towards z y
  downwards : bend ≤ y → y ≤ z → Towards z y

-- A bound e on the step of g holds on, all the way to the bend: below it 3 (2 z + k + 1), by which the step of plus grows, is at most
-- the 2 N of minus, and from it on at least that.
pub towards_bend : (a b e : ℕ) {z y : ℕ} → Towards z y → plus_step a z ≤ minus_step b z + e → plus_step a y ≤ minus_step b y + e
towards_bend a b e {z} {y} (upwards above limit) bound = rw add-sub_of_le at (up (y - z) (omega arith))
  where
    up : (k : ℕ) → z + k ≤ bend → plus_step a (z + k) ≤ minus_step b (z + k) + e
    up zero h = rw add-zero bound
    up (suc k) h =
        let narrower : 3 * (2 * z + suc k + 1) ≤ 2 * N = omega arith in
        omega (arith, plus_step_at a z (suc k), minus_step_at b z (suc k), mul-le-mul_left (suc k) narrower)
towards_bend a b e {z} {y} (downwards limit below) bound = down (z - y) (omega arith)
  where
    down : (k : ℕ) → y + k ≡ z → plus_step a y ≤ minus_step b y + e
    down k same =
        let wider : 2 * N ≤ 3 * (2 * y + k + 1) = omega arith in
        omega (arith, rw same at (plus_step_at a y k), rw same at (minus_step_at b y k), mul-le-mul_left k wider)

-- A step that rises rises on, away from the bend.
pub away_from_bend : (a b : ℕ) {z y : ℕ} → Towards z y → minus_step b y < plus_step a y → minus_step b z < plus_step a z
away_from_bend a b between rising = lt_of_not-le (λ low. omega (arith, towards_bend a b 0 between (omega arith)))
