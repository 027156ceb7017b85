-- Where t, p, s, a and b of an accepted state lie. Each fluid gives round ends for its t and p; the rest is the same for all: a quotient
-- grows with what stands above its bar and falls with what stands below, so a and b are at most what the ends make them. Assumes nothing.
use Prim.Native.Nat.{ℕ, ◌+◌, ◌*◌, ◌/◌, ◌≤◌, ◌<◌}
use native.Mathlib.Nat.{le_trans, mul-le-mul, mul-le-mul_left, mul-pos, div-mul-le_self, div-le_of_le-mul}
use native.Mathlib.Omega.{arith}
use Rattle.fluid.specs.declared.choice.Fluid.{Fluid}
use Rattle.fluid.specs.declared.choice.Fluid.TheVariants.{Hydrogen, Oxygen, Nitrogen}
use Rattle.fluid.specs.Figures.{lowered, critical_millikelvin, critical_pascals, coldest, hottest, lowest, highest, Accepted}
use Rattle.squares.specs.SquareRoot.{SquareRoot}
use Rattle.numbers.proofs.Quotients.{quotient_from, quotient_grows}
use Rattle.squares.proofs.Squares.{root_below}

-- ends for t, s and p, and that the a and b they come to are within bounds
pub record Ends (least_t least_s greatest_p : ℕ) : Type 0 where
  pub some_t : 0 < least_t
  pub some_s : 0 < least_s
  pub s_from : least_s * least_s ≤ 10000 * least_t
  pub p_fits : greatest_p ≤ 62800000
  pub a_fits : 42748000000 * greatest_p / (least_t * least_t * least_s) ≤ 11500000
  pub b_fits : 8664 * greatest_p / (100 * least_t) ≤ 1000000

-- what lies between such ends: the critical constants are not 0, and not large, and b is not 0 either
pub record Spans (least_t greatest_p tc pc t p : ℕ) : Type 0 where
  pub some_tc : 0 < tc
  pub some_pc : 0 < pc
  pub pc_to : pc ≤ 10000000
  pub t_from : least_t ≤ t
  pub t_to : t ≤ 410000
  pub p_to : p ≤ greatest_p
  pub some_b : 100 * t ≤ 8664 * p

-- Hydrogen's critical constants grow with the temperature, from 24599 mK and 797620 Pa at 14 K.
module _ (millikelvin : ℕ) (from_coldest : coldest Hydrogen ≤ millikelvin) where
  tc_from : 24500 ≤ critical_millikelvin Hydrogen millikelvin
  unfolding lowered
  tc_from = quotient_from (omega arith) (omega arith)

  pc_from : 797000 ≤ critical_pascals Hydrogen millikelvin
  unfolding lowered
  pc_from = quotient_from (omega arith) (omega arith)

  pc_to : critical_pascals Hydrogen millikelvin ≤ 2046765
  unfolding lowered
  pc_to = div-le_of_le-mul _ (omega arith)

  -- its t grows too: Tc times m + shift is at most 43600 m, and m + shift is least at 14 K
  t_from : 5600 ≤ 10000 * millikelvin / critical_millikelvin Hydrogen millikelvin
  unfolding lowered
  t_from =
      let m : ℕ = 201594 * millikelvin in
      let tc : ℕ = 43600 * m / (m + 2180000000) in
      quotient_from (omega (arith, tc_from))
      (omega (arith, div-mul-le_self (43600 * m) (m + 2180000000), mul-le-mul_left tc from_coldest))

pub hydrogen_spans : (millikelvin pascals : ℕ) → Accepted Hydrogen millikelvin pascals → let tc = critical_millikelvin Hydrogen millikelvin in let pc = critical_pascals Hydrogen millikelvin in Spans 5600 62800000 tc pc (10000 * millikelvin / tc) (1000000 * pascals / pc)
hydrogen_spans millikelvin pascals accepted =
    let cold = accepted.from_coldest in
    let tc = critical_millikelvin Hydrogen millikelvin in
    let pc = critical_pascals Hydrogen millikelvin in
    let t_to : 10000 * millikelvin / tc ≤ 10000 * hottest / 24500 = quotient_grows {y = 10000 * hottest} (omega arith) (tc_from millikelvin cold) (omega arith) in
    let p_to : 1000000 * pascals / pc ≤ 1000000 * highest / 797000 = quotient_grows {y = 1000000 * highest} (omega arith) (pc_from millikelvin cold) (omega arith) in
    let p_from : 1000000 * lowest / 2046765 ≤ 1000000 * pascals / pc = quotient_grows {x = 1000000 * lowest} (omega (arith, pc_from millikelvin cold)) (pc_to millikelvin cold) (omega arith) in
    omega (arith, tc_from millikelvin cold, pc_from millikelvin cold, pc_to millikelvin cold, t_from millikelvin cold)

-- for every fluid there are such ends
pub record Spanned (tc pc t p : ℕ) : Type 0 where
  pub least_t : ℕ
  pub least_s : ℕ
  pub greatest_p : ℕ
  pub ends : Ends least_t least_s greatest_p
  pub spans : Spans least_t greatest_p tc pc t p

pub spanned : (fluid : Fluid) (millikelvin pascals : ℕ) → Accepted fluid millikelvin pascals → let tc = critical_millikelvin fluid millikelvin in let pc = critical_pascals fluid millikelvin in Spanned tc pc (10000 * millikelvin / tc) (1000000 * pascals / pc)
spanned Hydrogen millikelvin pascals accepted =
    record { least_t = 5600; least_s = 7483; greatest_p = 62800000; ends = omega arith; spans = hydrogen_spans millikelvin pascals accepted }
spanned Oxygen millikelvin pascals accepted =
    record { least_t = 3600; least_s = 6000; greatest_p = 10000000; ends = omega arith; spans = omega arith }
spanned Nitrogen millikelvin pascals accepted =
    record { least_t = 5000; least_s = 7000; greatest_p = 15000000; ends = omega arith; spans = omega arith }

-- What follows for every fluid alike.
pub record Bounds (t p s : ℕ) : Type 0 where
  pub some_t : 0 < t
  pub t_to : t ≤ 410000
  pub p_to : p ≤ 62800000
  pub tt_to : t * t ≤ 410000 * 410000
  pub divisor_to : t * t * s ≤ 410000 * 410000 * 64100
  pub some_divisor : 0 < t * t * s
  pub a_to : 42748000000 * p / (t * t * s) ≤ 11500000
  pub b_from : 1 ≤ 8664 * p / (100 * t)
  pub b_to : 8664 * p / (100 * t) ≤ 1000000

pub bounds : {tc pc t p s : ℕ} → Spanned tc pc t p → SquareRoot (10000 * t) s → Bounds t p s
bounds {t = t} {p} {s} h root =
    let ends = h.ends in
    let spans = h.spans in
    let s_from : h.least_s ≤ s = root.largest h.least_s (omega arith) in
    let s_to : s ≤ 64100 = omega (arith, root_below s 64101 (omega (arith, root.square))) in
    let divisor_from : h.least_t * h.least_t * h.least_s ≤ t * t * s = mul-le-mul (mul-le-mul spans.t_from spans.t_from) s_from in
    let some_divisor : 0 < h.least_t * h.least_t * h.least_s = mul-pos (mul-pos ends.some_t ends.some_t) ends.some_s in
    record {
      some_t = omega arith;
      t_to = omega arith;
      p_to = omega arith;
      tt_to = mul-le-mul spans.t_to spans.t_to;
      divisor_to = mul-le-mul (mul-le-mul spans.t_to spans.t_to) s_to;
      some_divisor = omega arith;
      a_to = le_trans (quotient_grows some_divisor divisor_from (omega arith)) ends.a_fits;
      b_from = quotient_from (omega arith) (omega arith);
      b_to = le_trans (quotient_grows {d = 100 * h.least_t} (omega arith) (omega arith) (omega arith)) ends.b_fits;
    }
