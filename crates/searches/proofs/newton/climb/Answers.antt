use mathlib.Core.Path.{◌≡◌}
use Prim.Native.Nat.{ℕ, ◌-◌}
use native.Mathlib.Omega.{arith}
use Rattle.cubic.specs.Sides.{plus, minus, rise, NotPositiveTo, ClimbsFrom}
use Rattle.cubic.proofs.Shape.{to_b}
use Rattle.cubic.proofs.Room.{jump}
use Rattle.cubic.proofs.Climbs.{Climbing, not_positive_at, climb_flat, climb_misses, climb_finds, climb_goes_on}
use Rattle.searches.proofs.newton.climb.Goals as goal

pub returns-then-cubic-ge-BEND : goal.returns-then-cubic-ge-BEND
unfolding NotPositiveTo
returns-then-cubic-ge-BEND c = record { not_positive = λ y h. to_b _ _ y (omega arith); found = λ h. omega arith; to_bend = omega arith }

pub loop-cubic-init : goal.loop-cubic-init
unfolding NotPositiveTo
loop-cubic-init c = record { before_bend = omega arith; not_positive = λ y h. to_b _ _ y (omega arith) }

pub returns-then-slope-eq0 : goal.returns-then-slope-eq0
returns-then-slope-eq0 c = climb_flat c.if-slope-eq0.true c.rise-slope.ensures c.loop-cubic.invariant

pub overflow_sub-room : goal.overflow_sub-room
overflow_sub-room c = omega (arith, not_positive_at _ _ c.loop-cubic.invariant)

-- a turn's values, once they are all worked out
turn : {a b low above below slope : ℕ} → ClimbsFrom a b low → above ≡ plus a low → below ≡ minus a b low → slope ≡ rise a b low →
    Climbing a b low (below - above) slope
turn {a} {b} begins is_above is_below is_slope =
    record { is_room = omega (arith, not_positive_at a b begins); is_slope = is_slope; begins = begins }

pub returns-then-room-slope : goal.returns-then-room-slope
returns-then-room-slope c = climb_finds c.if-room-slope.true (turn c.loop-cubic.invariant c.plus.ensures c.minus.ensures c.rise-slope.ensures)

pub returns-then-low-jump : goal.returns-then-low-jump
returns-then-low-jump c =
    climb_misses (jump (omega arith)) (turn c.loop-cubic.invariant c.plus.ensures c.minus.ensures c.rise-slope.ensures)

pub loop-cubic-preserved : goal.loop-cubic-preserved
loop-cubic-preserved c =
    climb_goes_on (omega arith) (turn c.loop-cubic.invariant c.plus.ensures c.minus.ensures c.rise-slope.ensures)
