use Rattle.cubic.proofs.Room.{flat, jump}
use Rattle.cubic.proofs.Falls.{fall_misses, fall_finds, fall_goes_on}
use Rattle.searches.proofs.newton.fall.Goals as goal

pub returns-then-slope-eq0 : goal.returns-then-slope-eq0
returns-then-slope-eq0 c = fall_misses (flat c.if-slope-eq0.true) c.loop-cubic.invariant

pub returns-then-room-slope : goal.returns-then-room-slope
returns-then-room-slope c = fall_finds c.if-room-slope.true c.loop-cubic.invariant

pub returns-then-high-jump : goal.returns-then-high-jump
returns-then-high-jump c = fall_misses (jump c.if-high-jump.true) c.loop-cubic.invariant

pub place_at-place-requires : goal.place_at-place-requires
place_at-place-requires c = fall_goes_on c.if-high-jump.false c.loop-cubic.invariant
