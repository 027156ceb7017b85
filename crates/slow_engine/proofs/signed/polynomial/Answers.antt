-- `slow_engine::signed::polynomial` meets its contract: its body is the definition, and every number on the way has room. Assumes nothing.
use mir.ValLaws.{to_z-of_z}
use Rattle.cubic.specs.Cubic.{polynomial}
use Rattle.slow_engine.proofs.signed.polynomial.Goals as goal

pub returns : goal.returns
unfolding polynomial
returns c =
    let fits = c.ranges in
    let room = c.requires in
    simp (to_z-of_z, fits.n, fits.a, fits.b, fits.z, room.zz, room.zzz, room.nz, room.nzz, room.less_nzz, room.na, room.bb, room.less_bb, room.nb, room.less_nb, room.times_z, room.with_times_z, room.nab, room.less_nab)
