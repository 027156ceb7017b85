-- `slow_engine::signed::g` meets its contract: it is the polynomial of numbers that have room, read back as they are. Assumes nothing.
use Rattle.slow_engine.proofs.Room.{room_as_read, g_as_read}
use Rattle.slow_engine.proofs.signed.g.Goals as goal

pub polynomial-requires : goal.polynomial-requires
polynomial-requires c = room_as_read c.args.cubic.within c.requires

pub returns : goal.returns
returns c = g_as_read c.args.cubic.within c.requires c.polynomial.ensures
