-- `buffers::put_number` meets its contract: the toolchain's digits are the grammar's. Assumes nothing.
use mathlib.Core.Path.{◌∙◌}
use Prim.Native.Nat.{◌≤◌}
use native.Mathlib.Omega.{arith}
use Rattle.buffers.specs.Puts.{most_digits}
use Rattle.buffers.proofs.Digits.{no_more_digits, toolchain_digits}
use Rattle.buffers.proofs.Holding.{puts_same}
use Rattle.buffers.proofs.put_number.Goals as goal

pub returns : goal.returns
returns c =
    let few : c.decimal-count.result ≤ most_digits = no_more_digits c.args.number _ most_digits c.decimal-count.ensures.len (omega arith) (omega arith) in
    puts_same (c.decimal-count.ensures.digits ∙ toolchain_digits _ most_digits _ c.decimal-count.ensures.len few) c.put.ensures
