use native.Mathlib.Omega.{arith}
use Rattle.squares.proofs.Digits.{one_too_large, one_fits}
use Rattle.squares.proofs.next_digit.Goals as goal
use Rattle.squares.proofs.next_digit.Goals.{then-left-product, else-left-product}

pub loop-tried-preserved : goal.loop-tried-preserved
loop-tried-preserved c =
    let loop = c.loop-tried in
    let is_product = c.product.ensures in
    elim c.if-left-product.branch [
      | then-left-product w ↦
          (loop.invariant.0, rw w.digit-is (one_too_large loop.invariant.1 (omega arith) (omega (arith, w.if-left-product.true, is_product))))
      | else-left-product w ↦
          (loop.tried, rw w.digit-is (one_fits loop.invariant.1 (omega arith) (omega (arith, w.if-left-product.false, is_product))))
    ]
