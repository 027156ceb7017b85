-- `texts::line` meets its contract: its parts, one behind another, or nothing. Assumes nothing.
use mathlib.Core.Path.{refl}
use native.Mathlib.Omega.{arith}
use Rattle.texts.proofs.Lines.{numbers_fit, fitted}
use Rattle.texts.proofs.line.Goals as goal

pub put_numbers-numbers_end-requires : goal.put_numbers-numbers_end-requires
put_numbers-numbers_end-requires c =
    let asked = c.args in
    numbers_fit asked.word.now asked.numbers.now (omega arith) (omega arith) (omega arith) c.put-word_end.ensures

pub returns : goal.returns
returns c =
    let asked = c.args in
    fitted asked.word.now asked.numbers.now (omega arith) (omega arith) (omega arith) c.put-word_end.ensures c.put_numbers-numbers_end.ensures c.put-length.ensures refl
