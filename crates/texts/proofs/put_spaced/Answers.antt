-- `texts::put_spaced` meets its contract: its parts, one behind another. Assumes nothing.
use mathlib.Core.Path.{refl}
use Rattle.texts.proofs.Numbers.{spaced_put}
use Rattle.texts.proofs.put_spaced.Goals as goal

pub returns : goal.returns
returns c =
    spaced_put c.args.number c.requires c.put-digits.ensures c.put_number.ensures refl
