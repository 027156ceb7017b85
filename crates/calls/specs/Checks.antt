-- What a call is checked for behind its state, before the slot of its book: the side it names (docs/RULES.md, "Sides").
use Rattle.std.specs.Prelude.{◌≡◌, List, [], ◌∷◌}
use Rattle.refusals.specs.Checks.{Check, ◌if◌}
use Rattle.replies.specs.Sides.{gas, dense}
use Rattle.calls.specs.declared.Form.{Form}
use Rattle.calls.specs.declared.Form.TheVariants.{Whole, Side}

-- a call for the whole reply names no side that could be wrong
abbrev pub form_checks : Form → List Check
form_checks Whole = []
form_checks (Side side) = 12 if ((side ≡ gas → ⊥) × (side ≡ dense → ⊥)) ∷ []
