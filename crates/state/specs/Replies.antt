-- docs/RULES.md, "Replies": what is told of a state, the first refusal that applies, with zeros, and otherwise the gas root, the dense root, their
-- kind and their densities. A caller who names a side is told what the reply has for it ("Sides").
use Rattle.std.specs.Prelude.{◌≡◌, List, ◌++◌, ℕ}
use Rattle.refusals.specs.Checks.{Check, Tells}
use Rattle.cubic.specs.Cubic.{Kind, IsKind}
use Rattle.fluid.specs.Checks.{state_checks}
use Rattle.densities.specs.Densities.{density}
use Rattle.roots.specs.declared.Found.{Found}
use Rattle.roots.specs.Promise.{HasRoots}
use Rattle.calls.specs.declared.Form.{Form}
use Rattle.calls.specs.declared.Form.TheVariants.{Whole, Side}
use Rattle.calls.specs.Checks.{form_checks}
use Rattle.replies.specs.declared.Figures.{Figures}
use Rattle.replies.specs.declared.sides.SideFigures.{SideFigures}
use Rattle.replies.specs.Figures.{answered_with, refused_with}
use Rattle.replies.specs.Sides.{SideOf}

abbrev pub NumberAndZeros : (refusal : ℕ) → Figures → Type 0
NumberAndZeros refusal figures = figures ≡ refused_with refusal

pub record Answered (number millikelvin pascals : ℕ) (figures : Figures) : Type 0 where
  pub found : Found
  pub roots : HasRoots number millikelvin pascals found
  pub kind : Kind
  pub is_kind : IsKind found.gas found.dense kind
  pub is_figures : figures ≡ answered_with kind found.gas found.dense (density found.fluid millikelvin pascals found.gas) (density found.fluid millikelvin pascals found.dense)

-- the reply to a call whose own checks stand behind the state's
abbrev pub Told : (number millikelvin pascals : ℕ) (more : List Check) → Figures → Type 0
Told number millikelvin pascals more =
    Tells (state_checks number millikelvin pascals ++ more) NumberAndZeros (Answered number millikelvin pascals)

-- without a book there is no slot to be wrong
abbrev pub RepliesAs : Form → (number millikelvin pascals : ℕ) → Figures → Type 0
RepliesAs form number millikelvin pascals = Told number millikelvin pascals (form_checks form)

abbrev pub Replies : (number millikelvin pascals : ℕ) → Figures → Type 0
Replies = RepliesAs Whole

abbrev pub RepliesForSide : (number millikelvin pascals side : ℕ) → SideFigures → Type 0
RepliesForSide number millikelvin pascals side = SideOf side (RepliesAs (Side side) number millikelvin pascals)
