-- docs/RULES.md, "Points worked through": what a row of the table says of the definitions of `cubic`, `fluid` and `state`.
use Rattle.std.specs.Prelude.{◌≡◌, List, [], ◌∷◌, ℕ, ◌≤◌, ℤ, Ok}
use Rattle.refusals.specs.Checks.{Check}
use Rattle.books.specs.Layouts.{slot_checks}
use Rattle.books.specs.Bytes.{in_bytes}
use Rattle.cubic.specs.Cubic.{g}
use Rattle.fluid.specs.declared.choice.Fluid.{Fluid}
use Rattle.fluid.specs.declared.coefficients.Reduced.{Reduced}
use Rattle.fluid.specs.Figures.{number_of, critical_millikelvin, critical_pascals}
use Rattle.fluid.specs.Reduced.{Reduces}
use Rattle.replies.specs.declared.Answer.{Answer}
use Rattle.replies.specs.declared.Figures.{Figures}
use Rattle.replies.specs.Figures.{refused_with, figures_of}
use Rattle.state.specs.Replies.{Told}

-- the pressures, or the slots, of which a row speaks
pub data Span : Type 0 where
  only up_to : ℕ → Span
  all : Span

abbrev pub ForEach : Span → (ℕ → Type 0) → Type 0
ForEach (only n) Holds = Holds n
ForEach (up_to n) Holds = (k : ℕ) → k ≤ n → Holds k
ForEach all Holds = (k : ℕ) → Holds k

-- An answered row is a state with its critical constants, its coefficients, the slots and the answer; a value row is g(z) for an a and a b;
-- a refused row has the fluid's number, the temperature, the pressures, the slots and the number of the refusal.
pub data Row : Type 0 where
  answered : (fluid : Fluid) (millikelvin pascals critical_temperature critical_pressure : ℕ) → Reduced → (slots : Span) → Answer → Row
  value : (a b z : ℕ) → ℤ → Row
  refused : (number millikelvin : ℕ) (pressures slots : Span) (refusal : ℕ) → Row

-- what a call with a book of 192 bytes is checked for
abbrev pub in_book : (slot : ℕ) → List Check
in_book slot = slot_checks in_bytes slot 192

-- and what it tells, whatever they are; but for 4 a call without a book tells it too
abbrev pub Replied : (number millikelvin pascals slot : ℕ) → Figures → Type 0
Replied number millikelvin pascals slot = Told number millikelvin pascals (in_book slot)

pub record RightAnswer (fluid : Fluid) (millikelvin pascals critical_temperature critical_pressure : ℕ) (reduced : Reduced) (slots : Span) (answer : Answer) : Type 0 where
  pub is_critical_millikelvin : critical_temperature ≡ critical_millikelvin fluid millikelvin
  pub is_critical_pascals : critical_pressure ≡ critical_pascals fluid millikelvin
  pub reduces : Reduces fluid millikelvin pascals reduced
  pub replies : ForEach slots (λ slot. Replied (number_of fluid) millikelvin pascals slot (figures_of (Ok answer)))

abbrev pub RightRefusal : (number millikelvin : ℕ) (pressures slots : Span) (refusal : ℕ) → Type 0
RightRefusal number millikelvin pressures slots refusal =
    ForEach pressures (λ pascals. ForEach slots (λ slot. Replied number millikelvin pascals slot (refused_with refusal)))

abbrev pub Right : Row → Type 0
Right (answered fluid millikelvin pascals critical_temperature critical_pressure reduced slots answer) =
    RightAnswer fluid millikelvin pascals critical_temperature critical_pressure reduced slots answer
Right (value a b z is) = g a b z ≡ is
Right (refused number millikelvin pressures slots refusal) = RightRefusal number millikelvin pressures slots refusal

pub data Every (Holds : Row → Type 0) : List Row → Type 0 where
  none : Every Holds []
  next : {row : Row} {rows : List Row} → Holds row → Every Holds rows → Every Holds (row ∷ rows)
