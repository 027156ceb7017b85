-- docs/RULES.md, "Replies": checks are made in an order, and "the first that applies is given, and none is given where none applies". A call has
-- a list of checks, in that order; what is said here is said of any such list.
use Rattle.std.specs.Prelude.{◌≡◌, ◌⊎◌, List, [], ◌∷◌, ℕ}

-- a number of the table of replies, and when it applies
pub record Check : Type 1 where
  pub number : ℕ
  pub Applies : Type 0

infix 90 ◌if◌
abbrev pub ◌if◌ : (number : ℕ) (Applies : Type 0) → Check
number if Applies = record { number = number; Applies = Applies }

abbrev pub NoneOf : List Check → Type 0
NoneOf [] = Unit {0}
NoneOf (check ∷ checks) = (check.Applies → ⊥) × NoneOf checks

-- this is the number of the first that applies
abbrev pub FirstOf : List Check → (refusal : ℕ) → Type 0
FirstOf [] refusal = ⊥
FirstOf (check ∷ checks) refusal =
    (check.Applies × (refusal ≡ check.number)) ⊎ ((check.Applies → ⊥) × FirstOf checks refusal)

-- What a call tells: the first refusal that applies, as it is told, or, where none applies, an answer.
pub data Tells {Figures : Type 0} (checks : List Check) (Refused : (refusal : ℕ) → Figures → Type 0) (Answers : Figures → Type 0) (figures : Figures) : Type 0 where
  refuses : (refusal : ℕ) → FirstOf checks refusal → Refused refusal figures → Tells checks Refused Answers figures
  answers : NoneOf checks → Answers figures → Tells checks Refused Answers figures

-- what comes back of a call whose refusals bring a number and nothing else
pub data Outcome (Value : Type 0) : Type 0 where
  with_value : Value → Outcome Value
  with_number : (refusal : ℕ) → Outcome Value

abbrev pub Gives : {Value : Type 0} (checks : List Check) (Is : Value → Type 0) → Outcome Value → Type 0
Gives checks Is (with_value given) = NoneOf checks × Is given
Gives checks Is (with_number refusal) = FirstOf checks refusal
