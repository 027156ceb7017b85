-- docs/RULES.md, "The report": what the replies to a section's states come to. Each figure of a report is said by what it is of the list of these
-- replies: how many there are, a sum, the least or the largest, and the first line that reaches it.
use Rattle.std.specs.Prelude.{◌≡◌, Bool, List, [], ◌∷◌, ◌++◌, ℕ, ◌+◌, ◌<◌, eqb, length, filter}
use Rattle.cubic.specs.Cubic.{Kind, ONE, SPLIT}
use Rattle.replies.specs.declared.Figures.{Figures}
use Rattle.replies.specs.Figures.{number_of_kind}
use Rattle.tallies.specs.declared.Reached.{Reached}
use Rattle.tallies.specs.declared.Section.{Section}

-- the reply to a state, and the line on which the state stands
pub record Entry : Type 0 where
  pub line : ℕ
  pub figures : Figures

abbrev pub density : Entry → ℕ
density entry = entry.figures.gas_density

abbrev pub how_many : (test : Entry → Bool) → List Entry → ℕ
how_many test entries = length (filter test entries)

abbrev pub of_kind : Kind → Entry → Bool
of_kind kind entry = eqb entry.figures.kind (number_of_kind kind)

abbrev pub of_number : (number : ℕ) → Entry → Bool
of_number number entry = eqb entry.figures.number number

-- an answer has number 0
abbrev pub answered : List Entry → List Entry
answered entries = filter (of_number 0) entries

abbrev pub sum_of : List Entry → ℕ
sum_of [] = 0
sum_of (entry ∷ entries) = density entry + sum_of entries

abbrev pub Each : (Entry → Type 0) → List Entry → Type 0
Each Holds [] = Unit {0}
Each Holds (entry ∷ entries) = Holds entry × Each Holds entries

-- The first that reaches what no other is beyond: it is beyond all before it, and none behind it is beyond it.
pub record FirstReaching (Beyond : (density other : ℕ) → Type 0) (entries : List Entry) (reached : Reached) : Type 0 where
  pub before : List Entry
  pub first : Entry
  pub behind : List Entry
  pub splits : entries ≡ before ++ (first ∷ behind)
  pub is_reached : reached ≡ record { density = density first; line = first.line }
  pub beyond_before : Each (λ entry. Beyond (density first) (density entry)) before
  pub none_beyond : Each (λ entry. Beyond (density entry) (density first) → ⊥) behind

abbrev pub nothing_reached : Reached
nothing_reached = record { density = 0; line = 0 }

-- zeros where there is none
abbrev pub Reaches : (Beyond : (density other : ℕ) → Type 0) → List Entry → Reached → Type 0
Reaches Beyond [] reached = reached ≡ nothing_reached
Reaches Beyond (entry ∷ entries) reached = FirstReaching Beyond (entry ∷ entries) reached

abbrev pub Smaller : (density other : ℕ) → Type 0
Smaller density other = density < other

abbrev pub Larger : (density other : ℕ) → Type 0
Larger density other = other < density

-- what a section's replies come to
pub record SectionOf (entries : List Entry) (section : Section) : Type 0 where
  pub counts_one : section.one ≡ how_many (of_kind ONE) entries
  pub counts_split : section.split ≡ how_many (of_kind SPLIT) entries
  pub counts_21 : section.temperature_too_low ≡ how_many (of_number 21) entries
  pub counts_22 : section.temperature_too_high ≡ how_many (of_number 22) entries
  pub counts_31 : section.pressure_too_low ≡ how_many (of_number 31) entries
  pub counts_32 : section.pressure_too_high ≡ how_many (of_number 32) entries
  pub is_sum : section.sum ≡ sum_of (answered entries)
  pub is_smallest : Reaches Smaller (answered entries) section.smallest
  pub is_largest : Reaches Larger (answered entries) section.largest
