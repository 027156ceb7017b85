-- docs/RULES.md, "Sheets": how a sheet is written from a list of states for each section. A good sheet is bytes that such lists write to.
use Rattle.std.specs.Prelude.{◌≡◌, List, [], ◌∷◌, ◌++◌, Bool, true, false, ℕ, zero, suc, ◌+◌, ◌/◌, ◌%◌, ◌≤◌, ◌<◌, ltb, length}
use Rattle.sheets.specs.declared.State.{State}

-- hydrogen, then oxygen, then nitrogen
abbrev pub all_sections : ℕ
all_sections = 3

-- of a section
abbrev pub most_states : ℕ
most_states = 1000

abbrev pub line_end : ℕ
line_end = 10

abbrev pub space : ℕ
space = 32

-- in ASCII
abbrev pub digit : ℕ → ℕ
digit number = 48 + number

abbrev pub behind : Bool → (number : ℕ) → List ℕ → List ℕ
behind true number higher = digit number ∷ []
behind false number higher = higher ++ (digit (number % 10) ∷ [])

-- the digits of a number that has at most so many, the highest first: a number below ten is one digit, and any other its tenth part and
-- then its last digit
unfoldable pub digits : (places number : ℕ) → List ℕ
digits zero number = []
digits (suc places) number = behind (ltb number 10) number (digits places (number / 10))

-- the smallest number of eleven digits
abbrev pub eleven_digits : ℕ
eleven_digits = 10000000000

-- at most ten digits
abbrev pub Writable : ℕ → Type 0
Writable number = number < eleven_digits

unfoldable pub decimal : ℕ → List ℕ
decimal number = digits 10 number

pub record Pair : Type 0 where
  pub millikelvin : ℕ
  pub pascals : ℕ

pub record WritablePair (pair : Pair) : Type 0 where
  pub temperature : Writable pair.millikelvin
  pub pressure : Writable pair.pascals

-- a temperature, one space, a pressure
unfoldable pub pair_text : Pair → List ℕ
pair_text pair = decimal pair.millikelvin ++ (space ∷ decimal pair.pascals)

-- every line ends in byte 10
abbrev pub line : (text : List ℕ) → List ℕ
line text = text ++ (line_end ∷ [])

unfoldable pub state_lines : List Pair → List ℕ
state_lines [] = []
state_lines (pair ∷ pairs) = line (pair_text pair) ++ state_lines pairs

-- a count line, and then as many state lines
unfoldable pub section : List Pair → List ℕ
section pairs = line (decimal (length pairs)) ++ state_lines pairs

unfoldable pub sheet : List (List Pair) → List ℕ
sheet [] = []
sheet (pairs ∷ lists) = section pairs ++ sheet lists

abbrev pub EachWritable : List Pair → Type 0
EachWritable [] = Unit {0}
EachWritable (pair ∷ pairs) = WritablePair pair × EachWritable pairs

pub record WritableSection (pairs : List Pair) : Type 0 where
  pub count : length pairs ≤ most_states
  pub states : EachWritable pairs

abbrev pub EachSection : List (List Pair) → Type 0
EachSection [] = Unit {0}
EachSection (pairs ∷ lists) = WritableSection pairs × EachSection lists

-- a good sheet of so many sections
pub record Good (sections : ℕ) (bytes : List ℕ) (lists : List (List Pair)) : Type 0 where
  pub has_sections : length lists ≡ sections
  pub writable : EachSection lists
  pub written : bytes ≡ sheet lists

-- the state lines of a section, each with the section's fluid
abbrev pub of_fluid : (fluid : ℕ) → List Pair → List State
of_fluid fluid [] = []
of_fluid fluid (pair ∷ pairs) =
    record { fluid = fluid; millikelvin = pair.millikelvin; pascals = pair.pascals } ∷ of_fluid fluid pairs

-- the state lines of all sections, one after another; fluids are numbered on, from that of the first
abbrev pub states_from : (fluid : ℕ) → List (List Pair) → List State
states_from fluid [] = []
states_from fluid (pairs ∷ lists) = of_fluid fluid pairs ++ states_from (suc fluid) lists

abbrev pub sum_of_counts : List (List Pair) → ℕ
sum_of_counts [] = 0
sum_of_counts (pairs ∷ lists) = length pairs + sum_of_counts lists
