-- docs/RULES.md, "A sheet walked": what `woolyard_sheet_next` leaves with its caller. The sheet itself is only read.
use Rattle.std.specs.Prelude.{◌≡◌, List, ◌∷◌, [], ℕ, get_or, Ok, Err, Some, None}
use Rattle.sheets.specs.declared.State.{State}
use Rattle.sheets.specs.declared.Cursor.{Cursor}
use Rattle.sheets.specs.declared.Fault.TheVariants.{Malformed, TooLong}
use Rattle.sheets.specs.Reading.{Next}
use Rattle.readings.specs.Figures.{next_figures}
use Rattle.readings.specs.Replies.{NextIs}

-- sections begun, state lines that the last of them lacks, place of the next line
abbrev pub cursor_of : (numbers : List ℕ) → Cursor
cursor_of numbers = record { begun = get_or numbers 0 0; left = get_or numbers 1 0; place = get_or numbers 2 0 }

abbrev pub cursor_numbers : Cursor → List ℕ
cursor_numbers cursor = cursor.begun ∷ cursor.left ∷ cursor.place ∷ []

-- fluid, temperature, pressure
abbrev pub state_numbers : State → List ℕ
state_numbers state = state.fluid ∷ state.millikelvin ∷ state.pascals ∷ []

abbrev pub three_zeros : List ℕ
three_zeros = 0 ∷ 0 ∷ 0 ∷ []

-- 16 where no state line is left
abbrev pub next_number : Next → ℕ
next_number (Ok (Some line)) = 0
next_number (Ok None) = 16
next_number (Err (Malformed place)) = 6
next_number (Err TooLong) = 7

-- a line that is told moves the cursor behind it, and nothing else moves it
abbrev pub cursor_after : (before : List ℕ) → Next → List ℕ
cursor_after before (Ok (Some line)) = cursor_numbers line.after
cursor_after before (Ok None) = before
cursor_after before (Err (Malformed place)) = before
cursor_after before (Err TooLong) = before

abbrev pub next_state : Next → List ℕ
next_state (Ok (Some line)) = state_numbers line.state
next_state (Ok None) = three_zeros
next_state (Err (Malformed place)) = three_zeros
next_state (Err TooLong) = three_zeros

pub record NextAnswers (bytes before : List ℕ) (number : ℕ) (after state : List ℕ) : Type 0 where
  pub reply : Next
  pub next_is : NextIs bytes (cursor_of before) (next_figures reply)
  pub is_number : number ≡ next_number reply
  pub is_after : after ≡ cursor_after before reply
  pub is_state : state ≡ next_state reply

-- calls one after another, each from where the one before it left the cursor: the states that they told, and the number of the call that told none
abbrev pub Walked : (bytes cursor : List ℕ) → List State → (last : ℕ) → Type 0
Walked bytes cursor [] last = (after state : List ℕ) × NextAnswers bytes cursor last after state × (last ≡ 0 → ⊥)
Walked bytes cursor (told ∷ states) last = (after : List ℕ) × NextAnswers bytes cursor 0 after (state_numbers told) × Walked bytes after states last
