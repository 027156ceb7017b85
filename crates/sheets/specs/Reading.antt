-- docs/RULES.md, "Sheets" and "A sheet walked": a sheet read line by line, from any cursor on. The line that begins where the cursor stands either
-- may stand there, or the sheet is over, or nothing that begins there may stand there: then that is the place of the fault.
use Rattle.std.specs.Prelude.{◌≡◌, List, [], ◌∷◌, ◌++◌, Bool, true, false, ℕ, suc, ◌+◌, ◌-◌, ◌≤◌, ◌<◌, eqb, length, drop, Option, Some, None, Result, Ok, Err}
use Rattle.sheets.specs.declared.State.{State}
use Rattle.sheets.specs.declared.Cursor.{Cursor}
use Rattle.sheets.specs.declared.Fault.{Fault}
use Rattle.sheets.specs.declared.Fault.TheVariants.{Malformed, TooLong}
use Rattle.sheets.specs.declared.StateLine as Declared
use Rattle.sheets.specs.Grammar.{most_states, line_end, decimal, Pair, WritablePair, pair_text}

-- what comes next: a state line and the cursor behind it, the end of a good sheet, or a fault
abbrev pub Next : Type 0
Next = Result (Option Declared.StateLine) Fault

abbrev pub start : Cursor
start = record { begun = 0; left = 0; place = 0 }

-- from the cursor on, the bytes are a line of this text and then the rest
pub record Begins (bytes : List ℕ) (cursor : Cursor) (text : List ℕ) : Type 0 where
  pub rest : List ℕ
  pub splits : drop cursor.place bytes ≡ text ++ (line_end ∷ rest)

-- a state line stands where the section lacks one; its fluid is the number of its section, from 0
pub record StateLine (bytes : List ℕ) (cursor : Cursor) (state : State) (after : Cursor) : Type 0 where
  pub pair : Pair
  pub writable : WritablePair pair
  pub begins : Begins bytes cursor (pair_text pair)
  pub wanted : 0 < cursor.left
  pub is_state : state ≡ record { fluid = cursor.begun - 1; millikelvin = pair.millikelvin; pascals = pair.pascals }
  pub moves : after ≡ record { begun = cursor.begun; left = cursor.left - 1; place = cursor.place + suc (length (pair_text pair)) }

-- `bytes`, read as a sheet of so many sections
module _ (sections : ℕ) (bytes : List ℕ) where
  -- a count line stands where no state line is wanted and a section is: it begins the section
  pub record CountLine (cursor after : Cursor) : Type 0 where
    pub count : ℕ
    pub begins : Begins bytes cursor (decimal count)
    pub none_left : cursor.left ≡ 0
    pub wanted : cursor.begun < sections
    pub few : count ≤ most_states
    pub moves : after ≡ record { begun = suc cursor.begun; left = count; place = cursor.place + suc (length (decimal count)) }

  -- no line is wanted, and nothing follows
  pub record IsOver (cursor : Cursor) : Type 0 where
    pub none_left : cursor.left ≡ 0
    pub none_wanted : sections ≤ cursor.begun
    pub nothing_follows : drop cursor.place bytes ≡ []

  -- no line that begins here may stand here, and a line is wanted or something follows
  pub record IsFault (cursor : Cursor) (place : ℕ) : Type 0 where
    pub no_count_line : (after : Cursor) → CountLine cursor after → ⊥
    pub no_state_line : (state : State) (after : Cursor) → StateLine bytes cursor state after → ⊥
    pub not_over : IsOver cursor → ⊥
    pub is_place : place ≡ cursor.place

  abbrev pub Here : (cursor : Cursor) → Next → Type 0
  Here cursor (Ok (Some line)) = StateLine bytes cursor line.state line.after
  Here cursor (Ok None) = IsOver cursor
  Here cursor (Err (Malformed place)) = IsFault cursor place
  Here cursor (Err TooLong) = ⊥

  -- what comes next, behind any count lines
  pub data Comes : (cursor : Cursor) (next : Next) → Type 0 where
    behind_count : {cursor after : Cursor} {next : Next} → CountLine cursor after → Comes after next → Comes cursor next
    here : {cursor : Cursor} {next : Next} → Here cursor next → Comes cursor next

  -- the reading from a cursor on: state lines, one after another, and what comes behind the last of them
  abbrev pub Reads : (cursor : Cursor) → List State → (last : Next) → Type 0
  Reads cursor [] last = Comes cursor last
  Reads cursor (state ∷ states) last = (after : Cursor) × Comes cursor (Ok (Some (record { state = state; after = after }))) × Reads after states last

  -- read line by line from the start, the sheet has a fault at this place
  pub record FaultAt (place : ℕ) : Type 0 where
    pub before : List State
    pub reads : Reads start before (Err (Malformed place))

abbrev pub up_to : Bool → (byte : ℕ) → List ℕ → List ℕ
up_to true byte others = []
up_to false byte others = byte ∷ others

-- the bytes before the first byte 10, or all of them
abbrev pub line_of : List ℕ → List ℕ
line_of [] = []
line_of (byte ∷ bytes) = up_to (eqb byte line_end) byte (line_of bytes)
