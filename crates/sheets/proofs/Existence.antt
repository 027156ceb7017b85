-- From every cursor something comes next, and every sheet has a reading. Each line that stands uses up a section to begin or bytes to read, and
-- that is what the recursions count down. Assumes nothing.
use mathlib.Core.List.{List, [], ◌∷◌}
use Prim.Native.Nat.{ℕ, zero, suc, ◌-◌, ◌<◌}
use mathlib.Core.Path.{ap}
use native.Mathlib.Nat.{not-suc-le-zero}
use native.Mathlib.Omega.{arith}
use lib.ListN.{length}
use Rattle.sheets.specs.declared.State.{State}
use Rattle.sheets.specs.declared.Cursor.{Cursor}
use Rattle.sheets.specs.Reading.{Next, Comes, behind_count, here, Reads}
use Rattle.sheets.specs.declared.Fault.TheVariants.{Malformed, TooLong}
use Rattle.std.specs.Prelude.{Ok, Err, Some, None}
use Rattle.sheets.specs.declared.Line.{Line}
use Rattle.sheets.specs.declared.Line.TheVariants.{Count, Told}
use Rattle.sheets.specs.Lines.{met}
use Rattle.sheets.proofs.Meets.{Stands, met_stands}
use Rattle.sheets.proofs.Walks.{Ends, comes_moves}

module _ (sections : ℕ) (bytes : List ℕ) where
  pub record Something (cursor : Cursor) : Type 0 where
    pub next : Next
    pub comes : Comes sections bytes cursor next

  -- a count line leaves one section less to begin
  behind_line : (cursor : Cursor) (line : Line) → Stands sections bytes cursor line → ((after : Cursor) → sections - after.begun < sections - cursor.begun → Something after) → Something cursor
  behind_line cursor (Count after) stands later =
      let begun = ap (λ (c : Cursor). c.begun) stands.moves in
      let rest = later after (omega (arith, begun, stands.wanted)) in
      record { next = rest.next; comes = behind_count stands rest.comes }
  behind_line cursor (Told next) stands later = record { next = next; comes = here stands }

  pub something : (more : ℕ) (cursor : Cursor) → sections - cursor.begun < more → Something cursor
  something zero cursor few = absurd (not-suc-le-zero few)
  something (suc more) cursor few =
      behind_line cursor (met sections bytes cursor) (met_stands sections bytes cursor) (λ after fewer. something more after (omega arith))

  pub record Whole (cursor : Cursor) : Type 0 where
    pub states : List State
    pub last : Next
    pub ends : Ends last
    pub reads : Reads sections bytes cursor states last

  -- a state line leaves fewer bytes to read
  behind_state : (cursor : Cursor) (next : Next) → Comes sections bytes cursor next → ((after : Cursor) → length bytes - after.place < length bytes - cursor.place → Whole after) → Whole cursor
  behind_state cursor (Ok (Some line)) comes later =
      let moves = comes_moves bytes comes in
      let rest = later line.after (omega (arith, moves.on, moves.inside)) in
      record { states = line.state ∷ rest.states; last = rest.last; ends = rest.ends; reads = (line.after, comes, rest.reads) }
  behind_state cursor (Ok None) comes later = record { states = []; last = Ok None; ends = tt; reads = comes }
  behind_state cursor (Err (Malformed place)) comes later = record { states = []; last = Err (Malformed place); ends = tt; reads = comes }
  behind_state cursor (Err TooLong) comes later = record { states = []; last = Err TooLong; ends = tt; reads = comes }

  pub whole : (more : ℕ) (cursor : Cursor) → length bytes - cursor.place < more → Whole cursor
  whole zero cursor few = absurd (not-suc-le-zero few)
  whole (suc more) cursor few =
      let first = something (suc sections) cursor (omega arith) in
      behind_state cursor first.next first.comes (λ after fewer. whole more after (omega arith))
