-- What comes next from a cursor, and how a reading goes on from there: it is determined, it always is, and each state line lies farther on in
-- the sheet. Assumes nothing.
use mathlib.Core.Path.{◌≡◌, refl, sym, ap, subst}
use mathlib.Core.List.{List, [], ◌∷◌}
use Prim.Native.Nat.{ℕ, suc, ◌+◌, ◌≤◌, ◌<◌}
use native.Mathlib.Omega.{arith}
use lib.ListN.{length}
use Rattle.sheets.specs.declared.State.{State}
use Rattle.sheets.specs.declared.Cursor.{Cursor}
use Rattle.sheets.specs.declared.StateLine as Told
use Rattle.sheets.specs.declared.Fault.TheVariants.{Malformed, TooLong}
use Rattle.std.specs.Prelude.{Ok, Err, Some, None}
use Rattle.sheets.specs.Grammar.{decimal, pair_text}
use Rattle.sheets.specs.Reading.{Next, Begins, CountLine, StateLine, Here, Comes, behind_count, here, Reads}
use Rattle.sheets.proofs.Splits.{ends_inside}
use Rattle.sheets.proofs.Meets.{count_met, here_met}

-- a refusal or the end, behind the last state line
abbrev pub Ends : Next → Type 0
Ends (Ok (Some line)) = ⊥
Ends (Ok None) = Unit {0}
Ends (Err (Malformed place)) = Unit {0}
Ends (Err TooLong) = Unit {0}

pub record Same (states states' : List State) (last last' : Next) : Type 0 where
  pub same_states : states ≡ states'
  pub same_last : last ≡ last'

-- a line that stands moves the cursor on, within the sheet
pub record Moves (bytes : List ℕ) (cursor after : Cursor) : Type 0 where
  pub on : cursor.place < after.place
  pub inside : after.place ≤ length bytes

module _ (bytes : List ℕ) where
  moves_behind : (cursor after : Cursor) (text : List ℕ) → Begins bytes cursor text → after.place ≡ cursor.place + suc (length text) → Moves bytes cursor after
  moves_behind cursor after text begins place =
      let ends = ends_inside bytes cursor.place text begins.rest begins.splits in
      record { on = omega arith; inside = omega arith }

  state_moves : (cursor : Cursor) (state : State) (after : Cursor) → StateLine bytes cursor state after → Moves bytes cursor after
  state_moves cursor state after line = moves_behind cursor after (pair_text line.pair) line.begins (ap (λ (c : Cursor). c.place) line.moves)

module _ {sections : ℕ} (bytes : List ℕ) where
  pub count_determined : (cursor after after' : Cursor) → CountLine sections bytes cursor after → CountLine sections bytes cursor after' → after ≡ after'
  count_determined cursor after after' line line' = cc (count_met sections bytes cursor after line, count_met sections bytes cursor after' line')

  count_not_here : (cursor after : Cursor) (next : Next) → CountLine sections bytes cursor after → Here sections bytes cursor next → ⊥
  count_not_here cursor after next line other =
      let never : ◌≡◌ {A = ℕ} 0 1 = cc (count_met sections bytes cursor after line, here_met sections bytes cursor next other) in omega arith

  pub comes_determined : {cursor : Cursor} {next next' : Next} → Comes sections bytes cursor next → Comes sections bytes cursor next' → next ≡ next'
  comes_determined {cursor} {next} {next'} (behind_count {after = after} line comes) (behind_count {after = after'} line' comes') =
      comes_determined comes (subst (λ (c : Cursor). Comes sections bytes c next') (count_determined cursor after' after line' line) comes')
  comes_determined {cursor} {next} {next'} (behind_count {after = after} line comes) (here other) = absurd (count_not_here cursor after next' line other)
  comes_determined {cursor} {next} {next'} (here one) (behind_count {after = after} line comes) = absurd (count_not_here cursor after next line one)
  comes_determined {cursor} {next} {next'} (here one) (here other) = cc (here_met sections bytes cursor next one, here_met sections bytes cursor next' other)

  pub never_too_long : {cursor : Cursor} → Comes sections bytes cursor (Err TooLong) → ⊥
  never_too_long (behind_count line comes) = never_too_long comes
  never_too_long (here none) = none

  count_moves : (cursor after : Cursor) → CountLine sections bytes cursor after → Moves bytes cursor after
  count_moves cursor after line = moves_behind bytes cursor after (decimal line.count) line.begins (ap (λ (c : Cursor). c.place) line.moves)

  pub comes_moves : {cursor : Cursor} {state : State} {after : Cursor} → Comes sections bytes cursor (Ok (Some (record { state = state; after = after }))) → Moves bytes cursor after
  comes_moves {cursor} {state} {after} (behind_count {after = between} line comes) =
      let first = count_moves cursor between line in
      let second = comes_moves comes in
      record { on = omega (arith, first.on, second.on); inside = second.inside }
  comes_moves {cursor} {state} {after} (here line) = state_moves bytes cursor state after line

  -- a fault lies within the sheet, or at its end
  pub fault_inside : {cursor : Cursor} {place : ℕ} → cursor.place ≤ length bytes → Comes sections bytes cursor (Err (Malformed place)) → place ≤ length bytes
  fault_inside {cursor} inside (behind_count {after = after} line comes) = fault_inside (count_moves cursor after line).inside comes
  fault_inside {cursor} inside (here fault) = omega (arith, fault.is_place)

  pub behind : (cursor after : Cursor) (states : List State) (last : Next) → CountLine sections bytes cursor after → Reads sections bytes after states last → Reads sections bytes cursor states last
  behind cursor after [] last line reads = behind_count line reads
  behind cursor after (state ∷ states) last line reads = (reads.0, behind_count line reads.1, reads.2)

module _ (sections : ℕ) (bytes : List ℕ) where
  pub reads_never_too_long : (cursor : Cursor) (states : List State) → Reads sections bytes cursor states (Err TooLong) → ⊥
  reads_never_too_long cursor [] reads = never_too_long bytes reads
  reads_never_too_long cursor (state ∷ states) reads = reads_never_too_long reads.0 states reads.2

  pub reading_fault_inside : (cursor : Cursor) (states : List State) (place : ℕ) → cursor.place ≤ length bytes → Reads sections bytes cursor states (Err (Malformed place)) → place ≤ length bytes
  reading_fault_inside cursor [] place inside reads = fault_inside bytes inside reads
  reading_fault_inside cursor (state ∷ states) place inside reads =
      reading_fault_inside reads.0 states place (comes_moves bytes reads.1).inside reads.2

  -- so two readings of a sheet are one
  pub reads_determined : (cursor : Cursor) (states states' : List State) (last last' : Next) → Ends last → Ends last' → Reads sections bytes cursor states last → Reads sections bytes cursor states' last' → Same states states' last last'
  reads_determined cursor [] [] last last' ends ends' reads reads' = record { same_states = refl; same_last = comes_determined bytes reads reads' }
  reads_determined cursor [] (state ∷ states') last last' ends ends' reads reads' = absurd (subst Ends (comes_determined bytes reads reads'.1) ends)
  reads_determined cursor (state ∷ states) [] last last' ends ends' reads reads' = absurd (subst Ends (comes_determined bytes reads' reads.1) ends')
  reads_determined cursor (state ∷ states) (state' ∷ states') last last' ends ends' reads reads' =
      let same = comes_determined bytes reads.1 reads'.1 in
      let same_line : ◌≡◌ {A = Told.StateLine} (record { state = state; after = reads.0 }) (record { state = state'; after = reads'.0 }) = cc in
      let same_state : state ≡ state' = ap (λ (line : Told.StateLine). line.state) same_line in
      let back : reads'.0 ≡ reads.0 = sym (ap (λ (line : Told.StateLine). line.after) same_line) in
      let rest = reads_determined reads.0 states states' last last' ends ends' reads.2 (subst (λ (c : Cursor). Reads sections bytes c states' last') back reads'.2) in
      record { same_states = cc (same_state, rest.same_states); same_last = rest.same_last }
