-- A walk over a sheet: the state lines passed, and then the reading from where the cursor is, make the reading from the start; and there are no
-- more of them than the sections begun have room for. Assumes nothing.
use mathlib.Core.Path.{sym, ap, subst}
use mathlib.Core.List.{List, [], ◌∷◌, ◌++◌, append-nil}
use Prim.Native.Nat.{ℕ, suc, ◌+◌, ◌*◌, ◌≤◌}
use native.Mathlib.Omega.{arith}
use lib.ListN.{length, length-append}
use lib.Seq.{append_snoc}
use Rattle.sheets.specs.declared.State.{State}
use Rattle.sheets.specs.declared.Cursor.{Cursor}
use Rattle.sheets.specs.Reading.{Next, start, CountLine, StateLine, Comes, behind_count, here, Reads}
use Rattle.std.specs.Prelude.{Ok, Some}
use Rattle.sheets.specs.Grammar.{most_states}

-- so many state lines were passed: with those still wanted they are at most the most of each section begun
pub record Room (sections count : ℕ) (cursor : Cursor) : Type 0 where
  pub states : count + cursor.left ≤ most_states * cursor.begun
  pub begun : cursor.begun ≤ sections

pub record Passed (sections : ℕ) (bytes : List ℕ) (cursor : Cursor) (states : List State) : Type 0 where
  pub goes_on : (more : List State) (last : Next) → Reads sections bytes cursor more last → Reads sections bytes start (states ++ more) last
  pub room : Room sections (length states) cursor

module _ {sections : ℕ} (bytes : List ℕ) where
  count_room : (count : ℕ) (cursor after : Cursor) → Room sections count cursor → CountLine sections bytes cursor after → Room sections count after
  count_room count cursor after room line =
      let begun = ap (λ (c : Cursor). c.begun) line.moves in
      let left = ap (λ (c : Cursor). c.left) line.moves in
      record { states = omega (arith, begun, left, room.states, line.few, line.none_left); begun = omega (arith, begun, line.wanted) }

  state_room : (count : ℕ) (cursor : Cursor) (state : State) (after : Cursor) → Room sections count cursor → StateLine bytes cursor state after → Room sections (suc count) after
  state_room count cursor state after room line =
      let begun = ap (λ (c : Cursor). c.begun) line.moves in
      let left = ap (λ (c : Cursor). c.left) line.moves in
      record { states = omega (arith, begun, left, room.states, line.wanted); begun = omega (arith, begun, room.begun) }

  comes_room : (count : ℕ) {cursor : Cursor} {state : State} {after : Cursor} → Room sections count cursor → Comes sections bytes cursor (Ok (Some (record { state = state; after = after }))) → Room sections (suc count) after
  comes_room count {cursor} {state} {after} room (behind_count {after = between} line comes) = comes_room count (count_room count cursor between room line) comes
  comes_room count {cursor} {state} {after} room (here line) = state_room count cursor state after room line

  pub none_passed : Passed sections bytes start []
  none_passed = record { goes_on = λ more last reads. reads; room = record { states = omega arith; begun = omega arith } }

  pub one_passed : {cursor : Cursor} (states : List State) (state : State) (after : Cursor) → Passed sections bytes cursor states → Comes sections bytes cursor (Ok (Some (record { state = state; after = after }))) → Passed sections bytes after (states ++ (state ∷ []))
  one_passed states state after passed comes =
      let room = comes_room (length states) passed.room comes in
      let long = length-append states (state ∷ []) in
      record {
        goes_on = λ more last reads.
            subst (λ (l : List State). Reads sections bytes start l last) (sym (append_snoc states state more)) (passed.goes_on (state ∷ more) last (after, comes, reads));
        room = record { states = omega (arith, long, room.states); begun = room.begun };
      }

  pub all_passed : {cursor : Cursor} (states : List State) (last : Next) → Passed sections bytes cursor states → Comes sections bytes cursor last → Reads sections bytes start states last
  all_passed states last passed comes = subst (λ (l : List State). Reads sections bytes start l last) (append-nil states) (passed.goes_on [] last comes)
