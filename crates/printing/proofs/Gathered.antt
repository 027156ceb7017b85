-- The text gathered so far: a line for each state line passed, within the room that they have. Assumes nothing.
use mathlib.Core.Path.{◌≡◌, refl, sym, ap, subst, ◌∙◌}
use mathlib.Core.List.{List, [], ◌∷◌, ◌++◌, append_assoc, append-nil}
use Prim.Native.Nat.{ℕ, ◌+◌, ◌*◌, ◌≤◌}
use native.Mathlib.Omega.{arith}
use lib.ListN.{length, take, length-append}
use Rattle.io.specs.Counts.{IsPrefixLen}
use Rattle.sheets.specs.declared.State.{State}
use Rattle.sheets.specs.declared.Cursor.{Cursor}
use Rattle.sheets.specs.declared.Fault.{Fault}
use Rattle.sheets.specs.declared.Fault.TheVariants.{Malformed, TooLong}
use Rattle.std.specs.Prelude.{Ok, Err, Some, None}
use Rattle.sheets.specs.Grammar.{all_sections, sum_of_counts}
use Rattle.sheets.specs.Reading.{start, Comes}
use Rattle.readings.specs.Figures.{sheet_figures}
use Rattle.readings.specs.Replies.{ReadsAs}
use Rattle.readings.proofs.Answers.{good_told, long_told, fault_told}
use Rattle.readings.proofs.Nexts.{NextIn, CameAs}
use Rattle.sheets.proofs.Passed.{Passed, none_passed, one_passed, all_passed}
use Rattle.sheets.proofs.Written.{read_good}
use Rattle.printing.specs.Prints.{LinesText, Prints}
use Rattle.buffers.specs.Puts.{Puts}
use Rattle.buffers.proofs.Holding.{put_with_room, after_long, up_to_end}
use Rattle.texts.specs.declared.Text.{Text}
use Rattle.texts.specs.Buffer.{longest_line, bytes_of, Written}
use Rattle.wording.specs.Wording.{LineText}
use Rattle.printing.specs.Buffer.{longest_text}
use Rattle.printing.proofs.Counts.{counts, text_short}

-- one line more
lines_on : (states : List State) (state : State) (text line : List ℕ) → LinesText states text → LineText state line → LinesText (states ++ (state ∷ [])) (text ++ line)
lines_on [] state text line lines is_line = (line, [], is_line, refl, ap (λ (l : List ℕ). l ++ line) lines ∙ sym (append-nil line))
lines_on (first ∷ states) state text line lines is_line = (
  lines.0,
  lines.1 ++ line,
  lines.2,
  lines_on states state lines.1 line lines.3 is_line,
  ap (λ (l : List ℕ). l ++ line) lines.4 ∙ append_assoc lines.0 lines.1 line,
)

pub record Gathered (bytes before : List ℕ) (cursor : Cursor) (buffer : List ℕ) (end : ℕ) : Type 0 where
  pub states : List State
  pub passed : Passed all_sections bytes cursor states
  pub are_lines : LinesText states (take end buffer)
  pub short : end ≤ longest_line * length states
  pub same_length : length buffer ≡ length before

pub begins : (bytes before : List ℕ) → Gathered bytes before start before 0
begins bytes before = record { states = []; passed = none_passed bytes; are_lines = refl; short = omega arith; same_length = refl }

module _ {bytes before : List ℕ} {cursor : Cursor} {buffer : List ℕ} {end : ℕ} (gathered : Gathered bytes before cursor buffer end) (large : longest_text ≤ length before) where
  within : end ≤ length buffer
  within =
      let room = gathered.passed.room in
      omega (arith, gathered.short, gathered.same_length, room.states, room.begun)

  module _ {state : State} {after : Cursor} (comes : Comes all_sections bytes cursor (Ok (Some (record { state = state; after = after })))) where
    on : Passed all_sections bytes after (gathered.states ++ (state ∷ []))
    on = one_passed bytes gathered.states state after gathered.passed comes

    -- the line that comes has room
    pub gathers : {line : Text} {later : List ℕ} {next : ℕ} → Written (LineText state) line → Puts (bytes_of line) buffer end later next → Gathered bytes before after later next
    gathers {line} written puts =
        let room = on.room in
        let short = text_short written.sized in
        let one_more = length-append gathered.states (state ∷ []) in
        let fits : end + length (bytes_of line) ≤ length buffer = omega (arith, gathered.short, gathered.same_length, room.states, room.begun) in
        let holds = put_with_room puts fits in
        record {
          states = gathered.states ++ (state ∷ []);
          passed = on;
          are_lines =
              subst (LinesText (gathered.states ++ (state ∷ []))) (sym (up_to_end fits holds))
              (lines_on gathered.states state (take end buffer) (bytes_of line) gathered.are_lines written.is_line);
          short = omega (arith, gathered.short, holds.reaches);
          same_length = after_long fits holds ∙ gathered.same_length;
        }

  pub prints_all : NextIn all_sections bytes cursor (Ok None) → IsPrefixLen end buffer × Prints bytes (take end buffer)
  prints_all next =
      let written = read_good bytes gathered.states (all_passed bytes gathered.states (Ok None) gathered.passed next.comes) in (
        counts buffer end within,
        record {
          reading = Ok (sum_of_counts written.lists);
          reads_as = good_told bytes written.lists next.fits written.good;
          is_text =
              record {
                lists = written.lists;
                good = written.good;
                are_lines = subst (λ (l : List State). LinesText l (take end buffer)) written.are_states gathered.are_lines;
              };
        },
      )

-- the sheet is refused for the fault that comes
pub reads_fault : {bytes before : List ℕ} {cursor : Cursor} {buffer : List ℕ} {end : ℕ} → Gathered bytes before cursor buffer end → (fault : Fault) → CameAs all_sections bytes cursor (Err fault) → ReadsAs bytes (sheet_figures (Err fault))
reads_fault {bytes} gathered (Malformed place) next =
    fault_told bytes place next.fits (record { before = gathered.states; reads = all_passed bytes gathered.states (Err (Malformed place)) gathered.passed next.comes })
reads_fault {bytes} gathered TooLong long = long_told bytes long
