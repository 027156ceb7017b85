-- What a scan takes of the rest of a part: the text of a line, and its end if that is there. Each case of what it brings. Assumes nothing.
use mathlib.Core.Path.{◌≡◌, refl, sym, ap, ◌∙◌}
use mathlib.Core.Logic.{◌⊎◌, inl, inr}
use mathlib.Core.Bool.{Bool, true, false}
use mathlib.Core.List.{List, [], ◌∷◌, ◌++◌, foldl, append-nil}
use Prim.Native.Nat.{ℕ, suc, ◌+◌, ◌-◌, ◌≤◌, ◌<◌}
use native.Mathlib.Numerals.{add-one}
use native.Mathlib.Omega.{arith}
use lib.Dec.{eqb}
use lib.ListN.{length, take, drop, length-append, length-drop}
use lib.Seq.{take_all, take-append-add, length-take-le}
use borrow.Author.Tests.{eqb-false}
use Rattle.sheets.specs.declared.State.{State}
use Rattle.sheets.specs.declared.Scanned.{Scanned}
use Rattle.sheets.specs.declared.Fault.TheVariants.{Malformed, TooLong}
use Rattle.std.specs.Prelude.{Ok, Err, Some, None}
use Rattle.sheets.specs.declared.Line.{Line}
use Rattle.sheets.specs.declared.Line.TheVariants.{Count, Told}
use Rattle.sheets.specs.Grammar.{all_sections, line_end}
use Rattle.sheets.specs.Reading.{up_to, line_of}
use Rattle.sheets.specs.Digests.{takes, whole_line, scans}
use Rattle.sheets.specs.Lines.{ended}
use Rattle.sheets.proofs.Splits.{Endless, Ended, Unended, split, whole_line_of_text, take_line}
use Rattle.readings.specs.Readers.{most_bytes}
use Rattle.parts.specs.declared.Standing.{Standing}
use Rattle.parts.specs.Bytes.{Reader, Outcome, total, quiet, behind_line, takes_byte, taking}
use Rattle.parts.specs.declared.Taken.{Taken}
use Rattle.parts.specs.Inside.{brought_of, states_of, told, Goes}
use Rattle.parts.proofs.Bytes.{behind_quiet, Stays, met_stays, one_byte, quiet_but_last}
use Rattle.parts.proofs.Texts.{Wants, room, spare, grown, passes_most, is_end, stops, text_held, text_too_many, text_too_long}

endless_line : (bytes : List ℕ) → Endless (line_of bytes)
endless_line [] = tt
endless_line (byte ∷ bytes) = end_or_not (eqb byte line_end) refl (endless_line bytes)
  where
    end_or_not : (t : Bool) → eqb byte line_end ≡ t → Endless (line_of bytes) → Endless (up_to t byte (line_of bytes))
    end_or_not true e later = tt
    end_or_not false e later = (eqb-false byte line_end e, later)

pub record Stretch (rest : List ℕ) : Type 0 where
  pub before : ℕ
  pub is_whole : whole_line rest ≡ suc before
  pub inside : suc before ≤ length rest
  pub behind : List ℕ
  pub is_taken : take (suc before) rest ≡ line_of rest ++ behind
  pub no_end : whole_line rest ≡ length (line_of rest) → behind ≡ []
  pub some_end : (whole_line rest ≡ length (line_of rest) → ⊥) → behind ≡ line_end ∷ []

stretch : (rest : List ℕ) → 0 < length rest → Stretch rest
stretch rest some = ended_or_not (split rest)
  where
    text : List ℕ
    text = line_of rest

    ended_or_not : Ended rest text ⊎ Unended rest text (whole_line rest) → Stretch rest
    ended_or_not (inl found) =
        let whole = ap whole_line found.splits ∙ whole_line_of_text text found.rest found.endless in
        record {
          before = length text;
          is_whole = whole;
          inside = omega (arith, ap length found.splits ∙ length-append text (line_end ∷ found.rest));
          behind = line_end ∷ [];
          is_taken =
              ap (take (suc (length text))) found.splits
              ∙ ap (λ (n : ℕ). take n (text ++ (line_end ∷ found.rest))) (sym (add-one (length text)))
              ∙ take-append-add text (line_end ∷ found.rest) 1;
          no_end = λ none. absurd (omega (arith, whole));
          some_end = λ more. refl;
        }
    ended_or_not (inr found) =
        let all = ap length found.all in
        record {
          before = length rest - 1;
          is_whole = omega (arith, found.is_whole);
          inside = omega arith;
          behind = [];
          is_taken = take_all (suc (length rest - 1)) rest (omega arith) ∙ found.all ∙ sym (append-nil text);
          no_end = λ none. refl;
          some_end = λ more. absurd (more (found.is_whole ∙ all));
        }

-- a line that has ended brings one state at most
one_at_most : (line : Line) (state_lines : ℕ) → states_of (brought_of (behind_line line state_lines).states) ≡ (behind_line line state_lines).states
one_at_most (Count after) state_lines = refl
one_at_most (Told (Ok (Some told))) state_lines = refl
one_at_most (Told (Ok None)) state_lines = refl
one_at_most (Told (Err fault)) state_lines = refl

first_stops : (standing : Standing) (fault : Reader) → Stays fault → ((byte : ℕ) → takes_byte (Ok standing) byte ≡ quiet fault) → (bytes : List ℕ) → 0 < length bytes → taking (Ok standing) bytes ≡ quiet fault
first_stops standing fault is_fault each [] some = absurd (omega arith)
first_stops standing fault is_fault each (byte ∷ bytes) some = stops standing byte bytes fault is_fault (each byte)

module _ (standing : Standing) (part : List ℕ) (from : ℕ) (inside_part : from < length part) (line : Scanned) (is_scan : line ≡ scans from standing.digest (drop from part)) where
  abbrev rest : List ℕ
  rest = drop from part

  abbrev text : List ℕ
  text = line_of rest

  taken_of : Stretch rest
  taken_of = stretch rest (omega (arith, length-drop from part))

  is_next : line.next ≡ from + whole_line rest
  is_next = ap (λ (scanned : Scanned). scanned.next) is_scan

  pub text_long : line.end ≡ from + length text
  text_long = ap (λ (scanned : Scanned). scanned.end) is_scan

  is_digest : line.digest ≡ foldl takes standing.digest text
  is_digest = ap (λ (scanned : Scanned). scanned.digest) is_scan

  -- where nothing is brought
  goes_quiet : (after : Reader) → taking (Ok standing) (text ++ taken_of.behind) ≡ quiet after → Goes standing rest from (record { reader = after; brought = None; taken = line.next })
  goes_quiet after is =
      let all = ap (taking (Ok standing)) taken_of.is_taken ∙ is in
      record {
        before = taken_of.before;
        is_taken = omega (arith, is_next, taken_of.is_whole);
        inside = taken_of.inside;
        none_before = quiet_but_last (Ok standing) taken_of.before rest (ap (λ (o : Outcome). o.states) all);
        brings = all;
      }

  -- a fault that the first byte meets, or the text
  pub stops_at_first : (fault : Reader) → Stays fault → ((byte : ℕ) → takes_byte (Ok standing) byte ≡ quiet fault) → Goes standing rest from (record { reader = fault; brought = None; taken = line.next })
  stops_at_first fault is_fault each =
      goes_quiet fault
      (first_stops standing fault is_fault each (text ++ taken_of.behind)
      (omega (arith, length-take-le (suc taken_of.before) rest taken_of.inside, ap length taken_of.is_taken)))

  stops_in_text : (fault : Reader) → Stays fault → taking (Ok standing) text ≡ quiet fault → Goes standing rest from (record { reader = fault; brought = None; taken = line.next })
  stops_in_text fault is_fault is = goes_quiet fault (met_stays (Ok standing) text taken_of.behind is_fault is)

  module _ (wants : Wants standing) where
    pub too_many : spare standing < line.end - from → spare standing < room standing → Goes standing rest from (record { reader = Err (Malformed standing.cursor.place); brought = None; taken = line.next })
    too_many many short =
        stops_in_text (Err (Malformed standing.cursor.place)) tt (text_too_many standing text (endless_line rest) wants (omega (arith, text_long)) (omega arith))

    pub too_long : room standing < line.end - from → room standing ≤ spare standing → Goes standing rest from (record { reader = Err TooLong; brought = None; taken = line.next })
    too_long long first = stops_in_text (Err TooLong) tt (text_too_long standing text (endless_line rest) wants (omega (arith, text_long)) (omega arith))

    module _ (below : total standing < most_bytes) (few : line.end - from ≤ spare standing) (short : line.end - from ≤ room standing) where
      all_held : taking (Ok standing) text ≡ quiet (Ok (grown standing text))
      all_held = text_held standing text (endless_line rest) wants (omega (arith, text_long)) (omega (arith, text_long))

      abbrev with_text : Standing
      with_text = record { cursor = standing.cursor; digest = line.digest; held = standing.held + (line.end - from); state_lines = standing.state_lines }

      same_standing : grown standing text ≡ with_text
      same_standing = let long : length text ≡ line.end - from = omega (arith, text_long) in cc (is_digest, long)

      held : taking (Ok standing) text ≡ quiet (Ok with_text)
      held = all_held ∙ ap (λ (s : Standing). quiet (Ok s)) same_standing

      pub holds_all : line.next ≡ line.end → Goes standing rest from (record { reader = Ok with_text; brought = None; taken = line.next })
      holds_all no_more =
          goes_quiet (Ok with_text)
          (ap (λ (l : List ℕ). taking (Ok standing) (text ++ l)) (taken_of.no_end (omega (arith, is_next, text_long)))
          ∙ ap (taking (Ok standing)) (append-nil text)
          ∙ held)

      module _ (more : line.next ≡ line.end → ⊥) where
        with_end : taken_of.behind ≡ line_end ∷ []
        with_end = taken_of.some_end (λ same. more (omega (arith, is_next, text_long)))

        then_end : taking (Ok standing) (text ++ taken_of.behind) ≡ takes_byte (Ok with_text) line_end
        then_end =
            ap (λ (l : List ℕ). taking (Ok standing) (text ++ l)) with_end
            ∙ behind_quiet (Ok standing) text (line_end ∷ []) held
            ∙ one_byte (Ok with_text) line_end

        pub end_too_long : room standing ≤ line.end - from → Goes standing rest from (record { reader = Err TooLong; brought = None; taken = line.next })
        end_too_long full = goes_quiet (Err TooLong) (then_end ∙ passes_most with_text line_end (omega arith))

        abbrev met : Line
        met = ended all_sections standing.cursor (standing.cursor.place + standing.held + (line.end - from) + 1) line.digest

        -- a line that ends within the room brings what it is met as
        pub line_ends : line.end - from < room standing → (reply : Taken) → reply ≡ told (behind_line met standing.state_lines) line.next → Goes standing rest from reply
        line_ends less reply is_reply =
            let at : suc (total with_text) ≡ standing.cursor.place + standing.held + (line.end - from) + 1 = omega arith in
            let is =
            is_end with_text line_end (omega arith) wants refl
            ∙ ap (λ (n : ℕ). behind_line (ended all_sections standing.cursor n line.digest) standing.state_lines) at in
            let before : taken_of.before ≡ length text = omega (arith, ap length taken_of.is_taken, ap length with_end, length-append text taken_of.behind, length-take-le (suc taken_of.before) rest taken_of.inside) in
            rw is_reply
            (record {
              before = taken_of.before;
              is_taken = omega (arith, is_next, taken_of.is_whole);
              inside = taken_of.inside;
              none_before =
                  ap (λ (n : ℕ). (taking (Ok standing) (take n rest)).states) before
                  ∙ ap (λ (l : List ℕ). (taking (Ok standing) l).states) (take_line rest)
                  ∙ ap (λ (o : Outcome). o.states) held;
              brings =
                  ap (taking (Ok standing)) taken_of.is_taken
                  ∙ then_end
                  ∙ is
                  ∙ ap (λ (l : List State). record { after = (behind_line met standing.state_lines).after; states = l }) (sym (one_at_most met standing.state_lines));
            })
