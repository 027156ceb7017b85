-- A sheet that came byte by byte from its start is read as it is read whole: the same state lines, the same end, the same fault. What was held of
-- a line is its beginning, and the rest is still to come; each byte of the rest is one step. Assumes nothing.
use mathlib.Core.Path.{◌≡◌, refl, sym, ap, ap₂, subst, ◌∙◌}
use mathlib.Core.Bool.{Bool, true, false}
use mathlib.Core.List.{List, [], ◌∷◌, ◌++◌, foldl, foldl-append, append-nil}
use Prim.Native.Nat.{ℕ, suc, ◌+◌, ◌≤◌, ◌<◌}
use native.Mathlib.Nat.{add-zero}
use native.Mathlib.Omega.{arith}
use native.Mathlib.Decide.{dec_le}
use lib.Dec.{eqb}
use lib.ListN.{length, drop, length-append, length-drop}
use lib.Seq.{append_snoc}
use borrow.Author.Tests.{eqb-true, eqb-false, eq-eqb, lt-ltb, le-ltb, lt-leb}
use Rattle.sheets.specs.declared.Cursor.{Cursor}
use Rattle.sheets.specs.Reading.{Next, start, Begins, here, Reads, IsFault}
use Rattle.sheets.specs.declared.Fault.TheVariants.{Malformed, TooLong}
use Rattle.std.specs.Prelude.{Ok, Err, Some, None}
use Rattle.sheets.specs.declared.Digest.{Digest}
use Rattle.sheets.specs.declared.Digest.TheVariants.{Empty}
use Rattle.sheets.specs.declared.Line.{Line}
use Rattle.sheets.specs.declared.Line.TheVariants.{Count, Told}
use Rattle.sheets.specs.Grammar.{all_sections, line_end, decimal, pair_text}
use Rattle.sheets.specs.Digests.{takes}
use Rattle.sheets.specs.Lines.{ended, unended, wants_line, met}
use Rattle.sheets.proofs.Splits.{Endless, endless_append, endless_decimal, endless_pair, lines_apart, drop_behind}
use Rattle.sheets.proofs.Meets.{met_line, met_rest, Stands, stands_as}
use Rattle.sheets.proofs.Walks.{Ends, behind}
use Rattle.sheets.proofs.Longest.{long_line_faulty, unwanted_faulty}
use Rattle.readings.specs.Figures.{Reading}
use Rattle.readings.specs.Readers.{most_bytes}
use Rattle.parts.specs.declared.Standing.{Standing}
use Rattle.parts.specs.Bytes.{longest_line, Outcome, quiet, opened, at_start, another, total, behind_line, takes_byte, taking}
use Rattle.parts.specs.Takes.{over}
use Rattle.parts.proofs.Bytes.{first_byte}
use Rattle.parts.proofs.Texts.{one_more, not_wanted, is_held, is_too_many, is_end, goes_on, stops}

-- what is said of so many state lines and what comes behind them
abbrev pub saying : (count : ℕ) → Next → Reading
saying count (Ok (Some line)) = Err TooLong
saying count (Ok None) = Ok count
saying count (Err fault) = Err fault

module _ (bytes : List ℕ) (fits : length bytes ≤ most_bytes) where
  -- of the line that begins at the cursor this is held, and this is still to come
  pub record Holds (standing : Standing) (text rest : List ℕ) : Type 0 where
    pub splits : drop standing.cursor.place bytes ≡ text ++ rest
    pub inside : standing.cursor.place ≤ length bytes
    pub is_digest : standing.digest ≡ foldl takes Empty text
    pub is_held : standing.held ≡ length text
    pub endless : Endless text
    pub few : length text ≤ longest_line
    pub counted : standing.state_lines ≤ standing.cursor.place

  -- the reading from a cursor on, behind so many state lines: what the bytes to come answer, and what is said behind them
  pub record Reading-on (cursor : Cursor) (count : ℕ) (outcome : Outcome) : Type 0 where
    pub last : Next
    pub ends : Ends last
    pub reads : Reads all_sections bytes cursor outcome.states last
    pub is_said : over outcome.after ≡ saying (count + length outcome.states) last

  -- no byte is to come: a line is missing, or lacks its end, or the sheet is over
  at_end : (standing : Standing) (text : List ℕ) → Holds standing text [] → Reading-on standing.cursor standing.state_lines (quiet (Ok standing))
  at_end standing text holds = held_or_not (eqb standing.held 0) refl
    where
      cursor : Cursor
      cursor = standing.cursor

      is_met : met all_sections bytes cursor ≡ unended all_sections cursor (cursor.place + length text)
      is_met = met_rest all_sections bytes cursor text (holds.splits ∙ append-nil text) holds.endless

      missing : over (Ok standing) ≡ Err (Malformed cursor.place) → met all_sections bytes cursor ≡ Told (Err (Malformed cursor.place)) → Reading-on cursor standing.state_lines (quiet (Ok standing))
      missing is_said is_fault =
          record { last = Err (Malformed cursor.place); ends = tt; reads = here (stands_as all_sections bytes cursor (Told (Err (Malformed cursor.place))) (sym is_fault)); is_said = is_said }

      wanted_or_not : (t : Bool) → wants_line all_sections cursor ≡ t → standing.held ≡ 0 → Reading-on cursor standing.state_lines (quiet (Ok standing))
      wanted_or_not true wants none =
          missing (simp (eq-eqb standing.held 0 none, wants))
          (is_met ∙ simp (le-ltb cursor.place (cursor.place + length text) (omega (arith, holds.is_held)), wants))
      wanted_or_not false wants none =
          let is_over : met all_sections bytes cursor ≡ Told (Ok None) =
          is_met ∙ simp (le-ltb cursor.place (cursor.place + length text) (omega (arith, holds.is_held)), wants) in
          record {
            last = Ok None;
            ends = tt;
            reads = here (stands_as all_sections bytes cursor (Told (Ok None)) (sym is_over));
            is_said = simp (eq-eqb standing.held 0 none, wants, add-zero);
          }

      held_or_not : (t : Bool) → eqb standing.held 0 ≡ t → Reading-on cursor standing.state_lines (quiet (Ok standing))
      held_or_not true e = wanted_or_not (wants_line all_sections cursor) refl (eqb-true standing.held 0 e)
      held_or_not false e =
          let some = eqb-false standing.held 0 e in
          missing (simp e) (is_met ∙ simp (lt-ltb cursor.place (cursor.place + length text) (omega (arith, holds.is_held))))

  -- one byte is to come, and what comes behind it is read from where it leaves the reader
  module _ (byte : ℕ) (rest : List ℕ) (later : (after : Standing) (text : List ℕ) → Holds after text rest → Reading-on after.cursor after.state_lines (taking (Ok after) rest)) (standing : Standing) (text : List ℕ) (holds : Holds standing text (byte ∷ rest)) where
    abbrev cursor : Cursor
    cursor = standing.cursor

    abbrev Goal : Outcome → Type 0
    Goal outcome = Reading-on cursor standing.state_lines outcome

    long : length bytes ≡ cursor.place + (length text + suc (length rest))
    long = omega (arith, length-drop cursor.place bytes, ap length holds.splits, length-append text (byte ∷ rest), holds.inside)

    below : total standing < most_bytes
    below = omega (arith, long, holds.is_held)

    meets_fault : IsFault all_sections bytes cursor cursor.place → takes_byte (Ok standing) byte ≡ quiet (Err (Malformed cursor.place)) → Goal (taking (Ok standing) (byte ∷ rest))
    meets_fault fault is =
        subst Goal (sym (stops standing byte rest (Err (Malformed cursor.place)) tt is))
        (record { last = Err (Malformed cursor.place); ends = tt; reads = here fault; is_said = refl })

    module _ (wants : wants_line all_sections cursor ≡ true) where
      -- a byte of the line, held or too many
      in_line : (byte ≡ line_end → ⊥) → Dec (longest_line ≤ standing.held) → Goal (taking (Ok standing) (byte ∷ rest))
      in_line no_end (yes many) =
          meets_fault (long_line_faulty bytes cursor text byte rest holds.splits holds.endless no_end (omega (arith, holds.is_held)))
          (is_too_many standing byte below wants no_end many)
      in_line no_end (no few) =
          subst Goal (sym (goes_on standing byte rest _ (is_held standing byte below wants no_end (omega arith))))
          (later (one_more standing byte) (text ++ (byte ∷ []))
          (record {
            splits = holds.splits ∙ sym (append_snoc text byte rest);
            inside = holds.inside;
            is_digest = ap (λ (d : Digest). takes d byte) holds.is_digest ∙ sym (foldl-append takes Empty text (byte ∷ []));
            is_held = omega (arith, holds.is_held, length-append text (byte ∷ []));
            endless = endless_append text (byte ∷ []) holds.endless (no_end, tt);
            few = omega (arith, holds.is_held, length-append text (byte ∷ []));
            counted = holds.counted;
          }))

      -- the line's end: it is met as what the whole sheet has there
      module _ (is_line_end : byte ≡ line_end) where
        splits : drop cursor.place bytes ≡ text ++ (line_end ∷ rest)
        splits = holds.splits ∙ ap (λ (b : ℕ). text ++ (b ∷ rest)) is_line_end

        abbrev line : Line
        line = ended all_sections cursor (suc (total standing)) standing.digest

        is_met : line ≡ met all_sections bytes cursor
        is_met =
            let at : suc (total standing) ≡ cursor.place + suc (length text) = omega (arith, holds.is_held) in
            ap₂ (ended all_sections cursor) at holds.is_digest ∙ sym (met_line all_sections bytes cursor text (record { rest = rest; splits = splits }) holds.endless)

        -- a line that may stand is the text that was held
        is_text : (other : List ℕ) → Begins bytes cursor other → Endless other → length other ≡ length text
        is_text other begins ends = ap length (lines_apart other text begins.rest rest ends holds.endless (sym begins.splits ∙ splits))

        fresh : (after : Cursor) (count : ℕ) → after.place ≡ cursor.place + suc (length text) → count ≤ suc standing.state_lines → Holds (record { cursor = after; digest = Empty; held = 0; state_lines = count }) [] rest
        fresh after count at few =
            record {
              splits = ap (λ (n : ℕ). drop n bytes) at ∙ drop_behind bytes cursor.place text rest splits;
              inside = omega (arith, at, long);
              is_digest = refl;
              is_held = refl;
              endless = tt;
              few = omega arith;
              counted = omega (arith, at, few, holds.counted);
            }

        takes_line : takes_byte (Ok standing) byte ≡ behind_line line standing.state_lines
        takes_line = is_end standing byte below wants is_line_end

        by_line : (met_as : Line) → Stands all_sections bytes cursor met_as → takes_byte (Ok standing) byte ≡ behind_line met_as standing.state_lines → Goal (taking (Ok standing) (byte ∷ rest))
        by_line (Count after) stands is =
            let at = ap (λ (c : Cursor). c.place) stands.moves ∙ ap (λ (n : ℕ). cursor.place + suc n) (is_text (decimal stands.count) stands.begins (endless_decimal stands.count)) in
            let on = later _ [] (fresh after standing.state_lines at (omega arith)) in
            subst Goal (sym (goes_on standing byte rest _ is))
            (record { last = on.last; ends = on.ends; reads = behind {sections = all_sections} bytes cursor after (taking (opened after standing.state_lines) rest).states on.last stands on.reads; is_said = on.is_said })
        by_line (Told (Ok (Some told))) stands is =
            let at = ap (λ (c : Cursor). c.place) stands.moves ∙ ap (λ (n : ℕ). cursor.place + suc n) (is_text (pair_text stands.pair) stands.begins (endless_pair stands.pair)) in
            let on = later _ [] (fresh told.after (suc standing.state_lines) at (omega arith)) in
            let more : another standing.state_lines ≡ suc standing.state_lines = simp (lt-leb most_bytes standing.state_lines (omega (arith, holds.counted, long))) in
            subst Goal
            (sym
            (first_byte (Ok standing) byte rest
            (is ∙ ap (λ (n : ℕ). record { after = opened told.after n; states = told.state ∷ [] }) more)))
            (record { last = on.last; ends = on.ends; reads = (told.after, here stands, on.reads); is_said = on.is_said ∙ ap (λ (n : ℕ). saying n on.last) (omega arith) })
        by_line (Told (Err (Malformed place))) stands is =
            let at = stands.is_place in
            meets_fault (subst (IsFault all_sections bytes cursor) at stands) (is ∙ ap (λ (n : ℕ). quiet (Err (Malformed n))) at)
        by_line (Told (Ok None)) stands is = absurd (omega (arith, ap length stands.nothing_follows, ap length splits, length-append text (line_end ∷ rest)))
        by_line (Told (Err TooLong)) stands is = absurd stands

        ends_line : Goal (taking (Ok standing) (byte ∷ rest))
        ends_line = by_line line (stands_as all_sections bytes cursor line is_met) takes_line

      end_or_not : (t : Bool) → eqb byte line_end ≡ t → Goal (taking (Ok standing) (byte ∷ rest))
      end_or_not true e = ends_line (eqb-true byte line_end e)
      end_or_not false e = in_line (eqb-false byte line_end e) (dec_le longest_line standing.held)

    wanted_or_not : (t : Bool) → wants_line all_sections cursor ≡ t → Goal (taking (Ok standing) (byte ∷ rest))
    wanted_or_not true wants = end_or_not wants (eqb byte line_end) refl
    wanted_or_not false none = meets_fault (unwanted_faulty bytes cursor text byte rest holds.splits none) (not_wanted standing byte below none)

  reading_on : (rest : List ℕ) (standing : Standing) (text : List ℕ) → Holds standing text rest → Reading-on standing.cursor standing.state_lines (taking (Ok standing) rest)
  unfolding taking
  reading_on [] standing text holds = at_end standing text holds
  reading_on (byte ∷ rest) standing text holds = wanted_or_not byte rest (λ after held more. reading_on rest after held more) standing text holds (wants_line all_sections standing.cursor) refl

  pub reading_from_start : Reading-on start 0 (taking at_start bytes)
  reading_from_start =
      reading_on bytes _ []
      (record { splits = refl; inside = omega arith; is_digest = refl; is_held = refl; endless = tt; few = omega arith; counted = omega arith })
