-- What `met` computes is what the reading defines: each line that may stand is met as such, and what is met as such may stand. Assumes nothing.
use mathlib.Core.Path.{◌≡◌, refl, sym, ap, ap₂, subst, ◌∙◌}
use mathlib.Core.Logic.{◌⊎◌, inl, inr}
use mathlib.Core.Bool.{Bool, true, false, cond}
use mathlib.Core.List.{List, [], ◌∷◌, foldl}
use Prim.Native.Nat.{ℕ, suc, ◌+◌, ◌-◌, ◌≤◌, ◌<◌}
use native.Mathlib.Nat.{suc-ne-zero}
use native.Mathlib.Omega.{arith}
use lib.Dec.{eqb, ltb, leb}
use lib.ListN.{length, drop}
use borrow.Author.Tests.{eqb-true, eqb-false, ltb-false, leb-false, eq-eqb, ne_eqb, lt-ltb, le-ltb, lt-leb}
use Rattle.sheets.specs.declared.State.{State}
use Rattle.sheets.specs.declared.Cursor.{Cursor}
use Rattle.sheets.specs.Reading.{Next, Begins, CountLine, StateLine, IsOver, IsFault, Here, line_of}
use Rattle.sheets.specs.declared.Fault.TheVariants.{Malformed, TooLong}
use Rattle.std.specs.Prelude.{Ok, Err, Some, None}
use Rattle.sheets.specs.declared.Line.{Line}
use Rattle.sheets.specs.declared.Line.TheVariants.{Count, Told}
use Rattle.sheets.specs.declared.Digest.{Digest}
use Rattle.sheets.specs.declared.Digest.TheVariants.{Empty, First, AfterSpace, Second, Bad}
use Rattle.sheets.specs.declared.Scanned.{Scanned}
use Rattle.sheets.specs.Grammar.{most_states, decimal, Pair, pair_text}
use Rattle.sheets.specs.Digests.{takes, whole_line, scans}
use Rattle.sheets.specs.Lines.{faulty, counted, stated, ended, unended, behind_scan, met}
use Rattle.sheets.proofs.Texts.{Spells, SpellsPair, Means, pair_means, digest_means, first_read, pair_read}
use Rattle.sheets.proofs.Splits.{Endless, endless_decimal, endless_pair, line_of_text, whole_line_of_text, Ended, Unended, split, unended_whole}

module _ (sections : ℕ) (bytes : List ℕ) (cursor : Cursor) where
  -- what is met is told by the scan from the cursor on: whether its line has its end
  pub scan_met : (line : Scanned) (has_end : Bool) → line ≡ scans cursor.place Empty (drop cursor.place bytes) → ltb line.end line.next ≡ has_end → cond has_end (ended sections cursor line.next line.digest) (unended sections cursor line.end) ≡ met sections bytes cursor
  scan_met line has_end is_scan test =
      sym (ap (λ (t : Bool). cond t (ended sections cursor line.next line.digest) (unended sections cursor line.end)) test) ∙ ap (behind_scan sections cursor) is_scan

  pub met_line : (text : List ℕ) → Begins bytes cursor text → Endless text → met sections bytes cursor ≡ ended sections cursor (cursor.place + suc (length text)) (foldl takes Empty text)
  met_line text begins endless =
      sym
      (scan_met (record { digest = foldl takes Empty text; end = cursor.place + length text; next = cursor.place + suc (length text) }) true
      (ap₂ (λ (l : List ℕ) (n : ℕ). record { digest = foldl takes Empty l; end = cursor.place + length l; next = cursor.place + n })
      (sym (ap line_of begins.splits ∙ line_of_text text begins.rest endless))
      (sym (ap whole_line begins.splits ∙ whole_line_of_text text begins.rest endless)))
      (lt-ltb (cursor.place + length text) (cursor.place + suc (length text)) (omega arith)))

  met_unended : (found : Unended (drop cursor.place bytes) (line_of (drop cursor.place bytes)) (whole_line (drop cursor.place bytes))) → met sections bytes cursor ≡ unended sections cursor (cursor.place + length (drop cursor.place bytes))
  met_unended found =
      sym
      (scan_met (record { digest = foldl takes Empty rest; end = cursor.place + length rest; next = cursor.place + length rest }) false
      (ap₂ (λ (l : List ℕ) (n : ℕ). record { digest = foldl takes Empty l; end = cursor.place + length l; next = cursor.place + n }) found.all (sym found.is_whole))
      (le-ltb (cursor.place + length rest) (cursor.place + length rest) (omega arith)))
    where
      rest : List ℕ
      rest = drop cursor.place bytes

  pub met_rest : (text : List ℕ) → drop cursor.place bytes ≡ text → Endless text → met sections bytes cursor ≡ unended sections cursor (cursor.place + length text)
  met_rest text all endless =
      met_unended (subst (λ (l : List ℕ). Unended l (line_of l) (whole_line l)) (sym all) (unended_whole text endless)) ∙ ap (λ (l : List ℕ). unended sections cursor (cursor.place + length l)) all

  pub count_met : (after : Cursor) → CountLine sections bytes cursor after → met sections bytes cursor ≡ Count after
  count_met after line =
      let next : ℕ = cursor.place + suc (length (decimal line.count)) in
      let few : line.count ≤ most_states = line.few in
      met_line (decimal line.count) line.begins (endless_decimal line.count)
      ∙ ap (ended sections cursor next) (first_read line.count (omega arith))
      ∙ stands next
      ∙ ap Count (sym line.moves)
    where
      stands : (next : ℕ) → counted sections cursor next line.count ≡ Count (record { begun = suc cursor.begun; left = line.count; place = next })
      stands next =
          simp (eq-eqb cursor.left 0 line.none_left, lt-leb sections cursor.begun line.wanted, le-ltb most_states line.count line.few)

  pub state_met : (state : State) (after : Cursor) → StateLine bytes cursor state after → met sections bytes cursor ≡ Told (Ok (Some (record { state = state; after = after })))
  state_met state after line =
      let next : ℕ = cursor.place + suc (length (pair_text line.pair)) in
      met_line (pair_text line.pair) line.begins (endless_pair line.pair)
      ∙ ap (ended sections cursor next) (pair_read line.pair line.writable)
      ∙ stands next
      ∙ ap₂ (λ (s : State) (a : Cursor). Told (Ok (Some (record { state = s; after = a })))) (sym line.is_state) (sym line.moves)
    where
      stands : (next : ℕ) → stated cursor next line.pair.millikelvin line.pair.pascals ≡ Told (Ok (Some (record { state = record { fluid = cursor.begun - 1; millikelvin = line.pair.millikelvin; pascals = line.pair.pascals }; after = record { begun = cursor.begun; left = cursor.left - 1; place = next } })))
      stands next = let wanted : 0 < cursor.left = line.wanted in simp (ne_eqb cursor.left 0 (λ e. omega arith))

  pub over_met : IsOver sections bytes cursor → met sections bytes cursor ≡ Told (Ok None)
  over_met over =
      let nothing = over.nothing_follows in
      met_unended (record { all = nothing ∙ sym (ap line_of nothing); is_whole = ap whole_line nothing ∙ sym (ap length nothing) })
      ∙ simp (le-ltb cursor.place (cursor.place + length (drop cursor.place bytes)) (omega (arith, ap length nothing)), eq-eqb cursor.left 0 over.none_left, le-ltb cursor.begun sections over.none_wanted)

  -- so what is met as a fault is one
  fault : met sections bytes cursor ≡ faulty cursor.place → IsFault sections bytes cursor cursor.place
  fault is_met =
      record {
        no_count_line = λ after line. let never : ◌≡◌ {A = ℕ} 0 1 = cc (count_met after line, is_met) in omega arith;
        no_state_line = λ state after line. let never : ◌≡◌ {A = ℕ} 0 1 = cc (state_met state after line, is_met) in omega arith;
        not_over = λ over. let never : ◌≡◌ {A = ℕ} 0 1 = cc (over_met over, is_met) in omega arith;
        is_place = refl;
      }

  abbrev pub Stands : Line → Type 0
  Stands (Count after) = CountLine sections bytes cursor after
  Stands (Told next) = Here sections bytes cursor next

  -- Each test that the code makes decides whether the line stands, in the code's order. `same` says what is met, whatever the test gives.
  count_stands : (text : List ℕ) (count : ℕ) → Begins bytes cursor text → Spells text count → met sections bytes cursor ≡ counted sections cursor (cursor.place + suc (length text)) count → Stands (counted sections cursor (cursor.place + suc (length text)) count)
  count_stands text count begins spells is_met = left_or_not (eqb cursor.left 0) refl is_met
    where
      after : Cursor
      after = record { begun = suc cursor.begun; left = count; place = cursor.place + suc (length text) }

      few : Line
      few = cond (ltb most_states count) (faulty cursor.place) (Count after)

      wanted : Line
      wanted = cond (leb sections cursor.begun) (faulty cursor.place) few

      few_or_not : (t : Bool) → ltb most_states count ≡ t → cursor.left ≡ 0 → cursor.begun < sections → met sections bytes cursor ≡ cond t (faulty cursor.place) (Count after) → Stands (cond t (faulty cursor.place) (Count after))
      few_or_not true e none begins_one same = fault same
      few_or_not false e none begins_one same =
          record {
            count = count;
            begins = subst (Begins bytes cursor) spells.is_text begins;
            none_left = none;
            wanted = begins_one;
            few = ltb-false most_states count e;
            moves = ap (λ (l : List ℕ). record { begun = suc cursor.begun; left = count; place = cursor.place + suc (length l) }) spells.is_text;
          }

      wanted_or_not : (t : Bool) → leb sections cursor.begun ≡ t → cursor.left ≡ 0 → met sections bytes cursor ≡ cond t (faulty cursor.place) few → Stands (cond t (faulty cursor.place) few)
      wanted_or_not true e none same = fault same
      wanted_or_not false e none same = few_or_not (ltb most_states count) refl none (leb-false sections cursor.begun e) same

      left_or_not : (t : Bool) → eqb cursor.left 0 ≡ t → met sections bytes cursor ≡ cond t wanted (faulty cursor.place) → Stands (cond t wanted (faulty cursor.place))
      left_or_not true e same = wanted_or_not (leb sections cursor.begun) refl (eqb-true cursor.left 0 e) same
      left_or_not false e same = fault same

  state_stands : (text : List ℕ) (pair : Pair) → Begins bytes cursor text → SpellsPair text pair → met sections bytes cursor ≡ stated cursor (cursor.place + suc (length text)) pair.millikelvin pair.pascals → Stands (stated cursor (cursor.place + suc (length text)) pair.millikelvin pair.pascals)
  state_stands text pair begins spells is_met = left_or_not (eqb cursor.left 0) refl is_met
    where
      state : State
      state = record { fluid = cursor.begun - 1; millikelvin = pair.millikelvin; pascals = pair.pascals }

      after : Cursor
      after = record { begun = cursor.begun; left = cursor.left - 1; place = cursor.place + suc (length text) }

      left_or_not : (t : Bool) → eqb cursor.left 0 ≡ t → met sections bytes cursor ≡ cond t (faulty cursor.place) (Told (Ok (Some (record { state = state; after = after })))) → Stands (cond t (faulty cursor.place) (Told (Ok (Some (record { state = state; after = after })))))
      left_or_not true e same = fault same
      left_or_not false e same =
          let some_left = eqb-false cursor.left 0 e in
          record {
            pair = pair;
            writable = spells.writable;
            begins = subst (Begins bytes cursor) spells.is_text begins;
            wanted = omega arith;
            is_state = refl;
            moves = ap (λ (l : List ℕ). record { begun = cursor.begun; left = cursor.left - 1; place = cursor.place + suc (length l) }) spells.is_text;
          }

  ended_stands : (text : List ℕ) (digest : Digest) → Begins bytes cursor text → Means digest text → met sections bytes cursor ≡ ended sections cursor (cursor.place + suc (length text)) digest → Stands (ended sections cursor (cursor.place + suc (length text)) digest)
  ended_stands text Empty begins means is_met = fault is_met
  ended_stands text (First count) begins means is_met = count_stands text count begins means is_met
  ended_stands text (AfterSpace number) begins means is_met = fault is_met
  ended_stands text (Second first second) begins means is_met = state_stands text _ begins (pair_means text first second means) is_met
  ended_stands text Bad begins means is_met = fault is_met

  unended_stands : met sections bytes cursor ≡ unended sections cursor (cursor.place + length (drop cursor.place bytes)) → Stands (unended sections cursor (cursor.place + length (drop cursor.place bytes)))
  unended_stands is_met = more_or_not (ltb cursor.place end) refl is_met
    where
      end : ℕ
      end = cursor.place + length (drop cursor.place bytes)

      empty : (l : List ℕ) → length l ≡ 0 → l ≡ []
      empty [] none = refl
      empty (byte ∷ l) none = absurd (suc-ne-zero (length l) none)

      begun_or_not : (t : Bool) → ltb cursor.begun sections ≡ t → drop cursor.place bytes ≡ [] → cursor.left ≡ 0 → met sections bytes cursor ≡ cond t (faulty cursor.place) (Told (Ok None)) → Stands (cond t (faulty cursor.place) (Told (Ok None)))
      begun_or_not true e nothing none same = fault same
      begun_or_not false e nothing none same = record { none_left = none; none_wanted = ltb-false cursor.begun sections e; nothing_follows = nothing }

      wanted : Bool → Line
      wanted t = cond (cond t (ltb cursor.begun sections) true) (faulty cursor.place) (Told (Ok None))

      left_or_not : (t : Bool) → eqb cursor.left 0 ≡ t → drop cursor.place bytes ≡ [] → met sections bytes cursor ≡ wanted t → Stands (wanted t)
      left_or_not true e nothing same = begun_or_not (ltb cursor.begun sections) refl nothing (eqb-true cursor.left 0 e) same
      left_or_not false e nothing same = fault same

      more_or_not : (t : Bool) → ltb cursor.place end ≡ t → met sections bytes cursor ≡ cond t (faulty cursor.place) (wanted (eqb cursor.left 0)) → Stands (cond t (faulty cursor.place) (wanted (eqb cursor.left 0)))
      more_or_not true e same = fault same
      more_or_not false e same =
          let none_more : end ≤ cursor.place = ltb-false cursor.place end e in
          left_or_not (eqb cursor.left 0) refl (empty (drop cursor.place bytes) (omega arith)) same

  pub met_stands : Stands (met sections bytes cursor)
  met_stands = ended_or_not (split (drop cursor.place bytes))
    where
      text : List ℕ
      text = line_of (drop cursor.place bytes)

      ended_or_not : Ended (drop cursor.place bytes) text ⊎ Unended (drop cursor.place bytes) text (whole_line (drop cursor.place bytes)) → Stands (met sections bytes cursor)
      ended_or_not (inl found) =
          let begins : Begins bytes cursor text = record { rest = found.rest; splits = found.splits } in
          let is_met = met_line text begins found.endless in
          subst Stands (sym is_met) (ended_stands text (foldl takes Empty text) begins (digest_means text) is_met)
      ended_or_not (inr found) = subst Stands (sym (met_unended found)) (unended_stands (met_unended found))

  pub stands_as : (line : Line) → line ≡ met sections bytes cursor → Stands line
  stands_as line is_met = subst Stands (sym is_met) met_stands

  -- what comes next without a count line before it is what is met
  pub here_met : (next : Next) → Here sections bytes cursor next → met sections bytes cursor ≡ Told next
  here_met (Ok (Some told)) line = state_met told.state told.after line
  here_met (Ok None) over = over_met over
  here_met (Err (Malformed place)) fault = of_line (met sections bytes cursor) met_stands
    where
      of_line : (line : Line) → Stands line → line ≡ Told (Err (Malformed place))
      of_line (Count after) stands = absurd (fault.no_count_line after stands)
      of_line (Told (Ok (Some told))) stands = absurd (fault.no_state_line told.state told.after stands)
      of_line (Told (Ok None)) stands = absurd (fault.not_over stands)
      of_line (Told (Err (Malformed at))) stands = ap (λ (p : ℕ). Told (Err (Malformed p))) (stands.is_place ∙ sym fault.is_place)
      of_line (Told (Err TooLong)) stands = absurd stands
  here_met (Err TooLong) none = absurd none
