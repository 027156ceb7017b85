-- What lists write is read as those lists, and then comes what comes behind them: the end, if that were all sections, and else a fault.
-- Said from any cursor on, `rest` being the sections behind those that are read. Assumes nothing.
use mathlib.Core.Path.{◌≡◌, refl, sym, ap, subst, ◌∙◌}
use mathlib.Core.List.{List, [], ◌∷◌, ◌++◌, append-nil, append_assoc}
use Prim.Native.Nat.{ℕ, suc, ◌+◌, ◌-◌, ◌≤◌, ◌<◌}
use native.Mathlib.Omega.{arith}
use lib.ListN.{length, drop, length-append}
use lib.Seq.{drop-append_seam}
use Rattle.sheets.specs.declared.State.{State}
use Rattle.sheets.specs.declared.Cursor.{Cursor}
use Rattle.sheets.specs.Reading.{Next, start, Begins, CountLine, StateLine, IsOver, Comes, here, Reads, FaultAt}
use Rattle.sheets.specs.declared.Fault.TheVariants.{Malformed}
use Rattle.std.specs.Prelude.{Ok, Err, Some, None}
use Rattle.sheets.specs.Grammar.{line_end, decimal, Pair, pair_text, state_lines, section, sheet, EachWritable, EachSection, Good, of_fluid, states_from}
use Rattle.sheets.proofs.Splits.{drop_behind}
use Rattle.sheets.proofs.Walks.{behind}
use Rattle.sheets.proofs.Written.{count_first, state_first, nothing, none_written}

sheet_append : (lists rest : List (List Pair)) → sheet (lists ++ rest) ≡ sheet lists ++ sheet rest
unfolding sheet
sheet_append [] rest = refl
sheet_append (pairs ∷ lists) rest = ap (λ (l : List ℕ). section pairs ++ l) (sheet_append lists rest) ∙ sym (append_assoc (section pairs) (sheet lists) (sheet rest))

-- a line, its end and what follows
line_long : (text rest : List ℕ) → length (text ++ (line_end ∷ rest)) ≡ suc (length text) + length rest
line_long text rest = let long = length-append text (line_end ∷ rest) in omega arith

line_some : (text rest : List ℕ) → text ++ (line_end ∷ rest) ≡ [] → ⊥
line_some text rest none = omega (arith, line_long text rest, ap length none)

some_written : (pairs : List Pair) (lists : List (List Pair)) → sheet (pairs ∷ lists) ≡ [] → ⊥
some_written pairs lists none =
    line_some (decimal (length pairs)) (state_lines pairs ++ sheet lists) (count_first pairs lists ∙ nothing (sheet (pairs ∷ lists)) ∙ none)

never_begins : {bytes : List ℕ} {cursor : Cursor} {text : List ℕ} → Begins bytes cursor text → drop cursor.place bytes ≡ [] → ⊥
never_begins {text = text} begins none = line_some text begins.rest (sym begins.splits ∙ none)

-- where a cursor is, behind the state lines that its section lacks and so many sections
abbrev past : (cursor : Cursor) (pairs : List Pair) (lists : List (List Pair)) → Cursor
past cursor pairs lists =
    record { begun = cursor.begun + length lists; left = 0; place = cursor.place + length (state_lines pairs ++ sheet lists) }

same_cursor : (one other : Cursor) → one.begun ≡ other.begun → one.left ≡ other.left → one.place ≡ other.place → one ≡ other
same_cursor one other begun left place =
    ap (λ (n : ℕ). record { begun = n; left = one.left; place = one.place }) begun
    ∙ ap (λ (n : ℕ). record { begun = other.begun; left = n; place = one.place }) left
    ∙ ap (λ (n : ℕ). record { begun = other.begun; left = other.left; place = n }) place

module _ (sections : ℕ) (bytes : List ℕ) where
  module _ (rest : List (List Pair)) (last : Next) where
    abbrev Readable : List (List Pair) → Type 0
    Readable lists =
        (cursor : Cursor) →
        cursor.left ≡ 0 → cursor.begun + length lists ≤ sections → drop cursor.place bytes ≡ state_lines [] ++ sheet (lists ++ rest) → Comes sections bytes (past cursor [] lists) last → Reads sections bytes cursor (states_from cursor.begun lists) last

    section_read : (lists : List (List Pair)) → Readable lists → (pairs : List Pair) (cursor : Cursor) → length pairs ≡ cursor.left → cursor.begun + length lists ≤ sections → EachWritable pairs → drop cursor.place bytes ≡ state_lines pairs ++ sheet (lists ++ rest) → Comes sections bytes (past cursor pairs lists) last → Reads sections bytes cursor (of_fluid (cursor.begun - 1) pairs ++ states_from cursor.begun lists) last
    section_read lists readable [] cursor are_left fit each written comes = readable cursor (sym are_left) fit written comes
    section_read lists readable (pair ∷ pairs) cursor are_left fit each written comes = (
      after,
      here {next = Ok (Some (record { state = state; after = after }))} line,
      section_read lists readable pairs after (omega arith) fit each.1
          (drop_behind bytes cursor.place (pair_text pair) (state_lines pairs ++ sheet (lists ++ rest)) splits)
          (subst (λ (c : Cursor). Comes sections bytes c last) (same_cursor (past cursor (pair ∷ pairs) lists) (past after pairs lists) refl refl (omega (arith, long))) comes),
    )
      where
        after : Cursor
        after = record { begun = cursor.begun; left = cursor.left - 1; place = cursor.place + suc (length (pair_text pair)) }

        state : State
        state = record { fluid = cursor.begun - 1; millikelvin = pair.millikelvin; pascals = pair.pascals }

        splits : drop cursor.place bytes ≡ pair_text pair ++ (line_end ∷ (state_lines pairs ++ sheet (lists ++ rest)))
        splits = written ∙ sym (state_first pair pairs (lists ++ rest))

        long : length (state_lines (pair ∷ pairs) ++ sheet lists) ≡ suc (length (pair_text pair)) + length (state_lines pairs ++ sheet lists)
        long = sym (ap length (state_first pair pairs lists)) ∙ line_long (pair_text pair) (state_lines pairs ++ sheet lists)

        line : StateLine bytes cursor state after
        line =
            record {
              pair = pair;
              writable = each.0;
              begins = record { rest = state_lines pairs ++ sheet (lists ++ rest); splits = splits };
              wanted = omega arith;
              is_state = refl;
              moves = refl;
            }

    sheet_read : (lists : List (List Pair)) → EachSection lists → Readable lists
    sheet_read [] each cursor none_left fit written comes =
        subst (λ (c : Cursor). Comes sections bytes c last) (same_cursor (past cursor [] []) cursor (omega arith) (sym none_left) (omega (arith, ap length (nothing (sheet []) ∙ none_written)))) comes
    sheet_read (pairs ∷ lists) each cursor none_left fit written comes =
        behind bytes cursor after (of_fluid cursor.begun pairs ++ states_from (suc cursor.begun) lists) last
        line
        (subst (λ (f : ℕ). Reads sections bytes after (of_fluid f pairs ++ states_from (suc cursor.begun) lists) last) back
        (section_read lists (sheet_read lists each.1) pairs after refl (omega arith) each.0.states
        (drop_behind bytes cursor.place (decimal (length pairs)) (state_lines pairs ++ sheet (lists ++ rest)) splits)
        (subst (λ (c : Cursor). Comes sections bytes c last) (same_cursor (past cursor [] (pairs ∷ lists)) (past after pairs lists) (omega arith) refl (omega (arith, long))) comes)))
      where
        after : Cursor
        after = record { begun = suc cursor.begun; left = length pairs; place = cursor.place + suc (length (decimal (length pairs))) }

        back : suc cursor.begun - 1 ≡ cursor.begun
        back = omega arith

        splits : drop cursor.place bytes ≡ decimal (length pairs) ++ (line_end ∷ (state_lines pairs ++ sheet (lists ++ rest)))
        splits = written ∙ sym (count_first pairs (lists ++ rest))

        long : length (state_lines [] ++ sheet (pairs ∷ lists)) ≡ suc (length (decimal (length pairs))) + length (state_lines pairs ++ sheet lists)
        long = sym (ap length (count_first pairs lists)) ∙ line_long (decimal (length pairs)) (state_lines pairs ++ sheet lists)

        line : CountLine sections bytes cursor after
        line =
            record {
              count = length pairs;
              begins = record { rest = state_lines pairs ++ sheet (lists ++ rest); splits = splits };
              none_left = none_left;
              wanted = omega arith;
              few = each.0.count;
              moves = refl;
            }

  -- from the start, what is written from `lists` and `rest`
  module _ (lists rest : List (List Pair)) (each : EachSection lists) (written : bytes ≡ sheet (lists ++ rest)) where
    ends_at : (past start [] lists).place ≡ length (sheet lists)
    ends_at = omega (arith, ap length (nothing (sheet lists)))

    follows : drop (past start [] lists).place bytes ≡ sheet rest
    follows =
        ap (λ (place : ℕ). drop place bytes) ends_at
        ∙ ap (drop (length (sheet lists))) (written ∙ sheet_append lists rest)
        ∙ drop-append_seam (sheet lists) (sheet rest)

    reads_to : (last : Next) → length lists ≤ sections → Comes sections bytes (past start [] lists) last → Reads sections bytes start (states_from 0 lists) last
    reads_to last fit comes = sheet_read rest last lists each start refl (omega arith) (written ∙ sym (nothing (sheet (lists ++ rest)))) comes

    faulty : length lists ≤ sections → ((after : Cursor) → CountLine sections bytes (past start [] lists) after → ⊥) → (IsOver sections bytes (past start [] lists) → ⊥) → FaultAt sections bytes (length (sheet lists))
    faulty fit no_count not_over =
        record {
          before = states_from 0 lists;
          reads =
              reads_to (Err (Malformed (length (sheet lists)))) fit
              (here {next = Err (Malformed (length (sheet lists)))}
              (record { no_count_line = no_count; no_state_line = λ state after line. omega (arith, line.wanted); not_over = not_over; is_place = sym ends_at }));
        }

  pub good_read : (lists : List (List Pair)) → Good sections bytes lists → Reads sections bytes start (states_from 0 lists) (Ok None)
  good_read lists good =
      let written : bytes ≡ sheet (lists ++ []) = good.written ∙ ap sheet (sym (append-nil lists)) in
      let over : IsOver sections bytes (past start [] lists) =
      record { none_left = refl; none_wanted = omega (arith, good.has_sections); nothing_follows = follows lists [] good.writable written ∙ none_written } in
      reads_to lists [] good.writable written (Ok None) (omega (arith, good.has_sections)) (here {next = Ok None} over)

  -- a reader of fewer sections refuses the count line behind them
  pub fault_at_next_count : (lists : List (List Pair)) (pairs : List Pair) (rest : List (List Pair)) → EachSection lists → length lists ≡ sections → bytes ≡ sheet (lists ++ (pairs ∷ rest)) → FaultAt sections bytes (length (sheet lists))
  fault_at_next_count lists pairs rest each are_sections written =
      faulty lists (pairs ∷ rest) each written (omega arith)
      (λ after line. omega (arith, line.wanted, are_sections))
      (λ over. some_written pairs rest (sym (follows lists (pairs ∷ rest) each written) ∙ over.nothing_follows))

  -- a reader of more sections wants a line behind the last
  pub fault_at_end : (lists : List (List Pair)) → EachSection lists → length lists < sections → bytes ≡ sheet lists → FaultAt sections bytes (length bytes)
  fault_at_end lists each fewer is_sheet =
      let written : bytes ≡ sheet (lists ++ []) = is_sheet ∙ ap sheet (sym (append-nil lists)) in
      subst (FaultAt sections bytes) (sym (ap length is_sheet))
      (faulty lists [] each written (omega arith)
      (λ after line. never_begins line.begins (follows lists [] each written ∙ none_written))
      (λ over. omega (arith, over.none_wanted)))
