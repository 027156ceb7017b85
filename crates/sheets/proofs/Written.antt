-- A sheet that is read to its end was written from lists. Said from any cursor on: `pairs` are the state lines that the section begun last
-- still lacks, `lists` the sections to come. Assumes nothing.
use mathlib.Core.Path.{◌≡◌, refl, sym, ap, subst, ◌∙◌}
use mathlib.Core.List.{List, [], ◌∷◌, ◌++◌, append_assoc}
use Prim.Native.Nat.{ℕ, suc, ◌+◌, ◌-◌, ◌≤◌, ◌<◌}
use native.Mathlib.Nat.{suc-ne-zero}
use native.Mathlib.Omega.{arith}
use lib.ListN.{length, drop, length-append}
use lib.Seq.{append_snoc}
use Rattle.sheets.specs.declared.State.{State}
use Rattle.sheets.specs.declared.Cursor.{Cursor}
use Rattle.sheets.specs.Reading.{start, CountLine, StateLine, IsOver, Comes, behind_count, here, Reads}
use Rattle.std.specs.Prelude.{Ok, Some, None}
use Rattle.sheets.specs.Grammar.{most_states, line_end, decimal, Pair, pair_text, line, state_lines, section, sheet, EachWritable, EachSection, Good, of_fluid, states_from, sum_of_counts}
use Rattle.sheets.proofs.Splits.{drop_behind}

-- a count line before its state lines and the sections to come
pub count_first : (pairs : List Pair) (lists : List (List Pair)) → decimal (length pairs) ++ (line_end ∷ (state_lines pairs ++ sheet lists)) ≡ state_lines [] ++ sheet (pairs ∷ lists)
unfolding state_lines section sheet
count_first pairs lists =
    sym (append_snoc (decimal (length pairs)) line_end (state_lines pairs ++ sheet lists))
    ∙ sym (append_assoc (line (decimal (length pairs))) (state_lines pairs) (sheet lists))

-- a state line before the others of its section
pub state_first : (pair : Pair) (pairs : List Pair) (lists : List (List Pair)) → pair_text pair ++ (line_end ∷ (state_lines pairs ++ sheet lists)) ≡ state_lines (pair ∷ pairs) ++ sheet lists
unfolding state_lines
state_first pair pairs lists =
    sym (append_snoc (pair_text pair) line_end (state_lines pairs ++ sheet lists)) ∙ sym (append_assoc (line (pair_text pair)) (state_lines pairs) (sheet lists))

pub nothing : (l : List ℕ) → state_lines [] ++ l ≡ l
unfolding state_lines
nothing l = refl

pub none_written : sheet [] ≡ []
unfolding sheet
none_written = refl

none_first : [] ≡ state_lines [] ++ sheet []
none_first = sym (nothing (sheet []) ∙ none_written)

-- read to the end from a cursor on, the bytes were written from lists
pub record Lists (sections : ℕ) (bytes : List ℕ) (cursor : Cursor) (states : List State) : Type 0 where
  pub pairs : List Pair
  pub lists : List (List Pair)
  pub are_left : length pairs ≡ cursor.left
  pub are_sections : length lists ≡ sections - cursor.begun
  pub each_pair : EachWritable pairs
  pub each_section : EachSection lists
  pub written : drop cursor.place bytes ≡ state_lines pairs ++ sheet lists
  pub are_states : states ≡ of_fluid (cursor.begun - 1) pairs ++ states_from cursor.begun lists

-- from the start: a reading to the end is a good sheet's
pub record Written (sections : ℕ) (bytes : List ℕ) (states : List State) : Type 0 where
  pub lists : List (List Pair)
  pub good : Good sections bytes lists
  pub are_states : states ≡ states_from 0 lists

module _ {sections : ℕ} (bytes : List ℕ) where
  count_lists : (cursor after : Cursor) (states : List State) → CountLine sections bytes cursor after → Lists sections bytes after states → Lists sections bytes cursor states
  count_lists cursor after states line lists = from_moved (subst (λ (c : Cursor). Lists sections bytes c states) line.moves lists)
    where
      from_moved : Lists sections bytes (record { begun = suc cursor.begun; left = line.count; place = cursor.place + suc (length (decimal line.count)) }) states → Lists sections bytes cursor states
      from_moved later =
          let wanted : cursor.begun < sections = line.wanted in
          let same : length later.pairs ≡ line.count = later.are_left in
          let back : suc cursor.begun - 1 ≡ cursor.begun = omega arith in
          let few : line.count ≤ most_states = line.few in
          record {
            pairs = [];
            lists = later.pairs ∷ later.lists;
            are_left = sym line.none_left;
            are_sections = omega (arith, later.are_sections);
            each_pair = tt;
            each_section = (record { count = omega arith; states = later.each_pair }, later.each_section);
            written =
                line.begins.splits
                ∙ ap (λ (l : List ℕ). decimal line.count ++ (line_end ∷ l)) (sym (drop_behind bytes cursor.place (decimal line.count) line.begins.rest line.begins.splits) ∙ later.written)
                ∙ ap (λ (n : ℕ). decimal n ++ (line_end ∷ (state_lines later.pairs ++ sheet later.lists))) (sym same)
                ∙ count_first later.pairs later.lists;
            are_states = later.are_states ∙ ap (λ (f : ℕ). of_fluid f later.pairs ++ states_from (suc cursor.begun) later.lists) back;
          }

  state_lists : (cursor : Cursor) (state : State) (after : Cursor) (states : List State) → StateLine bytes cursor state after → Lists sections bytes after states → Lists sections bytes cursor (state ∷ states)
  state_lists cursor state after states line lists = from_moved (subst (λ (c : Cursor). Lists sections bytes c states) line.moves lists)
    where
      from_moved : Lists sections bytes (record { begun = cursor.begun; left = cursor.left - 1; place = cursor.place + suc (length (pair_text line.pair)) }) states → Lists sections bytes cursor (state ∷ states)
      from_moved later =
          let wanted : 0 < cursor.left = line.wanted in
          record {
            pairs = line.pair ∷ later.pairs;
            lists = later.lists;
            are_left = omega (arith, later.are_left);
            are_sections = later.are_sections;
            each_pair = (line.writable, later.each_pair);
            each_section = later.each_section;
            written =
                line.begins.splits
                ∙ ap (λ (l : List ℕ). pair_text line.pair ++ (line_end ∷ l)) (sym (drop_behind bytes cursor.place (pair_text line.pair) line.begins.rest line.begins.splits) ∙ later.written)
                ∙ state_first line.pair later.pairs later.lists;
            are_states =
                ap (λ (s : State). s ∷ states) line.is_state
                ∙ ap (λ (l : List State). record { fluid = cursor.begun - 1; millikelvin = line.pair.millikelvin; pascals = line.pair.pascals } ∷ l) later.are_states;
          }

  over_lists : (cursor : Cursor) → IsOver sections bytes cursor → Lists sections bytes cursor []
  over_lists cursor over =
      record {
        pairs = [];
        lists = [];
        are_left = sym over.none_left;
        are_sections = omega (arith, over.none_wanted);
        each_pair = tt;
        each_section = tt;
        written = over.nothing_follows ∙ none_first;
        are_states = refl;
      }

  comes_over : {cursor : Cursor} → Comes sections bytes cursor (Ok None) → Lists sections bytes cursor []
  comes_over {cursor} (behind_count {after = after} line comes) = count_lists cursor after [] line (comes_over comes)
  comes_over {cursor} (here over) = over_lists cursor over

  comes_state : {cursor : Cursor} {state : State} {after : Cursor} (states : List State) → Comes sections bytes cursor (Ok (Some (record { state = state; after = after }))) → Lists sections bytes after states → Lists sections bytes cursor (state ∷ states)
  comes_state {cursor} {state} {after} states (behind_count {after = between} line comes) lists =
      count_lists cursor between (state ∷ states) line (comes_state states comes lists)
  comes_state {cursor} {state} {after} states (here line) lists = state_lists cursor state after states line lists

  pub reads_lists : (cursor : Cursor) (states : List State) → Reads sections bytes cursor states (Ok None) → Lists sections bytes cursor states
  reads_lists cursor [] reads = comes_over reads
  reads_lists cursor (state ∷ states) reads = comes_state states reads.1 (reads_lists reads.0 states reads.2)

  pub read_good : (states : List State) → Reads sections bytes start states (Ok None) → Written sections bytes states
  read_good states reads = none_left whole.pairs whole.are_left whole.written whole.are_states
    where
      whole : Lists sections bytes start states
      whole = reads_lists start states reads

      none_left : (pairs : List Pair) → length pairs ≡ 0 → bytes ≡ state_lines pairs ++ sheet whole.lists → states ≡ of_fluid 0 pairs ++ states_from 0 whole.lists → Written sections bytes states
      none_left [] none written are_states =
          record {
            lists = whole.lists;
            good = record { has_sections = omega (arith, whole.are_sections); writable = whole.each_section; written = written ∙ nothing (sheet whole.lists) };
            are_states = are_states;
          }
      none_left (pair ∷ pairs) none written are_states = absurd (suc-ne-zero (length pairs) none)

section_counted : (fluid : ℕ) (pairs : List Pair) → length (of_fluid fluid pairs) ≡ length pairs
section_counted fluid [] = refl
section_counted fluid (pair ∷ pairs) = ap suc (section_counted fluid pairs)

-- as many state lines as the counts say
pub states_counted : (fluid : ℕ) (lists : List (List Pair)) → length (states_from fluid lists) ≡ sum_of_counts lists
states_counted fluid [] = refl
states_counted fluid (pairs ∷ lists) =
    length-append (of_fluid fluid pairs) (states_from (suc fluid) lists)
    ∙ ap (λ (n : ℕ). n + length (states_from (suc fluid) lists)) (section_counted fluid pairs)
    ∙ ap (λ (n : ℕ). length pairs + n) (states_counted (suc fluid) lists)
