-- What is proved of a sheet that is walked, beside the call's contract: the contract fixes the number and every value that the caller lent, whatever the
-- cursor holds; and calls from zeros on tell just the lists that write to the sheet, and then 16, or the number that its reading has. Assumes nothing.
use mathlib.Core.Path.{◌≡◌, refl, sym, ap, subst, ◌∙◌}
use mathlib.Core.Bool.{cond}
use mathlib.Core.List.{List, ◌∷◌, []}
use Prim.Native.Nat.{ℕ, ◌≤◌, suc}
use native.Mathlib.Omega.{arith}
use native.Mathlib.Decide.{dec_le}
use lib.Dec.{eqb}
use lib.ListN.{length, get_or}
use Rattle.sheets.specs.declared.State.{State}
use Rattle.sheets.specs.declared.Cursor.{Cursor}
use Rattle.std.specs.Prelude.{Ok, Err, Some, None}
use Rattle.sheets.specs.declared.Fault.TheVariants as Fault
use Rattle.sheets.specs.Grammar.{all_sections, Pair, Good, states_from, sum_of_counts}
use Rattle.sheets.specs.Reading.{Next, start, Comes, Reads}
use Rattle.sheets.proofs.Walks.{Ends, reads_determined, reads_never_too_long}
use Rattle.sheets.proofs.Existence.{whole}
use Rattle.sheets.proofs.Readable.{good_read}
use Rattle.sheets.proofs.Written.{Written, read_good}
use Rattle.readings.specs.Figures.{Reading, sheet_figures, next_figures}
use Rattle.readings.specs.Readers.{most_bytes, TooLong}
use Rattle.readings.specs.Replies.{NextIs, ReadsAs}
use Rattle.readings.proofs.Answers.{good_told, long_told, fault_told}
use Rattle.readings.proofs.Nexts.{long_next, told_next, next_came}
use Rattle.readings.proofs.Theorems.{next_determined, reading_determined}
use Rattle.laying.proofs.Theorems.{told_alike}
use Rattle.woolyard.specs.Sheets.{SheetAnswers}
use Rattle.woolyard.specs.Nexts.{cursor_of, cursor_numbers, state_numbers, three_zeros, next_number, cursor_after, next_state, NextAnswers, Walked}

module _ (bytes before : List ℕ) where
  -- whatever the cursor holds
  pub sheet_next_determined : {number number' : ℕ} {after after' state state' : List ℕ} → NextAnswers bytes before number after state → NextAnswers bytes before number' after' state' → ((number ≡ number') × (after ≡ after')) × (state ≡ state')
  sheet_next_determined p q =
      let same = next_determined bytes (cursor_of before) p.reply q.reply p.next_is q.next_is in (
        told_alike next_number (cursor_after before) same p.is_number q.is_number p.is_after q.is_after,
        p.is_state ∙ ap next_state same ∙ sym q.is_state,
      )

  -- where no line is told, the cursor stays and the state is zeros
  pub refused_leaves_the_cursor : {number : ℕ} {after state : List ℕ} → NextAnswers bytes before number after state → (number ≡ 0 → ⊥) → (after ≡ before) × (state ≡ three_zeros)
  refused_leaves_the_cursor {number} {after} {state} p some = by_reply p.reply p.is_number p.is_after p.is_state
    where
      by_reply : (next : Next) → number ≡ next_number next → after ≡ cursor_after before next → state ≡ next_state next → (after ≡ before) × (state ≡ three_zeros)
      by_reply (Ok (Some line)) is is_after is_state = absurd (some is)
      by_reply (Ok None) is is_after is_state = (is_after, is_state)
      by_reply (Err (Fault.Malformed place)) is is_after is_state = (is_after, is_state)
      by_reply (Err Fault.TooLong) is is_after is_state = (is_after, is_state)

-- three numbers tell one state
abbrev state_back : List ℕ → State
state_back numbers = record { fluid = get_or numbers 0 0; millikelvin = get_or numbers 1 0; pascals = get_or numbers 2 0 }

same_state : (one other : State) → state_numbers one ≡ state_numbers other → one ≡ other
same_state one other same = ap state_back same

-- where a walk stopped: the reading that it made, up to what told no line
record Stopped (bytes : List ℕ) (cursor : Cursor) (states : List State) (last : ℕ) : Type 0 where
  pub next : Next
  pub ends : Ends next
  pub reads : Reads all_sections bytes cursor states next
  pub is_last : last ≡ next_number next

pub record AnyWalk (bytes : List ℕ) : Type 0 where
  pub states : List State
  pub last : ℕ
  pub walked : Walked bytes three_zeros states last

-- the number of the call behind the last state line, in a sheet whose reading has this number
abbrev end_of : (number : ℕ) → ℕ
end_of number = cond (eqb number 0) 16 number

module _ (bytes : List ℕ) where
  module _ (fits : length bytes ≤ most_bytes) where
    -- ---- a walk is a reading
    stops : (cursor : Cursor) (last : ℕ) (next : Next) → NextIs bytes cursor (next_figures next) → last ≡ next_number next → (last ≡ 0 → ⊥) → Stopped bytes cursor [] last
    stops cursor last (Ok (Some line)) next_is is some = absurd (some is)
    stops cursor last (Ok None) next_is is some =
        record { next = Ok None; ends = tt; reads = (next_came bytes cursor (Ok None) refl next_is).comes; is_last = is }
    stops cursor last (Err (Fault.Malformed place)) next_is is some =
        record { next = Err (Fault.Malformed place); ends = tt; reads = (next_came bytes cursor (Err (Fault.Malformed place)) refl next_is).comes; is_last = is }
    stops cursor last (Err Fault.TooLong) next_is is some = let long = next_came bytes cursor (Err Fault.TooLong) refl next_is in absurd (omega (arith, long, fits))

    goes_on : (numbers after : List ℕ) (told : State) (states : List State) (last : ℕ) (next : Next) → NextIs bytes (cursor_of numbers) (next_figures next) → 0 ≡ next_number next → after ≡ cursor_after numbers next → state_numbers told ≡ next_state next → Stopped bytes (cursor_of after) states last → Stopped bytes (cursor_of numbers) (told ∷ states) last
    goes_on numbers after told states last (Ok (Some line)) next_is is is_after is_state later =
        record {
          next = later.next;
          ends = later.ends;
          reads = (
            line.after,
            subst (λ (s : State). Comes all_sections bytes (cursor_of numbers) (Ok (Some (record { state = s; after = line.after })))) (sym (same_state told line.state is_state)) (next_came bytes (cursor_of numbers) (Ok (Some line)) refl next_is).comes,
            subst (λ (c : Cursor). Reads all_sections bytes c states later.next) (ap cursor_of is_after) later.reads,
          );
          is_last = later.is_last;
        }
    goes_on numbers after told states last (Ok None) next_is is is_after is_state later = absurd (omega (arith, is))
    goes_on numbers after told states last (Err (Fault.Malformed place)) next_is is is_after is_state later = absurd (omega (arith, is))
    goes_on numbers after told states last (Err Fault.TooLong) next_is is is_after is_state later = absurd (omega (arith, is))

    walked_reads : (numbers : List ℕ) (states : List State) (last : ℕ) → Walked bytes numbers states last → Stopped bytes (cursor_of numbers) states last
    walked_reads numbers [] last walked =
        let call = walked.2 in
        stops (cursor_of numbers) last call.reply call.next_is call.is_number walked.3
    walked_reads numbers (told ∷ states) last walked =
        let call = walked.1 in
        goes_on numbers walked.0 told states last call.reply call.next_is call.is_number call.is_after call.is_state (walked_reads walked.0 states last walked.2)

    -- ---- a reading is a walk
    answers_next : (numbers : List ℕ) (next : Next) → Comes all_sections bytes (cursor_of numbers) next → NextAnswers bytes numbers (next_number next) (cursor_after numbers next) (next_state next)
    answers_next numbers next comes =
        record { reply = next; next_is = told_next bytes (cursor_of numbers) next fits comes; is_number = refl; is_after = refl; is_state = refl }

    refused_number : (next : Next) → Ends next → next_number next ≡ 0 → ⊥
    refused_number (Ok (Some line)) ends is = ends
    refused_number (Ok None) ends is = omega (arith, is)
    refused_number (Err (Fault.Malformed place)) ends is = omega (arith, is)
    refused_number (Err Fault.TooLong) ends is = omega (arith, is)

    reads_walked : (numbers : List ℕ) (states : List State) (next : Next) → Ends next → Reads all_sections bytes (cursor_of numbers) states next → Walked bytes numbers states (next_number next)
    reads_walked numbers [] next ends reads = (cursor_after numbers next, next_state next, answers_next numbers next reads, refused_number next ends)
    reads_walked numbers (state ∷ states) next ends reads = (
      cursor_numbers reads.0,
      answers_next numbers (Ok (Some (record { state = state; after = reads.0 }))) reads.1,
      reads_walked (cursor_numbers reads.0) states next ends reads.2,
    )

    -- ---- from zeros on
    -- What lists write is walked as those very lists, and then comes 16.
    pub walk_tells_the_lists : (lists : List (List Pair)) → Good all_sections bytes lists → (states : List State) (last : ℕ) → Walked bytes three_zeros states last → (states ≡ states_from 0 lists) × (last ≡ 16)
    walk_tells_the_lists lists good states last walked =
        let stopped = walked_reads three_zeros states last walked in
        let same = reads_determined all_sections bytes start states (states_from 0 lists) stopped.next (Ok None) stopped.ends tt stopped.reads (good_read all_sections bytes lists good) in
        (same.same_states, stopped.is_last ∙ ap next_number same.same_last)

    pub lists_are_walked : (lists : List (List Pair)) → Good all_sections bytes lists → Walked bytes three_zeros (states_from 0 lists) 16
    lists_are_walked lists good = reads_walked three_zeros (states_from 0 lists) (Ok None) tt (good_read all_sections bytes lists good)

    -- 16 says that the sheet is good, and the states are all of its own.
    pub sixteen_is_a_good_sheet : (states : List State) → Walked bytes three_zeros states 16 → Written all_sections bytes states
    sixteen_is_a_good_sheet states walked = by_next stopped.next stopped.reads stopped.is_last
      where
        stopped : Stopped bytes start states 16
        stopped = walked_reads three_zeros states 16 walked

        by_next : (next : Next) → Reads all_sections bytes start states next → 16 ≡ next_number next → Written all_sections bytes states
        by_next (Ok (Some line)) reads is = absurd (omega (arith, is))
        by_next (Ok None) reads is = read_good bytes states reads
        by_next (Err (Fault.Malformed place)) reads is = absurd (omega (arith, is))
        by_next (Err Fault.TooLong) reads is = absurd (omega (arith, is))

  -- ---- a sheet that is too long
  long_told_next : {number : ℕ} {after state : List ℕ} → TooLong bytes → (numbers : List ℕ) → NextAnswers bytes numbers number after state → number ≡ 7
  long_told_next long numbers call =
      let at = cursor_of numbers in
      call.is_number ∙ ap next_number (next_determined bytes at call.reply (Err Fault.TooLong) call.next_is (long_next bytes at long))

  long_stops : TooLong bytes → (numbers : List ℕ) (states : List State) (last : ℕ) → Walked bytes numbers states last → last ≡ 7
  long_stops long numbers [] last walked = long_told_next long numbers walked.2
  long_stops long numbers (told ∷ states) last walked = omega (arith, long_told_next long numbers walked.1)

  -- The number that ends a walk is that of the sheet's reading, and 16 for a good sheet.
  pub walk_ends_as_the_reading : (states : List State) (last number : ℕ) (reading : List ℕ) → Walked bytes three_zeros states last → SheetAnswers bytes number reading → last ≡ end_of number
  walk_ends_as_the_reading states last number reading walked answer = by_length (dec_le (length bytes) most_bytes)
    where
      read_as : (owed : Reading) → ReadsAs bytes (sheet_figures owed) → end_of (sheet_figures owed).number ≡ end_of number
      read_as owed told =
          let same = reading_determined bytes owed answer.reply told answer.reads_as in
          ap end_of (ap (λ (r : Reading). (sheet_figures r).number) same ∙ sym answer.is_number)

      by_next : length bytes ≤ most_bytes → (next : Next) → Reads all_sections bytes start states next → last ≡ next_number next → Ends next → last ≡ end_of number
      by_next fits (Ok (Some line)) reads is ends = absurd ends
      by_next fits (Ok None) reads is ends =
          let written = read_good bytes states reads in
          is ∙ read_as (Ok (sum_of_counts written.lists)) (good_told bytes written.lists fits written.good)
      by_next fits (Err (Fault.Malformed place)) reads is ends =
          is ∙ read_as (Err (Fault.Malformed place)) (fault_told bytes place fits (record { before = states; reads = reads }))
      by_next fits (Err Fault.TooLong) reads is ends = absurd (reads_never_too_long all_sections bytes start states reads)

      by_length : Dec (length bytes ≤ most_bytes) → last ≡ end_of number
      by_length (yes fits) =
          let stopped = walked_reads fits three_zeros states last walked in
          by_next fits stopped.next stopped.reads stopped.is_last stopped.ends
      by_length (no over) =
          let long : TooLong bytes = omega arith in
          long_stops long three_zeros states last walked ∙ read_as (Err Fault.TooLong) (long_told bytes long)

  -- Every sheet is walked to such a number.
  pub every_sheet_is_walked : AnyWalk bytes
  every_sheet_is_walked = by_length (dec_le (length bytes) most_bytes)
    where
      by_length : Dec (length bytes ≤ most_bytes) → AnyWalk bytes
      by_length (yes fits) =
          let all = whole all_sections bytes (suc (length bytes)) start (omega arith) in
          record { states = all.states; last = next_number all.last; walked = reads_walked fits three_zeros all.states all.last all.ends all.reads }
      by_length (no over) =
          let call : NextAnswers bytes three_zeros 7 three_zeros three_zeros =
          record { reply = Err Fault.TooLong; next_is = long_next bytes start (omega arith); is_number = refl; is_after = refl; is_state = refl } in
          record { states = []; last = 7; walked = (three_zeros, three_zeros, call, λ never. omega (arith, never)) }
