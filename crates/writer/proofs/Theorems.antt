-- What is proved of the writer beside its contract: all lists and buffers have exactly one reply and one buffer after it; what is written is read as the same
-- lists, and a sheet that is read and written again is the same bytes; where refused, and behind the sheet, the buffer is as it was. Assumes nothing.
use mathlib.Core.Path.{◌≡◌, refl, sym, ap, subst, ◌∙◌}
use mathlib.Core.Logic.{◌↔◌, inl, inr, ⊎_elim}
use mathlib.Core.List.{List, ◌++◌, append-nil}
use mathlib.Core.Option.{some}
use Prim.Native.Nat.{ℕ, ◌+◌, ◌-◌, ◌≤◌, ◌<◌}
use native.Mathlib.Omega.{arith}
use lib.ListN.{length, length-map, get_or, take, drop, length-append, length-drop, drop_of_length-le, get_elem?}
use lib.Seq.{take-append_seam, get_or-append-add, get_or-drop}
use Rattle.std.specs.Prelude.{Ok, Err, None}
use Rattle.refusals.specs.Checks.{NoneOf, refuses, answers}
use Rattle.refusals.proofs.Theorems.{tells_once, none_is_answered, not_answered_is_refused, zero_is_answered}
use Rattle.sheets.specs.declared.State.{State}
use Rattle.sheets.specs.Grammar.{all_sections, Pair, sheet, Good, states_from, sum_of_counts}
use Rattle.sheets.specs.Reading.{start, Reads}
use Rattle.sheets.proofs.Theorems.{good_sheet_reads_as_written, written_once}
use Rattle.readings.specs.Figures.{sheet_answered, line_answered}
use Rattle.readings.specs.Readers.{most_bytes}
use Rattle.readings.specs.Replies.{ReadsAs, LineReadsAs}
use Rattle.readings.proofs.Answers.{good_told, good_line_told}
use Rattle.readings.proofs.Full.{full_sheet, full_sheet_is_good, full_sheet_has_66015_bytes, largest_sheet, largest_sheet_is_good, largest_sheet_has_65536_bytes}
use Rattle.measures.specs.declared.reply.WriteFigures.{WriteFigures}
use Rattle.measures.specs.Columns.{Columns, pairs_of, lists_of}
use Rattle.measures.specs.Checks.{write_checks}
use Rattle.measures.specs.Replies.{answered, refused_with, WriteReply, figures_of, Told}
use Rattle.measures.specs.Inside.{EachMakesSection}
use Rattle.measures.proofs.Telling.{makes_sections, each_section, told_length}
use Rattle.measures.proofs.Theorems.{figures_determine_reply, every_list_is_told}
use Rattle.writer.specs.Replies.{Leaving, left, Writes}
use Rattle.writer.proofs.Telling.{writes_refusal}
use Rattle.writer.proofs.Back.{fluids_in, lists_again, fluids_again, never_unfit, never_too_many_digits}

abbrev figures_in : Leaving → WriteFigures
figures_in after = after.figures

abbrev number_in : Leaving → ℕ
number_in after = after.figures.number

abbrev length_in : Leaving → ℕ
length_in after = after.figures.length

abbrev buffer_in : Leaving → List ℕ
buffer_in after = after.buffer

-- all bytes of a buffer from a place on are as they were
pub record Beyond (before : List ℕ) (place : ℕ) (after : List ℕ) : Type 0 where
  pub same_length : length after ≡ length before
  pub same_bytes : (k : ℕ) → place ≤ k → get_or after k 0 ≡ get_or before k 0

behind_text : (text before : List ℕ) → length text ≤ length before → Beyond before (length text) (text ++ drop (length text) before)
behind_text text before room =
    record {
      same_length = omega (arith, length-append text (drop (length text) before), length-drop (length text) before);
      same_bytes = λ k behind.
          let on : length text + (k - length text) ≡ k = omega arith in
          rw (← on) (get_or-append-add text (drop (length text) before) (k - length text) 0 ∙ get_or-drop (length text) before (k - length text) 0);
    }

abbrev sheet_of : List Columns → List ℕ
sheet_of fluids = sheet (lists_of fluids)

module _ (fluids : List Columns) (before : List ℕ) where
  -- The number, the length and every byte of the buffer are fixed.
  pub write_determined : (after other : Leaving) → Writes fluids before after → Writes fluids before other → after ≡ other
  write_determined = tells_once (write_checks fluids (length before)) (λ refusal after other told told'. told ∙ sym told') (λ after other told told'. told ∙ sym told')

  pub reply_determined : (reply other : WriteReply) (buffer buffer' : List ℕ) → Writes fluids before (left (figures_of reply) buffer) → Writes fluids before (left (figures_of other) buffer') → (reply ≡ other) × (buffer ≡ buffer')
  reply_determined reply other buffer buffer' p q =
      let same = write_determined (left (figures_of reply) buffer) (left (figures_of other) buffer') p q in
      (figures_determine_reply reply other (ap figures_in same), ap buffer_in same)

  pub record Answered : Type 0 where
    pub reply : WriteReply
    pub buffer : List ℕ
    pub writes : Writes fluids before (left (figures_of reply) buffer)

  -- All lists have a reply, whatever the buffer is.
  pub every_list_has_a_reply : Answered
  every_list_has_a_reply = by_reply (every_list_is_told fluids (length before))
    where
      by_reply : (reply : WriteReply) × Told fluids (length before) (figures_of reply) → Answered
      by_reply (Ok long, told) =
          let passes = told_length fluids told in
          record {
            reply = Ok long;
            buffer = sheet_of fluids ++ drop (length (sheet_of fluids)) before;
            writes = answers passes.none (ap (λ (n : ℕ). left (record { number = 0; length = n }) (sheet_of fluids ++ drop (length (sheet_of fluids)) before)) passes.is_length);
          }
      by_reply (Err refusal, told) = record { reply = Err refusal; buffer = before; writes = writes_refusal fluids refusal told }

  -- The sheet is written exactly where no check applies: a buffer of just its length is enough.
  pub just_enough_room : NoneOf (write_checks fluids (length (sheet_of fluids))) → length before ≡ length (sheet_of fluids) → Writes fluids before (left (answered (sheet_of fluids)) (sheet_of fluids))
  just_enough_room none just_enough =
      let all : length before ≤ length (sheet_of fluids) = omega arith in
      answers (rw just_enough none) (ap (left (answered (sheet_of fluids))) (sym (ap (λ (l : List ℕ). sheet_of fluids ++ l) (drop_of_length-le before all) ∙ append-nil (sheet_of fluids))))

  module _ {after : Leaving} (writes : Writes fluids before after) where
    holds_sheet : number_in after ≡ 0 → NoneOf (write_checks fluids (length before)) × (after ≡ left (answered (sheet_of fluids)) (sheet_of fluids ++ drop (length (sheet_of fluids)) before))
    holds_sheet is_0 = zero_is_answered number_in (write_checks fluids (length before)) refl (λ refusal told. ap number_in told) is_0 writes

    pub written_exactly : (number_in after ≡ 0) ↔ NoneOf (write_checks fluids (length before))
    written_exactly = (λ is_0. (holds_sheet is_0).0, λ none. ap number_in (none_is_answered (write_checks fluids (length before)) none writes))

    -- Any other number comes with the buffer as it was, and no length.
    pub refused_writes_nothing : (number_in after ≡ 0 → ⊥) → (buffer_in after ≡ before) × (length_in after ≡ 0)
    refused_writes_nothing not_0 =
        let refused = not_answered_is_refused (λ told. not_0 (ap number_in told)) writes in
        (ap buffer_in refused.1, ap length_in refused.1)

    -- Whatever the reply, the buffer has as many bytes as before, and each behind the length that is told is as it was.
    pub beyond_stays : Beyond before (length_in after) (buffer_in after)
    beyond_stays = by_reply writes
      where
        by_reply : Writes fluids before after → Beyond before (length_in after) (buffer_in after)
        by_reply (refuses refusal first told) = rw told (record { same_length = refl; same_bytes = λ k behind. refl })
        by_reply (answers none told) =
            let not_small : length before < length (sheet_of fluids) → ⊥ = λ small. none.1.1.0 (inl small) in
            rw told (behind_text (sheet_of fluids) before (omega arith))

-- What is written is read back as what it was written from, by a reader of the whole sheet and line by line.
pub record ReadsBack (fluids : List Columns) (bytes : List ℕ) : Type 0 where
  pub good : Good all_sections bytes (lists_of fluids)
  pub same_lists : (lists : List (List Pair)) → Good all_sections bytes lists → fluids_in lists ≡ fluids
  pub state_for_state : Reads all_sections bytes start (states_from 0 (lists_of fluids)) (Ok None)
  pub count : ReadsAs bytes (sheet_answered (sum_of_counts (lists_of fluids)))
  pub each_line : (k : ℕ) {state : State} → k < sum_of_counts (lists_of fluids) → get_elem? (states_from 0 (lists_of fluids)) k ≡ some state → LineReadsAs bytes k (line_answered state)

pub written_reads_back : (fluids : List Columns) (before : List ℕ) {after : Leaving} → length fluids ≡ all_sections → Writes fluids before after → number_in after ≡ 0 → ReadsBack fluids (take (length_in after) (buffer_in after))
written_reads_back fluids before {after} three writes is_0 = subst (ReadsBack fluids) (sym is_written) reads_back
  where
    held : NoneOf (write_checks fluids (length before)) × (after ≡ left (answered (sheet_of fluids)) (sheet_of fluids ++ drop (length (sheet_of fluids)) before))
    held = holds_sheet fluids before writes is_0

    is_written : take (length_in after) (buffer_in after) ≡ sheet_of fluids
    is_written = rw held.1 (take-append_seam (sheet_of fluids) (drop (length (sheet_of fluids)) before))

    sections : EachMakesSection fluids
    sections = makes_sections fluids held.0.0 held.0.1.0

    good : Good all_sections (sheet_of fluids) (lists_of fluids)
    good = record { has_sections = length-map fluids pairs_of ∙ three; writable = each_section fluids sections; written = refl }

    reads_back : ReadsBack fluids (sheet_of fluids)
    reads_back =
        let not_long : most_bytes < length (sheet_of fluids) → ⊥ = λ long. held.0.1.1.0 (inr long) in
        record {
          good = good;
          same_lists = λ lists other. ap fluids_in (written_once (sheet_of fluids) lists (lists_of fluids) other good) ∙ fluids_again fluids sections;
          state_for_state = good_sheet_reads_as_written (sheet_of fluids) (lists_of fluids) good;
          count = good_told (sheet_of fluids) (lists_of fluids) (omega arith) good;
          each_line = good_line_told (sheet_of fluids) (lists_of fluids) (omega arith) good;
        }

-- A sheet that is read and written again, where there is room for it, is the same bytes.
pub read_and_written_again : (bytes before : List ℕ) (lists : List (List Pair)) → Good all_sections bytes lists → length bytes ≤ most_bytes → length bytes ≤ length before → {after : Leaving} → Writes (fluids_in lists) before after → after ≡ left (answered bytes) (bytes ++ drop (length bytes) before)
read_and_written_again bytes before lists good short room {after} writes =
    none_is_answered (write_checks (fluids_in lists) (length before)) none writes ∙ ap (λ (l : List ℕ). left (answered l) (l ++ drop (length l) before)) same
  where
    same : sheet (lists_of (fluids_in lists)) ≡ bytes
    same = ap sheet (lists_again lists) ∙ sym good.written

    none : NoneOf (write_checks (fluids_in lists) (length before))
    none = (
      never_unfit lists good.writable,
      (never_too_many_digits lists good.writable, (⊎_elim (λ small. omega (arith, ap length same)) (λ long. omega (arith, ap length same)), tt)),
    )

-- Three full sections can pass the most bytes of a sheet: the longest such lists are refused by 10, whatever the buffer is, and lists whose sheet has exactly as
-- many bytes as allowed are written.
pub full_sheet_is_refused_by_10 : (before : List ℕ) → Writes (fluids_in full_sheet) before (left (refused_with 10) before)
full_sheet_is_refused_by_10 before =
    let each = full_sheet_is_good.writable in
    let long = ap (λ (lists : List (List Pair)). length (sheet lists)) (lists_again full_sheet) in
    refuses 10 (inr (never_unfit full_sheet each, inr (never_too_many_digits full_sheet each, inl (inr (omega (arith, long, full_sheet_has_66015_bytes)), refl)))) refl

pub largest_sheet_is_written : (before : List ℕ) → most_bytes ≤ length before → {after : Leaving} → Writes (fluids_in largest_sheet) before after → after ≡ left (answered (sheet largest_sheet)) (sheet largest_sheet ++ drop (length (sheet largest_sheet)) before)
largest_sheet_is_written before room =
    read_and_written_again (sheet largest_sheet) before largest_sheet largest_sheet_is_good (omega (arith, largest_sheet_has_65536_bytes)) (omega (arith, largest_sheet_has_65536_bytes))
