-- What is proved of sheets that arrive in parts: however the bytes are cut, the answers and what is said at the end are the same; for as many bytes as
-- a sheet may have they are the whole sheet's, and for more it is 7, or the 6 that was met before. Assumes nothing.
use mathlib.Core.Path.{◌≡◌, refl, sym, ap, subst, ◌∙◌}
use mathlib.Core.Logic.{◌⊎◌, inl, inr}
use mathlib.Core.List.{List, [], ◌∷◌, ◌++◌, append-nil}
use Prim.Native.Nat.{ℕ, ◌≤◌, ◌<◌}
use native.Mathlib.Nat.{zero-add}
use lib.ListN.{length}
use Rattle.sheets.specs.declared.State.{State}
use Rattle.sheets.specs.Reading.{Next, start, Reads}
use Rattle.sheets.specs.declared.Fault.TheVariants.{Malformed, TooLong}
use Rattle.std.specs.Prelude.{Ok, Err, Some, None}
use Rattle.sheets.specs.Grammar.{all_sections, Pair, Good, states_from}
use Rattle.sheets.proofs.Walks.{Ends, reads_determined, reads_never_too_long}
use Rattle.sheets.proofs.Written.{read_good, states_counted}
use Rattle.sheets.proofs.Readable.{good_read}
use Rattle.readings.specs.Figures.{Reading, sheet_figures}
use Rattle.readings.specs.Readers.{most_bytes}
use Rattle.readings.specs.Replies.{ReadsAs}
use Rattle.readings.proofs.Answers.{good_told, fault_told}
use Rattle.parts.specs.Bytes.{Reader, Outcome, at_start, taking}
use Rattle.parts.specs.declared.Taken.{Taken}
use Rattle.parts.specs.Takes.{Takes, number_of_reader, number_of, over}
use Rattle.parts.specs.Served.{Served, ServedAll, joined}
use Rattle.parts.proofs.Bytes.{Stays, stays}
use Rattle.parts.proofs.Whole.{saying, Reading-on, reading_from_start}
use Rattle.parts.proofs.Longer.{MetBefore, longer}
use Rattle.parts.proofs.Calls.{take_determined, served_is, all_served_is}

same_outcome : {outcome : Outcome} {after after' : Reader} {states states' : List State} → outcome ≡ record { after = after; states = states } → outcome ≡ record { after = after'; states = states' } → (states ≡ states') × (after ≡ after')
same_outcome is is' =
    let same = sym is ∙ is' in
    (ap (λ (o : Outcome). o.states) same, ap (λ (o : Outcome). o.after) same)

-- Parts p and q one after another leave and answer what p ++ q does.
pub cut_anywhere : (reader between after after' : Reader) (p q : List ℕ) (first second states : List State) → Served reader p first between → Served between q second after → Served reader (p ++ q) states after' → (states ≡ first ++ second) × (after' ≡ after)
cut_anywhere reader between after after' p q first second states one two whole =
    let same = all_served_is reader (p ∷ q ∷ []) (first ++ second) after (first, second, between, refl, one, (second, [], after, sym (append-nil second), two, (refl, refl))) in
    same_outcome (served_is reader (p ++ q) states after' whole) (ap (λ (l : List ℕ). taking reader (p ++ l)) (sym (append-nil q)) ∙ same)

-- So the answers and the reader at the end, and with it what is said there, are the same however the bytes were cut.
pub however_cut : (reader after after' : Reader) (parts parts' : List (List ℕ)) (states states' : List State) → joined parts ≡ joined parts' → ServedAll reader parts states after → ServedAll reader parts' states' after' → (states ≡ states') × (over after ≡ over after')
however_cut reader after after' parts parts' states states' same_bytes one two =
    let same = same_outcome (all_served_is reader parts states after one) (ap (taking reader) same_bytes ∙ all_served_is reader parts' states' after' two) in
    (same.0, ap over same.1)

-- For as many bytes as a sheet may have, what is said at the end is what is said of the whole sheet, and the answers are its state lines if it is good.
module _ (bytes : List ℕ) (fits : length bytes ≤ most_bytes) where
  read_on : Reading-on bytes fits start 0 (taking at_start bytes)
  read_on = reading_from_start bytes fits

  said_as_whole : ReadsAs bytes (sheet_figures (over (taking at_start bytes).after))
  said_as_whole = subst (λ (r : Reading). ReadsAs bytes (sheet_figures r)) (sym (read_on.is_said ∙ ap (λ (n : ℕ). saying n read_on.last) (zero-add (length (taking at_start bytes).states)))) (by_end read_on.last read_on.ends read_on.reads)
    where
      states : List State
      states = (taking at_start bytes).states

      by_end : (last : Next) → Ends last → Reads all_sections bytes start states last → ReadsAs bytes (sheet_figures (saying (length states) last))
      by_end (Ok (Some line)) ends reads = absurd ends
      by_end (Ok None) ends reads =
          let written = read_good bytes states reads in
          rw (ap length written.are_states ∙ states_counted 0 written.lists) (good_told bytes written.lists fits written.good)
      by_end (Err (Malformed place)) ends reads = fault_told bytes place fits (record { before = states; reads = reads })
      by_end (Err TooLong) ends reads = absurd (reads_never_too_long all_sections bytes start states reads)

  answered_as_written : (lists : List (List Pair)) → Good all_sections bytes lists → (taking at_start bytes).states ≡ states_from 0 lists
  answered_as_written lists good =
      (reads_determined all_sections bytes start (taking at_start bytes).states (states_from 0 lists) read_on.last (Ok None) read_on.ends tt read_on.reads (good_read all_sections bytes lists good)).same_states

pub record AsWhole (bytes : List ℕ) (states : List State) (after : Reader) : Type 0 where
  pub said : ReadsAs bytes (sheet_figures (over after))
  pub answered : (lists : List (List Pair)) → Good all_sections bytes lists → states ≡ states_from 0 lists

pub parts_as_whole : (parts : List (List ℕ)) (states : List State) (after : Reader) → length (joined parts) ≤ most_bytes → ServedAll at_start parts states after → AsWhole (joined parts) states after
parts_as_whole parts states after fits served =
    let is = all_served_is at_start parts states after served in
    record {
      said = subst (λ (r : Reader). ReadsAs (joined parts) (sheet_figures (over r))) (ap (λ (o : Outcome). o.after) is) (said_as_whole (joined parts) fits);
      answered = λ lists good. sym (ap (λ (o : Outcome). o.states) is) ∙ answered_as_written (joined parts) fits lists good;
    }

-- For more bytes it is 7, which has no place, or the 6 that was met within as many as a sheet may have.
pub longer_is_seven : (parts : List (List ℕ)) (states : List State) (after : Reader) → most_bytes < length (joined parts) → ServedAll at_start parts states after → (over after ≡ Err TooLong) ⊎ MetBefore (joined parts) after
longer_is_seven parts states after long served =
    let is : (taking at_start (joined parts)).after ≡ after = ap (λ (o : Outcome). o.after) (all_served_is at_start parts states after served) in
    subst (λ (r : Reader). (over r ≡ Err TooLong) ⊎ MetBefore (joined parts) r) is (either (longer (joined parts) long))
  where
    either : ((taking at_start (joined parts)).after ≡ Err TooLong) ⊎ MetBefore (joined parts) (taking at_start (joined parts)).after → (over (taking at_start (joined parts)).after ≡ Err TooLong) ⊎ MetBefore (joined parts) (taking at_start (joined parts)).after
    either (inl seven) = inl (ap over seven)
    either (inr before) = inr before

-- Behind a fault nothing changes, and every part is used up.
pub after_a_fault_nothing : (reader : Reader) → Stays reader → (part : List ℕ) (reply : Taken) → Takes reader part reply → reply ≡ record { reader = reader; brought = None; taken = length part }
after_a_fault_nothing reader fault part reply takes =
    take_determined reader part reply (record { reader = reader; brought = None; taken = length part }) takes (record { is_taken = refl; brings = stays reader fault part })

pub start_determined : (reader reader' : Reader) → reader ≡ at_start → reader' ≡ at_start → reader ≡ reader'
start_determined reader reader' is is' = is ∙ sym is'

pub end_determined : (reader : Reader) (reading reading' : Reading) → reading ≡ over reader → reading' ≡ over reader → reading ≡ reading'
end_determined reader reading reading' is is' = is ∙ sym is'

pub reader_number_determined : (reader : Reader) (number number' : ℕ) → number ≡ number_of_reader reader → number' ≡ number_of_reader reader → number ≡ number'
reader_number_determined reader number number' is is' = is ∙ sym is'

pub number_determined : (reply : Taken) (number number' : ℕ) → number ≡ number_of reply.brought reply.reader → number' ≡ number_of reply.brought reply.reader → number ≡ number'
number_determined reply number number' is is' = is ∙ sym is'
