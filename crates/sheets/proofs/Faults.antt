-- Bytes are a good sheet or have a fault, not both, and one fault; and the line at its place is a part of the sheet. Assumes nothing.
use mathlib.Core.Path.{◌≡◌, ap, ◌∙◌}
use mathlib.Core.Logic.{◌⊎◌, inl, inr}
use mathlib.Core.List.{List}
use Prim.Native.Nat.{ℕ, suc, ◌+◌, ◌-◌, ◌≤◌}
use native.Mathlib.Omega.{arith}
use lib.ListN.{length, take, drop, length-drop}
use Rattle.sheets.specs.Reading.{Next, start, Reads, FaultAt, line_of}
use Rattle.sheets.specs.declared.Fault.TheVariants.{Malformed, TooLong}
use Rattle.std.specs.Prelude.{Ok, Err, Some, None}
use Rattle.sheets.specs.declared.Digest.TheVariants.{Empty}
use Rattle.sheets.specs.declared.Scanned.{Scanned}
use Rattle.sheets.specs.Grammar.{Pair, Good, states_from}
use Rattle.sheets.specs.Digests.{whole_line, scans}
use Rattle.sheets.proofs.Splits.{take_line, inside}
use Rattle.sheets.proofs.Walks.{Ends, reads_determined, reads_never_too_long, reading_fault_inside}
use Rattle.sheets.proofs.Existence.{Whole, whole}
use Rattle.sheets.proofs.Written.{read_good}
use Rattle.sheets.proofs.Readable.{good_read}

module _ {sections : ℕ} (bytes : List ℕ) where
  pub good_has_no_fault : (lists : List (List Pair)) (place : ℕ) → Good sections bytes lists → FaultAt sections bytes place → ⊥
  good_has_no_fault lists place good fault =
      let same = reads_determined sections bytes start fault.before (states_from 0 lists) (Err (Malformed place)) (Ok None) tt tt fault.reads (good_read sections bytes lists good) in
      let never : ◌≡◌ {A = ℕ} 0 1 = cc same.same_last in omega arith

  pub fault_once : (place place' : ℕ) → FaultAt sections bytes place → FaultAt sections bytes place' → place ≡ place'
  fault_once place place' fault fault' =
      let same = reads_determined sections bytes start fault.before fault'.before (Err (Malformed place)) (Err (Malformed place')) tt tt fault.reads fault'.reads in
      cc same.same_last

  pub good_or_fault : ((lists : List (List Pair)) × Good sections bytes lists) ⊎ ((place : ℕ) × FaultAt sections bytes place)
  good_or_fault = by_end read_whole.last read_whole.ends read_whole.reads
    where
      read_whole : Whole sections bytes start
      read_whole = whole sections bytes (suc (length bytes)) start (omega arith)

      by_end : (last : Next) → Ends last → Reads sections bytes start read_whole.states last → ((lists : List (List Pair)) × Good sections bytes lists) ⊎ ((place : ℕ) × FaultAt sections bytes place)
      by_end (Ok (Some line)) ends reads = absurd ends
      by_end (Ok None) ends reads = let written = read_good bytes read_whole.states reads in inl (written.lists, written.good)
      by_end (Err (Malformed place)) ends reads = inr (place, record { before = read_whole.states; reads = reads })
      by_end (Err TooLong) ends reads = absurd (reads_never_too_long sections bytes start read_whole.states reads)

-- where a scan from the place of a fault ends, the line's text and the line, lies behind that place and within the sheet
pub record Lies (bytes : List ℕ) (place : ℕ) (line : Scanned) : Type 0 where
  pub text_behind : place ≤ line.end
  pub text_within : line.end ≤ length bytes
  pub line_behind : place ≤ line.next
  pub line_within : line.next ≤ length bytes

module _ (bytes : List ℕ) (place : ℕ) (line : Scanned) (is_scan : line ≡ scans place Empty (drop place bytes)) where
  text_end : line.end ≡ place + length (line_of (drop place bytes))
  text_end = ap (λ (scanned : Scanned). scanned.end) is_scan

  line_end : line.next ≡ place + whole_line (drop place bytes)
  line_end = ap (λ (scanned : Scanned). scanned.next) is_scan

  pub lies : {sections : ℕ} → FaultAt sections bytes place → Lies bytes place line
  lies {sections} fault =
      let within = reading_fault_inside sections bytes start fault.before place (omega arith) fault.reads in
      let left = length-drop place bytes in
      let parts = inside (drop place bytes) in
      record {
        text_behind = omega (arith, text_end);
        text_within = omega (arith, text_end, within, left, parts.text_inside);
        line_behind = omega (arith, line_end);
        line_within = omega (arith, line_end, within, left, parts.end_inside);
      }

  pub is_part : take (line.end - place) (drop place bytes) ≡ line_of (drop place bytes)
  is_part =
      let long : line.end - place ≡ length (line_of (drop place bytes)) = omega (arith, text_end) in
      ap (λ (n : ℕ). take n (drop place bytes)) long ∙ take_line (drop place bytes)
