-- A scan goes on with what is left and stops at a line's end: at each place, what is left gives the whole. Assumes nothing.
use mathlib.Core.Path.{◌≡◌}
use mathlib.Core.List.{List}
use Prim.Native.Nat.{ℕ, suc, ◌+◌, ◌≤◌, ◌<◌}
use native.Mathlib.Nat.{add-zero, add-suc, suc-add}
use lib.ListN.{length, drop, get_or, drop_of_length-le}
use lib.Seq.{drop-cons}
use borrow.Author.Tests.{eq-eqb, ne_eqb}
use Rattle.sheets.specs.declared.Digest.{Digest}
use Rattle.sheets.specs.declared.Scanned.{Scanned}
use Rattle.sheets.specs.Grammar.{line_end}
use Rattle.sheets.specs.Digests.{takes, scans}

abbrev pub stopped : (place next : ℕ) → Digest → Scanned
stopped place next digest = record { digest = digest; end = place; next = next }

module _ (bytes : List ℕ) (place : ℕ) (digest : Digest) where
  pub at_end : length bytes ≤ place → scans place digest (drop place bytes) ≡ stopped place place digest
  at_end past = simp (drop_of_length-le bytes past, add-zero)

  pub at_line_end : place < length bytes → get_or bytes place 0 ≡ line_end → scans place digest (drop place bytes) ≡ stopped place (place + 1) digest
  at_line_end inside is_end = simp (drop-cons bytes place 0 inside, eq-eqb (get_or bytes place 0) line_end is_end, add-zero)

  pub goes_on : place < length bytes → (get_or bytes place 0 ≡ line_end → ⊥) → scans place digest (drop place bytes) ≡ scans (suc place) (takes digest (get_or bytes place 0)) (drop (suc place) bytes)
  goes_on inside no_end = simp (drop-cons bytes place 0 inside, ne_eqb (get_or bytes place 0) line_end no_end, add-suc, suc-add)
