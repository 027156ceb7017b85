-- A number written at the start of an array that has room for its digits. Assumes nothing.
use mathlib.Core.Path.{◌≡◌}
use mathlib.Core.List.{List}
use Prim.Native.Nat.{ℕ, ◌+◌, ◌≤◌}
use native.Mathlib.Omega.{arith}
use lib.ListN.{length, take}
use Rattle.sheets.specs.Grammar.{digits}
use Rattle.sheets.proofs.Numerals.{digits_at_most}
use Rattle.buffers.specs.Puts.{most_digits, Puts}
use Rattle.buffers.proofs.Holding.{put_with_room, up_to_end}

-- the first bytes of the array, as many as the number is wide
pub writes : (number : ℕ) {before text : List ℕ} {width : ℕ} → most_digits ≤ length before → Puts (digits most_digits number) before 0 text width → take width text ≡ digits most_digits number
writes number {before} large puts =
    let few = digits_at_most most_digits number in
    let fits : 0 + length (digits most_digits number) ≤ length before = omega arith in
    up_to_end fits (put_with_room puts fits)
