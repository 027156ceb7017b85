-- What is proved of a reader that is kept as numbers: nothing of it is lost, zeros are one before the first byte, and each contract fixes its answer.
-- Assumes nothing.
use mathlib.Core.Path.{◌≡◌, refl, sym, ◌∙◌}
use mathlib.Core.List.{List, [], ◌∷◌}
use Prim.Native.Nat.{ℕ}
use Rattle.sheets.specs.declared.Cursor.{Cursor}
use Rattle.sheets.specs.declared.Digest.{Digest}
use Rattle.sheets.specs.declared.Digest.TheVariants.{Empty, First, AfterSpace, Second, Bad}
use Rattle.parts.specs.Bytes.{Reader, at_start}
use Rattle.sheets.specs.declared.Fault.TheVariants.{Malformed, TooLong}
use Rattle.std.specs.Prelude.{Ok, Err}
use Rattle.kept.specs.Numbers.{numbers_of, reader_of}

-- A reader that is kept comes back as it was.
pub nothing_is_lost : (reader : Reader) → reader_of (numbers_of reader) ≡ reader
nothing_is_lost (Ok standing) = by_digest standing.cursor standing.digest standing.held standing.state_lines
  where
    by_digest : (cursor : Cursor) (digest : Digest) (held state_lines : ℕ) → reader_of (numbers_of (Ok (record { cursor = cursor; digest = digest; held = held; state_lines = state_lines }))) ≡ Ok (record { cursor = cursor; digest = digest; held = held; state_lines = state_lines })
    by_digest cursor Empty held state_lines = refl
    by_digest cursor (First first) held state_lines = refl
    by_digest cursor (AfterSpace first) held state_lines = refl
    by_digest cursor (Second first second) held state_lines = refl
    by_digest cursor Bad held state_lines = refl
nothing_is_lost (Err (Malformed place)) = refl
nothing_is_lost (Err TooLong) = refl

pub zeros_are_the_start : reader_of (0 ∷ 0 ∷ 0 ∷ 0 ∷ 0 ∷ 0 ∷ 0 ∷ 0 ∷ []) ≡ at_start
zeros_are_the_start = refl

pub numbers_determined : (reader : Reader) (numbers numbers' : List ℕ) → numbers ≡ numbers_of reader → numbers' ≡ numbers_of reader → numbers ≡ numbers'
numbers_determined reader numbers numbers' is is' = is ∙ sym is'

pub reader_determined : (numbers : List ℕ) (reader reader' : Reader) → reader ≡ reader_of numbers → reader' ≡ reader_of numbers → reader ≡ reader'
reader_determined numbers reader reader' is is' = is ∙ sym is'
