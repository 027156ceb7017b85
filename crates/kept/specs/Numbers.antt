-- docs/RULES.md, "A sheet in parts": a reader as eight numbers, and the reader that any eight numbers keep.
use Rattle.std.specs.Prelude.{cond, List, [], ◌∷◌, ℕ, eqb, ltb, get_or, Ok, Err}
use Rattle.sheets.specs.declared.Digest.{Digest}
use Rattle.sheets.specs.declared.Digest.TheVariants.{Empty, First, AfterSpace, Second, Bad}
use Rattle.parts.specs.Bytes.{Reader}
use Rattle.sheets.specs.declared.Fault.TheVariants.{Malformed, TooLong}
use Rattle.kept.specs.declared.Three.{Three}

-- a digest: its stage, and its numbers where it has some
abbrev pub three_of : Digest → Three
three_of Empty = record { stage = 0; first = 0; second = 0 }
three_of (First first) = record { stage = 1; first = first; second = 0 }
three_of (AfterSpace first) = record { stage = 2; first = first; second = 0 }
three_of (Second first second) = record { stage = 3; first = first; second = second }
three_of Bad = record { stage = 4; first = 0; second = 0 }

abbrev pub digest_of : (stage first second : ℕ) → Digest
digest_of stage first second =
    cond (eqb stage 0) Empty (cond (eqb stage 1) (First first) (cond (eqb stage 2) (AfterSpace first) (cond (eqb stage 3) (Second first second) Bad)))

-- stage, first and second number, sections begun, states left, the line's place, its bytes held, state lines; stage 5 is a sheet refused by 6,
-- and a higher one a sheet refused by 7
abbrev pub numbers_of : Reader → List ℕ
numbers_of (Ok standing) =
    (three_of standing.digest).stage
    ∷ (three_of standing.digest).first
    ∷ (three_of standing.digest).second
    ∷ standing.cursor.begun
    ∷ standing.cursor.left
    ∷ standing.cursor.place
    ∷ standing.held
    ∷ standing.state_lines
    ∷ []
numbers_of (Err (Malformed place)) = 5 ∷ 0 ∷ 0 ∷ 0 ∷ 0 ∷ place ∷ 0 ∷ 0 ∷ []
numbers_of (Err TooLong) = 6 ∷ 0 ∷ 0 ∷ 0 ∷ 0 ∷ 0 ∷ 0 ∷ 0 ∷ []

abbrev pub reader_of : List ℕ → Reader
reader_of numbers =
    cond (ltb 5 (get_or numbers 0 0))
    (Err TooLong)
    (cond (eqb (get_or numbers 0 0) 5)
    (Err (Malformed (get_or numbers 5 0)))
    (Ok
    (record {
      cursor = record { begun = get_or numbers 3 0; left = get_or numbers 4 0; place = get_or numbers 5 0 };
      digest = digest_of (get_or numbers 0 0) (get_or numbers 1 0) (get_or numbers 2 0);
      held = get_or numbers 6 0;
      state_lines = get_or numbers 7 0;
    })))
