-- What is met where a cursor stands: the steps of the crate `lines`. Which line may stand there is not said by this file.
use Rattle.std.specs.Prelude.{Bool, true, cond, List, ℕ, suc, ◌-◌, ltb, leb, eqb, drop, Ok, Err, Some, None}
use Rattle.sheets.specs.declared.Cursor.{Cursor}
use Rattle.sheets.specs.declared.Fault.TheVariants.{Malformed}
use Rattle.sheets.specs.declared.Line.{Line}
use Rattle.sheets.specs.declared.Line.TheVariants.{Count, Told}
use Rattle.sheets.specs.declared.Digest.{Digest}
use Rattle.sheets.specs.declared.Digest.TheVariants.{Empty, First, AfterSpace, Second, Bad}
use Rattle.sheets.specs.declared.Scanned.{Scanned}
use Rattle.sheets.specs.Grammar.{most_states}
use Rattle.sheets.specs.Digests.{scans}

abbrev pub faulty : (place : ℕ) → Line
faulty place = Told (Err (Malformed place))

abbrev pub stated : Cursor → (next millikelvin pascals : ℕ) → Line
stated cursor next millikelvin pascals =
    cond (eqb cursor.left 0)
    (faulty cursor.place)
    (Told
    (Ok
    (Some
    (record {
      state = record { fluid = cursor.begun - 1; millikelvin = millikelvin; pascals = pascals };
      after = record { begun = cursor.begun; left = cursor.left - 1; place = next };
    }))))

-- in a sheet of so many sections
module _ (sections : ℕ) where
  abbrev pub counted : Cursor → (next count : ℕ) → Line
  counted cursor next count =
      cond (eqb cursor.left 0)
      (cond (leb sections cursor.begun)
      (faulty cursor.place)
      (cond (ltb most_states count)
      (faulty cursor.place)
      (Count (record { begun = suc cursor.begun; left = count; place = next }))))
      (faulty cursor.place)

  abbrev pub ended : Cursor → (next : ℕ) → Digest → Line
  ended cursor next Empty = faulty cursor.place
  ended cursor next (First number) = counted cursor next number
  ended cursor next (AfterSpace number) = faulty cursor.place
  ended cursor next (Second first second) = stated cursor next first second
  ended cursor next Bad = faulty cursor.place

  -- a state line of the section begun last, or the count of one more
  abbrev pub wants_line : Cursor → Bool
  wants_line cursor = cond (eqb cursor.left 0) (ltb cursor.begun sections) true

  abbrev pub unended : Cursor → (end : ℕ) → Line
  unended cursor end = cond (ltb cursor.place end) (faulty cursor.place) (cond (wants_line cursor) (faulty cursor.place) (Told (Ok None)))

  abbrev pub behind_scan : Cursor → Scanned → Line
  behind_scan cursor line = cond (ltb line.end line.next) (ended cursor line.next line.digest) (unended cursor line.end)

  abbrev pub met : (bytes : List ℕ) → Cursor → Line
  met bytes cursor = behind_scan cursor (scans cursor.place Empty (drop cursor.place bytes))
