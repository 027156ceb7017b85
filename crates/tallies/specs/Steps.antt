-- docs/RULES.md, "The report": the step that adds a reply to a report, for any report at all, also one of which no sheet is told. What a report is of
-- a sheet is not said by this file.
use Rattle.std.specs.Prelude.{Bool, cond, ℕ, ◌+◌, ◌-◌, ltb, eqb}
use Rattle.tallies.specs.declared.Reached.{Reached}
use Rattle.tallies.specs.declared.Section.{Section}
use Rattle.tallies.specs.declared.Report.{Report}
use Rattle.tallies.specs.Entries.{Entry, density, nothing_reached}

-- of 64 bits
abbrev pub largest_number : ℕ
largest_number = 18446744073709551615

-- in numbers that have an end: what would pass it adds nothing
abbrev pub plus : (total more : ℕ) → ℕ
plus total more = cond (ltb (largest_number - more) total) total (total + more)

abbrev pub counted : (count figure of : ℕ) → ℕ
counted count figure of = cond (eqb figure of) (plus count 1) count

-- the first of all is reached, and then what is beyond
abbrev pub further : (test : (density other : ℕ) → Bool) → Reached → (density line : ℕ) → Reached
further test so_far density line =
    cond (eqb so_far.line 0)
    (record { density = density; line = line })
    (cond (test density so_far.density) (record { density = density; line = line }) so_far)

abbrev pub beyond : (density other : ℕ) → Bool
beyond density other = ltb other density

abbrev pub if_answered : {Figure : Type 0} → Entry → (then otherwise : Figure) → Figure
if_answered entry then otherwise = cond (eqb entry.figures.number 0) then otherwise

abbrev pub with_reply : Section → Entry → Section
with_reply section entry =
    record {
      one = counted section.one entry.figures.kind 1;
      split = counted section.split entry.figures.kind 2;
      temperature_too_low = counted section.temperature_too_low entry.figures.number 21;
      temperature_too_high = counted section.temperature_too_high entry.figures.number 22;
      pressure_too_low = counted section.pressure_too_low entry.figures.number 31;
      pressure_too_high = counted section.pressure_too_high entry.figures.number 32;
      sum = if_answered entry (plus section.sum (density entry)) section.sum;
      smallest = if_answered entry (further ltb section.smallest (density entry) entry.line) section.smallest;
      largest = if_answered entry (further beyond section.largest (density entry) entry.line) section.largest;
    }

-- a fluid's section, and the report with another in its place; where there is no such fluid, the report as it is
abbrev pub section_of : Report → (fluid : ℕ) → Section
section_of report fluid = cond (eqb fluid 0) report.hydrogen (cond (eqb fluid 1) report.oxygen report.nitrogen)

abbrev pub with_section : Report → (fluid : ℕ) → Section → Report
with_section report fluid section =
    cond (eqb fluid 0)
    (record { hydrogen = section; oxygen = report.oxygen; nitrogen = report.nitrogen })
    (cond (eqb fluid 1)
    (record { hydrogen = report.hydrogen; oxygen = section; nitrogen = report.nitrogen })
    (cond (eqb fluid 2) (record { hydrogen = report.hydrogen; oxygen = report.oxygen; nitrogen = section }) report))

abbrev pub adds_to : Report → (fluid : ℕ) → Entry → Report
adds_to report fluid entry = with_section report fluid (with_reply (section_of report fluid) entry)

-- before the first state
abbrev pub empty_section : Section
empty_section =
    record {
      one = 0;
      split = 0;
      temperature_too_low = 0;
      temperature_too_high = 0;
      pressure_too_low = 0;
      pressure_too_high = 0;
      sum = 0;
      smallest = nothing_reached;
      largest = nothing_reached;
    }

abbrev pub empty_report : Report
empty_report = record { hydrogen = empty_section; oxygen = empty_section; nitrogen = empty_section }
