-- The states of a sheet, added one after another: those of a section come to its own figures, on their own lines, and leave the other sections as
-- they were. Assumes nothing.
use mathlib.Core.Path.{◌≡◌, refl, sym, ap, subst, ◌∙◌}
use mathlib.Core.List.{List, [], ◌∷◌, ◌++◌, append-nil}
use Prim.Native.Nat.{ℕ, zero, suc, ◌+◌, ◌*◌, ◌≤◌, ◌<◌}
use native.Mathlib.Omega.{arith}
use lib.ListN.{length, length-append}
use lib.Seq.{append_snoc}
use Rattle.sheets.specs.declared.State.{State}
use Rattle.sheets.specs.Grammar.{all_sections, most_states, Pair, EachSection, of_fluid, states_from}
use Rattle.tallies.specs.declared.Section.{Section}
use Rattle.tallies.specs.declared.Report.{Report}
use Rattle.tallies.specs.Entries.{Entry, density, of_number, answered, sum_of, Each, SectionOf}
use Rattle.tallies.specs.Steps.{largest_number, plus, with_reply, section_of, empty_section}
use Rattle.tallies.proofs.Lists.{behind, no_more_than_all, sum_at_most, each_behind, each_only}
use Rattle.tallies.proofs.Adding.{plus_exact, nothing_is_empty, section_more, put_there, put_elsewhere}
use Rattle.reports.specs.declared.Running.{Running}
use Rattle.reports.specs.Sheets.{Entered, Sections, sections_of}
use Rattle.reports.specs.Parts.{line_of, adds, AddsAll, nothing_yet}
use Rattle.reports.proofs.Bounds.{most_grams, gas_density_fits}

abbrev OnLine : Entry → Type 0
OnLine entry = 0 < entry.line

abbrev pub Light : Entry → Type 0
Light entry = density entry ≤ most_grams

-- replies of a section so far
record Modest (entries : List Entry) : Type 0 where
  lines : Each OnLine entries
  light : Each Light entries

-- a thousand densities fit
pub sum_fits : (entries : List Entry) → Each Light entries → length entries ≤ most_states → sum_of (answered entries) ≤ largest_number
sum_fits entries light few =
    omega (arith, few, sum_at_most most_grams (answered entries) (each_only Light (of_number 0) entries light), no_more_than_all (of_number 0) entries)

line_exact : (state_lines fluid : ℕ) → state_lines + fluid + 2 ≤ largest_number → line_of state_lines fluid ≡ state_lines + fluid + 2
line_exact state_lines fluid fits =
    let first = plus_exact state_lines fluid (omega (arith, fits)) in
    plus_exact (plus state_lines fluid) 2 (omega (arith, fits, first)) ∙ omega (arith, first)

module _ (fluid : ℕ) (inside : fluid < all_sections) where
  -- some states of the fluid, the first of them on this line, behind replies to others of it
  record Through (pairs : List Pair) (rest : List State) (before : List Entry) (line : ℕ) (running after : Running) : Type 0 where
    entries : List Entry
    entered : Entered fluid line pairs entries
    between : Running
    is_section : SectionOf (before ++ entries) (section_of between.report fluid)
    elsewhere : (other : ℕ) → other < all_sections → (other ≡ fluid → ⊥) → section_of between.report other ≡ section_of running.report other
    counted : between.state_lines ≡ running.state_lines + length pairs
    goes_on : AddsAll rest between after

  through : (pairs : List Pair) (rest : List State) (before : List Entry) (line : ℕ) (running after : Running) → Modest before → length before + length pairs ≤ most_states → running.state_lines + fluid + 2 ≡ line → line + length pairs ≤ largest_number → SectionOf before (section_of running.report fluid) → AddsAll (of_fluid fluid pairs ++ rest) running after → Through pairs rest before line running after
  through [] rest before line running after modest few is_line fits so_far adds_all =
      record {
        entries = [];
        entered = refl;
        between = running;
        is_section = subst (λ (l : List Entry). SectionOf l (section_of running.report fluid)) (sym (append-nil before)) so_far;
        elsewhere = λ other within apart. refl;
        counted = omega arith;
        goes_on = adds_all;
      }
  through (pair ∷ pairs) rest before line running after modest few is_line fits so_far (next, one, others) =
      let state : State = record { fluid = fluid; millikelvin = pair.millikelvin; pascals = pair.pascals } in
      let entry : Entry = record { line = line_of running.state_lines fluid; figures = one.figures } in
      let its_line : line_of running.state_lines fluid ≡ line = line_exact running.state_lines fluid (omega (arith, is_line, fits)) ∙ is_line in
      let one_more = length-append before (entry ∷ []) in
      let section = put_there running.report fluid (with_reply (section_of running.report fluid) entry) inside in
      let light = each_behind Light before entry modest.light (gas_density_fits one.replies) in
      let more = section_more before entry (section_of running.report fluid) modest.lines (omega (arith, few)) (sum_fits (behind before entry) light (omega (arith, few, one_more))) so_far in
      let counted_more = plus_exact running.state_lines 1 (omega (arith, is_line, fits)) in
      let on =
      through pairs rest (behind before entry) (suc line) (adds running state one.figures) after
      (record { lines = each_behind OnLine before entry modest.lines (omega (arith, its_line, is_line)); light = light })
      (omega (arith, few, one_more))
      (omega (arith, counted_more, is_line))
      (omega (arith, fits))
      (subst (SectionOf (behind before entry)) (sym section) more)
      (subst (λ (r : Running). AddsAll (of_fluid fluid pairs ++ rest) r after) one.is_after others) in
      record {
        entries = entry ∷ on.entries;
        entered =
            (one.figures, on.entries, one.replies, on.entered, ap (λ (n : ℕ). record { line = n; figures = one.figures } ∷ on.entries) its_line);
        between = on.between;
        is_section = subst (λ (l : List Entry). SectionOf l (section_of on.between.report fluid)) (append_snoc before entry on.entries) on.is_section;
        elsewhere = λ other within apart. on.elsewhere other within apart ∙ put_elsewhere running.report fluid other _ inside within apart;
        counted = omega (arith, on.counted, counted_more);
        goes_on = on.goes_on;
      }

abbrev sections_from : Report → (fluid : ℕ) → List (List Pair) → List Section
sections_from report fluid [] = []
sections_from report fluid (pairs ∷ lists) = section_of report fluid ∷ sections_from report (suc fluid) lists

-- the sections from one on, and those before it
record AllThrough (fluid line : ℕ) (lists : List (List Pair)) (running after : Running) : Type 0 where
  sections : Sections fluid line lists (sections_from after.report fluid lists)
  kept : (other : ℕ) → other < fluid → section_of after.report other ≡ section_of running.report other

all_through : (lists : List (List Pair)) (fluid line : ℕ) (running after : Running) → fluid + length lists ≡ all_sections → EachSection lists → running.state_lines + fluid + 1 ≡ line → running.state_lines ≤ most_states * fluid → ((other : ℕ) → fluid ≤ other → other < all_sections → section_of running.report other ≡ empty_section) → AddsAll (states_from fluid lists) running after → AllThrough fluid line lists running after
all_through [] fluid line running after in_all writable is_line few empty adds_all =
    record { sections = refl; kept = λ other before. ap (λ (r : Running). section_of r.report other) adds_all }
all_through (pairs ∷ lists) fluid line running after in_all (writable, others_writable) is_line few empty adds_all =
    let inside : fluid < all_sections = omega (arith, in_all) in
    let nothing : SectionOf [] (section_of running.report fluid) = subst (SectionOf []) (sym (empty fluid (omega arith) inside)) nothing_is_empty in
    let first =
    through fluid inside pairs (states_from (suc fluid) lists) [] (suc line) running after (record { lines = tt; light = tt }) (omega (arith, writable.count)) (omega (arith, is_line)) (omega (arith, is_line, few, inside, writable.count)) nothing adds_all in
    let others =
    all_through lists (suc fluid) (suc line + length pairs) first.between after (omega (arith, in_all)) others_writable
    (omega (arith, first.counted, is_line))
    (omega (arith, first.counted, few, writable.count))
    (λ other from within. first.elsewhere other within (λ same. omega (arith, same, from)) ∙ empty other (omega (arith, from)) within)
    first.goes_on in
    let same = others.kept fluid (omega arith) in
    record {
      sections = (
        section_of after.report fluid,
        sections_from after.report (suc fluid) lists,
        record { entries = first.entries; entered = first.entered; is_section = subst (SectionOf first.entries) (sym same) first.is_section },
        others.sections,
        refl,
      );
      kept = λ other before. others.kept other (omega (arith, before)) ∙ first.elsewhere other (omega (arith, before, inside)) (λ same_fluid. omega (arith, same_fluid, before));
    }

sections_of_three : (report : Report) (lists : List (List Pair)) → length lists ≡ all_sections → sections_from report 0 lists ≡ sections_of report
sections_of_three report [] is = absurd (omega (arith, is))
sections_of_three report (hydrogen ∷ []) is = absurd (omega (arith, is))
sections_of_three report (hydrogen ∷ oxygen ∷ []) is = absurd (omega (arith, is))
sections_of_three report (hydrogen ∷ oxygen ∷ nitrogen ∷ []) is = refl
sections_of_three report (hydrogen ∷ oxygen ∷ nitrogen ∷ more ∷ lists) is = absurd (omega (arith, is))

-- all states of a good sheet, from an empty report on
pub all_reported : (lists : List (List Pair)) (after : Running) → length lists ≡ all_sections → EachSection lists → AddsAll (states_from 0 lists) nothing_yet after → Sections 0 1 lists (sections_of after.report)
all_reported lists after in_all writable adds_all =
    subst (Sections 0 1 lists) (sections_of_three after.report lists in_all)
    (all_through lists 0 1 nothing_yet after (omega (arith, in_all)) writable refl (omega arith) (λ other from within. empty_at_start other within) adds_all).sections
  where
    empty_at_start : (other : ℕ) → other < all_sections → section_of nothing_yet.report other ≡ empty_section
    empty_at_start zero within = refl
    empty_at_start (suc zero) within = refl
    empty_at_start (suc (suc zero)) within = refl
    empty_at_start (suc (suc (suc other))) within = absurd (omega (arith, within))
