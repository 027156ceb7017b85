-- One reply more is added as the definitions say, where no number passes its end: `section_more`. And a report's sections lie apart. Assumes nothing.
use mathlib.Core.Path.{◌≡◌, refl, sym, ap, subst, ◌∙◌}
use mathlib.Core.Bool.{Bool, true, false, cond}
use mathlib.Core.List.{List, []}
use Prim.Native.Nat.{ℕ, zero, suc, ◌+◌, ◌-◌, ◌≤◌, ◌<◌}
use native.Mathlib.Omega.{arith}
use lib.ListN.{length}
use borrow.Author.Tests.{le-ltb}
use Rattle.cubic.specs.Cubic.{ONE, SPLIT}
use Rattle.tallies.specs.declared.Reached.{Reached}
use Rattle.tallies.specs.declared.Section.{Section}
use Rattle.tallies.specs.declared.Report.{Report}
use Rattle.tallies.specs.Entries.{Entry, density, how_many, of_kind, of_number, answered, sum_of, Each, Reaches, SectionOf}
use Rattle.tallies.specs.Steps.{largest_number, plus, further, if_answered, with_reply, section_of, with_section, empty_section}
use Rattle.tallies.proofs.Lists.{behind, only_more, many_more, no_more_than_all, sum_behind, each_only}
use Rattle.tallies.proofs.Reaching.{Order, smaller, larger, reaches_more}

pub plus_exact : (total more : ℕ) → total + more ≤ largest_number → plus total more ≡ total + more
plus_exact total more fits = simp (le-ltb (largest_number - more) total (omega (arith, fits)))

pub nothing_is_empty : SectionOf [] empty_section
nothing_is_empty =
    record { counts_one = refl; counts_split = refl; counts_21 = refl; counts_22 = refl; counts_31 = refl; counts_32 = refl; is_sum = refl; is_smallest = refl; is_largest = refl }

module _ (entries : List Entry) (entry : Entry) where
  counts_more : suc (length entries) ≤ largest_number → (test : Entry → Bool) (count : ℕ) → count ≡ how_many test entries → cond (test entry) (plus count 1) count ≡ how_many test (behind entries entry)
  counts_more few test count is = by_test (test entry) refl
    where
      by_test : (t : Bool) → test entry ≡ t → cond t (plus count 1) count ≡ how_many test (behind entries entry)
      by_test true passes =
          plus_exact count 1 (omega (arith, few, is, no_more_than_all test entries)) ∙ omega (arith, is, many_more test entries entry true passes)
      by_test false passes = is ∙ sym (many_more test entries entry false passes)

  sum_more : (sum : ℕ) → sum_of (answered (behind entries entry)) ≤ largest_number → sum ≡ sum_of (answered entries) → if_answered entry (plus sum (density entry)) sum ≡ sum_of (answered (behind entries entry))
  sum_more sum fits is = by_test (of_number 0 entry) refl
    where
      by_test : (t : Bool) → of_number 0 entry ≡ t → cond t (plus sum (density entry)) sum ≡ sum_of (answered (behind entries entry))
      by_test true passes =
          let more : sum_of (answered (behind entries entry)) ≡ sum_of (answered entries) + density entry =
          ap sum_of (only_more (of_number 0) entries entry true passes) ∙ sum_behind (answered entries) entry in
          plus_exact sum (density entry) (omega (arith, fits, is, more)) ∙ omega (arith, is, more)
      by_test false passes = is ∙ sym (ap sum_of (only_more (of_number 0) entries entry false passes))

  module _ {Beyond : (density other : ℕ) → Type 0} {test : (density other : ℕ) → Bool} (order : Order Beyond test) where
    reached_more : (reached : Reached) → Each (λ other. 0 < other.line) entries → Reaches Beyond (answered entries) reached → Reaches Beyond (answered (behind entries entry)) (if_answered entry (further test reached (density entry) entry.line) reached)
    reached_more reached lines is = by_test (of_number 0 entry) refl
      where
        by_test : (t : Bool) → of_number 0 entry ≡ t → Reaches Beyond (answered (behind entries entry)) (cond t (further test reached (density entry) entry.line) reached)
        by_test true passes =
            subst (λ (l : List Entry). Reaches Beyond l (further test reached (density entry) entry.line)) (sym (only_more (of_number 0) entries entry true passes))
            (reaches_more order (answered entries) entry reached (each_only (λ other. 0 < other.line) (of_number 0) entries lines) is)
        by_test false passes = subst (λ (l : List Entry). Reaches Beyond l reached) (sym (only_more (of_number 0) entries entry false passes)) is

  pub section_more : (section : Section) → Each (λ other. 0 < other.line) entries → suc (length entries) ≤ largest_number → sum_of (answered (behind entries entry)) ≤ largest_number → SectionOf entries section → SectionOf (behind entries entry) (with_reply section entry)
  section_more section lines few fits so_far =
      record {
        counts_one = counts_more few (of_kind ONE) _ so_far.counts_one;
        counts_split = counts_more few (of_kind SPLIT) _ so_far.counts_split;
        counts_21 = counts_more few (of_number 21) _ so_far.counts_21;
        counts_22 = counts_more few (of_number 22) _ so_far.counts_22;
        counts_31 = counts_more few (of_number 31) _ so_far.counts_31;
        counts_32 = counts_more few (of_number 32) _ so_far.counts_32;
        is_sum = sum_more _ fits so_far.is_sum;
        is_smallest = reached_more smaller _ lines so_far.is_smallest;
        is_largest = reached_more larger _ lines so_far.is_largest;
      }

-- ---- the sections of a report
pub put_there : (report : Report) (fluid : ℕ) (section : Section) → fluid < 3 → section_of (with_section report fluid section) fluid ≡ section
put_there report zero section inside = refl
put_there report (suc zero) section inside = refl
put_there report (suc (suc zero)) section inside = refl
put_there report (suc (suc (suc fluid))) section inside = absurd (omega (arith, inside))

pub put_elsewhere : (report : Report) (fluid other : ℕ) (section : Section) → fluid < 3 → other < 3 → (other ≡ fluid → ⊥) → section_of (with_section report fluid section) other ≡ section_of report other
put_elsewhere report zero zero section inside here apart = absurd (apart refl)
put_elsewhere report zero (suc zero) section inside here apart = refl
put_elsewhere report zero (suc (suc zero)) section inside here apart = refl
put_elsewhere report zero (suc (suc (suc other))) section inside here apart = absurd (omega (arith, here))
put_elsewhere report (suc zero) zero section inside here apart = refl
put_elsewhere report (suc zero) (suc zero) section inside here apart = absurd (apart refl)
put_elsewhere report (suc zero) (suc (suc zero)) section inside here apart = refl
put_elsewhere report (suc zero) (suc (suc (suc other))) section inside here apart = absurd (omega (arith, here))
put_elsewhere report (suc (suc zero)) zero section inside here apart = refl
put_elsewhere report (suc (suc zero)) (suc zero) section inside here apart = refl
put_elsewhere report (suc (suc zero)) (suc (suc zero)) section inside here apart = absurd (apart refl)
put_elsewhere report (suc (suc zero)) (suc (suc (suc other))) section inside here apart = absurd (omega (arith, here))
put_elsewhere report (suc (suc (suc fluid))) other section inside here apart = absurd (omega (arith, inside))
