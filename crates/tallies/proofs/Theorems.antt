-- What is proved of a report's figures: a section's replies fix each of them, the least and the largest are reached first where they say, and the
-- contracts fix their answers. Assumes nothing.
use mathlib.Core.Path.{◌≡◌, sym, ap, subst, ◌∙◌}
use mathlib.Core.Bool.{Bool}
use mathlib.Core.List.{List, [], ◌∷◌, ◌++◌}
use Prim.Native.Nat.{ℕ}
use Rattle.tallies.specs.declared.Reached.{Reached}
use Rattle.tallies.specs.declared.Section.{Section}
use Rattle.tallies.specs.declared.Report.{Report}
use Rattle.tallies.specs.Entries.{Entry, density, answered, Each, nothing_reached, Reaches, Smaller, Larger, SectionOf}
use Rattle.tallies.specs.Steps.{plus, adds_to, empty_report}
use Rattle.tallies.specs.Rows.{row_of, report_at}
use Rattle.tallies.proofs.Lists.{each_of_both, each_has, each_follows}
use Rattle.tallies.proofs.Reaching.{Order, smaller, larger}

module _ {Beyond : (density other : ℕ) → Type 0} {test : (density other : ℕ) → Bool} (order : Order Beyond test) where
  -- two that are both the first are one
  first_once : (before before' behind behind' : List Entry) (first first' : Entry) → before ++ (first ∷ behind) ≡ before' ++ (first' ∷ behind') → Each (λ entry. Beyond (density first) (density entry)) before → Each (λ entry. Beyond (density first') (density entry)) before' → Each (λ entry. Beyond (density entry) (density first) → ⊥) behind → Each (λ entry. Beyond (density entry) (density first') → ⊥) behind' → first ≡ first'
  first_once [] [] behind behind' first first' same one two three four = cc
  first_once [] (other ∷ before') behind behind' first first' same one two three four =
      let heads : first ≡ other = cc in
      let tails : behind ≡ before' ++ (first' ∷ behind') = cc in
      let none_behind = each_has (λ entry. Beyond (density entry) (density first) → ⊥) before' first' behind' (subst (Each (λ entry. Beyond (density entry) (density first) → ⊥)) tails three) in
      absurd (none_behind (subst (λ (entry : Entry). Beyond (density first') (density entry)) (sym heads) two.0))
  first_once (other ∷ before) [] behind behind' first first' same one two three four =
      let heads : other ≡ first' = cc in
      let tails : before ++ (first ∷ behind) ≡ behind' = cc in
      let none_behind = each_has (λ entry. Beyond (density entry) (density first') → ⊥) before first behind (subst (Each (λ entry. Beyond (density entry) (density first') → ⊥)) (sym tails) four) in
      absurd (none_behind (subst (λ (entry : Entry). Beyond (density first) (density entry)) heads one.0))
  first_once (other ∷ before) (other' ∷ before') behind behind' first first' same one two three four =
      let tails : before ++ (first ∷ behind) ≡ before' ++ (first' ∷ behind') = cc in
      first_once before before' behind behind' first first' tails one.1 two.1 three four

  reached_once : (entries : List Entry) (reached reached' : Reached) → Reaches Beyond entries reached → Reaches Beyond entries reached' → reached ≡ reached'
  reached_once [] reached reached' none none' = none ∙ sym none'
  reached_once (entry ∷ entries) reached reached' one two =
      one.is_reached
      ∙ ap (λ (e : Entry). record { density = density e; line = e.line })
      (first_once one.before two.before one.behind two.behind one.first two.first (sym one.splits ∙ two.splits) one.beyond_before two.beyond_before one.none_beyond two.none_beyond)
      ∙ sym two.is_reached

  -- of all replies none is beyond what is reached, and those before the line that is named do not reach it
  pub record ReachedFirst (entries : List Entry) (reached : Reached) : Type 0 where
    pub before : List Entry
    pub first : Entry
    pub behind : List Entry
    pub splits : entries ≡ before ++ (first ∷ behind)
    pub on_line : first.line ≡ reached.line
    pub reaches : density first ≡ reached.density
    pub none_further : Each (λ entry. Beyond (density entry) reached.density → ⊥) entries
    pub none_sooner : Each (λ entry. density entry ≡ reached.density → ⊥) before

  reached_first : (entry : Entry) (entries : List Entry) (reached : Reached) → Reaches Beyond (entry ∷ entries) reached → ReachedFirst (entry ∷ entries) reached
  reached_first entry entries reached reaching =
      let is_density : density reaching.first ≡ reached.density = sym (ap (λ (r : Reached). r.density) reaching.is_reached) in
      record {
        before = reaching.before;
        first = reaching.first;
        behind = reaching.behind;
        splits = reaching.splits;
        on_line = sym (ap (λ (r : Reached). r.line) reaching.is_reached);
        reaches = is_density;
        none_further =
            subst (λ (n : ℕ). Each (λ entry. Beyond (density entry) n → ⊥) (entry ∷ entries)) is_density
            (subst (Each (λ entry. Beyond (density entry) (density reaching.first) → ⊥)) (sym reaching.splits)
            (each_of_both (λ entry. Beyond (density entry) (density reaching.first) → ⊥) reaching.before (reaching.first ∷ reaching.behind)
            (each_follows _ (λ entry. Beyond (density entry) (density reaching.first) → ⊥) (λ other beaten. order.never_both (density reaching.first) (density other) beaten) reaching.before reaching.beyond_before)
            (λ itself. order.never_both _ _ itself itself, reaching.none_beyond)));
        none_sooner =
            each_follows _ (λ other. density other ≡ reached.density → ⊥)
            (λ other beaten same. let beyond_itself = subst (Beyond (density reaching.first)) (same ∙ sym is_density) beaten in order.never_both _ _ beyond_itself beyond_itself)
            reaching.before reaching.beyond_before;
      }

-- a section, figure by figure
abbrev made : Section → Section
made section =
    record {
      one = section.one;
      split = section.split;
      temperature_too_low = section.temperature_too_low;
      temperature_too_high = section.temperature_too_high;
      pressure_too_low = section.pressure_too_low;
      pressure_too_high = section.pressure_too_high;
      sum = section.sum;
      smallest = section.smallest;
      largest = section.largest;
    }

-- The replies of a section fix its figures.
pub section_determined : (entries : List Entry) (section section' : Section) → SectionOf entries section → SectionOf entries section' → section ≡ section'
section_determined entries section section' one two =
    let by_figures : ◌≡◌ {A = Section} (made section) (made section') =
    cc (
      one.counts_one ∙ sym two.counts_one,
      one.counts_split ∙ sym two.counts_split,
      one.counts_21 ∙ sym two.counts_21,
      one.counts_22 ∙ sym two.counts_22,
      one.counts_31 ∙ sym two.counts_31,
      one.counts_32 ∙ sym two.counts_32,
      one.is_sum ∙ sym two.is_sum,
      reached_once smaller (answered entries) section.smallest section'.smallest one.is_smallest two.is_smallest,
      reached_once larger (answered entries) section.largest section'.largest one.is_largest two.is_largest,
    ) in
    by_figures

-- Where some state was answered, the smallest and the largest density are those of the lines that are named, and of no line before them.
pub first_that_reaches : (entries : List Entry) (entry : Entry) (others : List Entry) (section : Section) → answered entries ≡ entry ∷ others → SectionOf entries section → ReachedFirst smaller (entry ∷ others) section.smallest × ReachedFirst larger (entry ∷ others) section.largest
first_that_reaches entries entry others section some of_entries = (
  reached_first smaller entry others section.smallest (subst (λ (l : List Entry). Reaches Smaller l section.smallest) some of_entries.is_smallest),
  reached_first larger entry others section.largest (subst (λ (l : List Entry). Reaches Larger l section.largest) some of_entries.is_largest),
)

-- Where none was, there are zeros for densities and lines.
pub nothing_answered_is_zeros : (entries : List Entry) (section : Section) → answered entries ≡ [] → SectionOf entries section → ((section.sum ≡ 0) × (section.smallest ≡ nothing_reached)) × (section.largest ≡ nothing_reached)
nothing_answered_is_zeros entries section none of_entries = (
  (
    rw none at of_entries.is_sum,
    subst (λ (l : List Entry). Reaches Smaller l section.smallest) none of_entries.is_smallest,
  ),
  subst (λ (l : List Entry). Reaches Larger l section.largest) none of_entries.is_largest,
)

-- Each contract fixes its answer.
pub plus_determined : (total more : ℕ) {r s : ℕ} → r ≡ plus total more → s ≡ plus total more → r ≡ s
plus_determined total more is is' = is ∙ sym is'

pub empty_determined : {r s : Report} → r ≡ empty_report → s ≡ empty_report → r ≡ s
empty_determined is is' = is ∙ sym is'

pub row_determined : (section : Section) {r s : List ℕ} → r ≡ row_of section → s ≡ row_of section → r ≡ s
row_determined section is is' = is ∙ sym is'

pub report_of_determined : (hydrogen oxygen nitrogen : List ℕ) {r s : Report} → r ≡ report_at hydrogen oxygen nitrogen → s ≡ report_at hydrogen oxygen nitrogen → r ≡ s
report_of_determined hydrogen oxygen nitrogen is is' = is ∙ sym is'

pub add_determined : (report : Report) (fluid : ℕ) (entry : Entry) {r s : Report} → r ≡ adds_to report fluid entry → s ≡ adds_to report fluid entry → r ≡ s
add_determined report fluid entry is is' = is ∙ sym is'
