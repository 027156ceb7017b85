-- The first that reaches the least or the largest, said once for both: one reply more moves it as the step does, and it is one. Assumes nothing.
use mathlib.Core.Path.{◌≡◌, refl, sym, ap, subst, ◌∙◌}
use mathlib.Core.Bool.{Bool, true, false}
use mathlib.Core.List.{List, [], ◌∷◌, append_assoc}
use Prim.Native.Nat.{ℕ, ◌<◌}
use native.Mathlib.Omega.{arith}
use lib.Dec.{ltb, eqb}
use borrow.Author.Tests.{ltb-true, ltb-false, ne_eqb}
use Rattle.tallies.specs.declared.Reached.{Reached}
use Rattle.tallies.specs.Entries.{Entry, density, Each, FirstReaching, Reaches, Smaller, Larger}
use Rattle.tallies.specs.Steps.{further, beyond}
use Rattle.tallies.proofs.Lists.{behind, each_behind, each_of_both, each_has, each_follows}

-- a way to be beyond, and its test
pub record Order (Beyond : (density other : ℕ) → Type 0) (test : (density other : ℕ) → Bool) : Type 0 where
  pub is_beyond : (density other : ℕ) → test density other ≡ true → Beyond density other
  pub not_beyond : (density other : ℕ) → test density other ≡ false → Beyond density other → ⊥
  pub never_both : (density other : ℕ) → Beyond density other → Beyond other density → ⊥
  pub past : (density other third : ℕ) → Beyond density other → (Beyond third other → ⊥) → Beyond density third

pub smaller : Order Smaller ltb
smaller =
    record {
      is_beyond = λ density other is. ltb-true density other is;
      not_beyond = λ density other is below. let not_below = ltb-false density other is in omega arith;
      never_both = λ density other one two. omega arith;
      past = λ density other third one two. omega arith;
    }

pub larger : Order Larger beyond
larger =
    record {
      is_beyond = λ density other is. ltb-true other density is;
      not_beyond = λ density other is above. let not_above = ltb-false other density is in omega arith;
      never_both = λ density other one two. omega arith;
      past = λ density other third one two. omega arith;
    }

abbrev pub on_line : Entry → Reached
on_line entry = record { density = density entry; line = entry.line }

module _ {Beyond : (density other : ℕ) → Type 0} {test : (density other : ℕ) → Bool} (order : Order Beyond test) where
  -- one that is beyond the first is beyond all
  goes_beyond : {entries : List Entry} {reached : Reached} (entry : Entry) (reaching : FirstReaching Beyond entries reached) → Beyond (density entry) (density reaching.first) → Each (λ other. Beyond (density entry) (density other)) entries
  goes_beyond {entries} entry reaching further_out =
      let first = reaching.first in
      subst (Each Beaten) (sym reaching.splits)
      (each_of_both Beaten reaching.before (first ∷ reaching.behind)
      (each_follows _ Beaten (λ other beaten. order.past (density entry) (density first) (density other) further_out (order.never_both (density first) (density other) beaten)) reaching.before reaching.beyond_before)
      (further_out, each_follows _ Beaten (λ other unbeaten. order.past (density entry) (density first) (density other) further_out unbeaten) reaching.behind reaching.none_beyond))
    where
      Beaten : Entry → Type 0
      Beaten other = Beyond (density entry) (density other)

  module _ (entries : List Entry) (entry : Entry) {reached : Reached} (reaching : FirstReaching Beyond entries reached) where
    becomes_first : Beyond (density entry) (density reaching.first) → FirstReaching Beyond (behind entries entry) (on_line entry)
    becomes_first further_out =
        record {
          before = entries;
          first = entry;
          behind = [];
          splits = refl;
          is_reached = refl;
          beyond_before = goes_beyond entry reaching further_out;
          none_beyond = tt;
        }

    stays_first : (Beyond (density entry) (density reaching.first) → ⊥) → FirstReaching Beyond (behind entries entry) reached
    stays_first no_further =
        record {
          before = reaching.before;
          first = reaching.first;
          behind = behind reaching.behind entry;
          splits = ap (λ (l : List Entry). behind l entry) reaching.splits ∙ append_assoc reaching.before (reaching.first ∷ reaching.behind) (entry ∷ []);
          is_reached = reaching.is_reached;
          beyond_before = reaching.beyond_before;
          none_beyond = each_behind _ reaching.behind entry reaching.none_beyond no_further;
        }

    one_more : 0 < reaching.first.line → FirstReaching Beyond (behind entries entry) (further test reached (density entry) entry.line)
    one_more some =
        let is_line : reached.line ≡ reaching.first.line = ap (λ (r : Reached). r.line) reaching.is_reached in
        let is_density : reached.density ≡ density reaching.first = ap (λ (r : Reached). r.density) reaching.is_reached in
        by_test (test (density entry) reached.density) refl (ne_eqb reached.line 0 (λ none. omega (arith, none, is_line, some))) is_density
      where
        by_test : (t : Bool) → test (density entry) reached.density ≡ t → eqb reached.line 0 ≡ false → reached.density ≡ density reaching.first → FirstReaching Beyond (behind entries entry) (further test reached (density entry) entry.line)
        by_test true is some_line is_density =
            rw (some_line, is) (becomes_first (subst (Beyond (density entry)) is_density (order.is_beyond (density entry) reached.density is)))
        by_test false is some_line is_density =
            rw (some_line, is) (stays_first (λ out. order.not_beyond (density entry) reached.density is (subst (Beyond (density entry)) (sym is_density) out)))

  -- behind no reply or some
  pub reaches_more : (entries : List Entry) (entry : Entry) (reached : Reached) → Each (λ other. 0 < other.line) entries → Reaches Beyond entries reached → Reaches Beyond (behind entries entry) (further test reached (density entry) entry.line)
  reaches_more [] entry reached each none =
      rw none (record { before = []; first = entry; behind = []; splits = refl; is_reached = refl; beyond_before = tt; none_beyond = tt })
  reaches_more (other ∷ entries) entry reached each reaching =
      one_more (other ∷ entries) entry reaching (each_has (λ other. 0 < other.line) reaching.before reaching.first reaching.behind (subst (Each (λ other. 0 < other.line)) reaching.splits each))
