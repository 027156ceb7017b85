-- Lists of replies with one more behind them: what is counted, added up and true of each. Assumes nothing.
use mathlib.Core.Path.{◌≡◌, ap, ◌∙◌}
use mathlib.Core.Bool.{Bool, true, false, cond}
use mathlib.Core.List.{List, [], ◌∷◌, ◌++◌, append-nil}
use Prim.Native.Nat.{ℕ, suc, ◌+◌, ◌*◌, ◌≤◌}
use native.Mathlib.Omega.{arith}
use lib.ListN.{length, length-append}
use Rattle.std.specs.Prelude.{filter}
use Rattle.std.proofs.lemmas.List.Elements.{filter-append}
use Rattle.std.proofs.lemmas.List.Sums.{length-filter, count_by-le-length}
use Rattle.tallies.specs.Entries.{Entry, density, how_many, sum_of, Each}

abbrev pub behind : List Entry → Entry → List Entry
behind entries entry = entries ++ (entry ∷ [])

-- one that passes the test stands behind the others that do, and any other changes nothing
pub only_more : (test : Entry → Bool) (entries : List Entry) (entry : Entry) (t : Bool) → test entry ≡ t → filter test (behind entries entry) ≡ cond t (behind (filter test entries) entry) (filter test entries)
only_more test entries entry true is = filter-append test entries (entry ∷ []) ∙ ap (λ (b : Bool). filter test entries ++ cond b (entry ∷ []) []) is
only_more test entries entry false is =
    filter-append test entries (entry ∷ []) ∙ ap (λ (b : Bool). filter test entries ++ cond b (entry ∷ []) []) is ∙ append-nil (filter test entries)

pub many_more : (test : Entry → Bool) (entries : List Entry) (entry : Entry) (t : Bool) → test entry ≡ t → how_many test (behind entries entry) ≡ cond t (suc (how_many test entries)) (how_many test entries)
many_more test entries entry true is = omega (arith, ap length (only_more test entries entry true is), length-append (filter test entries) (entry ∷ []))
many_more test entries entry false is = ap length (only_more test entries entry false is)

pub no_more_than_all : (test : Entry → Bool) (entries : List Entry) → how_many test entries ≤ length entries
no_more_than_all test entries = omega (arith, length-filter test entries, count_by-le-length test entries)

pub sum_behind : (entries : List Entry) (entry : Entry) → sum_of (behind entries entry) ≡ sum_of entries + density entry
sum_behind [] entry = omega arith
sum_behind (other ∷ entries) entry = omega (arith, sum_behind entries entry)

module _ (Holds : Entry → Type 0) where
  pub each_behind : (entries : List Entry) (entry : Entry) → Each Holds entries → Holds entry → Each Holds (behind entries entry)
  each_behind [] entry none holds = (holds, tt)
  each_behind (other ∷ entries) entry (one, others) holds = (one, each_behind entries entry others holds)

  pub each_of_both : (entries others : List Entry) → Each Holds entries → Each Holds others → Each Holds (entries ++ others)
  each_of_both [] others none each = each
  each_of_both (entry ∷ entries) others (one, more) each = (one, each_of_both entries others more each)

  -- of one that stands between others
  pub each_has : (before : List Entry) (entry : Entry) (after : List Entry) → Each Holds (before ++ (entry ∷ after)) → Holds entry
  each_has [] entry after (one, others) = one
  each_has (other ∷ before) entry after (one, others) = each_has before entry after others

  pub each_only : (test : Entry → Bool) (entries : List Entry) → Each Holds entries → Each Holds (filter test entries)
  each_only test [] each = tt
  each_only test (entry ∷ entries) (one, others) = either (test entry) (each_only test entries others)
    where
      either : (t : Bool) → Each Holds (filter test entries) → Each Holds (cond t (entry ∷ filter test entries) (filter test entries))
      either true later = (one, later)
      either false later = later

pub each_follows : (Holds Follows : Entry → Type 0) → ((entry : Entry) → Holds entry → Follows entry) → (entries : List Entry) → Each Holds entries → Each Follows entries
each_follows Holds Follows follows [] each = tt
each_follows Holds Follows follows (entry ∷ entries) (one, others) = (follows entry one, each_follows Holds Follows follows entries others)

-- a sum is no more than as many times what no density passes
pub sum_at_most : (most : ℕ) (entries : List Entry) → Each (λ entry. density entry ≤ most) entries → sum_of entries ≤ most * length entries
sum_at_most most [] each = omega arith
sum_at_most most (entry ∷ entries) (one, others) = let rest = sum_at_most most entries others in omega (arith, one, rest)
