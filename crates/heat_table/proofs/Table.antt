-- The rule of a table, proved at all of its entries by one test that is computed at one after the other. Assumes nothing.
use mathlib.Core.Path.{◌≡◌, sym, subst}
use mathlib.Core.Bool.{Bool, true, ◌&&◌}
use mathlib.Core.List.{List, [], ◌∷◌}
use Prim.Native.Nat.{ℕ, zero, suc, ◌+◌, ◌-◌, ◌≤◌, ◌<◌}
use native.Mathlib.Nat.{add-zero, add-sub_of_le, le_of_suc-le-suc, not-suc-le-zero}
use native.Mathlib.Omega.{arith}
use lib.Dec.{T}
use lib.ListN.{length, get_or}
use mir.Facts.{and_yes}
use Rattle.heat.specs.Printed.{printed}
use Rattle.heat.proofs.Ranges.{range_of, found_holds}
use Rattle.heat_table.specs.Fractions.{Fraction, ◌⊗◌}
use Rattle.heat_table.specs.Entries.{first, last, polynomial, Entry}
use Rattle.heat_table.specs.Inside.{EveryEntry}
use Rattle.heat_table.proofs.Rounding.{rounded_holds, passed}

-- the heat capacity at a whole kelvin, in J/(kg K)
abbrev pub exact : (kelvin : ℕ) → Fraction
exact kelvin = polynomial (printed (range_of kelvin 1)) kelvin ⊗ 1000

unfoldable pub entry_holds : (kelvin heat : ℕ) → Bool
entry_holds kelvin heat = rounded_holds (exact kelvin) heat

-- each is the entry of its kelvin, which is one more from each to the next
unfoldable pub are_entries : (kelvin : ℕ) → List ℕ → Bool
are_entries kelvin [] = true
are_entries kelvin (heat ∷ table) = entry_holds kelvin heat && are_entries (suc kelvin) table

at : (kelvin : ℕ) (table : List ℕ) → T (are_entries kelvin table) → (place : ℕ) → place < length table → T (entry_holds (kelvin + place) (get_or table place 0))
unfolding are_entries
at kelvin [] test place inside = absurd (not-suc-le-zero inside)
at kelvin (heat ∷ table) test zero inside = subst (λ (k : ℕ). T (entry_holds k heat)) (sym (add-zero kelvin)) (and_yes (entry_holds kelvin heat) _ test).0
at kelvin (heat ∷ table) test (suc place) inside =
    subst (λ (k : ℕ). T (entry_holds k (get_or table place 0))) (omega arith)
    (at (suc kelvin) table (and_yes (entry_holds kelvin heat) _ test).1 place (le_of_suc-le-suc inside))

entry_of : (kelvin heat : ℕ) → first ≤ kelvin → kelvin ≤ last → T (entry_holds kelvin heat) → Entry kelvin heat
unfolding entry_holds
entry_of kelvin heat from to test =
    record { from_first = from; to_last = to; range = range_of kelvin 1; within = found_holds kelvin 1; is_rounded = passed (exact kelvin) heat test }

-- a whole table that passes the test has at every place the entry of that place's kelvin
pub every_entry_is_the_rule : (table : List ℕ) → first + length table ≡ last + 1 → T (are_entries first table) → EveryEntry table
every_entry_is_the_rule table whole test =
    record {
      to_last = whole;
      is_entry = λ place inside. entry_of (first + place) (get_or table place 0) (omega arith) (omega (arith, whole)) (at first table test place inside);
    }

-- so each kelvin has its entry as many places behind the first as it is above it
pub entry_at : {table : List ℕ} → EveryEntry table → (kelvin : ℕ) → first ≤ kelvin → kelvin ≤ last → Entry kelvin (get_or table (kelvin - first) 0)
entry_at {table} every kelvin from to =
    subst (λ (k : ℕ). Entry k (get_or table (kelvin - first) 0)) (add-sub_of_le from) (every.is_entry (kelvin - first) (omega (arith, every.to_last)))
