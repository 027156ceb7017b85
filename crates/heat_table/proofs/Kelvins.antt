-- Every whole kelvin from the first to the last has an entry, and one alone. Assumes nothing.
use mathlib.Core.Path.{◌≡◌, refl, subst}
use mathlib.Core.List.{List, [], ◌∷◌}
use Prim.Native.Nat.{ℕ, zero, suc, ◌≤◌}
use lib.IntN.{pos, nat_abs}
use lib.Signed.{quot_z}
use Rattle.heat.specs.Printed.{Range, printed}
use Rattle.heat.proofs.Ranges.{one_range}
use Rattle.heat_table.specs.Fractions.{RoundedDown, ◌⊗◌}
use Rattle.heat_table.specs.Entries.{first, last, polynomial, Entry}
use Rattle.heat_table.proofs.Rounding.{rounded_once}
use Rattle.heat_table.proofs.Table.{exact, entry_holds, are_entries, every_entry_is_the_rule, entry_at}

pub entry_once : {kelvin heat other : ℕ} → Entry kelvin heat → Entry kelvin other → heat ≡ other
entry_once {kelvin} {heat} {other} p q =
    let same : q.range ≡ p.range = one_range kelvin 1 q.range p.range q.within p.within in
    rounded_once p.is_rounded (subst (λ (range : Range). RoundedDown (polynomial (printed range) kelvin ⊗ 1000) other) same q.is_rounded)

-- What division makes of the fractions passes the test that the program's constant passes.
quotients : (count kelvin : ℕ) → List ℕ
quotients zero kelvin = []
quotients (suc count) kelvin = nat_abs (quot_z (exact kelvin).numerator (pos (exact kelvin).denominator)) ∷ quotients count (suc kelvin)

pub every_kelvin_has_an_entry : (kelvin : ℕ) → first ≤ kelvin → kelvin ≤ last → (heat : ℕ) × Entry kelvin heat
unfolding quotients are_entries entry_holds polynomial printed
every_kelvin_has_an_entry kelvin from to = (_, entry_at (every_entry_is_the_rule (quotients 987 first) refl tt) kelvin from to)
