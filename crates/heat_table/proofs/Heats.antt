-- The heat capacity at a temperature is on every line that has the temperature, and so it is one number. Assumes nothing.
use mathlib.Core.Path.{◌≡◌, refl, sym, subst, ◌∙◌}
use Prim.Native.Nat.{ℕ, ◌+◌, ◌*◌, ◌≤◌}
use native.Mathlib.Omega.{arith}
use native.Mathlib.Decide.{dec_le}
use Rattle.heat_table.specs.Entries.{last, Entry}
use Rattle.heat_table.specs.Line.{OnLine, HeatAt}
use Rattle.heat_table.proofs.Kelvins.{entry_once, every_kelvin_has_an_entry}
use Rattle.heat_table.proofs.Lines.{at_start, at_end, line_once, starts, ends}

-- the entry of a kelvin that is called by another name
named : {kelvin other heat : ℕ} → kelvin ≡ other → Entry kelvin heat → Entry other heat
named {heat = heat} same = subst (λ (k : ℕ). Entry k heat) same

module _ {millikelvin heat : ℕ} (at : HeatAt millikelvin heat) where
  not_past : at.past ≤ 1000
  not_past = omega (arith, at.on_line.is_ahead)

  -- Two lines that have one temperature are the same, or one ends where the other starts.
  pub on_every_line : {kelvin past below above : ℕ} → 1000 * kelvin + past ≡ millikelvin → past ≤ 1000 → Entry kelvin below → Entry (kelvin + 1) above → OnLine below above past heat
  on_every_line {kelvin} {past} {below} {above} is_past inside is_below is_above = by_order (dec_le at.kelvin kelvin) (dec_le kelvin at.kelvin)
    where
      by_order : Dec (at.kelvin ≤ kelvin) → Dec (kelvin ≤ at.kelvin) → OnLine below above past heat
      by_order (yes h) (yes k) =
          let same : at.kelvin ≡ kelvin = omega arith in
          let same_past : at.past ≡ past = omega (arith, at.is_past) in
          let same_below : at.below ≡ below = entry_once (named same at.is_below) is_below in
          let same_above : at.above ≡ above = entry_once (named (omega arith) at.is_above) is_above in
          rw same_past at (rw same_below at (rw same_above at at.on_line))
      by_order (yes h) (no f) =
          let is_end : at.past ≡ 1000 = omega (arith, at.is_past, not_past) in
          let is_start : past ≡ 0 = omega (arith, at.is_past, not_past) in
          let next : at.kelvin + 1 ≡ kelvin = omega (arith, at.is_past, not_past) in
          let is_heat : heat ≡ below = at_end at.on_line is_end ∙ entry_once (named next at.is_above) is_below in
          rw is_heat (rw is_start (starts below above))
      by_order (no f) k =
          let is_start : at.past ≡ 0 = omega (arith, at.is_past) in
          let is_end : past ≡ 1000 = omega (arith, at.is_past) in
          let next : kelvin + 1 ≡ at.kelvin = omega (arith, at.is_past) in
          let is_heat : heat ≡ above = at_start at.on_line is_start ∙ sym (entry_once (named next is_above) at.is_below) in
          rw is_heat (rw is_end (ends below above))

pub heat_once : {millikelvin heat other : ℕ} → HeatAt millikelvin heat → HeatAt millikelvin other → heat ≡ other
heat_once p q = line_once (on_every_line p q.is_past (not_past q) q.is_below q.is_above) q.on_line

-- the last entry, at the end of the last line
at_last : {heat : ℕ} → Entry last heat → HeatAt (1000 * last) heat
at_last {heat} is_last =
    let before = every_kelvin_has_an_entry 999 (omega arith) (omega arith) in
    record { kelvin = 999; past = 1000; is_past = refl; below = before.0; is_below = before.1; above = heat; is_above = is_last; on_line = ends before.0 heat }

-- and at every whole kelvin, its entry
pub at_kelvin : {kelvin heat : ℕ} → Entry kelvin heat → HeatAt (1000 * kelvin) heat
at_kelvin {kelvin} {heat} is_entry = by_test (dec_le last kelvin)
  where
    by_test : Dec (last ≤ kelvin) → HeatAt (1000 * kelvin) heat
    by_test (yes h) =
        let same : kelvin ≡ last = omega (arith, is_entry.to_last) in
        subst (λ (k : ℕ). HeatAt (1000 * k) heat) (sym same) (at_last (named same is_entry))
    by_test (no f) =
        let next = every_kelvin_has_an_entry (kelvin + 1) (omega (arith, is_entry.from_first)) (omega arith) in
        record { kelvin = kelvin; past = 0; is_past = omega arith; below = heat; is_below = is_entry; above = next.0; is_above = next.1; on_line = starts heat next.0 }
