-- What is proved of the heat table beside its contract: every temperature has exactly one reply, at a whole kelvin it is the entry, between two it lies
-- between theirs, and it is refused exactly out of hydrogen's range. That every entry of the program's constant is the rule's is
-- `every_entry_is_the_rule`, in Table. Assumes nothing.
use mathlib.Core.Path.{◌≡◌, refl, sym, ap, ◌∙◌}
use mathlib.Core.Logic.{◌↔◌}
use Prim.Native.Nat.{ℕ, ◌+◌, ◌*◌, ◌-◌, ◌/◌, ◌%◌, ◌≤◌, ◌<◌}
use native.Mathlib.Omega.{arith}
use native.Mathlib.Decide.{dec_lt}
use Rattle.std.specs.Prelude.{Result, Ok, Err}
use Rattle.refusals.specs.Checks.{NoneOf}
use Rattle.refusals.specs.declared.Refusal.{Refusal}
use Rattle.refusals.specs.declared.Refusal.TheVariants.{TemperatureTooLow, TemperatureTooHigh}
use Rattle.refusals.proofs.Theorems.{number_determines_refusal, never_zero, tells_once, none_is_answered, not_answered_is_refused, zero_is_answered}
use Rattle.fluid.specs.declared.choice.Fluid.TheVariants.{Hydrogen}
use Rattle.fluid.specs.Figures.{coldest, hottest}
use Rattle.fluid.proofs.Accepting.{temperature_passes, temperature_accepted}
use Rattle.heat_table.specs.declared.replies.TableFigures.{TableFigures}
use Rattle.heat_table.specs.Entries.{Entry}
use Rattle.heat_table.specs.Line.{Between}
use Rattle.heat_table.specs.Replies.{hydrogen_checks, answered_with, figures_of, Answered, Replies}
use Rattle.heat_table.proofs.Kelvins.{every_kelvin_has_an_entry}
use Rattle.heat_table.proofs.Lines.{lies_between, line_exists}
use Rattle.heat_table.proofs.Heats.{on_every_line, heat_once, at_kelvin}
use Rattle.heat_table.proofs.Telling.{tells_too_low, tells_too_high, tells_heat, tells_on_line, tells_last}

abbrev number_in : TableFigures → ℕ
number_in figures = figures.number

abbrev heat_in : TableFigures → ℕ
heat_in figures = figures.heat

-- ---- the contract fixes the reply, and every temperature has one
pub figures_determine_reply : (reply other : Result ℕ Refusal) → figures_of reply ≡ figures_of other → reply ≡ other
figures_determine_reply (Ok heat) (Ok other) same = ap Ok (ap heat_in same)
figures_determine_reply (Ok heat) (Err refusal) same = absurd (never_zero refusal (sym (ap number_in same)))
figures_determine_reply (Err refusal) (Ok heat) same = absurd (never_zero refusal (ap number_in same))
figures_determine_reply (Err refusal) (Err other) same = ap Err (number_determines_refusal refusal other (ap number_in same))

pub figures_determined : (reply : Result ℕ Refusal) {figures other : TableFigures} → figures ≡ figures_of reply → other ≡ figures_of reply → figures ≡ other
figures_determined reply p q = p ∙ sym q

module _ (millikelvin : ℕ) where
  answered_once : (figures other : TableFigures) → Answered millikelvin figures → Answered millikelvin other → figures ≡ other
  answered_once figures other p q = p.is_figures ∙ ap answered_with (heat_once p.is_heat q.is_heat) ∙ sym q.is_figures

  pub told_once : (figures other : TableFigures) → Replies millikelvin figures → Replies millikelvin other → figures ≡ other
  told_once = tells_once (hydrogen_checks millikelvin) (λ refusal figures other p q. p ∙ sym q) answered_once

  pub heat_table_determined : (reply other : Result ℕ Refusal) → Replies millikelvin (figures_of reply) → Replies millikelvin (figures_of other) → reply ≡ other
  heat_table_determined reply other p q = figures_determine_reply reply other (told_once (figures_of reply) (figures_of other) p q)

  pub every_temperature_has_a_reply : (reply : Result ℕ Refusal) × Replies millikelvin (figures_of reply)
  every_temperature_has_a_reply = by_ends (dec_lt millikelvin (coldest Hydrogen)) (dec_lt millikelvin hottest) (dec_lt hottest millikelvin)
    where
      by_ends : Dec (millikelvin < coldest Hydrogen) → Dec (millikelvin < hottest) → Dec (hottest < millikelvin) → (reply : Result ℕ Refusal) × Replies millikelvin (figures_of reply)
      by_ends (yes cold) before past = (Err TemperatureTooLow, tells_too_low cold)
      by_ends (no f) before (yes past) = (Err TemperatureTooHigh, tells_too_high past)
      by_ends (no f) (yes before) (no g) =
          let below = every_kelvin_has_an_entry (millikelvin / 1000) (omega arith) (omega arith) in
          let above = every_kelvin_has_an_entry (millikelvin / 1000 + 1) (omega arith) (omega arith) in
          (Ok _, tells_on_line below.1 above.1 (line_exists below.0 above.0 (millikelvin % 1000) (omega arith)))
      by_ends (no f) (no h) (no g) =
          let entry = every_kelvin_has_an_entry (millikelvin / 1000) (omega arith) (omega arith) in
          (Ok entry.0, tells_last (omega arith) entry.1)

-- ---- the heat capacity
-- at a whole kelvin of the table, its entry; at 1,000,000 mK, the last one
pub at_whole_kelvins_the_entry : {kelvin heat : ℕ} → Entry kelvin heat → {figures : TableFigures} → Replies (1000 * kelvin) figures → figures ≡ answered_with heat
at_whole_kelvins_the_entry {kelvin} {heat} is_entry {figures} replies =
    told_once (1000 * kelvin) figures (answered_with heat) replies (tells_heat (at_kelvin is_entry))

module _ {millikelvin : ℕ} {figures : TableFigures} (replies : Replies millikelvin figures) where
  answered : figures.number ≡ 0 → NoneOf (hydrogen_checks millikelvin) × Answered millikelvin figures
  answered is_0 = zero_is_answered number_in (hydrogen_checks millikelvin) refl (λ refusal told. ap number_in told) is_0 replies

  in_range : coldest Hydrogen ≤ millikelvin → millikelvin ≤ hottest → Answered millikelvin figures
  in_range from to = none_is_answered (hydrogen_checks millikelvin) (temperature_passes Hydrogen refl from to) replies

  -- refused exactly out of the range of hydrogen's states
  pub answered_exactly : (figures.number ≡ 0) ↔ ((coldest Hydrogen ≤ millikelvin) × (millikelvin ≤ hottest))
  answered_exactly = (λ is_0. temperature_accepted Hydrogen refl (answered is_0).0, λ inside. ap number_in (in_range inside.0 inside.1).is_figures)

  -- between the entries of any two neighbours that have it between them
  pub between_neighbours : {kelvin below above : ℕ} → 1000 * kelvin ≤ millikelvin → millikelvin ≤ 1000 * (kelvin + 1) → Entry kelvin below → Entry (kelvin + 1) above → Between below above figures.heat
  between_neighbours {kelvin} from to is_below is_above =
      let told = in_range (omega (arith, is_below.from_first)) (omega (arith, is_above.to_last)) in
      rw (ap heat_in told.is_figures) (lies_between (on_every_line told.is_heat {past = millikelvin - 1000 * kelvin} (omega arith) (omega arith) is_below is_above))

  pub refused_carries_zero : (figures.number ≡ 0 → ⊥) → figures.heat ≡ 0
  refused_carries_zero refused = ap heat_in (not_answered_is_refused (λ given. refused (ap number_in given.is_figures)) replies).1
