-- A part that is taken state line by state line: what came so far is added, and the rest is still to come. Assumes nothing.
use mathlib.Core.Path.{◌≡◌, refl, sym, ap, subst, ◌∙◌}
use mathlib.Core.List.{List, [], ◌∷◌, ◌++◌}
use Prim.Native.Nat.{ℕ, ◌-◌, ◌≤◌}
use native.Mathlib.Omega.{arith}
use lib.ListN.{length, take, drop, length-drop}
use lib.Seq.{take_all}
use Rattle.sheets.specs.declared.State.{State}
use Rattle.std.specs.Prelude.{Option, Some}
use Rattle.parts.specs.declared.Taken.{Taken}
use Rattle.parts.specs.Bytes.{Reader, Outcome, then, taking}
use Rattle.parts.specs.Takes.{EndsState, TakesAs, Takes}
use Rattle.parts.proofs.Bytes.{then_assoc}
use Rattle.parts.proofs.Calls.{ends_then}
use Rattle.reports.specs.declared.Running.{Running}
use Rattle.reports.specs.Parts.{AddsOne, AddsAll}

pub adds_behind : (states : List State) (state : State) (before between after : Running) → AddsAll states before between → AddsOne between state after → AddsAll (states ++ (state ∷ [])) before after
adds_behind [] state before between after none one = (after, subst (λ (r : Running). AddsOne r state after) none one, refl)
adds_behind (other ∷ states) state before between after (next, first, others) one = (next, first, adds_behind states state next between after others one)

pub record Gone (reader₀ : Reader) (running₀ : Running) (part : List ℕ) (reader : Reader) (running : Running) (rest : List ℕ) : Type 0 where
  pub states : List State
  pub added : AddsAll states running₀ running
  pub to_come : taking reader₀ part ≡ then (record { after = reader; states = states }) (taking reader rest)

pub none_gone : (reader : Reader) (running : Running) (part : List ℕ) → Gone reader running part reader running part
none_gone reader running part = record { states = []; added = refl; to_come = refl }

module _ {reader₀ reader : Reader} {running₀ running : Running} {part rest : List ℕ} (gone : Gone reader₀ running₀ part reader running rest) (reply : Taken) (takes : Takes reader rest reply) where
  abbrev so_far : Outcome
  so_far = record { after = reader; states = gone.states }

  module _ (state : State) (is_state : reply.brought ≡ Some state) where
    ends : EndsState reader rest state reply.taken reply.reader
    ends = subst (λ (b : Option State). TakesAs reader rest b reply.taken reply.reader) is_state takes

    -- some bytes are taken, and no more than there are
    pub moves_on : (reply.taken ≤ length rest) × (1 ≤ reply.taken)
    moves_on = (ends.inside, omega (arith, ends.is_taken))

    pub one_added : {later : Running} → AddsOne running state later → Gone reader₀ running₀ part reply.reader later (take (length rest - reply.taken) (drop reply.taken rest))
    one_added {later} adds =
        let after = reply.reader in
        record {
          states = gone.states ++ (state ∷ []);
          added = adds_behind gone.states state running₀ running later gone.added adds;
          to_come =
              gone.to_come
              ∙ ap (then so_far) (ends_then reader rest state reply.taken after ends)
              ∙ then_assoc so_far (record { after = after; states = state ∷ [] }) (taking after (drop reply.taken rest))
              ∙ ap (λ (l : List ℕ). then (record { after = after; states = gone.states ++ (state ∷ []) }) (taking after l))
              (sym (take_all (length rest - reply.taken) (drop reply.taken rest) (omega (arith, length-drop reply.taken rest))));
        }
