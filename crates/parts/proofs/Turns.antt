-- A walk through a part: what it took so far brought nothing, and left the reader that it has now. Assumes nothing.
use mathlib.Core.Path.{◌≡◌, refl, sym, ap, subst, ◌∙◌}
use mathlib.Core.Bool.{true, false}
use mathlib.Core.List.{List, []}
use Prim.Native.Nat.{ℕ, suc, ◌+◌, ◌≤◌}
use native.Mathlib.Nat.{add-suc}
use native.Mathlib.Omega.{arith}
use lib.ListN.{length, take, drop, take-append-drop, length-drop}
use lib.Seq.{take-add, take_all}
use Rattle.sheets.specs.declared.State.{State}
use Rattle.sheets.specs.declared.Fault.{Fault}
use Rattle.parts.specs.declared.Standing.{Standing}
use Rattle.parts.specs.Bytes.{Reader, Outcome, quiet, taking}
use Rattle.std.specs.Prelude.{Ok, Err, Option, Some, None, is_some}
use Rattle.parts.specs.declared.Taken.{Taken}
use Rattle.parts.specs.Takes.{UsesUp, Takes}
use Rattle.parts.specs.Inside.{states_of, Goes}
use Rattle.parts.proofs.Bytes.{behind_quiet, Stays, met_stays}

pub record Gone (reader : Reader) (part : List ℕ) (from : ℕ) (now : Reader) : Type 0 where
  pub inside : from ≤ length part
  pub brings : taking reader (take from part) ≡ quiet now

pub none_gone : (reader : Reader) (part : List ℕ) → Gone reader part 0 reader
unfolding taking
none_gone reader part = record { inside = omega arith; brings = refl }

brings_none : (brought : Option State) → is_some brought ≡ false → states_of brought ≡ []
brings_none (Some state) never = cc
brings_none None none = refl

module _ {reader : Reader} {part : List ℕ} {from : ℕ} {now : Reader} (gone : Gone reader part from now) where
  pub used_up : length part ≤ from → UsesUp reader part from now
  used_up all =
      record {
        is_taken = omega (arith, gone.inside);
        brings = ap (taking reader) (sym (take_all from part all)) ∙ gone.brings;
      }

  pub fault_uses_up : (fault : Fault) → now ≡ Err fault → UsesUp reader part (length part) now
  fault_uses_up fault is_fault =
      record {
        is_taken = refl;
        brings = ap (taking reader) (sym (take-append-drop from part)) ∙ met_stays reader (take from part) (drop from part) (subst Stays (sym is_fault) tt) gone.brings;
      }

  -- and so much more behind it
  more : (count : ℕ) → taking reader (take (from + count) part) ≡ taking now (take count (drop from part))
  more count = ap (taking reader) (take-add from count part) ∙ behind_quiet reader (take from part) (take count (drop from part)) gone.brings

  module _ (standing : Standing) (same : now ≡ Ok standing) (reply : Taken) (goes : Goes standing (drop from part) from reply) where
    within : reply.taken ≤ length part
    within = omega (arith, gone.inside, goes.is_taken, goes.inside, length-drop from part)

    is_open : (bytes : List ℕ) → taking now bytes ≡ taking (Ok standing) bytes
    is_open bytes = ap (λ (r : Reader). taking r bytes) same

    all : taking reader (take reply.taken part) ≡ record { after = reply.reader; states = states_of reply.brought }
    all =
        ap (λ (n : ℕ). taking reader (take n part)) goes.is_taken
        ∙ more (suc goes.before)
        ∙ is_open (take (suc goes.before) (drop from part))
        ∙ goes.brings

    pub moves_on : from + 1 ≤ reply.taken
    moves_on = omega (arith, goes.is_taken)

    pub goes_quietly : is_some reply.brought ≡ false → Gone reader part reply.taken reply.reader
    goes_quietly none =
        record { inside = within; brings = all ∙ ap (λ (l : List State). record { after = reply.reader; states = l }) (brings_none reply.brought none) }

    pub ends_state : is_some reply.brought ≡ true → Takes reader part reply
    ends_state some = by_brought reply.brought refl some
      where
        by_brought : (brought : Option State) → reply.brought ≡ brought → is_some brought ≡ true → Takes reader part reply
        by_brought (Some state) is_state some =
            rw is_state
            (record {
              before = from + goes.before;
              is_taken = goes.is_taken ∙ add-suc from goes.before;
              inside = within;
              none_before =
                  ap (λ (o : Outcome). o.states) (more goes.before ∙ is_open (take goes.before (drop from part))) ∙ goes.none_before;
              brings = all ∙ ap (λ (b : Option State). record { after = reply.reader; states = states_of b }) is_state;
            })
        by_brought None is_none never = cc
