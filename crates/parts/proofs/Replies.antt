-- Every part has a reply, for any reader at all, and every list of parts is served to its end. Assumes nothing.
use mathlib.Core.Path.{◌≡◌, refl, ap, subst, ◌∙◌}
use mathlib.Core.Bool.{Bool, true, false, cond}
use mathlib.Core.List.{List, [], ◌∷◌, ◌++◌}
use Prim.Native.Nat.{ℕ, zero, suc, ◌<◌}
use native.Mathlib.Nat.{not-suc-le-zero}
use native.Mathlib.Omega.{arith}
use lib.Dec.{eqb, leb}
use lib.ListN.{length, take, drop, length-drop}
use Rattle.sheets.specs.declared.State.{State}
use Rattle.sheets.specs.declared.Fault.TheVariants.{Malformed, TooLong}
use Rattle.std.specs.Prelude.{Ok, Err, Some, None, Option}
use Rattle.sheets.specs.declared.Line.{Line}
use Rattle.sheets.specs.declared.Line.TheVariants.{Count, Told}
use Rattle.sheets.specs.Grammar.{all_sections, line_end}
use Rattle.sheets.specs.Lines.{ended, wants_line}
use Rattle.readings.specs.Readers.{most_bytes}
use Rattle.parts.specs.Bytes.{Reader, longest_line, Outcome, quiet, total, behind_line, holds, reads, takes_byte, taking}
use Rattle.parts.specs.declared.Taken.{Taken}
use Rattle.parts.specs.Takes.{TakesAs, Takes}
use Rattle.parts.specs.Served.{Served, ServedAll}
use Rattle.parts.proofs.Bytes.{first_byte, one_byte}

-- one state at most
abbrev Few : List State → Type 0
Few [] = Unit {0}
Few (state ∷ []) = Unit {0}
Few (state ∷ other ∷ states) = ⊥

line_few : (line : Line) (state_lines : ℕ) → Few (behind_line line state_lines).states
line_few (Count after) state_lines = tt
line_few (Told (Ok (Some told))) state_lines = tt
line_few (Told (Ok None)) state_lines = tt
line_few (Told (Err fault)) state_lines = tt

either_few : (t : Bool) (one other : Outcome) → Few one.states → Few other.states → Few (cond t one other).states
either_few true one other few few' = few
either_few false one other few few' = few'

byte_few : (reader : Reader) (byte : ℕ) → Few (takes_byte reader byte).states
byte_few (Err fault) byte = tt
byte_few (Ok standing) byte =
    either_few (leb most_bytes (total standing)) (quiet (Err TooLong)) _ tt
    (either_few (wants_line all_sections standing.cursor) (reads standing byte) (quiet (Err (Malformed standing.cursor.place)))
    (either_few (eqb byte line_end) _ (holds standing byte)
    (line_few (ended all_sections standing.cursor (suc (total standing)) standing.digest) standing.state_lines)
    (either_few (leb longest_line standing.held) _ _ tt tt))
    tt)

pub record Replied (reader : Reader) (part : List ℕ) : Type 0 where
  pub reply : Taken
  pub takes : Takes reader part reply

-- a byte that brings nothing, and then what the rest has
behind_byte : (reader : Reader) (byte : ℕ) (part : List ℕ) {between : Reader} → takes_byte reader byte ≡ quiet between → (brought : Option State) (taken : ℕ) (after : Reader) → TakesAs between part brought taken after → TakesAs reader (byte ∷ part) brought (suc taken) after
behind_byte reader byte part {between} is (Some state) taken after ends =
    record {
      before = suc ends.before;
      is_taken = ap suc ends.is_taken;
      inside = let within = ends.inside in omega arith;
      none_before = ap (λ (o : Outcome). o.states) (first_byte reader byte (take ends.before part) is) ∙ ends.none_before;
      brings = first_byte reader byte (take taken part) is ∙ ends.brings;
    }
behind_byte reader byte part {between} is None taken after used =
    record { is_taken = ap suc used.is_taken; brings = first_byte reader byte part is ∙ used.brings }

pub every_part_has_a_reply : (part : List ℕ) (reader : Reader) → Replied reader part
unfolding taking
every_part_has_a_reply [] reader = record { reply = record { reader = reader; brought = None; taken = 0 }; takes = record { is_taken = refl; brings = refl } }
every_part_has_a_reply (byte ∷ part) reader =
    by_states (takes_byte reader byte).states refl (byte_few reader byte) (every_part_has_a_reply part (takes_byte reader byte).after)
  where
    between : Reader
    between = (takes_byte reader byte).after

    is_byte : {states : List State} → (takes_byte reader byte).states ≡ states → takes_byte reader byte ≡ record { after = between; states = states }
    is_byte is = ap (λ (l : List State). record { after = between; states = l }) is

    by_states : (states : List State) → (takes_byte reader byte).states ≡ states → Few (takes_byte reader byte).states → Replied between part → Replied reader (byte ∷ part)
    by_states [] is few later =
        record {
          reply = record { reader = later.reply.reader; brought = later.reply.brought; taken = suc later.reply.taken };
          takes = behind_byte reader byte part (is_byte is) later.reply.brought later.reply.taken later.reply.reader later.takes;
        }
    by_states (state ∷ []) is few later =
        record {
          reply = record { reader = between; brought = Some state; taken = 1 };
          takes = record { before = 0; is_taken = refl; inside = omega arith; none_before = refl; brings = one_byte reader byte ∙ is_byte is };
        }
    by_states (state ∷ other ∷ states) is few later = absurd (subst Few is few)

pub record ServedFully (reader : Reader) (part : List ℕ) : Type 0 where
  pub states : List State
  pub after : Reader
  pub served : Served reader part states after

-- each state line that ends leaves fewer bytes to take
served_within : (most : ℕ) (reader : Reader) (part : List ℕ) → length part < most → ServedFully reader part
served_within zero reader part few = absurd (not-suc-le-zero few)
served_within (suc most) reader part few =
    by_brought first.reply.brought first.reply.taken first.reply.reader first.takes
    (λ taken between fewer. served_within most between (drop taken part) fewer)
  where
    first : Replied reader part
    first = every_part_has_a_reply part reader

    by_brought : (brought : Option State) (taken : ℕ) (between : Reader) → TakesAs reader part brought taken between → ((taken : ℕ) (between : Reader) → length (drop taken part) < most → ServedFully between (drop taken part)) → ServedFully reader part
    by_brought (Some state) taken between ends later =
        let on = later taken between (omega (arith, length-drop taken part, ends.is_taken, ends.inside)) in
        record { states = state ∷ on.states; after = on.after; served = (taken, between, ends, on.served) }
    by_brought None taken after used later =
        record { states = []; after = after; served = record { is_taken = refl; brings = used.brings } }

pub every_part_is_served : (reader : Reader) (part : List ℕ) → ServedFully reader part
every_part_is_served reader part = served_within (suc (length part)) reader part (omega arith)

pub record AllServed (reader : Reader) (parts : List (List ℕ)) : Type 0 where
  pub states : List State
  pub after : Reader
  pub served : ServedAll reader parts states after

pub all_parts_are_served : (parts : List (List ℕ)) (reader : Reader) → AllServed reader parts
all_parts_are_served [] reader = record { states = []; after = reader; served = (refl, refl) }
all_parts_are_served (part ∷ parts) reader =
    let one = every_part_is_served reader part in
    let others = all_parts_are_served parts one.after in
    record {
      states = one.states ++ others.states;
      after = others.after;
      served = (one.states, others.states, one.after, refl, one.served, others.served);
    }
