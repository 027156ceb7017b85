-- From calls to bytes: what a call tells, and what a caller gets who goes on, is what the bytes leave and answer; and there always is a reply.
-- Assumes nothing.
use mathlib.Core.Path.{◌≡◌, sym, ap, ap₂, ◌∙◌}
use mathlib.Core.List.{List, [], ◌∷◌}
use Prim.Native.Nat.{ℕ, suc, ◌≤◌, ◌<◌}
use native.Mathlib.Omega.{arith}
use lib.ListN.{length, take, drop, take-append-drop}
use lib.Seq.{take-take}
use Rattle.sheets.specs.declared.State.{State}
use Rattle.parts.specs.Bytes.{Reader, Outcome, then, taking}
use Rattle.std.specs.Prelude.{Option, Some, None}
use Rattle.parts.specs.declared.Taken.{Taken}
use Rattle.parts.specs.Takes.{EndsState, UsesUp, TakesAs, Takes}
use Rattle.parts.specs.Served.{Served, ServedAll, joined}
use Rattle.parts.proofs.Bytes.{both, quiet_before}

-- the bytes up to the end of a state line, and then the rest
pub ends_then : (reader : Reader) (part : List ℕ) (state : State) (taken : ℕ) (between : Reader) → EndsState reader part state taken between → taking reader part ≡ then (record { after = between; states = state ∷ [] }) (taking between (drop taken part))
ends_then reader part state taken between ends =
    ap (taking reader) (sym (take-append-drop taken part))
    ∙ both reader (take taken part) (drop taken part)
    ∙ ap (λ (o : Outcome). then o (taking o.after (drop taken part))) ends.brings

pub served_is : (reader : Reader) (part : List ℕ) (states : List State) (after : Reader) → Served reader part states after → taking reader part ≡ record { after = after; states = states }
served_is reader part [] after used = used.brings
served_is reader part (state ∷ states) after (taken, between, ends, later) =
    ends_then reader part state taken between ends
    ∙ ap (then (record { after = between; states = state ∷ [] })) (served_is between (drop taken part) states after later)

pub all_served_is : (reader : Reader) (parts : List (List ℕ)) (states : List State) (after : Reader) → ServedAll reader parts states after → taking reader (joined parts) ≡ record { after = after; states = states }
unfolding taking
all_served_is reader [] states after (none, same) = ap₂ (λ (r : Reader) (l : List State). record { after = r; states = l }) (sym same) (sym none)
all_served_is reader (part ∷ parts) states after (first, others, between, split, served, later) =
    both reader part (joined parts)
    ∙ ap (λ (o : Outcome). then o (taking o.after (joined parts))) (served_is reader part first between served)
    ∙ ap (then (record { after = between; states = first })) (all_served_is between parts others after later)
    ∙ ap (λ (l : List State). record { after = after; states = l }) (sym split)

-- ---- one reply
-- the state line that ends first is one, and where it ends: no fewer bytes bring a state
module _ (reader : Reader) (part : List ℕ) where
  not_sooner : {state state' : State} {taken taken' : ℕ} {after after' : Reader} → EndsState reader part state taken after → EndsState reader part state' taken' after' → taken < taken' → ⊥
  not_sooner {state} {state'} {taken} {taken'} ends later sooner =
      let less : taken ≤ later.before = omega (arith, later.is_taken) in
      let none =
      quiet_before reader (take taken (take later.before part)) (drop taken (take later.before part))
      (ap (λ (l : List ℕ). (taking reader l).states) (take-append-drop taken (take later.before part)) ∙ later.none_before) in
      let some : (taking reader (take taken (take later.before part))).states ≡ state ∷ [] =
      ap (λ (l : List ℕ). (taking reader l).states) (take-take taken later.before part less) ∙ ap (λ (o : Outcome). o.states) ends.brings in
      let never : ◌≡◌ {A = ℕ} 0 1 = ap length (sym none ∙ some) in
      omega arith

  not_used_up : {state : State} {taken taken' : ℕ} {after after' : Reader} → EndsState reader part state taken after → UsesUp reader part taken' after' → ⊥
  not_used_up {state} {taken} {taken'} {after} ends used =
      let never : ◌≡◌ {A = ℕ} (suc (length (taking after (drop taken part)).states)) 0 =
      ap (λ (o : Outcome). length o.states) (sym (ends_then reader part state taken after ends) ∙ used.brings) in
      omega arith

  same_end : {state state' : State} {taken taken' : ℕ} {after after' : Reader} → EndsState reader part state taken after → EndsState reader part state' taken' after' → taken ≡ taken' → (state ≡ state') × (after ≡ after')
  same_end ends ends' same =
      let outcome = sym ends.brings ∙ ap (λ (n : ℕ). taking reader (take n part)) same ∙ ends'.brings in
      let states = ap (λ (o : Outcome). o.states) outcome in
      (cc, ap (λ (o : Outcome). o.after) outcome)

  same_reply : (brought brought' : Option State) {taken taken' : ℕ} {after after' : Reader} → TakesAs reader part brought taken after → TakesAs reader part brought' taken' after' → ◌≡◌ {A = Taken} (record { reader = after; brought = brought; taken = taken }) (record { reader = after'; brought = brought'; taken = taken' })
  same_reply (Some state) (Some state') {taken} {taken'} ends ends' =
      let not_before = not_sooner ends ends' in
      let not_behind = not_sooner ends' ends in
      let same : taken ≡ taken' = omega arith in
      let both_same = same_end ends ends' same in
      cc (same, both_same.0, both_same.1)
  same_reply (Some state) None ends used = absurd (not_used_up ends used)
  same_reply None (Some state') used ends = absurd (not_used_up ends used)
  same_reply None None used used' =
      let same = used.is_taken ∙ sym used'.is_taken in
      let outcome = sym used.brings ∙ used'.brings in
      cc (same, ap (λ (o : Outcome). o.after) outcome)

  pub take_determined : (reply reply' : Taken) → Takes reader part reply → Takes reader part reply' → reply ≡ reply'
  take_determined reply reply' takes takes' = same_reply reply.brought reply'.brought takes takes'
