-- The line that says what failed and why, put part by part. Assumes nothing.
use mathlib.Core.Path.{◌≡◌, refl}
use mathlib.Core.List.{List, [], ◌∷◌, ◌++◌}
use Prim.Native.Nat.{ℕ, ◌+◌, ◌≤◌}
use native.Mathlib.Omega.{arith}
use lib.ListN.{length, length-append}
use Rattle.sheets.specs.Grammar.{line_end}
use Rattle.buffers.specs.Puts.{Puts, has_room}
use Rattle.buffers.proofs.Holding.{put_with_room}
use Rattle.buffers.proofs.Underway.{none_put, part_put, last_fits, last_held}
use Rattle.streams.specs.Faults.{fault_text}

-- the texts that the code has by itself are said by equations, so that another one is refused there
module _ (what why : List ℕ) {before between last worded begun explained after : List ℕ} {what_end why_begins why_end next : ℕ} where
  pub fault_put : length what + length why + 3 ≤ length before → Puts what before 0 worded what_end → Puts between worded what_end begun why_begins → between ≡ 58 ∷ 32 ∷ [] → Puts why begun why_begins explained why_end → Puts last explained why_end after next → last ≡ line_end ∷ [] → Puts (fault_text what why) before 0 after next
  fault_put room puts_what puts_between is_between puts_why puts_last is_last =
      let fits : 0 + length (fault_text what why) ≤ length before =
      omega (arith, room, length-append what ((58 ∷ 32 ∷ []) ++ (why ++ (line_end ∷ []))), length-append (58 ∷ 32 ∷ []) (why ++ (line_end ∷ [])), length-append why (line_end ∷ [])) in
      let with_what = part_put (none_put (fault_text what why) before 0 fits) what ((58 ∷ 32 ∷ []) ++ (why ++ (line_end ∷ []))) refl puts_what in
      let with_between = part_put with_what (58 ∷ 32 ∷ []) (why ++ (line_end ∷ [])) refl (rw is_between at puts_between) in
      let with_why = part_put with_between why (line_end ∷ []) refl puts_why in
      has_room fits (last_held with_why (put_with_room (rw is_last at puts_last) (last_fits with_why)))
