-- What is told of lists is fixed, and all lists are told something. Assumes nothing.
use mathlib.Core.Path.{◌≡◌, refl, sym, ap, ◌∙◌}
use mathlib.Core.Bool.{cond}
use mathlib.Core.Logic.{◌⊎◌, inl, inr, ⊎_elim}
use mathlib.Core.List.{List, [], ◌∷◌}
use Prim.Native.Nat.{ℕ, ◌≤◌}
use native.Mathlib.Omega.{arith}
use native.Mathlib.Decide.{dec_le, dec_lt, ℕ_discrete}
use lib.Dec.{eqb}
use lib.ListN.{length}
use Rattle.std.specs.Prelude.{Ok, Err}
use Rattle.refusals.proofs.Theorems.{tells_once}
use Rattle.sheets.specs.Grammar.{most_states, eleven_digits, sheet}
use Rattle.readings.specs.Readers.{most_bytes}
use Rattle.measures.specs.declared.reply.WriteRefusal.TheVariants.{ListsUnfit, TooManyDigits, NoRoom}
use Rattle.measures.specs.declared.reply.WriteFigures.{WriteFigures}
use Rattle.measures.specs.Columns.{Columns, lists_of}
use Rattle.measures.specs.Checks as checks
use Rattle.measures.specs.Checks.{Some, Unfit, HasTooManyDigits, write_checks}
use Rattle.measures.specs.Replies.{WriteReply, figures_of, Told}
use Rattle.measures.proofs.Telling.{tells_unfit, tells_digits, tells_no_room, tells_length}

-- the way back from figures to the reply
unfoldable pub reply_of : WriteFigures → WriteReply
reply_of figures =
    cond (eqb figures.number 0) (Ok figures.length) (Err (cond (eqb figures.number 8) ListsUnfit (cond (eqb figures.number 9) TooManyDigits NoRoom)))

reply_of_figures : (reply : WriteReply) → reply_of (figures_of reply) ≡ reply
unfolding reply_of
reply_of_figures (Ok long) = refl
reply_of_figures (Err ListsUnfit) = refl
reply_of_figures (Err TooManyDigits) = refl
reply_of_figures (Err NoRoom) = refl

pub figures_determine_reply : (reply other : WriteReply) → figures_of reply ≡ figures_of other → reply ≡ other
figures_determine_reply reply other same = sym (reply_of_figures reply) ∙ ap reply_of same ∙ reply_of_figures other

pub figures_determined : (reply : WriteReply) {figures other : WriteFigures} → figures ≡ figures_of reply → other ≡ figures_of reply → figures ≡ other
figures_determined reply p q = p ∙ sym q

pub measure_determined : (fluids : List Columns) (room : ℕ) (reply other : WriteReply) → Told fluids room (figures_of reply) → Told fluids room (figures_of other) → reply ≡ other
measure_determined fluids room reply other p q =
    figures_determine_reply reply other
    (tells_once (write_checks fluids room) (λ refusal figures figures' told told'. told ∙ sym told') (λ figures figures' told told'. told ∙ sym told') (figures_of reply) (figures_of other) p q)

-- each condition is so or is not
either_or_not : {First Second : Type 0} → Dec First → Dec Second → Dec (First ⊎ Second)
either_or_not (yes first) second = yes (inl first)
either_or_not (no not_first) (yes second) = yes (inr second)
either_or_not (no not_first) (no not_second) = no (⊎_elim not_first not_second)

not_or_so : {IsSo : Type 0} → Dec IsSo → Dec (IsSo → ⊥)
not_or_so (yes so) = no (λ not_so. not_so so)
not_or_so (no not_so) = yes not_so

some_or_none : {Of : Type 0} {IsSo : Of → Type 0} → ((one : Of) → Dec (IsSo one)) → (list : List Of) → Dec (Some IsSo list)
some_or_none decide [] = no (λ never. never)
some_or_none decide (first ∷ others) = either_or_not (decide first) (some_or_none decide others)

unfit_or_not : (columns : Columns) → Dec (Unfit columns)
unfit_or_not columns =
    either_or_not (dec_lt most_states (length columns.millikelvin)) (either_or_not (dec_lt most_states (length columns.pascals)) (not_or_so (ℕ_discrete (length columns.millikelvin) (length columns.pascals))))

digits_or_not : (columns : Columns) → Dec (HasTooManyDigits columns)
digits_or_not columns =
    let each = some_or_none {IsSo = checks.TooManyDigits} (λ number. dec_le eleven_digits number) in
    either_or_not (each columns.millikelvin) (each columns.pascals)

pub every_list_is_told : (fluids : List Columns) (room : ℕ) → (reply : WriteReply) × Told fluids room (figures_of reply)
every_list_is_told fluids room = by_fit (some_or_none unfit_or_not fluids) (some_or_none digits_or_not fluids) (dec_le long room) (dec_le long most_bytes)
  where
    long : ℕ
    long = length (sheet (lists_of fluids))

    by_fit : Dec (Some Unfit fluids) → Dec (Some HasTooManyDigits fluids) → Dec (long ≤ room) → Dec (long ≤ most_bytes) → (reply : WriteReply) × Told fluids room (figures_of reply)
    by_fit (yes unfit) many has_room short = (Err ListsUnfit, tells_unfit fluids unfit)
    by_fit (no fit) (yes many) has_room short = (Err TooManyDigits, tells_digits fluids fit many)
    by_fit (no fit) (no few) (no no_room) short = (Err NoRoom, tells_no_room fluids fit few refl (inl (omega arith)))
    by_fit (no fit) (no few) (yes has_room) (no too_long) = (Err NoRoom, tells_no_room fluids fit few refl (inr (omega arith)))
    by_fit (no fit) (no few) (yes has_room) (yes short) = (Ok long, tells_length fluids fit few refl has_room short)
