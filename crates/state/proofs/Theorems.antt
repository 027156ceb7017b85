-- What is proved of the calls, beside their contracts: no crossing of an accepted state goes unreported, a side is told what the whole reply has
-- for it, nothing that the book holds changes a reply, two customers who share a slot get what each would get alone, and each contract fixes the
-- reply and the book. Assumes nothing.
use mathlib.Core.Path.{◌≡◌, refl, sym, ap, ap₂, ◌∙◌}
use mathlib.Core.Logic.{◌⊎◌}
use mathlib.Core.List.{List, [], ◌∷◌, ◌++◌}
use Prim.Native.Nat.{ℕ, ◌≤◌, ◌<◌}
use native.Mathlib.Omega.{arith}
use lib.ListN.{length, replicate, length-replicate}
use Rattle.std.specs.Prelude.{Result}
use Rattle.refusals.specs.declared.Refusal.{Refusal}
use Rattle.refusals.specs.Checks.{NoneOf}
use Rattle.refusals.proofs.Lists.{tells_without, tells_without_between}
use Rattle.refusals.proofs.Theorems.{none_is_answered, not_answered_is_refused}
use Rattle.books.specs.Layouts.{Layout, slot_checks, Placed, BothOrNeither, SameNumbers}
use Rattle.books.specs.Bytes.{three_byte_numbers, in_bytes}
use Rattle.books.proofs.Slots.{alike_by_length}
use Rattle.books.proofs.Theorems.{in_bytes_holds}
use Rattle.books.proofs.Before.{in_numbers, in_numbers_holds}
use Rattle.cubic.specs.Cubic.{ONE, Crossing, GasRoot, DenseRoot}
use Rattle.cubic.proofs.Theorems as cubic
use Rattle.fluid.specs.declared.choice.Fluid.{Fluid}
use Rattle.fluid.specs.declared.coefficients.Reduced.{Reduced}
use Rattle.fluid.specs.Figures.{number_of, Accepted}
use Rattle.fluid.specs.Checks.{state_checks}
use Rattle.fluid.specs.Reduced.{Reduces}
use Rattle.fluid.proofs.Accepting.{passes}
use Rattle.fluid.proofs.Fluids.{number_determines_fluid}
use Rattle.fluid.proofs.Theorems.{b_at_most, reduced_determined}
use Rattle.replies.specs.declared.Answer.{Answer}
use Rattle.replies.specs.declared.sides.SideAnswer.{SideAnswer}
use Rattle.replies.specs.declared.Figures.{Figures}
use Rattle.replies.specs.declared.sides.SideFigures.{SideFigures}
use Rattle.replies.specs.Figures.{number_of_kind, figures_of}
use Rattle.replies.specs.Sides.{gas, dense, figures_for, side_figures_of}
use Rattle.replies.proofs.Theorems.{figures_determine_reply, figures_determine_side_reply, one_for_both_sides, side_shown, side_once}
use Rattle.calls.specs.declared.Form.{Form}
use Rattle.calls.specs.declared.Form.TheVariants.{Whole, Side}
use Rattle.calls.specs.Checks.{form_checks}
use Rattle.calls.proofs.Theorems.{call_decided, call_with_book_decided}
use Rattle.state.specs.Replies.{Answered, Told, Replies, RepliesForSide}
use Rattle.state.specs.Book.{book_after, CalledAs, Called, CalledForSide, Asked, without_book, with_book}
use Rattle.state.specs.Shared.{Call, AnswerTo, Gets, Answers, Shared, Alone}
use Rattle.state.proofs.Determined.{same_told}
use Rattle.state.proofs.Existence.{told}
use Rattle.state.proofs.Sharing.{called_once, shown, one_answer, answers_once, numbers_once, shared_gets_alone}

-- Every accepted state is answered, and the two roots reported are all the crossings there are, whatever a book holds.
module _ {fluid : Fluid} {millikelvin pascals : ℕ} {reduced : Reduced} {figures : Figures} (accepted : Accepted fluid millikelvin pascals) (reduces : Reduces fluid millikelvin pascals reduced) (asked : Asked (number_of fluid) millikelvin pascals figures) where
  answer : Answered (number_of fluid) millikelvin pascals figures
  answer = none_is_answered (state_checks (number_of fluid) millikelvin pascals) (passes fluid refl millikelvin pascals accepted) (without asked)
    where
      without : Asked (number_of fluid) millikelvin pascals figures → Replies (number_of fluid) millikelvin pascals figures
      without (without_book form none replies) = tells_without (state_checks (number_of fluid) millikelvin pascals) (form_checks form) none replies
      without (with_book form slot before after none called) =
          tells_without (state_checks (number_of fluid) millikelvin pascals) (form_checks form ++ slot_checks in_bytes slot (length before)) none called.replies

  pub accepted_is_answered : figures.number ≡ 0
  accepted_is_answered = ap (λ (f : Figures). f.number) answer.is_figures

  same_reduced : answer.roots.reduced ≡ reduced
  same_reduced =
      let same_fluid : answer.found.fluid ≡ fluid = sym (number_determines_fluid fluid answer.found.fluid answer.roots.is_number) in
      reduced_determined fluid millikelvin pascals answer.roots.reduced reduced (rw same_fluid at answer.roots.reduces) reduces

  pub gas_root_is_reported : GasRoot reduced.a reduced.b figures.gas_root
  gas_root_is_reported = rw answer.is_figures (rw same_reduced at answer.roots.is_gas)

  pub dense_root_is_reported : DenseRoot reduced.a reduced.b figures.dense_root
  dense_root_is_reported = rw answer.is_figures (rw same_reduced at answer.roots.is_dense)

  pub every_crossing_is_reported : (z : ℕ) → Crossing reduced.a reduced.b z → (z ≡ figures.gas_root) ⊎ (z ≡ figures.dense_root)
  every_crossing_is_reported = cubic.every_crossing_is_reported _ _ _ _ gas_root_is_reported dense_root_is_reported

  pub gas_is_largest : (z : ℕ) → Crossing reduced.a reduced.b z → z ≤ figures.gas_root
  gas_is_largest = gas_root_is_reported.largest

  pub dense_is_smallest : (z : ℕ) → Crossing reduced.a reduced.b z → figures.dense_root ≤ z
  dense_is_smallest = dense_root_is_reported.smallest

  -- three bytes of a book hold each of them
  pub every_root_fits : (z : ℕ) → Crossing reduced.a reduced.b z → z < three_byte_numbers
  every_root_fits z crossing = omega (arith, b_at_most accepted reduces, cubic.crossing_on_grid _ _ z crossing)

  -- and a side is told the root that it is named for
  pub gas_side_has_gas_root : {side : SideFigures} → side ≡ figures_for gas figures → GasRoot reduced.a reduced.b side.root
  gas_side_has_gas_root same = rw same gas_root_is_reported

  pub dense_side_has_dense_root : {side : SideFigures} → side ≡ figures_for dense figures → DenseRoot reduced.a reduced.b side.root
  dense_side_has_dense_root same = rw same dense_root_is_reported

-- Two replies that keep what `ask` promises are equal, and so are two that keep what `ask_side` promises.
module _ (number millikelvin pascals : ℕ) where
  pub reply_determined : (r s : Result Answer Refusal) → Replies number millikelvin pascals (figures_of r) → Replies number millikelvin pascals (figures_of s) → r ≡ s
  reply_determined r s p q = figures_determine_reply r s (same_told number millikelvin pascals [] (figures_of r) (figures_of s) p q)

  module _ (side : ℕ) where
    pub side_determined : (r s : Result SideAnswer Refusal) → RepliesForSide number millikelvin pascals side (side_figures_of r) → RepliesForSide number millikelvin pascals side (side_figures_of s) → r ≡ s
    side_determined r s p q =
        figures_determine_side_reply r s (side_once (same_told number millikelvin pascals (form_checks (Side side))) p q)

    -- a side that there is gets just what the whole reply has for it,
    module _ (named : NoneOf (form_checks (Side side))) {whole : Figures} {told : SideFigures} where
      pub side_of_whole : Replies number millikelvin pascals whole → RepliesForSide number millikelvin pascals side told → told ≡ figures_for side whole
      side_of_whole p q =
          let replies : Replies number millikelvin pascals q.whole = tells_without (state_checks number millikelvin pascals) (form_checks (Side side)) named q.holds in
          q.is_told ∙ ap (figures_for side) (same_told number millikelvin pascals [] q.whole whole replies p)

      -- with a book too, and the book is left as by the whole call
      pub side_of_whole_with_book : {slot : ℕ} {book after after' : List ℕ} → Called number millikelvin pascals slot book whole after → CalledForSide number millikelvin pascals side slot book told after' → (told ≡ figures_for side whole) × (after ≡ after')
      side_of_whole_with_book {slot} {book} p q =
          let more = slot_checks in_bytes slot (length book) in
          let replies : Told number millikelvin pascals more q.whole = tells_without_between (state_checks number millikelvin pascals) (form_checks (Side side)) more named q.holds.replies in
          let same : q.whole ≡ whole = same_told number millikelvin pascals more q.whole whole replies p.replies in
          (q.is_told ∙ ap (figures_for side) same, p.leaves ∙ sym (q.holds.leaves ∙ ap (book_after in_bytes book slot) same))

  -- both sides of a ONE state get the same
  pub one_has_equal_sides : (r : Result Answer Refusal) (of_gas of_dense : Result SideAnswer Refusal) → Replies number millikelvin pascals (figures_of r) → (figures_of r).kind ≡ number_of_kind ONE → RepliesForSide number millikelvin pascals gas (side_figures_of of_gas) → RepliesForSide number millikelvin pascals dense (side_figures_of of_dense) → of_gas ≡ of_dense
  one_has_equal_sides r of_gas of_dense p is_one q q' =
      let gas_named : NoneOf (form_checks (Side gas)) = (λ neither. neither.0 refl, tt) in
      let dense_named : NoneOf (form_checks (Side dense)) = (λ neither. neither.1 refl, tt) in
      figures_determine_side_reply of_gas of_dense
      (side_of_whole gas gas_named p q ∙ one_for_both_sides r is_one ∙ sym (side_of_whole dense dense_named p q'))

-- ---- with a book
-- a refused call leaves the book as it was, however it is laid out
pub refused_changes_nothing : {layout : Layout} {form : Form} {number millikelvin pascals slot : ℕ} {book after : List ℕ} {figures : Figures} → (figures.number ≡ 0 → ⊥) → CalledAs layout form number millikelvin pascals slot book figures after → after ≡ book
refused_changes_nothing {layout} {slot = slot} {book = book} refused called =
    called.leaves ∙ ap (book_after layout book slot) (not_answered_is_refused (λ answered. refused (ap (λ (f : Figures). f.number) answered.is_figures)) called.replies).1

-- two calls that keep what `ask_with_book` or `ask_side_with_book` promises give one reply and leave one book
module _ (number millikelvin pascals : ℕ) where
  pub call_determined : (slot : ℕ) (book : List ℕ) {r s : Result Answer Refusal} {after after' : List ℕ} → Called number millikelvin pascals slot book (figures_of r) after → Called number millikelvin pascals slot book (figures_of s) after' → (r ≡ s) × (after ≡ after')
  call_determined slot book {r} {s} p q =
      let same = called_once p q in
      (figures_determine_reply r s same.0, same.1)

  pub side_call_determined : (side slot : ℕ) (book : List ℕ) {r s : Result SideAnswer Refusal} {after after' : List ℕ} → CalledForSide number millikelvin pascals side slot book (side_figures_of r) after → CalledForSide number millikelvin pascals side slot book (side_figures_of s) after' → (r ≡ s) × (after ≡ after')
  side_call_determined side slot book {r} {s} p q =
      let same = called_once p.holds q.holds in
      (figures_determine_side_reply r s (p.is_told ∙ ap (figures_for side) same.0 ∙ sym q.is_told), same.1)

  -- where the book has the slot, a call without a book gives the same
  pub same_without_book : {slot : ℕ} {book after : List ℕ} {r s : Result Answer Refusal} → Placed in_bytes slot (length book) → Called number millikelvin pascals slot book (figures_of r) after → Replies number millikelvin pascals (figures_of s) → r ≡ s
  same_without_book {slot} {book} {r = r} {s} placed p q =
      reply_determined number millikelvin pascals r s (tells_without (state_checks number millikelvin pascals) (slot_checks in_bytes slot (length book)) placed p.replies) q

-- ---- calls of both forms
-- what the calls promise is what `Gets` says of them
module _ {number millikelvin pascals slot : ℕ} {book after : List ℕ} where
  pub whole_gets : {reply : Result Answer Refusal} → Called number millikelvin pascals slot book (figures_of reply) after → Gets in_bytes (record { fluid = number; millikelvin = millikelvin; pascals = pascals; form = Whole; slot = slot }) book reply
  whole_gets called = record { figures = _; after = after; called = called; shows = refl }

  pub side_gets : {side : ℕ} {reply : Result SideAnswer Refusal} → CalledForSide number millikelvin pascals side slot book (side_figures_of reply) after → Gets in_bytes (record { fluid = number; millikelvin = millikelvin; pascals = pascals; form = Side side; slot = slot }) book reply
  side_gets called = record { figures = called.whole; after = after; called = called.holds; shows = called.is_told }

-- one call, on any two books of the same length, gets one answer
pub same_on_any_book : (call : Call) (book other : List ℕ) → length book ≡ length other → {answer answer' : AnswerTo call.form} → Gets in_bytes call book answer → Gets in_bytes call other answer' → answer ≡ answer'
same_on_any_book call book other same p q = one_answer (alike_by_length same) p q

-- For every list of calls of both forms, made one after another on one book, what it held changes no answer.
pub book_never_matters : (book other : List ℕ) → length book ≡ length other → (calls : List Call) (got others : Answers calls) (after after' : List ℕ) → Shared in_bytes book calls got after → Shared in_bytes other calls others after' → got ≡ others
book_never_matters book other same = answers_once in_bytes_holds in_bytes_holds (alike_by_length same)

pub alone_determined : (book : List ℕ) (calls : List Call) (got others : Answers calls) → Alone in_bytes book calls got → Alone in_bytes book calls others → got ≡ others
alone_determined book [] got others p q = refl
alone_determined book (call ∷ calls) (one, got) (other_one, others) (gets, p) (gets', q) =
    ap₂ (λ (first : AnswerTo call.form) (rest : Answers calls). (first, rest)) (same_on_any_book call book book refl gets gets') (alone_determined book calls got others p q)

-- For every such list each answer is one that the call gets alone with a book of zeros;
module _ (book : List ℕ) (calls : List Call) (got : Answers calls) (after : List ℕ) (shared : Shared in_bytes book calls got after) where
  pub shared_slot_gets_alone : Alone in_bytes (replicate (length book) 0) calls got
  shared_slot_gets_alone = shared_gets_alone in_bytes_holds (alike_by_length (sym (length-replicate (length book) 0))) calls got after shared

  -- and the only one: two customers who share a slot get what each would get alone.
  pub shared_slot_as_alone : (others : Answers calls) → Alone in_bytes (replicate (length book) 0) calls others → got ≡ others
  shared_slot_as_alone others = alone_determined _ calls got others shared_slot_gets_alone

-- ---- the book in bytes beside the one in numbers that it replaces
-- For every such list, whatever either book holds, the answers are those that the calls got with the book in numbers;
module _ (old new : List ℕ) (alike : BothOrNeither in_numbers in_bytes old new) (calls : List Call) (got_before got : Answers calls) (old_after new_after : List ℕ) (before : Shared in_numbers old calls got_before old_after) (shared : Shared in_bytes new calls got new_after) where
  pub answers_equal_for_all_contents : got_before ≡ got
  answers_equal_for_all_contents = answers_once in_numbers_holds in_bytes_holds alike calls got_before got old_after new_after before shared

  -- and where both held the same numbers before, slot for slot, they do so after.
  pub same_roots_as_before : SameNumbers in_numbers in_bytes old new → (got_before ≡ got) × SameNumbers in_numbers in_bytes old_after new_after
  same_roots_as_before same =
      (answers_equal_for_all_contents, numbers_once in_numbers_holds in_bytes_holds alike same calls got_before got old_after new_after before shared)

-- Every state has a reply, for each side too, and every call with a book has one and leaves some book.
module _ (number millikelvin pascals : ℕ) where
  pub every_state_has_a_reply : (reply : Result Answer Refusal) × Replies number millikelvin pascals (figures_of reply)
  every_state_has_a_reply = told number millikelvin pascals [] (call_decided Whole number millikelvin pascals)

  pub every_side_has_a_reply : (side : ℕ) → (reply : Result SideAnswer Refusal) × RepliesForSide number millikelvin pascals side (side_figures_of reply)
  every_side_has_a_reply side =
      let whole = told number millikelvin pascals (form_checks (Side side)) (call_decided (Side side) number millikelvin pascals) in
      let shown = side_shown side whole.0 in
      (shown.0, record { whole = figures_of whole.0; holds = whole.1; is_told = shown.1 })

pub every_call_has_a_reply : (layout : Layout) (call : Call) (book : List ℕ) → (answer : AnswerTo call.form) × Gets layout call book answer
every_call_has_a_reply layout call book =
    let decided = call_with_book_decided call.form call.fluid call.millikelvin call.pascals layout call.slot (length book) in
    let whole = told call.fluid call.millikelvin call.pascals (form_checks call.form ++ slot_checks layout call.slot (length book)) decided in
    let answer = shown call.form whole.0 in (
      answer.0,
      record {
        figures = figures_of whole.0;
        after = book_after layout book call.slot (figures_of whole.0);
        called = record { replies = whole.1; leaves = refl };
        shows = answer.1;
      },
    )

-- So every list of calls has its answers on every book, and leaves some book.
pub every_list_has_answers : (layout : Layout) (book : List ℕ) (calls : List Call) → (got : Answers calls) × ((after : List ℕ) × Shared layout book calls got after)
every_list_has_answers layout book [] = (tt, (book, refl))
every_list_has_answers layout book (call ∷ calls) =
    let one = every_call_has_a_reply layout call book in
    let rest = every_list_has_answers layout one.1.after calls in
    ((one.0, rest.0), (rest.1.0, (one.1, rest.1.1)))
