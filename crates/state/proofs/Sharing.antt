-- Calls with a book, of either form, however the book is laid out: of the book they know only whether it is as long as it has to be, so what a
-- call gets on one book it gets on any other of which the same is true. `Theorems.antt` draws on it. Assumes nothing.
use mathlib.Core.Path.{◌≡◌, refl, sym, ap, ap₂, ◌∙◌}
use mathlib.Core.List.{List, [], ◌∷◌, ◌++◌}
use Prim.Native.Nat.{ℕ, zero, suc, ◌<◌}
use native.Mathlib.Omega.{arith}
use lib.ListN.{length}
use Rattle.std.specs.Prelude.{Result}
use Rattle.refusals.specs.declared.Refusal.{Refusal}
use Rattle.refusals.specs.Checks.{refuses, answers}
use Rattle.refusals.proofs.Lists.{none_behind, tells_behind_same}
use Rattle.books.specs.Layouts.{Layout, slot_checks, BothOrNeither, SameNumbers}
use Rattle.books.specs.Bytes.{three_byte_numbers}
use Rattle.books.proofs.Slots.{has_slot, alike_by_length, alike_after, has_slot_alike, placed_alike, first_alike}
use Rattle.books.proofs.Holding.{Holds, same_numbers_put}
use Rattle.fluid.specs.Checks.{state_checks}
use Rattle.calls.specs.declared.Form.{Form}
use Rattle.calls.specs.declared.Form.TheVariants.{Whole, Side}
use Rattle.calls.specs.Checks.{form_checks}
use Rattle.replies.specs.declared.Answer.{Answer}
use Rattle.replies.specs.declared.Figures.{Figures}
use Rattle.replies.specs.Figures.{figures_of}
use Rattle.replies.proofs.Theorems.{figures_determine_reply, figures_determine_side_reply, side_shown}
use Rattle.state.specs.Replies.{Told}
use Rattle.state.specs.Book.{if_kind, book_after, CalledAs}
use Rattle.state.specs.Shared.{Call, AnswerTo, Shows, Gets, Answers, Shared, Alone}
use Rattle.state.proofs.Answering.{weighty, written}
use Rattle.state.proofs.Determined.{same_told}

-- ---- one call
pub book_keeps_length : {layout : Layout} {form : Form} {number millikelvin pascals slot : ℕ} {book after : List ℕ} {figures : Figures} → Holds layout → CalledAs layout form number millikelvin pascals slot book figures after → length after ≡ length book
book_keeps_length {layout} {slot = slot} {book} {figures = figures} holds called = ap length called.leaves ∙ by_kind figures.kind
  where
    by_kind : (kind : ℕ) → length (if_kind kind (layout.put book slot figures.gas_root) book) ≡ length book
    by_kind zero = refl
    by_kind (suc kind) = holds.keeps_length book slot figures.gas_root

module _ {layout : Layout} {form : Form} {number millikelvin pascals slot : ℕ} {book after : List ℕ} {figures : Figures} (called : CalledAs layout form number millikelvin pascals slot book figures after) where
  -- on another book, in its layout, of which the same is true
  module _ {layout' : Layout} {other : List ℕ} (alike : BothOrNeither layout layout' book other) where
    pub called_on : CalledAs layout' form number millikelvin pascals slot other figures (book_after layout' other slot figures)
    called_on =
        record {
          replies = tells_behind_same (state_checks number millikelvin pascals ++ form_checks form) (slot_checks layout slot (length book)) (slot_checks layout' slot (length other)) (first_alike alike slot) (placed_alike alike slot) called.replies;
          leaves = refl;
        }

    module _ {others : Figures} {after' : List ℕ} (called' : CalledAs layout' form number millikelvin pascals slot other others after') where
      pub figures_once : figures ≡ others
      figures_once =
          same_told number millikelvin pascals (form_checks form ++ slot_checks layout' slot (length other)) figures others called_on.replies called'.replies

      pub alike_afterwards : Holds layout → Holds layout' → BothOrNeither layout layout' after after'
      alike_afterwards holds holds' = alike_after alike (book_keeps_length holds called) (book_keeps_length holds' called')

      -- two books that say the same numbers do so after the call
      pub same_numbers_after : Holds layout → Holds layout' → SameNumbers layout layout' book other → SameNumbers layout layout' after after'
      same_numbers_after holds holds' same = rw (called.leaves, called'.leaves, ← figures_once) (by_reply called.replies)
        where
          by_reply : Told number millikelvin pascals (form_checks form ++ slot_checks layout slot (length book)) figures → SameNumbers layout layout' (book_after layout book slot figures) (book_after layout' other slot figures)
          by_reply (refuses refusal first zeros) = rw zeros same
          by_reply (answers none answered) =
              let own = slot_checks layout slot (length book) in
              let there = has_slot layout slot (length book) (none_behind (state_checks number millikelvin pascals ++ form_checks form) own none) in
              let weighable = (weighty number millikelvin pascals (form_checks form ++ own) answered.found (none, answered.roots)).gas_fits in
              let fits : answered.found.gas < three_byte_numbers = omega (arith, weighable.root_fits) in
              let put = same_numbers_put holds holds' same there (has_slot_alike alike slot there) fits in
              rw (written layout book slot answered.kind answered.is_figures, written layout' other slot answered.kind answered.is_figures) put

pub called_once : {layout : Layout} {form : Form} {number millikelvin pascals slot : ℕ} {book after after' : List ℕ} {f g : Figures} → CalledAs layout form number millikelvin pascals slot book f after → CalledAs layout form number millikelvin pascals slot book g after' → (f ≡ g) × (after ≡ after')
called_once {layout} {slot = slot} {book} p q =
    let same = figures_once p (alike_by_length refl) q in
    (same, p.leaves ∙ ap (book_after layout book slot) same ∙ sym q.leaves)

-- ---- its answer
-- figures are shown by one answer of a form, and those of every reply by some
pub shown_once : (form : Form) (figures : Figures) (answer other : AnswerTo form) → Shows form answer figures → Shows form other figures → answer ≡ other
shown_once Whole figures r s p q = figures_determine_reply r s (p ∙ sym q)
shown_once (Side side) figures r s p q = figures_determine_side_reply r s (p ∙ sym q)

pub shown : (form : Form) (reply : Result Answer Refusal) → (answer : AnswerTo form) × Shows form answer (figures_of reply)
shown Whole reply = (reply, refl)
shown (Side side) reply = side_shown side reply

module _ {layout layout' : Layout} {call : Call} {book other : List ℕ} {answer : AnswerTo call.form} (alike : BothOrNeither layout layout' book other) (gets : Gets layout call book answer) where
  gets_on : Gets layout' call other answer
  gets_on = record { figures = gets.figures; after = _; called = called_on gets.called alike; shows = gets.shows }

  pub one_answer : {answer' : AnswerTo call.form} → Gets layout' call other answer' → answer ≡ answer'
  one_answer {answer'} gets' =
      shown_once call.form gets'.figures answer answer' (rw (figures_once gets.called alike gets'.called) at gets.shows) gets'.shows

-- ---- calls one after another, on two books, each in its layout
module _ {layout layout' : Layout} (holds : Holds layout) (holds' : Holds layout') where
  pub answers_once : {book other : List ℕ} → BothOrNeither layout layout' book other → (calls : List Call) (got others : Answers calls) (after after' : List ℕ) → Shared layout book calls got after → Shared layout' other calls others after' → got ≡ others
  answers_once alike [] got others after after' p q = refl
  answers_once {book = book} {other = other} alike (call ∷ calls) (one, got) (other_one, others) after after' (gets, p) (gets', q) =
      ap₂ (λ (first : AnswerTo call.form) (rest : Answers calls). (first, rest)) (one_answer alike gets gets')
      (answers_once {book = gets.after} {other = gets'.after} (alike_afterwards gets.called alike gets'.called holds holds') calls got others after after' p q)

  pub numbers_once : {book other : List ℕ} → BothOrNeither layout layout' book other → SameNumbers layout layout' book other → (calls : List Call) (got others : Answers calls) (after after' : List ℕ) → Shared layout book calls got after → Shared layout' other calls others after' → SameNumbers layout layout' after after'
  numbers_once alike same [] got others after after' p q = rw (p, q) same
  numbers_once {book = book} {other = other} alike same (call ∷ calls) got others after after' (gets, p) (gets', q) =
      numbers_once {book = gets.after} {other = gets'.after} (alike_afterwards gets.called alike gets'.called holds holds') (same_numbers_after gets.called alike gets'.called holds holds' same) calls got.1 others.1 after after' p q

pub shared_gets_alone : {layout layout' : Layout} → Holds layout → {book own : List ℕ} → BothOrNeither layout layout' book own → (calls : List Call) (got : Answers calls) (after : List ℕ) → Shared layout book calls got after → Alone layout' own calls got
shared_gets_alone holds alike [] got after shared = tt
shared_gets_alone holds alike (call ∷ calls) got after (gets, shared) =
    (gets_on alike gets, shared_gets_alone holds (alike_after alike (book_keeps_length holds gets.called) refl) calls got.1 after shared)
