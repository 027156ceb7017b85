-- docs/RULES.md, "The book", however it is laid out: what a call with a book tells, and what the book holds after it. Of the book at entry what is
-- told knows the length alone.
use Rattle.std.specs.Prelude.{◌≡◌, List, ◌++◌, ℕ, zero, suc, length}
use Rattle.refusals.specs.Checks.{NoneOf}
use Rattle.books.specs.Layouts.{Layout, slot_checks}
use Rattle.books.specs.Bytes.{in_bytes}
use Rattle.calls.specs.declared.Form.{Form}
use Rattle.calls.specs.declared.Form.TheVariants.{Whole, Side}
use Rattle.calls.specs.Checks.{form_checks}
use Rattle.replies.specs.declared.Figures.{Figures}
use Rattle.replies.specs.declared.sides.SideFigures.{SideFigures}
use Rattle.replies.specs.Sides.{SideOf}
use Rattle.state.specs.Replies.{Told, RepliesAs}

abbrev pub if_kind : (kind : ℕ) → (written before : List ℕ) → List ℕ
if_kind zero written before = before
if_kind (suc kind) written before = written

-- an answered call writes the gas root into its slot; a refused one, which has no kind, writes nothing
abbrev pub book_after : Layout → (before : List ℕ) (slot : ℕ) → Figures → List ℕ
book_after layout before slot figures = if_kind figures.kind (layout.put before slot figures.gas_root) before

pub record CalledAs (layout : Layout) (form : Form) (number millikelvin pascals slot : ℕ) (before : List ℕ) (figures : Figures) (after : List ℕ) : Type 0 where
  pub replies : Told number millikelvin pascals (form_checks form ++ slot_checks layout slot (length before)) figures
  pub leaves : after ≡ book_after layout before slot figures

abbrev pub Called : (number millikelvin pascals slot : ℕ) (before : List ℕ) (figures : Figures) (after : List ℕ) → Type 0
Called = CalledAs in_bytes Whole

-- whichever side is named, the book is left as by a whole reply
abbrev pub CalledForSide : (number millikelvin pascals side slot : ℕ) (before : List ℕ) (told : SideFigures) (after : List ℕ) → Type 0
CalledForSide number millikelvin pascals side slot before told after =
    SideOf side (λ whole. CalledAs in_bytes (Side side) number millikelvin pascals slot before whole after) told

-- what a call of either form may tell, where none of its own checks applies: without a book, or with one, whatever it holds
pub data Asked (number millikelvin pascals : ℕ) (figures : Figures) : Type 0 where
  without_book : (form : Form) → NoneOf (form_checks form) → RepliesAs form number millikelvin pascals figures → Asked number millikelvin pascals figures
  with_book : (form : Form) (slot : ℕ) (before after : List ℕ) → NoneOf (form_checks form ++ slot_checks in_bytes slot (length before)) → CalledAs in_bytes form number millikelvin pascals slot before figures after → Asked number millikelvin pascals figures
