-- docs/RULES.md, "Replies" and "Densities": the number of each reply, and its five figures, which are zeros where the state is refused.
use Rattle.std.specs.Prelude.{ℕ, Result, Ok, Err}
use Rattle.refusals.specs.declared.Refusal.{Refusal}
use Rattle.refusals.specs.Numbers.{number_of_refusal}
use Rattle.cubic.specs.Cubic.{Kind, ONE, SPLIT}
use Rattle.replies.specs.declared.Answer.{Answer}
use Rattle.replies.specs.declared.Answer.TheVariants.{One, Split}
use Rattle.replies.specs.declared.Figures.{Figures}

-- a refused state has no kind
abbrev pub none : ℕ
none = 0

abbrev pub number_of_kind : Kind → ℕ
number_of_kind ONE = 1
number_of_kind SPLIT = 2

abbrev pub answered_with : Kind → (gas dense gas_density dense_density : ℕ) → Figures
answered_with kind gas dense gas_density dense_density =
    record {
      number = 0;
      kind = number_of_kind kind;
      gas_root = gas;
      dense_root = dense;
      gas_density = gas_density;
      dense_density = dense_density;
    }

abbrev pub refused_with : (refusal : ℕ) → Figures
refused_with refusal =
    record { number = refusal; kind = none; gas_root = 0; dense_root = 0; gas_density = 0; dense_density = 0 }

abbrev pub figures_of : Result Answer Refusal → Figures
figures_of (Ok (One root density)) = answered_with ONE root root density density
figures_of (Ok (Split gas dense gas_density dense_density)) = answered_with SPLIT gas dense gas_density dense_density
figures_of (Err refusal) = refused_with (number_of_refusal refusal)
