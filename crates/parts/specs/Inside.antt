-- What private functions promise. Nothing public is stated by this file.
use Rattle.std.specs.Prelude.{◌≡◌, List, [], ◌∷◌, ℕ, suc, ◌+◌, ◌≤◌, length, take, Ok, Option, Some, None}
use Rattle.sheets.specs.declared.State.{State}
use Rattle.sheets.specs.declared.Line.{Line}
use Rattle.parts.specs.declared.Standing.{Standing}
use Rattle.parts.specs.declared.Taken.{Taken}
use Rattle.parts.specs.Bytes.{Outcome, taking, behind_line}

abbrev pub brought_of : List State → Option State
brought_of [] = None
brought_of (state ∷ states) = Some state

abbrev pub states_of : Option State → List State
states_of (Some state) = state ∷ []
states_of None = []

abbrev pub told : Outcome → (taken : ℕ) → Taken
told outcome taken = record { reader = outcome.after; brought = brought_of outcome.states; taken = taken }

abbrev pub behind_of : Line → (state_lines taken : ℕ) → Taken
behind_of line state_lines taken = told (behind_line line state_lines) taken

-- some bytes of the rest are taken, and only the last of them may bring a state
pub record Goes (standing : Standing) (rest : List ℕ) (from : ℕ) (reply : Taken) : Type 0 where
  pub before : ℕ
  pub is_taken : reply.taken ≡ from + suc before
  pub inside : suc before ≤ length rest
  pub none_before : (taking (Ok standing) (take before rest)).states ≡ []
  pub brings : taking (Ok standing) (take (suc before) rest) ≡ record { after = reply.reader; states = states_of reply.brought }
