-- docs/RULES.md, "A sheet in parts": what a caller gets who goes on with the rest of a part wherever a state line ended, and then with the next part.
use Rattle.std.specs.Prelude.{◌≡◌, List, [], ◌∷◌, ◌++◌, ℕ, length, drop}
use Rattle.sheets.specs.declared.State.{State}
use Rattle.parts.specs.Bytes.{Reader}
use Rattle.parts.specs.Takes.{EndsState, UsesUp}

-- one part: a call for each state line that ends in it, and one that uses it up
abbrev pub Served : (reader : Reader) (part : List ℕ) (states : List State) (after : Reader) → Type 0
Served reader part [] after = UsesUp reader part (length part) after
Served reader part (state ∷ states) after =
    (taken : ℕ) × (between : Reader) × EndsState reader part state taken between × Served between (drop taken part) states after

-- any parts, one after another
abbrev pub ServedAll : (reader : Reader) (parts : List (List ℕ)) (states : List State) (after : Reader) → Type 0
ServedAll reader [] states after = (states ≡ []) × (after ≡ reader)
ServedAll reader (part ∷ parts) states after =
    (first : List State) × (others : List State) × (between : Reader) × (states ≡ first ++ others) × Served reader part first between × ServedAll between parts others after

-- the bytes of all of them
abbrev pub joined : (parts : List (List ℕ)) → List ℕ
joined [] = []
joined (part ∷ parts) = part ++ joined parts
