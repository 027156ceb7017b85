-- A quoted text as bytes, so that what is printed can be read here as it is printed. In ASCII a character's code is its byte.
use Rattle.std.specs.Prelude.{List, [], ◌∷◌, ℕ, zero, suc}
use Prim.Native.Char.{code}
use Prim.Native.String.{String, len, char_at}

-- so many characters, from a place on
abbrev characters_from : String → (place many : ℕ) → List ℕ
characters_from text place zero = []
characters_from text place (suc many) = code (char_at text place) ∷ characters_from text (suc place) many

abbrev pub ascii : String → List ℕ
ascii text = characters_from text 0 (len text)
