-- docs/RULES.md, "Crossings, roots and kinds", in its words and its order: the grid, g, a crossing, the gas root, the dense root, the kind.
-- A root is said by its property; how it is found is nowhere here.
use Rattle.std.specs.Prelude.{◌≡◌, ℕ, ◌+◌, ◌≤◌, ◌<◌, ℤ, pos, negsuc, ◌+ℤ◌, ◌-ℤ◌, ◌*ℤ◌}

-- the grid: a whole number z stands for the compressibility z / N
abbrev pub N : ℕ
N = 100000

-- equation (2.1-11) of TM-564, times N cubed, as the rules write it, over signed integers
unfoldable pub polynomial : ℤ → ℤ → ℤ → ℤ → ℤ
polynomial n a b z =
    z *ℤ z *ℤ z -ℤ n *ℤ z *ℤ z +ℤ (n *ℤ a -ℤ b *ℤ b -ℤ n *ℤ b) *ℤ z -ℤ n *ℤ a *ℤ b

unfoldable pub g : ℕ → ℕ → ℕ → ℤ
g a b z = polynomial (pos N) (pos a) (pos b) (pos z)

-- `negsuc n` is -(n + 1)
abbrev pub Positive : ℤ → Type 0
Positive (pos n) = 0 < n
Positive (negsuc n) = ⊥

-- a whole number z with g(z) not positive and g(z + 1) positive
pub record Crossing (a b z : ℕ) : Type 0 where
  pub not_positive : Positive (g a b z) → ⊥
  pub then_positive : Positive (g a b (z + 1))

pub record GasRoot (a b z : ℕ) : Type 0 where
  pub crossing : Crossing a b z
  pub largest : (y : ℕ) → Crossing a b y → y ≤ z

pub record DenseRoot (a b z : ℕ) : Type 0 where
  pub crossing : Crossing a b z
  pub smallest : (y : ℕ) → Crossing a b y → z ≤ y

pub data Kind : Type 0 where
  ONE SPLIT : Kind

-- ONE where the two roots are equal, SPLIT where they differ
abbrev pub IsKind : (gas dense : ℕ) → Kind → Type 0
IsKind gas dense ONE = gas ≡ dense
IsKind gas dense SPLIT = gas ≡ dense → ⊥
