-- The corners and links of a surface as rows of an area, and the marks of src/manifold.rt. For contracts of private functions and for
-- proofs; definitions only.
use Rattle.std.specs.Prelude.{◌≡◌, ℕ, ◌+◌, ◌-◌, ◌*◌, ◌/◌, ◌%◌, ◌≤◌, min, max, Bool, true, ◌&&◌, List, [], ◌∷◌, ◌++◌, map, length, take, drop, ◌==◌, nat_lt, slice_index}
use Rattle.mesh.specs.declared.element.Pair.{Pair}
use Rattle.mesh.specs.Words.{word_at, numbers, flat}
use Rattle.mesh.specs.inside.Rows.{rows}
use Rattle.mesh.specs.Complex.{mem}
use Rattle.mesh.specs.Tests.{every}
use Rattle.mesh.specs.Element.{pair}
use Rattle.mesh.specs.Manifold.{one_cycle, grow}

-- ---- corners by number, for the contracts of private functions

-- of the corner j of the triples at the front of s, 3 t + i for the corner i of the triple t: the vertex k places on in its triple
unfoldable pub corner_at : List ℕ → ℕ → ℕ → ℕ
corner_at s j k = word_at s (j / 3 * 3 + (j + k) % 3)

-- the edge from the corner j to the next, its smaller vertex first
unfoldable pub edge_row : List ℕ → ℕ → List ℕ
edge_row s j = min (corner_at s j 0) (corner_at s j 1) ∷ max (corner_at s j 0) (corner_at s j 1) ∷ []

-- the corner j: its vertex, its number, and the other two vertices in turn
unfoldable pub link_row : List ℕ → ℕ → List ℕ
link_row s j = corner_at s j 0 ∷ j ∷ corner_at s j 1 ∷ corner_at s j 2 ∷ []

-- the area with n rows of w words, numbered from 0, over what stood from b on
unfoldable pub filled : (ℕ → List ℕ) → ℕ → ℕ → ℕ → List ℕ → List ℕ
filled row w b n s = take b s ++ (flat (map row (numbers 0 n)) ++ drop (b + w * n) s)

-- ---- runs

-- two of a kind
abbrev pub two : List (List ℕ) → Bool
two g = length g == 2

-- ---- links

-- the two other vertices of a link row
abbrev pub link_pair : List ℕ → Pair
link_pair r = pair (slice_index r 2) (slice_index r 3)

-- do the pairs of link rows form one cycle
abbrev pub cycle : List (List ℕ) → Bool
cycle g = one_cycle (map link_pair g)

-- both below b
abbrev pub pair_below : ℕ → Pair → Bool
pair_below b e = nat_lt e.a b && nat_lt e.b b

-- the mark t stands at the vertices seen and at no other, and no mark is higher
abbrev pub Marked : ℕ → List ℕ → List ℕ → Type 0
Marked t seen s = (x : ℕ) → ((word_at s x == t) ≡ mem x seen) × (word_at s x ≤ t)

-- no mark is higher than t
abbrev pub Low : ℕ → List ℕ → Type 0
Low t s = (x : ℕ) → word_at s x ≤ t

-- the words below `base` are as they were, and there are as many
pub record KeptBelow (base : ℕ) (s₀ s : List ℕ) : Type 0 where
  pub front : take base s ≡ take base s₀
  pub long : length s ≡ length s₀

-- s is s₀ with the vertices marked that `grow` adds, n of them
pub record Grown (t : ℕ) (es : List Pair) (s₀ s : List ℕ) (n : ℕ) : Type 0 where
  pub long : length s ≡ length s₀
  pub marked : (seen : List ℕ) → Marked t seen s₀ → Marked t (grow es seen) s
  pub added : (seen : List ℕ) → Marked t seen s₀ → length (grow es seen) ≡ length seen + n

-- k link rows from p on, with their vertices below b
pub record LinkRun (p k b : ℕ) (s : List ℕ) : Type 0 where
  pub few : length s ≤ 983040
  pub room : p + 4 * k ≤ length s
  pub known : every (pair_below b) (map link_pair (rows 4 k (drop p s))) ≡ true

-- m link rows behind the first m words, with their vertices inside the marks behind them, and no mark
pub record LinkArea (m : ℕ) (s : List ℕ) : Type 0 where
  pub few : m ≤ 196608
  pub room : 9 * m ≤ length s
  pub known : every (λ r. pair_below (length s - 5 * m) (link_pair r)) (rows 4 m (drop m s)) ≡ true
  pub fresh : (x : ℕ) → word_at s (5 * m + x) ≡ 0
