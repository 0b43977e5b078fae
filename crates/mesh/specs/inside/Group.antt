-- Groups as runs of sorted rows in an area, a row a vertex: its rank and its number. For contracts of private functions and for proofs;
-- definitions only.
use Rattle.std.specs.Prelude.{ℕ, ◌*◌, ◌/◌, ◌%◌, ◌^◌, Bool, cond, ◌&&◌, List, [], ◌∷◌, ◌++◌, map, length, take, drop, nat_le, slice_index, Float}
use Rattle.geometry.specs.declared.point.Point.{Point}
use Rattle.geometry.specs.declared.bounds.Options.{Options}
use Rattle.geometry.specs.declared.bounds.Ranks.{Ranks}
use Rattle.geometry.specs.Rank.{rank}
use Rattle.mesh.specs.Words.{zero_words, numbers, flat, point_in}
use Rattle.mesh.specs.Sort.{sort}
use Rattle.mesh.specs.inside.Rows.{le_row, eq_row}
use Rattle.mesh.specs.Group.{rank_of}

-- ---- runs

module _ {A : Type 0} (same : A → A → Bool) where
  -- x in front of the first run where it is the same as that run's first, else a run of its own
  unfoldable pub join_run : A → List (List A) → List (List A)
  join_run x [] = (x ∷ []) ∷ []
  join_run x ([] ∷ gs) = (x ∷ []) ∷ gs
  join_run x ((y ∷ g) ∷ gs) = cond (same x y) ((x ∷ y ∷ g) ∷ gs) ((x ∷ []) ∷ (y ∷ g) ∷ gs)

  -- the list cut into runs of the same neighbours
  unfoldable pub runs : List A → List (List A)
  runs [] = []
  runs (x ∷ xs) = join_run x (runs xs)

-- the same first k words
abbrev pub same_first : ℕ → List ℕ → List ℕ → Bool
same_first k r q = eq_row (take k r) (take k q)

-- ---- as rows

-- a rank as six words, the high one of each direction first
abbrev pub rank_words : Ranks → List ℕ
rank_words r = r.x / 2 ^ 32 ∷ r.x % 2 ^ 32 ∷ r.y / 2 ^ 32 ∷ r.y % 2 ^ 32 ∷ r.z / 2 ^ 32 ∷ r.z % 2 ^ 32 ∷ []

-- a vertex with its rank
abbrev pub group_row : Ranks → ℕ → List ℕ
group_row r v = rank_words r ++ (v ∷ [])

-- the vertex of such a row
abbrev pub vertex_in : List ℕ → ℕ
vertex_in row = slice_index row 6

-- the rows of all vertices, in number order
unfoldable pub group_rows : Options → List Point → List (List ℕ)
group_rows o parameters = map (λ v. group_row (rank_of o parameters v) v) (numbers 0 (length parameters))

-- at most 65,536 vertices, and 14 words for each
unfoldable pub group_fits : ℕ → ℕ → Bool
group_fits n m = nat_le n 65536 && nat_le (14 * n) m

-- the sorted rows at the front, as many words behind them 0; unchanged where the area is too small
unfoldable pub grouped_area : Options → List Point → List ℕ → List ℕ
grouped_area o parameters s =
    cond (group_fits (length parameters) (length s))
    (flat (sort le_row (group_rows o parameters)) ++ (zero_words (7 * length parameters) ++ drop (14 * length parameters) s))
    s

-- the row of the vertex v whose parameters stand in a list of floats, for the contract of a private function
unfoldable pub group_row_at : Options → List Float → ℕ → List ℕ
group_row_at o s v = group_row (rank (point_in s v) o) v
