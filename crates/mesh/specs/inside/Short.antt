-- The edges that a round of `improve` takes (document 01, "Element and surface": "the edges, listed at its start, of bad elements shorter
-- than 0.75 h", "by length then numbers"), as rows of four words. For contracts of private functions and for proofs; definitions only.
use Rattle.std.specs.Prelude.{ℕ, ◌+◌, ◌-◌, ◌*◌, ◌/◌, ◌%◌, ◌^◌, Bool, cond, not, ◌&&◌, ◌||◌, List, [], ◌∷◌, ◌++◌, map, length, take, nat_le, Float}
use Rattle.std.specs.Float.Ieee.{lt}
use Rattle.geometry.specs.declared.point.Point.{Point}
use Rattle.geometry.specs.inside.Word.{order_bits}
use Rattle.mesh.specs.declared.element.Pair.{Pair}
use Rattle.mesh.specs.declared.element.Tet.{Tet}
use Rattle.mesh.specs.Words.{zero_words, flat}
use Rattle.mesh.specs.Sort.{sort, unique}
use Rattle.mesh.specs.Complex.{keep}
use Rattle.mesh.specs.Measure.{length_of}
use Rattle.mesh.specs.Element.{same_pair, tets, le_pair, all_edges}
use Rattle.mesh.specs.inside.List.{bad_in}

-- is the edge shorter
abbrev pub short : List Point → Float → Pair → Bool
short ps limit e = lt (length_of ps e) limit

-- "by length then numbers"
abbrev pub le_edge : List Point → Pair → Pair → Bool
le_edge ps e f = lt (length_of ps e) (length_of ps f) || (not (lt (length_of ps f) (length_of ps e)) && le_pair e f)

-- "the edges .. of bad elements shorter than" the limit, each once
unfoldable pub short_edges : List Point → Float → List Tet → List Pair
short_edges ps limit ts = unique same_pair (sort (le_edge ps) (keep (short ps limit) (all_edges (keep (bad_in ps) ts))))

-- ---- as rows

-- the bits of an edge's length, high word and low word, and its two vertices
unfoldable pub edge_row : List Point → Pair → List ℕ
edge_row ps e = order_bits (length_of ps e) / 2 ^ 32 ∷ order_bits (length_of ps e) % 2 ^ 32 ∷ e.a ∷ e.b ∷ []

-- at most 65,536 slots, and 52 words for each
unfoldable pub short_fits : ℕ → ℕ → Bool
short_fits n m = nat_le n 65536 && nat_le (52 * n) m

-- how many rows, and the area afterwards
pub record Shorts : Type 0 where
  pub number : ℕ
  pub area : List ℕ

-- the slots as they were; behind them the rows, then zeros; none, and the area as it was, where it is too small
unfoldable pub short_in : List Point → Float → ℕ → List ℕ → Shorts
short_in ps limit n s =
    let rs = map (edge_row ps) (short_edges ps limit (tets n s)) in
    cond (short_fits n (length s))
    (record { number = length rs; area = take (4 * n) s ++ (flat rs ++ zero_words (length s - (4 * n + length (flat rs)))) })
    (record { number = 0; area = s })

-- ---- for the contracts of private functions

-- the rows of the edges that are shorter
unfoldable pub short_rows : List Point → Float → List Pair → List (List ℕ)
short_rows ps limit es = map (edge_row ps) (keep (short ps limit) es)
