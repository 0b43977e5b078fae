-- What the passes list at their start (document 01, "Element and surface"): the bad elements, and "only faces and edges of elements that are
-- bad at the start of the pass". Elements stand in slots; a slot whose first word is 0xFFFFFFFF holds none. Rows are sorted, each is there
-- once, and its words are vertices in rising order. For contracts of private functions and for proofs; definitions only.
use Rattle.std.specs.Prelude.{◌≡◌, ℕ, ◌+◌, ◌-◌, ◌*◌, ◌<◌, Bool, cond, not, ◌&&◌, List, ◌++◌, map, length, take, drop, ◌==◌, nat_le}
use Rattle.geometry.specs.declared.point.Point.{Point}
use Rattle.mesh.specs.declared.element.Tet.{Tet}
use Rattle.mesh.specs.declared.list.Listed.{Listed}
use Rattle.mesh.specs.Words.{zero_words, numbers, flat}
use Rattle.mesh.specs.Sort.{sort, unique}
use Rattle.mesh.specs.inside.Rows.{le_row, eq_row}
use Rattle.mesh.specs.Complex.{keep}
use Rattle.mesh.specs.Measure.{measure, is_bad}
use Rattle.mesh.specs.Element.{vertices_of, tets}
use Rattle.mesh.specs.inside.Euler.{spread, edge_rows, triangle_rows}

-- ---- bad elements

-- no element stands in the slot
abbrev pub gone : Tet → Bool
gone t = t.a == 4294967295

-- an element whose score is bad
unfoldable pub bad_in : List Point → Tet → Bool
bad_in ps t = not (gone t) && is_bad (measure ps) t

-- ---- their simplices

-- rows sorted, each once
unfoldable pub set_of : List (List ℕ) → List (List ℕ)
set_of rs = unique eq_row (sort le_row rs)

-- the edges, and the keys of the faces, of the bad elements
abbrev pub bad_edges : List Point → List Tet → List (List ℕ)
bad_edges ps ts = set_of (spread edge_rows (keep (bad_in ps) ts))

abbrev pub bad_faces : List Point → List Tet → List (List ℕ)
bad_faces ps ts = set_of (spread triangle_rows (keep (bad_in ps) ts))

-- ---- within one area

-- at most 65,536 slots, and 32 words for each
unfoldable pub list_fits : ℕ → ℕ → Bool
list_fits n m = nat_le n 65536 && nat_le (32 * n) m

-- how many, and the area afterwards
pub record Listing : Type 0 where
  pub listed : Listed
  pub area : List ℕ

-- the slots as they were; behind them the bad elements, then the rows, then zeros; nothing, and the area as it was, where it is too small
unfoldable pub listed_in : ((List Tet) → List (List ℕ)) → List Point → ℕ → List ℕ → Listing
listed_in rows ps n s =
    let es = flat (map vertices_of (keep (bad_in ps) (tets n s))) in
    let rs = flat (rows (tets n s)) in
    cond (list_fits n (length s))
    (record {
      listed = record { elements = length (keep (bad_in ps) (tets n s)); rows = length (rows (tets n s)) };
      area = take (4 * n) s ++ (es ++ (rs ++ zero_words (length s - (4 * n + length es + length rs))));
    })
    (record { listed = record { elements = 0; rows = 0 }; area = s })

-- ---- for the contracts of private functions

-- rows of w words put behind the first b words
unfoldable pub stacked : List (List ℕ) → ℕ → ℕ → List ℕ → List ℕ
stacked rs w b s = take b s ++ (flat rs ++ drop (b + w * length rs) s)

-- s is s₀ with these rows of w words, k of them, put behind the first b words
pub record Pushed (rs : List (List ℕ)) (w b : ℕ) (s₀ s : List ℕ) (k : ℕ) : Type 0 where
  pub number : k ≡ length rs
  pub area : s ≡ stacked rs w b s₀

-- the rows of one element, c of them
abbrev pub own_rows : (List ℕ → ℕ → List ℕ) → ℕ → Tet → List (List ℕ)
own_rows row c t = map (row (vertices_of t)) (numbers 0 c)

-- c rows of w words an element, told by the elements
pub record Kind (w c : ℕ) (row : List ℕ → ℕ → List ℕ) (f : Tet → List (List ℕ)) : Type 0 where
  pub some : 0 < w
  pub wide : (i : ℕ) → (c * i + c * i) * w ≡ 24 * i
  pub size : (s : List ℕ) (j : ℕ) → length (row s j) ≡ w
  pub told : (s : List ℕ) (i j : ℕ) → j < c * i → row (take (4 * i) s) j ≡ row s j
  pub numbered : (s : List ℕ) (i : ℕ) → map (row s) (numbers 0 (c * i)) ≡ spread f (tets i s)
