-- The listings, call by call: the bad elements, the rows behind them, and that the whole is the definition. Assumes nothing.
use Rattle.std.proofs.Common.{◌≡◌, ℕ, ◌+◌, ◌-◌, ◌*◌, ◌<◌, ◌≤◌, true, List, ◌++◌, map, length, take, drop, refl, ap, arith, mul-le-mul_left}
use Rattle.geometry.specs.declared.point.Point.{Point}
use Rattle.mesh.specs.declared.element.Tet.{Tet}
use Rattle.mesh.specs.Words.{zero_words, numbers, flat}
use Rattle.mesh.specs.inside.Rows.{rows}
use Rattle.mesh.specs.inside.Intake.{tet_at}
use Rattle.mesh.specs.Complex.{keep}
use Rattle.mesh.specs.Element.{tets, vertices_of}
use Rattle.mesh.specs.inside.Manifold.{filled, KeptBelow}
use Rattle.mesh.specs.inside.Euler.{spread, edge_rows, triangle_rows, edge_row_at, triangle_row_at}
use Rattle.mesh.proofs.Laws.Euler.Areas.{edge-rows, triangle-rows, edge_row-told, triangle_row-told}
use Rattle.mesh.specs.inside.List.{bad_in, set_of, list_fits, Listing, listed_in, stacked, own_rows, Kind, bad_edges, bad_faces}
use Rattle.mesh.proofs.Laws.List.Bad.{gathered-few, gathered-kept}
use Rattle.mesh.proofs.Laws.List.Rows.{part_room, rows-room, rows-number, rows-area, fits-is, in-yes}

-- the rows of one element are its edges, and its faces
edges-own : own_rows edge_row_at 6 ≡ edge_rows
unfolding edge_row_at tet_at numbers
edges-own = refl

faces-own : own_rows triangle_row_at 4 ≡ triangle_rows
unfolding triangle_row_at tet_at numbers
faces-own = refl

pub edges : Kind 2 6 edge_row_at (own_rows edge_row_at 6)
unfolding edge_row_at
edges = rw edges-own (record { some = omega arith; wide = λ i. omega arith; size = λ s j. refl; told = edge_row-told; numbered = edge-rows })

pub faces : Kind 3 4 triangle_row_at (own_rows triangle_row_at 4)
unfolding triangle_row_at
faces = rw faces-own (record { some = omega arith; wide = λ i. omega arith; size = λ s j. refl; told = triangle_row-told; numbered = triangle-rows })

-- and so the listings are those of the definitions
module _ (ps : List Point) (n : ℕ) (s : List ℕ) where
  abbrev pub listed : (Tet → List (List ℕ)) → Listing
  listed f = listed_in (λ ts. set_of (spread f (keep (bad_in ps) ts))) ps n s

  pub edges-listed : listed (own_rows edge_row_at 6) ≡ listed_in (bad_edges ps) ps n s
  edges-listed = ap listed edges-own

  pub faces-listed : listed (own_rows triangle_row_at 4) ≡ listed_in (bad_faces ps) ps n s
  faces-listed = ap listed faces-own

-- no more than 24 rows an element
pub each-few : {w c : ℕ} {row : List ℕ → ℕ → List ℕ} {f : Tet → List (List ℕ)} (q : Kind w c row f) (k : ℕ) → c * k ≤ 24 * k
each-few {w} {c} q k = omega (arith, q.wide k, mul-le-mul_left (c * k + c * k) q.some)

module _ {w c : ℕ} {row : List ℕ → ℕ → List ℕ} {f : Tet → List (List ℕ)} (q : Kind w c row f) (ps : List Point) (n k : ℕ) (s₀ s₁ : List ℕ) (fits : list_fits n (length s₀) ≡ true)
    (number : k ≡ length (keep (bad_in ps) (tets n s₀))) (e₁ : s₁ ≡ stacked (map vertices_of (keep (bad_in ps) (tets n s₀))) 4 (4 * n) s₀) where
  room : 32 * n ≤ length s₀
  room = (fits-is n (length s₀) fits).1

  pub few : (n ≤ 65536) × (k ≤ n)
  few = ((fits-is n (length s₀) fits).0, omega (arith, number, gathered-few (bad_in ps) n s₀ room))

  kept : KeptBelow (4 * n) s₀ s₁
  kept = gathered-kept (bad_in ps) n s₀ room s₁ e₁

  pub ready : (4 * n ≤ length s₁) × (k ≤ 65536) × (28 * k ≤ length (drop (4 * n) s₁))
  ready =
      let r = part_room w c row f q.some q.wide q.size q.numbered n k (keep (bad_in ps) (tets n s₀)) number few.1 s₀ s₁ room kept e₁ in
      (r.0, omega (arith, few.0, few.1), r.1)

  module _ (s₂ : List ℕ) (e₂ : s₂ ≡ take (4 * n) s₁ ++ filled (row (drop (4 * n) s₁)) w (4 * k) (c * k) (drop (4 * n) s₁)) where
    pub sortable : (0 < w) × (4 * n + 4 * k + (c * k + c * k) * w ≤ length s₂)
    sortable = rows-room w c row f q.some q.wide q.size q.numbered n k (keep (bad_in ps) (tets n s₀)) number few.1 s₀ s₁ room kept e₁ s₂ e₂

    pub listing : (m : ℕ) (s₃ : List ℕ) → m ≡ length (set_of (rows w (c * k) (drop (4 * n + 4 * k) s₂)))
        → s₃ ≡ take (4 * n + 4 * k) s₂ ++ (flat (set_of (rows w (c * k) (drop (4 * n + 4 * k) s₂)))
        ++ zero_words (length s₂ - (4 * n + 4 * k + length (flat (set_of (rows w (c * k) (drop (4 * n + 4 * k) s₂)))))))
        → ◌≡◌ {A = Listing} (record { listed = record { elements = k; rows = m }; area = s₃ }) (listed_in (λ ts. set_of (spread f (keep (bad_in ps) ts))) ps n s₀)
    listing m s₃ p e₃ =
        let ts = keep (bad_in ps) (tets n s₀) in
        in-yes (λ us. set_of (spread f (keep (bad_in ps) us))) ps n s₀ s₃ k m fits number
        (rows-number w c row f q.some q.wide q.size q.numbered n k ts number few.1 s₀ s₁ room kept e₁ s₂ e₂ m s₃ p e₃)
        (rows-area w c row f q.some q.wide q.size q.numbered n k ts number few.1 s₀ s₁ room kept e₁ s₂ e₂ m s₃ p e₃)
