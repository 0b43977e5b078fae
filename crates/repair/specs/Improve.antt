-- `improve` on values (document 01, "Element and surface"; `improve` of repair.rs). Elements are those still there, in number order: one
-- that goes is dropped at once, and the others keep their places. Definitions only.
use Rattle.std.specs.Prelude.{ℕ, zero, suc, Bool, not, cond, ◌&&◌, ◌||◌, List, [], ◌∷◌, ◌++◌, map, eqb, ltb, Float, length, get_or}
use Rattle.std.specs.Float.Ieee.{lt}
use Rattle.geometry.specs.declared.bounds.Options.{Options}
use Rattle.geometry.specs.Float.{◌+₆₄◌, ◌*₆₄◌, smaller}
use Rattle.geometry.specs.Literals.{tenth, e_12, three_quarters, thousandth_more}
use Rattle.geometry.specs.Bounds.{spacing, cap}
use Rattle.mesh.specs.declared.element.Pair.{Pair}
use Rattle.mesh.specs.declared.element.Tet.{Tet}
use Rattle.mesh.specs.Words.{point_at}
use Rattle.mesh.specs.Sort.{sort, unique}
use Rattle.mesh.specs.Complex.{mem, sub, keep}
use Rattle.mesh.specs.Tests.{every, nodup, any}
use Rattle.mesh.specs.Element.{pair, all_edges, same_pair, tet, vertices_of, all_vertices, le_pair}
use Rattle.mesh.specs.Boundary.{boundary_number, boundary_of}
use Rattle.mesh.specs.Feature.{bits_of, link_ok}
use Rattle.mesh.specs.Feature as feature
use Rattle.mesh.specs.Manifold.{nonmanifold}
use Rattle.mesh.specs.Group.{group_of}
use Rattle.mesh.specs.Measure.{Measure, measure, is_bad, bad_count, lowest_of}
use Rattle.repair.specs.Mesh.{Mesh, Result, made, refused, has}

-- ---- the edges that a round takes

-- "by length then numbers"
abbrev pub le_edge : Measure → Pair → Pair → Bool
le_edge μ e f = lt (μ.length e) (μ.length f) || (not (lt (μ.length f) (μ.length e)) && le_pair e f)

-- "the edges, listed at its start, of bad elements shorter than 0.75 h", each once
unfoldable pub listed_edges : Measure → Float → List Tet → List Pair
listed_edges μ h ts =
    unique same_pair (sort (le_edge μ) (keep (λ e. lt (μ.length e) (three_quarters *₆₄ h)) (all_edges (keep (is_bad μ) ts))))

-- ---- the pairs of a direction

module _ (o : Options) (m : Mesh) where
  -- "the mask, with bits 32 to 37 for lying exactly on lo or hi"
  abbrev pub stratum_of : ℕ → ℕ
  stratum_of = feature.stratum_of m.masks m.parameters o.bounds

  abbrev pub cap_of : ℕ → ℕ
  cap_of v = cap (point_at m.parameters v) o.bounds

  -- "a's stratum is inside b's and has fewer than 3 bits"
  abbrev pub stratum_rule : ℕ → ℕ → Bool
  stratum_rule a b = sub (bits_of (stratum_of a)) (bits_of (stratum_of b)) && ltb (length (bits_of (stratum_of a))) 3

  -- the members of v's group that are not replaced, in number order
  abbrev pub active_group : List ℕ → ℕ → List ℕ
  active_group replaced v = keep (λ w. not (mem w replaced)) (group_of o m.parameters v)

  -- v with the first of ws that has its cap; no pair where none has
  unfoldable pub partner : ℕ → List ℕ → List Pair
  partner v [] = []
  partner v (w ∷ ws) = cond (eqb (cap_of v) (cap_of w)) (pair v w ∷ []) (partner v ws)

  -- each of vs with its partner among ws
  unfoldable pub partners : List ℕ → List ℕ → List Pair
  partners [] ws = []
  partners (v ∷ vs) ws = partner v ws ++ partners vs ws

  -- "every pair keeps the same stratum rule, shares a live element and passes `link_ok`"
  abbrev pub pair_ok : List Tet → Pair → Bool
  pair_ok ts e =
      stratum_rule e.a e.b && (any (λ t. has e.a t && has e.b t) ts && link_ok stratum_of e.a e.b ts)

-- "groups pair off by equal cap": equally many members, all paired, with different partners
abbrev pub pair_off : List ℕ → List ℕ → List Pair → Bool
pair_off vs ws es = eqb (length vs) (length ws) && (eqb (length es) (length vs) && nodup (map (λ e. e.b) es))

-- ---- replacing

-- the vertex that v goes into, v itself where it is in no pair
unfoldable pub image : List Pair → ℕ → ℕ
image [] v = v
image (e ∷ es) v = cond (eqb e.a v) e.b (image es v)

abbrev pub image_of : (ℕ → ℕ) → Tet → Tet
image_of f t = tet (f t.a) (f t.b) (f t.c) (f t.d)

-- the elements about the pairs
abbrev pub about : List Pair → List Tet → List Tet
about es ts = keep (λ t. any (λ e. has e.a t || has e.b t) es) ts

-- the elements once each pair's first vertex went into its second: those with fewer than four vertices left go
abbrev pub collapsed : List Pair → List Tet → List Tet
collapsed es ts = keep (λ t. nodup (vertices_of t)) (map (image_of (image es)) ts)

-- "Skipped unless every kept element has determinant above 0 and score + 1e-12 not below min(old lowest, 0.1), and either fewer are bad
-- or the lowest exceeds 1.001 × the old"
abbrev pub gains : Measure → List Tet → List Tet → Bool
gains μ old kept =
    every (λ t. μ.above t && not (lt (μ.score t +₆₄ e_12) (smaller (lowest_of μ old) tenth))) kept
    && (ltb (bad_count μ kept) (bad_count μ old) || lt (lowest_of μ old *₆₄ thousandth_more) (lowest_of μ kept))

-- ---- rounds

-- where a round stands: the elements, and the vertices replaced so far, the latest first
pub record State : Type 0 where
  pub elements : List Tet
  pub replaced : List ℕ

module _ (o : Options) (m : Mesh) (μ : Measure) where
  -- the pairs by which a's group goes into b's
  abbrev pub pairs_for : State → ℕ → ℕ → List Pair
  pairs_for s a b = partners o m (active_group o m s.replaced a) (active_group o m s.replaced b)

  -- "a goes into b only if .."
  unfoldable pub may_go : State → ℕ → ℕ → Bool
  may_go s a b =
      let es = pairs_for s a b in
      let old = about es s.elements in
      stratum_rule o m a b
      && (pair_off (active_group o m s.replaced a) (active_group o m s.replaced b) es
      && (every (pair_ok o m s.elements) es && gains μ old (collapsed es old)))

  -- a, with its group, goes into b
  abbrev pub go : State → ℕ → ℕ → State
  go s a b =
      let es = pairs_for s a b in
      record { elements = collapsed es s.elements; replaced = map (λ e. e.a) es ++ s.replaced }

  -- "For each edge both directions are tried, and the first that succeeds ends the trial", "skipping those with a vertex already replaced"
  unfoldable pub try_edge : State → Pair → State
  try_edge s e =
      cond (mem e.a s.replaced || mem e.b s.replaced) s
      (cond (may_go s e.a e.b) (go s e.a e.b)
      (cond (may_go s e.b e.a) (go s e.b e.a) s))

  unfoldable pub try_edges : State → List Pair → State
  try_edges s [] = s
  try_edges s (e ∷ es) = try_edges (try_edge s e) es

  -- one round
  abbrev pub round : State → State
  round s = try_edges s (listed_edges μ (spacing o) s.elements)

  -- "up to `optimize_passes` rounds, ended by one that collapses nothing"
  unfoldable pub rounds : ℕ → State → State
  rounds zero s = s
  rounds (suc n) s = cond (eqb (length (round s).replaced) (length s.replaced)) s (rounds n (round s))

-- ---- the end

-- the vertices in the order of their first use, each once
unfoldable pub first_uses : List ℕ → List ℕ
first_uses [] = []
first_uses (v ∷ vs) = v ∷ keep (λ w. not (eqb w v)) (first_uses vs)

-- the place of v in a list
unfoldable pub place_of : List ℕ → ℕ → ℕ
place_of [] v = 0
place_of (w ∷ ws) v = cond (eqb w v) 0 (suc (place_of ws v))

-- "renumbered by first use at the end of `improve`": the mesh of these elements alone, with its boundary
unfoldable pub renumbered : Mesh → List Tet → Mesh
renumbered m ts =
    let used = first_uses (all_vertices ts) in
    let new = map (image_of (place_of used)) ts in
    record {
      parameters = map (point_at m.parameters) used;
      points = map (point_at m.points) used;
      masks = map (λ v. get_or m.masks v 0) used;
      elements = new;
      surface = boundary_of new;
    }

-- "Boundary, at .. the end of `improve`" 16 and 17, then 22 "a nonmanifold boundary vertex"
unfoldable pub end_number : Mesh → ℕ
end_number m = cond (eqb (boundary_number m.elements) 0) (cond (nonmanifold m.surface) 22 0) (boundary_number m.elements)

-- "The count is that of vertices replaced over all rounds": the pass by a measure
unfoldable pub improve_by : Measure → Options → Mesh → Result
improve_by μ o m =
    let s = rounds o m μ o.passes (record { elements = m.elements; replaced = [] }) in
    let n = renumbered m s.elements in
    cond (eqb (end_number n) 0) (made (length s.replaced) n) (refused (end_number n))

-- by that of its points
unfoldable pub improve : Options → Mesh → Result
improve o m = improve_by (measure m.points) o m
