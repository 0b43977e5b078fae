-- What `flip` lists at its start: the corners of a shared face rise, are vertices, and have exactly two elements; the rows of the edges are
-- those of the listed edges, whose vertices rise. Assumes nothing.
use mathlib.Core.Path.{◌≡◌, refl, sym, ap, ◌∙◌}
use mathlib.Core.Bool.{Bool, true, not, ◌&&◌}
use mathlib.Core.List.{List, [], ◌∷◌, map}
use Prim.Native.Nat.{ℕ, min, max, ◌≤◌, ◌<◌}
use native.Mathlib.Omega.{arith}
use borrow.Author.Tests.{ne_eqb, eqb-true, eqb-false, not-true, ltb-true, le-leb, leb-true}
use lib.Dec.{eqb, ltb, leb}
use lib.ListN.{length, get_or}
use Rattle.geometry.specs.declared.point.Point.{Point}
use Rattle.mesh.specs.declared.element.Pair.{Pair}
use Rattle.mesh.specs.declared.element.Triple.{Triple}
use Rattle.mesh.specs.declared.element.Tet.{Tet}
use Rattle.mesh.specs.Sort.{sort, unique}
use Rattle.mesh.specs.Complex.{keep}
use Rattle.mesh.specs.Tests.{every}
use Rattle.mesh.specs.Element.{edge, all_edges, key_of, corners_of, same_pair, le_pair}
use Rattle.mesh.specs.Boundary.{same_triple, le_triple, all_faces}
use Rattle.mesh.specs.Intake.{well_numbered}
use Rattle.mesh.specs.inside.List as slots
use Rattle.mesh.specs.inside.Shared.{owners, has_two, bad_keys, shared_faces}
use Rattle.mesh.specs.Measure.{measure, is_bad}
use mathlib.Core.Logic.{inl, inr}
use Rattle.mesh.proofs.Laws.Complex.Sets.{and-fst, and-snd, mem-here, mem-there}
use Rattle.mesh.proofs.Laws.Parts.{side}
use Rattle.mesh.proofs.Laws.Link.Members.{kept-elim, every-elim, every-intro}
use Rattle.mesh.proofs.Laws.Link.Simplices.{every-mem, rising, rising-head, rising-tail}
use Rattle.mesh.proofs.Laws.Link.Keys.{Fours, key-mem}
use Rattle.mesh.proofs.Laws.List.Meaning.{pair_row, bad-edges}
use Rattle.mesh.proofs.Laws.Intake.Numbered.{below}
use Rattle.repair.specs.Flip.{listed_edges}
use Rattle.repair.specs.inside.flip.Tries.{FaceListed, FacesListed, EdgesListed, edge_row}
use Rattle.repair.proofs.Laws.Rounds.{every-weaker}
use Rattle.repair.proofs.Laws.Finish.Elements.{all-below}
use Rattle.repair.proofs.Laws.Finish.Surface.{faces-every}
use Rattle.repair.proofs.Laws.Improve.Intake.{numbered-element}
use Rattle.repair.proofs.Laws.Improve.Short.{Live, bad-same}
use Rattle.repair.proofs.Laws.Improve.Edges.{every-keep, every-unique, joins, edges-join}
use Rattle.repair.proofs.Laws.Flip.Listed.{keys-rise}
use Rattle.repair.proofs.Laws.Flip.Shared.{owners-numbers}
use Rattle.mesh.proofs.Laws.Boundary.Faces.{every_map}
use Rattle.mesh.proofs.Laws.Boundary.Same.{sort-every}

-- ---- well numbered elements

-- have four different vertices
pub numbered-fours : (nv : ℕ) (ts : List Tet) → every (well_numbered nv) ts ≡ true → Fours ts
numbered-fours nv ts h t m = (numbered-element nv t (every-elim (well_numbered nv) ts h m)).distinct

-- and none of them is gone
pub numbered-live : (nv : ℕ) (ts : List Tet) → nv ≤ 4096 → every (well_numbered nv) ts ≡ true → Live ts
numbered-live nv ts few h =
    every-weaker (well_numbered nv) (λ t. not (slots.gone t)) ts (λ t w. let b = (below nv t w).0 in ap not (ne_eqb t.a 4294967295 (λ e. omega arith))) h

-- ---- faces

-- the last corner of a key is a vertex where all corners are
last-below : (nv : ℕ) (f : Triple) → every (λ v. ltb v nv) (corners_of f) ≡ true → ltb (key_of f).c nv ≡ true
last-below nv f h =
    let k = key_of f in
    every-mem (λ v. ltb v nv) (corners_of f) h k.c
    (sym (key-mem f k.c) ∙ mem-there k.c k.a (k.b ∷ k.c ∷ []) (mem-there k.c k.b (k.c ∷ []) (mem-here k.c [])))

keys_below : (nv : ℕ) (ts : List Tet) → every (well_numbered nv) ts ≡ true → every (λ f. ltb f.c nv) (map key_of (all_faces ts)) ≡ true
keys_below nv ts h =
    every_map key_of (λ f. ltb f.c nv) (all_faces ts)
    ∙ every-weaker (λ f. every (λ v. ltb v nv) (corners_of f)) (λ f. ltb (key_of f).c nv) (all_faces ts) (last-below nv) (faces-every (λ v. ltb v nv) ts (all-below nv ts h))

two-of : (l : List ℕ) → length l ≡ 2 → l ≡ get_or l 0 0 ∷ get_or l 1 0 ∷ []
two-of [] h = absurd (omega arith)
two-of (x ∷ []) h = absurd (omega arith)
two-of (x ∷ y ∷ []) h = refl
two-of (x ∷ y ∷ z ∷ l) h = absurd (omega arith)

module _ (nv : ℕ) (ts : List Tet) (well : every (well_numbered nv) ts ≡ true) where
  -- one face
  face-listed : (f : Triple) → rising (corners_of f) ≡ true → ltb f.c nv ≡ true → has_two ts f ≡ true → FaceListed nv ts f (get_or (owners ts f) 0 0) (get_or (owners ts f) 1 0)
  face-listed f r l h = record {
    first = rising-head f.a (f.b ∷ f.c ∷ []) r f.b (mem-here f.b (f.c ∷ []));
    second = rising-head f.b (f.c ∷ []) (rising-tail f.a (f.b ∷ f.c ∷ []) r) f.c (mem-here f.c []);
    third = ltb-true f.c nv l;
    owners = sym (owners-numbers ts (numbered-fours nv ts well) f r) ∙ two-of (owners ts f) (eqb-true (length (owners ts f)) 2 h);
  }

  all_listed : (fs : List Triple) → every (λ f. rising (corners_of f)) fs ≡ true → every (λ f. ltb f.c nv) fs ≡ true → every (has_two ts) fs ≡ true → FacesListed nv ts fs
  all_listed [] r l h = tt
  all_listed (f ∷ fs) r l h = (
    face-listed f (and-fst (rising (corners_of f)) (every (λ g. rising (corners_of g)) fs) r) (and-fst (ltb f.c nv) (every (λ g. ltb g.c nv) fs) l)
        (and-fst (has_two ts f) (every (has_two ts) fs) h),
    all_listed fs (and-snd (rising (corners_of f)) (every (λ g. rising (corners_of g)) fs) r) (and-snd (ltb f.c nv) (every (λ g. ltb g.c nv) fs) l)
        (and-snd (has_two ts f) (every (has_two ts) fs) h),
  )

  module _ (ps : List Point) where
    abbrev bads : List Tet
    bads = keep (slots.bad_in ps) ts

    well-bads : every (well_numbered nv) bads ≡ true
    well-bads = every-keep (well_numbered nv) (slots.bad_in ps) ts well

    -- a shared face passes what all keys of bad elements pass
    shared-every : (p : Triple → Bool) → every p (map key_of (all_faces bads)) ≡ true → every p (shared_faces ps ts) ≡ true
    unfolding shared_faces bad_keys
    shared-every p h = every-keep p (has_two ts) (bad_keys ps ts) (every-unique p same_triple (sort le_triple (map key_of (all_faces bads))) (sort-every p le_triple (map key_of (all_faces bads)) h))

    shared-two : every (has_two ts) (shared_faces ps ts) ≡ true
    unfolding shared_faces
    shared-two = every-intro (has_two ts) (keep (has_two ts) (bad_keys ps ts)) (λ f m. (kept-elim (has_two ts) (bad_keys ps ts) m).1)

    -- "shared faces in key order"
    pub faces-listed : FacesListed nv ts (shared_faces ps ts)
    faces-listed =
        all_listed (shared_faces ps ts) (shared-every (λ f. rising (corners_of f)) (keys-rise bads (numbered-fours nv bads well-bads)))
        (shared-every (λ f. ltb f.c nv) (keys_below nv bads well-bads)) shared-two

-- ---- edges

-- "edges in order": the rows are those of the listed edges
pub edges-rows : (ps : List Point) (ts : List Tet) → Live ts → slots.bad_edges ps ts ≡ map edge_row (listed_edges (measure ps) ts)
unfolding listed_edges
edges-rows ps ts live =
    bad-edges ps ts
    ∙ ap (λ (bads : List Tet). map pair_row (unique same_pair (sort le_pair (all_edges bads)))) (bad-same ps ts live)

edge-rises : (u v : ℕ) → leb (edge u v).a (edge u v).b ≡ true
edge-rises u v = le-leb (min u v) (max u v) (omega arith)

edges-rise : (ts : List Tet) → every (λ e. leb e.a e.b) (all_edges ts) ≡ true
unfolding all_edges
edges-rise [] = refl
edges-rise (t ∷ ts) =
    rw (edge-rises t.a t.b, edge-rises t.a t.c, edge-rises t.a t.d, edge-rises t.b t.c, edge-rises t.b t.d, edge-rises t.c t.d) (edges-rise ts)

all-rise : (nv : ℕ) (es : List Pair) → every (joins nv) es ≡ true → every (λ e. leb e.a e.b) es ≡ true → EdgesListed nv es
all-rise nv [] j h = tt
all-rise nv (e ∷ es) j h =
    let k = and-fst (joins nv e) (every (joins nv) es) j in
    let k₁ = and-snd (ltb e.a nv) (ltb e.b nv && not (eqb e.a e.b)) k in
    let b = ltb-true e.b nv (and-fst (ltb e.b nv) (not (eqb e.a e.b)) k₁) in
    let d = eqb-false e.a e.b (not-true (eqb e.a e.b) (and-snd (ltb e.b nv) (not (eqb e.a e.b)) k₁)) in
    let l = leb-true e.a e.b (and-fst (leb e.a e.b) (every (λ g. leb g.a g.b) es) h) in
    ((less e.a e.b l d, b), all-rise nv es (and-snd (joins nv e) (every (joins nv) es) j) (and-snd (leb e.a e.b) (every (λ g. leb g.a g.b) es) h))
  where
    less : (m n : ℕ) → m ≤ n → (m ≡ n → ⊥) → m < n
    less m n l d = elim (side m n) [ inl h ↦ h | inr h ↦ absurd (d (omega arith)) ]

pub edges-listed : (nv : ℕ) (ps : List Point) (ts : List Tet) → every (well_numbered nv) ts ≡ true → EdgesListed nv (listed_edges (measure ps) ts)
unfolding listed_edges
edges-listed nv ps ts h =
    let bads = keep (is_bad (measure ps)) ts in
    let through : (p : Pair → Bool) → every p (all_edges bads) ≡ true → every p (unique same_pair (sort le_pair (all_edges bads))) ≡ true =
    λ p k. every-unique p same_pair (sort le_pair (all_edges bads)) (sort-every p le_pair (all_edges bads) k) in
    all-rise nv (unique same_pair (sort le_pair (all_edges bads)))
    (through (joins nv) (edges-join nv bads (λ t m. numbered-element nv t (every-elim (well_numbered nv) ts h (kept-elim (is_bad (measure ps)) ts m).0))))
    (through (λ e. leb e.a e.b) (edges-rise bads))
