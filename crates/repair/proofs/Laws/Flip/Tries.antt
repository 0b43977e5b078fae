-- The loops of `flip` over the listed faces and edges: the words of a row, and where a loop stands after i trials. Assumes nothing.
use mathlib.Core.Path.{◌≡◌, refl, sym, ap, ap₂, subst, ◌∙◌}
use mathlib.Core.List.{List, [], ◌∷◌, map}
use mathlib.Core.Option.{Option}
use Prim.Native.Nat.{ℕ, zero, suc, ◌+◌, ◌*◌, ◌≤◌, ◌<◌}
use native.Mathlib.Omega.{arith}
use lib.ListN.{length, take, drop, get_or, get_or-map}
use lib.Seq.{drop-cons, drop-length, get_or-take, get_or-drop}
use Rattle.geometry.specs.declared.point.Point.{Point}
use Rattle.mesh.specs.declared.element.Pair.{Pair}
use Rattle.mesh.specs.declared.element.Triple.{Triple}
use Rattle.mesh.specs.declared.element.Tet.{Tet}
use Rattle.mesh.specs.declared.star.Index.{Index}
use Rattle.mesh.specs.Words.{word_at}
use Rattle.mesh.specs.inside.Rows.{rows}
use Rattle.mesh.specs.Element.{pair, triple}
use Rattle.mesh.specs.inside.Shared.{owners, shared_row}
use Rattle.mesh.specs.Measure.{measure}
use Rattle.mesh.proofs.Laws.Parts.{get_d_any}
use Rattle.mesh.proofs.Laws.Rows.{length-rows, rows_at}
use Rattle.mesh.proofs.Laws.Boundary.Same.{length-map}
use Rattle.repair.specs.declared.flip.counts.Tried.{Tried}
use Rattle.repair.specs.Flip.{State, try_face, try_faces, try_edge, try_edges}
use Rattle.repair.specs.inside.flip.Layout.{FlipRoom, FacesBound, EdgesBound, faces_at, edges_at, triple_at}
use Rattle.repair.specs.inside.flip.Tries.{Holds, Counts, Went, Start, FaceListed, FacesListed, EdgeListed, EdgesListed, edge_row, face_rows_at, edge_rows_at}
use Rattle.repair.proofs.Laws.Flip.Layout.{kept_trans}

-- ---- rows

-- the row i of those of a list
module _ {A : Type 0} (g : A → List ℕ) (w count p i : ℕ) (s : List ℕ) (fs : List A) (z : A) (e : rows w count (drop p s) ≡ map g fs) where
  pub rows-many : length fs ≡ count
  rows-many = sym (length-map g fs) ∙ ap length (sym e) ∙ length-rows w count (drop p s)

  row_is : i < count → take w (drop (i * w) (drop p s)) ≡ g (get_or fs i z)
  row_is h =
      let l : i < length (map g fs) = (let a = length-map g fs in let b = rows-many in omega arith) in
      sym (rows_at w count (drop p s) i h) ∙ ap (λ (r : List (List ℕ)). get_or r i []) e ∙ get_d_any (map g fs) i [] (g z) l ∙ get_or-map g fs i z

  pub row_word : i < count → (k q : ℕ) → k < w → q ≡ p + (i * w + k) → word_at s q ≡ word_at (g (get_or fs i z)) k
  row_word h k q l c =
      ap (word_at s) c ∙ sym (get_or-take w (drop (i * w) (drop p s)) k 0 l ∙ get_or-drop (i * w) (drop p s) k 0 ∙ get_or-drop p s (i * w + k) 0)
      ∙ ap (λ (r : List ℕ). word_at r k) (row_is h)

-- ---- a loop over what is listed

-- the state after the first i of fs, for which the work slice stands; `run` tries all of a list
pub record Reached {A : Type 0} (run : State → List A → State) (good : State → Type 0) (bound : List (Option Tet) → Type 0) (x : Index) (n : ℕ) (w₀ : List ℕ)
    (fs : List A) (s : State) (w : List ℕ) (t : Tried) (i : ℕ) : Type 0 where
  pub state : State
  pub went : Went x n bound w₀ w t state
  pub start : good state
  pub rest : run state (drop i fs) ≡ run s fs

module _ {A : Type 0} {run : State → List A → State} {good : State → Type 0} {bound : List (Option Tet) → Type 0} {x : Index} {n : ℕ} {w₀ : List ℕ}
    {fs : List A} {s : State} {w : List ℕ} {t : Tried} {i : ℕ} (q : Reached run good bound x n w₀ fs s w t i) where
  pub reached-turn : (step : State → A → State) → ((u : State) (a : A) (l : List A) → run u (a ∷ l) ≡ run (step u a) l) → (z : A) → i < length fs
      → (v : List ℕ) (r : Tried) → Went x n bound w v r (step q.state (get_or fs i z)) × good (step q.state (get_or fs i z)) → Reached run good bound x n w₀ fs s v r (i + 1)
  reached-turn step next z h v r d =
      let e : suc i ≡ i + 1 = omega arith in
      record {
        state = step q.state (get_or fs i z);
        went = record { holds = d.0.holds; kept = kept_trans q.went.kept d.0.kept; room = d.0.room };
        start = d.1;
        rest = ap (run (step q.state (get_or fs i z))) (ap (λ (k : ℕ). drop k fs) (sym e)) ∙ sym (next q.state (get_or fs i z) (drop (suc i) fs)) ∙ sym (ap (run q.state) (drop-cons fs i z h)) ∙ q.rest;
      }

  pub reached-end : ((u : State) → run u [] ≡ u) → i ≡ length fs → Went x n bound w₀ w t (run s fs)
  reached-end done e =
      subst (Went x n bound w₀ w t) (sym (done q.state) ∙ sym (ap (run q.state) (ap (λ (k : ℕ). drop k fs) e ∙ drop-length fs)) ∙ q.rest) q.went

-- ---- faces

-- the owners of a listed face
faces-at : (nv : ℕ) (ts : List Tet) (z : Triple) (fs : List Triple) (i : ℕ) → i < length fs → FacesListed nv ts fs
    → FaceListed nv ts (get_or fs i z) (get_or (owners ts (get_or fs i z)) 0 0) (get_or (owners ts (get_or fs i z)) 1 0)
faces-at nv ts z [] i h l = absurd (omega arith)
faces-at nv ts z (f ∷ fs) zero h l = l.0
faces-at nv ts z (f ∷ fs) (suc i) h l = faces-at nv ts z fs i (omega arith) l.1

face-same : (nv : ℕ) (ts : List Tet) (f g : Triple) (a b c d : ℕ) → f ≡ g → a ≡ c → b ≡ d → FaceListed nv ts g c d → FaceListed nv ts f a b
face-same nv ts f g a b c d p q r l =
    subst (λ (h : Triple). FaceListed nv ts h a b) (sym p) (subst (λ (k : ℕ). FaceListed nv ts g k b) (sym q) (subst (λ (k : ℕ). FaceListed nv ts g c k) (sym r) l))

-- what the contract of the loop assumes of the elements ts at the start, the faces fs and the state s
pub record Faces (x : Index) (n count : ℕ) (w₀ : List ℕ) (ts : List Tet) (fs : List Triple) (s : State) : Type 0 where
  pub holds : Holds x n (record { slots = n; flips = 0 }) w₀ s
  pub many : length ts ≡ n
  pub rows : rows 5 count (drop (face_rows_at x n) w₀) ≡ map (shared_row ts) fs
  pub listed : FacesListed x.vertices ts fs
  pub start : Start ts s
  pub bound : FacesBound n s.slots

-- i faces are tried
pub record AtFace (x : Index) (n count : ℕ) (ps : List Point) (w₀ w : List ℕ) (t : Tried) (i : ℕ) : Type 0 where
  pub most : i ≤ count
  pub long : length w ≡ length w₀
  pub slots : t.slots ≤ 131072
  pub flips : t.flips ≤ i
  pub reached : (ts : List Tet) (fs : List Triple) (s : State) → Faces x n count w₀ ts fs s
      → Reached (try_faces (measure ps) ts) (Start ts) (FacesBound n) x n w₀ fs s w t i

module _ {x : Index} {n count : ℕ} {ps : List Point} {w₀ : List ℕ} (room : FlipRoom x n (length w₀)) (few : count ≤ 4 * n) where
  pub faces-start : AtFace x n count ps w₀ w₀ (record { slots = n; flips = 0 }) 0
  faces-start = record {
    most = omega arith;
    long = refl;
    slots = (let a = room.elements in omega arith);
    flips = omega arith;
    reached = λ ts fs s q. record {
      state = s;
      went = record { holds = q.holds; kept = record { long = refl; listed = λ j a b. refl }; room = q.bound };
      start = q.start;
      rest = refl;
    };
  }

  module _ {w : List ℕ} {t : Tried} {i : ℕ} (q : AtFace x n count ps w₀ w t i) where
    pub faces-end : count ≤ i → (ts : List Tet) (fs : List Triple) (s : State) → Faces x n count w₀ ts fs s
        → Went x n (FacesBound n) w₀ w t (try_faces (measure ps) ts s fs)
    unfolding try_faces
    faces-end h ts fs s y =
        let a = rows-many (shared_row ts) 5 count (face_rows_at x n) i w₀ fs (triple 0 0 0) y.rows in
        let b = q.most in
        reached-end (q.reached ts fs s y) (λ u. refl) (omega arith)

    module _ (h : i < count) (from : ℕ) (place : from ≡ faces_at x) where
      module _ (f : Triple) (a b : ℕ) (ef : f ≡ triple_at w (from + 4 * n + 5 * i)) (ea : a ≡ word_at w (from + 4 * n + 5 * i + 3)) (eb : b ≡ word_at w (from + 4 * n + 5 * i + 4)) where
        module _ (ts : List Tet) (fs : List Triple) (s : State) (y : Faces x n count w₀ ts fs s) where
          abbrev here : Triple
          here = get_or fs i (triple 0 0 0)

          word : (k j : ℕ) → k < 5 → j ≡ face_rows_at x n + 5 * i + k → word_at w j ≡ word_at (shared_row ts here) k
          word k j l e =
              let c = room.area in
              (q.reached ts fs s y).went.kept.listed j (omega arith) (omega arith)
              ∙ row_word (shared_row ts) 5 count (face_rows_at x n) i w₀ fs (triple 0 0 0) y.rows h k j l (omega arith)

          face-is : f ≡ here
          face-is = ef ∙ three (word 0 _ (omega arith) (omega arith)) (word 1 _ (omega arith) (omega arith)) (word 2 _ (omega arith) (omega arith))
            where
              three : {u v r u' v' r' : ℕ} → u ≡ u' → v ≡ v' → r ≡ r' → triple u v r ≡ triple u' v' r'
              three {u} {v} {r} {u'} {v'} {r'} c d e = rw (c, d, e) refl

          listed_here : FaceListed x.vertices ts f a b
          listed_here =
              let c = rows-many (shared_row ts) 5 count (face_rows_at x n) i w₀ fs (triple 0 0 0) y.rows in
              face-same x.vertices ts f here a b _ _ face-is (ea ∙ word 3 _ (omega arith) (omega arith)) (eb ∙ word 4 _ (omega arith) (omega arith))
              (faces-at x.vertices ts (triple 0 0 0) fs i (omega arith) y.listed)

        pub faces-turn : (v : List ℕ) (r : Tried) → length v ≡ length w → Counts t r
            → ((n : ℕ) (ts : List Tet) (s : State) → Holds x n t w s → length ts ≡ n → FaceListed x.vertices ts f a b → Start ts s → FacesBound n s.slots
            → Went x n (FacesBound n) w v r (try_face (measure ps) ts s f) × Start ts (try_face (measure ps) ts s f))
            → AtFace x n count ps w₀ v r (i + 1)
        unfolding try_faces
        faces-turn v r l c d = record {
          most = omega arith;
          long = l ∙ q.long;
          slots = c.slots;
          flips = (let e = c.flips in let g = q.flips in omega arith);
          reached = λ ts fs s y.
              let m = rows-many (shared_row ts) 5 count (face_rows_at x n) i w₀ fs (triple 0 0 0) y.rows in
              let z = q.reached ts fs s y in
              reached-turn z (try_face (measure ps) ts) (λ u g k. refl) (triple 0 0 0) (omega arith) v r
              (subst (λ (g : Triple). Went x n (FacesBound n) w v r (try_face (measure ps) ts z.state g) × Start ts (try_face (measure ps) ts z.state g)) (face-is ts fs s y)
              (d n ts z.state z.went.holds y.many (listed_here ts fs s y) z.start z.went.room));
        }

-- ---- edges

edges-at : (nv : ℕ) (z : Pair) (es : List Pair) (i : ℕ) → i < length es → EdgesListed nv es → EdgeListed nv (get_or es i z)
edges-at nv z [] i h l = absurd (omega arith)
edges-at nv z (e ∷ es) zero h l = l.0
edges-at nv z (e ∷ es) (suc i) h l = edges-at nv z es i (omega arith) l.1

-- what the contract of the loop assumes of the edges es and the state s
pub record Edges (x : Index) (n bad count : ℕ) (t₀ : Tried) (w₀ : List ℕ) (es : List Pair) (s : State) : Type 0 where
  pub holds : Holds x n t₀ w₀ s
  pub rows : rows 2 count (drop (edge_rows_at x n bad) w₀) ≡ map edge_row es
  pub listed : EdgesListed x.vertices es
  pub bound : EdgesBound n s.slots

-- i edges are tried
pub record AtEdge (x : Index) (n bad count : ℕ) (t₀ : Tried) (ps : List Point) (w₀ w : List ℕ) (t : Tried) (i : ℕ) : Type 0 where
  pub most : i ≤ count
  pub long : length w ≡ length w₀
  pub slots : t.slots ≤ 131072
  pub flips : t.flips ≤ 4 * n + i
  pub reached : (es : List Pair) (s : State) → Edges x n bad count t₀ w₀ es s
      → Reached (try_edges (measure ps)) (λ (u : State). Unit {0}) (EdgesBound n) x n w₀ es s w t i

module _ {x : Index} {n bad count : ℕ} {t₀ : Tried} {ps : List Point} {w₀ : List ℕ} (room : FlipRoom x n (length w₀)) (few_bad : bad ≤ n) (few : count ≤ 6 * n) where
  pub edges-start : t₀.slots ≤ 131072 → t₀.flips ≤ 4 * n → AtEdge x n bad count t₀ ps w₀ w₀ t₀ 0
  edges-start a b = record {
    most = omega arith;
    long = refl;
    slots = a;
    flips = omega arith;
    reached = λ es s q. record {
      state = s;
      went = record { holds = q.holds; kept = record { long = refl; listed = λ j a b. refl }; room = q.bound };
      start = tt;
      rest = refl;
    };
  }

  module _ {w : List ℕ} {t : Tried} {i : ℕ} (q : AtEdge x n bad count t₀ ps w₀ w t i) where
    pub edges-end : count ≤ i → (es : List Pair) (s : State) → Edges x n bad count t₀ w₀ es s
        → Went x n (EdgesBound n) w₀ w t (try_edges (measure ps) s es)
    unfolding try_edges
    edges-end h es s y =
        let a = rows-many edge_row 2 count (edge_rows_at x n bad) i w₀ es (pair 0 0) y.rows in
        let b = q.most in
        reached-end (q.reached es s y) (λ u. refl) (omega arith)

    module _ (h : i < count) (from : ℕ) (place : from ≡ edges_at x n) (e : Pair) (ea : e.a ≡ word_at w (from + 4 * n + 4 * bad + 2 * i)) (eb : e.b ≡ word_at w (from + 4 * n + 4 * bad + 2 * i + 1)) where
      module _ (es : List Pair) (s : State) (y : Edges x n bad count t₀ w₀ es s) where
        end-word : (k j : ℕ) → k < 2 → j ≡ edge_rows_at x n bad + 2 * i + k → word_at w j ≡ word_at (edge_row (get_or es i (pair 0 0))) k
        end-word k j l c =
            let d = room.area in
            (q.reached es s y).went.kept.listed j (omega arith) (omega arith)
            ∙ row_word edge_row 2 count (edge_rows_at x n bad) i w₀ es (pair 0 0) y.rows h k j l (omega arith)

        edge-is : e ≡ get_or es i (pair 0 0)
        edge-is = ap₂ pair (ea ∙ end-word 0 _ (omega arith) (omega arith)) (eb ∙ end-word 1 _ (omega arith) (omega arith))

      pub edges-turn : (v : List ℕ) (r : Tried) → length v ≡ length w → Counts t r
          → ((n : ℕ) (s : State) → Holds x n t w s → EdgeListed x.vertices e → EdgesBound n s.slots → Went x n (EdgesBound n) w v r (try_edge (measure ps) s e))
          → AtEdge x n bad count t₀ ps w₀ v r (i + 1)
      unfolding try_edges
      edges-turn v r l c d = record {
        most = omega arith;
        long = l ∙ q.long;
        slots = c.slots;
        flips = (let a = c.flips in let b = q.flips in omega arith);
        reached = λ es s y.
            let m = rows-many edge_row 2 count (edge_rows_at x n bad) i w₀ es (pair 0 0) y.rows in
            let z = q.reached es s y in
            reached-turn z (try_edge (measure ps)) (λ u g k. refl) (pair 0 0) (omega arith) v r (
              subst (λ (g : Pair). Went x n (EdgesBound n) w v r (try_edge (measure ps) z.state g)) (edge-is es s y)
                  (d n z.state z.went.holds (subst (EdgeListed x.vertices) (sym (edge-is es s y)) (edges-at x.vertices (pair 0 0) es i (omega arith) y.listed)) z.went.room),
              tt,
            );
      }
