-- `flip` as a whole: points, parameters and masks are as before, the alternating count is the same, every triangle lies in one element or in
-- two with opposite parity, every determinant is above 0, and no score is below the lowest one before. Assumes nothing.
use mathlib.Core.Path.{◌≡◌, refl, sym, ap, subst, subst₂, ◌∙◌}
use mathlib.Core.Bool.{Bool, true, false, not, cond}
use mathlib.Core.List.{List, [], ◌∷◌, map, Memᴰ}
use mathlib.Core.Option.{some}
use Prim.Native.Nat.{ℕ, ◌+◌, ◌*◌, ◌^◌, ◌≤◌}
use native.Mathlib.Omega.{arith}
use borrow.Author.Tests.{eqb-true, eqb-false, not-true}
use lib.Dec.{eqb}
use lib.Ieee.{lt}
use lib.ListN.{length, get_or}
use Rattle.geometry.specs.Float.{zero64, one64, smaller}
use Rattle.geometry.specs.Literals.{tenth}
use Rattle.geometry.specs.Units.{units_of}
use Rattle.mesh.specs.declared.element.Pair.{Pair}
use Rattle.mesh.specs.declared.element.Triple.{Triple}
use Rattle.mesh.specs.declared.element.Tet.{Tet}
use Rattle.mesh.specs.Complex.{alternating}
use Rattle.mesh.specs.inside.Complex.{Proper, SameCount}
use Rattle.mesh.specs.Tests.{every}
use Rattle.mesh.specs.Element.{tet, vertices_of, corners_of, key_of}
use Rattle.mesh.specs.Boundary.{all_faces, with_key, boundary_number, boundary_of, OneOrTwo}
use Rattle.mesh.specs.Measure.{Measure, measure, determinant_of, score_of, lowest_of}
use Rattle.mesh.proofs.Laws.Complex.Sets.{and-fst, and-snd}
use Rattle.mesh.proofs.Laws.Complex.Steps.{same-alternating}
use Rattle.mesh.proofs.Laws.Link.Simplices.{rising, rising-nodup}
use Rattle.mesh.proofs.Laws.Link.Keys.{proper-fours}
use Rattle.mesh.proofs.Laws.Link.Closed.{AtMostTwo, boundary-two}
use Rattle.repair.specs.Mesh.{Mesh, made, refused}
use Rattle.repair.specs.Wholeness.{Exact}
use Rattle.repair.specs.Flip.{State, live, listed_faces, listed_edges, try_face, try_faces, try_edge, try_edges, flips, same_triples, sorted_keys, end_number, flip_by, flip}
use Rattle.repair.proofs.Laws.Smooth.Scores.{AllNear, score-exact, lowest-exact, lowest-one, lowest-under, lowest-over, no-loss}
use Rattle.mesh.proofs.Laws.Boundary.Meaning.{fine}
use Rattle.repair.proofs.Laws.Flip.Slots.{Aged, aged-start, live-some}
use Rattle.repair.proofs.Laws.Flip.Replace.{Held, Chain}
use Rattle.repair.proofs.Laws.Flip.Listed.{faces-rise, ends-differ}
use Rattle.repair.proofs.Laws.Flip.Face.{face-held, face-aged}
use Rattle.repair.proofs.Laws.Flip.Edge.{edge-held}
use Rattle.repair.proofs.Laws.Results.{mesh-of, count_of}

-- ---- all turns

module _ (μ : Measure) (exact : (t : Tet) → Exact (μ.score t)) (n F : ℕ) (least : F ≤ units_of one64) (es₀ : List (List ℕ)) where
  faces-held : (ts : List Tet) (s : State) (fs : List Triple) → every (λ f. rising (corners_of f)) fs ≡ true → Aged ts s.slots → Held μ n F es₀ s
      → Held μ n F es₀ (try_faces μ ts s fs)
  unfolding try_faces
  faces-held ts s [] h a k = k
  faces-held ts s (f ∷ fs) h a k =
      faces-held ts (try_face μ ts s f) fs (and-snd (rising (corners_of f)) _ h) (face-aged μ exact n F least es₀ ts s f a)
      (face-held μ exact n F least es₀ ts s f (rising-nodup (corners_of f) (and-fst (rising (corners_of f)) _ h)) a k)

  edges-held : (s : State) (es : List Pair) → every (λ e. not (eqb e.a e.b)) es ≡ true → Held μ n F es₀ s → Held μ n F es₀ (try_edges μ s es)
  unfolding try_edges
  edges-held s [] h k = k
  edges-held s (e ∷ es) h k =
      edges-held (try_edge μ s e) es (and-snd (not (eqb e.a e.b)) _ h)
      (edge-held μ exact n F least es₀ s e (eqb-false e.a e.b (not-true (eqb e.a e.b) (and-fst (not (eqb e.a e.b)) _ h))) k)

-- what holds of the elements at the start holds at the end
pub flips-held : (μ : Measure) → ((t : Tet) → Exact (μ.score t)) → (n F : ℕ) → F ≤ units_of one64 → (ts : List Tet) → Proper n (map vertices_of ts) → AtMostTwo (map vertices_of ts)
    → ((t : Tet) → Memᴰ t ts → μ.above t ≡ true) → ((t : Tet) → Memᴰ t ts → F ≤ units_of (μ.score t)) → Held μ n F (map vertices_of ts) (flips μ ts)
unfolding flips
flips-held μ exact n F least ts P thin upright floor =
    edges-held μ exact n F least (map vertices_of ts) (try_faces μ ts start (listed_faces μ ts)) (listed_edges μ ts) (ends-differ μ ts (proper-fours n ts P))
    (faces-held μ exact n F least (map vertices_of ts) ts start (listed_faces μ ts) (faces-rise μ ts (proper-fours n ts P)) (aged-start ts) held)
  where
    start : State
    start = record { slots = map some ts; flips = 0 }

    held : Held μ n F (map vertices_of ts) start
    held = record {
      proper = subst (λ l. Proper n (map vertices_of l)) (sym (live-some ts)) P;
      count = subst (λ l. SameCount n (map vertices_of ts) n (map vertices_of l)) (sym (live-some ts)) refl;
      thin = subst (λ l. AtMostTwo (map vertices_of l)) (sym (live-some ts)) thin;
      made = Chain.start refl (ap (map vertices_of) (live-some ts));
      upright = λ t m. upright t (subst (Memᴰ t) (live-some ts) m);
      floor = λ t m. floor t (subst (Memᴰ t) (live-some ts) m);
    }

-- ---- the end

-- no number at the end: no bad key
pub end-fine : (given : List Triple) (ts : List Tet) → end_number given ts ≡ 0 → boundary_number ts ≡ 0
unfolding end_number
end-fine given ts h = go (eqb (boundary_number ts) 0) refl h
  where
    go : (b : Bool) → eqb (boundary_number ts) 0 ≡ b → cond b (cond (same_triples (sorted_keys (boundary_of ts)) (sorted_keys given)) 0 23) (boundary_number ts) ≡ 0 → boundary_number ts ≡ 0
    go true e k = eqb-true (boundary_number ts) 0 e
    go false e k = k

-- the mesh m' that `flip` makes of m, and its count
pub record Flipped (m m' : Mesh) (count : ℕ) : Type 0 where
  -- "The count is that of .. flips made"
  pub made : Chain (map vertices_of m.elements) count (map vertices_of m'.elements)
  -- what it leaves as it is
  pub points : m'.points ≡ m.points
  pub parameters : m'.parameters ≡ m.parameters
  pub masks : m'.masks ≡ m.masks
  -- the elements have four different vertices each, and no two have the same
  pub proper : Proper (length m'.points) (map vertices_of m'.elements)
  pub alternates : alternating (length m'.points) (map vertices_of m'.elements) ≡ alternating (length m.points) (map vertices_of m.elements)
  -- "every triangle lies in one element, or in two with opposite parity", and the surface is the boundary
  pub triangles : (f : Triple) → Memᴰ f (all_faces m'.elements) → OneOrTwo (with_key (key_of f) (all_faces m'.elements))
  pub surface : m'.surface ≡ boundary_of m'.elements
  -- "every determinant is above 0"
  pub determinants : (t : Tet) → Memᴰ t m'.elements → lt zero64 (determinant_of m'.points t) ≡ true
  -- no score is below the lowest one before
  pub scores : (t : Tet) → Memᴰ t m'.elements → units_of (lowest_of (measure m.points) m.elements) ≤ units_of (score_of m'.points t)

-- what intake says of a mesh is enough
pub start-held : (m : Mesh) → AllNear m.points → Proper (length m.points) (map vertices_of m.elements) → boundary_number m.elements ≡ 0
    → ((t : Tet) → Memᴰ t m.elements → lt zero64 (determinant_of m.points t) ≡ true)
    → Held (measure m.points) (length m.points) (units_of (lowest_of (measure m.points) m.elements)) (map vertices_of m.elements) (flips (measure m.points) m.elements)
start-held m near P whole upright =
    let exact = score-exact m.points near in
    flips-held (measure m.points) exact (length m.points) (units_of (lowest_of (measure m.points) m.elements)) (lowest-one (score_of m.points) exact m.elements) m.elements P
    (boundary-two m.elements (proper-fours (length m.points) m.elements P) whole) upright (λ t i. lowest-under (score_of m.points) exact m.elements i)

pub flip-keeps : (m : Mesh) → AllNear m.points → Proper (length m.points) (map vertices_of m.elements) → boundary_number m.elements ≡ 0
    → ((t : Tet) → Memᴰ t m.elements → lt zero64 (determinant_of m.points t) ≡ true) → (count : ℕ) (m' : Mesh) → flip m ≡ made count m' → Flipped m m' count
unfolding flip flip_by
flip-keeps m near P whole upright count m' h = go (eqb (end_number m.surface ts) 0) refl h
  where
    μ : Measure
    μ = measure m.points

    F : ℕ
    F = units_of (lowest_of (measure m.points) m.elements)

    ts : List Tet
    ts = live (flips (measure m.points) m.elements).slots

    held : Held μ (length m.points) F (map vertices_of m.elements) (flips μ m.elements)
    held = start-held m near P whole upright

    never : (n : ℕ) → refused n ≡ made count m' → ⊥
    never n z = let y : ◌≡◌ {A = ℕ} 0 1 = cc in omega arith

    go : (b : Bool) → eqb (end_number m.surface ts) 0 ≡ b
        → cond b (made (flips μ m.elements).flips (record { parameters = m.parameters; points = m.points; masks = m.masks; elements = ts; surface = boundary_of ts })) (refused (end_number m.surface ts)) ≡ made count m'
        → Flipped m m' count
    go false e z = absurd (never (end_number m.surface ts) z)
    go true e z = subst₂ (Flipped m) (mesh-of z) (count_of z) (record {
      made = held.made;
      points = refl;
      parameters = refl;
      masks = refl;
      proper = held.proper;
      alternates = sym (same-alternating (length m.points) (map vertices_of m.elements) (length m.points) (map vertices_of ts) held.count);
      triangles = fine ts (end-fine m.surface ts (eqb-true (end_number m.surface ts) 0 e));
      surface = refl;
      determinants = held.upright;
      scores = held.floor;
    })

-- so the lowest score never falls
pub flip-lowest : (m m' : Mesh) (count : ℕ) → AllNear m.points → Flipped m m' count
    → units_of (lowest_of (measure m.points) m.elements) ≤ units_of (lowest_of (measure m'.points) m'.elements)
flip-lowest m m' count near f =
    lowest-over (score_of m'.points) (score-exact m'.points (subst AllNear (sym f.points) near)) (units_of (lowest_of (measure m.points) m.elements))
    (lowest-one (score_of m.points) (score-exact m.points near) m.elements) m'.elements f.scores

-- in the terms of demand 3: "every score is at least the smaller of 0.1 and the lowest score at the start", nothing taken off
pub flip-scores : (m m' : Mesh) (count : ℕ) → AllNear m.points → Flipped m m' count → (t : Tet) → Memᴰ t m'.elements
    → Exact (score_of m'.points t)
    × (10 ^ 12 * units_of (smaller tenth (lowest_of (measure m.points) m.elements)) ≤ 10 ^ 12 * units_of (score_of m'.points t) + 2 * 2 ^ 1074 * 0)
flip-scores m m' count near f t i = (
  score-exact m'.points (subst AllNear (sym f.points) near) t,
  no-loss (lowest_of (measure m.points) m.elements) (score_of m'.points t) (lowest-exact (score_of m.points) (score-exact m.points near) m.elements) (f.scores t i),
)

-- ---- the count 0

pub chain-none : {es fs : List (List ℕ)} {n : ℕ} → Chain es n fs → n ≡ 0 → fs ≡ es
chain-none (Chain.start z e) h = e
chain-none (Chain.then {k = k} r f z) h = absurd (some_left k (sym z ∙ h))
  where
    some_left : (k : ℕ) → k + 1 ≡ 0 → ⊥
    some_left k e = omega arith

-- the element of four vertices
of-vertices : List ℕ → Tet
of-vertices l = tet (get_or l 0 0) (get_or l 1 0) (get_or l 2 0) (get_or l 3 0)

back : (ts : List Tet) → map of-vertices (map vertices_of ts) ≡ ts
unfolding of-vertices
back [] = refl
back (t ∷ ts) = ap (λ l. t ∷ l) (back ts)

-- with the count 0 the elements are as before
pub flip-idle : (m m' : Mesh) → Flipped m m' 0 → m'.elements ≡ m.elements
flip-idle m m' f = sym (back m'.elements) ∙ ap (map of-vertices) (chain-none f.made refl) ∙ back m.elements
