-- `flip` keeps the boundary: each turn makes one flip, or none, of a proper list of elements of which at most two have a triangle.
-- Assumes nothing.
use mathlib.Core.Path.{◌≡◌, refl, sym, ap, subst, ◌∙◌}
use mathlib.Core.Logic.{◌≢◌}
use mathlib.Core.Bool.{Bool, true, false, not, cond, ◌&&◌}
use mathlib.Core.List.{List, [], ◌∷◌, ◌++◌, map, Memᴰ}
use mathlib.Core.Option.{Option, some}
use Prim.Native.Nat.{ℕ, ◌+◌, ◌≤◌}
use native.Mathlib.Omega.{arith}
use borrow.Author.Tests.{eqb-false, not-true}
use lib.Dec.{eqb, leb}
use lib.Ieee.{lt}
use lib.ListN.{length, get_or}
use Rattle.geometry.specs.Float.{zero64, one64}
use Rattle.geometry.specs.Units.{units_of}
use Rattle.mesh.specs.declared.element.Pair.{Pair}
use Rattle.mesh.specs.declared.element.Triple.{Triple}
use Rattle.mesh.specs.declared.element.Tet.{Tet}
use Rattle.mesh.specs.Sort.{sort, unique}
use Rattle.mesh.specs.Complex.{Nodup}
use Rattle.mesh.specs.inside.Complex.{star, Proper, SameCount}
use Rattle.mesh.specs.Tests.{every, any}
use Rattle.mesh.specs.Element.{tet, vertices_of, corners_of}
use Rattle.mesh.specs.Boundary.{boundary_number}
use Rattle.mesh.specs.Measure.{Measure, measure, determinant_of, score_of, lowest_of}
use Rattle.mesh.proofs.Laws.Complex.Sets.{and-fst, and-snd}
use Rattle.mesh.proofs.Laws.Link.Simplices.{rising, rising-nodup}
use Rattle.mesh.proofs.Laws.Link.Keys.{proper-fours}
use Rattle.mesh.proofs.Laws.Link.Closed.{AtMostTwo, boundary-two}
use Rattle.repair.specs.Mesh.{Mesh}
use Rattle.repair.specs.Wholeness.{Exact}
use Rattle.repair.specs.Flip.{State, slot_has, numbers_with, elements_at, emptied, besides, oriented, accepted, replace, listed_faces, listed_edges, try_face, try_faces, try_edge, try_edges, flips}
use Rattle.repair.proofs.Laws.Smooth.Scores.{AllNear, score-exact, lowest-one, lowest-under}
use Rattle.repair.proofs.Laws.Flip.Slots.{Aged, aged-start, live-some}
use Rattle.repair.proofs.Laws.Flip.Replace.{Held, Chain, OneFlip, elements_of}
use Rattle.repair.proofs.Laws.Flip.Listed.{faces-rise, ends-differ}
use Rattle.repair.proofs.Laws.Flip.Pass.{chain-none}
use Rattle.repair.proofs.Laws.Flip.Face.{face-held, face-aged}
use Rattle.repair.proofs.Laws.Flip.Edge.{edge-held}
use Rattle.theorems.proofs.Flip.Five.{SameBoundary, flip-boundary}

-- ---- one flip or none

one-made : (n : ℕ) {es fs : List (List ℕ)} {k : ℕ} → Proper n es → Proper n fs → AtMostTwo es → AtMostTwo fs → Chain es k fs → k ≤ 1 → SameBoundary es fs
one-made n P Q few few' (Chain.start z e) h = λ τ l d. ap (λ gs. eqb (star τ gs) 1) (sym e)
one-made n {es} {fs} P Q few few' (Chain.then {k = k} r f z) h = flip-boundary n es fs P Q few few' (subst (λ gs. OneFlip gs fs) (chain-none r (omega arith)) f)

-- ---- turns

-- the same slots, with no flip counted
abbrev fresh : State → State
fresh s = record { slots = s.slots; flips = 0 }

-- what a turn makes of a state with no flip counted yet, s, beside what it makes of the state, t: the same slots, and at most one flip
record Turn (s t : State) : Type 0 where
  slots : s.slots ≡ t.slots
  flips : s.flips ≤ 1

module _ (μ : Measure) where
  turn : (s : State) (new : List (Option Tet)) (x y z : Bool)
      → Turn (cond x (cond y (fresh s) (cond z (record { slots = new; flips = 0 + 1 }) (fresh s))) (fresh s)) (cond x (cond y s (cond z (record { slots = new; flips = s.flips + 1 }) s)) s)
  turn s new true true z = record { slots = refl; flips = omega arith }
  turn s new true false true = record { slots = refl; flips = omega arith }
  turn s new true false false = record { slots = refl; flips = omega arith }
  turn s new false y z = record { slots = refl; flips = omega arith }

  face-turn : (ts : List Tet) (s : State) (f : Triple) → Turn (try_face μ ts (fresh s) f) (try_face μ ts s f)
  unfolding try_face replace
  face-turn ts s f =
      let is = numbers_with (corners_of f) (map some ts) in
      let cs = besides (corners_of f) (elements_at s.slots is) in
      let a = get_or cs 0 0 in
      let b = get_or cs 1 0 in
      let new = map (oriented μ) (tet a b f.a f.b ∷ tet a b f.b f.c ∷ tet a b f.c f.a ∷ []) in
      turn s (emptied is s.slots ++ map some new) (eqb (length is) 2 && eqb (length cs) 2) (any (slot_has (a ∷ b ∷ [])) s.slots) (accepted μ (elements_at s.slots is) new)

  edge-turn : (s : State) (e : Pair) → Turn (try_edge μ (fresh s) e) (try_edge μ s e)
  unfolding try_edge replace
  edge-turn s e =
      let is = numbers_with (e.a ∷ e.b ∷ []) s.slots in
      let cs = unique eqb (sort leb (besides (e.a ∷ e.b ∷ []) (elements_at s.slots is))) in
      let u = get_or cs 0 0 in
      let v = get_or cs 1 0 in
      let w = get_or cs 2 0 in
      let new = map (oriented μ) (tet u v w e.a ∷ tet u v w e.b ∷ []) in
      turn s (emptied is s.slots ++ map some new) (eqb (length is) 3 && eqb (length cs) 3) (any (slot_has (u ∷ v ∷ w ∷ [])) s.slots) (accepted μ (elements_at s.slots is) new)

-- ---- all turns

module _ (μ : Measure) (exact : (t : Tet) → Exact (μ.score t)) (n F : ℕ) (least : F ≤ units_of one64) (es₀ : List (List ℕ)) where
  -- flips counted from here on
  from-here : (s : State) → Held μ n F es₀ s → Held μ n F (elements_of s.slots) (fresh s)
  from-here s k = record { proper = k.proper; count = refl; thin = k.thin; upright = k.upright; floor = k.floor; made = Chain.start refl refl }

  -- the boundary after a turn
  after : (s r t : State) → Held μ n F es₀ s → Held μ n F (elements_of s.slots) r → Turn r t → SameBoundary (elements_of s.slots) (elements_of t.slots)
  after s r t k h q = subst (λ ss. SameBoundary (elements_of s.slots) (elements_of ss)) q.slots (one-made n k.proper h.proper k.thin h.thin h.made q.flips)

  faces-keep : (ts : List Tet) (s : State) (fs : List Triple) → every (λ f. rising (corners_of f)) fs ≡ true → Aged ts s.slots → Held μ n F es₀ s
      → Held μ n F es₀ (try_faces μ ts s fs) × SameBoundary (elements_of s.slots) (elements_of (try_faces μ ts s fs).slots)
  unfolding try_faces
  faces-keep ts s [] h a k = (k, λ τ l d. refl)
  faces-keep ts s (f ∷ fs) h a k =
      let d : Nodup (corners_of f) = rising-nodup (corners_of f) (and-fst (rising (corners_of f)) _ h) in
      let here = after s (try_face μ ts (fresh s) f) (try_face μ ts s f) k (face-held μ exact n F least (elements_of s.slots) ts (fresh s) f d a (from-here s k)) (face-turn μ ts s f) in
      let rest = faces-keep ts (try_face μ ts s f) fs (and-snd (rising (corners_of f)) _ h) (face-aged μ exact n F least es₀ ts s f a) (face-held μ exact n F least es₀ ts s f d a k) in
      (rest.0, λ τ l e. here τ l e ∙ rest.1 τ l e)

  edges-keep : (s : State) (es : List Pair) → every (λ e. not (eqb e.a e.b)) es ≡ true → Held μ n F es₀ s → SameBoundary (elements_of s.slots) (elements_of (try_edges μ s es).slots)
  unfolding try_edges
  edges-keep s [] h k = λ τ l d. refl
  edges-keep s (e ∷ es) h k =
      let d : e.a ≢ e.b = eqb-false e.a e.b (not-true (eqb e.a e.b) (and-fst (not (eqb e.a e.b)) _ h)) in
      let here = after s (try_edge μ (fresh s) e) (try_edge μ s e) k (edge-held μ exact n F least (elements_of s.slots) (fresh s) e d (from-here s k)) (edge-turn μ s e) in
      let rest = edges-keep (try_edge μ s e) es (and-snd (not (eqb e.a e.b)) _ h) (edge-held μ exact n F least es₀ s e d k) in
      λ τ l i. here τ l i ∙ rest τ l i

-- the elements at the end have the boundary of those at the start
pub flips-boundary : (m : Mesh) → AllNear m.points → Proper (length m.points) (map vertices_of m.elements) → boundary_number m.elements ≡ 0
    → ((t : Tet) → Memᴰ t m.elements → lt zero64 (determinant_of m.points t) ≡ true)
    → SameBoundary (map vertices_of m.elements) (elements_of (flips (measure m.points) m.elements).slots)
unfolding flips
flips-boundary m near P whole upright =
    let faces = faces-keep μ exact n F least es₀ ts start (listed_faces μ ts) (faces-rise μ ts (proper-fours n ts P)) (aged-start ts) held in
    let edges = edges-keep μ exact n F least es₀ (try_faces μ ts start (listed_faces μ ts)) (listed_edges μ ts) (ends-differ μ ts (proper-fours n ts P)) faces.0 in
    λ τ l d. ap (λ us. eqb (star τ (map vertices_of us)) 1) (sym (live-some ts)) ∙ faces.1 τ l d ∙ edges τ l d
  where
    μ : Measure
    μ = measure m.points

    exact : (t : Tet) → Exact (score_of m.points t)
    exact = score-exact m.points near

    n : ℕ
    n = length m.points

    ts : List Tet
    ts = m.elements

    es₀ : List (List ℕ)
    es₀ = map vertices_of m.elements

    F : ℕ
    F = units_of (lowest_of (measure m.points) m.elements)

    least : F ≤ units_of one64
    least = lowest-one (score_of m.points) exact ts

    start : State
    start = record { slots = map some m.elements; flips = 0 }

    held : Held μ n F es₀ start
    held = record {
      proper = subst (λ us. Proper n (map vertices_of us)) (sym (live-some ts)) P;
      count = subst (λ us. SameCount n es₀ n (map vertices_of us)) (sym (live-some ts)) refl;
      thin = subst (λ us. AtMostTwo (map vertices_of us)) (sym (live-some ts)) (boundary-two ts (proper-fours n ts P) whole);
      made = Chain.start refl (ap (map vertices_of) (live-some ts));
      upright = λ t i. upright t (subst (Memᴰ t) (live-some ts) i);
      floor = λ t i. lowest-under (score_of m.points) exact ts (subst (Memᴰ t) (live-some ts) i);
    }
