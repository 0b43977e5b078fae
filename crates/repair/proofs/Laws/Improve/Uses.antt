-- Numbering by first use: different numbers for different vertices of the elements, all below the new count, and each vertex keeps its
-- point. So the renumbered elements are a step further, and their determinants and scores are those before. Assumes nothing.
use mathlib.Core.Path.{◌≡◌, refl, sym, ap, subst, ◌∙◌}
use mathlib.Core.Logic.{inl, inr}
use mathlib.Core.Bool.{true, not}
use mathlib.Core.List.Memᴰ
use mathlib.Core.List.{List, [], ◌∷◌, map, Memᴰ}
use Prim.Native.Nat.{ℕ, ◌<◌}
use native.Mathlib.Omega.{arith}
use borrow.Author.Tests.{eqb-true, eqb-false}
use lib.Dec.{eqb}
use lib.ListN.{length, get_or}
use Rattle.geometry.specs.declared.point.Point.{Point}
use Rattle.mesh.specs.declared.element.Tet.{Tet}
use Rattle.mesh.specs.Words.{point_at, zero_point}
use Rattle.mesh.specs.Complex.{mem, within}
use Rattle.mesh.specs.inside.Moves.{Renumbers, renumber, Step, renumbers}
use Rattle.mesh.specs.Element.{vertices_of, all_vertices}
use Rattle.mesh.proofs.Laws.Complex.Sets.{split, mem-here, mem-there, mem-cases, mem-nil, within-elim, keep-mem}
use Rattle.mesh.proofs.Laws.Star.Chains.{mem-left, mem-right}
use Rattle.repair.specs.Improve.{image_of, first_uses, place_of}

-- ---- places

-- what stands at a vertex's place in what a function makes of the vertices
pub place_at : {A : Type 0} (f : ℕ → A) (us : List ℕ) (v : ℕ) (z : A) → mem v us ≡ true → get_or (map f us) (place_of us v) z ≡ f v
unfolding place_of
place_at f [] v z h = absurd (mem-nil v h)
place_at f (u ∷ us) v z h =
    elim (split (eqb u v)) [
      | inl q ↦ rw q (ap f (eqb-true u v q))
      | inr q ↦
          elim (mem-cases v u us h) [
            | inl e ↦ absurd (eqb-false u v q (sym e))
            | inr k ↦ rw q (place_at f us v z k)
          ]
    ]

pub place-below : (us : List ℕ) (v : ℕ) → mem v us ≡ true → place_of us v < length us
unfolding place_of
place-below [] v h = absurd (mem-nil v h)
place-below (u ∷ us) v h =
    elim (split (eqb u v)) [
      | inl q ↦ rw q (omega arith)
      | inr q ↦
          elim (mem-cases v u us h) [
            | inl e ↦ absurd (eqb-false u v q (sym e))
            | inr k ↦ rw q (let l : place_of us v < length us = place-below us v k in omega arith)
          ]
    ]

pub place-apart : (us : List ℕ) (v w : ℕ) → mem v us ≡ true → mem w us ≡ true → place_of us v ≡ place_of us w → v ≡ w
place-apart us v w hv hw e = sym (place_at (λ x. x) us v 0 hv) ∙ (ap (λ i. get_or (map (λ x. x) us) i 0) e ∙ place_at (λ x. x) us w 0 hw)

-- ---- first uses

-- each vertex is there
pub first-mem : (v : ℕ) (vs : List ℕ) → mem v vs ≡ true → mem v (first_uses vs) ≡ true
unfolding first_uses
first-mem v [] h = h
first-mem v (w ∷ vs) h =
    elim (split (eqb v w)) [
      | inl q ↦ rw q refl
      | inr q ↦
          elim (mem-cases v w vs h) [
            | inl e ↦ absurd (eqb-false v w q e)
            | inr k ↦ rw q (keep-mem (λ x. not (eqb x w)) (first_uses vs) v ∙ rw (first-mem v vs k, q) refl)
          ]
    ]

all-mem : (v : ℕ) {t : Tet} (ts : List Tet) → Memᴰ t ts → mem v (vertices_of t) ≡ true → mem v (all_vertices ts) ≡ true
unfolding all_vertices
all-mem v [] m h = absurd (Memᴰ.not-nil m)
all-mem v {t} (u ∷ ts) m h =
    elim (Memᴰ.cases_cons m) [
      | inl e ↦ mem-left v (vertices_of u) (all_vertices ts) (rw e at h)
      | inr k ↦ mem-right v (vertices_of u) (all_vertices ts) (all-mem v ts k h)
    ]

-- the vertices used, in the order of their first use
abbrev pub uses : List Tet → List ℕ
uses ts = first_uses (all_vertices ts)

pub uses-mem : (v : ℕ) {t : Tet} (ts : List Tet) → Memᴰ t ts → mem v (vertices_of t) ≡ true → mem v (uses ts) ≡ true
uses-mem v ts m h = first-mem v (all_vertices ts) (all-mem v ts m h)

within-uses : (v : ℕ) (ts : List Tet) → within (v ∷ []) (map vertices_of ts) ≡ true → mem v (uses ts) ≡ true
within-uses v ts h =
    let r = within-elim (v ∷ []) (map vertices_of ts) h in
    let k = Memᴰ.of_map vertices_of ts r.1 in
    uses-mem v ts k.1 (subst (λ u. mem v u ≡ true) (sym k.2) (r.2 v (mem-here v [])))

-- ---- the renumbered elements

images-renumber : (ρ : ℕ → ℕ) (ts : List Tet) → map vertices_of (map (image_of ρ) ts) ≡ renumber ρ (map vertices_of ts)
images-renumber ρ [] = refl
images-renumber ρ (t ∷ ts) = ap (λ l. map ρ (vertices_of t) ∷ l) (images-renumber ρ ts)

pub uses-renumber : (ts : List Tet) → Renumbers (place_of (uses ts)) (length (uses ts)) (map vertices_of ts)
uses-renumber ts = record {
  apart = λ x y hx hy e. place-apart (uses ts) x y (within-uses x ts hx) (within-uses y ts hy) e;
  below = λ x hx. place-below (uses ts) x (within-uses x ts hx);
}

pub renumber-step : (n : ℕ) (ts : List Tet) → Step n (map vertices_of ts) (length (uses ts)) (map vertices_of (map (image_of (place_of (uses ts))) ts))
renumber-step n ts = renumbers (place_of (uses ts)) (uses-renumber ts) (images-renumber (place_of (uses ts)) ts)

-- each vertex keeps its point
module _ (ps : List Point) (ts : List Tet) {t : Tet} (m : Memᴰ t ts) where
  point-kept : (v : ℕ) → mem v (vertices_of t) ≡ true → point_at (map (point_at ps) (uses ts)) (place_of (uses ts) v) ≡ point_at ps v
  point-kept v h = place_at (point_at ps) (uses ts) v zero_point (uses-mem v ts m h)

  at_a : mem t.a (vertices_of t) ≡ true
  at_a = mem-here t.a (t.b ∷ t.c ∷ t.d ∷ [])

  at-b : mem t.b (vertices_of t) ≡ true
  at-b = mem-there t.b t.a (t.b ∷ t.c ∷ t.d ∷ []) (mem-here t.b (t.c ∷ t.d ∷ []))

  at_c : mem t.c (vertices_of t) ≡ true
  at_c = mem-there t.c t.a (t.b ∷ t.c ∷ t.d ∷ []) (mem-there t.c t.b (t.c ∷ t.d ∷ []) (mem-here t.c (t.d ∷ [])))

  at-d : mem t.d (vertices_of t) ≡ true
  at-d = mem-there t.d t.a (t.b ∷ t.c ∷ t.d ∷ []) (mem-there t.d t.b (t.c ∷ t.d ∷ []) (mem-there t.d t.c (t.d ∷ []) (mem-here t.d [])))

  -- so an element keeps whatever its four points make
  pub points_kept : {A : Type 0} (f : Point → Point → Point → Point → A)
      → (let new = map (point_at ps) (uses ts) in let place = place_of (uses ts) in f (point_at new (place t.a)) (point_at new (place t.b)) (point_at new (place t.c)) (point_at new (place t.d)))
      ≡ f (point_at ps t.a) (point_at ps t.b) (point_at ps t.c) (point_at ps t.d)
  points_kept f = rw (point-kept t.a at_a, point-kept t.b at-b, point-kept t.c at_c, point-kept t.d at-d) refl
