-- Elements and points by index: what `tet_at` and `point_at` read is the element or the point with that number. Assumes nothing.
use Rattle.std.proofs.Common.{◌≡◌, ℕ, zero, suc, ◌+◌, ◌*◌, ◌/◌, ◌<◌, ◌≤◌, List, [], ◌∷◌, length, get_or, take, drop, sym, refl, ap, ◌∙◌, ap₂, le_of_suc-le-suc, not-suc-le-zero, arith, get_or-drop}
use lib.Ieee.{Float}
use lib.ListN.{get_or-eq_default}
use Rattle.geometry.specs.declared.point.Point.{Point}
use Rattle.geometry.specs.Float.{zero64}
use Rattle.mesh.specs.declared.element.Tet.{Tet}
use Rattle.mesh.specs.Words.{word_at, float_at, zero_point, point_at, points_of, point_in}
use Rattle.mesh.specs.Element.{tet, tets, triples, all_vertices, all_corners}
use Rattle.mesh.specs.inside.Intake.{tet_at}

-- ---- past the end

pub tet-past : (s : List ℕ) (e : ℕ) → length s / 4 < e → tet 0 0 0 0 ≡ tet_at s e
unfolding tet_at
tet-past s e h =
    rw (past (4 * e) (omega arith), past (4 * e + 1) (omega arith), past (4 * e + 2) (omega arith), past (4 * e + 3) (omega arith))
  where
    past : (i : ℕ) → length s ≤ i → word_at s i ≡ 0
    past i l = get_or-eq_default s 0 l

pub point-past : (s : List Float) (v : ℕ) → length s / 3 < v → ◌≡◌ {A = Point} (record { x = zero64; y = zero64; z = zero64 }) (point_in s v)
unfolding point_in
point-past s v h = rw (past (3 * v) (omega arith), past (3 * v + 1) (omega arith), past (3 * v + 2) (omega arith))
  where
    past : (i : ℕ) → length s ≤ i → float_at s i ≡ zero64
    past i l = get_or-eq_default s zero64 l

-- ---- elements

pub length-tets : (n : ℕ) (s : List ℕ) → length (tets n s) ≡ n
unfolding tets
length-tets zero s = refl
length-tets (suc n) s = ap suc (length-tets n (drop 4 s))

-- the elements are the same where their words are
pub tets-same : (n : ℕ) (s t : List ℕ) → ((j : ℕ) → j < 4 * n → word_at t j ≡ word_at s j) → tets n t ≡ tets n s
unfolding tets
tets-same zero s t h = refl
tets-same (suc n) s t h =
    ap₂ (λ (e : Tet) (l : List Tet). e ∷ l)
    (rw (h 0 (omega arith), h 1 (omega arith), h 2 (omega arith), h 3 (omega arith)))
    (tets-same n (drop 4 s) (drop 4 t) (λ j g. get_or-drop 4 t j 0 ∙ h (4 + j) (omega arith) ∙ sym (get_or-drop 4 s j 0)))

pub tet-drop : (s : List ℕ) (e : ℕ) → tet_at (drop 4 s) e ≡ tet_at s (suc e)
unfolding tet_at
tet-drop s e = rw (at (4 * e) (4 * suc e) (omega arith), at (4 * e + 1) (4 * suc e + 1) (omega arith), at (4 * e + 2) (4 * suc e + 2) (omega arith), at (4 * e + 3) (4 * suc e + 3) (omega arith))
  where
    at : (i j : ℕ) → 4 + i ≡ j → word_at (drop 4 s) i ≡ word_at s j
    at i j q = get_or-drop 4 s i 0 ∙ ap (word_at s) q

-- the element e of n
pub tets-at : (n : ℕ) (s : List ℕ) (e : ℕ) (z : Tet) → e < n → get_or (tets n s) e z ≡ tet_at s e
unfolding tets tet_at
tets-at zero s e z h = absurd (not-suc-le-zero h)
tets-at (suc n) s zero z h = refl
tets-at (suc n) s (suc e) z h = tets-at n (drop 4 s) e z (le_of_suc-le-suc h) ∙ tet-drop s e

-- the vertices of elements are their words
pub elements-front : (n : ℕ) (s : List ℕ) → 4 * n ≤ length s → all_vertices (tets n s) ≡ take (4 * n) s
unfolding tets all_vertices
elements-front zero s h = refl
elements-front (suc n) [] h = absurd (omega (arith, h))
elements-front (suc n) (a ∷ []) h = absurd (omega (arith, h))
elements-front (suc n) (a ∷ b ∷ []) h = absurd (omega (arith, h))
elements-front (suc n) (a ∷ b ∷ c ∷ []) h = absurd (omega (arith, h))
elements-front (suc n) (a ∷ b ∷ c ∷ d ∷ s) h =
    let e : 4 * suc n ≡ suc (suc (suc (suc (4 * n)))) = omega arith in
    ap (λ (l : List ℕ). a ∷ b ∷ c ∷ d ∷ l) (elements-front n s (omega (arith, h))) ∙ sym (ap (λ k. take k (a ∷ b ∷ c ∷ d ∷ s)) e)

-- the corners of triples are their words
pub triples-front : (n : ℕ) (s : List ℕ) → 3 * n ≤ length s → all_corners (triples n s) ≡ take (3 * n) s
unfolding triples all_corners
triples-front zero s h = refl
triples-front (suc n) [] h = absurd (omega (arith, h))
triples-front (suc n) (a ∷ []) h = absurd (omega (arith, h))
triples-front (suc n) (a ∷ b ∷ []) h = absurd (omega (arith, h))
triples-front (suc n) (a ∷ b ∷ c ∷ s) h =
    let e : 3 * suc n ≡ suc (suc (suc (3 * n))) = omega arith in
    ap (λ (l : List ℕ). a ∷ b ∷ c ∷ l) (triples-front n s (omega (arith, h))) ∙ sym (ap (λ k. take k (a ∷ b ∷ c ∷ s)) e)

-- ---- points

pub length-points : (n : ℕ) (s : List Float) → length (points_of n s) ≡ n
unfolding points_of
length-points zero s = refl
length-points (suc n) s = ap suc (length-points n (drop 3 s))

point-drop : (s : List Float) (v : ℕ) → point_in (drop 3 s) v ≡ point_in s (suc v)
unfolding point_in
point-drop s v = rw (at (3 * v) (3 * suc v) (omega arith), at (3 * v + 1) (3 * suc v + 1) (omega arith), at (3 * v + 2) (3 * suc v + 2) (omega arith))
  where
    at : (i j : ℕ) → 3 + i ≡ j → float_at (drop 3 s) i ≡ float_at s j
    at i j q = get_or-drop 3 s i zero64 ∙ ap (float_at s) q

-- the point of the vertex v of n
pub points-at : (n : ℕ) (s : List Float) (v : ℕ) (z : Point) → v < n → get_or (points_of n s) v z ≡ point_in s v
unfolding points_of point_in
points-at zero s v z h = absurd (not-suc-le-zero h)
points-at (suc n) s zero z h = refl
points-at (suc n) s (suc v) z h = points-at n (drop 3 s) v z (le_of_suc-le-suc h) ∙ point-drop s v

-- the point of the vertex v as `vertex_point` reads it
pub point-of : (nv : ℕ) (fs : List Float) (v : ℕ) → v < nv → point_in fs v ≡ point_at (points_of nv fs) v
point-of nv fs v h = sym (points-at nv fs v zero_point h)

pub no-point : (nv : ℕ) (fs : List Float) (v : ℕ) → nv ≤ v → zero_point ≡ point_at (points_of nv fs) v
no-point nv fs v h = sym (get_or-eq_default (points_of nv fs) zero_point (omega (arith, length-points nv fs)))
