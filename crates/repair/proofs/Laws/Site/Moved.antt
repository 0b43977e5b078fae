-- Points of a moved group: what a vertex's point is afterwards, and points put into a buffer one after the other. Assumes nothing.
use mathlib.Core.Path.{◌≡◌, refl, sym, ap, ap₂, subst, ◌∙◌}
use mathlib.Core.Logic.{inl, inr}
use mathlib.Core.Bool.{true, false}
use mathlib.Core.List.{List, [], ◌∷◌}
use Prim.Native.Nat.{ℕ, zero, suc, ◌+◌, ◌-◌, ◌*◌, ◌≤◌, ◌<◌}
use native.Mathlib.Nat.{not-suc-le-zero, le_of_suc-le-suc}
use native.Mathlib.Omega.{arith}
use borrow.Author.Tests.{eqb-true, eqb-false}
use lib.Dec.{eqb}
use lib.Ieee.{Float}
use lib.ListN.{length, drop, set, length-set, get_or-eq_default}
use lib.Seq.{get_or-set_other, get_or-set_same, drop-set-lt, set_out}
use Rattle.geometry.specs.declared.point.Point.{Point}
use Rattle.geometry.specs.declared.bounds.Options.{Options}
use Rattle.mesh.specs.Words.{word_at, point_at, zero_point, points_of}
use Rattle.mesh.specs.Complex.{mem, Nodup}
use Rattle.mesh.proofs.Laws.Complex.Sets.{split, mem-cases, clash}
use Rattle.mesh.proofs.Laws.Intake.Reads.{length-points}
use Rattle.repair.specs.declared.smooth.site.Site.{Site}
use Rattle.repair.specs.Smooth.{kept_on, placed, move_to}
use Rattle.repair.specs.inside.smooth.Site.{members, trial_points, Put, Placed, new_parameters, new_point}
use Rattle.repair.proofs.Laws.Smooth.Placed.{length-placed, placed-other}

-- ---- the point of a vertex afterwards

module _ (new : ℕ → Point) where
  -- a vertex of the group has its new point
  pub placed_at : (g : List ℕ) (ps : List Point) (v : ℕ) → mem v g ≡ true → v < length ps → point_at (placed new g ps) v ≡ new v
  unfolding placed
  placed_at [] ps v m h = absurd (clash m refl)
  placed_at (u ∷ g) ps v m h = elim (split (eqb v u)) [
    | inl e ↦
        let k : v ≡ u = eqb-true v u e in
        subst (λ z. point_at (set (placed new g ps) u (new u)) z ≡ new z) (sym k)
        (get_or-set_same (placed new g ps) u (new u) zero_point (subst (λ z. z < length (placed new g ps)) k (subst (λ n. v < n) (sym (length-placed new g ps)) h)))
    | inr e ↦ elim (mem-cases v u g m) [
      | inl k ↦ absurd (eqb-false v u e k)
      | inr k ↦ get_or-set_other (placed new g ps) u v (new u) zero_point (eqb-false v u e) ∙ placed_at g ps v k h
    ]
  ]

module _ (o : Options) (parameters points : List Float) (w : List ℕ) (s : Site) (p : Point) (v : ℕ) where
  -- past the last vertex
  pub trial-past : s.vertices ≤ v → point_at (points_of s.vertices points) v ≡ point_at (trial_points o parameters points w s p) v
  unfolding trial_points move_to
  trial-past h =
      let new = new_point o s.vertices parameters p in
      let g = members w s.group s.count in
      let l = length-points s.vertices points in
      get_or-eq_default (points_of s.vertices points) zero_point (omega (arith, l))
      ∙ sym (get_or-eq_default (placed new g (points_of s.vertices points)) zero_point (omega (arith, l, length-placed new g (points_of s.vertices points))))

  -- a vertex of another group
  pub trial-other : mem v (members w s.group s.count) ≡ false → point_at (points_of s.vertices points) v ≡ point_at (trial_points o parameters points w s p) v
  unfolding trial_points move_to
  trial-other h = sym (placed-other (new_point o s.vertices parameters p) (members w s.group s.count) (points_of s.vertices points) v h)

  -- a vertex of the group
  pub trial-at : v < s.vertices → mem v (members w s.group s.count) ≡ true
      → new_point o s.vertices parameters p v ≡ point_at (trial_points o parameters points w s p) v
  unfolding trial_points move_to
  trial-at h m =
      sym (placed_at (new_point o s.vertices parameters p) (members w s.group s.count) (points_of s.vertices points) v m
      (omega (arith, length-points s.vertices points)))

-- ---- points put into a buffer

-- three floats are a point
points_set : (nv : ℕ) (s : List Float) (i : ℕ) (p : Point) → i < nv → 3 * nv ≤ length s
    → points_of nv (set (set (set s (3 * i) p.x) (3 * i + 1) p.y) (3 * i + 2) p.z) ≡ set (points_of nv s) i p
unfolding points_of
points_set zero s i p h l = absurd (not-suc-le-zero h)
points_set (suc nv) [] i p h l = absurd (omega (arith, l))
points_set (suc nv) (a ∷ []) i p h l = absurd (omega (arith, l))
points_set (suc nv) (a ∷ b ∷ []) i p h l = absurd (omega (arith, l))
points_set (suc nv) (a ∷ b ∷ c ∷ s) zero p h l = refl
points_set (suc nv) (a ∷ b ∷ c ∷ s) (suc i) p h l = go (3 * suc i) (3 * suc i + 1) (3 * suc i + 2) (omega arith) (omega arith) (omega arith) (points_set nv s i p (le_of_suc-le-suc h) (omega (arith, l)))
  where
    go : (j k m : ℕ) → j ≡ suc (suc (suc (3 * i))) → k ≡ suc (suc (suc (3 * i + 1))) → m ≡ suc (suc (suc (3 * i + 2)))
        → points_of nv (set (set (set s (3 * i) p.x) (3 * i + 1) p.y) (3 * i + 2) p.z) ≡ set (points_of nv s) i p
        → points_of (suc nv) (set (set (set (a ∷ b ∷ c ∷ s) j p.x) k p.y) m p.z) ≡ set (points_of (suc nv) (a ∷ b ∷ c ∷ s)) (suc i) p
    go j k m e f g q =
        rw (e, f, g) (ap (λ (l : List Point). record { x = a; y = b; z = c } ∷ l) q)

-- a vertex's point, written as three floats
pub put_three : (nv : ℕ) (s t : List Float) (i : ℕ) (p : Point) → i < nv → 3 * nv ≤ length s
    → t ≡ set (set (set s (3 * i) p.x) (3 * i + 1) p.y) (3 * i + 2) p.z → Put nv i p s t
put_three nv s t i p h l e = record {
  points = ap (points_of nv) e ∙ points_set nv s i p h l;
  rest = ap (drop (3 * nv)) e ∙ drop-set-lt (3 * nv) (set (set s (3 * i) p.x) (3 * i + 1) p.y) (3 * i + 2) p.z (omega arith)
      ∙ (drop-set-lt (3 * nv) (set s (3 * i) p.x) (3 * i + 1) p.y (omega arith) ∙ drop-set-lt (3 * nv) s (3 * i) p.x (omega arith));
  long = ap length e ∙ length-set (set (set s (3 * i) p.x) (3 * i + 1) p.y) (3 * i + 2) p.z
      ∙ (length-set (set s (3 * i) p.x) (3 * i + 1) p.y ∙ length-set s (3 * i) p.x);
}

-- nothing is written past the last vertex
pub put-past : (nv : ℕ) (s : List Float) (i : ℕ) (p : Point) → nv ≤ i → Put nv i p s s
put-past nv s i p h = record { points = sym (set_out (points_of nv s) i p (omega (arith, length-points nv s))); rest = refl; long = refl }

-- ---- a group from its last vertex on

module _ (w : List ℕ) (at count : ℕ) where
  -- the vertices from the k-th on
  abbrev pub tail : ℕ → List ℕ
  tail k = members w (at + 7 * k) (count - k)

  tail-front : (k : ℕ) → k < count → tail k ≡ word_at w (at + 7 * k) ∷ tail (k + 1)
  unfolding members
  tail-front k h =
      let e : count - k ≡ suc (count - (k + 1)) = omega arith in
      let f : at + 7 * k + 7 ≡ at + 7 * (k + 1) = omega arith in
      ap (members w (at + 7 * k)) e ∙ ap (λ (i : ℕ). word_at w (at + 7 * k) ∷ members w i (count - (k + 1))) f

  tail_none : (k : ℕ) → count ≤ k → tail k ≡ []
  unfolding members
  tail_none k h = let e : count - k ≡ 0 = omega arith in rw e

  pub tail_all : tail 0 ≡ members w at count
  tail_all =
      let e : at + 7 * 0 ≡ at = omega arith in
      let f : count - 0 ≡ count = omega arith in
      ap₂ (members w) e f

  -- none of a group stands in it twice
  tail-nodup : Nodup (members w at count) → (k : ℕ) → k ≤ count → Nodup (tail k)
  tail-nodup n zero h = subst (λ l. Nodup l) (sym tail_all) n
  tail-nodup n (suc k) h =
      let e : k + 1 ≡ suc k = omega arith in
      subst (λ i. Nodup (tail i)) e (subst (λ l. Nodup l) (tail-front k (omega arith)) (tail-nodup n k (omega arith))).1

  nodup-at : Nodup (members w at count) → (k : ℕ) → k < count → mem (word_at w (at + 7 * k)) (tail (k + 1)) ≡ false
  nodup-at n k h = (subst (λ l. Nodup l) (tail-front k h) (tail-nodup n k (omega arith))).0

  -- no vertex yet
  pub placed-start : (nv : ℕ) (new : ℕ → Point) (s : List Float) → Placed nv new (tail count) s s
  unfolding placed
  placed-start nv new s = record { points = sym (ap (λ l. placed new l (points_of nv s)) (tail_none count (omega arith))); rest = refl; long = refl }

  -- the vertex before those placed
  pub placed-turn : (nv : ℕ) (new : ℕ → Point) (s t u : List Float) (k : ℕ) → k < count → Placed nv new (tail (k + 1)) s t
      → Put nv (word_at w (at + 7 * k)) (new (word_at w (at + 7 * k))) t u → Placed nv new (tail k) s u
  unfolding placed
  placed-turn nv new s t u k h P Q =
      let v = word_at w (at + 7 * k) in
      record {
        points = Q.points ∙ ap (λ l. set l v (new v)) P.points ∙ sym (ap (λ l. placed new l (points_of nv s)) (tail-front k h));
        rest = Q.rest ∙ P.rest;
        long = Q.long ∙ P.long;
      }

  -- a vertex that is not placed yet has its old parameters
  pub still-old : (o : Options) (nv : ℕ) (p : Point) (new : ℕ → Point) (s t : List Float) (k : ℕ) → Nodup (members w at count) → k < count
      → Placed nv new (tail (k + 1)) s t → new_parameters o nv t p (word_at w (at + 7 * k)) ≡ new_parameters o nv s p (word_at w (at + 7 * k))
  still-old o nv p new s t k n h P =
      let v = word_at w (at + 7 * k) in
      ap (λ l. kept_on o (point_at l v) p) P.points ∙ ap (λ q. kept_on o q p) (placed-other new (tail (k + 1)) (points_of nv s) v (nodup-at n k h))

  -- at the next place as it is named before the turn
  pub placed-from : (nv : ℕ) (new : ℕ → Point) (s t : List Float) (k : ℕ) {i : ℕ} → i ≡ k + 1 → Placed nv new (tail i) s t → Placed nv new (tail (k + 1)) s t
  placed-from nv new s t k e P = subst (λ i. Placed nv new (tail i) s t) e P

  -- all are placed
  pub placed_end : (nv : ℕ) (new : ℕ → Point) (s t : List Float) (k : ℕ) → k ≤ 0 → Placed nv new (tail k) s t → Placed nv new (members w at count) s t
  placed_end nv new s t k h P =
      let e : k ≡ 0 = omega arith in
      subst (λ l. Placed nv new l s t) (ap tail e ∙ tail_all) P

-- a point and a vertex by other names
pub put_as : (nv v : ℕ) (s t : List Float) {p q : Point} → p ≡ q → Put nv v p s t → Put nv v q s t
put_as nv v s t e P = subst (λ p. Put nv v p s t) e P

pub put-at : (nv : ℕ) (s t : List Float) (f : ℕ → Point) {v u : ℕ} {q : Point} → v ≡ u → f u ≡ q → Put nv v (f v) s t → Put nv u q s t
put-at nv s t f {v} {u} e g P = put_as nv u s t g (subst (λ i. Put nv i (f i) s t) e P)
