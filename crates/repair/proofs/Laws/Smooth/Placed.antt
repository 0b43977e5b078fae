-- Points put at the places of a group: their number stays, the other places keep theirs, and what all points have they still have.
-- Assumes nothing.
use mathlib.Core.Path.{◌≡◌, refl, sym, subst, ◌∙◌}
use mathlib.Core.Logic.{◌⊎◌, inl, inr, ⊎_elim}
use mathlib.Core.Bool.{true, false}
use mathlib.Core.List.{List, [], ◌∷◌}
use Prim.Native.Nat.{ℕ, zero, suc}
use lib.ListN.{length, get_or, set, length-set}
use lib.Seq.{get_or-set_other}
use Rattle.geometry.specs.declared.point.Point.{Point}
use Rattle.mesh.specs.declared.element.Tet.{Tet}
use Rattle.mesh.specs.Words.{point_at, zero_point}
use Rattle.mesh.specs.Complex.{mem}
use Rattle.mesh.specs.Element.{vertices_of}
use Rattle.mesh.specs.Measure.{determinant_of, score_of}
use Rattle.mesh.proofs.Laws.Complex.Sets.{clash, nope, or_left, or_right, mem-here, mem-there, mem-cases, out-head, out-tail}
use Rattle.repair.specs.Mesh.{has}
use Rattle.mesh.specs.Tests.{any}
use Rattle.repair.specs.Smooth.{placed}

-- a place of a list with one place set has what was set, or what it had
pub set_cases : {A : Type 0} (l : List A) (i : ℕ) (a : A) (j : ℕ) (d : A) → (get_or (set l i a) j d ≡ a) ⊎ (get_or (set l i a) j d ≡ get_or l j d)
set_cases [] i a j d = inr refl
set_cases (x ∷ l) zero a zero d = inl refl
set_cases (x ∷ l) zero a (suc j) d = inr refl
set_cases (x ∷ l) (suc i) a zero d = inr refl
set_cases (x ∷ l) (suc i) a (suc j) d = set_cases l i a j d

module _ (new : ℕ → Point) where
  -- as many places as before
  pub length-placed : (g : List ℕ) (ps : List Point) → length (placed new g ps) ≡ length ps
  unfolding placed
  length-placed [] ps = refl
  length-placed (v ∷ g) ps = length-set (placed new g ps) v (new v) ∙ length-placed g ps

  -- what the old points and the new ones have, all have
  pub placed-all : (P : Point → Type 0) (g : List ℕ) (ps : List Point) → ((v : ℕ) → P (point_at ps v)) → ((v : ℕ) → P (new v)) → (w : ℕ) → P (point_at (placed new g ps) w)
  unfolding placed
  placed-all P [] ps h k w = h w
  placed-all P (v ∷ g) ps h k w =
      ⊎_elim (λ e. subst P (sym e) (k v)) (λ e. subst P (sym e) (placed-all P g ps h k w)) (set_cases (placed new g ps) v (new v) w zero_point)

  -- a place outside the group keeps its point
  pub placed-other : (g : List ℕ) (ps : List Point) (w : ℕ) → mem w g ≡ false → point_at (placed new g ps) w ≡ point_at ps w
  unfolding placed
  placed-other [] ps w h = refl
  placed-other (v ∷ g) ps w h = get_or-set_other (placed new g ps) v w (new v) zero_point (out-head w v g h) ∙ placed-other g ps w (out-tail w v g h)

-- ---- elements away from the group

-- a vertex of an element that has none of the group is none of the group
pub away : (g : List ℕ) (t : Tet) (w : ℕ) → any (λ v. has v t) g ≡ false → mem w (vertices_of t) ≡ true → mem w g ≡ false
away g t w h m = nope (λ k. clash (found g k) h)
  where
    found : (l : List ℕ) → mem w l ≡ true → any (λ v. has v t) l ≡ true
    found [] k = k
    found (u ∷ l) k = elim (mem-cases w u l k) [
      | inl e ↦ or_left (any (λ v. has v t) l) (subst (λ z. has z t ≡ true) e m)
      | inr q ↦ or_right (has u t) (found l q)
    ]

module _ (ps qs : List Point) (t : Tet) (same : (w : ℕ) → mem w (vertices_of t) ≡ true → point_at qs w ≡ point_at ps w) where
  at_a : point_at qs t.a ≡ point_at ps t.a
  at_a = same t.a (mem-here t.a (t.b ∷ t.c ∷ t.d ∷ []))

  at-b : point_at qs t.b ≡ point_at ps t.b
  at-b = same t.b (mem-there t.b t.a (t.b ∷ t.c ∷ t.d ∷ []) (mem-here t.b (t.c ∷ t.d ∷ [])))

  at_c : point_at qs t.c ≡ point_at ps t.c
  at_c = same t.c (mem-there t.c t.a (t.b ∷ t.c ∷ t.d ∷ []) (mem-there t.c t.b (t.c ∷ t.d ∷ []) (mem-here t.c (t.d ∷ []))))

  at-d : point_at qs t.d ≡ point_at ps t.d
  at-d =
      same t.d
      (mem-there t.d t.a (t.b ∷ t.c ∷ t.d ∷ []) (mem-there t.d t.b (t.c ∷ t.d ∷ []) (mem-there t.d t.c (t.d ∷ []) (mem-here t.d []))))

  -- an element whose points stay keeps its determinant and its score
  pub same-determinant : determinant_of qs t ≡ determinant_of ps t
  same-determinant = cc (at_a, at-b, at_c, at-d)

  pub same-score : score_of qs t ≡ score_of ps t
  same-score = cc (at_a, at-b, at_c, at-d)
