-- The bad elements gathered behind the slots, in their order. Assumes nothing.
use Rattle.std.proofs.Common.{◌≡◌, ℕ, ◌+◌, ◌*◌, ◌<◌, ◌≤◌, Bool, true, false, cond, List, [], ◌∷◌, ◌++◌, map, length, take, sym, refl, ap, ◌∙◌, subst, inl, inr, append-nil, add-one, arith, length-append, take_all, take-suc, eq-eqb, ne_eqb}
use mathlib.Core.List.{map-append}
use lib.Seq.{paste}
use Rattle.geometry.specs.declared.point.Point.{Point}
use Rattle.mesh.specs.declared.element.Tet.{Tet}
use Rattle.mesh.specs.Complex.{keep}
use Rattle.mesh.specs.Measure.{measure, is_bad}
use Rattle.mesh.specs.Element.{tet, tets, vertices_of}
use Rattle.mesh.specs.inside.Intake.{tet_at}
use Rattle.mesh.specs.inside.Manifold.{KeptBelow}
use Rattle.mesh.proofs.Laws.Bools.{split}
use Rattle.mesh.proofs.Laws.Rows.{Shape, none, more}
use Rattle.mesh.proofs.Laws.Intake.Reads.{length-tets, tets-at}
use Rattle.mesh.proofs.Laws.Euler.Areas.{tet-kept}
use Rattle.mesh.specs.inside.List.{bad_in, stacked}
use Rattle.mesh.proofs.Laws.List.Stack.{stack-start, stack-kept, stack-turn}

-- ---- scores

pub bad-gone : (ps : List Point) (t : Tet) → t.a ≡ 4294967295 → false ≡ bad_in ps t
unfolding bad_in
bad-gone ps t e = sym (rw (eq-eqb t.a 4294967295 e) refl)

pub bad-is : (ps : List Point) (t : Tet) (r : Bool) → (t.a ≡ 4294967295 → ⊥)
    → r ≡ is_bad (measure ps) t → r ≡ bad_in ps t
unfolding bad_in
bad-is ps t r n e = e ∙ sym (rw (ne_eqb t.a 4294967295 n) refl)

-- ---- the loop

shape-vertices : (ts : List Tet) → Shape 4 (length ts) (map vertices_of ts)
shape-vertices [] = none
shape-vertices (t ∷ ts) = more refl (shape-vertices ts)

keep_snoc : (p : Tet → Bool) (l : List Tet) (x : Tet) → keep p (l ++ (x ∷ [])) ≡ keep p l ++ cond (p x) (x ∷ []) []
keep_snoc p [] x = elim (split (p x)) [ inl e ↦ rw e refl | inr e ↦ rw e refl ]
keep_snoc p (y ∷ l) x = elim (split (p y)) [ inl e ↦ rw e (ap (λ (u : List Tet). y ∷ u) (keep_snoc p l x)) | inr e ↦ rw e (keep_snoc p l x) ]

pub keep-few : (p : Tet → Bool) (l : List Tet) → length (keep p l) ≤ length l
keep-few p [] = omega arith
keep-few p (y ∷ l) = let h = keep-few p l in elim (split (p y)) [ inl e ↦ rw e (omega arith) | inr e ↦ rw e (omega arith) ]

-- what holds at the head of the loop: the bad ones of the first e slots are gathered
pub record Gathering (p : Tet → Bool) (n : ℕ) (s₀ s : List ℕ) (k e : ℕ) : Type 0 where
  pub bound : e ≤ n
  pub number : k ≡ length (keep p (take e (tets n s₀)))
  pub few : k ≤ e
  pub area : s ≡ stacked (map vertices_of (keep p (take e (tets n s₀)))) 4 (4 * n) s₀

module _ (p : Tet → Bool) (n : ℕ) (s₀ : List ℕ) (room : 32 * n ≤ length s₀) where
  pub gather-start : Gathering p n s₀ s₀ 0 0
  gather-start = record { bound = omega arith; number = refl; few = omega arith; area = stack-start 4 (4 * n) s₀ }

  module _ {s : List ℕ} {k e : ℕ} (g : Gathering p n s₀ s k e) where
    pub gather-kept : KeptBelow (4 * n) s₀ s
    gather-kept =
        subst (KeptBelow (4 * n) s₀) (sym g.area)
        (stack-kept (length (keep p (take e (tets n s₀)))) (shape-vertices (keep p (take e (tets n s₀)))) (4 * n) s₀ (omega arith) (omega (arith, g.number, g.few, g.bound)))

    module _ (h : e < n) {t : Tet} (r : t ≡ tet_at s e) where
      next : take (e + 1) (tets n s₀) ≡ take e (tets n s₀) ++ (t ∷ [])
      next =
          ap (λ (u : ℕ). take u (tets n s₀)) (add-one e) ∙ take-suc (tets n s₀) e (tet 0 0 0 0) (omega (arith, length-tets n s₀))
          ∙ ap (λ (u : Tet). take e (tets n s₀) ++ (u ∷ [])) (tets-at n s₀ e (tet 0 0 0 0) h ∙ sym (r ∙ tet-kept s₀ s n e gather-kept.front h))

      kept_next : (b : Bool) → p t ≡ b → keep p (take (e + 1) (tets n s₀)) ≡ keep p (take e (tets n s₀)) ++ cond b (t ∷ []) []
      kept_next b q = ap (keep p) next ∙ keep_snoc p (take e (tets n s₀)) t ∙ ap (λ (u : Bool). keep p (take e (tets n s₀)) ++ cond u (t ∷ []) []) q

      -- it is bad
      pub gather-more : p t ≡ true → (s' : List ℕ) → s' ≡ paste s (4 * n + 4 * k) (vertices_of t) 4 → Gathering p n s₀ s' (k + 1) (e + 1)
      gather-more q s' f =
          let w = kept_next true q in
          let l = keep p (take e (tets n s₀)) in
          let m : paste s (4 * n + 4 * k) (vertices_of t) 4 ≡ paste s (4 * n + 4 * length l) (vertices_of t) 4 = ap (λ (u : ℕ). paste s (4 * n + 4 * u) (vertices_of t) 4) g.number in
          record {
            bound = omega arith;
            number = ap (λ (u : ℕ). u + 1) g.number ∙ sym (ap length w ∙ length-append l (t ∷ []));
            few = omega (arith, g.few);
            area =
                stack-turn (length l) (shape-vertices l) (4 * n) s₀ (omega arith) s s' (vertices_of t) g.area refl (f ∙ m)
                ∙ ap (λ (u : List (List ℕ)). stacked u 4 (4 * n) s₀) (sym (ap (map vertices_of) w ∙ map-append vertices_of l (t ∷ [])));
          }

      -- it is not
      pub gather-less : p t ≡ false → Gathering p n s₀ s k (e + 1)
      gather-less q =
          let l = keep p (take e (tets n s₀)) in
          let w : keep p (take (e + 1) (tets n s₀)) ≡ l = kept_next false q ∙ append-nil l in
          record {
            bound = omega arith;
            number = g.number ∙ ap length (sym w);
            few = omega (arith, g.few);
            area = g.area ∙ ap (λ (u : List Tet). stacked (map vertices_of u) 4 (4 * n) s₀) (sym w);
          }

    pub gather-end : n ≤ e → (k ≡ length (keep p (tets n s₀))) × (s ≡ stacked (map vertices_of (keep p (tets n s₀))) 4 (4 * n) s₀)
    gather-end h =
        let w : take e (tets n s₀) ≡ tets n s₀ = take_all e (tets n s₀) (omega (arith, length-tets n s₀)) in
        (g.number ∙ ap (λ (u : List Tet). length (keep p u)) w, g.area ∙ ap (λ (u : List Tet). stacked (map vertices_of (keep p u)) 4 (4 * n) s₀) w)

  -- no more than slots
  pub gathered-few : length (keep p (tets n s₀)) ≤ n
  gathered-few = let h = keep-few p (tets n s₀) in omega (arith, length-tets n s₀)

  pub gathered-kept : (s : List ℕ) → s ≡ stacked (map vertices_of (keep p (tets n s₀))) 4 (4 * n) s₀ → KeptBelow (4 * n) s₀ s
  gathered-kept s e =
      subst (KeptBelow (4 * n) s₀) (sym e)
      (stack-kept (length (keep p (tets n s₀))) (shape-vertices (keep p (tets n s₀))) (4 * n) s₀ (omega arith) (omega (arith, gathered-few)))
