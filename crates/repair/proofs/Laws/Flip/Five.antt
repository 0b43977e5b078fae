-- Five different vertices, an edge a b and a face u v w. Both flips keep that at most two elements have a triangle: of the triangles of the
-- new elements those with the new edge, or the new face, were in no element before, and each of the others was in an element that goes.
-- Three elements about the edge with no other vertices may be flipped to two. Assumes nothing.
use mathlib.Core.Path.{◌≡◌, refl, sym, ap, subst}
use mathlib.Core.Logic.{inl, inr}
use mathlib.Core.Bool.{Bool, true, false, not, ◌||◌}
use mathlib.Core.List.{List, [], ◌∷◌, ◌++◌, Memᴰ}
use Prim.Native.Nat.{ℕ, ◌+◌, ◌≤◌}
use native.Mathlib.Omega.{arith}
use borrow.Author.Tests.{ne_eqb}
use lib.Dec.{eqb}
use Rattle.mesh.specs.Complex.{mem, sub, within, Nodup, Sub}
use Rattle.mesh.specs.inside.Complex.{star, Proper}
use Rattle.mesh.specs.inside.Moves.{Flippable23, Flippable32}
use Rattle.mesh.specs.Tests.{every}
use Rattle.mesh.proofs.Laws.Complex.Sets.{split, clash, nope, mem-nil, out-head, out-tail, Sub-cons, sub-elim, within-mono}
use Rattle.mesh.proofs.Laws.Complex.Sums.{bit}
use Rattle.mesh.proofs.Laws.Link.Closed.{AtMostTwo}
use Rattle.repair.proofs.Laws.Flip.Triangles.{Alike, sub_alike, others, star-cons, star-append, both, star-split, both_some, star-none, meet, lose, narrow, sum-three, sum_one, side}
use Rattle.repair.proofs.Laws.Flip.Owners.{third}
use Rattle.mesh.proofs.Laws.Numbers.{eqb_same}

module _ (a b u v w : ℕ) (five : Nodup (a ∷ b ∷ u ∷ v ∷ w ∷ [])) where
  a-b : eqb a b ≡ false
  a-b = ne_eqb a b (out-head a b (u ∷ v ∷ w ∷ []) five.0)

  b-a : eqb b a ≡ false
  b-a = ne_eqb b a (λ q. out-head a b (u ∷ v ∷ w ∷ []) five.0 (sym q))

  a-u : eqb a u ≡ false
  a-u = ne_eqb a u (out-head a u (v ∷ w ∷ []) (out-tail a b (u ∷ v ∷ w ∷ []) five.0))

  u-a : eqb u a ≡ false
  u-a = ne_eqb u a (λ q. out-head a u (v ∷ w ∷ []) (out-tail a b (u ∷ v ∷ w ∷ []) five.0) (sym q))

  a-v : eqb a v ≡ false
  a-v = ne_eqb a v (out-head a v (w ∷ []) (out-tail a u (v ∷ w ∷ []) (out-tail a b (u ∷ v ∷ w ∷ []) five.0)))

  v-a : eqb v a ≡ false
  v-a = ne_eqb v a (λ q. out-head a v (w ∷ []) (out-tail a u (v ∷ w ∷ []) (out-tail a b (u ∷ v ∷ w ∷ []) five.0)) (sym q))

  a-w : eqb a w ≡ false
  a-w = ne_eqb a w (out-head a w [] (out-tail a v (w ∷ []) (out-tail a u (v ∷ w ∷ []) (out-tail a b (u ∷ v ∷ w ∷ []) five.0))))

  w-a : eqb w a ≡ false
  w-a = ne_eqb w a (λ q. out-head a w [] (out-tail a v (w ∷ []) (out-tail a u (v ∷ w ∷ []) (out-tail a b (u ∷ v ∷ w ∷ []) five.0))) (sym q))

  b-u : eqb b u ≡ false
  b-u = ne_eqb b u (out-head b u (v ∷ w ∷ []) five.1.0)

  u-b : eqb u b ≡ false
  u-b = ne_eqb u b (λ q. out-head b u (v ∷ w ∷ []) five.1.0 (sym q))

  b-v : eqb b v ≡ false
  b-v = ne_eqb b v (out-head b v (w ∷ []) (out-tail b u (v ∷ w ∷ []) five.1.0))

  v-b : eqb v b ≡ false
  v-b = ne_eqb v b (λ q. out-head b v (w ∷ []) (out-tail b u (v ∷ w ∷ []) five.1.0) (sym q))

  b-w : eqb b w ≡ false
  b-w = ne_eqb b w (out-head b w [] (out-tail b v (w ∷ []) (out-tail b u (v ∷ w ∷ []) five.1.0)))

  w-b : eqb w b ≡ false
  w-b = ne_eqb w b (λ q. out-head b w [] (out-tail b v (w ∷ []) (out-tail b u (v ∷ w ∷ []) five.1.0)) (sym q))

  u-v : eqb u v ≡ false
  u-v = ne_eqb u v (out-head u v (w ∷ []) five.1.1.0)

  v-u : eqb v u ≡ false
  v-u = ne_eqb v u (λ q. out-head u v (w ∷ []) five.1.1.0 (sym q))

  u-w : eqb u w ≡ false
  u-w = ne_eqb u w (out-head u w [] (out-tail u v (w ∷ []) five.1.1.0))

  w-u : eqb w u ≡ false
  w-u = ne_eqb w u (λ q. out-head u w [] (out-tail u v (w ∷ []) five.1.1.0) (sym q))

  v-w : eqb v w ≡ false
  v-w = ne_eqb v w (out-head v w [] five.1.1.1.0)

  w-v : eqb w v ≡ false
  w-v = ne_eqb w v (λ q. out-head v w [] five.1.1.1.0 (sym q))

  ruleset known = (eqb_same, a-b, b-a, a-u, u-a, a-v, v-a, a-w, w-a, b-u, u-b, b-v, v-b, b-w, w-b, u-v, v-u, u-w, w-u, v-w, w-v)

  -- two to three
  pub thin23 : (es : List (List ℕ)) → Flippable23 a b u v w es → AtMostTwo es → (x y z : List ℕ) → Alike x (a ∷ b ∷ u ∷ v ∷ []) → Alike y (a ∷ b ∷ v ∷ w ∷ []) → Alike z (a ∷ b ∷ w ∷ u ∷ [])
      → AtMostTwo (others (u ∷ v ∷ w ∷ []) es ++ x ∷ y ∷ z ∷ [])
  thin23 es c thin x y z ex ey ez τ l d = subst (λ n. n ≤ 2) (sym count) (elim (split (mem a τ)) [
    | inl ha ↦ elim (split (mem b τ)) [ inl hb ↦ edge ha hb | inr hb ↦ at_a_lem hb ]
    | inr ha ↦ at-b ha
  ])
    where
      R : List (List ℕ)
      R = others (u ∷ v ∷ w ∷ []) es

      p : Bool
      p = sub τ (a ∷ b ∷ u ∷ v ∷ [])

      q : Bool
      q = sub τ (a ∷ b ∷ v ∷ w ∷ [])

      r : Bool
      r = sub τ (a ∷ b ∷ w ∷ u ∷ [])

      nil : star τ [] ≡ 0
      nil = unfold star in refl

      count : star τ (R ++ x ∷ y ∷ z ∷ []) ≡ star τ R + (bit p + (bit q + (bit r + 0)))
      count =
          omega (
            arith,
            star-append τ R (x ∷ y ∷ z ∷ []),
            star-cons τ x (y ∷ z ∷ []),
            star-cons τ y (z ∷ []),
            star-cons τ z [],
            nil,
            ap bit (sub_alike τ x (a ∷ b ∷ u ∷ v ∷ []) ex),
            ap bit (sub_alike τ y (a ∷ b ∷ v ∷ w ∷ []) ey),
            ap bit (sub_alike τ z (a ∷ b ∷ w ∷ u ∷ []) ez),
          )

      edge : mem a τ ≡ true → mem b τ ≡ true → star τ R + (bit p + (bit q + (bit r + 0))) ≤ 2
      edge ha hb =
          let gone : within τ es ≡ false = nope (λ k. clash (within-mono (a ∷ b ∷ []) τ es (Sub-cons a (b ∷ []) τ ha (Sub-cons b [] τ hb (λ i m. absurd (mem-nil i m)))) k) c.free) in
          omega (
            arith,
            star-none τ es gone,
            star-split τ (u ∷ v ∷ w ∷ []) es,
            sum-three p q r (λ i j k.
                narrow τ l d a b (meet τ (a ∷ b ∷ v ∷ []) (a ∷ b ∷ w ∷ u ∷ []) (a ∷ b ∷ []) (simp known)
                (meet τ (a ∷ b ∷ u ∷ v ∷ []) (a ∷ b ∷ v ∷ w ∷ []) (a ∷ b ∷ v ∷ []) (simp known) (sub-elim τ (a ∷ b ∷ u ∷ v ∷ []) i) (sub-elim τ (a ∷ b ∷ v ∷ w ∷ []) j))
                (sub-elim τ (a ∷ b ∷ w ∷ u ∷ []) k))),
          )

      at_a_lem : mem b τ ≡ false → star τ R + (bit p + (bit q + (bit r + 0))) ≤ 2
      at_a_lem o =
          side a u v w (simp known, (simp known, (simp known, (refl, tt)))) τ l d es c.at_a thin p q r
          (λ h. lose τ b (a ∷ b ∷ u ∷ v ∷ []) (a ∷ u ∷ v ∷ []) o (simp known) (sub-elim τ (a ∷ b ∷ u ∷ v ∷ []) h))
          (λ h. lose τ b (a ∷ b ∷ v ∷ w ∷ []) (a ∷ v ∷ w ∷ []) o (simp known) (sub-elim τ (a ∷ b ∷ v ∷ w ∷ []) h))
          (λ h. lose τ b (a ∷ b ∷ w ∷ u ∷ []) (a ∷ w ∷ u ∷ []) o (simp known) (sub-elim τ (a ∷ b ∷ w ∷ u ∷ []) h))

      at-b : mem a τ ≡ false → star τ R + (bit p + (bit q + (bit r + 0))) ≤ 2
      at-b o =
          side b u v w (simp known, (simp known, (simp known, (refl, tt)))) τ l d es c.at_b thin p q r
          (λ h. lose τ a (a ∷ b ∷ u ∷ v ∷ []) (b ∷ u ∷ v ∷ []) o (simp known) (sub-elim τ (a ∷ b ∷ u ∷ v ∷ []) h))
          (λ h. lose τ a (a ∷ b ∷ v ∷ w ∷ []) (b ∷ v ∷ w ∷ []) o (simp known) (sub-elim τ (a ∷ b ∷ v ∷ w ∷ []) h))
          (λ h. lose τ a (a ∷ b ∷ w ∷ u ∷ []) (b ∷ w ∷ u ∷ []) o (simp known) (sub-elim τ (a ∷ b ∷ w ∷ u ∷ []) h))

  -- three to two
  pub thin32 : (es : List (List ℕ)) → Flippable32 a b u v w es → AtMostTwo es → (x y : List ℕ) → Alike x (u ∷ v ∷ w ∷ a ∷ []) → Alike y (u ∷ v ∷ w ∷ b ∷ [])
      → AtMostTwo (others (a ∷ b ∷ []) es ++ x ∷ y ∷ [])
  thin32 es c thin x y ex ey τ l d = subst (λ n. n ≤ 2) (sym count) (elim (split (mem u τ)) [
    | inl hu ↦ elim (split (mem v τ)) [ inl hv ↦ elim (split (mem w τ)) [ inl hw ↦ face hu hv hw | inr o ↦ at-uv o ] | inr o ↦ at-wu o ]
    | inr o ↦ at-vw o
  ])
    where
      R : List (List ℕ)
      R = others (a ∷ b ∷ []) es

      p : Bool
      p = sub τ (u ∷ v ∷ w ∷ a ∷ [])

      q : Bool
      q = sub τ (u ∷ v ∷ w ∷ b ∷ [])

      nil : star τ [] ≡ 0
      nil = unfold star in refl

      count : star τ (R ++ x ∷ y ∷ []) ≡ star τ R + (bit p + (bit q + 0))
      count =
          omega (
            arith,
            star-append τ R (x ∷ y ∷ []),
            star-cons τ x (y ∷ []),
            star-cons τ y [],
            nil,
            ap bit (sub_alike τ x (u ∷ v ∷ w ∷ a ∷ []) ex),
            ap bit (sub_alike τ y (u ∷ v ∷ w ∷ b ∷ []) ey),
          )

      face : mem u τ ≡ true → mem v τ ≡ true → mem w τ ≡ true → star τ R + (bit p + (bit q + 0)) ≤ 2
      face hu hv hw =
          let gone : within τ es ≡ false = nope (λ k.
          clash (within-mono (u ∷ v ∷ w ∷ []) τ es (Sub-cons u (v ∷ w ∷ []) τ hu (Sub-cons v (w ∷ []) τ hv (Sub-cons w [] τ hw (λ i m. absurd (mem-nil i m))))) k) c.free) in
          omega (arith, star-none τ es gone, star-split τ (a ∷ b ∷ []) es, sum-three p q false (λ i j k. clash k refl))

      at : (i j : ℕ) → within (a ∷ b ∷ i ∷ j ∷ []) es ≡ true → sub (i ∷ j ∷ a ∷ []) (a ∷ b ∷ i ∷ j ∷ []) ≡ true → sub (i ∷ j ∷ b ∷ []) (a ∷ b ∷ i ∷ j ∷ []) ≡ true
          → every (λ k. not (mem k (i ∷ j ∷ b ∷ [])) || mem k (i ∷ j ∷ [])) (i ∷ j ∷ a ∷ []) ≡ true
          → (p ≡ true → Sub τ (i ∷ j ∷ a ∷ [])) → (q ≡ true → Sub τ (i ∷ j ∷ b ∷ [])) → star τ R + (bit p + (bit q + 0)) ≤ 2
      at i j h ia ib m hp hq =
          let k = sum_one (both τ (a ∷ b ∷ []) es) (star τ R) p q false
          (λ s t. narrow τ l d i j (meet τ (i ∷ j ∷ a ∷ []) (i ∷ j ∷ b ∷ []) (i ∷ j ∷ []) m (hp s) (hq t))) (λ s t. clash t refl) (λ s t. clash t refl)
          (λ s. both_some τ (a ∷ b ∷ []) (a ∷ b ∷ i ∷ j ∷ []) es h (λ x n. sub-elim (i ∷ j ∷ a ∷ []) (a ∷ b ∷ i ∷ j ∷ []) ia x (hp s x n)) (sub-elim (a ∷ b ∷ []) (a ∷ b ∷ i ∷ j ∷ []) (simp known)))
          (λ s. both_some τ (a ∷ b ∷ []) (a ∷ b ∷ i ∷ j ∷ []) es h (λ x n. sub-elim (i ∷ j ∷ b ∷ []) (a ∷ b ∷ i ∷ j ∷ []) ib x (hq s x n)) (sub-elim (a ∷ b ∷ []) (a ∷ b ∷ i ∷ j ∷ []) (simp known)))
          (λ s. absurd (clash s refl)) (let t = thin τ l d in omega (arith, star-split τ (a ∷ b ∷ []) es)) in
          omega arith

      at-uv : mem w τ ≡ false → star τ R + (bit p + (bit q + 0)) ≤ 2
      at-uv o =
          at u v c.at_uv (simp known) (simp known) (simp known)
          (λ h. lose τ w (u ∷ v ∷ w ∷ a ∷ []) (u ∷ v ∷ a ∷ []) o (simp known) (sub-elim τ (u ∷ v ∷ w ∷ a ∷ []) h))
          (λ h. lose τ w (u ∷ v ∷ w ∷ b ∷ []) (u ∷ v ∷ b ∷ []) o (simp known) (sub-elim τ (u ∷ v ∷ w ∷ b ∷ []) h))

      at-vw : mem u τ ≡ false → star τ R + (bit p + (bit q + 0)) ≤ 2
      at-vw o =
          at v w c.at_vw (simp known) (simp known) (simp known)
          (λ h. lose τ u (u ∷ v ∷ w ∷ a ∷ []) (v ∷ w ∷ a ∷ []) o (simp known) (sub-elim τ (u ∷ v ∷ w ∷ a ∷ []) h))
          (λ h. lose τ u (u ∷ v ∷ w ∷ b ∷ []) (v ∷ w ∷ b ∷ []) o (simp known) (sub-elim τ (u ∷ v ∷ w ∷ b ∷ []) h))

      at-wu : mem v τ ≡ false → star τ R + (bit p + (bit q + 0)) ≤ 2
      at-wu o =
          at w u c.at_wu (simp known) (simp known) (simp known)
          (λ h. lose τ v (u ∷ v ∷ w ∷ a ∷ []) (w ∷ u ∷ a ∷ []) o (simp known) (sub-elim τ (u ∷ v ∷ w ∷ a ∷ []) h))
          (λ h. lose τ v (u ∷ v ∷ w ∷ b ∷ []) (w ∷ u ∷ b ∷ []) o (simp known) (sub-elim τ (u ∷ v ∷ w ∷ b ∷ []) h))

  -- three elements about the edge
  pub flippable32 : (n : ℕ) (es : List (List ℕ)) → Proper n es → star (a ∷ b ∷ []) es ≡ 3
      → ((e : List ℕ) → Memᴰ e es → sub (a ∷ b ∷ []) e ≡ true → Sub e (a ∷ b ∷ u ∷ v ∷ w ∷ [])) → within (u ∷ v ∷ w ∷ []) es ≡ false → Flippable32 a b u v w es
  flippable32 n es P three all free = record {
    five = five;
    at_uv = third n a b u v w es P three (simp known, (simp known, (simp known, (refl, tt)))) (simp known, (simp known, (simp known, (refl, tt)))) (simp known) (simp known) (simp known) all;
    at_vw = third n a b v w u es P three (simp known, (simp known, (simp known, (refl, tt)))) (simp known, (simp known, (simp known, (refl, tt)))) (simp known) (simp known) (simp known)
        (λ e m h z i. sub-elim (a ∷ b ∷ u ∷ v ∷ w ∷ []) (a ∷ b ∷ v ∷ w ∷ u ∷ []) (simp known) z (all e m h z i));
    at_wu = third n a b w u v es P three (simp known, (simp known, (simp known, (refl, tt)))) (simp known, (simp known, (simp known, (refl, tt)))) (simp known) (simp known) (simp known)
        (λ e m h z i. sub-elim (a ∷ b ∷ u ∷ v ∷ w ∷ []) (a ∷ b ∷ w ∷ u ∷ v ∷ []) (simp known) z (all e m h z i));
    only = three;
    free = free;
  }
