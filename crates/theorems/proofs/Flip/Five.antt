-- Five different vertices a b u v w. A triangle of them lies in two of the five elements that leave out one vertex each, and any other
-- triangle in none of those. So both flips leave as it is whether a triangle lies in exactly one element. Assumes nothing.
use mathlib.Core.Path.{◌≡◌, refl, sym, ap, subst, ◌∙◌}
use mathlib.Core.Logic.{inl, inr}
use mathlib.Core.Bool.{Bool, true, false, not, or-true}
use mathlib.Core.List.Memᴰ
use mathlib.Core.List.{List, [], ◌∷◌, Memᴰ}
use Prim.Native.Nat.{ℕ, ◌+◌, ◌*◌, ◌≤◌, ◌<◌}
use native.Mathlib.Omega.{arith}
use borrow.Author.Tests.{eqb-true, eq-eqb, not-true}
use lib.Dec.{eqb}
use lib.ListN.{length}
use Rattle.mesh.specs.Complex.{mem, sub, within, keep, Nodup, Sub}
use Rattle.mesh.specs.inside.Complex.{star, Proper, SameComplex}
use Rattle.mesh.specs.inside.Moves.{flip23, flip32, Flippable23, Flippable32}
use Rattle.mesh.proofs.Laws.Numbers.{eqb_same}
use Rattle.mesh.proofs.Laws.Complex.Sets.{split, clash, nope, same, and-snd, mem-cases, apart, sub-elim, sub-intro, short, keep-mem, keep-nodup}
use Rattle.mesh.proofs.Laws.Complex.Sums.{bit}
use Rattle.mesh.proofs.Laws.Complex.Flip.{two-of, three-of, proper2, proper3, flip23-proper, flip32-proper}
use Rattle.mesh.proofs.Laws.Link.Closed.{AtMostTwo}
use Rattle.mesh.proofs.Laws.Link.Keys.{keep-cons, bit_not}
use Rattle.mesh.proofs.Laws.Link.Order.{star-complex}
use Rattle.repair.proofs.Laws.Flip.Triangles.{star-cons, star-append}
use Rattle.repair.proofs.Laws.Flip.Replace.{OneFlip, two-to-three, three-to-two}
use Rattle.theorems.proofs.Flip.Stars.{star-replaced}

-- a triangle lies in exactly one element of the one list where it does in the other
abbrev pub SameBoundary : List (List ℕ) → List (List ℕ) → Type 0
SameBoundary es fs = (τ : List ℕ) → length τ ≡ 3 → Nodup τ → eqb (star τ es) 1 ≡ eqb (star τ fs) 1

-- for membership of a vertex in a list that names it
ruleset named = (eqb_same, or-true)

-- ---- the elements of five vertices

module _ (a b u v w : ℕ) (d : Nodup (a ∷ b ∷ u ∷ v ∷ w ∷ [])) (τ : List ℕ) (l : length τ ≡ 3) (n : Nodup τ) where
  abbrev five : List ℕ
  five = a ∷ b ∷ u ∷ v ∷ w ∷ []

  -- the element without x has a triangle of the five exactly if the triangle lacks x
  lacking : (x : ℕ) (φ : List ℕ) → length φ ≡ 4 → sub five (x ∷ φ) ≡ true → Sub τ five → sub τ φ ≡ not (mem x τ)
  lacking x φ four c s =
      same
      (λ h. ap not (nope (λ m. clash (sub-elim τ φ h x m) out)))
      (λ h. sub-intro τ φ (λ z m. elim (mem-cases z x φ (sub-elim five (x ∷ φ) c z (s z m))) [
        | inl e ↦ absurd (apart z x τ m (not-true (mem x τ) h) e)
        | inr i ↦ i
      ]))
    where
      out : mem x φ ≡ false
      out = nope (λ m.
          let r = short five φ d (λ z i. elim (mem-cases z x φ (sub-elim five (x ∷ φ) c z i)) [ inl e ↦ subst (λ y. mem y φ ≡ true) (sym e) m | inr j ↦ j ]) in
          omega arith)

  -- and no triangle with another vertex
  beyond : (φ : List ℕ) → sub φ five ≡ true → sub τ five ≡ false → sub τ φ ≡ false
  beyond φ i o = nope (λ h. clash (sub-intro τ five (λ z m. sub-elim φ five i z (sub-elim τ φ h z m))) o)

  -- three of the five are those of the triangle
  three : Sub τ five → length (keep (λ x. mem x τ) five) ≡ 3
  three s =
      omega (
        arith,
        short τ (keep (λ x. mem x τ) five) n (λ z m. keep-mem (λ x. mem x τ) five z ∙ rw (s z m, m) refl),
        short (keep (λ x. mem x τ) five) τ (keep-nodup (λ x. mem x τ) five d) (λ z m. and-snd (mem z five) (mem z τ) (sym (keep-mem (λ x. mem x τ) five z) ∙ m)),
      )

  nil : star τ [] ≡ 0
  nil = unfold star in refl

  -- two of the elements have the triangle, or none
  five-even : (j : ℕ) × (star τ (two-of a b u v w []) + star τ (three-of a b u v w []) ≡ 2 * j)
  five-even = elim (split (sub τ five)) [ inl h ↦ (1, inside (sub-elim τ five h)) | inr h ↦ (0, outside h) ]
    where
      inside : Sub τ five → star τ (two-of a b u v w []) + star τ (three-of a b u v w []) ≡ 2 * 1
      inside s =
          let p : ℕ → Bool = λ x. mem x τ in
          omega (
            arith,
            nil,
            star-cons τ (u ∷ v ∷ w ∷ a ∷ []) ((u ∷ v ∷ w ∷ b ∷ []) ∷ []),
            star-cons τ (u ∷ v ∷ w ∷ b ∷ []) [],
            star-cons τ (a ∷ b ∷ u ∷ v ∷ []) ((a ∷ b ∷ v ∷ w ∷ []) ∷ (a ∷ b ∷ w ∷ u ∷ []) ∷ []),
            star-cons τ (a ∷ b ∷ v ∷ w ∷ []) ((a ∷ b ∷ w ∷ u ∷ []) ∷ []),
            star-cons τ (a ∷ b ∷ w ∷ u ∷ []) [],
            ap bit (lacking b (u ∷ v ∷ w ∷ a ∷ []) refl (simp named) s),
            ap bit (lacking a (u ∷ v ∷ w ∷ b ∷ []) refl (simp named) s),
            ap bit (lacking w (a ∷ b ∷ u ∷ v ∷ []) refl (simp named) s),
            ap bit (lacking u (a ∷ b ∷ v ∷ w ∷ []) refl (simp named) s),
            ap bit (lacking v (a ∷ b ∷ w ∷ u ∷ []) refl (simp named) s),
            bit_not (mem a τ),
            bit_not (mem b τ),
            bit_not (mem u τ),
            bit_not (mem v τ),
            bit_not (mem w τ),
            keep-cons p a (b ∷ u ∷ v ∷ w ∷ []),
            keep-cons p b (u ∷ v ∷ w ∷ []),
            keep-cons p u (v ∷ w ∷ []),
            keep-cons p v (w ∷ []),
            keep-cons p w [],
            three s,
          )

      outside : sub τ five ≡ false → star τ (two-of a b u v w []) + star τ (three-of a b u v w []) ≡ 2 * 0
      outside o =
          omega (
            arith,
            nil,
            star-cons τ (u ∷ v ∷ w ∷ a ∷ []) ((u ∷ v ∷ w ∷ b ∷ []) ∷ []),
            star-cons τ (u ∷ v ∷ w ∷ b ∷ []) [],
            star-cons τ (a ∷ b ∷ u ∷ v ∷ []) ((a ∷ b ∷ v ∷ w ∷ []) ∷ (a ∷ b ∷ w ∷ u ∷ []) ∷ []),
            star-cons τ (a ∷ b ∷ v ∷ w ∷ []) ((a ∷ b ∷ w ∷ u ∷ []) ∷ []),
            star-cons τ (a ∷ b ∷ w ∷ u ∷ []) [],
            ap bit (beyond (u ∷ v ∷ w ∷ a ∷ []) (simp named) o),
            ap bit (beyond (u ∷ v ∷ w ∷ b ∷ []) (simp named) o),
            ap bit (beyond (a ∷ b ∷ u ∷ v ∷ []) (simp named) o),
            ap bit (beyond (a ∷ b ∷ v ∷ w ∷ []) (simp named) o),
            ap bit (beyond (a ∷ b ∷ w ∷ u ∷ []) (simp named) o),
          )

-- ---- a flip

-- of two numbers up to 2 with an even sum, one is 1 where the other is
both_one : (m k j : ℕ) → m ≤ 2 → k ≤ 2 → m + k ≡ 2 * j → eqb m 1 ≡ eqb k 1
both_one m k j p q e = same (λ h. let x = eqb-true m 1 h in eq-eqb k 1 (omega arith)) (λ h. let x = eqb-true k 1 h in eq-eqb m 1 (omega arith))

each_two : (P : List ℕ → Type 0) (x y : List ℕ) → P x → P y → (e : List ℕ) → Memᴰ e (x ∷ y ∷ []) → P e
each_two P x y p q e m = elim (Memᴰ.cases_cons m) [
  | inl h ↦ subst P (sym h) p
  | inr i ↦ elim (Memᴰ.cases_cons i) [ inl h ↦ subst P (sym h) q | inr j ↦ absurd (Memᴰ.not-nil j) ]
]

each_three : (P : List ℕ → Type 0) (x y z : List ℕ) → P x → P y → P z → (e : List ℕ) → Memᴰ e (x ∷ y ∷ z ∷ []) → P e
each_three P x y z p q r e m = elim (Memᴰ.cases_cons m) [ inl h ↦ subst P (sym h) p | inr i ↦ each_two P y z q r e i ]

module _ (n : ℕ) (es fs : List (List ℕ)) (P : Proper n es) (Q : Proper n fs) (few : AtMostTwo es) (few' : AtMostTwo fs) (a b u v w : ℕ) where
  flip23-boundary : Flippable23 a b u v w es → SameComplex (flip23 a b u v w es) fs → SameBoundary es fs
  flip23-boundary c same τ l d =
      let R = keep (λ e. not (sub (u ∷ v ∷ w ∷ []) e)) es in
      let F = flip23-proper a b u v w c.five n es P c in
      let low : (x : ℕ) → mem x (a ∷ b ∷ u ∷ v ∷ w ∷ []) ≡ true → x < n = λ x m.
      elim (mem-cases x w (a ∷ b ∷ u ∷ v ∷ []) (sub-elim (a ∷ b ∷ u ∷ v ∷ w ∷ []) (w ∷ a ∷ b ∷ u ∷ v ∷ []) (simp named) x m)) [
        | inl e ↦ F.2.0.below x (subst (λ y. mem y (a ∷ b ∷ v ∷ w ∷ []) ≡ true) (sym e) (simp named))
        | inr i ↦ F.0.below x i
      ] in
      let old = star-replaced n τ (u ∷ v ∷ w ∷ []) (two-of a b u v w []) es P (proper2 a b u v w c.five n low [] tt refl refl) c.only
      (each_two (λ e. within e es ≡ true) (u ∷ v ∷ w ∷ a ∷ []) (u ∷ v ∷ w ∷ b ∷ []) c.at_a c.at_b)
      (each_two (λ e. sub (u ∷ v ∷ w ∷ []) e ≡ true) (u ∷ v ∷ w ∷ a ∷ []) (u ∷ v ∷ w ∷ b ∷ []) (simp named) (simp named)) in
      let new = sym (star-complex n τ (flip23 a b u v w es) fs F Q same) ∙ star-append τ (three-of a b u v w []) R in
      let even = five-even a b u v w c.five τ l d in
      both_one (star τ es) (star τ fs) (even.0 + star τ R) (few τ l d) (few' τ l d) (let s = even.1 in omega arith)

  flip32-boundary : Flippable32 a b u v w es → SameComplex (flip32 a b u v w es) fs → SameBoundary es fs
  flip32-boundary c same τ l d =
      let R = keep (λ e. not (sub (a ∷ b ∷ []) e)) es in
      let F = flip32-proper a b u v w c.five n es P c in
      let low : (x : ℕ) → mem x (a ∷ b ∷ u ∷ v ∷ w ∷ []) ≡ true → x < n = λ x m.
      elim (mem-cases x b (u ∷ v ∷ w ∷ a ∷ []) (sub-elim (a ∷ b ∷ u ∷ v ∷ w ∷ []) (b ∷ u ∷ v ∷ w ∷ a ∷ []) (simp named) x m)) [
        | inl e ↦ F.2.0.below x (subst (λ y. mem y (u ∷ v ∷ w ∷ b ∷ []) ≡ true) (sym e) (simp named))
        | inr i ↦ F.0.below x i
      ] in
      let old = star-replaced n τ (a ∷ b ∷ []) (three-of a b u v w []) es P (proper3 a b u v w c.five n low [] tt refl refl) c.only
      (each_three (λ e. within e es ≡ true) (a ∷ b ∷ u ∷ v ∷ []) (a ∷ b ∷ v ∷ w ∷ []) (a ∷ b ∷ w ∷ u ∷ []) c.at_uv c.at_vw c.at_wu)
      (each_three (λ e. sub (a ∷ b ∷ []) e ≡ true) (a ∷ b ∷ u ∷ v ∷ []) (a ∷ b ∷ v ∷ w ∷ []) (a ∷ b ∷ w ∷ u ∷ []) (simp named) (simp named) (simp named)) in
      let new = sym (star-complex n τ (flip32 a b u v w es) fs F Q same) ∙ star-append τ (two-of a b u v w []) R in
      let even = five-even a b u v w c.five τ l d in
      both_one (star τ es) (star τ fs) (even.0 + star τ R) (few τ l d) (few' τ l d) (let s = even.1 in omega arith)

-- one flip keeps the boundary
pub flip-boundary : (n : ℕ) (es fs : List (List ℕ)) → Proper n es → Proper n fs → AtMostTwo es → AtMostTwo fs → OneFlip es fs → SameBoundary es fs
flip-boundary n es fs P Q few few' (two-to-three a b u v w c same) = flip23-boundary n es fs P Q few few' a b u v w c same
flip-boundary n es fs P Q few few' (three-to-two a b u v w c same) = flip32-boundary n es fs P Q few few' a b u v w c same
