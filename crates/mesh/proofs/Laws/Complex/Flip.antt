-- The two-to-three flip and the three-to-two flip keep the alternating count, and leave proper lists of elements.
-- Assumes nothing.
use Rattle.std.proofs.Common.{◌≡◌, ℕ, ◌+◌, ◌<◌, ◌≤◌, Bool, true, false, not, ◌&&◌, ◌||◌, eqb, ◌≢◌, List, [], ◌∷◌, ◌++◌, length, sym, refl, ap, ◌∙◌, ap₂, inl, inr, true≢false, arith, ne_eqb, eqb-true}
use mathlib.Core.Bool.{or-false, or_self_left}
use mathlib.Core.List.Memᴰ
use mathlib.Core.List.{Memᴰ}
use borrow.Author.Tests.{not-true}
use Rattle.mesh.specs.Complex.{mem, sub, within, keep, up_to, faces, Nodup, Sub}
use Rattle.mesh.specs.inside.Complex.{star, IsElement, Proper, SameCount, SameComplex}
use Rattle.mesh.specs.inside.Moves.{flip23, flip32, Flippable23, Flippable32}
use Rattle.mesh.proofs.Laws.Complex.Sets.{split, clash, nope, or_left, or_right, mem-here, mem-there, mem-cases, mem-nil, out, out-head, out-tail, apart, Sub-cons, Sub-both, sub-elim, sub-intro, within-elim, within-intro, within-mono, rm, rm-out, rm-mem, rm-sub, rm-nodup}
use Rattle.mesh.proofs.Laws.Complex.Sums.{bit, total, ind, total-cong, total-add, total-zero, faces-total, Sym, Sym-ind, first, first_head}
use Rattle.mesh.proofs.Laws.Complex.Lists.{keep-elim, keep-intro, three-pass, four-pass}
use Rattle.mesh.proofs.Laws.Complex.Same.{same_count, proper-keep, within-keep}
use Rattle.mesh.proofs.Laws.Complex.Tets.{up_to-mem, up_to-nodup, tet-of, whole, faces-four, over}
use Rattle.mesh.proofs.Laws.Numbers.{eqb_same}

sub-cong : (σ e f : List ℕ) → ((z : ℕ) → mem z σ ≡ true → mem z e ≡ mem z f) → sub σ e ≡ sub σ f
sub-cong [] e f h = refl
sub-cong (x ∷ σ) e f h = ap₂ ◌&&◌ (h x (mem-here x σ)) (sub-cong σ e f (λ z m. h z (mem-there z x σ m)))

-- the boolean heart: s says that σ lies within v w, p that it lies within v, q that it lies within w
heart : (s p q ru rau rbu : Bool) → (p ≡ true → s ≡ true) → (q ≡ true → s ≡ true) → (s ≡ true → p ≡ false → q ≡ false → (ru ≡ false) × (rau ≡ false) × (rbu ≡ false)) → bit (p || (q || ru)) + bit (s || rau) + bit (s || rbu) + bit (p || q) ≡ bit (s || (s || ru)) + bit (p || (s || q)) + bit (p || (q || rau)) + bit (p || (q || rbu))
heart true true q ru rau rbu f g h = refl
heart true false true ru rau rbu f g h = refl
heart true false false ru rau rbu f g h = let k = h refl refl refl in rw (k.0, k.1, k.2) refl
heart false true q ru rau rbu f g h = absurd (true≢false (sym (f refl)))
heart false false true ru rau rbu f g h = absurd (true≢false (sym (g refl)))
heart false false false ru rau rbu f g h = omega arith

-- where p and q imply s they add nothing to it
absorb : (s p q r : Bool) → (p ≡ true → s ≡ true) → (q ≡ true → s ≡ true) → (p || (s || (q || r))) ≡ (s || r)
absorb true true q r f g = refl
absorb true false q r f g = refl
absorb false true q r f g = absurd (true≢false (sym (f refl)))
absorb false false true r f g = absurd (true≢false (sym (g refl)))
absorb false false false r f g = refl

total-add4 : (k : ℕ) (vs : List ℕ) (f g h i : List ℕ → ℕ) → total k vs (λ σ. f σ + g σ + h σ + i σ) ≡ total k vs f + total k vs g + total k vs h + total k vs i
total-add4 k vs f g h i =
    omega (arith, total-add k vs (λ σ. f σ + g σ + h σ) i, total-add k vs (λ σ. f σ + g σ) h, total-add k vs f g)

abbrev pub two-of : (a b u v w : ℕ) → List (List ℕ) → List (List ℕ)
two-of a b u v w R = (u ∷ v ∷ w ∷ a ∷ []) ∷ (u ∷ v ∷ w ∷ b ∷ []) ∷ R

abbrev pub three-of : (a b u v w : ℕ) → List (List ℕ) → List (List ℕ)
three-of a b u v w R = (a ∷ b ∷ u ∷ v ∷ []) ∷ (a ∷ b ∷ v ∷ w ∷ []) ∷ (a ∷ b ∷ w ∷ u ∷ []) ∷ R

-- the elements that do not contain σ
abbrev without : List ℕ → List (List ℕ) → List (List ℕ)
without σ es = keep (λ e. not (sub σ e)) es

without-none : (σ : List ℕ) (es : List (List ℕ)) → within σ (without σ es) ≡ false
without-none σ es = nope (λ h.
    let r = within-elim σ (without σ es) h in
    clash (sub-intro σ r.0 r.2) (not-true (sub σ r.0) (keep-elim (λ e. not (sub σ e)) r.0 es r.1).1))

without-still : (σ τ : List ℕ) (es : List (List ℕ)) → within τ es ≡ false → within τ (without σ es) ≡ false
without-still σ τ es h = nope (λ k. clash (within-keep (λ e. not (sub σ e)) τ es k) h)

-- a list is, but for the order, what contains σ and the rest
resplit : (σ : List ℕ) (new es : List (List ℕ)) → ((e : List ℕ) → Memᴰ e es → sub σ e ≡ true → within e new ≡ true) → ((e : List ℕ) → Memᴰ e new → within e es ≡ true) → SameComplex es (new ++ without σ es)
resplit σ new es h k = (
  (λ e m. elim (split (sub σ e)) [
    | inl s ↦ let r = within-elim e new (h e m s) in within-intro e (Memᴰ.append_left (without σ es) r.1) r.2
    | inr s ↦ within-intro e (Memᴰ.append_right new (keep-intro (λ f. not (sub σ f)) e es m (ap not s))) (λ z q. q)
  ]),
  (λ e m. elim (Memᴰ.append_cases new m) [
    | inl q ↦ k e q
    | inr q ↦ within-intro e (keep-elim (λ f. not (sub σ f)) e es q).0 (λ z t. t)
  ]),
)

-- an element that contains four different vertices has no others
inside : (n : ℕ) (τ e : List ℕ) → IsElement n e → length τ ≡ 4 → Nodup τ → sub τ e ≡ true → sub e τ ≡ true
inside n τ e t l d h = sub-intro e τ (whole τ t l d (sub-elim τ e h))

module _ (a b u v w : ℕ) (five : Nodup (a ∷ b ∷ u ∷ v ∷ w ∷ [])) where
  a≢b : a ≢ b
  a≢b = out-head a b (u ∷ v ∷ w ∷ []) five.0

  a-b : eqb a b ≡ false
  a-b = ne_eqb a b a≢b

  b-a : eqb b a ≡ false
  b-a = ne_eqb b a (λ q. a≢b (sym q))

  a≢u : a ≢ u
  a≢u = out-head a u (v ∷ w ∷ []) (out-tail a b (u ∷ v ∷ w ∷ []) five.0)

  a-u : eqb a u ≡ false
  a-u = ne_eqb a u a≢u

  u-a : eqb u a ≡ false
  u-a = ne_eqb u a (λ q. a≢u (sym q))

  a≢v : a ≢ v
  a≢v = out-head a v (w ∷ []) (out-tail a u (v ∷ w ∷ []) (out-tail a b (u ∷ v ∷ w ∷ []) five.0))

  a-v : eqb a v ≡ false
  a-v = ne_eqb a v a≢v

  v-a : eqb v a ≡ false
  v-a = ne_eqb v a (λ q. a≢v (sym q))

  a≢w : a ≢ w
  a≢w = out-head a w [] (out-tail a v (w ∷ []) (out-tail a u (v ∷ w ∷ []) (out-tail a b (u ∷ v ∷ w ∷ []) five.0)))

  a-w : eqb a w ≡ false
  a-w = ne_eqb a w a≢w

  w-a : eqb w a ≡ false
  w-a = ne_eqb w a (λ q. a≢w (sym q))

  b≢u : b ≢ u
  b≢u = out-head b u (v ∷ w ∷ []) five.1.0

  b-u : eqb b u ≡ false
  b-u = ne_eqb b u b≢u

  u-b : eqb u b ≡ false
  u-b = ne_eqb u b (λ q. b≢u (sym q))

  b≢v : b ≢ v
  b≢v = out-head b v (w ∷ []) (out-tail b u (v ∷ w ∷ []) five.1.0)

  b-v : eqb b v ≡ false
  b-v = ne_eqb b v b≢v

  v-b : eqb v b ≡ false
  v-b = ne_eqb v b (λ q. b≢v (sym q))

  b≢w : b ≢ w
  b≢w = out-head b w [] (out-tail b v (w ∷ []) (out-tail b u (v ∷ w ∷ []) five.1.0))

  b-w : eqb b w ≡ false
  b-w = ne_eqb b w b≢w

  w-b : eqb w b ≡ false
  w-b = ne_eqb w b (λ q. b≢w (sym q))

  u≢v : u ≢ v
  u≢v = out-head u v (w ∷ []) five.1.1.0

  u-v : eqb u v ≡ false
  u-v = ne_eqb u v u≢v

  v-u : eqb v u ≡ false
  v-u = ne_eqb v u (λ q. u≢v (sym q))

  u≢w : u ≢ w
  u≢w = out-head u w [] (out-tail u v (w ∷ []) five.1.1.0)

  u-w : eqb u w ≡ false
  u-w = ne_eqb u w u≢w

  w-u : eqb w u ≡ false
  w-u = ne_eqb w u (λ q. u≢w (sym q))

  v≢w : v ≢ w
  v≢w = out-head v w [] five.1.1.1.0

  v-w : eqb v w ≡ false
  v-w = ne_eqb v w v≢w

  w-v : eqb w v ≡ false
  w-v = ne_eqb w v (λ q. v≢w (sym q))

  ruleset known = (eqb_same, a-b, b-a, a-u, u-a, a-v, v-a, a-w, w-a, b-u, u-b, b-v, v-b, b-w, w-b, u-v, v-u, u-w, w-u, v-w, w-v)

  -- the two lists, over what they share
  module _ (n : ℕ) (low : (x : ℕ) → mem x (a ∷ b ∷ u ∷ v ∷ w ∷ []) ≡ true → x < n) (R : List (List ℕ)) (PR : Proper n R) (noab : within (a ∷ b ∷ []) R ≡ false) (nouvw : within (u ∷ v ∷ w ∷ []) R ≡ false) where
    abbrev L2 : List (List ℕ)
    L2 = two-of a b u v w R

    abbrev L3 : List (List ℕ)
    L3 = three-of a b u v w R

    -- both lists are proper
    not_in : (e f : List ℕ) (x : ℕ) → mem x e ≡ true → mem x f ≡ false → Sub e f → ⊥
    not_in e f x p q s = clash (s x p) q

    not-rest : (σ e : List ℕ) → within σ R ≡ false → sub σ e ≡ true → (f : List ℕ) → Memᴰ f R → Sub e f → ⊥
    not-rest σ e h k f m s = clash (within-intro σ m (λ z q. s z (sub-elim σ e k z q))) h

    tet : (e : List ℕ) → length e ≡ 4 → Nodup e → sub e (a ∷ b ∷ u ∷ v ∷ w ∷ []) ≡ true → IsElement n e
    tet e l d s = record { four = l; distinct = d; below = λ x m. low x (sub-elim e (a ∷ b ∷ u ∷ v ∷ w ∷ []) s x m) }

    pub proper2 : Proper n L2
    proper2 = (
      tet (u ∷ v ∷ w ∷ a ∷ []) refl (simp known, (simp known, (simp known, (refl, tt)))) (simp known),
      (λ f m s t. elim (Memᴰ.cases_cons m) [
        | inl q ↦ not_in (u ∷ v ∷ w ∷ a ∷ []) (u ∷ v ∷ w ∷ b ∷ []) a (simp known) (simp known) (rw q at s)
        | inr q ↦ not-rest (u ∷ v ∷ w ∷ []) (u ∷ v ∷ w ∷ a ∷ []) nouvw (simp known) f q s
      ]),
      (
        tet (u ∷ v ∷ w ∷ b ∷ []) refl (simp known, (simp known, (simp known, (refl, tt)))) (simp known),
        (λ f m s t. not-rest (u ∷ v ∷ w ∷ []) (u ∷ v ∷ w ∷ b ∷ []) nouvw (simp known) f m s),
        PR,
      ),
    )

    pub proper3 : Proper n L3
    proper3 = (
      tet (a ∷ b ∷ u ∷ v ∷ []) refl (simp known, (simp known, (simp known, (refl, tt)))) (simp known),
      (λ f m s t. elim (Memᴰ.cases_cons m) [
        | inl q ↦ not_in (a ∷ b ∷ u ∷ v ∷ []) (a ∷ b ∷ v ∷ w ∷ []) u (simp known) (simp known) (rw q at s)
        | inr m' ↦ elim (Memᴰ.cases_cons m') [
          | inl q ↦ not_in (a ∷ b ∷ u ∷ v ∷ []) (a ∷ b ∷ w ∷ u ∷ []) v (simp known) (simp known) (rw q at s)
          | inr q ↦ not-rest (a ∷ b ∷ []) (a ∷ b ∷ u ∷ v ∷ []) noab (simp known) f q s
        ]
      ]),
      (
        tet (a ∷ b ∷ v ∷ w ∷ []) refl (simp known, (simp known, (simp known, (refl, tt)))) (simp known),
        (λ f m s t. elim (Memᴰ.cases_cons m) [
          | inl q ↦ not_in (a ∷ b ∷ v ∷ w ∷ []) (a ∷ b ∷ w ∷ u ∷ []) v (simp known) (simp known) (rw q at s)
          | inr q ↦ not-rest (a ∷ b ∷ []) (a ∷ b ∷ v ∷ w ∷ []) noab (simp known) f q s
        ]),
        (
          tet (a ∷ b ∷ w ∷ u ∷ []) refl (simp known, (simp known, (simp known, (refl, tt)))) (simp known),
          (λ f m s t. not-rest (a ∷ b ∷ []) (a ∷ b ∷ w ∷ u ∷ []) noab (simp known) f m s),
          PR,
        ),
      ),
    )

    -- pointwise, for a set σ without a, b and u
    module _ (σ : List ℕ) (oa : mem a σ ≡ false) (ob : mem b σ ≡ false) (ou : mem u σ ≡ false) where
      za : (z : ℕ) → mem z σ ≡ true → eqb z a ≡ false
      za z m = ne_eqb z a (apart z a σ m oa)

      zb : (z : ℕ) → mem z σ ≡ true → eqb z b ≡ false
      zb z m = ne_eqb z b (apart z b σ m ob)

      zu : (z : ℕ) → mem z σ ≡ true → eqb z u ≡ false
      zu z m = ne_eqb z u (apart z u σ m ou)

      uvwa : sub σ (u ∷ v ∷ w ∷ a ∷ []) ≡ sub σ (v ∷ w ∷ [])
      uvwa = sub-cong σ (u ∷ v ∷ w ∷ a ∷ []) (v ∷ w ∷ []) (λ z m. simp (za z m, zu z m))

      uvwb : sub σ (u ∷ v ∷ w ∷ b ∷ []) ≡ sub σ (v ∷ w ∷ [])
      uvwb = sub-cong σ (u ∷ v ∷ w ∷ b ∷ []) (v ∷ w ∷ []) (λ z m. simp (zb z m, zu z m))

      abuv : sub σ (a ∷ b ∷ u ∷ v ∷ []) ≡ sub σ (v ∷ [])
      abuv = sub-cong σ (a ∷ b ∷ u ∷ v ∷ []) (v ∷ []) (λ z m. simp (za z m, zb z m, zu z m))

      abvw : sub σ (a ∷ b ∷ v ∷ w ∷ []) ≡ sub σ (v ∷ w ∷ [])
      abvw = sub-cong σ (a ∷ b ∷ v ∷ w ∷ []) (v ∷ w ∷ []) (λ z m. simp (za z m, zb z m))

      abwu : sub σ (a ∷ b ∷ w ∷ u ∷ []) ≡ sub σ (w ∷ [])
      abwu = sub-cong σ (a ∷ b ∷ w ∷ u ∷ []) (w ∷ []) (λ z m. simp (za z m, zb z m, zu z m))

      rab : within (a ∷ b ∷ σ) R ≡ false
      rab = nope (λ h. clash (within-mono (a ∷ b ∷ []) (a ∷ b ∷ σ) R (Sub-both a (b ∷ []) (b ∷ σ) (Sub-both b [] σ (λ z m. absurd (mem-nil z m)))) h) noab)

      rabu : within (a ∷ b ∷ u ∷ σ) R ≡ false
      rabu = nope (λ h. clash (within-mono (a ∷ b ∷ []) (a ∷ b ∷ u ∷ σ) R (Sub-both a (b ∷ []) (b ∷ u ∷ σ) (Sub-both b [] (u ∷ σ) (λ z m. absurd (mem-nil z m)))) h) noab)

      p→s : sub σ (v ∷ []) ≡ true → sub σ (v ∷ w ∷ []) ≡ true
      p→s h = sub-intro σ (v ∷ w ∷ []) (λ z m. elim (mem-cases z v [] (sub-elim σ (v ∷ []) h z m)) [ inl q ↦ rw q (mem-here v (w ∷ [])) | inr q ↦ absurd (mem-nil z q) ])

      q→s : sub σ (w ∷ []) ≡ true → sub σ (v ∷ w ∷ []) ≡ true
      q→s h = sub-intro σ (v ∷ w ∷ []) (λ z m. mem-there z v (w ∷ []) (sub-elim σ (w ∷ []) h z m))

      has-v : sub σ (v ∷ w ∷ []) ≡ true → sub σ (w ∷ []) ≡ false → mem v σ ≡ true
      has-v h k = elim (split (mem v σ)) [ inl m ↦ m | inr o ↦ absurd (clash (sym (sub-cong σ (v ∷ w ∷ []) (w ∷ []) (λ z m. rw (ne_eqb z v (apart z v σ m o)) refl)) ∙ h) k) ]

      has-w : sub σ (v ∷ w ∷ []) ≡ true → sub σ (v ∷ []) ≡ false → mem w σ ≡ true
      has-w h k = elim (split (mem w σ)) [ inl m ↦ m | inr o ↦ absurd (clash (sym (sub-cong σ (v ∷ w ∷ []) (v ∷ []) (λ z m. rw (ne_eqb z w (apart z w σ m o)) refl)) ∙ h) k) ]

      shut : (τ : List ℕ) → Sub (u ∷ σ) τ → mem v σ ≡ true → mem w σ ≡ true → within τ R ≡ false
      shut τ s hv hw = nope (λ h. clash (within-mono (u ∷ v ∷ w ∷ []) τ R
          (Sub-cons u (v ∷ w ∷ []) τ (s u (mem-here u σ)) (Sub-cons v (w ∷ []) τ (s v (mem-there v u σ hv)) (Sub-cons w [] τ (s w (mem-there w u σ hw)) (λ z m. absurd (mem-nil z m))))) h) nouvw)

      same-0 : within σ L3 ≡ within σ L2
      same-0 = simp (abuv, abvw, abwu, uvwa, uvwb, or_self_left) (absorb (sub σ (v ∷ w ∷ [])) (sub σ (v ∷ [])) (sub σ (w ∷ [])) (within σ R) p→s q→s)

      same-a : within (a ∷ σ) L3 ≡ within (a ∷ σ) L2
      same-a = simp (known, abuv, abvw, abwu, uvwa, uvwb) (absorb (sub σ (v ∷ w ∷ [])) (sub σ (v ∷ [])) (sub σ (w ∷ [])) (within (a ∷ σ) R) p→s q→s)

      same-b : within (b ∷ σ) L3 ≡ within (b ∷ σ) L2
      same-b = simp (known, abuv, abvw, abwu, uvwa, uvwb) (absorb (sub σ (v ∷ w ∷ [])) (sub σ (v ∷ [])) (sub σ (w ∷ [])) (within (b ∷ σ) R) p→s q→s)

      none-ab : within (a ∷ b ∷ σ) L2 ≡ false
      none-ab = simp (known, rab)

      none-abu : within (a ∷ b ∷ u ∷ σ) L2 ≡ false
      none-abu = simp (known, rabu)

      swap : ind L3 (u ∷ σ) + ind L2 (a ∷ u ∷ σ) + ind L2 (b ∷ u ∷ σ) + ind L3 (a ∷ b ∷ u ∷ σ) ≡ ind L2 (u ∷ σ) + ind L3 (a ∷ b ∷ σ) + ind L3 (a ∷ u ∷ σ) + ind L3 (b ∷ u ∷ σ)
      swap =
          simp (known, abuv, abvw, abwu, uvwa, uvwb, rab, rabu, or-false)
          (heart (sub σ (v ∷ w ∷ [])) (sub σ (v ∷ [])) (sub σ (w ∷ [])) (within (u ∷ σ) R) (within (a ∷ u ∷ σ) R) (within (b ∷ u ∷ σ) R) p→s q→s
          (λ h np nq. let hv = has-v h nq in let hw = has-w h np in
          (shut (u ∷ σ) (λ z m. m) hv hw, shut (a ∷ u ∷ σ) (λ z m. mem-there z a (u ∷ σ) m) hv hw, shut (b ∷ u ∷ σ) (λ z m. mem-there z b (u ∷ σ) m) hv hw)))

    -- the sums, at a, b, u and the other vertices
    rest : List ℕ
    rest = rm u (rm b (rm a (up_to n)))

    rest-nodup : Nodup rest
    unfolding rest
    rest-nodup = rm-nodup u (rm b (rm a (up_to n))) (rm-nodup b (rm a (up_to n)) (rm-nodup a (up_to n) (up_to-nodup n)))

    no-a : (σ : List ℕ) → Sub σ rest → mem a σ ≡ false
    unfolding rest
    no-a σ s = nope (λ m. clash (rm-sub b a (rm a (up_to n)) (rm-sub u a (rm b (rm a (up_to n))) (s a m))) (rm-out a (up_to n)))

    no-b : (σ : List ℕ) → Sub σ rest → mem b σ ≡ false
    unfolding rest
    no-b σ s = nope (λ m. clash (rm-sub u b (rm b (rm a (up_to n))) (s b m)) (rm-out b (rm a (up_to n))))

    no-u : (σ : List ℕ) → Sub σ rest → mem u σ ≡ false
    unfolding rest
    no-u σ s = nope (λ m. clash (s u m) (rm-out u (rm b (rm a (up_to n)))))

    three : (k : ℕ) (f : List ℕ → ℕ) → Sym f → total k (up_to n) f ≡ total k (a ∷ b ∷ u ∷ rest) f
    unfolding rest
    three k f s =
        let da = rm-nodup a (up_to n) (up_to-nodup n) in
        let ia = up_to-mem n a (low a (simp known)) in
        let ib = rm-mem a b (up_to n) (λ q. a≢b (sym q)) ∙ up_to-mem n b (low b (simp known)) in
        let iu = rm-mem b u (rm a (up_to n)) (λ q. b≢u (sym q)) ∙ (rm-mem a u (up_to n) (λ q. a≢u (sym q)) ∙ up_to-mem n u (low u (simp known))) in
        first a (up_to n) (up_to-nodup n) ia k f s
        ∙ first_head k a f (λ j g t. first b (rm a (up_to n)) da ib j g t ∙ first_head j b g (first u (rm b (rm a (up_to n))) (rm-nodup b (rm a (up_to n)) da) iu) t) s

    at : (k : ℕ) (fs : List (List ℕ)) → faces k n fs ≡ total k (a ∷ b ∷ u ∷ rest) (ind fs)
    at k fs = faces-total k n fs ∙ three k (ind fs) (Sym-ind fs)

    c-0 : (k : ℕ) → total k rest (ind L3) ≡ total k rest (ind L2)
    c-0 k = total-cong k rest rest-nodup (λ σ l d s. ap bit (same-0 σ (no-a σ s) (no-b σ s) (no-u σ s)))

    c-a : (k : ℕ) → total k rest (λ σ. ind L3 (a ∷ σ)) ≡ total k rest (λ σ. ind L2 (a ∷ σ))
    c-a k = total-cong k rest rest-nodup (λ σ l d s. ap bit (same-a σ (no-a σ s) (no-b σ s) (no-u σ s)))

    c-b : (k : ℕ) → total k rest (λ σ. ind L3 (b ∷ σ)) ≡ total k rest (λ σ. ind L2 (b ∷ σ))
    c-b k = total-cong k rest rest-nodup (λ σ l d s. ap bit (same-b σ (no-a σ s) (no-b σ s) (no-u σ s)))

    c-ab : (k : ℕ) → total k rest (λ σ. ind L2 (a ∷ b ∷ σ)) ≡ 0
    c-ab k = total-zero k rest rest-nodup (λ σ l d s. ap bit (none-ab σ (no-a σ s) (no-b σ s) (no-u σ s)))

    c-abu : (k : ℕ) → total k rest (λ σ. ind L2 (a ∷ b ∷ u ∷ σ)) ≡ 0
    c-abu k = total-zero k rest rest-nodup (λ σ l d s. ap bit (none-abu σ (no-a σ s) (no-b σ s) (no-u σ s)))

    c-swap : (k : ℕ) → total k rest (λ σ. ind L3 (u ∷ σ)) + total k rest (λ σ. ind L2 (a ∷ u ∷ σ)) + total k rest (λ σ. ind L2 (b ∷ u ∷ σ)) + total k rest (λ σ. ind L3 (a ∷ b ∷ u ∷ σ)) ≡ total k rest (λ σ. ind L2 (u ∷ σ)) + total k rest (λ σ. ind L3 (a ∷ b ∷ σ)) + total k rest (λ σ. ind L3 (a ∷ u ∷ σ)) + total k rest (λ σ. ind L3 (b ∷ u ∷ σ))
    c-swap k =
        sym (total-add4 k rest (λ σ. ind L3 (u ∷ σ)) (λ σ. ind L2 (a ∷ u ∷ σ)) (λ σ. ind L2 (b ∷ u ∷ σ)) (λ σ. ind L3 (a ∷ b ∷ u ∷ σ)))
        ∙ (total-cong k rest rest-nodup (λ σ l d s. swap σ (no-a σ s) (no-b σ s) (no-u σ s))
        ∙ total-add4 k rest (λ σ. ind L2 (u ∷ σ)) (λ σ. ind L3 (a ∷ b ∷ σ)) (λ σ. ind L3 (a ∷ u ∷ σ)) (λ σ. ind L3 (b ∷ u ∷ σ)))

    -- past four vertices there is nothing
    c_over : (fs : List (List ℕ)) → Proper n fs → (x y : ℕ) → x ≢ y → ((σ : List ℕ) → Sub σ rest → mem x σ ≡ false) → ((σ : List ℕ) → Sub σ rest → mem y σ ≡ false) → total 3 rest (λ σ. ind fs (x ∷ y ∷ σ)) ≡ 0
    c_over fs Q x y xy ox oy =
        total-zero 3 rest rest-nodup (λ σ l d s. ap bit (over n fs Q (x ∷ y ∷ σ) (omega arith) (out x y σ xy (ox σ s), (oy σ s, d))))

    c-over₃ : (k : ℕ) → 2 ≤ k → total k rest (λ σ. ind L3 (a ∷ b ∷ u ∷ σ)) ≡ 0
    c-over₃ k h =
        total-zero k rest rest-nodup (λ σ l d s. ap bit (over n L3 proper3 (a ∷ b ∷ u ∷ σ) (omega arith) (out a b (u ∷ σ) a≢b (out a u σ a≢u (no-a σ s)), (out b u σ b≢u (no-b σ s), (no-u σ s, d)))))

    level-1 : faces 1 n L3 + total 0 rest (λ σ. ind L2 (u ∷ σ)) ≡ faces 1 n L2 + total 0 rest (λ σ. ind L3 (u ∷ σ))
    level-1 = omega (arith, at 1 L2, at 1 L3, c-0 1, c-a 0, c-b 0)

    level-2 : faces 2 n L3 + total 1 rest (λ σ. ind L2 (u ∷ σ)) + total 0 rest (λ σ. ind L2 (a ∷ u ∷ σ)) + total 0 rest (λ σ. ind L2 (b ∷ u ∷ σ)) ≡ faces 2 n L2 + total 1 rest (λ σ. ind L3 (u ∷ σ)) + total 0 rest (λ σ. ind L3 (a ∷ b ∷ σ)) + total 0 rest (λ σ. ind L3 (a ∷ u ∷ σ)) + total 0 rest (λ σ. ind L3 (b ∷ u ∷ σ))
    level-2 = omega (arith, at 2 L2, at 2 L3, c-0 2, c-a 1, c-b 1, c-ab 0)

    level-3 : faces 3 n L3 + total 2 rest (λ σ. ind L2 (u ∷ σ)) + total 1 rest (λ σ. ind L2 (a ∷ u ∷ σ)) + total 1 rest (λ σ. ind L2 (b ∷ u ∷ σ)) ≡ faces 3 n L2 + total 2 rest (λ σ. ind L3 (u ∷ σ)) + total 1 rest (λ σ. ind L3 (a ∷ b ∷ σ)) + total 1 rest (λ σ. ind L3 (a ∷ u ∷ σ)) + total 1 rest (λ σ. ind L3 (b ∷ u ∷ σ)) + total 0 rest (λ σ. ind L3 (a ∷ b ∷ u ∷ σ))
    level-3 = omega (arith, at 3 L2, at 3 L3, c-0 3, c-a 2, c-b 2, c-ab 1, c-abu 0)

    level-4 : faces 4 n L3 + total 3 rest (λ σ. ind L2 (u ∷ σ)) + total 2 rest (λ σ. ind L2 (a ∷ u ∷ σ)) + total 2 rest (λ σ. ind L2 (b ∷ u ∷ σ)) ≡ faces 4 n L2 + total 3 rest (λ σ. ind L3 (u ∷ σ)) + total 2 rest (λ σ. ind L3 (a ∷ b ∷ σ)) + total 2 rest (λ σ. ind L3 (a ∷ u ∷ σ)) + total 2 rest (λ σ. ind L3 (b ∷ u ∷ σ)) + total 1 rest (λ σ. ind L3 (a ∷ b ∷ u ∷ σ))
    level-4 = omega (arith, at 4 L2, at 4 L3, c-0 4, c-a 3, c-b 3, c-ab 2, c-abu 1)

    pub flip-count : SameCount n L2 n L3
    flip-count =
        omega (
          arith,
          level-1,
          level-2,
          level-3,
          level-4,
          faces-four n L2 proper2,
          faces-four n L3 proper3,
          c-swap 0,
          c-swap 1,
          c-swap 2,
          c-swap 3,
          c_over L2 proper2 a u a≢u no-a no-u,
          c_over L2 proper2 b u b≢u no-b no-u,
          c_over L3 proper3 a b a≢b no-a no-b,
          c_over L3 proper3 a u a≢u no-a no-u,
          c_over L3 proper3 b u b≢u no-b no-u,
          c-over₃ 2 (omega arith),
          c-over₃ 3 (omega arith),
        )

  -- two to three
  module _ (n : ℕ) (es : List (List ℕ)) (P : Proper n es) (c : Flippable23 a b u v w es) where
    third : (e : List ℕ) → Memᴰ e es → sub (u ∷ v ∷ w ∷ []) e ≡ true → mem a e ≡ false → mem b e ≡ false → ⊥
    unfolding star
    third e m s oa ob =
        let x = within-elim (u ∷ v ∷ w ∷ a ∷ []) es c.at_a in
        let y = within-elim (u ∷ v ∷ w ∷ b ∷ []) es c.at_b in
        let xu = x.2 u (simp known) in
        let xv = x.2 v (simp known) in
        let xw = x.2 w (simp known) in
        let xa = x.2 a (simp known) in
        let yu = y.2 u (simp known) in
        let yv = y.2 v (simp known) in
        let yw = y.2 w (simp known) in
        let yb = y.2 b (simp known) in
        let ya : mem a y.0 ≡ false = nope (λ h. clash (within-intro (a ∷ b ∷ []) y.1 (sub-elim (a ∷ b ∷ []) y.0 (rw (h, yb) refl))) c.free) in
        let only = c.only in
        let three = three-pass (sub (u ∷ v ∷ w ∷ [])) (mem a) (mem b) es x.1 y.1 m (rw (xu, xv, xw, xa) refl) (rw (yu, yv, yw, ya, yb) refl) (rw (s, oa, ob) refl) in
        omega arith

    members23 : (e : List ℕ) → Memᴰ e es → sub (u ∷ v ∷ w ∷ []) e ≡ true → within e ((u ∷ v ∷ w ∷ a ∷ []) ∷ (u ∷ v ∷ w ∷ b ∷ []) ∷ []) ≡ true
    members23 e m s =
        let t = tet-of {n = n} P m in
        let hu = sub-elim (u ∷ v ∷ w ∷ []) e s u (simp known) in
        let hv = sub-elim (u ∷ v ∷ w ∷ []) e s v (simp known) in
        let hw = sub-elim (u ∷ v ∷ w ∷ []) e s w (simp known) in
        elim (split (mem a e)) [
          | inl h ↦ or_left (sub e (u ∷ v ∷ w ∷ b ∷ []) || false) (inside n (u ∷ v ∷ w ∷ a ∷ []) e t refl (simp known, (simp known, (simp known, (refl, tt)))) (rw (hu, hv, hw, h) refl))
          | inr h ↦ elim (split (mem b e)) [
            | inl k ↦ or_right (sub e (u ∷ v ∷ w ∷ a ∷ [])) (or_left false (inside n (u ∷ v ∷ w ∷ b ∷ []) e t refl (simp known, (simp known, (simp known, (refl, tt)))) (rw (hu, hv, hw, k) refl)))
            | inr k ↦ absurd (third e m s h k)
          ]
        ]

    back23 : (e : List ℕ) → Memᴰ e ((u ∷ v ∷ w ∷ a ∷ []) ∷ (u ∷ v ∷ w ∷ b ∷ []) ∷ []) → within e es ≡ true
    back23 e m =
        elim (Memᴰ.cases_cons m) [
          | inl q ↦ rw q c.at_a
          | inr q ↦ rw (Memᴰ.eq_of_singleton q) c.at_b
        ]

    low23 : (x : ℕ) → mem x (a ∷ b ∷ u ∷ v ∷ w ∷ []) ≡ true → x < n
    low23 x m =
        let p = within-elim (u ∷ v ∷ w ∷ a ∷ []) es c.at_a in
        let q = within-elim (u ∷ v ∷ w ∷ b ∷ []) es c.at_b in
        elim (split (eqb x b)) [
          | inl h ↦ (tet-of {n = n} P q.1).below x (q.2 x (rw (eqb-true x b h) (simp known)))
          | inr h ↦ (tet-of {n = n} P p.1).below x (p.2 x (other h m))
        ]
      where
        other : eqb x b ≡ false → mem x (a ∷ b ∷ u ∷ v ∷ w ∷ []) ≡ true → mem x (u ∷ v ∷ w ∷ a ∷ []) ≡ true
        other h k =
            sub-elim (a ∷ u ∷ v ∷ w ∷ []) (u ∷ v ∷ w ∷ a ∷ []) (simp known) x (rw h at k)

    pub flip23-proper : Proper n (flip23 a b u v w es)
    flip23-proper =
        proper3 n low23 (without (u ∷ v ∷ w ∷ []) es) (proper-keep n (λ e. not (sub (u ∷ v ∷ w ∷ []) e)) es P)
        (without-still (u ∷ v ∷ w ∷ []) (a ∷ b ∷ []) es c.free) (without-none (u ∷ v ∷ w ∷ []) es)

    pub flip23-count : SameCount n es n (flip23 a b u v w es)
    flip23-count =
        let R = without (u ∷ v ∷ w ∷ []) es in
        let PR = proper-keep n (λ e. not (sub (u ∷ v ∷ w ∷ []) e)) es P in
        let noab = without-still (u ∷ v ∷ w ∷ []) (a ∷ b ∷ []) es c.free in
        let nouvw = without-none (u ∷ v ∷ w ∷ []) es in
        omega (
          arith,
          flip-count n low23 R PR noab nouvw,
          same_count n es (two-of a b u v w R) P (proper2 n low23 R PR noab nouvw)
              (resplit (u ∷ v ∷ w ∷ []) ((u ∷ v ∷ w ∷ a ∷ []) ∷ (u ∷ v ∷ w ∷ b ∷ []) ∷ []) es members23 back23),
        )

  -- three to two
  module _ (n : ℕ) (es : List (List ℕ)) (P : Proper n es) (c : Flippable32 a b u v w es) where
    not-all : (e : List ℕ) → Memᴰ e es → mem u e ≡ true → mem v e ≡ true → mem w e ≡ true → ⊥
    not-all e m hu hv hw = clash (within-intro (u ∷ v ∷ w ∷ []) m (sub-elim (u ∷ v ∷ w ∷ []) e (rw (hu, hv, hw) refl))) c.free

    fourth : (e : List ℕ) → Memᴰ e es → sub (a ∷ b ∷ []) e ≡ true → sub (u ∷ v ∷ []) e ≡ false → sub (v ∷ w ∷ []) e ≡ false → sub (w ∷ u ∷ []) e ≡ false → ⊥
    unfolding star
    fourth e m s o₁ o₂ o₃ =
        let x = within-elim (a ∷ b ∷ u ∷ v ∷ []) es c.at_uv in
        let y = within-elim (a ∷ b ∷ v ∷ w ∷ []) es c.at_vw in
        let z = within-elim (a ∷ b ∷ w ∷ u ∷ []) es c.at_wu in
        let xa = x.2 a (simp known) in
        let xb = x.2 b (simp known) in
        let xu = x.2 u (simp known) in
        let xv = x.2 v (simp known) in
        let ya = y.2 a (simp known) in
        let yb = y.2 b (simp known) in
        let yv = y.2 v (simp known) in
        let yw = y.2 w (simp known) in
        let za = z.2 a (simp known) in
        let zb = z.2 b (simp known) in
        let zw = z.2 w (simp known) in
        let zu = z.2 u (simp known) in
        let yu : mem u y.0 ≡ false = nope (λ h. not-all y.0 y.1 h yv yw) in
        let zv : mem v z.0 ≡ false = nope (λ h. not-all z.0 z.1 zu h zw) in
        let only = c.only in
        let four = four-pass (sub (a ∷ b ∷ [])) (sub (u ∷ v ∷ [])) (sub (v ∷ w ∷ [])) (sub (w ∷ u ∷ [])) es x.1 y.1 z.1 m
        (rw (xa, xb, xu, xv) refl) (rw (ya, yb, yu, yv, yw) refl) (rw (za, zb, zu, zv, zw) refl) (rw (s, o₁, o₂, o₃) refl) in
        omega arith

    members32 : (e : List ℕ) → Memᴰ e es → sub (a ∷ b ∷ []) e ≡ true → within e ((a ∷ b ∷ u ∷ v ∷ []) ∷ (a ∷ b ∷ v ∷ w ∷ []) ∷ (a ∷ b ∷ w ∷ u ∷ []) ∷ []) ≡ true
    members32 e m s =
        let t = tet-of {n = n} P m in
        let ha = sub-elim (a ∷ b ∷ []) e s a (simp known) in
        let hb = sub-elim (a ∷ b ∷ []) e s b (simp known) in
        elim (split (sub (u ∷ v ∷ []) e)) [
          | inl h ↦ or_left (within e ((a ∷ b ∷ v ∷ w ∷ []) ∷ (a ∷ b ∷ w ∷ u ∷ []) ∷ []))
              (inside n (a ∷ b ∷ u ∷ v ∷ []) e t refl (simp known, (simp known, (simp known, (refl, tt)))) (rw (ha, hb, h) refl))
          | inr h ↦ or_right (sub e (a ∷ b ∷ u ∷ v ∷ [])) (elim (split (sub (v ∷ w ∷ []) e)) [
            | inl k ↦ or_left (within e ((a ∷ b ∷ w ∷ u ∷ []) ∷ []))
                (inside n (a ∷ b ∷ v ∷ w ∷ []) e t refl (simp known, (simp known, (simp known, (refl, tt)))) (rw (ha, hb, k) refl))
            | inr k ↦ or_right (sub e (a ∷ b ∷ v ∷ w ∷ [])) (elim (split (sub (w ∷ u ∷ []) e)) [
              | inl l ↦ or_left false (inside n (a ∷ b ∷ w ∷ u ∷ []) e t refl (simp known, (simp known, (simp known, (refl, tt)))) (rw (ha, hb, l) refl))
              | inr l ↦ absurd (fourth e m s h k l)
            ])
          ])
        ]

    back32 : (e : List ℕ) → Memᴰ e ((a ∷ b ∷ u ∷ v ∷ []) ∷ (a ∷ b ∷ v ∷ w ∷ []) ∷ (a ∷ b ∷ w ∷ u ∷ []) ∷ []) → within e es ≡ true
    back32 e m =
        elim (Memᴰ.cases_cons m) [
          | inl q ↦ rw q c.at_uv
          | inr m' ↦ elim (Memᴰ.cases_cons m') [
            | inl q ↦ rw q c.at_vw
            | inr q ↦ rw (Memᴰ.eq_of_singleton q) c.at_wu
          ]
        ]

    low32 : (x : ℕ) → mem x (a ∷ b ∷ u ∷ v ∷ w ∷ []) ≡ true → x < n
    low32 x m =
        let p = within-elim (a ∷ b ∷ u ∷ v ∷ []) es c.at_uv in
        let q = within-elim (a ∷ b ∷ v ∷ w ∷ []) es c.at_vw in
        elim (split (eqb x w)) [
          | inl h ↦ (tet-of {n = n} P q.1).below x (q.2 x (rw (eqb-true x w h) (simp known)))
          | inr h ↦ (tet-of {n = n} P p.1).below x (p.2 x (rw h at m))
        ]

    pub flip32-proper : Proper n (flip32 a b u v w es)
    flip32-proper =
        proper2 n low32 (without (a ∷ b ∷ []) es) (proper-keep n (λ e. not (sub (a ∷ b ∷ []) e)) es P)
        (without-none (a ∷ b ∷ []) es) (without-still (a ∷ b ∷ []) (u ∷ v ∷ w ∷ []) es c.free)

    pub flip32-count : SameCount n es n (flip32 a b u v w es)
    flip32-count =
        let R = without (a ∷ b ∷ []) es in
        let PR = proper-keep n (λ e. not (sub (a ∷ b ∷ []) e)) es P in
        let noab = without-none (a ∷ b ∷ []) es in
        let nouvw = without-still (a ∷ b ∷ []) (u ∷ v ∷ w ∷ []) es c.free in
        omega (
          arith,
          flip-count n low32 R PR noab nouvw,
          same_count n es (three-of a b u v w R) P (proper3 n low32 R PR noab nouvw)
              (resplit (a ∷ b ∷ []) ((a ∷ b ∷ u ∷ v ∷ []) ∷ (a ∷ b ∷ v ∷ w ∷ []) ∷ (a ∷ b ∷ w ∷ u ∷ []) ∷ []) es members32 back32),
        )
