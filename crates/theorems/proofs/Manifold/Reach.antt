-- The search of `one_cycle`: what it reaches has no vertex twice, and what every pair carries from end to end holds of all of it. Where each
-- end of a pair lies on two pairs, no pair leads out of what as many rounds as there are pairs reach, and `one_cycle` holds exactly where
-- every end is reached (`cycle-elim`, `cycle-intro`). Assumes nothing.
use mathlib.Core.Path.{◌≡◌, refl, sym, ap, ◌∙◌}
use mathlib.Core.Logic.{◌⊎◌, inl, inr}
use mathlib.Core.Bool.{Bool, true, false, not, ◌&&◌}
use mathlib.Core.List.Memᴰ
use mathlib.Core.List.{List, [], ◌∷◌, Memᴰ}
use Prim.Native.Nat.{ℕ, zero, suc, ◌+◌, ◌*◌, ◌≤◌}
use native.Mathlib.Omega.{arith}
use borrow.Author.Tests.{eqb-true, eq-eqb, ltb-true, ltb-false, not-true}
use lib.Dec.{ltb}
use lib.ListN.{length}
use Rattle.mesh.specs.declared.element.Pair.{Pair}
use Rattle.mesh.specs.Complex.{mem, Nodup}
use Rattle.mesh.specs.Manifold.{grow, reach, one_cycle}
use Rattle.mesh.proofs.Laws.Complex.Sets.{split, and-fst, and-snd, mem-here, mem-there, mem-cases, mem-nil}
use Rattle.mesh.proofs.Laws.Manifold.Growth.{grow-more}
use Rattle.theorems.proofs.Manifold.Ends.{degree, NoLoops, ends_in, ends-twice, ends-most, ends-all, ends-full}

-- ---- what the search keeps

-- what holds of a set of vertices, and holds on with the other end of a pair that has one end in it, holds of all that is reached
pub record HoldsOn (es : List Pair) (P : List ℕ → Type 0) : Type 0 where
  pub right : (e : Pair) (seen : List ℕ) → Memᴰ e es → P seen → mem e.a seen ≡ true → mem e.b seen ≡ false → P (e.b ∷ seen)
  pub left : (e : Pair) (seen : List ℕ) → Memᴰ e es → P seen → mem e.b seen ≡ true → mem e.a seen ≡ false → P (e.a ∷ seen)

grow-keeps : (P : List ℕ → Type 0) (es : List Pair) (seen : List ℕ) → HoldsOn es P → P seen → P (grow es seen)
unfolding grow
grow-keeps P [] seen k p = p
grow-keeps P (e ∷ es) seen k p =
    let later : HoldsOn es P = record { right = λ f s m. k.right f s (Memᴰ.tail m); left = λ f s m. k.left f s (Memᴰ.tail m) } in
    elim (split (mem e.a seen && not (mem e.b seen))) [
      | inl h ↦ rw h (grow-keeps P es (e.b ∷ seen) later
          (k.right e seen (Memᴰ.head refl) p (and-fst (mem e.a seen) (not (mem e.b seen)) h) (not-true (mem e.b seen) (and-snd (mem e.a seen) (not (mem e.b seen)) h))))
      | inr h ↦ rw h (elim (split (mem e.b seen && not (mem e.a seen))) [
        | inl g ↦ rw g (grow-keeps P es (e.a ∷ seen) later
            (k.left e seen (Memᴰ.head refl) p (and-fst (mem e.b seen) (not (mem e.a seen)) g) (not-true (mem e.a seen) (and-snd (mem e.b seen) (not (mem e.a seen)) g))))
        | inr g ↦ rw g (grow-keeps P es seen later p)
      ])
    ]

reach-keeps : (P : List ℕ → Type 0) (n : ℕ) (es : List Pair) (seen : List ℕ) → HoldsOn es P → P seen → P (reach n es seen)
unfolding reach
reach-keeps P zero es seen k p = p
reach-keeps P (suc n) es seen k p = reach-keeps P n es (grow es seen) k (grow-keeps P es seen k p)

-- no vertex twice
nodup-kept : (es : List Pair) → HoldsOn es Nodup
nodup-kept es = record { right = λ e seen m p h o. (o, p); left = λ e seen m p h o. (o, p) }

-- a vertex stays
member-kept : (x : ℕ) (es : List Pair) → HoldsOn es (λ seen. mem x seen ≡ true)
member-kept x es = record { right = λ e seen m p h o. mem-there x e.b seen p; left = λ e seen m p h o. mem-there x e.a seen p }

-- what a pair carries from either end to the other
pub record Carried (es : List Pair) (J : ℕ → Type 0) : Type 0 where
  pub there : (e : Pair) → Memᴰ e es → J e.a → J e.b
  pub back : (e : Pair) → Memᴰ e es → J e.b → J e.a

carried-kept : (J : ℕ → Type 0) (es : List Pair) → Carried es J → HoldsOn es (λ seen. (x : ℕ) → mem x seen ≡ true → J x)
carried-kept J es c = record {
  right = λ e seen m p h o x k. more e.b seen (c.there e m (p e.a h)) p x k;
  left = λ e seen m p h o x k. more e.a seen (c.back e m (p e.b h)) p x k;
}
  where
    more : (y : ℕ) (seen : List ℕ) → J y → ((x : ℕ) → mem x seen ≡ true → J x) → (x : ℕ) → mem x (y ∷ seen) ≡ true → J x
    more y seen j p x k = elim (mem-cases x y seen k) [ inl q ↦ rw q j | inr q ↦ p x q ]

-- ---- the rounds

-- no pair leads out of the set
abbrev pub Closed : List Pair → List ℕ → Type 0
Closed es seen = (e : Pair) → Memᴰ e es → mem e.a seen ≡ mem e.b seen

-- neither end alone is in it
alike : (a b : Bool) → (a && not b) ≡ false → (b && not a) ≡ false → a ≡ b
alike true true h k = refl
alike true false h k = h
alike false true h k = sym k
alike false false h k = refl

-- a round that adds nothing began closed
grow-closed : (es : List Pair) (seen : List ℕ) → length (grow es seen) ≤ length seen → Closed es seen
unfolding grow
grow-closed [] seen h e m = absurd (Memᴰ.not-nil m)
grow-closed (f ∷ es) seen h e m =
    elim (split (mem f.a seen && not (mem f.b seen))) [
      | inl p ↦ absurd (let r = grow-more es (f.b ∷ seen) in let q : length (grow es (f.b ∷ seen)) ≤ length seen = rw p at h in omega arith)
      | inr p ↦ elim (split (mem f.b seen && not (mem f.a seen))) [
        | inl k ↦ absurd (let r = grow-more es (f.a ∷ seen) in let q : length (grow es (f.a ∷ seen)) ≤ length seen = rw (p, k) at h in omega arith)
        | inr k ↦ elim (Memᴰ.cases_cons m) [
          | inl t ↦ rw t (alike (mem f.a seen) (mem f.b seen) p k)
          | inr t ↦ grow-closed es seen (rw (p, k) at h) e t
        ]
      ]
    ]

-- a closed set does not grow
closed-still : (es : List Pair) (seen : List ℕ) → Closed es seen → grow es seen ≡ seen
unfolding grow
closed-still [] seen c = refl
closed-still (e ∷ es) seen c =
    let ih : grow es seen ≡ seen = closed-still es seen (λ f m. c f (Memᴰ.tail m)) in
    rw (c e (Memᴰ.head refl)) (elim (split (mem e.b seen)) [ inl h ↦ rw h ih | inr h ↦ rw h ih ])

reach-still : (n : ℕ) (es : List Pair) (seen : List ℕ) → Closed es seen → reach n es seen ≡ seen
unfolding reach
reach-still zero es seen c = refl
reach-still (suc n) es seen c = ap (reach n es) (closed-still es seen c) ∙ reach-still n es seen c

-- each round adds a vertex, or the set is closed
reach-rounds : (n : ℕ) (es : List Pair) (seen : List ℕ) → Closed es (reach n es seen) ⊎ (length seen + n ≤ length (reach n es seen))
unfolding reach
reach-rounds zero es seen = inr (omega arith)
reach-rounds (suc n) es seen =
    elim (split (ltb (length seen) (length (grow es seen)))) [
      | inl h ↦ elim (reach-rounds n es (grow es seen)) [
        | inl c ↦ inl c
        | inr l ↦ inr (let k = ltb-true (length seen) (length (grow es seen)) h in omega arith)
      ]
      | inr h ↦
          let c = grow-closed es seen (ltb-false (length seen) (length (grow es seen)) h) in
          let e : reach n es (grow es seen) ≡ seen = ap (reach n es) (closed-still es seen c) ∙ reach-still n es seen c in
          inl (rw e c)
    ]

-- ---- the test

module _ (e₀ : Pair) (es : List Pair) (no_loops : NoLoops (e₀ ∷ es))
    (two : (e : Pair) → Memᴰ e (e₀ ∷ es) → (degree e.a (e₀ ∷ es) ≡ 2) × (degree e.b (e₀ ∷ es) ≡ 2)) where
  -- the vertices reached
  reached : List ℕ
  reached = reach (length (e₀ ∷ es)) (e₀ ∷ es) (e₀.a ∷ [])

  from_first : (J : ℕ → Type 0) → J e₀.a → (x : ℕ) → mem x (e₀.a ∷ []) ≡ true → J x
  from_first J j x m = elim (mem-cases x e₀.a [] m) [ inl q ↦ rw q j | inr q ↦ absurd (mem-nil x q) ]

  reached-carries : (J : ℕ → Type 0) → J e₀.a → Carried (e₀ ∷ es) J → (x : ℕ) → mem x reached ≡ true → J x
  unfolding reached
  reached-carries J j c =
      reach-keeps (λ seen. (x : ℕ) → mem x seen ≡ true → J x) (length (e₀ ∷ es)) (e₀ ∷ es) (e₀.a ∷ []) (carried-kept J (e₀ ∷ es) c) (from_first J j)

  reached-ends : ends_in reached (e₀ ∷ es) ≡ 2 * length reached
  unfolding reached
  reached-ends =
      ends-twice reached (e₀ ∷ es)
      (reach-keeps Nodup (length (e₀ ∷ es)) (e₀ ∷ es) (e₀.a ∷ []) (nodup-kept (e₀ ∷ es)) (refl, tt))
      no_loops
      (reached-carries (λ x. degree x (e₀ ∷ es) ≡ 2) (two e₀ (Memᴰ.head refl)).0 (record { there = λ e m d. (two e m).1; back = λ e m d. (two e m).0 }))

  -- where the test holds, what pairs carry from the first vertex holds at every end
  pub cycle-elim : one_cycle (e₀ ∷ es) ≡ true → (J : ℕ → Type 0) → J e₀.a → Carried (e₀ ∷ es) J → (e : Pair) → Memᴰ e (e₀ ∷ es) → J e.a × J e.b
  unfolding one_cycle reached
  cycle-elim h J j c e m =
      let l : length reached ≡ length (e₀ ∷ es) = eqb-true _ _ h in
      let k = reached-ends in
      let q = ends-all reached (e₀ ∷ es) (omega arith) e m in
      (reached-carries J j c e.a q.0, reached-carries J j c e.b q.1)

  reached-closed : Closed (e₀ ∷ es) reached
  unfolding reached
  reached-closed =
      elim (reach-rounds (length (e₀ ∷ es)) (e₀ ∷ es) (e₀.a ∷ [])) [
        | inl c ↦ c
        | inr l ↦ absurd (let k = reached-ends in let q = ends-most reached (e₀ ∷ es) in omega arith)
      ]

  -- where each closed set with the first vertex has every end, the test holds
  pub cycle-intro : ((seen : List ℕ) → mem e₀.a seen ≡ true → Closed (e₀ ∷ es) seen → (e : Pair) → Memᴰ e (e₀ ∷ es) → (mem e.a seen ≡ true) × (mem e.b seen ≡ true)) → one_cycle (e₀ ∷ es) ≡ true
  unfolding one_cycle reached
  cycle-intro h =
      let s = reach-keeps (λ seen. mem e₀.a seen ≡ true) (length (e₀ ∷ es)) (e₀ ∷ es) (e₀.a ∷ []) (member-kept e₀.a (e₀ ∷ es)) (mem-here e₀.a []) in
      let k = reached-ends in
      let q = ends-full reached (e₀ ∷ es) (h reached s reached-closed) in
      eq-eqb _ _ (let l : length reached ≡ length (e₀ ∷ es) = omega arith in l)
