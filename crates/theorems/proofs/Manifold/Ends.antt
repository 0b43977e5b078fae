-- The ends of pairs that lie in a set of vertices, counted by pairs and by vertices: of a set whose vertices each lie on two pairs they are
-- twice as many as its vertices (`ends-twice`), at most twice as many as the pairs (`ends-most`), and as many only where all ends lie in it
-- (`ends-all`, `ends-full`). Assumes nothing.
use mathlib.Core.Path.{◌≡◌, refl, sym, ◌∙◌}
use mathlib.Core.Logic.{◌≢◌, inl, inr}
use mathlib.Core.Bool.{Bool, true, false}
use mathlib.Core.List.Memᴰ
use mathlib.Core.List.{List, [], ◌∷◌, Memᴰ}
use Prim.Native.Nat.{ℕ, ◌+◌, ◌*◌, ◌≤◌}
use native.Mathlib.Omega.{arith}
use borrow.Author.Tests.{eqb-true, eq-eqb, ne_eqb}
use lib.Dec.{eqb}
use lib.ListN.{length}
use Rattle.mesh.specs.declared.element.Pair.{Pair}
use Rattle.mesh.specs.Complex.{mem, keep, Nodup}
use Rattle.mesh.proofs.Laws.Numbers.{eqb_swap}
use Rattle.mesh.proofs.Laws.Complex.Sets.{split, mem-here, mem-there}
use Rattle.mesh.proofs.Laws.Complex.Sums.{bit}
use Rattle.mesh.proofs.Laws.Link.Keys.{keep-cons}

-- is x an end of e
abbrev pub end_of : ℕ → Pair → Bool
end_of x e = mem x (e.a ∷ e.b ∷ [])

-- the number of pairs that x is an end of
abbrev pub degree : ℕ → List Pair → ℕ
degree x es = length (keep (end_of x) es)

-- no pair has one vertex twice
abbrev pub NoLoops : List Pair → Type 0
NoLoops es = (e : Pair) → Memᴰ e es → e.a ≢ e.b

-- the number of ends of pairs that lie in the set r
abbrev pub ends_in : List ℕ → List Pair → ℕ
ends_in r [] = 0
ends_in r (e ∷ es) = bit (mem e.a r) + (bit (mem e.b r) + ends_in r es)

bit-most : (b : Bool) → bit b ≤ 1
bit-most true = omega arith
bit-most false = omega arith

bit-one : (b : Bool) → bit b ≡ 1 → b ≡ true
bit-one true h = refl
bit-one false h = absurd (no h)
  where
    no : ◌≡◌ {A = ℕ} 0 1 → ⊥
    no h = omega arith

-- one vertex more, at one pair
pair-cons : (x : ℕ) (r : List ℕ) (e : Pair) → mem x r ≡ false → e.a ≢ e.b
    → bit (mem e.a (x ∷ r)) + bit (mem e.b (x ∷ r)) ≡ bit (end_of x e) + (bit (mem e.a r) + bit (mem e.b r))
pair-cons x r e o n =
    elim (split (eqb x e.a)) [
      | inl p ↦
          let q : e.a ≡ x = sym (eqb-true x e.a p) in
          let k : eqb e.b x ≡ false = ne_eqb e.b x (λ t. n (q ∙ sym t)) in
          let l : mem e.a r ≡ false = rw q o in
          rw (p, eq-eqb e.a x q, k, l) (omega arith)
      | inr p ↦ elim (split (eqb x e.b)) [
        | inl q ↦
            let t : e.b ≡ x = sym (eqb-true x e.b q) in
            let l : mem e.b r ≡ false = rw t o in
            rw (p, q, eqb_swap e.a x, p, eq-eqb e.b x t, l) (omega arith)
        | inr q ↦ rw (p, q, eqb_swap e.a x, p, eqb_swap e.b x, q) (omega arith)
      ]
    ]

-- one vertex more
ends-cons : (x : ℕ) (r : List ℕ) (es : List Pair) → mem x r ≡ false → NoLoops es → ends_in (x ∷ r) es ≡ degree x es + ends_in r es
ends-cons x r [] o n = refl
ends-cons x r (e ∷ es) o n =
    let ih = ends-cons x r es o (λ f m. n f (Memᴰ.tail m)) in
    let h = pair-cons x r e o (n e (Memᴰ.head refl)) in
    omega (arith, keep-cons (end_of x) e es)

ends-none : (es : List Pair) → ends_in [] es ≡ 0
ends-none [] = refl
ends-none (e ∷ es) = let ih = ends-none es in omega arith

-- different vertices on two pairs each
pub ends-twice : (r : List ℕ) (es : List Pair) → Nodup r → NoLoops es → ((x : ℕ) → mem x r ≡ true → degree x es ≡ 2) → ends_in r es ≡ 2 * length r
ends-twice [] es d n t = ends-none es
ends-twice (x ∷ r) es d n t =
    let ih = ends-twice r es d.1 n (λ z m. t z (mem-there z x r m)) in
    let h = ends-cons x r es d.0 n in
    let k = t x (mem-here x r) in
    omega arith

-- a pair has two ends
pub ends-most : (r : List ℕ) (es : List Pair) → ends_in r es ≤ 2 * length es
ends-most r [] = omega arith
ends-most r (e ∷ es) = omega (arith, ends-most r es, bit-most (mem e.a r), bit-most (mem e.b r))

-- where the ends in the set are as many, all lie in it
pub ends-all : (r : List ℕ) (es : List Pair) → ends_in r es ≡ 2 * length es → (e : Pair) → Memᴰ e es → (mem e.a r ≡ true) × (mem e.b r ≡ true)
ends-all r [] h e m = absurd (Memᴰ.not-nil m)
ends-all r (f ∷ es) h e m =
    let k = ends-most r es in
    let p = bit-most (mem f.a r) in
    let q = bit-most (mem f.b r) in
    elim (Memᴰ.cases_cons m) [
      | inl t ↦ rw t (bit-one (mem f.a r) (omega arith), bit-one (mem f.b r) (omega arith))
      | inr t ↦ ends-all r es (omega arith) e t
    ]

pub ends-full : (r : List ℕ) (es : List Pair) → ((e : Pair) → Memᴰ e es → (mem e.a r ≡ true) × (mem e.b r ≡ true)) → ends_in r es ≡ 2 * length es
ends-full r [] h = refl
ends-full r (e ∷ es) h =
    let k = h e (Memᴰ.head refl) in
    let ih = ends-full r es (λ f m. h f (Memᴰ.tail m)) in
    rw (k.0, k.1) (omega arith)
