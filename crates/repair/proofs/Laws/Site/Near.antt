-- The neighbours that the index lists are those of specs/Smooth.antt: a scan of all vertices in number order. Assumes nothing.
use mathlib.Core.Path.{◌≡◌, refl, sym, ap, ap₂, ◌∙◌}
use mathlib.Core.Logic.{inl, inr}
use mathlib.Core.Bool.{Bool, true, false, not, cond, ◌&&◌, ◌||◌}
use mathlib.Core.List.{List, [], ◌∷◌, ◌++◌}
use Prim.Native.Nat.{ℕ, zero, suc, ◌+◌, ◌≤◌, ◌<◌}
use native.Mathlib.Omega.{arith}
use borrow.Author.Tests.{ltb-true, lt-leb}
use lib.Dec.{eqb, ltb, leb}
use lib.ListN.{length}
use Rattle.mesh.specs.declared.element.Tet.{Tet}
use Rattle.mesh.specs.inside.Sort.{before, headed, ordered}
use Rattle.mesh.specs.Complex.{mem, keep}
use Rattle.mesh.specs.Tests.{every, under, nodup, any}
use Rattle.mesh.specs.Element.{vertices_of}
use Rattle.mesh.specs.Words.{numbers}
use Rattle.mesh.specs.Intake.{well_numbered}
use Rattle.mesh.specs.inside.Star.{but_for, others_of, neighbours_of}
use Rattle.mesh.proofs.Laws.Complex.Sets.{split, clash, and-fst, and-snd, mem-cases, mem-nil, keep-mem}
use Rattle.mesh.proofs.Laws.Star.Distinct.{distinct-is}
use Rattle.mesh.proofs.Laws.NumbersFrom.{numbers-mem}
use Rattle.repair.specs.Mesh.{has}
use Rattle.repair.specs.Smooth.{neighbours}

-- ---- the numbers from k on

-- some of them in their order rise
headed-kept : (p : ℕ → Bool) (j k n : ℕ) → j < k → headed (before leb) j (keep p (numbers k n)) ≡ true
unfolding numbers headed before
headed-kept p j k zero h = refl
headed-kept p j k (suc n) h = elim (split (p k)) [
  | inl e ↦ rw (e, lt-leb k j h)
  | inr e ↦ rw e (headed-kept p j (k + 1) n (omega arith))
]

pub kept-rising : (p : ℕ → Bool) (k n : ℕ) → ordered (before leb) (keep p (numbers k n)) ≡ true
unfolding numbers ordered
kept-rising p k zero = refl
kept-rising p k (suc n) = elim (split (p k)) [
  | inl e ↦ rw e (ap₂ (λ (a b : Bool). a && b) (headed-kept p k (k + 1) n (omega arith)) (kept-rising p (k + 1) n))
  | inr e ↦ rw e (kept-rising p (k + 1) n)
]

-- ---- neighbours

-- a member of two lists, one behind the other
pub mem-append : (z : ℕ) (a b : List ℕ) → mem z (a ++ b) ≡ (mem z a || mem z b)
mem-append z [] b = refl
mem-append z (y ∷ a) b = elim (split (eqb z y)) [ inl e ↦ rw e refl | inr e ↦ rw e (mem-append z a b) ]

mem-others : (v z : ℕ) (ts : List Tet) → mem z (others_of v ts) ≡ (not (eqb z v) && any (λ t. has v t && has z t) ts)
unfolding others_of
mem-others v z [] = none (not (eqb z v))
  where
    none : (b : Bool) → false ≡ (b && false)
    none true = refl
    none false = refl
mem-others v z (t ∷ ts) =
    mem-append z (cond (has v t) (but_for v (vertices_of t)) []) (others_of v ts) ∙ ap₂ (λ (a b : Bool). a || b) (here (has v t)) (mem-others v z ts)
    ∙ spread (has v t) (has z t) (not (eqb z v)) (any (λ u. has v u && has z u) ts)
  where
    here : (b : Bool) → mem z (cond b (but_for v (vertices_of t)) []) ≡ (b && (has z t && not (eqb z v)))
    here true = keep-mem (λ u. not (eqb u v)) (vertices_of t) z
    here false = refl

    spread : (a b n r : Bool) → ((a && (b && n)) || (n && r)) ≡ (n && ((a && b) || r))
    spread true true true r = refl
    spread true true false r = refl
    spread true false true r = refl
    spread true false false r = refl
    spread false b true r = refl
    spread false b false r = refl

-- vertices of elements are below nv
pub under-mem : (nv z : ℕ) (l : List ℕ) → under nv l ≡ true → mem z l ≡ true → z < nv
under-mem nv z [] h m = absurd (mem-nil z m)
under-mem nv z (y ∷ l) h m = elim (mem-cases z y l m) [
  | inl e ↦ let g = ltb-true y nv (and-fst (ltb y nv) (under nv l) h) in omega (arith, e)
  | inr q ↦ under-mem nv z l (and-snd (ltb y nv) (under nv l) h) q
]

any_below : (nv v z : ℕ) (ts : List Tet) → every (well_numbered nv) ts ≡ true → any (λ t. has v t && has z t) ts ≡ true → z < nv
any_below nv v z [] h m = absurd (clash m refl)
any_below nv v z (t ∷ ts) h m = elim (split (has v t && has z t)) [
  | inl e ↦ under-mem nv z (vertices_of t) (and-fst (under nv (vertices_of t)) (nodup (vertices_of t)) (and-fst (well_numbered nv t) (every (well_numbered nv) ts) h)) (and-snd (has v t) (has z t) e)
  | inr e ↦ any_below nv v z ts (and-snd (well_numbered nv t) (every (well_numbered nv) ts) h) (rw e at m)
]

-- those that the index lists
pub near-is : (nv v : ℕ) (ts : List Tet) → every (well_numbered nv) ts ≡ true → neighbours_of v ts ≡ neighbours nv ts v
unfolding neighbours_of
near-is nv v ts h = distinct-is (others_of v ts) (keep p (numbers 0 nv)) (kept-rising p 0 nv) (λ z. mem-others v z ts ∙ sym (keep-mem p (numbers 0 nv) z ∙ in-range z))
  where
    p : ℕ → Bool
    p = λ w. not (eqb w v) && any (λ t. has v t && has w t) ts

    in-range : (z : ℕ) → (mem z (numbers 0 nv) && p z) ≡ p z
    in-range z = elim (split (p z)) [
      | inl e ↦ ap (λ (b : Bool). b && p z) (numbers-mem 0 nv z (omega arith) (let g = any_below nv v z ts h (and-snd (not (eqb z v)) (any (λ t. has v t && has z t) ts) e) in omega arith))
      | inr e ↦ rw e (no (mem z (numbers 0 nv)))
    ]
      where
        no : (b : Bool) → (b && false) ≡ false
        no true = refl
        no false = refl

-- there are not more than vertices
kept-most : (p : ℕ → Bool) (k n : ℕ) → length (keep p (numbers k n)) ≤ n
unfolding numbers
kept-most p k zero = omega arith
kept-most p k (suc n) = let h = kept-most p (k + 1) n in elim (split (p k)) [ inl e ↦ rw e (omega arith) | inr e ↦ rw e (omega arith) ]

pub near-most : (nv : ℕ) (ts : List Tet) (v : ℕ) → length (neighbours nv ts v) ≤ nv
near-most nv ts v = kept-most (λ w. not (eqb w v) && any (λ t. has v t && has w t) ts) 0 nv
