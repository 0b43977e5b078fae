-- Slots: the elements of the numbers with σ are the live ones that have σ, and with those numbers emptied the others are left. A number of
-- the start keeps its element until it is emptied. Assumes nothing.
use mathlib.Core.Path.{◌≡◌, refl, sym, ap, ap₂, subst, ◌∙◌}
use mathlib.Core.Logic.{◌⊎◌, inl, inr, ⊎_elim}
use mathlib.Core.Bool.{Bool, true, false, not, cond, ◌||◌}
use mathlib.Core.List.{List, [], ◌∷◌, ◌++◌, map, Memᴰ}
use mathlib.Core.Option.{Option, none, some}
use Prim.Native.Nat.{ℕ, zero, suc, ◌+◌, ◌≤◌, ◌<◌}
use native.Mathlib.Nat.{zero-add}
use native.Mathlib.Omega.{arith}
use lib.ListN.{length, get_or, set, length-append, length-set, get_or-append}
use lib.Seq.{set-append_seam, append_snoc}
use Rattle.mesh.specs.declared.element.Tet.{Tet}
use Rattle.mesh.specs.Complex.{within, keep}
use Rattle.mesh.specs.Element.{vertices_of, has_all}
use Rattle.mesh.specs.Words.{numbers}
use Rattle.mesh.proofs.Laws.Complex.Sets.{split}
use Rattle.mesh.proofs.Laws.Boundary.Same.{length-map}
use Rattle.mesh.specs.Tests.{any}
use Rattle.repair.specs.Flip.{slot_has, live, numbers_with, elements_at, emptied}
use Rattle.repair.proofs.Laws.Smooth.Placed.{set_cases}

-- ---- live elements

-- a slot with an element is not empty
pub none-some : {t : Tet} → none ≡ some t → ⊥
none-some h = let y : ◌≡◌ {A = ℕ} 0 1 = cc in omega arith

pub live-append : (ss rs : List (Option Tet)) → live (ss ++ rs) ≡ live ss ++ live rs
unfolding live
live-append [] rs = refl
live-append (none ∷ ss) rs = live-append ss rs
live-append (some t ∷ ss) rs = ap (λ l. t ∷ l) (live-append ss rs)

pub live-some : (ts : List Tet) → live (map some ts) ≡ ts
unfolding live
live-some [] = refl
live-some (t ∷ ts) = ap (λ l. t ∷ l) (live-some ts)

-- the element of a number is live
pub at-live : (ss : List (Option Tet)) (i : ℕ) (t : Tet) → get_or ss i none ≡ some t → Memᴰ t (live ss)
unfolding live
at-live [] i t h = absurd (none-some h)
at-live (none ∷ ss) zero t h = absurd (none-some h)
at-live (some u ∷ ss) zero t h = Memᴰ.head (the u t h)
  where
    the : (u t : Tet) → some u ≡ some t → t ≡ u
    the u t h = cc
at-live (none ∷ ss) (suc i) t h = at-live ss i t h
at-live (some u ∷ ss) (suc i) t h = Memᴰ.tail (at-live ss i t h)

-- a slot has σ exactly where a live element has
pub any-within : (σ : List ℕ) (ss : List (Option Tet)) → any (slot_has σ) ss ≡ within σ (map vertices_of (live ss))
unfolding live
any-within σ [] = refl
any-within σ (none ∷ ss) = any-within σ ss
any-within σ (some t ∷ ss) = ap (λ b. has_all σ t || b) (any-within σ ss)

-- ---- the numbers with σ

module _ (σ : List ℕ) where
  -- the numbers from k on whose slot, as g gives it, has σ
  abbrev those : (ℕ → Option Tet) → ℕ → ℕ → List ℕ
  those g k n = keep (λ i. slot_has σ (g i)) (numbers k n)

  next : (g : ℕ → Option Tet) (k : ℕ) (x : Option Tet) (ss : List (Option Tet)) → ((j : ℕ) → g (k + j) ≡ get_or (x ∷ ss) j none) → (j : ℕ) → g (k + 1 + j) ≡ get_or ss j none
  next g k x ss h j = let e : k + 1 + j ≡ k + suc j = omega arith in ap g e ∙ h (suc j)

  here : (g : ℕ → Option Tet) (k : ℕ) (x : Option Tet) (ss : List (Option Tet)) → ((j : ℕ) → g (k + j) ≡ get_or (x ∷ ss) j none) → g k ≡ x
  here g k x ss h = let e : k ≡ k + 0 = omega arith in ap g e ∙ h 0

  elements-from : (g : ℕ → Option Tet) (k : ℕ) (ss : List (Option Tet)) → ((j : ℕ) → g (k + j) ≡ get_or ss j none) → live (map g (those g k (length ss))) ≡ keep (has_all σ) (live ss)
  unfolding live numbers
  elements-from g k [] h = refl
  elements-from g k (x ∷ ss) h = go x (here g k x ss h) (elements-from g (k + 1) ss (next g k x ss h))
    where
      go : (x : Option Tet) → g k ≡ x → live (map g (those g (k + 1) (length ss))) ≡ keep (has_all σ) (live ss)
          → live (map g (cond (slot_has σ (g k)) (k ∷ those g (k + 1) (length ss)) (those g (k + 1) (length ss)))) ≡ keep (has_all σ) (live (x ∷ ss))
      go none e ih = let f : slot_has σ (g k) ≡ false = ap (slot_has σ) e in rw f ih
      go (some t) e ih = elim (split (has_all σ t)) [
        | inl q ↦ let f : slot_has σ (g k) ≡ true = ap (slot_has σ) e ∙ q in rw (f, q) (rw e (ap (λ l. t ∷ l) ih))
        | inr q ↦ let f : slot_has σ (g k) ≡ false = ap (slot_has σ) e ∙ q in rw (f, q) ih
      ]

  length_from : (g : ℕ → Option Tet) (k : ℕ) (ss : List (Option Tet)) → ((j : ℕ) → g (k + j) ≡ get_or ss j none) → length (those g k (length ss)) ≡ length (keep (has_all σ) (live ss))
  unfolding live numbers
  length_from g k [] h = refl
  length_from g k (x ∷ ss) h = go x (here g k x ss h) (length_from g (k + 1) ss (next g k x ss h))
    where
      go : (x : Option Tet) → g k ≡ x → length (those g (k + 1) (length ss)) ≡ length (keep (has_all σ) (live ss))
          → length (cond (slot_has σ (g k)) (k ∷ those g (k + 1) (length ss)) (those g (k + 1) (length ss))) ≡ length (keep (has_all σ) (live (x ∷ ss)))
      go none e ih = let f : slot_has σ (g k) ≡ false = ap (slot_has σ) e in rw f ih
      go (some t) e ih = elim (split (has_all σ t)) [
        | inl q ↦ let f : slot_has σ (g k) ≡ true = ap (slot_has σ) e ∙ q in rw (f, q) (ap suc ih)
        | inr q ↦ let f : slot_has σ (g k) ≡ false = ap (slot_has σ) e ∙ q in rw (f, q) ih
      ]

  -- nothing in a slot with σ
  abbrev blank : Option Tet → Option Tet
  blank x = cond (slot_has σ x) none x

  emptied-from : (g : ℕ → Option Tet) (k : ℕ) (ss pre : List (Option Tet)) → length pre ≡ k → ((j : ℕ) → g (k + j) ≡ get_or ss j none)
      → emptied (those g k (length ss)) (pre ++ ss) ≡ pre ++ map blank ss
  unfolding emptied numbers
  emptied-from g k [] pre l h = refl
  emptied-from g k (x ∷ ss) pre l h = go (λ y e. emptied-from g (k + 1) ss (pre ++ y ∷ []) e (next g k x ss h)) (slot_has σ x) refl
    where
      long : (y : Option Tet) → length (pre ++ y ∷ []) ≡ k + 1
      long y = length-append pre (y ∷ []) ∙ ap (λ n. n + 1) l

      Later : Type 0
      Later = (y : Option Tet) → length (pre ++ y ∷ []) ≡ k + 1 → emptied (those g (k + 1) (length ss)) ((pre ++ y ∷ []) ++ ss) ≡ (pre ++ y ∷ []) ++ map blank ss

      later : Later → (y : Option Tet) → emptied (those g (k + 1) (length ss)) (pre ++ y ∷ ss) ≡ pre ++ y ∷ map blank ss
      later ih y =
          ap (emptied (those g (k + 1) (length ss))) (sym (append_snoc pre y ss)) ∙ ih y (long y) ∙ append_snoc pre y (map blank ss)

      put : set (pre ++ x ∷ ss) k none ≡ pre ++ none ∷ ss
      put = ap (λ n. set (pre ++ x ∷ ss) n none) (sym l) ∙ set-append_seam pre x ss none

      go : Later → (b : Bool) → slot_has σ x ≡ b
          → emptied (cond (slot_has σ (g k)) (k ∷ those g (k + 1) (length ss)) (those g (k + 1) (length ss))) (pre ++ x ∷ ss) ≡ pre ++ blank x ∷ map blank ss
      go ih true q =
          let f : slot_has σ (g k) ≡ true = ap (slot_has σ) (here g k x ss h) ∙ q in
          rw (f, q) (ap (emptied (those g (k + 1) (length ss))) put ∙ later ih none)
      go ih false q =
          let f : slot_has σ (g k) ≡ false = ap (slot_has σ) (here g k x ss h) ∙ q in
          rw (f, q) (later ih x)

  live-blank : (ss : List (Option Tet)) → live (map blank ss) ≡ keep (λ t. not (has_all σ t)) (live ss)
  unfolding live
  live-blank [] = refl
  live-blank (none ∷ ss) = live-blank ss
  live-blank (some t ∷ ss) = elim (split (has_all σ t)) [ inl q ↦ rw q (live-blank ss) | inr q ↦ rw q (ap (λ l. t ∷ l) (live-blank ss)) ]

  -- the elements of the numbers with σ
  pub elements-with : (ss : List (Option Tet)) → elements_at ss (numbers_with σ ss) ≡ keep (has_all σ) (live ss)
  elements-with ss = elements-from (λ i. get_or ss i none) 0 ss (λ j. ap (λ n. get_or ss n none) (zero-add j))

  -- how many there are
  pub length-with : (ss : List (Option Tet)) → length (numbers_with σ ss) ≡ length (keep (has_all σ) (live ss))
  length-with ss = length_from (λ i. get_or ss i none) 0 ss (λ j. ap (λ n. get_or ss n none) (zero-add j))

  -- those numbers emptied and new elements behind: the live elements without σ, then the new ones
  pub live-replaced : (ss : List (Option Tet)) (new : List Tet) → live (emptied (numbers_with σ ss) ss ++ map some new) ≡ keep (λ t. not (has_all σ t)) (live ss) ++ new
  live-replaced ss new =
      live-append (emptied (numbers_with σ ss) ss) (map some new)
      ∙ ap₂ (λ a b. a ++ b) (ap live (emptied-from (λ i. get_or ss i none) 0 ss [] refl (λ j. ap (λ n. get_or ss n none) (zero-add j))) ∙ live-blank ss) (live-some new)

-- ---- numbers of the start

-- each number of the start has its element, or nothing
pub record Aged (ts : List Tet) (ss : List (Option Tet)) : Type 0 where
  pub long : length ts ≤ length ss
  pub old : (i : ℕ) → i < length ts → (get_or ss i none ≡ none) ⊎ (get_or ss i none ≡ get_or (map some ts) i none)

pub aged-start : (ts : List Tet) → Aged ts (map some ts)
aged-start ts = record { long = subst (λ n. length ts ≤ n) (sym (length-map some ts)) (omega arith); old = λ i h. inr refl }

aged-set : (ts : List Tet) (ss : List (Option Tet)) (i : ℕ) → Aged ts ss → Aged ts (set ss i none)
aged-set ts ss i a = record {
  long = subst (λ n. length ts ≤ n) (sym (length-set ss i none)) a.long;
  old = λ j h. ⊎_elim (λ e. inl e) (λ e. ⊎_elim (λ f. inl (e ∙ f)) (λ f. inr (e ∙ f)) (a.old j h)) (set_cases ss i none j none);
}

pub aged-emptied : (ts : List Tet) (is : List ℕ) (ss : List (Option Tet)) → Aged ts ss → Aged ts (emptied is ss)
unfolding emptied
aged-emptied ts [] ss a = a
aged-emptied ts (i ∷ is) ss a = aged-emptied ts is (set ss i none) (aged-set ts ss i a)

pub aged-append : (ts : List Tet) (ss rs : List (Option Tet)) → Aged ts ss → Aged ts (ss ++ rs)
aged-append ts ss rs a = record {
  long = let l = a.long in omega (arith, length-append ss rs);
  old = λ i h. subst (λ x. (x ≡ none) ⊎ (x ≡ get_or (map some ts) i none)) (sym (get_or-append ss rs none i (let l = a.long in omega arith))) (a.old i h);
}
