-- The keys of the new surface beside those of the given one, call by call. Assumes nothing.
use mathlib.Core.Path.{◌≡◌, refl, sym, ap, ap₂, subst, ◌∙◌}
use mathlib.Core.Logic.{inl, inr}
use mathlib.Core.Bool.{Bool, true, false}
use mathlib.Core.List.{List, [], ◌∷◌, map}
use Prim.Native.Nat.{ℕ, suc, ◌+◌, ◌*◌, ◌≤◌, ◌<◌}
use native.Mathlib.Omega.{arith}
use borrow.Author.Tests.{le-leb}
use lib.ListN.{length, drop}
use lib.Seq.{get_or-take, get_or-drop, paste}
use Rattle.mesh.specs.declared.element.Triple.{Triple}
use Rattle.mesh.specs.Words.{word_at, inside, copied}
use Rattle.mesh.specs.Element.{key_of, triples}
use Rattle.mesh.specs.Boundary.{same_triple, le_triple}
use Rattle.mesh.proofs.Laws.Bools.{split, clash}
use Rattle.mesh.proofs.Laws.Complex.Sets.{and-snd}
use Rattle.mesh.proofs.Laws.Parts.{paste-off, paste-part, into-is, length-copied}
use Rattle.mesh.proofs.Laws.Sort.{length-sort}
use Rattle.mesh.proofs.Laws.Boundary.Same.{length-map}
use Rattle.repair.specs.Flip.{sorted_keys, same_triples}
use Rattle.repair.specs.inside.Layout.{Same}
use Rattle.repair.proofs.Laws.Same.{same-trans, same-wider}
use Rattle.repair.proofs.Laws.Flip.Keys.{length-triples}
use Rattle.mesh.proofs.Laws.Manifold.Whole.{triples-take}

-- ---- lists that are the same have one length

pub same-many : (l m : List Triple) → same_triples l m ≡ true → length l ≡ length m
unfolding same_triples
same-many [] [] h = refl
same-many [] (g ∷ m) h = clash false h refl
same-many (f ∷ l) [] h = clash false h refl
same-many (f ∷ l) (g ∷ m) h = ap suc (same-many l m (and-snd (same_triple f g) (same_triples l m) h))

pub sorted-many : (fs : List Triple) → length (sorted_keys fs) ≡ length fs
sorted-many fs = length-sort le_triple (map key_of fs) ∙ length-map key_of fs

length-keys : (c : ℕ) (s : List ℕ) → length (sorted_keys (triples c s)) ≡ c
length-keys c s = sorted-many (triples c s) ∙ length-triples c s

-- other counts: other keys
pub keys-differ : (c g : ℕ) (s f : List ℕ) → (c ≡ g → ⊥) → false ≡ same_triples (sorted_keys (triples c s)) (sorted_keys (triples g f))
keys-differ c g s f h = elim (split (same_triples (sorted_keys (triples c s)) (sorted_keys (triples g f)))) [
  | inl e ↦ absurd (h (sym (length-keys c s) ∙ same-many (sorted_keys (triples c s)) (sorted_keys (triples g f)) e ∙ length-keys g f))
  | inr e ↦ sym e
]

-- ---- words copied into the area

module _ (x d : List ℕ) (k n : ℕ) (hx : n ≤ length x) (hd : k + n ≤ length d) where
  pasted : copied x 0 d k n ≡ paste d k x n
  unfolding inside
  pasted = sym (into-is x d 0 k n (le-leb (0 + n) (length x) (omega arith)) (le-leb (k + n) (length d) hd))

  pub copied-same : Same d (copied x 0 d k n) k (k + n)
  copied-same = record {
    long = length-copied x d 0 k n;
    before = λ j h. ap (λ (u : List ℕ). word_at u j) pasted ∙ paste-off d x k n hd hx j 0 (λ l. absurd (omega arith));
    behind = λ j h. ap (λ (u : List ℕ). word_at u j) pasted ∙ paste-off d x k n hd hx j 0 (λ l. h);
  }

  pub copied-words : (j : ℕ) → j < n → word_at (drop k (copied x 0 d k n)) j ≡ word_at x j
  copied-words j h =
      ap (λ (u : List ℕ). word_at (drop k u) j) pasted ∙ sym (get_or-take n (drop k (paste d k x n)) j 0 h)
      ∙ ap (λ (u : List ℕ). word_at u j) (paste-part d x k n hd hx) ∙ get_or-take n x j 0 h

-- ---- both surfaces

module _ (k c g p r q : ℕ) (s₀ f : List ℕ) (long : 36 * k + 18 * g ≤ length s₀) (fits : 3 * g ≤ length f) (ep : p ≡ 36 * k + 3 * g) (er : r ≡ p + 6 * g) (eq : q ≡ r + 3 * g)
    (s₁ s₂ s₃ : List ℕ) (a : (triples g (drop p s₁) ≡ sorted_keys (triples g (drop (4 * k) s₀))) × Same s₀ s₁ p (p + 6 * g)) (e₂ : s₂ ≡ copied f 0 s₁ r (3 * g))
    (b : (triples g (drop q s₃) ≡ sorted_keys (triples g (drop r s₂))) × Same s₂ s₃ q (q + 6 * g)) where
  room : r + 3 * g ≤ length s₁
  room = let l = a.1.long in omega arith

  copy : Same s₁ s₂ r (r + 3 * g)
  copy = subst (λ (u : List ℕ). Same s₁ u r (r + 3 * g)) (sym e₂) (copied-same f s₁ r (3 * g) fits room)

  -- what was copied
  given : triples g (drop r s₂) ≡ triples g f
  given = triples-take g (drop r s₂) f (λ j h. ap (λ (u : List ℕ). word_at (drop r u) j) e₂ ∙ copied-words f s₁ r (3 * g) fits room j h)

  -- the new keys are still there
  still : triples g (drop p s₃) ≡ triples g (drop p s₁)
  still = triples-take g (drop p s₃) (drop p s₁) (λ j h.
      get_or-drop p s₃ j 0 ∙ b.1.before (p + j) (omega arith) ∙ copy.before (p + j) (omega arith) ∙ sym (get_or-drop p s₁ j 0))

  pub surface-same : c ≡ g → (t : Bool) → t ≡ same_triples (triples g (drop p s₃)) (triples g (drop q s₃)) → t ≡ same_triples (sorted_keys (triples c (drop (4 * k) s₀))) (sorted_keys (triples g f))
  surface-same e t h =
      h ∙ ap₂ same_triples (still ∙ a.0) (b.0 ∙ ap sorted_keys given)
      ∙ ap (λ (n : ℕ). same_triples (sorted_keys (triples n (drop (4 * k) s₀))) (sorted_keys (triples g f))) (sym e)

  pub surface-kept : Same s₀ s₃ (36 * k + 3 * g) (length s₀)
  surface-kept =
      same-trans (same-wider (36 * k + 3 * g) (length s₀) (omega arith) (omega arith) a.1)
      (same-trans (same-wider (36 * k + 3 * g) (length s₀) (omega arith) (omega arith) copy) (same-wider (36 * k + 3 * g) (length s₀) (omega arith) (omega arith) b.1))
