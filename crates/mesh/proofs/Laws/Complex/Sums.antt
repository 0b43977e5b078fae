-- Sums over the subsets of k vertices: the number of faces is such a sum, and a sum splits at a vertex.
-- Assumes nothing.
use Rattle.std.proofs.Common.{◌≡◌, ℕ, zero, suc, ◌+◌, Bool, true, false, eqb, List, [], ◌∷◌, ◌++◌, map, length, refl, ap, ◌∙◌, ap₂, inl, inr, arith, eqb-true, sym}
use borrow.Author.Tests.{eqb-false}
use Rattle.mesh.specs.Complex.{mem, within, keep, choose, up_to, faces, Nodup, Sub}
use Rattle.mesh.proofs.Laws.Complex.Sets.{split, clash, nope, same, mem-here, mem-there, mem-cases, mem-nil, Sub-cons, Sub-both, rm, rm-none, rm-nodup, within-mono}

abbrev pub bit : Bool → ℕ
bit true = 1
bit false = 0

-- the sum of f over the subsets of k of the vertices vs
abbrev pub total : ℕ → List ℕ → (List ℕ → ℕ) → ℕ
total zero vs f = f []
total (suc k) [] f = 0
total (suc k) (v ∷ vs) f = total (suc k) vs f + total k vs (λ σ. f (v ∷ σ))

-- counting those that pass
keep_append : (p : List ℕ → Bool) (s t : List (List ℕ)) → length (keep p (s ++ t)) ≡ length (keep p s) + length (keep p t)
keep_append p [] t = omega arith
keep_append p (x ∷ s) t =
    let r = keep_append p s t in
    elim (split (p x)) [ inl e ↦ rw e (omega arith) | inr e ↦ rw e (omega arith) ]

keep-map : (p : List ℕ → Bool) (v : ℕ) (s : List (List ℕ)) → length (keep p (map (λ σ. v ∷ σ) s)) ≡ length (keep (λ σ. p (v ∷ σ)) s)
keep-map p v [] = refl
keep-map p v (x ∷ s) =
    let r = keep-map p v s in
    elim (split (p (v ∷ x))) [ inl e ↦ rw e (omega arith) | inr e ↦ rw e (omega arith) ]

pub counted : (k : ℕ) (vs : List ℕ) (p : List ℕ → Bool) → length (keep p (choose k vs)) ≡ total k vs (λ σ. bit (p σ))
counted zero vs p = elim (split (p [])) [ inl e ↦ rw e refl | inr e ↦ rw e refl ]
counted (suc k) [] p = refl
counted (suc k) (v ∷ vs) p =
    keep_append p (choose (suc k) vs) (map (λ σ. v ∷ σ) (choose k vs))
    ∙ ap₂ ◌+◌ (counted (suc k) vs p) (keep-map p v (choose k vs) ∙ counted k vs (λ σ. p (v ∷ σ)))

-- the indicator of a complex
abbrev pub ind : List (List ℕ) → List ℕ → ℕ
ind es σ = bit (within σ es)

pub faces-total : (k n : ℕ) (es : List (List ℕ)) → faces k n es ≡ total k (up_to n) (ind es)
unfolding faces
faces-total k n es = counted k (up_to n) (λ σ. within σ es)

-- a sum depends only on the values at sets of k different vertices of vs
pub total-cong : (k : ℕ) (vs : List ℕ) {f g : List ℕ → ℕ} → Nodup vs → ((σ : List ℕ) → length σ ≡ k → Nodup σ → Sub σ vs → f σ ≡ g σ) → total k vs f ≡ total k vs g
total-cong zero vs d h = h [] refl tt (λ x m. absurd (mem-nil x m))
total-cong (suc k) [] d h = refl
total-cong (suc k) (v ∷ vs) d h =
    ap₂ ◌+◌ (total-cong (suc k) vs d.1 (λ σ l n s. h σ l n (λ x m. mem-there x v vs (s x m))))
    (total-cong k vs d.1 (λ σ l n s. h (v ∷ σ) (ap suc l) (nope (λ m. clash (s v m) d.0), n) (Sub-both v σ vs s)))

pub total-add : (k : ℕ) (vs : List ℕ) (f g : List ℕ → ℕ) → total k vs (λ σ. f σ + g σ) ≡ total k vs f + total k vs g
total-add zero vs f g = refl
total-add (suc k) [] f g = refl
total-add (suc k) (v ∷ vs) f g =
    let p = total-add (suc k) vs f g in
    let q = total-add k vs (λ σ. f (v ∷ σ)) (λ σ. g (v ∷ σ)) in
    omega arith

pub total-none : (k : ℕ) (vs : List ℕ) → total k vs (λ σ. 0) ≡ 0
total-none zero vs = refl
total-none (suc k) [] = refl
total-none (suc k) (v ∷ vs) = let p = total-none (suc k) vs in let q = total-none k vs in omega arith

pub total-zero : (k : ℕ) (vs : List ℕ) {f : List ℕ → ℕ} → Nodup vs → ((σ : List ℕ) → length σ ≡ k → Nodup σ → Sub σ vs → f σ ≡ 0) → total k vs f ≡ 0
total-zero k vs d h = total-cong k vs d h ∙ total-none k vs

-- f depends only on the set of vertices
abbrev pub Sym : (List ℕ → ℕ) → Type 0
Sym f = (σ τ : List ℕ) → Sub σ τ → Sub τ σ → f σ ≡ f τ

pub Sym-cons : (v : ℕ) (f : List ℕ → ℕ) → Sym f → Sym (λ σ. f (v ∷ σ))
Sym-cons v f h σ τ s t = h (v ∷ σ) (v ∷ τ) (Sub-both v σ τ s) (Sub-both v τ σ t)

Sub-swap : (v w : ℕ) (σ : List ℕ) → Sub (v ∷ w ∷ σ) (w ∷ v ∷ σ)
Sub-swap v w σ =
    Sub-cons v (w ∷ σ) (w ∷ v ∷ σ) (mem-there v w (v ∷ σ) (mem-here v σ))
    (Sub-both w σ (v ∷ σ) (λ x m. mem-there x v σ m))

pub Sym-swap : (v w : ℕ) (f : List ℕ → ℕ) → Sym f → (σ : List ℕ) → f (v ∷ w ∷ σ) ≡ f (w ∷ v ∷ σ)
Sym-swap v w f h σ = h (v ∷ w ∷ σ) (w ∷ v ∷ σ) (Sub-swap v w σ) (Sub-swap w v σ)

pub Sym-ind : (es : List (List ℕ)) → Sym (ind es)
Sym-ind es σ τ s t = ap bit (same (within-mono τ σ es t) (within-mono σ τ es s))

-- a vertex may be taken first
swap-first : (k v w : ℕ) (vs : List ℕ) (f : List ℕ → ℕ) → Nodup vs → Sym f → total k (v ∷ w ∷ vs) f ≡ total k (w ∷ v ∷ vs) f
swap-first zero v w vs f d h = refl
swap-first (suc zero) v w vs f d h = omega arith
swap-first (suc (suc k)) v w vs f d h =
    let p : total k vs (λ σ. f (v ∷ w ∷ σ)) ≡ total k vs (λ σ. f (w ∷ v ∷ σ)) = total-cong k vs d (λ σ l n s. Sym-swap v w f h σ) in
    omega arith

pub first_head : (k v : ℕ) {vs ws : List ℕ} (f : List ℕ → ℕ) → ((j : ℕ) (g : List ℕ → ℕ) → Sym g → total j vs g ≡ total j ws g) → Sym f → total k (v ∷ vs) f ≡ total k (v ∷ ws) f
first_head zero v f h s = refl
first_head (suc k) v f h s = ap₂ ◌+◌ (h (suc k) f s) (h k (λ σ. f (v ∷ σ)) (Sym-cons v f s))

pub first : (a : ℕ) (vs : List ℕ) → Nodup vs → mem a vs ≡ true → (k : ℕ) (f : List ℕ → ℕ) → Sym f → total k vs f ≡ total k (a ∷ rm a vs) f
first a [] d m k f s = absurd (mem-nil a m)
first a (v ∷ vs) d m k f s =
    elim (split (eqb a v)) [
      | inl e ↦ let q = eqb-true a v e in rw e (ap (λ (u : List ℕ). total k u f) (ap₂ ◌∷◌ (sym q) (sym (ap (λ (u : ℕ). rm u vs) q ∙ rm-none v vs d.0))))
      | inr e ↦ rw e
          (first_head k v f (first a vs d.1 (elim (mem-cases a v vs m) [ inl p ↦ absurd (eqb-false a v e p) | inr p ↦ p ])) s
          ∙ swap-first k v a (rm a vs) f (rm-nodup a vs d.1) s)
    ]
