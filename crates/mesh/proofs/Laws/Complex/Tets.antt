-- The sets of four vertices that lie within some element are as many as the elements.
-- Assumes nothing.
use Rattle.std.proofs.Common.{◌≡◌, ℕ, zero, suc, ◌+◌, ◌<◌, ◌≤◌, Bool, true, false, ◌&&◌, ◌||◌, ◌≢◌, List, [], ◌∷◌, length, sym, refl, ap, ◌∙◌, subst, inl, inr, arith}
use mathlib.Core.List.{Memᴰ}
use Rattle.mesh.specs.Complex.{mem, sub, within, up_to, faces, Nodup, Sub}
use Rattle.mesh.specs.inside.Complex.{IsElement, Proper}
use Rattle.mesh.proofs.Laws.Complex.Sets.{split, clash, nope, same, mem-here, mem-there, mem-cases, mem-nil, apart, sub-elim, sub-intro, within-elim, rm, rm-out, rm-mem, rm-sub, rm-length, rm-nodup, short, full}
use Rattle.mesh.proofs.Laws.Complex.Sums.{bit, total, ind, total-cong, total-add, total-zero, total-none, faces-total}

pub up_to-lt : (n x : ℕ) → mem x (up_to n) ≡ true → x < n
up_to-lt zero x m = absurd (mem-nil x m)
up_to-lt (suc n) x m = elim (mem-cases x n (up_to n) m) [ inl e ↦ omega arith | inr k ↦ let r = up_to-lt n x k in omega arith ]

pub up_to-mem : (n x : ℕ) → x < n → mem x (up_to n) ≡ true
up_to-mem zero x h = absurd (omega arith)
up_to-mem (suc n) x h =
    elim (split (mem x (n ∷ up_to n))) [
      | inl p ↦ p
      | inr p ↦ mem-there x n (up_to n) (up_to-mem n x (let q : x ≢ n = λ e. clash (subst (λ z. mem z (n ∷ up_to n) ≡ true) (sym e) (mem-here n (up_to n))) p in omega arith))
    ]

pub up_to-nodup : (n : ℕ) → Nodup (up_to n)
up_to-nodup zero = tt
up_to-nodup (suc n) = (nope (λ m. let r = up_to-lt n n m in omega arith), up_to-nodup n)

-- of the sets of as many vertices as e has, one lies in e
pub one : (k : ℕ) (vs e : List ℕ) → length e ≡ k → Nodup vs → Nodup e → Sub e vs → total k vs (λ σ. bit (sub σ e)) ≡ 1
one zero vs e l dv de s = refl
one (suc k) [] [] l dv de s = absurd (omega arith)
one (suc k) [] (x ∷ e) l dv de s = absurd (mem-nil x (s x (mem-here x e)))
one (suc k) (v ∷ vs) e l dv de s =
    elim (split (mem v e)) [
      | inl m ↦ in_e m (λ l'. one k vs (rm v e) l' dv.1 (rm-nodup v e de) (there (rm v e) (λ z mz. s z (rm-sub v z e mz)) (rm-out v e)))
      | inr m ↦ out-e m (one (suc k) vs e l dv.1 de (there e s m))
    ]
  where
    there : (e' : List ℕ) → Sub e' (v ∷ vs) → mem v e' ≡ false → Sub e' vs
    there e' t o z mz = elim (mem-cases z v vs (t z mz)) [ inl q ↦ absurd (apart z v e' mz o q) | inr q ↦ q ]

    lacks : (σ : List ℕ) → Sub σ vs → mem v σ ≡ false
    lacks σ t = nope (λ q. clash (t v q) dv.0)

    cut : (σ : List ℕ) → Sub σ vs → Sub σ e → Sub σ (rm v e)
    cut σ t q z mz = rm-mem v z e (apart z v σ mz (lacks σ t)) ∙ q z mz

    in_e : mem v e ≡ true → (length (rm v e) ≡ k → total k vs (λ σ. bit (sub σ (rm v e))) ≡ 1) → total (suc k) (v ∷ vs) (λ σ. bit (sub σ e)) ≡ 1
    in_e m ih =
        let r : suc (length (rm v e)) ≡ length e = rm-length v e de m in
        let z : total (suc k) vs (λ σ. bit (sub σ e)) ≡ 0 =
        total-zero (suc k) vs dv.1 (λ σ lσ d t. ap bit (nope (λ q. let w = short σ (rm v e) d (cut σ t (sub-elim σ e q)) in omega arith))) in
        let o : total k vs (λ σ. bit (mem v e && sub σ e)) ≡ 1 =
        total-cong k vs dv.1 (λ σ lσ d t. rw m (ap bit (same (λ q. sub-intro σ (rm v e) (cut σ t (sub-elim σ e q))) (λ q. sub-intro σ e (λ z mz. rm-sub v z e (sub-elim σ (rm v e) q z mz))))))
        ∙ ih (omega arith) in
        omega arith

    out-e : mem v e ≡ false → total (suc k) vs (λ σ. bit (sub σ e)) ≡ 1 → total (suc k) (v ∷ vs) (λ σ. bit (sub σ e)) ≡ 1
    out-e m o =
        let z : total k vs (λ σ. bit (mem v e && sub σ e)) ≡ 0 = total-zero k vs dv.1 (λ σ lσ d t. rw m refl) in
        omega arith

pub tet-of : {n : ℕ} {e : List ℕ} {es : List (List ℕ)} → Proper n es → Memᴰ e es → IsElement n e
tet-of {n} P (Memᴰ.head p) = rw p P.0
tet-of P (Memᴰ.tail m) = tet-of P.2 m

pub bit_or : (p q : Bool) → (p ≡ true → q ≡ true → ⊥) → bit (p || q) ≡ bit p + bit q
bit_or true true h = absurd (h refl refl)
bit_or true false h = refl
bit_or false true h = refl
bit_or false false h = refl

-- a set of four vertices in an element is the element
pub whole : (σ : List ℕ) {n : ℕ} {e : List ℕ} → IsElement n e → length σ ≡ 4 → Nodup σ → Sub σ e → Sub e σ
whole σ {n} {e} t l d s = full σ e d s (let q = t.four in omega arith)

pub total-four : (n : ℕ) (es : List (List ℕ)) → Proper n es → total 4 (up_to n) (ind es) ≡ length es
total-four n [] P = total-none 4 (up_to n)
total-four n (e ∷ es) P =
    let p : total 4 (up_to n) (ind (e ∷ es)) ≡ total 4 (up_to n) (λ σ. bit (sub σ e) + ind es σ) =
    total-cong 4 (up_to n) (up_to-nodup n)
    (λ σ l d s. bit_or (sub σ e) (within σ es)
    (λ h k. let r = within-elim σ es k in
    let se = sub-elim σ e h in
    let es' = whole σ P.0 l d se in
    let fs = whole σ (tet-of P.2 r.1) l d r.2 in
    P.1 r.0 r.1 (λ z m. r.2 z (es' z m)) (λ z m. se z (fs z m)))) in
    let o = one 4 (up_to n) e P.0.four (up_to-nodup n) P.0.distinct (λ z m. up_to-mem n z (P.0.below z m)) in
    let q = total-add 4 (up_to n) (λ σ. bit (sub σ e)) (ind es) in
    let r = total-four n es P.2 in
    omega arith

pub faces-four : (n : ℕ) (es : List (List ℕ)) → Proper n es → faces 4 n es ≡ length es
faces-four n es P = faces-total 4 n es ∙ total-four n es P

-- no element has five vertices
pub over : (n : ℕ) (es : List (List ℕ)) → Proper n es → (σ : List ℕ) → 5 ≤ length σ → Nodup σ → within σ es ≡ false
over n es P σ l d = nope (λ w.
    let r = within-elim σ es w in
    let q = short σ r.0 d r.2 in
    let f = (tet-of {n = n} P r.1).four in
    omega arith)
