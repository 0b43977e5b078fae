-- Lists of elements with the same complex have the same count: the order of the elements, and of the vertices in an element, does not matter.
-- Assumes nothing.
use Rattle.std.proofs.Common.{◌≡◌, ℕ, suc, ◌+◌, ◌≤◌, Bool, true, false, List, [], ◌∷◌, length, sym, refl, ap, ◌∙◌, inl, inr, arith}
use mathlib.Core.List.{Memᴰ}
use Rattle.mesh.specs.Complex.{sub, within, keep, up_to, faces}
use Rattle.mesh.specs.inside.Complex.{IsElement, Proper, SameCount, SameComplex}
use Rattle.mesh.proofs.Laws.Complex.Sets.{split, clash, same, or_cases, or_right, sub-elim, within-elim, within-intro, within-mono}
use Rattle.mesh.proofs.Laws.Complex.Lists.{keep-elim}
use Rattle.mesh.proofs.Laws.Complex.Sums.{bit, total, ind, total-cong, total-add, faces-total}
use Rattle.mesh.proofs.Laws.Complex.Tets.{up_to-mem, up_to-nodup, one, whole, bit_or, faces-four, total-four}

pub same-within : (es fs : List (List ℕ)) → SameComplex es fs → (σ : List ℕ) → within σ es ≡ within σ fs
same-within es fs c σ =
    same
    (λ h. let r = within-elim σ es h in within-mono σ r.0 fs r.2 (c.0 r.0 r.1))
    (λ h. let r = within-elim σ fs h in within-mono σ r.0 es r.2 (c.1 r.0 r.1))

pub same-faces : (k n : ℕ) (es fs : List (List ℕ)) → SameComplex es fs → faces k n es ≡ faces k n fs
same-faces k n es fs c =
    faces-total k n es ∙ (total-cong k (up_to n) (up_to-nodup n) (λ σ l d s. ap bit (same-within es fs c σ)) ∙ sym (faces-total k n fs))

pub same_length : (n : ℕ) (es fs : List (List ℕ)) → Proper n es → Proper n fs → SameComplex es fs → length es ≡ length fs
same_length n es fs P Q c = sym (faces-four n es P) ∙ (same-faces 4 n es fs c ∙ faces-four n fs Q)

pub same_count : (n : ℕ) (es fs : List (List ℕ)) → Proper n es → Proper n fs → SameComplex es fs → SameCount n es n fs
same_count n es fs P Q c =
    omega (arith, same-faces 1 n es fs c, same-faces 2 n es fs c, same-faces 3 n es fs c, same_length n es fs P Q c)

-- some of the elements of a proper list are a proper list
pub proper-keep : (n : ℕ) (p : List ℕ → Bool) (es : List (List ℕ)) → Proper n es → Proper n (keep p es)
proper-keep n p [] P = tt
proper-keep n p (e ∷ es) P =
    let ih : Proper n (keep p es) = proper-keep n p es P.2 in
    elim (split (p e)) [ inl h ↦ rw h (P.0, (λ f m. P.1 f (keep-elim p f es m).0), ih) | inr h ↦ rw h ih ]

pub within-keep : (p : List ℕ → Bool) (σ : List ℕ) (es : List (List ℕ)) → within σ (keep p es) ≡ true → within σ es ≡ true
within-keep p σ es h = let r = within-elim σ (keep p es) h in within-intro σ (keep-elim p r.0 es r.1).0 r.2

-- as many elements, all of four different vertices, with the same complex: then they are pairwise different too
abbrev pub Tets : ℕ → List (List ℕ) → Type 0
Tets n es = (e : List ℕ) → Memᴰ e es → IsElement n e

-- one more element adds one set of four, or none if it is there already
more : (n : ℕ) (e : List ℕ) (es : List (List ℕ)) → IsElement n e → Tets n es → within e es ≡ false → total 4 (up_to n) (ind (e ∷ es)) ≡ suc (total 4 (up_to n) (ind es))
more n e es t ts o =
    let p : total 4 (up_to n) (ind (e ∷ es)) ≡ total 4 (up_to n) (λ σ. bit (sub σ e) + ind es σ) =
    total-cong 4 (up_to n) (up_to-nodup n)
    (λ σ l d s. bit_or (sub σ e) (within σ es) (λ h k. clash (within-mono e σ es (whole σ t l d (sub-elim σ e h)) k) o)) in
    let q = one 4 (up_to n) e t.four (up_to-nodup n) t.distinct (λ z m. up_to-mem n z (t.below z m)) in
    let r = total-add 4 (up_to n) (λ σ. bit (sub σ e)) (ind es) in
    omega arith

there-already : (e : List ℕ) (es : List (List ℕ)) → within e es ≡ true → (σ : List ℕ) → within σ (e ∷ es) ≡ within σ es
there-already e es h σ =
    same
    (λ k. elim (or_cases (sub σ e) (within σ es) k) [ inl q ↦ within-mono σ e es (sub-elim σ e q) h | inr q ↦ q ])
    (λ k. or_right (sub σ e) k)

no_more : (n : ℕ) (e : List ℕ) (es : List (List ℕ)) → within e es ≡ true → total 4 (up_to n) (ind (e ∷ es)) ≡ total 4 (up_to n) (ind es)
no_more n e es h = total-cong 4 (up_to n) (up_to-nodup n) (λ σ l d s. ap bit (there-already e es h σ))

at_most : (n : ℕ) (es : List (List ℕ)) → Tets n es → total 4 (up_to n) (ind es) ≤ length es
at_most n [] ts = omega (arith, total-four n [] tt)
at_most n (e ∷ es) ts =
    let r = at_most n es (λ f m. ts f (Memᴰ.tail m)) in
    elim (split (within e es)) [
      | inl h ↦ omega (arith, no_more n e es h)
      | inr h ↦ omega (arith, more n e es (ts e (Memᴰ.head refl)) (λ f m. ts f (Memᴰ.tail m)) h)
    ]

pub proper-by-count : (n : ℕ) (es : List (List ℕ)) → Tets n es → length es ≤ total 4 (up_to n) (ind es) → Proper n es
proper-by-count n [] ts h = tt
proper-by-count n (e ∷ es) ts h =
    let ts' : Tets n es = λ f m. ts f (Memᴰ.tail m) in
    let t = ts e (Memᴰ.head refl) in
    let r = at_most n es ts' in
    elim (split (within e es)) [
      | inl k ↦ absurd (omega (arith, no_more n e es k))
      | inr k ↦ (t, (λ f m s q. clash (within-intro e m s) k), proper-by-count n es ts' (omega (arith, more n e es t ts' k)))
    ]

pub same-proper : (n : ℕ) (es fs : List (List ℕ)) → Proper n es → Tets n fs → length fs ≤ length es → SameComplex es fs → Proper n fs
same-proper n es fs P ts l c =
    proper-by-count n fs ts (omega (arith, faces-total 4 n es, faces-total 4 n fs, same-faces 4 n es fs c, faces-four n es P))
