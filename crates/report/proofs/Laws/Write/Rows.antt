-- The first rows of a list, one after the other, are its front. Assumes nothing.
use Rattle.std.proofs.Common.{◌≡◌, ℕ, zero, suc, ◌+◌, ◌*◌, ◌≤◌, List, [], ◌∷◌, ◌++◌, length, get_or, take, sym, refl, ap, ◌∙◌, append_assoc, add-one, arith, take-suc}
use native.Mathlib.Numerals.{add-two, add-three}
use Rattle.report.specs.Bytes.{listed}

-- rows of one place
pub rows-one : {A : Type 0} (l : List A) (d : A) (n : ℕ) → n ≤ length l → listed (λ (v : ℕ). get_or l v d ∷ []) n ≡ take n l
unfolding listed
rows-one l d zero h = refl
rows-one l d (suc n) h = ap (λ (a : List _). a ++ (get_or l n d ∷ [])) (rows-one l d n (omega arith)) ∙ sym (take-suc l n d (omega arith))

-- three places more, and four
three-more : {A : Type 0} (l : List A) (d : A) (i : ℕ) → i + 3 ≤ length l
    → take (suc (suc (suc i))) l ≡ take i l ++ (get_or l i d ∷ get_or l (i + 1) d ∷ get_or l (i + 2) d ∷ [])
three-more l d i h =
    take-suc l (suc (suc i)) d (omega arith)
    ∙ rw (add-one i, add-two i, take-suc l (suc i) d (omega arith), take-suc l i d (omega arith)) (simp append_assoc)

four-more : {A : Type 0} (l : List A) (d : A) (i : ℕ) → i + 4 ≤ length l
    → take (suc (suc (suc (suc i)))) l ≡ take i l ++ (get_or l i d ∷ get_or l (i + 1) d ∷ get_or l (i + 2) d ∷ get_or l (i + 3) d ∷ [])
four-more l d i h =
    take-suc l (suc (suc (suc i))) d (omega arith)
    ∙ rw (add-three i, three-more l d i (omega arith)) (simp append_assoc)

-- rows of three places
pub rows-three : {A : Type 0} (l : List A) (d : A) (n : ℕ) → 3 * n ≤ length l
    → listed (λ (v : ℕ). get_or l (3 * v) d ∷ get_or l (3 * v + 1) d ∷ get_or l (3 * v + 2) d ∷ []) n ≡ take (3 * n) l
unfolding listed
rows-three l d zero h = refl
rows-three l d (suc n) h =
    let e : suc (suc (suc (3 * n))) ≡ 3 * suc n = omega arith in
    ap (λ (a : List _). a ++ (get_or l (3 * n) d ∷ get_or l (3 * n + 1) d ∷ get_or l (3 * n + 2) d ∷ [])) (rows-three l d n (omega arith))
    ∙ (sym (three-more l d (3 * n) (omega arith)) ∙ ap (λ (i : ℕ). take i l) e)

-- rows of four places
pub rows_four : {A : Type 0} (l : List A) (d : A) (n : ℕ) → 4 * n ≤ length l
    → listed (λ (v : ℕ). get_or l (4 * v) d ∷ get_or l (4 * v + 1) d ∷ get_or l (4 * v + 2) d ∷ get_or l (4 * v + 3) d ∷ []) n ≡ take (4 * n) l
unfolding listed
rows_four l d zero h = refl
rows_four l d (suc n) h =
    let e : suc (suc (suc (suc (4 * n)))) ≡ 4 * suc n = omega arith in
    ap (λ (a : List _). a ++ (get_or l (4 * n) d ∷ get_or l (4 * n + 1) d ∷ get_or l (4 * n + 2) d ∷ get_or l (4 * n + 3) d ∷ [])) (rows_four l d n (omega arith))
    ∙ (sym (four-more l d (4 * n) (omega arith)) ∙ ap (λ (i : ℕ). take i l) e)
