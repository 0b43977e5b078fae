-- Rows written one behind the other to the front of a slice. Assumes nothing.
use Rattle.std.proofs.Common.{◌≡◌, ℕ, zero, suc, ◌+◌, ◌*◌, List, ◌++◌, length, take, drop, sym, ap, ◌∙◌, ap₂, add-one, arith, length-append, take_all, drop-drop, take_at}
use lib.Seq.{drop-append-add, paste}
use Rattle.report.specs.Bytes.{listed}

-- n rows of w places
pub length-listed : {A : Type 0} (row : ℕ → List A) (w : ℕ) → ((j : ℕ) → length (row j) ≡ w) → (n : ℕ) → length (listed row n) ≡ n * w
unfolding listed
length-listed row w size zero = omega arith
length-listed row w size (suc n) =
    let a = length-append (listed row n) (row n) in
    let b = length-listed row w size n in
    let c = size n in
    omega arith

-- one more row behind those that stand there
pub listed_more : {A : Type 0} (row : ℕ → List A) (w i p q : ℕ) (o cur new : List A) → length (row i) ≡ w → length (listed row i) ≡ p → q ≡ p + w
    → cur ≡ listed row i ++ drop p o → new ≡ paste cur p (row i) w → new ≡ listed row (i + 1) ++ drop q o
unfolding listed
listed_more row w i p q o cur new size long next e f =
    let l = listed row i in
    let front : take p cur ≡ l = ap (take p) e ∙ take_at l (drop p o) p long in
    let mid : take w (row i) ≡ row i = take_all w (row i) (omega arith) in
    let back : drop (p + w) cur ≡ drop q o = ap (drop (p + w)) e ∙ (ap (λ (k : ℕ). drop (k + w) (l ++ drop p o)) (sym long) ∙ (drop-append-add l (drop p o) w ∙ (drop-drop w p o ∙ ap (λ (k : ℕ). drop k o) (sym next)))) in
    rw add-one (f ∙ ap₂ (λ (a b : List _). a ++ b) (ap₂ (λ (a b : List _). a ++ b) front mid) back)
