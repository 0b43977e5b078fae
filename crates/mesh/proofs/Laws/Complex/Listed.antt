-- The number of faces is the length of any list of them that has each once.
-- Assumes nothing.
use Rattle.std.proofs.Common.{◌≡◌, ℕ, ◌+◌, true, List, [], ◌∷◌, length, ap, ◌∙◌, arith}
use mathlib.Core.List.{Memᴰ}
use Rattle.mesh.specs.Complex.{sub, within, up_to, faces, Nodup}
use Rattle.mesh.specs.inside.Complex.{Listed}
use Rattle.mesh.proofs.Laws.Complex.Sets.{clash, same, sub-elim, within-elim, within-mono, full}
use Rattle.mesh.proofs.Laws.Complex.Sums.{bit, total, ind, total-cong, total-add, total-none, faces-total}
use Rattle.mesh.proofs.Laws.Complex.Tets.{up_to-mem, up_to-nodup, one, bit_or}

total-listed : (k n : ℕ) (ps : List (List ℕ)) → Listed k n ps → total k (up_to n) (ind ps) ≡ length ps
total-listed k n [] L = total-none k (up_to n)
total-listed k n (σ ∷ ps) L =
    let p : total k (up_to n) (ind (σ ∷ ps)) ≡ total k (up_to n) (λ τ. bit (sub τ σ) + ind ps τ) =
    total-cong k (up_to n) (up_to-nodup n)
    (λ τ l d s. bit_or (sub τ σ) (within τ ps) (λ h w. clash (within-mono σ τ ps (full τ σ d (sub-elim τ σ h) (let q = L.0 in omega arith)) w) L.3)) in
    let o = one k (up_to n) σ L.0 (up_to-nodup n) L.1 (λ z m. up_to-mem n z (L.2 z m)) in
    let q = total-add k (up_to n) (λ τ. bit (sub τ σ)) (ind ps) in
    let r = total-listed k n ps L.4 in
    omega arith

pub faces-listed : (k n : ℕ) (es ps : List (List ℕ)) → Listed k n ps → ((σ : List ℕ) → Memᴰ σ ps → within σ es ≡ true) → ((σ : List ℕ) → length σ ≡ k → Nodup σ → within σ es ≡ true → within σ ps ≡ true) → faces k n es ≡ length ps
faces-listed k n es ps L f g =
    faces-total k n es
    ∙ (total-cong k (up_to n) (up_to-nodup n) (λ σ l d s. ap bit (same (g σ l d) (λ h. let r = within-elim σ ps h in within-mono σ r.0 es r.2 (f r.0 r.1))))
    ∙ total-listed k n ps L)
