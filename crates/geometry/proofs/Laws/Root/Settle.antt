-- From the whole number nearest to a root to the whole root of four times as much: what the exact test of a guess gives `near_root`.
-- Assumes nothing.
use Rattle.std.proofs.Common.{◌≡◌, ℕ, zero, suc, ◌+◌, ◌*◌, ◌/◌, ◌^◌, ◌<◌, ◌≤◌, refl, ◌∙◌, subst, lt_of_not-le, arith}
use native.Mathlib.Decide.{dec_le}
use Rattle.geometry.specs.inside.Whole.{IsRoot, NearRoot, Halved}

pub halved : (y q : ℕ) → NearRoot y q → Halved y q
halved y q h = go (dec_le (q * q) (y * 2 ^ 51))
  where
    even : (q : ℕ) → q ≡ (2 * q + 1) / 2
    even q = omega arith

    pos : (q z : ℕ) → (q * q ≤ z → ⊥) → (k : ℕ) × (q ≡ suc k)
    pos zero z g = absurd (g (omega arith))
    pos (suc k) z g = (k, refl)

    odd : (k : ℕ) → suc k ≡ (2 * k + 1 + 1) / 2
    odd k = omega arith

    below : (k z : ℕ) → suc k * suc k < z + suc k → z < suc k * suc k → IsRoot (4 * z) (2 * k + 1)
    below k z a b = (omega arith, omega arith)

    at : (q z : ℕ) → q * q ≤ z → z ≤ q * q + q → IsRoot (4 * z) (2 * q)
    at q z a b = (omega arith, omega arith)

    four : (y : ℕ) → 4 * (y * 2 ^ 51) ≡ y * 2 ^ 53
    four y = omega arith

    go : Dec (q * q ≤ y * 2 ^ 51) → Halved y q
    go (yes l) = (2 * q, subst (λ (x : ℕ). IsRoot x (2 * q)) (four y) (at q (y * 2 ^ 51) l h.1), even q)
    go (no g) =
        let k = pos q (y * 2 ^ 51) g in
        let b : IsRoot (4 * (y * 2 ^ 51)) (2 * k.0 + 1) =
        below k.0 (y * 2 ^ 51) (subst (λ (x : ℕ). x * x < y * 2 ^ 51 + x) k.1 h.0) (subst (λ (x : ℕ). y * 2 ^ 51 < x * x) k.1 (lt_of_not-le g)) in
        (2 * k.0 + 1, subst (λ (x : ℕ). IsRoot x (2 * k.0 + 1)) (four y) b, k.1 ∙ odd k.0)
