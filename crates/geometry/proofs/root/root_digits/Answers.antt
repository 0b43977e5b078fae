-- `root_digits` meets its contract: the invariant is `Step`, digit by digit. Assumes nothing.
use Rattle.std.proofs.Common.{◌≡◌, ℕ, suc, ◌+◌, ◌-◌, ◌*◌, ◌/◌, ◌%◌, ◌^◌, ◌<◌, ◌≤◌, sym, ap, subst, subst₂, ◌∙◌, lt_of_le_of_lt, arith, lit<, pow_pos, pow_mono}
use native.Mathlib.Nat.{pow-succ'}
use Rattle.geometry.proofs.Laws.Root.Digits.{Step, start, one-digit, zero-digit}
use Rattle.geometry.proofs.root.root_digits.Goals as goal
use Rattle.geometry.proofs.root.root_digits.Goals.{then-t-rest, else-t-rest}

twice : (k : ℕ) → 0 < k → 2 ^ k ≡ 2 * 2 ^ (k - 1)
twice k h = ap (λ (z : ℕ). 2 ^ z) (before k h) ∙ pow-succ' 2 (k - 1)
  where
    before : (k : ℕ) → 0 < k → k ≡ suc (k - 1)
    before k h = omega arith

above-one : (k : ℕ) → 0 < k → 1 < 2 ^ k
above-one k h = more (2 ^ k) (2 ^ (k - 1)) (twice k h) (pow_pos (k - 1))
  where
    more : (b r : ℕ) → b ≡ 2 * r → 0 < r → 1 < b
    more b r e h = omega arith

-- the digit's weight, as the shift gives it
abbrev weight : ℕ → ℕ
weight k = 1 * 2 ^ (k - 1) % 2 ^ 64

module _ (k : ℕ) (h : 0 < k) (l : k ≤ 54) where
  weight-is : weight k ≡ 2 ^ (k - 1)
  weight-is = once (2 ^ (k - 1)) (lt_of_le_of_lt (pow_mono {i = k - 1} {j = 53} (omega arith)) (lit< {m = 2 ^ 53} {n = 2 ^ 64} tt))
    where
      once : (r : ℕ) → r < 2 ^ 64 → 1 * r % 2 ^ 64 ≡ r
      once r h = omega arith

  half-is : 2 ^ k / 2 ≡ weight k
  half-is = cut (2 ^ k) (2 ^ (k - 1)) (twice k h) ∙ sym weight-is
    where
      cut : (b r : ℕ) → b ≡ 2 * r → b / 2 ≡ r
      cut b r e = omega arith

pub loop-k-init : goal.loop-k-init
loop-k-init c = start c.args.y c.requires

pub loop-k-preserved : goal.loop-k-preserved
loop-k-preserved c =
    let X = c.args.y * 2 ^ 53 in
    let rest = c.loop-k.rest in
    let s = c.loop-k.s in
    let k = c.loop-k.k in
    let r = weight k in
    let r-is : 2 ^ k / 2 ≡ r = half-is k c.loop-k-test.true c.loop-k.auto.k in
    let last : r ≡ 2 ^ (k - 1) = weight-is k c.loop-k-test.true c.loop-k.auto.k in
    let more = above-one k c.loop-k-test.true in
    elim c.if-t-rest.branch [
      | then-t-rest w ↦
          let d = one-digit X rest s (2 ^ k) c.loop-k.invariant more (subst (λ (u : ℕ). s + u ≤ rest) (sym r-is) w.if-t-rest.true) in
          let e : Step X ((rest - (s + r)) * 2) (s + r + r) r = subst (λ (u : ℕ). Step X ((rest - (s + u)) * 2) (s + u + u) u) r-is d in
          subst₂ (λ (y z : ℕ). Step X (y * 2) z (2 ^ (k - 1))) (sym w.rest-is) (sym w.s-is) (subst (Step X ((rest - (s + r)) * 2) (s + r + r)) last e)
      | else-t-rest w ↦
          let d = zero-digit X rest s (2 ^ k) c.loop-k.invariant more (subst (λ (u : ℕ). rest < s + u) (sym r-is) w.if-t-rest.false) in
          subst₂ (λ (y z : ℕ). Step X (y * 2) z (2 ^ (k - 1))) (sym w.rest-is) (sym w.s-is) (subst (Step X (rest * 2) s) (r-is ∙ last) d)
    ]
