-- One digit of a root at a time. X is the number whose root is sought, q the root's digits so far, b twice the weight of the next digit,
-- and `rest` what X leaves, in units of b / 2. Assumes nothing.
use Rattle.std.proofs.Common.{◌≡◌, ℕ, zero, suc, ◌+◌, ◌-◌, ◌*◌, ◌/◌, ◌^◌, ◌<◌, ◌≤◌, sym, refl, ap, ◌∙◌, arith, pow_pos}
use native.Mathlib.Nat.{pow-succ'}
use Rattle.geometry.specs.inside.Whole.{IsRoot}

pub record Step (X rest s b : ℕ) : Type 0 where
  pub i : ℕ
  pub q : ℕ
  pub power : b ≡ 2 ^ i
  pub twice : s ≡ 2 * q
  pub left : rest * b + 2 * (q * q) ≡ 2 * X
  pub small : rest < 4 * q + 2 * b
  pub room : q + b ≤ 2 ^ 54

pub halved : (b i : ℕ) → b ≡ 2 ^ i → 1 < b → (j : ℕ) × (b / 2 ≡ 2 ^ j) × (b ≡ 2 * (b / 2))
halved b zero p h = absurd (no b p h)
  where
    no : (b : ℕ) → b ≡ 1 → 1 < b → ⊥
    no b p h = omega arith
halved b (suc j) p h = (j, half b (2 ^ j) (p ∙ pow-succ' 2 j), even b (2 ^ j) (p ∙ pow-succ' 2 j))
  where
    half : (b c : ℕ) → b ≡ 2 * c → b / 2 ≡ c
    half b c e = omega arith

    even : (b c : ℕ) → b ≡ 2 * c → b ≡ 2 * (b / 2)
    even b c e = omega arith

pub start : (y : ℕ) → y < 2 ^ 55 → Step (y * 2 ^ 53) y 0 (2 ^ 54)
start y h = record { i = 54; q = 0; power = refl; twice = refl; left = omega arith; small = omega arith; room = omega arith }

-- with b = 2 * r
one_left : (X q r d : ℕ) → (d + (2 * q + r)) * (2 * r) + 2 * (q * q) ≡ 2 * X → d * 2 * r + 2 * ((q + r) * (q + r)) ≡ 2 * X
one_left X q r d h = omega arith

zero_left : (X q r w : ℕ) → w * (2 * r) + 2 * (q * q) ≡ 2 * X → w * 2 * r + 2 * (q * q) ≡ 2 * X
zero_left X q r w h = omega arith

back : (a b : ℕ) → b ≤ a → a ≡ a - b + b
back a b h = omega arith

-- the digit is 1
pub one-digit : (X rest s b : ℕ) → Step X rest s b → 1 < b → s + b / 2 ≤ rest → Step X ((rest - (s + b / 2)) * 2) (s + b / 2 + b / 2) (b / 2)
one-digit X rest s b k h t =
    let v = halved b k.i k.power h in
    let r = b / 2 in
    let q = k.q in
    let e : s ≡ 2 * q = k.twice in
    let d = rest - (s + r) in
    let w : rest ≡ d + (2 * q + r) = back rest (s + r) t ∙ ap (λ (z : ℕ). d + (z + r)) e in
    let l : (d + (2 * q + r)) * (2 * r) + 2 * (q * q) ≡ 2 * X = ap (λ (z : ℕ). z * (2 * r) + 2 * (q * q)) (sym w) ∙ ap (λ (z : ℕ). rest * z + 2 * (q * q)) (sym v.2) ∙ k.left in
    record { i = v.0; q = q + r; power = v.1; twice = more s q r e; left = one_left X q r d l; small = fewer rest s b r q v.2 e k.small t; room = within q b r v.2 k.room }
  where
    more : (s q r : ℕ) → s ≡ 2 * q → s + r + r ≡ 2 * (q + r)
    more s q r e = omega arith

    fewer : (rest s b r q : ℕ) → b ≡ 2 * r → s ≡ 2 * q → rest < 4 * q + 2 * b → s + r ≤ rest → (rest - (s + r)) * 2 < 4 * (q + r) + 2 * r
    fewer rest s b r q e f h t = omega arith

    within : (q b r : ℕ) → b ≡ 2 * r → q + b ≤ 2 ^ 54 → q + r + r ≤ 2 ^ 54
    within q b r e h = omega arith

-- the digit is 0
pub zero-digit : (X rest s b : ℕ) → Step X rest s b → 1 < b → rest < s + b / 2 → Step X (rest * 2) s (b / 2)
zero-digit X rest s b k h t =
    let v = halved b k.i k.power h in
    let r = b / 2 in
    let q = k.q in
    let l : rest * (2 * r) + 2 * (q * q) ≡ 2 * X = ap (λ (z : ℕ). rest * z + 2 * (q * q)) (sym v.2) ∙ k.left in
    record { i = v.0; q = q; power = v.1; twice = k.twice; left = zero_left X q r rest l; small = fewer rest s r q k.twice t; room = within q b r v.2 k.room }
  where
    fewer : (rest s r q : ℕ) → s ≡ 2 * q → rest < s + r → rest * 2 < 4 * q + 2 * r
    fewer rest s r q f t = omega arith

    within : (q b r : ℕ) → b ≡ 2 * r → q + b ≤ 2 ^ 54 → q + r ≤ 2 ^ 54
    within q b r e h = omega arith

pub done : (X rest s b : ℕ) → Step X rest s b → b ≤ 1 → IsRoot X (s / 2)
done X rest s b k h = rw (halfs s k.q k.twice) (finish X rest k.q b k.left k.small (single b k.i k.power h))
  where
    halfs : (s q : ℕ) → s ≡ 2 * q → s / 2 ≡ q
    halfs s q e = omega arith

    single : (b i : ℕ) → b ≡ 2 ^ i → b ≤ 1 → b ≡ 1
    single b zero p h = p
    single b (suc i) p h = absurd (two b (2 ^ i) (p ∙ pow-succ' 2 i) (pow_pos i) h)
      where
        two : (b c : ℕ) → b ≡ 2 * c → 0 < c → b ≤ 1 → ⊥
        two b c e k h = omega arith

    finish : (X rest q b : ℕ) → rest * b + 2 * (q * q) ≡ 2 * X → rest < 4 * q + 2 * b → b ≡ 1 → IsRoot X q
    finish X rest q b l m e = let l' : rest * 1 + 2 * (q * q) ≡ 2 * X = ap (λ (z : ℕ). rest * z + 2 * (q * q)) (sym e) ∙ l in omega arith
