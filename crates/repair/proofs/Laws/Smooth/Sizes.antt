-- What lies between bounds of size up to 2 ^ 20 is within 2 ^ 20: a point that intake takes, and a point inside the box. Assumes nothing.
use mathlib.Core.Path.{◌≡◌, refl, sym, subst, ◌∙◌}
use mathlib.Core.Logic.{⊎_elim}
use mathlib.Core.Bool.{Bool, true, false, ◌&&◌, ◌||◌, true≢false}
use Prim.Native.Nat.{ℕ, ◌*◌, ◌^◌, ◌≤◌, ◌<◌, zero-le}
use native.Mathlib.Nat.{le_trans, le_of_eq, le_of_lt, mul-le-mul_right, le_of_mul-le-mul_right, mul_right_comm, mul-one}
use lib.IntN.{ℤ, pos}
use lib.Dec.{eqb, ltb}
use lib.Ieee.{Float, nan, inf, fin, up, down, lt, eq, le}
use lib.Ieee.Fits.{down_pos}
use borrow.Author.Tests.{ltb-true, eqb-true}
use Rattle.geometry.specs.declared.point.Point.{Point}
use Rattle.geometry.specs.declared.bounds.Bounds.{Bounds}
use Rattle.geometry.specs.inside.Units.{within}
use Rattle.geometry.proofs.Laws.Score.Near.{Near}
use Rattle.mesh.specs.Intake.{million, sized, sized_point, in_box}
use Rattle.mesh.proofs.Laws.Complex.Sets.{or_cases, and-fst, and-snd}

-- ---- one direction

-- |x| is at most 2 ^ 20, x being m * up e / down e
abbrev Small : ℕ → ℤ → Type 0
Small m e = m * up e ≤ 2 ^ 20 * down e

small-within : (s : Bool) (m : ℕ) (e : ℤ) → Small m e → within 20 (fin s m e)
small-within s m e h =
    subst (λ z. m * up e * 2 ^ 1074 ≤ z) (mul_right_comm (2 ^ 20) (down e) (2 ^ 1074)) (mul-le-mul_right (2 ^ 1074) h)

-- a ≤ b and b ≤ 2 ^ 20, with their divisors c and d multiplied out
chain : (a b c d : ℕ) (e : ℤ) → d ≡ down e → a * d ≤ b * c → b * 1 ≤ 1 * 2 ^ 20 * d → a ≤ 2 ^ 20 * c
chain a b c d e z h k =
    le_of_mul-le-mul_right
    (le_trans h (subst (λ u. b * c ≤ u) (mul_right_comm (2 ^ 20) d c) (mul-le-mul_right c (subst (λ u. u ≤ 2 ^ 20 * d) (mul-one b) k))))
    (subst (λ u. 0 < u) (sym z) (down_pos e))

none : (a c d : ℕ) (e : ℤ) → d ≡ down e → a * d ≡ 0 → a ≤ 2 ^ 20 * c
none a c d e z h = le_of_mul-le-mul_right (subst (λ u. u ≤ 2 ^ 20 * c * d) (sym h) zero-le) (subst (λ u. 0 < u) (sym z) (down_pos e))

plain : (A B : ℕ) → (ltb A B || (eqb A B && true)) ≡ true → A ≤ B
plain A B h =
    ⊎_elim (λ q. le_of_lt (ltb-true A B q)) (λ q. le_of_eq (eqb-true A B (and-fst (eqb A B) true q))) (or_cases (ltb A B) (eqb A B && true) h)

mirrored : (A B : ℕ) → (ltb B A || (eqb A B && true)) ≡ true → B ≤ A
mirrored A B h =
    ⊎_elim (λ q. le_of_lt (ltb-true B A q)) (λ q. le_of_eq (sym (eqb-true A B (and-fst (eqb A B) true q)))) (or_cases (ltb B A) (eqb A B && true) h)

upper : (m : ℕ) (e : ℤ) (hi : Float) → le (fin false m e) hi ≡ true → le hi million ≡ true → Small m e
unfolding le lt eq
upper m e nan h k = absurd (true≢false (sym h))
upper m e (inf true) h k = absurd (true≢false (sym h))
upper m e (inf false) h k = absurd (true≢false (sym k))
upper m e (fin true n d) h k =
    none (m * up e) (down e) (down d) d refl
    (eqb-true (m * up e * down d) 0 (and-snd (eqb (m * up e * down d) (n * up d * down e)) (eqb (m * up e * down d) 0) h))
upper m e (fin false n d) h k =
    chain (m * up e) (n * up d) (down e) (down d) d refl (plain (m * up e * down d) (n * up d * down e) h) (plain (n * up d * 1) (1 * 2 ^ 20 * down d) k)

lower : (m : ℕ) (e : ℤ) (lo : Float) → le lo (fin true m e) ≡ true → le (fin true 1 (pos 20)) lo ≡ true → Small m e
unfolding le lt eq
lower m e nan h k = absurd (true≢false (sym h))
lower m e (inf true) h k = absurd (true≢false (sym k))
lower m e (inf false) h k = absurd (true≢false (sym h))
lower m e (fin false n d) h k =
    let A = n * up d * down e in
    let B = m * up e * down d in
    none (m * up e) (down e) (down d) d refl
    (sym (eqb-true A B (and-fst (eqb A B) (eqb A 0) h)) ∙ eqb-true A 0 (and-snd (eqb A B) (eqb A 0) h))
lower m e (fin true n d) h k =
    chain (m * up e) (n * up d) (down e) (down d) d refl (mirrored (n * up d * down e) (m * up e * down d) h) (mirrored (1 * 2 ^ 20 * down d) (n * up d * 1) k)

not-under : (lo : Float) → le lo (inf true) ≡ true → le (fin true 1 (pos 20)) lo ≡ true → ⊥
unfolding le lt eq
not-under nan h k = true≢false (sym h)
not-under (inf true) h k = true≢false (sym k)
not-under (inf false) h k = true≢false (sym h)
not-under (fin s m e) h k = true≢false (sym h)

not-over : (hi : Float) → le (inf false) hi ≡ true → le hi million ≡ true → ⊥
unfolding le lt eq
not-over nan h k = true≢false (sym h)
not-over (inf true) h k = true≢false (sym h)
not-over (inf false) h k = true≢false (sym k)
not-over (fin s m e) h k = true≢false (sym h)

not-nan : (hi : Float) → le nan hi ≡ true → ⊥
unfolding le lt eq
not-nan hi h = true≢false (sym h)

pub between : (lo x hi : Float) → le lo x ≡ true → le x hi ≡ true → le (fin true 1 (pos 20)) lo ≡ true → le hi million ≡ true → within 20 x
between lo nan hi h k l u = absurd (not-nan hi k)
between lo (inf true) hi h k l u = absurd (not-under lo h l)
between lo (inf false) hi h k l u = absurd (not-over hi k u)
between lo (fin true m e) hi h k l u = small-within true m e (lower m e lo h l)
between lo (fin false m e) hi h k l u = small-within false m e (upper m e hi k u)

-- ---- points

least : le (fin true 1 (pos 20)) (fin true 1 (pos 20)) ≡ true
unfolding le lt eq
least = refl

most : le million million ≡ true
unfolding le lt eq
most = refl

sized-within : (x : Float) → sized x ≡ true → within 20 x
sized-within x h =
    between (fin true 1 (pos 20)) x million (and-fst (le (fin true 1 (pos 20)) x) (le x million) h) (and-snd (le (fin true 1 (pos 20)) x) (le x million) h) least most

-- a point that intake takes
pub sized-near : (p : Point) → sized_point p ≡ true → Near 20 p
sized-near p h =
    let k = and-snd (sized p.x) (sized p.y && sized p.z) h in
    record {
      x = sized-within p.x (and-fst (sized p.x) (sized p.y && sized p.z) h);
      y = sized-within p.y (and-fst (sized p.y) (sized p.z) k);
      z = sized-within p.z (and-snd (sized p.y) (sized p.z) k);
    }

-- a point inside the box, the bounds being such points
pub box-near : (b : Bounds) (p : Point) → sized_point b.lo ≡ true → sized_point b.hi ≡ true → in_box b p ≡ true → Near 20 p
box-near b p l u h =
    let h₁ = and-snd (le b.lo.x p.x) _ h in
    let h₂ = and-snd (le p.x b.hi.x) _ h₁ in
    let h₃ = and-snd (le b.lo.y p.y) _ h₂ in
    let h₄ = and-snd (le p.y b.hi.y) _ h₃ in
    record {
      x = at b.lo.x p.x b.hi.x (and-fst _ _ h) (and-fst _ _ h₁) (and-fst _ _ l) (and-fst _ _ u);
      y = at b.lo.y p.y b.hi.y (and-fst _ _ h₂) (and-fst _ _ h₃) (and-fst _ _ (and-snd (sized b.lo.x) _ l)) (and-fst _ _ (and-snd (sized b.hi.x) _ u));
      z = at b.lo.z p.z b.hi.z (and-fst _ _ h₄) (and-snd (le b.lo.z p.z) _ h₄) (and-snd (sized b.lo.y) _ (and-snd (sized b.lo.x) _ l)) (and-snd (sized b.hi.y) _ (and-snd (sized b.hi.x) _ u));
    }
  where
    at : (lo x hi : Float) → le lo x ≡ true → le x hi ≡ true → sized lo ≡ true → sized hi ≡ true → within 20 x
    at lo x hi h k l u = between lo x hi h k (and-fst (le (fin true 1 (pos 20)) lo) (le lo million) l) (and-snd (le (fin true 1 (pos 20)) hi) (le hi million) u)
