-- Points within 2 ^ 20: the determinant is within 2 ^ 66 and the sum of squared_edge squared_edges within 2 ^ 49, so both are finite and no NaN. Assumes nothing.
use Rattle.std.proofs.Common.{ℕ, suc, ◌+◌, ◌<◌, ◌≤◌, arith, lit<, lit≤}
use lib.Ieee.{Float}
use Rattle.geometry.specs.inside.Units.{within}
use Rattle.geometry.proofs.Laws.Float.Magnitude.{plus, less_by, times, more}
use Rattle.geometry.specs.declared.point.Point.{Point}
use Rattle.geometry.specs.Float.{◌+₆₄◌, ◌*₆₄◌}
use Rattle.geometry.specs.Point.{difference, dot, cross, determinant}
use Rattle.geometry.specs.Score.{squared_edge, squared_edges}

pub record Near (k : ℕ) (p : Point) : Type 0 where
  pub x : within k p.x
  pub y : within k p.y
  pub z : within k p.z

pub minus-near : (k : ℕ) (a b : Point) → k < 1023 → Near k a → Near k b → Near (suc k) (difference a b)
minus-near k a b l p q = record {
  x = less_by k a.x b.x l p.x q.x;
  y = less_by k a.y b.y l p.y q.y;
  z = less_by k a.z b.z l p.z q.z;
}

sum3 : (k : ℕ) (x y z : Float) → k < 1022 → within k x → within k y → within k z → within (suc (suc k)) ((x +₆₄ y) +₆₄ z)
sum3 k x y z l p q r = plus (suc k) (x +₆₄ y) z (next k l) (plus k x y (prev k l) p q) (more k (suc k) z (up k) r)
  where
    next : (k : ℕ) → k < 1022 → suc k < 1023
    next k l = omega arith

    prev : (k : ℕ) → k < 1022 → k < 1023
    prev k l = omega arith

    up : (k : ℕ) → k ≤ suc k
    up k = omega arith

pub dot-near : (k l : ℕ) (a b : Point) → k + l < 1022 → Near k a → Near l b → within (suc (suc (k + l))) (dot a b)
dot-near k l a b h p q =
    sum3 (k + l) (a.x *₆₄ b.x) (a.y *₆₄ b.y) (a.z *₆₄ b.z) h
    (times k l a.x b.x (wide (k + l) h) p.x q.x) (times k l a.y b.y (wide (k + l) h) p.y q.y) (times k l a.z b.z (wide (k + l) h) p.z q.z)
  where
    wide : (n : ℕ) → n < 1022 → n < 1024
    wide n h = omega arith

pub cross-near : (k : ℕ) (a b : Point) → k + k < 1023 → Near k a → Near k b → Near (suc (k + k)) (cross a b)
cross-near k a b h p q = record {
  x = less_by (k + k) (a.y *₆₄ b.z) (a.z *₆₄ b.y) h (times k k a.y b.z (wide (k + k) h) p.y q.z) (times k k a.z b.y (wide (k + k) h) p.z q.y);
  y = less_by (k + k) (a.z *₆₄ b.x) (a.x *₆₄ b.z) h (times k k a.z b.x (wide (k + k) h) p.z q.x) (times k k a.x b.z (wide (k + k) h) p.x q.z);
  z = less_by (k + k) (a.x *₆₄ b.y) (a.y *₆₄ b.x) h (times k k a.x b.y (wide (k + k) h) p.x q.y) (times k k a.y b.x (wide (k + k) h) p.y q.x);
}
  where
    wide : (n : ℕ) → n < 1023 → n < 1024
    wide n h = omega arith

pub det-near : (a b c d : Point) → Near 20 a → Near 20 b → Near 20 c → Near 20 d → within 66 (determinant a b c d)
unfolding determinant
det-near a b c d p q r s =
    dot-near 21 43 (difference b a) (cross (difference c a) (difference d a)) (lit< tt) (minus-near 20 b a (lit< tt) q p)
    (cross-near 21 (difference c a) (difference d a) (lit< tt) (minus-near 20 c a (lit< tt) r p) (minus-near 20 d a (lit< tt) s p))

pub squared-near : (a b : Point) → Near 20 a → Near 20 b → within 44 (squared_edge a b)
unfolding squared_edge
squared-near a b p q = dot-near 21 21 (difference b a) (difference b a) (lit< tt) (minus-near 20 b a (lit< tt) q p) (minus-near 20 b a (lit< tt) q p)

next-sum : (k : ℕ) (x y : Float) → k < 1023 → 44 ≤ k → within k x → within 44 y → within (suc k) (x +₆₄ y)
next-sum k x y l h p q = plus k x y l p (more 44 k y h q)

pub edges-near : (a b c d : Point) → Near 20 a → Near 20 b → Near 20 c → Near 20 d → within 49 (squared_edges a b c d)
unfolding squared_edges
edges-near a b c d p q r s =
    let e1 = squared_edge a b in
    let e2 = e1 +₆₄ squared_edge a c in
    let e3 = e2 +₆₄ squared_edge a d in
    let e4 = e3 +₆₄ squared_edge b c in
    let e5 = e4 +₆₄ squared_edge b d in
    next-sum 48 e5 (squared_edge c d) (lit< tt) (lit≤ tt)
    (next-sum 47 e4 (squared_edge b d) (lit< tt) (lit≤ tt)
    (next-sum 46 e3 (squared_edge b c) (lit< tt) (lit≤ tt)
    (next-sum 45 e2 (squared_edge a d) (lit< tt) (lit≤ tt)
    (next-sum 44 e1 (squared_edge a c) (lit< tt) (lit≤ tt) (squared-near a b p q) (squared-near a c p r))
    (squared-near a d p s))
    (squared-near b c q r))
    (squared-near b d q s))
    (squared-near c d r s)
