-- The three parts of `sqrt` together, for every operand that is a number: `operand` has its value, `exact_root` its root exactly, and `sqrt` is
-- that root rounded to the nearest, ties to even. Assumes nothing.
use Rattle.std.proofs.Common.{◌≡◌, ℕ, ◌*◌, ◌^◌, ◌≤◌, T, sym, ap, subst, le_trans, lit≤}
use lib.Ieee.{Float, binary64, fits}
use Rattle.geometry.specs.Root.{number, operand, exact_root, rounded, root_of, sqrt}
use Rattle.geometry.proofs.Laws.Root.Special.{IsNumber, number_is}
use Rattle.geometry.proofs.Laws.Root.Whole.{IsExact, exact-root, whole-small, root-le}
use Rattle.geometry.proofs.Laws.Root.Rounding.{NearestEven, rounded-nearest}

-- what `sqrt` does with an x that is the number n
pub record Parts (x : Float) (n : ℕ) : Type 0 where
  pub value : IsNumber x n
  pub exact : IsExact n (exact_root n)
  pub nearest : NearestEven (exact_root n) (sqrt x)

sqrt-is : (x : Float) (n : ℕ) → operand x ≡ number n → sqrt x ≡ rounded (exact_root n)
unfolding sqrt root_of
sqrt-is x n h = ap root_of h

pub sqrt-parts : (x : Float) (n : ℕ) → T (fits binary64 x) → operand x ≡ number n → Parts x n
sqrt-parts x n f h =
    let v = number_is x n f h in
    let e = exact-root n v.most in
    let low : 2 ^ 53 ≤ (exact_root n).whole = root-le n (2 ^ 53) (exact_root n).whole (le_trans (lit≤ {m = 2 ^ 53 * 2 ^ 53} {n = 2 ^ 1074} tt) v.least) e.most in
    record {
      value = v;
      exact = e;
      nearest = subst (λ (w : Float). NearestEven (exact_root n) w) (sym (sqrt-is x n h)) (rounded-nearest (exact_root n) low (whole-small n v.most));
    }
