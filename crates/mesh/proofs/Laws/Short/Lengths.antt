-- A length that is below some value is finite and not negative: its bits stand as the lengths do. Assumes nothing.
use Rattle.std.proofs.Common.{◌≡◌, zero, suc, ◌*◌, ◌/◌, ◌^◌, Bool, true, false, T, ltb, List, ℤ, sym, refl, true≢false}
use lib.Ieee.{Float, nan, inf, fin, binary64, up, down, lt, fits}
use lib.Ieee.Fits.{add-fits, round-fits}
use Rattle.geometry.specs.declared.point.Point.{Point}
use Rattle.geometry.specs.Float.{◌+₆₄◌, ◌*₆₄◌}
use Rattle.geometry.specs.Units.{NotNegative}
use Rattle.geometry.specs.Root.{operand, exact_root, rounded, root_of, sqrt}
use Rattle.geometry.specs.Point.{difference, dot, norm}
use Rattle.geometry.specs.inside.Word.{order_bits}
use Rattle.geometry.proofs.Laws.Float.Sign.{Signed}
use Rattle.geometry.proofs.Laws.Root.Rounding.{halves}
use Rattle.geometry.proofs.Laws.Score.Quality.{sqrt-signed}
use Rattle.geometry.proofs.Laws.Word.Order.{order_lt}
use Rattle.mesh.specs.declared.element.Pair.{Pair}
use Rattle.mesh.specs.Words.{point_at}
use Rattle.mesh.specs.Measure.{length_of}

-- ---- the root

-- binary64 holds the root of what it holds
sqrt-fits : (x : Float) → T (fits binary64 x) → T (fits binary64 (sqrt x))
unfolding sqrt operand root_of rounded fits
sqrt-fits nan h = tt
sqrt-fits (inf true) h = tt
sqrt-fits (inf false) h = tt
sqrt-fits (fin s zero e) h = h
sqrt-fits (fin true (suc m) e) h = tt
sqrt-fits (fin false (suc m) e) h = round-fits binary64 false (halves (exact_root (suc m * up e * 2 ^ 2148 / down e))) (2 ^ 1075)

-- nothing is above +∞
top : (y : Float) → lt (inf false) y ≡ true → ⊥
unfolding lt
top nan h = true≢false (sym h)
top (inf t) h = true≢false (sym h)
top (fin t n d) h = true≢false (sym h)

signed-plus : (v y : Float) → Signed false v → lt v y ≡ true → NotNegative v
signed-plus nan y s h = absurd s
signed-plus (inf true) y s h = absurd (true≢false s)
signed-plus (inf false) y s h = absurd (top y h)
signed-plus (fin true m e) y s h = absurd (true≢false s)
signed-plus (fin false m e) y s h = tt

-- a NaN is below nothing
nan-below : (y : Float) → lt nan y ≡ true → ⊥
unfolding lt
nan-below y h = true≢false (sym h)

zero-plus : (s : Bool) (e : ℤ) → NotNegative (fin s zero e)
zero-plus true e = refl
zero-plus false e = tt

-- a root below some value is finite and not negative
sqrt-plus : (x y : Float) → lt (sqrt x) y ≡ true → NotNegative (sqrt x)
unfolding sqrt operand root_of
sqrt-plus nan y h = absurd (nan-below y h)
sqrt-plus (inf true) y h = absurd (nan-below y h)
sqrt-plus (inf false) y h = absurd (top y h)
sqrt-plus (fin s zero e) y h = zero-plus s e
sqrt-plus (fin true (suc m) e) y h = absurd (nan-below y h)
sqrt-plus (fin false (suc m) e) y h = signed-plus (sqrt (fin false (suc m) e)) y (sqrt-signed (fin false (suc m) e) refl) h

-- ---- lengths

length-fits : (ps : List Point) (e : Pair) → T (fits binary64 (length_of ps e))
unfolding norm
length-fits ps e =
    let d = difference (point_at ps e.a) (point_at ps e.b) in
    sqrt-fits (dot d d) (add-fits binary64 ((d.x *₆₄ d.x) +₆₄ (d.y *₆₄ d.y)) (d.z *₆₄ d.z))

length-plus : (ps : List Point) (e : Pair) (y : Float) → lt (length_of ps e) y ≡ true → NotNegative (length_of ps e)
unfolding norm
length-plus ps e y h = let d = difference (point_at ps e.a) (point_at ps e.b) in sqrt-plus (dot d d) y h

-- the bits of two lengths below some value stand as the lengths do
pub bits-lt : (ps : List Point) (limit : Float) (e f : Pair) → lt (length_of ps e) limit ≡ true → lt (length_of ps f) limit ≡ true
    → ltb (order_bits (length_of ps e)) (order_bits (length_of ps f)) ≡ lt (length_of ps e) (length_of ps f)
bits-lt ps limit e f h k =
    order_lt (length_of ps e) (length_of ps f) (length-fits ps e) (length-fits ps f) (length-plus ps e limit h) (length-plus ps f limit k)
