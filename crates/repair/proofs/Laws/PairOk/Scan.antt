-- A scan of elements for one that passes a test. Assumes nothing.
use mathlib.Core.Path.{◌≡◌, refl, ap}
use mathlib.Core.Bool.{Bool, ◌||◌}
use mathlib.Core.List.{List}
use Prim.Native.Nat.{ℕ, zero, suc, ◌+◌, ◌*◌}
use native.Mathlib.Omega.{arith}
use lib.ListN.{drop}
use lib.Seq.{get_or-drop, drop-drop}
use Rattle.std.specs.List.{list_any, range_with_len}
use Rattle.mesh.specs.declared.element.Tet.{Tet}
use Rattle.mesh.specs.Element.{tets}
use Rattle.mesh.specs.inside.Intake.{tet_at}
use Rattle.mesh.specs.Tests.{any}
use native.Mathlib.Nat.{add-zero}

-- the elements from the i-th on, tested one by one
scanned : (q : Tet → Bool) (s : List ℕ) (n i : ℕ) → list_any (λ e. q (tet_at s e)) (range_with_len i n) ≡ any q (tets n (drop (4 * i) s))
unfolding tets tet_at
scanned q s zero i = refl
scanned q s (suc n) i =
    let e : 4 * i + 4 ≡ 4 * (i + 1) = omega arith in
    rw (get_or-drop (4 * i) s 0 0, add-zero (4 * i), get_or-drop (4 * i) s 1 0, get_or-drop (4 * i) s 2 0, get_or-drop (4 * i) s 3 0, drop-drop 4 (4 * i) s, e)
    (ap (λ (b : Bool). q (tet_at s i) || b) (scanned q s n (i + 1)))

pub scanned-all : (q : Tet → Bool) (s : List ℕ) (n : ℕ) → list_any (λ e. q (tet_at s e)) (range_with_len 0 n) ≡ any q (tets n s)
scanned-all q s n = scanned q s n 0
