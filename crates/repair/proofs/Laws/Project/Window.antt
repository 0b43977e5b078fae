-- The corner of n rows and n + 1 columns: its rows and entries are those of the whole, and a row changed or exchanged there is one here.
-- Assumes nothing.
use Prim.Native.Nat.{ℕ, suc, ◌+◌, ◌-◌, ◌≤◌, ◌<◌}
use mathlib.Core.Path.{◌≡◌, sym, ap, ◌∙◌}
use mathlib.Core.Logic.{◌≢◌, ◌⊎◌, inl, inr}
use mathlib.Core.Bool.{Bool, true, false, not, cond, ◌&&◌}
use mathlib.Core.List.{List, [], map}
use Rattle.std.specs.Prelude.{Option, None, Some}
use native.Mathlib.Omega.{arith}
use lib.Dec.{eqb}
use lib.Ieee.{Float, lt}
use lib.ListN.{length, get_or, take, set, replicate, length-map, length-set, length-replicate, get_or-replicate, get_or-map}
use lib.Seq.{take-nil, get_or-take, get_or-set_same, get_or-set_other, take-set-lt, length-take-le}
use Rattle.geometry.specs.Float.{zero64, absolute}
use Rattle.geometry.specs.Literals.{64epsilon}
use borrow.Author.Tests.{eqb-true, eqb-false}
use Rattle.mesh.proofs.Laws.Bools.{split}
use Rattle.mesh.proofs.Laws.Parts.{get_d_any}
use Rattle.repair.specs.Project.{finite, entry, pivot, exchanged, divide_from, cleared, solved_at, solved}
use Rattle.repair.specs.inside.project.Solve.{Shaped, window}
use Rattle.repair.proofs.Laws.Project.Lists.{map-set}

same-or-other : (j i : ℕ) → (j ≡ i) ⊎ (j ≢ i)
same-or-other j i = elim (split (eqb j i)) [ inl e ↦ inl (eqb-true j i e) | inr e ↦ inr (eqb-false j i e) ]

module _ (n : ℕ) (m : List (List Float)) where
  -- it has n rows
  pub window-long : n ≤ length m → length (window n m) ≡ n
  window-long h = length-map (take n m) (take (n + 1)) ∙ length-take-le n m h

  -- row i
  pub window-row : (i : ℕ) → i < n → get_or (window n m) i [] ≡ take (n + 1) (get_or m i [])
  window-row i h =
      ap (get_or (window n m) i) (sym (take-nil (n + 1))) ∙ get_or-map (take (n + 1)) (take n m) i [] ∙ ap (take (n + 1)) (get_or-take n m i [] h)

  -- the entry of row i in column k, read with any default
  pub window-entry : (i k : ℕ) (z : Float) → i < n → k ≤ n → n < length (get_or m i []) → get_or (get_or m i []) k z ≡ entry (window n m) i k
  window-entry i k z h g l =
      get_d_any (get_or m i []) k z zero64 (omega arith) ∙ sym (get_or-take (n + 1) (get_or m i []) k zero64 (omega arith))
      ∙ ap (λ (r : List Float). get_or r k zero64) (sym (window-row i h))

  -- row i changed
  pub window-set : (i : ℕ) (r : List Float) → i < n → window n (set m i r) ≡ set (window n m) i (take (n + 1) r)
  window-set i r h = ap (map (take (n + 1))) (take-set-lt n m i r h) ∙ map-set (take (n + 1)) (take n m) i r

-- rows i and j exchanged
pub window-exchanged : (n : ℕ) (m : List (List Float)) (i j : ℕ) → i < n → j < n → window n (exchanged i j m) ≡ exchanged i j (window n m)
window-exchanged n m i j h g =
    window-set n (set m i (get_or m j [])) j (get_or m i []) g
    ∙ (λ t. set ((window-set n m i (get_or m j []) h ∙ ap (set (window n m) i) (sym (window-row n m j g))) t) j (sym (window-row n m i h) t))

-- column k solved in the whole is column k solved in the corner: row k divided by d, then all cleared
pub column-solved : (n : ℕ) (m : List (List Float)) (k : ℕ) (d : Float) (p : List Float) (out : List (List Float)) → k < n → d ≡ entry (window n m) k k
    → take (n + 1) p ≡ divide_from k d (take (n + 1) (get_or m k [])) → out ≡ cleared k 0 (take (n + 1) p) (window n (set m k p)) → out ≡ solved_at k (window n m)
column-solved n m k d p out h e q o =
    o ∙ ap (cleared k 0 (take (n + 1) p)) (window-set n m k p h)
    ∙ ap (λ (r : List Float). cleared k 0 r (set (window n m) k r)) (q ∙ (λ t. divide_from k (e t) (sym (window-row n m k h) t)))

-- ---- 8 rows of 9

-- a row put
pub shaped-set : {m : List (List Float)} → Shaped m → (i : ℕ) (r : List Float) → length r ≡ 9 → Shaped (set m i r)
shaped-set {m} s i r h = record {
  rows = length-set m i r ∙ s.rows;
  columns = λ j g. elim (same-or-other j i) [
    | inl e ↦ ap (λ (t : ℕ). length (get_or (set m t r) j [])) (sym e) ∙ ap (λ (t : List Float). length t) (get_or-set_same m j r [] (omega (arith, s.rows))) ∙ h
    | inr e ↦ ap (λ (t : List Float). length t) (get_or-set_other m i j r [] e) ∙ s.columns j g
  ];
}

-- rows exchanged
pub shaped-exchanged : {m : List (List Float)} → Shaped m → (i j : ℕ) → i < 8 → j < 8 → Shaped (exchanged i j m)
shaped-exchanged {m} s i j h g = shaped-set (shaped-set s i (get_or m j []) (s.columns j g)) j (get_or m i []) (s.columns i h)

-- a row repeated
pub shaped-repeat : (r : List Float) → length r ≡ 9 → Shaped (replicate 8 r)
shaped-repeat r h = record { rows = length-replicate 8 r; columns = λ i g. ap (λ (t : List Float). length t) (get_or-replicate 8 i r [] g) ∙ h }

-- ---- the columns one after the other

-- the test of a pivot
abbrev pub serves : Float → Bool
serves d = finite d && not (lt (absolute d) 64epsilon)

module _ (n k : ℕ) (w : List (List Float)) (h : k < n) where
  -- the pivot of column k in place
  abbrev pub pivoted : List (List Float)
  pivoted = exchanged k (pivot w k k (k + 1) (n - (k + 1))) w

  solved-at : solved k (n - k) w ≡ cond (serves (entry pivoted k k)) (solved (k + 1) (n - (k + 1)) (solved_at k pivoted)) None
  unfolding solved
  solved-at = let e : n - k ≡ suc (n - (k + 1)) = omega arith in rw e

  -- it serves
  pub solved-turn : {v : Option (List (List Float))} {w₂ : List (List Float)} → serves (entry pivoted k k) ≡ true → w₂ ≡ solved_at k pivoted
      → solved k (n - k) w ≡ v → solved (k + 1) (n - (k + 1)) w₂ ≡ v
  solved-turn {v} {w₂} t e l =
      ap (solved (k + 1) (n - (k + 1))) e
      ∙ sym (solved-at ∙ ap (λ (b : Bool). cond b (solved (k + 1) (n - (k + 1)) (solved_at k pivoted)) None) t) ∙ l

  -- it does not
  pub solved-fail : {v : Option (List (List Float))} → serves (entry pivoted k k) ≡ false → solved k (n - k) w ≡ v → None ≡ v
  solved-fail {v} t l = sym (solved-at ∙ ap (λ (b : Bool). cond b (solved (k + 1) (n - (k + 1)) (solved_at k pivoted)) None) t) ∙ l

-- none is left
pub solved-end : (n k : ℕ) (w : List (List Float)) {v : Option (List (List Float))} → n ≤ k → solved k (n - k) w ≡ v → Some w ≡ v
unfolding solved
solved-end n k w {v} h l = let e : n - k ≡ 0 = omega arith in sym (rw e) ∙ l
