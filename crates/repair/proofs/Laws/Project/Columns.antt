-- A turn of the loop over the columns: the pivot is found, brought into place and tested, and its column is solved. Assumes nothing.
use Prim.Native.Nat.{ℕ, ◌+◌, ◌-◌, ◌≤◌, ◌<◌}
use mathlib.Core.Path.{◌≡◌, ap, ◌∙◌}
use mathlib.Core.Bool.{Bool, true, false, not}
use mathlib.Core.List.{List, []}
use Rattle.std.specs.Prelude.{Option, None}
use native.Mathlib.Omega.{arith}
use lib.Ieee.{Float, nan}
use lib.ListN.{get_or}
use Rattle.mesh.proofs.Laws.Intake.Chains.{fails_by, holds_by}
use Rattle.repair.specs.Project.{entry, pivot, exchanged, solved_at, solved}
use Rattle.repair.specs.inside.project.Solve.{Shaped, window}
use Rattle.repair.proofs.Laws.Project.Window.{serves, pivoted, solved-turn, solved-fail}
use Rattle.repair.proofs.Laws.Project.Arrays.{corner-entry, exchange-shaped, exchange-corner}

module _ {m : List (List Float)} (s : Shaped m) (n : ℕ) (few : n ≤ 8) (k best : ℕ) {m₁ : List (List Float)} (h : k < n)
    (p : (best < n) × (best ≡ pivot (window n m) k k (k + 1) (n - (k + 1)))) (e : m₁ ≡ exchanged k best m) where
  -- the entry that is tested is the pivot
  tested : {b : Bool} → b ≡ serves (get_or (get_or m₁ k []) k nan) → b ≡ serves (entry (pivoted n k (window n m) h) k k)
  tested {b} t =
      t ∙ ap serves (corner-entry (exchange-shaped s n few k best h p e) n few k k h (omega arith)
      ∙ ap (λ (w : List (List Float)). entry w k k) (exchange-corner s n few k best h p e))

  -- it serves
  pub column-turn : {b : Bool} {w : List (List Float)} {v : Option (List (List Float))} → b ≡ serves (get_or (get_or m₁ k []) k nan) → not b ≡ false
      → w ≡ solved_at k (window n m₁) → solved k (n - k) (window n m) ≡ v → solved (k + 1) (n - (k + 1)) w ≡ v
  column-turn {b} {w} {v} t f q l = solved-turn n k (window n m) h (holds_by (tested t) f) (q ∙ ap (solved_at k) (exchange-corner s n few k best h p e)) l

  -- it does not
  pub column-fail : {b : Bool} {v : Option (List (List Float))} → b ≡ serves (get_or (get_or m₁ k []) k nan) → not b ≡ true → solved k (n - k) (window n m) ≡ v → None ≡ v
  column-fail {b} {v} t f l = solved-fail n k (window n m) h (fails_by (tested t) f) l
