-- Slots emptied one after the other and slots added one behind the other, in the work slice of `flip` (src/flip/replace.rt). For the
-- contracts of private functions; definitions only.
use Rattle.std.specs.Prelude.{ℕ, ◌+◌, ◌≤◌, ◌≡◌, true, List, ◌++◌, map, length}
use Rattle.std.proofs.Math.Option.{some}
use Rattle.mesh.specs.declared.element.Tet.{Tet}
use Rattle.mesh.specs.declared.star.Index.{Index}
use Rattle.mesh.specs.Tests.{every, under}
use Rattle.mesh.specs.Intake.{well_numbered}
use Rattle.repair.specs.Flip.{State, emptied}
use Rattle.repair.specs.inside.flip.Layout.{SlotsStand, Kept}

-- where w stands for a state, v stands for the state with these slots emptied
abbrev pub Empties : Index → List ℕ → List ℕ → List ℕ → Type 0
Empties x is w v =
    (n c : ℕ) (s : State) → under c is ≡ true → SlotsStand x n c w s → SlotsStand x n c v (record { slots = emptied is s.slots; flips = s.flips }) × Kept x w v

-- where w stands for a state with c slots, v stands for the state with these elements in new slots behind them
abbrev pub Adds : Index → ℕ → List Tet → List ℕ → List ℕ → Type 0
Adds x c ts w v =
    (n : ℕ) (s : State) → c + length ts ≤ x.room → every (well_numbered x.vertices) ts ≡ true → SlotsStand x n c w s
    → SlotsStand x n (c + length ts) v (record { slots = s.slots ++ map some ts; flips = s.flips }) × Kept x w v
