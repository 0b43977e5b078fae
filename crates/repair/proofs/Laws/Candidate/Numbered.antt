-- The candidates by number: those below 3 go towards the mean, those from 3 on are the steps. Assumes nothing.
use mathlib.Core.Path.{◌≡◌, refl, sym, ap}
use mathlib.Core.List.{List, [], ◌∷◌, ◌++◌}
use Prim.Native.Nat.{ℕ, suc, ◌-◌, ◌≤◌}
use native.Mathlib.Omega.{arith}
use lib.Ieee.{Float}
use lib.ListN.{get_or, drop}
use Rattle.geometry.specs.declared.point.Point.{Point}
use Rattle.repair.specs.Smooth.{mean, mean_candidates, step_candidates}
use Rattle.repair.specs.inside.smooth.Candidates.{nine}

-- one of the last six
pub candidate-step : (k : ℕ) (original origin mean' : Point) (h : Float)
    → 3 ≤ k → get_or (step_candidates origin h) (k - 3) origin ≡ get_or (nine original origin mean' h) k origin
candidate-step k original origin mean' h l =
    let e : k ≡ suc (suc (suc (k - 3))) = omega arith in
    sym (ap (λ (j : ℕ). get_or (nine original origin mean' h) j origin) e)

-- the candidates of the definition: from number 0 on where there is a neighbour, else from number 3 on
pub candidates-with : (original origin : Point) (h : Float) (p : Point) (ps : List Point)
    → mean_candidates original origin (p ∷ ps) ++ step_candidates origin h ≡ drop 0 (nine original origin (mean (p ∷ ps)) h)
candidates-with original origin h p ps = refl

pub candidates-without : (original origin : Point) (h : Float) (any : Point) → mean_candidates original origin [] ++ step_candidates origin h ≡ drop 3 (nine original origin any h)
candidates-without original origin h any = refl
