-- The runs of rows in an area, as src/runs.rt gives them. For contracts of private functions and for proofs; definitions only.
use Rattle.std.specs.Prelude.{◌≡◌, ℕ, ◌+◌, ◌*◌, ◌<◌, ◌≤◌, Option, MatchOption, List, [], ◌∷◌, length, drop}
use Rattle.mesh.specs.declared.runs.Runs.{Runs}
use Rattle.mesh.specs.inside.Rows.{rows}
use Rattle.mesh.specs.inside.Group.{runs, same_first}

-- the runs that are left
abbrev pub runs_left : Runs → List (List (List ℕ))
runs_left s = runs (same_first s.kw) (rows s.w s.left (drop s.at s.area.now))

-- the rows that an item tells: where they begin, and how many
abbrev pub run_at : Runs → ℕ × ℕ → List (List ℕ)
run_at s x = rows s.w x.1 (drop x.0 s.area.now)

-- a call of `next`: the first of the runs left, or none
abbrev pub GivesRun : Runs → Option (ℕ × ℕ) → Runs → Type 0
GivesRun s r t = (t.area ≡ s.area) × (t.w ≡ s.w)
    × MatchOption r (runs_left s ≡ []) (λ x. (runs_left s ≡ run_at s x ∷ runs_left t) × (0 < x.1) × (x.0 + x.1 * s.w ≤ length s.area.now))

-- r has all runs of the m rows of w words from p on left
pub record RunsOf (s : List ℕ) (p m w kw : ℕ) (r : Runs) : Type 0 where
  pub area : r.area.now ≡ s
  pub width : r.w ≡ w
  pub left : runs_left r ≡ runs (same_first kw) (rows w m (drop p s))
