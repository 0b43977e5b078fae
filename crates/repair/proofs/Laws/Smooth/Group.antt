-- One group of `smooth`: the best candidate keeps every determinant about the group above 0 and every score at least the floor, and the
-- elements away from the group keep their points. Assumes nothing.
use mathlib.Core.Path.{◌≡◌, refl, sym, ap, subst, ◌∙◌}
use mathlib.Core.Logic.{inl, inr}
use mathlib.Core.Bool.{Bool, true, false, cond, ◌&&◌}
use mathlib.Core.List.{List, [], ◌∷◌, Memᴰ}
use mathlib.Core.Option.{Option, none, some}
use Prim.Native.Nat.{ℕ, ◌≤◌}
use native.Mathlib.Nat.{le_trans}
use native.Mathlib.Omega.{arith}
use lib.Ieee.{Float, lt, eq}
use lib.ListN.{length}
use Rattle.geometry.specs.declared.point.Point.{Point}
use Rattle.geometry.specs.declared.bounds.Options.{Options}
use Rattle.geometry.specs.declared.field.Field.{Field}
use Rattle.geometry.specs.Float.{◌+₆₄◌, zero64, one64}
use Rattle.geometry.specs.Literals.{e_10, fifteen_hundredths}
use Rattle.geometry.specs.Units.{units_of}
use Rattle.geometry.specs.inside.Units.{within}
use Rattle.geometry.specs.Bounds.{periodic_in}
use Rattle.geometry.proofs.Laws.Score.Near.{Near}
use Rattle.mesh.specs.declared.element.Tet.{Tet}
use Rattle.mesh.specs.Words.{point_at}
use Rattle.mesh.specs.Tests.{every, any}
use Rattle.mesh.specs.Intake.{sized_point, in_box}
use Rattle.mesh.specs.Measure.{measure, determinant_of, score_of, lowest_of}
use Rattle.mesh.proofs.Laws.Complex.Sets.{split, and-fst}
use Rattle.mesh.proofs.Laws.Link.Members.{kept-elim, kept-intro, every-elim}
use Rattle.repair.specs.Project.{Projected}
use Rattle.std.specs.Prelude.{Some, None}
use Rattle.repair.specs.Mesh.{Mesh, has}
use Rattle.repair.specs.Project.{project}
use Rattle.repair.specs.Wholeness.{Exact}
use Rattle.repair.specs.Smooth.{State, Best, mapped, kept_on, placed, move_to, better, allowed, tried, best_of, about_group, best_for, taken, smooth_group, smooth_groups}
use Rattle.repair.proofs.Laws.Smooth.Scores.{AllNear, score-exact, above-exact, lowest-exact, lowest-under, lowest-over}
use Rattle.repair.proofs.Laws.Smooth.Sizes.{sized-near, box-near}
use Rattle.repair.proofs.Laws.Smooth.Placed.{placed-all, placed-other, length-placed, away, same-determinant, same-score}

-- what holds of the points all along: within 2 ^ 20, every determinant above 0, every score at least F units
pub record PointsKept (ts : List Tet) (F : ℕ) (ps : List Point) : Type 0 where
  pub near : AllNear ps
  pub upright : (t : Tet) → Memᴰ t ts → lt zero64 (determinant_of ps t) ≡ true
  pub floor : (t : Tet) → Memᴰ t ts → F ≤ units_of (score_of ps t)

-- ---- a moved group

cond-within : (t : Bool) (x y : Float) → within 20 x → within 20 y → within 20 (cond t x y)
cond-within true x y h k = h
cond-within false x y h k = k

-- the map keeps a point within 2 ^ 20
mapped-near : (p : Point) → Near 20 p → Near 20 (mapped p)
unfolding mapped
mapped-near p n = n

module _ (o : Options) (high : sized_point o.bounds.hi ≡ true) where
  kept_near : (q p : Point) → Near 20 p → Near 20 (kept_on o q p)
  kept_near q p n =
      let h = sized-near o.bounds.hi high in
      record {
        x = cond-within (periodic_in o.periodic 0 && eq q.x o.bounds.hi.x) o.bounds.hi.x p.x h.x n.x;
        y = cond-within (periodic_in o.periodic 1 && eq q.y o.bounds.hi.y) o.bounds.hi.y p.y h.y n.y;
        z = cond-within (periodic_in o.periodic 2 && eq q.z o.bounds.hi.z) o.bounds.hi.z p.z h.z n.z;
      }

  -- moved points stay within 2 ^ 20
  pub moved-near : (s : State) (g : List ℕ) (p : Point) → AllNear s.points → Near 20 p → AllNear (move_to o s g p).points
  unfolding move_to
  moved-near s g p n k = placed-all (λ v. mapped (kept_on o (point_at s.parameters v) p)) (Near 20) g s.points n (λ v. mapped-near (kept_on o (point_at s.parameters v) p) (kept_near (point_at s.parameters v) p k))

-- there are as many as before
pub moved_length : (o : Options) (s : State) (g : List ℕ) (p : Point) → length (move_to o s g p).points ≡ length s.points
unfolding move_to
moved_length o s g p = length-placed (λ v. mapped (kept_on o (point_at s.parameters v) p)) g s.points

-- an element away from the group keeps determinant and score
module _ (o : Options) (s : State) (g : List ℕ) (p : Point) (t : Tet) (h : any (λ v. has v t) g ≡ false) where
  pub away-determinant : determinant_of (move_to o s g p).points t ≡ determinant_of s.points t
  unfolding move_to
  away-determinant =
      same-determinant s.points (placed (λ v. mapped (kept_on o (point_at s.parameters v) p)) g s.points) t
      (λ w m. placed-other (λ v. mapped (kept_on o (point_at s.parameters v) p)) g s.points w (away g t w h m))

  pub away-score : score_of (move_to o s g p).points t ≡ score_of s.points t
  unfolding move_to
  away-score =
      same-score s.points (placed (λ v. mapped (kept_on o (point_at s.parameters v) p)) g s.points) t
      (λ w m. placed-other (λ v. mapped (kept_on o (point_at s.parameters v) p)) g s.points w (away g t w h m))

-- ---- the best candidate

module _ (o : Options) (low : sized_point o.bounds.lo ≡ true) (high : sized_point o.bounds.hi ≡ true) (s : State) (near : AllNear s.points)
    (g : List ℕ) (about : List Tet) (F : ℕ) where
  -- a candidate that may be taken
  record Fine (p : Point) : Type 0 where
    pub inside : Near 20 p
    pub upright : every (measure (move_to o s g p).points).above about ≡ true
    pub floor : (t : Tet) → Memᴰ t about → F ≤ units_of (score_of (move_to o s g p).points t)

  -- what holds of the best so far
  record Good (best : Best) : Type 0 where
    pub exact : Exact best.lowest
    pub floor : F ≤ units_of best.lowest
    pub found : (p : Point) → best.found ≡ some p → Fine p

  better-good : (p : Point) → Near 20 p → (best : Best) → Good best → Good (better about (move_to o s g p).points p best)
  better-good p n best b = go (every (measure ps).above about) (lt (best.lowest +₆₄ e_10) (lowest_of (measure ps) about)) refl refl
    where
      ps : List Point
      ps = (move_to o s g p).points

      exact : (t : Tet) → Exact (score_of ps t)
      exact = score-exact ps (moved-near o high s g p near n)

      up : lt (best.lowest +₆₄ e_10) (lowest_of (measure ps) about) ≡ true → F ≤ units_of (lowest_of (measure ps) about)
      up k = le_trans b.floor (above-exact (lowest_of (measure ps) about) best.lowest (lowest-exact (score_of ps) exact about) b.exact k)

      go : (x y : Bool) → every (measure ps).above about ≡ x → lt (best.lowest +₆₄ e_10) (lowest_of (measure ps) about) ≡ y
          → Good (cond (x && y) (record { lowest = lowest_of (measure ps) about; found = some p }) best)
      go false y h k = b
      go true false h k = b
      go true true h k = record {
        exact = lowest-exact (score_of ps) exact about;
        floor = up k;
        found = λ q e. subst Fine (the p q e) (record { inside = n; upright = h; floor = λ t m. le_trans (up k) (lowest-under (score_of ps) exact about m) });
      }
        where
          the : (p q : Point) → some p ≡ some q → p ≡ q
          the p q e = cc

  module _ (fields : List Field) (regions : Option (List ℕ)) (origin : Point) (active : List Field) where
    tried-good : (best : Best) → Good best → (r : Projected) → Good (tried o fields regions about s g origin active best r)
    tried-good best b None = b
    tried-good best b (Some p) = go (allowed o fields regions origin active p) refl
      where
        go : (x : Bool) → allowed o fields regions origin active p ≡ x → Good (cond x (better about (move_to o s g p).points p best) best)
        go false h = b
        go true h = better-good p (box-near o.bounds p low high (and-fst (in_box o.bounds p) _ h)) best b

    best-good : (best : Best) → Good best → (cs : List Point) → Good (best_of o fields regions about s g origin active best cs)
    unfolding best_of
    best-good best b [] = b
    best-good best b (c ∷ cs) = best-good (tried o fields regions about s g origin active best (project o.bounds origin active c)) (tried-good best b (project o.bounds origin active c)) cs

-- ---- a group's move

module _ (o : Options) (low : sized_point o.bounds.lo ≡ true) (high : sized_point o.bounds.hi ≡ true) (fields : List Field) (regions : Option (List ℕ))
    (m : Mesh) (F : ℕ) (one : F ≤ units_of one64) where
  taken-keeps : (s : State) (g : List ℕ) (k : PointsKept m.elements F s.points) (r : Option Point)
      → ((p : Point) → r ≡ some p → Fine o low high s k.near g (about_group m.elements g) F p) → PointsKept m.elements F (taken o fields regions m s g r).points
  taken-keeps s g k none f = k
  taken-keeps s g k (some p) f = record {
    near = moved-near o high s g p k.near (f p refl).inside;
    upright = λ t i. elim (split (any (λ v. has v t) g)) [
      | inl h ↦ every-elim (measure (move_to o s g p).points).above (about_group m.elements g) (f p refl).upright (kept-intro (λ u. any (λ v. has v u) g) m.elements i h)
      | inr h ↦ ap (lt zero64) (away-determinant o s g p t h) ∙ k.upright t i
    ];
    floor = λ t i. elim (split (any (λ v. has v t) g)) [
      | inl h ↦ (f p refl).floor t (kept-intro (λ u. any (λ v. has v u) g) m.elements i h)
      | inr h ↦ subst (λ x. F ≤ units_of x) (sym (away-score o s g p t h)) (k.floor t i)
    ];
  }

  best-fine : (s : State) (v : ℕ) (g : List ℕ) (k : PointsKept m.elements F s.points) (p : Point) → (best_for o fields regions m s v g).found ≡ some p
      → Fine o low high s k.near g (about_group m.elements g) F p
  unfolding best_for
  best-fine s v g k p e =
      (best-good o low high s k.near g (about_group m.elements g) F fields regions _ _
      (record { lowest = lowest_of (measure s.points) (about_group m.elements g); found = none })
      (record {
        exact = lowest-exact (score_of s.points) (score-exact s.points k.near) (about_group m.elements g);
        floor = lowest-over (score_of s.points) (score-exact s.points k.near) F one (about_group m.elements g)
            (λ t i. k.floor t (kept-elim (λ u. any (λ w. has w u) g) m.elements i).0);
        found = λ q z. absurd (never q z);
      })
      _).found p e
    where
      never : (q : Point) → none ≡ some q → ⊥
      never q z = let y : ◌≡◌ {A = ℕ} 0 1 = cc in omega arith

  -- a group's turn keeps all of it
  pub group-keeps : (s : State) (g : List ℕ) → PointsKept m.elements F s.points → PointsKept m.elements F (smooth_group o fields regions m s g).points
  unfolding smooth_group
  group-keeps s [] k = k
  group-keeps s (v ∷ g) k = go (lt (lowest_of (measure s.points) (about_group m.elements (v ∷ g))) fifteen_hundredths)
    where
      go : (t : Bool) → PointsKept m.elements F (cond t (taken o fields regions m s (v ∷ g) (best_for o fields regions m s v (v ∷ g)).found) s).points
      go true = taken-keeps s (v ∷ g) k (best_for o fields regions m s v (v ∷ g)).found (best-fine s v (v ∷ g) k)
      go false = k

  -- and so do all groups
  pub groups-keep : (s : State) (gs : List (List ℕ)) → PointsKept m.elements F s.points → PointsKept m.elements F (smooth_groups o fields regions m s gs).points
  unfolding smooth_groups
  groups-keep s [] k = k
  groups-keep s (g ∷ gs) k = groups-keep (smooth_group o fields regions m s g) gs (group-keeps s g k)

-- ---- how many vertices

-- as many parameters and points as before
pub record Long (s₀ s : State) : Type 0 where
  pub parameters : length s.parameters ≡ length s₀.parameters
  pub points : length s.points ≡ length s₀.points

module _ (o : Options) (fields : List Field) (regions : Option (List ℕ)) (m : Mesh) (s₀ : State) where
  moved-long : (s : State) (g : List ℕ) (p : Point) → Long s₀ s → Long s₀ (move_to o s g p)
  unfolding move_to
  moved-long s g p l = record {
    parameters = length-placed (λ v. kept_on o (point_at s.parameters v) p) g s.parameters ∙ l.parameters;
    points = length-placed (λ v. mapped (kept_on o (point_at s.parameters v) p)) g s.points ∙ l.points;
  }

  taken-long : (s : State) (g : List ℕ) (r : Option Point) → Long s₀ s → Long s₀ (taken o fields regions m s g r)
  taken-long s g none l = l
  taken-long s g (some p) l = moved-long s g p l

  group-long : (s : State) (g : List ℕ) → Long s₀ s → Long s₀ (smooth_group o fields regions m s g)
  unfolding smooth_group
  group-long s [] l = l
  group-long s (v ∷ g) l = go (lt (lowest_of (measure s.points) (about_group m.elements (v ∷ g))) fifteen_hundredths)
    where
      go : (t : Bool) → Long s₀ (cond t (taken o fields regions m s (v ∷ g) (best_for o fields regions m s v (v ∷ g)).found) s)
      go true = taken-long s (v ∷ g) (best_for o fields regions m s v (v ∷ g)).found l
      go false = l

  pub groups-long : (s : State) (gs : List (List ℕ)) → Long s₀ s → Long s₀ (smooth_groups o fields regions m s gs)
  unfolding smooth_groups
  groups-long s [] l = l
  groups-long s (g ∷ gs) l = groups-long (smooth_group o fields regions m s g) gs (group-long s g l)
