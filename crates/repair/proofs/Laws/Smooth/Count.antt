-- The count of `smooth`: each group of the start stays or moves as a whole, in their order, and the count is the number of vertices of the
-- groups that moved. With the count 0 the mesh is as before. Assumes nothing.
use mathlib.Core.Path.{◌≡◌, refl, sym, ap, subst, ◌∙◌}
use mathlib.Core.Logic.{◌⊎◌, inl, inr}
use mathlib.Core.Bool.{Bool, true, false, cond}
use mathlib.Core.List.{List, [], ◌∷◌}
use mathlib.Core.Option.{Option, none, some}
use Prim.Native.Nat.{ℕ, suc, ◌+◌}
use native.Mathlib.Omega.{arith}
use lib.Ieee.{lt}
use lib.ListN.{length}
use Rattle.geometry.specs.declared.point.Point.{Point}
use Rattle.geometry.specs.declared.bounds.Options.{Options}
use Rattle.geometry.specs.declared.field.Field.{Field}
use Rattle.geometry.specs.Literals.{fifteen_hundredths}
use Rattle.mesh.specs.Group.{groups}
use Rattle.mesh.specs.Measure.{measure, lowest_of}
use Rattle.repair.specs.Mesh.{Mesh, made}
use Rattle.repair.specs.Smooth.{State, placed, move_to, about_group, best_for, taken, smooth_group, smooth_groups, smooth}
use Rattle.repair.proofs.Laws.Results.{mesh-of, count_of}

-- from s to t each of these groups stays, or moves to a point
pub data Moves (o : Options) : List (List ℕ) → State → State → Type 0 where
  done : {s t : State} → t ≡ s → Moves o [] s t
  stays : {g : List ℕ} {gs : List (List ℕ)} {s t : State} → Moves o gs s t → Moves o (g ∷ gs) s t
  moves : {g : List ℕ} {gs : List (List ℕ)} {s t : State} (p : Point) → Moves o gs (move_to o s g p) t → Moves o (g ∷ gs) s t

-- how many vertices the groups that move have
pub vertices : {o : Options} {gs : List (List ℕ)} {s t : State} → Moves o gs s t → ℕ
vertices (done e) = 0
vertices (stays r) = vertices r
vertices (moves {g = g} p r) = length g + vertices r

-- they are counted
moves-count : {o : Options} {gs : List (List ℕ)} {s t : State} (r : Moves o gs s t) → t.moved ≡ s.moved + vertices r
unfolding vertices move_to
moves-count {s = s} (done e) = ap (λ u. u.moved) e ∙ zero s.moved
  where
    zero : (n : ℕ) → n ≡ n + 0
    zero n = omega arith
moves-count (stays r) = moves-count r
moves-count {s = s} (moves {g = g} p r) = moves-count r ∙ turn s.moved (length g) (vertices r)
  where
    turn : (a b c : ℕ) → a + b + c ≡ a + (b + c)
    turn a b c = omega arith

-- the parameters and points of t are those of s
pub record Idle (s t : State) : Type 0 where
  pub parameters : t.parameters ≡ s.parameters
  pub points : t.points ≡ s.points

-- none moves: all is as before
moves-none : {o : Options} {gs : List (List ℕ)} {s t : State} (r : Moves o gs s t) → vertices r ≡ 0 → Idle s t
unfolding vertices move_to placed
moves-none (done e) z = record { parameters = ap (λ u. u.parameters) e; points = ap (λ u. u.points) e }
moves-none (stays r) z = moves-none r z
moves-none (moves {g = []} p r) z = let i = moves-none r (none_left (vertices r) z) in record { parameters = i.parameters; points = i.points }
  where
    none_left : (n : ℕ) → 0 + n ≡ 0 → n ≡ 0
    none_left n h = omega arith
moves-none (moves {g = v ∷ g} p r) z = absurd (some_left (length g) (vertices r) z)
  where
    some_left : (a n : ℕ) → suc a + n ≡ 0 → ⊥
    some_left a n h = omega arith

-- ---- the pass

module _ (o : Options) (fields : List Field) (regions : Option (List ℕ)) (m : Mesh) where
  -- a group's turn: it stays or moves
  group-moves : (s : State) (g : List ℕ) → (smooth_group o fields regions m s g ≡ s) ⊎ ((p : Point) × (smooth_group o fields regions m s g ≡ move_to o s g p))
  unfolding smooth_group
  group-moves s [] = inl refl
  group-moves s (v ∷ g) = go (lt (lowest_of (measure s.points) (about_group m.elements (v ∷ g))) fifteen_hundredths) (best_for o fields regions m s v (v ∷ g)).found
    where
      go : (t : Bool) (r : Option Point)
          → (cond t (taken o fields regions m s (v ∷ g) r) s ≡ s) ⊎ ((p : Point) × (cond t (taken o fields regions m s (v ∷ g) r) s ≡ move_to o s (v ∷ g) p))
      go false r = inl refl
      go true none = inl refl
      go true (some p) = inr (p, refl)

  groups-move : (s : State) (gs : List (List ℕ)) → Moves o gs s (smooth_groups o fields regions m s gs)
  unfolding smooth_groups
  groups-move s [] = done refl
  groups-move s (g ∷ gs) =
      let r = groups-move (smooth_group o fields regions m s g) gs in
      let T = smooth_groups o fields regions m (smooth_group o fields regions m s g) gs in
      elim (group-moves s g) [
        | inl e ↦ stays (subst (λ u. Moves o gs u T) e r)
        | inr q ↦ moves q.0 (subst (λ u. Moves o gs u T) q.1 r)
      ]

  -- where the pass starts
  abbrev pub start : State
  start = record { parameters = m.parameters; points = m.points; moved = 0 }

  -- what a mesh with its count tells: the groups of the start stayed or moved, and the count is the number of vertices moved
  pub record Counted (count : ℕ) (m' : Mesh) : Type 0 where
    pub end : State
    pub turns : Moves o (groups o m.parameters) start end
    pub counts : count ≡ vertices turns
    pub parameters : m'.parameters ≡ end.parameters
    pub points : m'.points ≡ end.points

  -- "The count is that of .. vertices moved"
  pub smooth-counts : (count : ℕ) (m' : Mesh) → smooth o fields regions m ≡ made count m' → Counted count m'
  unfolding smooth
  smooth-counts count m' e =
      let T = smooth_groups o fields regions m start (groups o m.parameters) in
      let r : Moves o (groups o m.parameters) start T = groups-move start (groups o m.parameters) in
      record {
        end = T;
        turns = r;
        counts = sym (count_of e) ∙ moves-count r ∙ zero (vertices r);
        parameters = ap (λ x. x.parameters) (sym (mesh-of e));
        points = ap (λ x. x.points) (sym (mesh-of e));
      }
    where
      zero : (n : ℕ) → 0 + n ≡ n
      zero n = omega arith

  -- with the count 0 no vertex has moved
  pub smooth-idle : (m' : Mesh) → smooth o fields regions m ≡ made 0 m' → (m'.parameters ≡ m.parameters) × (m'.points ≡ m.points)
  smooth-idle m' e =
      let c = smooth-counts 0 m' e in
      let i = moves-none c.turns (sym c.counts) in
      (c.parameters ∙ i.parameters, c.points ∙ i.points)
