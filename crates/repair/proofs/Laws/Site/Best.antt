-- The best candidate: how a trial replaces the best so far, and the candidates one after the other. Assumes nothing.
use mathlib.Core.Path.{◌≡◌, refl, sym, ap, ap₂, ◌∙◌}
use mathlib.Core.Bool.{Bool, true, false, cond}
use mathlib.Core.List.{List, [], ◌∷◌, ◌++◌, map}
use mathlib.Core.Option.{Option}
use Prim.Native.Nat.{ℕ, suc, ◌+◌, ◌-◌, ◌≤◌, ◌<◌}
use native.Mathlib.Omega.{arith}
use borrow.Author.Tests.{ne_eqb}
use lib.Ieee.{Float}
use lib.ListN.{length, get_or, take, drop, drop_of_length-le, length-drop}
use lib.Seq.{drop-cons, take_all}
use Rattle.geometry.specs.declared.point.Point.{Point}
use Rattle.geometry.specs.declared.bounds.Options.{Options}
use Rattle.geometry.specs.declared.field.Field.{Field}
use Rattle.geometry.specs.Bounds.{spacing}
use Rattle.geometry.specs.Float.{◌+₆₄◌}
use Rattle.geometry.specs.Literals.{e_10}
use Rattle.mesh.specs.declared.element.Tet.{Tet}
use Rattle.mesh.specs.Measure.{measure, lowest_of}
use Rattle.repair.specs.declared.smooth.choose.Best.{Best}
use Rattle.repair.specs.declared.smooth.choose.Start.{Start}
use Rattle.repair.specs.Project.{Projected}
use Rattle.std.specs.Prelude.{Some, None}
use Rattle.repair.specs.Project.{project}
use Rattle.repair.specs.Smooth as Smooth
use Rattle.repair.specs.Smooth.{State, mean, mean_candidates, step_candidates, move_to, better, allowed, tried, best_of}
use Rattle.repair.specs.inside.smooth.Candidates.{nine}
use Rattle.repair.specs.inside.smooth.Site.{state_of, best_in, beats, permitted, compared, first_of, start_list}

-- ---- one candidate

-- whether a point that was found is permitted
pub permitted-by : (o : Options) (fields : List Field) (regions : Option (List ℕ)) (origin : Point) (active : List Field) (p : Point) (b : Bool)
    → b ≡ allowed o fields regions origin active p → cond b (Some p) None ≡ permitted o fields regions origin active (Some p)
permitted-by o fields regions origin active p b a = ap (λ (t : Bool). cond t (Some p) None) a

module _ (o : Options) (ts : List Tet) (s : State) (g : List ℕ) (best : Best) (p : Point) where
  -- a point that is tried, and is better
  pub compared-better : (low : Float) → beats ts (move_to o s g p).points (best.lowest +₆₄ e_10) ≡ true → low ≡ lowest_of (measure (move_to o s g p).points) ts
      → ◌≡◌ {A = Smooth.Best} (best_in (record { lowest = low; point = Some p })) (compared o ts s g (best_in best) (Some p))
  compared-better low e f = rw (e, f)

  -- one that is not
  pub compared-worse : beats ts (move_to o s g p).points (best.lowest +₆₄ e_10) ≡ false → best_in best ≡ compared o ts s g (best_in best) (Some p)
  compared-worse e = rw e

module _ (o : Options) (fields : List Field) (regions : Option (List ℕ)) (ts : List Tet) (s : State) (g : List ℕ) (origin : Point) (active : List Field) where
  -- both are the definition's one step
  pub tried-is : (best : Smooth.Best) (q : Projected) → compared o ts s g best (permitted o fields regions origin active q) ≡ tried o fields regions ts s g origin active best q
  tried-is best None = refl
  tried-is best (Some p) = go (allowed o fields regions origin active p)
    where
      go : (b : Bool) → compared o ts s g best (cond b (Some p) None) ≡ cond b (better ts (move_to o s g p).points p best) best
      go true = refl
      go false = refl

  -- ---- the candidates from the i-th on

  pub best-turn : (cs : List Point) (i : ℕ) (z : Point) (best best' : Smooth.Best) → i < length cs
      → best' ≡ tried o fields regions ts s g origin active best (project o.bounds origin active (get_or cs i z))
      → best_of o fields regions ts s g origin active best' (drop (i + 1) cs) ≡ best_of o fields regions ts s g origin active best (drop i cs)
  unfolding best_of
  best-turn cs i z best best' l e =
      let n : i + 1 ≡ suc i = omega arith in
      ap₂ (λ (k : ℕ) (b : Smooth.Best). best_of o fields regions ts s g origin active b (drop k cs)) n e
      ∙ sym (ap (best_of o fields regions ts s g origin active best) (drop-cons cs i z l))

  pub best-end : (cs : List Point) (i : ℕ) (best : Smooth.Best) → length cs ≤ i → best_of o fields regions ts s g origin active best (drop i cs) ≡ best
  unfolding best_of
  best-end cs i best h = ap (best_of o fields regions ts s g origin active best) (drop_of_length-le cs {i = i} h)

-- the candidates from the first on
pub start-items : (s : Start) (o : Options) (all : List Point) (k : ℕ) (h : Float) → all ≡ nine s.original s.origin s.mean h → h ≡ spacing o → k ≡ first_of s
    → take (9 - k) (drop k all) ≡ start_list s o
unfolding start_list
start-items s o all k h a b e =
    let q : length all ≡ 9 = ap length a in
    take_all (9 - k) (drop k all) (omega (arith, length-drop k all))
    ∙ (λ i. drop (e i) ((a ∙ ap (nine s.original s.origin s.mean) b) i))

-- the candidates that the first vertex gives
pub start-candidates : (o : Options) (f : ℕ → Point) (s : Start) (original origin : Point) (ns : List ℕ) → s.original ≡ original → s.origin ≡ origin
    → s.near ≡ length ns → s.mean ≡ mean (map f ns) → start_list s o ≡ mean_candidates original origin (map f ns) ++ step_candidates origin (spacing o)
unfolding start_list
start-candidates o f s original origin [] a b c d = rw (a, b, c)
start-candidates o f s original origin (n ∷ ns) a b c d = rw (a, b, c, d, ne_eqb (length (n ∷ ns)) 0 (λ e. absurd (omega (arith, e))))

-- ---- the number moved so far does not matter

module _ (o : Options) (fields : List Field) (regions : Option (List ℕ)) (ts : List Tet) (nv : ℕ) (P Q : List Float) (k : ℕ) (g : List ℕ) (origin : Point) (active : List Field) where
  tried-moved : (best : Smooth.Best) (r : Projected)
      → tried o fields regions ts (state_of nv P Q k) g origin active best r ≡ tried o fields regions ts (state_of nv P Q 0) g origin active best r
  unfolding move_to
  tried-moved best None = refl
  tried-moved best (Some p) = refl

  pub best-moved : (best : Smooth.Best) (cs : List Point)
      → best_of o fields regions ts (state_of nv P Q k) g origin active best cs ≡ best_of o fields regions ts (state_of nv P Q 0) g origin active best cs
  unfolding best_of
  best-moved best [] = refl
  best-moved best (c ∷ cs) =
      ap (λ b. best_of o fields regions ts (state_of nv P Q k) g origin active b cs) (tried-moved best (project o.bounds origin active c))
      ∙ best-moved (tried o fields regions ts (state_of nv P Q 0) g origin active best (project o.bounds origin active c)) cs
