-- All groups, run by run of the sorted rows: the runs that are left are the groups that are left. Assumes nothing.
use mathlib.Core.Path.{◌≡◌, refl, sym, ap, ap₂, subst, ◌∙◌}
use mathlib.Core.Logic.{inl, inr}
use mathlib.Core.Bool.{Bool, true}
use mathlib.Core.List.{List, [], ◌∷◌, map}
use mathlib.Core.Option.{Option}
use Prim.Native.Nat.{ℕ, zero, suc, ◌+◌, ◌-◌, ◌*◌, ◌≤◌, ◌<◌}
use native.Mathlib.Omega.{arith}
use borrow.Author.Tests.{lt-ltb, le-leb}
use lib.Ieee.{Float}
use lib.ListN.{length, take, drop, get_or, length-drop, drop_of_length-le}
use lib.Seq.{get_or-take, get_or-drop, drop-drop, drop-cons}
use Rattle.geometry.specs.declared.bounds.Options.{Options}
use Rattle.geometry.specs.declared.bounds.Ranks.{Ranks}
use Rattle.geometry.specs.declared.field.Field.{Field}
use Rattle.geometry.specs.Rank.{rank}
use Rattle.mesh.specs.declared.star.Index.{Index}
use Rattle.mesh.specs.Words.{points_of, numbers}
use Rattle.mesh.specs.Sort.{sort, unique}
use Rattle.mesh.specs.inside.Rows.{rows, run, run_length, fit_rows}
use Rattle.mesh.specs.Complex.{keep, Nodup}
use Rattle.mesh.specs.Tests.{under}
use Rattle.mesh.specs.Group.{same_ranks, le_ranks, of_rank, groups}
use Rattle.mesh.specs.inside.Group.{runs, same_first, vertex_in}
use Rattle.mesh.proofs.Laws.Complex.Sets.{split}
use Rattle.mesh.proofs.Laws.Rows.{length-rows, drop-rows, take-rows}
use Rattle.mesh.proofs.Laws.Star.Distinct.{rising-once}
use Rattle.mesh.proofs.Laws.Manifold.RowRuns.{run-first, run-turn}
use Rattle.mesh.proofs.Laws.Group.Runs.{runs-are-groups}
use Rattle.mesh.proofs.Laws.Intake.Reads.{length-points}
use Rattle.repair.specs.Smooth.{smooth_group, smooth_groups}
use Rattle.repair.specs.inside.smooth.Site.{members, state_of, Turned, Ready, Rows, mesh_for, Grouped}
use Rattle.repair.proofs.Laws.Site.Near.{kept-rising}
use Rattle.mesh.proofs.Laws.Manifold.Steps.{leading-few}

-- ---- groups of different vertices

-- each group has different vertices, all below nv
unfoldable pub Fine : ℕ → List (List ℕ) → Type 0
Fine nv [] = Unit {0}
Fine nv (g ∷ gs) = Nodup g × (under nv g ≡ true) × Fine nv gs

under-kept : (p : ℕ → Bool) (nv k n : ℕ) → k + n ≤ nv → under nv (keep p (numbers k n)) ≡ true
unfolding numbers
under-kept p nv k zero h = refl
under-kept p nv k (suc n) h = elim (split (p k)) [
  | inl e ↦ rw (e, lt-ltb k nv (omega arith)) (under-kept p nv (k + 1) n (omega arith))
  | inr e ↦ rw e (under-kept p nv (k + 1) n (omega arith))
]

fine-map : (nv : ℕ) (f : Ranks → List ℕ) → ((r : Ranks) → Nodup (f r)) → ((r : Ranks) → under nv (f r) ≡ true) → (l : List Ranks) → Fine nv (map f l)
unfolding Fine
fine-map nv f a b [] = tt
fine-map nv f a b (r ∷ l) = (a r, b r, fine-map nv f a b l)

pub groups-fine : (o : Options) (nv : ℕ) (P : List Float) → Fine nv (groups o (points_of nv P))
unfolding groups
groups-fine o nv P =
    let ps = points_of nv P in
    let l = length-points nv P in
    fine-map nv (of_rank o ps) (λ r. rising-once (of_rank o ps r) (kept-rising _ 0 (length ps))) (λ r. under-kept _ nv 0 (length ps) (omega (arith, l)))
    (unique same_ranks (sort le_ranks (map (λ p. rank p o) ps)))

-- ---- a run of rows as a group

-- the vertices of rows
rows-members : (w : List ℕ) (p c : ℕ) → members w (p + 6) c ≡ map vertex_in (rows 7 c (drop p w))
unfolding members rows
rows-members w p zero = refl
rows-members w p (suc c) =
    let e : p + 6 + 7 ≡ p + 7 + 6 = omega arith in
    ap₂ (λ (v : ℕ) (l : List ℕ). v ∷ l) (sym (get_or-take 7 (drop p w) 6 0 (omega arith) ∙ get_or-drop p w 6 0))
    (ap (λ (i : ℕ). members w i c) e ∙ rows-members w (p + 7) c ∙ ap (λ (l : List ℕ). map vertex_in (rows 7 c l)) (sym (drop-drop 7 p w)))

pub run-few : (rs : List (List ℕ)) → run 6 rs ≤ length rs
unfolding run
run-few [] = omega arith
run-few (r ∷ rs) = leading-few (same_first 6 r) (r ∷ rs)

module _ (nv : ℕ) (w : List ℕ) (long : 7 * nv ≤ length w) (first : ℕ) (h : first < nv) where
  -- the rows that are left
  left : List (List ℕ)
  left = drop first (rows 7 nv w)

  left-cons : left ≡ get_or (rows 7 nv w) first [] ∷ drop (suc first) (rows 7 nv w)
  unfolding left
  left-cons = drop-cons (rows 7 nv w) first [] (omega (arith, length-rows 7 nv w))

  pub size_is : run_length first nv 7 6 w ≡ run 6 (drop first (rows 7 nv w))
  unfolding run_length fit_rows
  size_is = rw (le-leb (nv * 7) (length w) (omega (arith, long)))

  pub size-some : 0 < run 6 (drop first (rows 7 nv w))
  unfolding left
  size-some = subst (λ l. 0 < run 6 l) (sym left-cons) (run-first 6 (get_or (rows 7 nv w) first []) (drop (suc first) (rows 7 nv w)))

  pub size_few : first + run 6 (drop first (rows 7 nv w)) ≤ nv
  size_few =
      let a = run-few (drop first (rows 7 nv w)) in
      let b : length (drop first (rows 7 nv w)) ≡ nv - first = length-drop first (rows 7 nv w) ∙ ap (λ (n : ℕ). n - first) (length-rows 7 nv w) in
      omega (arith, a, b)

  -- its vertices
  group-is : map vertex_in (take (run 6 (drop first (rows 7 nv w))) (drop first (rows 7 nv w))) ≡ members w (7 * first + 6) (run 6 (drop first (rows 7 nv w)))
  group-is =
      let c = run 6 (drop first (rows 7 nv w)) in
      let f = size_few in
      let e : nv ≡ first + (c + (nv - (first + c))) = omega arith in
      let p : first * 7 ≡ 7 * first = omega arith in
      ap (map vertex_in) (ap (λ (n : ℕ). take c (drop first (rows 7 n w))) e ∙ ap (take c) (drop-rows 7 first (c + (nv - (first + c))) w)
      ∙ take-rows 7 c (nv - (first + c)) (drop (first * 7) w))
      ∙ sym (rows-members w (first * 7) c) ∙ ap (λ (i : ℕ). members w (i + 6) c) p

  -- the first of the groups left, and the others
  pub groups-turn : map (map vertex_in) (runs (same_first 6) (drop first (rows 7 nv w)))
      ≡ members w (7 * first + 6) (run 6 (drop first (rows 7 nv w)))
      ∷ map (map vertex_in) (runs (same_first 6) (drop (first + run 6 (drop first (rows 7 nv w))) (rows 7 nv w)))
  unfolding left
  groups-turn =
      let r = get_or (rows 7 nv w) first [] in
      let rs = drop (suc first) (rows 7 nv w) in
      let c = run 6 (drop first (rows 7 nv w)) in
      ap (λ l. map (map vertex_in) (runs (same_first 6) l)) left-cons ∙ ap (map (map vertex_in)) (run-turn 6 r rs)
      ∙ ap (λ l. map vertex_in (take (run 6 l) l) ∷ map (map vertex_in) (runs (same_first 6) (drop (run 6 l) l))) (sym left-cons)
      ∙ ap₂ (λ (g : List ℕ) (l : List (List ℕ)). g ∷ map (map vertex_in) (runs (same_first 6) l)) group-is (drop-drop c first (rows 7 nv w))

-- no row is left
pub groups_none : (nv : ℕ) (w : List ℕ) (first : ℕ) → nv ≤ first → map (map vertex_in) (runs (same_first 6) (drop first (rows 7 nv w))) ≡ []
unfolding runs
groups_none nv w first h = rw (drop_of_length-le (rows 7 nv w) {i = first} (omega (arith, length-rows 7 nv w)))

-- ---- the loop

module _ (o : Options) (F : List Field) (R : Option (List ℕ)) (x : Index) (masks els : List ℕ) (P₀ Q₀ : List Float) where
  -- the groups from the row `first` on
  abbrev pub groups_from : List ℕ → ℕ → List (List ℕ)
  groups_from w first = map (map vertex_in) (runs (same_first 6) (drop first (rows 7 x.vertices w)))

  -- what holds at the head of the loop
  pub record Going (w : List ℕ) (first moved : ℕ) (P Q : List Float) : Type 0 where
    pub few : first ≤ x.vertices
    pub moves : moved ≤ first
    pub fine : Fine x.vertices (groups_from w first)
    pub parameters : drop (3 * x.vertices) P ≡ drop (3 * x.vertices) P₀
    pub points : drop (3 * x.vertices) Q ≡ drop (3 * x.vertices) Q₀
    pub long : (length P ≡ length P₀) × (length Q ≡ length Q₀)
    pub whole : smooth_groups o F R (mesh_for x masks els) (state_of x.vertices P Q moved) (groups_from w first)
        ≡ smooth_groups o F R (mesh_for x masks els) (state_of x.vertices P₀ Q₀ 0) (groups o (points_of x.vertices P₀))

  pub going_start : (w : List ℕ) → Grouped o x P₀ w → Going w 0 0 P₀ Q₀
  going_start w g =
      let e : groups_from w 0 ≡ groups o (points_of x.vertices P₀) =
      ap (λ l. map (map vertex_in) (runs (same_first 6) l)) g ∙ runs-are-groups o (points_of x.vertices P₀) in
      record {
        few = omega arith;
        moves = omega arith;
        fine = subst (λ l. Fine x.vertices l) (sym e) (groups-fine o x.vertices P₀);
        parameters = refl;
        points = refl;
        long = (refl, refl);
        whole = ap (smooth_groups o F R (mesh_for x masks els) (state_of x.vertices P₀ Q₀ 0)) e;
      }

  module _ (w : List ℕ) (first moved : ℕ) (P Q : List Float) (r : Ready x w) (G : Going w first moved P Q) (h : first < x.vertices) where
    long-enough : 7 * x.vertices ≤ length w
    long-enough = let l = r.long in omega arith

    -- the next run is a group
    pub next-rows : (c : ℕ) → c ≡ run_length first x.vertices 7 6 w → Rows x w (7 * first + 6) c
    unfolding Fine
    next-rows c e =
        let q : c ≡ run 6 (drop first (rows 7 x.vertices w)) = e ∙ size_is x.vertices w long-enough first h in
        let f = subst (λ l. Fine x.vertices l) (groups-turn x.vertices w long-enough first h) G.fine in
        let a = size-some x.vertices w long-enough first h in
        let b = size_few x.vertices w long-enough first h in
        record {
          some = omega (arith, a, q);
          inside = omega (arith, b, q);
          once = subst (λ k. Nodup (members w (7 * first + 6) k)) (sym q) f.0;
          below = ap (λ k. under x.vertices (members w (7 * first + 6) k)) q ∙ f.1;
        }

    pub next-few : (c : ℕ) → c ≡ run_length first x.vertices 7 6 w → (0 < c) × (first + c ≤ x.vertices)
    next-few c e =
        let q : c ≡ run 6 (drop first (rows 7 x.vertices w)) = e ∙ size_is x.vertices w long-enough first h in
        let a = size-some x.vertices w long-enough first h in
        let b = size_few x.vertices w long-enough first h in
        (omega (arith, a, q), omega (arith, b, q))

    -- after its turn
    pub going-turn : (c : ℕ) → c ≡ run_length first x.vertices 7 6 w → (w' : List ℕ) → rows 7 x.vertices w' ≡ rows 7 x.vertices w → (P' Q' : List Float) (m : ℕ) → m ≤ moved + c
        → Turned x.vertices (smooth_group o F R (mesh_for x masks els) (state_of x.vertices P Q moved) (members w (7 * first + 6) c)) P Q P' Q' m → Going w' (first + c) m P' Q'
    unfolding Fine smooth_groups
    going-turn c e w' s P' Q' m l T =
        let q : c ≡ run 6 (drop first (rows 7 x.vertices w)) = e ∙ size_is x.vertices w long-enough first h in
        let k = groups-turn x.vertices w long-enough first h in
        let f = subst (λ l. Fine x.vertices l) k G.fine in
        let n = next-few c e in
        let M = G.moves in
        let z : drop (first + run 6 (drop first (rows 7 x.vertices w))) (rows 7 x.vertices w) ≡ drop (first + c) (rows 7 x.vertices w') =
        ap₂ (λ (j : ℕ) (t : List (List ℕ)). drop (first + j) t) (sym q) (sym s) in
        let zs = ap (λ t. map (map vertex_in) (runs (same_first 6) t)) z in
        record {
          few = n.1;
          moves = omega (arith, l, M);
          fine = subst (λ t. Fine x.vertices t) zs f.2;
          parameters = T.parameters ∙ G.parameters;
          points = T.points ∙ G.points;
          long = (T.long.0 ∙ G.long.0, T.long.1 ∙ G.long.1);
          whole =
              ap (λ u. smooth_groups o F R (mesh_for x masks els) u (groups_from w' (first + c)))
              (T.state ∙ ap (λ j. smooth_group o F R (mesh_for x masks els) (state_of x.vertices P Q moved) (members w (7 * first + 6) j)) q)
              ∙ ap (smooth_groups o F R (mesh_for x masks els) (smooth_group o F R (mesh_for x masks els) (state_of x.vertices P Q moved)
              (members w (7 * first + 6) (run 6 (drop first (rows 7 x.vertices w)))))) (sym zs)
              ∙ sym (ap (smooth_groups o F R (mesh_for x masks els) (state_of x.vertices P Q moved)) k) ∙ G.whole;
        }

  -- all groups had their turn
  pub going_end : (w : List ℕ) (first moved : ℕ) (P Q : List Float) → Going w first moved P Q → x.vertices ≤ first
      → Turned x.vertices (smooth_groups o F R (mesh_for x masks els) (state_of x.vertices P₀ Q₀ 0) (groups o (points_of x.vertices P₀))) P₀ Q₀ P Q moved
  unfolding smooth_groups
  going_end w first moved P Q G h = record {
    state = sym (ap (smooth_groups o F R (mesh_for x masks els) (state_of x.vertices P Q moved)) (groups_none x.vertices w first h)) ∙ G.whole;
    parameters = G.parameters;
    points = G.points;
    long = G.long;
  }
