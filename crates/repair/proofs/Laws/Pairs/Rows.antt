-- The group of a vertex in the sorted rows: the rows that `first_at_least` and `run_length` find. Assumes nothing.
use mathlib.Core.Path.{◌≡◌, refl, sym, ap, ap₂, subst, ◌∙◌}
use mathlib.Core.Logic.{inl, inr}
use mathlib.Core.Bool.{Bool, true, false}
use mathlib.Core.List.{List, [], ◌∷◌, ◌++◌, map, append-nil}
use Prim.Native.Nat.{ℕ, zero, suc, ◌+◌, ◌-◌, ◌*◌, ◌≤◌, ◌<◌}
use native.Mathlib.Nat.{not-suc-le-zero}
use native.Mathlib.Omega.{arith}
use borrow.Author.Tests.{le-leb}
use lib.Dec.{ltb}
use lib.ListN.{length, take, drop, get_or, length-drop, length-map}
use lib.Seq.{drop-drop, take-take, get_or-take, get_or-drop}
use Rattle.geometry.specs.declared.point.Point.{Point}
use Rattle.geometry.specs.declared.bounds.Options.{Options}
use Rattle.mesh.specs.declared.star.Index.{Index}
use Rattle.mesh.specs.Words.{word_at, numbers, flat}
use Rattle.mesh.specs.Sort.{sort, unique, unique_after}
use Rattle.mesh.specs.inside.Sort.{ordered, headed}
use Rattle.mesh.specs.inside.Rows.{rows, le_row, eq_row, fit_rows, run, run_length, reaches, first_at_least}
use Rattle.mesh.specs.Complex.{mem, keep}
use Rattle.mesh.specs.Tests.{every}
use Rattle.mesh.specs.Group.{same_ranks, rank_of, group_of}
use Rattle.mesh.specs.inside.Group.{runs, same_first, rank_words, group_row, vertex_in, group_rows}
use Rattle.mesh.proofs.Laws.Bools.{and_left}
use Rattle.mesh.proofs.Laws.Complex.Sets.{split, clash, nope, keep-mem}
use Rattle.mesh.proofs.Laws.Sort.{ordered-tail, sort-ordered}
use Rattle.mesh.proofs.Laws.SortedRows.{ordered-sort-rows}
use Rattle.mesh.proofs.Laws.Rows.{le_row-trans, le_row-anti, le_row-take, le_row-refl, eq_row-refl, eq_row-sound, shape-sort, rows-flat, rows_take, rows_at, length-rows, take-rows, drop-rows}
use Rattle.mesh.proofs.Laws.Runs.{length-is}
use Rattle.mesh.proofs.Laws.Halving.{First, first-at-least}
use Rattle.mesh.proofs.Laws.NumbersFrom.{numbers-mem, numbers-below}
use Rattle.mesh.proofs.Laws.Manifold.Fill.{shape-numbered}
use Rattle.mesh.proofs.Laws.Manifold.RowRuns.{run-turn, sorted-runs}
use Rattle.mesh.proofs.Laws.Group.Runs.{run-of-vertex}
use Rattle.repair.specs.declared.layout.Run.{Run}
use Rattle.repair.specs.inside.improve.Partners.{Ranked, members, members_of, IsGroup}
use Rattle.repair.proofs.Laws.Improve.Single.{ranks-refl}
use Rattle.repair.proofs.Laws.Improve.Edges.{every-keep}
use Rattle.repair.proofs.Laws.Improve.Counts.{some-length}
use Rattle.repair.proofs.Laws.Site.Groups.{run-few}

-- ---- the rows of a key in sorted rows

-- the run at the front has the rows with the first one's key
front-run : (r : List ℕ) (l : List (List ℕ)) → ordered le_row (r ∷ l) ≡ true → keep (same_first 6 r) (r ∷ l) ≡ take (run 6 (r ∷ l)) (r ∷ l)
unfolding unique
front-run r l o =
    let s : sort le_row (r ∷ l) ≡ r ∷ l = sort-ordered le_row (r ∷ l) o in
    let a : runs (same_first 6) (r ∷ l) ≡ map (λ q. keep (same_first 6 q) (r ∷ l)) (r ∷ unique_after (same_first 6) r l) =
    subst (λ (u : List (List ℕ)). runs (same_first 6) u ≡ map (λ q. keep (same_first 6 q) u) (unique (same_first 6) u)) s (sorted-runs 6 (r ∷ l)) in
    let b = run-turn 6 r l in
    cc

module _ (key : List ℕ) where
  abbrev has : List ℕ → Bool
  has q = eq_row key (take 6 q)

  abbrev from : List ℕ → Bool
  from q = le_row key (take 6 q)

  -- behind a row that is past the key none has it
  none-later : (r : List ℕ) (l : List (List ℕ)) → ordered le_row (r ∷ l) ≡ true → from r ≡ true → has r ≡ false → keep has l ≡ []
  unfolding ordered headed
  none-later r [] o h e = refl
  none-later r (y ∷ l) o h e =
      let b : le_row (take 6 r) (take 6 y) ≡ true = le_row-take 6 r y (and_left (le_row r y) (ordered le_row (y ∷ l)) o) in
      let f : has y ≡ false = nope (λ q.
      let k : key ≡ take 6 y = eq_row-sound key (take 6 y) q in
      let g : key ≡ take 6 r = le_row-anti key (take 6 r) h (ap (le_row (take 6 r)) k ∙ b) in
      clash (ap (eq_row key) (sym g) ∙ eq_row-refl key) e) in
      rw f (none-later y l (ordered-tail le_row r (y ∷ l) o) (le_row-trans key (take 6 r) (take 6 y) h b) f)

  -- the rows with a key that some row has: the run at the first that reaches it
  found-run : (f : ℕ) (l : List (List ℕ)) → ordered le_row l ≡ true → ((m : ℕ) → m < f → m < length l → from (get_or l m []) ≡ false) → ((m : ℕ) → f ≤ m → m < length l → from (get_or l m []) ≡ true)
      → 0 < length (keep has l) → keep has l ≡ take (run 6 (drop f l)) (drop f l)
  found-run zero [] o u v h = absurd (not-suc-le-zero h)
  found-run zero (r ∷ l) o u v h =
      elim (split (has r)) [
        | inl e ↦ let k : key ≡ take 6 r = eq_row-sound key (take 6 r) e in ap (λ (c : List ℕ). keep (λ q. eq_row c (take 6 q)) (r ∷ l)) k ∙ front-run r l o
        | inr e ↦ let n : keep has (r ∷ l) ≡ [] = rw e (none-later r l o (v 0 (omega arith) (omega arith)) e) in absurd (not-suc-le-zero (subst (λ (c : List (List ℕ)). 0 < length c) n h))
      ]
  found-run (suc f) [] o u v h = absurd (not-suc-le-zero h)
  found-run (suc f) (r ∷ l) o u v h =
      let e : has r ≡ false = nope (λ q. clash (ap (le_row key) (sym (eq_row-sound key (take 6 r) q)) ∙ le_row-refl key) (u 0 (omega arith) (omega arith))) in
      let h' : 0 < length (keep has l) = rw e at h in
      rw e (found-run f l (ordered-tail le_row r l o) (λ m a b. u (suc m) (omega arith) (omega arith)) (λ m a b. v (suc m) (omega arith) (omega arith)) h')

-- ---- members

-- the vertices of the rows read
pub members-rows : (i n : ℕ) (w : List ℕ) → members i n w ≡ map vertex_in (rows 7 n (drop (i * 7) w))
unfolding members rows
members-rows i zero w = refl
members-rows i (suc n) w =
    let p : i * 7 + 6 ≡ 7 * i + 6 = omega arith in
    let q : i * 7 + 7 ≡ (i + 1) * 7 = omega arith in
    ap₂ (λ (u : ℕ) (l : List ℕ). u ∷ l) (sym (get_or-take 7 (drop (i * 7) w) 6 0 (omega arith) ∙ get_or-drop (i * 7) w 6 0 ∙ ap (word_at w) p))
    (members-rows (i + 1) n w ∙ ap (λ (l : List ℕ). map vertex_in (rows 7 n l)) (sym (drop-drop 7 (i * 7) w ∙ ap (λ (u : ℕ). drop u w) q)))

-- a group's members are vertices
pub below-group : (o : Options) (ps : List Point) (v : ℕ) → every (λ u. ltb u (length ps)) (group_of o ps v) ≡ true
below-group o ps v = every-keep (λ u. ltb u (length ps)) (λ u. same_ranks (rank_of o ps u) (rank_of o ps v)) (numbers 0 (length ps)) (numbers-below 0 (length ps) (length ps) (omega arith))

-- a vertex is in its group
pub group-self : (o : Options) (ps : List Point) (v : ℕ) → v < length ps → mem v (group_of o ps v) ≡ true
group-self o ps v h =
    keep-mem (λ w. same_ranks (rank_of o ps w) (rank_of o ps v)) (numbers 0 (length ps)) v
    ∙ rw (numbers-mem 0 (length ps) v (omega arith) (omega arith), ranks-refl (rank_of o ps v)) refl

-- ---- the group found

module _ {o : Options} {ps : List Point} {x : Index} {w : List ℕ} (R : Ranked o ps x w) (v : ℕ) (h : v < x.vertices) where
  abbrev key : List ℕ
  key = rank_words (rank_of o ps v)

  abbrev first : ℕ
  first = first_at_least x.vertices 7 key w

  abbrev size : ℕ
  size = run_length first x.vertices 7 6 w

  -- the rows at the front are the sorted ones
  sorted-rows : rows 7 x.vertices w ≡ sort le_row (group_rows o ps)
  unfolding group_rows
  sorted-rows =
      let n = x.vertices in
      let m : 7 * n ≡ n * 7 = omega arith in
      let rs = sort le_row (group_rows o ps) in
      sym (rows_take 7 n w)
      ∙ ap (λ (u : ℕ). rows 7 n (take u w)) (sym m)
      ∙ ap (rows 7 n) (R.groups ∙ sym (append-nil (flat rs)))
      ∙ ap (λ (u : ℕ). rows 7 u (flat rs ++ [])) (sym R.many)
      ∙ rows-flat (shape-sort (shape-numbered (λ u. group_row (rank_of o ps u) u) 7 (λ j. refl) 0 (length ps))) []

  fits : fit_rows x.vertices 7 (length w) ≡ true
  unfolding fit_rows
  fits = le-leb (x.vertices * 7) (length w) (omega (arith, R.long, R.slots))

  -- what the search finds, and its test as one of a row
  search : First (reaches key 7 w) 0 x.vertices first
  search = first-at-least x.vertices 7 key w fits (omega arith) (ap (ordered le_row) sorted-rows ∙ ordered-sort-rows (group_rows o ps))

  reaches-row : (m : ℕ) → m < x.vertices → le_row key (take 6 (get_or (rows 7 x.vertices w) m [])) ≡ reaches key 7 w m
  unfolding reaches
  reaches-row m l = ap (λ (u : List ℕ). le_row key (take 6 u)) (rows_at 7 x.vertices w m l) ∙ ap (le_row key) (take-take 6 7 (drop (m * 7) w) (omega arith))

  -- v's row has the key
  some-row : 0 < length (keep (same_first 6 (group_row (rank_of o ps v) v)) (rows 7 x.vertices w))
  some-row =
      let l : length (group_of o ps v) ≡ length (keep (same_first 6 (group_row (rank_of o ps v) v)) (sort le_row (group_rows o ps))) =
      ap length (sym (run-of-vertex o ps v)) ∙ length-map (keep (same_first 6 (group_row (rank_of o ps v) v)) (sort le_row (group_rows o ps))) vertex_in in
      let s = some-length v (group_of o ps v) (group-self o ps v (omega (arith, R.many))) in
      subst (λ (u : List (List ℕ)). 0 < length (keep (same_first 6 (group_row (rank_of o ps v) v)) u)) (sym sorted-rows) (omega arith)

  first-most : first ≤ x.vertices
  first-most = omega (arith, search.most)

  size_is : size ≡ run 6 (drop first (rows 7 x.vertices w))
  size_is = length-is first x.vertices 7 6 w fits (omega arith)

  -- the rows found are rows of the n
  pub group-inside : first + size ≤ x.vertices
  group-inside = omega (arith, first-most, size_is, run-few (drop first (rows 7 x.vertices w)), length-drop first (rows 7 x.vertices w), length-rows 7 x.vertices w)

  -- the rows found
  rows-found : rows 7 size (drop (first * 7) w) ≡ take size (drop first (rows 7 x.vertices w))
  rows-found =
      let n = x.vertices in
      let i = group-inside in
      let e : size + (n - first - size) ≡ n - first = omega arith in
      let g : first + (n - first) ≡ n = omega arith in
      sym (take-rows 7 size (n - first - size) (drop (first * 7) w))
      ∙ ap (λ (u : ℕ). take size (rows 7 u (drop (first * 7) w))) e
      ∙ ap (take size) (sym (drop-rows 7 first (n - first) w))
      ∙ ap (λ (u : ℕ). take size (drop first (rows 7 u w))) g

  -- and the members of v's group
  pub group-members : members first size w ≡ group_of o ps v
  group-members =
      let rs = rows 7 x.vertices w in
      let many = length-rows 7 x.vertices w in
      let k : keep (same_first 6 (group_row (rank_of o ps v) v)) rs ≡ take (run 6 (drop first rs)) (drop first rs) =
      found-run key first rs (ap (ordered le_row) sorted-rows ∙ ordered-sort-rows (group_rows o ps))
      (λ m a b. reaches-row m (omega arith) ∙ search.under m (omega arith) a) (λ m a b. reaches-row m (omega arith) ∙ search.over m a (omega arith)) some-row in
      members-rows first size w
      ∙ ap (map vertex_in) (rows-found ∙ ap (λ (u : ℕ). take u (drop first rs)) size_is ∙ sym k ∙ ap (keep (same_first 6 (group_row (rank_of o ps v) v))) sorted-rows)
      ∙ run-of-vertex o ps v

  -- for a run with this start and size
  pub group-is : (g : Run) → g.first ≡ first → g.size ≡ size → IsGroup x w g × (members_of w g ≡ group_of o ps v)
  group-is g e f =
      let m : members_of w g ≡ group_of o ps v = ap₂ (λ (i n : ℕ). members i n w) e f ∙ group-members in (
        record {
          few = R.few;
          inside = omega (arith, group-inside);
          below = ap₂ (λ (u : ℕ) (l : List ℕ). every (λ a. ltb a u) l) (sym R.many) m ∙ below-group o ps v;
        },
        m,
      )
