-- A round of `improve`, turn by turn: where the labelled loops over edges, directions and pairs stand. Assumes nothing.
use mathlib.Core.Path.{◌≡◌, refl, sym, ap, ap₂, subst, ◌∙◌}
use mathlib.Core.Bool.{Bool, true, false, cond, ◌&&◌, ◌||◌}
use mathlib.Core.List.{List, [], ◌∷◌, ◌++◌, map}
use Prim.Native.Nat.{ℕ, zero, suc, ◌+◌, ◌*◌, ◌≤◌, ◌<◌}
use native.Mathlib.Omega.{arith}
use lib.Dec.{eqb, ltb}
use lib.ListN.{get_or, length, drop, length-append, length-map}
use lib.Seq.{get_or-drop}
use Rattle.std.specs.Prelude.{Option, None, Some}
use Rattle.geometry.specs.declared.bounds.Options.{Options}
use Rattle.geometry.specs.declared.point.Point.{Point}
use Rattle.mesh.specs.declared.element.Pair.{Pair}
use Rattle.mesh.specs.declared.star.Index.{Index}
use Rattle.mesh.specs.Words.{word_at}
use Rattle.mesh.specs.Complex.{mem}
use Rattle.mesh.specs.Tests.{every}
use Rattle.mesh.specs.Element.{pair, same_pair}
use Rattle.mesh.specs.Sets.{among}
use Rattle.mesh.specs.Measure.{Measure, measure}
use Rattle.repair.specs.Mesh.{Mesh}
use Rattle.repair.specs.Improve.{State, stratum_rule, active_group, pair_ok, pair_off, pairs_for, about, collapsed, gains, may_go, go, try_edge, try_edges}
use Rattle.repair.specs.inside.Layout.{Room, Stands, Reads, Ready, Same, Pairs, pairs_at, edges_at, pairs_of, pairs_in, row_edges, edges_in}
use Rattle.repair.specs.inside.improve.Collapse.{Replaces}
use Rattle.repair.specs.inside.improve.Partners.{active_in}
use Rattle.repair.specs.inside.improve.Round.{below, way_of, MayPair}
use Rattle.mesh.proofs.Laws.Complex.Sets.{clash, and-fst, and-snd, or_right}
use Rattle.repair.proofs.Laws.Layout.{stands-kept}
use Rattle.repair.proofs.Laws.Replace.Pairs.{length_pairs}
use Rattle.repair.proofs.Laws.Gain.Judging.{pairs-same}
use borrow.Author.Tests.{ltb-true, eq-eqb, not-true, not-false}

-- the first of two same lists is the same
head-same : (f e : Pair) (l r : List Pair) → f ∷ l ≡ e ∷ r → f ≡ e
head-same f e l r h = ap (λ u. elim u [ [] ↦ f | y ∷ k ↦ y ]) h

same-pair : (e : Pair) → same_pair e e ≡ true
same-pair e = rw (eq-eqb e.a e.a refl, eq-eqb e.b e.b refl)

-- ---- an edge and its directions

module _ (o : Options) (m : Mesh) (μ : Measure) where
  -- what is left of the trial of an edge once d directions failed
  pub after : ℕ → State → Pair → State
  after zero s e = cond (may_go o m μ s e.a e.b) (go o m μ s e.a e.b) (cond (may_go o m μ s e.b e.a) (go o m μ s e.b e.a) s)
  after (suc zero) s e = cond (may_go o m μ s e.b e.a) (go o m μ s e.b e.a) s
  after (suc (suc d)) s e = s

  -- the trial of a direction, then of those behind it
  pub facing : ℕ → State → Pair → State
  facing d s e = cond (may_go o m μ s (way_of e d).a (way_of e d).b) (go o m μ s (way_of e d).a (way_of e d).b) (after d s e)

  pub after_next : (d : ℕ) (s : State) (e : Pair) → d < 2 → after d s e ≡ facing (d + 1) s e
  unfolding after facing
  after_next zero s e h = refl
  after_next (suc zero) s e h = refl
  after_next (suc (suc d)) s e h = absurd (omega arith)

  pub after-done : (d : ℕ) (s : State) (e : Pair) → 2 ≤ d → after d s e ≡ s
  unfolding after
  after-done zero s e h = absurd (omega arith)
  after-done (suc zero) s e h = absurd (omega arith)
  after-done (suc (suc d)) s e h = refl

  -- an edge with no vertex replaced
  pub edge-faced : (s : State) (e : Pair) → mem e.a s.replaced ≡ false → mem e.b s.replaced ≡ false → try_edge o m μ s e ≡ after 0 s e
  unfolding after try_edge
  edge-faced s e f g = rw (f, g)

  -- an edge with a vertex replaced
  pub edge-first : (s : State) (e : Pair) → mem e.a s.replaced ≡ true → try_edge o m μ s e ≡ s
  unfolding try_edge
  edge-first s e f = rw f

  pub edge-second : (s : State) (e : Pair) → mem e.b s.replaced ≡ true → try_edge o m μ s e ≡ s
  unfolding try_edge
  edge-second s e f = rw f (pick (mem e.a s.replaced))
    where
      pick : (b : Bool) → cond (b || true) s (cond (may_go o m μ s e.a e.b) (go o m μ s e.a e.b) (cond (may_go o m μ s e.b e.a) (go o m μ s e.b e.a) s)) ≡ s
      pick true = refl
      pick false = refl

-- the directions of an edge, one after the other
pub way-item : (e d : Pair) (k : ℕ) → k < 2 → get_or (e ∷ pair e.b e.a ∷ []) k d ≡ way_of e (k + 1)
way-item e d zero h = refl
way-item e d (suc zero) h = refl
way-item e d (suc (suc k)) h = absurd (omega arith)

-- the rows of edges from the i-th on
pub edges-from : (k i : ℕ) (s : List ℕ) → i < k → drop i (row_edges k s) ≡ pair (word_at s (4 * i + 2)) (word_at s (4 * i + 3)) ∷ drop (i + 1) (row_edges k s)
unfolding row_edges
edges-from zero i s h = absurd (omega arith)
edges-from (suc k) zero s h = refl
edges-from (suc k) (suc i) s h =
    let e : 4 + (4 * i + 2) ≡ 4 * suc i + 2 = omega arith in
    let f : 4 + (4 * i + 3) ≡ 4 * suc i + 3 = omega arith in
    let g : suc i + 1 ≡ suc (i + 1) = omega arith in
    edges-from k i (drop 4 s) (omega arith)
    ∙ ap₂ (λ u v. pair u v ∷ drop (i + 1) (row_edges k (drop 4 s))) (get_or-drop 4 s (4 * i + 2) 0 ∙ ap (word_at s) e) (get_or-drop 4 s (4 * i + 3) 0 ∙ ap (word_at s) f)
    ∙ ap (λ u. pair (word_at s (4 * suc i + 2)) (word_at s (4 * suc i + 3)) ∷ drop u (row_edges (suc k) s)) (sym g)

-- each of the edges from the i-th on passes a test that all pass
pub every-from : {A : Type 0} (p : A → Bool) (i : ℕ) (l : List A) → every p l ≡ true → every p (drop i l) ≡ true
every-from p zero l h = h
every-from p (suc i) [] h = refl
every-from p (suc i) (x ∷ l) h = every-from p i l (and-snd (p x) (every p l) h)

-- nothing is left behind the last
pub edges_none : (k : ℕ) (s : List ℕ) → drop k (row_edges k s) ≡ []
unfolding row_edges
edges_none zero s = refl
edges_none (suc k) s = edges_none k (drop 4 s)

-- the pairs from the p-th on
pub pairs-from : (k p : ℕ) (s : List ℕ) → p < k → drop p (pairs_of k s) ≡ pair (word_at s (2 * p)) (word_at s (2 * p + 1)) ∷ drop (p + 1) (pairs_of k s)
unfolding pairs_of
pairs-from zero p s h = absurd (omega arith)
pairs-from (suc k) zero s h = refl
pairs-from (suc k) (suc p) s h =
    let e : 2 + 2 * p ≡ 2 * suc p = omega arith in
    let f : 2 + (2 * p + 1) ≡ 2 * suc p + 1 = omega arith in
    let g : suc p + 1 ≡ suc (p + 1) = omega arith in
    pairs-from k p (drop 2 s) (omega arith)
    ∙ ap₂ (λ u v. pair u v ∷ drop (p + 1) (pairs_of k (drop 2 s))) (get_or-drop 2 s (2 * p) 0 ∙ ap (word_at s) e) (get_or-drop 2 s (2 * p + 1) 0 ∙ ap (word_at s) f)
    ∙ ap (λ u. pair (word_at s (2 * suc p)) (word_at s (2 * suc p + 1)) ∷ drop u (pairs_of (suc k) s)) (sym g)

pub pairs-none : (k : ℕ) (s : List ℕ) → drop k (pairs_of k s) ≡ []
unfolding pairs_of
pairs-none zero s = refl
pairs-none (suc k) s = pairs-none k (drop 2 s)

-- what is left of a list is in it
pub among-drop : (e : Pair) (p : ℕ) (l r : List Pair) → drop p l ≡ e ∷ r → among same_pair e l ≡ true
among-drop e zero [] r h = absurd (let q = ap length h in omega arith)
among-drop e zero (f ∷ l) r h = ap (λ u. same_pair e u || among same_pair e l) (head-same f e l r h) ∙ ap (λ b. b || among same_pair e l) (same-pair e)
among-drop e (suc p) [] r h = absurd (let q = ap length h in omega arith)
among-drop e (suc p) (f ∷ l) r h = or_right (same_pair e f) (among-drop e p l r h)

-- ---- where the loops stand

module _ (o : Options) (x : Index) (n many : ℕ) (w₀ : List ℕ) (ps qs : List Point) (ms : List ℕ) where
  -- the listed edges
  abbrev es : List Pair
  es = edges_in x many w₀

  -- as the round found it
  pub record Given : Type 0 where
    pub ready : Ready o x n w₀ ps qs ms
    pub few : many ≤ 6 * n
    pub below : every (below x.vertices) es ≡ true

  -- the edges are as they were
  pub record Listed (w : List ℕ) : Type 0 where
    pub long : length w ≡ length w₀
    pub edges : (j : ℕ) → edges_at x ≤ j → j < x.area → word_at w j ≡ word_at w₀ j

  module _ (m : Mesh) (s : State) where
    -- the state reached: from there the edges `rest` give what all give from the start
    pub record Reached (w : List ℕ) (replaced : ℕ) (rest : List Pair) : Type 0 where
      pub at : State
      pub stands : Stands o m x n w at
      pub left : try_edges o m (measure m.points) at rest ≡ try_edges o m (measure m.points) s es
      pub grown : length at.replaced ≡ replaced + length s.replaced

    -- an edge is tried, and d of its directions failed
    pub record Faced (w : List ℕ) (replaced : ℕ) (e : Pair) (d : ℕ) (rest : List Pair) : Type 0 where
      pub at : State
      pub stands : Stands o m x n w at
      pub first : mem e.a at.replaced ≡ false
      pub second : mem e.b at.replaced ≡ false
      pub left : try_edges o m (measure m.points) (after o m (measure m.points) d at e) rest ≡ try_edges o m (measure m.points) s es
      pub grown : length at.replaced ≡ replaced + length s.replaced

    -- its direction d is tried, with k pairs of which the first p passed
    pub record Paired (w : List ℕ) (replaced : ℕ) (e : Pair) (d k p : ℕ) (rest : List Pair) : Type 0 where
      pub at : State
      pub stands : Stands o m x n w at
      pub first : mem e.a at.replaced ≡ false
      pub second : mem e.b at.replaced ≡ false
      pub left : try_edges o m (measure m.points) (facing o m (measure m.points) d at e) rest ≡ try_edges o m (measure m.points) s es
      pub grown : length at.replaced ≡ replaced + length s.replaced
      pub pairs : pairs_in x k w ≡ pairs_for o m (measure m.points) at (way_of e d).a (way_of e d).b
      pub proper : Pairs x.vertices (pairs_in x k w)
      pub rule : (stratum_rule o m (way_of e d).a (way_of e d).b && pair_off (active_group o m at.replaced (way_of e d).a) (active_group o m at.replaced (way_of e d).b) (pairs_in x k w)) ≡ true
      pub ok : every (pair_ok o m at.elements) (drop p (pairs_in x k w)) ≡ every (pair_ok o m at.elements) (pairs_in x k w)

  -- at the head of the loop over edges
  pub record AtEdge (w : List ℕ) (replaced i : ℕ) : Type 0 where
    pub given : Given
    pub listed : Listed w
    pub done : i ≤ many
    pub few : replaced ≤ 4096 * i
    pub state : (m : Mesh) (s : State) → Reads m ps qs ms → Stands o m x n w₀ s → Reached m s w replaced (drop i es)

  -- at the head of the loop over directions: the edge behind which i edges begin
  pub record AtWay (w : List ℕ) (replaced i : ℕ) (e : Pair) (d : ℕ) : Type 0 where
    pub given : Given
    pub listed : Listed w
    pub done : i ≤ many
    pub few : replaced + 4096 ≤ 4096 * i
    pub below : below x.vertices e ≡ true
    pub way : d ≤ 2
    pub state : (m : Mesh) (s : State) → Reads m ps qs ms → Stands o m x n w₀ s → Faced m s w replaced e d (drop i es)

  -- at the head of the loop over pairs
  pub record AtPair (w : List ℕ) (replaced i : ℕ) (e : Pair) (d k p : ℕ) : Type 0 where
    pub given : Given
    pub listed : Listed w
    pub done : i ≤ many
    pub few : replaced + 4096 ≤ 4096 * i
    pub below : below x.vertices e ≡ true
    pub way : (1 ≤ d) × (d ≤ 2)
    pub most : k ≤ x.vertices
    pub within : p ≤ k
    pub state : (m : Mesh) (s : State) → Reads m ps qs ms → Stands o m x n w₀ s → Paired m s w replaced e d k p (drop i es)

  -- ---- turns

  room : Given → Room x n (length w₀)
  room g = g.ready.3.room

  -- at the start
  pub edges-start : Given → AtEdge w₀ 0 0
  edges-start g = record {
    given = g;
    listed = record { long = refl; edges = λ j a b. refl };
    done = omega arith;
    few = omega arith;
    state = λ m s r z. record { at = s; stands = z; left = refl; grown = (let e : length s.replaced ≡ 0 + length s.replaced = omega arith in e) };
  }

  module _ (w : List ℕ) (replaced i : ℕ) (e : Pair) (h : AtEdge w replaced i) (more : i < many)
      (ea : e.a ≡ word_at w (edges_at x + 4 * i + 2)) (eb : e.b ≡ word_at w (edges_at x + 4 * i + 3)) where
    -- the edge is the i-th
    edge-is : drop i es ≡ e ∷ drop (i + 1) es
    edge-is =
        let r = room h.given in let f = h.given.few in let a = r.area in
        let p : edges_at x + (4 * i + 2) ≡ edges_at x + 4 * i + 2 = omega arith in
        let q : edges_at x + (4 * i + 3) ≡ edges_at x + 4 * i + 3 = omega arith in
        edges-from many i (drop (edges_at x) w₀) more
        ∙ ap₂ (λ u v. pair u v ∷ drop (i + 1) es)
        (get_or-drop (edges_at x) w₀ (4 * i + 2) 0 ∙ ap (word_at w₀) p ∙ sym (h.listed.edges (edges_at x + 4 * i + 2) (omega arith) (omega arith)) ∙ sym ea)
        (get_or-drop (edges_at x) w₀ (4 * i + 3) 0 ∙ ap (word_at w₀) q ∙ sym (h.listed.edges (edges_at x + 4 * i + 3) (omega arith) (omega arith)) ∙ sym eb)

    pub edge-below : below x.vertices e ≡ true
    edge-below =
        let k : every (below x.vertices) (e ∷ drop (i + 1) es) ≡ true = subst (λ l. every (below x.vertices) l ≡ true) edge-is (every-from (below x.vertices) i es h.given.below) in
        and-fst (below x.vertices e) (every (below x.vertices) (drop (i + 1) es)) k

    -- a vertex of it is replaced: the next edge
    skip : ((m : Mesh) (t : State) → Stands o m x n w t → try_edge o m (measure m.points) t e ≡ t) → AtEdge w replaced (i + 1)
    unfolding try_edges
    skip none = record {
      given = h.given;
      listed = h.listed;
      done = omega arith;
      few = let f = h.few in omega arith;
      state = λ m s r z. (let c = h.state m s r z in record {
        at = c.at;
        stands = c.stands;
        left = ap (λ u. try_edges o m (measure m.points) u (drop (i + 1) es)) (sym (none m c.at c.stands)) ∙ sym (ap (try_edges o m (measure m.points) c.at) edge-is) ∙ c.left;
        grown = c.grown;
      });
    }

    flagged : (m : Mesh) (t : State) (v : ℕ) → Stands o m x n w t → v < x.vertices → active_in x w v ≡ false → mem v t.replaced ≡ true
    flagged m t v z b f = not-false (mem v t.replaced) (sym (z.flags v b) ∙ f)

    unflagged : (m : Mesh) (t : State) (v : ℕ) → Stands o m x n w t → v < x.vertices → active_in x w v ≡ true → mem v t.replaced ≡ false
    unflagged m t v z b f = not-true (mem v t.replaced) (sym (z.flags v b) ∙ f)

    first_below : e.a < x.vertices
    first_below = ltb-true e.a x.vertices (and-fst (ltb e.a x.vertices) (ltb e.b x.vertices) edge-below)

    second_below : e.b < x.vertices
    second_below = ltb-true e.b x.vertices (and-snd (ltb e.a x.vertices) (ltb e.b x.vertices) edge-below)

    pub edges-first : active_in x w e.a ≡ false → AtEdge w replaced (i + 1)
    edges-first f = skip (λ m t z. edge-first o m (measure m.points) t e (flagged m t e.a z first_below f))

    pub edges-second : active_in x w e.b ≡ false → AtEdge w replaced (i + 1)
    edges-second f = skip (λ m t z. edge-second o m (measure m.points) t e (flagged m t e.b z second_below f))

    -- none is: its directions
    pub ways-start : active_in x w e.a ≡ true → active_in x w e.b ≡ true → AtWay w replaced (i + 1) e 0
    unfolding try_edges
    ways-start f g = record {
      given = h.given;
      listed = h.listed;
      done = omega arith;
      few = let q = h.few in omega arith;
      below = edge-below;
      way = omega arith;
      state = λ m s r z. (let c = h.state m s r z in
          let a = unflagged m c.at e.a c.stands first_below f in
          let b = unflagged m c.at e.b c.stands second_below g in record {
            at = c.at;
            stands = c.stands;
            first = a;
            second = b;
            left = ap (λ u. try_edges o m (measure m.points) u (drop (i + 1) es)) (sym (edge-faced o m (measure m.points) c.at e a b)) ∙ sym (ap (try_edges o m (measure m.points) c.at) edge-is) ∙ c.left;
            grown = c.grown;
          });
    }

  -- ---- directions

  -- a vertex of a direction is a vertex of the edge
  way-below : (e : Pair) (d : ℕ) → below x.vertices e ≡ true → ((way_of e d).a < x.vertices) × ((way_of e d).b < x.vertices)
  way-below e d h =
      let a = ltb-true e.a x.vertices (and-fst (ltb e.a x.vertices) (ltb e.b x.vertices) h) in
      let b = ltb-true e.b x.vertices (and-snd (ltb e.a x.vertices) (ltb e.b x.vertices) h) in
      pick (eqb d 1) a b
    where
      pick : (c : Bool) → e.a < x.vertices → e.b < x.vertices → ((cond c e (pair e.b e.a)).a < x.vertices) × ((cond c e (pair e.b e.a)).b < x.vertices)
      pick true a b = (a, b)
      pick false a b = (b, a)

  -- words of the pairs' area, or from the area on, changed: the edges are as they were
  listed-pairs : (w w' : List ℕ) → Given → Listed w → Same w w' (pairs_at x) x.slots → Listed w'
  listed-pairs w w' g l q = record {
    long = q.long ∙ l.long;
    edges = λ j a b. (let r = room g in let c = r.nexts in let d = r.heads in let f = r.lengths in q.behind j (omega arith) ∙ l.edges j a b);
  }

  listed-area : (w w' : List ℕ) → Listed w → Same w w' x.area (length w) → Listed w'
  listed-area w w' l q = record { long = q.long ∙ l.long; edges = λ j a b. q.before j b ∙ l.edges j a b }

  -- and the state too
  pub stands-area : (m : Mesh) (s : State) (w w' : List ℕ) → Stands o m x n w s → Same w w' x.area (length w) → Stands o m x n w' s
  stands-area m s w w' z q =
      let r = z.room in let a = r.slots in let b = r.nexts in let c = r.heads in let d = r.lengths in let f = r.area in
      stands-kept o m x n w s z w' q.long (λ j g. q.before j (omega arith)) (λ j g h. q.before j (omega arith))

  module _ (w : List ℕ) (replaced i : ℕ) (e : Pair) (d : ℕ) (h : AtWay w replaced i e d) where
    -- the work slice stands for some state
    pub ways-ready : Ready o x n w ps qs ms
    ways-ready = (let g = h.given.ready in (g.0, (h.state g.0 g.1 g.2 g.3).at, g.2, (h.state g.0 g.1 g.2 g.3).stands))

    pub ways-below : (c : ℕ) → ((way_of e c).a < x.vertices) × ((way_of e c).b < x.vertices)
    ways-below c = way-below e c h.below

    -- both directions failed: the next edge
    pub ways-end : 2 ≤ d → AtEdge w replaced i
    ways-end two = record {
      given = h.given;
      listed = h.listed;
      done = h.done;
      few = let q = h.few in omega arith;
      state = λ m s r z. (let c = h.state m s r z in record {
        at = c.at;
        stands = c.stands;
        left = ap (λ u. try_edges o m (measure m.points) u (drop i es)) (sym (after-done o m (measure m.points) d c.at e two)) ∙ c.left;
        grown = c.grown;
      });
    }

    module _ (w' : List ℕ) (r : Option ℕ) (less : d < 2)
        (found : (m : Mesh) (s : State) → Reads m ps qs ms → Stands o m x n w s → MayPair o m x n s (way_of e (d + 1)).a (way_of e (d + 1)).b w w' r) where
      one : MayPair o ways-ready.0 x n ways-ready.1 (way_of e (d + 1)).a (way_of e (d + 1)).b w w' r
      one = found ways-ready.0 ways-ready.1 ways-ready.2 ways-ready.3

      -- the direction does not pair off: the next direction
      pub ways-none : r ≡ None → AtWay w' replaced i e (d + 1)
      unfolding facing
      ways-none none = record {
        given = h.given;
        listed = listed-pairs w w' h.given h.listed one.same;
        done = h.done;
        few = h.few;
        below = h.below;
        way = omega arith;
        state = λ m s r z. (let c = h.state m s r z in let q = found m c.at r c.stands in record {
          at = c.at;
          stands = q.stands;
          first = c.first;
          second = c.second;
          left = ap (λ u. try_edges o m (measure m.points) u (drop i es))
              (sym (after_next o m (measure m.points) d c.at e less ∙ ap (λ u. cond u (go o m (measure m.points) c.at (way_of e (d + 1)).a (way_of e (d + 1)).b) (after o m (measure m.points) (d + 1) c.at e)) (q.none none))) ∙ c.left;
          grown = c.grown;
        });
      }

      -- it does: its pairs
      pub pairs_start : (k : ℕ) → r ≡ Some k → AtPair w' replaced i e (d + 1) k 0
      pairs_start k some = record {
        given = h.given;
        listed = listed-pairs w w' h.given h.listed one.same;
        done = h.done;
        few = h.few;
        below = h.below;
        way = (omega arith, omega arith);
        most = one.few k some;
        within = omega arith;
        state = λ m s r z. (let c = h.state m s r z in let q = found m c.at r c.stands in record {
          at = c.at;
          stands = q.stands;
          first = c.first;
          second = c.second;
          left = ap (λ u. try_edges o m (measure m.points) u (drop i es)) (sym (after_next o m (measure m.points) d c.at e less)) ∙ c.left;
          grown = c.grown;
          pairs = q.pairs k some;
          proper = subst (Pairs x.vertices) (sym (q.pairs k some)) (q.proper k some);
          rule = subst (λ l. (stratum_rule o m (way_of e (d + 1)).a (way_of e (d + 1)).b && pair_off (active_group o m c.at.replaced (way_of e (d + 1)).a) (active_group o m c.at.replaced (way_of e (d + 1)).b) l) ≡ true) (sym (q.pairs k some)) (q.rule k some);
          ok = refl;
        });
      }

  -- ---- pairs

  module _ (w : List ℕ) (replaced i : ℕ) (e : Pair) (d k p : ℕ) (h : AtPair w replaced i e d k p) where
    -- the work slice stands for some state
    pub pairs-ready : Ready o x n w ps qs ms
    pairs-ready = (let g = h.given.ready in (g.0, (h.state g.0 g.1 g.2 g.3).at, g.2, (h.state g.0 g.1 g.2 g.3).stands))

    pub pairs-proper : Pairs x.vertices (pairs_in x k w)
    pairs-proper = (let g = h.given.ready in (h.state g.0 g.1 g.2 g.3).proper)

    -- the pair p
    abbrev here : Pair
    here = pair (word_at w (pairs_at x + 2 * p)) (word_at w (pairs_at x + 2 * p + 1))

    pub pair_is : p < k → drop p (pairs_in x k w) ≡ here ∷ drop (p + 1) (pairs_in x k w)
    pair_is less =
        let f : pairs_at x + (2 * p + 1) ≡ pairs_at x + 2 * p + 1 = omega arith in
        pairs-from k p (drop (pairs_at x) w) less
        ∙ ap₂ (λ u v. pair u v ∷ drop (p + 1) (pairs_in x k w)) (get_or-drop (pairs_at x) w (2 * p) 0) (get_or-drop (pairs_at x) w (2 * p + 1) 0 ∙ ap (word_at w) f)

    pub pair-below : p < k → (word_at w (pairs_at x + 2 * p) < x.vertices) × (word_at w (pairs_at x + 2 * p + 1) < x.vertices)
    pair-below less = pairs-proper.below here (among-drop here p (pairs_in x k w) (drop (p + 1) (pairs_in x k w)) (pair_is less))

    -- the pairs are the same once words from the area on changed
    kept : (w' : List ℕ) → Same w w' x.area (length w) → pairs_in x k w' ≡ pairs_in x k w
    kept w' q =
        let r = room h.given in let a = r.slots in let b = r.nexts in let c = r.heads in let u = r.lengths in let v = r.area in let g = h.most in
        pairs-same k (drop (pairs_at x) w) (drop (pairs_at x) w')
        (λ j l. get_or-drop (pairs_at x) w' j 0 ∙ q.before (pairs_at x + j) (omega arith) ∙ sym (get_or-drop (pairs_at x) w j 0))

    -- the direction failed, since a may not go into b: the next direction
    fail : (w' : List ℕ) → Same w w' x.area (length w)
        → ((m : Mesh) (s : State) (r : Reads m ps qs ms) (z : Stands o m x n w₀ s) → may_go o m (measure m.points) (h.state m s r z).at (way_of e d).a (way_of e d).b ≡ false)
        → AtWay w' replaced i e d
    unfolding facing
    fail w' q never = record {
      given = h.given;
      listed = listed-area w w' h.listed q;
      done = h.done;
      few = h.few;
      below = h.below;
      way = h.way.1;
      state = λ m s r z. (let c = h.state m s r z in record {
        at = c.at;
        stands = stands-area m c.at w w' c.stands q;
        first = c.first;
        second = c.second;
        left = ap (λ u. try_edges o m (measure m.points) u (drop i es))
            (sym (ap (λ u. cond u (go o m (measure m.points) c.at (way_of e d).a (way_of e d).b) (after o m (measure m.points) d c.at e)) (never m s r z))) ∙ c.left;
        grown = c.grown;
      });
    }

    -- a test's parts: a may go into b where all pairs pass and the collapse gains
    may-is : (m : Mesh) (s : State) (r : Reads m ps qs ms) (z : Stands o m x n w₀ s)
        → may_go o m (measure m.points) (h.state m s r z).at (way_of e d).a (way_of e d).b
        ≡ (every (pair_ok o m (h.state m s r z).at.elements) (drop p (pairs_in x k w))
        && gains (measure m.points) (about (pairs_in x k w) (h.state m s r z).at.elements) (collapsed (pairs_in x k w) (about (pairs_in x k w) (h.state m s r z).at.elements)))
    unfolding may_go
    may-is m s r z =
        let c = h.state m s r z in
        let A = stratum_rule o m (way_of e d).a (way_of e d).b in
        let B : List Pair → Bool = λ l. pair_off (active_group o m c.at.replaced (way_of e d).a) (active_group o m c.at.replaced (way_of e d).b) l in
        let G : List Pair → Bool = λ l. gains (measure m.points) (about l c.at.elements) (collapsed l (about l c.at.elements)) in
        let P : List Pair → Bool = λ l. every (pair_ok o m c.at.elements) l in
        ap (λ l. A && (B l && (P l && G l))) (sym c.pairs)
        ∙ two A (B (pairs_in x k w)) (P (pairs_in x k w) && G (pairs_in x k w)) c.rule
        ∙ ap (λ u. u && G (pairs_in x k w)) (sym c.ok)
      where
        two : (a b c : Bool) → (a && b) ≡ true → (a && (b && c)) ≡ c
        two true true c h = refl
        two true false c h = absurd (clash h refl)
        two false b c h = absurd (clash h refl)

    module _ (w' : List ℕ) (b : Bool) (less : p < k) (q : Same w w' x.area (length w))
        (tested : (m : Mesh) (s : State) → Reads m ps qs ms → Stands o m x n w s → b ≡ pair_ok o m s.elements here) where
      -- what is left begins with this pair's test
      left_is : (m : Mesh) (s : State) (r : Reads m ps qs ms) (z : Stands o m x n w₀ s)
          → every (pair_ok o m (h.state m s r z).at.elements) (drop p (pairs_in x k w)) ≡ (b && every (pair_ok o m (h.state m s r z).at.elements) (drop (p + 1) (pairs_in x k w)))
      left_is m s r z =
          let c = h.state m s r z in
          ap (every (pair_ok o m c.at.elements)) (pair_is less)
          ∙ ap (λ u. u && every (pair_ok o m c.at.elements) (drop (p + 1) (pairs_in x k w))) (sym (tested m c.at r c.stands))

      -- the pair fails
      pub pairs-fail : b ≡ false → AtWay w' replaced i e d
      pairs-fail f =
          fail w' q
          (λ m s r z. may-is m s r z
          ∙ ap (λ u. u && gains (measure m.points) (about (pairs_in x k w) (h.state m s r z).at.elements) (collapsed (pairs_in x k w) (about (pairs_in x k w) (h.state m s r z).at.elements))) (left_is m s r z ∙ ap (λ u. u && every (pair_ok o m (h.state m s r z).at.elements) (drop (p + 1) (pairs_in x k w))) f))

      -- it passes: the next pair
      pub pairs_next : b ≡ true → AtPair w' replaced i e d k (p + 1)
      pairs_next t = record {
        given = h.given;
        listed = listed-area w w' h.listed q;
        done = h.done;
        few = h.few;
        below = h.below;
        way = h.way;
        most = h.most;
        within = omega arith;
        state = λ m s r z. (let c = h.state m s r z in record {
          at = c.at;
          stands = stands-area m c.at w w' c.stands q;
          first = c.first;
          second = c.second;
          left = c.left;
          grown = c.grown;
          pairs = kept w' q ∙ c.pairs;
          proper = subst (Pairs x.vertices) (sym (kept w' q)) c.proper;
          rule = subst (λ l. (stratum_rule o m (way_of e d).a (way_of e d).b && pair_off (active_group o m c.at.replaced (way_of e d).a) (active_group o m c.at.replaced (way_of e d).b) l) ≡ true) (sym (kept w' q)) c.rule;
          ok = ap (λ l. every (pair_ok o m c.at.elements) (drop (p + 1) l)) (kept w' q)
              ∙ sym (left_is m s r z ∙ ap (λ u. u && every (pair_ok o m c.at.elements) (drop (p + 1) (pairs_in x k w))) t)
              ∙ c.ok ∙ ap (every (pair_ok o m c.at.elements)) (sym (kept w' q));
        });
      }

    module _ (w' : List ℕ) (b : Bool) (all : k ≤ p) (q : Same w w' x.area (length w))
        (tested : (m : Mesh) (s : State) → Reads m ps qs ms → Stands o m x n w s
        → b ≡ gains (measure m.points) (about (pairs_in x k w) s.elements) (collapsed (pairs_in x k w) (about (pairs_in x k w) s.elements))) where
      -- all pairs passed, so the gain decides
      decided : (m : Mesh) (s : State) (r : Reads m ps qs ms) (z : Stands o m x n w₀ s)
          → may_go o m (measure m.points) (h.state m s r z).at (way_of e d).a (way_of e d).b ≡ b
      decided m s r z =
          let c = h.state m s r z in
          let e₁ : p ≡ k = (let u = h.within in omega arith) in
          may-is m s r z
          ∙ ap₂ (λ l u. every (pair_ok o m c.at.elements) l && u) (ap (λ u. drop u (pairs_in x k w)) e₁ ∙ pairs-none k (drop (pairs_at x) w)) (sym (tested m c.at r c.stands))

      -- it does not gain
      pub gain-fails : b ≡ false → AtWay w' replaced i e d
      gain-fails f = fail w' q (λ m s r z. decided m s r z ∙ f)

      pub gain-proper : Pairs x.vertices (pairs_in x k w')
      gain-proper = subst (Pairs x.vertices) (sym (kept w' q)) pairs-proper

      -- it does: the pairs are replaced, and the next edge is taken
      pub gain-made : b ≡ true → (w'' : List ℕ) → Replaces x n (pairs_in x k w') w' w'' → AtEdge w'' (replaced + k) i
      unfolding facing
      gain-made t w'' f = record {
        given = h.given;
        listed =
            (let u = (f o pairs-ready.0 pairs-ready.1 (stands-area pairs-ready.0 pairs-ready.1 w w' pairs-ready.3 q)).0 in
            record { long = u.long ∙ q.long ∙ h.listed.long; edges = λ j a c. u.edges j a c ∙ (listed-area w w' h.listed q).edges j a c });
        done = h.done;
        few = let a = h.few in let c = h.most in let g = (room h.given).few in omega arith;
        state = λ m s r z. (let c = h.state m s r z in
            let v = kept w' q ∙ c.pairs in
            let E : List Pair → State = λ l. record { elements = collapsed l c.at.elements; replaced = map (λ e. e.a) l ++ c.at.replaced } in
            record {
              at = E (pairs_in x k w');
              stands = (f o m c.at (stands-area m c.at w w' c.stands q)).1;
              left = ap (λ y. try_edges o m (measure m.points) y (drop i es))
                  (ap E v ∙ sym (ap (λ y. cond y (go o m (measure m.points) c.at (way_of e d).a (way_of e d).b) (after o m (measure m.points) d c.at e)) (decided m s r z ∙ t))) ∙ c.left;
              grown = length-append (map (λ e. e.a) (pairs_in x k w')) c.at.replaced
                  ∙ (let a = length-map (pairs_in x k w') (λ e. e.a) in let y = length_pairs k (drop (pairs_at x) w') in let g = c.grown in omega arith);
            });
      }

  -- at the end all edges are tried
  pub edges-end : (w : List ℕ) (replaced i : ℕ) → AtEdge w replaced i → many ≤ i → (m : Mesh) (s : State) → Reads m ps qs ms → Stands o m x n w₀ s
      → Stands o m x n w (try_edges o m (measure m.points) s es) × (length (try_edges o m (measure m.points) s es).replaced ≡ replaced + length s.replaced)
  unfolding try_edges
  edges-end w replaced i h all m s r z =
      let c = h.state m s r z in
      let e : i ≡ many = (let a = h.done in omega arith) in
      let f : c.at ≡ try_edges o m (measure m.points) s es =
      sym (ap (try_edges o m (measure m.points) c.at) (ap (λ u. drop u es) e ∙ edges_none many (drop (edges_at x) w₀))) ∙ c.left in
      (subst (Stands o m x n w) f c.stands, ap (λ (u : State). length u.replaced) (sym f) ∙ c.grown)

-- a number that is not 0 is above it
pub above-none : (k : ℕ) → (k ≡ 0 → ⊥) → 0 < k
above-none zero f = absurd (f refl)
above-none (suc k) f = omega arith
