-- The rounds of `improve`, turn by turn, and a round that collapses nothing. Assumes nothing.
use mathlib.Core.Path.{◌≡◌, refl, sym, ap, subst, ◌∙◌}
use mathlib.Core.Logic.{inl, inr}
use mathlib.Core.Bool.{Bool, true, not, ◌&&◌}
use mathlib.Core.List.{List, [], ◌∷◌, Memᴰ}
use Prim.Native.Nat.{ℕ, suc, ◌+◌, ◌*◌, ◌≤◌, ◌<◌}
use native.Mathlib.Omega.{arith}
use lib.Dec.{eqb, ltb}
use lib.ListN.{length}
use borrow.Author.Tests.{eq-eqb, ne_eqb, eqb-true, not-true}
use Rattle.geometry.specs.declared.bounds.Options.{Options}
use Rattle.geometry.specs.declared.point.Point.{Point}
use Rattle.geometry.specs.Bounds.{spacing}
use Rattle.mesh.specs.declared.element.Pair.{Pair}
use Rattle.mesh.specs.declared.element.Tet.{Tet}
use Rattle.mesh.specs.declared.star.Index.{Index}
use Rattle.mesh.specs.Complex.{keep}
use Rattle.mesh.specs.inside.Complex.{IsElement}
use Rattle.mesh.specs.Tests.{every}
use Rattle.mesh.specs.Element.{vertices_of}
use Rattle.mesh.specs.Intake.{well_numbered}
use Rattle.mesh.specs.inside.List.{gone}
use Rattle.mesh.specs.inside.Star.{gone_word}
use Rattle.mesh.specs.Measure.{Measure, measure}
use Rattle.mesh.proofs.Laws.Bools.{and_intro}
use Rattle.mesh.proofs.Laws.Complex.Sets.{clash, or_cases, and-fst, and-snd}
use Rattle.mesh.proofs.Laws.Link.Members.{kept-elim, every-elim}
use Rattle.repair.specs.Mesh.{Mesh}
use Rattle.repair.specs.Improve.{State, listed_edges, try_edge, try_edges, round, rounds}
use Rattle.repair.specs.inside.Layout.{Stands, Reads, Ready, edges_at, Same, edges_in, slots_in, live_in, slot_ok}
use Rattle.repair.specs.inside.improve.Round.{below}
use Rattle.repair.proofs.Laws.Improve.Edges.{joins, listed-joins}
use Rattle.repair.proofs.Laws.Improve.Intake.{numbered-element}
use Rattle.repair.proofs.Laws.Improve.Passes.{rounds-end}
use Rattle.repair.proofs.Laws.Layout.{stands-kept}
use Rattle.repair.proofs.Laws.Improve.Counts.{edge-cases, edges-grow}

-- edges that collapse nothing leave the state as it is
pub edges-idle : (o : Options) (m : Mesh) (μ : Measure) (es : List Pair) (s : State) → every (joins (length m.parameters)) es ≡ true
    → length (try_edges o m μ s es).replaced ≡ length s.replaced → try_edges o m μ s es ≡ s
unfolding try_edges
edges-idle o m μ [] s j h = refl
edges-idle o m μ (e ∷ es) s j h =
    let js = and-snd (joins (length m.parameters) e) (every (joins (length m.parameters)) es) j in
    elim (edge-cases o m μ s e (and-fst (joins (length m.parameters) e) (every (joins (length m.parameters)) es) j)) [
      | inl q ↦ ap (λ u. try_edges o m μ u es) q ∙ edges-idle o m μ es s js (sym (ap (λ u. length (try_edges o m μ u es).replaced) q) ∙ h)
      | inr l ↦ absurd (let g = edges-grow o m μ es (try_edge o m μ s e) in omega arith)
    ]

-- a test that follows from another is passed where that is
pub every-weaker : {A : Type 0} (p q : A → Bool) (l : List A) → ((x : A) → p x ≡ true → q x ≡ true) → every p l ≡ true → every q l ≡ true
every-weaker p q [] f h = refl
every-weaker p q (x ∷ l) f h = rw (f x (and-fst (p x) (every p l) h)) (every-weaker p q l f (and-snd (p x) (every p l) h))

-- a round that collapses something is followed by the others
rounds-more : (o : Options) (m : Mesh) (μ : Measure) (k : ℕ) (s : State) → length s.replaced < length (round o m μ s).replaced → rounds o m μ (suc k) s ≡ rounds o m μ k (round o m μ s)
unfolding rounds
rounds-more o m μ k s h = rw (ne_eqb (length (round o m μ s).replaced) (length s.replaced) (λ e. omega arith))

-- a live element has four different vertices
live-element : (nv : ℕ) (ts : List Tet) (t : Tet) → every (slot_ok nv) ts ≡ true → Memᴰ t (keep (λ t. not (gone t)) ts) → IsElement nv (vertices_of t)
unfolding slot_ok
live-element nv ts t h k =
    let e = kept-elim (λ t. not (gone t)) ts k in
    elim (or_cases (every (eqb gone_word) (vertices_of t)) (well_numbered nv t) (every-elim (slot_ok nv) ts h e.0)) [
      | inl g ↦ absurd (clash (eq-eqb t.a gone_word (sym (eqb-true gone_word t.a (and-fst (eqb gone_word t.a) (every (eqb gone_word) (t.b ∷ t.c ∷ t.d ∷ [])) g)))) (not-true (gone t) e.1))
      | inr g ↦ numbered-element nv t g
    ]

stands-element : (o : Options) (m : Mesh) (x : Index) (n : ℕ) (w : List ℕ) (s : State) → Stands o m x n w s → (t : Tet) → Memᴰ t s.elements → IsElement x.vertices (vertices_of t)
unfolding live_in
stands-element o m x n w s z t k = live-element x.vertices (slots_in x n w) t z.proper (subst (Memᴰ t) z.elements k)

module _ (o : Options) (x : Index) (n : ℕ) (w₀ : List ℕ) (ps qs : List Point) (ms : List ℕ) where
  -- the state reached: from there `left` rounds give what all give from the start
  pub record Gone (m : Mesh) (s : State) (w : List ℕ) (replaced left : ℕ) : Type 0 where
    pub at : State
    pub stands : Stands o m x n w at
    pub rest : rounds o m (measure m.points) left at ≡ rounds o m (measure m.points) o.passes s
    pub grown : length at.replaced ≡ replaced + length s.replaced

  -- at the head of the loop over rounds
  pub record AtRound (w : List ℕ) (replaced left : ℕ) : Type 0 where
    pub ready : Ready o x n w₀ ps qs ms
    pub most : left ≤ o.passes
    pub few : o.passes ≤ 16
    pub sum : replaced + 4294967296 * left ≤ 4294967296 * o.passes
    pub state : (m : Mesh) (s : State) → Reads m ps qs ms → Stands o m x n w₀ s → Gone m s w replaced left

  pub rounds-start : Ready o x n w₀ ps qs ms → o.passes ≤ 16 → (left : ℕ) → left ≡ o.passes → AtRound w₀ 0 left
  rounds-start r f left e = record {
    ready = r;
    most = omega arith;
    few = f;
    sum = omega arith;
    state = λ m s q z. record { at = s; stands = z; rest = ap (λ u. rounds o m (measure m.points) u s) e; grown = (let e : length s.replaced ≡ 0 + length s.replaced = omega arith in e) };
  }

  module _ (w : List ℕ) (replaced left : ℕ) (h : AtRound w replaced left) where
    pub rounds-ready : Ready o x n w ps qs ms
    rounds-ready = (let g = h.ready in (g.0, (h.state g.0 g.1 g.2 g.3).at, g.2, (h.state g.0 g.1 g.2 g.3).stands))

    -- the edges are listed
    module _ (w₁ : List ℕ) (count : ℕ) (same : Same w w₁ (edges_at x) (length w))
        (listed : (m : Mesh) (s : State) → Reads m ps qs ms → Stands o m x n w s → edges_in x count w₁ ≡ listed_edges (measure m.points) (spacing o) s.elements) where
      -- the work slice stands for the same state
      pub stands-listed : (m : Mesh) (s : State) → Stands o m x n w s → Stands o m x n w₁ s
      stands-listed m s z =
          let r = z.room in let a = r.slots in let b = r.nexts in let c = r.heads in let d = r.lengths in
          stands-kept o m x n w s z w₁ same.long (λ j g. same.before j (omega arith)) (λ j g f. same.before j (omega arith))

      pub listed-ready : Ready o x n w₁ ps qs ms
      listed-ready = (let g = rounds-ready in (g.0, g.1, g.2, stands-listed g.0 g.1 g.3))

      joined : (m : Mesh) (s : State) → Reads m ps qs ms → Stands o m x n w s → every (joins (length m.parameters)) (edges_in x count w₁) ≡ true
      joined m s r z =
          ap (every (joins (length m.parameters))) (listed m s r z)
          ∙ listed-joins (length m.parameters) (measure m.points) (spacing o) s.elements (λ t k. subst (λ u. IsElement u (vertices_of t)) (sym z.many) (stands-element o m x n w s z t k))

      pub listed_below : every (below x.vertices) (edges_in x count w₁) ≡ true
      listed_below =
          let g = rounds-ready in
          every-weaker (joins x.vertices) (below x.vertices) (edges_in x count w₁)
          (λ e k. and_intro (ltb e.a x.vertices) (ltb e.b x.vertices) (and-fst (ltb e.a x.vertices) (ltb e.b x.vertices && not (eqb e.a e.b)) k)
          (and-fst (ltb e.b x.vertices) (not (eqb e.a e.b)) (and-snd (ltb e.a x.vertices) (ltb e.b x.vertices && not (eqb e.a e.b)) k)))
          (subst (λ u. every (joins u) (edges_in x count w₁) ≡ true) g.3.many (joined g.0 g.1 g.2 g.3))

      -- the round is made
      module _ (w₂ : List ℕ) (k : ℕ) (more : 0 < left)
          (made : (m : Mesh) (s : State) → Reads m ps qs ms → Stands o m x n w₁ s
          → Stands o m x n w₂ (try_edges o m (measure m.points) s (edges_in x count w₁)) × (length (try_edges o m (measure m.points) s (edges_in x count w₁)).replaced ≡ k + length s.replaced)) where
        -- what the round made of the state reached
        turned : (m : Mesh) (s : State) → Reads m ps qs ms → Stands o m x n w s
            → Stands o m x n w₂ (round o m (measure m.points) s) × (length (round o m (measure m.points) s).replaced ≡ k + length s.replaced)
        turned m s r z =
            subst (λ l. Stands o m x n w₂ (try_edges o m (measure m.points) s l) × (length (try_edges o m (measure m.points) s l).replaced ≡ k + length s.replaced)) (listed m s r z)
            (made m s r (stands-listed m s z))

        -- nothing was collapsed: the rounds end
        pub rounds-idle : k ≡ 0 → (m : Mesh) (s : State) → Reads m ps qs ms → Stands o m x n w₀ s
            → Stands o m x n w₂ (rounds o m (measure m.points) o.passes s) × (length (rounds o m (measure m.points) o.passes s).replaced ≡ replaced + length s.replaced)
        rounds-idle e m s r z =
            let c = h.state m s r z in
            let q = turned m c.at r c.stands in
            let l : length (round o m (measure m.points) c.at).replaced ≡ length c.at.replaced = (let a = q.1 in omega arith) in
            let f : rounds o m (measure m.points) left c.at ≡ c.at = rounds-end o m (measure m.points) left c.at l in
            let g : round o m (measure m.points) c.at ≡ c.at =
            sym (ap (try_edges o m (measure m.points) c.at) (listed m c.at r c.stands))
            ∙ edges-idle o m (measure m.points) (edges_in x count w₁) c.at (joined m c.at r c.stands) (ap (λ l. length (try_edges o m (measure m.points) c.at l).replaced) (listed m c.at r c.stands) ∙ l) in
            (subst (Stands o m x n w₂) (g ∙ sym f ∙ c.rest) q.0, ap (λ (u : State). length u.replaced) (sym (sym f ∙ c.rest)) ∙ c.grown)

        -- something was: the next round
        pub rounds-next : 0 < k → k ≤ 4294967296 → (rest : ℕ) → left ≡ suc rest → AtRound w₂ (replaced + k) rest
        rounds-next some few rest e = record {
          ready = h.ready;
          most = let a = h.most in omega arith;
          few = h.few;
          sum = let a = h.sum in omega arith;
          state = λ m s r z. (let c = h.state m s r z in let q = turned m c.at r c.stands in record {
            at = round o m (measure m.points) c.at;
            stands = q.0;
            rest = sym (rounds-more o m (measure m.points) rest c.at (let a = q.1 in omega arith)) ∙ ap (λ u. rounds o m (measure m.points) u c.at) (sym e) ∙ c.rest;
            grown = let a = q.1 in let b = c.grown in omega arith;
          });
        }

    -- no round is left
    pub rounds-done : left ≡ 0 → (m : Mesh) (s : State) → Reads m ps qs ms → Stands o m x n w₀ s
        → Stands o m x n w (rounds o m (measure m.points) o.passes s) × (length (rounds o m (measure m.points) o.passes s).replaced ≡ replaced + length s.replaced)
    unfolding rounds
    rounds-done e m s r z =
        let c = h.state m s r z in
        let f : c.at ≡ rounds o m (measure m.points) o.passes s = sym (ap (λ u. rounds o m (measure m.points) u c.at) e) ∙ c.rest in
        (subst (Stands o m x n w) f c.stands, ap (λ (u : State). length u.replaced) (sym f) ∙ c.grown)
