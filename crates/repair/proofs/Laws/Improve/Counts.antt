-- The count of an `improve`: no vertex is replaced twice (`replaced-once`), those replaced are used no more (`replaced-unused`), and a mesh
-- with an edge that may go is not left alone (`improve-collapses`). Assumes nothing.
use mathlib.Core.Path.{◌≡◌, refl, sym, ap, subst, ◌∙◌}
use mathlib.Core.Logic.{◌⊎◌, inl, inr}
use mathlib.Core.Bool.{true, false, not, ◌&&◌, ◌||◌}
use mathlib.Core.List.Memᴰ
use mathlib.Core.List.{List, [], ◌∷◌, ◌++◌, map, Memᴰ}
use Prim.Native.Nat.{ℕ, zero, suc, ◌≤◌, ◌<◌}
use native.Mathlib.Nat.{le_of_eq, lt_of_lt_of_le}
use native.Mathlib.Omega.{arith}
use borrow.Author.Tests.{eqb-true, eq-eqb, ne_eqb, not-true}
use lib.Dec.{eqb}
use lib.ListN.{length, length-append, length-map}
use Rattle.geometry.specs.declared.bounds.Options.{Options}
use Rattle.geometry.specs.Bounds.{spacing}
use Rattle.mesh.specs.declared.element.Pair.{Pair}
use Rattle.mesh.specs.declared.element.Tet.{Tet}
use Rattle.mesh.specs.Complex.{mem, Nodup}
use Rattle.mesh.specs.inside.Complex.{Proper}
use Rattle.mesh.specs.Tests.{every, nodup}
use Rattle.mesh.specs.Element.{vertices_of}
use Rattle.mesh.specs.Words.{numbers}
use Rattle.mesh.specs.Group.{same_ranks, rank_of, group_of}
use Rattle.mesh.specs.Measure.{Measure, measure}
use Rattle.mesh.proofs.Laws.Complex.Sets.{split, nope, clash, or_cases, or_left, and-fst, and-snd, mem-here, mem-there, mem-cases, mem-nil, keep-mem, keep-nodup}
use Rattle.repair.specs.Mesh.{Mesh, made, has}
use Rattle.repair.specs.Improve.{State, cap_of, stratum_rule, active_group, partner, partners, pair_off, pair_ok, about, collapsed, gains, listed_edges, pairs_for, may_go, go, try_edge, try_edges, round, rounds, improve}
use Rattle.repair.proofs.Laws.Improve.Single.{Distinct, size, ranks-refl}
use Rattle.repair.proofs.Laws.Improve.Edges.{joins, listed-join}
use Rattle.repair.proofs.Laws.Improve.Passes.{Tried, Joined, joined, joined_back, try_edge-keeps, try_edges-always, rounds-always}
use Rattle.repair.proofs.Laws.Improve.Keeps.{Sound, last, last-kept, improve-made}
use Rattle.mesh.proofs.Laws.Star.Chains.{mem-either}
use Rattle.mesh.proofs.Laws.NumbersFrom.{numbers-mem, numbers-nodup}

-- ---- lists of vertices

append-nodup : (xs ys : List ℕ) → Nodup xs → Nodup ys → ((x : ℕ) → mem x xs ≡ true → mem x ys ≡ false) → Nodup (xs ++ ys)
append-nodup [] ys d e h = e
append-nodup (x ∷ xs) ys d e h = (
  nope (λ z. elim (mem-either x xs ys z) [ inl q ↦ clash q d.0 | inr q ↦ clash q (h x (mem-here x xs)) ]),
  append-nodup xs ys d.1 e (λ y q. h y (mem-there y x xs q)),
)

pub some-length : (x : ℕ) (xs : List ℕ) → mem x xs ≡ true → 0 < length xs
some-length x [] h = absurd (mem-nil x h)
some-length x (y ∷ xs) h = omega arith

-- ---- the pairs of a direction

unfoldable pub firsts : List Pair → List ℕ
firsts es = map (λ e. e.a) es

module _ (o : Options) (m : Mesh) where
  partner-firsts : (v : ℕ) (ws : List ℕ) → (firsts (partner o m v ws) ≡ []) ⊎ (firsts (partner o m v ws) ≡ v ∷ [])
  unfolding partner firsts
  partner-firsts v [] = inl refl
  partner-firsts v (w ∷ ws) = elim (split (eqb (cap_of o m v) (cap_of o m w))) [ inl h ↦ rw h (inr refl) | inr h ↦ rw h (partner-firsts v ws) ]

  firsts-append : (es fs : List Pair) → firsts (es ++ fs) ≡ firsts es ++ firsts fs
  unfolding firsts
  firsts-append [] fs = refl
  firsts-append (e ∷ es) fs = ap (λ l. e.a ∷ l) (firsts-append es fs)

  pub firsts-mem : (vs ws : List ℕ) (x : ℕ) → mem x (firsts (partners o m vs ws)) ≡ true → mem x vs ≡ true
  unfolding partners firsts
  firsts-mem [] ws x h = absurd (mem-nil x h)
  firsts-mem (v ∷ vs) ws x h =
      let k : mem x (firsts (partner o m v ws) ++ firsts (partners o m vs ws)) ≡ true = subst (λ l. mem x l ≡ true) (firsts-append (partner o m v ws) (partners o m vs ws)) h in
      elim (mem-either x (firsts (partner o m v ws)) (firsts (partners o m vs ws)) k) [
        | inl q ↦ elim (partner-firsts v ws) [
          | inl e ↦ absurd (mem-nil x (subst (λ l. mem x l ≡ true) e q))
          | inr e ↦ elim (mem-cases x v [] (subst (λ l. mem x l ≡ true) e q)) [ inl r ↦ or_left (mem x vs) (eq-eqb x v r) | inr r ↦ absurd (mem-nil x r) ]
        ]
        | inr q ↦ mem-there x v vs (firsts-mem vs ws x q)
      ]

  pub firsts-nodup : (vs ws : List ℕ) → Nodup vs → Nodup (firsts (partners o m vs ws))
  unfolding partners firsts
  firsts-nodup [] ws d = tt
  firsts-nodup (v ∷ vs) ws d =
      let ih = firsts-nodup vs ws d.1 in
      subst Nodup (sym (firsts-append (partner o m v ws) (partners o m vs ws)))
      (elim (partner-firsts v ws) [
        | inl e ↦ subst (λ l. Nodup (l ++ firsts (partners o m vs ws))) (sym e) ih
        | inr e ↦ subst (λ l. Nodup (l ++ firsts (partners o m vs ws))) (sym e) (nope (λ z. clash (firsts-mem vs ws v z) d.0), ih)
      ])

  pub active-nodup : (replaced : List ℕ) (v : ℕ) → Nodup (active_group o m replaced v)
  active-nodup replaced v =
      keep-nodup (λ w. not (mem w replaced)) (group_of o m.parameters v) (keep-nodup (λ w. same_ranks (rank_of o m.parameters w) (rank_of o m.parameters v)) (numbers 0 (length m.parameters)) (numbers-nodup 0 (length m.parameters)))

  active-out : (replaced : List ℕ) (v x : ℕ) → mem x (active_group o m replaced v) ≡ true → mem x replaced ≡ false
  active-out replaced v x h =
      not-true (mem x replaced) (and-snd (mem x (group_of o m.parameters v)) (not (mem x replaced)) (sym (keep-mem (λ w. not (mem w replaced)) (group_of o m.parameters v) x) ∙ h))

  -- a vertex that is not replaced is in its group
  pub active-self : (replaced : List ℕ) (v : ℕ) → v < size m → mem v replaced ≡ false → mem v (active_group o m replaced v) ≡ true
  active-self replaced v l h =
      keep-mem (λ w. not (mem w replaced)) (group_of o m.parameters v) v
      ∙ rw (keep-mem (λ w. same_ranks (rank_of o m.parameters w) (rank_of o m.parameters v)) (numbers 0 (length m.parameters)) v, numbers-mem 0 (length m.parameters) v (omega arith) (omega arith), ranks-refl (rank_of o m.parameters v), h) refl

-- ---- each vertex is replaced once

module _ (o : Options) (m : Mesh) (μ : Measure) where
  go-once : (s : State) (a b : ℕ) → Tried o m μ s a b → Nodup s.replaced → Nodup (go o m μ s a b).replaced
  unfolding firsts
  go-once s a b t d =
      let vs = active_group o m s.replaced a in
      let ws = active_group o m s.replaced b in
      append-nodup (firsts (partners o m vs ws)) s.replaced (firsts-nodup o m vs ws (active-nodup o m s.replaced a)) d
      (λ x h. active-out o m s.replaced a x (firsts-mem o m vs ws x h))

  -- no vertex is replaced twice, so the count is a number of vertices
  pub replaced-once : (k : ℕ) (s : State) → Nodup s.replaced → Nodup (rounds o m μ k s).replaced
  replaced-once k s d = rounds-always o m μ (λ t. Nodup t.replaced) go-once k s d

-- where no two vertices have the same ranks: what was replaced is in no element
pub replaced-unused : (o : Options) (m : Mesh) → Sound m → Distinct o m.parameters → (v : ℕ) → mem v (last o m).replaced ≡ true → (t : Tet) → Memᴰ t (last o m).elements → has v t ≡ false
replaced-unused o m S d = (last-kept o m S d).gone

-- ---- a mesh with an edge that may go is not left alone

module _ (o : Options) (m : Mesh) (μ : Measure) where
  -- the number of vertices replaced never falls
  go-grows : (k : ℕ) (s : State) (a b : ℕ) → Tried o m μ s a b → k ≤ length s.replaced → k ≤ length (go o m μ s a b).replaced
  go-grows k s a b t h = omega (arith, length-append (map (λ e. e.a) (pairs_for o m μ s a b)) s.replaced)

  pub edges-grow : (es : List Pair) (s : State) → length s.replaced ≤ length (try_edges o m μ s es).replaced
  edges-grow es s = try_edges-always o m μ (λ t. length s.replaced ≤ length t.replaced) (go-grows (length s.replaced)) es s (le_of_eq refl)

  rounds-grow : (k : ℕ) (s : State) → length s.replaced ≤ length (rounds o m μ k s).replaced
  rounds-grow k s = rounds-always o m μ (λ t. length s.replaced ≤ length t.replaced) (go-grows (length s.replaced)) k s (le_of_eq refl)

  -- a vertex that goes is counted
  go-more : (s : State) (a b : ℕ) → Joined (size m) a b → Tried o m μ s a b → length s.replaced < length (go o m μ s a b).replaced
  unfolding may_go
  go-more s a b j t =
      let es = pairs_for o m μ s a b in
      let vs = active_group o m s.replaced a in
      let ws = active_group o m s.replaced b in
      let tested = every (pair_ok o m s.elements) es && gains μ (about es s.elements) (collapsed es (about es s.elements)) in
      let off = and-fst (pair_off vs ws es) tested (and-snd (stratum_rule o m a b) (pair_off vs ws es && tested) t.may) in
      let all = and-snd (eqb (length vs) (length ws)) (eqb (length es) (length vs) && nodup (map (λ e. e.b) es)) off in
      let e : length es ≡ length vs = eqb-true (length es) (length vs) (and-fst (eqb (length es) (length vs)) (nodup (map (λ e. e.b) es)) all) in
      let some : 0 < length vs = some-length a vs (active-self o m s.replaced a j.first t.first-there) in
      omega (arith, length-append (map (λ e. e.a) es) s.replaced, length-map es (λ e. e.a))

  -- a trial leaves all as it is, or a vertex goes
  pub edge-cases : (s : State) (e : Pair) → joins (size m) e ≡ true → (try_edge o m μ s e ≡ s) ⊎ (length s.replaced < length (try_edge o m μ s e).replaced)
  edge-cases s e j =
      try_edge-keeps o m μ (joins (size m)) (Joined (size m)) (λ f k. (joined (size m) f k, joined_back (size m) f.a f.b (joined (size m) f k))) (λ t. (t ≡ s) ⊎ (length s.replaced < length t.replaced))
      (λ t a b i r q. inr (elim q [
        | inl e ↦ subst (λ u. length u.replaced < length (go o m μ t a b).replaced) e (go-more t a b i r)
        | inr l ↦ let g : length t.replaced < length (go o m μ t a b).replaced = go-more t a b i r in omega arith
      ]))
      s e j (inl refl)

  -- a trial that may succeed does
  edge_goes : (s : State) (e : Pair) → joins (size m) e ≡ true → mem e.a s.replaced ≡ false → mem e.b s.replaced ≡ false → (may_go o m μ s e.a e.b || may_go o m μ s e.b e.a) ≡ true
      → length s.replaced < length (try_edge o m μ s e).replaced
  unfolding try_edge
  edge_goes s e j na nb h =
      let i = joined (size m) e j in
      rw (na, nb)
      (elim (split (may_go o m μ s e.a e.b)) [
        | inl f ↦ rw f (go-more s e.a e.b i (record { first-there = na; second-there = nb; may = f }))
        | inr f ↦
            let g : may_go o m μ s e.b e.a ≡ true = elim (or_cases (may_go o m μ s e.a e.b) (may_go o m μ s e.b e.a) h) [ inl q ↦ absurd (clash q f) | inr q ↦ q ] in
            rw (f, g) (go-more s e.b e.a (joined_back (size m) e.a e.b i) (record { first-there = nb; second-there = na; may = g }))
      ])

  edges-go : (es : List Pair) (s : State) (e : Pair) → every (joins (size m)) es ≡ true → Memᴰ e es → mem e.a s.replaced ≡ false → mem e.b s.replaced ≡ false
      → (may_go o m μ s e.a e.b || may_go o m μ s e.b e.a) ≡ true → length s.replaced < length (try_edges o m μ s es).replaced
  unfolding try_edges
  edges-go [] s e j i na nb h = absurd (Memᴰ.not-nil i)
  edges-go (f ∷ es) s e j i na nb h =
      let jf = and-fst (joins (size m) f) (every (joins (size m)) es) j in
      let js = and-snd (joins (size m) f) (every (joins (size m)) es) j in
      let t = try_edge o m μ s f in
      let grown : length s.replaced < length t.replaced → length s.replaced < length (try_edges o m μ t es).replaced = λ l. lt_of_lt_of_le l (edges-grow es t) in
      elim (Memᴰ.cases_cons i) [
        | inl q ↦ grown (subst (λ g. length s.replaced < length (try_edge o m μ s g).replaced) q (edge_goes s e (subst (λ g. joins (size m) g ≡ true) (sym q) jf) na nb h))
        | inr k ↦ elim (edge-cases s f jf) [
          | inl q ↦ subst (λ u. length s.replaced < length (try_edges o m μ u es).replaced) (sym q) (edges-go es s e js k na nb h)
          | inr l ↦ grown l
        ]
      ]

  rounds-go : (k : ℕ) (s : State) (e : Pair) → 0 < k → Proper (size m) (map vertices_of s.elements) → Memᴰ e (listed_edges μ (spacing o) s.elements) → mem e.a s.replaced ≡ false → mem e.b s.replaced ≡ false
      → (may_go o m μ s e.a e.b || may_go o m μ s e.b e.a) ≡ true → length s.replaced < length (rounds o m μ k s).replaced
  unfolding rounds
  rounds-go zero s e p P i na nb h = absurd (omega arith)
  rounds-go (suc k) s e p P i na nb h =
      let l : length s.replaced < length (round o m μ s).replaced = edges-go (listed_edges μ (spacing o) s.elements) s e (listed-join (size m) μ (spacing o) s.elements P) i na nb h in
      rw (ne_eqb (length (round o m μ s).replaced) (length s.replaced) (λ q. omega arith)) (lt_of_lt_of_le l (rounds-grow k (round o m μ s)))

-- an edge that the first round lists and that may go either way: then an `improve` that makes a mesh replaced a vertex
pub improve-collapses : (o : Options) (m k : Mesh) (count : ℕ) (e : Pair) → 0 < o.passes → Sound m → Memᴰ e (listed_edges (measure m.points) (spacing o) m.elements)
    → (let s : State = record { elements = m.elements; replaced = [] } in let μ = measure m.points in may_go o m μ s e.a e.b || may_go o m μ s e.b e.a) ≡ true
    → improve o m ≡ made count k → 0 < count
improve-collapses o m k count e p S i h r =
    subst (λ c. 0 < c) (sym (improve-made o m k count r).counts)
    (rounds-go o m (measure m.points) o.passes (record { elements = m.elements; replaced = [] }) e p (subst (λ v. Proper v (map vertices_of m.elements)) (sym S.counted) S.proper) i refl refl h)
