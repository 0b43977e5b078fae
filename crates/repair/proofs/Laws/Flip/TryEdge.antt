-- What `try_edge` finds and leaves in the work slice is a turn of `try_edge`. Assumes nothing.
use mathlib.Core.Path.{◌≡◌, refl, sym, ap, ap₂, subst, ◌∙◌}
use mathlib.Core.Bool.{Bool, true, false, cond, ◌&&◌}
use mathlib.Core.List.{List, [], ◌∷◌, ◌++◌, map, Memᴰ}
use mathlib.Core.Option.{none, some}
use Prim.Native.Nat.{ℕ, ◌+◌, ◌≤◌, ◌<◌}
use native.Mathlib.Omega.{arith}
use borrow.Author.Tests.{eq-eqb, ne_eqb}
use lib.Dec.{eqb, leb}
use lib.ListN.{length, get_or, take, drop}
use Rattle.mesh.specs.declared.element.Pair.{Pair}
use Rattle.mesh.specs.declared.element.Triple.{Triple}
use Rattle.mesh.specs.declared.element.Tet.{Tet}
use Rattle.mesh.specs.declared.star.Index.{Index}
use Rattle.mesh.specs.Sort.{sort, unique}
use Rattle.mesh.specs.inside.Sort.{before, ordered}
use Rattle.mesh.specs.Complex.{mem, Nodup}
use Rattle.mesh.specs.Tests.{every, nodup, under, any}
use Rattle.mesh.specs.Element.{tet, vertices_of, has_all}
use Rattle.mesh.specs.Intake.{well_numbered}
use Rattle.mesh.specs.Measure.{Measure}
use Rattle.mesh.proofs.Laws.Complex.Sets.{and-fst, mem-here, mem-there, out-head, out-tail, nope, clash}
use Rattle.mesh.proofs.Laws.Link.Members.{kept-elim}
use Rattle.repair.specs.declared.flip.counts.Tried.{Tried}
use Rattle.repair.specs.Flip.{State, slot_has, live, numbers_with, elements_at, emptied, besides, oriented, accepted, replace, three_to_two, try_edge}
use Rattle.repair.specs.inside.Layout.{Same}
use Rattle.repair.specs.inside.flip.Layout.{SlotsStand, Kept, EdgesBound, triple_at}
use Rattle.repair.specs.inside.flip.Tries.{Holds, Went, Old, EdgeListed, edge_row}
use Rattle.repair.specs.inside.improve.Collapse.{slot_at}
use Rattle.repair.specs.inside.flip.ThreeToTwo.{three_in, others_of, ListedAt}
use Rattle.repair.proofs.Laws.Same.{same-trans}
use Rattle.repair.proofs.Laws.Site.Near.{kept-rising}
use Rattle.repair.proofs.Laws.Flip.Slots.{elements-with, live-some}
use Rattle.repair.proofs.Laws.Flip.Edge.{besides-out, set-mem, set-rises, three-rise}
use Rattle.repair.proofs.Laws.Flip.Layout.{area-long, slots-many, stands-kept, kept-area, kept_trans}
use Rattle.repair.proofs.Laws.Flip.Bound.{edges_room, edges-turn}
use Rattle.repair.proofs.Laws.Flip.Numbered.{well-made}
use Rattle.repair.proofs.Laws.Flip.Others.{besides-elim, words-three}
use Rattle.repair.proofs.Laws.Flip.Held.{number-held, live-well}
use Rattle.mesh.proofs.Laws.Complex.Tests.{under-sound}

module _ {x : Index} {n : ℕ} {t : Tried} {w : List ℕ} {s : State} (μ : Measure) (e : Pair) (h : Holds x n t w s) (l : EdgeListed x.vertices e) (b : EdgesBound n s.slots) where
  -- the numbers of the edge's elements
  abbrev is : List ℕ
  is = numbers_with (edge_row e) s.slots

  -- their other vertices
  abbrev others : List ℕ
  others = unique eqb (sort leb (besides (edge_row e) (elements_at s.slots is)))

  -- the first vertex of the edge is one
  first : e.a < x.vertices
  first = let y = l.0 in let z = l.1 in omega arith

  -- the search for the edge's elements, in any state
  abbrev Finds : List ℕ → ℕ → Type 0
  Finds v k = (m c : ℕ) (r : State) → SlotsStand x m c w r → e.a < x.vertices → e.b < x.vertices
      → (k ≡ length (numbers_with (edge_row e) r.slots)) × (take k (drop x.area v) ≡ numbers_with (edge_row e) r.slots) × Same w v x.area (length w)

  -- the turn by its tests
  abbrev turn : Bool → List ℕ → State
  turn q o = cond (q && eqb (length o) 3) (three_to_two μ s e is (get_or o 0 0) (get_or o 1 0) (get_or o 2 0)) s

  turn_is : try_edge μ s e ≡ turn (eqb (length is) 3) others
  unfolding try_edge
  turn_is = refl

  -- nothing is done
  stays : {v : List ℕ} → Same w v x.area (length w) → try_edge μ s e ≡ s → Went x n (EdgesBound n) w v t (try_edge μ s e)
  stays {v} k q = subst (Went x n (EdgesBound n) w v t) (sym q) (record { holds = record { stands = stands-kept h.stands k; flips = h.flips }; kept = kept-area k; room = b })

  -- not three elements
  pub edge_few : {v : List ℕ} {k : ℕ} → Finds v k → (k ≡ 3 → ⊥) → Went x n (EdgesBound n) w v t (try_edge μ s e)
  edge_few find d =
      let y = find n t.slots s h.stands first l.1 in
      stays y.2 (turn_is ∙ ap (λ (q : Bool). turn q others) (ne_eqb (length is) 3 (λ q. d (y.0 ∙ q))))

  module _ {v : List ℕ} {k : ℕ} (find : Finds v k) (k3 : k ≡ 3) {p : Triple} (ep : p ≡ triple_at v x.area) {old : List Tet} (eo : old ≡ three_in x v p) where
    abbrev ta : Tet
    ta = slot_at x v p.a

    abbrev tb : Tet
    tb = slot_at x v p.b

    abbrev tc : Tet
    tc = slot_at x v p.c

    found : (k ≡ length is) × (take k (drop x.area v) ≡ is) × Same w v x.area (length w)
    found = find n t.slots s h.stands first l.1

    three : is ≡ p.a ∷ p.b ∷ p.c ∷ []
    three = words-three is v x.area k found.0 found.1 k3 p ep

    there : SlotsStand x n t.slots v s
    there = stands-kept h.stands found.2

    -- the area has room for the vertices
    area-room : x.area + 24 ≤ length v
    area-room = let l = area-long there.room in omega arith

    at_a : get_or s.slots p.a none ≡ some ta
    at_a = number-held there (edge_row e) p.a (ap (mem p.a) three ∙ mem-here p.a (p.b ∷ p.c ∷ []))

    at-b : get_or s.slots p.b none ≡ some tb
    at-b =
        number-held there (edge_row e) p.b (ap (mem p.b) three ∙ mem-there p.b p.a (p.b ∷ p.c ∷ []) (mem-here p.b (p.c ∷ [])))

    at_c : get_or s.slots p.c none ≡ some tc
    at_c =
        number-held there (edge_row e) p.c (ap (mem p.c) three ∙ mem-there p.c p.a (p.b ∷ p.c ∷ []) (mem-there p.c p.b (p.c ∷ []) (mem-here p.c [])))

    all_three : map (λ i. get_or s.slots i none) (p.a ∷ p.b ∷ p.c ∷ []) ≡ map some old
    all_three = rw (eo, at_a, at-b, at_c) refl

    elements : elements_at s.slots is ≡ old
    unfolding live
    elements = ap (elements_at s.slots) three ∙ ap live all_three ∙ live-some old

    others-are : others ≡ others_of e old
    unfolding others_of
    others-are = ap (λ (l : List Tet). unique eqb (sort leb (besides (edge_row e) l))) elements

    apart : Nodup (p.a ∷ p.b ∷ p.c ∷ [])
    apart = three-rise p.a p.b p.c (subst (λ (l : List ℕ). ordered (before leb) l ≡ true) three (kept-rising (λ i. slot_has (edge_row e) (get_or s.slots i none)) 0 (length s.slots)))

    b-a : p.b ≡ p.a → ⊥
    b-a q = out-head p.a p.b (p.c ∷ []) apart.0 (sym q)

    c-a : p.c ≡ p.a → ⊥
    c-a q = out-head p.a p.c [] (out-tail p.a p.b (p.c ∷ []) apart.0) (sym q)

    c-b : p.c ≡ p.b → ⊥
    c-b q = out-head p.b p.c [] apart.1.0 (sym q)

    module _ {u : List ℕ} {m : ℕ} (list : x.area + 24 ≤ length v → ListedAt x.area (others_of e old) v u m) where
      listed : ListedAt x.area (others_of e old) v u m
      listed = list area-room

      same-all : Same w u x.area (length w)
      same-all = same-trans found.2 (subst (λ (i : ℕ). Same v u x.area i) found.2.long listed.same)

      is-three : eqb (length is) 3 ≡ true
      is-three = eq-eqb (length is) 3 (sym found.0 ∙ k3)

      -- not three other vertices
      pub edge-others : (m ≡ 3 → ⊥) → Went x n (EdgesBound n) w u t (try_edge μ s e)
      edge-others d =
          stays same-all (turn_is ∙ ap₂ (λ (q r : Bool). cond (q && r) (three_to_two μ s e is (get_or others 0 0) (get_or others 1 0) (get_or others 2 0)) s) is-three
          (ne_eqb (length others) 3 (λ q. d (listed.count ∙ ap length (sym others-are) ∙ q))))

      module _ (m3 : m ≡ 3) {f : Triple} (ef : f ≡ triple_at u x.area) {q : Bool} (search : (m c : ℕ) (r : State) → SlotsStand x m c u r → f.a < x.vertices → f.b < x.vertices → q ≡ any (slot_has (f.a ∷ f.b ∷ f.c ∷ [])) r.slots) where
        abbrev face : List ℕ
        face = f.a ∷ f.b ∷ f.c ∷ []

        face-is : others ≡ face
        face-is = others-are ∙ words-three (others_of e old) u x.area m listed.count listed.words m3 f ef

        turn-face : try_edge μ s e ≡ three_to_two μ s e is f.a f.b f.c
        turn-face = turn_is ∙ ap₂ (λ (q : Bool) (o : List ℕ). turn q o) is-three face-is

        -- the vertices of the face are other vertices of elements
        face-mem : (y : ℕ) → mem y face ≡ true → mem y (besides (edge_row e) (elements_at s.slots is)) ≡ true
        face-mem y i = sym (set-mem y (besides (edge_row e) (elements_at s.slots is))) ∙ ap (mem y) face-is ∙ i

        below : (y : ℕ) → mem y face ≡ true → y < x.vertices
        below y i =
            let r = besides-elim (edge_row e) (elements_at s.slots is) y (face-mem y i) in
            let k₁ = kept-elim (has_all (edge_row e)) (live s.slots) (subst (Memᴰ r.0) (elements-with (edge_row e) s.slots) r.1) in
            let g = live-well h.stands r.0 k₁.0 in
            under-sound x.vertices (vertices_of r.0) (and-fst (under x.vertices (vertices_of r.0)) (nodup (vertices_of r.0)) g) y r.2

        first_below : f.a < x.vertices
        first_below = below f.a (mem-here f.a (f.b ∷ f.c ∷ []))

        second_below : f.b < x.vertices
        second_below = below f.b (mem-there f.b f.a (f.b ∷ f.c ∷ []) (mem-here f.b (f.c ∷ [])))

        third-below : f.c < x.vertices
        third-below = below f.c (mem-there f.c f.a (f.b ∷ f.c ∷ []) (mem-there f.c f.b (f.c ∷ []) (mem-here f.c [])))

        after : SlotsStand x n t.slots u s
        after = stands-kept h.stands same-all

        -- whether a live element has the face
        searched : q ≡ any (slot_has face) s.slots
        searched = search n t.slots s after first_below second_below

        -- a live element has the face
        pub edge-taken : q ≡ true → Went x n (EdgesBound n) w u t (try_edge μ s e)
        edge-taken g = stays same-all (turn-face ∙ ap (λ (y : Bool). cond y s (replace μ s is (tet f.a f.b f.c e.a ∷ tet f.a f.b f.c e.b ∷ []))) (sym searched ∙ g))

        -- the candidates
        abbrev two : List Tet
        two = tet f.a f.b f.c e.a ∷ tet f.a f.b f.c e.b ∷ []

        rises : Nodup face
        rises = three-rise f.a f.b f.c (subst (λ (o : List ℕ). ordered (before leb) o ≡ true) face-is (set-rises (besides (edge_row e) (elements_at s.slots is))))

        outside : (y : ℕ) → mem y (edge_row e) ≡ true → mem y face ≡ false
        outside y i = nope (λ j. clash i (besides-out (edge_row e) (elements_at s.slots is) y (face-mem y j)))

        two-well : every (well_numbered x.vertices) two ≡ true
        two-well =
            rw (
              well-made x.vertices f.a f.b f.c e.a rises first_below second_below third-below first (outside e.a (mem-here e.a (e.b ∷ []))),
              well-made x.vertices f.a f.b f.c e.b rises first_below second_below third-below l.1 (outside e.b (mem-there e.b e.a (e.b ∷ []) (mem-here e.b []))),
            ) refl

        -- room for the trials to come
        bound : EdgesBound n (replace μ s (p.a ∷ p.b ∷ p.c ∷ []) two).slots
        unfolding replace
        bound = go (accepted μ (elements_at s.slots (p.a ∷ p.b ∷ p.c ∷ [])) (map (oriented μ) two))
          where
            go : (q : Bool) → EdgesBound n (cond q (record { slots = emptied (p.a ∷ p.b ∷ p.c ∷ []) s.slots ++ map some (map (oriented μ) two); flips = s.flips + 1 }) s).slots
            go true = edges-turn n s.slots b p.a p.b p.c b-a c-a c-b ta tb tc at_a at-b at_c (map (oriented μ) two) refl
            go false = b

        -- the candidates take the place of the elements where they are accepted
        pub edge-flipped : q ≡ false → {new : List Tet} → new ≡ two → {r : Tried} {y : List ℕ}
            → (Holds x n t u s → Old (p.a ∷ p.b ∷ p.c ∷ []) old s → every (well_numbered x.vertices) new ≡ true → t.slots + length new ≤ x.room
            → Holds x n r y (replace μ s (p.a ∷ p.b ∷ p.c ∷ []) new) × Kept x u y)
            → Went x n (EdgesBound n) w y r (try_edge μ s e)
        edge-flipped g {new} en {r} {y} give =
            let room : t.slots + length new ≤ x.room =
            (let k₁ = ap length en in let k₂ = edges_room n s.slots b p.a p.b p.c b-a c-a c-b ta tb tc at_a at-b at_c in let k₃ = slots-many h.stands in let k₄ = h.stands.room.room in omega arith) in
            let z = give (record { stands = after; flips = h.flips }) all_three (ap (every (well_numbered x.vertices)) en ∙ two-well) room in
            let made : replace μ s (p.a ∷ p.b ∷ p.c ∷ []) new ≡ replace μ s (p.a ∷ p.b ∷ p.c ∷ []) two = ap (replace μ s (p.a ∷ p.b ∷ p.c ∷ [])) en in
            let same : try_edge μ s e ≡ replace μ s (p.a ∷ p.b ∷ p.c ∷ []) two =
            turn-face ∙ ap (λ (c : Bool). cond c s (replace μ s is two)) (sym searched ∙ g) ∙ ap (λ (i : List ℕ). replace μ s i two) three in
            subst (Went x n (EdgesBound n) w y r) (sym same) (record {
              holds = subst (Holds x n r y) made z.0;
              kept = kept_trans (kept-area same-all) z.1;
              room = bound;
            })
