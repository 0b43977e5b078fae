-- A collapse of a into b under the link condition keeps the elements in one orientation, and so does renumbering. Say that x v w has the
-- apex p before, y v w the apex q, and both become u v w. If x and y are the same, so are p and q. Else they are a and b, and a b v w is
-- an element, which dies: a is an apex of b v w, so that q is a, or b one of a v w, so that p is b; but the elements that stay have not
-- both a and b. Assumes nothing.
use mathlib.Core.Path.{◌≡◌, refl, sym, ap, subst, ◌∙◌}
use mathlib.Core.Logic.{◌≢◌, ◌⊎◌, inl, inr}
use mathlib.Core.Bool.{true, not, ◌&&◌}
use mathlib.Core.List.Memᴰ
use mathlib.Core.List.{List, [], ◌∷◌, map, Memᴰ, cons≢nil}
use Prim.Native.Nat.{ℕ}
use borrow.Author.Tests.{eqb-true, eqb-false, not-true}
use lib.Dec.{eqb}
use Rattle.mesh.specs.declared.element.Tet.{Tet}
use Rattle.mesh.specs.Complex.{mem, within}
use Rattle.mesh.specs.Tests.{nodup}
use Rattle.mesh.specs.inside.Moves.{Collapsible}
use Rattle.mesh.specs.Feature.{onto}
use Rattle.mesh.specs.Element.{pair, vertices_of}
use Rattle.mesh.proofs.Laws.Complex.Sets.{split, clash, mem-nil, out, Sub-cons, within-elim, within-intro}
use Rattle.mesh.proofs.Laws.Link.Keys.{Fours}
use Rattle.mesh.proofs.Laws.Link.Labels.{onto-other, onto-a}
use Rattle.mesh.proofs.Laws.Link.Members.{kept-elim}
use Rattle.repair.specs.Improve.{image_of, collapsed}
use Rattle.repair.proofs.Laws.Improve.Collapse.{nodup-onto, merged, collapsed-merged}
use Rattle.theorems.proofs.Collapse.Turns.{Turns, turn, cross, One, first, second, third, fourth, one-mem, mem-one, back, Different, nodup-different, turned-different, either, origin}
use Rattle.theorems.proofs.Collapse.Oriented.{Apex, Oriented}

-- two vertices with one image are the same, or a and b
onto_same : (a b x y : ℕ) → onto a b x ≡ onto a b y → (x ≡ y) ⊎ (((x ≡ a) × (y ≡ b)) ⊎ ((x ≡ b) × (y ≡ a)))
onto_same a b x y e = elim (split (eqb x a)) [
  | inl h ↦ elim (split (eqb y a)) [
    | inl k ↦ inl (eqb-true x a h ∙ sym (eqb-true y a k))
    | inr k ↦ let p = eqb-true x a h in inr (inl (p, sym (onto-other a b y (eqb-false y a k)) ∙ (sym e ∙ (ap (onto a b) p ∙ onto-a a b))))
  ]
  | inr h ↦ elim (split (eqb y a)) [
    | inl k ↦ let q = eqb-true y a k in inr (inr (sym (onto-other a b x (eqb-false x a h)) ∙ (e ∙ (ap (onto a b) q ∙ onto-a a b)), q))
    | inr k ↦ inl (sym (onto-other a b x (eqb-false x a h)) ∙ (e ∙ onto-other a b y (eqb-false y a k)))
  ]
]

-- the vertices u v w of a face lie within the elements
apex-within : {ts : List Tet} {p u v w : ℕ} → Apex ts p u v w → within (u ∷ v ∷ w ∷ []) (map vertices_of ts) ≡ true
apex-within {ts} {p} {u} {v} {w} x =
    let e = vertices_of x.element in
    within-intro (u ∷ v ∷ w ∷ []) (Memᴰ.map vertices_of x.there)
    (Sub-cons u (v ∷ w ∷ []) e (one-mem (back x.turns (second refl))) (Sub-cons v (w ∷ []) e (one-mem (back x.turns (third refl))) (Sub-cons w [] e (one-mem (back x.turns (fourth refl))) (λ z m. absurd (mem-nil z m)))))

abbrev turn-apex : {ts : List Tet} {p u v w : ℕ} → Apex ts p u v w → Apex ts p v w u
turn-apex x = record { element = x.element; there = x.there; turns = turn x.turns }

-- a face of an element's image is the image of a face
record Came (ρ : ℕ → ℕ) (ts : List Tet) (t : Tet) (p' u' v' w' : ℕ) : Type 0 where
  p : ℕ
  u : ℕ
  v : ℕ
  w : ℕ
  apex : Apex ts p u v w
  image : image_of ρ apex.element ≡ t
  at_p : p' ≡ ρ p
  at-u : u' ≡ ρ u
  at-v : v' ≡ ρ v
  at-w : w' ≡ ρ w

came : (ρ : ℕ → ℕ) (ts : List Tet) (t : Tet) → Memᴰ t (map (image_of ρ) ts) → {p u v w : ℕ} → Turns t.a t.b t.c t.d p u v w → Came ρ ts t p u v w
came ρ ts t m {p} {u} {v} {w} s =
    let r = Memᴰ.of_map (image_of ρ) ts m in
    let i = r.0 in
    let k = origin ρ i.a i.b i.c i.d (subst (λ (j : Tet). Turns j.a j.b j.c j.d p u v w) (sym r.2) s) in
    record {
      p = k.p;
      u = k.u;
      v = k.v;
      w = k.w;
      apex = record { element = i; there = r.1; turns = k.turns };
      image = r.2;
      at_p = k.at_p;
      at-u = k.at-u;
      at-v = k.at-v;
      at-w = k.at-w;
    }

-- one face has one apex
same-apex : (ts : List Tet) → Oriented ts → {p q u v w u' v' w' : ℕ} → Apex ts p u v w → Apex ts q u' v' w' → u ≡ u' → v ≡ v' → w ≡ w' → p ≡ q
same-apex ts o {p} {q} {u} {v} {w} x y eu ev ew = o p q u v w x (rw (eu, ev, ew) y)

module _ (a b : ℕ) (ts : List Tet) (F : Fours ts) (c : Collapsible a b (map vertices_of ts)) (o : Oriented ts) where
  different : {p u v w : ℕ} → Apex ts p u v w → Different p u v w
  different x = let t = x.element in turned-different x.turns (nodup-different t.a t.b t.c t.d (F t x.there))

  -- the element stays
  abbrev Stays : {p u v w : ℕ} → Apex ts p u v w → Type 0
  Stays x = mem a (vertices_of x.element) ≡ true → mem b (vertices_of x.element) ≡ true → ⊥

  -- a v w and b v w are not both faces of elements that stay
  pinch : (p q v w : ℕ) (x : Apex ts p a v w) (y : Apex ts q b v w) → Stays x → Stays y → ⊥
  pinch p q v w x y sx sy =
      let dx = different x in
      let dy = different y in
      let W = c.link (v ∷ w ∷ []) cons≢nil (out a v (w ∷ []) dx.uv (out a w [] dx.uw refl)) (out b v (w ∷ []) dy.uv (out b w [] dy.uw refl)) (apex-within x) (apex-within y) in
      let r = within-elim (a ∷ b ∷ v ∷ w ∷ []) (map vertices_of ts) W in
      let k = Memᴰ.of_map vertices_of ts r.1 in
      let t = k.0 in
      let has : (z : ℕ) → One z a b v w → One z t.a t.b t.c t.d = λ z i. mem-one z t.a t.b t.c t.d (subst (λ e. mem z e ≡ true) (sym k.2) (r.2 z (one-mem i))) in
      let d : Different a b v w = record { pu = c.differ; pv = dx.uv; pw = dx.uw; uv = dy.uv; uw = dy.uw; vw = dx.vw } in
      elim (either t.a t.b t.c t.d a b v w d (has a (first refl)) (has b (second refl)) (has v (third refl)) (has w (fourth refl))) [
        | inl s ↦
            let e : a ≡ q = o a q b v w (record { element = t; there = k.1; turns = s }) y in
            sy (one-mem (back y.turns (first e))) (one-mem (back y.turns (second refl)))
        | inr s ↦
            let e : b ≡ p = o b p a v w (record { element = t; there = k.1; turns = cross s }) x in
            sx (one-mem (back x.turns (second refl))) (one-mem (back x.turns (first e)))
      ]

  -- so faces of elements that stay with one image have the same first vertex
  same_first : {p q u v w u' v' w' : ℕ} (x : Apex ts p u v w) (y : Apex ts q u' v' w') → Stays x → Stays y → onto a b u ≡ onto a b u' → onto a b v ≡ onto a b v' → onto a b w ≡ onto a b w' → u ≡ u'
  same_first {p} {q} {u} {v} {w} {u'} {v'} {w'} x y sx sy eu ev ew = elim (onto_same a b u u' eu) [
    | inl e ↦ e
    | inr r ↦ elim r [ inl s ↦ absurd (never x y sx sy s.0 s.1 ev ew) | inr s ↦ absurd (never y x sy sx s.1 s.0 (sym ev) (sym ew)) ]
  ]
    where
      never : {p q u v w u' v' w' : ℕ} (x : Apex ts p u v w) (y : Apex ts q u' v' w') → Stays x → Stays y → u ≡ a → u' ≡ b → onto a b v ≡ onto a b v' → onto a b w ≡ onto a b w' → ⊥
      never {p} {q} {u} {v} {w} {u'} {v'} {w'} x y sx sy ea eb ev ew =
          let dx = different x in
          let own : (z : ℕ) → u ≢ z → onto a b z ≡ z = λ z n. onto-other a b z (λ e. n (ea ∙ sym e)) in
          let other : (z : ℕ) → One z q u' v' w' → onto a b z ≡ z = λ z i. onto-other a b z (λ e. sy (subst (λ k. mem k (vertices_of y.element) ≡ true) e (one-mem (back y.turns i))) (one-mem (back y.turns (second (sym eb))))) in
          let v-same : v ≡ v' = sym (own v dx.uv) ∙ (ev ∙ other v' (third refl)) in
          let w-same : w ≡ w' = sym (own w dx.uw) ∙ (ew ∙ other w' (fourth refl)) in
          pinch p q v' w'
          (record { element = x.element; there = x.there; turns = moved x.turns ea v-same w-same })
          (record { element = y.element; there = y.there; turns = moved y.turns eb refl refl })
          sx sy
        where
          moved : {t : Tet} {p u v w u' v' w' : ℕ} → Turns t.a t.b t.c t.d p u v w → u ≡ u' → v ≡ v' → w ≡ w' → Turns t.a t.b t.c t.d p u' v' w'
          moved s e f g = rw (← e, ← f, ← g) s

  -- where a face of the collapsed elements comes from: of an element that stays
  from : {p u v w : ℕ} (x : Apex (merged a b ts) p u v w) → (f : Came (onto a b) ts x.element p u v w) × Stays f.apex
  from x =
      let k = kept-elim (λ t. nodup (vertices_of t)) (map (image_of (onto a b)) ts) x.there in
      let f = came (onto a b) ts x.element k.0 x.turns in
      let e = vertices_of f.apex.element in
      let d : nodup (map (onto a b) e) ≡ true = subst (λ (t : Tet). nodup (vertices_of t) ≡ true) (sym f.image) k.1 in
      let g : not (mem a e && mem b e) ≡ true = sym (nodup-onto a b c.differ e (F f.apex.element f.apex.there)) ∙ d in
      (f, λ ha hb. clash (rw (ha, hb) refl) (not-true (mem a e && mem b e) g))

  oriented-merged : Oriented (merged a b ts)
  oriented-merged p q u v w x y =
      let f = (from x).0 in
      let g = (from y).0 in
      let sf = (from x).1 in
      let sg = (from y).1 in
      let eu = sym f.at-u ∙ g.at-u in
      let ev = sym f.at-v ∙ g.at-v in
      let ew = sym f.at-w ∙ g.at-w in
      let u_same : f.u ≡ g.u = same_first f.apex g.apex sf sg eu ev ew in
      let v-same : f.v ≡ g.v = same_first (turn-apex f.apex) (turn-apex g.apex) sf sg ev ew eu in
      let w-same : f.w ≡ g.w = same_first (turn-apex (turn-apex f.apex)) (turn-apex (turn-apex g.apex)) sf sg ew eu ev in
      f.at_p ∙ (ap (onto a b) (same-apex ts o f.apex g.apex u_same v-same w-same) ∙ sym g.at_p)

  -- a collapse keeps the orientation
  pub oriented-collapsed : Oriented (collapsed (pair a b ∷ []) ts)
  oriented-collapsed = subst Oriented (sym (collapsed-merged a b ts)) oriented-merged

-- new numbers, different ones for different vertices, keep it too
pub oriented-renumbered : (ρ : ℕ → ℕ) (ts : List Tet) → ((x y : ℕ) → within (x ∷ []) (map vertices_of ts) ≡ true → within (y ∷ []) (map vertices_of ts) ≡ true → ρ x ≡ ρ y → x ≡ y) → Oriented ts → Oriented (map (image_of ρ) ts)
oriented-renumbered ρ ts apart o p q u v w x y =
    let f = came ρ ts x.element x.there x.turns in
    let g = came ρ ts y.element y.there y.turns in
    let u_same : f.u ≡ g.u = apart f.u g.u (used f.apex (second refl)) (used g.apex (second refl)) (sym f.at-u ∙ g.at-u) in
    let v-same : f.v ≡ g.v = apart f.v g.v (used f.apex (third refl)) (used g.apex (third refl)) (sym f.at-v ∙ g.at-v) in
    let w-same : f.w ≡ g.w = apart f.w g.w (used f.apex (fourth refl)) (used g.apex (fourth refl)) (sym f.at-w ∙ g.at-w) in
    f.at_p ∙ (ap ρ (same-apex ts o f.apex g.apex u_same v-same w-same) ∙ sym g.at_p)
  where
    used : {p u v w z : ℕ} (x : Apex ts p u v w) → One z p u v w → within (z ∷ []) (map vertices_of ts) ≡ true
    used {z} x i = within-intro (z ∷ []) (Memᴰ.map vertices_of x.there) (Sub-cons z [] (vertices_of x.element) (one-mem (back x.turns i)) (λ k m. absurd (mem-nil k m)))
