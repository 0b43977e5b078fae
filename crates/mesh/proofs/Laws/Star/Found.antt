-- What the index finds is what the scan finds: `star-found`, `neighbours-found`. Assumes nothing.
use Rattle.std.proofs.Common.{◌≡◌, ℕ, ◌+◌, ◌*◌, ◌/◌, ◌<◌, ◌≤◌, Bool, true, cond, ◌||◌, eqb, ◌≢◌, ◌⊎◌, List, [], ◌∷◌, length, get_or, drop, sym, ap, ◌∙◌, subst, inl, inr, arith, get_or-drop, eq-eqb, eqb-true}
use borrow.Author.Tests.{eqb-false}
use Rattle.mesh.specs.declared.element.Tet.{Tet}
use Rattle.mesh.specs.declared.star.Index.{Index}
use Rattle.mesh.specs.Complex.{mem}
use Rattle.mesh.specs.Element.{tets, vertices_of, has}
use Rattle.mesh.specs.inside.Star.{star_of, gone_tet, but_for, others_of, neighbours_of, gather, corner_at, corners_at, chain_length, chain_of, slot_if, others_if, Indexed, Chains, Laid, second, slots_met, slots_about, star_room, star_list, others_met, neighbour_room, neighbour_list}
use Rattle.mesh.proofs.Laws.Complex.Sets.{split, same, or_cases, or_left, or_right, mem-here, mem-there, mem-cases, mem-nil}
use Rattle.mesh.proofs.Laws.Star.Layout.{room-yes}
use Rattle.mesh.proofs.Laws.Star.Chains.{mem-left, mem-right, mem-either, length_none, chain-none, one-short, two-short}
use Rattle.mesh.proofs.Laws.Star.Distinct.{distinct-is, distinct-same}
use Rattle.mesh.proofs.Laws.Star.Scan.{star-out, star-in, star-rising, tets-vertices, others-out, others-in}
use Rattle.mesh.proofs.Laws.Intake.Reads.{length-tets}

pub gather-out : (f : ℕ → List ℕ) (ps : List ℕ) (e : ℕ) → mem e (gather f ps) ≡ true → (p : ℕ) × (mem p ps ≡ true) × (mem e (f p) ≡ true)
unfolding gather
gather-out f [] e m = absurd (mem-nil e m)
gather-out f (p ∷ ps) e m =
    elim (mem-either e (f p) (gather f ps) m) [
      | inl a ↦ (p, mem-here p ps, a)
      | inr a ↦ let r = gather-out f ps e a in (r.0, mem-there r.0 p ps r.1, r.2)
    ]

pub gather-in : (f : ℕ → List ℕ) (ps : List ℕ) (p e : ℕ) → mem p ps ≡ true → mem e (f p) ≡ true → mem e (gather f ps) ≡ true
unfolding gather
gather-in f [] p e m a = absurd (mem-nil p m)
gather-in f (q ∷ ps) p e m a =
    elim (mem-cases p q ps m) [
      | inl z ↦ mem-left e (f q) (gather f ps) (subst (λ (y : ℕ). mem e (f y) ≡ true) z a)
      | inr n ↦ mem-right e (f q) (gather f ps) (gather-in f ps p e n a)
    ]

module _ (x : Index) (s : List ℕ) where
  -- ---- corners

  pub corner-out : (v e : ℕ) → mem v (corners_at x s e) ≡ true → (p : ℕ) × (p / 4 ≡ e) × (corner_at x s p ≡ v)
  corner-out v e m =
      let a = corner_at x s (4 * e) in
      let b = corner_at x s (4 * e + 1) in
      let c = corner_at x s (4 * e + 2) in
      let d = corner_at x s (4 * e + 3) in
      elim (mem-cases v a (b ∷ c ∷ d ∷ []) m) [
        | inl q ↦ (4 * e, omega arith, sym q)
        | inr m₁ ↦ elim (mem-cases v b (c ∷ d ∷ []) m₁) [
          | inl q ↦ (4 * e + 1, omega arith, sym q)
          | inr m₂ ↦ elim (mem-cases v c (d ∷ []) m₂) [
            | inl q ↦ (4 * e + 2, omega arith, sym q)
            | inr m₃ ↦ elim (mem-cases v d [] m₃) [ inl q ↦ (4 * e + 3, omega arith, sym q) | inr m₄ ↦ absurd (mem-nil v m₄) ]
          ]
        ]
      ]

  pub corner-in : (p : ℕ) → mem (corner_at x s p) (corners_at x s (p / 4)) ≡ true
  corner-in p =
      let e = p / 4 in
      let a = corner_at x s (4 * e) in
      let b = corner_at x s (4 * e + 1) in
      let c = corner_at x s (4 * e + 2) in
      let d = corner_at x s (4 * e + 3) in
      let at : (q : ℕ) → mem (corner_at x s q) (corners_at x s e) ≡ true → p ≡ q → mem (corner_at x s p) (corners_at x s e) ≡ true =
      λ q m z. subst (λ (y : ℕ). mem (corner_at x s y) (corners_at x s e) ≡ true) (sym z) m in
      elim (split (eqb p (4 * e))) [
        | inl h ↦ at (4 * e) (mem-here a (b ∷ c ∷ d ∷ [])) (eqb-true p (4 * e) h)
        | inr n ↦ elim (split (eqb p (4 * e + 1))) [
          | inl h ↦ at (4 * e + 1) (mem-there b a (b ∷ c ∷ d ∷ []) (mem-here b (c ∷ d ∷ []))) (eqb-true p (4 * e + 1) h)
          | inr n₁ ↦ elim (split (eqb p (4 * e + 2))) [
            | inl h ↦ at (4 * e + 2) (mem-there c a (b ∷ c ∷ d ∷ []) (mem-there c b (c ∷ d ∷ []) (mem-here c (d ∷ [])))) (eqb-true p (4 * e + 2) h)
            | inr n₂ ↦
                let m = mem-there d a (b ∷ c ∷ d ∷ []) (mem-there d b (c ∷ d ∷ []) (mem-there d c (d ∷ []) (mem-here d []))) in
                at (4 * e + 3) m (last p (eqb-false p (4 * e) n) (eqb-false p (4 * e + 1) n₁) (eqb-false p (4 * e + 2) n₂))
          ]
        ]
      ]
    where
      last : (p : ℕ) → p ≢ 4 * (p / 4) → p ≢ 4 * (p / 4) + 1 → p ≢ 4 * (p / 4) + 2 → p ≡ 4 * (p / 4) + 3
      last p a b c = omega arith

  -- the element e of the slots has the corners of the slot e
  pub slot-vertices : (n e : ℕ) → e < n → vertices_of (get_or (tets n (drop x.slots s)) e gone_tet) ≡ corners_at x s e
  slot-vertices n e h =
      tets-vertices n (drop x.slots s) e gone_tet h
      ∙ rw (get_or-drop x.slots s (4 * e) 0, get_or-drop x.slots s (4 * e + 1) 0, get_or-drop x.slots s (4 * e + 2) 0, get_or-drop x.slots s (4 * e + 3) 0)

  -- ---- entries where v stands

  met-out : (v e : ℕ) → mem e (slots_met x s v) ≡ true → (p : ℕ) × (mem p (chain_of x s v) ≡ true) × (corner_at x s p ≡ v) × (e ≡ p / 4)
  unfolding slots_met slot_if
  met-out v e m =
      let r = gather-out (slot_if x s v) (chain_of x s v) e m in
      let p = r.0 in
      elim (split (eqb (corner_at x s p) v)) [
        | inl h ↦
            let a : mem e (p / 4 ∷ []) ≡ true = subst (λ (b : Bool). mem e (cond b (p / 4 ∷ []) []) ≡ true) h r.2 in
            (p, r.1, eqb-true (corner_at x s p) v h, elim (mem-cases e (p / 4) [] a) [ inl q ↦ q | inr n ↦ absurd (mem-nil e n) ])
        | inr h ↦ absurd (mem-nil e (subst (λ (b : Bool). mem e (cond b (p / 4 ∷ []) []) ≡ true) h r.2))
      ]

  met-in : (v p : ℕ) → mem p (chain_of x s v) ≡ true → corner_at x s p ≡ v → mem (p / 4) (slots_met x s v) ≡ true
  unfolding slots_met slot_if
  met-in v p m e = gather-in (slot_if x s v) (chain_of x s v) p (p / 4) m (rw (eq-eqb (corner_at x s p) v e) (mem-here (p / 4) []))

  others-met-out : (v u : ℕ) → mem u (others_met x s v) ≡ true → (p : ℕ) × (mem p (chain_of x s v) ≡ true) × (corner_at x s p ≡ v) × (mem u (but_for v (corners_at x s (p / 4))) ≡ true)
  unfolding others_met others_if
  others-met-out v u m =
      let r = gather-out (others_if x s v) (chain_of x s v) u m in
      let p = r.0 in
      elim (split (eqb (corner_at x s p) v)) [
        | inl h ↦ (p, r.1, eqb-true (corner_at x s p) v h, subst (λ (b : Bool). mem u (cond b (but_for v (corners_at x s (p / 4))) []) ≡ true) h r.2)
        | inr h ↦ absurd (mem-nil u (subst (λ (b : Bool). mem u (cond b (but_for v (corners_at x s (p / 4))) []) ≡ true) h r.2))
      ]

  others-met-in : (v u p : ℕ) → mem p (chain_of x s v) ≡ true → corner_at x s p ≡ v → mem u (but_for v (corners_at x s (p / 4))) ≡ true → mem u (others_met x s v) ≡ true
  unfolding others_met others_if
  others-met-in v u p m e a =
      gather-in (others_if x s v) (chain_of x s v) p u m (subst (λ (b : Bool). mem u (cond b (but_for v (corners_at x s (p / 4))) []) ≡ true) (sym (eq-eqb (corner_at x s p) v e)) a)

  -- ---- an index of n slots

  module _ (n : ℕ) (c : Chains x s (4 * n)) where
    abbrev elements : List Tet
    elements = tets n (drop x.slots s)

    has-at : (v e : ℕ) → e < n → has v (get_or elements e gone_tet) ≡ mem v (corners_at x s e)
    has-at v e h = ap (mem v) (slot-vertices n e h)

    -- a slot that a walk meets is an element that has the vertex
    pub met_has : (v e : ℕ) → mem e (slots_met x s v) ≡ true → (e < n) × (has v (get_or elements e gone_tet) ≡ true)
    met_has v e m =
        let r = met-out v e m in
        let p = r.0 in
        let b = c.below v p r.1 in
        let q = r.3 in
        let h : e < n = omega arith in
        (h, has-at v e h ∙ subst (λ (y : ℕ). mem v (corners_at x s y) ≡ true) (sym q) (subst (λ (y : ℕ). mem y (corners_at x s (p / 4)) ≡ true) r.2 (corner-in p)))

    -- and the other way round, for a vertex that is indexed
    pub has-met : (v e : ℕ) → Indexed x s (4 * n) v → e < n → has v (get_or elements e gone_tet) ≡ true → mem e (slots_met x s v) ≡ true
    has-met v e i h m =
        let r = corner-out v e (sym (has-at v e h) ∙ m) in
        let p = r.0 in
        let q = r.1 in
        subst (λ (y : ℕ). mem y (slots_met x s v) ≡ true) q (met-in v p (i p (omega arith) r.2) r.2)

    second-cases : (v w : ℕ) → ((v ≡ w) × (second x v w ≡ x.vertices)) ⊎ ((v ≢ w) × (second x v w ≡ w))
    second-cases v w =
        elim (split (eqb v w)) [
          | inl e ↦ inl (eqb-true v w e, ap (λ (b : Bool). cond b x.vertices w) e)
          | inr e ↦ inr (eqb-false v w e, ap (λ (b : Bool). cond b x.vertices w) e)
        ]

    no-slots : (v : ℕ) → x.vertices ≤ v → slots_met x s v ≡ []
    unfolding slots_met gather
    no-slots v h = rw (chain-none x s v (length_none x s v h))

    module _ (v w : ℕ) (l : Laid x (length s)) (fit : x.area + (4 * n + 4 * n) ≤ length s) where
      -- there is room
      pub star-room : star_room x s v w ≡ true
      unfolding star_room
      star-room =
          room-yes x (length s) (chain_length x s v + chain_length x s (second x v w)) l
          (elim (second-cases v w) [
            | inl e ↦ let a = one-short x s (4 * n) c v in let b : chain_length x s (second x v w) ≡ 0 = ap (chain_length x s) e.1 ∙ length_none x s x.vertices (omega arith) in omega arith
            | inr e ↦ let a = two-short x s (4 * n) c v w e.0 in let b : chain_length x s (second x v w) ≡ chain_length x s w = ap (chain_length x s) e.1 in omega arith
          ])

      module _ (iv : Indexed x s (4 * n) v) (iw : Indexed x s (4 * n) w) where
        forth : (e : ℕ) → mem e (slots_about x s v w) ≡ true → mem e (star_of v w elements) ≡ true
        unfolding slots_about
        forth e m =
            let put : (e < n) × ((has v (get_or elements e gone_tet) || has w (get_or elements e gone_tet)) ≡ true) → mem e (star_of v w elements) ≡ true =
            λ r. subst (λ (y : ℕ). mem y (star_of v w elements) ≡ true) (zero-plus e) (star-in v w elements 0 e gone_tet (let h = r.0 in omega (arith, length-tets n (drop x.slots s))) r.1) in
            elim (mem-either e (slots_met x s v) (slots_met x s (second x v w)) m) [
              | inl a ↦ let r = met_has v e a in put (r.0, or_left (has w (get_or elements e gone_tet)) r.1)
              | inr a ↦ elim (second-cases v w) [
                | inl q ↦ absurd (mem-nil e (subst (λ (y : List ℕ). mem e y ≡ true) (ap (slots_met x s) q.1 ∙ no-slots x.vertices (omega arith)) a))
                | inr q ↦
                    let r = met_has w e (subst (λ (y : ℕ). mem e (slots_met x s y) ≡ true) q.1 a) in
                    put (r.0, or_right (has v (get_or elements e gone_tet)) r.1)
              ]
            ]
          where
            zero-plus : (e : ℕ) → 0 + e ≡ e
            zero-plus e = omega arith

        back : (e : ℕ) → mem e (star_of v w elements) ≡ true → mem e (slots_about x s v w) ≡ true
        unfolding slots_about
        back e m =
            let r = star-out v w elements 0 e gone_tet m in
            let d = r.0 in
            let q : d ≡ e = let a = r.1 in omega arith in
            let h : e < n = let a = r.2 in omega (arith, length-tets n (drop x.slots s)) in
            let a : (has v (get_or elements e gone_tet) || has w (get_or elements e gone_tet)) ≡ true =
            subst (λ (y : ℕ). (has v (get_or elements y gone_tet) || has w (get_or elements y gone_tet)) ≡ true) q r.3 in
            elim (or_cases (has v (get_or elements e gone_tet)) (has w (get_or elements e gone_tet)) a) [
              | inl b ↦ mem-left e (slots_met x s v) (slots_met x s (second x v w)) (has-met v e iv h b)
              | inr b ↦ elim (second-cases v w) [
                | inl z ↦ mem-left e (slots_met x s v) (slots_met x s (second x v w)) (has-met v e iv h (subst (λ (y : ℕ). has y (get_or elements e gone_tet) ≡ true) (sym z.0) b))
                | inr z ↦ mem-right e (slots_met x s v) (slots_met x s (second x v w)) (subst (λ (y : ℕ). mem e (slots_met x s y) ≡ true) (sym z.1) (has-met w e iw h b))
              ]
            ]

        -- the star by the index is the star by the scan
        pub star-found : star_list x s v w ≡ star_of v w (tets n (drop x.slots s))
        unfolding star_list
        star-found = rw star-room (distinct-is (slots_about x s v w) (star_of v w elements) (star-rising v w elements 0) (λ e. same (forth e) (back e)))

    -- ---- neighbours

    module _ (v : ℕ) (l : Laid x (length s)) (fit : x.area + (16 * n + 16 * n) ≤ length s) where
      pub neighbour-room : neighbour_room x s v ≡ true
      unfolding neighbour_room
      neighbour-room = room-yes x (length s) (4 * chain_length x s v) l (let a = one-short x s (4 * n) c v in omega arith)

      module _ (iv : Indexed x s (4 * n) v) where
        -- the other vertices by the chain are those by the scan
        same-others : (u : ℕ) → mem u (others_met x s v) ≡ mem u (others_of v elements)
        same-others u =
            same
            (λ m.
            let r = others-met-out v u m in
            let p = r.0 in
            let b = c.below v p r.1 in
            let h : p / 4 < n = omega arith in
            others-in v elements u (p / 4) gone_tet (omega (arith, length-tets n (drop x.slots s)))
            (has-at v (p / 4) h ∙ subst (λ (y : ℕ). mem y (corners_at x s (p / 4)) ≡ true) r.2 (corner-in p))
            (subst (λ (y : List ℕ). mem u (but_for v y) ≡ true) (sym (slot-vertices n (p / 4) h)) r.3))
            (λ m.
            let r = others-out v elements u gone_tet m in
            let e = r.0 in
            let h : e < n = let a = r.1 in omega (arith, length-tets n (drop x.slots s)) in
            let o = corner-out v e (sym (has-at v e h) ∙ r.2) in
            let p = o.0 in
            let q = o.1 in
            others-met-in v u p (iv p (omega arith) o.2) o.2
            (subst (λ (y : ℕ). mem u (but_for v (corners_at x s y)) ≡ true) (sym q) (subst (λ (y : List ℕ). mem u (but_for v y) ≡ true) (slot-vertices n e h) r.3)))

        -- the neighbours by the index are those by the scan
        pub neighbours-found : neighbour_list x s v ≡ neighbours_of v (tets n (drop x.slots s))
        unfolding neighbour_list neighbours_of
        neighbours-found = rw neighbour-room (distinct-same (others_met x s v) (others_of v elements) same-others)
