-- What the shorter chain finds is what the scan finds. What a caller of src/with.rt cites: `any_found`, `with-count`, `with-answered`.
-- Assumes nothing.
use Rattle.std.proofs.Common.{◌≡◌, ℕ, zero, suc, ◌+◌, ◌*◌, ◌/◌, ◌<◌, ◌≤◌, Bool, true, cond, leb, ◌⊎◌, List, [], ◌∷◌, length, get_or, drop, sym, refl, ap, ◌∙◌, subst, inl, inr, le_of_suc-le-suc, not-suc-le-zero, arith}
use Rattle.mesh.specs.declared.element.Tet.{Tet}
use Rattle.mesh.specs.declared.star.Index.{Index}
use Rattle.mesh.specs.Complex.{mem, sub}
use Rattle.mesh.specs.Element.{tets, has_all}
use Rattle.mesh.specs.inside.Star.{gone_tet, corners_at, chain_length, chain_of, Complete, Laid, distinct, listed}
use Rattle.mesh.specs.inside.About.{pass_from}
use Rattle.mesh.specs.Tests.{any}
use Rattle.mesh.specs.inside.With.{rarer, entry_has, with_if, with_met, any_with, with_room, with_list, with_in}
use Rattle.mesh.proofs.Laws.Complex.Sets.{split, clash, same, or_cases, or_left, or_right, mem-here, mem-there, mem-cases, mem-nil, sub-elim}
use Rattle.mesh.proofs.Laws.Star.Layout.{room-yes}
use Rattle.mesh.proofs.Laws.Star.Chains.{one-short}
use Rattle.mesh.proofs.Laws.Star.Distinct.{distinct-is}
use Rattle.mesh.proofs.Laws.Star.Numbers.{pass-out, pass-in, pass-rising, any_out, any-in}
use Rattle.mesh.proofs.Laws.Star.Found.{gather-out, gather-in, corner-out, slot-vertices}
use Rattle.mesh.proofs.Laws.Star.Answers.{length-listed, listed_below, listed-part}
use Rattle.mesh.proofs.Laws.Star.Calls.{Answered}
use Rattle.mesh.proofs.Laws.With.Walk.{with_none, with-one, met-short}
use Rattle.mesh.proofs.Laws.Intake.Reads.{length-tets}

-- ---- one of the elements passes

element-out : (p : Tet → Bool) (ts : List Tet) (z : Tet) → any p ts ≡ true → (e : ℕ) × (e < length ts) × (p (get_or ts e z) ≡ true)
element-out p [] z h = absurd (clash refl (sym h))
element-out p (t ∷ ts) z h =
    elim (or_cases (p t) (any p ts) h) [
      | inl a ↦ (0, omega arith, a)
      | inr a ↦ let r = element-out p ts z a in (suc r.0, let b = r.1 in omega arith, r.2)
    ]

element-in : (p : Tet → Bool) (ts : List Tet) (z : Tet) (e : ℕ) → e < length ts → p (get_or ts e z) ≡ true → any p ts ≡ true
element-in p [] z e h a = absurd (not-suc-le-zero h)
element-in p (t ∷ ts) z zero h a = or_left (any p ts) a
element-in p (t ∷ ts) z (suc e) h a = or_right (p t) (element-in p ts z e (le_of_suc-le-suc h) a)

-- ---- the shorter chain is one of the two

rarer-cases : (x : Index) (s : List ℕ) (v w : ℕ) → (rarer x s v w ≡ v) ⊎ (rarer x s v w ≡ w)
unfolding rarer
rarer-cases x s v w = elim (split (leb (chain_length x s v) (chain_length x s w))) [ inl e ↦ inl (rw e refl) | inr e ↦ inr (rw e refl) ]

module _ (x : Index) (s : List ℕ) (v w : ℕ) where
  -- it is among them
  rarer-among : (σ : List ℕ) → mem (rarer x s v w) (v ∷ w ∷ σ) ≡ true
  rarer-among σ =
      elim (rarer-cases x s v w) [
        | inl e ↦ subst (λ (y : ℕ). mem y (v ∷ w ∷ σ) ≡ true) (sym e) (mem-here v (w ∷ σ))
        | inr e ↦ subst (λ (y : ℕ). mem y (v ∷ w ∷ σ) ≡ true) (sym e) (mem-there w v (w ∷ σ) (mem-here w σ))
      ]

  rarer-vertex : v < x.vertices → w < x.vertices → rarer x s v w < x.vertices
  rarer-vertex hv hw = elim (rarer-cases x s v w) [ inl e ↦ omega (arith, e) | inr e ↦ omega (arith, e) ]

-- ---- by the chain of a, one of the vertices

module _ (x : Index) (s : List ℕ) (n : ℕ) (c : Complete x s (4 * n)) where
  abbrev elements : List Tet
  elements = tets n (drop x.slots s)

  count : length (tets n (drop x.slots s)) ≡ n
  count = length-tets n (drop x.slots s)

  module _ (a : ℕ) (σ : List ℕ) (ma : mem a σ ≡ true) (ha : a < x.vertices) where
    -- an entry of the chain whose slot has all of them
    forth : (p : ℕ) → mem p (chain_of x s a) ≡ true → entry_has x s σ p ≡ true → (p / 4 < n) × (has_all σ (get_or elements (p / 4) gone_tet) ≡ true)
    unfolding entry_has
    forth p m h =
        let b = c.chains.below a p m in
        let g : p / 4 < n = omega arith in
        (g, ap (sub σ) (slot-vertices x s n (p / 4) g) ∙ h)

    -- and the other way round
    back : (e : ℕ) → e < n → has_all σ (get_or elements e gone_tet) ≡ true → (p : ℕ) × (p / 4 ≡ e) × (mem p (chain_of x s a) ≡ true) × (entry_has x s σ p ≡ true)
    unfolding entry_has
    back e h m =
        let k : sub σ (corners_at x s e) ≡ true = sym (ap (sub σ) (slot-vertices x s n e h)) ∙ m in
        let r = corner-out x s a e (sub-elim σ (corners_at x s e) k a ma) in
        let q = r.1 in
        (r.0, r.1, c.indexed a ha r.0 (omega arith) r.2, subst (λ (y : ℕ). sub σ (corners_at x s y) ≡ true) (sym q) k)

    any-chain : any (entry_has x s σ) (chain_of x s a) ≡ any (has_all σ) (tets n (drop x.slots s))
    any-chain =
        same
        (λ h.
        let r = any_out (entry_has x s σ) (chain_of x s a) h in
        let f = forth r.0 r.1 r.2 in
        element-in (has_all σ) elements gone_tet (r.0 / 4) (let g = f.0 in omega (arith, count)) f.1)
        (λ h.
        let r = element-out (has_all σ) elements gone_tet h in
        let b = back r.0 (let g = r.1 in omega (arith, count)) r.2 in
        any-in (entry_has x s σ) (chain_of x s a) b.0 b.2 b.3)

    met-out : (e : ℕ) → mem e (with_met x s a σ) ≡ true → mem e (pass_from (has_all σ) 0 elements) ≡ true
    unfolding with_met
    met-out e m =
        let r = gather-out (with_if x s σ) (chain_of x s a) e m in
        let p = r.0 in
        elim (split (entry_has x s σ p)) [
          | inl h ↦
              let f = forth p r.1 h in
              let i : mem e (p / 4 ∷ []) ≡ true = subst (λ (us : List ℕ). mem e us ≡ true) (with-one x s p σ h) r.2 in
              let q : 0 + p / 4 ≡ e = elim (mem-cases e (p / 4) [] i) [ inl y ↦ omega (arith, y) | inr y ↦ absurd (mem-nil e y) ] in
              subst (λ (y : ℕ). mem y (pass_from (has_all σ) 0 elements) ≡ true) q
              (pass-in (has_all σ) elements 0 (p / 4) gone_tet (let g = f.0 in omega (arith, count)) f.1)
          | inr h ↦ absurd (mem-nil e (subst (λ (us : List ℕ). mem e us ≡ true) (with_none x s p σ h) r.2))
        ]

    met-in : (e : ℕ) → mem e (pass_from (has_all σ) 0 elements) ≡ true → mem e (with_met x s a σ) ≡ true
    unfolding with_met
    met-in e m =
        let r = pass-out (has_all σ) elements 0 e gone_tet m in
        let q : r.0 ≡ e = let y = r.1 in omega arith in
        let b = back r.0 (let g = r.2 in omega (arith, count)) r.3 in
        let z : b.0 / 4 ≡ e = b.1 ∙ q in
        gather-in (with_if x s σ) (chain_of x s a) b.0 e b.2
        (subst (λ (us : List ℕ). mem e us ≡ true) (sym (with-one x s b.0 σ b.3)) (subst (λ (y : ℕ). mem y (b.0 / 4 ∷ []) ≡ true) z (mem-here (b.0 / 4) [])))

    met-found : distinct (with_met x s a σ) ≡ pass_from (has_all σ) 0 (tets n (drop x.slots s))
    met-found = distinct-is (with_met x s a σ) (pass_from (has_all σ) 0 elements) (pass-rising (has_all σ) elements 0) (λ e. same (met-out e) (met-in e))

  -- ---- what a caller cites

  -- whether the scan finds one
  pub any_found : (u v w : ℕ) → u < x.vertices → v < x.vertices → any_with x s u v w ≡ any (has_all (u ∷ v ∷ w ∷ [])) (tets n (drop x.slots s))
  unfolding any_with
  any_found u v w hu hv = any-chain (rarer x s u v) (u ∷ v ∷ w ∷ []) (rarer-among x s u v (w ∷ [])) (rarer-vertex x s u v hu hv)

  module _ (v w : ℕ) (hv : v < x.vertices) (hw : w < x.vertices) (l : Laid x (length s)) (fit : x.area + (4 * n + 4 * n) ≤ length s) where
    abbrev us : List ℕ
    us = with_met x s (rarer x s v w) (v ∷ w ∷ [])

    has_room : with_room x s v w ≡ true
    unfolding with_room
    has_room = room-yes x (length s) (chain_length x s (rarer x s v w)) l (let h = one-short x s (4 * n) c.chains (rarer x s v w) in omega arith)

    all_found : distinct (with_met x s (rarer x s v w) (v ∷ w ∷ [])) ≡ pass_from (has_all (v ∷ w ∷ [])) 0 (tets n (drop x.slots s))
    all_found = met-found (rarer x s v w) (v ∷ w ∷ []) (rarer-among x s v w []) (rarer-vertex x s v w hv hw)

    pub with-found : with_list x s v w ≡ pass_from (has_all (v ∷ w ∷ [])) 0 (tets n (drop x.slots s))
    unfolding with_list
    with-found = rw has_room all_found

    -- as many as the scan finds
    pub with-count : length (with_list x s v w) ≡ length (pass_from (has_all (v ∷ w ∷ [])) 0 (tets n (drop x.slots s)))
    with-count = ap length with-found

    -- those that the scan finds
    pub with-answered : Answered s (with_in x s v w) x.area (pass_from (has_all (v ∷ w ∷ [])) 0 (tets n (drop x.slots s)))
    unfolding with_in
    with-answered =
        let h : x.area + (length us + length us) ≤ length s =
        let f = met-short x s (rarer x s v w) (v ∷ w ∷ []) in let g = one-short x s (4 * n) c.chains (rarer x s v w) in omega arith in
        let e : cond (with_room x s v w) (listed s x.area us) s ≡ listed s x.area us = ap (λ (b : Bool). cond b (listed s x.area us) s) has_room in
        subst (λ (t : List ℕ). Answered s t x.area (pass_from (has_all (v ∷ w ∷ [])) 0 (tets n (drop x.slots s)))) (sym e)
        (subst (Answered s (listed s x.area us) x.area) all_found
        (record { list = listed-part s x.area us h; long = length-listed s x.area us h; below = listed_below s x.area us h }))
