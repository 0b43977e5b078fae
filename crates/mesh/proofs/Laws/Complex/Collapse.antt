-- Edge collapse keeps the alternating count, and leaves a proper list of elements.
-- Assumes nothing.
use Rattle.std.proofs.Common.{◌≡◌, ℕ, ◌+◌, ◌<◌, ◌≤◌, Bool, true, false, not, ◌&&◌, ◌||◌, eqb, ◌≢◌, ◌⊎◌, List, [], ◌∷◌, map, length, sym, refl, ap, ◌∙◌, subst, inl, inr, true≢false, arith, eq-eqb, ne_eqb, eqb-true}
use mathlib.Core.List.Memᴰ
use mathlib.Core.List.{Memᴰ, cons≢nil}
use borrow.Author.Tests.{eqb-false, not-true}
use lib.ListN.{length-map}
use Rattle.mesh.specs.Complex.{mem, sub, within, keep, up_to, faces, Nodup, Sub}
use Rattle.mesh.specs.inside.Complex.{star, IsElement, Proper, SameCount}
use Rattle.mesh.specs.inside.Moves.{collapse, Collapsible}
use Rattle.mesh.specs.Feature.{onto}
use Rattle.mesh.proofs.Laws.Complex.Sets.{split, clash, nope, same, or_cases, or_left, or_right, and-fst, and-snd, mem-here, mem-there, mem-cases, mem-nil, out, out-head, apart, Sub-cons, Sub-both, Sub-tail, sub-elim, sub-intro, within-elim, within-intro, within-mono, rm, rm-out, rm-mem, rm-sub, rm-length, rm-nodup}
use Rattle.mesh.proofs.Laws.Complex.Sums.{bit, total, ind, total-cong, total-add, total-zero, faces-total, Sym, Sym-ind, first, first_head}
use Rattle.mesh.proofs.Laws.Complex.Lists.{keep-elim, keep-intro, map-elim, map-intro}
use Rattle.mesh.proofs.Laws.Complex.Tets.{up_to-mem, up_to-nodup, tet-of, whole, total-four, over}

-- how many elements contain σ
star-pos : (σ e : List ℕ) (es : List (List ℕ)) → Memᴰ e es → Sub σ e → 1 ≤ star σ es
unfolding star
star-pos σ e [] m s = absurd (Memᴰ.not-nil m)
star-pos σ e (f ∷ es) m s =
    elim (split (sub σ f)) [
      | inl h ↦ rw h (omega arith)
      | inr h ↦ rw h (elim (Memᴰ.cases_cons m) [ inl q ↦ absurd (clash (sub-intro σ f (rw q at s)) h) | inr q ↦ star-pos σ e es q s ])
    ]

pub star-some : (σ : List ℕ) (es : List (List ℕ)) → 1 ≤ star σ es → (e : List ℕ) × Memᴰ e es × Sub σ e
unfolding star
star-some σ [] h = absurd (omega arith)
star-some σ (f ∷ es) h =
    elim (split (sub σ f)) [
      | inl k ↦ (f, Memᴰ.head refl, sub-elim σ f k)
      | inr k ↦ let r = star-some σ es (rw k at h) in (r.0, Memᴰ.tail r.1, r.2)
    ]

-- where two elements contain σ, one of them does not contain the four vertices of τ
star-other : (n : ℕ) (σ τ : List ℕ) (es : List (List ℕ)) → Proper n es → length τ ≡ 4 → Nodup τ → 2 ≤ star σ es → (e : List ℕ) × Memᴰ e es × Sub σ e × (sub τ e ≡ false)
unfolding star
star-other n σ τ [] P l d h = absurd (omega arith)
star-other n σ τ (f ∷ es) P l d h =
    elim (split (sub σ f)) [
      | inl k ↦ elim (split (sub τ f)) [
        | inl t ↦ let r = star-some σ es (let h' = rw k at h in omega arith) in
            let tf = sub-elim τ f t in
            let ft = whole τ P.0 l d tf in (
              r.0,
              Memᴰ.tail r.1,
              r.2,
              nope (λ q. let tr = sub-elim τ r.0 q in let rt = whole τ (tet-of P.2 r.1) l d tr in P.1 r.0 r.1 (λ z m. tr z (ft z m)) (λ z m. tf z (rt z m))),
            )
        | inr t ↦ (f, Memᴰ.head refl, sub-elim σ f k, t)
      ]
      | inr k ↦ let r = star-other n σ τ es P.2 l d (rw k at h) in (r.0, Memᴰ.tail r.1, r.2, r.3)
    ]

pair_of : (l : List ℕ) → length l ≡ 2 → (x : ℕ) × (y : ℕ) × (l ≡ x ∷ y ∷ [])
pair_of [] h = absurd (omega arith)
pair_of (x ∷ []) h = absurd (omega arith)
pair_of (x ∷ y ∷ []) h = (x, y, refl)
pair_of (x ∷ y ∷ z ∷ l) h = absurd (omega arith)

-- the vertices of an element with b in the place of a
onto-in : (a b x : ℕ) (e : List ℕ) → x ≢ a → mem x e ≡ true → mem x (map (onto a b) e) ≡ true
onto-in a b x [] n h = h
onto-in a b x (y ∷ e) n h =
    elim (mem-cases x y e h) [
      | inl p ↦ or_left (mem x (map (onto a b) e)) (eq-eqb x (onto a b y) (rw (← p) (rw (ne_eqb x a n) refl)))
      | inr p ↦ mem-there x (onto a b y) (map (onto a b) e) (onto-in a b x e n p)
    ]

onto-b : (a b : ℕ) (e : List ℕ) → mem a e ≡ true → mem b (map (onto a b) e) ≡ true
onto-b a b [] h = absurd (mem-nil a h)
onto-b a b (y ∷ e) h =
    elim (mem-cases a y e h) [
      | inl p ↦ or_left (mem b (map (onto a b) e)) (eq-eqb b (onto a b y) (rw (← p) (rw (eq-eqb a a refl) refl)))
      | inr p ↦ mem-there b (onto a b y) (map (onto a b) e) (onto-b a b e p)
    ]

-- the vertices of a list with b in the place of a
pub onto-cases : (a b z : ℕ) (e : List ℕ) → mem z (map (onto a b) e) ≡ true → ((mem z e ≡ true) × (z ≢ a)) ⊎ ((z ≡ b) × (mem a e ≡ true))
onto-cases a b z [] h = absurd (mem-nil z h)
onto-cases a b z (y ∷ e) h =
    elim (mem-cases z (onto a b y) (map (onto a b) e) h) [
      | inl p ↦ elim (split (eqb y a)) [
        | inl q ↦ inr (rw q at p, or_left (mem a e) (eq-eqb a y (sym (eqb-true y a q))))
        | inr q ↦ let r : z ≡ y = rw q at p in inl (or_left (mem z e) (eq-eqb z y r), λ k. eqb-false y a q (sym r ∙ k))
      ]
      | inr p ↦ elim (onto-cases a b z e p) [
        | inl q ↦ inl (mem-there z y e q.0, q.1)
        | inr q ↦ inr (q.0, mem-there a y e q.1)
      ]
    ]

onto-nodup : (a b : ℕ) (e : List ℕ) → Nodup e → (mem a e ≡ true → mem b e ≡ true → ⊥) → Nodup (map (onto a b) e)
onto-nodup a b [] d h = tt
onto-nodup a b (y ∷ e) d h = (
  nope (λ m. elim (split (eqb y a)) [
    | inl q ↦ let p = eqb-true y a q in
        elim (onto-cases a b b e (rw q at m)) [
          | inl r ↦ h (or_left (mem a e) (eq-eqb a y (sym p))) (mem-there b y e r.0)
          | inr r ↦ clash (rw (← p) at r.1) d.0
        ]
    | inr q ↦ elim (onto-cases a b y e (rw q at m)) [
      | inl r ↦ clash r.0 d.0
      | inr r ↦ h (mem-there a y e r.1) (or_left (mem b e) (eq-eqb b y (sym r.0)))
    ]
  ]),
  onto-nodup a b e d.1 (λ p q. h (mem-there a y e p) (mem-there b y e q)),
)

module _ (n a b : ℕ) (es : List (List ℕ)) (P : Proper n es) (c : Collapsible a b es) where
  -- an element of the collapsed list, and back
  after-elim : (e : List ℕ) (fs : List (List ℕ)) → Memᴰ e (collapse a b fs) → (f : List ℕ) × Memᴰ f fs × (mem a f ≡ true → mem b f ≡ true → ⊥) × (e ≡ map (onto a b) f)
  after-elim e fs m =
      let r = map-elim (map (onto a b)) e (keep (λ f. not (mem a f && mem b f)) fs) m in
      let k = keep-elim (λ f. not (mem a f && mem b f)) r.0 fs r.1 in
      (r.0, k.0, (λ p q. clash (rw (p, q) refl) (not-true (mem a r.0 && mem b r.0) k.1)), r.2)

  after-intro : (f : List ℕ) → Memᴰ f es → (mem a f ≡ true → mem b f ≡ true → ⊥) → Memᴰ (map (onto a b) f) (collapse a b es)
  after-intro f m h = map-intro (map (onto a b)) f (keep (λ f. not (mem a f && mem b f)) es) (keep-intro (λ f. not (mem a f && mem b f)) f es m (ap not (nope (λ t. h (and-fst (mem a f) (mem b f) t) (and-snd (mem a f) (mem b f) t)))))

  -- an element with both a and b has a neighbour with one of them and with its other vertices
  abbrev Neighbour : List ℕ → Type 0
  Neighbour e = (f : List ℕ) × Memᴰ f es × (mem a f ≡ true → mem b f ≡ true → ⊥) × ((mem a f ≡ true) ⊎ (mem b f ≡ true)) × ((z : ℕ) → mem z e ≡ true → z ≢ a → z ≢ b → mem z f ≡ true)

  neighbour-of : (e : List ℕ) → Memᴰ e es → mem a e ≡ true → mem b e ≡ true → (x y : ℕ) → rm b (rm a e) ≡ x ∷ y ∷ [] → Neighbour e
  neighbour-of e m ha hb x y E =
      elim (split (eqb (star (a ∷ x ∷ y ∷ []) es) 1)) [
        | inl sa ↦ elim (split (eqb (star (b ∷ x ∷ y ∷ []) es) 1)) [
          | inl sb ↦ absurd (c.inner x y x≢y (x≢a x ix) (x≢b x ix) (x≢a y iy) (x≢b y iy) (eqb-true (star (a ∷ x ∷ y ∷ []) es) 1 sa) (eqb-true (star (b ∷ x ∷ y ∷ []) es) 1 sb))
          | inr sb ↦ finish b (inr refl) hb (eqb-false (star (b ∷ x ∷ y ∷ []) es) 1 sb)
        ]
        | inr sa ↦ finish a (inl refl) ha (eqb-false (star (a ∷ x ∷ y ∷ []) es) 1 sa)
      ]
    where
      t : IsElement n e
      t = tet-of {n = n} P m

      ix : mem x (rm b (rm a e)) ≡ true
      ix = rw E (mem-here x (y ∷ []))

      iy : mem y (rm b (rm a e)) ≡ true
      iy = rw E (mem-there y x (y ∷ []) (mem-here y []))

      x≢b : (z : ℕ) → mem z (rm b (rm a e)) ≡ true → z ≢ b
      x≢b z i = apart z b (rm b (rm a e)) i (rm-out b (rm a e))

      x≢a : (z : ℕ) → mem z (rm b (rm a e)) ≡ true → z ≢ a
      x≢a z i = apart z a (rm a e) (rm-sub b z (rm a e) i) (rm-out a e)

      xe : (z : ℕ) → mem z (rm b (rm a e)) ≡ true → mem z e ≡ true
      xe z i = rm-sub a z e (rm-sub b z (rm a e) i)

      x≢y : x ≢ y
      x≢y = let d : Nodup (x ∷ y ∷ []) = rw E at (rm-nodup b (rm a e) (rm-nodup a e t.distinct)) in out-head x y [] d.0

      τ : List ℕ
      τ = a ∷ b ∷ x ∷ y ∷ []

      τ-nodup : Nodup τ
      τ-nodup = (
        out a b (x ∷ y ∷ []) c.differ (out a x (y ∷ []) (λ q. x≢a x ix (sym q)) (out a y [] (λ q. x≢a y iy (sym q)) refl)),
        (out b x (y ∷ []) (λ q. x≢b x ix (sym q)) (out b y [] (λ q. x≢b y iy (sym q)) refl), (out x y [] x≢y refl, (refl, tt))),
      )

      finish : (v : ℕ) → ((v ≡ a) ⊎ (v ≡ b)) → mem v e ≡ true → (star (v ∷ x ∷ y ∷ []) es ≡ 1 → ⊥) → Neighbour e
      finish v w hv ne =
          let pos = star-pos (v ∷ x ∷ y ∷ []) e es m (Sub-cons v (x ∷ y ∷ []) e hv (Sub-cons x (y ∷ []) e (xe x ix) (Sub-cons y [] e (xe y iy) (λ z q. absurd (mem-nil z q))))) in
          let r = star-other n (v ∷ x ∷ y ∷ []) τ es P refl τ-nodup (omega arith) in
          let fv = r.2 v (mem-here v (x ∷ y ∷ [])) in
          let fx = r.2 x (mem-there x v (x ∷ y ∷ []) (mem-here x (y ∷ []))) in
          let fy = r.2 y (mem-there y v (x ∷ y ∷ []) (mem-there y x (y ∷ []) (mem-here y []))) in (
            r.0,
            r.1,
            (λ p q. clash (sub-intro τ r.0 (Sub-cons a (b ∷ x ∷ y ∷ []) r.0 p (Sub-cons b (x ∷ y ∷ []) r.0 q (Sub-cons x (y ∷ []) r.0 fx (Sub-cons y [] r.0 fy (λ z k. absurd (mem-nil z k))))))) r.3),
            elim w [ inl q ↦ inl (subst (λ u. mem u r.0 ≡ true) q fv) | inr q ↦ inr (subst (λ u. mem u r.0 ≡ true) q fv) ],
            λ z mz za zb.
                let k : mem z (x ∷ y ∷ []) ≡ true = rw E at (rm-mem b z (rm a e) zb ∙ (rm-mem a z e za ∙ mz)) in
                elim (mem-cases z x (y ∷ []) k) [
                  | inl q ↦ rw q fx
                  | inr k' ↦ elim (mem-cases z y [] k') [ inl q ↦ rw q fy | inr k'' ↦ absurd (mem-nil z k'') ]
                ],
          )

  neighbour : (e : List ℕ) → Memᴰ e es → mem a e ≡ true → mem b e ≡ true → Neighbour e
  neighbour e m ha hb =
      let t = tet-of {n = n} P m in
      let la = rm-length a e t.distinct ha in
      let lb = rm-length b (rm a e) (rm-nodup a e t.distinct) (rm-mem a b e (λ q. c.differ (sym q)) ∙ hb) in
      let four = t.four in
      let r = pair_of (rm b (rm a e)) (omega arith) in
      neighbour-of e m ha hb r.0 r.1 r.2

  -- each set in an element lies in an element that stays, but for a and b: σ has neither
  stays : (σ e : List ℕ) → Memᴰ e es → Sub σ e → mem a σ ≡ false → mem b σ ≡ false → (f : List ℕ) × Memᴰ f es × (mem a f ≡ true → mem b f ≡ true → ⊥) × Sub σ f × (((mem a e ≡ true) ⊎ (mem b e ≡ true)) → (mem a f ≡ true) ⊎ (mem b f ≡ true))
  stays σ e m s oa ob =
      elim (split (mem a e && mem b e)) [
        | inl h ↦
            let r = neighbour e m (and-fst (mem a e) (mem b e) h) (and-snd (mem a e) (mem b e) h) in
            (r.0, r.1, r.2, (λ z k. r.4 z (s z k) (apart z a σ k oa) (apart z b σ k ob)), λ q. r.3)
        | inr h ↦ (e, m, (λ p q. clash (rw (p, q) refl) h), s, λ q. q)
      ]

  -- the pointwise facts
  gone : (σ : List ℕ) → mem a σ ≡ true → within σ (collapse a b es) ≡ false
  gone σ h = nope (λ w.
      let r = within-elim σ (collapse a b es) w in
      let k = after-elim r.0 es r.1 in
      elim (onto-cases a b a k.0 (rw k.3 at (r.2 a h))) [ inl q ↦ q.1 refl | inr q ↦ c.differ q.0 ])

  kept : (σ : List ℕ) → mem a σ ≡ false → mem b σ ≡ false → within σ (collapse a b es) ≡ within σ es
  kept σ oa ob =
      same
      (λ w.
      let r = within-elim σ (collapse a b es) w in
      let k = after-elim r.0 es r.1 in
      within-intro σ k.1 (λ z m. elim (onto-cases a b z k.0 (rw k.3 at (r.2 z m))) [ inl q ↦ q.0 | inr q ↦ absurd (apart z b σ m ob q.0) ]))
      (λ w.
      let r = within-elim σ es w in
      let k = stays σ r.0 r.1 r.2 oa ob in
      within-intro σ (after-intro k.0 k.1 k.2) (λ z m. onto-in a b z k.0 (apart z a σ m oa) (k.3 z m)))

  joined : (σ : List ℕ) → mem a σ ≡ false → mem b σ ≡ false → within (b ∷ σ) (collapse a b es) ≡ (within (a ∷ σ) es || within (b ∷ σ) es)
  joined σ oa ob =
      same
      (λ w.
      let r = within-elim (b ∷ σ) (collapse a b es) w in
      let k = after-elim r.0 es r.1 in
      let sσ : Sub σ k.0 = λ z m. elim (onto-cases a b z k.0 (rw k.3 at (r.2 z (mem-there z b σ m)))) [ inl q ↦ q.0 | inr q ↦ absurd (apart z b σ m ob q.0) ] in
      elim (onto-cases a b b k.0 (rw k.3 at (r.2 b (mem-here b σ)))) [
        | inl q ↦ or_right (within (a ∷ σ) es) (within-intro (b ∷ σ) k.1 (Sub-cons b σ k.0 q.0 sσ))
        | inr q ↦ or_left (within (b ∷ σ) es) (within-intro (a ∷ σ) k.1 (Sub-cons a σ k.0 q.1 sσ))
      ])
      (λ w. elim (or_cases (within (a ∷ σ) es) (within (b ∷ σ) es) w) [
        | inl h ↦ let r = within-elim (a ∷ σ) es h in lift r.0 r.1 (Sub-tail a σ r.0 r.2) (inl (r.2 a (mem-here a σ)))
        | inr h ↦ let r = within-elim (b ∷ σ) es h in lift r.0 r.1 (Sub-tail b σ r.0 r.2) (inr (r.2 b (mem-here b σ)))
      ])
    where
      lift : (e : List ℕ) → Memᴰ e es → Sub σ e → ((mem a e ≡ true) ⊎ (mem b e ≡ true)) → within (b ∷ σ) (collapse a b es) ≡ true
      lift e m s w =
          let k = stays σ e m s oa ob in
          within-intro (b ∷ σ) (after-intro k.0 k.1 k.2)
          (Sub-cons b σ (map (onto a b) k.0)
          (elim (k.4 w) [ inl q ↦ onto-b a b k.0 q | inr q ↦ onto-in a b b k.0 (λ p. c.differ (sym p)) q ])
          (λ z m. onto-in a b z k.0 (apart z a σ m oa) (k.3 z m)))

  -- the link condition: what has a and what has b, together
  balance : (σ : List ℕ) → mem a σ ≡ false → mem b σ ≡ false → ind (collapse a b es) (b ∷ σ) + ind es (a ∷ b ∷ σ) ≡ ind es (a ∷ σ) + ind es (b ∷ σ)
  balance σ oa ob = rw (joined σ oa ob) (bits (within (a ∷ σ) es) (within (b ∷ σ) es) (within (a ∷ b ∷ σ) es) (meet σ oa ob) from_a from_b)
    where
      bits : (p q r : Bool) → (p ≡ true → q ≡ true → r ≡ true) → (r ≡ true → p ≡ true) → (r ≡ true → q ≡ true) → bit (p || q) + bit r ≡ bit p + bit q
      bits true true r f g h = rw (f refl refl) refl
      bits true false true f g h = absurd (true≢false (sym (h refl)))
      bits true false false f g h = refl
      bits false q true f g h = absurd (true≢false (sym (g refl)))
      bits false q false f g h = omega arith

      meet : (τ : List ℕ) → mem a τ ≡ false → mem b τ ≡ false → within (a ∷ τ) es ≡ true → within (b ∷ τ) es ≡ true → within (a ∷ b ∷ τ) es ≡ true
      meet [] pa pb wa wb = c.edge
      meet (x ∷ τ) pa pb wa wb = c.link (x ∷ τ) (cons≢nil) pa pb wa wb

      from_a : within (a ∷ b ∷ σ) es ≡ true → within (a ∷ σ) es ≡ true
      from_a = within-mono (a ∷ σ) (a ∷ b ∷ σ) es (Sub-both a σ (b ∷ σ) (λ z m. mem-there z b σ m))

      from_b : within (a ∷ b ∷ σ) es ≡ true → within (b ∷ σ) es ≡ true
      from_b = within-mono (b ∷ σ) (a ∷ b ∷ σ) es (λ z m. mem-there z a (b ∷ σ) m)

  a<n : a < n
  a<n = let r = within-elim (a ∷ b ∷ []) es c.edge in (tet-of {n = n} P r.1).below a (r.2 a (mem-here a (b ∷ [])))

  b<n : b < n
  b<n = let r = within-elim (a ∷ b ∷ []) es c.edge in (tet-of {n = n} P r.1).below b (r.2 b (mem-there b a (b ∷ []) (mem-here b [])))

  -- the elements stay proper
  half : (e f : List ℕ) → (mem a e ≡ true → mem b e ≡ true → ⊥) → (mem a e ≡ true → mem a f ≡ true) → (mem a f ≡ true → mem a e ≡ true) → Sub (map (onto a b) e) (map (onto a b) f) → Sub e f
  half e f h p q s z m =
      elim (split (eqb z a)) [
        | inl k ↦ let r = eqb-true z a k in rw r (p (rw r at m))
        | inr k ↦ elim (onto-cases a b z f (s z (onto-in a b z e (eqb-false z a k) m))) [
          | inl r ↦ r.0
          | inr r ↦ absurd (h (q r.1) (rw r.0 at m))
        ]
      ]

  mixed : (e f : List ℕ) → Memᴰ e es → Memᴰ f es → mem a e ≡ true → mem b e ≡ false → mem a f ≡ false → Sub (map (onto a b) e) (map (onto a b) f) → ⊥
  mixed e f me mf ha ob of s =
      let t = tet-of {n = n} P me in
      let σ = rm a e in
      let l = rm-length a e t.distinct ha in
      let four = t.four in
      let oσ : mem b (rm a e) ≡ false = nope (λ q. clash (rm-sub a b e q) ob) in
      let move : (z : ℕ) → mem z (map (onto a b) f) ≡ true → mem z f ≡ true = λ z q. elim (onto-cases a b z f q) [ inl k ↦ k.0 | inr k ↦ absurd (clash k.1 of) ] in
      let wa = within-intro (a ∷ rm a e) me (Sub-cons a (rm a e) e ha (λ z q. rm-sub a z e q)) in
      let wb = within-intro (b ∷ rm a e) mf (Sub-cons b (rm a e) f (move b (s b (onto-b a b e ha))) (λ z q. move z (s z (onto-in a b z e (apart z a (rm a e) q (rm-out a e)) (rm-sub a z e q))))) in
      let w = c.link (rm a e) (λ q. let k = ap length q in omega arith) (rm-out a e) oσ wa wb in
      clash w (over n es P (a ∷ b ∷ rm a e) (omega arith) (out a b (rm a e) c.differ (rm-out a e), (oσ, rm-nodup a e t.distinct)))

  apart-still : (e f : List ℕ) → Memᴰ e es → Memᴰ f es → (mem a e ≡ true → mem b e ≡ true → ⊥) → (mem a f ≡ true → mem b f ≡ true → ⊥) → (Sub e f → Sub f e → ⊥) → Sub (map (onto a b) e) (map (onto a b) f) → Sub (map (onto a b) f) (map (onto a b) e) → ⊥
  apart-still e f me mf he hf d s t =
      let p : mem a e ≡ true → mem a f ≡ true = λ h. elim (split (mem a f)) [ inl k ↦ k | inr k ↦ absurd (mixed e f me mf h (nope (he h)) k s) ] in
      let q : mem a f ≡ true → mem a e ≡ true = λ h. elim (split (mem a e)) [ inl k ↦ k | inr k ↦ absurd (mixed f e mf me h (nope (hf h)) k t) ] in
      d (half e f he p q s) (half f e hf q p t)

  proper-part : (fs : List (List ℕ)) → ((e : List ℕ) → Memᴰ e fs → Memᴰ e es) → Proper n fs → Proper n (collapse a b fs)
  proper-part [] i Q = tt
  proper-part (e ∷ fs) i Q =
      let ih : Proper n (collapse a b fs) = proper-part fs (λ f m. i f (Memᴰ.tail m)) Q.2 in
      elim (split (mem a e && mem b e)) [
        | inl h ↦ rw h ih
        | inr h ↦ rw h
            (let he : mem a e ≡ true → mem b e ≡ true → ⊥ = λ p q. clash (rw (p, q) refl) h in (
              record {
                four = length-map e (onto a b) ∙ Q.0.four;
                distinct = onto-nodup a b e Q.0.distinct he;
                below = λ x m. elim (onto-cases a b x e m) [ inl q ↦ Q.0.below x q.0 | inr q ↦ rw q.0 b<n ];
              },
              (λ f m s t.
                  let r = after-elim f fs m in
                  apart-still e r.0 (i e (Memᴰ.head refl)) (i r.0 (Memᴰ.tail r.1)) he r.2 (Q.1 r.0 r.1)
                  (λ z q. rw r.3 at (s z q)) (λ z q. t z (rw r.3 q))),
              ih,
            ))
      ]

  pub collapse-proper : Proper n (collapse a b es)
  collapse-proper = proper-part es (λ e m. m) P

  -- the sums, at a, b and the other vertices
  rest : List ℕ
  rest = rm b (rm a (up_to n))

  rest-nodup : Nodup rest
  unfolding rest
  rest-nodup = rm-nodup b (rm a (up_to n)) (rm-nodup a (up_to n) (up_to-nodup n))

  no-a : (σ : List ℕ) → Sub σ rest → mem a σ ≡ false
  unfolding rest
  no-a σ s = nope (λ m. clash (rm-sub b a (rm a (up_to n)) (s a m)) (rm-out a (up_to n)))

  no-b : (σ : List ℕ) → Sub σ rest → mem b σ ≡ false
  unfolding rest
  no-b σ s = nope (λ m. clash (s b m) (rm-out b (rm a (up_to n))))

  two : (k : ℕ) (f : List ℕ → ℕ) → Sym f → total k (up_to n) f ≡ total k (a ∷ b ∷ rest) f
  unfolding rest
  two k f s =
      first a (up_to n) (up_to-nodup n) (up_to-mem n a a<n) k f s
      ∙ first_head k a f (first b (rm a (up_to n)) (rm-nodup a (up_to n) (up_to-nodup n)) (rm-mem a b (up_to n) (λ q. c.differ (sym q)) ∙ up_to-mem n b b<n)) s

  at : (k : ℕ) (fs : List (List ℕ)) → faces k n fs ≡ total k (a ∷ b ∷ rest) (ind fs)
  at k fs = faces-total k n fs ∙ two k (ind fs) (Sym-ind fs)

  count_kept : (k : ℕ) → total k rest (ind (collapse a b es)) ≡ total k rest (ind es)
  count_kept k = total-cong k rest rest-nodup (λ σ l d s. ap bit (kept σ (no-a σ s) (no-b σ s)))

  count-gone : (k : ℕ) → total k rest (λ σ. ind (collapse a b es) (a ∷ σ)) ≡ 0
  count-gone k = total-zero k rest rest-nodup (λ σ l d s. ap bit (gone (a ∷ σ) (mem-here a σ)))

  count-gone₂ : (k : ℕ) → total k rest (λ σ. ind (collapse a b es) (a ∷ b ∷ σ)) ≡ 0
  count-gone₂ k = total-zero k rest rest-nodup (λ σ l d s. ap bit (gone (a ∷ b ∷ σ) (mem-here a (b ∷ σ))))

  count-balance : (k : ℕ) → total k rest (λ σ. ind (collapse a b es) (b ∷ σ)) + total k rest (λ σ. ind es (a ∷ b ∷ σ)) ≡ total k rest (λ σ. ind es (a ∷ σ)) + total k rest (λ σ. ind es (b ∷ σ))
  count-balance k =
      sym (total-add k rest (λ σ. ind (collapse a b es) (b ∷ σ)) (λ σ. ind es (a ∷ b ∷ σ)))
      ∙ (total-cong k rest rest-nodup (λ σ l d s. balance σ (no-a σ s) (no-b σ s))
      ∙ total-add k rest (λ σ. ind es (a ∷ σ)) (λ σ. ind es (b ∷ σ)))

  count-over : total 3 rest (λ σ. ind es (a ∷ b ∷ σ)) ≡ 0
  count-over = total-zero 3 rest rest-nodup (λ σ l d s. ap bit (over n es P (a ∷ b ∷ σ) (omega arith) (out a b σ c.differ (no-a σ s), (no-b σ s, d))))

  pub collapse-count : SameCount n es n (collapse a b es)
  collapse-count =
      let fs = collapse a b es in
      omega (
        arith,
        at 1 es,
        at 2 es,
        at 3 es,
        at 4 es,
        at 1 fs,
        at 2 fs,
        at 3 fs,
        at 4 fs,
        faces-total 4 n es,
        faces-total 4 n fs,
        total-four n es P,
        total-four n (collapse a b es) collapse-proper,
        count_kept 1,
        count_kept 2,
        count_kept 3,
        count_kept 4,
        count-gone 0,
        count-gone 1,
        count-gone 2,
        count-gone 3,
        count-gone₂ 0,
        count-gone₂ 1,
        count-gone₂ 2,
        count-balance 0,
        count-balance 1,
        count-balance 2,
        count-balance 3,
        count-over,
      )
