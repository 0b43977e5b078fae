-- The boundary is closed where no triangle lies in three elements: an edge lies in an even number of boundary faces, since each element
-- that has it has it in two faces. So a boundary neighbour of both ends of an edge outlives its collapse, and the tests by masks need
-- not ask that. Assumes nothing.
use Rattle.std.proofs.Common.{◌≡◌, ℕ, suc, ◌+◌, ◌*◌, ◌<◌, ◌≤◌, Bool, true, false, not, ◌&&◌, ◌||◌, eqb, leb, ◌≢◌, ◌⊎◌, List, [], ◌∷◌, map, length, sym, refl, ap, ◌∙◌, subst, ap₂, inl, inr, arith, eqb-true, leb-false, leb-true}
use mathlib.Core.List.Memᴰ
use mathlib.Core.List.{Memᴰ}
use borrow.Author.Tests.{eqb-false}
use Rattle.mesh.specs.declared.element.Tet.{Tet}
use Rattle.mesh.specs.declared.element.Triple.{Triple}
use Rattle.mesh.specs.Complex.{mem, sub, within, keep, up_to, Nodup, Sub}
use Rattle.mesh.specs.inside.Complex.{star, IsElement, Proper}
use Rattle.mesh.specs.Sort.{insert, sort}
use Rattle.mesh.specs.Sets.{times}
use Rattle.mesh.specs.Element.{triple, key_of, vertices_of, corners_of, all_corners}
use Rattle.mesh.specs.Boundary.{same_triple, le_triple, all_faces, with_key, key_number, first_number, boundary_number}
use Rattle.mesh.specs.Link.{same_simplex, boundary_about}
use Rattle.mesh.specs.Tests.{every}
use Rattle.mesh.specs.Feature.{bits_of, shared, feature_ok}
use Rattle.mesh.specs.inside.FeatureByMasks.{joined, outlives, on_curve, rim_ok, curve_ok, feature_by_masks}
use Rattle.mesh.proofs.Laws.Complex.Sets.{split, clash, nope, same, and-fst, and-snd, mem-here, mem-there, mem-cases, mem-nil, out, apart, Sub-cons, sub-elim, sub-intro, keep-mem, keep-nodup, rm, rm-out, rm-mem, rm-sub, rm-none, rm-nodup, rm-length, short, full, star-alike}
use Rattle.mesh.proofs.Laws.Complex.Sums.{bit}
use Rattle.mesh.proofs.Laws.Complex.Tets.{up_to-mem, up_to-nodup, tet-of}
use Rattle.mesh.proofs.Laws.Complex.Collapse.{star-some}
use Rattle.mesh.proofs.Laws.Link.Simplices.{every-mem, mem-every}
use Rattle.mesh.proofs.Laws.Link.Keys.{Fours, proper-fours, key-mem, key-rising, triple-decides, times-star, three-nodup, flip≢, keep-cons}
use Rattle.mesh.proofs.Laws.Link.Boundary.{times-some, boundary-elim, boundary-within}
use Rattle.mesh.proofs.Laws.Link.Labels.{edge-elim, Sub-two}
use Rattle.mesh.proofs.Laws.Link.Masks.{on-face, outlives-intro, boundary-masks}

-- ---- sums over vertices

abbrev sum : (ℕ → ℕ) → List ℕ → ℕ
sum f [] = 0
sum f (v ∷ vs) = f v + sum f vs

sum_same : (f g : ℕ → ℕ) (vs : List ℕ) → ((v : ℕ) → f v ≡ g v) → sum f vs ≡ sum g vs
sum_same f g [] h = refl
sum_same f g (v ∷ vs) h = ap₂ ◌+◌ (h v) (sum_same f g vs h)

sum-add : (f g : ℕ → ℕ) (vs : List ℕ) → sum (λ v. f v + g v) vs ≡ sum f vs + sum g vs
sum-add f g [] = refl
sum-add f g (v ∷ vs) = let r = sum-add f g vs in omega arith

sum-zero : (vs : List ℕ) → sum (λ v. 0) vs ≡ 0
sum-zero [] = refl
sum-zero (v ∷ vs) = let r = sum-zero vs in omega arith

sum-bits : (p : ℕ → Bool) (vs : List ℕ) → sum (λ v. bit (p v)) vs ≡ length (keep p vs)
sum-bits p [] = refl
sum-bits p (v ∷ vs) = let r = sum-bits p vs in elim (split (p v)) [ inl h ↦ rw h (omega arith) | inr h ↦ rw h (omega arith) ]

-- a vertex taken out
sum-rm : (f : ℕ → ℕ) (a : ℕ) (vs : List ℕ) → Nodup vs → mem a vs ≡ true → sum f vs ≡ f a + sum f (rm a vs)
sum-rm f a [] d m = absurd (mem-nil a m)
sum-rm f a (v ∷ vs) d m =
    elim (split (eqb a v)) [
      | inl h ↦ let e = eqb-true a v h in rw h (ap₂ ◌+◌ (ap f (sym e)) (ap (sum f) (sym (ap (λ (u : ℕ). rm u vs) e ∙ rm-none v vs d.0))))
      | inr h ↦ rw h (let r = sum-rm f a vs d.1 (elim (mem-cases a v vs m) [ inl e ↦ absurd (eqb-false a v h e) | inr i ↦ i ]) in omega arith)
    ]

-- values of at most two: one of them is 1, or the sum is even
odd-or-even : (f : ℕ → ℕ) (vs : List ℕ) → ((v : ℕ) → mem v vs ≡ true → f v ≤ 2) → ((v : ℕ) × (mem v vs ≡ true) × (f v ≡ 1)) ⊎ ((k : ℕ) × (sum f vs ≡ 2 * k))
odd-or-even f [] h = inr (0, refl)
odd-or-even f (v ∷ vs) h =
    elim (split (eqb (f v) 1)) [
      | inl e ↦ inl (v, mem-here v vs, eqb-true (f v) 1 e)
      | inr e ↦ elim (odd-or-even f vs (λ w m. h w (mem-there w v vs m))) [
        | inl r ↦ inl (r.0, mem-there r.0 v vs r.1, r.2)
        | inr r ↦
            let n : f v ≢ 1 = eqb-false (f v) 1 e in
            let l = h v (mem-here v vs) in
            let s = r.1 in
            elim (split (eqb (f v) 0)) [
              | inl z ↦ let z' = eqb-true (f v) 0 z in inr (r.0, omega arith)
              | inr z ↦ let z' : f v ≢ 0 = eqb-false (f v) 0 z in inr (suc r.0, omega arith)
            ]
      ]
    ]

-- ---- the faces at an edge

module _ (u v : ℕ) (uv : u ≢ v) where
  -- an element that has the edge has it in two faces
  two-faces : (vs e : List ℕ) (n : ℕ) → IsElement n e → Nodup vs → ((z : ℕ) → mem z e ≡ true → z ≢ u → z ≢ v → mem z vs ≡ true) → mem u vs ≡ false → mem v vs ≡ false → sum (λ z. bit (sub (u ∷ v ∷ z ∷ []) e)) vs ≡ 2 * bit (sub (u ∷ v ∷ []) e)
  two-faces vs e n t d c ou ov =
      elim (split (sub (u ∷ v ∷ []) e)) [
        | inr h ↦ rw h (sum_same (λ z. bit (sub (u ∷ v ∷ z ∷ []) e)) (λ z. 0) vs (λ z. ap bit (nope (λ s. clash (less z s) h))) ∙ sum-zero vs)
        | inl h ↦
            let hu = sub-elim (u ∷ v ∷ []) e h u (mem-here u (v ∷ [])) in
            let hv = sub-elim (u ∷ v ∷ []) e h v (mem-there v u (v ∷ []) (mem-here v [])) in
            let rest = rm v (rm u e) in
            let kept = keep (λ z. mem z e) vs in
            let l₁ = rm-length u e t.distinct hu in
            let l₂ = rm-length v (rm u e) (rm-nodup u e t.distinct) (rm-mem u v e (λ q. uv (sym q)) ∙ hv) in
            let four = t.four in
            let low = short rest kept (rm-nodup v (rm u e) (rm-nodup u e t.distinct)) (λ z m.
            let i = rm-sub v z (rm u e) m in
            let j = rm-sub u z e i in
            keep-mem (λ w. mem w e) vs z ∙ rw (c z j (apart z u (rm u e) i (rm-out u e)) (apart z v rest m (rm-out v (rm u e))), j) refl) in
            let high = short kept rest (keep-nodup (λ z. mem z e) vs d) (λ z m.
            let i = sym (keep-mem (λ w. mem w e) vs z) ∙ m in
            let j = and-fst (mem z vs) (mem z e) i in
            rm-mem v z (rm u e) (apart z v vs j ov) ∙ (rm-mem u z e (apart z u vs j ou) ∙ and-snd (mem z vs) (mem z e) i)) in
            let s = sum_same (λ z. bit (sub (u ∷ v ∷ z ∷ []) e)) (λ z. bit (mem z e)) vs (λ z. ap bit (thirds z hu hv)) in
            let k = sum-bits (λ z. mem z e) vs in
            rw h (omega arith)
      ]
    where
      less : (z : ℕ) → sub (u ∷ v ∷ z ∷ []) e ≡ true → sub (u ∷ v ∷ []) e ≡ true
      less z s = let k = sub-elim (u ∷ v ∷ z ∷ []) e s in sub-intro (u ∷ v ∷ []) e (Sub-cons u (v ∷ []) e (k u (mem-here u (v ∷ z ∷ []))) (Sub-cons v [] e (k v (mem-there v u (v ∷ z ∷ []) (mem-here v (z ∷ [])))) (λ w m. absurd (mem-nil w m))))

      thirds : (z : ℕ) → mem u e ≡ true → mem v e ≡ true → sub (u ∷ v ∷ z ∷ []) e ≡ mem z e
      thirds z hu hv = rw (hu, hv) (elim (split (mem z e)) [ inl i ↦ rw i refl | inr i ↦ rw i refl ])

  -- so the elements of the faces at an edge are twice those of the edge
  faces-at : (n : ℕ) (vs : List ℕ) (es : List (List ℕ)) → Proper n es → Nodup vs → ((z : ℕ) → z < n → z ≢ u → z ≢ v → mem z vs ≡ true) → mem u vs ≡ false → mem v vs ≡ false → sum (λ z. star (u ∷ v ∷ z ∷ []) es) vs ≡ 2 * star (u ∷ v ∷ []) es
  unfolding star
  faces-at n vs [] P d c ou ov = sum-zero vs
  faces-at n vs (e ∷ es) P d c ou ov =
      let ih = faces-at n vs es P.2 d c ou ov in
      let t = two-faces vs e n P.0 d (λ z m. c z (P.0.below z m)) ou ov in
      let s = sum_same (λ z. length (keep (sub (u ∷ v ∷ z ∷ [])) (e ∷ es))) (λ z. bit (sub (u ∷ v ∷ z ∷ []) e) + length (keep (sub (u ∷ v ∷ z ∷ [])) es)) vs (λ z. keep-cons (sub (u ∷ v ∷ z ∷ [])) e es) in
      let a = sum-add (λ z. bit (sub (u ∷ v ∷ z ∷ []) e)) (λ z. length (keep (sub (u ∷ v ∷ z ∷ [])) es)) vs in
      let k = keep-cons (sub (u ∷ v ∷ [])) e es in
      omega arith

  -- an edge of a face that one element has lies in another such face, if no triangle lies in three elements
  pub closed : (n : ℕ) (es : List (List ℕ)) → Proper n es → ((z : ℕ) → z ≢ u → z ≢ v → star (u ∷ v ∷ z ∷ []) es ≤ 2) → (a : ℕ) → a ≢ u → a ≢ v → star (u ∷ v ∷ a ∷ []) es ≡ 1 → (y : ℕ) × (y ≢ u) × (y ≢ v) × (y ≢ a) × (star (u ∷ v ∷ y ∷ []) es ≡ 1)
  closed n es P h a au av s =
      let vs = rm u (rm v (up_to n)) in
      let d : Nodup (rm u (rm v (up_to n))) = rm-nodup u (rm v (up_to n)) (rm-nodup v (up_to n) (up_to-nodup n)) in
      let ov : mem v (rm u (rm v (up_to n))) ≡ false = rm-mem u v (rm v (up_to n)) (flip≢ uv) ∙ rm-out v (up_to n) in
      let c : (z : ℕ) → z < n → z ≢ u → z ≢ v → mem z (rm u (rm v (up_to n))) ≡ true = λ z l zu zv. rm-mem u z (rm v (up_to n)) zu ∙ (rm-mem v z (up_to n) zv ∙ up_to-mem n z l) in
      let e = star-some (u ∷ v ∷ a ∷ []) es (omega arith) in
      let a<n = (tet-of {n = n} P e.1).below a (e.2 a (mem-there a u (v ∷ a ∷ []) (mem-there a v (a ∷ []) (mem-here a [])))) in
      let f : ℕ → ℕ = λ z. star (u ∷ v ∷ z ∷ []) es in
      let S = faces-at n vs es P d c (rm-out u (rm v (up_to n))) ov in
      let A = sum-rm f a vs d (c a a<n au av) in
      let in-vs : (z : ℕ) → mem z (rm a (rm u (rm v (up_to n)))) ≡ true → (z ≢ u) × (z ≢ v) × (z ≢ a) = λ z m.
      let i = rm-sub a z vs m in
      (apart z u vs i (rm-out u (rm v (up_to n))), apart z v vs i ov, apart z a (rm a vs) m (rm-out a vs)) in
      elim (odd-or-even f (rm a vs) (λ z m. h z (in-vs z m).0 (in-vs z m).1)) [
        | inl r ↦ let k = in-vs r.0 r.1 in (r.0, k.0, k.1, k.2, r.2)
        | inr r ↦ absurd (let E = r.1 in omega arith)
      ]

-- ---- the boundary about an edge

-- no triangle lies in three elements
abbrev pub AtMostTwo : List (List ℕ) → Type 0
AtMostTwo es = (σ : List ℕ) → length σ ≡ 3 → Nodup σ → star σ es ≤ 2

module _ (n a b : ℕ) (ts : List Tet) (P : Proper n (map vertices_of ts)) (T : AtMostTwo (map vertices_of ts)) (ab : a ≢ b) where
  -- a vertex of the boundary faces about an edge lies on one that has not both ends
  pub boundary-outlives : (x : ℕ) → x ≢ a → x ≢ b → within (x ∷ []) (map corners_of (boundary_about a b ts)) ≡ true → outlives a b (boundary_about a b ts) x ≡ true
  boundary-outlives x xa xb w =
      let r = edge-elim (boundary_about a b ts) (x ∷ []) w in
      let ix = r.2 x (mem-here x []) in
      elim (split (mem a (corners_of r.0) && mem b (corners_of r.0))) [
        | inr h ↦ outlives-intro a b (boundary_about a b ts) x r.0 r.1 (λ p q. clash (rw (p, q) refl) h) ix
        | inl h ↦ beside r.0 r.1 (and-fst (mem a (corners_of r.0)) (mem b (corners_of r.0)) h) (and-snd (mem a (corners_of r.0)) (mem b (corners_of r.0)) h) ix
      ]
    where
      beside : (f : Triple) → Memᴰ f (boundary_about a b ts) → mem a (corners_of f) ≡ true → mem b (corners_of f) ≡ true → mem x (corners_of f) ≡ true → outlives a b (boundary_about a b ts) x ≡ true
      beside f m ia ib ix =
          let three : Sub (b ∷ x ∷ a ∷ []) (corners_of f) = Sub-cons b (x ∷ a ∷ []) (corners_of f) ib (Sub-two x a (corners_of f) ix ia) in
          let back = full (b ∷ x ∷ a ∷ []) (corners_of f) (three-nodup b x a (flip≢ xb) (flip≢ ab) xa) three (omega arith) in
          let s = star-alike (b ∷ x ∷ a ∷ []) (corners_of f) (map vertices_of ts) three back ∙ (boundary-elim a b ts (proper-fours n ts P) f m).single in
          let y = closed b x (flip≢ xb) n (map vertices_of ts) P (λ z zb zx. T (b ∷ x ∷ z ∷ []) refl (three-nodup b x z (flip≢ xb) (flip≢ zb) (flip≢ zx))) a ab (flip≢ xa) s in
          let g = edge-elim (boundary_about a b ts) (b ∷ x ∷ y.0 ∷ []) (boundary-within a b ts (proper-fours n ts P) b x y.0 (inr refl) (flip≢ xb) (flip≢ y.1) (flip≢ y.2) y.4) in
          let d : Nodup (a ∷ b ∷ x ∷ y.0 ∷ []) = (out a b (x ∷ y.0 ∷ []) ab (out a x (y.0 ∷ []) (flip≢ xa) (out a y.0 [] (flip≢ y.3) refl)), three-nodup b x y.0 (flip≢ xb) (flip≢ y.1) (flip≢ y.2)) in
          outlives-intro a b (boundary_about a b ts) x g.0 g.1
          (λ p q. let l = short (a ∷ b ∷ x ∷ y.0 ∷ []) (corners_of g.0) d (Sub-cons a (b ∷ x ∷ y.0 ∷ []) (corners_of g.0) p g.2) in omega arith)
          (g.2 x (mem-there x b (x ∷ y.0 ∷ []) (mem-here x (y.0 ∷ []))))

-- the tests by masks without the question whether x outlives the collapse (READINGS D9): each x beside a and b that is a neighbour of a and not of
-- b shares with a what it shares with b, or shares fewer than two bits with b; and no neighbour of both shares two with a, where a and b are neighbours
abbrev pub rim_by_neighbours : (ℕ → ℕ) → ℕ → ℕ → List Triple → ℕ → Bool
rim_by_neighbours stratum a b fs x = not (on_curve stratum b x) || (joined fs b x || same_simplex (shared (stratum a) (stratum x)) (shared (stratum b) (stratum x)))

unfoldable pub feature_by_neighbours : (ℕ → ℕ) → ℕ → ℕ → List Triple → Bool
feature_by_neighbours stratum a b fs = every (λ x. eqb x a || (eqb x b || (rim_by_neighbours stratum a b fs x && curve_ok stratum a b fs x))) (all_corners fs)

every-same : (p q : ℕ → Bool) (xs : List ℕ) → ((x : ℕ) → mem x xs ≡ true → p x ≡ q x) → every p xs ≡ every q xs
every-same p q xs h = same (λ k. mem-every q xs (λ x m. sym (h x m) ∙ every-mem p xs k x m)) (λ k. mem-every p xs (λ x m. h x m ∙ every-mem q xs k x m))

-- where no triangle lies in three elements, the feature tests are those by neighbours
pub boundary-neighbours : (stratum : ℕ → ℕ) (n a b : ℕ) (ts : List Tet) → Proper n (map vertices_of ts) → AtMostTwo (map vertices_of ts) → a ≢ b → Sub (bits_of (stratum a)) (bits_of (stratum b)) → feature_ok stratum a b (boundary_about a b ts) ≡ feature_by_neighbours stratum a b (boundary_about a b ts)
unfolding feature_by_masks feature_by_neighbours
boundary-neighbours stratum n a b ts P T ab S = boundary-masks stratum a b ts (proper-fours n ts P) ab S ∙ every-same (λ x. eqb x a || (eqb x b || (rim_ok stratum a b fs x && curve_ok stratum a b fs x))) (λ x. eqb x a || (eqb x b || (rim_by_neighbours stratum a b fs x && curve_ok stratum a b fs x))) (all_corners fs) at
  where
    fs : List Triple
    fs = boundary_about a b ts

    at : (x : ℕ) → mem x (all_corners fs) ≡ true → (eqb x a || (eqb x b || (rim_ok stratum a b fs x && curve_ok stratum a b fs x))) ≡ (eqb x a || (eqb x b || (rim_by_neighbours stratum a b fs x && curve_ok stratum a b fs x)))
    at x m =
        elim (split (eqb x a)) [
          | inl h ↦ rw h refl
          | inr h ↦ elim (split (eqb x b)) [
            | inl k ↦ rw (h, k) refl
            | inr k ↦ rw (h, k) (rw (boundary-outlives n a b ts P T ab x (eqb-false x a h) (eqb-false x b k) (sym (on-face x fs) ∙ m)) refl)
          ]
        ]

-- ---- where `boundary` gives no number

-- the number of each key is 0
first-zero : (fs ks : List Triple) → first_number fs ks ≡ 0 → {k : Triple} → Memᴰ k ks → key_number (with_key k fs) ≡ 0
unfolding first_number
first-zero fs [] h m = absurd (Memᴰ.not-nil m)
first-zero fs (j ∷ ks) h m =
    elim (split (eqb (key_number (with_key j fs)) 0)) [
      | inl z ↦ elim (Memᴰ.cases_cons m) [ inl e ↦ rw e (eqb-true (key_number (with_key j fs)) 0 z) | inr i ↦ first-zero fs ks (rw z at h) i ]
      | inr z ↦ absurd (eqb-false (key_number (with_key j fs)) 0 z (rw z at h))
    ]

-- a key of number 0 has at most two faces
two-or-fewer : (gs : List Triple) → key_number gs ≡ 0 → length gs ≤ 2
unfolding key_number
two-or-fewer [] h = omega arith
two-or-fewer (f ∷ []) h = omega arith
two-or-fewer (f ∷ g ∷ []) h = omega arith
two-or-fewer (f ∷ g ∷ e ∷ gs) h = absurd (omega arith)

-- and as many as it stands among the keys
pub with-key : (k : Triple) (fs : List Triple) → length (with_key k fs) ≡ times same_triple k (map key_of fs)
with-key k [] = refl
with-key k (f ∷ fs) =
    let ih = with-key k fs in
    let e : same_triple (key_of f) k ≡ same_triple k (key_of f) = same
    (λ h. subst (λ g. same_triple g (key_of f) ≡ true) (triple-decides.equal (key_of f) k h) (triple-decides.self (key_of f)))
    (λ h. subst (λ g. same_triple g k ≡ true) (triple-decides.equal k (key_of f) h) (triple-decides.self k)) in
    rw e (elim (split (same_triple k (key_of f))) [ inl h ↦ rw h (ap suc ih) | inr h ↦ rw h ih ])

insert-member : {A : Type 0} (le : A → A → Bool) {x : A} (y : A) (l : List A) → (x ≡ y) ⊎ Memᴰ x l → Memᴰ x (insert le y l)
unfolding insert
insert-member le y [] w = elim w [ inl e ↦ Memᴰ.head e | inr m ↦ absurd (Memᴰ.not-nil m) ]
insert-member le y (z ∷ l) w =
    elim (split (le y z)) [
      | inl h ↦ rw h (elim w [ inl e ↦ Memᴰ.head e | inr m ↦ Memᴰ.tail m ])
      | inr h ↦ rw h (elim w [
        | inl e ↦ Memᴰ.tail (insert-member le y l (inl e))
        | inr m ↦ elim (Memᴰ.cases_cons m) [ inl e ↦ Memᴰ.head e | inr i ↦ Memᴰ.tail (insert-member le y l (inr i)) ]
      ])
    ]

sort-member : {A : Type 0} (le : A → A → Bool) {x : A} (l : List A) → Memᴰ x l → Memᴰ x (sort le l)
unfolding sort
sort-member le [] m = absurd (Memᴰ.not-nil m)
sort-member le (y ∷ l) m = insert-member le y (sort le l) (elim (Memᴰ.cases_cons m) [ inl e ↦ inl e | inr i ↦ inr (sort-member le l i) ])

-- where `boundary` gives neither 16 nor 17, no triangle lies in three elements
pub boundary-two : (ts : List Tet) → Fours ts → boundary_number ts ≡ 0 → AtMostTwo (map vertices_of ts)
unfolding boundary_number
boundary-two ts P h (x ∷ y ∷ z ∷ []) l d =
    let k = key_of (triple x y z) in
    let s = star-alike (x ∷ y ∷ z ∷ []) (corners_of k) (map vertices_of ts) (λ w m. key-mem (triple x y z) w ∙ m) (λ w m. sym (key-mem (triple x y z) w) ∙ m) in
    let t = times-star k (key-rising (triple x y z) d) ts P in
    let w = with-key k (all_faces ts) in
    elim (split (leb 1 (times same_triple k (map key_of (all_faces ts))))) [
      | inl i ↦ let r = two-or-fewer (with_key k (all_faces ts)) (first-zero (all_faces ts) (sort le_triple (map key_of (all_faces ts))) h (sort-member le_triple (map key_of (all_faces ts)) (times-some same_triple triple-decides k (map key_of (all_faces ts)) (leb-true 1 (times same_triple k (map key_of (all_faces ts))) i)))) in omega arith
      | inr i ↦ let r = leb-false 1 (times same_triple k (map key_of (all_faces ts))) i in omega arith
    ]
boundary-two ts P h [] l d = absurd (omega arith)
boundary-two ts P h (x ∷ []) l d = absurd (omega arith)
boundary-two ts P h (x ∷ y ∷ []) l d = absurd (omega arith)
boundary-two ts P h (x ∷ y ∷ z ∷ w ∷ σ) l d = absurd (omega arith)
