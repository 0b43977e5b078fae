-- The rows of the boundary faces about the edge are the sets of their vertices without the end of the edge. So the runs of the sorted rows
-- pass exactly where the boundary links meet. Assumes nothing.
use Rattle.std.proofs.Common.{◌≡◌, ℕ, ◌<◌, ◌≤◌, true, false, eqb, List, [], ◌∷◌, ◌++◌, map, length, sym, refl, ap, ◌∙◌, subst, inl, inr, arith, ltb-true, lt-ltb, eq-eqb, ne_eqb, eqb-true}
use mathlib.Core.List.Memᴰ
use mathlib.Core.List.{Memᴰ}
use borrow.Author.Tests.{eqb-false}
use Rattle.mesh.specs.declared.element.Tet.{Tet}
use Rattle.mesh.specs.declared.element.Triple.{Triple}
use Rattle.mesh.specs.Sort.{sort}
use Rattle.mesh.specs.inside.Rows.{le_row}
use Rattle.mesh.specs.Complex.{mem, Nodup, Sub}
use Rattle.mesh.specs.Tests.{every}
use Rattle.mesh.specs.Element.{triple, corners_of}
use Rattle.mesh.specs.Link.{subsets, boundary_about, boundary_ok}
use Rattle.mesh.specs.inside.Group.{runs, same_first}
use Rattle.mesh.specs.inside.LinkRows.{mark, apex, beside, link_pair, two_words, face_rows, alone_faces, rows_of_faces, meet_run}
use Rattle.mesh.proofs.Laws.Complex.Sets.{split, clash, nope, mem-here, mem-cases, mem-nil, rm, rm-out, rm-mem, rm-none, rm-sub, short}
use Rattle.mesh.proofs.Laws.Link.Simplices.{rising, rising-head, rising-tail, rising-nodup, subset-elim, subset-intro}
use Rattle.mesh.proofs.Laws.Link.Keys.{Fours}
use Rattle.mesh.proofs.Laws.Link.Boundary.{boundary-elim}
use Rattle.mesh.proofs.Laws.LinkRows.Marks.{two-pads}
use Rattle.mesh.proofs.Laws.LinkRows.Meet.{Part, Listed, runs-meet}
use Rattle.mesh.proofs.Laws.LinkRows.Elements.{apex-in}
use Rattle.mesh.proofs.Laws.LinkRows.Faces.{about-mark, alone-elim, alone-intro}

-- ---- the vertices but one

-- v taken out of a key
beside-rm : (f : Triple) (v : ℕ) → rising (corners_of f) ≡ true → mem v (corners_of f) ≡ true → (beside f v).a ∷ (beside f v).b ∷ [] ≡ rm v (corners_of f)
unfolding beside
beside-rm f v n m = go f.a f.b f.c (rising-nodup (corners_of f) n) m
  where
    flip : (x y : ℕ) → eqb x y ≡ false → eqb y x ≡ false
    flip x y h = ne_eqb y x (λ e. eqb-false x y h (sym e))

    go : (a b c : ℕ) → Nodup (a ∷ b ∷ c ∷ []) → mem v (a ∷ b ∷ c ∷ []) ≡ true → (beside (triple a b c) v).a ∷ (beside (triple a b c) v).b ∷ [] ≡ rm v (a ∷ b ∷ c ∷ [])
    go a b c n m =
        elim (split (eqb a v)) [
          | inl h ↦ let e = eqb-true a v h in
              rw h (rw (eq-eqb v a (sym e)) (sym (rm-none v (b ∷ c ∷ []) (subst (λ (u : ℕ). mem u (b ∷ c ∷ []) ≡ false) e n.0))))
          | inr h ↦ rw (h, flip a v h) (elim (split (eqb b v)) [
            | inl k ↦ let e = eqb-true b v k in
                rw (k, eq-eqb v b (sym e)) (ap (λ (l : List ℕ). a ∷ l) (sym (rm-none v (c ∷ []) (subst (λ (u : ℕ). mem u (c ∷ []) ≡ false) e n.1.0))))
            | inr k ↦ let i : mem v (c ∷ []) ≡ true = rw (flip a v h, flip b v k) at m in
                elim (mem-cases v c [] i) [
                  | inl e ↦ rw (k, flip b v k, eq-eqb v c e) refl
                  | inr q ↦ absurd (mem-nil v q)
                ]
          ])
        ]

beside-rises : (f : Triple) (v : ℕ) → rising (corners_of f) ≡ true → rising ((beside f v).a ∷ (beside f v).b ∷ []) ≡ true
unfolding beside
beside-rises f v h =
    let ab = rising-head f.a (f.b ∷ f.c ∷ []) h f.b (mem-here f.b (f.c ∷ [])) in
    let bc = rising-head f.b (f.c ∷ []) (rising-tail f.a (f.b ∷ f.c ∷ []) h) f.c (mem-here f.c []) in
    elim (split (eqb f.a v)) [
      | inl p ↦ rw p (rw (lt-ltb f.b f.c bc) refl)
      | inr p ↦ rw p (elim (split (eqb f.b v)) [
        | inl q ↦ rw q (rw (lt-ltb f.a f.c (omega arith)) refl)
        | inr q ↦ rw q (rw (lt-ltb f.a f.b ab) refl)
      ])
    ]

-- ---- rows of one face

module _ (a b : ℕ) (f : Triple) (n : rising (corners_of f) ≡ true) (h : 0 < mark a b (corners_of f)) where
  abbrev ends : List ℕ
  ends = (link_pair a b f).a ∷ (link_pair a b f).b ∷ []

  abbrev v : ℕ
  v = apex a b (corners_of f)

  pair-mem : (z : ℕ) → mem z ends ≡ mem z (rm v (corners_of f))
  pair-mem z = ap (mem z) (beside-rm f v n (apex-in a b (corners_of f) h))

  pair-sub : (σ : List ℕ) → Sub σ (corners_of f) → mem v σ ≡ false → Sub σ ends
  pair-sub σ s o z m = pair-mem z ∙ (rm-mem v z (corners_of f) (λ e. clash (subst (λ (u : ℕ). mem u σ ≡ true) e m) o) ∙ s z m)

  pair_inside : (σ : List ℕ) → Sub σ ends → Sub σ (corners_of f)
  pair_inside σ s z m = rm-sub v z (corners_of f) (sym (pair-mem z) ∙ s z m)

  pair-without : (σ : List ℕ) → Sub σ ends → mem v σ ≡ false
  pair-without σ s = nope (λ m. clash (sym (pair-mem v) ∙ s v m) (rm-out v (corners_of f)))

-- ---- rows of all faces

rows-from : (a b : ℕ) (fs : List Triple) (q : List ℕ) → Memᴰ q (rows_of_faces a b fs) → (f : Triple) × Memᴰ f fs × Memᴰ q (face_rows a b f)
unfolding rows_of_faces
rows-from a b [] q m = absurd (Memᴰ.not-nil m)
rows-from a b (f ∷ fs) q m =
    elim (Memᴰ.append_cases (face_rows a b f) m) [
      | inl i ↦ (f, Memᴰ.head refl, i)
      | inr i ↦ let r = rows-from a b fs q i in (r.0, Memᴰ.tail r.1, r.2)
    ]

rows_in : (a b : ℕ) (fs : List Triple) (f : Triple) (q : List ℕ) → Memᴰ f fs → Memᴰ q (face_rows a b f) → Memᴰ q (rows_of_faces a b fs)
unfolding rows_of_faces
rows_in a b [] f q m i = absurd (Memᴰ.not-nil m)
rows_in a b (g ∷ fs) f q m i =
    elim (Memᴰ.cases_cons m) [
      | inl e ↦ Memᴰ.append_left (rows_of_faces a b fs) (rw e at i)
      | inr e ↦ Memᴰ.append_right (face_rows a b g) (rows_in a b fs f q e i)
    ]

module _ (a b : ℕ) (ts : List Tet) (F : Fours ts) where
  -- the boundary faces about the edge, as simplices, and the rows of the faces alone
  abbrev pub face_sets : List (List ℕ)
  face_sets = map corners_of (boundary_about a b ts)

  abbrev row_list : List (List ℕ)
  row_list = rows_of_faces a b (alone_faces a b ts)

  face-marked : (f : Triple) → Memᴰ f (boundary_about a b ts) → 0 < mark a b (corners_of f)
  face-marked f m = ltb-true 0 (mark a b (corners_of f)) (sym (about-mark a b (corners_of f)) ∙ (boundary-elim a b ts F f m).about)

  row-there : (f : Triple) (σ : List ℕ) → Memᴰ f (boundary_about a b ts) → Part 2 a b face_sets (corners_of f) σ → Memᴰ (two_words σ ++ (mark a b (corners_of f) ∷ [])) row_list
  row-there f σ m p =
      let l = p.small in
      rows_in a b (alone_faces a b ts) f (two_words σ ++ (mark a b (corners_of f) ∷ [])) (alone-intro a b ts f m)
      (Memᴰ.map (λ ρ. two_words ρ ++ (mark a b (corners_of f) ∷ []))
      (subset-intro ((link_pair a b f).a ∷ (link_pair a b f).b ∷ []) σ (beside-rises f (apex a b (corners_of f)) (boundary-elim a b ts F f m).rises) p.some (omega arith) p.rises
      (pair-sub a b f (boundary-elim a b ts F f m).rises p.about σ p.inside p.without)))

  -- each row comes from a face
  pub row-origin : (q : List ℕ) → Memᴰ q row_list → (τ : List ℕ) × (σ : List ℕ) × Part 2 a b face_sets τ σ × (q ≡ two_words σ ++ (mark a b τ ∷ []))
  row-origin q m =
      let o = rows-from a b (alone_faces a b ts) q m in
      let f = o.0 in
      let i = alone-elim a b ts o.0 o.1 in
      let n = (boundary-elim a b ts F o.0 i).rises in
      let h = face-marked o.0 i in
      let r = Memᴰ.of_map (λ ρ. two_words ρ ++ (mark a b (corners_of f) ∷ [])) (subsets ((link_pair a b f).a ∷ (link_pair a b f).b ∷ [])) o.2 in
      let s = subset-elim ((link_pair a b f).a ∷ (link_pair a b f).b ∷ []) (beside-rises f (apex a b (corners_of f)) n) r.1 in
      let l = short r.0 ((link_pair a b f).a ∷ (link_pair a b f).b ∷ []) (rising-nodup r.0 s.2) s.3 in (
        corners_of f,
        r.0,
        record {
          simplex = Memᴰ.map corners_of i;
          about = h;
          some = s.0;
          small = l;
          rises = s.2;
          inside = pair_inside a b f n h r.0 s.3;
          without = pair-without a b f n h r.0 s.3;
        },
        sym r.2,
      )

  pub faces-listed : Listed 2 two_words a b face_sets row_list
  faces-listed = record {
    there = λ τ σ p.
        let r = Memᴰ.of_map corners_of (boundary_about a b ts) p.simplex in
        subst (λ (u : List ℕ). Memᴰ (two_words σ ++ (mark a b u ∷ [])) row_list) r.2
        (row-there r.0 σ r.1 (subst (λ (u : List ℕ). Part 2 a b face_sets u σ) (sym r.2) p));
    back = λ q m h. row-origin q m;
  }

  -- the boundary test by rows
  pub boundary-runs : every (meet_run 2) (runs (same_first 2) (sort le_row (rows_of_faces a b (alone_faces a b ts)))) ≡ boundary_ok a b ts
  unfolding boundary_ok
  boundary-runs =
      runs-meet 2 two-pads a b face_sets row_list faces-listed (omega arith)
      (λ τ m. let r = Memᴰ.of_map corners_of (boundary_about a b ts) m in subst (λ (u : List ℕ). Nodup u × (length u ≤ 3)) r.2 (rising-nodup (corners_of r.0) (boundary-elim a b ts F r.0 r.1).rises, omega arith))
