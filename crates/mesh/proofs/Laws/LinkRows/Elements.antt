-- The rows of elements: those with a mark are the sets of vertices of an element with a or b, without its end of the edge. So the runs of
-- the sorted rows pass exactly where the interior links meet. Assumes nothing.
use Rattle.std.proofs.Common.{◌≡◌, ℕ, ◌+◌, ◌*◌, ◌/◌, ◌%◌, ◌<◌, ◌≤◌, true, false, eqb, ◌≢◌, List, [], ◌∷◌, ◌++◌, map, length, get_or, sym, refl, ap, ◌∙◌, subst, inl, inr, arith, eq-eqb, ne_eqb, eqb-true}
use mathlib.Core.List.Memᴰ
use mathlib.Core.List.{Memᴰ}
use borrow.Author.Tests.{eqb-false}
use Rattle.mesh.specs.declared.element.Tet.{Tet}
use Rattle.mesh.specs.Sort.{sort}
use Rattle.mesh.specs.inside.Rows.{le_row}
use Rattle.mesh.specs.Complex.{mem, Nodup, Sub}
use Rattle.mesh.specs.Tests.{every, nodup}
use Rattle.mesh.specs.Element.{vertices_of, corners_of, tets}
use Rattle.mesh.specs.Link.{interior_ok, subsets}
use Rattle.mesh.specs.Words.{numbers}
use Rattle.mesh.specs.inside.Group.{runs, same_first}
use Rattle.mesh.specs.inside.Intake.{tet_at}
use Rattle.mesh.specs.inside.Euler.{spread}
use Rattle.mesh.specs.inside.LinkRows.{mark, apex, opposite, link_face, three_words, element_rows, subset_at, element_row_at, meet_run}
use Rattle.mesh.proofs.Laws.Complex.Sets.{split, clash, nope, mem-cases, mem-nil, out-head, out-tail, rm, rm-out, rm-mem, rm-none, rm-sub}
use Rattle.mesh.proofs.Laws.Euler.Areas.{spread-numbers}
use Rattle.mesh.proofs.Laws.Euler.Faces.{spread-from, spread-in}
use Rattle.mesh.proofs.Laws.Link.Members.{every-elim}
use Rattle.mesh.proofs.Laws.Link.Simplices.{rising, subset-elim, subset-intro}
use Rattle.mesh.proofs.Laws.Link.Keys.{Fours, key-mem, key-rising, three-nodup}
use Rattle.mesh.proofs.Laws.LinkRows.Marks.{three-pads, pad-mark}
use Rattle.mesh.proofs.Laws.LinkRows.Meet.{Part, Listed, runs-meet}
use Rattle.mesh.proofs.Laws.Complex.Tests.{nodup-sound}

-- ---- the vertices but one

opposite-nodup : (t : Tet) (v : ℕ) → Nodup (vertices_of t) → Nodup (corners_of (opposite t v))
unfolding opposite
opposite-nodup t v n =
    let a = t.a in
    let b = t.b in
    let c = t.c in
    let d = t.d in
    let n₁ = out-tail a b (c ∷ d ∷ []) n.0 in
    let ab : t.a ≢ t.b = out-head a b (c ∷ d ∷ []) n.0 in
    let ac : t.a ≢ t.c = out-head a c (d ∷ []) n₁ in
    let ad : t.a ≢ t.d = out-head a d [] (out-tail a c (d ∷ []) n₁) in
    let bc : t.b ≢ t.c = out-head b c (d ∷ []) n.1.0 in
    let bd : t.b ≢ t.d = out-head b d [] (out-tail b c (d ∷ []) n.1.0) in
    let cd : t.c ≢ t.d = out-head c d [] n.1.1.0 in
    elim (split (eqb t.a v)) [
      | inl h ↦ rw h (three-nodup b c d bc bd cd)
      | inr h ↦ rw h (elim (split (eqb t.b v)) [
        | inl k ↦ rw k (three-nodup a c d ac ad cd)
        | inr k ↦ rw k (elim (split (eqb t.c v)) [
          | inl j ↦ rw j (three-nodup a b d ab ad bd)
          | inr j ↦ rw j (three-nodup a b c ab ac bc)
        ])
      ])
    ]

-- v taken out of four different vertices
opposite-rm : (t : Tet) (v : ℕ) → Nodup (vertices_of t) → mem v (vertices_of t) ≡ true → corners_of (opposite t v) ≡ rm v (vertices_of t)
unfolding opposite
opposite-rm t v n m = go t.a t.b t.c t.d n m
  where
    flip : (x y : ℕ) → eqb x y ≡ false → eqb y x ≡ false
    flip x y h = ne_eqb y x (λ e. eqb-false x y h (sym e))

    go : (a b c d : ℕ) → Nodup (a ∷ b ∷ c ∷ d ∷ []) → mem v (a ∷ b ∷ c ∷ d ∷ []) ≡ true → corners_of (opposite (record { a = a; b = b; c = c; d = d }) v) ≡ rm v (a ∷ b ∷ c ∷ d ∷ [])
    go a b c d n m =
        elim (split (eqb a v)) [
          | inl h ↦ let e = eqb-true a v h in
              rw h (rw (eq-eqb v a (sym e)) (sym (rm-none v (b ∷ c ∷ d ∷ []) (subst (λ (u : ℕ). mem u (b ∷ c ∷ d ∷ []) ≡ false) e n.0))))
          | inr h ↦ rw (h, flip a v h) (elim (split (eqb b v)) [
            | inl k ↦ let e = eqb-true b v k in
                rw (k, eq-eqb v b (sym e)) (ap (λ (l : List ℕ). a ∷ l) (sym (rm-none v (c ∷ d ∷ []) (subst (λ (u : ℕ). mem u (c ∷ d ∷ []) ≡ false) e n.1.0))))
            | inr k ↦ rw (k, flip b v k) (elim (split (eqb c v)) [
              | inl j ↦ let e = eqb-true c v j in
                  rw (j, eq-eqb v c (sym e)) (ap (λ (l : List ℕ). a ∷ b ∷ l) (sym (rm-none v (d ∷ []) (subst (λ (u : ℕ). mem u (d ∷ []) ≡ false) e n.1.1.0))))
              | inr j ↦ let i : mem v (d ∷ []) ≡ true = rw (flip a v h, flip b v k, flip c v j) at m in
                  elim (mem-cases v d [] i) [
                    | inl e ↦ rw (j, flip c v j, eq-eqb v d e) refl
                    | inr q ↦ absurd (mem-nil v q)
                  ]
            ])
          ])
        ]

-- ---- rows of one element

-- an element with a or b has its end of the edge
pub apex-in : (a b : ℕ) (τ : List ℕ) → 0 < mark a b τ → mem (apex a b τ) τ ≡ true
apex-in a b τ h =
    elim (split (mem a τ)) [
      | inl p ↦ rw p p
      | inr p ↦ elim (split (mem b τ)) [ inl q ↦ rw p q | inr q ↦ absurd (none (rw (p, q) at h)) ]
    ]
  where
    none : 0 < 0 → ⊥
    none h = omega arith

module _ (a b : ℕ) (t : Tet) (n : Nodup (vertices_of t)) where
  face-rises : rising (corners_of (link_face a b t)) ≡ true
  face-rises = key-rising (opposite t (apex a b (vertices_of t))) (opposite-nodup t (apex a b (vertices_of t)) n)

  module _ (h : 0 < mark a b (vertices_of t)) where
    face-mem : (z : ℕ) → mem z (corners_of (link_face a b t)) ≡ mem z (rm (apex a b (vertices_of t)) (vertices_of t))
    face-mem z = key-mem (opposite t (apex a b (vertices_of t))) z ∙ ap (mem z) (opposite-rm t (apex a b (vertices_of t)) n (apex-in a b (vertices_of t) h))

    face-sub : (σ : List ℕ) → Sub σ (vertices_of t) → mem (apex a b (vertices_of t)) σ ≡ false → Sub σ (corners_of (link_face a b t))
    face-sub σ s o z m = face-mem z ∙ (rm-mem (apex a b (vertices_of t)) z (vertices_of t) (λ e. clash (subst (λ (u : ℕ). mem u σ ≡ true) e m) o) ∙ s z m)

    face-inside : (σ : List ℕ) → Sub σ (corners_of (link_face a b t)) → Sub σ (vertices_of t)
    face-inside σ s z m = rm-sub (apex a b (vertices_of t)) z (vertices_of t) (sym (face-mem z) ∙ s z m)

    face-without : (σ : List ℕ) → Sub σ (corners_of (link_face a b t)) → mem (apex a b (vertices_of t)) σ ≡ false
    face-without σ s = nope (λ m. clash (sym (face-mem (apex a b (vertices_of t))) ∙ s (apex a b (vertices_of t)) m) (rm-out (apex a b (vertices_of t)) (vertices_of t)))

-- ---- rows of all elements

pub fours : (ts : List Tet) → every (λ t. nodup (vertices_of t)) ts ≡ true → Fours ts
fours ts h t m = nodup-sound (vertices_of t) (every-elim (λ t. nodup (vertices_of t)) ts h m)

module _ (a b : ℕ) (ts : List Tet) (F : Fours ts) where
  row-there : (t : Tet) (σ : List ℕ) → Memᴰ t ts → Part 3 a b (map vertices_of ts) (vertices_of t) σ → Memᴰ (three_words σ ++ (mark a b (vertices_of t) ∷ [])) (spread (element_rows a b) ts)
  row-there t σ m p =
      spread-in (element_rows a b) ts t (three_words σ ++ (mark a b (vertices_of t) ∷ [])) m
      (Memᴰ.map (λ ρ. three_words ρ ++ (mark a b (vertices_of t) ∷ []))
      (subset-intro (corners_of (link_face a b t)) σ (face-rises a b t (F t m)) p.some p.small p.rises (face-sub a b t (F t m) p.about σ p.inside p.without)))

  row_back : (q : List ℕ) (t : Tet) → Memᴰ t ts → Memᴰ q (element_rows a b t) → 0 < get_or q 3 0 → (τ : List ℕ) × (σ : List ℕ) × Part 3 a b (map vertices_of ts) τ σ × (q ≡ three_words σ ++ (mark a b τ ∷ []))
  row_back q t m i h =
      let r = Memᴰ.of_map (λ ρ. three_words ρ ++ (mark a b (vertices_of t) ∷ [])) (subsets (corners_of (link_face a b t))) i in
      let s = subset-elim (corners_of (link_face a b t)) (face-rises a b t (F t m)) r.1 in
      let k : get_or q 3 0 ≡ mark a b (vertices_of t) = ap (λ (u : List ℕ). get_or u 3 0) (sym r.2) ∙ pad-mark three-pads r.0 s.0 s.1 (mark a b (vertices_of t)) in
      let p : 0 < mark a b (vertices_of t) = subst (λ (u : ℕ). 0 < u) k h in (
        vertices_of t,
        r.0,
        record {
          simplex = Memᴰ.map vertices_of m;
          about = p;
          some = s.0;
          small = s.1;
          rises = s.2;
          inside = face-inside a b t (F t m) p r.0 s.3;
          without = face-without a b t (F t m) p r.0 s.3;
        },
        sym r.2,
      )

  elements-listed : Listed 3 three_words a b (map vertices_of ts) (spread (element_rows a b) ts)
  elements-listed = record {
    there = λ τ σ p.
        let r = Memᴰ.of_map vertices_of ts p.simplex in
        subst (λ (u : List ℕ). Memᴰ (three_words σ ++ (mark a b u ∷ [])) (spread (element_rows a b) ts)) r.2
        (row-there r.0 σ r.1 (subst (λ (u : List ℕ). Part 3 a b (map vertices_of ts) u σ) (sym r.2) p));
    back = λ q m h. let r = spread-from (element_rows a b) ts q m in row_back q r.0 r.1 r.2 h;
  }

  -- the interior test by rows
  pub interior-runs : every (meet_run 3) (runs (same_first 3) (sort le_row (spread (element_rows a b) ts))) ≡ interior_ok a b ts
  unfolding interior_ok
  interior-runs =
      runs-meet 3 three-pads a b (map vertices_of ts) (spread (element_rows a b) ts) elements-listed (omega arith)
      (λ τ m. let r = Memᴰ.of_map vertices_of ts m in subst (λ (u : List ℕ). Nodup u × (length u ≤ 4)) r.2 (F r.0 r.1, omega arith))

-- ---- rows by number

-- the seven rows of the element i
pub seven-rows : (a b : ℕ) (s : List ℕ) (i : ℕ) → map (element_row_at a b s) (numbers (7 * i) 7) ≡ element_rows a b (tet_at s i)
unfolding numbers element_row_at subset_at
seven-rows a b s i = seven
  where
    at : (i j k : ℕ) → j / 7 ≡ i → j % 7 ≡ k → element_row_at a b s j ≡ corners_of (subset_at (link_face a b (tet_at s i)) k) ++ (mark a b (vertices_of (tet_at s i)) ∷ [])
    at i j k p q = rw (p, q) refl

    seven : map (element_row_at a b s) (numbers (7 * i) 7) ≡ element_rows a b (tet_at s i)
    seven =
        rw (
          at i (7 * i) 0 (omega arith) (omega arith),
          at i (7 * i + 1) 1 (omega arith) (omega arith),
          at i (7 * i + 1 + 1) 2 (omega arith) (omega arith),
          at i (7 * i + 1 + 1 + 1) 3 (omega arith) (omega arith),
          at i (7 * i + 1 + 1 + 1 + 1) 4 (omega arith) (omega arith),
          at i (7 * i + 1 + 1 + 1 + 1 + 1) 5 (omega arith) (omega arith),
          at i (7 * i + 1 + 1 + 1 + 1 + 1 + 1) 6 (omega arith) (omega arith),
        ) refl

pub element-rows : (a b : ℕ) (s : List ℕ) (n : ℕ) → map (element_row_at a b s) (numbers 0 (7 * n)) ≡ spread (element_rows a b) (tets n s)
unfolding numbers element_row_at subset_at
element-rows a b s n = spread-numbers s (element_row_at a b s) 7 (element_rows a b) (seven-rows a b s) n
