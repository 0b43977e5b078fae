-- The tests by masks, vertex by vertex, from the runs of the sorted rows of the boundary faces about the edge. Assumes nothing.
use Rattle.std.proofs.Common.{◌≡◌, ℕ, ◌<◌, ◌≤◌, Bool, true, false, not, ◌&&◌, ◌||◌, eqb, ◌≢◌, List, [], ◌∷◌, ◌++◌, length, get_or, take, sym, refl, ap, ◌∙◌, subst, inl, inr, arith, get_or-take, eq-eqb, ne_eqb, eqb-true}
use mathlib.Core.List.Memᴰ
use mathlib.Core.List.{Memᴰ}
use borrow.Author.Tests.{eqb-false}
use Rattle.mesh.specs.declared.element.Tet.{Tet}
use Rattle.mesh.specs.declared.element.Triple.{Triple}
use Rattle.mesh.specs.Sort.{sort, unique}
use Rattle.mesh.specs.inside.Rows.{le_row}
use Rattle.mesh.specs.Complex.{mem, keep, Sub}
use Rattle.mesh.specs.Tests.{every}
use Rattle.mesh.specs.Element.{corners_of, all_corners}
use Rattle.mesh.specs.Link.{same_simplex, boundary_about}
use Rattle.mesh.specs.Feature.{bits_of, shared, feature_ok}
use Rattle.mesh.specs.inside.FeatureByMasks.{joined, outlives, rim_ok, curve_ok, feature_by_masks}
use Rattle.mesh.specs.inside.Group.{runs, same_first}
use Rattle.mesh.specs.inside.LinkRows.{mark, two_words, alone_faces, rows_of_faces, marked, vertex_by, feature_run}
use Rattle.mesh.proofs.Laws.Complex.Sets.{split, clash, nope, same, or_cases, or_left, or_right, and-fst, and-snd, mem-here, mem-there, mem-nil, Sub-cons, within-intro, full}
use Rattle.mesh.proofs.Laws.Rows.{eq_row-sound, eq_row-refl}
use Rattle.mesh.proofs.Laws.Manifold.Kept.{every-sort}
use Rattle.mesh.proofs.Laws.Manifold.RowRuns.{every-run, kept-number}
use Rattle.mesh.proofs.Laws.Link.Members.{kept-elim, kept-intro, every-elim, every-intro}
use Rattle.mesh.proofs.Laws.Link.Simplices.{every-mem, mem-every, rising-head, rising-nodup, rising-unique}
use Rattle.mesh.proofs.Laws.Link.Links.{simplex-decides}
use Rattle.mesh.proofs.Laws.Link.Keys.{Fours}
use Rattle.mesh.proofs.Laws.Link.Boundary.{boundary-elim}
use Rattle.mesh.proofs.Laws.Link.Labels.{shared-rising, shared-mem, edge-elim, Sub-two}
use Rattle.mesh.proofs.Laws.Link.Masks.{on-face, outlives-intro, outlives-elim, boundary-masks}
use Rattle.mesh.proofs.Laws.LinkRows.Marks.{marked-elim, marked-intro, marked-kept, two-pads, pad-mark}
use Rattle.mesh.proofs.Laws.LinkRows.Meet.{mark-both, mark-first, mark-second, mark-1, mark-2, mark-3, Part, run-origin, run-marked}
use Rattle.mesh.proofs.Laws.LinkRows.Boundary.{face_sets, row-origin, faces-listed}

-- ---- bits

-- where a's bits are b's, the same bits are as many
same_bits : (m n x : ℕ) → Sub (bits_of m) (bits_of n) → eqb (length (shared m x)) (length (shared n x)) ≡ same_simplex (shared m x) (shared n x)
same_bits m n x S =
    same
    (λ h. let e = eqb-true (length (shared m x)) (length (shared n x)) h in
    let f = full (shared m x) (shared n x) (rising-nodup (shared m x) (shared-rising m x)) more (omega arith) in
    subst (λ (l : List ℕ). same_simplex (shared m x) l ≡ true) (rising-unique (shared m x) (shared n x) (shared-rising m x) (shared-rising n x) more f) (simplex-decides.self (shared m x)))
    (λ h. eq-eqb (length (shared m x)) (length (shared n x)) (ap length (simplex-decides.equal (shared m x) (shared n x) h)))
  where
    more : Sub (shared m x) (shared n x)
    more k i =
        let h = sym (shared-mem m x k) ∙ i in
        shared-mem n x k ∙ rw (S k (and-fst (mem k (bits_of m)) (mem k (bits_of x)) h), and-snd (mem k (bits_of m)) (mem k (bits_of x)) h) refl

-- ---- the first row of a run

first_word : (r : List ℕ) (g : List (List ℕ)) (i : ℕ) → i < 2 → 1 ≤ length g → ((x : List ℕ) → Memᴰ x g → take 2 r ≡ take 2 x) → get_or (get_or g 0 []) i 0 ≡ get_or r i 0
first_word r [] i h n e = absurd (omega arith)
first_word r (x ∷ g) i h n e = sym (get_or-take 2 x i 0 h) ∙ ap (λ (l : List ℕ). get_or l i 0) (sym (e x (Memᴰ.head refl))) ∙ get_or-take 2 r i 0 h

some-kept : (r : List ℕ) (l : List (List ℕ)) → Memᴰ r l → 1 ≤ length l
some-kept r [] m = absurd (Memᴰ.not-nil m)
some-kept r (x ∷ l) m = omega arith

module _ (stratum : ℕ → ℕ) (a b : ℕ) (ab : a ≢ b) (ts : List Tet) (F : Fours ts) (S : Sub (bits_of (stratum a)) (bits_of (stratum b))) where
  abbrev fs : List Triple
  fs = boundary_about a b ts

  abbrev l : List (List ℕ)
  l = rows_of_faces a b (alone_faces a b ts)

  -- ---- what marks say of a vertex

  module _ (x : ℕ) (xa : x ≢ a) (xb : x ≢ b) (r : List ℕ) (w : take 2 r ≡ x ∷ x ∷ []) where
    abbrev has : ℕ → Bool
    has m = marked 2 m (keep (same_first 2 r) l)

    -- a face with the vertex gives its mark
    has-intro : (f : Triple) (m : ℕ) → 0 < m → Memᴰ f fs → mark a b (corners_of f) ≡ m → mem x (corners_of f) ≡ true → has m ≡ true
    has-intro f m h i e j =
        run-marked 2 two-pads a b (face_sets a b ts F) l (faces-listed a b ts F) r m h (corners_of f) (x ∷ [])
        (record {
          simplex = Memᴰ.map corners_of i;
          about = subst (λ (u : ℕ). 0 < u) (sym e) h;
          some = omega arith;
          small = omega arith;
          rises = refl;
          inside = Sub-cons x [] (corners_of f) j (λ z k. absurd (mem-nil z k));
          without = elim (split (mem a (corners_of f))) [ inl p ↦ rw p (other a xa) | inr p ↦ rw p (other b xb) ];
        })
        e w
      where
        other : (v : ℕ) → x ≢ v → mem v (x ∷ []) ≡ false
        other v n = rw (ne_eqb v x (λ q. n (sym q))) refl

    -- a mark comes from a face with the vertex
    has-elim : (m : ℕ) → 0 < m → has m ≡ true → (f : Triple) × Memᴰ f fs × (mark a b (corners_of f) ≡ m) × (mem x (corners_of f) ≡ true)
    has-elim m h q =
        let o = run-origin 2 two-pads a b (face_sets a b ts F) l (faces-listed a b ts F) r m h q in
        let p = o.2 in
        let t = Memᴰ.of_map corners_of fs p.simplex in
        let e : o.1 ≡ x ∷ [] = sym (two-pads.back o.1 p.some p.small p.rises) ∙ ap (unique eqb) (sym o.4 ∙ w) ∙ two-pads.back (x ∷ []) (omega arith) (omega arith) refl in
        let i : mem x o.0 ≡ true = subst (λ (σ : List ℕ). Sub σ o.0) e p.inside x (mem-here x []) in
        (t.0, t.1, ap (mark a b) t.2 ∙ o.3, ap (mem x) t.2 ∙ i)

    on : (u v : ℕ) (f : Triple) → Memᴰ f fs → mem u (corners_of f) ≡ true → mem v (corners_of f) ≡ true → joined fs u v ≡ true
    on u v f m p q = within-intro (u ∷ v ∷ []) (Memᴰ.map corners_of m) (Sub-two u v (corners_of f) p q)

    joined-a : (has 1 || has 3) ≡ joined fs a x
    joined-a =
        same
        (λ h. elim (or_cases (has 1) (has 3) h) [
          | inl q ↦ let o = has-elim 1 (omega arith) q in on a x o.0 o.1 (mark-1 a b (corners_of o.0) o.2).0 o.3
          | inr q ↦ let o = has-elim 3 (omega arith) q in on a x o.0 o.1 (mark-3 a b (corners_of o.0) o.2).0 o.3
        ])
        (λ h. let o = edge-elim fs (a ∷ x ∷ []) h in
        let p = o.2 a (mem-here a (x ∷ [])) in
        let j = o.2 x (mem-there x a (x ∷ []) (mem-here x [])) in
        elim (split (mem b (corners_of o.0))) [
          | inl q ↦ or_right (has 1) (has-intro o.0 3 (omega arith) o.1 (mark-both a b (corners_of o.0) p q) j)
          | inr q ↦ or_left {a = has 1} (has 3) (has-intro o.0 1 (omega arith) o.1 (mark-first a b (corners_of o.0) p q) j)
        ])

    joined-b : (has 2 || has 3) ≡ joined fs b x
    joined-b =
        same
        (λ h. elim (or_cases (has 2) (has 3) h) [
          | inl q ↦ let o = has-elim 2 (omega arith) q in on b x o.0 o.1 (mark-2 a b (corners_of o.0) o.2).1 o.3
          | inr q ↦ let o = has-elim 3 (omega arith) q in on b x o.0 o.1 (mark-3 a b (corners_of o.0) o.2).1 o.3
        ])
        (λ h. let o = edge-elim fs (b ∷ x ∷ []) h in
        let p = o.2 b (mem-here b (x ∷ [])) in
        let j = o.2 x (mem-there x b (x ∷ []) (mem-here x [])) in
        elim (split (mem a (corners_of o.0))) [
          | inl q ↦ or_right (has 2) (has-intro o.0 3 (omega arith) o.1 (mark-both a b (corners_of o.0) q p) j)
          | inr q ↦ or_left {a = has 2} (has 3) (has-intro o.0 2 (omega arith) o.1 (mark-second a b (corners_of o.0) q p) j)
        ])

    outlived : (has 1 || has 2) ≡ outlives a b fs x
    outlived =
        same
        (λ h. elim (or_cases (has 1) (has 2) h) [
          | inl q ↦ let o = has-elim 1 (omega arith) q in outlives-intro a b fs x o.0 o.1 (λ i j. clash j (mark-1 a b (corners_of o.0) o.2).1) o.3
          | inr q ↦ let o = has-elim 2 (omega arith) q in outlives-intro a b fs x o.0 o.1 (λ i j. clash i (mark-2 a b (corners_of o.0) o.2).0) o.3
        ])
        (λ h. let o = outlives-elim a b fs x h in
        let about = (boundary-elim a b ts F o.0 o.1).about in
        elim (split (mem a (corners_of o.0))) [
          | inl p ↦ or_left {a = has 1} (has 2) (has-intro o.0 1 (omega arith) o.1 (mark-first a b (corners_of o.0) p (nope (λ (q : mem b (corners_of o.0) ≡ true). o.2 p q))) o.3)
          | inr p ↦ or_right (has 1) (has-intro o.0 2 (omega arith) o.1 (mark-second a b (corners_of o.0) p (rw p at about)) o.3)
        ])

    -- the tests by marks are the tests by masks
    vertex-is : vertex_by stratum a b (joined fs a b) x (has 1) (has 2) (has 3) ≡ (rim_ok stratum a b fs x && curve_ok stratum a b fs x)
    vertex-is =
        rw (joined-a, joined-b, outlived, same_bits (stratum a) (stratum b) (stratum x) S) refl

  -- ---- the faces with both ends

  -- some row has the mark 3 exactly where some face has a and b
  both-faces : marked 2 3 (sort le_row l) ≡ joined fs a b
  both-faces =
      ap not (every-sort le_row (λ q. not (eqb (get_or q 2 0) 3)) l)
      ∙ same
      (λ h. let q = marked-elim 2 3 l h in
      let o = row-origin a b ts F q.0 q.1 in
      let p = o.2 in
      let e = mark-3 a b o.0 (sym (pad-mark two-pads o.1 p.some p.small (mark a b o.0)) ∙ ap (λ (u : List ℕ). get_or u 2 0) (sym o.3) ∙ q.2) in
      within-intro (a ∷ b ∷ []) p.simplex (Sub-two a b o.0 e.0 e.1))
      (λ h. let o = edge-elim fs (a ∷ b ∷ []) h in
      let p = o.2 a (mem-here a (b ∷ [])) in
      let q = o.2 b (mem-there b a (b ∷ []) (mem-here b [])) in
      let e = mark-both a b (corners_of o.0) p q in
      marked-intro 2 3 (two_words (b ∷ []) ++ (mark a b (corners_of o.0) ∷ [])) l
      ((faces-listed a b ts F).there (corners_of o.0) (b ∷ []) (record {
        simplex = Memᴰ.map corners_of o.1;
        about = subst (λ (u : ℕ). 0 < u) (sym e) (omega arith);
        some = omega arith;
        small = omega arith;
        rises = refl;
        inside = Sub-cons b [] (corners_of o.0) q (λ z k. absurd (mem-nil z k));
        without = rw p (rw (ne_eqb a b ab) refl);
      }))
      e)

  -- ---- all runs

  abbrev test : List ℕ → Bool
  test r = feature_run stratum a b (joined fs a b) (keep (same_first 2 r) (sort le_row l))

  abbrev pass : ℕ → Bool
  pass x = eqb x a || (eqb x b || (rim_ok stratum a b fs x && curve_ok stratum a b fs x))

  -- the test of the run of a row, by its words
  test-is : (x y m : ℕ) → Memᴰ (x ∷ y ∷ m ∷ []) l → test (x ∷ y ∷ m ∷ [])
      ≡ (not (eqb x y) || (eqb x a || (eqb x b || vertex_by stratum a b (joined fs a b) x (marked 2 1 (keep (same_first 2 (x ∷ y ∷ m ∷ [])) l)) (marked 2 2 (keep (same_first 2 (x ∷ y ∷ m ∷ [])) l)) (marked 2 3 (keep (same_first 2 (x ∷ y ∷ m ∷ [])) l)))))
  unfolding feature_run
  test-is x y m i =
      rw (
        first_word r g 0 (omega arith) some words,
        first_word r g 1 (omega arith) some words,
        marked-kept 2 1 r l,
        marked-kept 2 2 r l,
        marked-kept 2 3 r l,
      ) refl
    where
      r : List ℕ
      r = x ∷ y ∷ m ∷ []

      g : List (List ℕ)
      g = keep (same_first 2 r) (sort le_row l)

      words : (q : List ℕ) → Memᴰ q g → take 2 r ≡ take 2 q
      words q j = eq_row-sound (take 2 r) (take 2 q) (kept-elim (same_first 2 r) (sort le_row l) j).1

      some : 1 ≤ length g
      some = let n = kept-number 2 r l in let k = some-kept r (keep (same_first 2 r) l) (kept-intro (same_first 2 r) l i (eq_row-refl (take 2 r))) in omega arith

  -- a vertex of a face has a row
  vertex-row : (x : ℕ) (f : Triple) → x ≢ a → x ≢ b → Memᴰ f fs → mem x (corners_of f) ≡ true → Memᴰ (x ∷ x ∷ mark a b (corners_of f) ∷ []) l
  vertex-row x f xa xb i j =
      (faces-listed a b ts F).there (corners_of f) (x ∷ []) (record {
        simplex = Memᴰ.map corners_of i;
        about = about (boundary-elim a b ts F f i).about;
        some = omega arith;
        small = omega arith;
        rises = refl;
        inside = Sub-cons x [] (corners_of f) j (λ z k. absurd (mem-nil z k));
        without = elim (split (mem a (corners_of f))) [ inl p ↦ rw p (other a xa) | inr p ↦ rw p (other b xb) ];
      })
    where
      other : (v : ℕ) → x ≢ v → mem v (x ∷ []) ≡ false
      other v n = rw (ne_eqb v x (λ q. n (sym q))) refl

      about : (mem a (corners_of f) || mem b (corners_of f)) ≡ true → 0 < mark a b (corners_of f)
      about h = elim (split (mem a (corners_of f))) [
        | inl p ↦ elim (split (mem b (corners_of f))) [ inl q ↦ rw (p, q) (omega arith) | inr q ↦ rw (p, q) (omega arith) ]
        | inr p ↦ let q : mem b (corners_of f) ≡ true = rw p at h in rw (p, q) (omega arith)
      ]

  -- a vertex other than a and b
  at-vertex : (x m : ℕ) → x ≢ a → x ≢ b → Memᴰ (x ∷ x ∷ m ∷ []) l → test (x ∷ x ∷ m ∷ []) ≡ (rim_ok stratum a b fs x && curve_ok stratum a b fs x)
  at-vertex x m xa xb i = test-is x x m i ∙ rw (eq-eqb x x refl, ne_eqb x a xa, ne_eqb x b xb) (vertex-is x xa xb (x ∷ x ∷ m ∷ []) refl)

  forth : every test l ≡ true → every pass (all_corners fs) ≡ true
  forth h = mem-every pass (all_corners fs) (λ x i.
      elim (split (eqb x a)) [
        | inl p ↦ rw p refl
        | inr p ↦ elim (split (eqb x b)) [
          | inl q ↦ rw (p, q) refl
          | inr q ↦
              let o = edge-elim fs (x ∷ []) (sym (on-face x fs) ∙ i) in
              let r = vertex-row x o.0 (eqb-false x a p) (eqb-false x b q) o.1 (o.2 x (mem-here x [])) in
              rw (p, q) (sym (at-vertex x (mark a b (corners_of o.0)) (eqb-false x a p) (eqb-false x b q) r) ∙ every-elim test l h r)
        ]
      ])

  back : every pass (all_corners fs) ≡ true → every test l ≡ true
  back h = every-intro test l (λ r i.
      let o = row-origin a b ts F r i in
      subst (λ (u : List ℕ). test u ≡ true) (sym o.3) (by o.1 o.0 o.2 (subst (λ (u : List ℕ). Memᴰ u l) o.3 i)))
    where
      by : (σ τ : List ℕ) → Part 2 a b (face_sets a b ts F) τ σ → Memᴰ (two_words σ ++ (mark a b τ ∷ [])) l → test (two_words σ ++ (mark a b τ ∷ [])) ≡ true
      by [] τ p i = absurd (let k = p.some in omega arith)
      by (x ∷ []) τ p i =
          elim (split (eqb x a)) [
            | inl e ↦ test-is x x (mark a b τ) i ∙ rw (eq-eqb x x refl, e) refl
            | inr e ↦ elim (split (eqb x b)) [
              | inl q ↦ test-is x x (mark a b τ) i ∙ rw (eq-eqb x x refl, e, q) refl
              | inr q ↦
                  let w : mem x (all_corners fs) ≡ true = on-face x fs ∙ within-intro (x ∷ []) p.simplex p.inside in
                  at-vertex x (mark a b τ) (eqb-false x a e) (eqb-false x b q) i ∙ (rw (e, q) at (every-mem pass (all_corners fs) h x w))
            ]
          ]
      by (x ∷ y ∷ []) τ p i = let k = rising-head x (y ∷ []) p.rises y (mem-here y []) in test-is x y (mark a b τ) i ∙ rw (ne_eqb x y (λ e. omega arith)) refl
      by (x ∷ y ∷ z ∷ σ) τ p i = absurd (let k = p.small in omega arith)

  -- `feature_link_ok` by rows
  pub feature-runs : every (feature_run stratum a b (marked 2 3 (sort le_row (rows_of_faces a b (alone_faces a b ts))))) (runs (same_first 2) (sort le_row (rows_of_faces a b (alone_faces a b ts)))) ≡ feature_ok stratum a b (boundary_about a b ts)
  unfolding feature_by_masks
  feature-runs =
      ap (λ (p : Bool). every (feature_run stratum a b p) (runs (same_first 2) (sort le_row l))) both-faces
      ∙ every-run 2 (feature_run stratum a b (joined fs a b)) l
      ∙ same forth back
      ∙ sym (boundary-masks stratum a b ts F ab S)
