-- Rows of simplices that no row with the mark 1 and one with the mark 2 share can be left out: their runs pass. Assumes nothing.
use Rattle.std.proofs.Common.{◌≡◌, ℕ, ◌<◌, Bool, true, false, not, ◌&&◌, ◌||◌, eqb, List, [], ◌∷◌, ◌++◌, map, get_or, take, sym, refl, ap, ◌∙◌, inl, inr, arith, get_or-take, eqb-true}
use mathlib.Core.Bool.{and-false}
use mathlib.Core.List.{Memᴰ}
use Rattle.mesh.specs.declared.element.Tet.{Tet}
use Rattle.mesh.specs.Sort.{sort}
use Rattle.mesh.specs.inside.Rows.{le_row}
use Rattle.mesh.specs.Complex.{keep}
use Rattle.mesh.specs.Tests.{every}
use Rattle.mesh.specs.Element.{vertices_of}
use Rattle.mesh.specs.Link.{subsets, interior_ok}
use Rattle.mesh.specs.inside.Group.{runs, same_first}
use Rattle.mesh.specs.inside.Euler.{spread}
use Rattle.mesh.specs.inside.LinkRows.{mark, link_face, three_words, element_rows, marked, meet_run}
use Rattle.mesh.specs.inside.LinkTable.{table_word, told_mark, both_row, told_words, told_tet}
use Rattle.mesh.proofs.Laws.Complex.Sets.{split, clash, nope, same, or_cases, and-fst, and-snd}
use Rattle.mesh.proofs.Laws.Rows.{eq_row-sound}
use Rattle.mesh.proofs.Laws.Boundary.Same.{keep_same, keep-keep}
use Rattle.mesh.proofs.Laws.Euler.Faces.{spread-from}
use Rattle.mesh.proofs.Laws.Link.Keys.{Fours}
use Rattle.mesh.proofs.Laws.Link.Members.{kept-elim, kept-intro, every-elim, every-intro}
use Rattle.mesh.proofs.Laws.LinkRows.Marks.{marked-elim}
use Rattle.mesh.proofs.Laws.LinkRows.Meet.{runs-rows}
use Rattle.mesh.proofs.Laws.LinkRows.Elements.{interior-runs}

-- ---- rows left out

module _ (k : ℕ) (p : List ℕ → Bool) (l : List (List ℕ)) (alike : (r q : List ℕ) → take k r ≡ take k q → p r ≡ p q)
    (only : (r q : List ℕ) → Memᴰ r l → Memᴰ q l → get_or r k 0 ≡ 1 → get_or q k 0 ≡ 2 → take k r ≡ take k q → p r ≡ true) where
  -- a key that passes keeps all its rows
  key-kept : (r : List ℕ) → p r ≡ true → keep (same_first k r) (keep p l) ≡ keep (same_first k r) l
  key-kept r h = keep-keep (same_first k r) p l ∙ keep_same (λ x. p x && same_first k r x) (same_first k r) at l
    where
      at : (x : List ℕ) → (p x && same_first k r x) ≡ same_first k r x
      at x =
          elim (split (same_first k r x)) [
            | inl e ↦ let q : p x ≡ true = alike x r (sym (eq_row-sound (take k r) (take k x) e)) ∙ h in rw (q, e) refl
            | inr e ↦ rw e (and-false (p x))
          ]

  -- the rows of another key have not both marks
  out-passes : (r : List ℕ) → p r ≡ false → meet_run k (keep (same_first k r) l) ≡ true
  out-passes r h =
      elim (split (marked k 3 (keep (same_first k r) l))) [
        | inl e ↦ rw e refl
        | inr e ↦ rw e (ap not (nope (λ t.
            let x = marked-elim k 1 (keep (same_first k r) l) (and-fst (marked k 1 (keep (same_first k r) l)) (marked k 2 (keep (same_first k r) l)) t) in
            let y = marked-elim k 2 (keep (same_first k r) l) (and-snd (marked k 1 (keep (same_first k r) l)) (marked k 2 (keep (same_first k r) l)) t) in
            let i = kept-elim (same_first k r) l x.1 in
            let j = kept-elim (same_first k r) l y.1 in
            let u = eq_row-sound (take k r) (take k x.0) i.1 in
            let v = eq_row-sound (take k r) (take k y.0) j.1 in
            clash (alike r x.0 u ∙ only x.0 y.0 i.0 j.0 x.2 y.2 (sym u ∙ v)) h)))
      ]

  pub fewer-runs : every (meet_run k) (runs (same_first k) (sort le_row (keep p l))) ≡ every (meet_run k) (runs (same_first k) (sort le_row l))
  fewer-runs = runs-rows k (keep p l) ∙ same forth back ∙ sym (runs-rows k l)
    where
      forth : every (λ r. meet_run k (keep (same_first k r) (keep p l))) (keep p l) ≡ true → every (λ r. meet_run k (keep (same_first k r) l)) l ≡ true
      forth h = every-intro (λ r. meet_run k (keep (same_first k r) l)) l (λ r m. elim (split (p r)) [
        | inl e ↦ sym (ap (meet_run k) (key-kept r e)) ∙ every-elim (λ r. meet_run k (keep (same_first k r) (keep p l))) (keep p l) h (kept-intro p l m e)
        | inr e ↦ out-passes r e
      ])

      back : every (λ r. meet_run k (keep (same_first k r) l)) l ≡ true → every (λ r. meet_run k (keep (same_first k r) (keep p l))) (keep p l) ≡ true
      back h = every-intro (λ r. meet_run k (keep (same_first k r) (keep p l))) (keep p l) (λ r m.
          let i = kept-elim p l m in
          ap (meet_run k) (key-kept r i.1) ∙ every-elim (λ r. meet_run k (keep (same_first k r) l)) l h i.0)

-- ---- by the table

module _ (s : List ℕ) where
  both-alike : (r q : List ℕ) → take 3 r ≡ take 3 q → both_row s r ≡ both_row s q
  unfolding both_row
  both-alike r q e = rw (word 0 (omega arith), word 1 (omega arith), word 2 (omega arith)) refl
    where
      word : (i : ℕ) → i < 3 → get_or r i 0 ≡ get_or q i 0
      word i h = sym (get_or-take 3 r i 0 h) ∙ ap (λ (l : List ℕ). get_or l i 0) e ∙ get_or-take 3 q i 0 h

  abbrev told_row : List ℕ → Bool
  told_row q = told_words s (get_or q 3 0) (get_or q 0 0) (get_or q 1 0) (get_or q 2 0)

  -- told with the mark 1 and with the mark 2
  both_told : (v : ℕ) → told_mark s 1 v ≡ true → told_mark s 2 v ≡ true → told_mark s 3 v ≡ true
  both_told v h k =
      elim (or_cases (eqb (table_word s v) 1) (eqb (table_word s v) 3) h) [
        | inr e ↦ rw e refl
        | inl e ↦ elim (or_cases (eqb (table_word s v) 2) (eqb (table_word s v) 3) k) [
          | inr f ↦ rw f refl
          | inl f ↦ let e₁ = eqb-true (table_word s v) 1 e in let e₂ = eqb-true (table_word s v) 2 f in absurd (omega (arith, e₁, e₂))
        ]
      ]

  -- the words of a row with the mark m
  row_told : (m : ℕ) (q : List ℕ) → (eqb m 0 || eqb m 3) ≡ false → told_row q ≡ true → get_or q 3 0 ≡ m → (told_mark s m (get_or q 0 0) && (told_mark s m (get_or q 1 0) && told_mark s m (get_or q 2 0))) ≡ true
  row_told m q n h e = elim (or_cases (eqb m 0 || eqb m 3) (told_mark s m (get_or q 0 0) && (told_mark s m (get_or q 1 0) && told_mark s m (get_or q 2 0))) (rw e at h)) [
    | inl k ↦ absurd (clash k n)
    | inr k ↦ k
  ]

  table-only : (r q : List ℕ) → told_row r ≡ true → told_row q ≡ true → get_or r 3 0 ≡ 1 → get_or q 3 0 ≡ 2 → take 3 r ≡ take 3 q → both_row s r ≡ true
  unfolding both_row
  table-only r q hr hq e f g =
      let x = row_told 1 r refl hr e in
      let y = row_told 2 q refl hq f in
      let r₀ = get_or r 0 0 in
      let r₁ = get_or r 1 0 in
      let r₂ = get_or r 2 0 in
      let x₁ = and-snd (told_mark s 1 r₀) (told_mark s 1 r₁ && told_mark s 1 r₂) x in
      let q₀ = get_or q 0 0 in
      let q₁ = get_or q 1 0 in
      let q₂ = get_or q 2 0 in
      let y₁ = and-snd (told_mark s 2 q₀) (told_mark s 2 q₁ && told_mark s 2 q₂) y in
      rw (
        both_told r₀ (and-fst (told_mark s 1 r₀) (told_mark s 1 r₁ && told_mark s 1 r₂) x) (ap (told_mark s 2) (word 0 (omega arith)) ∙ and-fst (told_mark s 2 q₀) (told_mark s 2 q₁ && told_mark s 2 q₂) y),
        both_told r₁ (and-fst (told_mark s 1 r₁) (told_mark s 1 r₂) x₁) (ap (told_mark s 2) (word 1 (omega arith)) ∙ and-fst (told_mark s 2 q₁) (told_mark s 2 q₂) y₁),
        both_told r₂ (and-snd (told_mark s 1 r₁) (told_mark s 1 r₂) x₁) (ap (told_mark s 2) (word 2 (omega arith)) ∙ and-snd (told_mark s 2 q₁) (told_mark s 2 q₂) y₁),
      ) refl
    where
      word : (i : ℕ) → i < 3 → get_or r i 0 ≡ get_or q i 0
      word i h = sym (get_or-take 3 r i 0 h) ∙ ap (λ (l : List ℕ). get_or l i 0) g ∙ get_or-take 3 q i 0 h

  -- the rows of three vertices told with the mark m
  rows_told : (m x y z : ℕ) → told_words s m x y z ≡ true → every told_row (map (λ σ. three_words σ ++ (m ∷ [])) (subsets (x ∷ y ∷ z ∷ []))) ≡ true
  rows_told m x y z h =
      elim (split (eqb m 0 || eqb m 3)) [
        | inl e ↦ rw e refl
        | inr e ↦
            let k : (told_mark s m x && (told_mark s m y && told_mark s m z)) ≡ true = rw e at h in
            let l = and-snd (told_mark s m x) (told_mark s m y && told_mark s m z) k in
            rw (e, and-fst (told_mark s m x) (told_mark s m y && told_mark s m z) k, and-fst (told_mark s m y) (told_mark s m z) l, and-snd (told_mark s m y) (told_mark s m z) l) refl
      ]

  module _ (a b : ℕ) (ts : List Tet) (h : every (told_tet s a b) ts ≡ true) where
    told_in : (q : List ℕ) → Memᴰ q (spread (element_rows a b) ts) → told_row q ≡ true
    unfolding told_tet
    told_in q m =
        let r = spread-from (element_rows a b) ts q m in
        let t = r.0 in
        every-elim told_row (element_rows a b r.0)
        (rows_told (mark a b (vertices_of t)) (link_face a b t).a (link_face a b t).b (link_face a b t).c (every-elim (told_tet s a b) ts h r.1)) r.2

    -- the interior test by the rows that are left
    pub fewer-answer : Fours ts → every (meet_run 3) (runs (same_first 3) (sort le_row (keep (both_row s) (spread (element_rows a b) ts)))) ≡ interior_ok a b ts
    fewer-answer F =
        fewer-runs 3 (both_row s) (spread (element_rows a b) ts) both-alike
        (λ r q i j e f g. table-only r q (told_in r i) (told_in q j) e f g)
        ∙ interior-runs a b ts F
