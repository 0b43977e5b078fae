-- Rows of elements listed one behind the other where a test holds of them, and the table behind them. Assumes nothing.
use Rattle.std.proofs.Common.{◌≡◌, ℕ, ◌+◌, ◌-◌, ◌*◌, ◌<◌, ◌≤◌, Bool, true, false, cond, not, ◌&&◌, List, [], ◌∷◌, ◌++◌, map, length, take, drop, sym, refl, ap, ◌∙◌, subst, ap₂, inl, inr, append_assoc, append-nil, arith, get_or-take, drop-drop, take-take, take-append-drop}
use Rattle.std.proofs.lemmas.List.{drop-take}
use mathlib.Core.List.{map-append}
use lib.Seq.{paste}
use Rattle.mesh.specs.declared.element.Tet.{Tet}
use Rattle.mesh.specs.declared.element.Triple.{Triple}
use Rattle.mesh.specs.Words.{numbers, flat}
use Rattle.mesh.specs.Sort.{sort}
use Rattle.mesh.specs.inside.Rows.{rows, le_row, sorted_area}
use Rattle.mesh.specs.Complex.{keep}
use Rattle.mesh.specs.Tests.{every, nodup}
use Rattle.mesh.specs.Element.{tets, corners_of, vertices_of}
use Rattle.mesh.specs.Link.{interior_ok}
use Rattle.mesh.specs.inside.Group.{runs, same_first}
use Rattle.mesh.specs.inside.Manifold.{KeptBelow}
use Rattle.mesh.specs.inside.Intake.{tet_at}
use Rattle.mesh.specs.inside.Euler.{spread}
use Rattle.mesh.specs.inside.List.{stacked, Pushed}
use Rattle.mesh.specs.inside.LinkRows.{mark, link_face, subset_at, element_row_at, element_rows, meet_run}
use Rattle.mesh.specs.inside.LinkTable.{told_mark, told_face, none_face, both_row, told_tet}
use Rattle.mesh.proofs.Laws.Bools.{split, and_left, and_right}
use Rattle.mesh.proofs.Laws.Rows.{Shape, none, more}
use Rattle.mesh.proofs.Laws.Boundary.Same.{length-keep, length-map}
use Rattle.mesh.proofs.Laws.NumbersFrom.{length-numbers, numbers-split}
use Rattle.mesh.proofs.Laws.Manifold.Growth.{kept_self, kept-both}
use Rattle.mesh.proofs.Laws.Manifold.Steps.{sort-kept, sort-from-rows}
use Rattle.mesh.proofs.Laws.List.Push.{keep_append, push-start, push-one, push-more, push_kept, push-rows}
use Rattle.mesh.proofs.Laws.Intake.Reads.{tets-same}
use Rattle.mesh.proofs.Laws.Euler.Areas.{tet-kept}
use Rattle.mesh.proofs.Laws.LinkRows.Elements.{fours, seven-rows, element-rows}
use Rattle.mesh.proofs.Laws.LinkRows.Fewer.{fewer-answer}

-- ---- rows by the table

module _ (table : List ℕ) where
  pub row_by : (g : Triple) (m : ℕ) → both_row table (corners_of g ++ (m ∷ [])) ≡ told_face table 3 g.a g.b g.c
  unfolding both_row
  row_by g m = refl

  -- no row of a face whose vertices are not told
  pub none-by : (f : Triple) (m : ℕ) → none_face table f ≡ true → keep (both_row table) (map (λ k. corners_of (subset_at f k) ++ (m ∷ [])) (0 ∷ 1 ∷ 2 ∷ 3 ∷ 4 ∷ 5 ∷ 6 ∷ [])) ≡ []
  unfolding both_row subset_at
  none-by f m h =
      let x = told_mark table 3 f.a in
      let y = told_mark table 3 f.b in
      let z = told_mark table 3 f.c in
      let k = and_right (not x) (not y && not z) h in
      rw (flip x (and_left (not x) (not y && not z) h), flip y (and_left (not y) (not z) k), flip z (and_right (not y) (not z) k)) refl
    where
      flip : (b : Bool) → not b ≡ true → b ≡ false
      flip true h = sym h
      flip false h = refl

-- ---- the rows of one element

module _ (f : Triple) (m : ℕ) (p : List ℕ → Bool) where
  abbrev row : ℕ → List ℕ
  row k = corners_of (subset_at f k) ++ (m ∷ [])

  abbrev picked : ℕ → List (List ℕ)
  picked k = keep p (map row (numbers 0 k))

  shape-picked : (l : List ℕ) → Shape 4 (length (keep p (map row l))) (keep p (map row l))
  shape-picked [] = none
  shape-picked (k ∷ l) = let ih = shape-picked l in elim (split (p (row k))) [ inl e ↦ rw e (more refl ih) | inr e ↦ rw e ih ]

  -- what holds at the head of the loop: of the first k rows those that pass are pushed
  pub record Picking (q : ℕ) (s₀ s : List ℕ) (c k : ℕ) : Type 0 where
    pub few : c ≤ k
    pub pushed : Pushed (picked k) 4 q s₀ s c
    pub long : length s ≡ length s₀

  module _ (q : ℕ) (s₀ : List ℕ) (room : q + 28 ≤ length s₀) where
    pub pick-start : Picking q s₀ s₀ 0 0
    unfolding numbers
    pick-start = record { few = omega arith; pushed = push-start 4 q s₀; long = refl }

    module _ {s : List ℕ} {c k : ℕ} (v : Picking q s₀ s c k) (h : k < 7) {g : Triple} (e : g ≡ subset_at f k) where
      next : (b : Bool) → p (corners_of g ++ (m ∷ [])) ≡ b → picked (k + 1) ≡ picked k ++ cond b (row k ∷ []) []
      unfolding numbers
      next b w =
          let i : 0 + k ≡ k = omega arith in
          let j : p (row k) ≡ b = ap (λ (u : Triple). p (corners_of u ++ (m ∷ []))) (sym e) ∙ w in
          ap (λ (l : List ℕ). keep p (map row l)) (numbers-split 0 k 1 ∙ ap (λ (u : ℕ). numbers 0 k ++ numbers u 1) i)
          ∙ ap (keep p) (map-append row (numbers 0 k) (k ∷ []))
          ∙ keep_append p (map row (numbers 0 k)) (row k ∷ [])
          ∙ ap (λ (l : List (List ℕ)). picked k ++ l) (rw j refl)

      pub pick-more : p (corners_of g ++ (m ∷ [])) ≡ true → (s' : List ℕ) → length s' ≡ length s → s' ≡ paste s (q + 4 * c) (g.a ∷ g.b ∷ g.c ∷ m ∷ []) 4 → Picking q s₀ s' (c + 1) (k + 1)
      pick-more w s' l z = record {
        few = omega (arith, v.few);
        pushed =
            subst (λ (rs : List (List ℕ)). Pushed rs 4 q s₀ s' (c + 1)) (sym (next true w))
            (push-more (shape-picked (numbers 0 k)) (omega arith) v.pushed
            (push-one 4 (q + 4 * c) s s' (row k) (omega (arith, v.long, v.few)) refl (z ∙ ap (λ (u : Triple). paste s (q + 4 * c) (corners_of u ++ (m ∷ [])) 4) e)));
        long = l ∙ v.long;
      }

      pub pick-less : p (corners_of g ++ (m ∷ [])) ≡ false → Picking q s₀ s c (k + 1)
      pick-less w = record {
        few = omega (arith, v.few);
        pushed = subst (λ (rs : List (List ℕ)). Pushed rs 4 q s₀ s c) (sym (next false w ∙ append-nil (picked k))) v.pushed;
        long = v.long;
      }

-- the rows of an element, and none where no vertex is told
pub pick-end : (a b : ℕ) (t : Tet) (p : List ℕ → Bool) {q c k : ℕ} {s₀ s : List ℕ} → Picking (link_face a b t) (mark a b (vertices_of t)) p q s₀ s c k → k ≡ 7 → Pushed (keep p (element_rows a b t)) 4 q s₀ s c
unfolding numbers subset_at
pick-end a b t p {q} {c} {k} {s₀} {s} v e = subst (λ (i : ℕ). Pushed (picked (link_face a b t) (mark a b (vertices_of t)) p i) 4 q s₀ s c) e v.pushed

pub pick-none : (a b : ℕ) (t : Tet) (table : List ℕ) (q : ℕ) (s : List ℕ) → none_face table (link_face a b t) ≡ true → Pushed (keep (both_row table) (element_rows a b t)) 4 q s s 0
unfolding subset_at
pick-none a b t table q s h = subst (λ (rs : List (List ℕ)). Pushed rs 4 q s s 0) (sym (none-by table (link_face a b t) (mark a b (vertices_of t)) h)) (push-start 4 q s)

-- ---- the rows of all elements

module _ (a b n : ℕ) (s₀ : List ℕ) (p : List ℕ → Bool) where
  abbrev each : ℕ → List (List ℕ)
  each e = spread (element_rows a b) (tets e s₀)

  each-next : (e : ℕ) → each (e + 1) ≡ each e ++ element_rows a b (tet_at s₀ e)
  each-next e =
      let row = element_row_at a b s₀ in
      let i : 7 * (e + 1) ≡ 7 * e + 7 = omega arith in
      let j : 0 + 7 * e ≡ 7 * e = omega arith in
      sym (element-rows a b s₀ (e + 1))
      ∙ ap (λ (u : ℕ). map row (numbers 0 u)) i
      ∙ ap (map row) (numbers-split 0 (7 * e) 7 ∙ ap (λ (u : ℕ). numbers 0 (7 * e) ++ numbers u 7) j)
      ∙ map-append row (numbers 0 (7 * e)) (numbers (7 * e) 7)
      ∙ ap₂ (λ (k l : List (List ℕ)). k ++ l) (element-rows a b s₀ e) (seven-rows a b s₀ e)

  shape-kept : (l : List ℕ) → Shape 4 (length (keep p (map (element_row_at a b s₀) l))) (keep p (map (element_row_at a b s₀) l))
  unfolding element_row_at
  shape-kept [] = none
  shape-kept (j ∷ l) = let ih = shape-kept l in elim (split (p (element_row_at a b s₀ j))) [ inl e ↦ rw e (more refl ih) | inr e ↦ rw e ih ]

  pub shape-each : (e : ℕ) → Shape 4 (length (keep p (each e))) (keep p (each e))
  shape-each e = subst (λ (l : List (List ℕ)). Shape 4 (length (keep p l)) (keep p l)) (element-rows a b s₀ e) (shape-kept (numbers 0 (7 * e)))

  pub few-each : (e : ℕ) → length (keep p (each e)) ≤ 7 * e
  few-each e = omega (arith, length-keep p (each e), ap length (element-rows a b s₀ e), length-map (element_row_at a b s₀) (numbers 0 (7 * e)), length-numbers 0 (7 * e))

  -- what holds at the head of the loop: the rows of the first e elements that pass are pushed
  pub record Listing (s : List ℕ) (c e : ℕ) : Type 0 where
    pub few : c ≤ 7 * e
    pub pushed : Pushed (keep p (each e)) 4 (4 * n) s₀ s c
    pub kept : KeptBelow (4 * n) s₀ s

  module _ (room : length s₀ ≡ 60 * n) where
    pub listing-start : Listing s₀ 0 0
    unfolding tets spread
    listing-start = record { few = omega arith; pushed = push-start 4 (4 * n) s₀; kept = kept_self (4 * n) s₀ }

    module _ {s : List ℕ} {c e : ℕ} (v : Listing s c e) where
      pub listing-turn : e < n → {t : Tet} → t ≡ tet_at s e → {s' : List ℕ} {k : ℕ} → Pushed (keep p (element_rows a b t)) 4 (4 * n + 4 * c) s s' k → Listing s' (c + k) (e + 1)
      listing-turn h {t} r {s'} {k} w =
          let i : t ≡ tet_at s₀ e = r ∙ tet-kept s₀ s n e v.kept.front h in
          let q : keep p (each (e + 1)) ≡ keep p (each e) ++ keep p (element_rows a b t) =
          ap (keep p) (each-next e ∙ ap (λ (u : Tet). each e ++ element_rows a b u) (sym i)) ∙ keep_append p (each e) (element_rows a b t) in
          let z : Pushed (keep p (each (e + 1))) 4 (4 * n) s₀ s' (c + k) =
          subst (λ (rs : List (List ℕ)). Pushed rs 4 (4 * n) s₀ s' (c + k)) (sym q) (push-more (shape-each e) (omega arith) v.pushed w) in
          record {
            few = omega (arith, z.number, few-each (e + 1));
            pushed = z;
            kept = push_kept (shape-each (e + 1)) (omega arith) z (omega (arith, z.number, few-each (e + 1)));
          }

-- in the whole area, with the table behind
pub listing-end : (a b n : ℕ) (s₀ : List ℕ) (p : List ℕ → Bool) → 88 * n ≤ length s₀ → {s : List ℕ} {c e : ℕ} → Listing a b n (take (60 * n) s₀) p s c e → e ≡ n
    → Pushed (keep p (spread (element_rows a b) (tets n s₀))) 4 (4 * n) s₀ (s ++ drop (60 * n) s₀) c
unfolding stacked
listing-end a b n s₀ p room {s} {c} {e} v h =
    let r = keep p (spread (element_rows a b) (tets n s₀)) in
    let i = 4 * n + 4 * length r in
    let d = 60 * n - i in
    let q : keep p (each a b n (take (60 * n) s₀) p e) ≡ r =
    ap (λ (u : ℕ). keep p (spread (element_rows a b) (tets u (take (60 * n) s₀)))) h
    ∙ ap (λ (ts : List Tet). keep p (spread (element_rows a b) ts)) (tets-same n s₀ (take (60 * n) s₀) (λ j l. get_or-take (60 * n) s₀ j 0 (omega arith))) in
    let few : length r ≤ 7 * n = omega (arith, few-each a b n s₀ p n) in
    let m : i + d ≡ 60 * n = omega arith in
    let back : drop i (take (60 * n) s₀) ++ drop (60 * n) s₀ ≡ drop i s₀ =
    ap₂ (λ (u v : List ℕ). u ++ v) (ap (λ (u : ℕ). drop i (take u s₀)) (sym m) ∙ drop-take i d s₀) (ap (λ (u : ℕ). drop u s₀) (sym m) ∙ sym (drop-drop d i s₀))
    ∙ take-append-drop d (drop i s₀) in
    record {
      number = v.pushed.number ∙ ap length q;
      area =
          ap (λ (l : List ℕ). l ++ drop (60 * n) s₀) (v.pushed.area ∙ ap (λ (rs : List (List ℕ)). stacked rs 4 (4 * n) (take (60 * n) s₀)) q)
          ∙ append_assoc (take (4 * n) (take (60 * n) s₀)) (flat r ++ drop i (take (60 * n) s₀)) (drop (60 * n) s₀)
          ∙ ap₂ (λ (u v : List ℕ). u ++ v) (take-take (4 * n) (60 * n) s₀ (omega arith)) (append_assoc (flat r) (drop i (take (60 * n) s₀)) (drop (60 * n) s₀) ∙ ap (λ (l : List ℕ). flat r ++ l) back);
    }

-- ---- the test of the rows that are left

module _ (a b n c : ℕ) (s₀ s₁ s₂ : List ℕ) (room : 88 * n ≤ length s₀) (pushed : Pushed (keep (both_row (drop (60 * n) s₀)) (spread (element_rows a b) (tets n s₀))) 4 (4 * n) s₀ s₁ c) where
  abbrev left : List (List ℕ)
  left = keep (both_row (drop (60 * n) s₀)) (spread (element_rows a b) (tets n s₀))

  shape-left : Shape 4 (length left) left
  shape-left = shape-each a b n s₀ (both_row (drop (60 * n) s₀)) n

  pub left-few : c ≤ 7 * n
  left-few = omega (arith, pushed.number, few-each a b n s₀ (both_row (drop (60 * n) s₀)) n)

  kept₁ : KeptBelow (4 * n) s₀ s₁
  kept₁ = push_kept shape-left (omega arith) pushed (omega (arith, left-few))

  pub left-room : 4 * n ≤ length s₁
  left-room = omega (arith, kept₁.long)

  module _ (e₂ : s₂ ≡ take (4 * n) s₁ ++ sorted_area c 4 (drop (4 * n) s₁)) where
    pub left-kept : KeptBelow (4 * n) s₀ s₂
    left-kept = kept-both (4 * n) s₀ s₁ s₂ kept₁ (sort-kept (4 * n) c 4 s₁ s₂ left-room e₂)

    pub left-answer : every (λ t. nodup (vertices_of t)) (tets n s₀) ≡ true → every (told_tet (drop (60 * n) s₀) a b) (tets n s₀) ≡ true
        → every (meet_run 3) (runs (same_first 3) (rows 4 c (drop (4 * n) s₂))) ≡ interior_ok a b (tets n s₀)
    left-answer d t =
        ap (λ (l : List (List ℕ)). every (meet_run 3) (runs (same_first 3) l))
        (sort-from-rows (4 * n) c 4 s₁ s₂ left-room e₂ (omega arith) (omega (arith, left-few, kept₁.long)) ∙ ap (sort le_row) (push-rows shape-left (omega arith) pushed))
        ∙ fewer-answer (drop (60 * n) s₀) a b (tets n s₀) t (fours (tets n s₀) d)
