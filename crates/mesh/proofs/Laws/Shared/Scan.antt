-- The loop over the runs of one key, which pushes what each run gives. Assumes nothing.
use Rattle.std.proofs.Common.{◌≡◌, ℕ, ◌+◌, ◌-◌, ◌*◌, ◌<◌, ◌≤◌, Bool, true, false, cond, not, ◌&&◌, eqb, Some, None, List, [], ◌∷◌, ◌++◌, length, get_or, take, drop, sym, refl, ap, ◌∙◌, subst, ap₂, append_assoc, append-nil, arith, length-drop, get_or-drop, get_or-take, drop-drop, eq-eqb, ne_eqb}
use Rattle.std.proofs.lemmas.List.{drop-take}
use lib.Seq.{paste}
use Rattle.mesh.specs.declared.runs.Runs.{Runs}
use Rattle.mesh.specs.Words.{word_at, flat}
use Rattle.mesh.specs.inside.Rows.{rows}
use Rattle.mesh.specs.inside.Runs.{runs_left, GivesRun, RunsOf}
use Rattle.mesh.specs.inside.Group.{runs, same_first}
use Rattle.mesh.specs.inside.List.{stacked, Pushed}
use Rattle.mesh.proofs.Laws.EachRun.{length-runs, rows-front}
use Rattle.mesh.proofs.Laws.Rows.{Shape, none, more, length-rows, rows_at}
use Rattle.mesh.proofs.Laws.List.Push.{push-start, push-one, push_kept, push-more, shape-append}
use Rattle.mesh.specs.inside.Shared.{word_of, one_bad, run_row, runs_rows}

-- ---- one run

-- a word of the rows at p
word-run : (s : List ℕ) (p k m j i : ℕ) → m < k → j < 5 → i ≡ p + (m * 5 + j) → word_at s i ≡ word_of (rows 5 k (drop p s)) m j
word-run s p k m j i h l e =
    ap (word_at s) e ∙ sym (get_or-drop p s (m * 5 + j) 0) ∙ sym (get_or-drop (m * 5) (drop p s) j 0) ∙ sym (get_or-take 5 (drop (m * 5) (drop p s)) j 0 l)
    ∙ ap (λ (r : List ℕ). get_or r j 0) (sym (rows_at 5 k (drop p s) m h))

-- s holds the rows, o what they give
module _ (s o : List ℕ) (p k q : ℕ) where
  -- it has not two rows
  pub run-other : (k ≡ 2 → ⊥) → Pushed (run_row (rows 5 k (drop p s))) 5 q o o 0
  unfolding run_row
  run-other h = rw (ap (λ (n : ℕ). eqb n 2) (length-rows 5 k (drop p s)) ∙ ne_eqb k 2 h) (push-start 5 q o)

  module _ (two : k ≡ 2) (b : Bool) (marks : b ≡ (eqb (word_at s (p + 4)) 0 && eqb (word_at s (p + 9)) 0)) where
    two-rows : eqb (length (rows 5 k (drop p s))) 2 ≡ true
    two-rows = eq-eqb (length (rows 5 k (drop p s))) 2 (length-rows 5 k (drop p s) ∙ two)

    bad : one_bad (rows 5 k (drop p s)) ≡ not b
    bad = sym (ap not (marks ∙ ap₂ (λ (x y : ℕ). eqb x 0 && eqb y 0) (word-run s p k 0 4 (p + 4) (omega arith) (omega arith) refl) (word-run s p k 1 4 (p + 9) (omega arith) (omega arith) (omega arith))))

    -- neither is bad
    pub run-good : b ≡ true → Pushed (run_row (rows 5 k (drop p s))) 5 q o o 0
    unfolding run_row
    run-good e = rw (two-rows, bad, e) (push-start 5 q o)

    -- one is
    pub run-bad : b ≡ false → q ≤ length o → (v w x y z : ℕ) → v ≡ word_at s p → w ≡ word_at s (p + 1) → x ≡ word_at s (p + 2) → y ≡ word_at s (p + 3) → z ≡ word_at s (p + 8)
        → (o' : List ℕ) → o' ≡ paste o q (v ∷ w ∷ x ∷ y ∷ z ∷ []) 5 → Pushed (run_row (rows 5 k (drop p s))) 5 q o o' 1
    unfolding run_row
    run-bad e h v w x y z ev ew ex ey ez o' f =
        let g = rows 5 k (drop p s) in
        let row : v ∷ w ∷ x ∷ y ∷ z ∷ [] ≡ word_of g 0 0 ∷ word_of g 0 1 ∷ word_of g 0 2 ∷ word_of g 0 3 ∷ word_of g 1 3 ∷ [] =
        five (ev ∙ word-run s p k 0 0 p (omega arith) (omega arith) (omega arith))
        (ew ∙ word-run s p k 0 1 (p + 1) (omega arith) (omega arith) (omega arith))
        (ex ∙ word-run s p k 0 2 (p + 2) (omega arith) (omega arith) (omega arith))
        (ey ∙ word-run s p k 0 3 (p + 3) (omega arith) (omega arith) (omega arith))
        (ez ∙ word-run s p k 1 3 (p + 8) (omega arith) (omega arith) (omega arith)) in
        rw (two-rows, bad, e) (push-one 5 q o o' (word_of g 0 0 ∷ word_of g 0 1 ∷ word_of g 0 2 ∷ word_of g 0 3 ∷ word_of g 1 3 ∷ []) h refl (f ∙ ap (λ (r : List ℕ). paste o q r 5) row))
      where
        five : {a b c d e a' b' c' d' e' : ℕ} → a ≡ a' → b ≡ b' → c ≡ c' → d ≡ d' → e ≡ e' → a ∷ b ∷ c ∷ d ∷ e ∷ [] ≡ a' ∷ b' ∷ c' ∷ d' ∷ e' ∷ []
        five {a} {b} {c} {d} {e} {a'} {b'} {c'} {d'} {e'} p q r u v = rw (p, q, r, u, v) refl

-- ---- all runs

shape-cond : (b : Bool) (r : List ℕ) → length r ≡ 5 → Shape 5 (length (cond b (r ∷ []) [])) (cond b (r ∷ []) [])
shape-cond true r e = more e none
shape-cond false r e = none

shape-run : (g : List (List ℕ)) → Shape 5 (length (run_row g)) (run_row g)
unfolding run_row
shape-run g = shape-cond (eqb (length g) 2 && one_bad g) (word_of g 0 0 ∷ word_of g 0 1 ∷ word_of g 0 2 ∷ word_of g 0 3 ∷ word_of g 1 3 ∷ []) refl

pub shape-runs : (gs : List (List (List ℕ))) → Shape 5 (length (runs_rows gs)) (runs_rows gs)
unfolding runs_rows
shape-runs [] = none
shape-runs (g ∷ gs) = shape-append (run_row g) (runs_rows gs) (shape-run g) (shape-runs gs)

few-cond : (b : Bool) (r : List ℕ) → length (cond b (r ∷ []) []) ≤ 1
few-cond true r = omega arith
few-cond false r = omega arith

pub run-one : (g : List (List ℕ)) → length (run_row g) ≤ 1
unfolding run_row
run-one g = few-cond (eqb (length g) 2 && one_bad g) (word_of g 0 0 ∷ word_of g 0 1 ∷ word_of g 0 2 ∷ word_of g 0 3 ∷ word_of g 1 3 ∷ [])

-- what the runs passed give is pushed behind the first 24 n words
module _ (n : ℕ) (s₀ : List ℕ) where
  abbrev front : List ℕ
  front = take (24 * n) s₀

  abbrev keys : List (List ℕ)
  keys = rows 5 (4 * n) (drop (4 * n) front)

  pub record Running (o : List ℕ) (count : ℕ) (r : Runs) : Type 0 where
    pub keyed : r.area.now ≡ front
    pub width : r.w ≡ 5
    pub few : count + length (runs_left r) ≤ 4 * n
    pub done : List (List ℕ)
    pub shape : Shape 5 (length done) done
    pub pushed : Pushed done 5 0 (drop (24 * n) s₀) o count
    pub rest : done ++ runs_rows (runs_left r) ≡ runs_rows (runs (same_first 3) keys)

  pub running-start : {t o : List ℕ} {r : Runs} → t ≡ front → o ≡ drop (24 * n) s₀ → RunsOf t (4 * n) (4 * n) 5 3 r → Running o 0 r
  running-start {t} {o} {r} e d g =
      let k : runs_left r ≡ runs (same_first 3) keys = g.left ∙ ap (λ (l : List ℕ). runs (same_first 3) (rows 5 (4 * n) (drop (4 * n) l))) e in
      record {
        keyed = g.area ∙ e;
        width = g.width;
        few = omega (arith, ap length k, length-runs (same_first 3) keys, length-rows 5 (4 * n) (drop (4 * n) front));
        done = [];
        shape = none;
        pushed = subst (λ (l : List ℕ). Pushed [] 5 0 (drop (24 * n) s₀) l 0) (sym d) (push-start 5 0 (drop (24 * n) s₀));
        rest = ap runs_rows k;
      }

  module _ (room : 44 * n ≤ length s₀) {o : List ℕ} {count : ℕ} {r : Runs} (v : Running o count r) where
    long : length o ≡ length s₀ - 24 * n
    long = (push_kept v.shape (omega arith) v.pushed (omega (arith, v.few, length-drop (24 * n) s₀))).long ∙ length-drop (24 * n) s₀

    module _ (x : ℕ × ℕ) (r' : Runs) (g : GivesRun r (Some x) r') where
      pub running-few : count < 4 * n
      running-few = omega (arith, v.few, ap length g.2.0)

      pub running-room : (x.0 + 5 * x.1 ≤ length front) × (5 * count + 5 ≤ length o)
      running-room =
          let w : x.1 * r.w ≡ x.1 * 5 = ap (λ (u : ℕ). x.1 * u) v.width in
          (omega (arith, g.2.2, ap length v.keyed), omega (arith, running-few, long))

      pub running-turn : {o' : List ℕ} {m : ℕ} → Pushed (run_row (rows 5 x.1 (drop x.0 front))) 5 (5 * count) o o' m → Running o' (count + m) r'
      unfolding runs_rows
      running-turn {o'} {m} q =
          let out = run_row (rows 5 x.1 (drop x.0 front)) in
          let at : 5 * count ≡ 0 + 5 * count = omega arith in
          record {
            keyed = ap (λ u. u.now) g.0 ∙ v.keyed;
            width = g.1 ∙ v.width;
            few = omega (arith, v.few, ap length g.2.0, q.number, run-one (rows 5 x.1 (drop x.0 front)));
            done = v.done ++ out;
            shape = shape-append v.done out v.shape (shape-run (rows 5 x.1 (drop x.0 front)));
            pushed = push-more v.shape (omega arith) v.pushed (subst (λ (u : ℕ). Pushed out 5 u o o' m) at q);
            rest =
                append_assoc v.done out (runs_rows (runs_left r'))
                ∙ ap (λ (l : List (List ℕ)). v.done ++ l)
                (ap₂ (λ (l : List ℕ) (w : ℕ). run_row (rows w x.1 (drop x.0 l)) ++ runs_rows (runs_left r')) (sym v.keyed) (sym v.width) ∙ ap runs_rows (sym g.2.0))
                ∙ v.rest;
          }

    pub running-end : (r' : Runs) → GivesRun r None r' → Pushed (runs_rows (runs (same_first 3) (rows 5 (4 * n) (drop (4 * n) s₀)))) 5 (24 * n) s₀ (front ++ o) count × (count ≤ 4 * n)
    unfolding runs_rows stacked
    running-end r' g =
        let all = runs_rows (runs (same_first 3) (rows 5 (4 * n) (drop (4 * n) s₀))) in
        let i : 4 * n + 20 * n ≡ 24 * n = omega arith in
        let k : keys ≡ rows 5 (4 * n) (drop (4 * n) s₀) =
        ap (λ (u : ℕ). rows 5 (4 * n) (drop (4 * n) (take u s₀))) (sym i) ∙ ap (rows 5 (4 * n)) (drop-take (4 * n) (20 * n) s₀) ∙ rows-front 5 (4 * n) (20 * n) (drop (4 * n) s₀) (omega arith) in
        let e : v.done ≡ all =
        sym (append-nil v.done) ∙ ap (λ (l : List (List (List ℕ))). v.done ++ runs_rows l) (sym g.2) ∙ v.rest ∙ ap (λ (l : List (List ℕ)). runs_rows (runs (same_first 3) l)) k in (
          record {
            number = v.pushed.number ∙ ap length e;
            area =
                ap (λ (l : List ℕ). front ++ l) (v.pushed.area ∙ ap (λ (l : List (List ℕ)). stacked l 5 0 (drop (24 * n) s₀)) e)
                ∙ ap (λ (l : List ℕ). front ++ (flat all ++ l)) (drop-drop (0 + 5 * length all) (24 * n) s₀ ∙ ap (λ (u : ℕ). drop u s₀) (let z : 24 * n + (0 + 5 * length all) ≡ 24 * n + 5 * length all = omega arith in z));
          },
          omega (arith, v.few),
        )
