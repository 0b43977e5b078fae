-- The rows of the boundary faces about an edge, put one by one behind the sorted keys. Assumes nothing.
use Rattle.std.proofs.Common.{◌≡◌, ℕ, zero, suc, ◌+◌, ◌*◌, ◌<◌, ◌≤◌, Bool, true, false, cond, Some, None, List, [], ◌∷◌, ◌++◌, map, length, take, drop, sym, refl, ap, ◌∙◌, subst, ap₂, append_assoc, append-nil, arith, length-append, length-take-le, get_or-take, drop-drop, drop_at}
use Rattle.std.proofs.lemmas.List.{drop-take}
use mathlib.Core.List.{map-append}
use lib.Seq.{paste}
use Rattle.mesh.specs.declared.element.Triple.{Triple}
use Rattle.mesh.specs.declared.runs.Runs.{Runs}
use Rattle.mesh.specs.Sort.{sort}
use Rattle.mesh.specs.inside.Rows.{rows, le_row, sorted_area}
use Rattle.mesh.specs.inside.Runs.{runs_left, GivesRun, RunsOf}
use Rattle.mesh.specs.Words.{flat}
use Rattle.mesh.specs.Element.{tets}
use Rattle.mesh.specs.inside.Group.{runs, same_first}
use Rattle.mesh.specs.inside.Manifold.{KeptBelow}
use Rattle.mesh.specs.inside.Faces.{SortedKeys}
use Rattle.mesh.specs.inside.List.{stacked}
use Rattle.mesh.specs.inside.LinkRows.{face_rows, face_in, alone_about, run_faces, faces_alone, alone_faces, rows_of_faces}
use Rattle.mesh.specs.inside.LinkAreas.{AloneRows}
use Rattle.mesh.proofs.Laws.EachRun.{length-runs, rows-front}
use Rattle.mesh.proofs.Laws.Rows.{Shape, none, more, rows-flat, length-rows}
use Rattle.mesh.proofs.Laws.Manifold.Fill.{flat_append}
use Rattle.mesh.proofs.Laws.Manifold.Growth.{kept-both}
use Rattle.mesh.proofs.Laws.Manifold.Steps.{kept_less, sort-kept, sort-from-rows}
use Rattle.mesh.proofs.Laws.List.Stack.{stack-start, stack-kept, stack-turn}

-- ---- runs of keys

-- the face of a run
run-face : (a b k : ℕ) (l : List ℕ) (f : Triple) → 0 < k → f ≡ face_in l → run_faces a b (rows 3 k l) ≡ cond (alone_about a b k f) (f ∷ []) []
unfolding rows
run-face a b zero l f h e = absurd (omega arith)
run-face a b (suc k) l f h e =
    ap₂ (λ (u : ℕ) (t : Triple). cond (alone_about a b u t) (t ∷ []) []) (length-rows 3 (suc k) l)
    (rw (get_or-take 3 l 0 0 (omega arith), get_or-take 3 l 1 0 (omega arith), get_or-take 3 l 2 0 (omega arith)) (sym e))

-- ---- the rows of faces as nine words each

nine-size : (a b : ℕ) (f : Triple) → length (flat (face_rows a b f)) ≡ 9
unfolding flat
nine-size a b f = refl

shape-nine : (a b : ℕ) (fs : List Triple) → Shape 9 (length fs) (map (λ f. flat (face_rows a b f)) fs)
shape-nine a b [] = none
shape-nine a b (f ∷ fs) = more (nine-size a b f) (shape-nine a b fs)

shape-three : (a b : ℕ) (fs : List Triple) → Shape 3 (3 * length fs) (rows_of_faces a b fs)
unfolding rows_of_faces
shape-three a b [] = none
shape-three a b (f ∷ fs) = let e : suc (suc (suc (3 * length fs))) ≡ 3 * suc (length fs) = omega arith in subst (λ (n : ℕ). Shape 3 n (face_rows a b f ++ rows_of_faces a b fs)) e (more refl (more refl (more refl (shape-three a b fs))))

flat-nine : (a b : ℕ) (fs : List Triple) → flat (map (λ f. flat (face_rows a b f)) fs) ≡ flat (rows_of_faces a b fs)
unfolding rows_of_faces flat
flat-nine a b [] = refl
flat-nine a b (f ∷ fs) = ap (λ (l : List ℕ). flat (face_rows a b f) ++ l) (flat-nine a b fs) ∙ sym (flat_append (face_rows a b f) (rows_of_faces a b fs))

-- ---- the loop

module _ (a b n : ℕ) (s₀ : List ℕ) where
  abbrev front : List ℕ
  front = take (16 * n) s₀

  abbrev keys : List (List ℕ)
  keys = rows 3 (4 * n) (drop (4 * n) front)

  abbrev stack : List Triple → List ℕ
  stack fs = stacked (map (λ f. flat (face_rows a b f)) fs) 9 0 (drop (16 * n) s₀)

  -- what holds at the head of the loop: the faces of the runs passed are put
  pub record Putting (s : List ℕ) (c : ℕ) (r : Runs) : Type 0 where
    pub keyed : r.area.now ≡ front
    pub width : r.w ≡ 3
    pub done : List Triple
    pub all : done ++ faces_alone a b (runs_left r) ≡ faces_alone a b (runs (same_first 3) keys)
    pub number : c ≡ length done
    pub few : c + length (runs_left r) ≤ 4 * n
    pub area : s ≡ stack done

  pub put-start : {t s : List ℕ} {r : Runs} → t ≡ front → s ≡ drop (16 * n) s₀ → RunsOf t (4 * n) (4 * n) 3 3 r → Putting s 0 r
  put-start {t} {s} {r} e d g =
      let k : runs_left r ≡ runs (same_first 3) keys = g.left ∙ ap (λ (l : List ℕ). runs (same_first 3) (rows 3 (4 * n) (drop (4 * n) l))) e in
      record {
        keyed = g.area ∙ e;
        width = g.width;
        done = [];
        all = ap (faces_alone a b) k;
        number = refl;
        few = omega (arith, ap length k, length-runs (same_first 3) keys, length-rows 3 (4 * n) (drop (4 * n) front));
        area = d ∙ stack-start 9 0 (drop (16 * n) s₀);
      }

  module _ {s : List ℕ} {c : ℕ} {r : Runs} (v : Putting s c r) where
    module _ (x : ℕ × ℕ) (r' : Runs) (g : GivesRun r (Some x) r') where
      pub put-few : c < 4 * n
      put-few = omega (arith, v.few, ap length g.2.0)

      pub put-inside : x.0 + 3 ≤ length front
      put-inside =
          let w : x.1 * r.w ≡ x.1 * 3 = ap (λ (u : ℕ). x.1 * u) v.width in
          omega (arith, g.2.1, g.2.2, ap length v.keyed)

      module _ {f : Triple} (e : f ≡ face_in (drop x.0 front)) where
        -- the faces from here on
        next : (p : Bool) → alone_about a b x.1 f ≡ p → faces_alone a b (runs_left r) ≡ cond p (f ∷ []) [] ++ faces_alone a b (runs_left r')
        unfolding faces_alone
        next p q =
            ap (faces_alone a b) g.2.0
            ∙ ap (λ (l : List Triple). l ++ faces_alone a b (runs_left r'))
            (ap₂ (λ (l : List ℕ) (w : ℕ). run_faces a b (rows w x.1 (drop x.0 l))) v.keyed v.width ∙ run-face a b x.1 (drop x.0 front) f g.2.1 e ∙ ap (λ (u : Bool). cond u (f ∷ []) []) q)

        -- one more face
        pub put-more : alone_about a b x.1 f ≡ true → (s' : List ℕ) → s' ≡ paste s (9 * c) (flat (face_rows a b f)) 9 → Putting s' (c + 1) r'
        put-more q s' w = record {
          keyed = ap (λ u. u.now) g.0 ∙ v.keyed;
          width = g.1 ∙ v.width;
          done = v.done ++ (f ∷ []);
          all = append_assoc v.done (f ∷ []) (faces_alone a b (runs_left r')) ∙ ap (λ (l : List Triple). v.done ++ l) (sym (next true q)) ∙ v.all;
          number = ap (λ (u : ℕ). u + 1) v.number ∙ sym (length-append v.done (f ∷ []));
          few = omega (arith, v.few, ap length g.2.0);
          area =
              stack-turn (length v.done) (shape-nine a b v.done) 0 (drop (16 * n) s₀) (omega arith) s s' (flat (face_rows a b f)) v.area (nine-size a b f)
              (w ∙ (let i : 9 * c ≡ 0 + 9 * length v.done = omega (arith, v.number) in ap (λ (u : ℕ). paste s u (flat (face_rows a b f)) 9) i))
              ∙ ap (λ (l : List (List ℕ)). stacked l 9 0 (drop (16 * n) s₀)) (sym (map-append (λ f. flat (face_rows a b f)) v.done (f ∷ [])));
        }

        -- none
        pub put-less : alone_about a b x.1 f ≡ false → Putting s c r'
        put-less q = record {
          keyed = ap (λ u. u.now) g.0 ∙ v.keyed;
          width = g.1 ∙ v.width;
          done = v.done;
          all = ap (λ (l : List Triple). v.done ++ l) (sym (next false q)) ∙ v.all;
          number = v.number;
          few = omega (arith, v.few, ap length g.2.0);
          area = v.area;
        }

    pub put-end : (r' : Runs) → GivesRun r None r' → AloneRows a b n s₀ (front ++ s) c
    unfolding faces_alone stacked
    put-end r' g =
        let all = faces_alone a b (runs (same_first 3) (rows 3 (4 * n) (drop (4 * n) s₀))) in
        let i : 4 * n + 12 * n ≡ 16 * n = omega arith in
        let k : keys ≡ rows 3 (4 * n) (drop (4 * n) s₀) =
        ap (λ (u : ℕ). rows 3 (4 * n) (drop (4 * n) (take u s₀))) (sym i) ∙ ap (rows 3 (4 * n)) (drop-take (4 * n) (12 * n) s₀) ∙ rows-front 3 (4 * n) (12 * n) (drop (4 * n) s₀) (omega arith) in
        let e : v.done ≡ all =
        sym (append-nil v.done) ∙ ap (λ (l : List (List (List ℕ))). v.done ++ faces_alone a b l) (sym g.2) ∙ v.all ∙ ap (λ (l : List (List ℕ)). faces_alone a b (runs (same_first 3) l)) k in
        record {
          number = v.number ∙ ap length e;
          few = omega (arith, v.few);
          area =
              ap (λ (l : List ℕ). front ++ l) (v.area ∙ ap stack e)
              ∙ ap (λ (l : List ℕ). front ++ (flat (map (λ f. flat (face_rows a b f)) all) ++ l)) (drop-drop (0 + 9 * length (map (λ f. flat (face_rows a b f)) all)) (16 * n) s₀ ∙ ap (λ (u : ℕ). drop u s₀) (let z : 16 * n + (0 + 9 * length (map (λ f. flat (face_rows a b f)) all)) ≡ 16 * n + 9 * length (map (λ f. flat (face_rows a b f)) all) = omega arith in z));
        }

-- ---- the whole

module _ (a b n : ℕ) (s₀ s₂ s₃ s₄ : List ℕ) (room : 88 * n ≤ length s₀) (k : SortedKeys n s₀ s₂) where
  kept₂ : KeptBelow (4 * n) s₀ s₂
  kept₂ = k.kept

  module _ (c : ℕ) (rows_alone : AloneRows a b n s₂ s₃ c) where
    abbrev fs : List Triple
    fs = faces_alone a b (runs (same_first 3) (rows 3 (4 * n) (drop (4 * n) s₂)))

    kept₃ : KeptBelow (16 * n) s₂ s₃
    kept₃ = subst (KeptBelow (16 * n) s₂) (sym rows_alone.area) (stack-kept (length fs) (shape-nine a b fs) (16 * n) s₂ (omega (arith, kept₂.long)) (omega (arith, kept₂.long)))

    rows-room : 16 * n ≤ length s₃
    rows-room = omega (arith, kept₃.long, kept₂.long)

    faces-are : fs ≡ alone_faces a b (tets n s₀)
    unfolding alone_faces
    faces-are = ap (λ (l : List (List ℕ)). faces_alone a b (runs (same_first 3) l)) k.sorted

    face-rows : rows 3 (3 * c) (drop (16 * n) s₃) ≡ rows_of_faces a b (alone_faces a b (tets n s₀))
    unfolding stacked
    face-rows =
        let gs = map (λ f. flat (face_rows a b f)) fs in
        let d = drop (16 * n + 9 * length (map (λ f. flat (face_rows a b f)) fs)) s₂ in
        ap₂ (λ (u : ℕ) (l : List ℕ). rows 3 (3 * u) l) rows_alone.number
        (ap (drop (16 * n)) rows_alone.area ∙ drop_at (take (16 * n) s₂) (flat gs ++ d) (16 * n) (length-take-le (16 * n) s₂ (omega (arith, kept₂.long)))
        ∙ ap (λ (l : List ℕ). l ++ d) (flat-nine a b fs))
        ∙ rows-flat (shape-three a b fs) d
        ∙ ap (rows_of_faces a b) faces-are

    module _ (e₄ : s₄ ≡ take (16 * n) s₃ ++ sorted_area (3 * c) 3 (drop (16 * n) s₃)) where
      pub boundary-rows : rows 3 (3 * c) (drop (16 * n) s₄) ≡ sort le_row (rows_of_faces a b (alone_faces a b (tets n s₀)))
      boundary-rows = sort-from-rows (16 * n) (3 * c) 3 s₃ s₄ rows-room e₄ (omega arith) (omega (arith, kept₃.long, kept₂.long)) ∙ ap (sort le_row) face-rows

      pub boundary-kept : KeptBelow (4 * n) s₀ s₄
      boundary-kept =
          kept-both (4 * n) s₀ s₂ s₄ kept₂
          (kept-both (4 * n) s₂ s₃ s₄ (kept_less (omega arith) kept₃) (kept_less (omega arith) (sort-kept (16 * n) (3 * c) 3 s₃ s₄ rows-room e₄)))
