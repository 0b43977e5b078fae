-- Elements and their words: an area's first words are its elements' vertices, and numbering these words numbers the elements. Assumes nothing.
use mathlib.Core.Path.{◌≡◌, refl, sym, ap, ap₂, ◌∙◌}
use mathlib.Core.Bool.{true}
use mathlib.Core.List.{List, [], ◌∷◌, ◌++◌, map}
use Prim.Native.Nat.{ℕ, ◌+◌, ◌-◌, ◌*◌, ◌≤◌, ◌<◌}
use native.Mathlib.Omega.{arith}
use borrow.Author.Tests.{ltb-true, lt-ltb}
use borrow.Rule.Slice.PartMut.{mid_of, put_mid, take_put, mid_len, same_len_mid}
use lib.Dec.{ltb}
use lib.ListN.{length, take, drop, length-map, take-append-drop, length-replicate, get_or-replicate, get_or-append}
use lib.Seq.{get_or-append-add, length-take-le}
use Rattle.mesh.specs.declared.element.Tet.{Tet}
use Rattle.mesh.specs.Words.{word_at, zero_words}
use Rattle.mesh.specs.Tests.{every, under}
use Rattle.mesh.specs.Element.{tets, vertices_of, all_vertices}
use Rattle.mesh.specs.Intake.{well_numbered}
use Rattle.mesh.proofs.Laws.Bools.{and_left, and_right}
use Rattle.mesh.proofs.Laws.Intake.Reads.{length-tets, elements-front}
use Rattle.mesh.proofs.Laws.Boundary.Faces.{every_map}
use Rattle.mesh.proofs.Laws.Link.Simplices.{every-mem, mem-every}
use Rattle.repair.specs.Improve.{image_of, first_uses, place_of}
use Rattle.repair.specs.inside.improve.Renumber.{EndArea, Unmet, Numbered, Renumbered, used_by}
use Rattle.repair.proofs.Laws.Improve.Uses.{place-below, first-mem}
use Rattle.repair.proofs.Laws.Improve.Buffers.{elements-back}
use Rattle.repair.proofs.Laws.Finish.First.{first-few, first-same}

-- ---- words

-- the elements by their words
pub elements-from : (k : ℕ) (s : List ℕ) (ts : List Tet) → length ts ≡ k → take (4 * k) s ≡ all_vertices ts → tets k s ≡ ts
elements-from k s ts e h =
    ap₂ tets (sym e) (sym (take-append-drop (4 * k) s) ∙ ap (λ (l : List ℕ). l ++ drop (4 * k) s) h)
    ∙ elements-back ts (drop (4 * k) s)

-- ---- new numbers

images-all : (f : ℕ → ℕ) (ts : List Tet) → map f (all_vertices ts) ≡ all_vertices (map (image_of f) ts)
unfolding all_vertices
images-all f [] = refl
images-all f (t ∷ ts) = ap (λ (l : List ℕ). map f (vertices_of t) ++ l) (images-all f ts)

-- the vertices of well numbered elements
pub all-below : (n : ℕ) (ts : List Tet) → every (well_numbered n) ts ≡ true → every (λ v. ltb v n) (all_vertices ts) ≡ true
unfolding all_vertices
all-below n [] h = refl
all-below n (t ∷ ts) h =
    four t.a t.b t.c t.d (all_vertices ts) (and_left (under n (vertices_of t)) _ (and_left (well_numbered n t) (every (well_numbered n) ts) h))
    (all-below n ts (and_right (well_numbered n t) (every (well_numbered n) ts) h))
  where
    four : (a b c d : ℕ) (vs : List ℕ) → under n (a ∷ b ∷ c ∷ d ∷ []) ≡ true → every (λ v. ltb v n) vs ≡ true → every (λ v. ltb v n) (a ∷ b ∷ c ∷ d ∷ vs) ≡ true
    four a b c d vs e f =
        let g = and_right (ltb a n) (under n (b ∷ c ∷ d ∷ [])) e in
        let i = and_right (ltb b n) (under n (c ∷ d ∷ [])) g in
        let j = and_right (ltb c n) (under n (d ∷ [])) i in
        rw (and_left (ltb a n) (under n (b ∷ c ∷ d ∷ [])) e, and_left (ltb b n) (under n (c ∷ d ∷ [])) g, and_left (ltb c n) (under n (d ∷ [])) i, and_left (ltb d n) (under n []) j, f) refl

-- not more vertices are used than there are
pub used-few : (n : ℕ) (ts : List Tet) → every (well_numbered n) ts ≡ true → length (used_by ts) ≤ n
used-few n ts h = first-few n (all_vertices ts) (λ v m. ltb-true v n (every-mem (λ w. ltb w n) (all_vertices ts) (all-below n ts h) v m))

-- each of them is an old number
pub used-below : (n : ℕ) (ts : List Tet) → every (well_numbered n) ts ≡ true → every (λ v. ltb v n) (used_by ts) ≡ true
used-below n ts h =
    mem-every (λ v. ltb v n) (used_by ts) (λ v m. every-mem (λ w. ltb w n) (all_vertices ts) (all-below n ts h) v (sym (first-same v (all_vertices ts)) ∙ m))

-- the new numbers are below n too
pub images-below : (n : ℕ) (ts : List Tet) → every (well_numbered n) ts ≡ true → every (λ v. ltb v n) (all_vertices (map (image_of (place_of (used_by ts))) ts)) ≡ true
images-below n ts h =
    ap (every (λ v. ltb v n)) (sym (images-all (place_of (used_by ts)) ts))
    ∙ every_map (place_of (used_by ts)) (λ v. ltb v n) (all_vertices ts)
    ∙ mem-every (λ v. ltb (place_of (used_by ts) v) n) (all_vertices ts)
    (λ v m. let l = place-below (used_by ts) v (first-mem v (all_vertices ts) m) in lt-ltb (place_of (used_by ts) v) n (omega (arith, used-few n ts h)))

-- ---- `renumber`: the marks cleared, then the words numbered

module _ {k nv : ℕ} {s₀ : List ℕ} (A : EndArea k nv s₀) (z : List ℕ) (hz : z ≡ zero_words (length (mid_of (4 * k) (4 * k + nv - 4 * k) s₀))) where
  cleared : List ℕ
  cleared = put_mid (4 * k) (4 * k + nv - 4 * k) s₀ z

  marks-long : length (mid_of (4 * k) (4 * k + nv - 4 * k) s₀) ≡ nv
  marks-long = mid_len (4 * k) (4 * k + nv) s₀ (omega (arith, A.long)) ∙ omega arith

  z-long : length z ≡ length (mid_of (4 * k) (4 * k + nv - 4 * k) s₀)
  z-long = ap length hz ∙ length-replicate (length (mid_of (4 * k) (4 * k + nv - 4 * k) s₀)) 0

  front : take (4 * k) cleared ≡ take (4 * k) s₀
  unfolding cleared
  front = take_put (4 * k) (4 * k + nv - 4 * k) s₀ z (omega (arith, A.long))

  marks-zero : (v : ℕ) → v < nv → word_at cleared (4 * k + v) ≡ 0
  unfolding cleared
  marks-zero v h =
      let m : length (take (4 * k) s₀) ≡ 4 * k = length-take-le (4 * k) s₀ (omega (arith, A.long)) in
      let r = drop (4 * k + nv - 4 * k) (drop (4 * k) s₀) in
      let n : v < length (mid_of (4 * k) (4 * k + nv - 4 * k) s₀) = omega (arith, marks-long) in
      ap (λ (i : ℕ). word_at (take (4 * k) s₀ ++ (z ++ r)) (i + v)) (sym m)
      ∙ get_or-append-add (take (4 * k) s₀) (z ++ r) v 0
      ∙ get_or-append z r 0 v (omega (arith, z-long))
      ∙ ap (λ (l : List ℕ). word_at l v) hz
      ∙ get_or-replicate (length (mid_of (4 * k) (4 * k + nv - 4 * k) s₀)) v 0 0 n

  -- the words that are numbered
  vertices : take (4 * k) cleared ≡ all_vertices (tets k s₀)
  vertices = front ∙ sym (elements-front k s₀ (omega (arith, A.long)))

  pub clear-unmet : Unmet (4 * k) nv (112 * k + nv) (put_mid (4 * k) (4 * k + nv - 4 * k) s₀ z)
  unfolding cleared
  clear-unmet = record {
    words = omega (arith, A.elements);
    marks = omega arith;
    list = omega (arith, A.elements, A.vertices);
    long = omega (arith, A.long, same_len_mid (4 * k) (4 * k + nv - 4 * k) s₀ z z-long);
    below = ap (every (λ v. ltb v nv)) vertices ∙ all-below nv (tets k s₀) A.numbered;
    clean = marks-zero;
  }

  pub renumber-is : (n : ℕ) (s : List ℕ) → Numbered (4 * k) (112 * k + nv) (put_mid (4 * k) (4 * k + nv - 4 * k) s₀ z) s n → Renumbered k nv s₀ s n
  unfolding cleared
  renumber-is n s N =
      let us = used_by (tets k s₀) in
      let e : first_uses (take (4 * k) cleared) ≡ us = ap first_uses vertices in
      record {
        many = N.many ∙ ap length e;
        elements =
            elements-from k s (map (image_of (place_of us)) (tets k s₀)) (length-map (tets k s₀) (image_of (place_of us)) ∙ length-tets k s₀)
            (N.words ∙ ap₂ (λ (u v : List ℕ). map (place_of u) v) e vertices ∙ images-all (place_of us) (tets k s₀));
        used = N.used ∙ e;
      }
