-- The rows of short edges, sorted and each once, are the rows of the short edges in the order of lengths. Assumes nothing.
use Rattle.std.proofs.Common.{◌≡◌, ℕ, Bool, true, false, cond, not, ◌&&◌, ◌||◌, eqb, List, [], ◌∷◌, map, sym, refl, ap, ◌∙◌, ap₂, inl, inr, eq-eqb, eqb-true}
use lib.Ieee.{Float, lt}
use Rattle.geometry.specs.declared.point.Point.{Point}
use Rattle.geometry.specs.Point.{difference, norm}
use Rattle.geometry.specs.inside.Word.{order_bits}
use Rattle.mesh.specs.declared.element.Pair.{Pair}
use Rattle.mesh.specs.Words.{point_at}
use Rattle.mesh.specs.Sort.{insert, sort, unique}
use Rattle.mesh.specs.inside.Rows.{le_row, eq_row}
use Rattle.mesh.specs.Complex.{keep}
use Rattle.mesh.specs.Tests.{every}
use Rattle.mesh.specs.Element.{same_pair, le_pair}
use Rattle.mesh.specs.inside.List.{set_of}
use Rattle.mesh.proofs.Laws.Bools.{split, and_left, and_right}
use Rattle.mesh.proofs.Laws.Manifold.Kept.{every-sort}
use Rattle.mesh.proofs.Laws.Group.Ranks.{le-two, eq-two}
use Rattle.mesh.proofs.Laws.Group.Images.{unique-map}
use Rattle.mesh.proofs.Laws.List.Push.{every-kept}
use Rattle.mesh.proofs.Laws.List.Meaning.{pair_row, le-pair, eq-pair}
use Rattle.mesh.specs.Measure.{length_of}
use Rattle.mesh.specs.inside.Short.{short, le_edge, edge_row, short_rows}
use Rattle.mesh.proofs.Laws.Short.Lengths.{bits-lt}

-- ---- a sort of images, where the tests agree on elements that pass p

module _ {A B : Type 0} (f : A → B) (p : A → Bool) (le : A → A → Bool) (le' : B → B → Bool) (same : (a b : A) → p a ≡ true → p b ≡ true → le' (f a) (f b) ≡ le a b) where
  insert-image : (x : A) (l : List A) → p x ≡ true → every p l ≡ true → insert le' (f x) (map f l) ≡ map f (insert le x l)
  unfolding insert
  insert-image x [] h k = refl
  insert-image x (y ∷ l) h k =
      let s = same x y h (and_left (p y) (every p l) k) in
      let ih = insert-image x l h (and_right (p y) (every p l) k) in
      elim (split (le x y)) [ inl e ↦ rw (s, e) refl | inr e ↦ rw (s, e) (ap (λ (u : List B). f y ∷ u) ih) ]

  pub sort-image : (l : List A) → every p l ≡ true → sort le' (map f l) ≡ map f (sort le l)
  unfolding sort
  sort-image [] h = refl
  sort-image (x ∷ l) h =
      let k = and_right (p x) (every p l) h in
      ap (insert le' (f x)) (sort-image l k) ∙ insert-image x (sort le l) (and_left (p x) (every p l) h) (every-sort le p l ∙ k)

-- ---- rows of edges

module _ (ps : List Point) (limit : Float) where
  by_tests : (a b c : Bool) → cond a true (cond b false c) ≡ (a || (not b && c))
  by_tests true b c = refl
  by_tests false true c = refl
  by_tests false false c = refl

  -- rows of short edges stand by length, then numbers
  le-edge : (e f : Pair) → short ps limit e ≡ true → short ps limit f ≡ true → le_row (edge_row ps e) (edge_row ps f) ≡ le_edge ps e f
  unfolding edge_row
  le-edge e f h k =
      le-two (order_bits (length_of ps e)) (order_bits (length_of ps f)) (pair_row e) (pair_row f)
      ∙ ap₂ (λ (a b : Bool). cond a true (cond b false (le_row (pair_row e) (pair_row f)))) (bits-lt ps limit e f h k) (bits-lt ps limit f e k h)
      ∙ ap (λ (c : Bool). cond (lt (length_of ps e) (length_of ps f)) true (cond (lt (length_of ps f) (length_of ps e)) false c)) (le-pair e f)
      ∙ by_tests (lt (length_of ps e) (length_of ps f)) (lt (length_of ps f) (length_of ps e)) (le_pair e f)

  -- and are the same where the edges are
  eq-edge : (e f : Pair) → eq_row (edge_row ps e) (edge_row ps f) ≡ same_pair e f
  unfolding edge_row
  eq-edge e f =
      let X = order_bits (length_of ps e) in
      let Y = order_bits (length_of ps f) in
      eq-two X Y (pair_row e) (pair_row f) ∙ ap (λ (c : Bool). eqb X Y && c) (eq-pair e f)
      ∙ elim (split (same_pair e f)) [
        | inl h ↦
            let l = ap₂ (λ (u v : ℕ). order_bits (norm (difference (point_at ps u) (point_at ps v)))) (eqb-true e.a f.a (and_left (eqb e.a f.a) (eqb e.b f.b) h)) (eqb-true e.b f.b (and_right (eqb e.a f.a) (eqb e.b f.b) h)) in
            ap (λ (b : Bool). b && same_pair e f) (eq-eqb X Y l)
        | inr h ↦ ap (λ (c : Bool). eqb X Y && c) h ∙ none (eqb X Y) ∙ sym h
      ]
    where
      none : (b : Bool) → (b && false) ≡ false
      none true = refl
      none false = refl

  -- the set of the rows of the short ones among these edges
  pub set-rows : (es : List Pair) → set_of (short_rows ps limit es) ≡ map (edge_row ps) (unique same_pair (sort (le_edge ps) (keep (short ps limit) es)))
  unfolding set_of short_rows
  set-rows es =
      ap (unique eq_row) (sort-image (edge_row ps) (short ps limit) (le_edge ps) le_row le-edge (keep (short ps limit) es) (every-kept (short ps limit) es))
      ∙ unique-map (edge_row ps) same_pair eq_row eq-edge (sort (le_edge ps) (keep (short ps limit) es))
