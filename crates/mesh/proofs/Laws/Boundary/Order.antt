-- Triples in dictionary order: the order of the rows of their words, total, transitive and antisymmetric. A sort of what a map gives.
-- Assumes nothing.
use Rattle.std.proofs.Common.{◌≡◌, ℕ, ◌<◌, Bool, true, false, cond, ◌&&◌, eqb, ltb, List, [], ◌∷◌, map, sym, refl, ap, ◌∙◌, ⊎_elim, arith, ltb-true, eq-eqb, eqb-true}
use Rattle.mesh.specs.declared.element.Triple.{Triple}
use Rattle.mesh.specs.Element.{triple, corners_of}
use Rattle.mesh.specs.Sort.{insert, sort}
use Rattle.mesh.specs.inside.Sort.{ordered, count}
use Rattle.mesh.specs.inside.Rows.{le_row, eq_row}
use Rattle.mesh.specs.Boundary.{same_triple, le_triple}
use Rattle.mesh.proofs.Laws.Bools.{split, clash, and_left, and_right}
use Rattle.mesh.proofs.Laws.Sort.{sort-same, sorted-unique}
use Rattle.mesh.proofs.Laws.Rows.{le_row-trans, le_row-total, le_row-anti}

-- ---- triples and the rows of their words

last_word : (x y : ℕ) → cond (ltb x y) true (cond (ltb y x) false true) ≡ cond (ltb y x) false true
last_word x y = go (ltb x y) (ltb y x) refl refl
  where
    both : x < y → y < x → ⊥
    both h k = omega arith

    go : (s t : Bool) → ltb x y ≡ s → ltb y x ≡ t → cond s true (cond t false true) ≡ cond t false true
    go true true e f = absurd (both (ltb-true x y e) (ltb-true y x f))
    go true false e f = refl
    go false t e f = refl

pub le-corners : (f g : Triple) → le_row (corners_of f) (corners_of g) ≡ le_triple f g
unfolding le_row le_triple
le-corners f g =
    ap (λ (t : Bool). cond (ltb f.a g.a) true (cond (ltb g.a f.a) false (cond (ltb f.b g.b) true (cond (ltb g.b f.b) false t)))) (last_word f.c g.c)

-- the triple of three words
abbrev triple_of : List ℕ → Triple
triple_of [] = triple 0 0 0
triple_of (x ∷ []) = triple x 0 0
triple_of (x ∷ y ∷ []) = triple x y 0
triple_of (x ∷ y ∷ z ∷ l) = triple x y z

pub corners-same : (f g : Triple) → corners_of f ≡ corners_of g → f ≡ g
corners-same f g e = ap triple_of e

pub triple-trans : (f g h : Triple) → le_triple f g ≡ true → le_triple g h ≡ true → le_triple f h ≡ true
triple-trans f g h p q = sym (le-corners f h) ∙ le_row-trans (corners_of f) (corners_of g) (corners_of h) (le-corners f g ∙ p) (le-corners g h ∙ q)

pub triple-total : (f g : Triple) → le_triple f g ≡ false → le_triple g f ≡ true
triple-total f g p = sym (le-corners g f) ∙ le_row-total (corners_of f) (corners_of g) (le-corners f g ∙ p)

pub triple-anti : (f g : Triple) → le_triple f g ≡ true → le_triple g f ≡ true → f ≡ g
triple-anti f g p q = corners-same f g (le_row-anti (corners_of f) (corners_of g) (le-corners f g ∙ p) (le-corners g f ∙ q))

pub same_refl : (f : Triple) → same_triple f f ≡ true
same_refl f = rw (eq-eqb f.a f.a refl, eq-eqb f.b f.b refl, eq-eqb f.c f.c refl)

pub same-sound : (f g : Triple) → same_triple f g ≡ true → f ≡ g
same-sound f g h =
    let a = eqb-true f.a g.a (and_left (eqb f.a g.a) (eqb f.b g.b && eqb f.c g.c) h) in
    let r = and_right (eqb f.a g.a) (eqb f.b g.b && eqb f.c g.c) h in
    let b = eqb-true f.b g.b (and_left (eqb f.b g.b) (eqb f.c g.c) r) in
    let c = eqb-true f.c g.c (and_right (eqb f.b g.b) (eqb f.c g.c) r) in
    corners-same f g (cc)

-- equal triples are the same, either way round
pub same_at : (f g : Triple) → f ≡ g → same_triple f g ≡ true
same_at f g e = ap (same_triple f) (sym e) ∙ same_refl f

pub same-other : (f g : Triple) → same_triple f g ≡ false → same_triple g f ≡ false
same-other f g h = ⊎_elim (λ p. clash (same_triple f g) (same_at f g (sym (same-sound g f p))) h) (λ p. p) (split (same_triple g f))

-- the rows of two triples have the same words where the triples are the same
pub eq-corners : (f g : Triple) → eq_row (corners_of f) (corners_of g) ≡ same_triple f g
unfolding eq_row
eq-corners f g = ap (λ (t : Bool). eqb f.a g.a && (eqb f.b g.b && t)) (last (eqb f.c g.c))
  where
    last : (t : Bool) → (t && true) ≡ t
    last true = refl
    last false = refl

-- ---- a sort of what a map gives

module _ {A B : Type 0} (h : A → B) (le_a : A → A → Bool) (le_b : B → B → Bool) (same : (x y : A) → le_b (h x) (h y) ≡ le_a x y) where
  insert-map : (x : A) (l : List A) → insert le_b (h x) (map h l) ≡ map h (insert le_a x l)
  unfolding insert
  insert-map x [] = refl
  insert-map x (y ∷ l) = go (le_a x y) (same x y) (insert-map x l)
    where
      go : (t : Bool) → le_b (h x) (h y) ≡ t → insert le_b (h x) (map h l) ≡ map h (insert le_a x l)
          → cond (le_b (h x) (h y)) (h x ∷ h y ∷ map h l) (h y ∷ insert le_b (h x) (map h l)) ≡ map h (cond t (x ∷ y ∷ l) (y ∷ insert le_a x l))
      go true e ih = rw e
      go false e ih = rw e (ap (λ (u : List B). h y ∷ u) ih)

  pub sort-map : (l : List A) → sort le_b (map h l) ≡ map h (sort le_a l)
  unfolding sort
  sort-map [] = refl
  sort-map (x ∷ l) = ap (insert le_b (h x)) (sort-map l) ∙ insert-map x (sort le_a l)

-- triples sorted as the rows of their words
pub sort-corners : (l : List Triple) → sort le_row (map corners_of l) ≡ map corners_of (sort le_triple l)
sort-corners l = sort-map (λ f. corners_of f) le_triple le_row le-corners l

-- ---- triples sorted

pub triples-same : (l m : List Triple) → ((f : Triple) → count same_triple f l ≡ count same_triple f m) → sort le_triple l ≡ sort le_triple m
triples-same l m c = sort-same le_triple triple-trans triple-total triple-anti same_triple same_refl same-sound l m c

pub triples-unique : (m l : List Triple) → ordered le_triple m ≡ true → ((f : Triple) → count same_triple f m ≡ count same_triple f l) → m ≡ sort le_triple l
triples-unique m l h c = sorted-unique le_triple triple-trans triple-total triple-anti same_triple same_refl same-sound m l h c
