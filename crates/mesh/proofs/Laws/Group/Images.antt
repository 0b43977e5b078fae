-- Sorting, and taking out equal neighbours, of the images of elements under a function that keeps the tests. Assumes nothing.
use Rattle.std.proofs.Common.{◌≡◌, ℕ, suc, Bool, true, false, cond, List, [], ◌∷◌, map, refl, ap, ◌∙◌, ap₂, inl, inr}
use Rattle.mesh.specs.Sort.{insert, sort, unique_after, unique}
use Rattle.mesh.specs.inside.Sort.{headed, ordered, count}
use Rattle.mesh.proofs.Laws.Bools.{split, and_intro, and_left, and_right}

module _ {A B : Type 0} (f : A → B) where
  -- a sort of images by a test that is that of the elements
  insert-map : (le : A → A → Bool) (le' : B → B → Bool) → ((a b : A) → le' (f a) (f b) ≡ le a b) → (x : A) (l : List A) → insert le' (f x) (map f l) ≡ map f (insert le x l)
  unfolding insert
  insert-map le le' h x [] = refl
  insert-map le le' h x (y ∷ l) =
      let ih = insert-map le le' h x l in
      elim (split (le x y)) [ inl e ↦ rw (h x y, e) refl | inr e ↦ rw (h x y, e) (ap (λ (u : List B). f y ∷ u) ih) ]

  pub sort-map : (le : A → A → Bool) (le' : B → B → Bool) → ((a b : A) → le' (f a) (f b) ≡ le a b) → (l : List A) → sort le' (map f l) ≡ map f (sort le l)
  unfolding sort
  sort-map le le' h [] = refl
  sort-map le le' h (x ∷ l) = ap (insert le' (f x)) (sort-map le le' h l) ∙ insert-map le le' h x (sort le l)

  after_map : (eq : A → A → Bool) (eq' : B → B → Bool) → ((a b : A) → eq' (f a) (f b) ≡ eq a b) → (p : A) (l : List A) → unique_after eq' (f p) (map f l) ≡ map f (unique_after eq p l)
  unfolding unique_after
  after_map eq eq' h p [] = refl
  after_map eq eq' h p (y ∷ l) =
      let ih = after_map eq eq' h p l in
      let ih' = after_map eq eq' h y l in
      elim (split (eq p y)) [ inl e ↦ rw (h p y, e) ih | inr e ↦ rw (h p y, e) (ap (λ (u : List B). f y ∷ u) ih') ]

  pub unique-map : (eq : A → A → Bool) (eq' : B → B → Bool) → ((a b : A) → eq' (f a) (f b) ≡ eq a b) → (l : List A) → unique eq' (map f l) ≡ map f (unique eq l)
  unfolding unique
  unique-map eq eq' h [] = refl
  unique-map eq eq' h (x ∷ l) = ap (λ (u : List B). f x ∷ u) (after_map eq eq' h x l)

  -- images of a sorted list are in order where the function keeps it
  pub ordered-map : (le : A → A → Bool) (le' : B → B → Bool) → ((a b : A) → le a b ≡ true → le' (f a) (f b) ≡ true) → (l : List A) → ordered le l ≡ true → ordered le' (map f l) ≡ true
  unfolding ordered headed
  ordered-map le le' h [] o = refl
  ordered-map le le' h (x ∷ []) o = refl
  ordered-map le le' h (x ∷ y ∷ l) o =
      and_intro (le' (f x) (f y)) (ordered le' (map f (y ∷ l))) (h x y (and_left (le x y) (ordered le (y ∷ l)) o)) (ordered-map le le' h (y ∷ l) (and_right (le x y) (ordered le (y ∷ l)) o))

  -- and as often as those of the list
  count-insert-map : (le : A → A → Bool) (eq' : B → B → Bool) (z : B) (x : A) (l : List A) → count eq' z (map f (insert le x l)) ≡ count eq' z (map f (x ∷ l))
  unfolding insert count
  count-insert-map le eq' z x [] = refl
  count-insert-map le eq' z x (y ∷ l) =
      let ih = count-insert-map le eq' z x l in
      elim (split (le x y)) [
        | inl e ↦ rw e refl
        | inr e ↦ rw e (ap (λ (n : ℕ). cond (eq' z (f y)) (suc n) n) ih ∙ swap (eq' z (f y)) (eq' z (f x)) (count eq' z (map f l)))
      ]
    where
      swap : (a b : Bool) (n : ℕ) → cond a (suc (cond b (suc n) n)) (cond b (suc n) n) ≡ cond b (suc (cond a (suc n) n)) (cond a (suc n) n)
      swap true true n = refl
      swap true false n = refl
      swap false true n = refl
      swap false false n = refl

  pub count-sort-map : (le : A → A → Bool) (eq' : B → B → Bool) (z : B) (l : List A) → count eq' z (map f (sort le l)) ≡ count eq' z (map f l)
  unfolding sort count
  count-sort-map le eq' z [] = refl
  count-sort-map le eq' z (x ∷ l) =
      count-insert-map le eq' z x (sort le l) ∙ ap (λ (n : ℕ). cond (eq' z (f x)) (suc n) n) (count-sort-map le eq' z l)

pub map-map : {A B C : Type 0} (g : B → C) (f : A → B) (l : List A) → map g (map f l) ≡ map (λ x. g (f x)) l
map-map g f [] = refl
map-map {C = C} g f (x ∷ l) = ap (λ (u : List C). g (f x) ∷ u) (map-map g f l)

pub map_same : {A B : Type 0} (f g : A → B) (l : List A) → ((x : A) → f x ≡ g x) → map f l ≡ map g l
map_same f g [] h = refl
map_same {B = B} f g (x ∷ l) h = ap₂ (λ (u : B) (v : List B). u ∷ v) (h x) (map_same f g l h)
