-- Whether a list has an element twice is seen in its sort between neighbours. For any element type. Assumes nothing.
use Rattle.std.proofs.Common.{◌≡◌, Bool, true, false, cond, not, ◌&&◌, ◌||◌, List, [], ◌∷◌, sym, refl, ap, ◌∙◌, subst, ap₂}
use Rattle.mesh.specs.Sort.{insert, sort}
use Rattle.mesh.specs.inside.Sort.{headed, ordered, elem}
use Rattle.mesh.proofs.Laws.Bools.{clash, fails, and_left, and_right}
use Rattle.mesh.proofs.Laws.Sort.{elem-sort, ordered-sort, elem-insert}

module _ {A : Type 0} (eq : A → A → Bool) where
  -- no element stands in the list again behind its place
  abbrev pub distinct : List A → Bool
  distinct [] = true
  distinct (x ∷ xs) = not (elem eq x xs) && distinct xs

  -- a differs from b
  abbrev pub differ : A → A → Bool
  differ a b = not (eq a b)

module _ {A : Type 0} (le eq : A → A → Bool) (eq-sym : (a b : A) → eq a b ≡ eq b a) where
  distinct-insert : (x : A) (l : List A) → distinct eq (insert le x l) ≡ distinct eq (x ∷ l)
  unfolding insert elem
  distinct-insert x [] = refl
  distinct-insert x (y ∷ l) = go (le x y) (distinct-insert x l)
    where
      swap : (p q r d : Bool) → (not (p || q) && (not r && d)) ≡ (not (p || r) && (not q && d))
      swap true q r d = refl
      swap false true true d = refl
      swap false true false d = refl
      swap false false true d = refl
      swap false false false d = refl

      go : (b : Bool) → distinct eq (insert le x l) ≡ distinct eq (x ∷ l) → distinct eq (cond b (x ∷ y ∷ l) (y ∷ insert le x l)) ≡ distinct eq (x ∷ y ∷ l)
      go true ih = refl
      go false ih =
          ap₂ (λ (a b : Bool). not a && b) (elem-insert le eq y x l ∙ ap (λ (b : Bool). b || elem eq y l) (eq-sym y x)) ih
          ∙ swap (eq x y) (elem eq y l) (elem eq x l) (distinct eq l)

  -- the sort has an element twice where the list has
  pub distinct-sort : (l : List A) → distinct eq (sort le l) ≡ distinct eq l
  unfolding sort elem
  distinct-sort [] = refl
  distinct-sort (x ∷ l) = distinct-insert x (sort le l) ∙ ap₂ (λ (a b : Bool). not a && b) (elem-sort le eq x l) (distinct-sort l)

  module _
      (trans : (a b c : A) → le a b ≡ true → le b c ≡ true → le a c ≡ true)
      (total : (a b : A) → le a b ≡ false → le b a ≡ true)
      (anti : (a b : A) → le a b ≡ true → le b a ≡ true → a ≡ b)
      (eq_refl : (a : A) → eq a a ≡ true)
      (eq-sound : (a b : A) → eq a b ≡ true → a ≡ b)
    where
      -- no element of an ordered list stands before its head
      head-least : (y x : A) (l : List A) → ordered le (y ∷ l) ≡ true → elem eq x l ≡ true → le y x ≡ true
      unfolding ordered headed elem
      head-least y x [] h k = clash false k refl
      head-least y x (z ∷ l) h k = go (eq x z) refl (head-least z x l)
        where
          y≤z : le y z ≡ true
          y≤z = and_left (le y z) (ordered le (z ∷ l)) h

          go : (b : Bool) → eq x z ≡ b → (ordered le (z ∷ l) ≡ true → elem eq x l ≡ true → le z x ≡ true) → le y x ≡ true
          go true e ih = subst (λ (u : A). le y u ≡ true) (sym (eq-sound x z e)) y≤z
          go false e ih = trans y z x y≤z (ih (and_right (le y z) (ordered le (z ∷ l)) h) (subst (λ (b : Bool). (b || elem eq x l) ≡ true) e k))

      -- in an ordered list an element that comes again comes next
      comes-next : (x y : A) (l : List A) → ordered le (x ∷ y ∷ l) ≡ true → elem eq x (y ∷ l) ≡ eq x y
      unfolding ordered headed elem
      comes-next x y l h = go (eq x y) refl
        where
          none : eq x y ≡ false → elem eq x l ≡ false
          none e =
              fails (elem eq x l)
              (λ k. clash (eq x y)
              (ap (eq x) (sym (anti x y (and_left (le x y) (ordered le (y ∷ l)) h) (head-least y x l (and_right (le x y) (ordered le (y ∷ l)) h) k))) ∙ eq_refl x)
              e)

          go : (b : Bool) → eq x y ≡ b → (eq x y || elem eq x l) ≡ eq x y
          go true e = subst (λ (b : Bool). (b || elem eq x l) ≡ b) (sym e) refl
          go false e = subst (λ (b : Bool). (b || elem eq x l) ≡ b) (sym e) (none e)

      distinct-ordered : (l : List A) → ordered le l ≡ true → distinct eq l ≡ ordered (differ eq) l
      unfolding ordered headed elem
      distinct-ordered [] h = refl
      distinct-ordered (x ∷ []) h = refl
      distinct-ordered (x ∷ y ∷ l) h =
          ap₂ (λ (a b : Bool). not a && b) (comes-next x y l h) (distinct-ordered (y ∷ l) (and_right (le x y) (ordered le (y ∷ l)) h))

      -- no element twice: no neighbours in the sort are equal
      pub distinct-neighbours : (l : List A) → distinct eq l ≡ ordered (differ eq) (sort le l)
      distinct-neighbours l = sym (distinct-sort l) ∙ distinct-ordered (sort le l) (ordered-sort le total l)
