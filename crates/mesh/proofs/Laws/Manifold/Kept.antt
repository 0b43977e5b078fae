-- Some of the elements of a sorted list: to sort and to keep those that pass a test may change places, so that elements which stand in order
-- already stand in the sort as they did in the list. For any element type. Assumes nothing.
use Rattle.std.proofs.Common.{◌≡◌, Bool, true, false, cond, ◌&&◌, List, [], ◌∷◌, sym, refl, ap, ◌∙◌, inl, inr}
use mathlib.Core.List.{Memᴰ}
use Rattle.mesh.specs.Sort.{insert, sort}
use Rattle.mesh.specs.inside.Sort.{headed, ordered}
use Rattle.mesh.specs.Complex.{keep}
use Rattle.mesh.specs.Tests.{every}
use Rattle.mesh.proofs.Laws.Bools.{split, and_intro, and_left, and_right}
use Rattle.mesh.proofs.Laws.Sort.{ordered-tail, ordered-sort, sort-ordered, insert-front}
use Rattle.mesh.proofs.Laws.Link.Members.{kept-elim}

-- ---- a test of all elements of a sort

module _ {A : Type 0} (le : A → A → Bool) (p : A → Bool) where
  every-insert : (x : A) (l : List A) → every p (insert le x l) ≡ every p (x ∷ l)
  unfolding insert
  every-insert x [] = refl
  every-insert x (y ∷ l) = go (le x y) (every-insert x l)
    where
      swap : (a b c : Bool) → (a && (b && c)) ≡ (b && (a && c))
      swap true b c = refl
      swap false true c = refl
      swap false false c = refl

      go : (b : Bool) → every p (insert le x l) ≡ every p (x ∷ l) → every p (cond b (x ∷ y ∷ l) (y ∷ insert le x l)) ≡ every p (x ∷ y ∷ l)
      go true ih = refl
      go false ih = ap (λ (b : Bool). p y && b) ih ∙ swap (p y) (p x) (every p l)

  pub every-sort : (l : List A) → every p (sort le l) ≡ every p l
  unfolding sort
  every-sort [] = refl
  every-sort (x ∷ l) = every-insert x (sort le l) ∙ ap (λ (b : Bool). p x && b) (every-sort l)

-- ---- sorted and kept

module _ {A : Type 0} (le : A → A → Bool) (trans : (a b c : A) → le a b ≡ true → le b c ≡ true → le a c ≡ true) (p : A → Bool) where
  pub headed-kept : (x y : A) (l : List A) → le x y ≡ true → ordered le (y ∷ l) ≡ true → headed le x (keep p (y ∷ l)) ≡ true
  unfolding headed ordered
  headed-kept x y [] h k = elim (split (p y)) [ inl e ↦ rw e h | inr e ↦ rw e refl ]
  headed-kept x y (z ∷ l) h k =
      elim (split (p y)) [
        | inl e ↦ rw e h
        | inr e ↦ rw e (headed-kept x z l (trans x y z h (and_left (le y z) (ordered le (z ∷ l)) k)) (and_right (le y z) (ordered le (z ∷ l)) k))
      ]

  keep-insert : (x : A) (l : List A) → ordered le l ≡ true → keep p (insert le x l) ≡ cond (p x) (insert le x (keep p l)) (keep p l)
  unfolding insert
  keep-insert x [] h = elim (split (p x)) [ inl e ↦ rw e refl | inr e ↦ rw e refl ]
  keep-insert x (y ∷ l) h = go (le x y) refl (keep-insert x l (ordered-tail le y l h))
    where
      later : le x y ≡ false → (a b : Bool) → p x ≡ a → p y ≡ b → keep p (insert le x l) ≡ cond a (insert le x (keep p l)) (keep p l)
          → cond b (y ∷ keep p (insert le x l)) (keep p (insert le x l)) ≡ cond a (insert le x (cond b (y ∷ keep p l) (keep p l))) (cond b (y ∷ keep p l) (keep p l))
      later e true true f g ih = simp (e, ih)
      later e true false f g ih = ih
      later e false true f g ih = simp ih
      later e false false f g ih = ih

      first : le x y ≡ true → (a : Bool) → p x ≡ a → cond a (x ∷ keep p (y ∷ l)) (keep p (y ∷ l)) ≡ cond a (insert le x (keep p (y ∷ l))) (keep p (y ∷ l))
      first e true f = sym (insert-front le x (keep p (y ∷ l)) (headed-kept x y l e h))
      first e false f = refl

      go : (b : Bool) → le x y ≡ b → keep p (insert le x l) ≡ cond (p x) (insert le x (keep p l)) (keep p l)
          → keep p (cond b (x ∷ y ∷ l) (y ∷ insert le x l)) ≡ cond (p x) (insert le x (keep p (y ∷ l))) (keep p (y ∷ l))
      go true e ih = first e (p x) refl
      go false e ih = later e (p x) (p y) refl refl ih

  module _ (total : (a b : A) → le a b ≡ false → le b a ≡ true) where
    -- kept of the sort is the sort of what is kept
    pub keep-sort : (l : List A) → keep p (sort le l) ≡ sort le (keep p l)
    unfolding sort
    keep-sort [] = refl
    keep-sort (x ∷ l) =
        keep-insert x (sort le l) (ordered-sort le total l)
        ∙ ap (λ (u : List A). cond (p x) (insert le x u) u) (keep-sort l)
        ∙ elim (split (p x)) [ inl e ↦ rw e refl | inr e ↦ rw e refl ]

    -- what stands in order in the list stands so in the sort
    pub keep-sort-ordered : (l : List A) → ordered le (keep p l) ≡ true → keep p (sort le l) ≡ keep p l
    keep-sort-ordered l h = keep-sort l ∙ sort-ordered le (keep p l) h

-- ---- elements in order

module _ {A : Type 0} (le : A → A → Bool) (p : A → Bool) where
  -- of two that pass the test, one behind the other, the first may stand before the second
  pub data Steady : List A → Type 0 where
    none : Steady []
    more : {x : A} {l : List A} → ((y : A) → Memᴰ y l → p x ≡ true → p y ≡ true → le x y ≡ true) → Steady l → Steady (x ∷ l)

  headed-all : (x : A) (l : List A) → ((y : A) → Memᴰ y l → le x y ≡ true) → headed le x l ≡ true
  unfolding headed
  headed-all x [] h = refl
  headed-all x (y ∷ l) h = h y (Memᴰ.head refl)

  pub steady-ordered : {l : List A} → Steady l → ordered le (keep p l) ≡ true
  unfolding ordered
  steady-ordered none = refl
  steady-ordered (more {x = x} {l = l} h s) =
      elim (split (p x)) [
        | inl e ↦ rw e (and_intro (headed le x (keep p l)) (ordered le (keep p l)) (headed-all x (keep p l) (λ y m. let r = kept-elim p l m in h y r.0 e r.1)) (steady-ordered s))
        | inr e ↦ rw e (steady-ordered s)
      ]
