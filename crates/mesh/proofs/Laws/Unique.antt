-- The laws of taking out equal neighbours, for any element type. What is left has the same elements; of an ordered list it is
-- strictly rising, and the only strictly rising list that has them (`rising-unique`). Assumes nothing.
use Rattle.std.proofs.Common.{◌≡◌, suc, ◌≤◌, Bool, true, false, cond, not, ◌||◌, List, [], ◌∷◌, length, sym, refl, ap, ◌∙◌, subst, ⊎_elim, arith}
use mathlib.Core.Bool.{or_self_left}
use Rattle.mesh.specs.Sort.{unique_after, unique}
use Rattle.mesh.specs.inside.Sort.{before, headed, ordered, elem}
use borrow.Author.Tests.{not-true}
use Rattle.mesh.proofs.Laws.Bools.{split, clash, fails, and_intro, and_left, and_right}
use Rattle.mesh.proofs.Laws.Sort.{ordered-tail}

module _ {A : Type 0} (eq : A → A → Bool) where
  length-after : (p : A) (l : List A) → length (unique_after eq p l) ≤ length l
  unfolding unique_after
  length-after p [] = omega arith
  length-after p (y ∷ l) = go (eq p y) (length-after p l) (length-after y l)
    where
      go : (b : Bool) → length (unique_after eq p l) ≤ length l → length (unique_after eq y l) ≤ length l
          → length (cond b (unique_after eq p l) (y ∷ unique_after eq y l)) ≤ suc (length l)
      go true h k = omega arith
      go false h k = omega arith

  -- no more elements than before
  pub length-unique : (l : List A) → length (unique eq l) ≤ length l
  unfolding unique
  length-unique [] = omega arith
  length-unique (x ∷ l) = let h = length-after x l in omega arith

  module _ (eq-sound : (a b : A) → eq a b ≡ true → a ≡ b) where
    elem-after : (z p : A) (l : List A) → (eq z p || elem eq z (unique_after eq p l)) ≡ (eq z p || elem eq z l)
    unfolding unique_after elem
    elem-after z p [] = refl
    elem-after z p (y ∷ l) = go (eq p y) refl (elem-after z p l) (elem-after z y l)
      where
        go : (b : Bool) → eq p y ≡ b → (eq z p || elem eq z (unique_after eq p l)) ≡ (eq z p || elem eq z l)
            → (eq z y || elem eq z (unique_after eq y l)) ≡ (eq z y || elem eq z l)
            → (eq z p || elem eq z (cond b (unique_after eq p l) (y ∷ unique_after eq y l))) ≡ (eq z p || (eq z y || elem eq z l))
        go true e h k = h ∙ sym (or_self_left (eq z p) (elem eq z l)) ∙ ap (λ (u : A). eq z p || (eq z u || elem eq z l)) (eq-sound p y e)
        go false e h k = ap (λ (b : Bool). eq z p || b) k

    -- the same elements
    pub elem-unique : (z : A) (l : List A) → elem eq z (unique eq l) ≡ elem eq z l
    unfolding unique elem
    elem-unique z [] = refl
    elem-unique z (x ∷ l) = elem-after z x l

    module _ (eq_refl : (a : A) → eq a a ≡ true) (le : A → A → Bool) (anti : (a b : A) → le a b ≡ true → le b a ≡ true → a ≡ b) where
      apart : (p y : A) → le p y ≡ true → eq p y ≡ false → before le p y ≡ true
      unfolding before
      apart p y h e = ap not (fails (le y p) (λ k. clash (eq p y) (ap (eq p) (sym (anti p y h k)) ∙ eq_refl p) e))

      rising-after : (p : A) (l : List A) → ordered le (p ∷ l) ≡ true → ordered (before le) (p ∷ unique_after eq p l) ≡ true
      unfolding unique_after ordered headed
      rising-after p [] h = refl
      rising-after p (y ∷ l) h = go (eq p y) refl (rising-after p l) (rising-after y l)
        where
          go : (b : Bool) → eq p y ≡ b → (ordered le (p ∷ l) ≡ true → ordered (before le) (p ∷ unique_after eq p l) ≡ true)
              → (ordered le (y ∷ l) ≡ true → ordered (before le) (y ∷ unique_after eq y l) ≡ true)
              → ordered (before le) (p ∷ cond b (unique_after eq p l) (y ∷ unique_after eq y l)) ≡ true
          go true e f g = f (subst (λ (u : A). ordered le (u ∷ l) ≡ true) (sym (eq-sound p y e)) (and_right (le p y) (ordered le (y ∷ l)) h))
          go false e f g = and_intro (before le p y) (ordered (before le) (y ∷ unique_after eq y l)) (apart p y (and_left (le p y) (ordered le (y ∷ l)) h) e) (g (and_right (le p y) (ordered le (y ∷ l)) h))

      -- of an ordered list they are strictly rising
      pub unique-rising : (l : List A) → ordered le l ≡ true → ordered (before le) (unique eq l) ≡ true
      unfolding unique ordered
      unique-rising [] h = refl
      unique-rising (x ∷ l) h = rising-after x l h

-- ---- strictly rising lists

module _ {A : Type 0} (le : A → A → Bool) (trans : (a b c : A) → le a b ≡ true → le b c ≡ true → le a c ≡ true) (total : (a b : A) → le a b ≡ false → le b a ≡ true)
    (eq : A → A → Bool) (eq_refl : (a : A) → eq a a ≡ true) (eq-sound : (a b : A) → eq a b ≡ true → a ≡ b) where
  pub before-trans : (a b c : A) → before le a b ≡ true → before le b c ≡ true → before le a c ≡ true
  unfolding before
  before-trans a b c h k = ap not (fails (le c a) (λ m. clash (le c b) (trans c a b m (total b a (not-true (le b a) h))) (not-true (le c b) k)))

  before-not : (a b : A) → before le a b ≡ true → before le b a ≡ true → ⊥
  unfolding before
  before-not a b h k = clash (le a b) (total b a (not-true (le b a) h)) (not-true (le a b) k)

  -- the elements behind the head of a strictly rising list stand behind it
  head_first : (y x : A) (l : List A) → ordered (before le) (y ∷ l) ≡ true → elem eq x l ≡ true → before le y x ≡ true
  unfolding ordered headed elem
  head_first y x [] h k = clash false k refl
  head_first y x (z ∷ l) h k = go (eq x z) refl (head_first z x l)
    where
      y<z : before le y z ≡ true
      y<z = and_left (before le y z) (ordered (before le) (z ∷ l)) h

      go : (b : Bool) → eq x z ≡ b → (ordered (before le) (z ∷ l) ≡ true → elem eq x l ≡ true → before le z x ≡ true) → before le y x ≡ true
      go true e ih = subst (λ (u : A). before le y u ≡ true) (sym (eq-sound x z e)) y<z
      go false e ih =
          before-trans y z x y<z (ih (and_right (before le y z) (ordered (before le) (z ∷ l)) h) (ap (λ (b : Bool). b || elem eq x l) (sym e) ∙ k))

  elem-first : (x : A) (l : List A) → elem eq x (x ∷ l) ≡ true
  unfolding elem
  elem-first x l = rw (eq_refl x)

  elem-other : (z x : A) (l : List A) → eq z x ≡ false → elem eq z (x ∷ l) ≡ elem eq z l
  unfolding elem
  elem-other z x l e = rw e

  -- the head of the one is the head of the other
  same_head : (x y : A) (a b : List A) → ordered (before le) (x ∷ a) ≡ true → ordered (before le) (y ∷ b) ≡ true
      → ((z : A) → elem eq z (x ∷ a) ≡ elem eq z (y ∷ b)) → x ≡ y
  same_head x y a b h k c = ⊎_elim (eq-sound x y) (λ e. absurd (other e)) (split (eq x y))
    where
      other : eq x y ≡ false → ⊥
      other e =
          let f : eq y x ≡ false = fails (eq y x) (λ m. clash (eq x y) (ap (λ (u : A). eq u y) (sym (eq-sound y x m)) ∙ eq_refl y) e) in
          before-not y x
          (head_first y x b k (sym (elem-other x y b e) ∙ sym (c x) ∙ elem-first x a))
          (head_first x y a h (sym (elem-other y x a f) ∙ c y ∙ elem-first y b))

  -- the head is not among the others
  pub head-once : (x : A) (l : List A) → ordered (before le) (x ∷ l) ≡ true → elem eq x l ≡ false
  head-once x l h = fails (elem eq x l) (λ m. let b = head_first x x l h m in before-not x x b b)

  same_rest : (x : A) (a b : List A) → ordered (before le) (x ∷ a) ≡ true → ordered (before le) (x ∷ b) ≡ true
      → ((z : A) → elem eq z (x ∷ a) ≡ elem eq z (x ∷ b)) → (z : A) → elem eq z a ≡ elem eq z b
  same_rest x a b h k c z = ⊎_elim same (λ e. sym (elem-other z x a e) ∙ c z ∙ elem-other z x b e) (split (eq z x))
    where
      same : eq z x ≡ true → elem eq z a ≡ elem eq z b
      same e = let f = eq-sound z x e in ap (λ (u : A). elem eq u a) f ∙ head-once x a h ∙ sym (head-once x b k) ∙ ap (λ (u : A). elem eq u b) (sym f)

  -- two strictly rising lists with the same elements are equal
  pub rising-unique : (a b : List A) → ordered (before le) a ≡ true → ordered (before le) b ≡ true → ((z : A) → elem eq z a ≡ elem eq z b) → a ≡ b
  unfolding elem
  rising-unique [] [] h k c = refl
  rising-unique [] (y ∷ b) h k c = clash false (c y ∙ elem-first y b) refl
  rising-unique (x ∷ a) [] h k c = clash false (sym (c x) ∙ elem-first x a) refl
  rising-unique (x ∷ a) (y ∷ b) h k c = go (same_head x y a b h k c) (rising-unique a b)
    where
      go : x ≡ y → (ordered (before le) a ≡ true → ordered (before le) b ≡ true → ((z : A) → elem eq z a ≡ elem eq z b) → a ≡ b) → x ∷ a ≡ y ∷ b
      go e ih =
          let c' : (z : A) → elem eq z (x ∷ a) ≡ elem eq z (x ∷ b) = subst (λ (u : A). (z : A) → elem eq z (x ∷ a) ≡ elem eq z (u ∷ b)) (sym e) c in
          let k' : ordered (before le) (x ∷ b) ≡ true = subst (λ (u : A). ordered (before le) (u ∷ b) ≡ true) (sym e) k in
          ap (λ (l : List A). x ∷ l) (ih (ordered-tail (before le) x a h) (ordered-tail (before le) y b k) (same_rest x a b h k' c')) ∙ ap (λ (u : A). u ∷ b) e
