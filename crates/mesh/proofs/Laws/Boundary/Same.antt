-- Rearrangements: two lists of which equally many elements pass, whatever the test. A sort is one; a map and a filter of two such
-- lists are again such. Assumes nothing.
use Rattle.std.proofs.Common.{◌≡◌, suc, ◌≤◌, Bool, true, false, cond, ◌&&◌, List, [], ◌∷◌, map, length, sym, refl, ap, ◌∙◌, ap₂, arith}
use Rattle.mesh.specs.Sort.{insert, sort}
use Rattle.mesh.specs.inside.Sort.{count}
use Rattle.mesh.specs.Complex.{keep}
use Rattle.mesh.specs.Tests.{every}
use Rattle.mesh.proofs.Laws.Bools.{and_intro, and_left, and_right}

-- ---- those that pass a test

module _ {A : Type 0} where
  pub keep_same : (p q : A → Bool) → ((x : A) → p x ≡ q x) → (l : List A) → keep p l ≡ keep q l
  keep_same p q e [] = refl
  keep_same p q e (x ∷ l) = ap₂ (λ (t : Bool) (u : List A). cond t (x ∷ u) u) (e x) (keep_same p q e l)

  pub keep-keep : (p q : A → Bool) (l : List A) → keep p (keep q l) ≡ keep (λ x. q x && p x) l
  keep-keep p q [] = refl
  keep-keep p q (x ∷ l) = go (q x) (keep-keep p q l)
    where
      go : (t : Bool) → keep p (keep q l) ≡ keep (λ x. q x && p x) l
          → keep p (cond t (x ∷ keep q l) (keep q l)) ≡ cond (t && p x) (x ∷ keep (λ x. q x && p x) l) (keep (λ x. q x && p x) l)
      go true ih = ap (λ (u : List A). cond (p x) (x ∷ u) u) ih
      go false ih = ih

  pub length-keep : (p : A → Bool) (l : List A) → length (keep p l) ≤ length l
  length-keep p [] = omega arith
  length-keep p (x ∷ l) = go (p x) (length-keep p l)
    where
      go : (t : Bool) → length (keep p l) ≤ length l → length (cond t (x ∷ keep p l) (keep p l)) ≤ suc (length l)
      go true h = omega arith
      go false h = omega arith

  pub count-keep : (eq : A → A → Bool) (z : A) (l : List A) → count eq z l ≡ length (keep (eq z) l)
  unfolding count
  count-keep eq z [] = refl
  count-keep eq z (x ∷ l) = go (eq z x) (count-keep eq z l)
    where
      go : (t : Bool) → count eq z l ≡ length (keep (eq z) l) → cond t (suc (count eq z l)) (count eq z l) ≡ length (cond t (x ∷ keep (eq z) l) (keep (eq z) l))
      go true ih = ap suc ih
      go false ih = ih

  pub keep_all : (l : List A) → keep (λ x. true) l ≡ l
  keep_all [] = refl
  keep_all (x ∷ l) = ap (λ (u : List A). x ∷ u) (keep_all l)

pub keep-map : {A B : Type 0} (h : A → B) (p : B → Bool) (l : List A) → keep p (map h l) ≡ map h (keep (λ x. p (h x)) l)
keep-map h p [] = refl
keep-map {A} {B} h p (x ∷ l) = go (p (h x)) (keep-map h p l)
  where
    go : (t : Bool) → keep p (map h l) ≡ map h (keep (λ x. p (h x)) l) → cond t (h x ∷ keep p (map h l)) (keep p (map h l)) ≡ map h (cond t (x ∷ keep (λ x. p (h x)) l) (keep (λ x. p (h x)) l))
    go true ih = ap (λ (u : List B). h x ∷ u) ih
    go false ih = ih

pub length-map : {A B : Type 0} (h : A → B) (l : List A) → length (map h l) ≡ length l
length-map h [] = refl
length-map h (x ∷ l) = ap suc (length-map h l)

-- ---- rearrangements

-- of both lists equally many pass each test
abbrev pub Same : {A : Type 0} → List A → List A → Type 0
Same {A} a b = (p : A → Bool) → length (keep p a) ≡ length (keep p b)

module _ {A : Type 0} (le : A → A → Bool) where
  insert-same : (x : A) (l : List A) → Same (insert le x l) (x ∷ l)
  unfolding insert
  insert-same x [] p = refl
  insert-same x (y ∷ l) p = go (le x y) (insert-same x l p)
    where
      swap : (s t : Bool) → length (cond t (y ∷ cond s (x ∷ keep p l) (keep p l)) (cond s (x ∷ keep p l) (keep p l))) ≡ length (cond s (x ∷ cond t (y ∷ keep p l) (keep p l)) (cond t (y ∷ keep p l) (keep p l)))
      swap true true = refl
      swap true false = refl
      swap false true = refl
      swap false false = refl

      front : (t : Bool) (u v : List A) → length u ≡ length v → length (cond t (y ∷ u) u) ≡ length (cond t (y ∷ v) v)
      front true u v e = ap suc e
      front false u v e = e

      go : (t : Bool) → length (keep p (insert le x l)) ≡ length (keep p (x ∷ l)) → length (keep p (cond t (x ∷ y ∷ l) (y ∷ insert le x l))) ≡ length (keep p (x ∷ y ∷ l))
      go true ih = refl
      go false ih = front (p y) (keep p (insert le x l)) (keep p (x ∷ l)) ih ∙ swap (p x) (p y)

  cons_same : (x : A) (a b : List A) → Same a b → Same (x ∷ a) (x ∷ b)
  cons_same x a b s p = go (p x)
    where
      go : (t : Bool) → length (cond t (x ∷ keep p a) (keep p a)) ≡ length (cond t (x ∷ keep p b) (keep p b))
      go true = ap suc (s p)
      go false = s p

  -- a sort is a rearrangement
  pub sort-rearranges : (l : List A) → Same (sort le l) l
  unfolding sort
  sort-rearranges [] p = refl
  sort-rearranges (x ∷ l) p = insert-same x (sort le l) p ∙ cons_same x (sort le l) l (sort-rearranges l) p

module _ {A : Type 0} (a b : List A) (s : Same a b) where
  pub same_length : length a ≡ length b
  same_length = ap length (sym (keep_all a)) ∙ s (λ x. true) ∙ ap length (keep_all b)

  pub same-keep : (q : A → Bool) → Same (keep q a) (keep q b)
  same-keep q p = ap length (keep-keep p q a) ∙ s (λ x. q x && p x) ∙ sym (ap length (keep-keep p q b))

  pub same_count : (eq : A → A → Bool) (z : A) → count eq z a ≡ count eq z b
  same_count eq z = count-keep eq z a ∙ s (eq z) ∙ sym (count-keep eq z b)

  pub same_map : {B : Type 0} (h : A → B) → Same (map h a) (map h b)
  same_map h p =
      ap length (keep-map h p a) ∙ length-map h (keep (λ x. p (h x)) a) ∙ s (λ x. p (h x))
      ∙ sym (ap length (keep-map h p b) ∙ length-map h (keep (λ x. p (h x)) b))

-- ---- all pass

module _ {A : Type 0} (p : A → Bool) where
  insert-every : (le : A → A → Bool) (x : A) (l : List A) → p x ≡ true → every p l ≡ true → every p (insert le x l) ≡ true
  unfolding insert
  insert-every le x [] h k = and_intro (p x) true h refl
  insert-every le x (y ∷ l) h k = go (le x y) (insert-every le x l h (and_right (p y) (every p l) k))
    where
      go : (t : Bool) → every p (insert le x l) ≡ true → every p (cond t (x ∷ y ∷ l) (y ∷ insert le x l)) ≡ true
      go true ih = and_intro (p x) (p y && every p l) h k
      go false ih = and_intro (p y) (every p (insert le x l)) (and_left (p y) (every p l) k) ih

  -- all elements of a sort pass where all of the list do
  pub sort-every : (le : A → A → Bool) (l : List A) → every p l ≡ true → every p (sort le l) ≡ true
  unfolding sort
  sort-every le [] h = refl
  sort-every le (x ∷ l) h = insert-every le x (sort le l) (and_left (p x) (every p l) h) (sort-every le l (and_right (p x) (every p l) h))
