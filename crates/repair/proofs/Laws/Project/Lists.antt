-- Lists that a loop fills or changes place by place. Assumes nothing.
use Prim.Native.Nat.{ℕ, zero, suc, ◌+◌, ◌<◌, ◌≤◌}
use mathlib.Core.Path.{◌≡◌, refl, sym, ap, ◌∙◌}
use mathlib.Core.Bool.{Bool, true, ◌&&◌, ◌||◌}
use mathlib.Core.List.{List, [], ◌∷◌, ◌++◌, map, append_assoc}
use native.Mathlib.Numerals.{add-one}
use native.Mathlib.Omega.{arith}
use lib.ListN.{length, get_or, take, drop, set, drop_of_length-le}
use lib.Seq.{drop-cons, take-suc, take-suc-set, drop-set-lt}
use Rattle.std.specs.List.{list_any}
use Rattle.mesh.specs.Tests.{every, any}

-- ---- tests of all elements

-- the library's test of a list is that of the definitions
pub any-any : {A : Type 0} (p : A → Bool) (xs : List A) → list_any p xs ≡ any p xs
any-any p [] = refl
any-any p (x ∷ xs) = ap (λ (b : Bool). p x || b) (any-any p xs)

-- a loop that tests one element after the other: what is left from i on is the whole
module _ {A : Type 0} (p : A → Bool) (xs : List A) (i : ℕ) where
  every_next : (z : A) → i < length xs → every p (drop i xs) ≡ (p (get_or xs i z) && every p (drop (i + 1) xs))
  every_next z h = ap (every p) (drop-cons xs i z h) ∙ ap (λ (k : ℕ). p (get_or xs i z) && every p (drop k xs)) (sym (add-one i))

  -- the element i passes
  pub every-turn : (z : A) → i < length xs → p (get_or xs i z) ≡ true → every p (drop i xs) ≡ every p xs → every p (drop (i + 1) xs) ≡ every p xs
  every-turn z h t e = sym (every_next z h ∙ ap (λ (b : Bool). b && every p (drop (i + 1) xs)) t) ∙ e

  -- none is left
  pub every-end : length xs ≤ i → every p (drop i xs) ≡ every p xs → every p xs ≡ true
  every-end h e = sym e ∙ ap (every p) (drop_of_length-le xs {i = i} h)

-- ---- places

module _ {A B : Type 0} (f : A → B) where
  -- an element changed, then mapped
  pub map-set : (l : List A) (i : ℕ) (a : A) → map f (set l i a) ≡ set (map f l) i (f a)
  map-set [] i a = refl
  map-set (x ∷ l) zero a = refl
  map-set (x ∷ l) (suc i) a = ap (λ (t : List B). f x ∷ t) (map-set l i a)

  -- an element added at the end, then mapped
  pub map_snoc : (l : List A) (a : A) → map f (l ++ (a ∷ [])) ≡ map f l ++ (f a ∷ [])
  map_snoc [] a = refl
  map_snoc (x ∷ l) a = ap (λ (t : List B). f x ∷ t) (map_snoc l a)

-- one more place is filled with what stands there in another list
pub put-turn : {A B C : Type 0} (f : A → C) (g : B → C) (out : List A) (src : List B) (i : ℕ) (a : A) (z : B) → i < length out → i < length src
    → f a ≡ g (get_or src i z) → map f (take i out) ≡ map g (take i src) → map f (take (i + 1) (set out i a)) ≡ map g (take (i + 1) src)
put-turn {C = C} f g out src i a z ho hs e h =
    ap (λ (k : ℕ). map f (take k (set out i a))) (add-one i) ∙ ap (map f) (take-suc-set out i a ho) ∙ map_snoc f (take i out) a
    ∙ (λ j. h j ++ (e j ∷ []))
    ∙ sym (ap (λ (k : ℕ). map g (take k src)) (add-one i) ∙ ap (map g) (take-suc src i z hs) ∙ map_snoc g (take i src) (get_or src i z))

-- a last place is filled
pub put_last : {A : Type 0} (l : List A) (i : ℕ) (a : A) {ys : List A} → i < length l → take i l ≡ ys → take (i + 1) (set l i a) ≡ ys ++ (a ∷ [])
put_last {A} l i a {ys} h e = ap (λ (k : ℕ). take k (set l i a)) (add-one i) ∙ take-suc-set l i a h ∙ ap (λ (t : List A). t ++ (a ∷ [])) e

-- place i changed: what stands up to it
pub changed-front : {A : Type 0} (l : List A) (i : ℕ) (a : A) (xs : List A) → i < length l → take (i + 1) (set l i a) ++ xs ≡ take i l ++ (a ∷ xs)
changed-front {A} l i a xs h =
    ap (λ (k : ℕ). take k (set l i a) ++ xs) (add-one i) ∙ ap (λ (t : List A). t ++ xs) (take-suc-set l i a h) ∙ append_assoc (take i l) (a ∷ []) xs

-- place i changed: what stands behind it
pub changed-rest : {A : Type 0} (l : List A) (i : ℕ) (a : A) → drop (i + 1) (set l i a) ≡ drop (i + 1) l
changed-rest l i a = drop-set-lt (i + 1) l i a (omega arith)
