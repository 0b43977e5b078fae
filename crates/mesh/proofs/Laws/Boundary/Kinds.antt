-- The turns of the scan of runs, for elements of any type: what a single, a pair and a bad run at the front leave, and that a map
-- which keeps the tests keeps what is found. Assumes nothing.
use Rattle.std.proofs.Common.{◌≡◌, ℕ, ◌≤◌, Bool, true, false, cond, eqb, List, [], ◌∷◌, map, length, refl, ap, arith, ne_eqb}
use Rattle.mesh.specs.Tests.{every}
use Rattle.mesh.specs.inside.Surface.{kind, bad_run, lone}
use Rattle.mesh.proofs.Laws.Bools.{and_left, and_right}

module _ {A : Type 0} (same level : A → A → Bool) where
  -- ---- the tests that decide

  pub kind-other : (x y : A) (l : List A) → same x y ≡ false → kind same level (x ∷ y ∷ l) ≡ 0
  unfolding kind
  kind-other x y [] e = rw e
  kind-other x y (z ∷ l) e = rw e

  pub kind-three : (x y z : A) (l : List A) → same x y ≡ true → same x z ≡ true → kind same level (x ∷ y ∷ z ∷ l) ≡ 16
  unfolding kind
  kind-three x y z l e f = rw (e, f)

  pub kind-pair : (x y : A) → same x y ≡ true → kind same level (x ∷ y ∷ []) ≡ cond (level x y) 17 1
  unfolding kind
  kind-pair x y e = rw e

  pub kind-pair-more : (x y z : A) (l : List A) → same x y ≡ true → same x z ≡ false → kind same level (x ∷ y ∷ z ∷ l) ≡ cond (level x y) 17 1
  unfolding kind
  kind-pair-more x y z l e f = rw (e, f)

  -- ---- a single at the front

  pub single-bad : (x : A) (l : List A) → kind same level (x ∷ l) ≡ 0 → bad_run same level (x ∷ l) ≡ bad_run same level l
  unfolding bad_run
  single-bad x [] e = refl
  single-bad x (y ∷ l) e = rw e

  pub single-lone : (x : A) (l : List A) → kind same level (x ∷ l) ≡ 0 → lone same level (x ∷ l) ≡ x ∷ lone same level l
  unfolding lone
  single-lone x [] e = refl
  single-lone x (y ∷ l) e = rw e

  -- ---- a pair that is not bad

  pub couple-bad : (x y : A) (l : List A) → kind same level (x ∷ y ∷ l) ≡ 1 → bad_run same level (x ∷ y ∷ l) ≡ bad_run same level l
  unfolding bad_run
  couple-bad x y l e = rw e

  pub couple-lone : (x y : A) (l : List A) → kind same level (x ∷ y ∷ l) ≡ 1 → lone same level (x ∷ y ∷ l) ≡ lone same level l
  unfolding lone
  couple-lone x y l e = rw e

  pub couple-two : (l : List A) → kind same level l ≡ 1 → 2 ≤ length l
  unfolding kind
  couple-two [] e = omega (arith, e)
  couple-two (x ∷ []) e = omega (arith, e)
  couple-two (x ∷ y ∷ l) e = omega arith

  -- ---- a bad run

  pub bad-number : (l : List A) → (kind same level l ≡ 0 → ⊥) → (kind same level l ≡ 1 → ⊥) → bad_run same level l ≡ kind same level l
  unfolding bad_run kind
  bad-number [] f g = refl
  bad-number (x ∷ []) f g = refl
  bad-number (x ∷ y ∷ l) f g = go (kind same level (x ∷ y ∷ l)) f g
    where
      go : (k : ℕ) → (k ≡ 0 → ⊥) → (k ≡ 1 → ⊥) → cond (eqb k 0) (bad_run same level (y ∷ l)) (cond (eqb k 1) (bad_run same level l) k) ≡ k
      go k f g = rw (ne_eqb k 0 f, ne_eqb k 1 g)

  pub bad-lone : (l : List A) → (kind same level l ≡ 0 → ⊥) → (kind same level l ≡ 1 → ⊥) → lone same level l ≡ []
  unfolding lone kind
  bad-lone [] f g = refl
  bad-lone (x ∷ []) f g = absurd (f refl)
  bad-lone (x ∷ y ∷ l) f g = go (kind same level (x ∷ y ∷ l)) f g
    where
      go : (k : ℕ) → (k ≡ 0 → ⊥) → (k ≡ 1 → ⊥) → cond (eqb k 0) (x ∷ lone same level (y ∷ l)) (cond (eqb k 1) (lone same level l) []) ≡ []
      go k f g = rw (ne_eqb k 0 f, ne_eqb k 1 g)

-- ---- what a map keeps

module _ {A B : Type 0} (h : A → B) (same level : A → A → Bool) (same' level' : B → B → Bool) (e : (x y : A) → same' (h x) (h y) ≡ same x y) (f : (x y : A) → level' (h x) (h y) ≡ level x y) where
  pub kind-map : (l : List A) → kind same' level' (map h l) ≡ kind same level l
  unfolding kind
  kind-map [] = refl
  kind-map (x ∷ []) = refl
  kind-map (x ∷ y ∷ []) = rw (e x y, f x y)
  kind-map (x ∷ y ∷ z ∷ l) = rw (e x y, e x z, f x y)

  pub bad-map : (l : List A) → bad_run same' level' (map h l) ≡ bad_run same level l
  unfolding bad_run
  bad-map [] = refl
  bad-map (x ∷ []) = refl
  bad-map (x ∷ y ∷ l) = rw (kind-map (x ∷ y ∷ l), bad-map (y ∷ l), bad-map l)

  pub lone-map : (l : List A) → lone same' level' (map h l) ≡ map h (lone same level l)
  unfolding lone
  lone-map [] = refl
  lone-map (x ∷ []) = refl
  lone-map (x ∷ y ∷ l) = go (kind same level (x ∷ y ∷ l)) (kind-map (x ∷ y ∷ l)) (lone-map (y ∷ l)) (lone-map l)
    where
      pick : (s t : Bool) (u v : List A) (u' v' : List B) → u' ≡ map h u → v' ≡ map h v → cond s (h x ∷ u') (cond t v' []) ≡ map h (cond s (x ∷ u) (cond t v []))
      pick true t u v u' v' p q = ap (λ (w : List B). h x ∷ w) p
      pick false true u v u' v' p q = q
      pick false false u v u' v' p q = refl

      go : (k : ℕ) → kind same' level' (map h (x ∷ y ∷ l)) ≡ k → lone same' level' (map h (y ∷ l)) ≡ map h (lone same level (y ∷ l)) → lone same' level' (map h l) ≡ map h (lone same level l)
          → cond (eqb (kind same' level' (map h (x ∷ y ∷ l))) 0) (h x ∷ lone same' level' (map h (y ∷ l))) (cond (eqb (kind same' level' (map h (x ∷ y ∷ l))) 1) (lone same' level' (map h l)) [])
          ≡ map h (cond (eqb k 0) (x ∷ lone same level (y ∷ l)) (cond (eqb k 1) (lone same level l) []))
      go k g p q = rw g (pick (eqb k 0) (eqb k 1) _ _ _ _ p q)

-- ---- what the elements that pass a test keep

-- the first two elements decide about the parity
pub kind-known : {A : Type 0} (same level level' : A → A → Bool) (p : A → Bool) → ((x y : A) → p x ≡ true → p y ≡ true → level x y ≡ level' x y)
    → (l : List A) → every p l ≡ true → kind same level l ≡ kind same level' l
unfolding kind
kind-known same level level' p e [] h = refl
kind-known same level level' p e (x ∷ []) h = refl
kind-known same level level' p e (x ∷ y ∷ []) h = rw (e x y (and_left (p x) _ h) (and_left (p y) _ (and_right (p x) _ h)))
kind-known same level level' p e (x ∷ y ∷ z ∷ l) h = rw (e x y (and_left (p x) _ h) (and_left (p y) _ (and_right (p x) _ h)))
