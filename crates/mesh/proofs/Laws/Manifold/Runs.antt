-- A list cut into runs: where each begins and ends, and what they are in a sorted list, where the elements of one key stand together.
-- Assumes nothing.
use Rattle.std.proofs.Common.{◌≡◌, ℕ, suc, Bool, true, false, cond, ◌&&◌, List, [], ◌∷◌, map, take, drop, sym, refl, ap, ◌∙◌, ap₂, inl, inr}
use mathlib.Core.List.Memᴰ
use mathlib.Core.List.{Memᴰ}
use Rattle.mesh.specs.Sort.{unique_after, unique}
use Rattle.mesh.specs.inside.Sort.{headed, ordered, leading}
use Rattle.mesh.specs.Complex.{keep}
use Rattle.mesh.specs.Tests.{every}
use Rattle.mesh.proofs.Laws.Bools.{split, clash, fails, and_left, and_right}
use Rattle.mesh.specs.inside.Group.{join_run, runs}

-- two elements are the same where they behave alike
module _ {A : Type 0} (same : A → A → Bool) (self : (x : A) → same x x ≡ true) (alike : (x y z : A) → same x y ≡ true → same x z ≡ same y z) where
  flip : (x y : A) → same x y ≡ same y x
  flip x y = go (same x y) (same y x) refl refl
    where
      go : (a b : Bool) → same x y ≡ a → same y x ≡ b → same x y ≡ same y x
      go true b e f = e ∙ sym (sym (alike x y x e) ∙ self x)
      go false true e f = clash (same x y) (sym (alike y x y f) ∙ self y) e
      go false false e f = e ∙ sym f

  leading-alike : (x y : A) (l : List A) → same x y ≡ true → leading (same x) l ≡ leading (same y) l
  unfolding leading
  leading-alike x y [] h = refl
  leading-alike x y (z ∷ l) h = ap₂ (λ (b : Bool) (n : ℕ). cond b (suc n) 0) (alike x y z h) (leading-alike x y l h)

  -- the first run, and the runs behind it
  runs-front : (x : A) (l : List A) → runs same (x ∷ l) ≡ (x ∷ take (leading (same x) l) l) ∷ runs same (drop (leading (same x) l) l)
  unfolding runs join_run leading
  runs-front x [] = refl
  runs-front x (y ∷ l) =
      let ih = runs-front y l in
      elim (split (same x y)) [
        | inl e ↦ ap (join_run same x) ih ∙ simp (e, leading-alike x y l e)
        | inr e ↦ ap (join_run same x) ih ∙ simp e (ap (λ (u : List (List A)). (x ∷ []) ∷ u) (sym ih))
      ]

  pub runs-turn : (x : A) (l : List A) → runs same (x ∷ l) ≡ take (leading (same x) (x ∷ l)) (x ∷ l) ∷ runs same (drop (leading (same x) (x ∷ l)) (x ∷ l))
  unfolding leading
  runs-turn x l = runs-front x l ∙ sym (rw (self x) refl)

  -- ---- keys

  unique-alike : (x y : A) (l : List A) → same x y ≡ true → unique_after same x l ≡ unique_after same y l
  unfolding unique_after
  unique-alike x y [] h = refl
  unique-alike x y (z ∷ l) h = ap₂ (λ (b : Bool) (u : List A). cond b u (z ∷ unique_after same z l)) (alike x y z h) (unique-alike x y l h)

  after-among : (x : A) (l : List A) (z : A) → Memᴰ z (unique_after same x l) → Memᴰ z l
  unfolding unique_after
  after-among x [] z m = m
  after-among x (y ∷ l) z m =
      elim (split (same x y)) [
        | inl e ↦ Memᴰ.tail (after-among x l z (rw e at m))
        | inr e ↦ elim (Memᴰ.cases_cons (rw e at m)) [ inl q ↦ Memᴰ.head q | inr q ↦ Memᴰ.tail (after-among y l z q) ]
      ]

  first-among : (x : A) (l : List A) (z : A) → Memᴰ z (x ∷ unique_after same x l) → Memᴰ z (x ∷ l)
  first-among x l z m = elim (Memᴰ.cases_cons m) [ inl q ↦ Memᴰ.head q | inr q ↦ Memᴰ.tail (after-among x l z q) ]

  -- a test that does not tell the same apart
  every-after : (p : A → Bool) → ((x y : A) → same x y ≡ true → p x ≡ p y) → (x : A) (l : List A) → (p x && every p (unique_after same x l)) ≡ (p x && every p l)
  unfolding unique_after
  every-after p h x [] = refl
  every-after p h x (y ∷ l) =
      elim (split (same x y)) [
        | inl e ↦ rw e (every-after p h x l ∙ twice (p x) (every p l) ∙ ap (λ (b : Bool). p x && (b && every p l)) (h x y e))
        | inr e ↦ rw e (ap (λ (b : Bool). p x && b) (every-after p h y l))
      ]
    where
      twice : (a b : Bool) → (a && b) ≡ (a && (a && b))
      twice true b = refl
      twice false b = refl

  pub every-unique : (p : A → Bool) → ((x y : A) → same x y ≡ true → p x ≡ p y) → (l : List A) → every p (unique same l) ≡ every p l
  unfolding unique
  every-unique p h [] = refl
  every-unique p h (x ∷ l) = every-after p h x l

  pub keep-alike : (x y : A) (l : List A) → same x y ≡ true → keep (same x) l ≡ keep (same y) l
  keep-alike x y [] h = refl
  keep-alike x y (z ∷ l) h = ap₂ (λ (b : Bool) (u : List A). cond b (z ∷ u) u) (alike x y z h) (keep-alike x y l h)

  -- ---- in a sorted list

  module _ (le : A → A → Bool) (trans : (a b c : A) → le a b ≡ true → le b c ≡ true → le a c ≡ true)
      (between : (a b c : A) → le a b ≡ true → le b c ≡ true → same a c ≡ true → same a b ≡ true) where
    all-behind : (x : A) (l : List A) → ordered le (x ∷ l) ≡ true → (z : A) → Memᴰ z l → le x z ≡ true
    unfolding ordered headed
    all-behind x [] h z m = absurd (Memᴰ.not-nil m)
    all-behind x (y ∷ l) h z m =
        let k = and_left (le x y) (ordered le (y ∷ l)) h in
        elim (Memᴰ.cases_cons m) [
          | inl q ↦ rw q k
          | inr q ↦ trans x y z k (all-behind y l (and_right (le x y) (ordered le (y ∷ l)) h) z q)
        ]

    -- behind an element that differs from the next all differ from it
    pub parted : (x y : A) (l : List A) → ordered le (x ∷ y ∷ l) ≡ true → same x y ≡ false → (z : A) → Memᴰ z (y ∷ l) → same x z ≡ false
    unfolding ordered headed
    parted x y l h e z m =
        let k = and_left (le x y) (ordered le (y ∷ l)) h in
        elim (Memᴰ.cases_cons m) [
          | inl q ↦ rw q e
          | inr q ↦ fails (same x z) (λ f. clash (same x y) (between x y z k (all-behind y l (and_right (le x y) (ordered le (y ∷ l)) h) z q) f) e)
        ]

    -- the first of each run but the first run's differ from x
    after-differs : (x : A) (l : List A) → ordered le (x ∷ l) ≡ true → (z : A) → Memᴰ z (unique_after same x l) → same x z ≡ false
    unfolding unique_after ordered headed
    after-differs x [] h z m = absurd (Memᴰ.not-nil m)
    after-differs x (y ∷ l) h z m =
        let o = and_right (le x y) (ordered le (y ∷ l)) h in
        elim (split (same x y)) [
          | inl e ↦ alike x y z e ∙ after-differs y l o z (rw (unique-alike x y l e) at (rw e at m))
          | inr e ↦ parted x y l h e z (first-among y l z (rw e at m))
        ]

    -- kept lists do not see an element that differs
    keep-behind : (x : A) (l ks : List A) → ((z : A) → Memᴰ z ks → same x z ≡ false) → map (λ r. keep (same r) (x ∷ l)) ks ≡ map (λ r. keep (same r) l) ks
    keep-behind x l [] h = refl
    keep-behind x l (k ∷ ks) h =
        let e : same k x ≡ false = flip k x ∙ h k (Memᴰ.head refl) in
        ap₂ (λ (u : List A) (v : List (List A)). u ∷ v) (rw e refl) (keep-behind x l ks (λ z m. h z (Memᴰ.tail m)))

    keep-none : (x : A) (l : List A) → ((z : A) → Memᴰ z l → same x z ≡ false) → keep (same x) l ≡ []
    keep-none x [] h = refl
    keep-none x (y ∷ l) h = rw (h y (Memᴰ.head refl)) (keep-none x l (λ z m. h z (Memᴰ.tail m)))

    -- the runs are the elements of each key, for the keys in their order
    pub runs-keys : (l : List A) → ordered le l ≡ true → runs same l ≡ map (λ r. keep (same r) l) (unique same l)
    unfolding runs join_run unique unique_after ordered headed
    runs-keys [] h = refl
    runs-keys (x ∷ []) h = sym (rw (self x) refl)
    runs-keys (x ∷ y ∷ l) h =
        let o = and_right (le x y) (ordered le (y ∷ l)) h in
        let ih = runs-keys (y ∷ l) o in
        let away = after-differs y l o in
        elim (split (same x y)) [
          | inl e ↦ ap (join_run same x) ih ∙ rw (self y, e, self x) (
              ap₂ (λ (u : List A) (v : List (List A)). (x ∷ y ∷ u) ∷ v) (sym (keep-alike x y l e))
              (sym (keep-behind x (y ∷ l) (unique_after same y l) (λ z m. alike x y z e ∙ away z m)) ∙ ap (map (λ r. keep (same r) (x ∷ y ∷ l))) (sym (unique-alike x y l e))))
          | inr e ↦ (
              let rest = y ∷ unique_after same y l in
              let j : join_run same x (map (λ r. keep (same r) (y ∷ l)) rest) ≡ (x ∷ []) ∷ map (λ r. keep (same r) (y ∷ l)) rest = rw (self y, e) refl in
              let a : x ∷ [] ≡ keep (same x) (x ∷ y ∷ l) = sym (rw (self x) (ap (λ (u : List A). x ∷ u) (keep-none x (y ∷ l) (parted x y l h e)))) in
              let b = keep-behind x (y ∷ l) rest (λ z m. parted x y l h e z (first-among y l z m)) in
              ap (join_run same x) ih ∙ j ∙ ap₂ (λ (u : List A) (v : List (List A)). u ∷ v) a (sym b) ∙ rw e refl)
        ]
