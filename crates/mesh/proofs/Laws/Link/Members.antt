-- Members of lists of any type: those that pass a test, and the sets of specs/Sets.antt under a test that decides equality.
-- Assumes nothing.
use Rattle.std.proofs.Common.{◌≡◌, Bool, true, List, [], ◌∷◌, sym, refl, ap, ◌∙◌, inl, inr, true≢false}
use mathlib.Core.List.{Memᴰ}
use Rattle.mesh.specs.Complex.{keep}
use Rattle.mesh.specs.Tests.{every}
use Rattle.mesh.specs.Sets.{among, both, same_set}
use Rattle.mesh.proofs.Laws.Complex.Sets.{split, same, or_cases, or_left, or_right, and-fst, and-snd}

module _ {A : Type 0} where
  -- the same members, in any order and as often as may be
  abbrev pub Alike : List A → List A → Type 0
  Alike xs ys = (x : A) → (Memᴰ x xs → Memᴰ x ys) × (Memᴰ x ys → Memᴰ x xs)

  pub kept-elim : (p : A → Bool) {x : A} (xs : List A) → Memᴰ x (keep p xs) → Memᴰ x xs × (p x ≡ true)
  kept-elim p [] m = absurd (mathlib.Core.List.Memᴰ.not-nil m)
  kept-elim p {x} (y ∷ xs) m =
      let later : Memᴰ x (keep p xs) → Memᴰ x (y ∷ xs) × (p x ≡ true) = λ k. let r = kept-elim p xs k in (mathlib.Core.List.Memᴰ.tail r.0, r.1) in
      elim (split (p y)) [
        | inl h ↦ elim (mathlib.Core.List.Memᴰ.cases_cons (rw h at m)) [ inl q ↦ (mathlib.Core.List.Memᴰ.head q, rw q h) | inr q ↦ later q ]
        | inr h ↦ later (rw h at m)
      ]

  pub kept-intro : (p : A → Bool) {x : A} (xs : List A) → Memᴰ x xs → p x ≡ true → Memᴰ x (keep p xs)
  kept-intro p [] m h = absurd (mathlib.Core.List.Memᴰ.not-nil m)
  kept-intro p {x} (y ∷ xs) m h =
      elim (mathlib.Core.List.Memᴰ.cases_cons m) [
        | inl q ↦ let g : p y ≡ true = rw (← q) h in rw g (mathlib.Core.List.Memᴰ.head q)
        | inr q ↦ elim (split (p y)) [ inl g ↦ rw g (mathlib.Core.List.Memᴰ.tail (kept-intro p xs q h)) | inr g ↦ rw g (kept-intro p xs q h) ]
      ]

  pub kept-alike : (p : A → Bool) (xs ys : List A) → Alike xs ys → Alike (keep p xs) (keep p ys)
  kept-alike p xs ys h x = (
    (λ m. let r = kept-elim p xs m in kept-intro p ys ((h x).0 r.0) r.1),
    (λ m. let r = kept-elim p ys m in kept-intro p xs ((h x).1 r.0) r.1),
  )

  pub keep_same : (p q : A → Bool) (xs : List A) → ((x : A) → p x ≡ q x) → keep p xs ≡ keep q xs
  keep_same p q [] h = refl
  keep_same p q (x ∷ xs) h =
      let ih : keep p xs ≡ keep q xs = keep_same p q xs h in
      rw (h x) (elim (split (q x)) [ inl k ↦ rw k (ap (λ l. x ∷ l) ih) | inr k ↦ rw k ih ])

  pub every-elim : (p : A → Bool) {x : A} (xs : List A) → every p xs ≡ true → Memᴰ x xs → p x ≡ true
  every-elim p [] h m = absurd (mathlib.Core.List.Memᴰ.not-nil m)
  every-elim p (y ∷ xs) h m =
      elim (mathlib.Core.List.Memᴰ.cases_cons m) [ inl q ↦ rw q (and-fst (p y) (every p xs) h) | inr q ↦ every-elim p xs (and-snd (p y) (every p xs) h) q ]

  pub every-intro : (p : A → Bool) (xs : List A) → ((x : A) → Memᴰ x xs → p x ≡ true) → every p xs ≡ true
  every-intro p [] h = refl
  every-intro p (y ∷ xs) h = rw (h y (mathlib.Core.List.Memᴰ.head refl)) (every-intro p xs (λ x m. h x (mathlib.Core.List.Memᴰ.tail m)))

  -- the same tests of the same members come to the same
  pub every-alike : (p q : A → Bool) (xs ys : List A) → ((x : A) → p x ≡ q x) → Alike xs ys → every p xs ≡ every q ys
  every-alike p q xs ys e h =
      same
      (λ k. every-intro q ys (λ x m. sym (e x) ∙ every-elim p xs k ((h x).1 m)))
      (λ k. every-intro p xs (λ x m. e x ∙ every-elim q ys k ((h x).0 m)))

-- a test that a value passes with itself only
pub record Decides {A : Type 0} (alike : A → A → Bool) : Type 0 where
  pub equal : (x y : A) → alike x y ≡ true → x ≡ y
  pub self : (x : A) → alike x x ≡ true

module _ {A : Type 0} (alike : A → A → Bool) (d : Decides alike) where
  pub among-elim : {x : A} (xs : List A) → among alike x xs ≡ true → Memᴰ x xs
  among-elim [] h = absurd (true≢false (sym h))
  among-elim {x} (y ∷ xs) h =
      elim (or_cases (alike x y) (among alike x xs) h) [ inl q ↦ mathlib.Core.List.Memᴰ.head (d.equal x y q) | inr q ↦ mathlib.Core.List.Memᴰ.tail (among-elim xs q) ]

  pub among-intro : {x : A} (xs : List A) → Memᴰ x xs → among alike x xs ≡ true
  among-intro [] m = absurd (mathlib.Core.List.Memᴰ.not-nil m)
  among-intro {x} (y ∷ xs) m =
      elim (mathlib.Core.List.Memᴰ.cases_cons m) [
        | inl q ↦ or_left {a = alike x y} (among alike x xs) (rw q (d.self y))
        | inr q ↦ or_right (alike x y) (among-intro xs q)
      ]

  pub both-elim : {x : A} (xs ys : List A) → Memᴰ x (both alike xs ys) → Memᴰ x xs × Memᴰ x ys
  both-elim xs ys m = let r = kept-elim (λ x. among alike x ys) xs m in (r.0, among-elim ys r.1)

  pub both-intro : {x : A} (xs ys : List A) → Memᴰ x xs → Memᴰ x ys → Memᴰ x (both alike xs ys)
  both-intro xs ys m n = kept-intro (λ x. among alike x ys) xs m (among-intro ys n)

  pub both-alike : (xs xs' ys ys' : List A) → Alike xs xs' → Alike ys ys' → Alike (both alike xs ys) (both alike xs' ys')
  both-alike xs xs' ys ys' h k x = (
    (λ m. let r = both-elim xs ys m in both-intro xs' ys' ((h x).0 r.0) ((k x).0 r.1)),
    (λ m. let r = both-elim xs' ys' m in both-intro xs ys ((h x).1 r.0) ((k x).1 r.1)),
  )

  -- the test of sets holds exactly where the members are the same
  pub same_set-elim : (xs ys : List A) → same_set alike xs ys ≡ true → Alike xs ys
  same_set-elim xs ys h x =
      let p = and-fst (every (λ z. among alike z ys) xs) (every (λ z. among alike z xs) ys) h in
      let q = and-snd (every (λ z. among alike z ys) xs) (every (λ z. among alike z xs) ys) h in
      ((λ m. among-elim ys (every-elim (λ z. among alike z ys) xs p m)), (λ m. among-elim xs (every-elim (λ z. among alike z xs) ys q m)))

  pub same_set-intro : (xs ys : List A) → Alike xs ys → same_set alike xs ys ≡ true
  same_set-intro xs ys h =
      rw (every-intro (λ z. among alike z ys) xs (λ x m. among-intro ys ((h x).0 m))) (every-intro (λ z. among alike z xs) ys (λ x m. among-intro xs ((h x).1 m)))

  pub same_set-alike : (xs xs' ys ys' : List A) → Alike xs xs' → Alike ys ys' → same_set alike xs ys ≡ same_set alike xs' ys'
  same_set-alike xs xs' ys ys' h k =
      same
      (λ t. let r = same_set-elim xs ys t in same_set-intro xs' ys' (λ x. ((λ m. (k x).0 ((r x).0 ((h x).1 m))), (λ m. (h x).0 ((r x).1 ((k x).1 m))))))
      (λ t. let r = same_set-elim xs' ys' t in same_set-intro xs ys (λ x. ((λ m. (k x).1 ((r x).0 ((h x).0 m))), (λ m. (h x).1 ((r x).1 ((k x).0 m))))))
