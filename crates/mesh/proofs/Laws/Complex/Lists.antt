-- Members of a list of elements that is filtered or mapped, and how many pass a test.
-- Assumes nothing.
use Rattle.std.proofs.Common.{◌≡◌, ℕ, ◌+◌, ◌≤◌, Bool, true, not, ◌&&◌, List, [], ◌∷◌, map, length, refl, ap, inl, inr, arith}
use mathlib.Core.List.{Memᴰ}
use Rattle.mesh.specs.Complex.{keep}
use Rattle.mesh.proofs.Laws.Complex.Sets.{split}

-- members of a kept list
pub keep-elim : (p : List ℕ → Bool) (e : List ℕ) (es : List (List ℕ)) → Memᴰ e (keep p es) → Memᴰ e es × (p e ≡ true)
keep-elim p e [] m = absurd (mathlib.Core.List.Memᴰ.not-nil m)
keep-elim p e (f ∷ es) m =
    let later : Memᴰ e (keep p es) → Memᴰ e (f ∷ es) × (p e ≡ true) = λ k. let r = keep-elim p e es k in (mathlib.Core.List.Memᴰ.tail r.0, r.1) in
    elim (split (p f)) [
      | inl h ↦ elim (mathlib.Core.List.Memᴰ.cases_cons (rw h at m)) [ inl q ↦ (mathlib.Core.List.Memᴰ.head q, rw q h) | inr q ↦ later q ]
      | inr h ↦ later (rw h at m)
    ]

pub keep-intro : (p : List ℕ → Bool) (e : List ℕ) (es : List (List ℕ)) → Memᴰ e es → p e ≡ true → Memᴰ e (keep p es)
keep-intro p e [] m h = absurd (mathlib.Core.List.Memᴰ.not-nil m)
keep-intro p e (f ∷ es) m h =
    elim (mathlib.Core.List.Memᴰ.cases_cons m) [
      | inl q ↦ rw (← q) (rw h (mathlib.Core.List.Memᴰ.head refl))
      | inr q ↦ elim (split (p f)) [ inl g ↦ rw g (mathlib.Core.List.Memᴰ.tail (keep-intro p e es q h)) | inr g ↦ rw g (keep-intro p e es q h) ]
    ]

pub map-elim : (g : List ℕ → List ℕ) (e : List ℕ) (es : List (List ℕ)) → Memᴰ e (map g es) → (f : List ℕ) × Memᴰ f es × (e ≡ g f)
map-elim g e [] m = absurd (mathlib.Core.List.Memᴰ.not-nil m)
map-elim g e (f ∷ es) m =
    elim (mathlib.Core.List.Memᴰ.cases_cons m) [
      | inl q ↦ (f, mathlib.Core.List.Memᴰ.head refl, q)
      | inr q ↦ let r = map-elim g e es q in (r.0, mathlib.Core.List.Memᴰ.tail r.1, r.2)
    ]

pub map-intro : (g : List ℕ → List ℕ) (e : List ℕ) (es : List (List ℕ)) → Memᴰ e es → Memᴰ (g e) (map g es)
map-intro g e [] m = absurd (mathlib.Core.List.Memᴰ.not-nil m)
map-intro g e (f ∷ es) m = elim (mathlib.Core.List.Memᴰ.cases_cons m) [ inl q ↦ mathlib.Core.List.Memᴰ.head (ap g q) | inr q ↦ mathlib.Core.List.Memᴰ.tail (map-intro g e es q) ]

-- how many pass
pub keep-pos : (p : List ℕ → Bool) (e : List ℕ) (es : List (List ℕ)) → Memᴰ e es → p e ≡ true → 1 ≤ length (keep p es)
keep-pos p e es m h = pos (keep p es) (keep-intro p e es m h)
  where
    pos : (l : List (List ℕ)) → Memᴰ e l → 1 ≤ length l
    pos [] k = absurd (mathlib.Core.List.Memᴰ.not-nil k)
    pos (x ∷ l) k = omega arith

pub keep-split : (p q : List ℕ → Bool) (es : List (List ℕ)) → length (keep p es) ≡ length (keep (λ e. p e && q e) es) + length (keep (λ e. p e && not (q e)) es)
keep-split p q [] = refl
keep-split p q (e ∷ es) =
    let r = keep-split p q es in
    elim (split (p e)) [
      | inl h ↦ elim (split (q e)) [ inl k ↦ rw (h, k) (omega arith) | inr k ↦ rw (h, k) (omega arith) ]
      | inr h ↦ rw h (omega arith)
    ]

pub two-pass : (p q : List ℕ → Bool) (es : List (List ℕ)) {e f : List ℕ} → Memᴰ e es → Memᴰ f es → (p e && q e) ≡ true → (p f && not (q f)) ≡ true → 2 ≤ length (keep p es)
two-pass p q es {e} {f} me mf he hf =
    omega (arith, keep-split p q es, keep-pos (λ g. p g && q g) e es me he, keep-pos (λ g. p g && not (q g)) f es mf hf)

pub three-pass : (p q r : List ℕ → Bool) (es : List (List ℕ)) {d e f : List ℕ} → Memᴰ d es → Memᴰ e es → Memᴰ f es → (p d && q d) ≡ true → (p e && not (q e) && r e) ≡ true → (p f && not (q f) && not (r f)) ≡ true → 3 ≤ length (keep p es)
three-pass p q r es {d} {e} {f} md me mf hd he hf =
    omega (arith, keep-split p q es, keep-pos (λ g. p g && q g) d es md hd, two-pass (λ g. p g && not (q g)) r es me mf he hf)

pub four-pass : (p q r s : List ℕ → Bool) (es : List (List ℕ)) {c d e f : List ℕ} → Memᴰ c es → Memᴰ d es → Memᴰ e es → Memᴰ f es → (p c && q c) ≡ true → (p d && not (q d) && r d) ≡ true → (p e && not (q e) && not (r e) && s e) ≡ true → (p f && not (q f) && not (r f) && not (s f)) ≡ true → 4 ≤ length (keep p es)
four-pass p q r s es {c} {d} {e} {f} mc md me mf hc hd he hf =
    omega (arith, keep-split p q es, keep-pos (λ g. p g && q g) c es mc hc, three-pass (λ g. p g && not (q g)) r s es md me mf hd he hf)
