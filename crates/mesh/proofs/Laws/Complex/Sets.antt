-- Lists of vertices as sets: membership, inclusion, taking a vertex out, and how many there can be.
-- Assumes nothing.
use Rattle.std.proofs.Common.{◌≡◌, ℕ, suc, ◌<◌, ◌≤◌, Bool, true, false, cond, ◌&&◌, ◌||◌, eqb, ◌≢◌, ◌⊎◌, List, [], ◌∷◌, length, sym, refl, ap, ◌∙◌, inl, inr, true≢false, arith, eq-eqb, ne_eqb, eqb-true}
use mathlib.Core.Bool.{and-false}
use mathlib.Core.List.{Memᴰ}
use Rattle.mesh.specs.Complex.{mem, sub, within, keep, Nodup, Sub}
use Rattle.mesh.specs.inside.Complex.{star}
pub use Rattle.mesh.proofs.Laws.Bools.{split}

pub clash : {b : Bool} → b ≡ true → b ≡ false → ⊥
clash p q = true≢false (sym p ∙ q)

pub nope : {b : Bool} → (b ≡ true → ⊥) → b ≡ false
nope {b = true} h = absurd (h refl)
nope {b = false} h = refl

pub same : {a b : Bool} → (a ≡ true → b ≡ true) → (b ≡ true → a ≡ true) → a ≡ b
same {a = true} {b} f g = sym (f refl)
same {a = false} {b = true} f g = g refl
same {a = false} {b = false} f g = refl

pub or_cases : (a b : Bool) → (a || b) ≡ true → (a ≡ true) ⊎ (b ≡ true)
or_cases true b h = inl refl
or_cases false b h = inr h

pub or_left : {a : Bool} (b : Bool) → a ≡ true → (a || b) ≡ true
or_left {a} b h = rw h refl

pub or_right : (a : Bool) {b : Bool} → b ≡ true → (a || b) ≡ true
or_right true h = refl
or_right false h = h

pub and-fst : (a b : Bool) → (a && b) ≡ true → a ≡ true
and-fst true b h = refl
and-fst false b h = h

pub and-snd : (a b : Bool) → (a && b) ≡ true → b ≡ true
and-snd true b h = h
and-snd false b h = absurd (true≢false (sym h))

-- membership
pub mem-here : (x : ℕ) (xs : List ℕ) → mem x (x ∷ xs) ≡ true
mem-here x xs = or_left (mem x xs) (eq-eqb x x refl)

pub mem-there : (x y : ℕ) (ys : List ℕ) → mem x ys ≡ true → mem x (y ∷ ys) ≡ true
mem-there x y ys h = or_right (eqb x y) h

pub mem-cases : (x y : ℕ) (ys : List ℕ) → mem x (y ∷ ys) ≡ true → (x ≡ y) ⊎ (mem x ys ≡ true)
mem-cases x y ys h = elim (or_cases (eqb x y) (mem x ys) h) [ inl e ↦ inl (eqb-true x y e) | inr m ↦ inr m ]

pub mem-nil : (x : ℕ) → mem x [] ≡ true → ⊥
mem-nil x h = true≢false (sym h)

pub out-head : (x y : ℕ) (ys : List ℕ) → mem x (y ∷ ys) ≡ false → x ≢ y
out-head x y ys h e = clash (or_left (mem x ys) (eq-eqb x y e)) h

pub out-tail : (x y : ℕ) (ys : List ℕ) → mem x (y ∷ ys) ≡ false → mem x ys ≡ false
out-tail x y ys h = nope (λ m. clash (mem-there x y ys m) h)

pub out : (x y : ℕ) (ys : List ℕ) → x ≢ y → mem x ys ≡ false → mem x (y ∷ ys) ≡ false
out x y ys n h = nope (λ m. elim (mem-cases x y ys m) [ inl e ↦ n e | inr k ↦ clash k h ])

-- a vertex of one set that another lacks differs from those of the other
pub apart : (x y : ℕ) (σ : List ℕ) → mem x σ ≡ true → mem y σ ≡ false → x ≢ y
apart x y σ h k e = clash (rw e at h) k

-- inclusion
pub sub-elim : (σ e : List ℕ) → sub σ e ≡ true → Sub σ e
sub-elim [] e h x m = absurd (mem-nil x m)
sub-elim (y ∷ σ) e h x m =
    elim (mem-cases x y σ m) [ inl p ↦ rw p (and-fst (mem y e) (sub σ e) h) | inr k ↦ sub-elim σ e (and-snd (mem y e) (sub σ e) h) x k ]

pub sub-intro : (σ e : List ℕ) → Sub σ e → sub σ e ≡ true
sub-intro [] e s = refl
sub-intro (y ∷ σ) e s = rw (s y (mem-here y σ)) (sub-intro σ e (λ x m. s x (mem-there x y σ m)))

pub Sub-cons : (y : ℕ) (σ e : List ℕ) → mem y e ≡ true → Sub σ e → Sub (y ∷ σ) e
Sub-cons y σ e h s x m = elim (mem-cases x y σ m) [ inl p ↦ rw p h | inr k ↦ s x k ]

pub Sub-both : (y : ℕ) (σ e : List ℕ) → Sub σ e → Sub (y ∷ σ) (y ∷ e)
Sub-both y σ e s = Sub-cons y σ (y ∷ e) (mem-here y e) (λ x m. mem-there x y e (s x m))

pub Sub-tail : (y : ℕ) (σ e : List ℕ) → Sub (y ∷ σ) e → Sub σ e
Sub-tail y σ e s x m = s x (mem-there x y σ m)

-- what lies within some element
pub within-elim : (σ : List ℕ) (es : List (List ℕ)) → within σ es ≡ true → (e : List ℕ) × Memᴰ e es × Sub σ e
within-elim σ [] h = absurd (true≢false (sym h))
within-elim σ (e ∷ es) h =
    elim (or_cases (sub σ e) (within σ es) h) [
      | inl s ↦ (e, Memᴰ.head refl, sub-elim σ e s)
      | inr k ↦ let r = within-elim σ es k in (r.0, Memᴰ.tail r.1, r.2)
    ]

pub within-intro : (σ : List ℕ) {e : List ℕ} {es : List (List ℕ)} → Memᴰ e es → Sub σ e → within σ es ≡ true
within-intro σ (Memᴰ.head {x = f} {xs = es} p) s = or_left (within σ es) (sub-intro σ f (rw p at s))
within-intro σ (Memᴰ.tail {x = f} m) s = or_right (sub σ f) (within-intro σ m s)

-- a smaller set lies within some element too
pub within-mono : (σ τ : List ℕ) (es : List (List ℕ)) → Sub σ τ → within τ es ≡ true → within σ es ≡ true
within-mono σ τ es s h = let r = within-elim τ es h in within-intro σ r.1 (λ x m. r.2 x (s x m))

-- without x
abbrev pub rm : ℕ → List ℕ → List ℕ
rm x [] = []
rm x (y ∷ ys) = cond (eqb x y) (rm x ys) (y ∷ rm x ys)

pub rm-out : (x : ℕ) (e : List ℕ) → mem x (rm x e) ≡ false
rm-out x [] = refl
rm-out x (y ∷ e) = elim (split (eqb x y)) [ inl p ↦ rw p (rm-out x e) | inr p ↦ rw p (rw p (rm-out x e)) ]

pub rm-mem : (x z : ℕ) (e : List ℕ) → z ≢ x → mem z (rm x e) ≡ mem z e
rm-mem x z [] n = refl
rm-mem x z (y ∷ e) n =
    elim (split (eqb x y)) [
      | inl p ↦ rw p (rm-mem x z e n ∙ sym (rw (ne_eqb z y (λ q. n (q ∙ sym (eqb-true x y p)))) refl))
      | inr p ↦ rw p (ap (λ b. eqb z y || b) (rm-mem x z e n))
    ]

pub rm-sub : (x z : ℕ) (e : List ℕ) → mem z (rm x e) ≡ true → mem z e ≡ true
rm-sub x z e h = sym (rm-mem x z e (apart z x (rm x e) h (rm-out x e))) ∙ h

pub rm-none : (x : ℕ) (e : List ℕ) → mem x e ≡ false → rm x e ≡ e
rm-none x [] h = refl
rm-none x (y ∷ e) h = rw (ne_eqb x y (out-head x y e h)) (ap (λ l. y ∷ l) (rm-none x e (out-tail x y e h)))

pub rm-nodup : (x : ℕ) (e : List ℕ) → Nodup e → Nodup (rm x e)
rm-nodup x [] d = tt
rm-nodup x (y ∷ e) d =
    elim (split (eqb x y)) [ inl p ↦ rw p (rm-nodup x e d.1) | inr p ↦ rw p (nope (λ m. clash (rm-sub x y e m) d.0), rm-nodup x e d.1) ]

pub rm-less : (x : ℕ) (e : List ℕ) → mem x e ≡ true → length (rm x e) < length e
rm-less x [] h = absurd (mem-nil x h)
rm-less x (y ∷ e) h =
    elim (split (eqb x y)) [
      | inl p ↦ rw p (elim (split (mem x e)) [ inl m ↦ let r = rm-less x e m in omega arith | inr m ↦ rw (rm-none x e m) (omega arith) ])
      | inr p ↦ rw p (let r = rm-less x e (elim (or_cases (eqb x y) (mem x e) h) [ inl q ↦ absurd (clash q p) | inr m ↦ m ]) in omega arith)
    ]

pub rm-length : (x : ℕ) (e : List ℕ) → Nodup e → mem x e ≡ true → suc (length (rm x e)) ≡ length e
rm-length x [] d h = absurd (mem-nil x h)
rm-length x (y ∷ e) d h =
    elim (split (eqb x y)) [
      | inl p ↦ rw p (rw (rm-none x e (rw (← eqb-true x y p) at d.0)) refl)
      | inr p ↦ rw p (ap suc (rm-length x e d.1 (elim (or_cases (eqb x y) (mem x e) h) [ inl q ↦ absurd (clash q p) | inr m ↦ m ])))
    ]

-- a set has no more vertices than one that it lies in, and if it has as many it is that one
pub short : (σ e : List ℕ) → Nodup σ → Sub σ e → length σ ≤ length e
short [] e d s = omega arith
short (x ∷ σ) e d s =
    let r = short σ (rm x e) d.1 (λ z m. rm-mem x z e (apart z x σ m d.0) ∙ s z (mem-there z x σ m)) in
    let q = rm-less x e (s x (mem-here x σ)) in
    omega arith

pub full : (σ e : List ℕ) → Nodup σ → Sub σ e → length e ≤ length σ → Sub e σ
full σ e d s h z m = elim (split (mem z σ)) [ inl p ↦ p | inr p ↦ absurd (let r = short (z ∷ σ) e (p, d) (Sub-cons z σ e m s) in omega arith) ]

-- the vertices that pass a test
pub keep-mem : (p : ℕ → Bool) (xs : List ℕ) (x : ℕ) → mem x (keep p xs) ≡ (mem x xs && p x)
keep-mem p [] x = refl
keep-mem p (y ∷ xs) x =
    let ih = keep-mem p xs x in
    elim (split (eqb x y)) [
      | inl q ↦ elim (split (p y)) [
        | inl h ↦ rw (h, q) (sym (rw (eqb-true x y q) h))
        | inr h ↦ let hx : p x ≡ false = rw (eqb-true x y q) h in rw (h, q) (ih ∙ rw hx (and-false (mem x xs)))
      ]
      | inr q ↦ elim (split (p y)) [ inl h ↦ rw (h, q) ih | inr h ↦ rw (h, q) ih ]
    ]

pub keep-nodup : (p : ℕ → Bool) (xs : List ℕ) → Nodup xs → Nodup (keep p xs)
keep-nodup p [] d = tt
keep-nodup p (x ∷ xs) d = elim (split (p x)) [ inl h ↦ rw h (rw (keep-mem p xs x) (rw d.0 refl), keep-nodup p xs d.1) | inr h ↦ rw h (keep-nodup p xs d.1) ]

-- as many elements have the one set of vertices as the other, if they are the same
pub star-alike : (σ τ : List ℕ) (es : List (List ℕ)) → Sub σ τ → Sub τ σ → star σ es ≡ star τ es
unfolding star
star-alike σ τ [] s t = refl
star-alike σ τ (e ∷ es) s t =
    let r = star-alike σ τ es s t in
    let q : sub σ e ≡ sub τ e = same (λ h. sub-intro τ e (λ z m. sub-elim σ e h z (t z m))) (λ h. sub-intro σ e (λ z m. sub-elim τ e h z (s z m))) in
    rw q (elim (split (sub τ e)) [ inl h ↦ rw h (ap suc r) | inr h ↦ rw h r ])
