-- Partners over plain lists: one or none each, and when two lists pair off. Assumes nothing.
use mathlib.Core.Path.{◌≡◌, refl, sym, ap, ap₂, subst, ◌∙◌}
use mathlib.Core.Logic.{◌⊎◌, inl, inr}
use mathlib.Core.Bool.{Bool, true, false, not, cond, ◌&&◌, and-false}
use mathlib.Core.List.{List, [], ◌∷◌, ◌++◌, append_assoc, append-nil}
use Prim.Native.Nat.{ℕ, ◌+◌, ◌≤◌, ◌<◌}
use native.Mathlib.Omega.{arith}
use borrow.Author.Tests.{eqb-true, eq-eqb, ne_eqb, not-true, not-false}
use lib.Dec.{eqb}
use lib.ListN.{length, length-append}
use Rattle.geometry.specs.declared.bounds.Options.{Options}
use Rattle.mesh.specs.declared.element.Pair.{Pair}
use Rattle.mesh.specs.Complex.{mem}
use Rattle.mesh.specs.Tests.{nodup}
use Rattle.mesh.specs.Element.{pair}
use Rattle.mesh.proofs.Laws.Complex.Sets.{split, clash, nope, or_left, and-fst, and-snd, mem-here, mem-there, mem-cases, mem-nil}
use Rattle.mesh.proofs.Laws.Star.Chains.{mem-either}
use Rattle.repair.specs.Mesh.{Mesh}
use Rattle.repair.specs.Improve.{cap_of, partner, partners, pair_off}
use Rattle.repair.specs.inside.improve.Partners.{only, seconds, is_new}

-- ---- lists without repetition

-- the second vertices of two lists of pairs
pub seconds-append : (es fs : List Pair) → seconds (es ++ fs) ≡ seconds es ++ seconds fs
seconds-append [] fs = refl
seconds-append (e ∷ es) fs = ap (λ (l : List ℕ). e.b ∷ l) (seconds-append es fs)

mem-last : (x : ℕ) (xs : List ℕ) (y : ℕ) → mem x xs ≡ false → (x ≡ y → ⊥) → mem x (xs ++ (y ∷ [])) ≡ false
mem-last x xs y h n = nope (λ m. elim (mem-either x xs (y ∷ []) m) [ inl q ↦ clash q h | inr q ↦ elim (mem-cases x y [] q) [ inl e ↦ n e | inr z ↦ mem-nil x z ] ])

-- one more that is new
pub nodup-last : (xs : List ℕ) (y : ℕ) → nodup xs ≡ true → mem y xs ≡ false → nodup (xs ++ (y ∷ [])) ≡ true
nodup-last [] y d h = refl
nodup-last (x ∷ xs) y d h =
    let o : mem x xs ≡ false = not-true (mem x xs) (and-fst (not (mem x xs)) (nodup xs) d) in
    let n : y ≡ x → ⊥ = λ e. clash (or_left (mem y xs) (eq-eqb y x e)) h in
    let k : mem y xs ≡ false = nope (λ q. clash (mem-there y x xs q) h) in
    rw (mem-last x xs y o (λ e. n (sym e))) (nodup-last xs y (and-snd (not (mem x xs)) (nodup xs) d) k)

mem-appended : (y : ℕ) (xs ys : List ℕ) → mem y (xs ++ (y ∷ ys)) ≡ true
mem-appended y [] ys = mem-here y ys
mem-appended y (x ∷ xs) ys = mem-there y x (xs ++ (y ∷ ys)) (mem-appended y xs ys)

-- one that is there already
pub nodup-twice : (xs : List ℕ) (y : ℕ) (ys : List ℕ) → mem y xs ≡ true → nodup (xs ++ (y ∷ ys)) ≡ false
nodup-twice [] y ys h = absurd (mem-nil y h)
nodup-twice (x ∷ xs) y ys h =
    elim (mem-cases y x xs h) [
      | inl e ↦ rw (subst (λ (u : ℕ). mem u (xs ++ (y ∷ ys)) ≡ true) e (mem-appended y xs ys)) refl
      | inr m ↦ rw (nodup-twice xs y ys m) (and-false (not (mem x (xs ++ (y ∷ ys)))))
    ]

-- ---- partners

module _ (o : Options) (m : Mesh) where
  -- v and a vertex of ws with its cap
  pub record Found (v : ℕ) (ws : List ℕ) : Type 0 where
    pub vertex : ℕ
    pub found : partner o m v ws ≡ pair v vertex ∷ []
    pub member : mem vertex ws ≡ true
    pub level : cap_of o m v ≡ cap_of o m vertex

  -- a vertex has no partner or one
  pub partner-cases : (v : ℕ) (ws : List ℕ) → (partner o m v ws ≡ []) ⊎ Found v ws
  unfolding partner
  partner-cases v [] = inl refl
  partner-cases v (w ∷ ws) =
      elim (split (eqb (cap_of o m v) (cap_of o m w))) [
        | inl h ↦ inr (record { vertex = w; found = rw h refl; member = mem-here w ws; level = eqb-true (cap_of o m v) (cap_of o m w) h })
        | inr h ↦ elim (partner-cases v ws) [
          | inl e ↦ inl (rw h e)
          | inr f ↦ inr (record { vertex = f.vertex; found = rw h f.found; member = mem-there f.vertex w ws f.member; level = f.level })
        ]
      ]

  pub partner-most : (v : ℕ) (ws : List ℕ) → length (partner o m v ws) ≤ 1
  partner-most v ws = elim (partner-cases v ws) [ inl e ↦ rw e (omega arith) | inr f ↦ rw f.found (omega arith) ]

  -- the partners of one list after those of another
  pub partners-append : (us vs ws : List ℕ) → partners o m (us ++ vs) ws ≡ partners o m us ws ++ partners o m vs ws
  unfolding partners
  partners-append [] vs ws = refl
  partners-append (u ∷ us) vs ws = ap (λ (l : List Pair). partner o m u ws ++ l) (partners-append us vs ws) ∙ sym (append_assoc (partner o m u ws) (partners o m us ws) (partners o m vs ws))

  pub partners-last : (us : List ℕ) (v : ℕ) (ws : List ℕ) → partners o m (us ++ (v ∷ [])) ws ≡ partners o m us ws ++ partner o m v ws
  unfolding partners
  partners-last us v ws = partners-append us (v ∷ []) ws ∙ ap (λ (l : List Pair). partners o m us ws ++ l) (append-nil (partner o m v ws))

  -- no more pairs than vertices
  pub partners-most : (vs ws : List ℕ) → length (partners o m vs ws) ≤ length vs
  unfolding partners
  partners-most [] ws = omega arith
  partners-most (v ∷ vs) ws = omega (arith, partner-most v ws, partners-most vs ws, length-append (partner o m v ws) (partners o m vs ws))

  -- v after us has no partner, or one that another has
  pub stopped : (us : List ℕ) (v : ℕ) (vs ws : List ℕ) → is_new (partners o m us ws) (partner o m v ws) ≡ false → pair_off (us ++ (v ∷ vs)) ws (partners o m (us ++ (v ∷ vs)) ws) ≡ false
  unfolding partners
  stopped us v vs ws h =
      let es = partners o m (us ++ (v ∷ vs)) ws in
      let e = partners-append us (v ∷ vs) ws in
      elim (partner-cases v ws) [
        | inl n ↦
            let l : length es < length (us ++ (v ∷ vs)) =
            (let a = ap length e in let b : length (partner o m v ws ++ partners o m vs ws) ≡ length (partners o m vs ws) = ap (λ (u : List Pair). length (u ++ partners o m vs ws)) n in
            omega (arith, length-append (partners o m us ws) (partner o m v ws ++ partners o m vs ws), partners-most us ws, partners-most vs ws, length-append us (v ∷ vs))) in
            rw (ne_eqb (length es) (length (us ++ (v ∷ vs))) (λ q. omega arith)) (and-false (eqb (length (us ++ (v ∷ vs))) (length ws)))
        | inr f ↦
            let t : mem f.vertex (seconds (partners o m us ws)) ≡ true = not-false (mem f.vertex (seconds (partners o m us ws))) (subst (λ (u : List Pair). is_new (partners o m us ws) u ≡ false) f.found h) in
            let d : nodup (seconds es) ≡ false =
            ap (λ (u : List Pair). nodup (seconds u)) (e ∙ ap (λ (u : List Pair). partners o m us ws ++ (u ++ partners o m vs ws)) f.found)
            ∙ ap nodup (seconds-append (partners o m us ws) (pair v f.vertex ∷ partners o m vs ws))
            ∙ nodup-twice (seconds (partners o m us ws)) f.vertex (seconds (partners o m vs ws)) t in
            rw d (twice (eqb (length (us ++ (v ∷ vs))) (length ws)) (eqb (length es) (length (us ++ (v ∷ vs)))))
      ]
    where
      twice : (a b : Bool) → (a && (b && false)) ≡ false
      twice true true = refl
      twice true false = refl
      twice false b = refl

  -- v after us has a partner that no other has
  pub record More (us : List ℕ) (v : ℕ) (ws : List ℕ) : Type 0 where
    pub count : length (partners o m (us ++ (v ∷ [])) ws) ≡ length (partners o m us ws) + 1
    pub apart : nodup (seconds (partners o m (us ++ (v ∷ [])) ws)) ≡ true

  pub went_on : (us : List ℕ) (v : ℕ) (ws : List ℕ) → nodup (seconds (partners o m us ws)) ≡ true → is_new (partners o m us ws) (partner o m v ws) ≡ true → More us v ws
  went_on us v ws d h =
      let es = partners o m us ws in
      elim (partner-cases v ws) [
        | inl n ↦ absurd (clash (subst (λ (u : List Pair). is_new es u ≡ true) n h) refl)
        | inr f ↦
            let e : partners o m (us ++ (v ∷ [])) ws ≡ es ++ (pair v f.vertex ∷ []) = partners-last us v ws ∙ ap (λ (u : List Pair). es ++ u) f.found in
            record {
              count = ap length e ∙ length-append es (pair v f.vertex ∷ []);
              apart = ap (λ (u : List Pair). nodup (seconds u)) e ∙ ap nodup (seconds-append es (pair v f.vertex ∷ []))
                  ∙ nodup-last (seconds es) f.vertex d (not-true (mem f.vertex (seconds es)) (subst (λ (u : List Pair). is_new es u ≡ true) f.found h));
            }
      ]

  -- all have partners, and no two the same
  pub pair_off-full : (vs ws : List ℕ) → length (partners o m vs ws) ≡ length vs → nodup (seconds (partners o m vs ws)) ≡ true → pair_off vs ws (partners o m vs ws) ≡ eqb (length vs) (length ws)
  pair_off-full vs ws h d = rw (eq-eqb (length (partners o m vs ws)) (length vs) h, d) (all (eqb (length vs) (length ws)))
    where
      all : (b : Bool) → (b && true) ≡ b
      all true = refl
      all false = refl

  -- only the parameters count
  partner-only : (v : ℕ) (ws : List ℕ) → partner o m v ws ≡ partner o (only m.parameters) v ws
  unfolding partner
  partner-only v [] = refl
  partner-only v (w ∷ ws) = ap (λ (l : List Pair). cond (eqb (cap_of o m v) (cap_of o m w)) (pair v w ∷ []) l) (partner-only v ws)

  pub partners-only : (vs ws : List ℕ) → partners o m vs ws ≡ partners o (only m.parameters) vs ws
  unfolding partners
  partners-only [] ws = refl
  partners-only (v ∷ vs) ws = ap₂ (λ (a b : List Pair). a ++ b) (partner-only v ws) (partners-only vs ws)
