-- First uses one vertex at a time: the list with one vertex more, the places in it, and how long it may be. Assumes nothing.
use mathlib.Core.Path.{◌≡◌, refl, sym, ap, ◌∙◌}
use mathlib.Core.Logic.{inl, inr}
use mathlib.Core.Bool.{Bool, true, false, not, cond, ◌||◌, and-true, and-false, or-false}
use mathlib.Core.List.{List, [], ◌∷◌, ◌++◌, append-nil}
use Prim.Native.Nat.{ℕ, suc, ◌+◌, ◌≤◌, ◌<◌}
use native.Mathlib.Omega.{arith}
use borrow.Author.Tests.{eqb-true, eqb-false, eq-eqb, ne_eqb}
use lib.Dec.{eqb}
use lib.ListN.{length}
use Rattle.mesh.specs.Complex.{mem, keep, up_to, Nodup}
use Rattle.mesh.proofs.Laws.Complex.Tets.{up_to-mem}
use Rattle.mesh.proofs.Laws.Complex.Sets.{split, clash, nope, or_left, mem-there, mem-cases, mem-nil, keep-mem, keep-nodup, short}
use Rattle.mesh.proofs.Laws.Star.Chains.{length-up_to}
use Rattle.repair.specs.Improve.{first_uses, place_of}

-- ---- lists with one vertex more

pub mem-snoc : (v w : ℕ) (us : List ℕ) → mem v (us ++ (w ∷ [])) ≡ (mem v us || eqb v w)
mem-snoc v w [] = elim (split (eqb v w)) [ inl q ↦ rw q refl | inr q ↦ rw q refl ]
mem-snoc v w (u ∷ us) = elim (split (eqb v u)) [ inl q ↦ rw q refl | inr q ↦ rw q (mem-snoc v w us) ]

pub mem-more : (v w : ℕ) (us : List ℕ) → mem v us ≡ true → mem v (us ++ (w ∷ [])) ≡ true
mem-more v w us h = mem-snoc v w us ∙ rw h refl

pub mem-last : (v : ℕ) (us : List ℕ) → mem v (us ++ (v ∷ [])) ≡ true
mem-last v us = mem-snoc v v us ∙ elim (split (mem v us)) [ inl q ↦ rw q refl | inr q ↦ rw (q, eq-eqb v v refl) refl ]

pub mem-other : (v w : ℕ) (us : List ℕ) → (v ≡ w → ⊥) → mem v (us ++ (w ∷ [])) ≡ mem v us
mem-other v w us h = mem-snoc v w us ∙ rw (ne_eqb v w h) (or-false (mem v us))

keep_append : (p : ℕ → Bool) (us ws : List ℕ) → keep p (us ++ ws) ≡ keep p us ++ keep p ws
keep_append p [] ws = refl
keep_append p (u ∷ us) ws =
    elim (split (p u)) [ inl q ↦ rw q (ap (λ (l : List ℕ). u ∷ l) (keep_append p us ws)) | inr q ↦ rw q (keep_append p us ws) ]

-- ---- first uses

-- with one vertex more: it is the last where it is new
pub first-snoc : (vs : List ℕ) (v : ℕ) → first_uses (vs ++ (v ∷ [])) ≡ first_uses vs ++ cond (mem v vs) [] (v ∷ [])
unfolding first_uses
first-snoc [] v = refl
first-snoc (w ∷ vs) v =
    ap (λ (l : List ℕ). w ∷ l)
    (ap (keep (λ x. not (eqb x w))) (first-snoc vs v)
    ∙ (keep_append (λ x. not (eqb x w)) (first_uses vs) (cond (mem v vs) [] (v ∷ []))
    ∙ ap (λ (l : List ℕ). keep (λ x. not (eqb x w)) (first_uses vs) ++ l) tail))
  where
    tail : keep (λ x. not (eqb x w)) (cond (mem v vs) [] (v ∷ [])) ≡ cond (eqb v w || mem v vs) [] (v ∷ [])
    tail =
        elim (split (mem v vs)) [
          | inl q ↦ rw q (elim (split (eqb v w)) [ inl e ↦ rw e refl | inr e ↦ rw e refl ])
          | inr q ↦ rw q (elim (split (eqb v w)) [ inl e ↦ rw e refl | inr e ↦ rw e refl ])
        ]

-- the same vertices
pub first-same : (v : ℕ) (vs : List ℕ) → mem v (first_uses vs) ≡ mem v vs
unfolding first_uses
first-same v [] = refl
first-same v (w ∷ vs) =
    elim (split (eqb v w)) [
      | inl q ↦ rw q refl
      | inr q ↦ rw q (keep-mem (λ x. not (eqb x w)) (first_uses vs) v ∙ rw (q, first-same v vs) (and-true (mem v vs)))
    ]

pub first-old : (vs : List ℕ) (v : ℕ) → mem v (first_uses vs) ≡ true → first_uses (vs ++ (v ∷ [])) ≡ first_uses vs
first-old vs v h = first-snoc vs v ∙ rw (sym (first-same v vs) ∙ h) (append-nil (first_uses vs))

pub first-new : (vs : List ℕ) (v : ℕ) → mem v (first_uses vs) ≡ false → first_uses (vs ++ (v ∷ [])) ≡ first_uses vs ++ (v ∷ [])
first-new vs v h = first-snoc vs v ∙ rw (sym (first-same v vs) ∙ h) refl

first-nodup : (vs : List ℕ) → Nodup (first_uses vs)
unfolding first_uses
first-nodup [] = tt
first-nodup (v ∷ vs) = (
  keep-mem (λ x. not (eqb x v)) (first_uses vs) v ∙ rw (eq-eqb v v refl) (and-false (mem v (first_uses vs))),
  keep-nodup (λ x. not (eqb x v)) (first_uses vs) (first-nodup vs),
)

-- not more than there are numbers
pub first-few : (n : ℕ) (vs : List ℕ) → ((v : ℕ) → mem v vs ≡ true → v < n) → length (first_uses vs) ≤ n
first-few n vs h =
    let k = short (first_uses vs) (up_to n) (first-nodup vs) (λ v m. up_to-mem n v (h v (sym (first-same v vs) ∙ m))) in
    omega (arith, length-up_to n)

-- ---- places

-- the places of those before stay
pub place-more : (us : List ℕ) (v w : ℕ) → mem v us ≡ true → place_of (us ++ (w ∷ [])) v ≡ place_of us v
unfolding place_of
place-more [] v w h = absurd (mem-nil v h)
place-more (u ∷ us) v w h =
    elim (split (eqb u v)) [
      | inl q ↦ rw q refl
      | inr q ↦
          elim (mem-cases v u us h) [ inl e ↦ absurd (eqb-false u v q (sym e)) | inr k ↦ rw q (ap suc (place-more us v w k)) ]
    ]

-- a new one stands last
pub place-last : (us : List ℕ) (v : ℕ) → mem v us ≡ false → place_of (us ++ (v ∷ [])) v ≡ length us
unfolding place_of
place-last [] v h = rw (eq-eqb v v refl) refl
place-last (u ∷ us) v h =
    elim (split (eqb u v)) [
      | inl q ↦ absurd (clash (mem-at u v us (eqb-true u v q)) h)
      | inr q ↦ rw q (ap suc (place-last us v (nope (λ m. clash (mem-there v u us m) h))))
    ]
  where
    mem-at : (u v : ℕ) (us : List ℕ) → u ≡ v → mem v (u ∷ us) ≡ true
    mem-at u v us e = or_left (mem v us) (eq-eqb v u (sym e))

-- ---- marks

-- 0 for a vertex that is not listed, else its place + 1
unfoldable pub mark_of : List ℕ → ℕ → ℕ
mark_of us v = cond (mem v us) (place_of us v + 1) 0

pub mark-met : (us : List ℕ) (v : ℕ) → mem v us ≡ true → mark_of us v ≡ place_of us v + 1
unfolding mark_of
mark-met us v h = rw h refl

pub mark-unmet : (us : List ℕ) (v : ℕ) → mem v us ≡ false → mark_of us v ≡ 0
unfolding mark_of
mark-unmet us v h = rw h refl

-- with one vertex more only its mark changes
pub mark-last : (us : List ℕ) (v : ℕ) → mem v us ≡ false → mark_of (us ++ (v ∷ [])) v ≡ length us + 1
mark-last us v h = mark-met (us ++ (v ∷ [])) v (mem-last v us) ∙ ap (λ (i : ℕ). i + 1) (place-last us v h)

pub mark-other : (us : List ℕ) (v w : ℕ) → (v ≡ w → ⊥) → mark_of (us ++ (w ∷ [])) v ≡ mark_of us v
mark-other us v w d =
    elim (split (mem v us)) [
      | inl h ↦
          mark-met (us ++ (w ∷ [])) v (mem-more v w us h) ∙ (ap (λ (i : ℕ). i + 1) (place-more us v w h) ∙ sym (mark-met us v h))
      | inr h ↦ mark-unmet (us ++ (w ∷ [])) v (mem-other v w us d ∙ h) ∙ sym (mark-unmet us v h)
    ]
