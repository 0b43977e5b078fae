-- The fields whose bit a mask has, gone over from the lowest bit on: what is left from the field i on is the whole. Assumes nothing.
use mathlib.Core.Path.{◌≡◌, sym, ap, ◌∙◌}
use mathlib.Core.Bool.{Bool, true, false, cond, ◌||◌}
use mathlib.Core.List.{List, [], ◌∷◌, ◌++◌, append_assoc, append-nil}
use Prim.Native.Nat.{ℕ, ◌+◌, ◌/◌, ◌%◌, ◌≤◌, ◌<◌}
use native.Mathlib.Numerals.{add-one}
use lib.Dec.{eqb}
use lib.ListN.{length, take, drop, get_or, set, drop_of_length-le}
use lib.Seq.{drop-cons, take-suc-set}
use borrow.Author.Tests.{eq-eqb, ne_eqb}
use lib.Ieee.{lt}
use Rattle.geometry.specs.Literals.{e_9}
use Rattle.geometry.specs.Field.{value}
use Rattle.geometry.specs.declared.point.Point.{Point}
use Rattle.geometry.specs.declared.field.Field.{Field}
use Rattle.repair.specs.Smooth.{chosen, outside}

-- the field with the lowest bit, or none
abbrev one : ℕ → Field → List Field
one bits f = cond (eqb (bits % 2) 1) (f ∷ []) []

module _ (fields : List Field) (i : ℕ) where
  -- the field i and what is left behind it
  chosen_at : (bits : ℕ) (z : Field) → i < length fields → chosen bits (drop i fields) ≡ one bits (get_or fields i z) ++ chosen (bits / 2) (drop (i + 1) fields)
  unfolding chosen
  chosen_at bits z h = ap (chosen bits) (drop-cons fields i z h) ∙ ap (λ (k : ℕ). one bits (get_or fields i z) ++ chosen (bits / 2) (drop k fields)) (sym (add-one i))

  -- it has the bit
  pub chosen-next : (bits : ℕ) (z : Field) → i < length fields → bits % 2 ≡ 1 → chosen bits (drop i fields) ≡ get_or fields i z ∷ chosen (bits / 2) (drop (i + 1) fields)
  chosen-next bits z h e =
      chosen_at bits z h ∙ ap (λ (b : Bool). cond b (get_or fields i z ∷ []) [] ++ chosen (bits / 2) (drop (i + 1) fields)) (eq-eqb (bits % 2) 1 e)

  -- it does not
  pub chosen-past : (bits : ℕ) (z : Field) → i < length fields → (bits % 2 ≡ 1 → ⊥) → chosen bits (drop i fields) ≡ chosen (bits / 2) (drop (i + 1) fields)
  chosen-past bits z h e =
      chosen_at bits z h ∙ ap (λ (b : Bool). cond b (get_or fields i z ∷ []) [] ++ chosen (bits / 2) (drop (i + 1) fields)) (ne_eqb (bits % 2) 1 e)

  -- none is left
  pub chosen-end : (bits : ℕ) → length fields ≤ i → chosen bits (drop i fields) ≡ []
  unfolding chosen
  chosen-end bits h = ap (chosen bits) (drop_of_length-le fields {i = i} h)

  -- ---- the fields so far are the first n of r

  pub gather-put : (bits n : ℕ) (r : List Field) (z : Field) {all : List Field} → i < length fields → n < length r → bits % 2 ≡ 1
      → take n r ++ chosen bits (drop i fields) ≡ all → take (n + 1) (set r n (get_or fields i z)) ++ chosen (bits / 2) (drop (i + 1) fields) ≡ all
  gather-put bits n r z h l e g =
      let f = get_or fields i z in
      let rest = chosen (bits / 2) (drop (i + 1) fields) in
      ap (λ (k : ℕ). take k (set r n f) ++ rest) (add-one n) ∙ ap (λ (u : List Field). u ++ rest) (take-suc-set r n f l) ∙ append_assoc (take n r) (f ∷ []) rest
      ∙ sym (ap (λ (u : List Field). take n r ++ u) (chosen-next bits z h e)) ∙ g

  pub gather-skip : (bits n : ℕ) (r : List Field) (z : Field) {all : List Field} → i < length fields → (bits % 2 ≡ 1 → ⊥)
      → take n r ++ chosen bits (drop i fields) ≡ all → take n r ++ chosen (bits / 2) (drop (i + 1) fields) ≡ all
  gather-skip bits n r z h e g = sym (ap (λ (u : List Field). take n r ++ u) (chosen-past bits z h e)) ∙ g

  pub gather-end : (bits n : ℕ) (r : List Field) {all : List Field} → length fields ≤ i → take n r ++ chosen bits (drop i fields) ≡ all → take n r ≡ all
  gather-end bits n r h g = sym (append-nil (take n r)) ∙ sym (ap (λ (u : List Field). take n r ++ u) (chosen-end bits h)) ∙ g

  -- ---- whether p is outside one of them

  -- outside the field i
  pub outside-hit : (p : Point) (bits : ℕ) (z : Field) {all : Bool} → i < length fields → bits % 2 ≡ 1 → lt e_9 (value (get_or fields i z) p) ≡ true
      → outside p (chosen bits (drop i fields)) ≡ all → true ≡ all
  outside-hit p bits z h e t g =
      sym (ap (λ (b : Bool). b || outside p (chosen (bits / 2) (drop (i + 1) fields))) t) ∙ sym (ap (outside p) (chosen-next bits z h e)) ∙ g

  -- not outside it
  pub outside-miss : (p : Point) (bits : ℕ) (z : Field) {all : Bool} → i < length fields → bits % 2 ≡ 1 → lt e_9 (value (get_or fields i z) p) ≡ false
      → outside p (chosen bits (drop i fields)) ≡ all → outside p (chosen (bits / 2) (drop (i + 1) fields)) ≡ all
  outside-miss p bits z h e t g =
      sym (ap (λ (b : Bool). b || outside p (chosen (bits / 2) (drop (i + 1) fields))) t) ∙ sym (ap (outside p) (chosen-next bits z h e)) ∙ g

  -- it is not one of them
  pub outside-past : (p : Point) (bits : ℕ) (z : Field) {all : Bool} → i < length fields → (bits % 2 ≡ 1 → ⊥)
      → outside p (chosen bits (drop i fields)) ≡ all → outside p (chosen (bits / 2) (drop (i + 1) fields)) ≡ all
  outside-past p bits z h e g = sym (ap (outside p) (chosen-past bits z h e)) ∙ g

  -- none is left
  pub outside-end : (p : Point) (bits : ℕ) {all : Bool} → length fields ≤ i → outside p (chosen bits (drop i fields)) ≡ all → false ≡ all
  outside-end p bits h g = sym (ap (outside p) (chosen-end bits h)) ∙ g
