-- Numbers compared by Bool tests: an order that is total, transitive and antisymmetric, and equality. Assumes nothing.
use Rattle.std.proofs.Common.{◌≡◌, ℕ, Bool, true, false, ◌||◌, eqb, leb, List, [], ◌∷◌, sym, refl, ap, ◌∙◌, inl, inr, arith, eq-eqb, ne_eqb, eqb-true, le-leb, leb-false, leb-true}
use borrow.Author.Tests.{eqb-false}
use Rattle.mesh.specs.inside.Sort.{elem}
use Rattle.mesh.specs.Complex.{mem}
use Rattle.mesh.proofs.Laws.Bools.{split}

pub leb-trans : (a b c : ℕ) → leb a b ≡ true → leb b c ≡ true → leb a c ≡ true
leb-trans a b c h k = let f = leb-true a b h in let g = leb-true b c k in le-leb a c (omega arith)

pub leb-total : (a b : ℕ) → leb a b ≡ false → leb b a ≡ true
leb-total a b h = let f = leb-false a b h in le-leb b a (omega arith)

pub leb-anti : (a b : ℕ) → leb a b ≡ true → leb b a ≡ true → a ≡ b
leb-anti a b h k = let f = leb-true a b h in let g = leb-true b a k in omega arith

pub eqb_same : (a : ℕ) → eqb a a ≡ true
eqb_same a = eq-eqb a a refl

pub eqb_swap : (a b : ℕ) → eqb a b ≡ eqb b a
eqb_swap a b = elim (split (eqb b a)) [ inl e ↦ eq-eqb a b (sym (eqb-true b a e)) ∙ sym e | inr e ↦ ne_eqb a b (λ q. eqb-false b a e (sym q)) ∙ sym e ]

-- the two tests of membership are the same
pub elem_is : (z : ℕ) (l : List ℕ) → elem eqb z l ≡ mem z l
unfolding elem
elem_is z [] = refl
elem_is z (y ∷ l) = ap (λ (b : Bool). eqb z y || b) (elem_is z l)
