-- Of a list of any type one or more pass a test exactly where a member passes it. Assumes nothing.
use mathlib.Core.Path.{◌≡◌, refl}
use mathlib.Core.Bool.{Bool, true}
use mathlib.Core.List.Memᴰ
use mathlib.Core.List.{List, [], ◌∷◌, Memᴰ}
use Prim.Native.Nat.{◌≤◌}
use native.Mathlib.Omega.{arith}
use lib.ListN.{length}
use Rattle.mesh.specs.Complex.{keep}
use Rattle.mesh.proofs.Laws.Link.Members.{kept-elim, kept-intro}

module _ {A : Type 0} where
  has-member : (l : List A) → 1 ≤ length l → (x : A) × Memᴰ x l
  has-member [] h = absurd (no h)
    where
      no : 1 ≤ 0 → ⊥
      no h = omega arith
  has-member (x ∷ l) h = (x, Memᴰ.head refl)

  not-empty : {x : A} (l : List A) → Memᴰ x l → 1 ≤ length l
  not-empty [] m = absurd (Memᴰ.not-nil m)
  not-empty (y ∷ l) m = omega arith

  pub kept-some : (p : A → Bool) (xs : List A) → 1 ≤ length (keep p xs) → (x : A) × Memᴰ x xs × (p x ≡ true)
  kept-some p xs h =
      let r = has-member (keep p xs) h in
      let k = kept-elim p xs r.1 in
      (r.0, k.0, k.1)

  pub kept-count : (p : A → Bool) {x : A} (xs : List A) → Memᴰ x xs → p x ≡ true → 1 ≤ length (keep p xs)
  kept-count p xs m h = not-empty (keep p xs) (kept-intro p xs m h)
