-- Triples with three different corners. Assumes nothing.
use mathlib.Core.Path.{◌≡◌}
use mathlib.Core.Logic.{◌≢◌}
use mathlib.Core.Bool.{true}
use mathlib.Core.List.Memᴰ
use mathlib.Core.List.{List, [], ◌∷◌}
use Prim.Native.Nat.{ℕ}
use Rattle.mesh.specs.declared.element.Triple.{Triple}
use Rattle.mesh.specs.Complex.{mem, Nodup, Sub}
use Rattle.mesh.proofs.Laws.Complex.Sets.{mem-here, mem-there, mem-nil, out-head, out-tail, Sub-cons}
use Rattle.theorems.specs.Manifold.{Different}

-- three different numbers, pair by pair
pub record Apart (x y z : ℕ) : Type 0 where
  pub xy : x ≢ y
  pub xz : x ≢ z
  pub yz : y ≢ z

pub three-apart : (x y z : ℕ) → Nodup (x ∷ y ∷ z ∷ []) → Apart x y z
three-apart x y z d = record { xy = out-head x y (z ∷ []) d.0; xz = out-head x z [] (out-tail x y (z ∷ []) d.0); yz = out-head y z [] d.1.0 }

-- each of three numbers is one of them
pub mem-first : (x y z : ℕ) → mem x (x ∷ y ∷ z ∷ []) ≡ true
mem-first x y z = mem-here x (y ∷ z ∷ [])

pub mem-second : (x y z : ℕ) → mem y (x ∷ y ∷ z ∷ []) ≡ true
mem-second x y z = mem-there y x (y ∷ z ∷ []) (mem-here y (z ∷ []))

pub mem-third : (x y z : ℕ) → mem z (x ∷ y ∷ z ∷ []) ≡ true
mem-third x y z = mem-there z x (y ∷ z ∷ []) (mem-there z y (z ∷ []) (mem-here z []))

pub three-sub : (x y z : ℕ) (e : List ℕ) → mem x e ≡ true → mem y e ≡ true → mem z e ≡ true → Sub (x ∷ y ∷ z ∷ []) e
three-sub x y z e p q r = Sub-cons x (y ∷ z ∷ []) e p (Sub-cons y (z ∷ []) e q (Sub-cons z [] e r (λ w m. absurd (mem-nil w m))))

pub different-later : {f : Triple} {fs : List Triple} → Different (f ∷ fs) → Different fs
different-later d g m = d g (Memᴰ.tail m)
