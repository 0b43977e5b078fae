-- The tests of a list here and in the library are the same. Assumes nothing.
use Rattle.std.proofs.Common.{◌≡◌, Bool, ◌&&◌, ◌||◌, List, [], ◌∷◌, refl, ap}
use Rattle.std.specs.List.{list_all, list_any}
use Rattle.mesh.specs.Tests.{every, any}

pub every_is : {A : Type 0} (p : A → Bool) (l : List A) → list_all p l ≡ every p l
every_is p [] = refl
every_is p (x ∷ l) = ap (λ (b : Bool). p x && b) (every_is p l)

pub any_is : {A : Type 0} (p : A → Bool) (l : List A) → list_any p l ≡ any p l
any_is p [] = refl
any_is p (x ∷ l) = ap (λ (b : Bool). p x || b) (any_is p l)
