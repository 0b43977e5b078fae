-- Tests of lists that compute: all pass, none stands twice, all are below a bound. Assumes nothing.
use Rattle.std.specs.Prelude.{ℕ, Bool, true, false, not, ◌&&◌, ◌||◌, List, [], ◌∷◌, nat_lt}
use Rattle.mesh.specs.Complex.{mem}

-- do all pass the test
abbrev pub every {ℓ} : {A : Type ℓ} → (A → Bool) → List A → Bool
every p [] = true
every p (x ∷ xs) = p x && every p xs

-- a test that computes for a proper list
abbrev pub nodup : List ℕ → Bool
nodup [] = true
nodup (x ∷ xs) = not (mem x xs) && nodup xs

abbrev pub under : ℕ → List ℕ → Bool
under n [] = true
under n (x ∷ xs) = nat_lt x n && under n xs

-- does one of them pass the test
abbrev pub any {ℓ} : {A : Type ℓ} → (A → Bool) → List A → Bool
any p [] = false
any p (x ∷ xs) = p x || any p xs
