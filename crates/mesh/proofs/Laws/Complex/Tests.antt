-- The tests of lists of vertices say what they test. Assumes nothing.
use Rattle.std.proofs.Common.{◌≡◌, ℕ, ◌<◌, true, not, ltb, List, [], ◌∷◌, refl, inl, inr, ltb-true, lt-ltb}
use borrow.Author.Tests.{not-true}
use Rattle.mesh.specs.Complex.{mem, Nodup}
use Rattle.mesh.specs.Tests.{nodup, under}
use Rattle.mesh.proofs.Laws.Complex.Sets.{and-fst, and-snd, mem-nil, mem-here, mem-there, mem-cases}

pub nodup-sound : (e : List ℕ) → nodup e ≡ true → Nodup e
nodup-sound [] h = tt
nodup-sound (x ∷ e) h = (not-true (mem x e) (and-fst (not (mem x e)) (nodup e) h), nodup-sound e (and-snd (not (mem x e)) (nodup e) h))

pub nodup-true : (e : List ℕ) → Nodup e → nodup e ≡ true
nodup-true [] d = refl
nodup-true (x ∷ e) d = rw d.0 (nodup-true e d.1)

pub under-sound : (n : ℕ) (e : List ℕ) → under n e ≡ true → (x : ℕ) → mem x e ≡ true → x < n
under-sound n [] h x m = absurd (mem-nil x m)
under-sound n (y ∷ e) h x m =
    elim (mem-cases x y e m) [
      | inl q ↦ rw q (ltb-true y n (and-fst (ltb y n) (under n e) h))
      | inr q ↦ under-sound n e (and-snd (ltb y n) (under n e) h) x q
    ]

pub under-true : (n : ℕ) (e : List ℕ) → ((x : ℕ) → mem x e ≡ true → x < n) → under n e ≡ true
under-true n [] h = refl
under-true n (x ∷ e) h = rw (lt-ltb x n (h x (mem-here x e))) (under-true n e (λ y m. h y (mem-there y x e m)))
