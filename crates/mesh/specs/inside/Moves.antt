-- Edge collapse, and the flips.
-- For contracts of private functions and for proofs; definitions only.
use Rattle.std.specs.Prelude.{◌≡◌, ℕ, ◌<◌, ◌≤◌, true, false, not, ◌&&◌, ◌≢◌, List, [], ◌∷◌, map, length}
use mathlib.Core.List.{Memᴰ}
use Rattle.mesh.specs.Complex.{mem, sub, within, keep, Nodup}
use Rattle.mesh.specs.inside.Complex.{star, IsElement, SameComplex}
use Rattle.mesh.specs.Feature.{onto}

-- elements with both ends go, in the others a becomes b
abbrev pub collapse : ℕ → ℕ → List (List ℕ) → List (List ℕ)
collapse a b es = map (map (onto a b)) (keep (λ e. not (mem a e && mem b e)) es)

-- when a may be collapsed onto b
pub record Collapsible (a b : ℕ) (es : List (List ℕ)) : Type 0 where
  -- a and b are the ends of an edge
  pub differ : a ≢ b
  pub edge : within (a ∷ b ∷ []) es ≡ true
  -- what both links have, the link of the edge has
  pub link : (σ : List ℕ) → σ ≢ [] → mem a σ ≡ false → mem b σ ≡ false → within (a ∷ σ) es ≡ true → within (b ∷ σ) es ≡ true → within (a ∷ b ∷ σ) es ≡ true
  -- no two faces a x y and b x y are both on the boundary
  pub inner : (x y : ℕ) → x ≢ y → x ≢ a → x ≢ b → y ≢ a → y ≢ b → star (a ∷ x ∷ y ∷ []) es ≡ 1 → star (b ∷ x ∷ y ∷ []) es ≢ 1

-- the face u v w of two elements with the apexes a and b gives way to the edge a b
abbrev pub flip23 : ℕ → ℕ → ℕ → ℕ → ℕ → List (List ℕ) → List (List ℕ)
flip23 a b u v w es = (a ∷ b ∷ u ∷ v ∷ []) ∷ (a ∷ b ∷ v ∷ w ∷ []) ∷ (a ∷ b ∷ w ∷ u ∷ []) ∷ keep (λ e. not (sub (u ∷ v ∷ w ∷ []) e)) es

pub record Flippable23 (a b u v w : ℕ) (es : List (List ℕ)) : Type 0 where
  pub five : Nodup (a ∷ b ∷ u ∷ v ∷ w ∷ [])
  pub at_a : within (u ∷ v ∷ w ∷ a ∷ []) es ≡ true
  pub at_b : within (u ∷ v ∷ w ∷ b ∷ []) es ≡ true
  pub only : star (u ∷ v ∷ w ∷ []) es ≡ 2
  pub free : within (a ∷ b ∷ []) es ≡ false

-- the edge a b of three elements around it gives way to the face u v w
abbrev pub flip32 : ℕ → ℕ → ℕ → ℕ → ℕ → List (List ℕ) → List (List ℕ)
flip32 a b u v w es = (u ∷ v ∷ w ∷ a ∷ []) ∷ (u ∷ v ∷ w ∷ b ∷ []) ∷ keep (λ e. not (sub (a ∷ b ∷ []) e)) es

pub record Flippable32 (a b u v w : ℕ) (es : List (List ℕ)) : Type 0 where
  pub five : Nodup (a ∷ b ∷ u ∷ v ∷ w ∷ [])
  pub at_uv : within (a ∷ b ∷ u ∷ v ∷ []) es ≡ true
  pub at_vw : within (a ∷ b ∷ v ∷ w ∷ []) es ≡ true
  pub at_wu : within (a ∷ b ∷ w ∷ u ∷ []) es ≡ true
  pub only : star (a ∷ b ∷ []) es ≡ 3
  pub free : within (u ∷ v ∷ w ∷ []) es ≡ false

-- new numbers for the vertices: different ones for different vertices of the elements, all below m
pub record Renumbers (ρ : ℕ → ℕ) (m : ℕ) (es : List (List ℕ)) : Type 0 where
  pub apart : (x y : ℕ) → within (x ∷ []) es ≡ true → within (y ∷ []) es ≡ true → ρ x ≡ ρ y → x ≡ y
  pub below : (x : ℕ) → within (x ∷ []) es ≡ true → ρ x < m

abbrev pub renumber : (ℕ → ℕ) → List (List ℕ) → List (List ℕ)
renumber ρ es = map (map ρ) es

-- one step: from elements es with vertices below n to fs with vertices below m
pub data Step (n : ℕ) (es : List (List ℕ)) (m : ℕ) (fs : List (List ℕ)) : Type 0 where
  collapses : (a b : ℕ) → Collapsible a b es → m ≡ n → fs ≡ collapse a b es → Step n es m fs
  flips23 : (a b u v w : ℕ) → Flippable23 a b u v w es → m ≡ n → fs ≡ flip23 a b u v w es → Step n es m fs
  flips32 : (a b u v w : ℕ) → Flippable32 a b u v w es → m ≡ n → fs ≡ flip32 a b u v w es → Step n es m fs
  renumbers : (ρ : ℕ → ℕ) → Renumbers ρ m es → fs ≡ renumber ρ es → Step n es m fs
  reorders : ((e : List ℕ) → Memᴰ e fs → IsElement n e) → length fs ≤ length es → SameComplex es fs → m ≡ n → Step n es m fs

-- any number of steps
pub data Run (n : ℕ) (es : List (List ℕ)) : ℕ → List (List ℕ) → Type 0 where
  start : Run n es n es
  then : {k m : ℕ} {gs fs : List (List ℕ)} → Run n es k gs → Step k gs m fs → Run n es m fs
