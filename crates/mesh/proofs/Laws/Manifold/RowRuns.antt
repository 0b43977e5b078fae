-- Runs of rows with the same first words, in a sorted list of rows. Assumes nothing.
use Rattle.std.proofs.Common.{◌≡◌, ℕ, ◌<◌, Bool, true, ◌&&◌, List, [], ◌∷◌, map, length, take, drop, sym, refl, ap, ◌∙◌, ap₂, arith}
use Rattle.mesh.specs.Sort.{sort, unique}
use Rattle.mesh.specs.inside.Sort.{leading}
use Rattle.mesh.specs.inside.Rows.{le_row, eq_row, run}
use Rattle.mesh.specs.Complex.{keep}
use Rattle.mesh.specs.Tests.{every}
use Rattle.mesh.proofs.Laws.Sort.{length-sort, ordered-sort}
use Rattle.mesh.proofs.Laws.Rows.{le_row-trans, le_row-total, le_row-anti, le_row-take, eq_row-refl, eq_row-sound}
use Rattle.mesh.specs.inside.Group.{runs, same_first}
use Rattle.mesh.proofs.Laws.Manifold.Kept.{every-sort, keep-sort, keep-sort-ordered, Steady, steady-ordered}
use Rattle.mesh.proofs.Laws.Manifold.Runs.{runs-turn, runs-keys, every-unique, keep-alike}
use Rattle.mesh.proofs.Laws.Boundary.Faces.{every_map}

pub every-same : {A : Type 0} (p q : A → Bool) (l : List A) → ((x : A) → p x ≡ q x) → every p l ≡ every q l
every-same p q [] h = refl
every-same p q (x ∷ l) h = ap₂ (λ (a b : Bool). a && b) (h x) (every-same p q l h)

module _ (k : ℕ) where
  first-self : (r : List ℕ) → same_first k r r ≡ true
  first-self r = eq_row-refl (take k r)

  first_alike : (r q z : List ℕ) → same_first k r q ≡ true → same_first k r z ≡ same_first k q z
  first_alike r q z h = ap (λ (u : List ℕ). eq_row u (take k z)) (eq_row-sound (take k r) (take k q) h)

  first-between : (a b c : List ℕ) → le_row a b ≡ true → le_row b c ≡ true → same_first k a c ≡ true → same_first k a b ≡ true
  first-between a b c h g e =
      let f = eq_row-sound (take k a) (take k c) e in
      let m : take k a ≡ take k b = le_row-anti (take k a) (take k b) (le_row-take k a b h) (ap (le_row (take k b)) f ∙ le_row-take k b c g) in
      ap (eq_row (take k a)) (sym m) ∙ eq_row-refl (take k a)

  -- the run that begins here, and the runs behind it
  pub run-first : (r : List ℕ) (rs : List (List ℕ)) → 0 < run k (r ∷ rs)
  unfolding run leading
  run-first r rs = rw (first-self r) (omega arith)

  pub run-turn : (r : List ℕ) (rs : List (List ℕ))
      → runs (same_first k) (r ∷ rs) ≡ take (run k (r ∷ rs)) (r ∷ rs) ∷ runs (same_first k) (drop (run k (r ∷ rs)) (r ∷ rs))
  unfolding run
  run-turn r rs = runs-turn (same_first k) first-self first_alike r rs

  -- the runs of a sorted list: for each key, in order, the rows that have it
  pub sorted-runs : (l : List (List ℕ)) → runs (same_first k) (sort le_row l) ≡ map (λ r. keep (same_first k r) (sort le_row l)) (unique (same_first k) (sort le_row l))
  sorted-runs l = runs-keys (same_first k) first-self first_alike le_row le_row-trans first-between (sort le_row l) (ordered-sort le_row le_row-total l)

  -- a test of every run is one of every row, with the rows that have its key
  pub every-run : (test : List (List ℕ) → Bool) (l : List (List ℕ))
      → every test (runs (same_first k) (sort le_row l)) ≡ every (λ r. test (keep (same_first k r) (sort le_row l))) l
  every-run test l =
      let rs = sort le_row l in
      let p : List ℕ → Bool = λ r. test (keep (same_first k r) rs) in
      ap (every test) (sorted-runs l) ∙ every_map (λ r. keep (same_first k r) rs) test (unique (same_first k) rs)
      ∙ every-unique (same_first k) first-self first_alike p
      (λ r q h. ap test (keep-alike (same_first k) first-self first_alike r q rs h)) rs
      ∙ every-sort le_row p l

  -- how many rows have a key
  pub kept-number : (r : List ℕ) (l : List (List ℕ)) → length (keep (same_first k r) (sort le_row l)) ≡ length (keep (same_first k r) l)
  kept-number r l = ap length (keep-sort le_row le_row-trans (same_first k r) le_row-total l) ∙ length-sort le_row (keep (same_first k r) l)

  -- rows of one key that stand in order stand so in the sort
  pub kept-steady : (r : List ℕ) (l : List (List ℕ)) → Steady le_row (same_first k r) l → keep (same_first k r) (sort le_row l) ≡ keep (same_first k r) l
  kept-steady r l h = keep-sort-ordered le_row le_row-trans (same_first k r) le_row-total l (steady-ordered le_row (same_first k r) h)
