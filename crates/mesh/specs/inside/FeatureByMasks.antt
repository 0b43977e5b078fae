-- The feature tests of an edge without labels: by each vertex of the boundary faces about the edge, from the bits that two strata share
-- and from the faces that the vertex lies on. Equal to `feature_ok` where the bits of a's stratum are b's (proofs/Laws/Link/Masks.antt).
-- Where no triangle lies in three elements each x outlives the collapse (proofs/Laws/Link/Closed.antt). For contracts of private functions
-- and for proofs; definitions only.
use Rattle.std.specs.Prelude.{ℕ, Bool, not, ◌&&◌, ◌||◌, List, [], ◌∷◌, map, length, ◌==◌, nat_le}
use Rattle.mesh.specs.declared.element.Triple.{Triple}
use Rattle.mesh.specs.Complex.{mem, within, keep}
use Rattle.mesh.specs.Tests.{every}
use Rattle.mesh.specs.Element.{corners_of, all_corners}
use Rattle.mesh.specs.Link.{same_simplex}
use Rattle.mesh.specs.Feature.{shared}

-- do u and v lie on a common face
abbrev pub joined : List Triple → ℕ → ℕ → Bool
joined fs u v = within (u ∷ v ∷ []) (map corners_of fs)

-- does x lie on a face without a or without b: one that the collapse leaves
abbrev pub outlives : ℕ → ℕ → List Triple → ℕ → Bool
outlives a b fs x = within (x ∷ []) (map corners_of (keep (λ f. not (mem a (corners_of f) && mem b (corners_of f))) fs))

-- do the strata of u and v share two bits or more
abbrev pub on_curve : (ℕ → ℕ) → ℕ → ℕ → Bool
on_curve stratum u v = nat_le 2 (length (shared (stratum u) (stratum v)))

module _ (stratum : ℕ → ℕ) (a b : ℕ) (fs : List Triple) where
  -- the edge b x after the collapse has the labels of b x, or else of a x, before it
  abbrev pub rim_ok : ℕ → Bool
  rim_ok x =
      not (on_curve stratum b x)
      || (outlives a b fs x && (joined fs b x || same_simplex (shared (stratum a) (stratum x)) (shared (stratum b) (stratum x))))

  -- a labelled edge a b has no third vertex x with labelled edges a x and b x
  abbrev pub curve_ok : ℕ → Bool
  curve_ok x = not (on_curve stratum a x) || not (joined fs a b && (joined fs a x && joined fs b x))

  -- `feature_link_ok`, by masks
  unfoldable pub feature_by_masks : Bool
  feature_by_masks = every (λ x. (x == a) || (x == b || (rim_ok x && curve_ok x))) (all_corners fs)
