-- The tests of a pair on the elements about it, for the contract of a private function (src/improve/pair_test.rt). Definitions only.
use Rattle.std.specs.Prelude.{ℕ, Bool, ◌&&◌, List}
use Rattle.mesh.specs.declared.element.Tet.{Tet}
use Rattle.mesh.specs.Complex.{sub}
use Rattle.mesh.specs.Feature.{bits_of, link_ok}
use Rattle.repair.specs.Mesh.{has}
use Rattle.mesh.specs.Tests.{any}

-- one of the elements has both a and b, the bits of a are b's, and a b passes the link tests
unfoldable pub elements_link : (ℕ → ℕ) → ℕ → ℕ → List Tet → Bool
elements_link stratum a b ts = any (λ t. has a t && has b t) ts && (sub (bits_of (stratum a)) (bits_of (stratum b)) && link_ok stratum a b ts)
