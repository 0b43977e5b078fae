-- Results of passes that are equal have the same mesh and the same count. Assumes nothing.
use mathlib.Core.Path.{◌≡◌}
use Prim.Native.Nat.{ℕ}
use Rattle.repair.specs.Mesh.{Mesh, made}

pub mesh-of : {n k : ℕ} {x y : Mesh} → made n x ≡ made k y → x ≡ y
mesh-of z = cc

pub count_of : {n k : ℕ} {x y : Mesh} → made n x ≡ made k y → n ≡ k
count_of z = cc
