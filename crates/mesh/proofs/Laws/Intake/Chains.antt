-- A chain of tests, walked one by one: a test decides, or what comes behind it does. Assumes nothing.
use Rattle.std.proofs.Common.{◌≡◌, Bool, true, false, not, ◌&&◌, ◌||◌, sym, refl, ◌∙◌}
use borrow.Author.Tests.{not-true, not-false}
use Rattle.mesh.proofs.Laws.Bools.{clash}

-- ---- "this or that" that fails

pub neither_left : (a b : Bool) → (a || b) ≡ false → a ≡ false
neither_left true b h = clash true refl h
neither_left false b h = refl

pub neither_right : (a b : Bool) → (a || b) ≡ false → b ≡ false
neither_right true b h = clash true refl h
neither_right false b h = h

-- ---- "this and that"

pub and-on : {a b r : Bool} → a ≡ true → r ≡ b → r ≡ (a && b)
and-on {b} h e = rw h e

pub and-off : {a r : Bool} (b : Bool) → a ≡ false → r ≡ false → r ≡ (a && b)
and-off b h e = rw (h, e)

-- ---- a test that a call makes

pub fails_by : {r t : Bool} → r ≡ t → not r ≡ true → t ≡ false
fails_by e h = sym e ∙ not-true _ h

pub holds_by : {r t : Bool} → r ≡ t → not r ≡ false → t ≡ true
holds_by e h = sym e ∙ not-false _ h
