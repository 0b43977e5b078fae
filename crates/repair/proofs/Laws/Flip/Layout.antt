-- The layout of `flip` in the work slice: its areas lie one behind the other, and what is written to the area behind them changes nothing
-- of the state. Assumes nothing.
use mathlib.Core.Path.{◌≡◌, refl, sym, ap, subst, ◌∙◌}
use mathlib.Core.Bool.{Bool, true, false, not, cond}
use mathlib.Core.List.{List, [], ◌∷◌, map}
use mathlib.Core.Option.{none, some}
use Rattle.std.specs.Prelude as std
use Prim.Native.Nat.{ℕ, ◌+◌, ◌*◌, ◌≤◌}
use native.Mathlib.Omega.{arith}
use lib.ListN.{length, drop}
use Rattle.mesh.specs.declared.element.Tet.{Tet}
use Rattle.mesh.specs.declared.star.Index.{Index}
use Rattle.mesh.specs.Tests.{every}
use Rattle.mesh.specs.Complex.{keep}
use Rattle.mesh.specs.inside.List.{gone}
use Rattle.mesh.specs.inside.Star.{Laid}
use Rattle.mesh.specs.inside.About as About
use Rattle.mesh.proofs.Laws.Star.Calls.{answered-complete, answered-elements}
use Rattle.mesh.proofs.Laws.Boundary.Same.{length-map}
use Rattle.mesh.proofs.Laws.Intake.Reads.{length-tets}
use Rattle.repair.specs.Flip.{State, live}
use Rattle.repair.specs.inside.Layout.{Same, slot_ok, slots_in}
use Rattle.repair.specs.inside.flip.Layout.{FlipRoom, SlotsStand, Kept, slot_of, live_of}

-- the areas of the index lie one behind the other
pub room-laid : {x : Index} {n m : ℕ} → FlipRoom x n m → Laid x m
room-laid r =
    let a = r.room in let b = r.elements in let c = r.slots in let d = r.nexts in let e = r.heads in let f = r.lengths in let g = r.area in let h = r.long in
    record { few = omega arith; nexts = omega arith; heads = omega arith; lengths = omega arith; area = omega arith; end = omega arith }

-- the area has room for 132 words an element
pub area-long : {x : Index} {n m : ℕ} → FlipRoom x n m → x.area + 132 * n + 30 * x.vertices + 1024 ≤ m
area-long r = let f = r.lengths in let g = r.area in let h = r.long in omega arith

-- nothing in a slot, or an element
pub slot-none : (t : Tet) → gone t ≡ true → slot_of t ≡ none
unfolding slot_of
slot-none t h = rw h refl

pub slot-some : (t : Tet) → gone t ≡ false → slot_of t ≡ some t
unfolding slot_of
slot-some t h = rw h refl

-- an element that `live_slot` gives, or none
pub live-none : (t : Tet) → live_of t ≡ std.None → gone t ≡ true
live-none t = go (gone t)
  where
    go : (b : Bool) → cond b std.None (std.Some t) ≡ std.None → b ≡ true
    go true e = refl
    go false e = absurd cc

pub live-some : (t p : Tet) → live_of t ≡ std.Some p → (p ≡ t) × (gone p ≡ false)
live-some t p = go (gone t) refl
  where
    go : (b : Bool) → gone t ≡ b → cond b std.None (std.Some t) ≡ std.Some p → (p ≡ t) × (gone p ≡ false)
    go true g e = absurd cc
    go false g e = let h : t ≡ p = cc in (sym h, ap gone (sym h) ∙ g)

-- the live elements are those of the slots that are not gone
pub live-slots : (ts : List Tet) → live (map slot_of ts) ≡ keep About.live ts
unfolding live slot_of
live-slots [] = refl
live-slots (t ∷ ts) = go (gone t) (live-slots ts)
  where
    go : (b : Bool) → live (map slot_of ts) ≡ keep About.live ts → live (cond b none (some t) ∷ map slot_of ts) ≡ cond (not b) (t ∷ keep About.live ts) (keep About.live ts)
    go true h = h
    go false h = ap (λ l. t ∷ l) h

module _ {x : Index} {n c : ℕ} {w : List ℕ} {s : State} (z : SlotsStand x n c w s) where
  -- how many slots there are
  pub slots-many : length s.slots ≡ c
  slots-many = ap length z.slots ∙ length-map slot_of (slots_in x c w) ∙ length-tets c (drop x.slots w)

  -- the live elements of the state
  pub stands_live : live s.slots ≡ keep About.live (slots_in x c w)
  stands_live = ap live z.slots ∙ live-slots (slots_in x c w)

  -- the same state where only words of the area changed
  pub stands-kept : {t : List ℕ} → Same w t x.area (length w) → SlotsStand x n c t s
  stands-kept {t} k =
      let l = room-laid z.room in
      let e : slots_in x c t ≡ slots_in x c w = answered-elements x w c l z.fits z.index t k.before in
      record {
        room = subst (FlipRoom x n) (sym k.long) z.room;
        fits = z.fits;
        slots = z.slots ∙ ap (map slot_of) (sym e);
        proper = ap (every (slot_ok x.vertices)) e ∙ z.proper;
        index = answered-complete x w c l z.fits z.index t k.before;
      }

-- what is listed stays where nothing changed, and where only words of the area did
pub kept_refl : {x : Index} {w : List ℕ} → Kept x w w
kept_refl = record { long = refl; listed = λ j a b. refl }

pub kept-area : {x : Index} {w t : List ℕ} → Same w t x.area (length w) → Kept x w t
kept-area k = record { long = k.long; listed = λ j a b. k.before j b }

pub kept_trans : {x : Index} {w t u : List ℕ} → Kept x w t → Kept x t u → Kept x w u
kept_trans p q = record { long = q.long ∙ p.long; listed = λ j a b. q.listed j a b ∙ p.listed j a b }
