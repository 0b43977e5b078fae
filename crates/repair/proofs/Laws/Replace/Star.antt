-- a goes into b in the slots of a's star, as `star` lists them: then it did so in every slot. Assumes nothing.
use mathlib.Core.Path.{◌≡◌, sym, ap, subst, ◌∙◌}
use mathlib.Core.Logic.{◌≢◌, inl, inr}
use mathlib.Core.Bool.{true, false}
use mathlib.Core.List.{List, map}
use Prim.Native.Nat.{ℕ, ◌+◌, ◌*◌, ◌≤◌, ◌<◌}
use native.Mathlib.Nat.{zero-add}
use native.Mathlib.Omega.{arith}
use lib.ListN.{length, drop, get_or, length-map, get_or-map}
use lib.Seq.{ext_get_or, get_or-take, get_or-drop}
use Rattle.mesh.specs.declared.element.Tet.{Tet}
use Rattle.mesh.specs.declared.star.Index.{Index}
use Rattle.mesh.specs.Words.{word_at}
use Rattle.mesh.specs.Complex.{mem}
use Rattle.mesh.specs.Element.{tets}
use Rattle.mesh.specs.inside.Intake.{tet_at}
use Rattle.mesh.specs.inside.Star.{star_of, star_list, starred, gone_tet, Complete}
use Rattle.mesh.proofs.Laws.Complex.Sets.{split, clash, nope, or_left}
use Rattle.mesh.proofs.Laws.Intake.Reads.{length-tets, tets-at}
use Rattle.mesh.proofs.Laws.Star.Scan.{star-in, star-out}
use Rattle.mesh.proofs.Laws.Star.Calls.{Answered, star-count, star-answered}
use Rattle.repair.specs.Mesh.{has}
use Rattle.repair.specs.inside.Layout.{Room, slots_in}
use Rattle.repair.specs.inside.improve.Collapse.{slot_after, slot_at, slots_replaced}
use Rattle.repair.proofs.Laws.Replace.Slots.{after_none}
use Rattle.repair.proofs.Laws.Replace.Writes.{slot_same}
use Rattle.repair.proofs.Laws.Replace.Listed.{NoSlot, Met, all-met}
use Rattle.repair.proofs.Laws.Layout.{room-laid}

pub room-star : {x : Index} {n m : ℕ} → Room x n m → x.area + (4 * n + 4 * n) ≤ m
room-star r = omega arith

-- t is s once a went into b in each of the first n slots; words from the area on are free
pub record After (x : Index) (n a b : ℕ) (s t : List ℕ) : Type 0 where
  pub long : length t ≡ length s
  pub other : (j : ℕ) → j < x.area → NoSlot x n j → word_at t j ≡ word_at s j
  pub slots : (e : ℕ) → e < n → slot_at x t e ≡ slot_after a b (slot_at x s e)

-- what holds of each element holds of the list
pub tets-mapped : (f : Tet → Tet) (n : ℕ) (s t : List ℕ) → ((e : ℕ) → e < n → tet_at t e ≡ f (tet_at s e)) → tets n t ≡ map f (tets n s)
tets-mapped f n s t h =
    ext_get_or (f gone_tet) (tets n t) (map f (tets n s)) (length-tets n t ∙ sym (length-map (tets n s) f ∙ length-tets n s)) (λ e l.
    let g : e < n = subst (λ (u : ℕ). e < u) (length-tets n t) l in
    tets-at n t e (f gone_tet) g ∙ h e g ∙ ap f (sym (tets-at n s e gone_tet g)) ∙ sym (get_or-map f (tets n s) e gone_tet))

module _ (x : Index) (n a : ℕ) (s : List ℕ) where
  -- the star of a names slots
  pub star-low : (e : ℕ) → mem e (star_of a a (slots_in x n s)) ≡ true → e < n
  star-low e m = let r = star-out a a (slots_in x n s) 0 e gone_tet m in let q = r.1 in let l = r.2 in omega (arith, length-tets n (drop x.slots s))

  -- and all that have a
  pub star-all : (e : ℕ) → e < n → mem e (star_of a a (slots_in x n s)) ≡ false → has a (slot_at x s e) ≡ false
  star-all e h o =
      nope (λ m.
      let l : e < length (slots_in x n s) = subst (λ (u : ℕ). e < u) (sym (length-tets n (drop x.slots s))) h in
      let g : has a (get_or (slots_in x n s) e gone_tet) ≡ true = ap (has a) (tets-at n (drop x.slots s) e gone_tet h) ∙ m in
      clash (subst (λ (u : ℕ). mem u (star_of a a (slots_in x n s)) ≡ true) (zero-add e) (star-in a a (slots_in x n s) 0 e gone_tet l (or_left (has a (get_or (slots_in x n s) e gone_tet)) g))) o)

module _ (x : Index) (n a b : ℕ) (s : List ℕ) (r : Room x n (length s)) (c : Complete x s (4 * n)) (ha : a < x.vertices) (ab : a ≢ b) where
  abbrev us : List ℕ
  us = star_of a a (slots_in x n s)

  answered : Answered s (starred x s a a) x.area us
  answered = star-answered x s n (room-laid r) (omega (arith, r.room)) c a a ha ha (room-star r)

  -- the list in the area, word by word
  word-listed : (i : ℕ) → i < length us → word_at (starred x s a a) (x.area + i) ≡ get_or us i 0
  word-listed i h =
      sym (get_or-drop x.area (starred x s a a) i 0)
      ∙ sym (get_or-take (length us) (drop x.area (starred x s a a)) i 0 h)
      ∙ ap (λ (l : List ℕ). get_or l i 0) answered.list

  met : Met x n a b us (starred x s a a) (slots_replaced x a b (length us) x.area (starred x s a a))
  met =
      let l = room-laid r in
      all-met x n a b ab (λ e. omega arith) us x.area (starred x s a a) (omega arith) (omega (arith, answered.long, l.end)) word-listed (star-low x n a s)

  -- the slots lie before the area
  low : (j : ℕ) → j < x.slots + 4 * n → j < x.area
  low j h = omega arith

  slot-starred : (e : ℕ) → e < n → slot_at x (starred x s a a) e ≡ slot_at x s e
  slot-starred e h =
      slot_same x s (starred x s a a) e (λ p f g. answered.below (x.slots + p) (low (x.slots + p) (omega arith)))

  -- as many as `star` gives
  pub star-after : (k : ℕ) → k ≡ length (star_list x s a a) → After x n a b s (slots_replaced x a b k x.area (starred x s a a))
  star-after k e =
      subst (λ (i : ℕ). After x n a b s (slots_replaced x a b i x.area (starred x s a a)))
      (sym (e ∙ star-count x s n (room-laid r) (omega (arith, r.room)) c a a ha ha (room-star r)))
      (record {
        long = met.long ∙ answered.long;
        other = λ j h g. met.other j g ∙ answered.below j h;
        slots = λ d h. elim (split (mem d us)) [
          | inl o ↦ met.named d h o ∙ ap (slot_after a b) (slot-starred d h)
          | inr o ↦ met.free d h o ∙ slot-starred d h ∙ sym (after_none a b (slot_at x s d) (star-all x n a s d h o))
        ];
      })
