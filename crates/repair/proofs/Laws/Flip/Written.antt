-- A slot emptied and a slot added in the work slice: it stands for the state with that slot emptied or added. Assumes nothing.
use mathlib.Core.Path.{◌≡◌, refl, sym, ap, ap₂, subst, ◌∙◌}
use mathlib.Core.Logic.{◌⊎◌, inl, inr}
use mathlib.Core.Bool.{Bool, true}
use mathlib.Core.List.{List, [], ◌∷◌, ◌++◌, map, map-append}
use mathlib.Core.Option.{Option, none, some}
use Prim.Native.Nat.{ℕ, zero, suc, ◌+◌, ◌-◌, ◌*◌, ◌≤◌, ◌<◌}
use native.Mathlib.Omega.{arith}
use borrow.Author.Tests.{le-leb}
use lib.ListN.{length, drop, set}
use lib.Seq.{get_or-drop}
use Rattle.mesh.specs.declared.element.Tet.{Tet}
use Rattle.mesh.specs.declared.star.Index.{Index}
use Rattle.mesh.specs.Words.{word_at}
use Rattle.mesh.specs.Tests.{every}
use Rattle.mesh.specs.Element.{tets}
use Rattle.mesh.specs.Intake.{well_numbered}
use Rattle.mesh.specs.inside.Star.{Laid, Outside, gone_tet, corner_at, set_chain, pushed, hung, hung_all, has_slots, appended}
use Rattle.mesh.proofs.Laws.Parts.{side}
use Rattle.mesh.proofs.Laws.Complex.Sets.{and-fst, and-snd}
use Rattle.mesh.proofs.Laws.Star.Calls.{tets-same, gone-complete, written-complete}
use Rattle.mesh.proofs.Laws.Star.Layout.{laid-yes}
use Rattle.mesh.proofs.Laws.Star.Hanging.{length-appended, appended-outside, appended-complete}
use Rattle.repair.specs.Flip.{State}
use Rattle.repair.specs.inside.Layout.{slot_ok, slots_in}
use Rattle.repair.specs.inside.improve.Collapse.{put_slot}
use Rattle.repair.specs.inside.flip.Layout.{FlipRoom, SlotsStand, Kept, faces_at, slot_of}
use Rattle.repair.proofs.Laws.Layout.{area-at}
use Rattle.repair.proofs.Laws.Project.Lists.{map-set}
use Rattle.repair.proofs.Laws.Improve.Edges.{every_append}
use Rattle.repair.proofs.Laws.Gain.Tallies.{element_at, tets-next}
use Rattle.repair.proofs.Laws.Replace.Slots.{ok-gone, ok-well, well-there}
use Rattle.repair.proofs.Laws.Replace.Writes.{length-put, put_other, put_a, put_b, put-c, put-d}
use Rattle.repair.proofs.Laws.Flip.Layout.{room-laid, slot-none, slot-some}

-- ---- the elements at p with one of them written

element-same : (w v : List ℕ) (p : ℕ) → word_at v p ≡ word_at w p → word_at v (p + 1) ≡ word_at w (p + 1) → word_at v (p + 2) ≡ word_at w (p + 2) → word_at v (p + 3) ≡ word_at w (p + 3) → element_at v p ≡ element_at w p
element-same w v p a b c d = rw (a, b, c, d) refl

element-put : (w : List ℕ) (p : ℕ) (t : Tet) → p + 4 ≤ length w → element_at (put_slot w p t) p ≡ t
element-put w p t h = rw (put_a w p t h, put_b w p t h, put-c w p t h, put-d w p t h) refl

next : (c p : ℕ) (w : List ℕ) → tets (suc c) (drop p w) ≡ element_at w p ∷ tets c (drop (p + 4) w)
next c p w = let e : suc c - 1 ≡ c = omega arith in tets-next (suc c) p w (omega arith) ∙ ap (λ (k : ℕ). element_at w p ∷ tets k (drop (p + 4) w)) e

-- the elements are the same where their words are
from-same : (c p : ℕ) (w v : List ℕ) → ((j : ℕ) → p ≤ j → j < p + 4 * c → word_at v j ≡ word_at w j) → tets c (drop p v) ≡ tets c (drop p w)
from-same c p w v h = tets-same c (drop p w) (drop p v) (λ j g. get_or-drop p v j 0 ∙ h (p + j) (omega arith) (omega arith) ∙ sym (get_or-drop p w j 0))

pub tets-put : (c p e q : ℕ) (w : List ℕ) (t : Tet) → q ≡ p + 4 * e → e < c → p + 4 * c ≤ length w → tets c (drop p (put_slot w q t)) ≡ set (tets c (drop p w)) e t
tets-put zero p e q w t i h l = absurd (omega arith)
tets-put (suc c) p zero q w t i h l =
    let f : q ≡ p = omega arith in
    next c p (put_slot w q t)
    ∙ ap₂ (λ (u : Tet) (us : List Tet). u ∷ us) (ap (element_at (put_slot w q t)) (sym f) ∙ element-put w q t (omega arith))
    (from-same c (p + 4) w (put_slot w q t) (λ j a b. put_other w q t j (λ g. omega arith)))
    ∙ sym (ap (λ (l : List Tet). set l 0 t) (next c p w))
tets-put (suc c) p (suc e) q w t i h l =
    let off : (j : ℕ) → j < p + 4 → word_at (put_slot w q t) j ≡ word_at w j = λ j g. put_other w q t j (λ k. absurd (omega arith)) in
    next c p (put_slot w q t)
    ∙ ap₂ (λ (u : Tet) (us : List Tet). u ∷ us)
    (element-same w (put_slot w q t) p (off p (omega arith)) (off (p + 1) (omega arith)) (off (p + 2) (omega arith)) (off (p + 3) (omega arith)))
    (tets-put c (p + 4) e q w t (omega arith) (omega arith) (omega arith))
    ∙ sym (ap (λ (l : List Tet). set l (suc e) t) (next c p w))

every_set : (p : Tet → Bool) (l : List Tet) (i : ℕ) (a : Tet) → every p l ≡ true → p a ≡ true → every p (set l i a) ≡ true
every_set p [] i a h g = refl
every_set p (x ∷ l) zero a h g = rw g (and-snd (p x) (every p l) h)
every_set p (x ∷ l) (suc i) a h g = rw (and-fst (p x) (every p l) h) (every_set p l i a (and-snd (p x) (every p l) h) g)

-- ---- a slot emptied

module _ {x : Index} {n c : ℕ} {w : List ℕ} {s : State} (z : SlotsStand x n c w s) (e : ℕ) where
  laid : Laid x (length w)
  laid = room-laid z.room

  module _ (h : e < c) where
    abbrev u : List ℕ
    u = put_slot w (x.slots + 4 * e) gone_tet

    long : length u ≡ length w
    long = length-put w (x.slots + 4 * e) gone_tet

    behind : (j : ℕ) → x.nexts ≤ j → word_at u j ≡ word_at w j
    behind j g = let l = laid.nexts in let k = z.fits in put_other w (x.slots + 4 * e) gone_tet j (λ q. omega arith)

    words : slots_in x c u ≡ set (slots_in x c w) e gone_tet
    words =
        let l = laid.nexts in let k = z.fits in let a = laid.heads in let b = laid.lengths in let d = laid.area in let f = laid.end in
        tets-put c x.slots e (x.slots + 4 * e) w gone_tet refl h (omega arith)

    fit : x.slots + 4 * e + 4 ≤ length w
    fit = let l = laid.nexts in let k = z.fits in let a = laid.heads in let b = laid.lengths in let d = laid.area in let f = laid.end in omega arith

    large : (p : ℕ) → 4 * e ≤ p → p < 4 * e + 4 → x.vertices ≤ word_at (put_slot w (x.slots + 4 * e) gone_tet) (x.slots + p)
    large p a b = elim (side p (4 * e + 1)) [
      | inl q ↦ let i : x.slots + p ≡ x.slots + 4 * e = omega arith in let k = z.room.few in let y = ap (word_at (put_slot w (x.slots + 4 * e) gone_tet)) i ∙ put_a w (x.slots + 4 * e) gone_tet fit in omega arith
      | inr q ↦ elim (side p (4 * e + 2)) [
        | inl r ↦ let i : x.slots + p ≡ x.slots + 4 * e + 1 = omega arith in let k = z.room.few in let y = ap (word_at (put_slot w (x.slots + 4 * e) gone_tet)) i ∙ put_b w (x.slots + 4 * e) gone_tet fit in omega arith
        | inr r ↦ elim (side p (4 * e + 3)) [
          | inl t ↦ let i : x.slots + p ≡ x.slots + 4 * e + 2 = omega arith in let k = z.room.few in let y = ap (word_at (put_slot w (x.slots + 4 * e) gone_tet)) i ∙ put-c w (x.slots + 4 * e) gone_tet fit in omega arith
          | inr t ↦ let i : x.slots + p ≡ x.slots + 4 * e + 3 = omega arith in let k = z.room.few in let y = ap (word_at (put_slot w (x.slots + 4 * e) gone_tet)) i ∙ put-d w (x.slots + 4 * e) gone_tet fit in omega arith
        ]
      ]
    ]

    corner : (p : ℕ) → p < 4 * c → (x.vertices ≤ corner_at x u p) ⊎ (corner_at x u p ≡ corner_at x w p)
    corner p g = elim (side p (4 * e)) [
      | inl a ↦ inr (put_other w (x.slots + 4 * e) gone_tet (x.slots + p) (λ q. absurd (omega arith)))
      | inr a ↦ elim (side p (4 * e + 4)) [ inl b ↦ inl (large p a b) | inr b ↦ inr (put_other w (x.slots + 4 * e) gone_tet (x.slots + p) (λ q. omega arith)) ]
    ]

    stands : SlotsStand x n c u (record { slots = set s.slots e none; flips = s.flips })
    stands = record {
      room = subst (FlipRoom x n) (sym long) z.room;
      fits = z.fits;
      slots = ap (λ (l : List (Option Tet)). set l e none) z.slots ∙ ap (set (map slot_of (slots_in x c w)) e) (sym (slot-none gone_tet refl)) ∙ sym (ap (map slot_of) words ∙ map-set slot_of (slots_in x c w) e gone_tet);
      proper = ap (every (slot_ok x.vertices)) words ∙ every_set (slot_ok x.vertices) (slots_in x c w) e gone_tet z.proper (ok-gone x.vertices);
      index = gone-complete x w c laid z.fits z.index u (λ j a b. behind j a) corner;
    }

    kept : Kept x w u
    kept = record { long = long; listed = λ j a b. let l = laid.lengths in let k = laid.heads in behind j (omega arith) }

    pub slot-emptied : (v : List ℕ) → v ≡ put_slot w (x.slots + 4 * e) gone_tet → SlotsStand x n c v (record { slots = set s.slots e none; flips = s.flips }) × Kept x w v
    slot-emptied v i = subst (λ (y : List ℕ). SlotsStand x n c y (record { slots = set s.slots e none; flips = s.flips }) × Kept x w y) (sym i) (stands, kept)

-- ---- a slot added

tets-last : (c p : ℕ) (w : List ℕ) → tets (suc c) (drop p w) ≡ tets c (drop p w) ++ (element_at w (p + 4 * c) ∷ [])
unfolding tets
tets-last zero p w = let e : p ≡ p + 4 * 0 = omega arith in next 0 p w ∙ ap (λ (q : ℕ). element_at w q ∷ []) e
tets-last (suc c) p w =
    let e : p + 4 + 4 * c ≡ p + 4 * suc c = omega arith in
    next (suc c) p w
    ∙ ap (λ (l : List Tet). element_at w p ∷ l) (tets-last c (p + 4) w ∙ ap (λ (q : ℕ). tets c (drop (p + 4) w) ++ (element_at w q ∷ [])) e)
    ∙ sym (ap (λ (l : List Tet). l ++ (element_at w (p + 4 * suc c) ∷ [])) (next c p w))

-- where the area begins does not matter to what is hung
pub short-laid : (x : Index) (m : ℕ) → Laid x m → Laid (area-at x (faces_at x)) m
short-laid x m l =
    let a = l.area in let b = l.end in
    record { few = l.few; nexts = l.nexts; heads = l.heads; lengths = l.lengths; area = (let e : faces_at x ≤ faces_at x = omega arith in e); end = omega arith }

pub hung-at : (x : Index) (a k p : ℕ) (w : List ℕ) → hung_all (area-at x a) k p w ≡ hung_all x k p w
unfolding hung_all hung pushed set_chain
hung-at x a zero p w = refl
hung-at x a (suc k) p w = hung-at x a k (p + 1) (hung x p w)

pub appended-is : (x : Index) (i j : ℕ) (w : List ℕ) → Laid x (length w) → i ≤ j → j ≤ x.room → appended x i j w ≡ hung_all x (4 * j - 4 * i) (4 * i) w
unfolding appended has_slots
appended-is x i j w l hi hj = rw (laid-yes x (length w) l, le-leb i j hi, le-leb j x.room hj)

module _ {x : Index} {n c : ℕ} {w : List ℕ} {s : State} (z : SlotsStand x n c w s) (t : Tet) (ok : well_numbered x.vertices t ≡ true) (room : c < x.room) where
  abbrev put : List ℕ
  put = put_slot w (x.slots + 4 * c) t

  abbrev short : Index
  short = area-at x (faces_at x)

  put-long : length put ≡ length w
  put-long = length-put w (x.slots + 4 * c) t

  old-laid : Laid x (length w)
  old-laid = room-laid z.room

  put-laid : Laid x (length put)
  put-laid = subst (Laid x) (sym put-long) old-laid

  put-short : Laid short (length put)
  put-short = short-laid x (length put) put-laid

  abbrev after : List ℕ
  after = appended x c (c + 1) put

  same_after : after ≡ appended short c (c + 1) put
  same_after = appended-is x c (c + 1) put put-laid (omega arith) (omega arith) ∙ sym (appended-is short c (c + 1) put put-short (omega arith) (omega arith) ∙ hung-at x (faces_at x) (4 * (c + 1) - 4 * c) (4 * c) put)

  after-long : length after ≡ length w
  after-long = ap length same_after ∙ length-appended short c (c + 1) put put-short (omega arith) (omega arith) ∙ put-long

  outside : (j : ℕ) → Outside short j → word_at after j ≡ word_at put j
  outside j o = ap (λ (l : List ℕ). word_at l j) same_after ∙ appended-outside short c (c + 1) put put-short (omega arith) (omega arith) j o

  room-here : x.slots + 4 * c + 4 ≤ x.nexts
  room-here = let a = old-laid.nexts in omega arith

  first-words : slots_in x c after ≡ slots_in x c w
  first-words = let r = room-here in from-same c x.slots w after (λ j a b. outside j (λ g. absurd (omega arith)) ∙ put_other w (x.slots + 4 * c) t j (λ g. absurd (omega arith)))

  last_word : element_at after (x.slots + 4 * c) ≡ t
  last_word =
      let r = room-here in let a = old-laid.heads in let b = old-laid.lengths in let d = old-laid.area in let f = old-laid.end in
      element-same put after (x.slots + 4 * c) (outside _ (λ g. absurd (omega arith))) (outside _ (λ g. absurd (omega arith))) (outside _ (λ g. absurd (omega arith))) (outside _ (λ g. absurd (omega arith)))
      ∙ element-put w (x.slots + 4 * c) t (omega arith)

  all_words : slots_in x (c + 1) after ≡ slots_in x c w ++ (t ∷ [])
  all_words =
      let e : c + 1 ≡ suc c = omega arith in
      ap (λ (k : ℕ). slots_in x k after) e ∙ tets-last c x.slots after ∙ ap₂ (λ (l : List Tet) (q : Tet). l ++ (q ∷ [])) first-words last_word

  pub slot_added : (v : List ℕ) → v ≡ after → SlotsStand x n (c + 1) v (record { slots = s.slots ++ (some t ∷ []); flips = s.flips }) × Kept x w v
  slot_added v i = subst (λ (y : List ℕ). SlotsStand x n (c + 1) y (record { slots = s.slots ++ (some t ∷ []); flips = s.flips }) × Kept x w y) (sym i) (
    record {
      room = subst (FlipRoom x n) (sym after-long) z.room;
      fits = omega arith;
      slots =
          ap₂ (λ (l : List (Option Tet)) (q : Option Tet). l ++ (q ∷ [])) z.slots (sym (slot-some t (well-there x.vertices (let k = z.room.few in omega arith) t ok)))
          ∙ sym (ap (map slot_of) all_words ∙ map-append slot_of (slots_in x c w) (t ∷ []));
      proper = ap (every (slot_ok x.vertices)) all_words ∙ every_append (slot_ok x.vertices) (slots_in x c w) (t ∷ []) z.proper (rw (ok-well x.vertices t ok) refl);
      index = appended-complete x c (c + 1) put put-laid (omega arith) (omega arith)
          (written-complete x w c old-laid z.fits z.index put (λ j a b. let r = room-here in put_other w (x.slots + 4 * c) t j (λ g. omega arith)) (λ p g. put_other w (x.slots + 4 * c) t (x.slots + p) (λ q. absurd (omega arith))));
    },
    record { long = after-long; listed = λ j a b. let r = room-here in let k = old-laid.heads in let l = old-laid.lengths in outside j (λ g. a) ∙ put_other w (x.slots + 4 * c) t j (λ g. omega arith) },
  )
