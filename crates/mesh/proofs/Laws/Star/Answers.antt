-- The answers in the area: what `star` and `neighbours` put there is their definition's, and what a caller reads there. Assumes nothing.
use Rattle.std.proofs.Common.{◌≡◌, ℕ, ◌+◌, ◌-◌, ◌*◌, ◌<◌, ◌≤◌, true, false, List, ◌++◌, length, take, drop, replicate, sym, refl, ap, ◌∙◌, subst, ap₂, arith, length-append, take-take, take_at}
use lib.ListN.{length-replicate}
use Rattle.mesh.specs.declared.star.Index.{Index}
use Rattle.mesh.specs.Words.{word_at}
use Rattle.mesh.specs.inside.Star.{chain_length, Laid, Free, second, slots_met, slots_about, star_room, star_list, starred, others_met, neighbour_room, neighbour_list, neighboured, distinct, written, listed}
use Rattle.mesh.proofs.Laws.Star.Layout.{room-is}
use Rattle.mesh.proofs.Laws.Star.Written.{length-written, written_below, written-part, written-more, written_over}
use Rattle.mesh.proofs.Laws.Star.Chains.{length-kept}
use Rattle.mesh.proofs.Laws.Star.Distinct.{length-distinct}
use Rattle.mesh.proofs.Laws.Star.Gathering.{slots-short, all-others-short, slots_same}

-- ---- a list in its place

module _ (s : List ℕ) (k : ℕ) (us : List ℕ) (h : k + (length us + length us) ≤ length s) where
  abbrev words : List ℕ
  words = distinct us ++ replicate (length us + length us - length (distinct us)) 0

  words_long : length words ≡ length us + length us
  words_long =
      omega (
        arith,
        length-append (distinct us) (replicate {A = ℕ} (length us + length us - length (distinct us)) 0),
        length-replicate {A = ℕ} (length us + length us - length (distinct us)) 0,
        length-distinct us,
      )

  fits : k + length words ≤ length s
  fits = omega (arith, words_long)

  pub length-listed : length (listed s k us) ≡ length s
  unfolding listed
  length-listed = length-written s k words fits

  -- before the area all is as it was
  pub listed_below : (j : ℕ) → j < k → word_at (listed s k us) j ≡ word_at s j
  unfolding listed
  listed_below j g = written_below s k words fits j g

  -- the list, read back
  pub listed-part : take (length (distinct us)) (drop k (listed s k us)) ≡ distinct us
  unfolding listed
  listed-part =
      let d = distinct us in
      sym (take-take (length d) (length words) (drop k (written s k words)) (omega (arith, words_long, length-distinct us)))
      ∙ ap (take (length d)) (written-part s k words fits)
      ∙ take_at d (replicate (length us + length us - length d) 0) (length d) refl

  -- the words themselves stood there first
  over : (t : List ℕ) → t ≡ written s k us → listed t k us ≡ listed s k us
  unfolding listed
  over t e = ap (λ (u : List ℕ). written u k words) e ∙ written_over s k us (omega arith) words (omega (arith, words_long))

  -- the words in their place, put in order
  pub ordered-is : (t u : List ℕ) (n r : ℕ) → t ≡ written s k us → n ≡ length us → r ≡ length (distinct (take n (drop k t))) → u ≡ listed t k (take n (drop k t))
      → (r ≡ length (distinct us)) × (u ≡ listed s k us)
  ordered-is t u n r et en er eu =
      let e : take n (drop k t) ≡ us = ap₂ (λ (i : ℕ) (y : List ℕ). take i (drop k y)) en et ∙ written-part s k us (omega arith) in
      (er ∙ ap (λ (y : List ℕ). length (distinct y)) e, eu ∙ ap (listed t k) e ∙ over t et)

-- ---- the star

-- where there is room for the entries there is room for the slots that they give
pub about-short : (x : Index) (s : List ℕ) (v w : ℕ) → star_room x s v w ≡ true → x.area + (length (slots_about x s v w) + length (slots_about x s v w)) ≤ length s
unfolding star_room slots_about
about-short x s v w e =
    let r = (room-is x (length s) (chain_length x s v + chain_length x s (second x v w)) e).1 in
    omega (arith, slots-short x s v, slots-short x s (second x v w), length-append (slots_met x s v) (slots_met x s (second x v w)))

module _ (x : Index) (s : List ℕ) (v w : ℕ) where
  pub star-none : star_room x s v w ≡ false → (0 ≡ length (star_list x s v w)) × (s ≡ starred x s v w)
  unfolding star_list starred
  star-none e = (rw e, rw e)

  module _ (er : star_room x s v w ≡ true) where
    l : Laid x (length s)
    unfolding star_room
    l = (room-is x (length s) _ er).0

    room : x.area + (chain_length x s v + chain_length x s (second x v w) + (chain_length x s v + chain_length x s (second x v w))) ≤ length s
    unfolding star_room
    room = (room-is x (length s) _ er).1

    pub star-free : Free x s x.area (chain_length x s v)
    star-free = record { laid = l; behind = omega arith; fits = omega (arith, room) }

    few-v : length (slots_met x s v) ≤ chain_length x s v
    few-v = slots-short x s v

    few-u : length (slots_met x s (second x v w)) ≤ chain_length x s (second x v w)
    few-u = slots-short x s (second x v w)

    module _ (i : ℕ) (s₁ : List ℕ) (ei : i ≡ length (slots_met x s v)) (e₁ : s₁ ≡ written s x.area (slots_met x s v)) where
      fits₁ : x.area + length (slots_met x s v) ≤ length s
      fits₁ = omega (arith, room, few-v)

      long₁ : length s₁ ≡ length s
      long₁ = ap length e₁ ∙ length-written s x.area (slots_met x s v) fits₁

      read₁ : (j : ℕ) → j < x.area → word_at s₁ j ≡ word_at s j
      read₁ j h = ap (λ (y : List ℕ). word_at y j) e₁ ∙ written_below s x.area (slots_met x s v) fits₁ j h

      pub star-few : x.area + i ≤ length s
      star-few = omega (arith, room, few-v)

      module _ (u : ℕ) (eu : u ≡ second x v w) where
        pub star-free-2 : Free x s₁ (x.area + i) (chain_length x s₁ u)
        star-free-2 = record {
          laid = subst (Laid x) (sym long₁) l;
          behind = omega arith;
          fits = omega (arith, room, few-v, long₁, length-kept x s s₁ l (λ j g h. read₁ j h) u, ap (chain_length x s) eu);
        }

        same₁ : slots_met x s₁ u ≡ slots_met x s (second x v w)
        same₁ = slots_same x s s₁ u (length s) l read₁ ∙ ap (slots_met x s) eu

        module _ (j : ℕ) (s₂ : List ℕ) (ej : j ≡ length (slots_met x s₁ u)) (e₂ : s₂ ≡ written s₁ (x.area + i) (slots_met x s₁ u)) where
          all : s₂ ≡ written s x.area (slots_about x s v w)
          unfolding slots_about
          all =
              e₂ ∙ ap₂ (λ (y z : List ℕ). written y (x.area + i) z) e₁ same₁
              ∙ ap (λ (k : ℕ). written (written s x.area (slots_met x s v)) (x.area + k) (slots_met x s (second x v w))) ei
              ∙ written-more s x.area (slots_met x s v) fits₁ (slots_met x s (second x v w))

          sum : i + j ≡ length (slots_about x s v w)
          unfolding slots_about
          sum = ap₂ (λ (y z : ℕ). y + z) ei (ej ∙ ap length same₁) ∙ sym (length-append (slots_met x s v) (slots_met x s (second x v w)))

          long₂ : length s₂ ≡ length s
          long₂ = ap length all ∙ length-written s x.area (slots_about x s v w) (omega (arith, about-short x s v w er))

          pub star-fits : x.area + (i + j + (i + j)) ≤ length s₂
          star-fits = omega (arith, about-short x s v w er, sum, long₂)

          pub star-is : (r : ℕ) (s₃ : List ℕ) → r ≡ length (distinct (take (i + j) (drop x.area s₂))) → s₃ ≡ listed s₂ x.area (take (i + j) (drop x.area s₂))
              → (r ≡ length (star_list x s v w)) × (s₃ ≡ starred x s v w)
          unfolding star_list starred
          star-is r s₃ e₃ e₄ =
              let o = ordered-is s x.area (slots_about x s v w) (about-short x s v w er) s₂ s₃ (i + j) r all sum e₃ e₄ in
              (rw er o.0, rw er o.1)

-- ---- the neighbours

module _ (x : Index) (s : List ℕ) (v : ℕ) where
  pub neighbours-none : neighbour_room x s v ≡ false → (0 ≡ length (neighbour_list x s v)) × (s ≡ neighboured x s v)
  unfolding neighbour_list neighboured
  neighbours-none e = (rw e, rw e)

  module _ (er : neighbour_room x s v ≡ true) where
    is : Laid x (length s) × (x.area + (4 * chain_length x s v + 4 * chain_length x s v) ≤ length s)
    unfolding neighbour_room
    is = room-is x (length s) (4 * chain_length x s v) er

    pub neighbours-free : Free x s x.area (4 * chain_length x s v)
    neighbours-free = record { laid = is.0; behind = omega arith; fits = omega (arith, is.1) }

    module _ (k : ℕ) (s₁ : List ℕ) (ek : k ≡ length (others_met x s v)) (e₁ : s₁ ≡ written s x.area (others_met x s v)) where
      tight : x.area + (length (others_met x s v) + length (others_met x s v)) ≤ length s
      tight = omega (arith, is.1, all-others-short x s v)

      pub neighbours-fits : x.area + (k + k) ≤ length s₁
      neighbours-fits = omega (arith, tight, ap length e₁ ∙ length-written s x.area (others_met x s v) (omega (arith, tight)))

      pub neighbours-is : (r : ℕ) (s₂ : List ℕ) → r ≡ length (distinct (take k (drop x.area s₁))) → s₂ ≡ listed s₁ x.area (take k (drop x.area s₁))
          → (r ≡ length (neighbour_list x s v)) × (s₂ ≡ neighboured x s v)
      unfolding neighbour_list neighboured
      neighbours-is r s₂ e₂ e₃ =
          let o = ordered-is s x.area (others_met x s v) tight s₁ s₂ k r e₁ ek e₂ e₃ in
          (rw er o.0, rw er o.1)
