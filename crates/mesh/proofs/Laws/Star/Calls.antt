-- What a caller of src/star.rt cites: with a complete index the answers are the scan's, and the index stays complete when a star is
-- listed, when slots are gone, and when a slot is written and appended. For `build`, `append` and `join`: `built-complete`,
-- `appended-complete` and `replaced-complete`. Assumes nothing.
use Rattle.std.proofs.Common.{◌≡◌, ℕ, ◌+◌, ◌*◌, ◌<◌, ◌≤◌, Bool, cond, ◌⊎◌, List, [], length, take, drop, sym, ap, ◌∙◌, subst, inl, inr, arith, get_or-drop}
use Rattle.mesh.specs.declared.star.Index.{Index}
use Rattle.mesh.specs.Words.{word_at}
use Rattle.mesh.specs.Element.{tets}
use Rattle.mesh.specs.inside.Star.{star_of, neighbours_of, corner_at, chain_length, Complete, Laid, slots_about, star_room, star_list, starred, others_met, neighbour_room, neighbour_list, neighboured, distinct, listed}
pub use Rattle.mesh.proofs.Laws.Intake.Reads.{tets-same}
use Rattle.mesh.proofs.Laws.Star.Layout.{room-is}
use Rattle.mesh.proofs.Laws.Star.Chains.{complete-kept}
use Rattle.mesh.proofs.Laws.Star.Found.{star-room, star-found, neighbour-room, neighbours-found}
use Rattle.mesh.proofs.Laws.Star.Gathering.{all-others-short}
use Rattle.mesh.proofs.Laws.Star.Answers.{length-listed, listed_below, listed-part, about-short}

-- t is s with the list us at k, and the same before k
pub record Answered (s t : List ℕ) (k : ℕ) (us : List ℕ) : Type 0 where
  pub list : take (length us) (drop k t) ≡ us
  pub long : length t ≡ length s
  pub below : (j : ℕ) → j < k → word_at t j ≡ word_at s j

module _ (x : Index) (s : List ℕ) (n : ℕ) (l : Laid x (length s)) (hn : n ≤ x.room) (c : Complete x s (4 * n)) where
  -- ---- the answers

  module _ (v w : ℕ) (hv : v < x.vertices) (hw : w < x.vertices) (fit : x.area + (4 * n + 4 * n) ≤ length s) where
    -- as many as the scan finds
    pub star-count : length (star_list x s v w) ≡ length (star_of v w (tets n (drop x.slots s)))
    star-count = ap length (star-found x s n c.chains v w l fit (c.indexed v hv) (c.indexed w hw))

    -- those that the scan finds
    pub star-answered : Answered s (starred x s v w) x.area (star_of v w (tets n (drop x.slots s)))
    unfolding starred star_list
    star-answered =
        let us = slots_about x s v w in
        let r = star-room x s n c.chains v w l fit in
        let f : distinct us ≡ star_of v w (tets n (drop x.slots s)) =
        sym (ap (λ (b : Bool). cond b (distinct us) []) r) ∙ star-found x s n c.chains v w l fit (c.indexed v hv) (c.indexed w hw) in
        let h : x.area + (length us + length us) ≤ length s = let g = about-short x s v w r in omega arith in
        let e : cond (star_room x s v w) (listed s x.area us) s ≡ listed s x.area us = ap (λ (b : Bool). cond b (listed s x.area us) s) r in
        subst (λ (t : List ℕ). Answered s t x.area (star_of v w (tets n (drop x.slots s)))) (sym e)
        (subst (Answered s (listed s x.area us) x.area) f
        (record { list = listed-part s x.area us h; long = length-listed s x.area us h; below = listed_below s x.area us h }))

  module _ (v : ℕ) (hv : v < x.vertices) (fit : x.area + (16 * n + 16 * n) ≤ length s) where
    pub neighbours-count : length (neighbour_list x s v) ≡ length (neighbours_of v (tets n (drop x.slots s)))
    neighbours-count = ap length (neighbours-found x s n c.chains v l fit (c.indexed v hv))

    pub neighbours-answered : Answered s (neighboured x s v) x.area (neighbours_of v (tets n (drop x.slots s)))
    unfolding neighboured neighbour_list neighbour_room
    neighbours-answered =
        let us = others_met x s v in
        let r = neighbour-room x s n c.chains v l fit in
        let f : distinct us ≡ neighbours_of v (tets n (drop x.slots s)) =
        sym (ap (λ (b : Bool). cond b (distinct us) []) r) ∙ neighbours-found x s n c.chains v l fit (c.indexed v hv) in
        let h : x.area + (length us + length us) ≤ length s =
        let g = all-others-short x s v in let q = (room-is x (length s) (4 * chain_length x s v) r).1 in omega arith in
        let e : cond (neighbour_room x s v) (listed s x.area us) s ≡ listed s x.area us = ap (λ (b : Bool). cond b (listed s x.area us) s) r in
        subst (λ (t : List ℕ). Answered s t x.area (neighbours_of v (tets n (drop x.slots s)))) (sym e)
        (subst (Answered s (listed s x.area us) x.area) f
        (record { list = listed-part s x.area us h; long = length-listed s x.area us h; below = listed_below s x.area us h }))

  -- ---- what keeps the index complete

  -- a list in the area, or any other word from there on
  pub answered-complete : (t : List ℕ) → ((j : ℕ) → j < x.area → word_at t j ≡ word_at s j) → Complete x t (4 * n)
  answered-complete t h = complete-kept x s t l (λ j a b. h j b) (4 * n) (λ p v g f e. sym (h (x.slots + p) (omega arith)) ∙ e) c

  -- which changes no element
  pub answered-elements : (t : List ℕ) → ((j : ℕ) → j < x.area → word_at t j ≡ word_at s j) → tets n (drop x.slots t) ≡ tets n (drop x.slots s)
  answered-elements t h =
      tets-same n (drop x.slots s) (drop x.slots t)
      (λ j g. get_or-drop x.slots t j 0 ∙ h (x.slots + j) (omega arith) ∙ sym (get_or-drop x.slots s j 0))

  -- slots that are gone: corners that are no vertices now, the others as they were
  pub gone-complete : (t : List ℕ) → ((j : ℕ) → x.nexts ≤ j → j < x.area → word_at t j ≡ word_at s j)
      → ((p : ℕ) → p < 4 * n → (x.vertices ≤ corner_at x t p) ⊎ (corner_at x t p ≡ corner_at x s p)) → Complete x t (4 * n)
  gone-complete t same h =
      complete-kept x s t l same (4 * n) (λ p v g f e. elim (h p g) [ inl a ↦ absurd (omega arith) | inr a ↦ sym a ∙ e ]) c

  -- words outside the chains and past the slot n - 1, as those of a slot to be appended
  pub written-complete : (t : List ℕ) → ((j : ℕ) → x.nexts ≤ j → j < x.area → word_at t j ≡ word_at s j)
      → ((p : ℕ) → p < 4 * n → corner_at x t p ≡ corner_at x s p) → Complete x t (4 * n)
  written-complete t same h = gone-complete t same (λ p g. inr (h p g))
