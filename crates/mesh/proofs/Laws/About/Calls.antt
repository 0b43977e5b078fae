-- What a caller of src/about.rt cites for elements: those of a list of slots, of a star, and the live ones. For the list itself:
-- `about-answered` and `about-count`, with `entries-few` and `entries-append` for its room. Assumes nothing.
use Rattle.std.proofs.Common.{◌≡◌, ℕ, zero, suc, ◌+◌, ◌*◌, ◌<◌, ◌≤◌, Bool, true, cond, ◌||◌, List, [], ◌∷◌, ◌++◌, map, length, get_or, take, drop, sym, refl, ap, ◌∙◌, subst, ap₂, add-one, arith, length-take-le, drop-cons, drop_at}
use lib.ListN.{length-map}
use Rattle.mesh.specs.declared.element.Tet.{Tet}
use Rattle.mesh.specs.declared.star.Index.{Index}
use Rattle.mesh.specs.Words.{word_at}
use Rattle.mesh.specs.Complex.{mem, keep}
use Rattle.mesh.specs.Element.{tets, has}
use Rattle.mesh.specs.inside.Star.{star_of, gone_tet, Laid, written}
use Rattle.mesh.specs.inside.About.{has_one, star_all, members, slot_at, words_of, space_for, elements_in, live, live_room, live_list, live_in}
use Rattle.mesh.proofs.Laws.Complex.Sets.{mem-here, mem-there}
use Rattle.mesh.proofs.Laws.Euler.Areas.{tets-flat}
use Rattle.mesh.proofs.Laws.List.Bad.{keep-few}
use Rattle.mesh.proofs.Laws.Star.Written.{length-written, written_below, written_behind}
use Rattle.mesh.proofs.Laws.Star.Calls.{Answered}
use Rattle.mesh.proofs.Laws.Star.Numbers.{pass-elements, pass_below, pass-count, star-passes}
use Rattle.mesh.proofs.Laws.About.Copies.{space-yes, length-words, slot_kept, slot-element}
use Rattle.mesh.proofs.Laws.About.Loops.{live-yes}
use Rattle.mesh.proofs.Laws.Intake.Reads.{length-tets}

-- t is s with the elements ts at k, and the same elsewhere
pub record Copied (s t : List ℕ) (k : ℕ) (ts : List Tet) : Type 0 where
  pub elements : tets (length ts) (drop k t) ≡ ts
  pub long : length t ≡ length s
  pub below : (j : ℕ) → j < k → word_at t j ≡ word_at s j
  pub behind : (j : ℕ) → k + 4 * length ts ≤ j → word_at t j ≡ word_at s j

written-copied : (s : List ℕ) (k : ℕ) (ts : List Tet) → k + 4 * length ts ≤ length s → Copied s (written s k (words_of ts)) k ts
unfolding written
written-copied s k ts h = record {
  elements =
      ap (tets (length ts)) (drop_at (take k s) (words_of ts ++ drop (k + length (words_of ts)) s) k (length-take-le k s (omega arith)))
      ∙ tets-flat ts (drop (k + length (words_of ts)) s);
  long = length-written s k (words_of ts) (omega (arith, length-words ts));
  below = written_below s k (words_of ts) (omega (arith, length-words ts));
  behind = λ j g. written_behind s k (words_of ts) (omega (arith, length-words ts)) j (omega (arith, length-words ts));
}

map_same : (f g : ℕ → Tet) (us : List ℕ) → ((u : ℕ) → mem u us ≡ true → f u ≡ g u) → map f us ≡ map g us
map_same f g [] h = refl
map_same f g (u ∷ us) h = ap₂ (λ (t : Tet) (ts : List Tet). t ∷ ts) (h u (mem-here u us)) (map_same f g us (λ v m. h v (mem-there v u us m)))

-- ---- the elements of a list of slots

module _ (x : Index) (s : List ℕ) (n : ℕ) (l : Laid x (length s)) (hn : n ≤ x.room) where
  -- after any list of slots below n in the area
  pub elements-listed : (t us : List ℕ) → Answered s t x.area us → ((u : ℕ) → mem u us ≡ true → u < n) → x.area + 5 * length us ≤ length s
      → (ts : List Tet) → map (λ e. get_or (tets n (drop x.slots s)) e gone_tet) us ≡ ts → Copied t (elements_in x (length us) t) (x.area + length us) ts
  unfolding elements_in
  elements-listed t us a below fit ts e =
      let k = x.area + length us in
      let long = a.long in
      let r : space_for x (length t) (length us) 5 ≡ true = space-yes x (length t) (length us) 5 (subst (Laid x) (sym long) l) (omega arith) in
      let same : map (slot_at x t) (take (length us) (drop x.area t)) ≡ ts =
      ap (map (slot_at x t)) a.list
      ∙ map_same (slot_at x t) (λ u. get_or (tets n (drop x.slots s)) u gone_tet) us
      (λ u m. slot_kept x s t l a.below u ∙ sym (slot-element x s n u gone_tet hn (below u m)))
      ∙ e in
      let count : length ts ≡ length us = ap length (sym e) ∙ length-map us (λ u. get_or (tets n (drop x.slots s)) u gone_tet) in
      let q : cond (space_for x (length t) (length us) 5) (written t k (words_of (map (slot_at x t) (take (length us) (drop x.area t))))) t ≡ written t k (words_of ts) =
      ap₂ (λ (b : Bool) (vs : List Tet). cond b (written t k (words_of vs)) t) r same in
      subst (λ (y : List ℕ). Copied t y k ts) (sym q) (written-copied t k ts (omega arith))

  -- after the star of several vertices: the elements that have one of them
  pub about-elements : (vs t : List ℕ) → Answered s t x.area (star_all vs (tets n (drop x.slots s)))
      → x.area + 5 * length (star_all vs (tets n (drop x.slots s))) ≤ length s
      → Copied t (elements_in x (length (star_all vs (tets n (drop x.slots s)))) t) (x.area + length (star_all vs (tets n (drop x.slots s)))) (keep (has_one vs) (tets n (drop x.slots s)))
  about-elements vs t a fit =
      let ts = tets n (drop x.slots s) in
      elements-listed t (star_all vs ts) a (λ u m. let h = pass_below (has_one vs) ts u gone_tet m in omega (arith, length-tets n (drop x.slots s))) fit
      (keep (has_one vs) ts) (pass-elements (has_one vs) ts gone_tet)

  -- after the star of a pair: the elements that have one of the two
  pub pair-elements : (v w : ℕ) (t : List ℕ) → Answered s t x.area (star_of v w (tets n (drop x.slots s)))
      → x.area + 5 * length (star_of v w (tets n (drop x.slots s))) ≤ length s
      → Copied t (elements_in x (length (star_of v w (tets n (drop x.slots s)))) t) (x.area + length (star_of v w (tets n (drop x.slots s)))) (keep (λ e. has v e || has w e) (tets n (drop x.slots s)))
  pair-elements v w t a fit =
      let ts = tets n (drop x.slots s) in
      let p : Tet → Bool = λ e. has v e || has w e in
      let q = star-passes v w 0 ts in
      elements-listed t (star_of v w ts) a
      (λ u m. let h = pass_below p ts u gone_tet (subst (λ (us : List ℕ). mem u us ≡ true) q m) in omega (arith, length-tets n (drop x.slots s))) fit
      (keep p ts) (ap (map (λ e. get_or ts e gone_tet)) q ∙ pass-elements p ts gone_tet)

  -- ---- the live elements

  module _ (fit : x.area + 4 * n ≤ length s) where
    room : live_room x (length s) n ≡ true
    room = live-yes x (length s) n l hn (omega arith)

    pub live-count : length (live_list x n s) ≡ length (keep live (tets n (drop x.slots s)))
    unfolding live_list
    live-count = rw room refl

    pub live-copied : Copied s (live_in x n s) x.area (keep live (tets n (drop x.slots s)))
    unfolding live_in
    live-copied =
        let ts = keep live (tets n (drop x.slots s)) in
        let q : cond (live_room x (length s) n) (written s x.area (words_of ts)) s ≡ written s x.area (words_of ts) =
        ap (λ (b : Bool). cond b (written s x.area (words_of ts)) s) room in
        subst (λ (y : List ℕ). Copied s y x.area ts) (sym q)
        (written-copied s x.area ts (omega (arith, keep-few live (tets n (drop x.slots s)), length-tets n (drop x.slots s))))

-- how many elements a star has
pub about-many : (vs : List ℕ) (ts : List Tet) → length (star_all vs ts) ≡ length (keep (has_one vs) ts)
about-many vs ts = pass-count (has_one vs) ts 0

pub pair-many : (v w : ℕ) (ts : List Tet) → length (star_of v w ts) ≡ length (keep (λ t. has v t || has w t) ts)
pair-many v w ts = ap length (star-passes v w 0 ts) ∙ pass-count (λ t. has v t || has w t) ts 0

-- members that stand one behind the other
pub members-part : (k p : ℕ) (s : List ℕ) → p + k ≤ length s → members k p 1 s ≡ take k (drop p s)
unfolding members
members-part zero p s h = refl
members-part (suc k) p s h =
    ap (λ (us : List ℕ). word_at s p ∷ us) (members-part k (p + 1) s (omega arith) ∙ ap (λ (q : ℕ). take k (drop q s)) (add-one p))
    ∙ sym (ap (take (suc k)) (drop-cons s p 0 (omega arith)))
