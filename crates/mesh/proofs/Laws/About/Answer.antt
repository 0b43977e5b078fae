-- A star of several members: one chain's slots put behind the other's, then in order; with a complete index it is the scan's. Assumes nothing.
use Rattle.std.proofs.Common.{◌≡◌, ℕ, ◌+◌, ◌-◌, ◌*◌, ◌<◌, ◌≤◌, Bool, true, false, cond, ◌||◌, ltb, leb, ◌⊎◌, List, [], ◌∷◌, ◌++◌, length, get_or, take, drop, sym, refl, ap, ◌∙◌, subst, ap₂, inl, inr, ⊎_elim, append_assoc, append-nil, arith, length-append, ltb-true, leb-true}
use lib.ListN.{get_or-eq_default}
use Rattle.mesh.specs.declared.element.Tet.{Tet}
use Rattle.mesh.specs.declared.star.Index.{Index}
use Rattle.mesh.specs.Words.{word_at}
use Rattle.mesh.specs.Complex.{mem}
use Rattle.mesh.specs.Element.{tets, has}
use Rattle.mesh.specs.inside.Star.{gone_tet, gather, chain_length, slots_met, Complete, Laid, Free, room_for, distinct, written, listed}
use Rattle.mesh.specs.inside.About.{has_one, star_all, members, clear_of, entries_of, slots_of, about_room, about_list, about_in}
use Rattle.mesh.proofs.Laws.Bools.{and_intro, and_left, and_right}
use Rattle.mesh.proofs.Laws.Complex.Sets.{same, or_cases}
use Rattle.mesh.proofs.Laws.Star.Layout.{room-is, room-yes}
use Rattle.mesh.proofs.Laws.Star.Written.{length-written, written_below, written-more, written_none}
use Rattle.mesh.proofs.Laws.Star.Chains.{length-kept}
use Rattle.mesh.proofs.Laws.Star.Distinct.{distinct-is}
use Rattle.mesh.proofs.Laws.Star.Gathering.{slots-short, slots_same}
use Rattle.mesh.proofs.Laws.Star.Found.{gather-out, gather-in, met_has, has-met}
use Rattle.mesh.proofs.Laws.Star.Answers.{ordered-is, length-listed, listed_below, listed-part}
use Rattle.mesh.proofs.Laws.Star.Calls.{Answered}
use Rattle.mesh.proofs.Laws.Star.Numbers.{pass-out, pass-in, pass-rising, any_out, any-in}
use Rattle.mesh.proofs.Laws.About.Members.{Next, members-first, members-none, members-next, clear_first, clear_next, clear-below, entries-first, slots-few}
use Rattle.mesh.proofs.Laws.Intake.Reads.{length-tets}

-- room for the star, as facts
pub about-room : (x : Index) (s : List ℕ) (from count step : ℕ) → about_room x s from count step ≡ true
    → Laid x (length s) × (x.area + (entries_of x s (members count from step s) + entries_of x s (members count from step s)) ≤ length s)
    × (clear_of x.area (length s) count from step ≡ true)
unfolding about_room
about-room x s from count step h =
    let T = entries_of x s (members count from step s) in
    let r = room-is x (length s) T (and_left (room_for x (length s) T) (clear_of x.area (length s) count from step) h) in
    (r.0, r.1, and_right (room_for x (length s) T) (clear_of x.area (length s) count from step) h)

slots-first : (x : Index) (s : List ℕ) (v : ℕ) (vs : List ℕ) → slots_of x s (v ∷ vs) ≡ slots_met x s v ++ slots_of x s vs
unfolding slots_of gather
slots-first x s v vs = refl

slots-none : (x : Index) (s : List ℕ) → slots_of x s [] ≡ []
unfolding slots_of gather
slots-none x s = refl

-- ---- the loop

-- the slots got stand at the area's front, n of them, and with those of the members left are all
pub record Putting (x : Index) (all s₀ s : List ℕ) (step p left n : ℕ) : Type 0 where
  pub laid : Laid x (length s₀)
  pub long : length s ≡ length s₀
  pub got : List ℕ
  pub is : s ≡ written s₀ x.area got
  pub count : n ≡ length got
  pub rest : got ++ slots_of x s₀ (members left p step s₀) ≡ all
  pub fits : x.area + (n + entries_of x s₀ (members left p step s₀)) ≤ length s₀
  pub clear : clear_of x.area (length s₀) left p step ≡ true

pub put-start : (x : Index) (s : List ℕ) (from count step : ℕ) → about_room x s from count step ≡ true
    → Putting x (slots_of x s (members count from step s)) s s step from count 0
put-start x s from count step h =
    let r = about-room x s from count step h in
    record { laid = r.0; long = refl; got = []; is = sym (written_none s x.area); count = refl; rest = refl; fits = let a = r.1 in omega arith; clear = r.2 }

module _ {x : Index} {all s₀ s : List ℕ} {step p left n : ℕ} (g : Putting x all s₀ s step p left n) where
  room-got : x.area + length g.got ≤ length s₀
  room-got = let a = g.fits in let b = g.count in omega arith

  read : (j : ℕ) → j < x.area → word_at s j ≡ word_at s₀ j
  read j h = ap (λ (u : List ℕ). word_at u j) g.is ∙ written_below s₀ x.area g.got room-got j h

  pub put-end : left ≤ 0 → (n ≡ length all) × (s ≡ written s₀ x.area all)
  put-end h =
      let e : slots_of x s₀ (members left p step s₀) ≡ [] = ap (slots_of x s₀) (members-none left p step s₀ h) ∙ slots-none x s₀ in
      let q : g.got ≡ all = sym (append-nil g.got) ∙ ap (λ (u : List ℕ). g.got ++ u) (sym e) ∙ g.rest in
      (g.count ∙ ap length q, g.is ∙ ap (written s₀ x.area) q)

  module _ (some : 0 < left) (v : ℕ) (ev : v ≡ word_at s p) where
    first : (p < x.area) ⊎ (length s₀ ≤ p)
    first =
        let c = sym (clear_first x.area (length s₀) left p step some) ∙ g.clear in
        let h = and_left (ltb p x.area || leb (length s₀) p) (clear_of x.area (length s₀) (left - 1) (p + step) step) c in
        elim (or_cases (ltb p x.area) (leb (length s₀) p) h) [ inl a ↦ inl (ltb-true p x.area a) | inr a ↦ inr (leb-true (length s₀) p a) ]

    -- the member is as it was
    member : v ≡ word_at s₀ p
    member =
        ev
        ∙ ⊎_elim (read p) (λ h. get_or-eq_default s 0 (omega (arith, g.long)) ∙ sym (get_or-eq_default s₀ 0 h)) first

    these : members left p step s₀ ≡ v ∷ members (left - 1) (p + step) step s₀
    these = members-first left p step s₀ some ∙ ap (λ (u : ℕ). u ∷ members (left - 1) (p + step) step s₀) (sym member)

    sum : entries_of x s₀ (members left p step s₀) ≡ chain_length x s₀ v + entries_of x s₀ (members (left - 1) (p + step) step s₀)
    sum = ap (entries_of x s₀) these ∙ entries-first x s₀ v (members (left - 1) (p + step) step s₀)

    -- room for its slots
    pub put-free : Free x s (x.area + n) (chain_length x s v)
    put-free = record {
      laid = subst (Laid x) (sym g.long) g.laid;
      behind = omega arith;
      fits = let a = g.fits in omega (arith, sum, g.long, length-kept x s₀ s g.laid (λ j h k. read j k) v);
    }

    module _ (t : List ℕ) (r : ℕ) (er : r ≡ length (slots_met x s v)) (et : t ≡ written s (x.area + n) (slots_met x s v)) where
      gives : slots_met x s v ≡ slots_met x s₀ v
      gives = slots_same x s₀ s v (length s₀) g.laid read

      count-more : r ≡ length (slots_met x s₀ v)
      count-more = er ∙ ap length gives

      pub put_count : x.area + (n + r) ≤ length s₀
      put_count = let a = g.fits in omega (arith, sum, count-more, slots-short x s₀ v)

      is-more : t ≡ written s₀ x.area (g.got ++ slots_met x s₀ v)
      is-more =
          et ∙ ap₂ (λ (u v : List ℕ). written u (x.area + n) v) g.is gives
          ∙ ap (λ (i : ℕ). written (written s₀ x.area g.got) (x.area + i) (slots_met x s₀ v)) g.count
          ∙ written-more s₀ x.area g.got room-got (slots_met x s₀ v)

      -- a turn
      pub put-turn : (m q : ℕ) → m ≡ length s₀ → Next m (p + step) q → Putting x all s₀ t step q (left - 1) (n + r)
      put-turn m q em nx = record {
        laid = g.laid;
        long = ap length et ∙ length-written s (x.area + n) (slots_met x s v) (omega (arith, put_count, er, g.long)) ∙ g.long;
        got = g.got ++ slots_met x s₀ v;
        is = is-more;
        count = omega (arith, g.count, count-more, length-append g.got (slots_met x s₀ v));
        rest =
            ap (λ (vs : List ℕ). (g.got ++ slots_met x s₀ v) ++ slots_of x s₀ vs) same_left
            ∙ append_assoc g.got (slots_met x s₀ v) (slots_of x s₀ (members (left - 1) (p + step) step s₀))
            ∙ ap (λ (u : List ℕ). g.got ++ u) (sym (ap (slots_of x s₀) these ∙ slots-first x s₀ v (members (left - 1) (p + step) step s₀)))
            ∙ g.rest;
        fits = let a = g.fits in omega (arith, sum, count-more, slots-short x s₀ v, ap (entries_of x s₀) same_left);
        clear =
            clear_next x.area (length s₀) (left - 1) (p + step) q step next
            ∙ and_right (ltb p x.area || leb (length s₀) p) (clear_of x.area (length s₀) (left - 1) (p + step) step)
            (sym (clear_first x.area (length s₀) left p step some) ∙ g.clear);
      }
        where
          next : Next (length s₀) (p + step) q
          next = subst (λ (i : ℕ). Next i (p + step) q) em nx

          same_left : members (left - 1) q step s₀ ≡ members (left - 1) (p + step) step s₀
          same_left = members-next (left - 1) (p + step) q step s₀ next

-- ---- the answer

pub about-none : (x : Index) (s : List ℕ) (from count step : ℕ) → about_room x s from count step ≡ false
    → (0 ≡ length (about_list x s from count step)) × (s ≡ about_in x s from count step)
unfolding about_list about_in
about-none x s from count step e = (rw e, rw e)

module _ (x : Index) (s : List ℕ) (from count step : ℕ) (e : about_room x s from count step ≡ true) where
  abbrev vs : List ℕ
  vs = members count from step s

  tight : x.area + (length (slots_of x s (members count from step s)) + length (slots_of x s (members count from step s))) ≤ length s
  tight = let r = (about-room x s from count step e).1 in omega (arith, slots-few x s (members count from step s))

  module _ (n : ℕ) (s₁ : List ℕ) (en : n ≡ length (slots_of x s (members count from step s))) (e₁ : s₁ ≡ written s x.area (slots_of x s (members count from step s))) where
    pub about-fits : x.area + (n + n) ≤ length s₁
    about-fits = omega (arith, tight, ap length e₁ ∙ length-written s x.area (slots_of x s vs) (omega (arith, tight)))

    pub about-is : (r : ℕ) (s₂ : List ℕ) → r ≡ length (distinct (take n (drop x.area s₁))) → s₂ ≡ listed s₁ x.area (take n (drop x.area s₁))
        → (r ≡ length (about_list x s from count step)) × (s₂ ≡ about_in x s from count step)
    unfolding about_list about_in
    about-is r s₂ e₂ e₃ =
        let o = ordered-is s x.area (slots_of x s vs) tight s₁ s₂ n r e₁ en e₂ e₃ in
        (rw e o.0, rw e o.1)

-- ---- what a caller cites

module _ (x : Index) (s : List ℕ) (n : ℕ) (l : Laid x (length s)) (c : Complete x s (4 * n)) where
  abbrev elements : List Tet
  elements = tets n (drop x.slots s)

  module _ (vs : List ℕ) (below : (v : ℕ) → mem v vs ≡ true → v < x.vertices) where
    forth : (e : ℕ) → mem e (slots_of x s vs) ≡ true → mem e (star_all vs elements) ≡ true
    unfolding slots_of
    forth e m =
        let r = gather-out (slots_met x s) vs e m in
        let h = met_has x s n c.chains r.0 e r.2 in
        let a = any-in (λ v. has v (get_or elements e gone_tet)) vs r.0 r.1 h.1 in
        let z : 0 + e ≡ e = omega arith in
        subst (λ (y : ℕ). mem y (star_all vs elements) ≡ true) z
        (pass-in (has_one vs) elements 0 e gone_tet (let b = h.0 in omega (arith, length-tets n (drop x.slots s))) a)

    back : (e : ℕ) → mem e (star_all vs elements) ≡ true → mem e (slots_of x s vs) ≡ true
    unfolding slots_of
    back e m =
        let r = pass-out (has_one vs) elements 0 e gone_tet m in
        let q : r.0 ≡ e = let a = r.1 in omega arith in
        let h : e < n = let a = r.2 in omega (arith, length-tets n (drop x.slots s)) in
        let o = any_out (λ v. has v (get_or elements e gone_tet)) vs (subst (λ (y : ℕ). has_one vs (get_or elements y gone_tet) ≡ true) q r.3) in
        gather-in (slots_met x s) vs o.0 e o.1 (has-met x s n c.chains o.0 e (c.indexed o.0 (below o.0 o.1)) h o.2)

    -- the slots by the chains are those by the scan
    pub slots-found : distinct (slots_of x s vs) ≡ star_all vs (tets n (drop x.slots s))
    slots-found = distinct-is (slots_of x s vs) (star_all vs elements) (pass-rising (has_one vs) elements 0) (λ e. same (forth e) (back e))

  module _ (from count step : ℕ) (stand : (i : ℕ) → i < count → from + step * i < x.area)
      (below : (v : ℕ) → mem v (members count from step s) ≡ true → v < x.vertices)
      (fit : x.area + (entries_of x s (members count from step s) + entries_of x s (members count from step s)) ≤ length s) where
    has_room : about_room x s from count step ≡ true
    unfolding about_room
    has_room =
        and_intro (room_for x (length s) (entries_of x s (members count from step s))) (clear_of x.area (length s) count from step)
        (room-yes x (length s) (entries_of x s (members count from step s)) l fit) (clear-below x.area (length s) count from step stand)

    pub about-found : about_list x s from count step ≡ star_all (members count from step s) (tets n (drop x.slots s))
    unfolding about_list
    about-found = rw has_room (slots-found (members count from step s) below)

    -- as many as the scan finds
    pub about-count : length (about_list x s from count step) ≡ length (star_all (members count from step s) (tets n (drop x.slots s)))
    about-count = ap length about-found

    -- those that the scan finds
    pub about-answered : Answered s (about_in x s from count step) x.area (star_all (members count from step s) (tets n (drop x.slots s)))
    unfolding about_in
    about-answered =
        let us = slots_of x s (members count from step s) in
        let f = slots-found (members count from step s) below in
        let h = tight x s from count step has_room in
        let e : cond (about_room x s from count step) (listed s x.area us) s ≡ listed s x.area us = ap (λ (b : Bool). cond b (listed s x.area us) s) has_room in
        subst (λ (t : List ℕ). Answered s t x.area (star_all (members count from step s) (tets n (drop x.slots s)))) (sym e)
        (subst (Answered s (listed s x.area us) x.area) f
        (record { list = listed-part s x.area us h; long = length-listed s x.area us h; below = listed_below s x.area us h }))
