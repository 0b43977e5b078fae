-- Gathering along a chain: each entry puts at most w words behind those there, and reads only words before the area. Assumes nothing.
use Rattle.std.proofs.Common.{◌≡◌, ℕ, suc, ◌+◌, ◌-◌, ◌*◌, ◌/◌, ◌<◌, ◌≤◌, Bool, true, false, cond, not, eqb, List, [], ◌∷◌, ◌++◌, length, get_or, take, sym, refl, ap, ◌∙◌, subst, ap₂, append_assoc, append-nil, arith, length-append, length-take-le, take_all, eq-eqb, ne_eqb}
use Rattle.std.proofs.Math.Seq.{take-suc}
use Rattle.mesh.specs.declared.star.Index.{Index}
use Rattle.mesh.specs.Words.{word_at}
use Rattle.mesh.specs.Complex.{mem}
use Rattle.mesh.specs.inside.Star.{walk, gather, corner_at, corners_at, next_of, head_of, chain_length, chain_of, but_for, slot_if, others_if, slots_met, others_met, written, Laid, Free, Steady}
use Rattle.mesh.proofs.Laws.Rows.{one-row}
use Rattle.mesh.proofs.Laws.List.Push.{keep_append}
use Rattle.mesh.proofs.Laws.Complex.Sets.{mem-here, mem-there}
use Rattle.mesh.proofs.Laws.Star.Walks.{walk-yes, walk_no, walk_none, walk-short}
use Rattle.mesh.proofs.Laws.Star.Written.{written_below, written-more, written_none}
use Rattle.mesh.proofs.Laws.Star.Chains.{chain-kept, chain-entry}

-- ---- what an entry gives

module _ (x : Index) (s t : List ℕ) {m : ℕ} (l : Laid x m) (same : (j : ℕ) → j < x.area → word_at t j ≡ word_at s j) where
  corner-same : (p : ℕ) → p / 4 < x.room → corner_at x t p ≡ corner_at x s p
  corner-same p h = same (x.slots + p) (omega arith)

  -- all four corners of its slot
  pub corners-same : (p : ℕ) → p / 4 < x.room → corners_at x t (p / 4) ≡ corners_at x s (p / 4)
  corners-same p h =
      let e = p / 4 in
      let a = corner-same (4 * e) (omega arith) in
      let b = corner-same (4 * e + 1) (omega arith) in
      let c = corner-same (4 * e + 2) (omega arith) in
      let d = corner-same (4 * e + 3) (omega arith) in
      ap₂ (λ (u : ℕ) (us : List ℕ). u ∷ us) a (ap₂ (λ (u : ℕ) (us : List ℕ). u ∷ us) b (ap₂ (λ (u w : ℕ). u ∷ w ∷ []) c d))

but-short : (v : ℕ) (us : List ℕ) → length (but_for v us) ≤ length us
but-short v [] = omega arith
but-short v (u ∷ us) = go (not (eqb u v)) (but-short v us)
  where
    go : (b : Bool) → length (but_for v us) ≤ length us → length (cond b (u ∷ but_for v us) (but_for v us)) ≤ suc (length us)
    go true h = omega arith
    go false h = omega arith

module _ (x : Index) (v : ℕ) where
  pub slot-short : (s : List ℕ) (p : ℕ) → length (slot_if x s v p) ≤ 1
  unfolding slot_if
  slot-short s p = go (eqb (corner_at x s p) v)
    where
      go : (b : Bool) → length (cond b (p / 4 ∷ []) []) ≤ 1
      go true = omega arith
      go false = omega arith

  pub others-short : (s : List ℕ) (p : ℕ) → length (others_if x s v p) ≤ 4
  unfolding others_if
  others-short s p = go (eqb (corner_at x s p) v)
    where
      go : (b : Bool) → length (cond b (but_for v (corners_at x s (p / 4))) []) ≤ 4
      go true = but-short v (corners_at x s (p / 4))
      go false = omega arith

  module _ (s t : List ℕ) {m : ℕ} (l : Laid x m) (same : (j : ℕ) → j < x.area → word_at t j ≡ word_at s j) where
    pub slot_same : (p : ℕ) → p / 4 < x.room → slot_if x t v p ≡ slot_if x s v p
    unfolding slot_if
    slot_same p h = ap (λ (u : ℕ). cond (eqb u v) (p / 4 ∷ []) []) (corner-same x s t l same p h)

    pub others_same : (p : ℕ) → p / 4 < x.room → others_if x t v p ≡ others_if x s v p
    unfolding others_if
    others_same p h = ap₂ (λ (u : ℕ) (us : List ℕ). cond (eqb u v) (but_for v us) []) (corner-same x s t l same p h) (corners-same x s t l same p h)

-- ---- what all give

gather-first : (f : ℕ → List ℕ) (p : ℕ) (ps : List ℕ) → gather f (p ∷ ps) ≡ f p ++ gather f ps
unfolding gather
gather-first f p ps = refl

gather_none : (f : ℕ → List ℕ) → gather f [] ≡ []
unfolding gather
gather_none f = refl

pub gather-same : (f g : ℕ → List ℕ) (ps : List ℕ) → ((p : ℕ) → mem p ps ≡ true → g p ≡ f p) → gather g ps ≡ gather f ps
unfolding gather
gather-same f g [] h = refl
gather-same f g (p ∷ ps) h = ap₂ (λ (u v : List ℕ). u ++ v) (h p (mem-here p ps)) (gather-same f g ps (λ q m. h q (mem-there q p ps m)))

pub gather-short : (f : ℕ → List ℕ) (w : ℕ) (ps : List ℕ) → ((p : ℕ) → length (f p) ≤ w) → length (gather f ps) ≤ length ps * w
unfolding gather
gather-short f w [] h = omega arith
gather-short f w (p ∷ ps) h = omega (arith, length-append (f p) (gather f ps), h p, gather-short f w ps h)

pub chain-short : (x : Index) (s : List ℕ) (v : ℕ) → length (chain_of x s v) ≤ chain_length x s v
unfolding chain_of
chain-short x s v = walk-short x.room (next_of x s) (chain_length x s v) (head_of x s v)

pub slots-short : (x : Index) (s : List ℕ) (v : ℕ) → length (slots_met x s v) ≤ chain_length x s v
unfolding slots_met
slots-short x s v = omega (arith, gather-short (slot_if x s v) 1 (chain_of x s v) (slot-short x v s), chain-short x s v)

pub all-others-short : (x : Index) (s : List ℕ) (v : ℕ) → length (others_met x s v) ≤ 4 * chain_length x s v
unfolding others_met
all-others-short x s v = omega (arith, gather-short (others_if x s v) 4 (chain_of x s v) (others-short x v s), chain-short x s v)

-- words from the area on do not matter to it
pub slots_same : (x : Index) (s t : List ℕ) (v m : ℕ) → Laid x m → ((j : ℕ) → j < x.area → word_at t j ≡ word_at s j) → slots_met x t v ≡ slots_met x s v
unfolding slots_met
slots_same x s t v m l same =
    ap (gather (slot_if x t v)) (chain-kept x s t l (λ j a b. same j b) v)
    ∙ gather-same (slot_if x s v) (slot_if x t v) (chain_of x s v) (λ p h. slot_same x v s t l same p (chain-entry x s v p h))

-- ---- the loop

-- the words got stand from k on, n of them, and with those that are left are all; each entry left has room for w more
pub record Gathering (x : Index) (f : List ℕ → ℕ → List ℕ) (w k : ℕ) (all s₀ s : List ℕ) (p left n : ℕ) : Type 0 where
  pub laid : Laid x (length s₀)
  pub behind : x.area ≤ k
  pub got : List ℕ
  pub is : s ≡ written s₀ k got
  pub count : n ≡ length got
  pub rest : got ++ gather (f s₀) (walk x.room (next_of x s₀) left p) ≡ all
  pub fits : k + (n + left * w) ≤ length s₀

module _ {x : Index} {f : List ℕ → ℕ → List ℕ} {w k : ℕ} {all s₀ s : List ℕ} {p left n : ℕ} (g : Gathering x f w k all s₀ s p left n) where
  room-got : k + length g.got ≤ length s₀
  room-got = let h = g.fits in let c = g.count in omega arith

  -- room for one entry more
  pub gather-room : 0 < left → k + n + w ≤ length s₀
  gather-room h = let a = g.fits in omega (arith, one-row left w h)

  pub gather-read : (j : ℕ) → j < x.area → word_at s j ≡ word_at s₀ j
  gather-read j h = ap (λ (u : List ℕ). word_at u j) g.is ∙ written_below s₀ k g.got room-got j (omega (arith, g.behind))

  module _ (steady : Steady x s₀ w f) (some : 0 < left) (hp : p / 4 < x.room) (t : List ℕ) (r : ℕ) (er : r ≡ length (f s p)) (et : t ≡ written s (k + n) (f s p)) where
    gives : f s p ≡ f s₀ p
    gives = steady.same s gather-read p hp

    count-more : r ≡ length (f s₀ p)
    count-more = er ∙ ap length gives

    room-more : k + length (g.got ++ f s₀ p) ≤ length s₀
    room-more = omega (arith, gather-room some, length-append g.got (f s₀ p), steady.few p, g.count)

    is-more : t ≡ written s₀ k (g.got ++ f s₀ p)
    is-more =
        et ∙ ap₂ (λ (u : List ℕ) (v : List ℕ). written u (k + n) v) g.is gives
        ∙ ap (λ (i : ℕ). written (written s₀ k g.got) (k + i) (f s₀ p)) g.count
        ∙ written-more s₀ k g.got room-got (f s₀ p)

    pub gather-count : n + r ≤ length s₀
    gather-count = omega (arith, room-more, length-append g.got (f s₀ p), g.count, count-more)

    -- a turn
    pub gather-turn : (q : ℕ) → q ≡ next_of x t p → Gathering x f w k all s₀ t q (left - 1) (n + r)
    gather-turn q eq = record {
      laid = g.laid;
      behind = g.behind;
      got = g.got ++ f s₀ p;
      is = is-more;
      count = omega (arith, g.count, count-more, length-append g.got (f s₀ p));
      rest = rest;
      fits = omega (arith, g.fits, one-row left w some, count-more, steady.few p);
    }
      where
        next : q ≡ next_of x s₀ p
        next = eq ∙ ap (λ (u : List ℕ). word_at u (x.nexts + p)) is-more ∙ written_below s₀ k (g.got ++ f s₀ p) room-more (x.nexts + p) (omega (arith, g.laid.heads, g.laid.lengths, g.laid.area, g.behind))

        one : left ≡ suc (left - 1)
        one = omega arith

        walked : walk x.room (next_of x s₀) left p ≡ p ∷ walk x.room (next_of x s₀) (left - 1) q
        walked =
            ap (λ (i : ℕ). walk x.room (next_of x s₀) i p) one
            ∙ walk-yes x.room (next_of x s₀) (left - 1) p hp
            ∙ ap (λ (i : ℕ). p ∷ walk x.room (next_of x s₀) (left - 1) i) (sym next)

        rest : (g.got ++ f s₀ p) ++ gather (f s₀) (walk x.room (next_of x s₀) (left - 1) q) ≡ all
        rest =
            append_assoc g.got (f s₀ p) (gather (f s₀) (walk x.room (next_of x s₀) (left - 1) q))
            ∙ ap (λ (u : List ℕ). g.got ++ u) (sym (ap (gather (f s₀)) walked ∙ gather-first (f s₀) p (walk x.room (next_of x s₀) (left - 1) q)))
            ∙ g.rest

  -- the end
  ended : walk x.room (next_of x s₀) left p ≡ [] → (n ≡ length all) × (s ≡ written s₀ k all)
  ended e =
      let q : g.got ≡ all = sym (append-nil g.got) ∙ ap (λ (u : List ℕ). g.got ++ u) (sym (ap (gather (f s₀)) e ∙ gather_none (f s₀))) ∙ g.rest in
      (g.count ∙ ap length q, g.is ∙ ap (written s₀ k) q)

  pub gather-end : left ≤ 0 → (n ≡ length all) × (s ≡ written s₀ k all)
  gather-end h = let z : left ≡ 0 = omega arith in ended (ap (λ (i : ℕ). walk x.room (next_of x s₀) i p) z ∙ walk_none x.room (next_of x s₀) p)

  -- an entry that is none
  pub gather-stop : x.room ≤ p / 4 → (n ≡ length all) × (s ≡ written s₀ k all)
  gather-stop h = ended (walk_no x.room (next_of x s₀) left p h)

pub gather-start : (x : Index) (f : List ℕ → ℕ → List ℕ) (w k : ℕ) (s : List ℕ) (p left : ℕ) → Free x s k (left * w)
    → Gathering x f w k (gather (f s) (walk x.room (next_of x s) left p)) s s p left 0
gather-start x f w k s p left fr = record {
  laid = fr.laid;
  behind = fr.behind;
  got = [];
  is = sym (written_none s k);
  count = refl;
  rest = refl;
  fits = omega (arith, fr.fits);
}

-- ---- an entry's words put

pub put-none : (s : List ℕ) (k : ℕ) (l : List ℕ) → l ≡ [] → (0 ≡ length l) × (s ≡ written s k l)
put-none s k l e = (ap length (sym e), sym (written_none s k) ∙ ap (written s k) (sym e))

pub others-none : (x : Index) (s : List ℕ) (v p u : ℕ) → u ≡ corner_at x s p → (u ≡ v → ⊥) → others_if x s v p ≡ []
unfolding others_if
others-none x s v p u e n = rw (← e, ne_eqb u v n)

-- the first i of four words us but v stand from k on, n of them
pub record PutBut (s₀ : List ℕ) (k v : ℕ) (us s : List ℕ) (i n : ℕ) : Type 0 where
  pub four : length us ≡ 4
  pub many : n ≡ length (but_for v (take i us))
  pub words : s ≡ written s₀ k (but_for v (take i us))

pub but-start : (s : List ℕ) (k v : ℕ) (us : List ℕ) → length us ≡ 4 → PutBut s k v us s 0 0
but-start s k v us h = record { four = h; many = refl; words = sym (written_none s k) }

module _ {s₀ : List ℕ} {k v : ℕ} {us s : List ℕ} {i n : ℕ} (h : k + 4 ≤ length s₀) (g : PutBut s₀ k v us s i n) where
  pub but-few : i ≤ 4 → n ≤ i
  but-few j = omega (arith, g.many, g.four, but-short v (take i us), length-take-le i us (omega (arith, g.four)))

  module _ (j : i < 4) (u m : ℕ) (t : List ℕ) (eu : u ≡ get_or us i 0) (em : m ≡ length (but_for v (u ∷ []))) (et : t ≡ written s (k + n) (but_for v (u ∷ []))) where
    pub but-one : m ≤ 1
    but-one = omega (arith, em, but-short v (u ∷ []))

    pub but-turn : PutBut s₀ k v us t (i + 1) (n + m)
    but-turn =
        let few = but-few (omega arith) in
        let one : i + 1 ≡ suc i = omega arith in
        let l = but_for v (take i us) in
        let all : l ++ but_for v (u ∷ []) ≡ but_for v (take (i + 1) us) =
        sym (keep_append (λ (w : ℕ). not (eqb w v)) (take i us) (u ∷ []))
        ∙ ap (λ (w : ℕ). but_for v (take i us ++ (w ∷ []))) eu
        ∙ ap (but_for v) (sym (ap (λ (a : ℕ). take a us) one ∙ take-suc us i 0 (omega (arith, g.four)))) in
        record {
          four = g.four;
          many = omega (arith, g.many, em, length-append l (but_for v (u ∷ []))) ∙ ap length all;
          words =
              et
              ∙ ap₂ (λ (r : List ℕ) (a : ℕ). written r (k + a) (but_for v (u ∷ []))) g.words g.many
              ∙ written-more s₀ k l (omega (arith, g.many)) (but_for v (u ∷ []))
              ∙ ap (written s₀ k) all;
        }

  pub but-end : 4 ≤ i → (l : List ℕ) → l ≡ but_for v us → (n ≡ length l) × (s ≡ written s₀ k l)
  but-end j l el =
      let e = take_all i us (omega (arith, g.four)) in
      let f : but_for v (take i us) ≡ l = ap (but_for v) e ∙ sym el in
      (g.many ∙ ap length f, g.words ∙ ap (written s₀ k) f)

-- the corners of a slot but v
pub others-yes : (x : Index) (s : List ℕ) (v p u : ℕ) (us : List ℕ) → u ≡ corner_at x s p → u ≡ v → us ≡ corners_at x s (p / 4) → others_if x s v p ≡ but_for v us
unfolding others_if
others-yes x s v p u us eu e es =
    ap (λ (t : Bool). cond t (but_for v (corners_at x s (p / 4))) []) (eq-eqb (corner_at x s p) v (sym eu ∙ e)) ∙ ap (but_for v) (sym es)

-- ---- the loop begins

pub each-start : (x : Index) (f : List ℕ → ℕ → List ℕ) (w : ℕ) (s : List ℕ) (v k left p : ℕ) → Free x s k (chain_length x s v * w) → left ≡ chain_length x s v
    → p ≡ head_of x s v → Gathering x f w k (gather (f s) (chain_of x s v)) s s p left 0
unfolding chain_of
each-start x f w s v k left p fr el ep =
    subst (λ (all : List ℕ). Gathering x f w k all s s p left 0)
    (ap₂ (λ (i j : ℕ). gather (f s) (walk x.room (next_of x s) i j)) el ep)
    (gather-start x f w k s p left (rw el fr))

-- ---- what the walks gather

module _ (x : Index) (s : List ℕ) (v k : ℕ) where
  -- the slots where v stands
  module _ (fr : Free x s k (chain_length x s v)) where
    pub slots-steady : Steady x s 1 (λ t p. slot_if x t v p)
    slots-steady = record { few = slot-short x v s; same = λ t same. slot_same x v s t fr.laid same }

  -- their other vertices
  module _ (fr : Free x s k (4 * chain_length x s v)) where
    pub others-steady : Steady x s 4 (λ t p. others_if x t v p)
    others-steady = record { few = others-short x v s; same = λ t same. others_same x v s t fr.laid same }
