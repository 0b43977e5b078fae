-- Walks along the rows of a group and along the pairs: what holds at the heads of the loops. Assumes nothing.
use mathlib.Core.Path.{◌≡◌, refl, sym, ap, ◌∙◌}
use mathlib.Core.Logic.{inl, inr}
use mathlib.Core.Bool.{Bool, true, false, ◌||◌}
use mathlib.Core.List.{List, [], ◌∷◌}
use Prim.Native.Nat.{ℕ, zero, suc, ◌+◌, ◌-◌, ◌*◌, ◌≤◌, ◌<◌}
use native.Mathlib.Omega.{arith}
use borrow.Author.Tests.{ltb-true, eqb-true, eqb-false, eq-eqb, ne_eqb}
use lib.Dec.{eqb, ltb}
use lib.ListN.{length, drop}
use lib.Seq.{get_or-drop, drop-drop}
use Rattle.std.specs.Prelude.{None, Some}
use Rattle.std.specs.List.{list_any, range_with_len}
use Rattle.geometry.specs.declared.bounds.Options.{Options}
use Rattle.mesh.specs.declared.star.Index.{Index}
use Rattle.mesh.specs.Words.{word_at}
use Rattle.mesh.specs.Complex.{mem, keep}
use Rattle.mesh.specs.Tests.{every}
use Rattle.mesh.proofs.Laws.Complex.Sets.{split, and-fst, and-snd}
use Rattle.repair.specs.declared.layout.Run.{Run}
use Rattle.repair.specs.Mesh.{Mesh}
use Rattle.repair.specs.Improve.{cap_of, partner}
use Rattle.repair.specs.inside.Layout.{pairs_of}
use Rattle.repair.specs.inside.improve.Partners.{members, members_of, active_in, active_of, IsGroup, seconds, paired_with}

-- ---- rows

-- the first row left, and the end
members-turn : (i e : ℕ) (w : List ℕ) → i < e → members i (e - i) w ≡ word_at w (7 * i + 6) ∷ members (i + 1) (e - (i + 1)) w
unfolding members
members-turn i e w h = let q : e - i ≡ suc (e - (i + 1)) = omega arith in rw q refl

members-none : (i e : ℕ) (w : List ℕ) → e ≤ i → members i (e - i) w ≡ []
unfolding members
members-none i e w h = let q : e - i ≡ 0 = omega arith in rw q refl

-- where the rows of a group end, and those from row i on
abbrev pub end_of : Run → ℕ
end_of g = g.first + g.size

abbrev pub rows_left : List ℕ → Run → ℕ → List ℕ
rows_left w g i = members i (end_of g - i) w

pub rows-all : (w : List ℕ) (g : Run) → rows_left w g g.first ≡ members_of w g
rows-all w g = let e : g.first + g.size - g.first ≡ g.size = omega arith in ap (λ (n : ℕ). members g.first n w) e

-- the rows of the group from row i on are left
pub record Walk (x : Index) (w : List ℕ) (g : Run) (i : ℕ) : Type 0 where
  pub below : every (λ v. ltb v x.vertices) (rows_left w g i) ≡ true

pub walk_start : {x : Index} {w : List ℕ} {g : Run} → IsGroup x w g → Walk x w g g.first
walk_start {x = x} {w = w} {g = g} v = record { below = ap (every (λ v. ltb v x.vertices)) (rows-all w g) ∙ v.below }

module _ {x : Index} {w : List ℕ} {g : Run} {i : ℕ} (k : Walk x w g i) where
  -- the members that pass a test, at the end
  pub walk_none : (p : ℕ → Bool) → end_of g ≤ i → keep p (rows_left w g i) ≡ []
  walk_none p h = ap (keep p) (members-none i (end_of g) w h)

  module _ (h : i < end_of g) where
    -- the first vertex left and those behind it
    all : every (λ v. ltb v x.vertices) (word_at w (7 * i + 6) ∷ rows_left w g (i + 1)) ≡ true
    all = ap (every (λ v. ltb v x.vertices)) (sym (members-turn i (end_of g) w h)) ∙ k.below

    pub walk-vertex : word_at w (7 * i + 6) < x.vertices
    walk-vertex = ltb-true (word_at w (7 * i + 6)) x.vertices (and-fst (ltb (word_at w (7 * i + 6)) x.vertices) (every (λ v. ltb v x.vertices) (rows_left w g (i + 1))) all)

    pub walk_turn : Walk x w g (i + 1)
    walk_turn = record { below = and-snd (ltb (word_at w (7 * i + 6)) x.vertices) (every (λ v. ltb v x.vertices) (rows_left w g (i + 1))) all }

    -- the members that pass a test, at a row
    pub walk-yes : (p : ℕ → Bool) (u : ℕ) → u ≡ word_at w (7 * i + 6) → p u ≡ true → keep p (rows_left w g i) ≡ u ∷ keep p (rows_left w g (i + 1))
    walk-yes p u e f = ap (keep p) (members-turn i (end_of g) w h ∙ ap (λ (z : ℕ). z ∷ rows_left w g (i + 1)) (sym e)) ∙ rw f refl

    pub walk_no : (p : ℕ → Bool) (u : ℕ) → u ≡ word_at w (7 * i + 6) → p u ≡ false → keep p (rows_left w g i) ≡ keep p (rows_left w g (i + 1))
    walk_no p u e f = ap (keep p) (members-turn i (end_of g) w h ∙ ap (λ (z : ℕ). z ∷ rows_left w g (i + 1)) (sym e)) ∙ rw f refl

-- ---- the search for a partner

-- what holds at the head of the loop: the partner is among the members left
pub record Seeking (o : Options) (m : Mesh) (x : Index) (w : List ℕ) (v : ℕ) (g : Run) (i : ℕ) : Type 0 where
  pub walk : Walk x w g i
  pub rest : partner o m v (keep (active_in x w) (rows_left w g i)) ≡ partner o m v (active_of x w g)

pub seek-start : (o : Options) (m : Mesh) {x : Index} {w : List ℕ} (v : ℕ) {g : Run} → IsGroup x w g → Seeking o m x w v g g.first
seek-start o m {x = x} {w = w} v {g = g} s = record { walk = walk_start s; rest = ap (λ (l : List ℕ). partner o m v (keep (active_in x w) l)) (rows-all w g) }

module _ {o : Options} {m : Mesh} {x : Index} {w : List ℕ} {v : ℕ} {g : Run} {i : ℕ} (k : Seeking o m x w v g i) where
  -- a member that is replaced, one with another cap, the partner, and the end
  pub seek-passive : (u : ℕ) → i < end_of g → u ≡ word_at w (7 * i + 6) → active_in x w u ≡ false → Seeking o m x w v g (i + 1)
  seek-passive u h e f = record { walk = walk_turn k.walk h; rest = ap (partner o m v) (sym (walk_no k.walk h (active_in x w) u e f)) ∙ k.rest }

  pub seek-other : (u : ℕ) → i < end_of g → u ≡ word_at w (7 * i + 6) → active_in x w u ≡ true → (cap_of o m v ≡ cap_of o m u → ⊥) → Seeking o m x w v g (i + 1)
  unfolding partner
  seek-other u h e f n = record {
    walk = walk_turn k.walk h;
    rest = sym (ap (partner o m v) (walk-yes k.walk h (active_in x w) u e f) ∙ rw (ne_eqb (cap_of o m v) (cap_of o m u) n) refl) ∙ k.rest;
  }

  pub seek_found : (u : ℕ) → i < end_of g → u ≡ word_at w (7 * i + 6) → active_in x w u ≡ true → cap_of o m v ≡ cap_of o m u → partner o m v (active_of x w g) ≡ paired_with v (Some u)
  unfolding partner
  seek_found u h e f c =
      sym k.rest ∙ ap (partner o m v) (walk-yes k.walk h (active_in x w) u e f) ∙ rw (eq-eqb (cap_of o m v) (cap_of o m u) c) refl

  pub seek-none : end_of g ≤ i → partner o m v (active_of x w g) ≡ paired_with v None
  unfolding partner
  seek-none h = sym k.rest ∙ ap (partner o m v) (walk_none k.walk (active_in x w) h)

-- ---- the count of active members

-- one more on both sides
eqb-suc : (a b : ℕ) → eqb a b ≡ eqb (suc a) (suc b)
eqb-suc a b =
    elim (split (eqb a b)) [
      | inl e ↦ let q = eqb-true a b e in e ∙ sym (eq-eqb (suc a) (suc b) (omega arith))
      | inr e ↦ e ∙ sym (ne_eqb (suc a) (suc b) (λ q. eqb-false a b e (omega arith)))
    ]

-- what holds at the head of the loop: as many more are wanted as of those left
pub record Counted (x : Index) (w : List ℕ) (g : Run) (k i more : ℕ) : Type 0 where
  pub walk : Walk x w g i
  pub rest : eqb more (length (keep (active_in x w) (rows_left w g i))) ≡ eqb k (length (active_of x w g))

module _ {x : Index} {w : List ℕ} {g : Run} {k i more : ℕ} (c : Counted x w g k i more) where
  -- a member that is replaced, an active one, one too many, and the end
  pub counted-passive : (u : ℕ) → i < end_of g → u ≡ word_at w (7 * i + 6) → active_in x w u ≡ false → Counted x w g k (i + 1) more
  counted-passive u h e f = record { walk = walk_turn c.walk h; rest = ap (λ (l : List ℕ). eqb more (length l)) (sym (walk_no c.walk h (active_in x w) u e f)) ∙ c.rest }

  pub counted-active : (u : ℕ) → i < end_of g → u ≡ word_at w (7 * i + 6) → active_in x w u ≡ true → (more ≡ 0 → ⊥) → Counted x w g k (i + 1) (more - 1)
  counted-active u h e f n =
      let s : more ≡ suc (more - 1) = omega arith in
      let l = keep (active_in x w) (rows_left w g (i + 1)) in
      record {
        walk = walk_turn c.walk h;
        rest = eqb-suc (more - 1) (length l) ∙ ap (λ (z : ℕ). eqb z (suc (length l))) (sym s) ∙ ap (λ (z : List ℕ). eqb more (length z)) (sym (walk-yes c.walk h (active_in x w) u e f)) ∙ c.rest;
      }

  pub counted-over : (u : ℕ) → i < end_of g → u ≡ word_at w (7 * i + 6) → active_in x w u ≡ true → more ≡ 0 → false ≡ eqb k (length (active_of x w g))
  counted-over u h e f z =
      let l = keep (active_in x w) (rows_left w g (i + 1)) in
      sym (ne_eqb more (suc (length l)) (λ q. omega arith)) ∙ ap (λ (z : List ℕ). eqb more (length z)) (sym (walk-yes c.walk h (active_in x w) u e f)) ∙ c.rest

  pub counted-end : end_of g ≤ i → eqb more 0 ≡ eqb k (length (active_of x w g))
  counted-end h = ap (λ (z : List ℕ). eqb more (length z)) (sym (walk_none c.walk (active_in x w) h)) ∙ c.rest

-- ---- the seconds of pairs

-- a test of each pair's second vertex, from the i-th pair on
pub asked : (u p : ℕ) (w : List ℕ) (k i : ℕ) → list_any (λ j. eqb u (word_at w (p + 2 * j + 1))) (range_with_len i k) ≡ mem u (seconds (pairs_of k (drop (p + 2 * i) w)))
unfolding pairs_of
asked u p w zero i = refl
asked u p w (suc k) i =
    let e : p + 2 * i + 2 ≡ p + 2 * (i + 1) = omega arith in
    rw (get_or-drop (p + 2 * i) w 1 0, drop-drop 2 (p + 2 * i) w, e) (ap (λ (b : Bool). eqb u (word_at w (p + 2 * i + 1)) || b) (asked u p w k (i + 1)))

pub asked-all : (u p : ℕ) (w : List ℕ) (k : ℕ) → list_any (λ j. eqb u (word_at w (p + 2 * j + 1))) (range_with_len 0 k) ≡ mem u (seconds (pairs_of k (drop p w)))
asked-all u p w k = let e : p + 2 * 0 ≡ p = omega arith in asked u p w k 0 ∙ ap (λ (q : ℕ). mem u (seconds (pairs_of k (drop q w)))) e
