-- Stars (document 01: the live elements that contain a vertex or one of two, in number order) and a vertex's neighbours, each counted
-- once. First by the plain scan of the elements; then by the index of src/star.rt, whose layout is drawn there: chains of entries, where
-- entry p stands for a corner of the slot p / 4. `Chains` and `Indexed` say when the two are the same. For contracts of private functions
-- and for proofs; definitions only.
use Rattle.std.specs.Prelude.{◌≡◌, ℕ, zero, suc, ◌+◌, ◌-◌, ◌*◌, ◌/◌, ◌<◌, ◌≤◌, Bool, true, cond, not, ◌&&◌, ◌||◌, leb, List, [], ◌∷◌, ◌++◌, length, take, drop, replicate, ◌==◌, nat_eq, nat_le, nat_lt, slice_set}
use Rattle.mesh.specs.declared.element.Tet.{Tet}
use Rattle.mesh.specs.declared.star.Index.{Index}
use Rattle.mesh.specs.Words.{word_at, inside}
use Rattle.mesh.specs.Sort.{sort, unique}
use Rattle.mesh.specs.Complex.{mem, keep, Nodup}
use Rattle.mesh.specs.Element.{tet, vertices_of, has}

-- ---- by the scan

-- the numbers of the elements that have v or w, where the first is number i
unfoldable pub star_from : ℕ → ℕ → ℕ → List Tet → List ℕ
star_from v w i [] = []
star_from v w i (t ∷ ts) = cond (has v t || has w t) (i ∷ star_from v w (i + 1) ts) (star_from v w (i + 1) ts)

-- the star of v and w
abbrev pub star_of : ℕ → ℕ → List Tet → List ℕ
star_of v w ts = star_from v w 0 ts

-- each word of a slot that is gone, and the slot
abbrev pub gone_word : ℕ
gone_word = 4294967295

abbrev pub gone_tet : Tet
gone_tet = tet gone_word gone_word gone_word gone_word

-- the numbers but v
abbrev pub but_for : ℕ → List ℕ → List ℕ
but_for v us = keep (λ u. not (u == v)) us

-- the numbers in order, each once
unfoldable pub distinct : List ℕ → List ℕ
distinct us = unique nat_eq (sort leb us)

-- the vertices but v of the elements that have v, as often as they stand there
unfoldable pub others_of : ℕ → List Tet → List ℕ
others_of v [] = []
others_of v (t ∷ ts) = cond (has v t) (but_for v (vertices_of t)) [] ++ others_of v ts

-- the neighbours of v: those vertices in number order, each once
unfoldable pub neighbours_of : ℕ → List Tet → List ℕ
neighbours_of v ts = distinct (others_of v ts)

-- ---- chains

-- from p on k entries, each naming the next; fewer where one names no entry of the `room` slots
unfoldable pub walk : ℕ → (ℕ → ℕ) → ℕ → ℕ → List ℕ
walk room next zero p = []
walk room next (suc k) p = cond (nat_lt (p / 4) room) (p ∷ walk room next k (next p)) []

-- k steps from p on
unfoldable pub stepped : (ℕ → ℕ) → ℕ → ℕ → ℕ
stepped next zero p = p
stepped next (suc k) p = stepped next k (next p)

-- what f gives for each entry
unfoldable pub gather : (ℕ → List ℕ) → List ℕ → List ℕ
gather f [] = []
gather f (p ∷ ps) = f p ++ gather f ps

module _ (x : Index) (s : List ℕ) where
  -- the vertex at the entry p
  abbrev pub corner_at : ℕ → ℕ
  corner_at p = word_at s (x.slots + p)

  -- the four vertices of the slot e
  abbrev pub corners_at : ℕ → List ℕ
  corners_at e = corner_at (4 * e) ∷ corner_at (4 * e + 1) ∷ corner_at (4 * e + 2) ∷ corner_at (4 * e + 3) ∷ []

  -- the entry that p names
  abbrev pub next_of : ℕ → ℕ
  next_of p = word_at s (x.nexts + p)

  -- the first entry of v's chain
  abbrev pub head_of : ℕ → ℕ
  head_of v = word_at s (x.heads + v)

  -- how many entries it has; none where v is no vertex
  unfoldable pub chain_length : ℕ → ℕ
  chain_length v = cond (nat_lt v x.vertices) (word_at s (x.lengths + v)) 0

  -- v's chain
  unfoldable pub chain_of : ℕ → List ℕ
  chain_of v = walk x.room next_of (chain_length v) (head_of v)

  -- the slot of the entry p where v stands there now
  unfoldable pub slot_if : ℕ → ℕ → List ℕ
  slot_if v p = cond (corner_at p == v) (p / 4 ∷ []) []

  -- its vertices but v
  unfoldable pub others_if : ℕ → ℕ → List ℕ
  others_if v p = cond (corner_at p == v) (but_for v (corners_at (p / 4))) []

  -- ---- when an index is right

  -- of the first k entries each whose corner is u stands in v's chain
  abbrev pub Covers : ℕ → ℕ → ℕ → Type 0
  Covers k u v = (p : ℕ) → p < k → corner_at p ≡ u → mem p (chain_of v) ≡ true

  -- each whose corner is v stands in v's chain
  abbrev pub Indexed : ℕ → ℕ → Type 0
  Indexed k v = Covers k v v

  -- a chain has as many entries as its length says, all different and below k, and no entry stands in two
  pub record Chains (k : ℕ) : Type 0 where
    pub whole : (v : ℕ) → length (chain_of v) ≡ chain_length v
    pub once : (v : ℕ) → Nodup (chain_of v)
    pub below : (v p : ℕ) → mem p (chain_of v) ≡ true → p < k
    pub apart : (v w p : ℕ) → mem p (chain_of v) ≡ true → mem p (chain_of w) ≡ true → v ≡ w

  -- an index of the first k entries: each whose corner is a vertex stands in that vertex's chain
  pub record Complete (k : ℕ) : Type 0 where
    pub chains : Chains k
    pub indexed : (v : ℕ) → v < x.vertices → Indexed k v

-- ---- the layout

-- the areas lie one behind the other inside m words
pub record Laid (x : Index) (m : ℕ) : Type 0 where
  pub few : x.room ≤ 131072
  pub nexts : x.slots + 4 * x.room ≤ x.nexts
  pub heads : x.nexts + 4 * x.room ≤ x.heads
  pub lengths : x.heads + x.vertices ≤ x.lengths
  pub area : x.lengths + x.vertices ≤ x.area
  pub end : x.area ≤ m

-- the word j lies outside the chains
abbrev pub Outside : Index → ℕ → Type 0
Outside x j = x.nexts ≤ j → x.area ≤ j

-- the test of the layout
unfoldable pub laid : Index → ℕ → Bool
laid x m =
    nat_le x.room 131072
    && (inside x.slots (4 * x.room) x.nexts
    && (inside x.nexts (4 * x.room) x.heads
    && (inside x.heads x.vertices x.lengths && (inside x.lengths x.vertices x.area && nat_le x.area m))))

-- whether n words, and as many of scratch, have room in the area
unfoldable pub room_for : Index → ℕ → ℕ → Bool
room_for x m n = laid x m && nat_le (x.area + (n + n)) m

-- n words have room at k, behind the chains
pub record Free (x : Index) (s : List ℕ) (k n : ℕ) : Type 0 where
  pub laid : Laid x (length s)
  pub behind : x.area ≤ k
  pub fits : k + n ≤ length s

-- what f gives for an entry of s: w words at most, read before the area
pub record Steady (x : Index) (s : List ℕ) (w : ℕ) (f : List ℕ → ℕ → List ℕ) : Type 0 where
  pub few : (p : ℕ) → length (f s p) ≤ w
  pub same : (t : List ℕ) → ((j : ℕ) → j < x.area → word_at t j ≡ word_at s j) → (p : ℕ) → p / 4 < x.room → f t p ≡ f s p

-- s with the words l from k on
unfoldable pub written : List ℕ → ℕ → List ℕ → List ℕ
written s k l = take k s ++ (l ++ drop (k + length l) s)

-- s with the numbers us in order, each once, from k on; zeros behind them, as many words in all as twice the numbers
unfoldable pub listed : List ℕ → ℕ → List ℕ → List ℕ
listed s k us = written s k (distinct us ++ replicate (length us + length us - length (distinct us)) 0)

-- ---- what the functions of src/star.rt give

-- the second vertex of a pair, and none where it is the first
abbrev pub second : Index → ℕ → ℕ → ℕ
second x v w = cond (v == w) x.vertices w

-- the slots where v stands, by its chain
unfoldable pub slots_met : Index → List ℕ → ℕ → List ℕ
slots_met x s v = gather (slot_if x s v) (chain_of x s v)

-- those where v or w stands
unfoldable pub slots_about : Index → List ℕ → ℕ → ℕ → List ℕ
slots_about x s v w = slots_met x s v ++ slots_met x s (second x v w)

-- room for the star
unfoldable pub star_room : Index → List ℕ → ℕ → ℕ → Bool
star_room x s v w = room_for x (length s) (chain_length x s v + chain_length x s (second x v w))

-- the star, and none where there is no room
unfoldable pub star_list : Index → List ℕ → ℕ → ℕ → List ℕ
star_list x s v w = cond (star_room x s v w) (distinct (slots_about x s v w)) []

-- the slice with the star in its area
unfoldable pub starred : Index → List ℕ → ℕ → ℕ → List ℕ
starred x s v w = cond (star_room x s v w) (listed s x.area (slots_about x s v w)) s

-- the other vertices of the slots where v stands, by its chain
unfoldable pub others_met : Index → List ℕ → ℕ → List ℕ
others_met x s v = gather (others_if x s v) (chain_of x s v)

-- room for the neighbours
unfoldable pub neighbour_room : Index → List ℕ → ℕ → Bool
neighbour_room x s v = room_for x (length s) (4 * chain_length x s v)

-- the neighbours, and none where there is no room
unfoldable pub neighbour_list : Index → List ℕ → ℕ → List ℕ
neighbour_list x s v = cond (neighbour_room x s v) (distinct (others_met x s v)) []

-- the slice with the neighbours in its area
unfoldable pub neighboured : Index → List ℕ → ℕ → List ℕ
neighboured x s v = cond (neighbour_room x s v) (listed s x.area (others_met x s v)) s

-- ---- building, and what changes an index

-- v's chain begins at h and has n entries
unfoldable pub set_chain : Index → ℕ → ℕ → ℕ → List ℕ → List ℕ
set_chain x v h n s = slice_set (slice_set s (x.heads + v) h) (x.lengths + v) n

-- p before the chain of v
unfoldable pub pushed : Index → ℕ → ℕ → List ℕ → List ℕ
pushed x v p s = set_chain x v p (word_at s (x.lengths + v) + 1) (slice_set s (x.nexts + p) (head_of x s v))

-- p in the chain of its vertex; nothing where its corner is no vertex, or the chain has as many entries as there are
unfoldable pub hung : Index → ℕ → List ℕ → List ℕ
hung x p s =
    cond (nat_lt (corner_at x s p) x.vertices && nat_lt (word_at s (x.lengths + corner_at x s p) / 4) x.room) (pushed x (corner_at x s p) p s) s

-- the k entries from p on, one after the other
unfoldable pub hung_all : Index → ℕ → ℕ → List ℕ → List ℕ
hung_all x zero p s = s
hung_all x (suc k) p s = hung_all x k (p + 1) (hung x p s)

-- whether there are slots from i up to j
unfoldable pub has_slots : Index → ℕ → ℕ → ℕ → Bool
has_slots x m i j = laid x m && (nat_le i j && nat_le j x.room)

-- the entries of the slots from i up to j hung; nothing where there are no such slots
unfoldable pub appended : Index → ℕ → ℕ → List ℕ → List ℕ
appended x i j s = cond (has_slots x (length s) i j) (hung_all x (4 * j - 4 * i) (4 * i) s) s

-- an index of the first n slots
unfoldable pub built : Index → ℕ → List ℕ → List ℕ
built x n s = cond (has_slots x (length s) 0 n) (appended x 0 n (written s x.lengths (replicate x.vertices 0))) s

-- whether the chain of a, with m entries, may go before that of b, with n
unfoldable pub may_join : Index → ℕ → ℕ → ℕ → ℕ → ℕ → Bool
may_join x size b a m n =
    laid x size
    && (nat_lt b x.vertices && (nat_lt a x.vertices && (not (a == b) && (nat_lt 0 m && nat_le (m + n) (4 * x.room)))))

-- the chain of a before that of b, and a's empty
unfoldable pub joined : Index → ℕ → ℕ → List ℕ → List ℕ
joined x b a s =
    cond (may_join x (length s) b a (chain_length x s a) (chain_length x s b))
    (slice_set
    (set_chain x b (head_of x s a) (chain_length x s a + chain_length x s b)
    (slice_set s (x.nexts + stepped (next_of x s) (chain_length x s a - 1) (head_of x s a)) (head_of x s b)))
    (x.lengths + a)
    0)
    s
