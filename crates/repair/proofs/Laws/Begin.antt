-- How `improve` begins: groups, slots and index laid into a work slice of zeros stand for the elements given, none replaced. Assumes nothing.
use mathlib.Core.Path.{◌≡◌, refl, sym, ap, subst, ◌∙◌}
use mathlib.Core.Logic.{inl, inr}
use mathlib.Core.Bool.{true, not, ◌&&◌}
use mathlib.Core.List.{List, [], ◌∷◌, ◌++◌, append_assoc}
use Prim.Native.Nat.{ℕ, ◌+◌, ◌-◌, ◌*◌, ◌≤◌, ◌<◌}
use native.Mathlib.Omega.{arith}
use lib.Dec.{eqb, ltb}
use lib.ListN.{length, take, drop, length-replicate, length-append, length-drop, get_or-append, get_or-eq_default}
use lib.Seq.{take_at, length-take-le, get_or-append-add, get_or-take, get_or-drop, ext_get_or, paste}
use borrow.Author.Tests.{le-leb, ne_eqb, ltb-true}
use Rattle.mesh.proofs.Laws.Bools.{and_intro}
use Rattle.mesh.proofs.Laws.Complex.Sets.{and-fst, and-snd, or_right}
use Rattle.mesh.proofs.Laws.Parts.{side, into-is, zero_word}
use Rattle.mesh.proofs.Laws.Rows.{length-flat, shape-sort}
use Rattle.mesh.proofs.Laws.Manifold.Fill.{shape-numbered}
use Rattle.geometry.specs.declared.point.Point.{Point}
use Rattle.geometry.specs.declared.bounds.Options.{Options}
use Rattle.mesh.specs.declared.star.Index.{Index}
use Rattle.mesh.specs.declared.element.Tet.{Tet}
use Rattle.mesh.specs.Words.{word_at, zero_words, copied, inside, flat}
use Rattle.mesh.specs.Sort.{sort}
use Rattle.mesh.specs.inside.Rows.{le_row}
use Rattle.mesh.specs.Complex.{keep}
use Rattle.mesh.specs.Tests.{every, under, nodup}
use Rattle.mesh.specs.inside.List.{gone}
use Rattle.mesh.specs.Element.{tets, vertices_of}
use Rattle.mesh.specs.Group.{rank_of}
use Rattle.mesh.specs.inside.Group.{group_row, group_rows, group_fits, grouped_area}
use Rattle.mesh.specs.Intake.{well_numbered}
use Rattle.mesh.specs.inside.Star.{Complete, gone_word, built, written}
use Rattle.mesh.proofs.Laws.Star.Written.{length-written, written_below, written_behind, written_at}
use Rattle.mesh.proofs.Laws.Star.Hanging.{length-built, built-outside, built-complete}
use Rattle.mesh.proofs.Laws.Star.Calls.{tets-same}
use Rattle.repair.specs.Mesh.{Mesh}
use Rattle.repair.specs.inside.Layout.{Room, Stands, flags_at, slots_in, live_in, slot_ok}
use Rattle.repair.proofs.Laws.Layout.{room-laid}

-- a word of two lists one behind the other
front-word : (s t : List ℕ) (j : ℕ) → j < length s → word_at (s ++ t) j ≡ word_at s j
front-word s t j h = get_or-append s t 0 j h

back-word : (s t : List ℕ) (j : ℕ) → word_at (s ++ t) (length s + j) ≡ word_at t j
back-word s t j = get_or-append-add s t j 0

-- the sorted rows of the groups are seven words a vertex
pub group-words : (o : Options) (ps : List Point) → length (flat (sort le_row (group_rows o ps))) ≡ 7 * length ps
unfolding group_rows
group-words o ps =
    length-flat (shape-sort (shape-numbered (λ v. group_row (rank_of o ps v) v) 7 (λ j. refl) 0 (length ps)))
    ∙ (let e : length ps * 7 ≡ 7 * length ps = omega arith in e)

module _ (o : Options) (ps : List Point) (s : List ℕ) (few : length ps ≤ 4096) (long : length s ≡ 14 * length ps) where
  abbrev pub rows : List ℕ
  rows = flat (sort le_row (group_rows o ps))

  rows_long : length rows ≡ 7 * length ps
  rows_long = group-words o ps

  grouped-is : grouped_area o ps s ≡ rows ++ (zero_words (7 * length ps) ++ drop (14 * length ps) s)
  unfolding grouped_area group_fits
  grouped-is = rw (le-leb (length ps) 65536 (omega arith), le-leb (14 * length ps) (length s) (omega arith))

  -- the part with the groups: the rows, then zeros
  pub grouped-front : take (7 * length ps) (grouped_area o ps s) ≡ rows
  grouped-front = ap (take (7 * length ps)) grouped-is ∙ take_at rows _ (7 * length ps) rows_long

  pub grouped-long : length (grouped_area o ps s) ≡ 14 * length ps
  grouped-long =
      ap length grouped-is ∙ length-append rows (zero_words (7 * length ps) ++ drop (14 * length ps) s)
      ∙ (let a = length-append (zero_words (7 * length ps)) (drop (14 * length ps) s) in let b = length-replicate {A = ℕ} (7 * length ps) 0 in let c = length-drop (14 * length ps) s in let d = rows_long in omega arith)

  pub grouped-behind : (j : ℕ) → 7 * length ps ≤ j → word_at (grouped_area o ps s) j ≡ 0
  grouped-behind j h =
      let k = j - 7 * length ps in
      let e : j ≡ length rows + k = (let d = rows_long in omega arith) in
      ap (λ u. word_at u j) grouped-is ∙ ap (word_at (rows ++ (zero_words (7 * length ps) ++ drop (14 * length ps) s))) e ∙ back-word rows _ k ∙ tail k
    where
      tail : (k : ℕ) → word_at (zero_words (7 * length ps) ++ drop (14 * length ps) s) k ≡ 0
      tail k =
          let r = length-replicate {A = ℕ} (7 * length ps) 0 in
          let d = length-drop (14 * length ps) s in
          elim (side k (7 * length ps)) [
            | inl h ↦ front-word (zero_words (7 * length ps)) _ k (omega arith) ∙ zero_word (7 * length ps) k
            | inr h ↦ get_or-eq_default (zero_words (7 * length ps) ++ drop (14 * length ps) s) 0 (let a = length-append (zero_words (7 * length ps)) (drop (14 * length ps) s) in omega arith)
          ]

-- the first words of a list, each known
words-front : (k : ℕ) (s l : List ℕ) → k ≤ length s → length l ≡ k → ((j : ℕ) → j < k → word_at s j ≡ word_at l j) → take k s ≡ l
words-front k s l h e f =
    ext_get_or 0 (take k s) l (length-take-le k s h ∙ sym e) (λ j g. let a = length-take-le k s h in get_or-take k s j 0 (omega arith) ∙ f j (omega arith))

-- each element has four vertices of nv, so no slot is gone
none-gone : (nv : ℕ) (ts : List Tet) → nv ≤ 4096 → every (well_numbered nv) ts ≡ true → keep (λ t. not (gone t)) ts ≡ ts
none-gone nv [] few h = refl
none-gone nv (t ∷ ts) few h =
    let a = and-fst (well_numbered nv t) (every (well_numbered nv) ts) h in
    let b = and-fst (under nv (vertices_of t)) (nodup (vertices_of t)) a in
    let c = and-fst (ltb t.a nv) (ltb t.b nv && (ltb t.c nv && (ltb t.d nv && true))) b in
    let d : t.a < nv = ltb-true t.a nv c in
    rw (ne_eqb t.a 4294967295 (λ e. omega arith)) (ap (λ l. t ∷ l) (none-gone nv ts few (and-snd (well_numbered nv t) (every (well_numbered nv) ts) h)))

all-ok : (nv : ℕ) (ts : List Tet) → every (well_numbered nv) ts ≡ true → every (slot_ok nv) ts ≡ true
unfolding slot_ok
all-ok nv [] h = refl
all-ok nv (t ∷ ts) h =
    and_intro (slot_ok nv t) (every (slot_ok nv) ts) (or_right (every (eqb gone_word) (vertices_of t)) (and-fst (well_numbered nv t) (every (well_numbered nv) ts) h))
    (all-ok nv ts (and-snd (well_numbered nv t) (every (well_numbered nv) ts) h))

module _ (o : Options) (m : Mesh) (x : Index) (n : ℕ) (ps : List Point) (els w₀ p w₂ w₃ : List ℕ)
    (room : Room x n (length w₀)) (zeros : w₀ ≡ zero_words (length w₀)) (long : 4 * n ≤ length els) (good : every (well_numbered x.vertices) (tets n els) ≡ true)
    (many : length ps ≡ x.vertices) (mp : m.parameters ≡ ps)
    (e₁ : p ≡ grouped_area o ps (take (14 * x.vertices - 0) (drop 0 w₀)))
    (e₂ : w₂ ≡ copied els 0 (take 0 w₀ ++ (p ++ drop (14 * x.vertices - 0) (drop 0 w₀))) x.slots (4 * n))
    (e₃ : w₃ ≡ built x n w₂) where
  abbrev part : List ℕ
  part = take (14 * x.vertices - 0) (drop 0 w₀)

  part-long : length part ≡ 14 * length ps
  part-long = (let a = room.long in let e : 14 * x.vertices - 0 ≡ 14 * length ps = omega arith in ap (λ u. length (take u w₀)) e ∙ length-take-le (14 * length ps) w₀ (omega arith))

  p-long : length p ≡ 14 * x.vertices
  p-long = (let a = room.few in ap length e₁ ∙ grouped-long o ps part (omega arith) part-long ∙ ap (λ u. 14 * u) many)

  abbrev w₁ : List ℕ
  w₁ = written w₀ 0 p

  fits₁ : 0 + length p ≤ length w₀
  fits₁ = (let a = room.long in let b = p-long in omega arith)

  w₁-is : take 0 w₀ ++ (p ++ drop (14 * x.vertices - 0) (drop 0 w₀)) ≡ w₁
  unfolding written
  w₁-is = ap (λ u. p ++ drop u w₀) (let a = p-long in let e : 14 * x.vertices - 0 ≡ 0 + length p = omega arith in e)

  long₁ : length w₁ ≡ length w₀
  long₁ = length-written w₀ 0 p fits₁

  abbrev front : List ℕ
  front = take (4 * n) els

  front_long : length front ≡ 4 * n
  front_long = length-take-le (4 * n) els long

  fits₂ : x.slots + length front ≤ length w₁
  fits₂ = (let a = room.long in let b = room.slots in let c = front_long in let d = long₁ in omega arith)

  paste-is : paste w₁ x.slots els (4 * n) ≡ written w₁ x.slots front
  unfolding written
  paste-is = append_assoc (take x.slots w₁) front (drop (x.slots + 4 * n) w₁) ∙ ap (λ u. take x.slots w₁ ++ (front ++ drop (x.slots + u) w₁)) (sym front_long)

  w₂-is : w₂ ≡ written w₁ x.slots front
  unfolding inside
  w₂-is =
      e₂ ∙ ap (λ u. copied els 0 u x.slots (4 * n)) w₁-is
      ∙ sym (into-is els w₁ 0 x.slots (4 * n) (le-leb (0 + 4 * n) (length els) (omega arith)) (le-leb (x.slots + 4 * n) (length w₁) (let a = fits₂ in let b = front_long in omega arith)))
      ∙ paste-is

  long₂ : length w₂ ≡ length w₀
  long₂ = ap length w₂-is ∙ length-written w₁ x.slots front fits₂ ∙ long₁

  room₂ : Room x n (length w₂)
  room₂ = subst (Room x n) (sym long₂) room

  word₂ : (j : ℕ) → j < x.slots → word_at w₂ j ≡ word_at p j
  word₂ j h =
      ap (λ u. word_at u j) w₂-is ∙ written_below w₁ x.slots front fits₂ j h
      ∙ elim (side j (length p)) [
        | inl g ↦ ap (word_at w₁) (let e : j ≡ 0 + j = omega arith in e) ∙ written_at w₀ 0 p fits₁ j g
        | inr g ↦ written_behind w₀ 0 p fits₁ j (let a = g in omega arith) ∙ ap (λ u. word_at u j) zeros ∙ zero_word (length w₀) j ∙ sym (get_or-eq_default p 0 g)
      ]

  slot₂ : (j : ℕ) → j < 4 * n → word_at w₂ (x.slots + j) ≡ word_at els j
  slot₂ j h =
      ap (λ u. word_at u (x.slots + j)) w₂-is ∙ written_at w₁ x.slots front fits₂ j (let a = front_long in omega arith) ∙ get_or-take (4 * n) els j 0 h

  long₃ : length w₃ ≡ length w₀
  long₃ = ap length e₃ ∙ length-built x n w₂ (room-laid room₂) (let a = room.room in omega arith) ∙ long₂

  word₃ : (j : ℕ) → j < x.nexts → word_at w₃ j ≡ word_at w₂ j
  word₃ j h = ap (λ u. word_at u j) e₃ ∙ built-outside x n w₂ (room-laid room₂) (let a = room.room in omega arith) j (λ g. absurd (omega arith))

  groups₃ : take (7 * x.vertices) w₃ ≡ flat (sort le_row (group_rows o ps))
  groups₃ =
      let few = room.few in
      let c : 7 * length ps ≡ 7 * x.vertices = ap (λ u. 7 * u) many in
      words-front (7 * x.vertices) w₃ (flat (sort le_row (group_rows o ps))) (let a = room.long in let b = long₃ in omega arith) (group-words o ps ∙ c)
      (λ j h. word₃ j (let a = room.slots in let b = room.nexts in omega arith) ∙ word₂ j (let a = room.slots in omega arith)
      ∙ ap (λ u. word_at u j) e₁ ∙ sym (get_or-take (7 * length ps) (grouped_area o ps part) j 0 (omega arith)) ∙ ap (λ u. word_at u j) (grouped-front o ps part (omega arith) part-long))

  slots₃ : slots_in x n w₃ ≡ tets n els
  slots₃ =
      tets-same n els (drop x.slots w₃)
      (λ j h. get_or-drop x.slots w₃ j 0 ∙ word₃ (x.slots + j) (let a = room.nexts in omega arith) ∙ slot₂ j h)

  -- the state at the start
  pub begun : Stands o m x n w₃ (record { elements = tets n els; replaced = [] })
  unfolding live_in
  begun = record {
    room = subst (Room x n) (sym long₃) room;
    many = ap length mp ∙ many;
    groups = groups₃ ∙ ap (λ u. flat (sort le_row (group_rows o u))) (sym mp);
    flags = λ v h. ap (λ u. eqb u 0) (word₃ (flags_at x + v) (let a = room.slots in let b = room.nexts in omega arith) ∙ word₂ (flags_at x + v) (let a = room.slots in omega arith)
        ∙ ap (λ u. word_at u (flags_at x + v)) e₁ ∙ grouped-behind o ps part (let a = room.few in omega arith) part-long (flags_at x + v) (omega arith));
    elements = sym (none-gone x.vertices (tets n els) room.few good) ∙ ap (keep (λ t. not (gone t))) (sym slots₃);
    proper = ap (every (slot_ok x.vertices)) slots₃ ∙ all-ok x.vertices (tets n els) good;
    index = subst (λ u. Complete x u (4 * n)) (sym e₃) (built-complete x n w₂ (room-laid room₂) (let a = room.room in omega arith));
  }
