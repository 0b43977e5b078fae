-- The loop that gathers the single faces: those found stand as triples behind the elements, below the rows that are left. Assumes nothing.
use Rattle.std.proofs.Common.{◌≡◌, ℕ, suc, ◌+◌, ◌-◌, ◌*◌, ◌<◌, ◌≤◌, Bool, true, cond, eqb, ltb, List, [], ◌∷◌, ◌++◌, map, length, get_or, take, drop, sym, refl, ap, ◌∙◌, ap₂, append_assoc, append-nil, arith, length-append, length-take-le, get_or-drop, take-take, take_at, ltb-true, ne_eqb}
use lib.Seq.{paste, length-paste, take-paste}
use Rattle.mesh.specs.declared.element.Triple.{Triple}
use Rattle.mesh.specs.Surface.{Outcome}
use Rattle.mesh.specs.Surface.{Surface, Refused}
use Rattle.mesh.specs.Tests.{every}
use Rattle.mesh.specs.inside.Rows.{rows}
use Rattle.mesh.specs.Words.{flat}
use Rattle.mesh.specs.Element.{parity_of, corners_of}
use Rattle.mesh.specs.Surface.{answer}
use Rattle.mesh.specs.inside.Surface.{face_at, face_in, kind, bad_run, lone, same_key, same_parity, kind_at, face_area, FaceArea, gathered, Gathered}
use Rattle.mesh.proofs.Laws.Bools.{and_left, and_right}
use Rattle.mesh.proofs.Laws.Rows.{length-rows}
use Rattle.mesh.proofs.Laws.Boundary.Kinds.{single-bad, single-lone, couple-bad, couple-lone, couple-two, bad-number, bad-lone, kind-known}
use Rattle.mesh.proofs.Laws.Boundary.Faces.{face-kept}
use Rattle.mesh.proofs.Laws.Boundary.Writes.{drop_past}
use Rattle.mesh.proofs.Laws.Boundary.Reads.{row_at, rows-one, rows-two, number_at}

-- ---- the words of triples

pub words_more : (l : List Triple) (f : Triple) → flat (map corners_of (l ++ (f ∷ []))) ≡ flat (map corners_of l) ++ corners_of f
unfolding flat
words_more [] f = refl
words_more (g ∷ l) f = ap (λ (u : List ℕ). corners_of g ++ u) (words_more l f)

pub length-triples : (l : List Triple) → length (flat (map corners_of l)) ≡ 3 * length l
unfolding flat
length-triples [] = refl
length-triples (f ∷ l) = let h = length-triples l in omega arith

-- ---- the loop

-- the rows that are left
abbrev left-rows : List ℕ → ℕ → ℕ → List (List ℕ)
left-rows s p left = rows 4 left (drop p s)

-- what holds at its head
pub record Gathering (n : ℕ) (s₀ s : List ℕ) (p left t count : ℕ) : Type 0 where
  pub place : p + 4 * left ≡ 20 * n
  pub wrote : t ≡ 4 * n + 3 * count
  pub behind : t ≤ p
  pub long : length s ≡ length s₀
  pub kept : drop p s ≡ drop p s₀
  pub done : List Triple
  pub size : length done ≡ count
  pub front : take t s ≡ take (4 * n) s₀ ++ flat (map corners_of done)
  pub number : bad_run same_key (same_parity s₀) (left-rows s₀ p left) ≡ bad_run same_key (same_parity s₀) (face_area n s₀)
  pub all : done ++ map (face_in s₀) (lone same_key (same_parity s₀) (left-rows s₀ p left)) ≡ gathered n s₀
  pub known : every (λ r. ltb (get_or r 3 0) (4 * n)) (left-rows s₀ p left) ≡ true

pub gathering-start : (n : ℕ) (s₀ : List ℕ) → FaceArea n s₀ → Gathering n s₀ s₀ (4 * n) (4 * n) (4 * n) 0
unfolding gathered flat
gathering-start n s₀ g = record {
  place = omega arith;
  wrote = omega arith;
  behind = omega arith;
  long = refl;
  kept = refl;
  done = [];
  size = refl;
  front = sym (append-nil (take (4 * n) s₀));
  number = refl;
  all = refl;
  known = g.known;
}

module _ {n : ℕ} {s₀ s : List ℕ} {p left t count : ℕ} (v : Gathering n s₀ s p left t count) (g : FaceArea n s₀) where
  elements : take (4 * n) s ≡ take (4 * n) s₀
  elements =
      sym (take-take (4 * n) t s (omega (arith, v.wrote))) ∙ ap (take (4 * n)) v.front
      ∙ take_at (take (4 * n) s₀) (flat (map corners_of v.done)) (4 * n) (length-take-le (4 * n) s₀ (omega (arith, g.room)))

  level-known : (r q : List ℕ) → ltb (get_or r 3 0) (4 * n) ≡ true → ltb (get_or q 3 0) (4 * n) ≡ true → same_parity s r q ≡ same_parity s₀ r q
  level-known r q a b =
      ap₂ (λ (u w : Triple). eqb (parity_of u) (parity_of w))
      (face-kept n s s₀ elements (get_or r 3 0) (ltb-true (get_or r 3 0) (4 * n) a))
      (face-kept n s s₀ elements (get_or q 3 0) (ltb-true (get_or q 3 0) (4 * n) b))

  -- the kind that was found is that of the rows at the start
  kind-is : kind_at s (rows 4 left (drop p s)) ≡ kind same_key (same_parity s₀) (left-rows s₀ p left)
  unfolding kind_at
  kind-is =
      ap (λ (u : List ℕ). kind same_key (same_parity s) (rows 4 left u)) v.kept
      ∙ kind-known same_key (same_parity s) (same_parity s₀) (λ r. ltb (get_or r 3 0) (4 * n)) level-known (left-rows s₀ p left) v.known

  pub gathering-room : p + 4 * left ≤ length s
  gathering-room = omega (arith, v.place, v.long, g.room)

  -- ---- a single face

  module _ (h : 0 < left) (k : kind_at s (rows 4 left (drop p s)) ≡ 0) where
    pub single-room : (p + 4 ≤ length s) × (t + 3 ≤ length s)
    single-room = (omega (arith, gathering-room), omega (arith, gathering-room, v.behind))

    split_one : left-rows s₀ p left ≡ row_at s₀ p ∷ left-rows s₀ (p + 4) (left - 1)
    split_one = let e : left ≡ suc (left - 1) = omega arith in ap (left-rows s₀ p) e ∙ rows-one s₀ p (left - 1)

    k₀ : kind same_key (same_parity s₀) (row_at s₀ p ∷ left-rows s₀ (p + 4) (left - 1)) ≡ 0
    k₀ = ap (kind same_key (same_parity s₀)) (sym split_one) ∙ sym kind-is ∙ k

    known-one : every (λ r. ltb (get_or r 3 0) (4 * n)) (row_at s₀ p ∷ left-rows s₀ (p + 4) (left - 1)) ≡ true
    known-one = ap (every (λ r. ltb (get_or r 3 0) (4 * n))) (sym split_one) ∙ v.known

    number_is : get_or s (p + 3) 0 ≡ get_or (row_at s₀ p) 3 0
    number_is = sym (get_or-drop p s 3 0) ∙ ap (λ (u : List ℕ). get_or u 3 0) v.kept ∙ get_or-drop p s₀ 3 0 ∙ sym (number_at s₀ p)

    face-read : face_at s (get_or s (p + 3) 0) ≡ face_in s₀ (row_at s₀ p)
    face-read =
        ap (face_at s) number_is
        ∙ face-kept n s s₀ elements (get_or (row_at s₀ p) 3 0) (ltb-true (get_or (row_at s₀ p) 3 0) (4 * n) (and_left (ltb (get_or (row_at s₀ p) 3 0) (4 * n)) (every (λ r. ltb (get_or r 3 0) (4 * n)) (left-rows s₀ (p + 4) (left - 1))) known-one))

    pub single-turn : (f : Triple) → f ≡ face_at s (get_or s (p + 3) 0) → (s' : List ℕ) → s' ≡ paste s t (corners_of f) 3 → Gathering n s₀ s' (p + 4) (left - 1) (t + 3) (count + 1)
    single-turn f e s' w =
        let q : f ≡ face_in s₀ (row_at s₀ p) = e ∙ face-read in
        let rest = map (face_in s₀) (lone same_key (same_parity s₀) (left-rows s₀ (p + 4) (left - 1))) in
        record {
          place = omega (arith, v.place);
          wrote = omega (arith, v.wrote);
          behind = omega (arith, v.behind);
          long = ap length w ∙ length-paste s t (corners_of f) 3 single-room.1 (omega arith) ∙ v.long;
          kept =
              ap (drop (p + 4)) w ∙ drop_past s t (corners_of f) 3 (p + 4) (omega (arith, single-room.1)) (omega arith) (omega (arith, v.behind))
              ∙ later s s₀ v.kept;
          done = v.done ++ (f ∷ []);
          size = omega (arith, length-append v.done (f ∷ []), v.size);
          front =
              ap (take (t + 3)) w ∙ take-paste s t (corners_of f) 3 (omega (arith, single-room.1)) (omega arith)
              ∙ ap (λ (u : List ℕ). u ++ corners_of f) v.front ∙ append_assoc (take (4 * n) s₀) (flat (map corners_of v.done)) (corners_of f)
              ∙ ap (λ (u : List ℕ). take (4 * n) s₀ ++ u) (sym (words_more v.done f));
          number =
              sym (single-bad same_key (same_parity s₀) (row_at s₀ p) (left-rows s₀ (p + 4) (left - 1)) k₀)
              ∙ ap (bad_run same_key (same_parity s₀)) (sym split_one) ∙ v.number;
          all =
              append_assoc v.done (f ∷ []) rest ∙ ap (λ (u : Triple). v.done ++ (u ∷ rest)) q
              ∙ ap (λ (u : List (List ℕ)). v.done ++ map (face_in s₀) u) (sym (ap (lone same_key (same_parity s₀)) split_one ∙ single-lone same_key (same_parity s₀) (row_at s₀ p) (left-rows s₀ (p + 4) (left - 1)) k₀))
              ∙ v.all;
          known = and_right (ltb (get_or (row_at s₀ p) 3 0) (4 * n)) (every (λ r. ltb (get_or r 3 0) (4 * n)) (left-rows s₀ (p + 4) (left - 1))) known-one;
        }
      where
        later : (a b : List ℕ) → drop p a ≡ drop p b → drop (p + 4) a ≡ drop (p + 4) b
        later a b e = sym (lib.Seq.drop-drop 4 p a) ∙ ap (drop 4) e ∙ lib.Seq.drop-drop 4 p b

  -- ---- two faces of opposite parity

  module _ (k : kind_at s (rows 4 left (drop p s)) ≡ 1) where
    pub couple-room : 2 ≤ left
    couple-room = omega (arith, couple-two same_key (same_parity s₀) (left-rows s₀ p left) (sym kind-is ∙ k), length-rows 4 left (drop p s₀))

    split-two : left-rows s₀ p left ≡ row_at s₀ p ∷ row_at s₀ (p + 4) ∷ left-rows s₀ (p + 8) (left - 2)
    split-two = let e : left ≡ suc (suc (left - 2)) = omega (arith, couple-room) in ap (left-rows s₀ p) e ∙ rows-two s₀ p (left - 2)

    k₁ : kind same_key (same_parity s₀) (row_at s₀ p ∷ row_at s₀ (p + 4) ∷ left-rows s₀ (p + 8) (left - 2)) ≡ 1
    k₁ = ap (kind same_key (same_parity s₀)) (sym split-two) ∙ sym kind-is ∙ k

    known_two : every (λ r. ltb (get_or r 3 0) (4 * n)) (row_at s₀ p ∷ row_at s₀ (p + 4) ∷ left-rows s₀ (p + 8) (left - 2)) ≡ true
    known_two = ap (every (λ r. ltb (get_or r 3 0) (4 * n))) (sym split-two) ∙ v.known

    pub couple-turn : Gathering n s₀ s (p + 8) (left - 2) t count
    couple-turn = record {
      place = omega (arith, v.place, couple-room);
      wrote = v.wrote;
      behind = omega (arith, v.behind);
      long = v.long;
      kept = sym (lib.Seq.drop-drop 8 p s) ∙ ap (drop 8) v.kept ∙ lib.Seq.drop-drop 8 p s₀;
      done = v.done;
      size = v.size;
      front = v.front;
      number =
          sym (couple-bad same_key (same_parity s₀) (row_at s₀ p) (row_at s₀ (p + 4)) (left-rows s₀ (p + 8) (left - 2)) k₁)
          ∙ ap (bad_run same_key (same_parity s₀)) (sym split-two) ∙ v.number;
      all =
          ap (λ (u : List (List ℕ)). v.done ++ map (face_in s₀) u) (sym (ap (lone same_key (same_parity s₀)) split-two ∙ couple-lone same_key (same_parity s₀) (row_at s₀ p) (row_at s₀ (p + 4)) (left-rows s₀ (p + 8) (left - 2)) k₁))
          ∙ v.all;
      known =
          and_right (ltb (get_or (row_at s₀ (p + 4)) 3 0) (4 * n)) (every (λ r. ltb (get_or r 3 0) (4 * n)) (left-rows s₀ (p + 8) (left - 2)))
          (and_right (ltb (get_or (row_at s₀ p) 3 0) (4 * n)) (every (λ r. ltb (get_or r 3 0) (4 * n)) (row_at s₀ (p + 4) ∷ left-rows s₀ (p + 8) (left - 2))) known_two);
    }

  -- ---- the ends

  finish : (r : Outcome) → lone same_key (same_parity s₀) (left-rows s₀ p left) ≡ [] → r ≡ answer (bad_run same_key (same_parity s₀) (left-rows s₀ p left)) count → Gathered n s₀ s r
  finish r e f =
      let d : v.done ≡ gathered n s₀ = sym (append-nil v.done) ∙ ap (λ (u : List (List ℕ)). v.done ++ map (face_in s₀) u) (sym e) ∙ v.all in
      let c : count ≡ length (gathered n s₀) = sym v.size ∙ ap length d in
      record {
        result = f ∙ ap₂ answer v.number c;
        front = ap (λ (i : ℕ). take i s) (sym (v.wrote ∙ ap (λ (i : ℕ). 4 * n + 3 * i) c)) ∙ v.front ∙ ap (λ (l : List Triple). take (4 * n) s₀ ++ flat (map corners_of l)) d;
      }

  pub bad-end : (kd : ℕ) → kd ≡ kind_at s (rows 4 left (drop p s)) → (kd ≡ 0 → ⊥) → (kd ≡ 1 → ⊥) → Gathered n s₀ s (Refused kd)
  unfolding answer
  bad-end kd k a b =
      let e : kd ≡ kind same_key (same_parity s₀) (left-rows s₀ p left) = k ∙ kind-is in
      finish (Refused kd) (bad-lone same_key (same_parity s₀) (left-rows s₀ p left) (λ z. a (e ∙ z)) (λ z. b (e ∙ z)))
      (ap (λ (t : Bool). cond t (Surface count) (Refused kd)) (sym (ne_eqb kd 0 a))
      ∙ ap (λ (i : ℕ). answer i count) (e ∙ sym (bad-number same_key (same_parity s₀) (left-rows s₀ p left) (λ z. a (e ∙ z)) (λ z. b (e ∙ z)))))

  pub all_end : left ≤ 0 → Gathered n s₀ s (Surface count)
  unfolding answer bad_run lone rows
  all_end h =
      let e : left ≡ 0 = omega arith in
      finish (Surface count) (ap (λ (i : ℕ). lone same_key (same_parity s₀) (left-rows s₀ p i)) e) (ap (λ (i : ℕ). answer (bad_run same_key (same_parity s₀) (left-rows s₀ p i)) count) (sym e))
