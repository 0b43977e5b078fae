-- The loop that pairs two groups: what it writes, what it reads besides, and what holds at its head. Assumes nothing.
use mathlib.Core.Path.{◌≡◌, refl, sym, ap, ap₂, subst, ◌∙◌}
use mathlib.Core.Bool.{Bool, true, false, not, cond}
use mathlib.Core.List.{List, [], ◌∷◌, ◌++◌, append-nil, append_assoc}
use Prim.Native.Nat.{ℕ, zero, suc, ◌+◌, ◌*◌, ◌≤◌, ◌<◌}
use native.Mathlib.Omega.{arith}
use borrow.Author.Tests.{ltb-true}
use lib.Dec.{eqb, ltb}
use lib.ListN.{length, take, drop, set, length-append}
use lib.Seq.{length-take-le, drop_at}
use Rattle.std.specs.Prelude.{Option, None, Some}
use Rattle.geometry.specs.declared.bounds.Options.{Options}
use Rattle.mesh.specs.declared.element.Pair.{Pair}
use Rattle.mesh.specs.declared.star.Index.{Index}
use Rattle.mesh.specs.Words.{word_at}
use Rattle.mesh.specs.Complex.{mem, keep}
use Rattle.mesh.specs.Tests.{every, nodup}
use Rattle.mesh.specs.inside.Star.{written}
use Rattle.mesh.proofs.Laws.Complex.Sets.{and-fst, and-snd}
use Rattle.mesh.proofs.Laws.Star.Written.{length-written, written_below, written_behind, written-more, written_none, written_one}
use Rattle.repair.specs.declared.layout.Run.{Run}
use Rattle.repair.specs.Mesh.{Mesh}
use Rattle.repair.specs.Improve.{partner, partners, pair_off}
use Rattle.repair.specs.inside.Layout.{flags_at, pairs_at, pairs_of, pairs_in, Same}
use Rattle.repair.specs.inside.improve.Partners.{members, members_of, active_in, active_of, IsGroup, pair_words, seconds, paired_with, is_new, Paired}
use Rattle.repair.proofs.Laws.Pairs.Partners.{partners-last, stopped, More, went_on, pair_off-full}
use Rattle.repair.proofs.Laws.Pairs.Walks.{end_of, rows_left, rows-all, Walk, walk_start, walk_turn, walk-vertex, walk-yes, walk_no, walk_none}

-- ---- pairs as words

-- two words a pair, those of two lists one behind the other, and read again
pub length-words : (es : List Pair) → length (pair_words es) ≡ 2 * length es
unfolding pair_words
length-words [] = refl
length-words (e ∷ es) = let ih = length-words es in omega arith

words_append : (es fs : List Pair) → pair_words (es ++ fs) ≡ pair_words es ++ pair_words fs
unfolding pair_words
words_append [] fs = refl
words_append (e ∷ es) fs = ap (λ (l : List ℕ). e.a ∷ e.b ∷ l) (words_append es fs)

read-words : (es : List Pair) (l : List ℕ) → pairs_of (length es) (pair_words es ++ l) ≡ es
unfolding pairs_of pair_words
read-words [] l = refl
read-words (e ∷ es) l = ap (λ (u : List Pair). e ∷ u) (read-words es l)

-- the pairs written at p, read again
pub pairs-written : (w : List ℕ) (p : ℕ) (es : List Pair) → p ≤ length w → pairs_of (length es) (drop p (written w p (pair_words es))) ≡ es
unfolding written
pairs-written w p es h =
    ap (pairs_of (length es)) (drop_at (take p w) (pair_words es ++ drop (p + length (pair_words es)) w) p (length-take-le p w h)) ∙ read-words es (drop (p + length (pair_words es)) w)

-- ---- what is read besides

-- tests that come to the same for every vertex keep the same vertices
pub keep-below : (p q : ℕ → Bool) (n : ℕ) → ((v : ℕ) → v < n → p v ≡ q v) → (l : List ℕ) → every (λ v. ltb v n) l ≡ true → keep p l ≡ keep q l
keep-below p q n f [] h = refl
keep-below p q n f (v ∷ l) h =
    let e = f v (ltb-true v n (and-fst (ltb v n) (every (λ u. ltb u n) l) h)) in
    let ih = keep-below p q n f l (and-snd (ltb v n) (every (λ u. ltb u n) l) h) in
    ap₂ (λ (b : Bool) (u : List ℕ). cond b (v ∷ u) u) e ih

module _ (x : Index) (w₀ w : List ℕ) (before : (j : ℕ) → j < pairs_at x → word_at w j ≡ word_at w₀ j) where
  -- rows and flags stand before the pairs
  pub members-same : (i n : ℕ) → i + n ≤ x.vertices → members i n w ≡ members i n w₀
  unfolding members
  members-same i zero h = refl
  members-same i (suc n) h = ap₂ (λ (u : ℕ) (l : List ℕ). u ∷ l) (before (7 * i + 6) (omega arith)) (members-same (i + 1) n (omega arith))

  pub active-same : (v : ℕ) → v < x.vertices → active_in x w v ≡ active_in x w₀ v
  active-same v h = ap (λ (u : ℕ). eqb u 0) (before (flags_at x + v) (omega arith))

  module _ {g : Run} (s : IsGroup x w₀ g) where
    same-members : members_of w g ≡ members_of w₀ g
    same-members = members-same g.first g.size s.inside

    -- a group is one in the new slice, with the same active members
    pub group-same : IsGroup x w g
    group-same = record { few = s.few; inside = s.inside; below = ap (every (λ v. ltb v x.vertices)) same-members ∙ s.below }

    pub active_of-same : active_of x w g ≡ active_of x w₀ g
    active_of-same = ap (keep (active_in x w)) same-members ∙ keep-below (active_in x w) (active_in x w₀) x.vertices active-same (members_of w₀ g) s.below

-- ---- one pair

module _ (o : Options) (m : Mesh) (x : Index) (w : List ℕ) (v : ℕ) (g : Run) (k : ℕ) where
  -- what `put_pair` gives and leaves
  abbrev Put : Bool → List ℕ → Type 0
  Put r w' = (r ≡ is_new (pairs_in x k w) (partner o m v (active_of x w g))) × (w' ≡ written w (pairs_at x + 2 * k) (pair_words (cond r (partner o m v (active_of x w g)) [])))

  left_alone : w ≡ written w (pairs_at x + 2 * k) (pair_words [])
  unfolding pair_words
  left_alone = sym (written_none w (pairs_at x + 2 * k))

  -- no partner
  pub put-none : partner o m v (active_of x w g) ≡ paired_with v None → Put false w
  put-none q = (sym (ap (is_new (pairs_in x k w)) q), left_alone)

  module _ (u : ℕ) (partner-is : partner o m v (active_of x w g) ≡ paired_with v (Some u)) (at : ℕ) (place : at ≡ pairs_at x) (b : Bool) (t : b ≡ mem u (seconds (pairs_of k (drop at w)))) where
    new_is : not b ≡ is_new (pairs_in x k w) (partner o m v (active_of x w g))
    new_is = ap not (t ∙ ap (λ (a : ℕ). mem u (seconds (pairs_of k (drop a w)))) place) ∙ sym (ap (is_new (pairs_in x k w)) partner-is)

    -- a partner that is in a pair
    pub put-old : b ≡ true → Put false w
    put-old z = (ap not (sym z) ∙ new_is, left_alone)

    -- a partner that is in none
    pub put-new : b ≡ false → pairs_at x + 2 * k + 2 ≤ length w → (w₁ w₂ : List ℕ) → w₁ ≡ set w (at + 2 * k) v → w₂ ≡ set w₁ (at + 2 * k + 1) u → Put true w₂
    unfolding pair_words
    put-new z l w₁ w₂ p q =
        let i = pairs_at x + 2 * k in
        let j : at + 2 * k ≡ i = ap (λ (a : ℕ). a + 2 * k) place in
        let p' : w₁ ≡ written w i (v ∷ []) = p ∙ ap (λ (a : ℕ). set w a v) j ∙ written_one w i v (omega arith) in
        let c : length w₁ ≡ length w = ap length p' ∙ length-written w i (v ∷ []) (omega arith) in (
          ap not (sym z) ∙ new_is,
          q ∙ ap (λ (a : ℕ). set w₁ (a + 1) u) j ∙ written_one w₁ (i + 1) u (omega arith)
              ∙ ap (λ (a : List ℕ). written a (i + 1) (u ∷ [])) p' ∙ written-more w i (v ∷ []) (omega arith) (u ∷ [])
              ∙ ap (λ (a : List Pair). written w i (pair_words a)) (sym partner-is),
        )

-- ---- the loop

-- what holds at its head: the active members of f that are done have partners of their own, whose pairs are written
pub record Pairing (o : Options) (m : Mesh) (x : Index) (w₀ : List ℕ) (f g : Run) (w : List ℕ) (i k : ℕ) : Type 0 where
  pub walk : Walk x w₀ f i
  pub done : List ℕ
  pub all : active_of x w₀ f ≡ done ++ keep (active_in x w₀) (rows_left w₀ f i)
  pub count : k ≡ length (partners o m done (active_of x w₀ g))
  pub full : k ≡ length done
  pub few : f.first + k ≤ i
  pub most : i ≤ end_of f
  pub apart : nodup (seconds (partners o m done (active_of x w₀ g))) ≡ true
  pub words : w ≡ written w₀ (pairs_at x) (pair_words (partners o m done (active_of x w₀ g)))

module _ {o : Options} {m : Mesh} {x : Index} {w₀ : List ℕ} {f g : Run} (F : IsGroup x w₀ f) (G : IsGroup x w₀ g) (slots : x.slots ≡ 10 * x.vertices) (long : x.slots ≤ length w₀) where
  pub pairing-start : Pairing o m x w₀ f g w₀ f.first 0
  unfolding partners pair_words
  pairing-start = record { walk = walk_start F; done = []; all = ap (keep (active_in x w₀)) (sym (rows-all w₀ f)); count = refl; full = refl; few = omega arith; most = omega arith; apart = refl; words = sym (written_none w₀ (pairs_at x)) }

  module _ {w : List ℕ} {i k : ℕ} (q : Pairing o m x w₀ f g w i k) where
    abbrev ws : List ℕ
    ws = active_of x w₀ g

    abbrev es : List Pair
    es = partners o m q.done ws

    -- the words written fit, so that all else is as it was
    room : pairs_at x + length (pair_words es) ≤ x.slots
    room = omega (arith, length-words es, q.count, q.few, q.most, F.inside, slots)

    pub pairing-long : length w ≡ length w₀
    pairing-long = ap length q.words ∙ length-written w₀ (pairs_at x) (pair_words es) (omega (arith, room))

    before : (j : ℕ) → j < pairs_at x → word_at w j ≡ word_at w₀ j
    before j h = ap (λ (u : List ℕ). word_at u j) q.words ∙ written_below w₀ (pairs_at x) (pair_words es) (omega (arith, room)) j h

    pairing-same : Same w₀ w (pairs_at x) x.slots
    pairing-same = record {
      long = pairing-long;
      before = before;
      behind = λ j h. ap (λ (u : List ℕ). word_at u j) q.words ∙ written_behind w₀ (pairs_at x) (pair_words es) (omega (arith, room)) j (omega (arith, room));
    }

    pub pairing-group : IsGroup x w g
    pairing-group = group-same x w₀ w before G

    pub pairing-active : active_of x w g ≡ ws
    pairing-active = active_of-same x w₀ w before G

    -- the pairs written
    pairing-pairs : pairs_in x k w ≡ es
    pairing-pairs = ap₂ (λ (n : ℕ) (u : List ℕ). pairs_of n (drop (pairs_at x) u)) q.count q.words ∙ pairs-written w₀ (pairs_at x) es (omega (arith, room))

    module _ (h : i < end_of f) (v : ℕ) (e : v ≡ word_at w (7 * i + 6)) where
      row : v ≡ word_at w₀ (7 * i + 6)
      row = e ∙ before (7 * i + 6) (omega (arith, F.inside))

      pairing-vertex : v < x.vertices
      pairing-vertex = subst (λ (u : ℕ). u < x.vertices) (sym row) (walk-vertex q.walk h)

      pub pairing-room : pairs_at x + 2 * k + 2 ≤ length w
      pairing-room = omega (arith, pairing-long, q.few, F.inside, slots, long)

      -- a member that is replaced
      pub pairing-passive : active_in x w v ≡ false → Pairing o m x w₀ f g w (i + 1) k
      pairing-passive a = record {
        walk = walk_turn q.walk h;
        done = q.done;
        all = q.all ∙ ap (λ (u : List ℕ). q.done ++ u) (walk_no q.walk h (active_in x w₀) v row (sym (active-same x w₀ w before v pairing-vertex) ∙ a));
        count = q.count;
        full = q.full;
        few = omega (arith, q.few);
        most = omega arith;
        apart = q.apart;
        words = q.words;
      }

      module _ (a : active_in x w v ≡ true) where
        -- an active member
        next : active_of x w₀ f ≡ q.done ++ (v ∷ keep (active_in x w₀) (rows_left w₀ f (i + 1)))
        next = q.all ∙ ap (λ (u : List ℕ). q.done ++ u) (walk-yes q.walk h (active_in x w₀) v row (sym (active-same x w₀ w before v pairing-vertex) ∙ a))

        -- the test and the write of `put_pair`
        module _ (r : Bool) (w' : List ℕ) (t : r ≡ is_new (pairs_in x k w) (partner o m v (active_of x w g))) (p : w' ≡ written w (pairs_at x + 2 * k) (pair_words (cond r (partner o m v (active_of x w g)) []))) where
          test : r ≡ is_new es (partner o m v ws)
          test = t ∙ ap₂ (λ (a : List Pair) (b : List ℕ). is_new a (partner o m v b)) pairing-pairs pairing-active

          -- it has no partner of its own
          pub pairing-stop : r ≡ false → Paired o m x (active_of x w₀ f) ws w₀ w' None
          unfolding pair_words
          pairing-stop z =
              let s : pair_off (active_of x w₀ f) ws (partners o m (active_of x w₀ f) ws) ≡ false =
              ap (λ (u : List ℕ). pair_off u ws (partners o m u ws)) next ∙ stopped o m q.done v (keep (active_in x w₀) (rows_left w₀ f (i + 1))) ws (sym test ∙ z) in
              let same : w' ≡ w = p ∙ ap (λ (b : Bool). written w (pairs_at x + 2 * k) (pair_words (cond b (partner o m v (active_of x w g)) []))) z ∙ written_none w (pairs_at x + 2 * k) in
              record {
                count = sym (rw s refl);
                pairs = λ n h. absurd cc;
                same = subst (λ (u : List ℕ). Same w₀ u (pairs_at x) x.slots) (sym same) pairing-same;
              }

          -- it has one
          pub pairing-turn : r ≡ true → Pairing o m x w₀ f g w' (i + 1) (k + 1)
          pairing-turn z =
              let n : More o m q.done v ws = went_on o m q.done v ws q.apart (sym test ∙ z) in
              let d = q.done ++ (v ∷ []) in
              let at : pairs_at x + 2 * k ≡ pairs_at x + length (pair_words es) = omega (arith, length-words es, q.count) in
              let new : partner o m v (active_of x w g) ≡ partner o m v ws = ap (partner o m v) pairing-active in
              record {
                walk = walk_turn q.walk h;
                done = d;
                all = next ∙ sym (append_assoc q.done (v ∷ []) (keep (active_in x w₀) (rows_left w₀ f (i + 1))));
                count = omega (arith, n.count, q.count);
                full = omega (arith, q.full, length-append q.done (v ∷ []));
                few = omega (arith, q.few);
                most = omega arith;
                apart = n.apart;
                words = p ∙ ap (λ (b : Bool). written w (pairs_at x + 2 * k) (pair_words (cond b (partner o m v (active_of x w g)) []))) z
                    ∙ ap₂ (λ (a : ℕ) (u : List Pair). written w a (pair_words u)) at new
                    ∙ ap (λ (u : List ℕ). written u (pairs_at x + length (pair_words es)) (pair_words (partner o m v ws))) q.words
                    ∙ written-more w₀ (pairs_at x) (pair_words es) (omega (arith, room)) (pair_words (partner o m v ws))
                    ∙ ap (written w₀ (pairs_at x)) (sym (ap pair_words (partners-last o m q.done v ws) ∙ words_append es (partner o m v ws)));
              }

    module _ (h : end_of f ≤ i) where
      -- all members are done: the number of the others decides
      over : active_of x w₀ f ≡ q.done
      over = q.all ∙ ap (λ (u : List ℕ). q.done ++ u) (walk_none q.walk (active_in x w₀) h) ∙ append-nil q.done

      ended : (r : Option ℕ) → (b : Bool) → b ≡ eqb k (length (active_of x w g)) → r ≡ cond b (Some k) None → ((j : ℕ) → r ≡ Some j → j ≡ k) → Paired o m x (active_of x w₀ f) ws w₀ w r
      ended r b t e n =
          let vs = active_of x w₀ f in
          let ps : partners o m vs ws ≡ es = ap (λ (u : List ℕ). partners o m u ws) over in
          let l : length (partners o m vs ws) ≡ length vs = ap length ps ∙ sym q.count ∙ q.full ∙ ap length (sym over) in
          let off : pair_off vs ws (partners o m vs ws) ≡ b =
          pair_off-full o m vs ws l (ap (λ (u : List Pair). nodup (seconds u)) ps ∙ q.apart)
          ∙ ap₂ (λ (a c : ℕ). eqb a c) (ap length over ∙ sym q.full) (ap length (sym pairing-active)) ∙ sym t in
          record {
            count = e ∙ ap₂ (λ (c : Bool) (a : ℕ). cond c (Some a) None) (sym off) (q.count ∙ ap length (sym ps));
            pairs = λ j p. ap (λ (a : ℕ). pairs_in x a w) (n j p) ∙ pairing-pairs ∙ sym ps;
            same = pairing-same;
          }

      pub pairing-done : true ≡ eqb k (length (active_of x w g)) → Paired o m x (active_of x w₀ f) ws w₀ w (Some k)
      pairing-done t = ended (Some k) true t refl (λ j h. cc)

      pub pairing-fewer : false ≡ eqb k (length (active_of x w g)) → Paired o m x (active_of x w₀ f) ws w₀ w None
      pairing-fewer t = ended None false t refl (λ j h. absurd cc)
