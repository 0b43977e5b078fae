-- The two loops that copy elements: those of listed slots, and those that are live. Assumes nothing.
use Rattle.std.proofs.Common.{◌≡◌, ℕ, ◌+◌, ◌*◌, ◌<◌, ◌≤◌, true, false, leb, List, [], ◌∷◌, length, get_or, take, drop, sym, refl, ap, ◌∙◌, arith, length-drop, length-take-le, get_or-drop, get_or-take, eq-eqb, ne_eqb, le-leb, leb-true}
use lib.Seq.{paste}
use Rattle.mesh.specs.declared.element.Tet.{Tet}
use Rattle.mesh.specs.declared.star.Index.{Index}
use Rattle.mesh.specs.Words.{word_at, flat}
use Rattle.mesh.specs.Complex.{keep}
use Rattle.mesh.specs.Element.{tets, vertices_of}
use Rattle.mesh.specs.inside.Star.{gone_tet, gone_word, Laid, written}
use Rattle.mesh.specs.inside.About.{slot_at, words_of, space_for, elements_in, live, live_room, live_list, live_in}
use Rattle.mesh.proofs.Laws.Bools.{and_intro, and_left, and_right}
use Rattle.mesh.proofs.Laws.Star.Written.{written_none}
use Rattle.mesh.proofs.Laws.About.Copies.{space-is, space-yes, paste-element, slot_kept, slot-element, Copying, copy_start, copy-long, copy_read, copy-turn, copy-end, each_map, each_keep, keep_one}
use Rattle.mesh.proofs.Laws.Intake.Reads.{length-tets}

-- ---- the elements of listed slots

pub elements-none : (x : Index) (n : ℕ) (s : List ℕ) → space_for x (length s) n 5 ≡ false → s ≡ elements_in x n s
unfolding elements_in
elements-none x n s e = rw e refl

-- what holds at the head of the loop: the elements of the first i slots stand behind the list
pub record Listing (x : Index) (n : ℕ) (s₀ s : List ℕ) (i : ℕ) : Type 0 where
  pub room : space_for x (length s₀) n 5 ≡ true
  pub laid : Laid x (length s₀)
  pub fit : x.area + n * 5 ≤ length s₀
  pub long : length s ≡ length s₀
  pub copied : Copying (λ e. slot_at x s₀ e ∷ []) (x.area + n) (take n (drop x.area s₀)) s₀ s i i

pub listing-start : (x : Index) (n : ℕ) (s : List ℕ) → space_for x (length s) n 5 ≡ true → Listing x n s s 0
listing-start x n s r =
    let f = space-is x (length s) n 5 r in
    record { room = r; laid = f.0; fit = f.1; long = refl; copied = copy_start (λ e. slot_at x s e ∷ []) (x.area + n) (take n (drop x.area s)) s }

module _ {x : Index} {n : ℕ} {s₀ s : List ℕ} {i : ℕ} (g : Listing x n s₀ s i) where
  count : length (take n (drop x.area s₀)) ≡ n
  count = length-take-le n (drop x.area s₀) (omega (arith, g.fit, length-drop x.area s₀))

  fits : x.area + n + 4 * length (take n (drop x.area s₀)) ≤ length s₀
  fits = omega (arith, g.fit, count)

  pub listing-turn : i < n → (v : ℕ) → v ≡ word_at s (x.area + i) → (ws : List ℕ) → ws ≡ vertices_of (slot_at x s v) → (s' : List ℕ) → s' ≡ paste s (x.area + n + 4 * i) ws 4
      → Listing x n s₀ s' (i + 1)
  listing-turn h v ev ws ew s' es = record { room = g.room; laid = g.laid; fit = g.fit; long = copy-long fits turned; copied = turned }
    where
      number : v ≡ get_or (take n (drop x.area s₀)) i 0
      number =
          ev ∙ copy_read fits g.copied (x.area + i) (omega arith)
          ∙ sym (get_or-take n (drop x.area s₀) i 0 h ∙ get_or-drop x.area s₀ i 0)

      element : slot_at x s v ≡ slot_at x s₀ (get_or (take n (drop x.area s₀)) i 0)
      element = slot_kept x s₀ s g.laid (λ j k. copy_read fits g.copied j (omega arith)) v ∙ ap (slot_at x s₀) number

      put : s' ≡ written s (x.area + n + 4 * i) (words_of (slot_at x s₀ (get_or (take n (drop x.area s₀)) i 0) ∷ []))
      put =
          es
          ∙ ap (λ (us : List ℕ). paste s (x.area + n + 4 * i) us 4) ew
          ∙ paste-element s (x.area + n + 4 * i) (slot_at x s v)
          ∙ ap (λ (u : Tet). written s (x.area + n + 4 * i) (words_of (u ∷ []))) element

      turned : Copying (λ e. slot_at x s₀ e ∷ []) (x.area + n) (take n (drop x.area s₀)) s₀ s' (i + 1) (i + 1)
      turned = copy-turn fits g.copied (omega (arith, count)) 0 1 s' (omega arith) refl put

  pub listing-end : n ≤ i → s ≡ elements_in x n s₀
  unfolding elements_in
  listing-end h =
      (copy-end fits g.copied (omega (arith, count))).1
      ∙ ap (λ (ts : List Tet). written s₀ (x.area + n) (words_of ts)) (each_map (slot_at x s₀) (take n (drop x.area s₀)))
      ∙ rw g.room refl

-- ---- the live elements

pub live-is : (x : Index) (m n : ℕ) → live_room x m n ≡ true → Laid x m × (n ≤ x.room) × (x.area + n * 4 ≤ m)
unfolding live_room
live-is x m n h =
    let r = space-is x m n 4 (and_right (leb n x.room) (space_for x m n 4) h) in
    (r.0, leb-true n x.room (and_left (leb n x.room) (space_for x m n 4) h), r.1)

pub live-yes : (x : Index) (m n : ℕ) → Laid x m → n ≤ x.room → x.area + n * 4 ≤ m → live_room x m n ≡ true
unfolding live_room
live-yes x m n l h f = and_intro (leb n x.room) (space_for x m n 4) (le-leb n x.room h) (space-yes x m n 4 l f)

pub live-none : (x : Index) (n : ℕ) (s : List ℕ) → live_room x (length s) n ≡ false → (0 ≡ length (live_list x n s)) × (s ≡ live_in x n s)
unfolding live_list live_in
live-none x n s e = (rw e refl, rw e refl)

-- one element
module _ (s : List ℕ) (k : ℕ) (ws : List ℕ) (t : Tet) (e : ws ≡ vertices_of t) where
  first : (d : ℕ) → get_or ws 0 d ≡ t.a
  first d = ap (λ (us : List ℕ). get_or us 0 d) e

  pub gone-put : get_or ws 0 0 ≡ gone_word → (0 ≡ length (keep live (t ∷ []))) × (s ≡ written s k (words_of (keep live (t ∷ []))))
  unfolding flat
  gone-put h =
      let q : keep live (t ∷ []) ≡ [] = rw (eq-eqb t.a gone_word (sym (first 0) ∙ h)) refl in
      (sym (ap length q), sym (ap (λ (ts : List Tet). written s k (words_of ts)) q ∙ written_none s k))

  pub live-put : (get_or ws 0 0 ≡ gone_word → ⊥) → (s' : List ℕ) → s' ≡ paste s k ws 4
      → (1 ≡ length (keep live (t ∷ []))) × (s' ≡ written s k (words_of (keep live (t ∷ []))))
  live-put h s' es =
      let q : keep live (t ∷ []) ≡ t ∷ [] = rw (ne_eqb t.a gone_word (λ g. h (first 0 ∙ g))) refl in
      (sym (ap length q), es ∙ ap (λ (us : List ℕ). paste s k us 4) e ∙ paste-element s k t ∙ sym (ap (λ (ts : List Tet). written s k (words_of ts)) q))

-- what holds at the head of the loop: the live ones of the first e slots stand in the area
pub record Living (x : Index) (n : ℕ) (s₀ s : List ℕ) (e k : ℕ) : Type 0 where
  pub room : live_room x (length s₀) n ≡ true
  pub laid : Laid x (length s₀)
  pub slots : n ≤ x.room
  pub fit : x.area + n * 4 ≤ length s₀
  pub long : length s ≡ length s₀
  pub few : k ≤ e
  pub copied : Copying (λ t. keep live (t ∷ [])) x.area (tets n (drop x.slots s₀)) s₀ s e k

pub living-start : (x : Index) (n : ℕ) (s : List ℕ) → live_room x (length s) n ≡ true → Living x n s s 0 0
living-start x n s r =
    let f = live-is x (length s) n r in
    record { room = r; laid = f.0; slots = f.1; fit = f.2; long = refl; few = omega arith; copied = copy_start (λ t. keep live (t ∷ [])) x.area (tets n (drop x.slots s)) s }

module _ {x : Index} {n : ℕ} {s₀ s : List ℕ} {e k : ℕ} (g : Living x n s₀ s e k) where
  many : length (tets n (drop x.slots s₀)) ≡ n
  many = length-tets n (drop x.slots s₀)

  space : x.area + 4 * length (tets n (drop x.slots s₀)) ≤ length s₀
  space = omega (arith, many, g.fit)

  pub living-turn : e < n → (i : ℕ) (s' : List ℕ) → i ≡ length (keep live (slot_at x s e ∷ [])) → s' ≡ written s (x.area + 4 * k) (words_of (keep live (slot_at x s e ∷ [])))
      → Living x n s₀ s' (e + 1) (k + i)
  living-turn h i s' ei es =
      record { room = g.room; laid = g.laid; slots = g.slots; fit = g.fit; long = copy-long space turned; few = turned.few; copied = turned }
    where
      element : slot_at x s e ≡ get_or (tets n (drop x.slots s₀)) e gone_tet
      element = slot_kept x s₀ s g.laid (λ j q. copy_read space g.copied j q) e ∙ sym (slot-element x s₀ n e gone_tet g.slots h)

      turned : Copying (λ t. keep live (t ∷ [])) x.area (tets n (drop x.slots s₀)) s₀ s' (e + 1) (k + i)
      turned =
          copy-turn space g.copied (omega (arith, many)) gone_tet i s' (keep_one live (get_or (tets n (drop x.slots s₀)) e gone_tet))
          (ei ∙ ap (λ (t : Tet). length (keep live (t ∷ []))) element) (es ∙ ap (λ (t : Tet). written s (x.area + 4 * k) (words_of (keep live (t ∷ [])))) element)

  pub living-end : n ≤ e → (k ≡ length (live_list x n s₀)) × (s ≡ live_in x n s₀)
  unfolding live_list live_in
  living-end h =
      let q = copy-end space g.copied (omega (arith, many)) in
      let w = each_keep live (tets n (drop x.slots s₀)) in
      (q.0 ∙ ap length w ∙ rw g.room refl, q.1 ∙ ap (λ (ts : List Tet). written s₀ x.area (words_of ts)) w ∙ rw g.room refl)
