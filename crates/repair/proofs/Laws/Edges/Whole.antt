-- The edges of a round, from the live elements to the rows in the edges' area. Assumes nothing.
use mathlib.Core.Path.{◌≡◌, refl, sym, ap, ap₂, subst, ◌∙◌}
use mathlib.Core.Logic.{inl, inr}
use mathlib.Core.Bool.{true, not}
use mathlib.Core.List.{List, [], ◌∷◌, ◌++◌, map}
use Prim.Native.Nat.{ℕ, ◌+◌, ◌-◌, ◌*◌, ◌≤◌, ◌<◌}
use native.Mathlib.Omega.{arith}
use lib.Ieee.{Float}
use lib.ListN.{length, take, drop, length-map}
use lib.Seq.{get_or-drop, get_or-take, get_or-append-add, length-take-le}
use borrow.Author.Tests.{le-leb}
use borrow.Rule.Slice.PartMut.{mid_of, put_mid, mid_len}
use Rattle.std.specs.List.{CopiedTo, SameBelow, SameFrom}
use Rattle.geometry.specs.declared.point.Point.{Point}
use Rattle.geometry.specs.declared.bounds.Options.{Options}
use Rattle.geometry.specs.Float.{◌*₆₄◌}
use Rattle.geometry.specs.Literals.{three_quarters}
use Rattle.mesh.specs.declared.element.Pair.{Pair}
use Rattle.mesh.specs.declared.element.Tet.{Tet}
use Rattle.mesh.specs.declared.star.Index.{Index}
use Rattle.mesh.specs.Words.{word_at, zero_words, flat}
use Rattle.mesh.specs.Complex.{keep}
use Rattle.mesh.specs.Element.{tets}
use Rattle.mesh.specs.inside.List.{gone}
use Rattle.mesh.specs.inside.Short.{short_edges, edge_row, short_fits, Shorts, short_in}
use Rattle.mesh.specs.inside.About as about
use Rattle.mesh.specs.Measure.{measure}
use Rattle.mesh.proofs.Laws.Parts.{mid-put}
use Rattle.mesh.proofs.Laws.Complex.Sets.{split}
use Rattle.mesh.proofs.Laws.Intake.Reads.{length-tets}
use Rattle.mesh.proofs.Laws.List.Bad.{keep-few}
use Rattle.mesh.proofs.Laws.About.Calls.{Copied, live-count, live-copied}
use Rattle.repair.specs.Mesh.{Mesh}
use Rattle.repair.specs.Improve.{State, listed_edges}
use Rattle.repair.specs.inside.Layout.{Room, Stands, Same, edges_at, row_edges, edges_in, slots_in, live_in}
use Rattle.repair.proofs.Laws.Layout.{room-laid}
use Rattle.repair.proofs.Laws.Same.{same-trans, same-wider, same-front, same-put}
use Rattle.repair.proofs.Laws.Improve.Short.{Live, short-listed}
use Rattle.repair.proofs.Laws.PairOk.Gathered.{area-low}
use Rattle.repair.proofs.Laws.PairOk.Part.{part-tets}
use Rattle.repair.proofs.Laws.Edges.Rows.{short-few, rows-edges, edges-same}

-- the elements kept are live
kept-live : (ts : List Tet) → Live (keep (λ t. not (gone t)) ts)
kept-live [] = refl
kept-live (t ∷ ts) = elim (split (not (gone t))) [ inl h ↦ rw (h, h) (kept-live ts) | inr h ↦ rw h (kept-live ts) ]

-- a word of a part put in
put_word : (a c j : ℕ) (s p : List ℕ) → a ≤ length s → length p ≡ c → j < c → word_at (put_mid a c s p) (a + j) ≡ word_at p j
put_word a c j s p h e g =
    sym (get_or-drop a (put_mid a c s p) j 0) ∙ sym (get_or-take c (drop a (put_mid a c s p)) j 0 g) ∙ ap (λ (u : List ℕ). word_at u j) (mid-put a c s p h e)

module _ (x : Index) (n : ℕ) (w : List ℕ) (r : Room x n (length w)) (k : ℕ) (w₁ : List ℕ) (ek : k ≡ length (about.live_list x n w)) (e₁ : w₁ ≡ about.live_in x n w) where
  abbrev live : List Tet
  live = keep (λ t. not (gone t)) (slots_in x n w)

  many : n ≤ x.room
  many = let q = r.room in omega arith

  k-is : k ≡ length live
  k-is = let low = (area-low x n (length w) r).1 in ek ∙ live-count x w n (room-laid r) many (omega arith)

  few : k ≤ n
  few = omega (arith, k-is, keep-few (λ t. not (gone t)) (slots_in x n w), length-tets n (drop x.slots w))

  copied : Copied w w₁ x.area live
  copied =
      let low = (area-low x n (length w) r).1 in
      subst (λ (y : List ℕ). Copied w y x.area live) (sym e₁) (live-copied x w n (room-laid r) many (omega arith))

  -- room for the rows
  pub list-room : (x.area ≤ 1048576) × (k ≤ 16384) × (x.area + 52 * k ≤ length w₁)
  list-room =
      let low = area-low x n (length w) r in
      let most = r.elements in
      (low.0, omega (arith, few), omega (arith, low.1, few, copied.long))

  abbrev part : List ℕ
  part = mid_of x.area (x.area + 52 * k - x.area) w₁

  part-long : length part ≡ 52 * k
  part-long = mid_len x.area (x.area + 52 * k) w₁ list-room.2 ∙ (let e : x.area + 52 * k - x.area ≡ 52 * k = omega arith in e)

  part-is : tets k part ≡ live
  part-is =
      part-tets k x.area (x.area + 52 * k - x.area) w₁ (omega arith)
      ∙ ap (λ (i : ℕ). tets i (drop x.area w₁)) k-is ∙ copied.elements

  module _ (ps : List Point) (limit : Float) (q : ℕ) (p : List ℕ) (e₂ : ◌≡◌ {A = Shorts} (record { number = q; area = p }) (short_in ps limit k part)) where
    abbrev es : List Pair
    es = short_edges ps limit (tets k part)

    abbrev rows : List ℕ
    rows = flat (map (edge_row ps) es)

    fits : short_fits k (length part) ≡ true
    unfolding short_fits
    fits = let a = list-room.1 in rw (le-leb k 65536 (omega arith), le-leb (52 * k) (length part) (omega (arith, part-long)))

    number_is : (short_in ps limit k part).number ≡ length (map (edge_row ps) es)
    unfolding short_in
    number_is = rw fits refl

    area-is : (short_in ps limit k part).area ≡ take (4 * k) part ++ (rows ++ zero_words (length part - (4 * k + length rows)))
    unfolding short_in
    area-is = rw fits refl

    q-is : q ≡ length es
    q-is = ap (λ (u : Shorts). u.number) e₂ ∙ number_is ∙ length-map es (edge_row ps)

    p-is : p ≡ take (4 * k) part ++ (rows ++ zero_words (length part - (4 * k + length rows)))
    p-is = ap (λ (u : Shorts). u.area) e₂ ∙ area-is

    q-few : q ≤ 6 * k
    q-few = omega (arith, q-is, short-few ps limit (tets k part), length-tets k part)

    module _ (kept : length p ≡ length part) where
      abbrev w₂ : List ℕ
      w₂ = put_mid x.area (x.area + 52 * k - x.area) w₁ p

      put : Same w₁ w₂ x.area (x.area + 52 * k)
      put = same-put x.area (x.area + 52 * k) w₁ p (omega arith) list-room.2 kept

      -- room to copy them
      pub copy-room : (q ≤ 98304) × (edges_at x + 4 * q ≤ x.area + 4 * k) × (x.area + 4 * k + 4 * q ≤ length w₂)
      copy-room =
          let a = list-room.1 in
          let b = list-room.2 in
          let c = r.area in
          (omega (arith, q-few), omega (arith, q-few, few), omega (arith, q-few, put.long))

      -- the words behind the elements are the rows
      row_word : (j : ℕ) → j < 4 * q → word_at w₂ (x.area + 4 * k + j) ≡ word_at (rows ++ zero_words (length part - (4 * k + length rows))) j
      row_word j h =
          let b = list-room.2 in
          let c : x.area + 52 * k - x.area ≡ 52 * k = omega arith in
          let i : x.area + 4 * k + j ≡ x.area + (4 * k + j) = omega arith in
          let f : length (take (4 * k) part) ≡ 4 * k = length-take-le (4 * k) part (omega (arith, part-long)) in
          ap (word_at w₂) i
          ∙ put_word x.area (x.area + 52 * k - x.area) (4 * k + j) w₁ p (omega arith) (kept ∙ part-long ∙ sym c) (omega (arith, q-few))
          ∙ ap₂ (λ (u : List ℕ) (v : ℕ). word_at u (v + j)) p-is (sym f)
          ∙ get_or-append-add (take (4 * k) part) (rows ++ zero_words (length part - (4 * k + length rows))) j 0

      -- copied to the edges' area
      module _ (w₃ : List ℕ) (d c : ℕ) (ed : d ≡ edges_at x) (ec : c ≡ 4 * q) (long : length w₃ ≡ length w₂)
          (by : CopiedTo w₂ w₃ (x.area + 4 * k) d c × SameBelow w₂ w₃ d × SameFrom w₂ w₃ (d + c)) where
        done : ((j : ℕ) → j < 4 * q → word_at w₃ (edges_at x + j) ≡ word_at w₂ (x.area + 4 * k + j)) × Same w₂ w₃ (edges_at x) (edges_at x + 4 * q)
        done = (
          (λ j h. let i : x.area + 4 * k + (edges_at x + j - d) ≡ x.area + 4 * k + j = omega arith in by.0 (edges_at x + j) 0 (omega arith) (omega arith) ∙ ap (word_at w₂) i),
          record { long = long; before = λ j h. by.1 j 0 (omega arith); behind = λ j h. by.2 j 0 (omega arith) },
        )

        edges_are : edges_in x q w₃ ≡ es
        edges_are =
            edges-same q (rows ++ zero_words (length part - (4 * k + length rows))) (drop (edges_at x) w₃)
            (λ j h. get_or-drop (edges_at x) w₃ j 0 ∙ done.0 j h ∙ row_word j h)
            ∙ ap (λ (i : ℕ). row_edges i (rows ++ zero_words (length part - (4 * k + length rows)))) q-is
            ∙ rows-edges ps es (zero_words (length part - (4 * k + length rows)))

        -- they are the round's
        pub edges-listed : (q ≤ 6 * n) × ((o : Options) (m : Mesh) (s : State) (h : Float) → limit ≡ three_quarters *₆₄ h → m.points ≡ ps → Stands o m x n w s
            → edges_in x q w₃ ≡ listed_edges (measure m.points) h s.elements)
        unfolding live_in
        edges-listed = (
          omega (arith, q-few, few),
          (λ o m s h el em z.
              edges_are ∙ ap (short_edges ps limit) part-is ∙ ap (λ (u : Float). short_edges ps u live) el
              ∙ short-listed ps h live (kept-live (slots_in x n w))
              ∙ ap₂ (λ (u : List Point) (ts : List Tet). listed_edges (measure u) h ts) (sym em) (sym z.elements)),
        )

        -- nothing before the edges' area changed
        pub edges-kept : Same w w₃ (edges_at x) (length w)
        edges-kept =
            let a = list-room.2 in
            let b = copy-room in
            let c = r.area in
            let l = copied.long in
            same-trans (same-wider (edges_at x) (length w) (omega arith) (omega arith) (same-front x.area l copied.below))
            (same-trans (same-wider (edges_at x) (length w) (omega arith) (omega arith) put) (same-wider (edges_at x) (length w) (omega arith) (omega (arith, b.1, b.2, put.long)) done.1))
