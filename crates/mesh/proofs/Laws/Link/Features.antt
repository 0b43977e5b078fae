-- The labelled edges of specs/Feature.antt as sets: the edges of the faces, with each two bits that the strata of both ends have.
-- Assumes nothing.
use Rattle.std.proofs.Common.{◌≡◌, ℕ, min, max, true, cond, not, ◌&&◌, ◌||◌, eqb, List, [], ◌∷◌, ◌++◌, map, sym, refl, ap, subst, inl, inr, eq-eqb, eqb-true}
use mathlib.Core.List.Memᴰ
use mathlib.Core.List.{Memᴰ}
use Rattle.mesh.specs.declared.element.Triple.{Triple}
use Rattle.mesh.specs.Complex.{mem}
use Rattle.mesh.specs.Element.{triple}
use Rattle.mesh.specs.Feature.{onto, Label, label, same_label, labels, features, three_apart, mapped, expected, neighbours, edges_ok, neighbours_ok, feature_ok}
use Rattle.mesh.specs.Tests.{every}
use Rattle.mesh.proofs.Laws.Complex.Sets.{split, same, and-fst, and-snd, mem-there, mem-cases, mem-nil, or_left}
use Rattle.mesh.proofs.Laws.Link.Members.{Alike, Decides, kept-alike, every-alike, same_set-alike}

-- the test of labels is equality
pub label-decides : Decides same_label
label-decides = record { equal = equal'; self = λ l. rw (eq-eqb l.x l.x refl, eq-eqb l.y l.y refl, eq-eqb l.u l.u refl, eq-eqb l.v l.v refl) refl }
  where
    make : ℕ → ℕ → ℕ → ℕ → Label
    make x y u v = record { x = x; y = y; u = u; v = v }

    join : (x y u v x' y' u' v' : ℕ) → x ≡ x' → y ≡ y' → u ≡ u' → v ≡ v' → make x y u v ≡ make x' y' u' v'
    join x y u v x' y' u' v' p q r s = rw (p, q, r, s) refl

    equal' : (l m : Label) → same_label l m ≡ true → l ≡ m
    equal' l m h =
        let h₁ = and-snd (eqb l.x m.x) (eqb l.y m.y && (eqb l.u m.u && eqb l.v m.v)) h in
        let h₂ = and-snd (eqb l.y m.y) (eqb l.u m.u && eqb l.v m.v) h₁ in
        join l.x l.y l.u l.v m.x m.y m.u m.v
        (eqb-true l.x m.x (and-fst (eqb l.x m.x) (eqb l.y m.y && (eqb l.u m.u && eqb l.v m.v)) h))
        (eqb-true l.y m.y (and-fst (eqb l.y m.y) (eqb l.u m.u && eqb l.v m.v) h₁))
        (eqb-true l.u m.u (and-fst (eqb l.u m.u) (eqb l.v m.v) h₂))
        (eqb-true l.v m.v (and-snd (eqb l.u m.u) (eqb l.v m.v) h₂))

-- ---- the same faces give the same labelled edges

pub mem-member : {n : ℕ} (xs : List ℕ) → mem n xs ≡ true → Memᴰ n xs
mem-member {n} [] m = absurd (mem-nil n m)
mem-member {n} (x ∷ xs) m = elim (mem-cases n x xs m) [ inl e ↦ Memᴰ.head e | inr i ↦ Memᴰ.tail (mem-member xs i) ]

pub member-mem : {n : ℕ} (xs : List ℕ) → Memᴰ n xs → mem n xs ≡ true
member-mem [] m = absurd (Memᴰ.not-nil m)
member-mem {n} (x ∷ xs) m = elim (Memᴰ.cases_cons m) [ inl e ↦ or_left (mem n xs) (eq-eqb n x e) | inr i ↦ mem-there n x xs (member-mem xs i) ]

mem-alike : (n : ℕ) (xs ys : List ℕ) → Alike xs ys → mem n xs ≡ mem n ys
mem-alike n xs ys h = same (λ m. member-mem ys ((h n).0 (mem-member xs m))) (λ m. member-mem xs ((h n).1 (mem-member ys m)))

map-alike : {A B : Type 0} (g : A → B) (xs ys : List A) → Alike xs ys → Alike (map g xs) (map g ys)
map-alike g xs ys h y = (
  (λ m. let r = Memᴰ.of_map g xs m in Memᴰ.cast (sym r.2) (Memᴰ.map g ((h r.0).0 r.1))),
  (λ m. let r = Memᴰ.of_map g ys m in Memᴰ.cast (sym r.2) (Memᴰ.map g ((h r.0).1 r.1))),
)

-- what a function gives for each member, joined
abbrev join_all : {A B : Type 0} → (A → List B) → List A → List B
join_all g [] = []
join_all g (x ∷ xs) = g x ++ join_all g xs

join-elim : {A B : Type 0} (g : A → List B) {y : B} (xs : List A) → Memᴰ y (join_all g xs) → (x : A) × Memᴰ x xs × Memᴰ y (g x)
join-elim g [] m = absurd (Memᴰ.not-nil m)
join-elim g (x ∷ xs) m =
    elim (Memᴰ.append_cases (g x) m) [
      | inl i ↦ (x, Memᴰ.head refl, i)
      | inr i ↦ let r = join-elim g xs i in (r.0, Memᴰ.tail r.1, r.2)
    ]

join-intro : {A B : Type 0} (g : A → List B) {x : A} {y : B} (xs : List A) → Memᴰ x xs → Memᴰ y (g x) → Memᴰ y (join_all g xs)
join-intro g [] m i = absurd (Memᴰ.not-nil m)
join-intro g {x} {y} (z ∷ xs) m i =
    elim (Memᴰ.cases_cons m) [
      | inl e ↦ Memᴰ.append_left (join_all g xs) (subst (λ u. Memᴰ y (g u)) e i)
      | inr k ↦ Memᴰ.append_right (g z) (join-intro g xs k i)
    ]

join-alike : {A B : Type 0} (g : A → List B) (xs ys : List A) → Alike xs ys → Alike (join_all g xs) (join_all g ys)
join-alike g xs ys h y = (
  (λ m. let r = join-elim g xs m in join-intro g ys ((h r.0).0 r.1) r.2),
  (λ m. let r = join-elim g ys m in join-intro g xs ((h r.0).1 r.1) r.2),
)

-- the other end of a labelled edge at w with the two bits of l
abbrev pub other_end : Label → ℕ → Label → List ℕ
other_end l w m = cond (eqb l.x m.x && eqb l.y m.y) (cond (eqb m.u w) (m.v ∷ []) (cond (eqb m.v w) (m.u ∷ []) [])) []

neighbours-join : (l : Label) (w : ℕ) (ms : List Label) → neighbours l w ms ≡ join_all (other_end l w) ms
unfolding neighbours
neighbours-join l w [] = refl
neighbours-join l w (m ∷ ms) =
    let ih = neighbours-join l w ms in
    elim (split (eqb l.x m.x && eqb l.y m.y)) [
      | inl h ↦ rw h (elim (split (eqb m.u w)) [
        | inl k ↦ rw k (ap (λ r. m.v ∷ r) ih)
        | inr k ↦ rw k (elim (split (eqb m.v w)) [ inl j ↦ rw j (ap (λ r. m.u ∷ r) ih) | inr j ↦ rw j ih ])
      ])
      | inr h ↦ rw h ih
    ]

pub neighbours-elim : (l : Label) (w : ℕ) {n : ℕ} (ms : List Label) → Memᴰ n (neighbours l w ms) → (m : Label) × Memᴰ m ms × Memᴰ n (other_end l w m)
neighbours-elim l w {n} ms i = join-elim (other_end l w) ms (subst (λ r. Memᴰ n r) (neighbours-join l w ms) i)

pub neighbours-intro : (l : Label) (w : ℕ) {n : ℕ} {m : Label} (ms : List Label) → Memᴰ m ms → Memᴰ n (other_end l w m) → Memᴰ n (neighbours l w ms)
neighbours-intro l w {n} ms i j = subst (λ r. Memᴰ n r) (sym (neighbours-join l w ms)) (join-intro (other_end l w) ms i j)

neighbours-alike : (l : Label) (w : ℕ) (ms ns : List Label) → Alike ms ns → Alike (neighbours l w ms) (neighbours l w ns)
neighbours-alike l w ms ns h n = (
  (λ m. let r = neighbours-elim l w ms m in neighbours-intro l w ns ((h r.0).0 r.1) r.2),
  (λ m. let r = neighbours-elim l w ns m in neighbours-intro l w ms ((h r.0).1 r.1) r.2),
)

module _ (stratum : ℕ → ℕ) where
  -- the labelled edges of one face
  abbrev pub labels_of : Triple → List Label
  labels_of f = labels stratum f.a f.b ++ (labels stratum f.b f.c ++ labels stratum f.c f.a)

  features-join : (fs : List Triple) → features stratum fs ≡ join_all labels_of fs
  unfolding features
  features-join [] = refl
  features-join (f ∷ fs) = ap (λ r. labels_of f ++ r) (features-join fs)

  pub features-of : {l : Label} (fs : List Triple) → Memᴰ l (features stratum fs) → (f : Triple) × Memᴰ f fs × Memᴰ l (labels_of f)
  features-of {l} fs m = join-elim labels_of fs (subst (λ r. Memᴰ l r) (features-join fs) m)

  pub features-in : {l : Label} {f : Triple} (fs : List Triple) → Memᴰ f fs → Memᴰ l (labels_of f) → Memᴰ l (features stratum fs)
  features-in {l} fs m i = subst (λ r. Memᴰ l r) (sym (features-join fs)) (join-intro labels_of fs m i)

  features-alike : (fs gs : List Triple) → Alike fs gs → Alike (features stratum fs) (features stratum gs)
  features-alike fs gs h l = (
    (λ m. let r = features-of fs m in features-in gs ((h r.0).0 r.1) r.2),
    (λ m. let r = features-of gs m in features-in fs ((h r.0).1 r.1) r.2),
  )

  -- the feature tests depend on the set of faces only
  pub feature_ok-alike : (a b : ℕ) (fs gs : List Triple) → Alike fs gs → feature_ok stratum a b fs ≡ feature_ok stratum a b gs
  unfolding feature_ok edges_ok neighbours_ok
  feature_ok-alike a b fs gs h = rw (edges, nears) refl
    where
      old : Alike (features stratum fs) (features stratum gs)
      old = features-alike fs gs h

      on_both : Triple → Triple
      on_both f = triple (onto a b f.a) (onto a b f.b) (onto a b f.c)

      edges : edges_ok stratum a b fs ≡ edges_ok stratum a b gs
      edges =
          same_set-alike same_label label-decides (features stratum (mapped a b fs)) (features stratum (mapped a b gs)) (expected a b (features stratum fs)) (expected a b (features stratum gs))
          (features-alike (mapped a b fs) (mapped a b gs) (kept-alike three_apart (map on_both fs) (map on_both gs) (map-alike on_both fs gs h)))
          (kept-alike (λ l. not (eqb l.u l.v)) (map (λ l. label l.x l.y (onto a b l.u) (onto a b l.v)) (features stratum fs)) (map (λ l. label l.x l.y (onto a b l.u) (onto a b l.v)) (features stratum gs))
          (map-alike (λ l. label l.x l.y (onto a b l.u) (onto a b l.v)) (features stratum fs) (features stratum gs) old))

      nears : neighbours_ok stratum a b fs ≡ neighbours_ok stratum a b gs
      nears =
          every-alike
          (λ l. not (eqb l.u (min a b) && eqb l.v (max a b)) || every (λ n. not (mem n (neighbours l b (features stratum fs)))) (neighbours l a (features stratum fs)))
          (λ l. not (eqb l.u (min a b) && eqb l.v (max a b)) || every (λ n. not (mem n (neighbours l b (features stratum gs)))) (neighbours l a (features stratum gs)))
          (features stratum fs) (features stratum gs)
          (λ l. ap (λ r. not (eqb l.u (min a b) && eqb l.v (max a b)) || r)
          (every-alike (λ n. not (mem n (neighbours l b (features stratum fs)))) (λ n. not (mem n (neighbours l b (features stratum gs)))) (neighbours l a (features stratum fs)) (neighbours l a (features stratum gs))
          (λ n. ap not (mem-alike n (neighbours l b (features stratum fs)) (neighbours l b (features stratum gs)) (neighbours-alike l b (features stratum fs) (features stratum gs) old)))
          (neighbours-alike l a (features stratum fs) (features stratum gs) old)))
          old
