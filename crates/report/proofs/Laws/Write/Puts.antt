-- Words written one behind the other. Assumes nothing.
use Rattle.std.proofs.Common.{◌≡◌, ℕ, zero, suc, ◌+◌, ◌-◌, ◌%◌, ◌^◌, ◌<◌, ◌≤◌, List, [], ◌∷◌, ◌++◌, length, take, get_or, sym, refl, ap, ◌∙◌, subst, append_assoc, add-one, arith, length-append, take-suc}
use lib.ListN.{replicate-append-replicate}
use lib.Seq.{sets, sets-eq}
use borrow.Rule.Slice.PartMut.{put_mid}
use Rattle.std.specs.Int.{w32, to_le_bytes}
use Rattle.std.proofs.lemmas.Slice.{put_mid-paste}
use Rattle.mesh.specs.Words.{zero_words}
use Rattle.report.specs.Format.{record_room}
use Rattle.report.specs.Bytes.{listed}
use Rattle.report.specs.Write.{word_bytes, bytes_of, total_of, check_of, closed, block_front}
use Rattle.report.specs.inside.Put.{Put}
use Rattle.report.proofs.Laws.Text.{sets-append}
use Rattle.report.proofs.Laws.Write.Words.{bytes-length, bytes-append, total-append}

-- no words
pub put-none : (o : List ℕ) (at sum : ℕ) → Put o o at sum at sum []
unfolding bytes_of total_of
put-none o at sum = record { bytes = refl; place = omega arith; total = ap (λ (n : ℕ). n % 2 ^ 32) (omega arith) }

-- words behind others
pub put_then : {o m n : List ℕ} {p s q t r u : ℕ} (a b : List ℕ) → Put o m p s q t a → Put m n q t r u b → Put o n p s r u (a ++ b)
put_then {o} {m} {n} {p} {s} {q} {t} {r} {u} a b x y =
    let l = length-append a b in
    let e : q ≡ p + length (bytes_of a) = x.place ∙ ap (λ (k : ℕ). p + k) (sym (bytes-length a)) in
    let f = y.place in
    let g = x.place in
    record {
      bytes = y.bytes ∙ (ap (λ (k : ℕ). sets m k (bytes_of b)) e ∙ (ap (λ (l : List ℕ). sets l (p + length (bytes_of a)) (bytes_of b)) x.bytes ∙ (sym (sets-append o p (bytes_of a) (bytes_of b)) ∙ ap (sets o p) (sym (bytes-append a b)))));
      place = omega arith;
      total = step s t u (total_of a) (total_of b) (total_of (a ++ b)) x.total y.total (total-append a b);
    }
  where
    step : (s t u a b c : ℕ) → t % 2 ^ 32 ≡ (s + a) % 2 ^ 32 → u % 2 ^ 32 ≡ (t + b) % 2 ^ 32 → c ≡ a + b → u % 2 ^ 32 ≡ (s + c) % 2 ^ 32
    step s t u a b c e f g = omega arith

-- a word: its four bytes
pub put_one : (o ys : List ℕ) (at sum end after w : ℕ) → ys ≡ to_le_bytes w32 w → at + 4 ≤ length o → end ≡ at + 4 → after ≡ (sum + w) % 2 ^ 32
    → Put o (put_mid at (at + 4 - at) o ys) at sum end after (w ∷ [])
unfolding bytes_of total_of
put_one o ys at sum end after w is room e f =
    record { bytes = put_mid-paste at (at + 4 - at) o ys (word_bytes w) 4 is (omega arith) refl ∙ sym (sets-eq (word_bytes w) o at room); place = e; total = step sum w after f }
  where
    step : (s w t : ℕ) → t ≡ (s + w) % 2 ^ 32 → t % 2 ^ 32 ≡ (s + (w + 0)) % 2 ^ 32
    step s w t e = omega arith

-- one more row behind those that stand there
pub put-more : {o m n : List ℕ} {p s q t r u : ℕ} (row : ℕ → List ℕ) (i : ℕ) → Put o m p s q t (listed row i) → Put m n q t r u (row i)
    → Put o n p s r u (listed row (i + 1))
unfolding listed
put-more {o} {m} {n} {p} {s} {q} {t} {r} {u} row i x y =
    subst (λ (k : ℕ). Put o n p s r u (listed row k)) (sym (add-one i)) (put_then (listed row i) (row i) x y)

-- the same words under another name
pub put_as : {o n : List ℕ} {p s r u : ℕ} {a b : List ℕ} → a ≡ b → Put o n p s r u a → Put o n p s r u b
put_as {o} {n} {p} {s} {r} {u} {a} {b} e x = subst (λ (l : List ℕ). Put o n p s r u l) e x

-- one more of many words
pub words-more : {o m n : List ℕ} {p s q t r u : ℕ} (ws : List ℕ) (i d : ℕ) → i < length ws → Put o m p s q t (take i ws) → Put m n q t r u (get_or ws i d ∷ [])
    → Put o n p s r u (take (i + 1) ws)
words-more ws i d h x y = put_as (sym (take-suc ws i d h) ∙ ap (λ (k : ℕ). take k ws) (sym (add-one i))) (put_then (take i ws) (get_or ws i d ∷ []) x y)

-- one more word 0
pub zeros-more : {o m n : List ℕ} {p s q t r u : ℕ} (i : ℕ) → Put o m p s q t (zero_words i) → Put m n q t r u (0 ∷ []) → Put o n p s r u (zero_words (i + 1))
zeros-more i x y = put_as (replicate-append-replicate i 1 0) (put_then (zero_words i) (0 ∷ []) x y)

-- ---- the end of a block

-- words 0 add nothing
total-zeros : (n : ℕ) → total_of (zero_words n) ≡ 0
unfolding total_of
total-zeros zero = refl
total-zeros (suc n) = let l = total-zeros n in omega arith

-- words 0, and the word that makes the sum 0
pub put_last : {o m k : List ℕ} {p s q t r u : ℕ} (n w : ℕ) → w < 2 ^ 32 → (w + s) % 2 ^ 32 ≡ 0 → Put o m p s q t (zero_words n) → Put m k q t r u (w ∷ [])
    → Put o k p s r 0 (zero_words n ++ (check_of s ∷ []))
unfolding total_of
put_last {o} {m} {k} {p} {s} {q} {t} {r} {u} n w h z x y =
    let all = put_as (ap (λ (v : ℕ). zero_words n ++ (v ∷ [])) (negate w s h z)) (put_then (zero_words n) (w ∷ []) x y) in
    record {
      bytes = all.bytes;
      place = all.place;
      total = step s (total_of (zero_words n)) (total_of (zero_words n ++ (check_of s ∷ []))) (total-append (zero_words n) (check_of s ∷ [])) (total-zeros n);
    }
  where
    negate : (w s : ℕ) → w < 2 ^ 32 → (w + s) % 2 ^ 32 ≡ 0 → w ≡ check_of s
    negate w s h z = omega arith

    step : (s z t : ℕ) → t ≡ z + (check_of s + 0) → z ≡ 0 → 0 % 2 ^ 32 ≡ (s + t) % 2 ^ 32
    step s z t e f = omega arith

-- a block: its first three words, its records, and its end
pub put-closed : {o m k n : List ℕ} {at q t h c r : ℕ} (kind number count : ℕ) (records : List ℕ) (z : ℕ) → z ≡ record_room - length records
    → Put o m at 0 q t (kind ∷ number ∷ count ∷ []) → Put m k q t h c records → Put k n h c r 0 (zero_words z ++ (check_of c ∷ []))
    → Put o n at 0 r 0 (closed (block_front kind number count records))
unfolding closed block_front
put-closed {o} {m} {k} {n} {at} {q} {t} {h} {c} {r} kind number count records z e x y w =
    let head = kind ∷ number ∷ count ∷ [] in
    let both = put_then head records x y in
    let long : total_of (head ++ (records ++ zero_words z)) ≡ total_of (head ++ records) + 0 =
    ap total_of (sym (append_assoc head records (zero_words z))) ∙ (total-append (head ++ records) (zero_words z) ∙ ap (λ (i : ℕ). total_of (head ++ records) + i) (total-zeros z)) in
    let check = same c (total_of (head ++ records)) (total_of (head ++ (records ++ zero_words z))) both.total long in
    let all = put_then (head ++ records) (zero_words z ++ (check_of c ∷ [])) both w in
    put_as (ap (λ (i : ℕ). head ++ (records ++ zero_words i) ++ (check_of (total_of (head ++ (records ++ zero_words i))) ∷ [])) e)
    (put_as (regroup head records (zero_words z) (check_of c ∷ []) ∙ ap (λ (v : ℕ). head ++ (records ++ zero_words z) ++ (v ∷ [])) check) all)
  where
    same : (c a b : ℕ) → c % 2 ^ 32 ≡ (0 + a) % 2 ^ 32 → b ≡ a + 0 → check_of c ≡ check_of b
    same c a b e f = omega arith

    regroup : (a b c d : List ℕ) → (a ++ b) ++ (c ++ d) ≡ a ++ (b ++ c) ++ d
    regroup a b c d = simp append_assoc
