-- One plot, one file (document 02, request (i): "Two files of one plot then had different bytes"). A file that is read, no float of it a
-- NaN, is exactly the bytes that the writer makes of what is read, word by word; so two that are read as one plot are one. Assumes nothing.
use Rattle.std.proofs.Common.{◌≡◌, ℕ, zero, suc, ◌+◌, ◌*◌, ◌/◌, ◌%◌, ◌<◌, List, [], ◌∷◌, length, get_or, sym, ap, ◌∙◌, subst, arith, ext_get_or}
use Rattle.mesh.specs.declared.intake.Sizes.{Sizes}
use Rattle.report.specs.Run.{Finished}
use Rattle.report.specs.Format.{words_a_block}
use Rattle.report.specs.Bytes.{byte_at, word_in, listed}
use Rattle.report.specs.Block.{Plot, vertices_in, elements_in, reading_number, plot_in, reading}
use Rattle.report.specs.Block.{read}
use Rattle.report.specs.Write.{bytes_of, file_block, blocks_of, file_of, Exact, NoNan}
use Rattle.report.specs.Run.{run_passes}
use Rattle.report.specs.Report.{setting_of, placed, blank}
use Rattle.report.proofs.Laws.Finished.{finished-numbers}
use Rattle.report.proofs.Laws.Write.Sizes.{block-length}
use Rattle.report.proofs.Laws.Write.Files.{file-length}
use Rattle.report.proofs.Laws.Write.Header.{block-holds}
use Rattle.report.proofs.Laws.Passed.{read_length, read-plot}
use Rattle.report.proofs.Laws.Write.Again.{read-exact}
use Rattle.report.proofs.Laws.Write.Held.{all_held}

-- ---- bytes by words

-- what is written are bytes
bytes_small : (ws : List ℕ) (i : ℕ) → get_or (bytes_of ws) i 0 < 256
unfolding bytes_of
bytes_small [] i = omega arith
bytes_small (w ∷ ws) zero = omega arith
bytes_small (w ∷ ws) (suc zero) = omega arith
bytes_small (w ∷ ws) (suc (suc zero)) = omega arith
bytes_small (w ∷ ws) (suc (suc (suc zero))) = omega arith
bytes_small (w ∷ ws) (suc (suc (suc (suc i)))) = bytes_small ws i

-- a sum tells its lowest byte and what is above it
low_byte : (a b x y : ℕ) → a < 256 → b < 256 → a + 256 * x ≡ b + 256 * y → (a ≡ b) × (x ≡ y)
low_byte a b x y l g e = omega arith

-- a word tells its four bytes
four : (a b c d e f g h : ℕ) → a < 256 → b < 256 → c < 256 → e < 256 → f < 256 → g < 256
    → a + 256 * b + 65536 * c + 16777216 * d ≡ e + 256 * f + 65536 * g + 16777216 * h → (a ≡ e) × (b ≡ f) × (c ≡ g) × (d ≡ h)
four a b c d e f g h la lb lc le lf lg same =
    let x = low_byte a e (b + 256 * c + 65536 * d) (f + 256 * g + 65536 * h) la le (omega arith) in
    let y = low_byte b f (c + 256 * d) (g + 256 * h) lb lf (omega (arith, x.1)) in
    let z = low_byte c g d h lc lg (omega (arith, y.1)) in
    (x.0, y.0, z.0, z.1)

module _ (s t : List ℕ) (s-byte : (i : ℕ) → byte_at s i < 256) (t-byte : (i : ℕ) → byte_at t i < 256) where
  -- two files with one word q have its four bytes
  same_byte : (q r i : ℕ) → word_in s q ≡ word_in t q → r < 4 → i ≡ 4 * q + r → byte_at s i ≡ byte_at t i
  unfolding word_in
  same_byte q r i same l e =
      let all = four (byte_at s (4 * q)) (byte_at s (4 * q + 1)) (byte_at s (4 * q + 2)) (byte_at s (4 * q + 3))
      (byte_at t (4 * q)) (byte_at t (4 * q + 1)) (byte_at t (4 * q + 2)) (byte_at t (4 * q + 3))
      (s-byte (4 * q)) (s-byte (4 * q + 1)) (s-byte (4 * q + 2)) (t-byte (4 * q)) (t-byte (4 * q + 1)) (t-byte (4 * q + 2)) same in
      pick r l e all.0 all.1 all.2 all.3
    where
      at : (k : ℕ) → i ≡ k → byte_at s k ≡ byte_at t k → byte_at s i ≡ byte_at t i
      at k f g = ap (byte_at s) f ∙ (g ∙ sym (ap (byte_at t) f))

      pick : (r : ℕ) → r < 4 → i ≡ 4 * q + r → byte_at s (4 * q) ≡ byte_at t (4 * q) → byte_at s (4 * q + 1) ≡ byte_at t (4 * q + 1)
          → byte_at s (4 * q + 2) ≡ byte_at t (4 * q + 2) → byte_at s (4 * q + 3) ≡ byte_at t (4 * q + 3) → byte_at s i ≡ byte_at t i
      pick zero l e a b c d = at (4 * q) (omega arith) a
      pick (suc zero) l e a b c d = at (4 * q + 1) e b
      pick (suc (suc zero)) l e a b c d = at (4 * q + 2) e c
      pick (suc (suc (suc zero))) l e a b c d = at (4 * q + 3) e d
      pick (suc (suc (suc (suc r)))) l e a b c d = absurd (omega arith)

  -- files of n words, one by one the same, are one
  same-words : (n : ℕ) → length s ≡ 4 * n → length t ≡ 4 * n → ((q : ℕ) → q < n → word_in s q ≡ word_in t q) → s ≡ t
  same-words n e f same = ext_get_or 0 s t (omega arith) (λ i l. same_byte (i / 4) (i % 4) i (same (i / 4) (omega arith)) (omega arith) (omega arith))

-- ---- the file

module _ (s : List ℕ) (byte : (i : ℕ) → byte_at s i < 256) (number : reading_number s ≡ 0) (ok : NoNan (plot_in s)) where
  abbrev blocks : ℕ
  blocks = blocks_of (vertices_in s) (elements_in s)

  -- the word q of the file of what is read
  word-whole : (q : ℕ) → q < words_a_block * blocks → word_in (file_of (plot_in s)) q ≡ word_in s q
  unfolding plot_in
  word-whole q l =
      let k = q / words_a_block in
      let m = q % words_a_block in
      let size = block-length (plot_in s) k in
      block-holds (plot_in s) k (omega arith) m q (omega arith) (omega arith)
      ∙ sym (all_held s byte number ok k (omega arith) m q (omega arith) (omega arith))

  -- the file of what is read
  file-whole : file_of (plot_in s) ≡ s
  unfolding plot_in file_of
  file-whole =
      let long = file-length (plot_in s) in
      let whole = read_length s number in
      same-words (file_of (plot_in s)) s (bytes_small (listed (file_block (plot_in s)) blocks)) byte
      (words_a_block * blocks) (omega arith) (omega arith) word-whole

-- a file that is read is the file of what is read
pub whole_back : (s : List ℕ) → ((i : ℕ) → byte_at s i < 256) → (p : Plot) → reading s ≡ read p → NoNan p → file_of p ≡ s
whole_back s byte p h ok =
    let r = read-plot s p h in
    ap file_of r.1 ∙ file-whole s byte r.0 (subst NoNan r.1 ok)

-- two files that are read as one plot are one file
pub one-file : (s t : List ℕ) (p : Plot) → ((i : ℕ) → byte_at s i < 256) → ((i : ℕ) → byte_at t i < 256)
    → reading s ≡ read p → reading t ≡ read p → NoNan p → s ≡ t
one-file s t p s-byte t-byte h g ok = sym (whole_back s s-byte p h ok) ∙ whole_back t t-byte p g ok

-- two files that are read as one plot, which gets its table, are one file
pub one_table : (s t : List ℕ) (p : Plot) → ((i : ℕ) → byte_at s i < 256) → ((i : ℕ) → byte_at t i < 256)
    → reading s ≡ read p → reading t ≡ read p → (collapsed moved reconnected : ℕ) (z : Sizes)
    → (run_passes (setting_of p) (placed p blank)).0 ≡ Finished collapsed moved reconnected z → s ≡ t
one_table s t p s-byte t-byte h g collapsed moved reconnected z done =
    let r = read-plot s p h in
    let exact : Exact p = subst Exact (sym r.1) (read-exact s s-byte r.0) in
    one-file s t p s-byte t-byte h g (finished-numbers p exact collapsed moved reconnected z done)
