-- A data string holds one file: its first four bytes are the file's length, and the bytes behind the file are 00h.
use mathlib.Core.Path.{◌≡◌, refl, sym, ap, ◌∙◌}
use mathlib.Core.List.{List, [], ◌∷◌, ◌++◌}
use Prim.Native.Nat.{ℕ, zero, suc, ◌+◌, ◌-◌, ◌*◌, ◌/◌, ◌%◌, ◌^◌, ◌≤◌, ◌<◌}
use native.Mathlib.Decide.{dec_lt}
use native.Mathlib.Omega.{arith}
use lib.ListN.{length, get_or, take, drop, replicate, get_or-replicate, get_or-append}
use lib.Seq.{ext_get_or, get_or-append-add, take_at}
use Rattle.shape.specs.declared.Shape.{Shape}
use Rattle.shape.specs.Shapes.{capacity}
use Rattle.cursor.specs.Steps.{word, word_bytes}
use Rattle.pack.specs.Packs.{data_string}
use Rattle.pack.proofs.Written.{word_bytes-value, data_string-length}

module _ (sh : Shape) where
  pub data-word : (file : List ℕ) → length file < 2 ^ 32 → word (data_string sh file) 0 ≡ length file
  unfolding word data_string word_bytes
  data-word file l = word_bytes-value (length file) l

  pub data-later : (file : List ℕ) (q : ℕ) → 4 + length file ≤ q → q < capacity sh → get_or (data_string sh file) q 0 ≡ 0
  unfolding data_string word_bytes
  data-later file q low high =
      let e : q ≡ 4 + (length file + (q - 4 - length file)) = omega arith in
      ap (λ (k : ℕ). get_or (data_string sh file) k 0) e
      ∙ get_or-append-add (word_bytes (length file)) (file ++ replicate (capacity sh - 4 - length file) 0) (length file + (q - 4 - length file)) 0
      ∙ get_or-append-add file (replicate (capacity sh - 4 - length file) 0) (q - 4 - length file) 0
      ∙ get_or-replicate (capacity sh - 4 - length file) (q - 4 - length file) 0 0 (omega arith)

  pub data-injective : (f g : List ℕ) → length f < 2 ^ 32 → length g < 2 ^ 32 → data_string sh f ≡ data_string sh g → f ≡ g
  unfolding data_string word_bytes
  data-injective f g lf lg e =
      let same : length f ≡ length g = sym (data-word f lf) ∙ ap (λ (ds : List ℕ). word ds 0) e ∙ data-word g lg in
      let behind : f ++ replicate (capacity sh - 4 - length f) 0 ≡ g ++ replicate (capacity sh - 4 - length g) 0 = ap (drop 4) e in
      sym (take_at f _ (length f) refl) ∙ ap (take (length f)) behind ∙ take_at g _ (length f) (sym same)

-- four bytes, low first, are those of the number that they hold
pub word-bytes : (a b c d : ℕ) → a < 256 → b < 256 → c < 256 → d < 256
    → word_bytes (a + 256 * b + 65536 * c + 16777216 * d) ≡ a ∷ b ∷ c ∷ d ∷ []
unfolding word_bytes
word-bytes a b c d la lb lc ld =
    let x : (a + 256 * b + 65536 * c + 16777216 * d) / 256 ≡ b + 256 * c + 65536 * d = omega arith in
    let y : (a + 256 * b + 65536 * c + 16777216 * d) / 65536 ≡ c + 256 * d = omega arith in
    let z : (a + 256 * b + 65536 * c + 16777216 * d) / 16777216 ≡ d = omega arith in
    let p : (a + 256 * b + 65536 * c + 16777216 * d) % 256 ≡ a = omega arith in
    let q : (b + 256 * c + 65536 * d) % 256 ≡ b = omega arith in
    let r : (c + 256 * d) % 256 ≡ c = omega arith in
    let s : d % 256 ≡ d = omega arith in
    rw (p, x, y, z, q, r, s)

-- A string of bytes whose first four are a length, with that many bytes behind them and then 00h, is the data string of these bytes.
module _ (sh : Shape) (ds : List ℕ) (size : length ds ≡ capacity sh) (small : (q : ℕ) → get_or ds q 0 < 256) (file : List ℕ)
    (room : 4 + length file ≤ capacity sh) (held : length file ≡ word ds 0) (bytes : (k : ℕ) → k < length file → get_or file k 0 ≡ get_or ds (4 + k) 0)
    (zeros : (q : ℕ) → 4 + length file ≤ q → q < capacity sh → get_or ds q 0 ≡ 0) where
  digit : (q : ℕ) → q < 4 → get_or (get_or ds 0 0 ∷ get_or ds 1 0 ∷ get_or ds 2 0 ∷ get_or ds 3 0 ∷ []) q 0 ≡ get_or ds q 0
  digit zero l = refl
  digit (suc zero) l = refl
  digit (suc (suc zero)) l = refl
  digit (suc (suc (suc zero))) l = refl
  digit (suc (suc (suc (suc q)))) l = absurd (omega arith)

  digits : word_bytes (length file) ≡ get_or ds 0 0 ∷ get_or ds 1 0 ∷ get_or ds 2 0 ∷ get_or ds 3 0 ∷ []
  unfolding word
  digits = ap word_bytes held ∙ word-bytes _ _ _ _ (small 0) (small 1) (small 2) (small 3)

  behind : (r : ℕ) → 4 + r < capacity sh → get_or (file ++ replicate (capacity sh - 4 - length file) 0) r 0 ≡ get_or ds (4 + r) 0
  behind r l =
      elim (dec_lt r (length file)) [
        | yes less ↦ get_or-append file (replicate (capacity sh - 4 - length file) 0) 0 r less ∙ bytes r less
        | no more ↦ far (r - length file) (omega arith)
      ]
    where
      far : (t : ℕ) → r ≡ length file + t → get_or (file ++ replicate (capacity sh - 4 - length file) 0) r 0 ≡ get_or ds (4 + r) 0
      far t e =
          ap (λ (k : ℕ). get_or (file ++ replicate (capacity sh - 4 - length file) 0) k 0) e
          ∙ get_or-append-add file (replicate (capacity sh - 4 - length file) 0) t 0
          ∙ get_or-replicate (capacity sh - 4 - length file) t 0 0 (omega arith)
          ∙ sym (zeros (4 + r) (omega arith) l)

  byte : (q : ℕ) → q < capacity sh → get_or (data_string sh file) q 0 ≡ get_or ds q 0
  unfolding data_string word_bytes
  byte q l =
      elim (dec_lt q 4) [
        | yes less ↦ get_or-append (word_bytes (length file)) (file ++ replicate (capacity sh - 4 - length file) 0) 0 q less
            ∙ ap (λ (es : List ℕ). get_or es q 0) digits ∙ digit q less
        | no more ↦ let e : 4 + (q - 4) ≡ q = omega arith in
            ap (λ (k : ℕ). get_or (word_bytes (length file) ++ (file ++ replicate (capacity sh - 4 - length file) 0)) k 0) (sym e)
            ∙ get_or-append-add (word_bytes (length file)) (file ++ replicate (capacity sh - 4 - length file) 0) (q - 4) 0
            ∙ behind (q - 4) (omega arith) ∙ ap (λ (k : ℕ). get_or ds k 0) e
      ]

  pub string-of-file : ds ≡ data_string sh file
  string-of-file =
      ext_get_or 0 ds (data_string sh file) (size ∙ sym (data_string-length sh file room)) (λ q l. sym (byte q (omega arith)))

-- ---- a data string is made of bytes

pub append-bytes : (xs ys : List ℕ) → ((i : ℕ) → get_or xs i 0 < 256) → ((i : ℕ) → get_or ys i 0 < 256) → (i : ℕ) → get_or (xs ++ ys) i 0 < 256
append-bytes [] ys a b i = b i
append-bytes (x ∷ xs) ys a b zero = a 0
append-bytes (x ∷ xs) ys a b (suc i) = append-bytes xs ys (λ j. a (suc j)) b i

zeros-bytes : (n i : ℕ) → get_or (replicate n 0) i 0 < 256
zeros-bytes zero i = omega arith
zeros-bytes (suc n) zero = omega arith
zeros-bytes (suc n) (suc i) = zeros-bytes n i

pub word_small : (n i : ℕ) → get_or (word_bytes n) i 0 < 256
unfolding word_bytes
word_small n zero = omega arith
word_small n (suc zero) = omega arith
word_small n (suc (suc zero)) = omega arith
word_small n (suc (suc (suc zero))) = omega arith
word_small n (suc (suc (suc (suc i)))) = omega arith

-- where its file is
pub data-bytes : (sh : Shape) (file : List ℕ) → ((i : ℕ) → get_or file i 0 < 256) → (i : ℕ) → get_or (data_string sh file) i 0 < 256
unfolding data_string
data-bytes sh file small =
    let n = capacity sh - 4 - length file in
    append-bytes (word_bytes (length file)) (file ++ replicate n 0) (word_small (length file)) (append-bytes file (replicate n 0) small (zeros-bytes n))
