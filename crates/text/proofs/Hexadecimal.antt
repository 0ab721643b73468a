-- Bytes as two hexadecimal digits, a space before each: the kinds of characters, decoding, and the bytes that stand in a line.
use mathlib.Core.Path.{◌≡◌, refl, sym, ap, subst, ◌∙◌}
use mathlib.Core.Bool.{Bool, true, false, cond}
use mathlib.Core.List.{List, [], ◌∷◌, ◌++◌, append_assoc}
use Prim.Native.Nat.{ℕ, zero, suc, ◌+◌, ◌-◌, ◌*◌, ◌/◌, ◌%◌, ◌≤◌, ◌<◌}
use native.Mathlib.Omega.{arith}
use lib.Bits.{bit_or, bit_xor}
use lib.Dec.{ltb, eqb}
use lib.ListN.{length, get_or, drop}
use borrow.Author.Tests.{lt-ltb, le-ltb, ltb-true, ltb-false, eqb-true}
use Rattle.span.specs.Decision.{Decides}
use Rattle.span.proofs.Decision.{decides_eq}
use Rattle.span.proofs.Joining.{or-zero, xor-zero}
use Rattle.printing.specs.Text.{ascii, hex_digit, hex_byte}
use Rattle.text.specs.Form.{hex_bytes}
use Rattle.text.specs.Inner.Numbers.{Found, Never}
use Rattle.text.specs.Inner.Lines.{Any, HexChar, digit, letter, char_kind, hex_value, Pair, Pairs, HexLine, Bytes, pair_byte, pair_bytes}
use Rattle.text.proofs.Standing.{cons-path, drop-one, drop_at, get_or-place, stands-inside, stands-rest, stands_char}

-- ---- characters

data Kind (c : ℕ) : ℕ → Type 0 where
  hexadecimal : HexChar c → Kind c 0
  space : c ≡ 32 → Kind c 1
  other : Kind c 2

kind-of : (c : ℕ) → Kind c (char_kind c)
unfolding char_kind
kind-of c = below-48 (ltb c 48) refl
  where
    below-103 : (b : Bool) → ltb c 103 ≡ b → 97 ≤ c → Kind c (cond b 0 2)
    below-103 true l m = hexadecimal (letter m (ltb-true c 103 l))
    below-103 false l m = other

    below-97 : (b : Bool) → ltb c 97 ≡ b → Kind c (cond b 2 (cond (ltb c 103) 0 2))
    below-97 true l = other
    below-97 false l = below-103 (ltb c 103) refl (ltb-false c 97 l)

    below-58 : (b : Bool) → ltb c 58 ≡ b → 48 ≤ c → Kind c (cond b 0 (cond (ltb c 97) 2 (cond (ltb c 103) 0 2)))
    below-58 true l m = hexadecimal (digit m (ltb-true c 58 l))
    below-58 false l m = below-97 (ltb c 97) refl

    is_32 : (b : Bool) → eqb c 32 ≡ b → Kind c (cond b 1 2)
    is_32 true l = space (eqb-true c 32 l)
    is_32 false l = other

    below-48 : (b : Bool) → ltb c 48 ≡ b → Kind c (cond b (cond (eqb c 32) 1 2) (cond (ltb c 58) 0 (cond (ltb c 97) 2 (cond (ltb c 103) 0 2))))
    below-48 true l = is_32 (eqb c 32) refl
    below-48 false l = below-58 (ltb c 58) refl (ltb-false c 48 l)

pub kind-char : (c : ℕ) → char_kind c ≡ 0 → HexChar c
kind-char c e = told (char_kind c) (kind-of c) e
  where
    told : (n : ℕ) → Kind c n → n ≡ 0 → HexChar c
    told _ (hexadecimal h) e = h
    told _ (space h) e = absurd (omega arith)
    told _ other e = absurd (omega arith)

pub kind-space : (c : ℕ) → char_kind c ≡ 1 → c ≡ 32
kind-space c e = told (char_kind c) (kind-of c) e
  where
    told : (n : ℕ) → Kind c n → n ≡ 1 → c ≡ 32
    told _ (hexadecimal h) e = absurd (omega arith)
    told _ (space h) e = h
    told _ other e = absurd (omega arith)

pub char-kind : (c : ℕ) → HexChar c → char_kind c ≡ 0
unfolding char_kind
char-kind c (digit l h) = rw (le-ltb c 48 l, lt-ltb c 58 h)
char-kind c (letter l h) = rw (le-ltb c 48 (omega arith), le-ltb c 58 (omega arith), le-ltb c 97 l, lt-ltb c 103 h)

pub space-kind : (c : ℕ) → c ≡ 32 → char_kind c ≡ 1
unfolding char_kind
space-kind c e = rw e

-- a digit decoded prints as it stood
pub value-small : (c : ℕ) → HexChar c → hex_value c < 16
unfolding hex_value
value-small c (digit l h) = omega arith
value-small c (letter l h) = omega arith

pub digit_value : (c : ℕ) → HexChar c → hex_digit (hex_value c) ≡ c
unfolding hex_value hex_digit
digit_value c (digit l h) = rw (lt-ltb (c % 16 + 9 * (c / 64)) 10 (omega arith)) (omega arith)
digit_value c (letter l h) = rw (le-ltb (c % 16 + 9 * (c / 64)) 10 (omega arith)) (omega arith)

-- a digit printed decodes to itself
digit-cases : (P : ℕ → ℕ → Type 0) → ((d : ℕ) → d < 10 → P d (48 + d)) → ((d : ℕ) → 10 ≤ d → d < 16 → P d (87 + d))
    → (d : ℕ) → d < 16 → P d (hex_digit d)
unfolding hex_digit
digit-cases P low high d l = by_size (ltb d 10) refl
  where
    by_size : (b : Bool) → ltb d 10 ≡ b → P d (cond b (48 + d) (87 + d))
    by_size true e = low d (ltb-true d 10 e)
    by_size false e = high d (ltb-false d 10 e) l

pub digit_char : (d : ℕ) → d < 16 → HexChar (hex_digit d)
digit_char =
    digit-cases (λ d c. HexChar c) (λ d l. digit (omega arith) (omega arith)) (λ d l h. letter (omega arith) (omega arith))

pub value-digit : (d : ℕ) → d < 16 → hex_value (hex_digit d) ≡ d
unfolding hex_value
value-digit = digit-cases (λ d c. hex_value c ≡ d) (λ d l. omega arith) (λ d l h. omega arith)

-- ---- bytes

module _ (t : List ℕ) where
  pair_small : (at : ℕ) → Pair t at → pair_byte t at < 256
  unfolding pair_byte
  pair_small at f = omega (arith, value-small _ (kind-char _ f.high), value-small _ (kind-char _ f.low))

  pair-stands : (at : ℕ) → at + 3 ≤ length t → Pair t at → drop at t ≡ 32 ∷ (hex_byte (pair_byte t at) ++ drop (at + 3) t)
  unfolding hex_byte pair_byte
  pair-stands at l f =
      let h = kind-char _ f.high in
      let k = kind-char _ f.low in
      let hs = value-small _ h in
      let ks = value-small _ k in
      let b = 16 * hex_value (get_or t (at + 1) 0) + hex_value (get_or t (at + 2) 0) in
      let high : b / 16 ≡ hex_value (get_or t (at + 1) 0) = omega arith in
      let low : b % 16 ≡ hex_value (get_or t (at + 2) 0) = omega arith in
      let second : drop (at + 1) t ≡ get_or t (at + 1) 0 ∷ drop (at + 2) t = drop-one t (at + 1) (omega arith) ∙ cons-path refl (drop_at t (at + 1 + 1) (at + 2) (omega arith)) in
      let third : drop (at + 2) t ≡ get_or t (at + 2) 0 ∷ drop (at + 3) t = drop-one t (at + 2) (omega arith) ∙ cons-path refl (drop_at t (at + 2 + 1) (at + 3) (omega arith)) in
      drop-one t at (omega arith)
      ∙ cons-path (kind-space _ f.space)
      (second
      ∙ cons-path (sym (ap hex_digit high ∙ digit_value _ h)) (third ∙ cons-path (sym (ap hex_digit low ∙ digit_value _ k)) refl))

  pub pairs-length : (at w : ℕ) → length (pair_bytes t at w) ≡ w
  unfolding pair_bytes
  pairs-length at zero = refl
  pairs-length at (suc w) = ap suc (pairs-length (at + 3) w)

  pairs_next : (at w : ℕ) → Pairs t at (suc w) → Pairs t (at + 3) w
  pairs_next at w h i l = subst (Pair t) (omega arith) (h (suc i) (omega arith))

  pub pairs_first : (at w : ℕ) → 0 < w → Pairs t at w → Pair t at
  pairs_first at w p h = subst (Pair t) (omega arith) (h 0 p)

  pub pairs_small : (at w : ℕ) → Pairs t at w → (i : ℕ) → get_or (pair_bytes t at w) i 0 < 256
  unfolding pair_bytes
  pairs_small at zero h i = omega arith
  pairs_small at (suc w) h zero = pair_small at (pairs_first at (suc w) (omega arith) h)
  pairs_small at (suc w) h (suc i) = pairs_small (at + 3) w (pairs_next at w h) i

  pub pairs-stand : (at w : ℕ) → at + 3 * w ≤ length t → Pairs t at w → drop at t ≡ hex_bytes (pair_bytes t at w) ++ drop (at + 3 * w) t
  unfolding hex_bytes pair_bytes
  pairs-stand at zero l h = drop_at t at (at + 3 * 0) (omega arith)
  pairs-stand at (suc w) l h =
      let b = hex_byte (pair_byte t at) in
      let rest = hex_bytes (pair_bytes t (at + 3) w) in
      let end : at + 3 + 3 * w ≡ at + 3 * suc w = omega arith in
      let more = pairs-stand (at + 3) w (omega arith) (pairs_next at w h) ∙ ap (λ (r : List ℕ). rest ++ r) (drop_at t _ _ end) in
      pair-stands at (omega arith) (pairs_first at (suc w) (omega arith) h)
      ∙ cons-path refl (ap (λ (r : List ℕ). b ++ r) more ∙ sym (append_assoc b rest (drop (at + 3 * suc w) t)))

  -- a byte that stands there is the one decoded
  byte-decoded : (at b : ℕ) (rest : List ℕ) → b < 256 → at ≤ length t → drop at t ≡ 32 ∷ (hex_byte b ++ rest)
      → (at + 3 ≤ length t) × Pair t at × (b ≡ pair_byte t at) × (rest ≡ drop (at + 3) t)
  unfolding hex_byte pair_byte
  byte-decoded at b rest s l e =
      let chars : List ℕ = 32 ∷ hex_digit (b / 16) ∷ hex_digit (b % 16) ∷ [] in
      let c0 : get_or t at 0 ≡ 32 = get_or-place t at (at + 0) (omega arith) ∙ stands_char t chars at rest e 0 (omega arith) in
      let c1 : get_or t (at + 1) 0 ≡ hex_digit (b / 16) = stands_char t chars at rest e 1 (omega arith) in
      let c2 : get_or t (at + 2) 0 ≡ hex_digit (b % 16) = stands_char t chars at rest e 2 (omega arith) in
      let high : hex_value (get_or t (at + 1) 0) ≡ b / 16 = ap hex_value c1 ∙ value-digit (b / 16) (omega arith) in
      let low : hex_value (get_or t (at + 2) 0) ≡ b % 16 = ap hex_value c2 ∙ value-digit (b % 16) (omega arith) in (
        stands-inside t chars at rest e l,
        record {
          space = space-kind _ c0;
          high = ap char_kind c1 ∙ char-kind _ (digit_char (b / 16) (omega arith));
          low = ap char_kind c2 ∙ char-kind _ (digit_char (b % 16) (omega arith));
        },
        omega arith,
        stands-rest t chars at rest e,
      )

  -- the first pair and those behind it
  pair_place : (at i w : ℕ) → Pair t at → Pairs t (at + 3) w → i < suc w → Pair t (at + 3 * i)
  pair_place at zero w f h l = subst (Pair t) (omega arith) f
  pair_place at (suc i) w f h l = subst (Pair t) (omega arith) (h i (omega arith))

  -- bytes that stand there are the ones decoded
  pub record Decoded (at w : ℕ) (bs rest : List ℕ) : Type 0 where
    pub inside : at + 3 * w ≤ length t
    pub pairs : Pairs t at w
    pub bytes : bs ≡ pair_bytes t at w
    pub behind : rest ≡ drop (at + 3 * w) t

  pub pairs-decoded : (at w : ℕ) (bs rest : List ℕ) → length bs ≡ w → ((i : ℕ) → get_or bs i 0 < 256) → at ≤ length t → drop at t ≡ hex_bytes bs ++ rest
      → Decoded at w bs rest
  unfolding hex_bytes pair_bytes
  pairs-decoded at zero [] rest n h l e =
      record {
        inside = omega arith;
        pairs = λ i k. absurd (omega arith);
        bytes = refl;
        behind = sym e ∙ drop_at t at (at + 3 * 0) (omega arith);
      }
  pairs-decoded at (suc w) [] rest n h l e = absurd (omega arith)
  pairs-decoded at zero (b ∷ bs) rest n h l e = absurd (omega arith)
  pairs-decoded at (suc w) (b ∷ bs) rest n h l e =
      let f = byte-decoded at b (hex_bytes bs ++ rest) (h 0) l (e ∙ cons-path refl (append_assoc (hex_byte b) (hex_bytes bs) rest)) in
      let d = pairs-decoded (at + 3) w bs rest (omega arith) (λ i. h (suc i)) f.0 (sym f.3) in
      let end : at + 3 + 3 * w ≡ at + 3 * suc w = omega arith in
      let more = d.inside in
      record {
        inside = omega arith;
        pairs = λ i k. pair_place at i w f.1 d.pairs k;
        bytes = cons-path f.2 d.bytes;
        behind = d.behind ∙ drop_at t (at + 3 + 3 * w) (at + 3 * suc w) end;
      }

-- ---- every character is of the kind of the third before it

-- the kinds of a pair's three characters
pair_kind : ℕ → ℕ
pair_kind zero = 1
pair_kind (suc r) = 0

-- the characters i and i + 3 from a place on are of one kind
abbrev pub Alike : List ℕ → ℕ → ℕ → Type 0
Alike t at i = char_kind (get_or t (at + i) 0) ≡ char_kind (get_or t (at + 3 + i) 0)

pub pair-test : (t : List ℕ) (at a b c : ℕ) → a ≡ char_kind (get_or t at 0) → b ≡ char_kind (get_or t (at + 1) 0)
    → c ≡ char_kind (get_or t (at + 2) 0) → Decides (Pair t at) (eqb (bit_or (bit_or (bit_xor a 1) b) c) 0)
pair-test t at a b c ea eb ec =
    decides_eq _ _ (λ f. rw (ea ∙ f.space, eb ∙ f.high, ec ∙ f.low))
    (λ e.
    let (ab, z) = or-zero (bit_or (bit_xor a 1) b) c e in
    let (x, y) = or-zero (bit_xor a 1) b ab in
    record { space = sym ea ∙ xor-zero a 1 x; high = sym eb ∙ y; low = sym ec ∙ z })

module _ (t : List ℕ) (at : ℕ) where
  kind-place : (m n : ℕ) → m ≡ n → char_kind (get_or t m 0) ≡ char_kind (get_or t n 0)
  kind-place m n e = ap (λ (k : ℕ). char_kind (get_or t k 0)) e

  pair-kind : (p r : ℕ) → Pair t p → r < 3 → char_kind (get_or t (p + r) 0) ≡ pair_kind r
  unfolding pair_kind
  pair-kind p zero f l = kind-place (p + 0) p (omega arith) ∙ f.space
  pair-kind p (suc zero) f l = f.high
  pair-kind p (suc (suc zero)) f l = f.low
  pair-kind p (suc (suc (suc r))) f l = absurd (omega arith)

  pub alike-pairs : (w : ℕ) → Pairs t at w → (i : ℕ) → i < 3 * w - 3 → Alike t at i
  alike-pairs w h i l =
      kind-place (at + i) (at + 3 * (i / 3) + i % 3) (omega arith)
      ∙ (pair-kind (at + 3 * (i / 3)) (i % 3) (h (i / 3) (omega arith)) (omega arith)
      ∙ (sym (pair-kind (at + 3 * (i / 3 + 1)) (i % 3) (h (i / 3 + 1) (omega arith)) (omega arith))
      ∙ kind-place (at + 3 * (i / 3 + 1) + i % 3) (at + 3 + i) (omega arith)))

  pub pairs-alike : (w : ℕ) → Pair t at → ((i : ℕ) → i < 3 * w - 3 → Alike t at i) → Pairs t at w
  pairs-alike w f h zero l = subst (Pair t) (omega arith) f
  pairs-alike w f h (suc i) l =
      let g = pairs-alike w f h i (omega arith) in
      let moved : (r : ℕ) → r < 3 → char_kind (get_or t (at + 3 * suc i + r) 0) ≡ char_kind (get_or t (at + 3 * i + r) 0)
      = λ r k.
      kind-place (at + 3 * suc i + r) (at + 3 + (3 * i + r)) (omega arith)
      ∙ (sym (h (3 * i + r) (omega arith)) ∙ kind-place (at + (3 * i + r)) (at + 3 * i + r) (omega arith)) in
      record {
        space =
            kind-place (at + 3 * suc i) (at + 3 * suc i + 0) (omega arith)
            ∙ (moved 0 (omega arith) ∙ (kind-place (at + 3 * i + 0) (at + 3 * i) (omega arith) ∙ g.space));
        high = moved 1 (omega arith) ∙ g.high;
        low = moved 2 (omega arith) ∙ g.low;
      }

-- ---- the line's end

pub hex-line-found : (w : ℕ) (t : List ℕ) (at : ℕ) → HexLine w t at → Found (λ bs. hex_bytes bs ++ ascii "\n") (Bytes w) Any t at (pair_bytes t at w) (at + 3 * w + 1)
hex-line-found w t at h =
    let l = h.inside in
    let bs = hex_bytes (pair_bytes t at w) in
    record {
      good = (pairs-length t at w, pairs_small t at w h.pairs);
      low = omega arith;
      inside = omega arith;
      stands =
          pairs-stand t at w (omega arith) h.pairs
          ∙ (ap (λ (r : List ℕ). bs ++ r) (drop-one t (at + 3 * w) l ∙ cons-path h.newline refl)
          ∙ sym (append_assoc bs (ascii "\n") (drop (at + 3 * w + 1) t)));
      only = λ (cs : List ℕ) (rest : List ℕ) g u e.
          (pairs-decoded t at w cs (ascii "\n" ++ rest) g.0 g.1 (omega arith) (e ∙ append_assoc (hex_bytes cs) (ascii "\n") rest)).bytes;
    }

-- bytes and a newline that stand there are the ones decoded
pub hex-line-of : (w : ℕ) (t : List ℕ) (at : ℕ) (bs rest : List ℕ) → at ≤ length t → Bytes w bs → drop at t ≡ (hex_bytes bs ++ ascii "\n") ++ rest
    → HexLine w t at × (bs ≡ pair_bytes t at w) × (rest ≡ drop (at + 3 * w + 1) t)
hex-line-of w t at bs rest l g e =
    let d = pairs-decoded t at w bs (ascii "\n" ++ rest) g.0 g.1 l (e ∙ append_assoc (hex_bytes bs) (ascii "\n") rest) in
    let end = stands-inside t (ascii "\n") (at + 3 * w) rest (sym d.behind) d.inside in (
      record {
        inside = omega arith;
        newline =
            get_or-place t (at + 3 * w) (at + 3 * w + 0) (omega arith)
            ∙ stands_char t (ascii "\n") (at + 3 * w) rest (sym d.behind) 0 (omega arith);
        pairs = d.pairs;
      },
      d.bytes,
      stands-rest t (ascii "\n") (at + 3 * w) rest (sym d.behind),
    )

pub hex-line-never : (w : ℕ) (t : List ℕ) (at : ℕ) → at ≤ length t → (HexLine w t at → ⊥) → Never (λ bs. hex_bytes bs ++ ascii "\n") (Bytes w) Any t at
hex-line-never w t at l h bs rest g u e = h (hex-line-of w t at bs rest l g e).0

-- the bytes of a line one by one
pub pairs-byte : (t : List ℕ) (at w i : ℕ) → i < w → get_or (pair_bytes t at w) i 0 ≡ pair_byte t (at + 3 * i)
unfolding pair_bytes
pairs-byte t at zero i l = absurd (omega arith)
pairs-byte t at (suc w) zero l = ap (pair_byte t) (omega arith)
pairs-byte t at (suc w) (suc i) l = pairs-byte t (at + 3) w i (omega arith) ∙ ap (pair_byte t) (omega arith)

-- both digits of a byte have values below 16
pub pair_values : (w : ℕ) (t : List ℕ) (at : ℕ) → HexLine w t at → (i : ℕ) → i < w
    → (hex_value (get_or t (at + 3 * i + 1) 0) < 16) × (hex_value (get_or t (at + 3 * i + 2) 0) < 16)
pair_values w t at h i l =
    let p = h.pairs i l in
    (value-small _ (kind-char _ p.high), value-small _ (kind-char _ p.low))
