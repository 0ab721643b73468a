-- A line has one newline, at its end: a text has one for the shape and one a packet.
use mathlib.Core.Path.{◌≡◌, refl}
use mathlib.Core.List.{List, [], ◌∷◌, ◌++◌}
use Prim.Native.Nat.{ℕ, suc, ◌+◌, ◌/◌, ◌%◌, ◌<◌}
use native.Mathlib.Omega.{arith}
use lib.ListN.{length, get_or}
use borrow.Author.Tests.{ne_eqb}
use Rattle.shape.specs.declared.Shape.{Shape}
use Rattle.pack.specs.Packs.{Packet}
use Rattle.pack.specs.Packets.{packet_no}
use Rattle.printing.specs.Text.{ascii, decimal, hex_digit, hex_byte, numbered, triple, number_line, shape_line}
use Rattle.text.specs.Form.{hex_bytes, packet_line, packet_lines, first_line, text_of, Numbers, Formed}
use Rattle.text.specs.Theorems.{newlines, LinesCounted}
use Rattle.text.specs.Inner.Lines.{HexChar, digit, letter}
use Rattle.text.proofs.Decimals.{Digits, dec-decimal, dec-digits}
use Rattle.text.proofs.Hexadecimal.{digit_char}

newlines-append : (xs ys : List ℕ) → newlines (xs ++ ys) ≡ newlines xs + newlines ys
unfolding newlines
newlines-append [] ys = omega arith
newlines-append (x ∷ xs) ys = omega (arith, newlines-append xs ys)

newlines-digits : (ds : List ℕ) → Digits ds → newlines ds ≡ 0
unfolding newlines Digits
newlines-digits [] h = refl
newlines-digits (d ∷ ds) h = rw (ne_eqb d 10 (λ e. omega (arith, h.0)), newlines-digits ds h.2)

newlines-decimal : (n : ℕ) → n < 100000 → newlines (decimal n) ≡ 0
newlines-decimal n l = newlines-digits (decimal n) (dec-digits (dec-decimal n l))

newlines-numbered : (label : List ℕ) (n : ℕ) → newlines label ≡ 0 → n < 100000 → newlines (numbered label n) ≡ 0
unfolding numbered
newlines-numbered label n h l = omega (arith, newlines-append label (decimal n), newlines-decimal n l)

newlines-space : (n : ℕ) → n < 100000 → newlines (numbered (ascii " ") n) ≡ 0
unfolding newlines
newlines-space n l = newlines-numbered (ascii " ") n refl l

newlines-triple : (label : List ℕ) (a b c : ℕ) → newlines label ≡ 0 → a < 100000 → b < 100000 → c < 100000 → newlines (triple label a b c) ≡ 0
unfolding triple
newlines-triple label a b c h p q r =
    let second = numbered (ascii " ") b in
    let third = numbered (ascii " ") c in
    omega
    (arith, newlines-append (numbered label a) (second ++ third), newlines-append second third, newlines-numbered label a h p, newlines-space b q, newlines-space c r)

hex-no-newline : (c : ℕ) → HexChar c → c ≡ 10 → ⊥
hex-no-newline c (digit l h) e = omega arith
hex-no-newline c (letter l h) e = omega arith

newlines-bytes : (bs : List ℕ) → ((i : ℕ) → get_or bs i 0 < 256) → newlines (hex_bytes bs) ≡ 0
unfolding newlines hex_bytes hex_byte
newlines-bytes [] h = refl
newlines-bytes (b ∷ bs) h =
    let l : b < 256 = h 0 in
    rw (
      ne_eqb (hex_digit (b / 16)) 10 (hex-no-newline _ (digit_char (b / 16) (omega arith))),
      ne_eqb (hex_digit (b % 16)) 10 (hex-no-newline _ (digit_char (b % 16) (omega arith))),
      newlines-bytes bs (λ i. h (suc i)),
    )

newlines-packet : (w : ℕ) (k : Packet) → Formed w k → newlines (packet_line k) ≡ 1
unfolding newlines packet_line
newlines-packet w k f =
    let numbers = triple (ascii "packet ") k.a k.b k.c in
    let bytes = hex_bytes k.bytes in
    let end : newlines (ascii "\n") ≡ 1 = refl in
    omega
    (arith, newlines-append numbers (bytes ++ ascii "\n"), newlines-append bytes (ascii "\n"), newlines-triple (ascii "packet ") k.a k.b k.c refl f.a_digits f.b_digits f.c_digits, newlines-bytes k.bytes f.bytes)

newlines-shape : (sh : Shape) → Numbers sh → newlines (first_line sh) ≡ 1
unfolding newlines first_line shape_line number_line
newlines-shape sh f =
    let lengths = triple (ascii "shape ") sh.l1 sh.l2 sh.l3 in
    let width = numbered (ascii " ") sh.w in
    let end : newlines (ascii "\n") ≡ 1 = refl in
    omega
    (arith, newlines-append lengths (width ++ ascii "\n"), newlines-append width (ascii "\n"), newlines-triple (ascii "shape ") sh.l1 sh.l2 sh.l3 refl f.l1_digits f.l2_digits f.l3_digits, newlines-space sh.w f.w_digits)

newlines-packets : (w : ℕ) (ks : List Packet) → ((i : ℕ) → i < length ks → Formed w (packet_no ks i)) → newlines (packet_lines ks) ≡ length ks
unfolding newlines packet_lines packet_no
newlines-packets w [] h = refl
newlines-packets w (k ∷ ks) h =
    omega
    (arith, newlines-append (packet_line k) (packet_lines ks), newlines-packet w k (h 0 (omega arith)), newlines-packets w ks (λ i l. h (suc i) (omega arith)))

pub lines-counted : LinesCounted
unfolding LinesCounted text_of
lines-counted sh ks f =
    omega
    (arith, newlines-append (first_line sh) (packet_lines ks), newlines-shape sh f.numbers, newlines-packets sh.w ks f.packets)
