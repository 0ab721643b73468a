-- What a second turn over a text in the form finds: the line of each packet at its place, its numbers and its bytes.
use Rattle.std.specs.Prelude.{Option, Some}
use mathlib.Core.Path.{◌≡◌, sym, ap, ◌∙◌}
use mathlib.Core.List.{List, ◌++◌, append_assoc}
use Prim.Native.Nat.{ℕ, ◌+◌, ◌*◌, ◌≤◌}
use native.Mathlib.Omega.{arith}
use lib.ListN.{length, take, drop, take-append-drop}
use lib.Seq.{drop-append-add, drop-append_seam}
use Rattle.shape.specs.declared.Shape.{Shape}
use Rattle.pack.specs.Packs.{Packet}
use Rattle.printing.specs.Text.{ascii}
use Rattle.text.specs.Form.{packet_line, packet_lines, first_line, text_of, Formed}
use Rattle.text.specs.Inner.Lines.{HexLine, three_of, ThreeOutcome, three_found, three_nothing, pair_bytes}
use Rattle.text.specs.Inner.Scan.{line_at}
use Rattle.text.proofs.Standing.{found-behind}
use Rattle.text.proofs.Hexadecimal.{hex-line-of}
use Rattle.text.proofs.Parts.{line_end, end-no-digit}
use Rattle.text.proofs.FirstTurn.{packet_lines-append}

-- ---- places of lines

module _ (sh : Shape) (ks : List Packet) where
  packets-parts : (i : ℕ) → packet_lines ks ≡ packet_lines (take i ks) ++ packet_lines (drop i ks)
  packets-parts i = ap packet_lines (sym (take-append-drop i ks)) ∙ packet_lines-append (take i ks) (drop i ks)

  -- from the line of packet i on stand the lines of the packets from i on
  pub line-rest : (i : ℕ) → drop (line_at sh ks i) (text_of sh ks) ≡ packet_lines (drop i ks)
  unfolding line_at text_of
  line-rest i =
      let before = packet_lines (take i ks) in
      drop-append-add (first_line sh) (packet_lines ks) (length before)
      ∙ (ap (drop (length before)) (packets-parts i) ∙ drop-append_seam before (packet_lines (drop i ks)))

  pub line_first : line_at sh ks 0 ≡ length (first_line sh)
  unfolding line_at packet_lines
  line_first = omega arith

-- ---- a line once more

-- `three` at the line of packet k answers its numbers, and behind them stand its bytes.
pub record LineRead (w : ℕ) (t : List ℕ) (at : ℕ) (k : Packet) (rest : List ℕ) (r : Option (ℕ × ℕ × ℕ × ℕ)) : Type 0 where
  pub end : ℕ
  pub answer : r ≡ Some (k.a, k.b, k.c, end)
  pub low : at ≤ end
  pub hex : HexLine w t end
  pub bytes : k.bytes ≡ pair_bytes t end w
  pub behind : rest ≡ drop (end + 3 * w + 1) t

pub line_read : (w : ℕ) (t : List ℕ) (at : ℕ) (k : Packet) (rest : List ℕ) (r : Option (ℕ × ℕ × ℕ × ℕ)) → Formed w k → drop at t ≡ packet_line k ++ rest
    → ThreeOutcome (ascii "packet ") t at r → LineRead w t at k rest r
unfolding packet_line
line_read w t at k rest _ f e (three_nothing never) =
    absurd (never (k.a, (k.b, k.c)) (line_end k.bytes ++ rest) (f.a_digits, (f.b_digits, f.c_digits)) (end-no-digit k.bytes rest)
    (e ∙ append_assoc (three_of (ascii "packet ") (k.a, (k.b, k.c))) (line_end k.bytes) rest))
line_read w t at k rest _ f e (three_found a b c end g) =
    let z : ℕ × (ℕ × ℕ) = (k.a, (k.b, k.c)) in
    let e' = e ∙ append_assoc (three_of (ascii "packet ") z) (line_end k.bytes) rest in
    let u = g.only z (line_end k.bytes ++ rest) (f.a_digits, (f.b_digits, f.c_digits)) (end-no-digit k.bytes rest) e' in
    let (hex, bytes, behind) = hex-line-of w t end k.bytes rest g.inside (f.size, f.bytes) (found-behind _ _ _ t at _ z end _ g u e') in
    record { end = end; answer = λ i. Some ((sym u i).0, (sym u i).1.0, (sym u i).1.1, end); low = g.low; hex = hex; bytes = bytes; behind = behind }
