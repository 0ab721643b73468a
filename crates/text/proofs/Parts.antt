-- The parts of a line put together: a label and a number, three numbers, a packet's line, the line of the shape.
use Rattle.std.specs.Prelude.{Option, Some, None}
use mathlib.Core.Path.{◌≡◌, refl, sym, ap, ◌∙◌}
use mathlib.Core.List.{List, [], ◌∷◌, ◌++◌, append_assoc, append_cancel_left}
use Prim.Native.Nat.{ℕ, ◌+◌, ◌*◌, ◌≤◌}
use native.Mathlib.Omega.{arith}
use lib.ListN.{length, drop}
use Rattle.answer.proofs.Tuples.{some-four}
use Rattle.std.proofs.lemmas.Option.{some_pair_parts}
use Rattle.span.specs.Span.{SameBytes}
use Rattle.shape.specs.declared.Shape.{Shape}
use Rattle.pack.specs.Packs.{Packet}
use Rattle.printing.specs.Text.{ascii, decimal, numbered, triple, number_line, shape_line}
use Rattle.text.specs.Form.{hex_bytes, packet_line, first_line}
use Rattle.text.specs.Inner.Numbers.{NoDigit, Short, Found, Never, NumberOutcome, number_found, number_nothing}
use Rattle.text.specs.Inner.Lines.{Any, Bytes, HexLine, three_of, ThreeShort, ThreeOutcome, three_found, three_nothing, PacketLineOutcome, packet_found, packet_nothing, ShapeLineOutcome, shape_found, shape_nothing, pair_bytes}
use Rattle.text.proofs.Standing.{get_or-place, stands_by, stands-inside, stands_char, then_found, first-never, second-never}
use Rattle.text.proofs.Hexadecimal.{hex-line-found, hex-line-never}

-- ---- what an answer tells

pub number-some : {p : ℕ → List ℕ} {t : List ℕ} {at : ℕ} (r : Option (ℕ × ℕ)) (v end : ℕ) → NumberOutcome p t at r → r ≡ Some (v, end)
    → Found p Short NoDigit t at v end
number-some _ v end (number_found v' end' f) e =
    let (same, ends) = some_pair_parts _ v _ end e in
    rw (same, ends) at f
number-some _ v end (number_nothing n) e = let z : ◌≡◌ {A = ℕ} 0 1 = cc in absurd (omega arith)

pub number-none : {p : ℕ → List ℕ} {t : List ℕ} {at : ℕ} (r : Option (ℕ × ℕ)) → NumberOutcome p t at r → r ≡ None
    → Never p Short NoDigit t at
number-none _ (number_found v end f) e = let z : ◌≡◌ {A = ℕ} 0 1 = cc in absurd (omega arith)
number-none _ (number_nothing n) e = n

pub three-some : {label t : List ℕ} {at : ℕ} (r : Option (ℕ × ℕ × ℕ × ℕ)) (a b c end : ℕ) → ThreeOutcome label t at r → r ≡ Some (a, b, c, end)
    → Found (three_of label) ThreeShort NoDigit t at (a, (b, c)) end
three-some _ a b c end (three_found a' b' c' end' f) e =
    let (ea, eb, ec, ends) = some-four _ a _ b _ c _ end e in
    rw (ea, eb, ec, ends) at f
three-some _ a b c end (three_nothing n) e = let z : ◌≡◌ {A = ℕ} 0 1 = cc in absurd (omega arith)

pub three-none : {label t : List ℕ} {at : ℕ} (r : Option (ℕ × ℕ × ℕ × ℕ)) → ThreeOutcome label t at r → r ≡ None
    → Never (three_of label) ThreeShort NoDigit t at
three-none _ (three_found a b c end f) e = let z : ◌≡◌ {A = ℕ} 0 1 = cc in absurd (omega arith)
three-none _ (three_nothing n) e = n

-- ---- a label and a number

module _ (label t : List ℕ) (at : ℕ) where
  same-label : (rest : List ℕ) → at ≤ length t → drop at t ≡ label ++ rest → SameBytes t at label 0 (length label)
  same-label rest l e =
      record {
        inside = (stands-inside t label at rest e l, omega arith);
        bytes = λ i k. stands_char t label at rest e i k ∙ get_or-place label i (0 + i) (omega arith);
      }

  pub label-never : at ≤ length t → (SameBytes t at label 0 (length label) → ⊥) → NumberOutcome (numbered label) t at None
  unfolding numbered
  label-never l h =
      number_nothing (λ (n : ℕ) (rest : List ℕ) s d e. h (same-label (decimal n ++ rest) l (e ∙ append_assoc label (decimal n) rest)))

  pub label-found : (r : Option (ℕ × ℕ)) → SameBytes t at label 0 (length label) → NumberOutcome decimal t (at + length label) r
      → NumberOutcome (numbered label) t at r
  unfolding numbered
  label-found _ same (number_found v end f) =
      let l = f.low in
      let here = stands_by t label at same.inside.0 (λ i k. same.bytes i k ∙ get_or-place label (0 + i) i (omega arith)) in
      number_found v end
      (record {
        good = f.good;
        low = omega arith;
        inside = f.inside;
        stands = here ∙ (ap (λ (r : List ℕ). label ++ r) f.stands ∙ sym (append_assoc label (decimal v) (drop end t)));
        only = λ (n : ℕ) (rest : List ℕ) s d e.
            f.only n rest s d (append_cancel_left label _ _ (sym here ∙ (e ∙ append_assoc label (decimal n) rest)));
      })
  label-found _ same (number_nothing never) =
      let here = stands_by t label at same.inside.0 (λ i k. same.bytes i k ∙ get_or-place label (0 + i) i (omega arith)) in
      number_nothing (λ (n : ℕ) (rest : List ℕ) s d e.
      never n rest s d (append_cancel_left label _ _ (sym here ∙ (e ∙ append_assoc label (decimal n) rest))))

-- ---- three numbers

abbrev pub spaced : ℕ → List ℕ
spaced n = numbered (ascii " ") n

abbrev pub two_spaced : ℕ × ℕ → List ℕ
two_spaced z = spaced z.0 ++ spaced z.1

abbrev pub TwoShort : ℕ × ℕ → Type 0
TwoShort z = Short z.0 × Short z.1

-- behind a space no digit of the number before follows
pub space-no-digit : (n : ℕ) (rest : List ℕ) → NoDigit (spaced n ++ rest)
unfolding numbered
space-no-digit n rest h = absurd (omega arith)

pub two-no-digit : (z : ℕ × ℕ) (rest : List ℕ) → NoDigit (two_spaced z ++ rest)
unfolding numbered
two-no-digit z rest h = absurd (omega arith)

module _ (label t : List ℕ) (at : ℕ) where
  pub first-nothing : Never (numbered label) Short NoDigit t at → ThreeOutcome label t at None
  unfolding triple
  first-nothing never = three_nothing (first-never (numbered label) two_spaced Short TwoShort NoDigit NoDigit two-no-digit t at never)

  module _ (a mid : ℕ) (f : Found (numbered label) Short NoDigit t at a mid) where
    behind-nothing : Never two_spaced TwoShort NoDigit t mid → ThreeOutcome label t at None
    unfolding triple
    behind-nothing never =
        three_nothing (second-never (numbered label) two_spaced Short TwoShort NoDigit NoDigit two-no-digit t at a mid f never)

    pub second-nothing : Never spaced Short NoDigit t mid → ThreeOutcome label t at None
    second-nothing never = behind-nothing (first-never spaced spaced Short Short NoDigit NoDigit space-no-digit t mid never)

    module _ (b last : ℕ) (g : Found spaced Short NoDigit t mid b last) where
      pub third-nothing : Never spaced Short NoDigit t last → ThreeOutcome label t at None
      third-nothing never = behind-nothing (second-never spaced spaced Short Short NoDigit NoDigit space-no-digit t mid b last g never)

      pub three-read : (c end : ℕ) → Found spaced Short NoDigit t last c end → ThreeOutcome label t at (Some (a, b, c, end))
      unfolding triple
      three-read c end h =
          three_found a b c end (then_found (numbered label) two_spaced Short TwoShort NoDigit NoDigit two-no-digit t at a (b, c) mid end f
          (then_found spaced spaced Short Short NoDigit NoDigit space-no-digit t mid b c last end g h))

-- ---- lines

-- bytes and the line's end
abbrev pub line_end : List ℕ → List ℕ
line_end bs = hex_bytes bs ++ ascii "\n"

pub end-no-digit : (bs rest : List ℕ) → NoDigit (line_end bs ++ rest)
unfolding hex_bytes
end-no-digit [] rest h = absurd (omega arith)
end-no-digit (b ∷ bs) rest h = absurd (omega arith)

module _ (w : ℕ) (t : List ℕ) (at : ℕ) where
  abbrev packet_numbers : ℕ × (ℕ × ℕ) → List ℕ
  packet_numbers z = three_of (ascii "packet ") z

  -- a packet as its parts
  packet-never : Never {A = (ℕ × (ℕ × ℕ)) × List ℕ} (λ z. packet_numbers z.0 ++ line_end z.1) (λ z. ThreeShort z.0 × Bytes w z.1) Any t at
      → PacketLineOutcome w t at None
  unfolding packet_line
  packet-never never =
      packet_nothing (λ (k : Packet) (rest : List ℕ) f u e.
      never ((k.a, (k.b, k.c)), k.bytes) rest ((f.a_digits, (f.b_digits, f.c_digits)), (f.size, f.bytes)) u e)

  pub packet-numbers-none : Never packet_numbers ThreeShort NoDigit t at → PacketLineOutcome w t at None
  packet-numbers-none never =
      packet-never (first-never packet_numbers line_end ThreeShort (Bytes w) NoDigit Any end-no-digit t at never)

  module _ (a b c mid : ℕ) (f : Found packet_numbers ThreeShort NoDigit t at (a, (b, c)) mid) where
    pub packet-bytes-none : (HexLine w t mid → ⊥) → PacketLineOutcome w t at None
    packet-bytes-none h =
        packet-never (second-never packet_numbers line_end ThreeShort (Bytes w) NoDigit Any end-no-digit t at (a, (b, c)) mid f
        (hex-line-never w t mid f.inside h))

    pub packet-read : HexLine w t mid → PacketLineOutcome w t at (Some (a, b, c, (mid + 3 * w + 1)))
    unfolding packet_line
    packet-read h =
        let bs = pair_bytes t mid w in
        let g = hex-line-found w t mid h in
        let p = then_found packet_numbers line_end ThreeShort (Bytes w) NoDigit Any end-no-digit t at (a, (b, c)) bs mid (mid + 3 * w + 1) f g in
        packet_found (record { a = a; b = b; c = c; bytes = bs }) (mid + 3 * w + 1)
        (record {
          good =
              record {
                a_digits = f.good.0;
                b_digits = f.good.1.0;
                c_digits = f.good.1.1;
                size = g.good.0;
                bytes = g.good.1;
              };
          low = p.low;
          inside = p.inside;
          stands = p.stands;
          only = λ (k : Packet) (rest : List ℕ) d u e.
              let q = p.only ((k.a, (k.b, k.c)), k.bytes) rest ((d.a_digits, (d.b_digits, d.c_digits)), (d.size, d.bytes)) u e in
              λ i. record { a = (q i).0.0; b = (q i).0.1.0; c = (q i).0.1.1; bytes = (q i).1 };
        })

abbrev shape_numbers : ℕ × (ℕ × ℕ) → List ℕ
shape_numbers z = three_of (ascii "shape ") z

-- W and the line's end, with no bytes before it
abbrev pub width_end : ℕ × List ℕ → List ℕ
width_end z = spaced z.0 ++ line_end z.1

abbrev pub WidthShort : ℕ × List ℕ → Type 0
WidthShort z = Short z.0 × Bytes 0 z.1

pub width-no-digit : (z : ℕ × List ℕ) (rest : List ℕ) → NoDigit (width_end z ++ rest)
unfolding numbered
width-no-digit z rest h = absurd (omega arith)

module _ (t : List ℕ) where
  shape-never : Never {A = (ℕ × (ℕ × ℕ)) × (ℕ × List ℕ)} (λ z. shape_numbers z.0 ++ width_end z.1) (λ z. ThreeShort z.0 × WidthShort z.1) Any t 0
      → ShapeLineOutcome t None
  unfolding first_line shape_line number_line hex_bytes
  shape-never never =
      shape_nothing (λ (sh : Shape) (rest : List ℕ) f u e.
      never ((sh.l1, (sh.l2, sh.l3)), (sh.w, [])) rest
      ((f.l1_digits, (f.l2_digits, f.l3_digits)), (f.w_digits, (refl, λ i. omega arith))) u e)

  pub lengths_none : Never shape_numbers ThreeShort NoDigit t 0 → ShapeLineOutcome t None
  lengths_none never = shape-never (first-never shape_numbers width_end ThreeShort WidthShort NoDigit Any width-no-digit t 0 never)

  module _ (l1 l2 l3 mid : ℕ) (f : Found shape_numbers ThreeShort NoDigit t 0 (l1, (l2, l3)) mid) where
    behind-lengths : Never width_end WidthShort Any t mid → ShapeLineOutcome t None
    behind-lengths never =
        shape-never (second-never shape_numbers width_end ThreeShort WidthShort NoDigit Any width-no-digit t 0 (l1, (l2, l3)) mid f never)

    pub width-none : Never spaced Short NoDigit t mid → ShapeLineOutcome t None
    width-none never = behind-lengths (first-never spaced line_end Short (Bytes 0) NoDigit Any end-no-digit t mid never)

    module _ (w last : ℕ) (g : Found spaced Short NoDigit t mid w last) where
      pub line-end-none : (HexLine 0 t last → ⊥) → ShapeLineOutcome t None
      line-end-none h =
          behind-lengths (second-never spaced line_end Short (Bytes 0) NoDigit Any end-no-digit t mid w last g
          (hex-line-never 0 t last g.inside h))

      pub shape-read : HexLine 0 t last → ShapeLineOutcome t (Some ((record { l1 = l1; l2 = l2; l3 = l3; w = w }), (last + 1)))
      unfolding first_line shape_line number_line hex_bytes pair_bytes
      shape-read h =
          let place : last + 3 * 0 + 1 ≡ last + 1 = omega arith in
          let n = rw place at (hex-line-found 0 t last h) in
          let v = then_found spaced line_end Short (Bytes 0) NoDigit Any end-no-digit t mid w [] last (last + 1) g n in
          let p = then_found shape_numbers width_end ThreeShort WidthShort NoDigit Any width-no-digit t 0 (l1, (l2, l3)) (w, []) mid (last + 1) f v in
          shape_found (record { l1 = l1; l2 = l2; l3 = l3; w = w }) (last + 1)
          (record {
            good =
                record {
                  l1_digits = f.good.0;
                  l2_digits = f.good.1.0;
                  l3_digits = f.good.1.1;
                  w_digits = g.good;
                };
            low = p.low;
            inside = p.inside;
            stands = p.stands;
            only = λ (sh : Shape) (rest : List ℕ) d u e.
                let q = p.only ((sh.l1, (sh.l2, sh.l3)), (sh.w, [])) rest
                ((d.l1_digits, (d.l2_digits, d.l3_digits)), (d.w_digits, (refl, λ i. omega arith))) u e in
                λ i. record { l1 = (q i).0.0; l2 = (q i).0.1.0; l3 = (q i).0.1.1; w = (q i).1.0 };
          })
