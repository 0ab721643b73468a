-- One text, one reading: lines that begin one text are equal, so are the lists of packets as far as both go, and one line is the first that
-- breaks the form.
use mathlib.Core.Path.{◌≡◌, refl, sym, ap, subst, ◌∙◌}
use mathlib.Core.Logic.{◌⊎◌, inl, inr}
use mathlib.Core.List.{List, [], ◌∷◌, ◌++◌, append_assoc, append-nil, append_cancel_left}
use Prim.Native.Nat.{ℕ, suc, ◌≤◌, ◌<◌}
use native.Mathlib.Omega.{arith}
use lib.ListN.{length, length-append}
use Rattle.shape.specs.declared.Shape.{Shape}
use Rattle.pack.specs.Packs.{Packet}
use Rattle.pack.specs.Packets.{packet_no}
use Rattle.printing.specs.Text.{ascii, decimal, numbered, triple, number_line, shape_line}
use Rattle.text.specs.Form.{hex_bytes, packet_line, packet_lines, first_line, text_of, Numbers, Formed, InForm, Broken, first_broken, packet_broken}
use Rattle.text.specs.Theorems.{OneReading, BrokenOrForm, OneBroken}
use Rattle.text.specs.Inner.Numbers.{NoDigit, Short}
use Rattle.text.specs.Inner.Lines.{Any, Bytes, three_of, ThreeShort}
use Rattle.text.proofs.Decimals.{dec-decimal, number-only}
use Rattle.text.proofs.Hexadecimal.{pairs-decoded}
use Rattle.text.proofs.Parts.{spaced, two_spaced, TwoShort, line_end, width_end, WidthShort, space-no-digit, two-no-digit, end-no-digit, width-no-digit}
use Rattle.text.proofs.FirstTurn.{line-some}

-- Of two good things that begin one text with good rests behind them, both are one.
abbrev Unique : {A : Type 0} → (A → List ℕ) → (A → Type 0) → (List ℕ → Type 0) → Type 0
Unique {A} print Good Rest =
    (x y : A) (rest more : List ℕ) → Good x → Good y → Rest rest → Rest more → print x ++ rest ≡ print y ++ more → x ≡ y

behind : {A : Type 0} (p : A → List ℕ) (x y : A) (rest more : List ℕ) → x ≡ y → p x ++ rest ≡ p y ++ more → rest ≡ more
behind {A} p x y rest more u e = append_cancel_left (p y) rest more (ap (λ (z : A). p z ++ rest) (sym u) ∙ e)

then-unique : {A B : Type 0} (p : A → List ℕ) (q : B → List ℕ) (G : A → Type 0) (H : B → Type 0) (R S : List ℕ → Type 0)
    → ((b : B) (rest : List ℕ) → R (q b ++ rest)) → Unique p G R → Unique q H S
    → Unique {A = A × B} (λ z. p z.0 ++ q z.1) (λ z. G z.0 × H z.1) S
then-unique {A} {B} p q G H R S ends f g x y rest more hx hy r s e =
    let e' : p x.0 ++ (q x.1 ++ rest) ≡ p y.0 ++ (q y.1 ++ more)
    = sym (append_assoc (p x.0) (q x.1) rest) ∙ (e ∙ append_assoc (p y.0) (q y.1) more) in
    let u = f x.0 y.0 (q x.1 ++ rest) (q y.1 ++ more) hx.0 hy.0 (ends x.1 rest) (ends y.1 more) e' in
    let v = g x.1 y.1 rest more hx.1 hy.1 r s (behind p x.0 y.0 (q x.1 ++ rest) (q y.1 ++ more) u e') in
    λ i. (u i, v i)

-- ---- the parts of a line

numbered-unique : (label : List ℕ) → Unique (numbered label) Short NoDigit
unfolding numbered
numbered-unique label n m rest more hn hm r s e =
    let e' = append_cancel_left label (decimal n ++ rest) (decimal m ++ more)
    (sym (append_assoc label (decimal n) rest) ∙ (e ∙ append_assoc label (decimal m) more)) in
    number-only m (decimal m) more (dec-decimal m hm) (inl s) n rest hn r (sym e')

three-unique : (label : List ℕ) → Unique (three_of label) ThreeShort NoDigit
unfolding triple
three-unique label =
    then-unique (numbered label) two_spaced Short TwoShort NoDigit NoDigit two-no-digit (numbered-unique label)
    (then-unique spaced spaced Short Short NoDigit NoDigit space-no-digit (numbered-unique (ascii " ")) (numbered-unique (ascii " ")))

end-unique : (w : ℕ) → Unique line_end (Bytes w) Any
end-unique w bs cs rest more hb hc r s e =
    let t = hex_bytes bs ++ (ascii "\n" ++ rest) in
    let e' : t ≡ hex_bytes cs ++ (ascii "\n" ++ more)
    = sym (append_assoc (hex_bytes bs) (ascii "\n") rest) ∙ (e ∙ append_assoc (hex_bytes cs) (ascii "\n") more) in
    (pairs-decoded t 0 w bs (ascii "\n" ++ rest) hb.0 hb.1 (omega arith) refl).bytes
    ∙ sym (pairs-decoded t 0 w cs (ascii "\n" ++ more) hc.0 hc.1 (omega arith) e').bytes

-- ---- lines

pub packet-unique : (w : ℕ) → Unique packet_line (Formed w) Any
unfolding packet_line
packet-unique w k m rest more f g r s e =
    let p = then-unique (three_of (ascii "packet ")) line_end ThreeShort (Bytes w) NoDigit Any end-no-digit (three-unique (ascii "packet ")) (end-unique w)
    ((k.a, (k.b, k.c)), k.bytes) ((m.a, (m.b, m.c)), m.bytes) rest more
    ((f.a_digits, (f.b_digits, f.c_digits)), (f.size, f.bytes)) ((g.a_digits, (g.b_digits, g.c_digits)), (g.size, g.bytes)) r s e in
    λ i. record { a = (p i).0.0; b = (p i).0.1.0; c = (p i).0.1.1; bytes = (p i).1 }

pub shape-unique : Unique first_line Numbers Any
unfolding first_line shape_line number_line hex_bytes
shape-unique x y rest more f g r s e =
    let width = then-unique spaced line_end Short (Bytes 0) NoDigit Any end-no-digit (numbered-unique (ascii " ")) (end-unique 0) in
    let p = then-unique (three_of (ascii "shape ")) width_end ThreeShort WidthShort NoDigit Any width-no-digit (three-unique (ascii "shape ")) width
    ((x.l1, (x.l2, x.l3)), (x.w, [])) ((y.l1, (y.l2, y.l3)), (y.w, [])) rest more
    ((f.l1_digits, (f.l2_digits, f.l3_digits)), (f.w_digits, (refl, λ i. omega arith)))
    ((g.l1_digits, (g.l2_digits, g.l3_digits)), (g.w_digits, (refl, λ i. omega arith))) r s e in
    λ i. record { l1 = (p i).0.0; l2 = (p i).0.1.0; l3 = (p i).0.1.1; w = (p i).1.0 }

-- every packet of a list is formed
abbrev AllFormed : ℕ → List Packet → Type 0
AllFormed w ks = (i : ℕ) → i < length ks → Formed w (packet_no ks i)

module _ (w : ℕ) where
  first-formed : (k : Packet) (ks : List Packet) → AllFormed w (k ∷ ks) → Formed w k
  unfolding packet_no
  first-formed k ks h = h 0 (omega arith)

  rest-formed : (k : Packet) (ks : List Packet) → AllFormed w (k ∷ ks) → AllFormed w ks
  unfolding packet_no
  rest-formed k ks h i l = h (suc i) (omega arith)

  -- one line of each list
  lines-first : (k m : Packet) (ks ms : List Packet) (rest more : List ℕ) → Formed w k → Formed w m
      → packet_lines (k ∷ ks) ++ rest ≡ packet_lines (m ∷ ms) ++ more → (k ≡ m) × (packet_lines ks ++ rest ≡ packet_lines ms ++ more)
  unfolding packet_lines
  lines-first k m ks ms rest more f g e =
      let e' = sym (append_assoc (packet_line k) (packet_lines ks) rest) ∙ (e ∙ append_assoc (packet_line m) (packet_lines ms) more) in
      let u = packet-unique w k m (packet_lines ks ++ rest) (packet_lines ms ++ more) f g tt tt e' in
      (u, behind packet_line k m (packet_lines ks ++ rest) (packet_lines ms ++ more) u e')

  -- as many lines of packets at the start of one text are of the same packets
  pub lines_same : (ks ms : List Packet) (rest more : List ℕ) → AllFormed w ks → AllFormed w ms → length ks ≡ length ms
      → packet_lines ks ++ rest ≡ packet_lines ms ++ more → (ks ≡ ms) × (rest ≡ more)
  unfolding packet_lines
  lines_same [] [] rest more f g n e = (refl, e)
  lines_same [] (m ∷ ms) rest more f g n e = absurd (omega arith)
  lines_same (k ∷ ks) [] rest more f g n e = absurd (omega arith)
  lines_same (k ∷ ks) (m ∷ ms) rest more f g n e =
      let (u, tail) = lines-first k m ks ms rest more (first-formed k ks f) (first-formed m ms g) e in
      let (v, r) = lines_same ks ms rest more (rest-formed k ks f) (rest-formed m ms g) (omega arith) tail in
      (λ i. u i ∷ v i, r)

  -- behind fewer lines stands the next one of the more
  pub lines_next : (ks ms : List Packet) (rest more : List ℕ) → AllFormed w ks → AllFormed w ms → length ks < length ms
      → packet_lines ks ++ rest ≡ packet_lines ms ++ more → (last : List ℕ) × (rest ≡ packet_line (packet_no ms (length ks)) ++ last)
  unfolding packet_lines packet_no
  lines_next [] [] rest more f g n e = absurd (omega arith)
  lines_next [] (m ∷ ms) rest more f g n e = (packet_lines ms ++ more, e ∙ append_assoc (packet_line m) (packet_lines ms) more)
  lines_next (k ∷ ks) [] rest more f g n e = absurd (omega arith)
  lines_next (k ∷ ks) (m ∷ ms) rest more f g n e =
      let (u, tail) = lines-first k m ks ms rest more (first-formed k ks f) (first-formed m ms g) e in
      lines_next ks ms rest more (rest-formed k ks f) (rest-formed m ms g) (omega arith) tail

  -- where no rest is, no further line stands
  lines_end : (ks ms : List Packet) (more : List ℕ) → AllFormed w ks → AllFormed w ms
      → packet_lines ks ++ [] ≡ packet_lines ms ++ more → length ks < length ms → ⊥
  lines_end ks ms more f g e l =
      let (last, n) = lines_next ks ms [] more f g l e in
      let k = packet_no ms (length ks) in
      omega (arith, ap length n, length-append (packet_line k) last, line-some k)

  -- behind the lines before the first broken one no line stands that may
  lines-broken : (ks ms : List Packet) (rest more : List ℕ) → AllFormed w ks → AllFormed w ms → length ms ≤ 4294967295
      → (length ks ≡ 4294967295) ⊎ ((k : Packet) (last : List ℕ) → Formed w k → rest ≡ packet_line k ++ last → ⊥)
      → packet_lines ks ++ rest ≡ packet_lines ms ++ more → length ks < length ms → ⊥
  lines-broken ks ms rest more f g most (inl full) e l = omega arith
  lines-broken ks ms rest more f g most (inr never) e l =
      let (last, n) = lines_next ks ms rest more f g l e in
      never (packet_no ms (length ks)) last (g (length ks) l) n

-- ---- texts

-- one shape, and the rest behind line 1
shape-first : (x y : Shape) (ks ms : List Packet) (rest more : List ℕ) → Numbers x → Numbers y → text_of x ks ++ rest ≡ text_of y ms ++ more
    → (x ≡ y) × (packet_lines ks ++ rest ≡ packet_lines ms ++ more)
unfolding text_of
shape-first x y ks ms rest more f g e =
    let e' = sym (append_assoc (first_line x) (packet_lines ks) rest) ∙ (e ∙ append_assoc (first_line y) (packet_lines ms) more) in
    let u = shape-unique x y (packet_lines ks ++ rest) (packet_lines ms ++ more) f g tt tt e' in
    (u, behind first_line x y (packet_lines ks ++ rest) (packet_lines ms ++ more) u e')

in-form-of : (x y : Shape) (ks : List Packet) → x ≡ y → InForm y ks → InForm x ks
in-form-of x y ks u f = subst (λ (z : Shape). InForm z ks) (sym u) f

pub one-reading : OneReading
unfolding OneReading
one-reading x y ks ms f g e =
    let e' = append-nil (text_of x ks) ∙ (e ∙ sym (append-nil (text_of y ms))) in
    let (u, p) = shape-first x y ks ms [] [] f.numbers g.numbers e' in
    let h = in-form-of x y ms u g in
    let less : length ks < length ms → ⊥ = lines_end x.w ks ms [] f.packets h.packets p in
    let more : length ms < length ks → ⊥ = lines_end x.w ms ks [] h.packets f.packets (sym p) in
    (u, (lines_same x.w ks ms [] [] f.packets h.packets (omega arith) p).0)

pub broken-or-form : BrokenOrForm
unfolding BrokenOrForm text_of
broken-or-form x ks n f b = by-case (text_of x ks) n b refl
  where
    by-case : (t : List ℕ) (n : ℕ) → Broken t n → t ≡ text_of x ks → ⊥
    by-case t _ (first_broken never) e = never x (packet_lines ks) f.numbers e
    by-case t _ (packet_broken y ms rest g d some why) e =
        let (u, p) = shape-first x y ks ms [] rest f.numbers g.numbers (append-nil (text_of x ks) ∙ (sym e ∙ d)) in
        let h = in-form-of y x ks (sym u) f in
        let less : length ks < length ms → ⊥ = lines_end y.w ks ms rest h.packets g.packets p in
        let more : length ms < length ks → ⊥ = lines-broken y.w ms ks rest [] g.packets h.packets h.most why (sym p) in
        some (sym (lines_same y.w ks ms [] rest h.packets g.packets (omega arith) p).1)

-- line 1 is in the form where a later line breaks it
first-or-later : (t : List ℕ) (x : Shape) (ks : List Packet) (rest : List ℕ) → InForm x ks → t ≡ text_of x ks ++ rest
    → ((sh : Shape) (more : List ℕ) → Numbers sh → t ≡ first_line sh ++ more → ⊥) → ⊥
unfolding text_of
first-or-later t x ks rest f e never =
    never x (packet_lines ks ++ rest) f.numbers (e ∙ append_assoc (first_line x) (packet_lines ks) rest)

pub one-broken : OneBroken
unfolding OneBroken
one-broken t _ _ (first_broken never) (first_broken never') = refl
one-broken t _ _ (first_broken never) (packet_broken x ks rest f e some why) = absurd (first-or-later t x ks rest f e never)
one-broken t _ _ (packet_broken x ks rest f e some why) (first_broken never) = absurd (first-or-later t x ks rest f e never)
one-broken t _ _ (packet_broken x ks rest f e some why) (packet_broken y ms more g d some' why') =
    let (u, p) = shape-first x y ks ms rest more f.numbers g.numbers (sym e ∙ d) in
    let h = in-form-of y x ks (sym u) f in
    let less : length ks < length ms → ⊥
    = lines-broken x.w ks ms rest more f.packets (in-form-of x y ms u g).packets g.most why p in
    let least : length ms < length ks → ⊥ = lines-broken y.w ms ks more rest g.packets h.packets h.most why' (sym p) in
    omega arith
