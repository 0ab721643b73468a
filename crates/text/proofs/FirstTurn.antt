-- The first turn over a text: the packets read so far, one more, all of them, or a line that breaks the form.
use Rattle.std.specs.Prelude.{Result, Ok, Err, Option, Some, None}
use mathlib.Core.Path.{◌≡◌, refl, sym, ap, ◌∙◌}
use mathlib.Core.Logic.{◌⊎◌, inl, inr}
use mathlib.Core.List.{List, [], ◌∷◌, ◌++◌, append_assoc, append-nil}
use Prim.Native.Nat.{ℕ, ◌+◌, ◌≤◌, ◌<◌}
use native.Mathlib.Omega.{arith}
use lib.ListN.{length, drop, length-append, length-drop, drop_of_length-le, get_or-append}
use lib.Seq.{get_or-append_seam}
use borrow.Author.Count.{below_more}
use Rattle.answer.proofs.Tuples.{some-four}
use Rattle.std.specs.Option.{ok_or}
use Rattle.std.specs.Result.{IsErrAnd}
use Rattle.std.proofs.lemmas.Result.{err_from_is_err_and}
use Rattle.answer.specs.declared.Refusal.{Refusal}
use Rattle.answer.specs.declared.Refusal.TheVariants.{Line}
use Rattle.shape.specs.declared.Shape.{Shape}
use Rattle.pack.specs.Packs.{Packet}
use Rattle.pack.specs.Packets.{packet_no}
use Rattle.printing.specs.Text.{numbered, triple}
use Rattle.text.specs.Form.{packet_line, packet_lines, first_line, text_of, Numbers, Formed, InForm, packet_broken, first_broken}
use Rattle.text.specs.Text.{Inside}
use Rattle.text.specs.Inner.Numbers.{Found, Never}
use Rattle.text.specs.Inner.Lines.{Any, PacketLineOutcome, packet_found, packet_nothing, ShapeLineOutcome, shape_found, shape_nothing}
use Rattle.text.specs.Inner.Scan.{FirstOut, ScanOutcome, scan_whole, scan_broken, InsideNext, one_before, this_one, none_yet}
use Rattle.text.proofs.Standing.{stands-end}

-- ---- what a line's answer tells

-- where there is no line, the refusal is the one that stands by
pub none-refused : {A B : Type 0} (o : Option A) (f e : Refusal) (out : Result B Refusal) → ◌≡◌ {A = Result A Refusal} (Err e) (ok_or o f)
    → IsErrAnd out (λ g. g ≡ e) → out ≡ Err f
none-refused {A} None f e out given h =
    let (g, is, same) = err_from_is_err_and out h in
    let last : e ≡ f = cc in
    is ∙ ap (λ (x : Refusal). Err x) (same ∙ last)
none-refused {A} (Some x) f e out given h = let z : ◌≡◌ {A = ℕ} 0 1 = cc in absurd (omega arith)

pub shape-none : {t : List ℕ} (r : Option (Shape × ℕ)) → ShapeLineOutcome t r → r ≡ None → ScanOutcome t (Err (Line 1))
shape-none _ (shape_found sh end f) e = let z : ◌≡◌ {A = ℕ} 0 1 = cc in absurd (omega arith)
shape-none _ (shape_nothing n) e = scan_broken 1 (first_broken (λ sh rest f. n sh rest f tt))

pub packet-some : {w : ℕ} {t : List ℕ} {at : ℕ} (r : Option (ℕ × ℕ × ℕ × ℕ)) (a b c end : ℕ) → PacketLineOutcome w t at r → r ≡ Some (a, b, c, end)
    → (k : Packet) × (k.a ≡ a) × (k.b ≡ b) × (k.c ≡ c) × Found packet_line (Formed w) Any t at k end
packet-some _ a b c end (packet_found k end' f) e =
    let (ea, eb, ec, ends) = some-four _ a _ b _ c _ end e in
    (k, ea, eb, ec, rw ends at f)
packet-some _ a b c end (packet_nothing n) e = let z : ◌≡◌ {A = ℕ} 0 1 = cc in absurd (omega arith)

pub packet-none : {w : ℕ} {t : List ℕ} {at : ℕ} (r : Option (ℕ × ℕ × ℕ × ℕ)) → PacketLineOutcome w t at r → r ≡ None
    → Never packet_line (Formed w) Any t at
packet-none _ (packet_found k end f) e = let z : ◌≡◌ {A = ℕ} 0 1 = cc in absurd (omega arith)
packet-none _ (packet_nothing n) e = n

-- a packet's line has characters
pub line-some : (k : Packet) → 0 < length (packet_line k)
unfolding packet_line triple numbered
line-some k = omega arith

-- ---- a list with one packet more

pub packet_lines-append : (ks ms : List Packet) → packet_lines (ks ++ ms) ≡ packet_lines ks ++ packet_lines ms
unfolding packet_lines
packet_lines-append [] ms = refl
packet_lines-append (k ∷ ks) ms =
    ap (λ (r : List ℕ). packet_line k ++ r) (packet_lines-append ks ms) ∙ sym (append_assoc (packet_line k) (packet_lines ks) (packet_lines ms))

module _ (ks : List Packet) (k : Packet) where
  pub more-length : length (ks ++ (k ∷ [])) ≡ length ks + 1
  more-length = length-append ks (k ∷ [])

  pub more-before : (i : ℕ) → i < length ks → packet_no (ks ++ (k ∷ [])) i ≡ packet_no ks i
  unfolding packet_no
  more-before i l = get_or-append ks (k ∷ []) _ i l

  pub more-last : (i : ℕ) → i ≡ length ks → packet_no (ks ++ (k ∷ [])) i ≡ k
  unfolding packet_no
  more-last i e = rw e (get_or-append_seam ks k [] _)

  -- what holds of every packet and of one more holds of all
  pub more-all : (P : Packet → Type 0) → ((i : ℕ) → i < length ks → P (packet_no ks i)) → P k
      → (i : ℕ) → i < length ks + 1 → P (packet_no (ks ++ (k ∷ [])) i)
  more-all P h p i l = below_more (λ j. P (packet_no (ks ++ (k ∷ [])) j)) (length ks) (λ j m. rw (more-before j m) (h j m)) (rw (more-last (length ks) refl) p) i l

  pub more-inside : (sh : Shape) (n inside r : ℕ) → length ks ≡ n → FirstOut sh ks inside → InsideNext sh n inside k.a k.b k.c r
      → FirstOut sh (ks ++ (k ∷ [])) r
  more-inside sh n inside r e f (one_before l) =
      record {
        bound = omega (arith, more-length);
        before = λ j m. rw (more-before j (omega arith)) (f.before j m);
        here = λ m i. f.here (omega arith) (rw (more-before r (omega arith)) at i);
      }
  more-inside sh n inside r e f (this_one s h) =
      record {
        bound = omega (arith, more-length);
        before = λ j m. rw (more-before j (omega arith)) (f.before j m);
        here = λ m i. let o : Inside sh k = rw (more-last r (omega arith)) at i in h o.first o.second o.third;
      }
  more-inside sh n inside r e f (none_yet s p q t) =
      let m = more-length in
      record {
        bound = omega arith;
        before = λ j l.
            more-all (Inside sh) (λ i g. f.before i (omega arith)) (record { first = p; second = q; third = t }) j (omega arith);
        here = λ l. absurd (omega arith);
      }

-- ---- the packets so far

pub record SoFar (t : List ℕ) (sh : Shape) (lines at n inside : ℕ) : Type 0 where
  pub first : Found first_line Numbers Any t 0 sh lines
  pub list : List Packet
  pub formed : (i : ℕ) → i < length list → Formed sh.w (packet_no list i)
  pub size : length list ≡ n
  pub most : n ≤ 4294967295
  pub reached : at ≤ length t
  pub stands : drop lines t ≡ packet_lines list ++ drop at t
  pub out : FirstOut sh list inside

module _ (t : List ℕ) (sh : Shape) (lines : ℕ) where
  pub none_so_far : Found first_line Numbers Any t 0 sh lines → SoFar t sh lines lines 0 0
  unfolding packet_lines
  none_so_far f =
      record {
        first = f;
        list = [];
        formed = λ i l. absurd (omega arith);
        size = refl;
        most = omega arith;
        reached = f.inside;
        stands = refl;
        out = record { bound = omega arith; before = λ j l. absurd (omega arith); here = λ l. absurd (omega arith) };
      }

  module _ (at n inside : ℕ) (s : SoFar t sh lines at n inside) where
    pub line-ends : (r : Option (ℕ × ℕ × ℕ × ℕ)) (a b c end : ℕ) → PacketLineOutcome sh.w t at r → r ≡ Some (a, b, c, end) → (at < end) × (end ≤ length t)
    line-ends r a b c end o e =
        let (k, ea, eb, ec, f) = packet-some r a b c end o e in
        let i = f.inside in
        (omega (arith, line-some k, stands-end t (packet_line k) at end f.low i f.stands), i)

    pub more-so-far : (r : Option (ℕ × ℕ × ℕ × ℕ)) (a b c end m : ℕ) → n < 4294967295 → PacketLineOutcome sh.w t at r → r ≡ Some (a, b, c, end)
        → InsideNext sh n inside a b c m → SoFar t sh lines end (n + 1) m
    unfolding packet_lines
    more-so-far r a b c end m l o e i =
        let (k, ea, eb, ec, f) = packet-some r a b c end o e in
        let ks = s.list in
        let next : InsideNext sh n inside k.a k.b k.c m = rw (ea, eb, ec) i in
        let size = s.size in
        let longer = more-length ks k in
        record {
          first = s.first;
          list = ks ++ (k ∷ []);
          formed = λ j h. more-all ks k (Formed sh.w) s.formed f.good j (omega arith);
          size = omega arith;
          most = omega arith;
          reached = f.inside;
          stands =
              s.stands
              ∙ (ap (λ (x : List ℕ). packet_lines ks ++ x) f.stands
              ∙ (sym (append_assoc (packet_lines ks) (packet_line k) (drop end t))
              ∙ ap (λ (x : List ℕ). x ++ drop end t)
              (ap (λ (x : List ℕ). packet_lines ks ++ x) (sym (append-nil (packet_line k))) ∙ sym (packet_lines-append ks (k ∷ [])))));
          out = more-inside ks k sh n inside m size s.out next;
        }

    in-form : InForm sh s.list
    in-form = let e = s.size in let m = s.most in record { numbers = s.first.good; packets = s.formed; most = omega arith }

    text-so-far : t ≡ text_of sh s.list ++ drop at t
    unfolding text_of
    text-so-far =
        s.first.stands
        ∙ (ap (λ (x : List ℕ). first_line sh ++ x) s.stands
        ∙ sym (append_assoc (first_line sh) (packet_lines s.list) (drop at t)))

    pub whole-so-far : length t ≤ at
        → ScanOutcome t (Ok (record { shape = sh; packets = n; inside = inside; lines = lines }))
    whole-so-far l =
        scan_whole (record { shape = sh; packets = n; inside = inside; lines = lines }) s.list
        (record {
          form = in-form;
          text = text-so-far ∙ (ap (λ (x : List ℕ). text_of sh s.list ++ x) (drop_of_length-le t l) ∙ append-nil (text_of sh s.list));
          packets = sym s.size;
          lines = let f = s.first in omega (arith, stands-end t (first_line sh) 0 lines f.low f.inside f.stands);
          inside = s.out;
        })

    pub broken-so-far : (m : ℕ) → at < length t → m ≡ n + 2 → (n ≡ 4294967295) ⊎ Never packet_line (Formed sh.w) Any t at
        → ScanOutcome t (Err (Line m))
    broken-so-far m l e why =
        let line : length s.list + 2 ≡ m = let z = s.size in omega arith in
        scan_broken m
        (rw line at (packet_broken sh s.list (drop at t) in-form text-so-far
        (λ none. omega (arith, ap length none, length-drop at t)) (told why)))
      where
        told : (n ≡ 4294967295) ⊎ Never packet_line (Formed sh.w) Any t at
            → (length s.list ≡ 4294967295) ⊎ ((k : Packet) (more : List ℕ) → Formed sh.w k → drop at t ≡ packet_line k ++ more → ⊥)
        told (inl full) = inl (s.size ∙ full)
        told (inr never) = inr (λ k more f. never k more f tt)
