-- The checks of the writing calls, and what a caller learns from their outcomes.
use Rattle.std.specs.Prelude.{Result, Ok, Err}
use mathlib.Core.Path.{◌≡◌, refl, sym, ap, ◌∙◌}
use mathlib.Core.Logic.{⊎_elim}
use mathlib.Core.List.{List}
use Prim.Native.Nat.{ℕ, ◌+◌, ◌*◌, ◌≤◌, ◌<◌}
use native.Mathlib.Omega.{arith}
use lib.Dec.{eqb}
use lib.ListN.{length}
use borrow.Author.Tests.{eqb-true, eq-eqb}
use Rattle.answer.specs.declared.Refusal.{Refusal}
use Rattle.answer.specs.Values.{Value, gives, passes, check, and_then, checked, value_of}
use Rattle.answer.proofs.Values.{gives-injective, refusal-gives, passes-injective, passes-fails, check-passed, then-passed, value-failed}
use Rattle.shape.specs.declared.Shape.{Shape}
use Rattle.shape.specs.declared.Sizes.{Sizes}
use Rattle.shape.specs.Shapes.{both, cells, sizes, shape_checked}
use Rattle.shape.proofs.Valid.{both-parts, both_true, shape-passed, valid-passes, volume-le}
use Rattle.stopping.specs.Stopping.{number}
use Rattle.stopping.proofs.Number.{number-all, number-le}
use Rattle.pack.specs.declared.Header.{Header}
use Rattle.pack.specs.Packs.{sends, air_pack, sent_packets, air_size, pack_size}
use Rattle.pack.specs.Reading.{used_by, header_with, header_for, sent_checked}
use Rattle.pack.proofs.Sound.{HeaderSent, sent-passed, sent-passes, cells_le}
use Rattle.pack.proofs.Sent.{all-sent}
use Rattle.pack_writer.specs.Writing.{written_checked, air_checked, AirOutcome, air_kept, air_written}

-- ---- sizes

-- with count 5 every cell is sent
plain-number : (sh : Shape) → number (sends (header_for sh)) (cells sh) ≡ cells sh
unfolding header_for header_with used_by sends
plain-number sh = number-all _ (cells sh) (λ n l. rw (all-sent (header_for sh) refl n l))

-- the sizes of a shape that passed fit a machine word
pub sizes-small : (sh : Shape) (z : Sizes) → shape_checked sh ≡ passes z → (z.cells < 4294967296) × (sh.w ≤ 1024)
unfolding sizes cells
sizes-small sh z e =
    let (v, same) = shape-passed sh z e in
    (rw same (omega (arith, volume-le _ _ _ v.l1_high v.l2_high v.l3_high)), v.w_high)

pub size-told : (sh : Shape) (z : Sizes) → shape_checked sh ≡ passes z → 12 + 5 + z.cells * (3 + sh.w) ≡ pack_size (header_for sh)
unfolding sizes pack_size air_size header_for header_with used_by
size-told sh z e =
    let all : number (sends (header_for sh)) (cells sh) ≡ cells sh = plain-number sh in
    rw ((shape-passed sh z e).1, all)

pub sent-small : (h : Header) (n : ℕ) → sent_checked h ≡ passes n → (h.count ≤ 9) × (n < 4294967296) × (h.shape.w ≤ 1024)
sent-small h n e =
    let (sent, same) = sent-passed h n e in (
      ⊎_elim (λ five. omega arith) (λ nine. omega arith) sent.counted,
      omega (arith, number-le (sends h) (cells h.shape), cells_le h.shape sent.valid),
      sent.valid.w_high,
    )

-- what a caller with a header that section 1 can have learns from `written_bytes`
module _ (h : Header) (sent : HeaderSent h) (r : Result ℕ Refusal) (e : value_of r ≡ checked (written_checked h)) where
  written-value : value_of r ≡ gives (pack_size h)
  unfolding written_checked pack_size and_then checked
  written-value = rw (sent-passes h sent) at e

  pub written-given : (n : ℕ) → r ≡ Ok n → n ≡ pack_size h
  unfolding value_of
  written-given n q = gives-injective n (pack_size h) (rw q at written-value)

  pub written-refused : (f : Refusal) → r ≡ Err f → ⊥
  unfolding value_of
  written-refused f q = refusal-gives f (pack_size h) (rw q at written-value)

-- and any other
pub written-passed : (h : Header) (size : ℕ) → written_checked h ≡ passes size → HeaderSent h × (size ≡ pack_size h)
unfolding written_checked pack_size
written-passed h size e =
    let (n, passed, rest) = then-passed (sent_checked h) _ size e in
    let (sent, same) = sent-passed h n passed in
    let told : air_size h n ≡ size = passes-injective _ _ rest in
    (sent, sym told ∙ ap (air_size h) same)

-- the shape of such a header passes its checks, and has the bytes of its cells
pub shape-not-refused : (h : Header) (size : ℕ) → written_checked h ≡ passes size → (r : Result Sizes Refusal)
    → value_of r ≡ checked (shape_checked h.shape) → (f : Refusal) → r ≡ Err f → ⊥
unfolding value_of checked
shape-not-refused h size e r told f q =
    let v = (written-passed h size e).0.valid in
    refusal-gives f (sizes h.shape) (rw (q, valid-passes h.shape v) at told)

pub shape-bytes : (sh : Shape) (z : Sizes) → shape_checked sh ≡ passes z → z.bytes ≡ sh.w * cells sh
unfolding sizes
shape-bytes sh z e = rw (shape-passed sh z e).1

-- ---- `write_air`

pub air-passed : (h : Header) (bytes size : ℕ) → air_checked h bytes size ≡ passes tt
    → HeaderSent h × (bytes ≡ h.shape.w * cells h.shape) × (size ≡ pack_size h)
unfolding air_checked
air-passed h bytes size e =
    let (n, passed, rest) = then-passed (written_checked h) _ tt e in
    let (sent, same) = written-passed h n passed in
    let (t, _) = check-passed _ 4 _ tt rest in
    let (p, q) = both-parts (eqb bytes (h.shape.w * cells h.shape)) (eqb size n) t in
    (sent, eqb-true bytes _ p, eqb-true size n q ∙ same)

-- a header that section 1 can have leaves 4 alone
pub air-checks : (h : Header) (bytes size : ℕ) → HeaderSent h
    → air_checked h bytes size ≡ check (both (eqb bytes (h.shape.w * cells h.shape)) (eqb size (pack_size h))) 4 (passes tt)
unfolding air_checked written_checked pack_size and_then
air-checks h bytes size sent = rw (sent-passes h sent) refl

passed-air : (h : Header) (bytes size : ℕ) → HeaderSent h → bytes ≡ h.shape.w * cells h.shape → size ≡ pack_size h
    → air_checked h bytes size ≡ passes tt
unfolding air_checked written_checked pack_size and_then check
passed-air h bytes size sent p q =
    rw (sent-passes h sent, both_true (eqb bytes (h.shape.w * cells h.shape)) (eqb size (air_size h (number (sends h) (cells h.shape)))) (eq-eqb _ _ p) (eq-eqb _ _ q))

pub air-unfit : (h : Header) (xs s : List ℕ) (r : Result Unit Refusal) (f : Refusal) → value_of r ≡ checked (air_checked h (length xs) (length s))
    → r ≡ Err f → AirOutcome h xs s s (value_of (Err f))
unfolding value_of
air-unfit h xs s r f e q =
    let (n, failed, value) = value-failed {B = Unit} r _ f e q in
    rw value (air_kept n failed refl)

-- slices of a header's lengths hold the pack afterwards
pub air-wrote : (h : Header) (xs before after : List ℕ) (v : Value Unit) → AirOutcome h xs before after v → HeaderSent h
    → length xs ≡ h.shape.w * cells h.shape → length before ≡ pack_size h → after ≡ air_pack h (sent_packets h xs)
air-wrote h xs before after v (air_kept n failed kept) sent p q =
    absurd (passes-fails tt n (sym (passed-air h (length xs) (length before) sent p q) ∙ failed))
air-wrote h xs before after v (air_written passed wrote) sent p q = wrote
