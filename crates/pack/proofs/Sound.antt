-- What a pack that was read says of its header and its section, and what a caller of a reader learns from its answer.
use Rattle.std.specs.Prelude.{Result, Err, Option, Some, None}
use Rattle.std.specs.Option.{unwrap_or}
use mathlib.Core.Path.{◌≡◌, refl, sym, ap, ◌∙◌}
use mathlib.Core.Bool.{Bool, true, false, cond}
use mathlib.Core.Logic.{◌⊎◌, inl, inr, ⊎_elim}
use mathlib.Core.List.{List}
use Prim.Native.Nat.{ℕ, ◌+◌, ◌-◌, ◌*◌, ◌^◌, ◌≤◌, ◌<◌}
use native.Mathlib.Nat.{mul-le-mul, mul-le-mul_left, mul-pos, sub-le}
use native.Mathlib.Decide.{ℕ_discrete}
use native.Mathlib.Omega.{arith}
use lib.Dec.{eqb}
use lib.ListN.{length, get_or}
use borrow.Author.Tests.{leb-true, eqb-true, ne_eqb}
use Rattle.answer.specs.declared.Refusal.{Refusal}
use Rattle.answer.specs.Values.{Checked, passes, check, and_then, checked, value_of}
use Rattle.answer.proofs.Values.{refusal-gives, passes-injective, check-passed, then-passed}
use Rattle.shape.specs.declared.Shape.{Shape}
use Rattle.shape.specs.declared.Sizes.{Sizes}
use Rattle.shape.specs.Shapes.{Valid, cells, capacity, data_cells, sizes, shape_checked}
use Rattle.shape.proofs.Valid.{shape-passed, valid-passes, within-parts, within-true}
use Rattle.stopping.specs.Stopping.{number}
use Rattle.cursor.specs.declared.Cursor.{Cursor}
use Rattle.pack.specs.declared.Section.{Section}
use Rattle.pack.specs.declared.Header.{Header}
use Rattle.cursor.specs.Steps.{word}
use Rattle.cursor.specs.Steps.{count, bytes}
use Rattle.pack.specs.Packs.{sends}
use Rattle.pack.specs.Reading.{end, used_by, header_with, header_for, headed, is_count, header_of, sent_checked, packet_size, job_behind, job_of, air_behind, air_of, plain_air_of}
use Rattle.cursor.proofs.Steps.{word_lt}

-- ---- a step that passed

module _ {A : Type 0} (p : List ℕ) (c : Cursor) (a : A) where
  pub count-passed : (next : ℕ → Cursor → Checked A) → count p c next ≡ passes a
      → (c.at + 4 ≤ length p) × (next (word p c.at) (record { at = c.at + 4 }) ≡ passes a)
  unfolding count
  count-passed next e = let (t, rest) = check-passed _ 6 _ a e in (leb-true _ _ t, rest)

  pub bytes-passed : (n : ℕ) (next : ℕ → Cursor → Checked A) → bytes p c n next ≡ passes a
      → (c.at + n ≤ length p) × (next c.at (record { at = c.at + n }) ≡ passes a)
  unfolding bytes
  bytes-passed n next e = let (t, rest) = check-passed _ 6 _ a e in (leb-true _ _ t, rest)

  pub end-passed : (done : Checked A) → end p c done ≡ passes a → (length p ≡ c.at) × (done ≡ passes a)
  unfolding end
  end-passed done e = let (t, rest) = check-passed _ 8 _ a e in (eqb-true _ _ t, rest)

-- ---- section 1

-- A header that was read: what section 1 with its shape, count and U is read as. It has a valid shape, room for the file's length, and as many data
-- cells in use as there can be.
pub record HeaderSound (h : Header) : Type 0 where
  pub valid : Valid h.shape
  pub measured : h.sizes ≡ sizes h.shape
  pub room : 4 ≤ capacity h.shape
  pub counted : (h.count ≡ 5) ⊎ (h.count ≡ 9)
  pub plain : h.count ≡ 5 → h.used ≡ data_cells h.shape
  pub some : 1 ≤ h.used
  pub most : h.used ≤ data_cells h.shape

count-five-nine : (n : ℕ) → is_count n ≡ true → (n ≡ 5) ⊎ (n ≡ 9)
unfolding is_count
count-five-nine n e =
    elim (ℕ_discrete n 5) [
      | yes five ↦ inl five
      | no other ↦ inr (eqb-true n 9 (rw (ne_eqb n 5 other) at e))
    ]

pub count-least : (n : ℕ) → is_count n ≡ true → 5 ≤ n
count-least n e = ⊎_elim (λ five. omega arith) (λ nine. omega arith) (count-five-nine n e)

pub used-plain : (sh : Shape) (n u : ℕ) → n ≡ 5 → used_by sh n u ≡ data_cells sh
unfolding used_by
used-plain sh n u e = rw e

-- what is given stands where the count is 9, else all are in use
used-by : (sh : Shape) (n u : ℕ) (b : Bool) → eqb n 9 ≡ b → unwrap_or (cond b (Some u) None) (data_cells sh) ≡ used_by sh n u
unfolding used_by
used-by sh n u true e = rw e refl
used-by sh n u false e = rw e refl

pub used-given : (sh : Shape) (n u all used : ℕ) (given : Option ℕ) → all ≡ data_cells sh → given ≡ cond (eqb n 9) (Some u) None
    → used ≡ unwrap_or given all → used ≡ used_by sh n u
used-given sh n u all used given whole e same = same ∙ rw (e, whole) (used-by sh n u (eqb n 9) refl)

capacity-room : (sh : Shape) (z : Sizes) → z ≡ sizes sh → 4 ≤ z.capacity → 4 ≤ capacity sh
unfolding sizes
capacity-room sh z e l = rw e at l

headed-sound : (sh : Shape) (n u : ℕ) (next : Cursor) (h : Header) (c : Cursor) → (n ≡ 5) ⊎ (n ≡ 9) → headed sh n u next ≡ passes (h, c) → HeaderSound h
unfolding headed header_with
headed-sound sh n u next h c counted e =
    let (z, passed, rest) = then-passed (shape_checked sh) _ (h, c) e in
    let (v, same) = shape-passed sh z passed in
    let (t, used) = check-passed _ 10 _ (h, c) rest in
    let (r, told) = check-passed _ 19 _ (h, c) used in
    let header : h ≡ header_with sh n u = sym (ap (λ (x : Header × Cursor). x.0) (passes-injective _ _ told)) in
    let four : 4 ≤ capacity sh = capacity-room sh z same (leb-true 4 z.capacity t) in
    let (some, most) = within-parts 1 (data_cells sh) (used_by sh n u) r in
    rw header (record {
      valid = v;
      measured = refl;
      room = four;
      counted = counted;
      plain = used-plain sh n u;
      some = some;
      most = most;
    })

pub header-sound : (p : List ℕ) (h : Header) (c : Cursor) → header_of p ≡ passes (h, c) → HeaderSound h
unfolding header_of
header-sound p h c e =
    let (_, judged) = count-passed p (record { at = 0 }) (h, c) _ e in
    let (t, needed) = check-passed _ 7 _ (h, c) judged in
    let (_, read) = bytes-passed p (record { at = 4 }) (h, c) _ _ needed in
    headed-sound _ _ _ _ h c (count-five-nine (word p 0) t) read

pub data-some : (sh : Shape) → Valid sh → 1 ≤ data_cells sh
unfolding data_cells
data-some sh v =
    let a : 0 < sh.l1 - 2 = omega (arith, v.l1_low) in
    let b : 0 < sh.l2 - 2 = omega (arith, v.l2_low) in
    let c : 0 < sh.l3 - 2 = omega (arith, v.l3_low) in
    mul-pos (mul-pos a b) c

-- A header that section 1 can have.
pub record HeaderSent (h : Header) : Type 0 where
  pub valid : Valid h.shape
  pub counted : (h.count ≡ 5) ⊎ (h.count ≡ 9)
  pub some : 1 ≤ h.used
  pub most : h.used ≤ data_cells h.shape

pub sound-sent : (h : Header) → HeaderSound h → HeaderSent h
sound-sent h sound = record { valid = sound.valid; counted = sound.counted; some = sound.some; most = sound.most }

pub sent-passed : (h : Header) (n : ℕ) → sent_checked h ≡ passes n → HeaderSent h × (n ≡ number (sends h) (cells h.shape))
unfolding sent_checked sizes
sent-passed h n e =
    let (t, measured) = check-passed _ 7 _ n e in
    let (z, passed, rest) = then-passed (shape_checked h.shape) _ n measured in
    let (v, same) = shape-passed h.shape z passed in
    let (r, told) = check-passed _ 19 _ n rest in
    let (some, most) = within-parts 1 (data_cells h.shape) h.used r in
    let count : number (sends h) z.cells ≡ n = passes-injective _ _ told in
    (record { valid = v; counted = count-five-nine h.count t; some = some; most = most }, rw same at (sym count))

pub sent-passes : (h : Header) → HeaderSent h → sent_checked h ≡ passes (number (sends h) (cells h.shape))
unfolding sent_checked sizes check and_then is_count
sent-passes h sent =
    let counted : is_count h.count ≡ true = ⊎_elim (λ e. rw e) (λ e. rw e) sent.counted in
    rw (counted, valid-passes h.shape sent.valid, within-true 1 (data_cells h.shape) h.used sent.some sent.most)

-- what a caller learns from `sent_cells`
pub sent-not : (h : Header) → HeaderSent h → (r : Result ℕ Refusal) → value_of r ≡ checked (sent_checked h) → (f : Refusal) → r ≡ Err f → ⊥
unfolding value_of checked
sent-not h sent r e f q = refusal-gives f _ (rw (q, sent-passes h sent) at e)

-- document 01's own header, and one with U
pub plain-sound : (sh : Shape) → Valid sh → 4 ≤ capacity sh → HeaderSound (header_for sh)
unfolding header_for header_with used_by
plain-sound sh v room =
    record {
      valid = v;
      measured = refl;
      room = room;
      counted = inl refl;
      plain = λ _. refl;
      some = data-some sh v;
      most = omega arith;
    }

pub used_sound : (sh : Shape) (u : ℕ) → Valid sh → 4 ≤ capacity sh → 1 ≤ u → u ≤ data_cells sh → HeaderSound (header_with sh 9 u)
unfolding header_with used_by
used_sound sh u v room some most =
    record {
      valid = v;
      measured = refl;
      room = room;
      counted = inr refl;
      plain = λ e. absurd (omega arith);
      some = some;
      most = most;
    }

-- the numbers of a header fit a machine word
pub cells_le : (sh : Shape) → Valid sh → cells sh ≤ 16777216
unfolding cells
cells_le sh v =
    let most : sh.l1 * sh.l2 * sh.l3 ≤ 255 * 255 * 255 = mul-le-mul (mul-le-mul v.l1_high v.l2_high) v.l3_high in
    omega arith

pub data-cells-le : (sh : Shape) → data_cells sh ≤ cells sh
unfolding cells data_cells
data-cells-le sh = mul-le-mul (mul-le-mul (sub-le sh.l1 2) (sub-le sh.l2 2)) (sub-le sh.l3 2)

pub capacity-le-cube : (sh : Shape) → capacity sh ≤ sh.w * cells sh
unfolding capacity cells data_cells
capacity-le-cube sh = mul-le-mul_left sh.w (data-cells-le sh)

pub capacity_le : (sh : Shape) → Valid sh → capacity sh ≤ 268435456
unfolding cells
capacity_le sh v = omega (arith, capacity-le-cube sh, v.volume)

pub used-bytes-le : (u w : ℕ) → u ≤ 16777216 → w ≤ 1024 → u * w ≤ 17179869184
used-bytes-le u w p q = mul-le-mul p q

pub header-limits : (h : Header) → HeaderSound h → (h.used ≤ 16777216) × (h.shape.w ≤ 1024)
header-limits h sound =
    (omega (arith, sound.most, data-cells-le h.shape, cells_le h.shape sound.valid), sound.valid.w_high)

-- the text twin's pack is an air pack of count 5
module _ (p : List ℕ) (h : Header) (s : Section) (e : plain_air_of p ≡ passes (h, s)) where
  plain-parts : (word p 0 ≡ 5) × (air_of p ≡ passes (h, s))
  unfolding plain_air_of
  plain-parts =
      let (_, judged) = count-passed p (record { at = 0 }) (h, s) _ e in
      let (t, read) = check-passed _ 7 _ (h, s) judged in
      (eqb-true (word p 0) 5 t, read)

  pub plain-air : air_of p ≡ passes (h, s)
  plain-air = plain-parts.1

-- ---- sections 2 and 3

-- a job that was read: the file fits its cube, and its bytes lie in the pack
pub record JobSound (p : List ℕ) (h : Header) (s : Section) : Type 0 where
  pub header : HeaderSound h
  pub room : 4 + s.count ≤ capacity h.shape
  pub used : 4 + s.count ≤ h.used * h.shape.w
  pub inside : s.at + s.count ≤ length p

job-behind-sound : (p : List ℕ) (g h : Header) (c : Cursor) (s : Section) → HeaderSound g → job_behind p g c ≡ passes (h, s) → JobSound p h s
unfolding job_behind sizes
job-behind-sound p g h c s sound e =
    let n = word p c.at in
    let (_, judged) = count-passed p c (h, s) _ e in
    let (t, fits) = check-passed _ 10 _ (h, s) judged in
    let (d, needed) = check-passed _ 19 _ (h, s) fits in
    let (inside, third) = bytes-passed p _ (h, s) n _ needed in
    let (_, packets) = count-passed p _ (h, s) _ third in
    let (_, ended) = check-passed _ 9 _ (h, s) packets in
    let (_, told) = end-passed p _ (h, s) _ ended in
    let same : ◌≡◌ {A = Header × Section} (g, record { at = c.at + 4; count = n }) (h, s) = passes-injective _ _ told in
    let header : h ≡ g = sym (ap (λ (x : Header × Section). x.0) same) in
    let section : s ≡ record { at = c.at + 4; count = n } = sym (ap (λ (x : Header × Section). x.1) same) in
    let room : 4 + n ≤ capacity g.shape = rw sound.measured at (leb-true (4 + n) g.sizes.capacity t) in
    let used : 4 + n ≤ g.used * g.shape.w = leb-true (4 + n) (g.used * g.shape.w) d in
    record { header = rw header sound; room = rw (header, section) room; used = rw (header, section) used; inside = rw section inside }

pub job-sound : (p : List ℕ) (h : Header) (s : Section) → job_of p ≡ passes (h, s) → JobSound p h s
unfolding job_of
job-sound p h s e =
    let ((g, c), passed, rest) = then-passed (header_of p) _ (h, s) e in
    job-behind-sound p g h c s (header-sound p g c passed) rest

-- an air pack that was read: its packets end the pack
pub record AirSound (p : List ℕ) (h : Header) (s : Section) : Type 0 where
  pub header : HeaderSound h
  pub ends : s.at + s.count * packet_size h ≡ length p
  pub few : ((i : ℕ) → get_or p i 0 < 256) → s.count < 2 ^ 32

air-behind-sound : (p : List ℕ) (g h : Header) (c : Cursor) (s : Section) → HeaderSound g → air_behind p g c ≡ passes (h, s) → AirSound p h s
unfolding air_behind
air-behind-sound p g h c s sound e =
    let n = word p (c.at + 4) in
    let (_, judged) = count-passed p c (h, s) _ e in
    let (_, third) = check-passed _ 9 _ (h, s) judged in
    let (_, needed) = count-passed p _ (h, s) _ third in
    let (_, ended) = bytes-passed p _ (h, s) (n * packet_size g) _ needed in
    let (ends, told) = end-passed p _ (h, s) _ ended in
    let same : ◌≡◌ {A = Header × Section} (g, record { at = c.at + 4 + 4; count = n }) (h, s) = passes-injective _ _ told in
    let header : h ≡ g = sym (ap (λ (x : Header × Section). x.0) same) in
    let section : s ≡ record { at = c.at + 4 + 4; count = n } = sym (ap (λ (x : Header × Section). x.1) same) in
    record {
      header = rw header sound;
      ends = rw (header, section) (sym ends);
      few = λ small. rw section (word_lt p (c.at + 4) small);
    }

pub air-sound : (p : List ℕ) (h : Header) (s : Section) → air_of p ≡ passes (h, s) → AirSound p h s
unfolding air_of
air-sound p h s e =
    let ((g, c), passed, rest) = then-passed (header_of p) _ (h, s) e in
    air-behind-sound p g h c s (header-sound p g c passed) rest

-- the packets that a count can hold fit a machine word
pub packets-le : (n w : ℕ) → n < 2 ^ 32 → w ≤ 1024 → n * (3 + w) ≤ 4410931411965
packets-le n w p q =
    let m : n ≤ 4294967295 = omega arith in
    let k : 3 + w ≤ 1027 = omega arith in
    mul-le-mul m k
