-- Demand 3, from the contracts of writer, receiver and filling alone. The packets heard are for cells of the code cube x that are sent, and are its own
-- where the copies of a cell are all equal; cells that are not sent are 00h in x, since the file ends before them. Indexes are in range, so every
-- packet is placed; the cells known are as in x, and x with 00h on the largest
-- stopping set of lost cells is the only filling. Where that set is empty the cube is x, whose data string holds the file; otherwise it has 27
-- cells or more.
use mathlib.Core.Path.{◌≡◌, refl, sym, ap, subst, fun_ext, ◌∙◌}
use mathlib.Core.Bool.{Bool, true, false, cond, not, true≢false, false≢true}
use mathlib.Core.List.{List, ◌++◌}
use mathlib.Core.Logic.{◌≢◌, ⊎_elim}
use Prim.Native.Nat.{ℕ, ◌+◌, ◌-◌, ◌*◌, ◌^◌, ◌≤◌, ◌<◌}
use native.Mathlib.Omega.{arith}
use lib.Dec.{eqb}
use lib.ListN.{length, get_or, drop}
use borrow.Author.Tests.{eq-eqb}
use Rattle.answer.specs.Values.{Value, gives, passes, check, and_then}
use Rattle.answer.proofs.Values.{gives-injective, gives-refused, passes-injective, passes-fails}
use Rattle.field.specs.Field.{reduction}
use Rattle.field.proofs.Primitive.{primitive}
use Rattle.shape.specs.declared.Shape.{Shape}
use Rattle.shape.specs.Shapes.{both, cells, capacity, sizes, IsLine}
use Rattle.shape.specs.Flags.{missing}
use Rattle.shape.proofs.Valid.{both_true}
use Rattle.data.specs.Data.{layer, HoldsData}
use Rattle.cube.specs.Cube.{CodeCube}
use Rattle.data.proofs.HeldData.{held_data-only}
use Rattle.stopping.specs.Stopping.{number, Largest}
use Rattle.stopping.proofs.Number.{true-or-false, not-true-false, number-cong, number-none, number-pos}
use Rattle.stopping.proofs.Stopping.{largest-missing, largest_size}
use Rattle.stopping.proofs.Cube.{stopping-none-or-27}
use Rattle.fill.specs.Fill.{CellsLeft, Flagged, FillOutcome}
use Rattle.fill.proofs.Recovery.{Recovered, code-recovered, recovered-whole}
use Rattle.pack.specs.declared.Header.{Header}
use Rattle.pack.specs.declared.Section.{Section}
use Rattle.pack.specs.Packs.{Packet, unsent, sends, sent_below, sent_packets, air_pack, packet_of, data_string}
use Rattle.pack.specs.Packets.{Source, packet_in, packet_no, source, source_of}
use Rattle.pack.specs.Reading.{air_of}
use Rattle.pack.proofs.Sound.{HeaderSound, air-sound}
use Rattle.pack.proofs.Sent.{SentAt}
use Rattle.pack.proofs.Written.{Carries, air-read, sent_packets-at, sent-cell}
use Rattle.pack.proofs.AirPacks.{packets_in-length, packets_in-at}
use Rattle.receiver.specs.declared.Counts.{Counts}
use Rattle.receiver.specs.Placing.{among, repeats_of, agreed, conflicting, conflicts_of, flag_at, Placed}
use Rattle.receiver.specs.Gathering.{Reception, file, left, counts_of, Taken, unfit, index, contradiction, some_left, none_left}
use Rattle.receiver.specs.Opening.{OpenOutcome, held}
use Rattle.receiver.specs.Receive.{Memory, slices_fit, receive_checked, ReceiveOutcome, unopened, bad_file, opened}
use Rattle.receiver.proofs.Copies.{among-earlier, agreed-none, agreed-then, equal-conflict, agreed-cong, conflicts-cong}
use Rattle.receiver.proofs.Outcomes.{placed-checked}
use Rattle.receiver.proofs.Determined.{open-determined}
use Rattle.demands.specs.Demand3.{AllWritten, heard, in_conflict, CountHolds, IsWritten, Heard, missed, lost, LostSet, OnlyEmpty, Lent, left_in, Exact, Demanded, Demand3, WrittenAlone, unheard, Demand3Alone}
use Rattle.demands.proofs.Sent.{repeats-cong, repeats-different}
use Rattle.demands.proofs.Heard.{OfCell, byte_of, none_differ, same_copy, copy-place, Copies, each-sized, named-lt, heard-place, heard-byte, heard-range}
use Rattle.demands.proofs.Writing.{Job, wrote-job, all-written}

-- a code cube that holds a file's data string and is 00h where nothing is sent, and a list of copies of its cells that are sent
record Setting (h : Header) (contents x : List ℕ) (ps : List Packet) : Type 0 where
  sound : HeaderSound h
  fits : 4 + length contents ≤ capacity h.shape
  code : CodeCube reduction h.shape x
  holds : HoldsData h.shape x (data_string h.shape contents)
  blank : (n w : ℕ) → n < cells h.shape → w < h.shape.w → unsent h n ≡ true → layer h.shape x w n ≡ 0
  each : Copies h.shape x ps
  sent : (i : ℕ) → i < length ps → unsent h ((source_of h.shape ps).place i) ≡ false
  few : length ps < 2 ^ 32

-- where copies are agreed on, they are not in conflict
agreed-conflict : (sh : Shape) (ps : List Packet) (m : ℕ) → agreed sh (source_of sh ps) (length ps) m ≡ true → in_conflict sh ps m ≡ false
unfolding in_conflict
agreed-conflict sh ps m e = equal-conflict sh (source_of sh ps) (length ps) m (agreed-then sh (source_of sh ps) (length ps) m e).equal

-- a packet written is that of a cell that is sent
module _ {h : Header} {contents x output : List ℕ} {s : Section} (all : AllWritten h contents x output s) where
  pub written_count : s.count ≡ length (sent_packets h x)
  written_count = sym (packets_in-length output h s) ∙ ap length all.every

  pub written_at : (i : ℕ) → i < s.count → packet_in output h s i ≡ packet_no (sent_packets h x) i
  written_at i l = sym (packets_in-at output h s i l) ∙ ap (λ (ks : List Packet). packet_no ks i) all.every

  written-cell : (i : ℕ) → i < s.count → (n : ℕ) × SentAt h (cells h.shape) n × (packet_in output h s i ≡ packet_of h.shape x n)
  written-cell i l =
      let less : i < length (sent_packets h x) = omega (arith, written_count) in (
        get_or (sent_below h (cells h.shape)) i 0,
        sent-cell h x i less,
        written_at i l ∙ sent_packets-at h x i less,
      )

  pub of-cell : {k : Packet} → IsWritten h output s k → OfCell h.shape x k
  unfolding IsWritten
  of-cell (i, less, e) = let (n, at, same) = written-cell i less in (n, at.below, e ∙ same)

setting : (h : Header) (contents x output : List ℕ) (ps : List Packet) (s : Section) → Job h contents x output → AllWritten h contents x output s
    → Heard h output s ps → Setting h contents x ps
unfolding CountHolds
setting h contents x output ps s j all heard =
    record {
      sound = j.sound;
      fits = j.fits;
      code = all.cube.code;
      holds = all.cube.holds;
      blank = all.blank;
      each = record {
        cell = λ i l.
            let (k, less, copy) = heard.cell i l in
            let (n, at, same) = written-cell all k less in
            (n, at.below, rw same at copy);
        known = λ i l e. of-cell all (heard.written i l (agreed-conflict h.shape ps _ e));
      };
      sent = λ i l.
          let (k, less, copy) = heard.cell i l in
          let (n, at, same) = written-cell all k less in
          ap (unsent h) (copy-place h.shape x ps i n (rw same at copy)) ∙ at.is-sent;
      few = heard.count;
    }

-- a cell is missed where its copies are not agreed on
missed-agreed : (sh : Shape) (ps : List Packet) (m : ℕ) → missed sh ps m ≡ not (agreed sh (source_of sh ps) (length ps) m)
unfolding missed heard in_conflict conflicting both
missed-agreed sh ps m = same (among (source_of sh ps) (length ps) m) (agreed sh (source_of sh ps) (length ps) m) (agreed-none sh (source_of sh ps) (length ps) m)
  where
    same : (c a : Bool) → (c ≡ false → a ≡ false) → cond c (both c (not a)) true ≡ not a
    same true a none = refl
    same false a none = ap not (sym (none refl))

-- and lost where it was sent besides
lost-agreed : (h : Header) (ps : List Packet) (m : ℕ)
    → lost h ps m ≡ both (not (unsent h m)) (not (agreed h.shape (source_of h.shape ps) (length ps) m))
unfolding lost sends
lost-agreed h ps m = ap (both (not (unsent h m))) (missed-agreed h.shape ps m)

-- the flag of a cell once packets are placed
flag-test : (u a : Bool) → eqb (cond u 2 (cond a 0 1)) 1 ≡ both (not u) (not a)
unfolding both
flag-test true a = refl
flag-test false true = refl
flag-test false false = refl

flag-known : (u a : Bool) → both (not u) (not a) ≡ false → ◌≡◌ {A = ℕ} (cond u 2 (cond a 0 1)) (cond u 2 0)
unfolding both
flag-known true a e = refl
flag-known false true e = refl
flag-known false false e = absurd (true≢false e)

flag-missing : (u a : Bool) → both (not u) (not a) ≡ true → u ≡ false
unfolding both
flag-missing true a e = absurd (false≢true e)
flag-missing false a e = refl

flag-agreed : (u a : Bool) → u ≡ false → both (not u) (not a) ≡ false → a ≡ true
unfolding both
flag-agreed u true f e = refl
flag-agreed u false f e = absurd (true≢false (sym (ap (λ (b : Bool). cond (not b) true false) f) ∙ e))

left-file : (n : ℕ) → left_in (gives (file n)) ≡ 0
unfolding left_in
left-file n = refl

left-left : (k : ℕ) → left_in (gives (left k)) ≡ k
unfolding left_in
left-left k = refl

-- a pack that is read is accepted with memory of the exact sizes
pub lent-passes : (p : List ℕ) (h : Header) (c : Section) (m : Memory) → air_of p ≡ passes (h, c) → Lent h.shape m
    → receive_checked p m ≡ passes (h, c)
unfolding receive_checked slices_fit and_then check sizes
lent-passes p h c m read l =
    let sh = h.shape in
    rw (
      read,
      (air-sound p h c read).header.measured,
      both_true (eqb (length m.cube) (sh.w * cells sh)) _ (eq-eqb _ _ l.cube)
          (both_true (eqb (length m.flags) (cells sh)) _ (eq-eqb _ _ l.flags) (eq-eqb (length m.buffer) (capacity sh - 4) l.buffer)),
    )

module _ (h : Header) (contents x : List ℕ) (ps : List Packet) (s : Setting h contents x ps) (c : Section)
    (read : air_of (air_pack h ps) ≡ passes (h, c)) (carries : Carries (air_pack h ps) h c ps) where
  abbrev sh : Shape
  sh = h.shape

  abbrev air : Source
  air = source (air_pack h ps) h c

  -- ---- no refusal before filling

  checks-pass : (m : Memory) → Lent sh m → receive_checked (air_pack h ps) m ≡ passes (h, c)
  checks-pass m l = lent-passes (air_pack h ps) h c m read l

  place_at : (i : ℕ) → i < length ps → air.place i ≡ (source_of sh ps).place i
  place_at = heard-place h x ps s.each c carries

  byte_at : (i : ℕ) → i < length ps → (w : ℕ) → w < sh.w → air.byte i w ≡ (source_of sh ps).byte i w
  byte_at = heard-byte h x ps s.each c carries

  agreed-heard : (m : ℕ) → agreed sh air (length ps) m ≡ agreed sh (source_of sh ps) (length ps) m
  agreed-heard = agreed-cong sh air (source_of sh ps) (length ps) place_at byte_at

  conflicts-heard : conflicts_of sh air c.count ≡ number (in_conflict sh ps) (cells sh)
  unfolding conflicts_of in_conflict
  conflicts-heard =
      ap (λ (n : ℕ). number (conflicting sh air n) (cells sh)) carries.count
      ∙ number-cong _ _ (cells sh) (λ m l. conflicts-cong sh air (source_of sh ps) (length ps) place_at byte_at m)

  repeats-heard : repeats_of air c.count ≡ repeats_of (source_of sh ps) (length ps)
  repeats-heard = ap (repeats_of air) carries.count ∙ repeats-cong air (source_of sh ps) (length ps) place_at

  -- ---- placing

  module _ (xs₁ fs₁ : List ℕ) (placed : Placed h air (length ps) xs₁ fs₁) where
    placed-flag : (m : ℕ) → m < cells sh → get_or fs₁ m 0 ≡ cond (unsent h m) 2 (cond (agreed sh (source_of sh ps) (length ps) m) 0 1)
    unfolding flag_at
    placed-flag m l = placed.flags m l ∙ ap (λ (b : Bool). cond (unsent h m) 2 (cond b 0 1)) (agreed-heard m)

    placed-lost : (m : ℕ) → m < cells sh → missing fs₁ m ≡ lost h ps m
    unfolding missing
    placed-lost m l =
        ap (λ (n : ℕ). eqb n 1) (placed-flag m l) ∙ flag-test (unsent h m) (agreed sh (source_of sh ps) (length ps) m) ∙ sym (lost-agreed h ps m)

    -- a cell that came is known by its packet, and one that is not sent is 00h
    came-known : (n w : ℕ) → n < cells sh → w < sh.w → unsent h n ≡ false → missing fs₁ n ≡ false → layer sh xs₁ w n ≡ layer sh x w n
    came-known n w l b sent e =
        let all : agreed sh (source_of sh ps) (length ps) n ≡ true = flag-agreed (unsent h n) _ sent (sym (placed-lost n l ∙ lost-agreed h ps n) ∙ e) in
        let (i, less, f) = among-earlier (source_of sh ps) (length ps) n (agreed-then sh (source_of sh ps) (length ps) n all).came in
        let own = s.each.known i less (ap (agreed sh (source_of sh ps) (length ps)) f ∙ all) in
        let place = place_at i less ∙ f in
        ap (layer sh xs₁ w) (sym place) ∙ placed.bytes i less (ap (agreed sh air (length ps)) place ∙ agreed-heard n ∙ all) w b
        ∙ byte_at i less w b ∙ byte_of sh x ps i own w b ∙ ap (layer sh x w) f

    placed-known : (n w : ℕ) → n < cells sh → w < sh.w → missing fs₁ n ≡ false → layer sh xs₁ w n ≡ layer sh x w n
    placed-known n w l b e =
        ⊎_elim (λ none. placed.blank n w l b none ∙ sym (s.blank n w l b none)) (λ sent. came-known n w l b sent e) (true-or-false (unsent h n))

    -- ---- filling

    recovered : (xs' fs' : List ℕ) (a : Value CellsLeft) → FillOutcome reduction sh xs₁ fs₁ xs' fs' a → Recovered sh fs₁ x xs' fs' a
    recovered xs' fs' a o = code-recovered primitive o (placed-checked h _ _ xs₁ fs₁ s.sound.valid placed) x s.code placed-known

    -- cells that are known afterwards have flag 0, or 2 where they are not sent
    flags-known : (fs' : List ℕ) → Flagged fs₁ fs' → (n : ℕ) → n < cells sh → missing fs' n ≡ false → get_or fs' n 0 ≡ cond (unsent h n) 2 0
    flags-known fs' f n l e =
        let a = agreed sh (source_of sh ps) (length ps) n in
        let test = placed-lost n l ∙ lost-agreed h ps n in
        ⊎_elim
        (λ was. f.filled n was e ∙ sym (ap (λ (u : Bool). cond u 2 0) (flag-missing (unsent h n) a (sym test ∙ was))))
        (λ not-was. f.known n not-was ∙ placed-flag n l ∙ flag-known (unsent h n) a (sym test ∙ not-was))
        (true-or-false (missing fs₁ n))

    module _ (m m' : Memory) (k : ℕ) (o : Recovered sh fs₁ x m'.cube m'.flags (gives (CellsLeft.left k))) where
      left-number : k ≡ number (missing m'.flags) (cells sh)
      left-number = let e : gives (CellsLeft.left k) ≡ gives (CellsLeft.left (number (missing m'.flags) (cells sh))) = o.answer in cc

      lost-largest : Largest (cells sh) (IsLine sh) (lost h ps) (missing m'.flags)
      lost-largest = largest-missing placed-lost o.largest

      none_then : k ≡ 0 → OnlyEmpty sh (lost h ps)
      unfolding OnlyEmpty LostSet
      none_then z S u n l =
          not-true-false (S n)
          (λ e. omega (arith, left-number, number-pos (missing m'.flags) (cells sh) n l (lost-largest.every S u n l e)))

      none-when : OnlyEmpty sh (lost h ps) → k ≡ 0
      unfolding OnlyEmpty LostSet
      none-when e = left-number ∙ number-none (missing m'.flags) (cells sh) (e (missing m'.flags) lost-largest.stopping)

      left-27 : k ≢ 0 → 27 ≤ k
      left-27 some =
          ⊎_elim (λ z. absurd (some (left-number ∙ z))) (λ (t : 27 ≤ number (missing m'.flags) (cells sh)). omega (arith, left-number))
          (stopping-none-or-27 o.largest.stopping)

      -- an answer that has this count and opens the file exactly where it is 0
      exact : (a : Reception) → left_in (gives a) ≡ k
          → (k ≡ 0 → (gives a ≡ gives (file (length contents))) × (m'.buffer ≡ contents ++ drop (length contents) m.buffer))
          → (k ≢ 0 → (gives a ≡ gives (left k)) × (m'.buffer ≡ m.buffer))
          → Exact h contents x ps (lost h ps) m m' (gives a) (counts_of sh air)
      unfolding LostSet counts_of source heard
      exact a count back kept =
          record {
            answered = (a, refl);
            size = count ∙ left-number;
            largest = lost-largest;
            most = λ S u. rw (count, left-number) (largest_size lost-largest u);
            none_exactly = (λ z. none_then (sym count ∙ z), λ e. count ∙ none-when e);
            file_back = λ z. back (sym count ∙ z);
            otherwise = λ some.
                let nz : k ≢ 0 = λ z. some (count ∙ z) in
                (rw count (left-27 nz), (kept nz).0 ∙ ap (λ (n : ℕ). gives (left n)) (sym count), (kept nz).1);
            cube = o.cube;
            flags = o.flags.size ∙ placed.flags_size;
            known = flags-known m'.flags o.flags;
            packets = carries.count;
            repeats =
                ap (λ (n : ℕ). n + number (among (source_of sh ps) (length ps)) (cells sh)) repeats-heard
                ∙ repeats-different (source_of sh ps) (length ps) (cells sh) (named-lt sh x ps s.code.size s.each);
            conflicts = conflicts-heard;
          }

      -- a whole cube is x, and the file it holds is opened
      opens : (v : Value ℕ) → k ≡ 0 → OpenOutcome sh m'.cube m.buffer m'.buffer v
          → (v ≡ gives (length contents)) × (m'.buffer ≡ contents ++ drop (length contents) m.buffer)
      opens v none f =
          let valid = s.sound.valid in
          let whole : m'.cube ≡ x = recovered-whole o valid s.code.size (sym left-number ∙ none) in
          open-determined sh valid x (rw whole at f) (held contents (omega (arith, s.fits)) (sym (held_data-only sh x (data_string sh contents) valid s.holds)) refl)

  -- ---- the answer

  module _ (m : Memory) (l : Lent sh m) where
    same-header : (g : Header) (t : Section) → receive_checked (air_pack h ps) m ≡ passes (g, t) → g ≡ h
    same-header g t e = ap (λ (a : Header × Section). a.0) (passes-injective (g, t) (h, c) (sym e ∙ checks-pass m l))

    same-section : (g : Header) (t : Section) → receive_checked (air_pack h ps) m ≡ passes (g, t) → t ≡ c
    same-section g t e = ap (λ (a : Header × Section). a.1) (passes-injective (g, t) (h, c) (sym e ∙ checks-pass m l))

    taken-placed : (g : Header) (t : Section) → receive_checked (air_pack h ps) m ≡ passes (g, t) → (xs₁ fs₁ : List ℕ) → Taken (air_pack h ps) g t xs₁ fs₁
        → Placed h air (length ps) xs₁ fs₁
    taken-placed g t e xs₁ fs₁ taken =
        subst (λ (n : ℕ). Placed h air n xs₁ fs₁) carries.count (rw (same-header g t e, same-section g t e) at taken.placed)

    received : (m' : Memory) (value : Value Reception) (counts : Counts) → ReceiveOutcome reduction (air_pack h ps) m m' value counts
        → Exact h contents x ps (lost h ps) m m' value counts
    received m' _ _ (unopened _ _ (unfit n e a b) same) = absurd (passes-fails (h, c) n (sym (checks-pass m l) ∙ e))
    received m' _ _ (unopened _ _ (index g t e i less out before a b) same) =
        let header = same-header g t e in
        let section = same-section g t e in
        let l' : i < length ps = omega (arith, carries.count, ap (λ (q : Section). q.count) section) in
        absurd ((rw (header, section) at out) (heard-range h x ps s.each c carries i l' s.sound.valid (s.sent i l')))
    received m' _ _ (unopened _ _ (contradiction g t e xs₁ fs₁ taken o) same) =
        let placed = taken-placed g t e xs₁ fs₁ taken in
        let header = same-header g t e in
        absurd (gives-refused _ 13 (sym (recovered xs₁ fs₁ placed _ _ _ (rw header at o)).answer))
    received m' _ _ (unopened _ _ (some_left g t e xs₁ fs₁ taken k some o) same) =
        let placed = taken-placed g t e xs₁ fs₁ taken in
        let header = same-header g t e in
        let section = same-section g t e in
        rw (header, section)
        (exact xs₁ fs₁ placed m m' k (recovered xs₁ fs₁ placed _ _ _ (rw header at o)) (left k) (left-left k) (λ z. absurd (omega arith)) (λ nz. (refl, same)))
    received m' _ _ (bad_file g' t' k e' (none_left g t e xs₁ fs₁ taken o) f) =
        let placed = taken-placed g t e xs₁ fs₁ taken in
        let header = same-header g t e in
        let header' = same-header g' t' e' in
        absurd (gives-refused _ 14 (sym (opens xs₁ fs₁ placed m m' 0 (recovered xs₁ fs₁ placed _ _ _ (rw header at o)) _ refl (rw header' at f)).0))
    received m' _ _ (opened g' t' k e' (none_left g t e xs₁ fs₁ taken o) n f) =
        let placed = taken-placed g t e xs₁ fs₁ taken in
        let header = same-header g t e in
        let section = same-section g t e in
        let header' = same-header g' t' e' in
        let whole = recovered xs₁ fs₁ placed _ _ _ (rw header at o) in
        let (count, bytes) = opens xs₁ fs₁ placed m m' 0 whole _ refl (rw header' at f) in
        rw (header, section)
        (exact xs₁ fs₁ placed m m' 0 whole (file n) (left-file n)
        (λ z. (ap (λ (q : ℕ). gives (file q)) (gives-injective n (length contents) count), bytes)) (λ nz. absurd (nz refl)))

-- Demand 3.
pub demand3 : Demand3
unfolding Demand3 Demanded
demand3 p h contents x output w =
    let j = wrote-job p h contents x output w in
    let (s, all) = all-written h contents x output j in (
      s,
      all,
      λ ps m m' value counts heard l o.
          let set = setting h contents x output ps s j all heard in
          let (c, read, carries) = air-read h ps j.sound (each-sized h.shape x ps set.code.size set.each) set.few in
          received h contents x ps set c read carries m l m' value counts o,
    )

-- ---- packets written alone

module _ (h : Header) (contents x output : List ℕ) (s : Section) (all : AllWritten h contents x output s) (ps : List Packet)
    (alone : WrittenAlone h output s ps) where
  alone-heard : Heard h output s ps
  unfolding IsWritten
  alone-heard =
      record {
        cell = λ i l. let (n, less, e) = alone.written i l in (n, less, same_copy e);
        written = λ i l none. alone.written i l;
        count = alone.count;
      }

  alone-lost : (n : ℕ) → lost h ps n ≡ unheard h ps n
  unfolding lost unheard missed
  alone-lost n = ap (both (sends h n)) (rw (none_differ h.shape x ps n (λ i l p. of-cell all (alone.written i l))) (same (heard h.shape ps n)))
    where
      same : (b : Bool) → cond b false true ≡ not b
      same true = refl
      same false = refl

-- Demand 3 as document 01 has it.
pub demand3-alone : Demand3Alone
unfolding Demand3Alone Demand3 Demanded
demand3-alone p h contents x output w =
    let (s, all, exact) = demand3 p h contents x output w in (
      s,
      all,
      λ ps m m' value counts alone l o.
          subst (λ (L : ℕ → Bool). Exact h contents x ps L m m' value counts) (fun_ext (alone-lost h contents x output s all ps alone))
          (exact ps m m' value counts (alone-heard h contents x output s all ps alone) l o),
    )
