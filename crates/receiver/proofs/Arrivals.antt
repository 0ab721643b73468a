-- The cube and flags as packets are placed: none yet; one more, the first of its cell or a copy that equals what stands there or differs from
-- it; and the flags at the end.
use mathlib.Core.Path.{◌≡◌, refl, sym, ap, ◌∙◌}
use mathlib.Core.Bool.{Bool, true, false, cond, not, true≢false, false≢true}
use mathlib.Core.List.{List}
use mathlib.Core.Logic.{◌≢◌, ⊎_elim}
use Prim.Native.Nat.{ℕ, suc, ◌+◌, ◌-◌, ◌*◌, ◌≤◌, ◌<◌}
use native.Mathlib.Decide.{ℕ_discrete, dec_lt}
use native.Mathlib.Nat.{add-zero, suc-mul, zero-mul}
use native.Mathlib.Numerals.{add-one}
use native.Mathlib.Omega.{arith}
use lib.Dec.{eqb}
use lib.ListN.{length, get_or, set, length-set}
use lib.Seq.{get_or-set_same, get_or-set_other}
use Rattle.span.proofs.Stretches.{stretch-end}
use Rattle.span.proofs.Differing.{differing-byte}
use Rattle.span.specs.Decision.{Decides}
use Rattle.span.specs.Span.{Copied, SameBytes, BothInside}
use Rattle.shape.specs.declared.Shape.{Shape}
use Rattle.shape.specs.Shapes.{both, cells}
use Rattle.shape.specs.Inner.Marks.{is_marked, Remarked}
use Rattle.data.specs.Data.{layer}
use Rattle.stopping.specs.Stopping.{number}
use Rattle.stopping.proofs.Number.{true-or-false, number-nil, number-le, number-cong, number-none, number-zero}
use Rattle.pack.specs.declared.Header.{Header}
use Rattle.pack.specs.Packs.{unsent}
use Rattle.pack.specs.Packets.{Source}
use Rattle.receiver.specs.Placing.{among, repeats_of, agreed, conflicting, conflicts_of, flag_at, Placed}
use Rattle.receiver.specs.Inner.Placing.{mark_at, Marked, Arrived, Tried, Run, Stops}
use Rattle.receiver.proofs.Copies.{among-earlier, among_same, among-other, earlier-among, agreed-none, conflict-then, equal-conflict, agreed-other, agreed-more, agreed-differs, agreed-never}

-- ---- flags and marks

pub flag-le : (h : Header) (s : Source) (n m : ℕ) → flag_at h s n m ≤ 2
unfolding flag_at
flag-le h s n m = bound (unsent h m) (agreed h.shape s n m)
  where
    bound : (u a : Bool) → cond u 2 (cond a 0 1) ≤ 2
    bound true a = omega arith
    bound false true = omega arith
    bound false false = omega arith

-- before any packet a mark only tells whether the cell is sent
pub mark-none : (h : Header) (s : Source) (m : ℕ) → mark_at h s 0 m ≡ cond (unsent h m) 2 1
unfolding mark_at agreed among both
mark-none h s m = refl

module _ (h : Header) (s : Source) (n m : ℕ) where
  -- of a cell that is sent
  module _ (sent : unsent h m ≡ false) where
    mark-new : among s n m ≡ false → mark_at h s n m ≡ 1
    unfolding mark_at
    mark-new e = rw (sent, agreed-none h.shape s n m e, e)

    mark-equal : agreed h.shape s n m ≡ true → mark_at h s n m ≡ 0
    unfolding mark_at
    mark-equal e = rw (sent, e)

    mark-differs : among s n m ≡ true → agreed h.shape s n m ≡ false → mark_at h s n m ≡ 3
    unfolding mark_at
    mark-differs came unequal = rw (sent, unequal, came)

    old-mark : (mark_at h s n m ≡ 1 → ⊥) → among s n m ≡ true
    old-mark some = not-false-true (among s n m) (λ e. some (mark-new e))
      where
        not-false-true : (b : Bool) → b ≢ false → b ≡ true
        not-false-true true e = refl
        not-false-true false e = absurd (e refl)

    -- the flag is 1 where copies differ
    conflict-flag : conflicting h.shape s n m ≡ true → flag_at h s n m ≡ 1
    unfolding flag_at
    conflict-flag e = rw (sent, (conflict-then h.shape s n m e).1)

  new-mark : mark_at h s n m ≡ 1 → among s n m ≡ false
  unfolding mark_at
  new-mark e = new (unsent h m) (agreed h.shape s n m) (among s n m) e
    where
      new : (u a c : Bool) → ◌≡◌ {A = ℕ} (cond u 2 (cond a 0 (cond c 3 1))) 1 → c ≡ false
      new true a c e = absurd (omega arith)
      new false true c e = absurd (omega arith)
      new false false true e = absurd (omega arith)
      new false false false e = refl

  -- the mark is the flag where the copies do not differ
  mark-flag : conflicting h.shape s n m ≡ false → mark_at h s n m ≡ flag_at h s n m
  unfolding mark_at flag_at conflicting both
  mark-flag e = ap (cond (unsent h m) 2) (same (agreed h.shape s n m) (among s n m) e)
    where
      same : (a c : Bool) → both c (not a) ≡ false → ◌≡◌ {A = ℕ} (cond a 0 (cond c 3 1)) (cond a 0 1)
      same true c e = refl
      same false true e = absurd (true≢false e)
      same false false e = refl

  -- the mark of cells whose copies are not all equal, where only cells that are sent came
  mark-conflict : (among s n m ≡ true → unsent h m ≡ false) → eqb (mark_at h s n m) 3 ≡ conflicting h.shape s n m
  unfolding mark_at conflicting both
  mark-conflict sent = same (unsent h m) (agreed h.shape s n m) (among s n m) sent
    where
      same : (u a c : Bool) → (c ≡ true → u ≡ false) → eqb (cond u 2 (cond a 0 (cond c 3 1))) 3 ≡ both c (not a)
      same true a true f = absurd (true≢false (f refl))
      same true a false f = refl
      same false true true f = refl
      same false true false f = refl
      same false false true f = refl
      same false false false f = refl

-- ---- none yet

pub repeats-none : (s : Source) → repeats_of s 0 ≡ 0
unfolding repeats_of
repeats-none s = number-nil _

pub repeats-le : (s : Source) (n : ℕ) → repeats_of s n ≤ n
unfolding repeats_of
repeats-le s n = number-le _ n

-- ---- one packet more

repeats-more : (s : Source) (n : ℕ) → repeats_of s (n + 1) ≡ repeats_of s n + cond (among s n (s.place n)) 1 0
unfolding repeats_of number
repeats-more s n = rw (add-one n)

repeats-new : (s : Source) (n : ℕ) → among s n (s.place n) ≡ false → repeats_of s (n + 1) ≡ repeats_of s n + 0
repeats-new s n e = rw e at (repeats-more s n)

repeats-again : (s : Source) (n : ℕ) → among s n (s.place n) ≡ true → repeats_of s (n + 1) ≡ repeats_of s n + 1
repeats-again s n e = rw e at (repeats-more s n)

-- a cell whose run of bytes is written keeps no other cell's bytes from standing
kept-bytes : (sh : Shape) (src xs ys : List ℕ) (from m k w : ℕ) → Copied src from xs (m * sh.w) sh.w ys → k ≢ m → w < sh.w
    → layer sh ys w k ≡ layer sh xs w k
unfolding layer
kept-bytes sh src xs ys from m k w h ne l =
    elim (dec_lt k m) [
      | yes less ↦ h.kept.below (k * sh.w + w) (omega (arith, stretch-end k m sh.w less))
      | no more ↦ let above : m < k = omega arith in h.kept.above (k * sh.w + w) (omega (arith, stretch-end m k sh.w above))
    ]

-- the bytes of a cell lie inside the cube
pub cell-inside : (sh : Shape) (m bytes : ℕ) → m < cells sh → bytes ≡ sh.w * cells sh → m * sh.w + sh.w ≤ bytes
cell-inside sh m bytes l size = omega (arith, stretch-end m (cells sh) sh.w l)

-- Packet i is for cell m, which is inside and sent. What stands in src from `from` on are its bytes.
module _ (h : Header) (s : Source) (i : ℕ) (xs fs : List ℕ) (marked : Marked h s i xs fs) (m : ℕ) (here : m ≡ s.place i) (inside : m < cells h.shape)
    (sent : unsent h (s.place i) ≡ false) where
  mark-here : get_or fs m 0 ≡ mark_at h s i (s.place i)
  mark-here = marked.flags m inside ∙ ap (mark_at h s i) here

  pub is-first : get_or fs m 0 ≡ 1 → among s i (s.place i) ≡ false
  is-first e = new-mark h s i (s.place i) (sym mark-here ∙ e)

  pub is-repeat : (get_or fs m 0 ≡ 1 → ⊥) → among s i (s.place i) ≡ true
  is-repeat came = old-mark h s i (s.place i) sent (λ e. came (mark-here ∙ e))

  -- cell m has its next mark and, where its copies are all equal, their bytes; all else is kept
  marked_next : (ys gs : List ℕ) → length ys ≡ length xs → length gs ≡ length fs
      → ((k w : ℕ) → k ≢ m → w < h.shape.w → layer h.shape ys w k ≡ layer h.shape xs w k) → ((k : ℕ) → k ≢ m → get_or gs k 0 ≡ get_or fs k 0)
      → get_or gs m 0 ≡ mark_at h s (i + 1) (s.place i)
      → ((k : ℕ) → k < i + 1 → s.place k ≡ s.place i → agreed h.shape s (i + 1) (s.place i) ≡ true → (w : ℕ) → w < h.shape.w → layer h.shape ys w m ≡ s.byte k w)
      → Marked h s (i + 1) ys gs
  unfolding mark_at
  marked_next ys gs a b keep others mark bytes =
      record {
        cube_size = a ∙ marked.cube_size;
        flags_size = b ∙ marked.flags_size;
        flags = λ k l. elim (ℕ_discrete k m) [
          | yes e ↦ rw (e ∙ here) (ap (λ (q : ℕ). get_or gs q 0) (sym here) ∙ mark)
          | no ne ↦ let apart : k ≢ s.place i = λ e. ne (e ∙ sym here) in
              rw (agreed-other h.shape s i k apart, among-other s i k apart) (others k ne ∙ marked.flags k l)
        ];
        bytes = λ k l e w lw. elim (ℕ_discrete (s.place k) m) [
          | yes same ↦ rw same (bytes k l (same ∙ here) (ap (agreed h.shape s (i + 1)) (sym (same ∙ here)) ∙ e) w lw)
          | no ne ↦ let apart : s.place k ≢ s.place i = λ e. ne (e ∙ sym here) in
              keep (s.place k) w ne lw
              ∙ marked.bytes k (earlier k l apart) (sym (agreed-other h.shape s i (s.place k) apart) ∙ e) w lw
        ];
        blank = λ k w l lw e.
            keep k w (λ (same : k ≡ m). true≢false (sym e ∙ ap (unsent h) (same ∙ here) ∙ sent)) lw ∙ marked.blank k w l lw e;
      }
    where
      earlier : (k : ℕ) → k < i + 1 → s.place k ≢ s.place i → k < i
      earlier k l apart =
          elim (ℕ_discrete k i) [
            | yes e ↦ absurd (apart (ap s.place e))
            | no d ↦ omega arith
          ]

  module _ (src : List ℕ) (from : ℕ) (read : (w : ℕ) → w < h.shape.w → get_or src (from + w) 0 ≡ s.byte i w) where
    -- the first packet of its cell
    pub arrived-first : (ys : List ℕ) → get_or fs m 0 ≡ 1 → Copied src from xs (m * h.shape.w) h.shape.w ys → Arrived h s i ys (set fs m 0) 0
    unfolding layer
    arrived-first ys one copy =
        let alone : (k : ℕ) → k < i → s.place k ≢ s.place i =
        λ k l same. false≢true (sym (is-first one) ∙ ap (among s i) (sym same) ∙ earlier-among s i k l) in
        let all = agreed-more h.shape s i (λ j l same w lw. absurd (alone j l same)) in
        record {
          marked =
              marked_next ys (set fs m 0) copy.kept.size (length-set fs m 0) (λ k w ne l. kept-bytes h.shape src xs ys from m k w copy ne l)
              (λ k ne. get_or-set_other fs m k 0 0 ne)
              (get_or-set_same fs m 0 0 (rw marked.flags_size inside) ∙ sym (mark-equal h s (i + 1) (s.place i) sent all))
              (λ k l same e w lw. elim (ℕ_discrete k i) [
                | yes last ↦ rw last (copy.copied w lw ∙ read w lw)
                | no d ↦ absurd (alone k (omega arith) same)
              ]);
          repeats = repeats-new s i (is-first one);
        }

    -- a copy, compared with what stands in its cell
    module _ (came : get_or fs m 0 ≡ 1 → ⊥) (answer : Bool) (d : Decides (SameBytes src from xs (m * h.shape.w) h.shape.w) answer)
        (Inside-both : BothInside src from xs (m * h.shape.w) h.shape.w) where
      again : among s i (s.place i) ≡ true
      again = is-repeat came

      -- of a cell whose copies are all equal so far: what stands there is what each brought
      earlier-byte : agreed h.shape s i (s.place i) ≡ true → (j w : ℕ) → j < i → s.place j ≡ s.place i → w < h.shape.w → layer h.shape xs w m ≡ s.byte j w
      earlier-byte equal j w l same lw =
          ap (layer h.shape xs w) (here ∙ sym same) ∙ marked.bytes j l (ap (agreed h.shape s i) same ∙ equal) w lw

      -- it equals them, or they differ among themselves
      pub arrived-same : answer ≡ true → Arrived h s i xs fs 1
      unfolding layer
      arrived-same yes-same =
          let stands : (w : ℕ) → w < h.shape.w → get_or xs (m * h.shape.w + w) 0 ≡ s.byte i w = λ w lw. sym ((d.yes_then yes-same).bytes w lw) ∙ read w lw in
          record {
            repeats = repeats-again s i again;
            marked =
                ⊎_elim
                (λ (equal : agreed h.shape s i (s.place i) ≡ true).
                let all = agreed-more h.shape s i (λ j l same w lw. sym (earlier-byte equal j w l same lw) ∙ stands w lw) in
                marked_next xs fs refl refl (λ k w ne l. refl) (λ k ne. refl)
                (mark-here ∙ mark-equal h s i (s.place i) sent equal ∙ sym (mark-equal h s (i + 1) (s.place i) sent all))
                (λ k l same e w lw. elim (ℕ_discrete k i) [
                  | yes last ↦ rw last (stands w lw)
                  | no d ↦ earlier-byte equal k w (omega arith) same lw
                ]))
                (λ (unequal : agreed h.shape s i (s.place i) ≡ false).
                let never = agreed-never h.shape s i again unequal in
                marked_next xs fs refl refl (λ k w ne l. refl) (λ k ne. refl)
                (mark-here ∙ mark-differs h s i (s.place i) sent again unequal ∙ sym (mark-differs h s (i + 1) (s.place i) sent (among_same s i) never))
                (λ k l same e w lw. absurd (true≢false (sym e ∙ never))))
                (true-or-false (agreed h.shape s i (s.place i)));
          }

      -- it differs from one of them, or they differ among themselves
      pub arrived-other : answer ≡ false → Arrived h s i xs (set fs m 3) 1
      unfolding layer
      arrived-other no_same =
          let (j, l, same) = among-earlier s i (s.place i) again in
          let (w, lw, ne) = differing-byte src xs from (m * h.shape.w) h.shape.w answer d Inside-both no_same in
          let never : agreed h.shape s (i + 1) (s.place i) ≡ false =
          ⊎_elim
          (λ (equal : agreed h.shape s i (s.place i) ≡ true).
          agreed-differs h.shape s i j w l same lw (λ e. ne (read w lw ∙ sym e ∙ sym (earlier-byte equal j w l same lw))))
          (agreed-never h.shape s i again) (true-or-false (agreed h.shape s i (s.place i))) in
          record {
            repeats = repeats-again s i again;
            marked =
                marked_next xs (set fs m 3) refl (length-set fs m 3) (λ k w ne l. refl) (λ k ne. get_or-set_other fs m k 3 0 ne)
                (get_or-set_same fs m 3 0 (rw marked.flags_size inside)
                ∙ sym (mark-differs h s (i + 1) (s.place i) sent (among_same s i) never))
                (λ k q p e v r. absurd (true≢false (sym e ∙ never)));
          }

-- ---- one packet tried

module _ (h : Header) (s : Source) (i adds : ℕ) (came : Bool) where
  pub tried-placed : (xs fs ys gs : List ℕ) → Arrived h s i ys gs adds → Tried h s i xs fs ys gs adds came true
  tried-placed xs fs ys gs a = record { placed = λ e. a; other = λ e. absurd (true≢false e) }

  pub tried_other : (xs fs : List ℕ) → among s i (s.place i) ≡ came → Tried h s i xs fs xs fs adds came false
  tried_other xs fs e = record { placed = λ f. absurd (false≢true f); other = λ f. (e, refl, refl) }

-- ---- a run of packets

module _ (h : Header) (s : Source) (n i : ℕ) (adds : ℕ) where
  pub run_none : (xs fs : List ℕ) → i ≤ n → Marked h s i xs fs → Run h s n i i xs fs adds
  run_none xs fs l marked =
      let none : i - i ≡ 0 = omega arith in
      record { low = omega arith; high = l; marked = marked; repeats = sym (rw (none, zero-mul adds) (add-zero (repeats_of s i))) }

  pub run_more : (j : ℕ) (xs fs ys gs : List ℕ) → Run h s n i j xs fs adds → j < n → Arrived h s j ys gs adds → Run h s n i (j + 1) ys gs adds
  run_more j xs fs ys gs r l a =
      let more : j + 1 - i ≡ suc (j - i) = omega (arith, r.low) in
      record {
        low = omega (arith, r.low);
        high = omega arith;
        marked = a.marked;
        repeats = rw (more, suc-mul (j - i) adds) (omega (arith, a.repeats, r.repeats));
      }

-- a run of repeats from a repeat on is not empty
pub run-moves : (h : Header) (s : Source) (n i j adds : ℕ) (xs fs : List ℕ) → Run h s n i j xs fs adds → i < n → Stops s n i true → Stops s n j false → i < j
run-moves h s n i j adds xs fs r l repeat first =
    elim (ℕ_discrete i j) [
      | yes e ↦ absurd (true≢false (sym (repeat l) ∙ ap (λ (k : ℕ). among s k (s.place k)) e ∙ first (omega arith)))
      | no ne ↦ omega (arith, r.low)
    ]

-- ---- all packets placed

module _ (h : Header) (s : Source) (n : ℕ) (xs fs : List ℕ) (marked : Marked h s n xs fs) (sent : (i : ℕ) → i < n → unsent h (s.place i) ≡ false) where
  -- every cell that came is sent
  came-sent : (m : ℕ) → among s n m ≡ true → unsent h m ≡ false
  came-sent m e = let (i, l, same) = among-earlier s n m e in ap (unsent h) (sym same) ∙ sent i l

  is_marked-conflict : (m : ℕ) → m < cells h.shape → is_marked fs m ≡ conflicting h.shape s n m
  unfolding is_marked
  is_marked-conflict m l = ap (λ (v : ℕ). eqb v 3) (marked.flags m l) ∙ mark-conflict h s n m (came-sent m)

  -- the marks made missing
  pub settled-placed : (gs : List ℕ) → Remarked 1 fs gs → Placed h s n xs gs
  settled-placed gs e =
      record {
        cube_size = marked.cube_size;
        flags_size = e.size ∙ marked.flags_size;
        flags = λ m l.
            ⊎_elim
            (λ (c : is_marked fs m ≡ true).
            let differ = sym (is_marked-conflict m l) ∙ c in
            let here = came-sent m (conflict-then h.shape s n m differ).0 in
            e.marks m (rw marked.flags_size l) c ∙ sym (conflict-flag h s n m here differ))
            (λ (c : is_marked fs m ≡ false).
            e.others m c ∙ marked.flags m l ∙ mark-flag h s n m (sym (is_marked-conflict m l) ∙ c))
            (true-or-false (is_marked fs m));
        bytes = marked.bytes;
        blank = marked.blank;
      }

  pub settled-conflicts : number (is_marked fs) (length fs) ≡ conflicts_of h.shape s n
  unfolding conflicts_of
  settled-conflicts = ap (number (is_marked fs)) marked.flags_size ∙ number-cong _ _ (cells h.shape) is_marked-conflict

  -- without repeats there is nothing to settle
  module _ (none : repeats_of s n ≡ 0) where
    alone : (i j : ℕ) → i < n → j < n → s.place i ≡ s.place j → i < j → ⊥
    unfolding repeats_of
    alone i j l r same less =
        true≢false (sym (ap (among s j) (sym same) ∙ earlier-among s j i less) ∙ number-zero _ n none j r)

    no-conflict : (m : ℕ) → conflicting h.shape s n m ≡ false
    no-conflict m = equal-conflict h.shape s n m (λ i j l r p q w lw. ap (λ (k : ℕ). s.byte k w) (one i j l r (p ∙ sym q)))
      where
        one : (i j : ℕ) → i < n → j < n → s.place i ≡ s.place j → i ≡ j
        one i j l r same =
            elim (dec_lt i j) [
              | yes less ↦ absurd (alone i j l r same less)
              | no more ↦ elim (dec_lt j i) [
                | yes less ↦ absurd (alone j i r l (sym same) less)
                | no equal ↦ omega arith
              ]
            ]

    pub none-placed : Placed h s n xs fs
    none-placed =
        record {
          cube_size = marked.cube_size;
          flags_size = marked.flags_size;
          flags = λ m l. marked.flags m l ∙ mark-flag h s n m (no-conflict m);
          bytes = marked.bytes;
          blank = marked.blank;
        }

    pub none-conflicts : conflicts_of h.shape s n ≡ 0
    unfolding conflicts_of
    none-conflicts = number-none _ (cells h.shape) (λ m l. no-conflict m)
