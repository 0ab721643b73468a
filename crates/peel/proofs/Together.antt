-- Neighbouring lines that miss the same one or two places, filled together: no stopping set has a cell on them, so whatever is a codeword there
-- is the completed line, and the step leads from one state of peeling to another.
use mathlib.Core.Path.{◌≡◌, sym, ap, subst, ◌∙◌}
use mathlib.Core.Bool.{Bool, true, false, cond, true≢false}
use mathlib.Core.List.{List}
use mathlib.Core.Logic.{◌⊎◌, inl, inr, ⊎_elim}
use Prim.Native.Nat.{ℕ, ◌+◌, ◌-◌, ◌*◌, ◌≤◌, ◌<◌}
use native.Mathlib.Nat.{add-mul, mul-suc, mul-le-mul_left, mul-le-mul_right, mul-pos}
use native.Mathlib.Decide.{ℕ_discrete, dec_lt}
use native.Mathlib.Omega.{arith}
use borrow.Author.Tests.{lt-ltb, le-ltb}
use lib.Dec.{ltb}
use lib.ListN.{get_or}
use Rattle.span.proofs.Stretches.{stretch-end}
use Rattle.shape.specs.declared.Shape.{Shape}
use Rattle.shape.specs.Shapes.{cells, IsLine}
use Rattle.data.specs.Data.{layer}
use Rattle.cube.specs.Cube.{layer_line}
use Rattle.cube.proofs.AxisRuns.{layer_below}
use Rattle.shape.proofs.Missing.{one-missing, not-missing, missing-cong}
use Rattle.shape.proofs.Geometry.{line-cell-lt}
use Rattle.line.specs.Line.{Codeword}
use Rattle.line.specs.Run.{line_at, Off}
use Rattle.line.proofs.Runs.{Solved, solved-forced}
use Rattle.field.specs.Field.{Primitive}
use Rattle.stopping.specs.Stopping.{number, on_line, Stopping}
use Rattle.stopping.proofs.Number.{number-cong, number-all, number-none, number_append}
use Rattle.stopping.proofs.Stopping.{on_line-none, peel}
use Rattle.stopping.proofs.Cube.{cube-fits}
use Rattle.shape.specs.Flags.{missing}
use Rattle.erasures.proofs.Scanning.{scanned-order, scanned-one, scanned-two}
use Rattle.peel.specs.Peel.{Sized}
use Rattle.peel.specs.Peel.{Stops, Agrees, CodeOff, Reaches}
use Rattle.peel.specs.Inner.Sweep.{Filled}
use Rattle.peel.specs.Inner.OnLine.{Neighbours, Alike, Hole, earlier, later, Flagged, AllStop, run_of}
use Rattle.peel.proofs.Lines.{run-place, run-beside, lines-inside}

-- ---- a block of cells fewer

-- the set P with n cells from a on taken out
number-block : (P Q : ℕ → Bool) (all a n : ℕ) → a + n ≤ all → ((i : ℕ) → a ≤ i → i < a + n → P i ≡ true)
    → ((i : ℕ) → a ≤ i → i < a + n → Q i ≡ false) → ((i : ℕ) → (i < a) ⊎ (a + n ≤ i) → P i ≡ Q i) → number P all ≡ number Q all + n
number-block P Q all a n l p q same =
    omega (
      arith,
      parts P,
      parts Q,
      number-cong P Q a (λ i h. same i (inl h)),
      number-all (λ i. P (a + i)) n (λ i h. p (a + i) (omega arith) (omega arith)),
      number-none (λ i. Q (a + i)) n (λ i h. q (a + i) (omega arith) (omega arith)),
      number-cong (λ i. P (a + (n + i))) (λ i. Q (a + (n + i))) (all - (a + n)) (λ i h. same (a + (n + i)) (inr (omega arith))),
    )
  where
    parts : (R : ℕ → Bool) → number R all ≡ number R a + (number (λ i. R (a + i)) n + number (λ i. R (a + (n + i))) (all - (a + n)))
    parts R =
        let e : all ≡ a + (n + (all - (a + n))) = omega arith in
        ap (number R) e ∙ number_append R a (n + (all - (a + n)))
        ∙ ap (λ (k : ℕ). number R a + k) (number_append (λ i. R (a + i)) n (all - (a + n)))

-- P below a number, Q from it on
cut : (ℕ → Bool) → (ℕ → Bool) → ℕ → ℕ → Bool
cut P Q b i = cond (ltb i b) (P i) (Q i)

cut_below : (P Q : ℕ → Bool) (b i : ℕ) → i < b → cut P Q b i ≡ P i
unfolding cut
cut_below P Q b i l = rw (lt-ltb i b l)

cut-above : (P Q : ℕ → Bool) (b i : ℕ) → b ≤ i → cut P Q b i ≡ Q i
unfolding cut
cut-above P Q b i l = rw (le-ltb i b l)

-- ---- the holes of neighbouring lines

-- below or above the cells at one place of the lines
abbrev Beside : ℕ → ℕ → ℕ → ℕ → ℕ → Type 0
Beside first stride n i m = (m < first + stride * i) ⊎ (first + stride * i + n ≤ m)

module _ (first stride n j k : ℕ) where
  at-or-beside : (m i : ℕ) → ((q : ℕ) × (q < n) × (first + q + stride * i ≡ m)) ⊎ Beside first stride n i m
  at-or-beside m i =
      elim (dec_lt m (first + stride * i)) [
        | yes below ↦ inr (inl below)
        | no high ↦
            elim (dec_lt m (first + stride * i + n)) [
              | yes low ↦ inl (m - (first + stride * i), omega arith, omega arith)
              | no above ↦ inr (inr (omega arith))
            ]
      ]

  beside-no-hole : (m : ℕ) → Beside first stride n j m → Beside first stride n k m → Hole first stride n j k m → ⊥
  beside-no-hole _ a b (earlier q l) =
      ⊎_elim (λ (c : first + q + stride * j < first + stride * j). omega arith) (λ (c : first + stride * j + n ≤ first + q + stride * j). omega arith) a
  beside-no-hole _ a b (later q l) =
      ⊎_elim (λ (c : first + q + stride * k < first + stride * k). omega arith) (λ (c : first + stride * k + n ≤ first + q + stride * k). omega arith) b

  hole-or-beside : (m : ℕ) → Hole first stride n j k m ⊎ (Beside first stride n j m × Beside first stride n k m)
  hole-or-beside m =
      ⊎_elim
      (λ (a : (q : ℕ) × (q < n) × (first + q + stride * j ≡ m)). inl (subst (Hole first stride n j k) a.2 (earlier a.0 a.1)))
      (λ a.
      ⊎_elim (λ (b : (q : ℕ) × (q < n) × (first + q + stride * k ≡ m)). inl (subst (Hole first stride n j k) b.2 (later b.0 b.1)))
      (λ b. inr (a, b)) (at-or-beside m k)) (at-or-beside m j)

  pub hole-or-not : (m : ℕ) → Hole first stride n j k m ⊎ (Hole first stride n j k m → ⊥)
  hole-or-not m = ⊎_elim (λ h. inl h) (λ b. inr (beside-no-hole m b.0 b.1)) (hole-or-beside m)

-- the bytes of a cell beside a place of the lines are off it
beside-off : (sh : Shape) (first stride len n i m t : ℕ) → t < sh.w → Beside first stride n i m → Off (run_of sh first stride len n) i (m * sh.w + t)
unfolding Off run_of
beside-off sh first stride len n i m t b =
    ⊎_elim
    (λ (a : m < first + stride * i).
    inl (omega (arith, run-place sh.w first stride i, stretch-end m (first + stride * i) sh.w a)))
    (λ (a : first + stride * i + n ≤ m).
    inr (omega (arith, run-place sh.w first stride i, add-mul (first + stride * i) n sh.w, mul-le-mul_right sh.w a)))

-- ---- neighbouring lines filled

module _ (sh : Shape) (xs fs ms gs ns : List ℕ) (z : Sized sh xs fs) (first stride len n count j k : ℕ) (l : Neighbours sh first stride len n)
    (s : Alike (missing fs) first stride len n count j k) (d : Flagged sh first stride n j k fs ms gs ns) where
  ordered : j ≤ k
  ordered = scanned-order _ _ _ _ _ _ _ (s.each 0 l.some) s.some

  k_lt : k < len
  k_lt = (s.each 0 l.some).bound s.some

  was-missing : (m : ℕ) → Hole first stride n j k m → missing fs m ≡ true
  was-missing _ (earlier q h) = (s.each q h).at_first s.some
  was-missing _ (later q h) = (s.each q h).at_last s.some

  not_left : (m : ℕ) → Hole first stride n j k m → missing gs m ≡ false
  not_left m h = not-missing gs m (λ e. let f : ◌≡◌ {A = ℕ} 3 1 = sym (d.filled m h) ∙ e in omega arith)

  kept-flag : (m : ℕ) → (Hole first stride n j k m → ⊥) → missing gs m ≡ missing fs m
  kept-flag m off = missing-cong fs gs m (d.others m off)

  line-few : (q : ℕ) → q < n → on_line (missing fs) (first + q) stride len ≤ 2
  line-few q h = omega (arith, (s.each q h).number, s.few)

  -- no cell of the lines is missing afterwards
  pub lines-stop : AllStop first stride len n gs
  unfolding AllStop Stops
  lines-stop q h =
      inl
      (on_line-none (missing gs) (first + q) stride len
      (λ i b.
      ⊎_elim (λ p. not_left (first + q + stride * i) p)
      (λ off.
      kept-flag (first + q + stride * i) off
      ∙ (s.each q h).others s.few i b
      (λ e. off (subst (λ (x : ℕ). Hole first stride n j k (first + q + stride * x)) (sym e) (earlier q h)))
      (λ e. off (subst (λ (x : ℕ). Hole first stride n j k (first + q + stride * x)) (sym e) (later q h))))
      (hole-or-not first stride n j k (first + q + stride * i))))

  -- the cells at one place of the lines lie together
  at-earlier : (m : ℕ) → first + stride * j ≤ m → m < first + stride * j + n → Hole first stride n j k m
  at-earlier m low high =
      let e : first + (m - (first + stride * j)) + stride * j ≡ m = omega arith in
      subst (Hole first stride n j k) e (earlier (m - (first + stride * j)) (omega arith))

  at-later : (m : ℕ) → first + stride * k ≤ m → m < first + stride * k + n → Hole first stride n j k m
  at-later m low high =
      let e : first + (m - (first + stride * k)) + stride * k ≡ m = omega arith in
      subst (Hole first stride n j k) e (later (m - (first + stride * k)) (omega arith))

  last-cell : first + stride * k + n ≤ cells sh
  last-cell = omega (arith, line-cell-lt sh (first + (n - 1)) stride len k (l.each (n - 1) (omega (arith, l.some))) k_lt, l.some)

  lines-fewer : number (missing fs) (cells sh) ≡ number (missing gs) (cells sh) + count * n
  lines-fewer = elim (ℕ_discrete count 1) [ yes one ↦ single one | no more ↦ pair (omega (arith, s.some, s.few)) ]
    where
      single : count ≡ 1 → number (missing fs) (cells sh) ≡ number (missing gs) (cells sh) + count * n
      single one =
          let same : j ≡ k = scanned-one _ _ _ _ _ _ _ (s.each 0 l.some) one in
          number-block (missing fs) (missing gs) (cells sh) (first + stride * j) n (omega (arith, last-cell, ap (λ (i : ℕ). stride * i) same))
          (λ m low high. was-missing m (at-earlier m low high)) (λ m low high. not_left m (at-earlier m low high))
          (λ m b. sym (kept-flag m (beside-no-hole first stride n j k m b (subst (λ (i : ℕ). Beside first stride n i m) same b))))
          ∙ omega (arith, ap (λ (c : ℕ). c * n) one)

      pair : count ≡ 2 → number (missing fs) (cells sh) ≡ number (missing gs) (cells sh) + count * n
      pair two =
          let less : j < k = scanned-two _ _ _ _ _ _ _ (s.each 0 l.some) two in
          let apart : first + stride * j + n ≤ first + stride * k =
          omega (arith, l.apart, mul-suc stride j, mul-le-mul_left stride less) in
          let split = first + stride * j + n in
          number-block (missing fs) (cut (missing gs) (missing fs) split) (cells sh) (first + stride * j) n (omega (arith, last-cell))
          (λ m low high. was-missing m (at-earlier m low high))
          (λ m low high. cut_below _ _ split m high ∙ not_left m (at-earlier m low high))
          (λ m b.
          ⊎_elim
          (λ (c : m < first + stride * j).
          sym (kept-flag m (beside-no-hole first stride n j k m b (inl (omega arith)))) ∙ sym (cut_below _ _ split m (omega arith)))
          (λ (c : split ≤ m). sym (cut-above _ _ split m c)) b)
          ∙ ap (λ (c : ℕ). c + n)
          (number-block (cut (missing gs) (missing fs) split) (missing gs) (cells sh) (first + stride * k) n last-cell
          (λ m low high. cut-above _ _ split m (omega arith) ∙ was-missing m (at-later m low high)) (λ m low high. not_left m (at-later m low high))
          (λ m b.
          elim (dec_lt m split) [
            | yes c ↦ cut_below _ _ split m c
            | no c ↦ cut-above _ _ split m (omega arith) ∙ sym (kept-flag m (beside-no-hole first stride n j k m (inr (omega arith)) b))
          ]))
          ∙ omega (arith, ap (λ (c : ℕ). c * n) two)

  module _ (r : ℕ) (prim : Primitive r) (ys : List ℕ) (bytes : (p : ℕ) → get_or xs p 0 < 256)
      (o : Solved r (run_of sh first stride len n) j k xs ys) where
    -- every other cell keeps its bytes
    kept : (m t : ℕ) → t < sh.w → (Hole first stride n j k m → ⊥) → layer sh ys t m ≡ layer sh xs t m
    unfolding layer
    kept m t b off =
        ⊎_elim (λ h. absurd (off h))
        (λ (c : Beside first stride n j m × Beside first stride n k m).
        o.kept (m * sh.w + t) (beside-off sh first stride len n j m t b c.0) (beside-off sh first stride len n k m t b c.1))
        (hole-or-beside first stride n j k m)

    -- what agrees before, and is a codeword on a line in layer t, is the line afterwards
    forced : (v : List ℕ) → ((p : ℕ) → get_or v p 0 < 256) → (q : ℕ) → q < n → (t : ℕ) → t < sh.w
        → Codeword r (layer_line sh v t (first + q) stride) len → Agrees sh xs (missing fs) v
        → (i : ℕ) → i < len → layer sh v t (first + q + stride * i) ≡ layer sh ys t (first + q + stride * i)
    unfolding Agrees layer_line line_at layer run_of
    forced v bv q h t b w a i c =
        sym
        (solved-forced r (run_of sh first stride len n) j k xs ys prim (lines-inside sh xs z.valid z.bytes first stride len n l) o ordered k_lt
        (q * sh.w + t) (layer_below q n t sh.w h b) (λ m e. bytes _) (layer_line sh v t (first + q) stride) (λ m e. bv _) w
        (λ m e nj nk.
        a (first + q + stride * m) t (line-cell-lt sh (first + q) stride len m (l.each q h) e) b ((s.each q h).others s.few m e nj nk)
        ∙ sym (run-beside sh xs first stride len n q t m)) i c)
        ∙ run-beside sh ys first stride len n q t i

    lines-agree : (K : ℕ → Bool) → Stopping (cells sh) (IsLine sh) (missing fs) K → (v : List ℕ) → CodeOff r sh K v → Agrees sh xs (missing fs) v
        → Agrees sh ys (missing gs) v
    unfolding Agrees
    lines-agree K u v c a m t h b e =
        ⊎_elim (λ p. hole m p) (λ off. a m t h b (sym (kept-flag m off) ∙ e) ∙ sym (kept m t b off)) (hole-or-not first stride n j k m)
      where
        on : (q : ℕ) → q < n → (i : ℕ) → i < len → layer sh v t (first + q + stride * i) ≡ layer sh ys t (first + q + stride * i)
        on q p =
            forced v c.bytes q p t b
            (c.lines (first + q) stride len (l.each q p)
            (on_line-none K (first + q) stride len (peel (cube-fits sh) u u.inside (first + q) stride len (l.each q p) (line-few q p))) t b) a

        hole : (m : ℕ) → Hole first stride n j k m → layer sh v t m ≡ layer sh ys t m
        hole _ (earlier q p) = on q p j (omega (arith, ordered, k_lt))
        hole _ (later q p) = on q p k k_lt

    -- no stopping set has one of the holes
    no-hole : (S : ℕ → Bool) → Stopping (cells sh) (IsLine sh) (missing fs) S → (m : ℕ) → Hole first stride n j k m → S m ≡ false
    no-hole S u _ (earlier q p) =
        peel (cube-fits sh) u u.inside (first + q) stride len (l.each q p) (line-few q p) j (omega (arith, ordered, k_lt))
    no-hole S u _ (later q p) = peel (cube-fits sh) u u.inside (first + q) stride len (l.each q p) (line-few q p) k k_lt

    lines-reach : Reaches r sh xs fs ys gs
    lines-reach =
        record {
          size = o.size;
          flags = d.flags;
          marks = λ m.
              ⊎_elim (λ p. inr (one-missing fs m (was-missing m p), d.filled m p)) (λ off. inl (d.others m off)) (hole-or-not first stride n j k m);
          known = λ m t h b e. kept m t b (λ p. true≢false (sym (was-missing m p) ∙ e));
          left = λ m t h b e. kept m t b (λ p. true≢false (sym e ∙ not_left m p));
          inside = λ S u m h e.
              ⊎_elim (λ p. absurd (true≢false (sym e ∙ no-hole S u m p))) (λ off. kept-flag m off ∙ u.inside m h e) (hole-or-not first stride n j k m);
          agrees = lines-agree;
        }

    pub lines-filled : Filled r sh (AllStop first stride len n) xs fs ys gs (count * n)
    lines-filled =
        record { reaches = lines-reach; fewer = lines-fewer; idle = λ e. absurd (some-filled e); stopped = λ e. absurd (some-filled e) }
      where
        some-filled : count * n ≡ 0 → ⊥
        some-filled e = omega (arith, mul-pos s.some l.some)
