-- Which lines may have changed: the marks of the groups of eight lines. What holds of a line that is quiet goes on holding while no cell on it is
-- filled, for a filled cell wakes its three lines.
use mathlib.Core.Path.{◌≡◌, refl, sym, ap, subst, ◌∙◌}
use mathlib.Core.Bool.{Bool, true, false, false≢true, ◌&&◌}
use mathlib.Core.List.{List, [], ◌∷◌}
use mathlib.Core.Logic.{◌≢◌, ◌⊎◌, inl, inr, ⊎_elim}
use Prim.Native.Nat.{ℕ, zero, suc, ◌+◌, ◌-◌, ◌*◌, ◌%◌, ◌≤◌, ◌<◌, ◌/◌}
use native.Mathlib.Nat.{mul-one, one-mul, add-zero, zero-add, mod-one, div-eq_of_lt, zero-mul}
use native.Mathlib.Decide.{ℕ_discrete, dec_lt}
use native.Mathlib.Omega.{arith}
use borrow.Author.Tests.{eqb-true}
use Rattle.std.specs.List.{fold}
use lib.Dec.{eqb}
use lib.ListN.{take, drop, length-take, length-drop, get_or, length, set, replicate, length-replicate, length-set}
use Rattle.shape.specs.declared.Shape.{Shape}
use Rattle.shape.specs.Shapes.{Valid, cells, stride_of, length_of, lines_of, first_of}
use Rattle.shape.proofs.Axes.{lines-few}
use Rattle.shape.proofs.Geometry.{line_at, line_on, line-through, on_line_lem, axis-cases}
use Rattle.stopping.proofs.Stopping.{on_line-cong}
use Rattle.shape.specs.Flags.{missing}
use Rattle.peel.specs.Peel.{Stops}
use Rattle.peel.specs.Inner.Wake.{mark_at, QuietIn, stretched, Quiet, Awake, Woken, AllQuiet}
use Rattle.peel.specs.Inner.Sweep.{LineStops, Calm, Keeps}
use Rattle.std.specs.Prelude.{Option, None, Some, MatchOption}
use lib.Seq.{get_or-take, get_or-drop, get_or-set_same, get_or-set_other}
use Rattle.shape.proofs.Missing.{missing-cong}

-- ---- at first every line is awake

zeros : (n p : ℕ) → get_or {A = ℕ} (replicate n 0) p 0 ≡ 0
zeros zero p = refl
zeros (suc n) zero = refl
zeros (suc n) (suc p) = zeros n p

none-quiet : (n axis m : ℕ) → Quiet (replicate n 0) axis m → ⊥
unfolding Quiet QuietIn
none-quiet n axis m q =
    let e = zeros n (mark_at axis (m / 8)) in
    ⊎_elim (λ h. omega (arith, e)) (λ h. omega (arith, e)) (subst (λ (x : ℕ). QuietIn x (m % 8)) e q)

pub calm-first : (sh : Shape) (fs : List ℕ) → Calm sh fs (replicate 24576 0)
calm-first sh fs =
    record { size = length-replicate {A = ℕ} 24576 0; stops = λ axis m p q l h. absurd (none-quiet 24576 axis m h) }

-- ---- lines only woken

module _ {sh : Shape} where
  pub keeps-refl : (fs ms : List ℕ) → Keeps sh fs ms fs ms
  keeps-refl fs ms = record { size = refl; falls = λ axis m q. q; stops = λ axis m p q l h s. s }

  pub keeps-trans : {fs ms gs ns hs os : List ℕ} → Keeps sh fs ms gs ns → Keeps sh gs ns hs os → Keeps sh fs ms hs os
  keeps-trans a b =
      record {
        size = b.size ∙ a.size;
        falls = λ axis m q. a.falls axis m (b.falls axis m q);
        stops = λ axis m p q l h s. b.stops axis m p q l h (a.stops axis m p q l (b.falls axis m h) s);
      }

-- a stretch that becomes longer
stretched-parts : (x k : ℕ) → (stretched x k / 8 ≤ x / 8) × (stretched x k / 8 ≤ k) × (stretched x k % 8 ≤ x % 8) × (stretched x k % 8 ≤ 7 - k)
unfolding stretched
stretched-parts x k = (omega arith, omega arith, omega arith, omega arith)

stretched-falls : (x k j : ℕ) → k < 8 → QuietIn (stretched x k) j → QuietIn x j × (j ≢ k)
unfolding QuietIn
stretched-falls x k j l q =
    let parts = stretched-parts x k in
    ⊎_elim (λ (h : j < stretched x k / 8). (inl (omega (arith, parts)), λ e. omega (arith, parts)))
    (λ (h : 7 < j + stretched x k % 8). (inr (omega (arith, parts)), λ e. omega (arith, parts))) q

module _ (ms : List ℕ) (a m : ℕ) where
  woken-falls : mark_at a (m / 8) < length ms → (axis l : ℕ) → Quiet (set ms (mark_at a (m / 8)) (stretched (get_or ms (mark_at a (m / 8)) 0) (m % 8))) axis l
      → Quiet ms axis l × (mark_at axis (l / 8) ≡ mark_at a (m / 8) → l % 8 ≢ m % 8)
  unfolding Quiet
  woken-falls inside axis l q =
      let p = mark_at a (m / 8) in
      let x = stretched (get_or ms p 0) (m % 8) in
      elim (ℕ_discrete (mark_at axis (l / 8)) p) [
        | yes e ↦
            let here = stretched-falls (get_or ms p 0) (m % 8) (l % 8) (omega arith)
            (subst (λ (y : ℕ). QuietIn y (l % 8)) (ap (λ (k : ℕ). get_or (set ms p x) k 0) e ∙ get_or-set_same ms p x 0 inside) q) in
            (subst (λ (k : ℕ). QuietIn (get_or ms k 0) (l % 8)) (sym e) here.0, λ same. here.1)
        | no ne ↦ (subst (λ (y : ℕ). QuietIn y (l % 8)) (get_or-set_other ms p (mark_at axis (l / 8)) x 0 ne) q, λ same. absurd (ne same))
      ]

-- ---- the three lines through a cell

-- the mark of the line of an axis through cell n
abbrev mark-through : Shape → ℕ → ℕ → ℕ
mark-through sh n axis = mark_at axis (line_on sh axis n / 8)

-- that line woken
abbrev through-woken : Shape → ℕ → ℕ → List ℕ → List ℕ
through-woken sh n axis ms = set ms (mark-through sh n axis) (stretched (get_or ms (mark-through sh n axis) 0) (line_on sh axis n % 8))

module _ (sh : Shape) (n : ℕ) (v : Valid sh) (l : n < cells sh) where
  pub line-below : (axis : ℕ) → line_on sh axis n < 65025
  line-below axis = omega (arith, lines-few sh axis v, (line-through sh axis n v l).line_lt)

  mark-below : (axis : ℕ) → 1 ≤ axis → axis ≤ 3 → mark-through sh n axis < 24576
  mark-below axis p q = omega (arith, line-below axis)

  -- the lines by the cell's number
  pub through-first : n / sh.l1 ≡ line_on sh 1 n
  unfolding line_on line_at stride_of length_of
  through-first = simp (one-mul, mul-one, mod-one, add-zero)

  pub through-second : n / (sh.l1 * sh.l2) * sh.l1 + n % sh.l1 ≡ line_on sh 2 n
  unfolding line_on line_at stride_of length_of
  through-second = refl

  pub through-third : n % (sh.l1 * sh.l2) ≡ line_on sh 3 n
  unfolding line_on line_at stride_of length_of cells
  through-third = rw (div-eq_of_lt l, zero-mul, zero-add)

  all-woken : (ms : List ℕ) → length ms ≡ 24576 → Woken sh n ms (through-woken sh n 3 (through-woken sh n 2 (through-woken sh n 1 ms)))
  unfolding Awake
  all-woken ms size =
      record {
        size = simp length-set;
        falls = λ axis m q. (one axis m (two axis m (three axis m q).0).0).0;
        through = λ axis m i p q o h.
            let same = on_line_lem sh axis n m i v o in
            axis-cases (λ (a : ℕ). mark_at axis (m / 8) ≡ mark-through sh n a → m % 8 ≢ line_on sh a n % 8) (one axis m (two axis m (three axis m h).0).0).1
            (two axis m (three axis m h).0).1 (three axis m h).1 axis p q (ap (λ (k : ℕ). mark_at axis (k / 8)) same) (ap (λ (k : ℕ). k % 8) same);
      }
    where
      one : (axis m : ℕ) → Quiet (through-woken sh n 1 ms) axis m → Quiet ms axis m × (mark_at axis (m / 8) ≡ mark-through sh n 1 → m % 8 ≢ line_on sh 1 n % 8)
      one = woken-falls ms 1 (line_on sh 1 n) (omega (arith, mark-below 1 (omega arith) (omega arith)))

      two : (axis m : ℕ) → Quiet (through-woken sh n 2 (through-woken sh n 1 ms)) axis m
          → Quiet (through-woken sh n 1 ms) axis m × (mark_at axis (m / 8) ≡ mark-through sh n 2 → m % 8 ≢ line_on sh 2 n % 8)
      two = woken-falls (through-woken sh n 1 ms) 2 (line_on sh 2 n) (simp length-set (omega (arith, mark-below 2 (omega arith) (omega arith))))

      three : (axis m : ℕ) → Quiet (through-woken sh n 3 (through-woken sh n 2 (through-woken sh n 1 ms))) axis m
          → Quiet (through-woken sh n 2 (through-woken sh n 1 ms)) axis m × (mark_at axis (m / 8) ≡ mark-through sh n 3 → m % 8 ≢ line_on sh 3 n % 8)
      three =
          woken-falls (through-woken sh n 2 (through-woken sh n 1 ms)) 3 (line_on sh 3 n)
          (simp length-set (omega (arith, mark-below 3 (omega arith) (omega arith))))

  -- by the line's number among those of all axes
  numbered : (axis j : ℕ) (ms : List ℕ) → 1 ≤ axis → j ≡ (axis - 1) * 65536 + line_on sh axis n → set ms (j / 8) (stretched (get_or ms (j / 8) 0) (j % 8)) ≡ through-woken sh n axis ms
  numbered axis j ms p e = rw (at_mark, in_group)
    where
      at_mark : j / 8 ≡ (axis - 1) * 8192 + line_on sh axis n / 8
      at_mark = omega (arith, e)

      in_group : j % 8 ≡ line_on sh axis n % 8
      in_group = omega (arith, e)

  pub woken-through : (ms ns os ps : List ℕ) (i j k : ℕ) → length ms ≡ 24576 → i ≡ line_on sh 1 n → j ≡ 65536 + line_on sh 2 n → k ≡ 131072 + line_on sh 3 n
      → ns ≡ set ms (i / 8) (stretched (get_or ms (i / 8) 0) (i % 8)) → os ≡ set ns (j / 8) (stretched (get_or ns (j / 8) 0) (j % 8))
      → ps ≡ set os (k / 8) (stretched (get_or os (k / 8) 0) (k % 8)) → Woken sh n ms ps
  woken-through ms ns os ps i j k size ei ej ek en eo ep =
      rw (ep ∙ numbered 3 k os (omega arith) (omega (arith, ek)), eo ∙ numbered 2 j ns (omega arith) (omega (arith, ej)), en ∙ numbered 1 i ms (omega arith) (omega (arith, ei)))
      (all-woken ms size)

-- ---- cells filled

-- where every cell on a quiet line has kept its flag
pub quiet_keeps : {sh : Shape} {fs ms gs ns : List ℕ} → length ns ≡ length ms → ((axis m : ℕ) → Quiet ns axis m → Quiet ms axis m)
    → ((axis m i : ℕ) → 1 ≤ axis → axis ≤ 3 → m < lines_of sh axis → i < length_of sh axis → Quiet ns axis m
    → get_or gs (first_of sh axis m + stride_of sh axis * i) 0 ≡ get_or fs (first_of sh axis m + stride_of sh axis * i) 0)
    → Keeps sh fs ms gs ns
unfolding LineStops Stops
quiet_keeps {sh} {fs} {ms} {gs} {ns} size falls kept =
    record {
      size = size;
      falls = falls;
      stops = λ axis m p q l h s.
          subst (λ (k : ℕ). (k ≡ 0) ⊎ (3 ≤ k))
          (on_line-cong (missing fs) (missing gs) _ _ _ (λ i b. sym (missing-cong fs gs _ (kept axis m i p q l b h)))) s;
    }

-- ---- groups passed over

pub quiet_none : {ms : List ℕ} {axis g : ℕ} → AllQuiet ms axis g g
quiet_none = record { each = λ h low high. absurd (omega arith) }

-- n groups more
pub quiet-more : {ms : List ℕ} {axis from g : ℕ} (n : ℕ) → AllQuiet ms axis from g → ((i : ℕ) → i < n → get_or ms ((axis - 1) * 8192 + g + i) 0 ≡ 71)
    → AllQuiet ms axis from (g + n)
quiet-more {ms} {axis} {from} {g} n a e =
    record {
      each = λ h low high.
          elim (dec_lt h g) [
            | yes l ↦ a.each h low l
            | no m ↦
                let same : (axis - 1) * 8192 + g + (h - g) ≡ (axis - 1) * 8192 + h = omega arith in
                subst (λ (p : ℕ). get_or ms p 0 ≡ 71) same (e (h - g) (omega arith))
          ];
    }

-- marks that all pass the test, joined
quiet-front : (x : ℕ) (xs : List ℕ) → x ≡ 71 → ((k : ℕ) → k < length xs → get_or xs k 0 ≡ 71) → (k : ℕ) → k < length (x ∷ xs) → get_or (x ∷ xs) k 0 ≡ 71
quiet-front x xs e rest zero l = e
quiet-front x xs e rest (suc k) l = rest k (omega arith)

both-true : (a b : Bool) → a && b ≡ true → (a ≡ true) × (b ≡ true)
both-true true b e = (refl, e)
both-true false b e = absurd (false≢true e)

joined-quiet : (xs : List ℕ) (so : Bool) → fold (λ b x. b && eqb x 71) so xs ≡ true → (so ≡ true) × ((k : ℕ) → k < length xs → get_or xs k 0 ≡ 71)
joined-quiet [] so e = (e, λ k l. absurd (omega arith))
joined-quiet (x ∷ xs) so e =
    let (all, rest) = joined-quiet xs (so && eqb x 71) e in
    let (first, here) = both-true so (eqb x 71) all in
    (first, quiet-front x xs (eqb-true x 71 here) rest)

pub part-quiet : (ms : List ℕ) (at n : ℕ) (b : Bool) → b ≡ fold (λ c x. c && eqb x 71) true (take n (drop at ms)) → b ≡ true → at + n ≤ length ms
    → (i : ℕ) → i < n → get_or ms (at + i) 0 ≡ 71
part-quiet ms at n b same e inside i l =
    let long : i < length (take n (drop at ms)) = omega (arith, length-take n (drop at ms), length-drop at ms) in
    sym (get_or-take n (drop at ms) i 0 l ∙ get_or-drop at ms i 0) ∙ (joined-quiet (take n (drop at ms)) true (sym same ∙ e)).1 i long

-- behind groups that are quiet, the first that is not, or none
pub awake-found : {ms : List ℕ} {axis from mid end : ℕ} (r : Option ℕ) → from ≤ mid → mid ≤ end → AllQuiet ms axis from mid
    → MatchOption r ((g : ℕ) → mid ≤ g → g < end → get_or ms (mark_at axis g) 0 ≡ 71)
    (λ g. (mid ≤ g) × (g < end) × (get_or ms (mark_at axis g) 0 ≢ 71) × ((h : ℕ) → mid ≤ h → h < g → get_or ms (mark_at axis h) 0 ≡ 71))
    → MatchOption r (AllQuiet ms axis from end) (λ g. (from ≤ g) × (g < end) × AllQuiet ms axis from g)
awake-found {ms} {axis} {from} {mid} {end} r low high a = by r
  where
    up : (k : ℕ) → ((g : ℕ) → mid ≤ g → g < k → get_or ms (mark_at axis g) 0 ≡ 71) → AllQuiet ms axis from k
    up k q = record { each = λ g l less. elim (dec_lt g mid) [ yes before ↦ a.each g l before | no past ↦ q g (omega arith) less ] }

    by : (r : Option ℕ) → MatchOption r ((g : ℕ) → mid ≤ g → g < end → get_or ms (mark_at axis g) 0 ≡ 71)
        (λ g. (mid ≤ g) × (g < end) × (get_or ms (mark_at axis g) 0 ≢ 71) × ((h : ℕ) → mid ≤ h → h < g → get_or ms (mark_at axis h) 0 ≡ 71))
        → MatchOption r (AllQuiet ms axis from end) (λ g. (from ≤ g) × (g < end) × AllQuiet ms axis from g)
    by None q = up end q
    by (Some g) (l, less, _, q) = (omega arith, less, up g q)
