-- What mending undoes (request P6). A line that has a wrong byte after its pass had two or more before it, for with one or none the pass gives the
-- code cube's bytes: what a pass does to other lines needs no account. So a byte that is wrong after the first pass lies in a row that had two, one
-- that is wrong after the second in a plane that had two such rows, and one that is wrong after the third in a layer that had two such planes: eight
-- wrong bytes or more.
use mathlib.Core.Path.{◌≡◌, refl, sym, ap, ◌∙◌}
use mathlib.Core.Bool.{Bool, true, false, false≢true, cond, not}
use mathlib.Core.List.{List}
use mathlib.Core.Logic.{◌≢◌, ⊎_elim}
use Prim.Native.Nat.{ℕ, ◌+◌, ◌*◌, ◌/◌, ◌%◌, ◌≤◌, ◌<◌}
use native.Mathlib.Nat.{mod-lt, mul_assoc, mul-le-mul, le_trans}
use native.Mathlib.Decide.{ℕ_discrete, dec_lt}
use native.Mathlib.Omega.{arith}
use lib.Dec.{leb}
use lib.ListN.{length, get_or}
use borrow.Author.Tests.{eqb-true, eq-eqb, leb-true, le-leb, not-false}
use Rattle.answer.specs.Values.{Value, gives}
use Rattle.answer.proofs.Values.{passes-fails}
use Rattle.field.specs.Field.{Primitive}
use Rattle.shape.specs.declared.Shape.{Shape}
use Rattle.shape.specs.Shapes.{Valid, cells, cell, AxisLine, axis1, axis2, axis3, along}
use Rattle.shape.proofs.Geometry.{cell-coordinates, third-lt, axis1-cell, axis2-cell, axis3-cell, line-cell-lt, line-length-low}
use Rattle.stopping.specs.Stopping.{number}
use Rattle.stopping.proofs.Number.{true-or-false, not-true-false, number-mono, number-zero, number-one, number-many, ranked, member}
use Rattle.data.specs.Data.{layer}
use Rattle.cube.specs.Cube.{CodeCube}
use Rattle.mend.specs.Mend.{Pass, Passes, MendOutcome, mend_refused, mend_done, mend_uncorrected}
use Rattle.mend.specs.Theorems.{wrong_byte, Mended, EachMended, SevenBytes, SevenBytesMended, double_row, double_plane, Correctable, LayerMended, EveryLayer, EveryLayerMended, SevenPackets, SevenPacketsMended, coordinate, OnePlane, OnePlaneMended}
use Rattle.mend.proofs.Checks.{MendReady, mend-ready}
use Rattle.mend.proofs.Mending.{lines-ext, pass-bytes, AgreeBut, line-restored}

-- ---- sets of cells

module _ (sh : Shape) (P : ℕ → Bool) where
  -- two planes with two rows each, and two members in each of these: eight or more
  eight : 2 ≤ number (double_plane sh P) sh.l3 → 8 ≤ number P (cells sh)
  unfolding cells cell double_row double_plane
  eight two =
      let rows : 4 ≤ number (λ q. leb 2 (number (λ i. P (i + sh.l1 * q)) sh.l1)) (sh.l2 * sh.l3) =
      number-many _ (double_plane sh P) sh.l2 sh.l3 2 2 two (λ c lc e. leb-true 2 _ e) in
      rw (mul_assoc sh.l1 sh.l2 sh.l3) (number-many P _ sh.l1 (sh.l2 * sh.l3) 2 4 rows (λ q lq e. leb-true 2 _ e))

-- the cells that are wrong at first and after each of three passes: one that is wrong after a pass had another beside it on its line before
module _ (sh : Shape) (D0 D1 D2 D3 : ℕ → Bool)
    (pass1 : (a b c : ℕ) → a < sh.l1 → b < sh.l2 → c < sh.l3 → D1 (cell sh a b c) ≡ true → 2 ≤ number (λ i. D0 (cell sh i b c)) sh.l1)
    (pass2 : (a b c : ℕ) → a < sh.l1 → b < sh.l2 → c < sh.l3 → D2 (cell sh a b c) ≡ true → 2 ≤ number (λ i. D1 (cell sh a i c)) sh.l2)
    (pass3 : (a b c : ℕ) → a < sh.l1 → b < sh.l2 → c < sh.l3 → D3 (cell sh a b c) ≡ true → 2 ≤ number (λ i. D2 (cell sh a b i)) sh.l3) where
  row-double : (a b c : ℕ) → a < sh.l1 → b < sh.l2 → c < sh.l3 → D1 (cell sh a b c) ≡ true → double_row sh D0 c b ≡ true
  unfolding double_row
  row-double a b c la lb lc e = le-leb 2 _ (pass1 a b c la lb lc e)

  plane-double : (a b c : ℕ) → a < sh.l1 → b < sh.l2 → c < sh.l3 → D2 (cell sh a b c) ≡ true → double_plane sh D0 c ≡ true
  unfolding double_plane
  plane-double a b c la lb lc e =
      le-leb 2 _ (le_trans (pass2 a b c la lb lc e) (number-mono _ _ sh.l2 (λ i li h. row-double a i c la li lc h)))

  two-planes : (a b c : ℕ) → a < sh.l1 → b < sh.l2 → c < sh.l3 → D3 (cell sh a b c) ≡ true → 2 ≤ number (double_plane sh D0) sh.l3
  two-planes a b c la lb lc e =
      le_trans (pass3 a b c la lb lc e) (number-mono _ _ sh.l3 (λ i li h. plane-double a b i la lb li h))

-- ---- one line

-- fewer than two members: none off some place
single : (P : ℕ → Bool) (n : ℕ) → 0 < n → number P n < 2 → (j : ℕ) × (j < n) × ((i : ℕ) → i < n → i ≢ j → P i ≡ false)
single P n some few =
    elim (ℕ_discrete (number P n) 0) [
      | yes none ↦ (0, some, λ i li ne. number-zero P n none i li)
      | no member ↦
          let (j, lj, e, only) = number-one P n (omega arith) in
          (j, lj, λ i li ne. not-true-false (P i) (λ f. ne (only i li f)))
    ]

module _ (sh : Shape) (xs zs : List ℕ) (w n : ℕ) where
  right-same : wrong_byte sh xs zs w n ≡ false → layer sh xs w n ≡ layer sh zs w n
  unfolding wrong_byte
  right-same e = eqb-true _ _ (not-false _ e)

  same-right : layer sh xs w n ≡ layer sh zs w n → wrong_byte sh xs zs w n ≡ false
  unfolding wrong_byte
  same-right e = ap not (eq-eqb _ _ e)

  -- what differs is not the same
  wrong-differs : wrong_byte sh xs zs w n ≡ true → layer sh xs w n ≢ layer sh zs w n
  wrong-differs e same = false≢true (sym (same-right same) ∙ e)

module _ (r : ℕ) (prim : Primitive r) (sh : Shape) (v : Valid sh) (xs ys zs : List ℕ) (bytes : (p : ℕ) → get_or xs p 0 < 256) (code : CodeCube r sh zs)
    (axis : ℕ) (pass : Pass r sh axis xs ys) (w : ℕ) (lw : w < sh.w) where
  -- a line with a wrong byte after its pass had two or more before, its places counted by any formula
  line-double : (f s n : ℕ) → AxisLine sh axis f s n → (at : ℕ → ℕ) → ((i : ℕ) → f + s * i ≡ at i)
      → (i : ℕ) → i < n → wrong_byte sh ys zs w (at i) ≡ true → 2 ≤ number (λ i. wrong_byte sh xs zs w (at i)) n
  unfolding AgreeBut
  line-double f s n l at same i li e =
      elim (dec_lt (number (λ i. wrong_byte sh xs zs w (at i)) n) 2) [
        | yes few ↦
            let (j, lj, off) = single (λ i. wrong_byte sh xs zs w (at i)) n (omega (arith, line-length-low sh f s n v (along l))) few in
            absurd
            (wrong-differs sh ys zs w (f + s * i) (rw (← same i) at e)
            (line-restored r prim sh v axis xs zs bytes code ys pass f s n l w lw j lj
            (λ k lk ne. right-same sh xs zs w (f + s * k) (rw (← same k) at (off k lk ne))) i li))
        | no many ↦ omega arith
      ]

-- ---- a layer

module _ (r : ℕ) (prim : Primitive r) (sh : Shape) (v : Valid sh) (xs ys zs : List ℕ) (size : length xs ≡ sh.w * cells sh)
    (bytes : (p : ℕ) → get_or xs p 0 < 256) (code : CodeCube r sh zs) (p : Passes r sh xs ys) (w : ℕ) (lw : w < sh.w) where
  bytes1 : (q : ℕ) → get_or p.after1 q 0 < 256
  bytes1 = pass-bytes sh v 1 (omega arith) (omega arith) r xs size bytes p.after1 p.pass1

  bytes2 : (q : ℕ) → get_or p.after2 q 0 < 256
  bytes2 = pass-bytes sh v 2 (omega arith) (omega arith) r p.after1 (p.pass1.size ∙ size) bytes1 p.after2 p.pass2

  -- a byte that is wrong after the three passes
  wrong-planes : (a b c : ℕ) → a < sh.l1 → b < sh.l2 → c < sh.l3 → wrong_byte sh ys zs w (cell sh a b c) ≡ true
      → 2 ≤ number (double_plane sh (wrong_byte sh xs zs w)) sh.l3
  wrong-planes =
      two-planes sh (wrong_byte sh xs zs w) (wrong_byte sh p.after1 zs w) (wrong_byte sh p.after2 zs w) (wrong_byte sh ys zs w)
      (λ a b c la lb lc.
      line-double r prim sh v xs p.after1 zs bytes code 1 p.pass1 w lw _ _ _ (axis1 b c lb lc) (λ i. cell sh i b c) (axis1-cell sh b c) a la)
      (λ a b c la lb lc.
      line-double r prim sh v p.after1 p.after2 zs bytes1 code 2 p.pass2 w lw _ _ _ (axis2 a c la lc) (λ i. cell sh a i c) (axis2-cell sh a c) b lb)
      (λ a b c la lb lc.
      line-double r prim sh v p.after2 ys zs bytes2 code 3 p.pass3 w lw _ _ _ (axis3 a b la lb) (λ i. cell sh a b i) (axis3-cell sh a b) c lc)

pub layer-mended : LayerMended
unfolding LayerMended Correctable
layer-mended r prim sh v xs ys zs size bytes code p w lw few n ln =
    right-same sh ys zs w n (not-true-false _ (λ e. omega (arith, wrong-planes r prim sh v xs ys zs size bytes code p w lw _ _ _ la lb lc (rw (← cell-coordinates sh n) at e))))
  where
    la : n % sh.l1 < sh.l1
    la = mod-lt n (omega (arith, v.l1_low))

    lb : n / sh.l1 % sh.l2 < sh.l2
    lb = mod-lt _ (omega (arith, v.l2_low))

    lc : n / (sh.l1 * sh.l2) < sh.l3
    lc = third-lt sh n (omega (arith, mul-le-mul v.l1_low v.l2_low)) ln

-- ---- a call of `mend`

-- the passes give the code cube
passes-mended : (r : ℕ) → Primitive r → (sh : Shape) → Valid sh → (xs ys zs : List ℕ) → length xs ≡ sh.w * cells sh → ((p : ℕ) → get_or xs p 0 < 256)
    → CodeCube r sh zs → EveryLayer sh xs zs → Passes r sh xs ys → ys ≡ zs
unfolding LayerMended EveryLayer
passes-mended r prim sh v xs ys zs size bytes code every p =
    lines-ext sh v 1 (omega arith) (omega arith) zs ys code.size (p.pass3.size ∙ p.pass2.size ∙ p.pass1.size ∙ size ∙ sym code.size)
    (λ f s n l w i lw li.
    layer-mended r prim sh v xs ys zs size bytes code p w lw (every w lw) (f + s * i) (line-cell-lt sh f s n i (along l) li))

pub every-layer-mended : EveryLayerMended
unfolding EveryLayerMended EachMended Mended
every-layer-mended r prim sh xs zs bytes code every fs before after value passed outcome = by value outcome
  where
    ok : MendReady sh (length xs) (length before)
    ok = mend-ready sh _ fs _ passed

    restored : (ys : List ℕ) → Passes r sh xs ys → ys ≡ zs
    restored ys = passes-mended r prim sh ok.valid xs ys zs ok.size bytes code every

    by : (value : Value Unit) → MendOutcome r sh xs fs before after value → (value ≡ gives tt) × (after ≡ zs)
    by _ (mend_refused n e kept) = absurd (passes-fails tt n (sym passed ∙ e))
    by _ (mend_done e p c) = (refl, restored after p)
    by _ (mend_uncorrected e ys p none cleared) = absurd (none (rw (restored ys p) code))

-- ---- kinds of damage: none of them gives a layer two planes with two rows with two wrong bytes each

each-mended : (Damage : Shape → (xs zs : List ℕ) → Type 0)
    → ((sh : Shape) (xs zs : List ℕ) → Damage sh xs zs → EveryLayer sh xs zs) → EachMended Damage
unfolding EveryLayerMended EachMended
each-mended Damage inside r prim sh xs zs bytes code damage = every-layer-mended r prim sh xs zs bytes code (inside sh xs zs damage)

seven-every : (sh : Shape) (xs zs : List ℕ) → SevenBytes sh xs zs → EveryLayer sh xs zs
unfolding SevenBytes EveryLayer Correctable
seven-every sh xs zs seven w lw =
    elim (dec_lt 1 (number (double_plane sh (wrong_byte sh xs zs w)) sh.l3)) [
      | yes two ↦ absurd (omega (arith, seven w lw, eight sh (wrong_byte sh xs zs w) two))
      | no few ↦ omega arith
    ]

pub seven-bytes-mended : SevenBytesMended
unfolding SevenBytesMended
seven-bytes-mended = each-mended SevenBytes seven-every

-- each wrong byte lies in a damaged packet
packets-bytes : (sh : Shape) (xs zs : List ℕ) → SevenPackets sh xs zs → SevenBytes sh xs zs
unfolding SevenBytes
packets-bytes sh xs zs s w lw =
    le_trans (number-mono (wrong_byte sh xs zs w) s.damaged (cells sh) (λ n ln e. damaged n ln e)) s.few
  where
    damaged : (n : ℕ) → n < cells sh → wrong_byte sh xs zs w n ≡ true → s.damaged n ≡ true
    damaged n ln e =
        ⊎_elim (λ d. d) (λ d. absurd (wrong-differs sh xs zs w n e (s.others n w ln lw d))) (true-or-false (s.damaged n))

pub seven-packets-mended : SevenPacketsMended
unfolding SevenPacketsMended
seven-packets-mended = each-mended SevenPackets (λ sh xs zs s. seven-every sh xs zs (packets-bytes sh xs zs s))

-- members that are all the same place are one at most
same_place : (P : ℕ → Bool) (n p : ℕ) → ((i : ℕ) → i < n → P i ≡ true → i ≡ p) → number P n ≤ 1
same_place P n p all =
    elim (dec_lt 1 (number P n)) [
      | yes two ↦
          let (i, li, ei, ri) = ranked P n 0 (omega arith) in
          let (j, lj, ej, rj) = ranked P n 1 two in
          absurd (omega (arith, ap (number P) (all i li ei ∙ sym (all j lj ej))))
      | no few ↦ omega arith
    ]

-- a set of cells that lie in one plane has no two planes with two rows with two members each
module _ (sh : Shape) (P : ℕ → Bool) where
  -- every cell of the set has place p on the axis along which `at` counts
  Inside : (at : ℕ → ℕ → ℕ → ℕ) → (p : ℕ) → Type 0
  Inside at p = (a b c : ℕ) → a < sh.l1 → b < sh.l2 → c < sh.l3 → P (cell sh a b c) ≡ true → at a b c ≡ p

  row-members : (c b : ℕ) → double_row sh P c b ≡ true → 2 ≤ number (λ a. P (cell sh a b c)) sh.l1
  unfolding double_row
  row-members c b e = leb-true 2 _ e

  plane-rows : (c : ℕ) → double_plane sh P c ≡ true → 2 ≤ number (double_row sh P c) sh.l2
  unfolding double_plane
  plane-rows c e = leb-true 2 _ e

  row-member : (c b : ℕ) → double_row sh P c b ≡ true → (a : ℕ) × (a < sh.l1) × (P (cell sh a b c) ≡ true)
  row-member c b e = let two = row-members c b e in member (λ a. P (cell sh a b c)) sh.l1 (omega arith)

  plane-row : (c : ℕ) → double_plane sh P c ≡ true → (b : ℕ) × (b < sh.l2) × (double_row sh P c b ≡ true)
  plane-row c e = let two = plane-rows c e in member (double_row sh P c) sh.l2 (omega arith)

  across1 : (p : ℕ) → Inside (λ a b c. a) p → number (double_plane sh P) sh.l3 ≤ 1
  unfolding Inside
  across1 p h =
      same_place (double_plane sh P) sh.l3 0 (λ c lc e.
      let (b, lb, f) = plane-row c e in
      absurd (omega (arith, row-members c b f, same_place (λ a. P (cell sh a b c)) sh.l1 p (λ a la g. h a b c la lb lc g))))

  across2 : (p : ℕ) → Inside (λ a b c. b) p → number (double_plane sh P) sh.l3 ≤ 1
  unfolding Inside
  across2 p h =
      same_place (double_plane sh P) sh.l3 0 (λ c lc e.
      absurd
      (omega (arith, plane-rows c e, same_place (double_row sh P c) sh.l2 p (λ b lb f. let (a, la, g) = row-member c b f in h a b c la lb lc g))))

  across3 : (p : ℕ) → Inside (λ a b c. c) p → number (double_plane sh P) sh.l3 ≤ 1
  unfolding Inside
  across3 p h =
      same_place (double_plane sh P) sh.l3 p (λ c lc e.
      let (b, lb, f) = plane-row c e in
      let (a, la, g) = row-member c b f in h a b c la lb lc g)

  across : (axis p : ℕ) → Inside (coordinate axis) p → number (double_plane sh P) sh.l3 ≤ 1
  unfolding coordinate
  across axis p h = by (leb axis 1) (leb axis 2) h
    where
      by : (s t : Bool) → Inside (λ a b c. cond s a (cond t b c)) p → number (double_plane sh P) sh.l3 ≤ 1
      by true t h = across1 p h
      by false true h = across2 p h
      by false false h = across3 p h

plane-every : (sh : Shape) (xs zs : List ℕ) → OnePlane sh xs zs → EveryLayer sh xs zs
unfolding EveryLayer Correctable Inside
plane-every sh xs zs o w lw =
    across sh (wrong_byte sh xs zs w) o.axis o.place (λ a b c la lb lc e.
    elim (ℕ_discrete (coordinate o.axis a b c) o.place) [
      | yes here ↦ here
      | no off ↦ absurd (wrong-differs sh xs zs w (cell sh a b c) e (o.others a b c w la lb lc lw off))
    ])

pub one-plane-mended : OnePlaneMended
unfolding OnePlaneMended
one-plane-mended = each-mended OnePlane plane-every
