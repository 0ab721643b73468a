-- Erasures filled in: the completed line is a codeword where two places were erased, and the only one that agrees with what was known.
use mathlib.Core.Path.{◌≡◌, refl, sym, ap, ap₂, ◌∙◌}
use mathlib.Core.Logic.{◌≢◌}
use Prim.Native.Nat.{ℕ, ◌+◌, ◌-◌, ◌≤◌, ◌<◌}
use native.Mathlib.Decide.{ℕ_discrete}
use native.Mathlib.Omega.{arith}
use lib.Dec.{eqb}
use Rattle.field.specs.Field.{add, mul, pow, inverse, Primitive}
use Rattle.field.proofs.Addition.{add_zero_l, add_zero_r, add_comm, add_assoc, add_left_comm, add-self, add-lt, add-eq-zero}
use Rattle.field.proofs.Multiplication.{mul_comm, mul-add-l, mul-add-r, mul-one-r, mul-zero-r, mul-lt, ring}
use Rattle.field.proofs.Power.{pow-lt, pow-different, mul-inverse}
use Rattle.solver.specs.Solver.{pick, row0, row1}
use Rattle.line.specs.Line.{syndrome0, syndrome1, Codeword, erased, solved, completed, with_parity}
use Rattle.solver.proofs.Pick.{pick-eq, pick-ne}
use Rattle.line.proofs.Syndrome.{syndrome0-cong, syndrome1-cong, syndrome0-zeros, syndrome1-zeros, syndrome0-add, syndrome1-add, syndrome0-lt, syndrome1-lt, single, single-at, single-off, syndrome0-single, syndrome1-single, syndrome0-change}
use Rattle.line.proofs.Codeword.{codeword-cong, codeword-zero, codeword-add, codeword-scale, codeword-sum0, codeword-sum1, codeword-unique}

-- ---- the places of an erased line

pub erased-earlier : (j k : ℕ) (c : ℕ → ℕ) → erased j k c j ≡ 0
unfolding erased
erased-earlier j k c =
    elim (ℕ_discrete j k) [
      | yes e ↦ pick-eq j k 0 _ e
      | no ne ↦ pick-ne j k 0 _ ne ∙ pick-eq j j 0 _ refl
    ]

pub erased-later : (j k : ℕ) (c : ℕ → ℕ) → erased j k c k ≡ 0
unfolding erased
erased-later j k c = pick-eq k k 0 _ refl

pub erased-off : (j k : ℕ) (c : ℕ → ℕ) (i : ℕ) → i ≢ j → i ≢ k → erased j k c i ≡ c i
unfolding erased
erased-off j k c i nj nk = pick-ne i k 0 _ nk ∙ pick-ne i j 0 _ nj

pub erased-lt : (j k : ℕ) (c : ℕ → ℕ) (i : ℕ) → c i < 256 → erased j k c i < 256
unfolding erased
erased-lt j k c i h =
    elim (ℕ_discrete i k) [
      | yes e ↦ rw (pick-eq i k 0 (pick (eqb i j) 0 (c i)) e) (omega arith)
      | no nk ↦
          rw (pick-ne i k 0 (pick (eqb i j) 0 (c i)) nk)
          (elim (ℕ_discrete i j) [ yes e ↦ rw (pick-eq i j 0 (c i) e) (omega arith) | no nj ↦ rw (pick-ne i j 0 (c i) nj) h ])
    ]

-- Where every place from j on is erased, the places before j alone count.
erased-end : (n j k : ℕ) (c : ℕ → ℕ) → k + 1 ≡ n → n ≤ j + 2 → (i : ℕ) → j ≤ i → i < n → erased j k c i ≡ 0
erased-end n j k c last two i a b =
    elim (ℕ_discrete i k) [
      | yes e ↦ ap (erased j k c) e ∙ erased-later j k c
      | no ne ↦ ap (erased j k c) {x = i} {y = j} (omega arith) ∙ erased-earlier j k c
    ]

pub syndrome0-erased-end : (n j k : ℕ) (c : ℕ → ℕ) → j ≤ k → k + 1 ≡ n → n ≤ j + 2 → syndrome0 (erased j k c) n ≡ syndrome0 c j
syndrome0-erased-end n j k c le last two =
    syndrome0-zeros (erased j k c) j n (omega arith) (erased-end n j k c last two)
    ∙ syndrome0-cong (erased j k c) c j (λ i l. erased-off j k c i (omega arith) (omega arith))

pub syndrome1-erased-end : (r n j k : ℕ) (c : ℕ → ℕ) → j ≤ k → k + 1 ≡ n → n ≤ j + 2 → syndrome1 r (erased j k c) n ≡ syndrome1 r c j
syndrome1-erased-end r n j k c le last two =
    syndrome1-zeros r (erased j k c) j n (omega arith) (erased-end n j k c last two)
    ∙ syndrome1-cong r (erased j k c) c j (λ i l. erased-off j k c i (omega arith) (omega arith))

-- ---- the solution

pub solved-lt : (r j k s0 s1 : ℕ) → r < 256 → solved r j k s0 s1 < 256
unfolding solved
solved-lt r j k s0 s1 fits = add-lt _ _ (mul-lt r s0 (row0 r j k) fits) (mul-lt r s1 (row1 r j k) fits)

-- one erasure: the first syndrome
pub solved-one : (r k s0 s1 : ℕ) → s0 < 256 → solved r k k s0 s1 ≡ s0
unfolding solved row0 row1
solved-one r k s0 s1 h =
    ap₂ (λ (a b : ℕ). add (mul r s0 a) (mul r s1 b)) (pick-eq k k 1 _ refl) (pick-eq k k 0 _ refl)
    ∙ ap₂ add (mul-one-r r s0 h) (mul-zero-r r s1)
    ∙ add_zero_r s0

-- two erasures: the second row of the inverse of [1, 1; a, b], with e that of the determinant a + b, solves the second equation
row-solves : (r a b e s0 s1 : ℕ) → r < 256 → s1 < 256 → mul r (add a b) e ≡ 1
    → mul r (add a b) (add (mul r s0 (mul r e a)) (mul r s1 e)) ≡ add (mul r a s0) s1
row-solves r a b e s0 s1 fits h unit = regroup ∙ ap (λ (u : ℕ). add (mul r (mul r a s0) u) (mul r s1 u)) unit ∙ ones
  where
    regroup : mul r (add a b) (add (mul r s0 (mul r e a)) (mul r s1 e)) ≡ add (mul r (mul r a s0) (mul r (add a b) e)) (mul r s1 (mul r (add a b) e))
    regroup = simp ring

    ones : add (mul r (mul r a s0) 1) (mul r s1 1) ≡ add (mul r a s0) s1
    ones = ap₂ add (mul-one-r r (mul r a s0) (mul-lt r a s0 fits)) (mul-one-r r s1 h)

second-equation : (r a b d s0 s1 : ℕ) → mul r (add a b) d ≡ add (mul r a s0) s1 → add s1 (add (mul r a (add s0 d)) (mul r b d)) ≡ 0
second-equation r a b d s0 s1 h = regroup ∙ ap (λ (u : ℕ). add (add (mul r a s0) s1) u) h ∙ add-self (add (mul r a s0) s1)
  where
    regroup : add s1 (add (mul r a (add s0 d)) (mul r b d)) ≡ add (add (mul r a s0) s1) (mul r (add a b) d)
    regroup = simp (mul-add-l, mul-add-r, add_assoc, add_comm, add_left_comm)

pub solved-two : (r j k s0 s1 : ℕ) → j ≢ k
    → solved r j k s0 s1 ≡ add (mul r s0 (mul r (inverse r (add (pow r j) (pow r k))) (pow r j))) (mul r s1 (inverse r (add (pow r j) (pow r k))))
unfolding solved row0 row1
solved-two r j k s0 s1 ne = ap₂ (λ (a b : ℕ). add (mul r s0 a) (mul r s1 b)) (pick-ne j k 1 _ ne) (pick-ne j k 0 _ ne)

pub solved-second : (r j k s0 s1 : ℕ) → Primitive r → j < 255 → k < 255 → j ≢ k → s1 < 256
    → add s1 (add (mul r (pow r j) (add s0 (solved r j k s0 s1))) (mul r (pow r k) (solved r j k s0 s1))) ≡ 0
solved-second r j k s0 s1 p lj lk ne h =
    second-equation r (pow r j) (pow r k) (solved r j k s0 s1) s0 s1
    (ap (mul r (add (pow r j) (pow r k))) (solved-two r j k s0 s1 ne)
    ∙ row-solves r (pow r j) (pow r k) (inverse r (add (pow r j) (pow r k))) s0 s1 p.fits h
    (mul-inverse r (add (pow r j) (pow r k)) p (add-lt _ _ (pow-lt r j p.fits) (pow-lt r k p.fits)) (pow-different r j k p lj lk ne)))

-- ---- the places of a completed line

pub completed-later : (r n j k : ℕ) (c : ℕ → ℕ)
    → completed r n j k c k ≡ solved r j k (syndrome0 (erased j k c) n) (syndrome1 r (erased j k c) n)
unfolding completed
completed-later r n j k c = pick-eq k k _ _ refl

pub completed-earlier : (r n j k : ℕ) (c : ℕ → ℕ) → j ≢ k
    → completed r n j k c j ≡ add (syndrome0 (erased j k c) n) (solved r j k (syndrome0 (erased j k c) n) (syndrome1 r (erased j k c) n))
unfolding completed
completed-earlier r n j k c ne = pick-ne j k _ _ ne ∙ pick-eq j j _ _ refl

pub completed-off : (r n j k : ℕ) (c : ℕ → ℕ) (i : ℕ) → i ≢ j → i ≢ k → completed r n j k c i ≡ c i
unfolding completed
completed-off r n j k c i nj nk = pick-ne i k _ _ nk ∙ pick-ne i j _ _ nj

-- the completed line hangs on the places that are not erased alone
pub completed-cong : (r n j k : ℕ) (c d : ℕ → ℕ) → ((i : ℕ) → i < n → i ≢ j → i ≢ k → c i ≡ d i) → (i : ℕ) → i < n
    → completed r n j k c i ≡ completed r n j k d i
completed-cong r n j k c d same i l =
    elim (ℕ_discrete i k) [
      | yes e ↦ rw e (completed-later r n j k c ∙ solution ∙ sym (completed-later r n j k d))
      | no nk ↦
          elim (ℕ_discrete i j) [
            | yes e ↦
                let ne : j ≢ k = λ f. nk (e ∙ f) in
                rw e (completed-earlier r n j k c ne ∙ ap₂ add first solution ∙ sym (completed-earlier r n j k d ne))
            | no nj ↦ completed-off r n j k c i nj nk ∙ same i l nj nk ∙ sym (completed-off r n j k d i nj nk)
          ]
    ]
  where
    place : (q : ℕ) → q < n → erased j k c q ≡ erased j k d q
    place q m =
        elim (ℕ_discrete q k) [
          | yes e ↦ rw e (erased-later j k c ∙ sym (erased-later j k d))
          | no nk ↦
              elim (ℕ_discrete q j) [
                | yes e ↦ rw e (erased-earlier j k c ∙ sym (erased-earlier j k d))
                | no nj ↦ erased-off j k c q nj nk ∙ same q m nj nk ∙ sym (erased-off j k d q nj nk)
              ]
        ]

    first : syndrome0 (erased j k c) n ≡ syndrome0 (erased j k d) n
    first = syndrome0-cong (erased j k c) (erased j k d) n place

    solution :
        solved r j k (syndrome0 (erased j k c) n) (syndrome1 r (erased j k c) n)
        ≡ solved r j k (syndrome0 (erased j k d) n) (syndrome1 r (erased j k d) n)
    solution = ap₂ (solved r j k) first (syndrome1-cong r (erased j k c) (erased j k d) n place)

pub completed-lt : (r n j k : ℕ) (c : ℕ → ℕ) → r < 256 → ((i : ℕ) → i < n → c i < 256) → (i : ℕ) → i < n → completed r n j k c i < 256
completed-lt r n j k c fits bytes i l =
    elim (ℕ_discrete i k) [
      | yes e ↦ rw (e, completed-later r n j k c) solution
      | no nk ↦
          elim (ℕ_discrete i j) [
            | yes e ↦ rw (e, completed-earlier r n j k c (λ f. nk (e ∙ f))) (add-lt _ _ first solution)
            | no nj ↦ rw (completed-off r n j k c i nj nk) (bytes i l)
          ]
    ]
  where
    first : syndrome0 (erased j k c) n < 256
    first = syndrome0-lt (erased j k c) n (λ q m. erased-lt j k c q (bytes q m))

    solution : solved r j k (syndrome0 (erased j k c) n) (syndrome1 r (erased j k c) n) < 256
    solution = solved-lt r j k _ _ fits

-- ---- a line that agrees with c off the erasures is the erased line and its own two bytes

erased-split : (n j k : ℕ) (c x : ℕ → ℕ) → j ≢ k → ((i : ℕ) → i < n → i ≢ j → i ≢ k → x i ≡ c i)
    → (i : ℕ) → i < n → x i ≡ add (erased j k c i) (add (single j (x j) i) (single k (x k) i))
erased-split n j k c x ne h i l =
    elim (ℕ_discrete i j) [
      | yes e ↦
          rw e
          (sym
          (ap₂ add (erased-earlier j k c) (ap₂ add (single-at j (x j)) (single-off k (x k) j ne))
          ∙ add_zero_l _
          ∙ add_zero_r (x j)))
      | no nj ↦
          elim (ℕ_discrete i k) [
            | yes e ↦
                rw e
                (sym
                (ap₂ add (erased-later j k c) (ap₂ add (single-off j (x j) k (λ f. ne (sym f))) (single-at k (x k)))
                ∙ add_zero_l _
                ∙ add_zero_l (x k)))
            | no nk ↦
                sym
                (ap₂ add (erased-off j k c i nj nk) (ap₂ add (single-off j (x j) i nj) (single-off k (x k) i nk) ∙ add-self 0)
                ∙ add_zero_r (c i)
                ∙ sym (h i l nj nk))
          ]
    ]

pub syndrome0-erased : (n j k : ℕ) (c x : ℕ → ℕ) → j ≢ k → j < n → k < n → ((i : ℕ) → i < n → i ≢ j → i ≢ k → x i ≡ c i)
    → syndrome0 x n ≡ add (syndrome0 (erased j k c) n) (add (x j) (x k))
syndrome0-erased n j k c x ne lj lk h =
    syndrome0-cong x _ n (erased-split n j k c x ne h)
    ∙ syndrome0-add (erased j k c) (λ i. add (single j (x j) i) (single k (x k) i)) n
    ∙ ap (add (syndrome0 (erased j k c) n))
    (syndrome0-add (single j (x j)) (single k (x k)) n ∙ ap₂ add (syndrome0-single j (x j) n lj) (syndrome0-single k (x k) n lk))

pub syndrome1-erased : (r n j k : ℕ) (c x : ℕ → ℕ) → j ≢ k → j < n → k < n → ((i : ℕ) → i < n → i ≢ j → i ≢ k → x i ≡ c i)
    → syndrome1 r x n ≡ add (syndrome1 r (erased j k c) n) (add (mul r (pow r j) (x j)) (mul r (pow r k) (x k)))
syndrome1-erased r n j k c x ne lj lk h =
    syndrome1-cong r x _ n (erased-split n j k c x ne h)
    ∙ syndrome1-add r (erased j k c) (λ i. add (single j (x j) i) (single k (x k) i)) n
    ∙ ap (add (syndrome1 r (erased j k c) n))
    (syndrome1-add r (single j (x j)) (single k (x k)) n
    ∙ ap₂ add (syndrome1-single r j (x j) n lj) (syndrome1-single r k (x k) n lk))

-- ---- the completed line

pub completed-codeword : (r n j k : ℕ) (c : ℕ → ℕ) → Primitive r → n ≤ 255 → j < k → k < n → Codeword r (completed r n j k c) n
completed-codeword r n j k c p few less l =
    record {
      first =
          syndrome0-erased n j k c (completed r n j k c) ne (omega arith) l off
          ∙ ap₂ (λ (a b : ℕ). add s0 (add a b)) earlier later
          ∙ ap (add s0) (add_assoc s0 d d ∙ ap (add s0) (add-self d) ∙ add_zero_r s0)
          ∙ add-self s0;
      second =
          syndrome1-erased r n j k c (completed r n j k c) ne (omega arith) l off
          ∙ ap₂ (λ (a b : ℕ). add s1 (add (mul r (pow r j) a) (mul r (pow r k) b))) earlier later
          ∙ solved-second r j k s0 s1 p (omega arith) (omega arith) ne (syndrome1-lt r (erased j k c) n p.fits);
    }
  where
    s0 : ℕ
    s0 = syndrome0 (erased j k c) n

    s1 : ℕ
    s1 = syndrome1 r (erased j k c) n

    d : ℕ
    d = solved r j k s0 s1

    ne : j ≢ k
    ne = omega arith

    off : (i : ℕ) → i < n → i ≢ j → i ≢ k → completed r n j k c i ≡ c i
    off i m nj nk = completed-off r n j k c i nj nk

    earlier : completed r n j k c j ≡ add s0 d
    earlier = completed-earlier r n j k c ne

    later : completed r n j k c k ≡ d
    later = completed-later r n j k c

-- one erasure is the first syndrome of any codeword that agrees
forced-one : (r n k : ℕ) (c x : ℕ → ℕ) → ((i : ℕ) → i < n → c i < 256) → Codeword r x n → k < n → ((i : ℕ) → i < n → i ≢ k → x i ≡ c i)
    → x k ≡ completed r n k k c k
forced-one r n k c x bytes w l h =
    sym
    (completed-later r n k k c
    ∙ solved-one r k _ _ (syndrome0-lt (erased k k c) n (λ i m. erased-lt k k c i (bytes i m)))
    ∙ add-eq-zero (syndrome0 (erased k k c) n) (x k)
    (ap (add (syndrome0 (erased k k c) n)) (sym (ap (λ (a : ℕ). add a (x k)) (erased-later k k c) ∙ add_zero_l (x k)))
    ∙ sym (syndrome0-change (erased k k c) x n k (λ i m ne. h i m ne ∙ sym (erased-off k k c i ne ne)) l)
    ∙ w.first))

-- the completed line is what every codeword that agrees off the erasures is
pub completed-forced : (r n j k : ℕ) (c x : ℕ → ℕ) → Primitive r → n ≤ 255 → ((i : ℕ) → i < n → c i < 256) → ((i : ℕ) → i < n → x i < 256)
    → j ≤ k → k < n → Codeword r x n → ((i : ℕ) → i < n → i ≢ j → i ≢ k → x i ≡ c i) → (i : ℕ) → i < n → x i ≡ completed r n j k c i
completed-forced r n j k c x p few bc bx le l w h i m =
    elim (ℕ_discrete j k) [
      | yes e ↦
          elim (ℕ_discrete i k) [
            | yes f ↦
                ap x f
                ∙ forced-one r n k c x bc w l (λ q u d. h q u (λ g. d (g ∙ e)) d)
                ∙ ap₂ (λ (a b : ℕ). completed r n a k c b) (sym e) (sym f)
            | no ne ↦ known (λ g. ne (g ∙ e)) ne
          ]
      | no ne ↦
          codeword-unique r x (completed r n j k c) n j k p few bx (completed-lt r n j k c p.fits bc) w
          (completed-codeword r n j k c p few (omega arith) l) agree i m
    ]
  where
    agree : (q : ℕ) → q < n → q ≢ j → q ≢ k → x q ≡ completed r n j k c q
    agree q u nj nk = h q u nj nk ∙ sym (completed-off r n j k c q nj nk)

    known : i ≢ j → i ≢ k → x i ≡ completed r n j k c i
    known = agree i m

-- ---- lines of a plane: place i of line t is x i t, and each x i but those of the erasures is a codeword itself

module _ (r : ℕ) (x : ℕ → ℕ → ℕ) (n m j k : ℕ) (fits : r < 256) (h : (i : ℕ) → i < n → i ≢ j → i ≢ k → Codeword r (x i) m) where
  erased-rows : (i : ℕ) → i < n → Codeword r (λ t. erased j k (λ q. x q t) i) m
  erased-rows i l =
      elim (ℕ_discrete i j) [
        | yes e ↦ cleared (λ t. ap (erased j k (λ q. x q t)) e ∙ erased-earlier j k (λ q. x q t))
        | no nj ↦
            elim (ℕ_discrete i k) [
              | yes e ↦ cleared (λ t. ap (erased j k (λ q. x q t)) e ∙ erased-later j k (λ q. x q t))
              | no nk ↦ codeword-cong r (x i) _ m (λ t u. sym (erased-off j k (λ q. x q t) i nj nk)) (h i l nj nk)
            ]
      ]
    where
      cleared : ((t : ℕ) → erased j k (λ q. x q t) i ≡ 0) → Codeword r (λ t. erased j k (λ q. x q t) i) m
      cleared z = codeword-cong r (λ t. 0) _ m (λ t u. sym (z t)) (codeword-zero r m)

  pub parity-codeword : Codeword r (λ t. solved r j k (syndrome0 (erased j k (λ i. x i t)) n) (syndrome1 r (erased j k (λ i. x i t)) n)) m
  unfolding solved
  parity-codeword =
      codeword-add r _ _ m (scaled _ (row0 r j k) (codeword-sum0 r (λ i t. erased j k (λ q. x q t) i) n m erased-rows))
      (scaled _ (row1 r j k) (codeword-sum1 r (λ i t. erased j k (λ q. x q t) i) n m fits erased-rows))
    where
      scaled : (s : ℕ → ℕ) (a : ℕ) → Codeword r s m → Codeword r (λ t. mul r (s t) a) m
      scaled s a w = codeword-cong r (λ t. mul r a (s t)) (λ t. mul r (s t) a) m (λ t u. mul_comm r a (s t)) (codeword-scale r a s m fits w)

  pub parity-codeword-earlier :
      Codeword r
      (λ t.
      add (syndrome0 (erased j k (λ i. x i t)) n)
      (solved r j k (syndrome0 (erased j k (λ i. x i t)) n) (syndrome1 r (erased j k (λ i. x i t)) n)))
      m
  parity-codeword-earlier =
      codeword-add r _ _ m (codeword-sum0 r (λ i t. erased j k (λ q. x q t) i) n m erased-rows) parity-codeword

  -- all lines completed: every x i is a codeword then
  pub completed-rows : (i : ℕ) → i < n → Codeword r (λ t. completed r n j k (λ q. x q t) i) m
  completed-rows i l =
      elim (ℕ_discrete i k) [
        | yes e ↦
            codeword-cong r _ _ m (λ t u. sym (ap (completed r n j k (λ q. x q t)) e ∙ completed-later r n j k (λ q. x q t)))
            parity-codeword
        | no nk ↦
            elim (ℕ_discrete i j) [
              | yes e ↦
                  codeword-cong r _ _ m
                  (λ t u. sym (ap (completed r n j k (λ q. x q t)) e ∙ completed-earlier r n j k (λ q. x q t) (λ f. nk (e ∙ f))))
                  parity-codeword-earlier
              | no nj ↦ codeword-cong r (x i) _ m (λ t u. sym (completed-off r n j k (λ q. x q t) i nj nk)) (h i l nj nk)
            ]
      ]

-- ---- a line with its parity

pub parity-off : (r n : ℕ) (c : ℕ → ℕ) (i : ℕ) → i < n - 2 → with_parity r n c i ≡ c i
unfolding with_parity
parity-off r n c i l = completed-off r n (n - 2) (n - 1) c i (omega arith) (omega arith)

pub parity-right : (r n : ℕ) (c : ℕ → ℕ) → Primitive r → 2 ≤ n → n ≤ 255 → Codeword r (with_parity r n c) n
unfolding with_parity
parity-right r n c p low high = completed-codeword r n (n - 2) (n - 1) c p high (omega arith) (omega arith)

-- codewords x 0 .. x (n - 1) side by side stay codewords when the lines across them get their parity
pub parity-across : (r n m : ℕ) (x : ℕ → ℕ → ℕ) → r < 256 → ((i : ℕ) → Codeword r (x i) m) → (i : ℕ) → i < n
    → Codeword r (λ t. with_parity r n (λ q. x q t) i) m
unfolding with_parity
parity-across r n m x fits h i l = completed-rows r x n m (n - 2) (n - 1) fits (λ q _ _ _. h q) i l

pub parity-lt : (r n : ℕ) (c : ℕ → ℕ) → r < 256 → ((i : ℕ) → c i < 256) → (i : ℕ) → i < n → with_parity r n c i < 256
unfolding with_parity
parity-lt r n c fits bytes i l = completed-lt r n (n - 2) (n - 1) c fits (λ q _. bytes q) i l
