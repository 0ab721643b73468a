-- Lines that `solve` and `encode` write: the layers of one row, the data columns of a plane, and the data rows with one number across the planes.
use mathlib.Core.Path.{◌≡◌, sym, ap, ◌∙◌}
use mathlib.Core.List.{List}
use mathlib.Core.Bool.{Bool}
use mathlib.Core.Logic.{◌⊎◌, inl, inr}
use Prim.Native.Nat.{ℕ, ◌+◌, ◌*◌, ◌-◌, ◌≤◌, ◌<◌}
use native.Mathlib.Decide.{dec_lt}
use native.Mathlib.Nat.{mul_comm, mul_assoc, mul_left_comm, mul-le-mul_right, add_assoc, add_comm, add_left_comm, zero-add}
use native.Mathlib.Omega.{arith}
use lib.ListN.{length, get_or}
use Rattle.span.proofs.Stretches.{stretch-end}
use Rattle.field.specs.Field.{Primitive}
use Rattle.line.specs.declared.Run.{Run}
use Rattle.line.specs.Line.{Codeword}
use Rattle.line.specs.Run.{line_at, Inside, Off, SolveRun, erasures_at}
use Rattle.line.proofs.Codeword.{codeword-cong}
use Rattle.line.proofs.Erasure.{completed-off}
use Rattle.line.proofs.Runs.{Solved, written-solved, solved-lines, solved-codewords}
use Rattle.cube.specs.Inner.Encoder.{spot}
use Rattle.cube.proofs.Bytes.{rows-in-plane, spot-low, spot-row, spot-plane}

-- `solve` fills the erasures in where the run lies inside and they are places of it
pub outcome-solved : (r : ℕ) (run : Run) (j k : ℕ) (before after : List ℕ) (answer : Bool)
    → SolveRun r run (erasures_at r j k) before after answer → Inside run (length before) → j ≤ k → k < run.len → Solved r run j k before after
unfolding erasures_at
outcome-solved r run j k before after answer o inside le l = written-solved (o.done (inside, le, l)).1

-- place i of line t
line-byte : (s : List ℕ) (run : Run) (t i : ℕ) → line_at s run t i ≡ get_or s (run.first + (i * run.stride + t)) 0
unfolding line_at
line-byte s run t i =
    ap (λ (p : ℕ). get_or s p 0) (add_assoc run.first (run.stride * i) t ∙ ap (λ (p : ℕ). run.first + (p + t)) (mul_comm run.stride i))

-- the data places of lines whose parity is filled in are kept
data-kept : (r : ℕ) (run : Run) (before after : List ℕ) → run.width ≤ run.stride → Solved r run (run.len - 2) (run.len - 1) before after
    → (t i : ℕ) → t < run.width → i < run.len - 2 → line_at after run t i ≡ line_at before run t i
data-kept r run before after apart solved t i h l =
    solved-lines r run (run.len - 2) (run.len - 1) before after solved apart (omega arith) t h i
    ∙ completed-off r run.len (run.len - 2) (run.len - 1) (line_at before run t) i (omega arith) (omega arith)

-- ---- one row

-- the layers of row b as a run
unfoldable pub row_run : ℕ → ℕ → ℕ → Run
row_run m w b = record { first = b * (m * w); stride = w; len = m; width = w }

pub row_inside : (m w b n : ℕ) → 0 < m → m ≤ 255 → b * (m * w) + m * w ≤ n → Inside (row_run m w b) n
unfolding row_run
row_inside m w b n some few room =
    record { some_place = some; few_places = few; apart = omega arith; fits = λ i l. omega (arith, stretch-end i m w l, mul_comm i w) }

module _ (r m w n : ℕ) (before after : List ℕ) (inside : Inside (row_run m w n) (length before))
    (solved : Solved r (row_run m w n) (m - 2) (m - 1) before after) where
  row-byte : (s : List ℕ) (t a : ℕ) → line_at s (row_run m w n) t a ≡ get_or s (spot m w a n t) 0
  unfolding row_run spot
  row-byte s t a = line-byte s (row_run m w n) t a

  pub row-codeword : Primitive r → 2 ≤ m → (t : ℕ) → t < w → Codeword r (λ a. get_or after (spot m w a n t) 0) m
  unfolding row_run
  row-codeword prim low t h =
      codeword-cong r _ _ m (λ a l. row-byte after t a)
      (solved-codewords r (row_run m w n) (m - 2) (m - 1) before after prim inside solved (omega arith) (omega arith) t h)

  pub row-data : (a t : ℕ) → a < m - 2 → t < w → get_or after (spot m w a n t) 0 ≡ get_or before (spot m w a n t) 0
  unfolding row_run
  row-data a t l h = sym (row-byte after t a) ∙ data-kept r (row_run m w n) before after inside.apart solved t a h l ∙ row-byte before t a

  -- no other row is written
  pub row_other : 2 ≤ m → (a b t : ℕ) → a < m → t < w → (b ≡ n → ⊥) → get_or after (spot m w a b t) 0 ≡ get_or before (spot m w a b t) 0
  unfolding row_run Off spot
  row_other low a b t l h ne =
      let last = stretch-end (m - 1) m w (omega arith) in
      let places : w * (m - 2) + w ≤ w * (m - 1) = omega (arith, stretch-end (m - 2) (m - 1) w (omega arith), mul_comm w (m - 2), mul_comm w (m - 1)) in
      elim (dec_lt b n) [
        | yes less ↦ let row = stretch-end b n (m * w) less in let cell = stretch-end a m w l in solved.kept _ (inl (omega arith)) (inl (omega arith))
        | no more ↦
            let row = stretch-end n b (m * w) (omega arith) in
            solved.kept _ (inr (omega (arith, mul_comm w (m - 1)))) (inr (omega (arith, mul_comm w (m - 1))))
      ]

-- ---- data columns

-- the layers of the data columns of a plane of n rows, side by side
unfoldable pub columns_run : ℕ → ℕ → ℕ → Run
columns_run m n w = record { first = 0; stride = m * w; len = n; width = (m - 2) * w }

pub columns-inside : (m n w size : ℕ) → 0 < n → n ≤ 255 → m * n * w ≤ size → Inside (columns_run m n w) size
unfolding columns_run
columns-inside m n w size some few room =
    let cells : m - 2 ≤ m = omega arith in
    let apart : (m - 2) * w ≤ m * w = mul-le-mul_right w cells in
    record {
      some_place = some;
      few_places = few;
      apart = apart;
      fits = λ i l. omega (arith, apart, stretch-end i n (m * w) l, mul_comm i (m * w), rows-in-plane m n w);
    }

module _ (r m n w : ℕ) (before after : List ℕ) (inside : Inside (columns_run m n w) (length before))
    (solved : Solved r (columns_run m n w) (n - 2) (n - 1) before after) where
  column-byte : (s : List ℕ) (a t b : ℕ) → line_at s (columns_run m n w) (a * w + t) b ≡ get_or s (spot m w a b t) 0
  unfolding columns_run spot
  column-byte s a t b = line-byte s (columns_run m n w) (a * w + t) b ∙ ap (λ (p : ℕ). get_or s p 0) (zero-add (b * (m * w) + (a * w + t)))

  pub column-codeword : Primitive r → 2 ≤ n → (a t : ℕ) → a < m - 2 → t < w → Codeword r (λ b. get_or after (spot m w a b t) 0) n
  unfolding columns_run
  column-codeword prim low a t l h =
      codeword-cong r _ _ n (λ b k. column-byte after a t b)
      (solved-codewords r (columns_run m n w) (n - 2) (n - 1) before after prim inside solved (omega arith) (omega arith) (a * w + t)
      (omega (arith, stretch-end a (m - 2) w l)))

  pub column-data : (a b t : ℕ) → a < m - 2 → b < n - 2 → t < w → get_or after (spot m w a b t) 0 ≡ get_or before (spot m w a b t) 0
  unfolding columns_run
  column-data a b t l k h =
      sym (column-byte after a t b)
      ∙ data-kept r (columns_run m n w) before after inside.apart solved (a * w + t) b (omega (arith, stretch-end a (m - 2) w l)) k
      ∙ column-byte before a t b

-- ---- data rows across the planes

-- the layers of the k first cells of row b of each plane, where planes have n rows of m cells
unfoldable pub across_run : ℕ → ℕ → ℕ → ℕ → ℕ → ℕ → Run
across_run m n len w k b = record { first = b * (m * w); stride = n * (m * w); len = len; width = k * w }

-- its lines are the layers of cells
pub across-byte : (m n len w k b : ℕ) (s : List ℕ) (a t c : ℕ)
    → line_at s (across_run m n len w k b) (a * w + t) c ≡ get_or s (c * (m * n * w) + spot m w a b t) 0
unfolding across_run spot
across-byte m n len w k b s a t c =
    line-byte s (across_run m n len w k b) (a * w + t) c
    ∙ ap (λ (p : ℕ). get_or s p 0) (simp (mul_assoc, mul_comm, mul_left_comm, add_assoc, add_comm, add_left_comm))

across-place : (m n w i : ℕ) → n * (m * w) * i ≡ i * (m * n * w)
across-place m n w i = ap (λ (p : ℕ). p * i) (rows-in-plane m n w) ∙ mul_comm (m * n * w) i

pub across-inside : (m n len w k b size : ℕ) → 0 < len → len ≤ 255 → k ≤ m → b < n → len * (m * n * w) ≤ size
    → Inside (across_run m n len w k b) size
unfolding across_run
across-inside m n len w k b size some few cells less room =
    let row : k * w ≤ m * w = mul-le-mul_right w cells in
    let plane = stretch-end b n (m * w) less in
    record {
      some_place = some;
      few_places = few;
      apart = omega (arith, row, plane);
      fits = λ i l. omega (arith, row, plane, stretch-end i len (m * n * w) l, rows-in-plane m n w, across-place m n w i);
    }

-- a cell of another row is none of its bytes
pub across-off : (m n len w k b : ℕ) → k ≤ m → b < n → (a b' c t : ℕ) → a < m → b' < n → t < w → (b' ≡ b → ⊥)
    → (i : ℕ) → Off (across_run m n len w k b) i (c * (m * n * w) + spot m w a b' t)
unfolding across_run Off
across-off m n len w k b cells less a b' c t l less' h ne i =
    let row : k * w ≤ m * w = mul-le-mul_right w cells in
    let place = across-place m n w i in
    let written = stretch-end b n (m * w) less in
    let asked = spot-plane m n w a b' t l less' h in
    let whole = rows-in-plane m n w in
    elim (dec_lt c i) [
      | yes before ↦ let planes = stretch-end c i (m * n * w) before in inl (omega arith)
      | no here ↦ elim (dec_lt i c) [
        | yes after ↦ let planes = stretch-end i c (m * n * w) after in inr (omega arith)
        | no there ↦ let same : c ≡ i = omega arith in rw same (beside row)
      ]
    ]
  where
    beside : k * w ≤ m * w
        → (i * (m * n * w) + spot m w a b' t < b * (m * w) + n * (m * w) * i) ⊎ (b * (m * w) + n * (m * w) * i + k * w ≤ i * (m * n * w) + spot m w a b' t)
    beside row =
        let place = across-place m n w i in
        elim (dec_lt b' b) [
          | yes below ↦ let rows = stretch-end b' b (m * w) below in inl (omega (arith, spot-row m w a b' t l h))
          | no past ↦ let rows = stretch-end b b' (m * w) (omega arith) in inr (omega (arith, spot-low m w a b' t))
        ]

module _ (r m n len w k b : ℕ) (before after : List ℕ) (inside : Inside (across_run m n len w k b) (length before))
    (solved : Solved r (across_run m n len w k b) (len - 2) (len - 1) before after) where
  pub across-codeword : Primitive r → 2 ≤ len → (a t : ℕ) → a < k → t < w → Codeword r (λ c. get_or after (c * (m * n * w) + spot m w a b t) 0) len
  unfolding across_run
  across-codeword prim low a t l h =
      codeword-cong r _ _ len (λ c j. across-byte m n len w k b after a t c)
      (solved-codewords r (across_run m n len w k b) (len - 2) (len - 1) before after prim inside solved (omega arith) (omega arith) (a * w + t)
      (omega (arith, stretch-end a k w l)))

  pub across-kept : (a c t : ℕ) → a < k → c < len - 2 → t < w
      → get_or after (c * (m * n * w) + spot m w a b t) 0 ≡ get_or before (c * (m * n * w) + spot m w a b t) 0
  unfolding across_run
  across-kept a c t l j h =
      sym (across-byte m n len w k b after a t c)
      ∙ data-kept r (across_run m n len w k b) before after inside.apart solved (a * w + t) c (omega (arith, stretch-end a k w l)) j
      ∙ across-byte m n len w k b before a t c

  -- no other row is written
  pub across-other : k ≤ m → b < n → (a b' c t : ℕ) → a < m → b' < n → t < w → (b' ≡ b → ⊥)
      → get_or after (c * (m * n * w) + spot m w a b' t) 0 ≡ get_or before (c * (m * n * w) + spot m w a b' t) 0
  across-other cells less a b' c t l less' h ne =
      let off = across-off m n len w k b cells less a b' c t l less' h ne in
      solved.kept _ (off (len - 2)) (off (len - 1))
