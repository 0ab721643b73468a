-- The cells that are sent: which they are by coordinates, how many there are, and their list.
use mathlib.Core.Path.{◌≡◌, refl, sym, ap, ap₂, ◌∙◌}
use mathlib.Core.Bool.{Bool, true, false, cond, not}
use mathlib.Core.Logic.{⊎_elim}
use mathlib.Core.List.{List, [], ◌∷◌, ◌++◌, append-nil, append_assoc}
use Prim.Native.Nat.{ℕ, zero, suc, ◌+◌, ◌-◌, ◌*◌, ◌≤◌, ◌<◌}
use native.Mathlib.Nat.{add-zero}
use native.Mathlib.Decide.{dec_lt}
use native.Mathlib.Omega.{arith}
use lib.Dec.{leb, ltb}
use lib.ListN.{length, get_or, length-append, get_or-append}
use lib.Seq.{get_or-append-add}
use borrow.Author.Tests.{lt-ltb, le-ltb, lt-leb}
use Rattle.shape.specs.declared.Sizes.{Sizes}
use Rattle.shape.specs.Shapes.{both, cells, cell, data_cell, data_cells, sizes}
use Rattle.stopping.specs.Stopping.{number}
use Rattle.stopping.proofs.Number.{true-or-false, number_in, number-out, number-nil, rank_lt}
use Rattle.stopping.proofs.Ranks.{data-cell, data-rank, data-number, number-later}
use Rattle.pack.specs.declared.Header.{Header}
use Rattle.pack.specs.Packs.{unsent, sends, sent_below, up_from}
use Rattle.pack.proofs.Sound.{data-cells-le}

-- ---- by coordinates

-- a cell with a parity coordinate is sent, and data cell (a,b,c) is where its number is below those in use
module _ (h : Header) (a b c : ℕ) (la : a < h.shape.l1) (lb : b < h.shape.l2) where
  parity-sent : both (ltb a (h.shape.l1 - 2)) (both (ltb b (h.shape.l2 - 2)) (ltb c (h.shape.l3 - 2))) ≡ false
      → unsent h (cell h.shape a b c) ≡ false
  unfolding unsent both
  parity-sent e = rw (data-cell h.shape a b c la lb ∙ e)

  both_out : (x : Bool) → both x false ≡ false
  unfolding both
  both_out true = refl
  both_out false = refl

  pub parity-1 : h.shape.l1 ≤ a + 2 → unsent h (cell h.shape a b c) ≡ false
  unfolding both
  parity-1 l = parity-sent (rw (le-ltb a (h.shape.l1 - 2) (omega arith)))

  pub parity-2 : h.shape.l2 ≤ b + 2 → unsent h (cell h.shape a b c) ≡ false
  unfolding both
  parity-2 l = parity-sent (rw (le-ltb b (h.shape.l2 - 2) (omega arith)) (both_out (ltb a (h.shape.l1 - 2))))

  pub parity-3 : h.shape.l3 ≤ c + 2 → unsent h (cell h.shape a b c) ≡ false
  parity-3 l =
      parity-sent (rw (le-ltb c (h.shape.l3 - 2) (omega arith), both_out (ltb b (h.shape.l2 - 2))) (both_out (ltb a (h.shape.l1 - 2))))

  pub data-unsent : a < h.shape.l1 - 2 → b < h.shape.l2 - 2 → c < h.shape.l3 - 2
      → unsent h (cell h.shape a b c) ≡ leb h.used (a + (h.shape.l1 - 2) * (b + (h.shape.l2 - 2) * c))
  unfolding unsent both
  data-unsent l m n =
      let member : data_cell h.shape (cell h.shape a b c) ≡ true =
      data-cell h.shape a b c la lb ∙ rw (lt-ltb a (h.shape.l1 - 2) l, lt-ltb b (h.shape.l2 - 2) m, lt-ltb c (h.shape.l3 - 2) n) in
      rw (member, data-rank h.shape a b c l m n)

-- ---- how many

number-not : (P : ℕ → Bool) (n : ℕ) → number (λ m. not (P m)) n + number P n ≡ n
number-not P zero = omega (arith, number-nil P, number-nil (λ m. not (P m)))
number-not P (suc n) =
    let below : number (λ m. not (P m)) n + number P n ≡ n = number-not P n in
    ⊎_elim (λ e. omega (arith, number_in P n e, number-out (λ m. not (P m)) n (rw e)))
    (λ e. omega (arith, number-out P n e, number_in (λ m. not (P m)) n (rw e))) (true-or-false (P n))

-- all cells but the data cells that are not in use
pub sent-number : (h : Header) → number (sends h) (cells h.shape) ≡ cells h.shape - (data_cells h.shape - h.used)
unfolding sends unsent
sent-number h =
    let none : number (unsent h) (cells h.shape) ≡ data_cells h.shape - h.used =
    number-later (data_cell h.shape) h.used (cells h.shape) ∙ ap (λ (n : ℕ). n - h.used) (data-number h.shape) in
    omega (arith, number-not (unsent h) (cells h.shape), none)

-- so by the sizes of the shape
module _ (h : Header) (z : Sizes) (measured : z ≡ sizes h.shape) (all : ℕ) (same : all ≡ data_cells h.shape) where
  pub sent-counted : z.cells - (all - h.used) ≡ number (sends h) z.cells
  unfolding sizes
  sent-counted = rw (measured, same) (sym (sent-number h))

  pub unsent-fit : all - h.used ≤ z.cells
  unfolding sizes
  unsent-fit = rw (measured, same) (omega (arith, data-cells-le h.shape))

-- with every data cell in use all cells are sent
pub enough-sent : (h : Header) → data_cells h.shape ≤ h.used → (n : ℕ) → n < cells h.shape → unsent h n ≡ false
unfolding unsent both
enough-sent h e n l =
    ⊎_elim
    (λ member.
    let rank : number (data_cell h.shape) n < data_cells h.shape =
    omega (arith, rank_lt (data_cell h.shape) n (cells h.shape) l member, data-number h.shape) in
    rw member (lt-leb h.used (number (data_cell h.shape) n) (omega arith)))
    (λ other. rw other) (true-or-false (data_cell h.shape n))

pub all-sent : (h : Header) → h.used ≡ data_cells h.shape → (n : ℕ) → n < cells h.shape → unsent h n ≡ false
all-sent h e = enough-sent h (omega arith)

-- ---- their list

pub up_from-more : (n k : ℕ) → up_from n (suc k) ≡ up_from n k ++ ((n + k) ∷ [])
unfolding up_from
up_from-more n zero = rw (add-zero n)
up_from-more n (suc k) =
    let e : suc n + k ≡ n + suc k = omega arith in
    ap (λ (l : List ℕ). n ∷ l) (rw e at (up_from-more (suc n) k))

module _ (h : Header) where
  pub sent_below-in : (n : ℕ) → unsent h n ≡ false → sent_below h (suc n) ≡ sent_below h n ++ (n ∷ [])
  unfolding sent_below sends
  sent_below-in n e = rw e

  pub sent_below-out : (n : ℕ) → unsent h n ≡ true → sent_below h (suc n) ≡ sent_below h n
  unfolding sent_below sends
  sent_below-out n e = rw e (append-nil (sent_below h n))

  pub sent_below-length : (n : ℕ) → length (sent_below h n) ≡ number (sends h) n
  unfolding sent_below number
  sent_below-length zero = refl
  sent_below-length (suc n) =
      length-append (sent_below h n) (cond (sends h n) (n ∷ []) []) ∙ ap₂ ◌+◌ (sent_below-length n) (one (sends h n))
    where
      one : (b : Bool) → length (cond b (n ∷ []) []) ≡ cond b 1 0
      one true = refl
      one false = refl

  -- each member is a cell below n that is sent
  pub record SentAt (n m : ℕ) : Type 0 where
    pub below : m < n
    pub is-sent : unsent h m ≡ false

  pub sent_below-at : (n i : ℕ) → i < length (sent_below h n) → SentAt n (get_or (sent_below h n) i 0)
  unfolding sent_below
  sent_below-at zero i l = absurd (omega arith)
  sent_below-at (suc n) i l =
      ⊎_elim
      (λ out. let e = sent_below-out n out in rw e (later (sent_below-at n i (rw e at l))))
      (λ e. let more = sent_below-in n e in rw more (elim (dec_lt i (length (sent_below h n))) [
        | yes less ↦ rw (get_or-append (sent_below h n) (n ∷ []) 0 i less) (later (sent_below-at n i less))
        | no beyond ↦ let here : i ≡ length (sent_below h n) + 0 =
            omega (arith, length-append (sent_below h n) (n ∷ []), ap length more) in
            rw (here, get_or-append-add (sent_below h n) (n ∷ []) 0 0) (record { below = omega arith; is-sent = e })
      ])) (true-or-false (unsent h n))
    where
      later : {m : ℕ} → SentAt n m → SentAt (suc n) m
      later s = record { below = omega (arith, s.below); is-sent = s.is-sent }

  -- a run of cells that are sent, and one of cells that are not
  pub sent_below-run : (n k : ℕ) → ((i : ℕ) → i < k → unsent h (n + i) ≡ false) → sent_below h (n + k) ≡ sent_below h n ++ up_from n k
  unfolding up_from
  sent_below-run n zero all = ap (sent_below h) (add-zero n) ∙ sym (append-nil (sent_below h n))
  sent_below-run n (suc k) all =
      let e : n + suc k ≡ suc (n + k) = omega arith in
      ap (sent_below h) e ∙ sent_below-in (n + k) (all k (omega arith))
      ∙ ap (λ (l : List ℕ). l ++ ((n + k) ∷ [])) (sent_below-run n k (λ i l. all i (omega arith)))
      ∙ append_assoc (sent_below h n) (up_from n k) ((n + k) ∷ []) ∙ ap (λ (l : List ℕ). sent_below h n ++ l) (sym (up_from-more n k))

  pub sent_below-skip : (n k : ℕ) → ((i : ℕ) → i < k → unsent h (n + i) ≡ true) → sent_below h (n + k) ≡ sent_below h n
  sent_below-skip n zero none = ap (sent_below h) (add-zero n)
  sent_below-skip n (suc k) none =
      let e : n + suc k ≡ suc (n + k) = omega arith in
      ap (sent_below h) e ∙ sent_below-out (n + k) (none k (omega arith)) ∙ sent_below-skip n k (λ i l. none i (omega arith))
