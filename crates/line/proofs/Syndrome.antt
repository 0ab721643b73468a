-- The syndromes of a line depend on its places alone, are linear, are bytes, and obey Horner's rule from the far end.
use mathlib.Core.Path.{◌≡◌, refl, sym, ap, ap₂, ◌∙◌}
use mathlib.Core.Logic.{◌≢◌}
use Prim.Native.Nat.{ℕ, zero, suc, ◌+◌, ◌-◌, ◌≤◌, ◌<◌}
use native.Mathlib.Nat.{add-zero, sub_self}
use native.Mathlib.Decide.{ℕ_discrete}
use native.Mathlib.Omega.{arith}
use lib.Dec.{eqb}
use Rattle.field.specs.Field.{add, xtime, mul, pow}
use Rattle.field.proofs.Addition.{add_zero_l, add_zero_r, add_left_comm, add-swap, add-self, add-cancel, add-lt}
use Rattle.field.proofs.Multiplication.{xtime-zero, xtime-add, xtime-mul-l, mul-zero-r, mul-add-r, mul-one-l, mul-lt, mul_left_comm}
use Rattle.solver.specs.Solver.{pick}
use Rattle.line.specs.Line.{syndrome0, syndrome1}
use Rattle.line.specs.Inner.Wide.{tail0, tail1}
use Rattle.solver.proofs.Pick.{pick-eq, pick-ne}

-- ---- the places below the length count

pub syndrome0-cong : (x y : ℕ → ℕ) (n : ℕ) → ((i : ℕ) → i < n → x i ≡ y i) → syndrome0 x n ≡ syndrome0 y n
unfolding syndrome0
syndrome0-cong x y zero h = refl
syndrome0-cong x y (suc n) h = ap₂ add (h n (omega arith)) (syndrome0-cong x y n (λ i l. h i (omega arith)))

pub syndrome1-cong : (r : ℕ) (x y : ℕ → ℕ) (n : ℕ) → ((i : ℕ) → i < n → x i ≡ y i) → syndrome1 r x n ≡ syndrome1 r y n
unfolding syndrome1
syndrome1-cong r x y zero h = refl
syndrome1-cong r x y (suc n) h = ap₂ add (ap (mul r (pow r n)) (h n (omega arith))) (syndrome1-cong r x y n (λ i l. h i (omega arith)))

-- places of 00h at the end add nothing
pub syndrome0-zeros : (c : ℕ → ℕ) (m n : ℕ) → m ≤ n → ((i : ℕ) → m ≤ i → i < n → c i ≡ 0) → syndrome0 c n ≡ syndrome0 c m
unfolding syndrome0
syndrome0-zeros c m zero l h = ap (syndrome0 c) {x = 0} {y = m} (omega arith)
syndrome0-zeros c m (suc n) l h =
    elim (ℕ_discrete m (suc n)) [
      | yes e ↦ ap (syndrome0 c) (sym e)
      | no ne ↦ ap₂ add (h n (omega arith) (omega arith)) (syndrome0-zeros c m n (omega arith) (λ i a b. h i a (omega arith))) ∙ add_zero_l _
    ]

pub syndrome1-zeros : (r : ℕ) (c : ℕ → ℕ) (m n : ℕ) → m ≤ n → ((i : ℕ) → m ≤ i → i < n → c i ≡ 0) → syndrome1 r c n ≡ syndrome1 r c m
unfolding syndrome1
syndrome1-zeros r c m zero l h = ap (syndrome1 r c) {x = 0} {y = m} (omega arith)
syndrome1-zeros r c m (suc n) l h =
    elim (ℕ_discrete m (suc n)) [
      | yes e ↦ ap (syndrome1 r c) (sym e)
      | no ne ↦
          ap₂ add (ap (mul r (pow r n)) (h n (omega arith) (omega arith)) ∙ mul-zero-r r (pow r n))
          (syndrome1-zeros r c m n (omega arith) (λ i a b. h i a (omega arith)))
          ∙ add_zero_l _
    ]

-- ---- linear

pub syndrome0-zero : (n : ℕ) → syndrome0 (λ i. 0) n ≡ 0
unfolding syndrome0
syndrome0-zero zero = refl
syndrome0-zero (suc n) = ap (add 0) (syndrome0-zero n) ∙ add-self 0

pub syndrome1-zero : (r n : ℕ) → syndrome1 r (λ i. 0) n ≡ 0
unfolding syndrome1
syndrome1-zero r zero = refl
syndrome1-zero r (suc n) = ap₂ add (mul-zero-r r (pow r n)) (syndrome1-zero r n) ∙ add-self 0

pub syndrome0-add : (x y : ℕ → ℕ) (n : ℕ) → syndrome0 (λ i. add (x i) (y i)) n ≡ add (syndrome0 x n) (syndrome0 y n)
unfolding syndrome0
syndrome0-add x y zero = sym (add-self 0)
syndrome0-add x y (suc n) = ap (add (add (x n) (y n))) (syndrome0-add x y n) ∙ add-swap (x n) (y n) (syndrome0 x n) (syndrome0 y n)

pub syndrome1-add : (r : ℕ) (x y : ℕ → ℕ) (n : ℕ) → syndrome1 r (λ i. add (x i) (y i)) n ≡ add (syndrome1 r x n) (syndrome1 r y n)
unfolding syndrome1
syndrome1-add r x y zero = sym (add-self 0)
syndrome1-add r x y (suc n) =
    ap₂ add (mul-add-r r (pow r n) (x n) (y n)) (syndrome1-add r x y n)
    ∙ add-swap (mul r (pow r n) (x n)) (mul r (pow r n) (y n)) (syndrome1 r x n) (syndrome1 r y n)

pub syndrome0-scale : (r k : ℕ) (x : ℕ → ℕ) (n : ℕ) → syndrome0 (λ i. mul r k (x i)) n ≡ mul r k (syndrome0 x n)
unfolding syndrome0
syndrome0-scale r k x zero = sym (mul-zero-r r k)
syndrome0-scale r k x (suc n) = ap (add (mul r k (x n))) (syndrome0-scale r k x n) ∙ sym (mul-add-r r k (x n) (syndrome0 x n))

pub syndrome1-scale : (r k : ℕ) (x : ℕ → ℕ) (n : ℕ) → r < 256 → syndrome1 r (λ i. mul r k (x i)) n ≡ mul r k (syndrome1 r x n)
unfolding syndrome1
syndrome1-scale r k x zero fits = sym (mul-zero-r r k)
syndrome1-scale r k x (suc n) fits =
    ap₂ add (mul_left_comm r (pow r n) k (x n) fits) (syndrome1-scale r k x n fits)
    ∙ sym (mul-add-r r k (mul r (pow r n) (x n)) (syndrome1 r x n))

-- ---- bytes

pub syndrome0-lt : (x : ℕ → ℕ) (n : ℕ) → ((i : ℕ) → i < n → x i < 256) → syndrome0 x n < 256
unfolding syndrome0
syndrome0-lt x zero h = omega arith
syndrome0-lt x (suc n) h = add-lt (x n) (syndrome0 x n) (h n (omega arith)) (syndrome0-lt x n (λ i l. h i (omega arith)))

pub syndrome1-lt : (r : ℕ) (x : ℕ → ℕ) (n : ℕ) → r < 256 → syndrome1 r x n < 256
unfolding syndrome1
syndrome1-lt r x zero fits = omega arith
syndrome1-lt r x (suc n) fits = add-lt (mul r (pow r n) (x n)) (syndrome1 r x n) (mul-lt r (pow r n) (x n) fits) (syndrome1-lt r x n fits)

-- ---- Horner's rule

pub syndrome0-front : (c : ℕ → ℕ) (n : ℕ) → syndrome0 c (suc n) ≡ add (c 0) (syndrome0 (λ i. c (suc i)) n)
unfolding syndrome0
syndrome0-front c zero = refl
syndrome0-front c (suc n) = ap (add (c (suc n))) (syndrome0-front c n) ∙ add_left_comm (c (suc n)) (c 0) (syndrome0 (λ i. c (suc i)) n)

pub syndrome1-front : (r : ℕ) (c : ℕ → ℕ) (n : ℕ) → r < 256 → c 0 < 256
    → syndrome1 r c (suc n) ≡ add (c 0) (xtime r (syndrome1 r (λ i. c (suc i)) n))
unfolding syndrome1 pow
syndrome1-front r c zero fits h = ap₂ add (mul-one-l r (c 0) h) (sym (xtime-zero r))
syndrome1-front r c (suc n) fits h =
    ap₂ add (sym (xtime-mul-l r (pow r n) (c (suc n)) fits)) (syndrome1-front r c n fits h)
    ∙ add_left_comm (xtime r (mul r (pow r n) (c (suc n)))) (c 0) (xtime r (syndrome1 r (λ i. c (suc i)) n))
    ∙ ap (add (c 0)) (sym (xtime-add r (mul r (pow r n) (c (suc n))) (syndrome1 r (λ i. c (suc i)) n)))

-- The syndromes of what stands from a place on: Horner's rule steps from the far end, where nothing stands, to the whole line.
pub tail0-end : (c : ℕ → ℕ) (n : ℕ) → tail0 c n n ≡ 0
unfolding tail0 syndrome0
tail0-end c n = rw (sub_self n)

pub tail1-end : (r : ℕ) (c : ℕ → ℕ) (n : ℕ) → tail1 r c n n ≡ 0
unfolding tail1 syndrome1
tail1-end r c n = rw (sub_self n)

pub tail0-step : (c : ℕ → ℕ) (n left : ℕ) → left < n → tail0 c n left ≡ add (c left) (tail0 c n (left + 1))
unfolding tail0
tail0-step c n left h =
    ap (syndrome0 (λ i. c (left + i))) (omega arith)
    ∙ syndrome0-front (λ i. c (left + i)) (n - (left + 1))
    ∙ ap₂ add (ap c (omega arith)) (syndrome0-cong _ _ (n - (left + 1)) (λ i l. ap c (omega arith)))

pub tail1-step : (r : ℕ) (c : ℕ → ℕ) (n left : ℕ) → r < 256 → c left < 256 → left < n
    → tail1 r c n left ≡ add (c left) (xtime r (tail1 r c n (left + 1)))
unfolding tail1
tail1-step r c n left fits byte h =
    ap (syndrome1 r (λ i. c (left + i))) (omega arith)
    ∙ syndrome1-front r (λ i. c (left + i)) (n - (left + 1)) fits (rw add-zero byte)
    ∙ ap₂ (λ (a s : ℕ). add a (xtime r s)) (ap c (omega arith)) (syndrome1-cong r _ _ (n - (left + 1)) (λ i l. ap c (omega arith)))

pub tail0-whole : (c : ℕ → ℕ) (n : ℕ) → tail0 c n 0 ≡ syndrome0 c n
unfolding tail0
tail0-whole c n = ap (syndrome0 (λ i. c (0 + i))) (omega arith) ∙ syndrome0-cong _ c n (λ i l. ap c (omega arith))

pub tail1-whole : (r : ℕ) (c : ℕ → ℕ) (n : ℕ) → tail1 r c n 0 ≡ syndrome1 r c n
unfolding tail1
tail1-whole r c n = ap (syndrome1 r (λ i. c (0 + i))) (omega arith) ∙ syndrome1-cong r _ c n (λ i l. ap c (omega arith))

-- ---- one place

-- the line with v at the place j and 00h elsewhere
unfoldable pub single : ℕ → ℕ → ℕ → ℕ
single j v i = pick (eqb i j) v 0

pub single-at : (j v : ℕ) → single j v j ≡ v
unfolding single
single-at j v = pick-eq j j v 0 refl

pub single-off : (j v i : ℕ) → i ≢ j → single j v i ≡ 0
unfolding single
single-off j v i ne = pick-ne i j v 0 ne

syndrome0-single-above : (j v n : ℕ) → n ≤ j → syndrome0 (single j v) n ≡ 0
syndrome0-single-above j v n h =
    syndrome0-cong (single j v) (λ i. 0) n (λ i l. single-off j v i (omega arith)) ∙ syndrome0-zero n

syndrome1-single-above : (r j v n : ℕ) → n ≤ j → syndrome1 r (single j v) n ≡ 0
syndrome1-single-above r j v n h =
    syndrome1-cong r (single j v) (λ i. 0) n (λ i l. single-off j v i (omega arith)) ∙ syndrome1-zero r n

pub syndrome0-single : (j v n : ℕ) → j < n → syndrome0 (single j v) n ≡ v
unfolding syndrome0
syndrome0-single j v zero h = absurd (omega arith)
syndrome0-single j v (suc n) h =
    elim (ℕ_discrete j n) [
      | yes e ↦ ap₂ add (ap (single j v) (sym e) ∙ single-at j v) (syndrome0-single-above j v n (omega arith)) ∙ add_zero_r v
      | no ne ↦ ap₂ add (single-off j v n (λ e. ne (sym e))) (syndrome0-single j v n (omega arith)) ∙ add_zero_l v
    ]

pub syndrome1-single : (r j v n : ℕ) → j < n → syndrome1 r (single j v) n ≡ mul r (pow r j) v
unfolding syndrome1
syndrome1-single r j v zero h = absurd (omega arith)
syndrome1-single r j v (suc n) h =
    elim (ℕ_discrete j n) [
      | yes e ↦
          ap₂ add (ap (λ (i : ℕ). mul r (pow r i) (single j v i)) (sym e) ∙ ap (mul r (pow r j)) (single-at j v)) (syndrome1-single-above r j v n (omega arith))
          ∙ add_zero_r (mul r (pow r j) v)
      | no ne ↦
          ap₂ add (ap (mul r (pow r n)) (single-off j v n (λ e. ne (sym e))) ∙ mul-zero-r r (pow r n)) (syndrome1-single r j v n (omega arith))
          ∙ add_zero_l (mul r (pow r j) v)
    ]

-- a line that differs from another at one place is the other with a single place added
pub single-add : (x y : ℕ → ℕ) (n j : ℕ) → ((i : ℕ) → i < n → i ≢ j → y i ≡ x i)
    → (i : ℕ) → i < n → y i ≡ add (x i) (single j (add (x j) (y j)) i)
single-add x y n j h i l =
    elim (ℕ_discrete i j) [
      | yes e ↦ rw e (sym (ap (add (x j)) (single-at j (add (x j) (y j))) ∙ add-cancel (x j) (y j)))
      | no ne ↦ h i l ne ∙ sym (ap (add (x i)) (single-off j _ i ne) ∙ add_zero_r (x i))
    ]

pub syndrome0-change : (x y : ℕ → ℕ) (n j : ℕ) → ((i : ℕ) → i < n → i ≢ j → y i ≡ x i) → j < n
    → syndrome0 y n ≡ add (syndrome0 x n) (add (x j) (y j))
syndrome0-change x y n j h l =
    syndrome0-cong y _ n (single-add x y n j h)
    ∙ syndrome0-add x (single j (add (x j) (y j))) n
    ∙ ap (add (syndrome0 x n)) (syndrome0-single j (add (x j) (y j)) n l)

pub syndrome1-change : (r : ℕ) (x y : ℕ → ℕ) (n j : ℕ) → ((i : ℕ) → i < n → i ≢ j → y i ≡ x i) → j < n
    → syndrome1 r y n ≡ add (syndrome1 r x n) (mul r (pow r j) (add (x j) (y j)))
syndrome1-change r x y n j h l =
    syndrome1-cong r y _ n (single-add x y n j h)
    ∙ syndrome1-add r x (single j (add (x j) (y j))) n
    ∙ ap (add (syndrome1 r x n)) (syndrome1-single r j (add (x j) (y j)) n l)
