-- Encoding one axis is a linear map, and the axes can be encoded in any order: whatever is linear passes through a line's parity, place by place.
use mathlib.Core.Path.{◌≡◌, refl, sym, ap, ap₂, fun_ext, ◌∙◌}
use mathlib.Core.Bool.{Bool, true, false}
use Prim.Native.Nat.{ℕ, zero, suc, ◌-◌, ◌<◌}
use lib.Dec.{eqb}
use Rattle.field.specs.Field.{add, mul, pow}
use Rattle.field.proofs.Addition.{add-swap}
use Rattle.field.proofs.Multiplication.{mul_comm, mul-zero-l, mul-add-r, mul_left_comm}
use Rattle.solver.specs.Solver.{pick, row0, row1}
use Rattle.line.specs.Line.{syndrome0, syndrome1, erased, solved, completed, with_parity}
use Rattle.cube.specs.Encoded.{along1, along2, along3}

-- a byte made of bytes by sums and by products with constants
pub record Linear (r : ℕ) (F : (ℕ → ℕ) → ℕ) : Type 0 where
  pub plus : (x y : ℕ → ℕ) → F (λ t. add (x t) (y t)) ≡ add (F x) (F y)
  pub times : (k : ℕ) (x : ℕ → ℕ) → F (λ t. mul r k (x t)) ≡ mul r k (F x)

-- ---- it passes through a line's parity

module _ (r : ℕ) (F : (ℕ → ℕ) → ℕ) (l : Linear r F) where
  through-zero : F (λ t. 0) ≡ 0
  through-zero = ap F (fun_ext (λ t. sym (mul-zero-l r 0))) ∙ l.times 0 (λ t. 0) ∙ mul-zero-l r (F (λ t. 0))

  through-times : (s : ℕ → ℕ) (a : ℕ) → F (λ t. mul r (s t) a) ≡ mul r (F s) a
  through-times s a = ap F (fun_ext (λ t. mul_comm r (s t) a)) ∙ l.times a s ∙ mul_comm r a (F s)

  through-pick : (b : Bool) (x y : ℕ → ℕ) → F (λ t. pick b (x t) (y t)) ≡ pick b (F x) (F y)
  unfolding pick
  through-pick true x y = refl
  through-pick false x y = refl

  through-syndrome0 : (x : ℕ → ℕ → ℕ) (n : ℕ) → F (λ t. syndrome0 (λ i. x i t) n) ≡ syndrome0 (λ i. F (x i)) n
  unfolding syndrome0
  through-syndrome0 x zero = through-zero
  through-syndrome0 x (suc n) = l.plus (x n) (λ t. syndrome0 (λ i. x i t) n) ∙ ap (add (F (x n))) (through-syndrome0 x n)

  through-syndrome1 : (x : ℕ → ℕ → ℕ) (n : ℕ) → F (λ t. syndrome1 r (λ i. x i t) n) ≡ syndrome1 r (λ i. F (x i)) n
  unfolding syndrome1
  through-syndrome1 x zero = through-zero
  through-syndrome1 x (suc n) =
      l.plus (λ t. mul r (pow r n) (x n t)) (λ t. syndrome1 r (λ i. x i t) n) ∙ ap₂ add (l.times (pow r n) (x n)) (through-syndrome1 x n)

  through-erased : (j k : ℕ) (x : ℕ → ℕ → ℕ) (i : ℕ) → F (λ t. erased j k (λ q. x q t) i) ≡ erased j k (λ q. F (x q)) i
  unfolding erased
  through-erased j k x i =
      through-pick (eqb i k) (λ t. 0) (λ t. pick (eqb i j) 0 (x i t))
      ∙ ap₂ (pick (eqb i k)) through-zero
      (through-pick (eqb i j) (λ t. 0) (x i) ∙ ap (λ (z : ℕ). pick (eqb i j) z (F (x i))) through-zero)

  through-solved : (j k : ℕ) (s0 s1 : ℕ → ℕ) → F (λ t. solved r j k (s0 t) (s1 t)) ≡ solved r j k (F s0) (F s1)
  unfolding solved
  through-solved j k s0 s1 =
      l.plus (λ t. mul r (s0 t) (row0 r j k)) (λ t. mul r (s1 t) (row1 r j k))
      ∙ ap₂ add (through-times s0 (row0 r j k)) (through-times s1 (row1 r j k))

  module _ (n j k : ℕ) (x : ℕ → ℕ → ℕ) where
    first : F (λ t. syndrome0 (erased j k (λ q. x q t)) n) ≡ syndrome0 (erased j k (λ q. F (x q))) n
    first =
        through-syndrome0 (λ i t. erased j k (λ q. x q t) i) n
        ∙ ap (λ (c : ℕ → ℕ). syndrome0 c n) (fun_ext (through-erased j k x))

    second : F (λ t. syndrome1 r (erased j k (λ q. x q t)) n) ≡ syndrome1 r (erased j k (λ q. F (x q))) n
    second =
        through-syndrome1 (λ i t. erased j k (λ q. x q t) i) n
        ∙ ap (λ (c : ℕ → ℕ). syndrome1 r c n) (fun_ext (through-erased j k x))

    later : F (λ t. solved r j k (syndrome0 (erased j k (λ q. x q t)) n) (syndrome1 r (erased j k (λ q. x q t)) n))
        ≡ solved r j k (syndrome0 (erased j k (λ q. F (x q))) n) (syndrome1 r (erased j k (λ q. F (x q))) n)
    later = through-solved j k _ _ ∙ ap₂ (solved r j k) first second

    through-completed : (i : ℕ) → F (λ t. completed r n j k (λ q. x q t) i) ≡ completed r n j k (λ q. F (x q)) i
    unfolding completed
    through-completed i =
        through-pick (eqb i k) _ _
        ∙ ap₂ (pick (eqb i k)) later
        (through-pick (eqb i j) _ (x i) ∙ ap (λ (z : ℕ). pick (eqb i j) z (F (x i))) (l.plus _ _ ∙ ap₂ add first later))

  pub through-parity : (n : ℕ) (x : ℕ → ℕ → ℕ) (i : ℕ) → F (λ t. with_parity r n (λ q. x q t) i) ≡ with_parity r n (λ q. F (x q)) i
  unfolding with_parity
  through-parity n x i = through-completed n (n - 2) (n - 1) x i

-- ---- parity is linear itself: a sum of two lines and a multiple of one are linear

two : (x y : ℕ → ℕ) → ℕ → ℕ → ℕ
two x y q zero = x q
two x y q (suc t) = y q

sum-linear : (r : ℕ) → Linear r (λ c. add (c 0) (c 1))
sum-linear r =
    record {
      plus = λ x y. add-swap (x 0) (y 0) (x 1) (y 1);
      times = λ k x. sym (mul-add-r r k (x 0) (x 1));
    }

multiple-linear : (r m : ℕ) → r < 256 → Linear r (λ c. mul r m (c 0))
multiple-linear r m fits =
    record {
      plus = λ x y. mul-add-r r m (x 0) (y 0);
      times = λ k x. mul_left_comm r m k (x 0) fits;
    }

pub parity-linear : (r n i : ℕ) → r < 256 → Linear r (λ c. with_parity r n c i)
unfolding two
parity-linear r n i fits =
    record {
      plus = λ x y. sym (through-parity r (λ c. add (c 0) (c 1)) (sum-linear r) n (two x y) i);
      times = λ k x. sym (through-parity r (λ c. mul r k (c 0)) (multiple-linear r k fits) n (λ q t. x q) i);
    }

-- ---- axes

module _ (r : ℕ) (fits : r < 256) (x : ℕ → ℕ → ℕ → ℕ) where
  -- the order of two axes does not matter, whatever stands in the parity cells
  pub commute12 : (n m a b c : ℕ) → along2 r m (along1 r n x) a b c ≡ along1 r n (along2 r m x) a b c
  unfolding along1 along2
  commute12 n m a b c = through-parity r (λ d. with_parity r m d b) (parity-linear r m b fits) n (λ i t. x i t c) a

  pub commute13 : (n m a b c : ℕ) → along3 r m (along1 r n x) a b c ≡ along1 r n (along3 r m x) a b c
  unfolding along1 along3
  commute13 n m a b c = through-parity r (λ d. with_parity r m d c) (parity-linear r m c fits) n (λ i t. x i b t) a

  pub commute23 : (n m a b c : ℕ) → along3 r m (along2 r n x) a b c ≡ along2 r n (along3 r m x) a b c
  unfolding along2 along3
  commute23 n m a b c = through-parity r (λ d. with_parity r m d c) (parity-linear r m c fits) n (λ i t. x a i t) b
