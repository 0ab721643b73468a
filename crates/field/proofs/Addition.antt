-- The laws of addition, that of exclusive or: an abelian group in which each element is its own negative.
use mathlib.Core.Path.{◌≡◌, sym, ap, ◌∙◌}
use Prim.Native.Nat.{ℕ, zero, suc, ◌/◌, ◌%◌, ◌<◌}
use native.Mathlib.Nat.{mod-lt, zero-lt-suc}
use native.Mathlib.Omega.{arith}
use lib.Arith.{bin_ind}
use lib.Bits.{xor_shr, xor_mod, xor_comm, xor_self, xor_zero_l, xor_zero_r, xor_lt}
use Rattle.field.specs.Field.{add}

-- what holds of 0 and of 1 holds of a bit
pub bit-ind : (P : ℕ → Type 0) → P 0 → P 1 → (n : ℕ) → P (n % 2)
bit-ind P p0 p1 n = go (n % 2) (mod-lt n (zero-lt-suc 1))
  where
    go : (d : ℕ) → d < 2 → P d
    go zero h = p0
    go (suc zero) h = p1
    go (suc (suc d)) h = absurd (omega arith)

-- a sum's lowest digit, and its others
pub add_half : (a b : ℕ) → add a b / 2 ≡ add (a / 2) (b / 2)
unfolding add
add_half a b = xor_shr a b 1

pub add-odd : (a b : ℕ) → add a b % 2 ≡ add (a % 2) (b % 2)
unfolding add
add-odd a b = xor_mod a b 1

pub add_zero_l : (a : ℕ) → add 0 a ≡ a
unfolding add
add_zero_l a = xor_zero_l a

pub add_zero_r : (a : ℕ) → add a 0 ≡ a
unfolding add
add_zero_r a = xor_zero_r a

pub add_comm : (a b : ℕ) → add a b ≡ add b a
unfolding add
add_comm a b = xor_comm a b

pub add-self : (a : ℕ) → add a a ≡ 0
unfolding add
add-self a = xor_self a

bit-assoc : (a b c : ℕ) → add (add (a % 2) (b % 2)) (c % 2) ≡ add (a % 2) (add (b % 2) (c % 2))
bit-assoc a b c =
    bit-ind (λ (x : ℕ). add (add x (b % 2)) (c % 2) ≡ add x (add (b % 2) (c % 2))) (simp add_zero_l)
    (bit-ind (λ (y : ℕ). add (add 1 y) (c % 2) ≡ add 1 (add y (c % 2))) (simp (add_zero_l, add_zero_r))
    (bit-ind (λ (z : ℕ). add (add 1 1) z ≡ add 1 (add 1 z)) (simp (add_zero_r, add-self)) (simp (add_zero_l, add_zero_r, add-self)) c) b) a

pub add_assoc : (a b c : ℕ) → add (add a b) c ≡ add a (add b c)
add_assoc = bin_ind (λ (a : ℕ). (b c : ℕ) → add (add a b) c ≡ add a (add b c)) (λ b c. simp add_zero_l) step
  where
    step : (a : ℕ) → ((b c : ℕ) → add (add (a / 2) b) c ≡ add (a / 2) (add b c)) → (b c : ℕ) → add (add a b) c ≡ add a (add b c)
    step a ih b c =
        let halves : add (add a b) c / 2 ≡ add a (add b c) / 2 = simp (add_half, ih) in
        let odds : add (add a b) c % 2 ≡ add a (add b c) % 2 = simp add-odd (bit-assoc a b c) in
        omega arith

pub add_left_comm : (a b c : ℕ) → add a (add b c) ≡ add b (add a c)
add_left_comm a b c = sym (add_assoc a b c) ∙ ap (λ (x : ℕ). add x c) (add_comm a b) ∙ add_assoc b a c

-- (a + b) + (c + d) = (a + c) + (b + d)
pub add-swap : (a b c d : ℕ) → add (add a b) (add c d) ≡ add (add a c) (add b d)
add-swap a b c d = simp (add_assoc, add_left_comm)

pub add-cancel : (a b : ℕ) → add a (add a b) ≡ b
add-cancel a b = sym (add_assoc a a b) ∙ ap (λ (x : ℕ). add x b) (add-self a) ∙ add_zero_l b

pub add-eq-zero : (a b : ℕ) → add a b ≡ 0 → a ≡ b
add-eq-zero a b h = sym (add_zero_r a) ∙ ap (λ (x : ℕ). add a x) (sym h) ∙ add-cancel a b

pub add-lt : (a b : ℕ) → a < 256 → b < 256 → add a b < 256
unfolding add
add-lt a b ha hb = xor_lt 8 a b ha hb
