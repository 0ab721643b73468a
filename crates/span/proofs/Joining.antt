-- Bytes joined by or: the result is 00h exactly when each is.
use mathlib.Core.Path.{◌≡◌, refl}
use Prim.Native.Nat.{ℕ, ◌+◌, ◌<◌}
use native.Mathlib.Omega.{arith}
use borrow.Author.Count.{below_none, below_more}
use lib.Bits.{bit_or, bit_and, bit_xor, or_add_and, xor_add_and, xor_self, and_le_l, and_le_r}

pub or-zero : (a b : ℕ) → bit_or a b ≡ 0 → (a ≡ 0) × (b ≡ 0)
or-zero a b h =
    let sum : bit_and a b ≡ a + b = omega (arith, or_add_and a b) in
    (omega (arith, and_le_r a b), omega (arith, and_le_l a b))

-- two bytes differ by 00h exactly when they agree
pub xor-zero : (a b : ℕ) → bit_xor a b ≡ 0 → a ≡ b
xor-zero a b h = omega (arith, xor_add_and a b, and_le_l a b, and_le_r a b)

pub xor_same : (a b : ℕ) → a ≡ b → bit_xor a b ≡ 0
xor_same a b e = rw e (xor_self b)

-- The byte `any` is 00h exactly when P holds of every number below n.
pub record Joined (P : ℕ → Type 0) (n any : ℕ) : Type 0 where
  pub all : any ≡ 0 → (i : ℕ) → i < n → P i
  pub zero : ((i : ℕ) → i < n → P i) → any ≡ 0

pub joined-none : (P : ℕ → Type 0) → Joined P 0 0
joined-none P = record { all = λ e. below_none P; zero = λ h. refl }

-- one more byte, which is 00h exactly when P holds of n
pub joined-more : (P : ℕ → Type 0) (n any byte : ℕ) → Joined P n any → (byte ≡ 0 → P n) → (P n → byte ≡ 0)
    → Joined P (n + 1) (bit_or any byte)
joined-more P n any byte j here zero =
    record {
      all = λ e. let (ea, eb) = or-zero any byte e in below_more P n (j.all ea) (here eb);
      zero = λ h. rw (j.zero (λ i l. h i (omega arith)), zero (h n (omega arith)));
    }
