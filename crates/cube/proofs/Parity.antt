-- Parity of parity agrees. Place a of row i is x i a; where every row is a codeword, and so is every column through a data place, then
-- every column is one: each syndrome of the columns, place by place, is a codeword whose data places are 00h, so it is 00h.
use mathlib.Core.Path.{◌≡◌}
use Prim.Native.Nat.{ℕ, ◌-◌, ◌≤◌, ◌<◌}
use native.Mathlib.Omega.{arith}
use Rattle.field.specs.Field.{Primitive}
use Rattle.line.specs.Line.{Codeword, syndrome0, syndrome1}
use Rattle.line.proofs.Syndrome.{syndrome0-lt, syndrome1-lt}
use Rattle.line.proofs.Codeword.{codeword-sum0, codeword-sum1, weight}

-- a codeword whose data places are 00h is 00h
data-zero : (r m : ℕ) (c : ℕ → ℕ) → Primitive r → m ≤ 255 → ((a : ℕ) → c a < 256) → Codeword r c m → ((a : ℕ) → a < m - 2 → c a ≡ 0)
    → (a : ℕ) → a < m → c a ≡ 0
data-zero r m c prim few bytes w zeros =
    weight r c m (m - 2) (m - 1) prim few (λ a l. bytes a) w (λ a l nj nk. zeros a (omega arith))

pub crossing : (r n m : ℕ) (x : ℕ → ℕ → ℕ) → Primitive r → m ≤ 255 → ((i a : ℕ) → x i a < 256)
    → ((i : ℕ) → i < n → Codeword r (x i) m) → ((a : ℕ) → a < m - 2 → Codeword r (λ i. x i a) n)
    → (a : ℕ) → a < m → Codeword r (λ i. x i a) n
crossing r n m x prim few bytes rows columns a l =
    record {
      first =
          data-zero r m (λ q. syndrome0 (λ i. x i q) n) prim few (λ q. syndrome0-lt _ n (λ i k. bytes i q))
          (codeword-sum0 r x n m rows) (λ q k. (columns q k).first) a l;
      second =
          data-zero r m (λ q. syndrome1 r (λ i. x i q) n) prim few (λ q. syndrome1-lt r _ n prim.fits)
          (codeword-sum1 r x n m prim.fits rows) (λ q k. (columns q k).second) a l;
    }
