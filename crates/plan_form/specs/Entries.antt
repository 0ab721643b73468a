-- The entries of a splice plan and their rules (request P4), each over the bytes where its entries stand: a file's, or a list's that is lent.
use Rattle.std.specs.Prelude.{◌≡◌, List, ◌⊎◌, ℕ, ◌+◌, ◌-◌, ◌*◌, ◌≤◌, ◌<◌, get_or}
use Rattle.cursor.specs.Steps.{word}

-- every element is a byte
abbrev pub Bytes : List ℕ → Type 0
Bytes xs = (i : ℕ) → get_or xs i 0 < 256

-- a number in two bytes; "All low byte first."
unfoldable pub half : List ℕ → ℕ → ℕ
half xs at = get_or xs at 0 + 256 * get_or xs (at + 1) 0

-- entries stand in these bytes, one behind the other, from a place on
pub record Entries : Type 0 where
  pub bytes : List ℕ
  pub at : ℕ

abbrev pub entries : List ℕ → ℕ → Entries
entries xs at = record { bytes = xs; at = at }

-- ---- "closures (two-byte numbers, strictly ascending)"

unfoldable pub closure_at : Entries → ℕ → ℕ
closure_at C q = half C.bytes (C.at + 2 * q)

pub record ClosureRule (C : Entries) (k : ℕ) : Type 0 where
  pub ascending : 0 < k → closure_at C (k - 1) < closure_at C k

-- ---- "fibres (closure number, then fibre 1 to 288 in two bytes; pairs strictly ascending; closure listed)"

unfoldable pub closure_of : Entries → ℕ → ℕ
closure_of F x = half F.bytes (F.at + 4 * x)

unfoldable pub fibre_number : Entries → ℕ → ℕ
fibre_number F x = half F.bytes (F.at + 4 * x + 2)

-- by closure, then by fibre
unfoldable pub Precedes : Entries → ℕ → ℕ → Type 0
Precedes F x y = (closure_of F x < closure_of F y) ⊎ ((closure_of F x ≡ closure_of F y) × (fibre_number F x < fibre_number F y))

-- among n closures
unfoldable pub Listed : Entries → ℕ → ℕ → Type 0
Listed C n closure = (q : ℕ) × (q < n) × (closure_at C q ≡ closure)

pub record FibreRule (C : Entries) (n : ℕ) (F : Entries) (k : ℕ) : Type 0 where
  pub from_1 : 1 ≤ fibre_number F k
  pub to_288 : fibre_number F k ≤ 288
  pub ascending : 0 < k → Precedes F (k - 1) k
  pub listed : Listed C n (closure_of F k)

-- ---- "splices (two four-byte indexes, from 0, of fibres in the same closure, the first lower; each fibre in at most one splice; first indexes
-- ascending)"

unfoldable pub first_of : Entries → ℕ → ℕ
first_of S k = word S.bytes (S.at + 8 * k)

unfoldable pub second_of : Entries → ℕ → ℕ
second_of S k = word S.bytes (S.at + 8 * k + 4)

-- fibre x is in splice k
unfoldable pub Joins : Entries → ℕ → ℕ → Type 0
Joins S k x = (x ≡ first_of S k) ⊎ (x ≡ second_of S k)

-- with n fibres
pub record SpliceRule (F : Entries) (n : ℕ) (S : Entries) (k : ℕ) : Type 0 where
  pub lower : first_of S k < second_of S k
  pub fibres : second_of S k < n
  pub same_closure : closure_of F (first_of S k) ≡ closure_of F (second_of S k)
  pub ascending : 0 < k → first_of S (k - 1) < first_of S k
  pub once : (j x : ℕ) → j < k → Joins S j x → Joins S k x → ⊥
