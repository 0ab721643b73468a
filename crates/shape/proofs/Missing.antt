-- Flags cell by cell: each is 0, 1 or 2 where all are valid, and a cell is missing exactly where its flag is 1.
use mathlib.Core.Path.{◌≡◌, refl, ap}
use mathlib.Core.Bool.{true, false, not}
use mathlib.Core.List.{List, [], ◌∷◌}
use mathlib.Core.Logic.{◌≢◌}
use Prim.Native.Nat.{ℕ, zero, suc, ◌≤◌, ◌<◌}
use native.Mathlib.Omega.{arith}
use borrow.Author.Tests.{not-true, leb-true, le-leb, eqb-true, eq-eqb, ne_eqb}
use lib.Dec.{leb, eqb}
use lib.ListN.{length, get_or}
use Rattle.shape.specs.Flags.{missing, flags_valid, none_missing}
use Rattle.shape.proofs.Valid.{both-parts, both_true}

-- ---- flags 0, 1 and 2

pub valid-flag : (fs : List ℕ) → flags_valid fs ≡ true → (n : ℕ) → get_or fs n 0 ≤ 2
unfolding flags_valid
valid-flag [] e n = omega arith
valid-flag (f ∷ fs) e zero = leb-true f 2 (both-parts (leb f 2) (flags_valid fs) e).0
valid-flag (f ∷ fs) e (suc n) = valid-flag fs (both-parts (leb f 2) (flags_valid fs) e).1 n

pub flags-valid : (fs : List ℕ) → ((n : ℕ) → n < length fs → get_or fs n 0 ≤ 2) → flags_valid fs ≡ true
unfolding flags_valid
flags-valid [] h = refl
flags-valid (f ∷ fs) h = both_true (leb f 2) (flags_valid fs) (le-leb f 2 (h 0 (omega arith))) (flags-valid fs (λ n l. h (suc n) (omega arith)))

-- ---- no flag 1

pub none-missing : (fs : List ℕ) → none_missing fs ≡ true → (n : ℕ) → missing fs n ≡ false
unfolding none_missing missing
none-missing [] e n = refl
none-missing (f ∷ fs) e zero = not-true (eqb f 1) (both-parts (not (eqb f 1)) (none_missing fs) e).0
none-missing (f ∷ fs) e (suc n) = none-missing fs (both-parts (not (eqb f 1)) (none_missing fs) e).1 n

-- ---- the flag of a cell

pub one-missing : (fs : List ℕ) (n : ℕ) → missing fs n ≡ true → get_or fs n 0 ≡ 1
unfolding missing
one-missing fs n e = eqb-true (get_or fs n 0) 1 e

pub missing-one : (fs : List ℕ) (n : ℕ) → get_or fs n 0 ≡ 1 → missing fs n ≡ true
unfolding missing
missing-one fs n e = eq-eqb (get_or fs n 0) 1 e

pub not-missing : (fs : List ℕ) (n : ℕ) → get_or fs n 0 ≢ 1 → missing fs n ≡ false
unfolding missing
not-missing fs n ne = ne_eqb (get_or fs n 0) 1 ne

pub missing-cong : (fs gs : List ℕ) (n : ℕ) → get_or gs n 0 ≡ get_or fs n 0 → missing gs n ≡ missing fs n
unfolding missing
missing-cong fs gs n e = ap (λ (f : ℕ). eqb f 1) e
