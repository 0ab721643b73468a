-- How a call may end: with its result, or with a refusal of the table in document 01, what that refusal returns, and what it leaves in lent
-- memory. One type for all calls.
use Rattle.std.specs.Prelude.{◌≡◌, Bool, true, false, cond, List, [], ◌∷◌, ℕ, eqb}
use Rattle.answer.specs.Values.{Value, gives, refused, refused_at}

-- n is one of a list of numbers
unfoldable pub is_one_of : List ℕ → ℕ → Bool
is_one_of [] n = false
is_one_of (m ∷ ms) n = cond (eqb m n) true (is_one_of ms n)

unfoldable pub OneOf : List ℕ → ℕ → Type 0
OneOf ns n = is_one_of ns n ≡ true

-- "A refusal names its number and, for a packet, the packet's index from 0": that of a packet is 11. Request P1: 17 names a line of a text;
-- request P4: 18 an offset in the file of a plan.
unfoldable pub placed : List ℕ
placed = 11 ∷ 17 ∷ 18 ∷ []

-- "Numbers 1 to 11 and 15 change no lent byte, nor does a number added later unless its request says so."
unfoldable pub keeping : List ℕ
keeping = 1 ∷ 2 ∷ 3 ∷ 4 ∷ 5 ∷ 6 ∷ 7 ∷ 8 ∷ 9 ∷ 10 ∷ 11 ∷ 15 ∷ 17 ∷ 19 ∷ []

-- The call ends in a result, or in one of `numbers`, with a place exactly where the number names one; n leaves `Leaves n`.
pub data Ends {A : Type 0} (numbers : List ℕ) (Leaves : ℕ → Type 0) : Value A → Type 0 where
  in_result : (a : A) → Ends numbers Leaves (gives a)
  in_refusal :
      (n : ℕ) → OneOf numbers n → is_one_of placed n ≡ false → Leaves n → Ends numbers Leaves (refused n)
  in_place :
      (n i : ℕ) → OneOf numbers n → OneOf placed n → Leaves n → Ends numbers Leaves (refused_at n i)

-- What the refusals of a call leave that changes no lent byte with any of its numbers: `after`, the slice it writes to, is as it was
abbrev pub Keeps : List ℕ → List ℕ → ℕ → Type 0
Keeps before after n = after ≡ before

-- of a call that writes to no slice
abbrev pub OnlyReads : ℕ → Type 0
OnlyReads n = Unit
