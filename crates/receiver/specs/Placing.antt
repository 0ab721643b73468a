-- Packets placed one after another (document 01, "Packs"; requests P3 and P5): a sequence of packets, each with the cell it names and its bytes.
use Rattle.std.specs.Prelude.{◌≡◌, Bool, true, false, cond, not, List, ℕ, zero, suc, ◌*◌, ◌<◌, eqb, length, get_or}
use Rattle.shape.specs.declared.Shape.{Shape}
use Rattle.shape.specs.Shapes.{both, cells}
use Rattle.data.specs.Data.{layer}
use Rattle.stopping.specs.Stopping.{number}
use Rattle.pack.specs.declared.Header.{Header}
use Rattle.pack.specs.Packs.{unsent}
use Rattle.pack.specs.Packets.{Source}

-- one of the first n packets names cell m
unfoldable pub among : Source → ℕ → ℕ → Bool
among s zero m = false
among s (suc n) m = cond (eqb (s.place n) m) true (among s n m)

-- "Repeats count every copy after the first": the packets whose cell had come before
unfoldable pub repeats_of : Source → ℕ → ℕ
repeats_of s n = number (λ i. among s i (s.place i)) n

-- P holds of every number below n
unfoldable pub every : ℕ → (ℕ → Bool) → Bool
every zero P = true
every (suc n) P = both (P n) (every n P)

-- where packets i and j are both copies of cell m, they have the same bytes
unfoldable pub alike : Shape → Source → ℕ → ℕ → ℕ → Bool
alike sh s m i j =
    cond (both (eqb (s.place i) m) (eqb (s.place j) m)) (every sh.w (λ w. eqb (s.byte i w) (s.byte j w))) true

-- Of the first n packets some are copies of cell m, and all these are equal.
unfoldable pub agreed : Shape → Source → ℕ → ℕ → Bool
agreed sh s n m = both (among s n m) (every n (λ i. every n (alike sh s m i)))

-- "a cell whose copies are not all equal"
unfoldable pub conflicting : Shape → Source → ℕ → ℕ → Bool
conflicting sh s n m = both (among s n m) (not (agreed sh s n m))

-- how many such cells there are
unfoldable pub conflicts_of : Shape → Source → ℕ → ℕ
conflicts_of sh s n = number (conflicting sh s n) (cells sh)

-- The flag of cell m once n packets are placed, 0 known, 1 missing: "A cell whose copies are not all equal is now missing, whichever came first,
-- and a third copy does not rescue it." Request P5: unsent cells are "known from the start", and "Flags gain 2, known and unsent".
unfoldable pub flag_at : Header → Source → ℕ → ℕ → ℕ
flag_at h s n m = cond (unsent h m) 2 (cond (agreed h.shape s n m) 0 1)

-- A cube and flags once n packets are placed, where the flag of cell m is `flag m`. Unsent cells "are 00h". What cells hold that are sent but not
-- agreed on does not matter.
pub record Standing (h : Header) (s : Source) (n : ℕ) (flag : ℕ → ℕ) (xs fs : List ℕ) : Type 0 where
  pub cube_size : length xs ≡ h.shape.w * cells h.shape
  pub flags_size : length fs ≡ cells h.shape
  pub flags : (m : ℕ) → m < cells h.shape → get_or fs m 0 ≡ flag m
  pub bytes :
      (i : ℕ) → i < n → agreed h.shape s n (s.place i) ≡ true →
      (w : ℕ) → w < h.shape.w → layer h.shape xs w (s.place i) ≡ s.byte i w
  pub blank : (m w : ℕ) → m < cells h.shape → w < h.shape.w → unsent h m ≡ true → layer h.shape xs w m ≡ 0

-- "starts with all cells missing" that are sent, "places packets"
abbrev pub Placed : Header → Source → ℕ → List ℕ → List ℕ → Type 0
Placed h s n = Standing h s n (flag_at h s n)
