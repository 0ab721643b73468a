-- What the functions that place packets ensure.
use Rattle.std.specs.Prelude.{◌≡◌, Bool, true, false, cond, List, ℕ, ◌+◌, ◌-◌, ◌*◌, ◌≤◌, ◌<◌}
use Rattle.shape.specs.Shapes.{Valid}
use Rattle.pack.specs.declared.Header.{Header}
use Rattle.pack.specs.declared.packets.Packets.{Packets}
use Rattle.pack.specs.Packs.{unsent}
use Rattle.pack.specs.Packets.{Source, source, Named}
use Rattle.receiver.specs.Placing.{among, repeats_of, agreed, Standing}

-- The flag of cell m while packets are placed: 2 where it is unsent, 0 where its copies so far are all equal, 1 where none came, else 3, a mark
-- that is gone at the end.
unfoldable pub mark_at : Header → Source → ℕ → ℕ → ℕ
mark_at h s n m = cond (unsent h m) 2 (cond (agreed h.shape s n m) 0 (cond (among s n m) 3 1))

abbrev pub Marked : Header → Source → ℕ → List ℕ → List ℕ → Type 0
Marked h s n = Standing h s n (mark_at h s n)

-- the packets of a pack as a sequence
abbrev pub sequence : Packets → Source
sequence k = source k.bytes.now k.header k.section

-- every packet names a cell that is sent
abbrev pub AllNamed : Packets → Type 0
AllNamed k = (i : ℕ) → i < k.section.count → Named k.bytes.now k.header k.section i

-- What placing from packet i on asks for: every packet names a cell that is sent, and those before i are placed.
pub record Placeable (k : Packets) (i : ℕ) (xs fs : List ℕ) : Type 0 where
  pub valid : Valid k.header.shape
  pub named : AllNamed k
  pub high : i ≤ k.section.count
  pub marked : Marked k.header (sequence k) i xs fs

-- packet i placed, which adds so much to the repeats
pub record Arrived (h : Header) (s : Source) (i : ℕ) (xs' fs' : List ℕ) (adds : ℕ) : Type 0 where
  pub marked : Marked h s (i + 1) xs' fs'
  pub repeats : repeats_of s (i + 1) ≡ repeats_of s i + adds

-- What `place_first` and `place_repeat` leave: true where packet i is placed; false where it is not of their kind, because its cell came before
-- or did not, and nothing is changed.
pub record Tried (h : Header) (s : Source) (i : ℕ) (xs fs xs' fs' : List ℕ) (adds : ℕ) (came answer : Bool) : Type 0 where
  pub placed : answer ≡ true → Arrived h s i xs' fs' adds
  pub other : answer ≡ false → (among s i (s.place i) ≡ came) × (xs' ≡ xs) × (fs' ≡ fs)

-- the packets from i to j of n placed, each of which adds so much to the repeats
pub record Run (h : Header) (s : Source) (n i j : ℕ) (xs' fs' : List ℕ) (adds : ℕ) : Type 0 where
  pub low : i ≤ j
  pub high : j ≤ n
  pub marked : Marked h s j xs' fs'
  pub repeats : repeats_of s j ≡ repeats_of s i + (j - i) * adds

-- why a run ends before packet j: its cell came before, or did not
abbrev pub Stops : Source → ℕ → ℕ → Bool → Type 0
Stops s n j came = j < n → among s j (s.place j) ≡ came
