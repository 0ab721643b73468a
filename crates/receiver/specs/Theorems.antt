-- What document 01 and the requests P3 and P5 say of the receiver, as theorems about the definitions; proofs/Determined.antt,
-- proofs/NoPackets.antt and proofs/Copies.antt have the proofs. r is a byte whose polynomial is primitive.
use Rattle.std.specs.Prelude.{◌≡◌, Bool, true, List, ◌↔◌, ℕ, ◌≤◌, ◌<◌}
use Rattle.answer.specs.Values.{Value, gives, passes}
use Rattle.field.specs.Field.{Primitive}
use Rattle.shape.specs.declared.Shape.{Shape}
use Rattle.shape.specs.Shapes.{cells, data_cells, IsLine}
use Rattle.stopping.specs.Stopping.{number, Largest}
use Rattle.pack.specs.declared.Header.{Header}
use Rattle.pack.specs.declared.Section.{Section}
use Rattle.pack.specs.Packs.{sends}
use Rattle.pack.specs.Packets.{Source}
use Rattle.receiver.specs.declared.Counts.{Counts}
use Rattle.receiver.specs.Placing.{among, agreed, conflicting}
use Rattle.receiver.specs.Gathering.{Reception, left}
use Rattle.receiver.specs.Receive.{Memory, receive_checked, ReceiveOutcome}

-- "A contract gives result, counts and every lent byte afterwards for all inputs …; nothing is left open": one pack and the same lent bytes have
-- one outcome.
unfoldable pub NothingLeftOpen : Type 0
NothingLeftOpen =
    (r : ℕ) → Primitive r → (p : List ℕ) (m a b : Memory) (v v' : Value Reception) (k k' : Counts) →
    ReceiveOutcome r p m a v k → ReceiveOutcome r p m b v' k' → (v ≡ v') × (k ≡ k') × (a ≡ b)

-- Request P5: "Without packets Left is the largest stuck set of sent cells." Of the set of sent cells only the cells of the cube are asked, so
-- what `sends` says of higher numbers does not matter. Some cells are always left, 27 or more.
unfoldable pub NoPackets : Type 0
NoPackets =
    (r : ℕ) (p : List ℕ) (m m' : Memory) (v : Value Reception) (k : Counts) (h : Header) (s : Section) →
    receive_checked p m ≡ passes (h, s) → s.count ≡ 0 → ReceiveOutcome r p m m' v k →
    (K : ℕ → Bool) → Largest (cells h.shape) (IsLine h.shape) (sends h) K →
    (v ≡ gives (left (number K (cells h.shape)))) × (27 ≤ number K (cells h.shape))

-- "No packets gives Left cells.": where every cell is sent, as with count 5
unfoldable pub NoPacketsPlain : Type 0
NoPacketsPlain =
    (r : ℕ) (p : List ℕ) (m m' : Memory) (v : Value Reception) (k : Counts) (h : Header) (s : Section) →
    receive_checked p m ≡ passes (h, s) → s.count ≡ 0 → h.used ≡ data_cells h.shape → ReceiveOutcome r p m m' v k →
    v ≡ gives (left (cells h.shape))

-- Request P3: what `agreed` decides. The cell came, and any two of its copies have the same bytes, in whatever order they came.
pub record AllEqual (sh : Shape) (s : Source) (n m : ℕ) : Type 0 where
  pub came : among s n m ≡ true
  pub equal : (i j : ℕ) → i < n → j < n → s.place i ≡ m → s.place j ≡ m → (w : ℕ) → w < sh.w → s.byte i w ≡ s.byte j w

unfoldable pub AgreedExactly : Type 0
AgreedExactly = (sh : Shape) (s : Source) (n m : ℕ) → (agreed sh s n m ≡ true) ↔ AllEqual sh s n m

-- "a third copy does not rescue it": where two of the first n packets differ, they do among any more
unfoldable pub NotRescued : Type 0
NotRescued =
    (sh : Shape) (s : Source) (n k m : ℕ) → n ≤ k → conflicting sh s n m ≡ true → conflicting sh s k m ≡ true
