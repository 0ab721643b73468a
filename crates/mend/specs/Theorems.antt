-- What mending undoes (request P6), as theorems about its contract; proofs/Damage.antt has the proofs. xs is a cube that is mended, zs a code cube, and
-- r the field's reduction byte: any whose polynomial is primitive, as that of C3h is (`primitive`, in the crate `field`).
use Rattle.std.specs.Prelude.{◌≡◌, Bool, false, cond, not, List, ◌≢◌, ℕ, ◌*◌, ◌≤◌, ◌<◌, eqb, leb, length, get_or}
use Rattle.answer.specs.Values.{Value, gives, passes}
use Rattle.field.specs.Field.{Primitive}
use Rattle.shape.specs.declared.Shape.{Shape}
use Rattle.shape.specs.Shapes.{Valid, cells, cell}
use Rattle.stopping.specs.Stopping.{number}
use Rattle.data.specs.Data.{layer}
use Rattle.cube.specs.Cube.{CodeCube}
use Rattle.mend.specs.Mend.{Passes, mend_checked, MendOutcome}

-- the byte of cell n in layer w is wrong: the two cubes differ there
unfoldable pub wrong_byte : Shape → (xs zs : List ℕ) → (w n : ℕ) → Bool
wrong_byte sh xs zs w n = not (eqb (layer sh xs w n) (layer sh zs w n))

-- "mending gives that code cube": every call of `mend` on xs that passes the checks, so that no cell is missing, is done, and its second cube is zs
unfoldable pub Mended : ℕ → Shape → (xs zs : List ℕ) → Type 0
Mended r sh xs zs =
    (fs before after : List ℕ) (value : Value Unit) → mend_checked sh (length xs) fs (length before) ≡ passes tt →
    MendOutcome r sh xs fs before after value → (value ≡ gives tt) × (after ≡ zs)

-- every cube of bytes that has damage of a kind, compared with some code cube, is mended to that code cube
unfoldable pub EachMended : (Shape → (xs zs : List ℕ) → Type 0) → Type 0
EachMended Damage =
    (r : ℕ) → Primitive r → (sh : Shape) (xs zs : List ℕ) → ((p : ℕ) → get_or xs p 0 < 256) → CodeCube r sh zs →
    Damage sh xs zs → Mended r sh xs zs

-- ---- the request

-- "differs from some code cube in at most seven bytes of each layer, wherever they are"
unfoldable pub SevenBytes : Shape → (xs zs : List ℕ) → Type 0
SevenBytes sh xs zs = (w : ℕ) → w < sh.w → number (wrong_byte sh xs zs w) (cells sh) ≤ 7

-- "Let it be shown that for every cube with no cell missing that differs from some code cube in at most seven bytes of each layer, wherever they are,
-- mending gives that code cube."
unfoldable pub SevenBytesMended : Type 0
SevenBytesMended = EachMended SevenBytes

-- ---- the law it comes from

-- row b of plane c has two members of a set of cells, or more
unfoldable pub double_row : Shape → (ℕ → Bool) → (c b : ℕ) → Bool
double_row sh P c b = leb 2 (number (λ a. P (cell sh a b c)) sh.l1)

-- plane c has two such rows or more
unfoldable pub double_plane : Shape → (ℕ → Bool) → (c : ℕ) → Bool
double_plane sh P c = leb 2 (number (double_row sh P c) sh.l2)

-- in layer w no two planes each have two rows with two wrong bytes each
unfoldable pub Correctable : Shape → (xs zs : List ℕ) → (w : ℕ) → Type 0
Correctable sh xs zs w = number (double_plane sh (wrong_byte sh xs zs w)) sh.l3 ≤ 1

-- "Layer w … is a code of its own": the passes give such a layer the code cube's bytes, whatever the other layers hold;
unfoldable pub LayerMended : Type 0
LayerMended =
    (r : ℕ) → Primitive r → (sh : Shape) → Valid sh → (xs ys zs : List ℕ) → length xs ≡ sh.w * cells sh →
    ((p : ℕ) → get_or xs p 0 < 256) → CodeCube r sh zs → Passes r sh xs ys →
    (w : ℕ) → w < sh.w → Correctable sh xs zs w → (n : ℕ) → n < cells sh → layer sh ys w n ≡ layer sh zs w n

-- so a cube with such layers alone is mended.
unfoldable pub EveryLayer : Shape → (xs zs : List ℕ) → Type 0
EveryLayer sh xs zs = (w : ℕ) → w < sh.w → Correctable sh xs zs w

unfoldable pub EveryLayerMended : Type 0
EveryLayerMended = EachMended EveryLayer

-- ---- in packets

-- at most seven packets are damaged, whatever bytes of them are wrong
pub record SevenPackets (sh : Shape) (xs zs : List ℕ) : Type 0 where
  pub damaged : ℕ → Bool
  pub few : number damaged (cells sh) ≤ 7
  pub others : (n w : ℕ) → n < cells sh → w < sh.w → damaged n ≡ false → layer sh xs w n ≡ layer sh zs w n

unfoldable pub SevenPacketsMended : Type 0
SevenPacketsMended = EachMended SevenPackets

-- the place of cell (a,b,c) on an axis
unfoldable pub coordinate : (axis a b c : ℕ) → ℕ
coordinate axis a b c = cond (leb axis 1) a (cond (leb axis 2) b c)

-- all damage is inside one plane of cells, those that have one place on one of the axes, whatever bytes of them are wrong
pub record OnePlane (sh : Shape) (xs zs : List ℕ) : Type 0 where
  pub axis : ℕ
  pub place : ℕ
  pub others :
      (a b c w : ℕ) → a < sh.l1 → b < sh.l2 → c < sh.l3 → w < sh.w → coordinate axis a b c ≢ place →
      layer sh xs w (cell sh a b c) ≡ layer sh zs w (cell sh a b c)

unfoldable pub OnePlaneMended : Type 0
OnePlaneMended = EachMended OnePlane
