-- The exported question about a pack: the shape in its section 1, and how much memory its calls are lent.
use Rattle.std.specs.Prelude.{◌≡◌, List, ◌∷◌, ℕ, ◌-◌, ◌*◌, replicate}
use Rattle.answer.specs.Values.{Checked, passes, fails, checked}
use Rattle.shape.specs.Shapes.{cells, capacity}
use Rattle.pack.specs.declared.Header.{Header}
use Rattle.cursor.specs.declared.Cursor.{Cursor}
use Rattle.pack.specs.Packs.{pack_size}
use Rattle.pack.specs.Reading.{header_of}
use Rattle.jibrufath.specs.Exports.{packed, uncounted}

-- "Lent slices and their exact lengths: a cube, W × cells; flags, cells; a data string, its capacity; the receiver's file buffer,
-- capacity - 4; the writer's output, the pack's size above", behind the four numbers of the shape; then the data cells in use (request P5: U), and 0 in
-- every other place
unfoldable pub needs_of : Header → List ℕ
needs_of h =
    h.shape.l1 ∷ h.shape.l2 ∷ h.shape.l3 ∷ h.shape.w ∷ cells h.shape ∷ h.shape.w * cells h.shape ∷ capacity h.shape ∷
    (capacity h.shape - 4) ∷ pack_size h ∷ h.used ∷ replicate 6 0

-- "all counts with it are 0"
unfoldable pub needs_in : Checked (Header × Cursor) → List ℕ
needs_in (passes h) = needs_of h.0
needs_in (fails n) = replicate 16 0

-- What `jibrufath_needs` answers: a header's checks, and nothing beside their number.
pub record NeedsExport (p needs : List ℕ) (word : ℕ) : Type 0 where
  pub word_packed : word ≡ packed uncounted (checked (header_of p))
  pub needed : needs ≡ needs_in (header_of p)
