-- Document 01, "Programs": the text that Receive prints of an outcome.
use Rattle.std.specs.Prelude.{cond, List, [], ◌∷◌, ◌++◌, ℕ, zero, suc, ◌+◌, ◌*◌, ◌/◌, ◌%◌, eqb, get_or}
use Rattle.shape.specs.declared.Shape.{Shape}
use Rattle.shape.specs.Shapes.{cells}
use Rattle.printing.specs.Text.{ascii, hex_byte, number_line, triple, shape_line, refused_line, too_big_line}
use Rattle.receiver.specs.declared.Ending.{Ending}
use Rattle.receiver.specs.declared.Ending.TheVariants.{File, Left}
use Rattle.receive.specs.declared.receiving.Report.{Report}
use Rattle.receive.specs.declared.receiving.Outcome.{Outcome}
use Rattle.receive.specs.declared.receiving.Outcome.TheVariants.{TooBig, Refused, Came}

-- the cells left; none where a file came out
unfoldable pub cells_left : Ending → ℕ
cells_left (File n) = 0
cells_left (Left n) = n

-- "Receive prints shape, packets, repeats, places left"
unfoldable pub head_lines : Report → List ℕ
head_lines r =
    shape_line r.shape.l1 r.shape.l2 r.shape.l3 r.shape.w
    ++ (number_line (ascii "packets ") r.received.counts.packets
    ++ (number_line (ascii "repeats ") r.received.counts.repeats ++ number_line (ascii "left ") (cells_left r.received.ending)))

-- "then, if 0, the file's length"
unfoldable pub file_line : Ending → List ℕ
file_line (File n) = number_line (ascii "file ") n
file_line (Left n) = []

-- what stands before the bytes or the holes
unfoldable pub opening_lines : Outcome → List ℕ
opening_lines TooBig = too_big_line
opening_lines (Refused n) = refused_line n
opening_lines (Came r) = head_lines r ++ file_line r.received.ending

-- "single spaces between, 16 a line": behind byte i of a file of n bytes a newline ends the line or the file, else there is a space
unfoldable pub separator : ℕ → ℕ → ℕ
separator n i = cond (eqb (i + 1) n) 10 (cond (eqb (i % 16) 15) 10 32)

-- "bytes (two lower-case hexadecimal digits …)"
unfoldable pub byte_text : List ℕ → ℕ → ℕ → List ℕ
byte_text bs n i = hex_byte (get_or bs i 0) ++ (separator n i ∷ [])

-- "one line `hole a b c` a cell in cell order": the line of cell m, which only a missing cell has
unfoldable pub hole_line : Shape → ℕ → List ℕ
hole_line sh m = triple (ascii "hole ") (m % sh.l1) (m / sh.l1 % sh.l2) (m / (sh.l1 * sh.l2)) ++ ascii "\n"

unfoldable pub hole_text : Shape → List ℕ → ℕ → List ℕ
hole_text sh fs m = cond (eqb (get_or fs m 0) 1) (hole_line sh m) []

-- so many texts, one behind the other, from one on
unfoldable pub joined : (ℕ → List ℕ) → ℕ → ℕ → List ℕ
joined text from zero = []
joined text from (suc k) = joined text from k ++ text (from + k)

-- what stands behind the opening lines: "if 0, the file's … bytes", a text each, "else … a cell in cell order", a text each
unfoldable pub came_texts : Shape → Ending → ℕ
came_texts sh (File n) = n
came_texts sh (Left n) = cells sh

unfoldable pub texts : Outcome → ℕ
texts TooBig = 0
texts (Refused n) = 0
texts (Came r) = came_texts r.shape r.received.ending

unfoldable pub came_text : List ℕ → List ℕ → Shape → Ending → ℕ → List ℕ
came_text fs bs sh (File n) i = byte_text bs n i
came_text fs bs sh (Left n) i = hole_text sh fs i

unfoldable pub text_of : List ℕ → List ℕ → Outcome → ℕ → List ℕ
text_of fs bs TooBig i = []
text_of fs bs (Refused n) i = []
text_of fs bs (Came r) i = came_text fs bs r.shape r.received.ending i

-- "the whole output"
unfoldable pub printed : List ℕ → List ℕ → Outcome → List ℕ
printed fs bs o = opening_lines o ++ joined (text_of fs bs o) 0 (texts o)
