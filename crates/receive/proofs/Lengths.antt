-- How long the printed texts are: each run of them fits in a buffer of 65,536 bytes.
use mathlib.Core.Bool.{Bool, true, false, cond}
use mathlib.Core.List.{List, [], ◌∷◌, ◌++◌}
use Prim.Native.Nat.{ℕ, zero, suc, ◌+◌, ◌*◌, ◌/◌, ◌%◌, ◌≤◌}
use native.Mathlib.Omega.{arith}
use lib.Dec.{eqb}
use lib.ListN.{length, get_or, length-append}
use Rattle.shape.specs.declared.Shape.{Shape}
use Rattle.printing.specs.Text.{ascii, hex_byte, number_line, triple, shape_line}
use Rattle.printing.proofs.Numerals.{length-number_line, length-triple, length-shape_line}
use Rattle.receiver.specs.declared.Ending.{Ending}
use Rattle.receiver.specs.declared.Ending.TheVariants.{File, Left}
use Rattle.receive.specs.declared.receiving.Report.{Report}
use Rattle.receive.specs.declared.receiving.Outcome.{Outcome}
use Rattle.receive.specs.declared.receiving.Outcome.TheVariants.{TooBig, Refused, Came}
use Rattle.receive.specs.Printed.{cells_left, head_lines, file_line, opening_lines, separator, byte_text, hole_line, hole_text, joined, came_text, text_of}

length-pick : (t : Bool) (x y : List ℕ) (n : ℕ) → length x ≤ n → length y ≤ n → length (cond t x y) ≤ n
length-pick true x y n h k = h
length-pick false x y n h k = k

-- ---- the first lines

length-head_lines : (r : Report) → length (head_lines r) ≤ 174
unfolding head_lines
length-head_lines r =
    let shape = shape_line r.shape.l1 r.shape.l2 r.shape.l3 r.shape.w in
    let packets = number_line (ascii "packets ") r.received.counts.packets in
    let repeats = number_line (ascii "repeats ") r.received.counts.repeats in
    let left = number_line (ascii "left ") (cells_left r.received.ending) in
    let a = length-number_line (ascii "packets ") r.received.counts.packets in
    let b = length-number_line (ascii "repeats ") r.received.counts.repeats in
    let c = length-number_line (ascii "left ") (cells_left r.received.ending) in
    omega
    (arith, length-append shape (packets ++ (repeats ++ left)), length-append packets (repeats ++ left), length-append repeats left, length-shape_line r.shape.l1 r.shape.l2 r.shape.l3 r.shape.w)

length-file_line : (e : Ending) → length (file_line e) ≤ 26
unfolding file_line
length-file_line (File n) = length-number_line (ascii "file ") n
length-file_line (Left n) = omega arith

pub length-opening_lines : (r : Report) → length (opening_lines (Came r)) ≤ 200
unfolding opening_lines
length-opening_lines r =
    omega (arith, length-append (head_lines r) (file_line r.received.ending), length-head_lines r, length-file_line r.received.ending)

-- ---- the bytes and the holes

length-byte_text : (bs : List ℕ) (n i : ℕ) → length (byte_text bs n i) ≤ 68
unfolding byte_text hex_byte
length-byte_text bs n i = omega (arith, length-append (hex_byte (get_or bs i 0)) (separator n i ∷ []))

length-hole_line : (sh : Shape) (m : ℕ) → length (hole_line sh m) ≤ 68
unfolding hole_line
length-hole_line sh m =
    let a = m % sh.l1 in
    let b = m / sh.l1 % sh.l2 in
    let c = m / (sh.l1 * sh.l2) in
    omega (arith, length-append (triple (ascii "hole ") a b c) (ascii "\n"), length-triple (ascii "hole ") a b c)

length-hole_text : (sh : Shape) (fs : List ℕ) (m : ℕ) → length (hole_text sh fs m) ≤ 68
unfolding hole_text
length-hole_text sh fs m = length-pick (eqb (get_or fs m 0) 1) (hole_line sh m) [] 68 (length-hole_line sh m) (omega arith)

length-came_text : (fs bs : List ℕ) (sh : Shape) (e : Ending) (i : ℕ) → length (came_text fs bs sh e i) ≤ 68
unfolding came_text
length-came_text fs bs sh (File n) i = length-byte_text bs n i
length-came_text fs bs sh (Left n) i = length-hole_text sh fs i

length-text_of : (fs bs : List ℕ) (o : Outcome) (i : ℕ) → length (text_of fs bs o i) ≤ 68
unfolding text_of
length-text_of fs bs TooBig i = omega arith
length-text_of fs bs (Refused f) i = omega arith
length-text_of fs bs (Came r) i = length-came_text fs bs r.shape r.received.ending i

-- a run of texts of at most 68 characters
length-joined : (text : ℕ → List ℕ) (from count : ℕ) → ((i : ℕ) → length (text i) ≤ 68) → length (joined text from count) ≤ 68 * count
unfolding joined
length-joined text from zero h = omega arith
length-joined text from (suc k) h =
    omega (arith, length-append (joined text from k) (text (from + k)), length-joined text from k h, h (from + k))

pub run_fits : (fs bs : List ℕ) (o : Outcome) (from count : ℕ) → count ≤ 512 → length (joined (text_of fs bs o) from count) ≤ 65536
run_fits fs bs o from count k = omega (arith, length-joined (text_of fs bs o) from count (length-text_of fs bs o))
