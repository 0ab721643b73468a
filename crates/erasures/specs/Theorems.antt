-- What request P2 says of the count that ends at the third hole, as theorems about the definitions.
use Rattle.std.specs.Prelude.{◌≡◌, Bool, cond, List, ℕ, ◌+◌, ◌*◌, ◌<◌, eqb, length, get_or}
use Rattle.answer.specs.Values.{passes}
use Rattle.shape.specs.declared.Shape.{Shape}
use Rattle.shape.specs.declared.Line.{Line}
use Rattle.shape.specs.Shapes.{line_of}
use Rattle.stopping.specs.Stopping.{on_line}
use Rattle.erasures.specs.Scan.{UpToThird, found, places_read, scanned, scan_of}

-- "how many holes, at most 3, and how many places it read: up to and with its third hole, or the whole line": the two functions are these two
-- numbers, and there are no others.
unfoldable pub ReadUpToThird : Type 0
ReadUpToThird =
    (M : ℕ → Bool) (first stride len : ℕ) →
    UpToThird M first stride len (found M first stride len) (places_read M first stride len)
    × ((n read : ℕ) → UpToThird M first stride len n read → (n ≡ found M first stride len) × (read ≡ places_read M first stride len))

-- what is decided by none, one, two, or more
unfoldable pub by_holes : {A : Type 0} → A → A → A → A → ℕ → A
by_holes none one two more n = cond (eqb n 0) none (cond (eqb n 1) one (cond (eqb n 2) two more))

-- "All other answers are the same for every cube": whatever is decided by none, one or two, or more holes is decided alike by the count that
-- ends at the third and by the count of the whole line.
unfoldable pub SameDecisions : Type 1
SameDecisions =
    (A : Type 0) (none one two more : A) (M : ℕ → Bool) (first stride len : ℕ) →
    by_holes none one two more (found M first stride len) ≡ by_holes none one two more (on_line M first stride len)

-- Places behind those read do not matter: of two sets that agree on them the same is found, in the same places.
unfoldable pub BehindNotRead : Type 0
BehindNotRead =
    (M N : ℕ → Bool) (first stride len : ℕ) →
    ((k : ℕ) → k < places_read M first stride len → M (first + stride * k) ≡ N (first + stride * k)) →
    (found M first stride len ≡ found N first stride len) × (places_read M first stride len ≡ places_read N first stride len)

-- So the call answers alike to flags that agree on them, whatever the others are.
unfoldable pub AnswersAlike : Type 0
AnswersAlike =
    (fs gs : List ℕ) (sh : Shape) (axis m : ℕ) (l : Line) → length fs ≡ length gs → line_of sh axis m ≡ passes l →
    ((k : ℕ) → k < (scanned fs l).read → get_or fs (l.first + l.stride * k) 0 ≡ get_or gs (l.first + l.stride * k) 0) →
    scan_of fs sh axis m ≡ scan_of gs sh axis m
