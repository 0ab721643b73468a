-- The pieces of an output, one behind the other, are the whole output: each is the run of texts behind those before it.
use mathlib.Core.Path.{◌≡◌, sym, ap₂, ◌∙◌}
use mathlib.Core.List.{List, ◌++◌, append_assoc, append-nil}
use Prim.Native.Nat.{ℕ, zero, suc, ◌+◌, ◌-◌, ◌*◌, ◌/◌, ◌≤◌, ◌<◌, min}
use native.Mathlib.Nat.{zero-add, add_comm, min-zero, min_comm, min-eq_left, min-eq_right, add-min-add_right}
use native.Mathlib.Numerals.{one-add}
use native.Mathlib.Omega.{arith}
use Rattle.receive.specs.declared.receiving.Outcome.{Outcome}
use Rattle.receive.specs.Printed.{opening_lines, joined, texts, text_of, printed}
use Rattle.receive.specs.Pieces.{piece, pieces, PiecesJoined}
use Rattle.receive.proofs.Joining.{joined-pieces}

-- the run behind j whole runs ends where n or j + 1 whole runs do
run_end : (n j : ℕ) → 512 * j ≤ n → min n (512 * suc j) ≡ 512 * j + min 512 (n - 512 * j)
run_end n j h =
    let all : 512 * suc j ≡ 512 + 512 * j = omega arith in
    let rest : n ≡ n - 512 * j + 512 * j = omega arith in
    min_comm n (512 * suc j) ∙ ap₂ min all rest ∙ add-min-add_right 512 (n - 512 * j) (512 * j) ∙ add_comm (min 512 (n - 512 * j)) (512 * j)

-- a later piece begins with a text that there is
pub run-begins : (o : Outcome) (k : ℕ) → 0 < k → k < pieces o → 512 * (k - 1) < texts o
unfolding pieces
run-begins o k h l = omega arith

module _ (fs bs : List ℕ) (o : Outcome) where
  pub piece-run : (k : ℕ) → 0 < k → piece fs bs o k ≡ joined (text_of fs bs o) (512 * (k - 1)) (min 512 (texts o - 512 * (k - 1)))
  unfolding piece
  piece-run zero h = absurd (omega arith)
  piece-run (suc k) h = let e : suc k - 1 ≡ k = omega arith in rw e

  first_pieces : (j : ℕ) → 512 * j < texts o + 512
      → joined (piece fs bs o) 0 (suc j) ≡ opening_lines o ++ joined (text_of fs bs o) 0 (min (texts o) (512 * j))
  unfolding joined piece
  first_pieces zero h = rw (min-zero (texts o)) (sym (append-nil (opening_lines o)))
  first_pieces (suc j) h =
      let n = texts o in
      let text = text_of fs bs o in
      let done : 512 * j ≤ n = omega arith in
      let whole : min n (512 * j) ≡ 512 * j = min-eq_right done in
      rw
      (zero-add (suc j), first_pieces j (omega arith), whole, run_end n j done, joined-pieces text 0 (512 * j) (min 512 (n - 512 * j)), zero-add (512 * j), append_assoc (opening_lines o) (joined text 0 (512 * j)) (joined text (512 * j) (min 512 (n - 512 * j))))

pub pieces-joined : PiecesJoined
unfolding PiecesJoined pieces printed
pieces-joined fs bs o =
    let n = texts o in
    let all : min n (512 * ((n + 511) / 512)) ≡ n = min-eq_left (omega arith) in
    rw (one-add ((n + 511) / 512)) (rw all at (first_pieces fs bs o ((n + 511) / 512) (omega arith)))
