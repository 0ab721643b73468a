-- A run moved by so many bytes: which lines it has, and where they lie inside.
use mathlib.Core.Path.{◌≡◌, sym, ap, subst, fun_ext, ◌∙◌}
use mathlib.Core.List.{List}
use Prim.Native.Nat.{ℕ, ◌+◌, ◌-◌, ◌*◌, ◌≤◌, ◌<◌}
use native.Mathlib.Nat.{mul-add, mul-le-mul_left, add_assoc}
use native.Mathlib.Decide.{dec_lt}
use native.Mathlib.Omega.{arith}
use lib.ListN.{length, get_or}
use Rattle.line.specs.declared.Run.{Run}
use Rattle.line.specs.Run.{line_at, Inside}
use Rattle.rows.specs.Rows.{behind, AllRows}
use Rattle.rows.specs.Inner.{lane, Within, LanesRight, RowsRight}

pub behind-twice : (run : Run) (a b : ℕ) → behind (behind run a) b ≡ behind run (a + b)
unfolding behind
behind-twice run a b =
    ap (λ (f : ℕ). record { first = f; stride = run.stride; len = run.len; width = run.width }) (add_assoc run.first a b)

-- row q of the rows from row `from` on is row from + q
pub behind-rows : (run : Run) (gap from q : ℕ) → behind (behind run (gap * from)) (gap * q) ≡ behind run (gap * (from + q))
behind-rows run gap from q =
    behind-twice run (gap * from) (gap * q) ∙ ap (behind run) (sym (mul-add gap from q))

-- ---- where rows lie

pub gaps-below : (gap a b : ℕ) → a ≤ b → gap * a ≤ gap * b
gaps-below gap a b h = mul-le-mul_left {m = a} {n = b} gap h

-- a row before one that lies inside
pub inside-before : (run : Run) (gap n last q : ℕ) → Inside (behind run (gap * last)) n → q ≤ last → Inside (behind run (gap * q)) n
unfolding behind
inside-before run gap n last q h le =
    record {
      some_place = h.some_place;
      few_places = h.few_places;
      apart = h.apart;
      fits = λ i l. omega (arith, h.fits i l, gaps-below gap q last le);
    }

-- the last of 64 rows from row `from` on
pub inside-strip : (run : Run) (gap n count from : ℕ) → Inside (behind run (gap * (count - 1))) n → from + 64 ≤ count
    → Inside (behind (behind run (gap * from)) (gap * 63)) n
inside-strip run gap n count from h le =
    subst (λ (x : Run). Inside x n) (sym (behind-rows run gap from 63)) (inside-before run gap n (count - 1) (from + 63) h (omega arith))

-- byte t of the rows' width
pub within-lanes : (run : Run) (gap n t : ℕ) → Inside (behind run (gap * 63)) n → t < run.width → Within (behind run t) gap n
unfolding behind
within-lanes run gap n t h l i below = omega (arith, h.fits i below)

-- a row begins inside
pub row-begins : (run : Run) (gap n q : ℕ) → Inside (behind run (gap * q)) n → run.first + gap * q + run.width ≤ n
unfolding behind
row-begins run gap n q h = omega (arith, h.fits 0 h.some_place)

-- ---- which lines they have

pub lane-line : (s : List ℕ) (run : Run) (gap q t : ℕ) → lane s (behind run t) gap q ≡ line_at s (behind run (gap * q)) t
unfolding lane line_at behind
lane-line s run gap q t = fun_ext (λ i. ap (λ (p : ℕ). get_or s p 0) (omega arith))

module _ (r : ℕ) (run : Run) (gap : ℕ) (s : List ℕ) where
  -- 64 rows of more
  pub rows-strip : (from count : ℕ) → from + 64 ≤ count → RowsRight r run gap 0 count s → RowsRight r (behind run (gap * from)) gap 0 64 s
  unfolding behind
  rows-strip from count le h q low below t l =
      rw (behind-rows run gap from q) (h (from + q) (omega arith) (omega arith) t l)

  -- 64 rows behind others, and perhaps over some of them
  pub rows_more : (done from count : ℕ) → from ≤ done → count ≤ from + 64 → RowsRight r run gap 0 done s →
      RowsRight r (behind run (gap * from)) gap 0 64 s → RowsRight r run gap 0 count s
  unfolding behind
  rows_more done from count le end before here q low below t l =
      elim (dec_lt q done) [
        | yes d ↦ before q low d t l
        | no d ↦
            let (k, e) = split q from (omega arith) in
            rw (e, sym (behind-rows run gap from k)) (here k (omega arith) (omega arith) t l)
      ]
    where
      split : (q from : ℕ) → from ≤ q → (k : ℕ) × (q ≡ from + k)
      split q from h = (q - from, omega arith)

  -- the rows of a whole that lie inside
  pub rows_all : (count : ℕ) → Inside (behind run (gap * (count - 1))) (length s) → RowsRight r run gap 0 count s → AllRows r run gap count s
  unfolding behind
  rows_all count h right q below =
      record { inside = inside-before run gap (length s) (count - 1) q h (omega arith); lines = right q (omega arith) below }

  pub all-rows : (count : ℕ) → AllRows r run gap count s → RowsRight r run gap 0 count s
  unfolding behind
  all-rows count all q low below t l = (all q below).lines t l

  -- byte by byte of the rows' width
  pub lanes-rows : ((t : ℕ) → t < run.width → LanesRight r (behind run t) gap s) → RowsRight r run gap 0 64 s
  unfolding behind
  lanes-rows h q low below t l = rw (sym (lane-line s run gap q t)) (h t l q below)

  pub rows-lanes : (t : ℕ) → t < run.width → RowsRight r run gap 0 64 s → LanesRight r (behind run t) gap s
  unfolding behind
  rows-lanes t l h u below = rw (lane-line s run gap u t) (h u (omega arith) below t l)
