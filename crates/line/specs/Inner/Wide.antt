-- Horner's rule for lines side by side, one place or four places a pass: what the functions of `wide` owe one another.
use Rattle.std.specs.Prelude.{◌≡◌, List, ℕ, ◌+◌, ◌-◌, ◌≤◌, ◌<◌, length, get_or}
use Rattle.line.specs.declared.Run.{Run}
use Rattle.line.specs.Line.{syndrome0, syndrome1}
use Rattle.line.specs.Run.{line_at}
use Rattle.field.specs.Field.{add, xtime}

-- the syndromes of the line c of length n from the place `left` on
unfoldable pub tail0 : (ℕ → ℕ) → ℕ → ℕ → ℕ
tail0 c n left = syndrome0 (λ i. c (left + i)) (n - left)

unfoldable pub tail1 : ℕ → (ℕ → ℕ) → ℕ → ℕ → ℕ
tail1 r c n left = syndrome1 r (λ i. c (left + i)) (n - left)

-- There is room for the syndromes of n lines, and the run has no more. The kernels have room for at most 4096.
pub record Room (run : Run) (n : ℕ) : Type 0 where
  pub lines : run.width ≤ n
  pub small : n ≤ 4096

-- a list with room for n bytes, which are 0
pub record Empty (n : ℕ) (l : List ℕ) : Type 0 where
  pub room : n ≤ length l
  pub zero : (t : ℕ) → t < n → get_or l t 0 ≡ 0

-- s0 and s1 have room for the run's lines and hold their syndromes from the place `left` on.
pub record Tails (r : ℕ) (run : Run) (left : ℕ) (s s0 s1 : List ℕ) : Type 0 where
  pub room0 : run.width ≤ length s0
  pub room1 : run.width ≤ length s1
  pub first : (t : ℕ) → t < run.width → get_or s0 t 0 ≡ tail0 (line_at s run t) run.len left
  pub second : (t : ℕ) → t < run.width → get_or s1 t 0 ≡ tail1 r (line_at s run t) run.len left

-- Horner's step by the place `left`, for each line: what it makes of the bytes a0 and a1.
pub record One (r : ℕ) (run : Run) (left : ℕ) (s a0 a1 b0 b1 : List ℕ) : Type 0 where
  pub size0 : length b0 ≡ length a0
  pub size1 : length b1 ≡ length a1
  pub first :
      (t : ℕ) → t < run.width → get_or b0 t 0 ≡ add (get_or a0 t 0) (line_at s run t left)
  pub second :
      (t : ℕ) → t < run.width → get_or b1 t 0 ≡ add (xtime r (get_or a1 t 0)) (line_at s run t left)

-- Horner's steps by the four places from `left` on, the farthest first.
unfoldable pub horner0 : (ℕ → ℕ) → ℕ → ℕ → ℕ
horner0 c left a =
    add (add (add (add a (c (left + 3))) (c (left + 2))) (c (left + 1))) (c left)

unfoldable pub horner1 : ℕ → (ℕ → ℕ) → ℕ → ℕ → ℕ
horner1 r c left a =
    add
    (xtime r
    (add
    (xtime r (add (xtime r (add (xtime r a) (c (left + 3)))) (c (left + 2))))
    (c (left + 1))))
    (c left)

pub record Four (r : ℕ) (run : Run) (left : ℕ) (s a0 a1 b0 b1 : List ℕ) : Type 0 where
  pub size0 : length b0 ≡ length a0
  pub size1 : length b1 ≡ length a1
  pub first :
      (t : ℕ) → t < run.width → get_or b0 t 0 ≡ horner0 (line_at s run t) left (get_or a0 t 0)
  pub second :
      (t : ℕ) → t < run.width → get_or b1 t 0 ≡ horner1 r (line_at s run t) left (get_or a1 t 0)
