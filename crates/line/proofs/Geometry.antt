-- Where the bytes of a run stand: when it lies inside a list, and that its lines and places do not meet.
use mathlib.Core.Path.{◌≡◌}
use mathlib.Core.Logic.{◌⊎◌, ◌≢◌, inl, inr}
use Prim.Native.Nat.{ℕ, suc, ◌+◌, ◌-◌, ◌*◌, ◌/◌, ◌≤◌, ◌<◌}
use native.Mathlib.Nat.{mul-zero, mul-suc, mul-le-mul_left, le-div_iff_mul-le}
use native.Mathlib.Decide.{dec_lt, dec_le}
use native.Mathlib.Omega.{arith}
use Rattle.line.specs.declared.Run.{Run}
use Rattle.line.specs.Run.{Inside, Off}

-- ---- inside a list

-- all places of a run lie inside when its last one does
pub inside-last :
    (run : Run) (n : ℕ) → 0 < run.len → run.len ≤ 255 → run.width ≤ run.stride →
    run.first + run.stride * (run.len - 1) + run.width ≤ n → Inside run n
inside-last run n some few apart last =
    record {
      some_place = some;
      few_places = few;
      apart = apart;
      fits = λ i h. omega (arith, mul-le-mul_left {m = i} {n = run.len - 1} run.stride (omega arith));
    }

-- the first place of a run that lies inside
pub inside-first : (run : Run) (n : ℕ) → Inside run n → run.first + run.width ≤ n
inside-first run n h = omega (arith, h.fits 0 h.some_place, mul-zero run.stride)

-- the test by a quotient
pub inside-quotient :
    (run : Run) (n : ℕ) → 1 < run.len → run.first + run.width ≤ n →
    run.stride ≤ (n - run.width - run.first) / (run.len - 1) →
    run.first + run.stride * (run.len - 1) + run.width ≤ n
inside-quotient run n some first q =
    omega (arith, (le-div_iff_mul-le {k = run.len - 1} {x = run.stride} {y = n - run.width - run.first} (omega arith)).0 q)

pub quotient-inside :
    (run : Run) (n : ℕ) → 1 < run.len → Inside run n → run.stride ≤ (n - run.width - run.first) / (run.len - 1)
quotient-inside run n some h =
    (le-div_iff_mul-le {k = run.len - 1} {x = run.stride} {y = n - run.width - run.first} (omega arith)).1
    (omega (arith, h.fits (run.len - 1) (omega arith)))

-- ---- places do not meet

pub stride-below : (s i j : ℕ) → i < j → s * i + s ≤ s * j
stride-below s i j h = omega (arith, mul-suc s i, mul-le-mul_left {m = suc i} {n = j} s h)

-- a byte of one place is none of another's
pub off-place :
    (run : Run) (i j t : ℕ) → run.width ≤ run.stride → t < run.stride → i ≢ j →
    Off run j (run.first + run.stride * i + t)
unfolding Off
off-place run i j t apart h ne =
    elim (dec_lt i j) [
      | yes l ↦ inl (omega (arith, stride-below run.stride i j l))
      | no l ↦ inr (omega (arith, stride-below run.stride j i (omega arith)))
    ]

-- off a place, by a width that is the run's
pub off-width :
    (run : Run) (i p w : ℕ) → w ≡ run.width → Off run i p →
    (p < run.first + run.stride * i) ⊎ (run.first + run.stride * i + w ≤ p)
unfolding Off
off-width run i p w e o = rw e o

-- a byte that is none of a place's is off it
pub off-of-ne :
    (run : Run) (i p : ℕ) → ((t : ℕ) → t < run.width → p ≢ run.first + run.stride * i + t) → Off run i p
unfolding Off
off-of-ne run i p h =
    elim (dec_lt p (run.first + run.stride * i)) [
      | yes l ↦ inl l
      | no m ↦
          elim (dec_le (run.first + run.stride * i + run.width) p) [
            | yes l ↦ inr l
            | no q ↦ absurd (h (p - (run.first + run.stride * i)) (omega arith) (omega arith))
          ]
    ]
