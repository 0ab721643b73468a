-- A span as the list that it is: byte after byte, and its length.
use mathlib.Core.Path.{◌≡◌, ◌∙◌}
use mathlib.Core.List.{List}
use Prim.Native.Nat.{ℕ, ◌+◌, ◌≤◌, ◌<◌}
use native.Mathlib.Omega.{arith}
use lib.ListN.{length, get_or, take, drop, length-drop}
use lib.Seq.{length-take-le, get_or-take, get_or-drop}

pub part-byte : (xs : List ℕ) (at n i : ℕ) → i < n → get_or (take n (drop at xs)) i 0 ≡ get_or xs (at + i) 0
part-byte xs at n i less = get_or-take n (drop at xs) i 0 less ∙ get_or-drop at xs i 0

pub part-length : (xs : List ℕ) (at n : ℕ) → at + n ≤ length xs → length (take n (drop at xs)) ≡ n
part-length xs at n inside = length-take-le n (drop at xs) (omega (arith, length-drop at xs))
