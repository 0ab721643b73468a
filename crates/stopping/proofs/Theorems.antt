-- The theorems of specs/Theorems.antt, from the laws of this crate.
use Rattle.stopping.specs.Theorems.{StuckSize, LargestExists, LargestUnique, LargestSize, LargestUnion}
use Rattle.stopping.proofs.Stopping.{largest-unique, largest_size, size-largest, largest-union}
use Rattle.stopping.proofs.Cube.{stopping-27, stopping-data}
use Rattle.stopping.proofs.Peeling.{has}
use Rattle.stopping.proofs.CubeLines.{cube_largest, cube-largest}

pub stuck-size : StuckSize
unfolding StuckSize
stuck-size sh M S u n l e =
    let (a, b, c, la, lb, lc, f) = stopping-data u n l e in
    (stopping-27 u n l e, record { a = a; b = b; c = c; first = la; second = lb; third = lc; member = f })

pub largest-exists : LargestExists
unfolding LargestExists
largest-exists sh M = (has (cube_largest sh M), cube-largest sh M)

pub largest-is-unique : LargestUnique
unfolding LargestUnique
largest-is-unique sh M K K' u v = largest-unique u v

pub largest-in-size : LargestSize
unfolding LargestSize
largest-in-size sh M K u = (λ k S v. largest_size k v, size-largest u)

pub largest-is-union : LargestUnion
unfolding LargestUnion
largest-is-union sh M K u n l = largest-union u n l
