-- The count that ends at the third erasure (request P2): what it finds, which places it reads, and what follows.
use mathlib.Core.Path.{◌≡◌, sym, ap, ap₂, ◌∙◌, subst}
use mathlib.Core.Bool.{Bool, true}
use Prim.Native.Nat.{ℕ, ◌+◌, ◌*◌, ◌≤◌, ◌<◌}
use native.Mathlib.Numerals.{add-one}
use native.Mathlib.Decide.{dec_lt}
use native.Mathlib.Omega.{arith}
use borrow.Author.Tests.{lt-ltb, le-ltb, ne_eqb}
use lib.Dec.{eqb, ltb}
use lib.ListN.{length}
use Rattle.answer.specs.Values.{passes, check, and_then}
use Rattle.shape.specs.Shapes.{cells}
use Rattle.shape.specs.Flags.{missing}
use Rattle.stopping.specs.Stopping.{number, on_line}
use Rattle.stopping.proofs.Number.{number-nil, number_in, number-all, number-cong, number-rest, ranked}
use Rattle.erasures.specs.Scan.{UpToThird, third, whole, found, places_read, scanned, scan_of}
use Rattle.erasures.proofs.Scanning.{line-in, line-longer}
use Rattle.erasures.specs.Theorems.{ReadUpToThird, by_holes, SameDecisions, BehindNotRead, AnswersAlike}

module _ (M : ℕ → Bool) (first stride : ℕ) where
  -- ---- the places read, place after place

  pub read_none : 0 ≡ places_read M first stride 0
  unfolding places_read
  read_none = sym (number-nil _)

  -- a place with fewer than three before it is read
  pub read_more : (n : ℕ) → n ≡ places_read M first stride n → on_line M first stride n < 3 → n + 1 ≡ places_read M first stride (n + 1)
  unfolding places_read
  read_more n e few =
      let one = number_in (λ k. ltb (on_line M first stride k) 3) n (lt-ltb _ 3 few) in
      omega (arith, e, one, ap (number (λ k. ltb (on_line M first stride k) 3)) (add-one n))

  -- and none behind the third
  pub read-ends : (n len : ℕ) → n ≡ places_read M first stride n → 3 ≤ on_line M first stride n → n ≤ len → n ≡ places_read M first stride len
  unfolding places_read
  read-ends n len e three le =
      e ∙ sym (number-rest _ n len le (λ k l m. le-ltb (on_line M first stride k) 3 (omega (arith, three, line-longer M first stride n k l))))

  read_all : (n : ℕ) → ((k : ℕ) → k < n → on_line M first stride k < 3) → n ≡ places_read M first stride n
  unfolding places_read
  read_all n h = sym (number-all _ n (λ k l. lt-ltb _ 3 (h k l)))

  -- ---- the two numbers are the request's, and no others

  third-read : (len k : ℕ) → k < len → M (first + stride * k) ≡ true → on_line M first stride k ≡ 2 → k + 1 ≡ places_read M first stride len
  third-read len k l e two =
      read-ends (k + 1) len (read_all (k + 1) (λ i m. omega (arith, two, line-longer M first stride i k (omega arith)))) (omega (arith, two, line-in M first stride k e)) (omega arith)

  whole-read : (len : ℕ) → on_line M first stride len ≤ 2 → len ≡ places_read M first stride len
  whole-read len few = read_all len (λ k l. omega (arith, few, line-longer M first stride k len (omega arith)))

  found-third : (len k : ℕ) → k < len → M (first + stride * k) ≡ true → on_line M first stride k ≡ 2 → 3 ≡ found M first stride len
  found-third len k l e two = omega (arith, two, line-in M first stride k e, line-longer M first stride (k + 1) len (omega arith))

  pub one-reading : (len n read : ℕ) → UpToThird M first stride len n read → (n ≡ found M first stride len) × (read ≡ places_read M first stride len)
  one-reading len _ _ (third k l e two) = (found-third len k l e two, third-read len k l e two)
  one-reading len _ _ (whole few) = (omega (arith, few), whole-read len few)

  a-third : (len : ℕ) → 2 < on_line M first stride len → (k : ℕ) × (k < len) × (M (first + stride * k) ≡ true) × (on_line M first stride k ≡ 2)
  unfolding on_line
  a-third len l = ranked (λ i. M (first + stride * i)) len 2 l

  pub reading : (len : ℕ) → UpToThird M first stride len (found M first stride len) (places_read M first stride len)
  reading len =
      elim (dec_lt 2 (on_line M first stride len)) [
        | yes l ↦
            let (k, b, e, two) = a-third len l in
            at (found-third len k b e two) (third-read len k b e two) (third k b e two)
        | no n ↦
            let few : on_line M first stride len ≤ 2 = omega arith in
            at (omega (arith, few)) (whole-read len few) (whole few)
      ]
    where
      at : {n m read s : ℕ} → n ≡ m → read ≡ s → UpToThird M first stride len n read → UpToThird M first stride len m s
      at {n} {m} {read} {s} e f u = rw (sym e, sym f) u

-- ---- what follows

by-holes-more : {A : Type 0} (none one two more : A) (n : ℕ) → 3 ≤ n → by_holes none one two more n ≡ more
unfolding by_holes
by-holes-more none one two more n l = rw (ne_eqb n 0 (omega arith), ne_eqb n 1 (omega arith), ne_eqb n 2 (omega arith))

pub same-decisions : SameDecisions
unfolding SameDecisions
same-decisions A none one two more M first stride len =
    elim (dec_lt 2 (on_line M first stride len)) [
      | yes l ↦
          by-holes-more none one two more (found M first stride len) (omega (arith, l))
          ∙ sym (by-holes-more none one two more (on_line M first stride len) l)
      | no n ↦ ap (by_holes none one two more) (omega arith)
    ]

-- a set that agrees on the places read is read alike
agreeing : (M N : ℕ → Bool) (first stride len : ℕ) (n read : ℕ) → UpToThird M first stride len n read
    → ((k : ℕ) → k < read → M (first + stride * k) ≡ N (first + stride * k)) → UpToThird N first stride len n read
unfolding on_line
agreeing M N first stride len _ _ (third k l e two) same =
    third k l (sym (same k (omega arith)) ∙ e) (sym (number-cong _ _ k (λ i m. same i (omega arith))) ∙ two)
agreeing M N first stride len _ _ (whole few) same =
    let alike = number-cong (λ i. M (first + stride * i)) (λ i. N (first + stride * i)) len same in
    subst (λ n. UpToThird N first stride len n len) (sym alike) (whole (omega (arith, few, alike)))

pub read-up-to-third : ReadUpToThird
unfolding ReadUpToThird
read-up-to-third M first stride len = (reading M first stride len, one-reading M first stride len)

pub behind-not-read : BehindNotRead
unfolding BehindNotRead
behind-not-read M N first stride len same =
    one-reading N first stride len _ _ (agreeing M N first stride len _ _ (reading M first stride len) same)

pub answers-alike : AnswersAlike
unfolding AnswersAlike BehindNotRead scan_of scanned and_then missing
answers-alike fs gs sh axis m l size line same =
    let (n, read) =
    behind-not-read (missing fs) (missing gs) l.first l.stride l.len (λ k less. ap (λ (f : ℕ). eqb f 1) (same k less)) in
    rw (line, size) (ap₂ (λ (e r : ℕ). check (eqb (length gs) (cells sh)) 4 (passes (record { erasures = e; read = r }))) n read)
