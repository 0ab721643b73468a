-- The steps of reading: what a count or a section that was read, or was cut, makes of the checks behind it.
use mathlib.Core.Path.{◌≡◌, refl, sym, ap, ◌∙◌}
use mathlib.Core.Bool.{Bool, true, false}
use mathlib.Core.List.{List}
use Prim.Native.Nat.{ℕ, ◌+◌, ◌^◌, ◌≤◌, ◌<◌}
use native.Mathlib.Omega.{arith}
use lib.Dec.{leb}
use lib.ListN.{length, get_or}
use borrow.Author.Tests.{le-leb, lt-leb, leb-true, leb-false}
use Rattle.std.specs.Prelude.{Result, Ok, Err}
use Rattle.answer.specs.declared.Fault.TheVariants.{Truncated}
use Rattle.answer.specs.declared.Refusal.{Refusal}
use Rattle.answer.specs.declared.Refusal.TheVariants.{Plain}
use Rattle.answer.specs.Refusals.{fault_number}
use Rattle.answer.specs.Values.{gives, refused, Checked, passes, fails, check, checked, refusal, value_of}
use Rattle.answer.proofs.Values.{refusal-gives, checked-fails, fails-injective, value-refused}
use Rattle.cursor.specs.declared.Cursor.{Cursor}
use Rattle.cursor.specs.Steps.{word, count, bytes}

-- ---- one row of the table, told by what a call answers that asks nothing else

module _ {A : Type 0} where
  row-given : (b : Bool) (n : ℕ) (a d : A) → gives d ≡ checked (check b n (passes a)) → (b ≡ true) × (d ≡ a)
  unfolding checked check
  row-given true n a d e = (refl, cc)
  row-given false n a d e = let z : ◌≡◌ {A = ℕ} 0 1 = cc in absurd (omega arith)

  row-cut : (b : Bool) (n : ℕ) (a : A) (f : Refusal) → refusal f ≡ checked (check b n (passes a)) → b ≡ false
  unfolding checked check
  row-cut true n a f e = absurd (refusal-gives f a e)
  row-cut false n a f e = refl

-- where it refuses, so do all rows behind it, by the same number
row-refused : {A B : Type 0} (b : Bool) (n : ℕ) (a : A) (next : Checked B) (f : Refusal) → refusal {A = A} f ≡ checked (check b n (passes a))
    → refusal {A = B} f ≡ checked (check b n next)
unfolding checked check
row-refused true n a next f e = absurd (refusal-gives f a e)
row-refused {A} {B} false n a next f e =
    let (m, same, number) = checked-fails {A = A} {B = B} (fails n) f e in
    number ∙ ap refused (sym (fails-injective n m same))

-- ---- a count

-- four bytes stay below 2^32
pub word_lt : (p : List ℕ) (at : ℕ) → ((i : ℕ) → get_or p i 0 < 256) → word p at < 2 ^ 32
unfolding word
word_lt p at small = omega (arith, small at, small (at + 1), small (at + 2), small (at + 3))

pub whole-count : (p : List ℕ) (c : Cursor) (n : ℕ) → c.at + 4 ≤ length p → n ≡ word p c.at
    → value_of {A = ℕ × Cursor} (Ok (n, record { at = c.at + 4 })) ≡ checked (count p c (λ n next. passes (n, next)))
unfolding count check checked value_of
whole-count p c n h e = rw (le-leb (c.at + 4) (length p) h, e)

module _ (p : List ℕ) (c : Cursor) (r : Result (ℕ × Cursor) Refusal) (e : value_of r ≡ checked (count p c (λ n next. passes (n, next)))) where
  -- a count that was read is the word at the cursor, and the next cursor stands behind it
  pub count-known : (n : ℕ) (d : Cursor) → r ≡ Ok (n, d)
      → (c.at + 4 ≤ length p) × (n ≡ word p c.at) × (d ≡ record { at = c.at + 4 })
  unfolding count value_of
  count-known n d q =
      let (b, same) = row-given (leb (c.at + 4) (length p)) 6 (word p c.at, record { at = c.at + 4 }) (n, d) (rw q at e) in
      (leb-true _ _ b, ap (λ (x : ℕ × Cursor). x.0) same, ap (λ (x : ℕ × Cursor). x.1) same)

  pub count-read : (n : ℕ) (d : Cursor) → r ≡ Ok (n, d) → {A : Type 0} (next : ℕ → Cursor → Checked A) → count p c next ≡ next n d
  unfolding count check
  count-read n d q next =
      let (room, same, behind) = count-known n d q in
      rw (le-leb (c.at + 4) (length p) room, ← same, ← behind)

  -- a refusal is that of all rows behind it
  pub count-refused : (f : Refusal) → r ≡ Err f → {A : Type 0} (next : ℕ → Cursor → Checked A) → refusal {A = A} f ≡ checked (count p c next)
  unfolding count
  count-refused f q next = row-refused _ 6 (word p c.at, record { at = c.at + 4 }) _ f (value-refused r _ f e q)

  -- and there is no room for a count
  pub count-short : (f : Refusal) → r ≡ Err f → length p < c.at + 4
  unfolding count
  count-short f q = leb-false (c.at + 4) (length p) (row-cut _ 6 (word p c.at, record { at = c.at + 4 }) f (value-refused r _ f e q))

  -- a count fits four bytes
  pub count-lt : ((i : ℕ) → get_or p i 0 < 256) → (n : ℕ) (d : Cursor) → r ≡ Ok (n, d) → n < 2 ^ 32
  count-lt small n d q = omega (arith, (count-known n d q).1, word_lt p c.at small)

-- ---- the bytes of a section

pub cut-bytes : (p : List ℕ) (c : Cursor) (n : ℕ) → length p < c.at + n
    → value_of {A = ℕ × Cursor} (Err (Plain Truncated)) ≡ checked (bytes p c n (λ at next. passes (at, next)))
unfolding bytes check checked value_of refusal fault_number
cut-bytes p c n h = rw (lt-leb (c.at + n) (length p) h)

pub whole-bytes : (p : List ℕ) (c : Cursor) (n : ℕ) → c.at + n ≤ length p
    → value_of {A = ℕ × Cursor} (Ok (c.at, record { at = c.at + n })) ≡ checked (bytes p c n (λ at next. passes (at, next)))
unfolding bytes check checked value_of
whole-bytes p c n h = rw (le-leb (c.at + n) (length p) h)

module _ (p : List ℕ) (c : Cursor) (n : ℕ) (r : Result (ℕ × Cursor) Refusal) (e : value_of r ≡ checked (bytes p c n (λ at next. passes (at, next)))) where
  pub bytes-known : (at : ℕ) (d : Cursor) → r ≡ Ok (at, d) → (c.at + n ≤ length p) × (at ≡ c.at) × (d ≡ record { at = c.at + n })
  unfolding bytes value_of
  bytes-known at d q =
      let (b, same) = row-given (leb (c.at + n) (length p)) 6 (c.at, record { at = c.at + n }) (at, d) (rw q at e) in
      (leb-true _ _ b, ap (λ (x : ℕ × Cursor). x.0) same, ap (λ (x : ℕ × Cursor). x.1) same)

  pub bytes_read : (at : ℕ) (d : Cursor) → r ≡ Ok (at, d) → {A : Type 0} (next : ℕ → Cursor → Checked A) → bytes p c n next ≡ next at d
  unfolding bytes check
  bytes_read at d q next =
      let (room, same, behind) = bytes-known at d q in
      rw (le-leb (c.at + n) (length p) room, ← behind, ← same)

  pub bytes-refused : (f : Refusal) → r ≡ Err f → {A : Type 0} (next : ℕ → Cursor → Checked A) → refusal {A = A} f ≡ checked (bytes p c n next)
  unfolding bytes
  bytes-refused f q next = row-refused _ 6 (c.at, record { at = c.at + n }) _ f (value-refused r _ f e q)

  -- and there is no room for the bytes
  pub bytes-short : (f : Refusal) → r ≡ Err f → length p < c.at + n
  unfolding bytes
  bytes-short f q = leb-false (c.at + n) (length p) (row-cut _ 6 (c.at, record { at = c.at + n }) f (value-refused r _ f e q))
