-- A plan is broken within its first 2^45 bytes: up to there its entries ascend, and so are few.
use Prim.Native.Nat.{ℕ, ◌+◌, ◌*◌, ◌^◌, ◌≤◌, ◌<◌}
use native.Mathlib.Omega.{arith}
use Rattle.plan_form.specs.Entries.{Bytes}
use Rattle.plan_form.specs.Form.{Plan, Part, closure_count, closure, fibre_count, fibre, splice_count, splice, start, plan_end, Has, Rule, SoundBefore, Broken, part_broken, left_over}
use Rattle.plan_form.proofs.Few.{closures-few, fibres-few, splices-few}

module _ (P : Plan) (len : ℕ) (small : Bytes P.closures.bytes) (small' : Bytes P.fibres.bytes) where
  abbrev c : ℕ
  c = P.counts.closures

  abbrev n : ℕ
  n = P.counts.fibres

  -- the entries of each section that begin before a byte
  closures-before : (k : ℕ) → k ≤ c → SoundBefore P len (4 + 2 * k) → k ≤ 65536
  unfolding start Has Rule
  closures-before k most before = closures-few P.closures small k (λ j l. (before (closure j) (omega arith) (omega arith)).kept)

  fibres-before : (k : ℕ) → k ≤ n → SoundBefore P len (8 + 2 * c + 4 * k) → (c ≤ 65536) × (k < 4294967296)
  unfolding start Has Rule
  fibres-before k most before = (
    closures-before c (omega arith) (λ part has l. before part has (omega arith)),
    fibres-few P.closures c P.fibres small' k (λ j l. (before (fibre j) (omega arith) (omega arith)).kept),
  )

  splices-before : (k : ℕ) → k ≤ P.counts.splices → SoundBefore P len (12 + 2 * c + 4 * n + 8 * k) → (c ≤ 65536) × (n < 4294967296) × (k ≤ n)
  unfolding start Has Rule
  splices-before k most before =
      let (closures, fibres) = fibres-before n (omega arith) (λ part has l. before part has (omega arith)) in
      (closures, fibres, splices-few P.fibres n P.splices k (λ j l. (before (splice j) (omega arith) (omega arith)).kept))

  part-lt : (part : Part) → Has P.counts part → SoundBefore P len (start P.counts part) → start P.counts part < 2 ^ 45
  unfolding start Has
  part-lt closure_count has before = omega arith
  part-lt (closure k) has before = omega (arith, closures-before k (omega arith) before)
  part-lt fibre_count has before = omega (arith, closures-before c (omega arith) before)
  part-lt (fibre k) has before = omega (arith, fibres-before k (omega arith) before)
  part-lt splice_count has before = omega (arith, fibres-before n (omega arith) before)
  part-lt (splice k) has before = omega (arith, splices-before k (omega arith) before)

  pub broken-lt : {at : ℕ} → Broken P len at → at < 2 ^ 45
  unfolding plan_end
  broken-lt (part_broken part has _ before) = part-lt part has before
  broken-lt (left_over sound _) = omega (arith, splices-before P.counts.splices (omega arith) (λ part has _. sound part has))
