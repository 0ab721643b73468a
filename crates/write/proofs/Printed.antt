-- From what was put into the output to what Write prints.
use mathlib.Core.Path.{◌≡◌, sym, ap, ◌∙◌}
use mathlib.Core.List.{List, ◌++◌}
use Prim.Native.Nat.{ℕ, ◌*◌, ◌≤◌, ◌<◌}
use native.Mathlib.Omega.{arith}
use lib.ListN.{length, take, drop, length-append}
use lib.Seq.{take_at, length-take-le}
use borrow.Author.Tests.{eq-eqb}
use Rattle.io.specs.Counts.{IsPrefixLen}
use Rattle.field.specs.Field.{reduction}
use Rattle.answer.specs.declared.Refusal.{Refusal}
use Rattle.answer.specs.Values.{Value, passes, check, and_then, checked, refusal, number_of}
use Rattle.answer.proofs.Values.{passes-fails, checked-fails}
use Rattle.shape.specs.Shapes.{cells, sizes}
use Rattle.shape.proofs.Valid.{both_true}
use Rattle.pack.specs.declared.Header.{Header}
use Rattle.pack.specs.declared.Section.{Section}
use Rattle.pack.specs.Packs.{pack_size}
use Rattle.pack.specs.Reading.{job_of}
use Rattle.pack.proofs.Sound.{job-sound}
use Rattle.writer.specs.Write.{write_checked, WriteOutcome, write_refused, write_done}
use Rattle.printing.specs.Text.{ascii, refused_line, too_big_line}
use Rattle.printing.specs.Append.{Appended}
use Rattle.printing.proofs.Appending.{append-whole}
use Rattle.printing.proofs.Numerals.{length-refused_line}
use Rattle.write.specs.Prints.{Prints, input_too_big, input_refused, cube_too_big, pack_too_big, pack}

-- ---- a line

module _ (p out after : List ℕ) (end : ℕ) (size : length out ≡ 65536) where
  line-printed : (t : List ℕ) → length t ≤ 64 → Appended out 0 t after end → Prints p t → IsPrefixLen end after × Prints p (take end after)
  line-printed t h a q =
      let (counts, whole) = append-whole out t after end (omega arith) a in
      (counts, rw whole q)

  pub input-too-big-printed : Appended out 0 (ascii "too big\n") after end → 65536 < length p → IsPrefixLen end after × Prints p (take end after)
  unfolding too_big_line
  input-too-big-printed a h = line-printed (ascii "too big\n") (omega arith) a (input_too_big h)

  module _ (short : length p ≤ 65536) where
    -- the number of a refusal by the checks
    pub refused-printed : (f : Refusal) (n : ℕ) → Appended out 0 (refused_line n) after end → n ≡ number_of {A = Unit} (refusal f)
        → refusal f ≡ checked (job_of p) → IsPrefixLen end after × Prints p (take end after)
    unfolding number_of
    refused-printed f n a e c =
        let (m, failed, value) = checked-fails {B = Unit} (job_of p) f c in
        let same : n ≡ m = e ∙ ap number_of value in
        line-printed (refused_line n) (omega (arith, length-refused_line n)) a (rw same (input_refused m short failed))

    module _ (h : Header) (s : Section) (job : job_of p ≡ passes (h, s)) (a : Appended out 0 (ascii "too big\n") after end) where
      pub cube-too-big-printed : 65536 < h.sizes.bytes → IsPrefixLen end after × Prints p (take end after)
      unfolding too_big_line sizes
      cube-too-big-printed l =
          let big : 65536 < h.shape.w * cells h.shape = rw (job-sound p h s job).header.measured at l in
          line-printed (ascii "too big\n") (omega arith) a (cube_too_big h s short job big)

      pub pack-too-big-printed : 65536 < pack_size h → IsPrefixLen end after × Prints p (take end after)
      unfolding too_big_line
      pack-too-big-printed l = line-printed (ascii "too big\n") (omega arith) a (pack_too_big h s short job l)

-- ---- the pack

module _ (p : List ℕ) (h : Header) (s : Section) (job : job_of p ≡ passes (h, s)) (short : length p ≤ 65536) (cube : h.sizes.bytes ≤ 65536) where
  -- with exact lengths nothing is refused
  written-prints : (xs out xs' out' : List ℕ) {v : Value Unit} → pack_size h ≤ 65536 → length xs ≡ h.sizes.bytes → length out ≡ pack_size h
      → WriteOutcome reduction p xs out xs' out' v → Prints p out'
  unfolding write_checked and_then check sizes
  written-prints xs out xs' out' fits bytes output (write_refused n refused _ _) =
      let done : write_checked p (length xs) (length out) ≡ passes (h, s)
      = rw (job, both_true _ _ (eq-eqb (length xs) _ bytes) (eq-eqb (length out) _ output)) in
      absurd (passes-fails (h, s) n (sym done ∙ refused))
  written-prints xs out xs' out' fits bytes output (write_done g t checks w) =
      let small : h.shape.w * cells h.shape ≤ 65536 = rw (job-sound p h s job).header.measured at cube in
      pack h s short job small fits xs out xs' out' (write_done g t checks w)

  pub pack-printed : (xs out xs' out' : List ℕ) (size : ℕ) {v : Value Unit} → length xs ≡ 65536 → length out ≡ 65536 → size ≡ pack_size h
      → size ≤ 65536 → length out' ≡ length (take size out) → WriteOutcome reduction p (take h.sizes.bytes xs) (take size out) xs' out' v
      → IsPrefixLen size (out' ++ drop size out) × Prints p (take size (out' ++ drop size out))
  pack-printed xs out xs' out' size whole room e fits kept o =
      let m : length (take size out) ≡ size = length-take-le size out (omega arith) in
      let k : length (take h.sizes.bytes xs) ≡ h.sizes.bytes = length-take-le _ xs (omega arith) in
      let part : take size (out' ++ drop size out) ≡ out' = take_at out' (drop size out) size (kept ∙ m) in (
        (omega (arith, length-append out' (drop size out)), sym (ap length part ∙ kept ∙ m)),
        rw part (written-prints (take h.sizes.bytes xs) (take size out) xs' out' (omega arith) k (m ∙ e) o),
      )
