-- From the parts to the whole: the data string in the cube, its code cube, and the writer's answer.
use Rattle.std.specs.Prelude.{Ok, Err}
use mathlib.Core.Path.{◌≡◌, refl, ap, ◌∙◌}
use mathlib.Core.Bool.{Bool, true, false}
use mathlib.Core.List.{List}
use Prim.Native.Nat.{ℕ, ◌+◌, ◌-◌, ◌*◌, ◌<◌}
use native.Mathlib.Omega.{arith}
use lib.Dec.{eqb}
use lib.ListN.{length, get_or, take, drop}
use borrow.Author.Tests.{eq-eqb}
use Rattle.answer.specs.declared.Refusal.{Refusal}
use Rattle.answer.specs.Values.{Value, refused, passes, check, and_then, checked, refusal, value_of}
use Rattle.answer.proofs.Values.{refusal-gives, checked-fails, then-refused}
use Rattle.field.specs.Field.{Primitive}
use Rattle.span.specs.Span.{SetTo}
use Rattle.span.proofs.Putting.{copied-put}
use Rattle.shape.specs.Shapes.{both, cells, capacity, sizes}
use Rattle.shape.proofs.Valid.{both_true}
use Rattle.data.specs.Data.{held_data}
use Rattle.data.specs.Calls.{SetOutcome, WriteOutcome as DataOutcome}
use Rattle.data.proofs.Checks.{cube-done-checked, write-done-checked}
use Rattle.data.proofs.HeldData.{length-held_data, held_data-lt}
use Rattle.data.proofs.Writing.{data-built}
use Rattle.data.proofs.Outcomes.{write-works, set-works}
use Rattle.cube.specs.Calls.{CompleteOutcome}
use Rattle.cube.specs.Theorems.{OnlyCodeCube, OneCodeCube}
use Rattle.cube.proofs.Existence.{one-code-cube}
use Rattle.cube.proofs.Outcomes.{complete-works}
use Rattle.cursor.specs.Steps.{word_bytes}
use Rattle.pack.specs.declared.Header.{Header}
use Rattle.pack.specs.declared.Section.{Section}
use Rattle.pack.specs.Packs.{pack_size, data_string}
use Rattle.pack.specs.Reading.{job_of, file_of}
use Rattle.pack.proofs.Sound.{JobSound, HeaderSound, sound-sent}
use Rattle.pack_writer.specs.Writing.{air_checked}
use Rattle.pack_writer.proofs.Outcomes.{air-checks}
use Rattle.pack_writer.proofs.Laying.{part_length}
use Rattle.writer.specs.Write.{write_checked, Written, WriteOutcome, write_refused, write_done}

-- ---- the file in the cube

module _ (job : List ℕ) (h : Header) (file : Section) (sound : JobSound job h file) where
  -- the three calls that lay it find room, so none of them refuses
  pub file-laid : (start one two after : List ℕ) {a b c : Value Unit} → length start ≡ h.shape.w * cells h.shape
      → DataOutcome h.shape (word_bytes file.count) 0 0 4 start one a
      → DataOutcome h.shape job file.at 4 file.count one two b
      → SetOutcome h.shape (4 + file.count) 0 two after c
      → held_data h.shape after ≡ data_string h.shape (file_of job file)
  unfolding data_string file_of word_bytes
  file-laid start one two after size first second third =
      let sh = h.shape in
      let n = file.count in
      let v = sound.header.valid in
      let body : List ℕ = take n (drop file.at job) in
      let (_, head, kept) = write-works (write-done-checked sh (length start) 4 0 0 4 v size (omega (arith, sound.room)) (omega arith)) first in
      let (_, copied, kept') =
      write-works (write-done-checked sh (length one) (length job) file.at 4 n v (kept.size ∙ size) sound.room sound.inside) second in
      let (_, rest, _) = set-works (cube-done-checked sh (length two) v (kept'.size ∙ kept.size ∙ size)) third in
      let count : length body ≡ n = part_length job file.at n sound.inside in
      let zeros : SetTo (held_data sh two) (4 + length body) (capacity sh - (4 + length body)) 0 (held_data sh after) = rw count rest in
      let left : capacity sh - (4 + length body) ≡ capacity sh - 4 - length body = omega arith in
      data-built sh start one two after (word_bytes n) body 0 (omega (arith, sound.room)) head (copied-put sound.inside copied) zeros
      ∙ rw (left, count)

  -- and its code cube
  pub file-encoded : (r : ℕ) (xs after : List ℕ) {v : Value Unit} → Primitive r → length xs ≡ h.shape.w * cells h.shape
      → ((i : ℕ) → get_or xs i 0 < 256) → held_data h.shape xs ≡ data_string h.shape (file_of job file)
      → CompleteOutcome r h.shape xs after v → OnlyCodeCube r h.shape (data_string h.shape (file_of job file)) after
  unfolding OneCodeCube
  file-encoded r xs after p size bytes laid outcome =
      let sh = h.shape in
      let v = sound.header.valid in
      let (_, same) = complete-works (cube-done-checked sh (length xs) v size) outcome in
      rw (same, ← laid) (one-code-cube r p sh v (held_data sh xs) (length-held_data sh xs) (held_data-lt sh xs bytes))

-- ---- the answer

refused-slices : (b : Bool) (f : Refusal) → refusal {A = Unit} f ≡ checked (check b 4 (passes tt)) → (b ≡ false) × (refusal {A = Unit} f ≡ refused 4)
unfolding check checked
refused-slices true f e = absurd (refusal-gives f tt e)
refused-slices false f e = (refl, e)

module _ (r : ℕ) (p xs out : List ℕ) where
  pub unread-job : (f : Refusal) → refusal {A = Header × Section} f ≡ checked (job_of p) → WriteOutcome r p xs out xs out (value_of (Err f))
  unfolding value_of write_checked
  unread-job f e =
      let (n, failed, value) = checked-fails {B = Unit} (write_checked p (length xs) (length out)) f (then-refused (job_of p) _ f e) in
      rw value (write_refused n failed refl refl)

  module _ (h : Header) (file : Section) (e : job_of p ≡ passes (h, file)) (sound : HeaderSound h) where
    checks : (t : Bool) → both (eqb (length xs) (h.shape.w * cells h.shape)) (eqb (length out) (pack_size h)) ≡ t
        → write_checked p (length xs) (length out) ≡ check t 4 (passes (h, file))
    unfolding write_checked and_then sizes
    checks t same =
        let bytes : h.sizes.bytes ≡ h.shape.w * cells h.shape = rw sound.measured refl in
        let told = ap (λ (k : ℕ). both (eqb (length xs) k) (eqb (length out) (pack_size h))) bytes ∙ same in
        rw (e, told) refl

    pub unfit-slices : (f : Refusal) → refusal {A = Unit} f ≡ checked (air_checked h (length xs) (length out))
        → WriteOutcome r p xs out xs out (value_of (Err f))
    unfolding check value_of
    unfit-slices f told =
        let (differ, four) = refused-slices _ f (told ∙ ap checked (air-checks h (length xs) (length out) (sound-sent h sound))) in
        rw four (write_refused 4 (checks false differ) refl refl)

    pub written-job : (xs' out' : List ℕ) → length xs ≡ h.shape.w * cells h.shape → length out ≡ pack_size h
        → Written r h (file_of p file) xs' out' → WriteOutcome r p xs out xs' out' (value_of (Ok tt))
    unfolding check value_of
    written-job xs' out' cube pack w = write_done h file (checks true (both_true _ _ (eq-eqb _ _ cube) (eq-eqb _ _ pack))) w
