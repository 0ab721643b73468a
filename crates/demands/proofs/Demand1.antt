-- Demand 1, from the contracts alone: each outcome of each call is a result or one of its refusals.
use mathlib.Core.Path.{◌≡◌, refl, sym, ◌∙◌}
use mathlib.Core.Bool.{Bool, false, false≢true}
use mathlib.Core.List.{List, [], ◌∷◌}
use Prim.Native.Nat.{ℕ}
use native.Mathlib.Omega.{arith}
use lib.ListN.{length}
use Rattle.answer.specs.Values.{Value, refused, Checked, passes, fails, checked}
use Rattle.field.specs.Field.{reduction}
use Rattle.shape.specs.declared.Shape.{Shape}
use Rattle.shape.specs.Shapes.{shape_checked, line_of}
use Rattle.erasures.specs.Scan.{scan_of}
use Rattle.data.specs.Calls.{ExtractOutcome, extract_refused, extract_done, ReadOutcome, read_refused, read_done, WriteOutcome as WriteDataOutcome, SetOutcome, set_refused, set_done, ZeroOutcome, zero_refused, zero_done}
use Rattle.cube.specs.Calls.{EncodeOutcome, encode_refused, encode_done, CompleteOutcome, complete_refused, complete_done, CheckOutcome, check_refused, check_done}
use Rattle.fill.specs.Fill.{CellsLeft, FillOutcome, fill_refused, fill_done, fill_contradiction}
use Rattle.mend.specs.Mend.{MendOutcome, mend_refused, mend_done, mend_uncorrected, AxisOutcome, axis_refused, axis_done}
use Rattle.pack.specs.declared.Header.{Header}
use Rattle.pack.specs.Reading.{header_of, sent_checked, job_of, air_of, plain_air_of}
use Rattle.cursor.specs.declared.Cursor.{Cursor}
use Rattle.pack_writer.specs.Writing.{size_checked, written_checked, air_size_checked, StartOutcome, start_refused, started, AirOutcome, air_kept, air_written}
use Rattle.writer.specs.Write.{WriteOutcome, write_refused, write_done}
use Rattle.receiver.specs.declared.Counts.{Counts}
use Rattle.receiver.specs.Gathering.{Reception, unfit, index, contradiction, some_left, none_left}
use Rattle.receiver.specs.Opening.{bad}
use Rattle.receiver.specs.Receive.{Memory, ReceiveOutcome, unopened, bad_file, opened}
use Rattle.text.specs.Text.{text_size_checked, WriteTextOutcome, ReadTextOutcome, PackSizeOutcome, size_broken, size_found}
use Rattle.plan_form.specs.declared.PlanCounts.{PlanCounts}
use Rattle.plan_form.specs.Form.{Plan, FormOutcome, formed, broken, plan_end, plan_in, Lists, counts_of, plan_of}
use Rattle.plan.specs.Calls.{WritePlanOutcome, write_inexact, write_broken, written, ReadPlanOutcome, read_broken, read_short, read_shown}
use Rattle.plan.specs.Receiving.{no_entries, ReceivePlanOutcome, no_file, no_plan, no_room, shown}
use Rattle.demands.specs.Ends.{is_one_of, OneOf, placed, keeping, Ends, in_result, in_refusal, in_place, Keeps, OnlyReads}
use Rattle.demands.specs.Demand1.{shape_numbers, cube_numbers, fill_numbers, mend_numbers, header_numbers, pack_numbers, plain_numbers, writer_numbers, receiver_numbers, sent_numbers, write_air_numbers, air_numbers, start_numbers, write_text_numbers, read_text_numbers, text_pack_numbers, receive_plan_numbers, read_plan_numbers, write_plan_numbers, form_numbers, FillLeaves, MendLeaves, ReceiveLeaves, of_receiver, of_file, PlanLeaves, Demand1}
use Rattle.demands.proofs.Numbers.{Plain, shape-number, size_number, line-number, scan-number, slices-number, cube-number, write-air-number, axis-number, read_number, fill-number, mend-number, header-number, job-number, air-number, plain-air-number, sent-number, written-number, write-number, receive-number, air-size-number, text-pack-number, start-number, read-text-number, text-size-number, write-text-number, one-of-more}

-- ---- numbers

-- a refusal by the checks
refuses : {A : Type 0} {numbers : List ℕ} {Leaves : ℕ → Type 0} {n : ℕ} → Plain numbers n → Leaves n → Ends {A = A} numbers Leaves (refused n)
refuses {n} k l = in_refusal n k.listed k.of_call l

-- a call that does nothing but check
checks-end : {A : Type 0} (numbers : List ℕ) (c : Checked A) → ((n : ℕ) → c ≡ fails n → Plain numbers n) → Ends numbers OnlyReads (checked c)
unfolding checked
checks-end numbers (passes a) h = in_result a
checks-end numbers (fails n) h = refuses (h n refl) tt

checked-ends : {A : Type 0} (numbers : List ℕ) (c : Checked A) → ((n : ℕ) → c ≡ fails n → Plain numbers n)
    → (value : Value A) → value ≡ checked c → Ends numbers OnlyReads value
checked-ends numbers c h value e = rw e (checks-end numbers c h)

-- no number that keeps all bytes is another
keeps-no : {X : Type 0} (n m : ℕ) → OneOf keeping n → is_one_of keeping m ≡ false → n ≡ m → X
unfolding OneOf
keeps-no n m k other e = absurd (false≢true (sym other ∙ (rw e at k)))

-- ---- cubes

encode-ends : (sh : Shape) (ds before after : List ℕ) (value : Value Unit) → EncodeOutcome reduction sh ds before after value
    → Ends cube_numbers (Keeps before after) value
encode-ends sh ds before after _ (encode_refused n e k) = refuses (slices-number n sh _ _ e) k
encode-ends sh ds before after _ (encode_done e k) = in_result tt

complete-ends : (sh : Shape) (before after : List ℕ) (value : Value Unit) → CompleteOutcome reduction sh before after value
    → Ends cube_numbers (Keeps before after) value
complete-ends sh before after _ (complete_refused n e k) = refuses (cube-number n sh _ e) k
complete-ends sh before after _ (complete_done e k) = in_result tt

extract-ends : (sh : Shape) (xs before after : List ℕ) (value : Value Unit) → ExtractOutcome sh xs before after value
    → Ends cube_numbers (Keeps before after) value
extract-ends sh xs before after _ (extract_refused n e k) = refuses (slices-number n sh _ _ e) k
extract-ends sh xs before after _ (extract_done e k) = in_result tt

read-ends : (sh : Shape) (xs : List ℕ) (from to n : ℕ) (before after : List ℕ) (value : Value Unit) → ReadOutcome sh xs from to n before after value
    → Ends cube_numbers (Keeps before after) value
read-ends sh xs from to n before after _ (read_refused m e k) = refuses (read_number m sh _ _ from to n e) k
read-ends sh xs from to n before after _ (read_done e k) = in_result tt

write-data-ends : (sh : Shape) (src : List ℕ) (from to n : ℕ) (before after : List ℕ) (value : Value Unit)
    → WriteDataOutcome sh src from to n before after value → Ends cube_numbers (Keeps before after) value
write-data-ends sh src from to n before after _ (WriteDataOutcome.write_refused m e k) = refuses (read_number m sh _ _ to from n e) k
write-data-ends sh src from to n before after _ (WriteDataOutcome.write_done e c k) = in_result tt

set-data-ends : (sh : Shape) (from v : ℕ) (before after : List ℕ) (value : Value Unit) → SetOutcome sh from v before after value
    → Ends cube_numbers (Keeps before after) value
set-data-ends sh from v before after _ (set_refused n e k) = refuses (cube-number n sh _ e) k
set-data-ends sh from v before after _ (set_done e s k) = in_result tt

zero-ends : (sh : Shape) (xs : List ℕ) (from : ℕ) (value : Value Bool) → ZeroOutcome sh xs from value → Ends cube_numbers OnlyReads value
zero-ends sh xs from _ (zero_refused n e) = refuses (cube-number n sh _ e) tt
zero-ends sh xs from _ (zero_done b e d) = in_result b

check-ends : (sh : Shape) (xs : List ℕ) (value : Value Bool) → CheckOutcome reduction sh xs value → Ends cube_numbers OnlyReads value
check-ends sh xs _ (check_refused n e) = refuses (cube-number n sh _ e) tt
check-ends sh xs _ (check_done b e d) = in_result b

axis-ends : (sh : Shape) (axis : ℕ) (before after : List ℕ) (value : Value Unit) → AxisOutcome reduction sh axis before after value
    → Ends cube_numbers (Keeps before after) value
axis-ends sh axis before after _ (axis_refused n e k) = refuses (axis-number n sh axis _ e) k
axis-ends sh axis before after _ (axis_done e k) = in_result tt

fill-ends : (sh : Shape) (xs fs xs' fs' : List ℕ) (value : Value CellsLeft) → FillOutcome reduction sh xs fs xs' fs' value
    → Ends fill_numbers (FillLeaves sh xs fs xs' fs') value
unfolding OneOf is_one_of placed keeping fill_numbers
fill-ends sh xs fs xs' fs' _ (fill_refused n e x y) =
    let k = fill-number n sh _ fs e in
    refuses k (record { kept = λ _. (x, y); contradiction = λ z. keeps-no n 13 k.keeps refl z })
fill-ends sh xs fs xs' fs' _ (fill_done d g k u) = in_result _
fill-ends sh xs fs xs' fs' _ (fill_contradiction d K k none c e) =
    in_refusal 13 refl refl (record { kept = λ z. absurd (false≢true z); contradiction = λ _. (c, e) })

mend-ends : (sh : Shape) (xs fs before after : List ℕ) (value : Value Unit) → MendOutcome reduction sh xs fs before after value
    → Ends mend_numbers (MendLeaves before after) value
unfolding OneOf is_one_of placed keeping mend_numbers
mend-ends sh xs fs before after _ (mend_refused n e k) =
    let h = mend-number n sh _ _ fs e in
    refuses h (record { kept = λ _. k; uncorrected = λ z. keeps-no n 16 h.keeps refl z })
mend-ends sh xs fs before after _ (mend_done d p c) = in_result tt
mend-ends sh xs fs before after _ (mend_uncorrected d ys p none k) =
    in_refusal 16 refl refl (record { kept = λ z. absurd (false≢true z); uncorrected = λ _. k })

-- ---- packs

air-ends : (h : Header) (xs before after : List ℕ) (value : Value Unit) → AirOutcome h xs before after value
    → Ends write_air_numbers (Keeps before after) value
air-ends h xs before after _ (air_kept n e k) = refuses (write-air-number n h _ _ e) k
air-ends h xs before after _ (air_written e k) = in_result tt

write-ends : (p xs out xs' out' : List ℕ) (value : Value Unit) → WriteOutcome reduction p xs out xs' out' value
    → Ends writer_numbers (λ n. Keeps xs xs' n × Keeps out out' n) value
write-ends p xs out xs' out' _ (write_refused n e x y) = refuses (write-number n p _ _ e) (x, y)
write-ends p xs out xs' out' _ (write_done h s e w) = in_result tt

module _ (p : List ℕ) (m m' : Memory) where
  receive-ends : (value : Value Reception) (counts : Counts) → ReceiveOutcome reduction p m m' value counts
      → Ends receiver_numbers (ReceiveLeaves p m m' counts) value
  unfolding OneOf is_one_of placed keeping receiver_numbers
  receive-ends _ _ (unopened _ _ (unfit n e x y) same) =
      let k = receive-number n p m e in
      refuses k (record {
        kept = λ _. (x, y);
        contradiction = λ z. keeps-no n 13 k.keeps refl z;
        bad_file = λ z. keeps-no n 14 k.keeps refl z;
        buffer = same;
        counts_none = refl;
      })
  receive-ends _ _ (unopened _ _ (index h s e i l out before x y) same) =
      in_place 11 i refl refl (record {
        kept = λ _. (x, y);
        contradiction = λ z. absurd (omega arith);
        bad_file = λ z. absurd (omega arith);
        buffer = same;
        counts_none = refl;
      })
  receive-ends _ _ (unopened _ _ (contradiction h s e xs₁ fs₁ t (fill_refused _ c x y)) same) = keeps-no 13 13 (fill-number 13 _ _ fs₁ c).keeps refl refl
  receive-ends _ _ (unopened _ _ (contradiction h s e xs₁ fs₁ t (fill_contradiction d K k none c f)) same) =
      in_refusal 13 refl refl (record {
        kept = λ z. absurd (false≢true z);
        contradiction = λ _. (record { header = h; section = s; checks = e; cube = xs₁; flags = fs₁; taken = t }, c, f);
        bad_file = λ z. absurd (omega arith);
        buffer = same;
        counts_none = refl;
      })
  receive-ends _ _ (unopened _ _ (some_left h s e xs₁ fs₁ t k some o) same) = in_result _
  receive-ends _ _ (bad_file h' s' k e' (none_left h s e xs₁ fs₁ t f) (bad b same)) =
      in_refusal 14 refl refl (record {
        kept = λ z. absurd (false≢true z);
        contradiction = λ z. absurd (omega arith);
        bad_file = λ _. (record { header = h; section = s; checks = e; cube = xs₁; flags = fs₁; taken = t }, f);
        buffer = same;
        counts_none = refl;
      })
  receive-ends _ _ (opened h s k e g n o) = in_result _

start-ends : (sh : Shape) (n : ℕ) (before after : List ℕ) (value : Value Cursor) → StartOutcome sh n before after value
    → Ends start_numbers (Keeps before after) value
start-ends sh n before after _ (start_refused m e k) = refuses (start-number m sh n _ e) k
start-ends sh n before after _ (started c e l) = in_result c

-- ---- texts

write-text-ends : (p before after : List ℕ) (value : Value Unit) → WriteTextOutcome p before after value
    → Ends write_text_numbers (Keeps before after) value
unfolding OneOf is_one_of placed write_text_numbers
write-text-ends p before after _ (WriteTextOutcome.write_refused n e k) = refuses (write-text-number n p _ e) k
write-text-ends p before after _ (WriteTextOutcome.write_outside h s i e f l k) = in_place 11 i refl refl k
write-text-ends p before after _ (WriteTextOutcome.write_done h s e f k) = in_result tt

read-text-ends : (t before after : List ℕ) (value : Value Unit) → ReadTextOutcome t before after value
    → Ends read_text_numbers (Keeps before after) value
unfolding OneOf is_one_of placed read_text_numbers
read-text-ends t before after _ (ReadTextOutcome.read_broken n b k) = in_place 17 n refl refl k
read-text-ends t before after _ (ReadTextOutcome.read_refused sh ks n f x e k) = refuses (read-text-number n sh _ _ e) k
read-text-ends t before after _ (ReadTextOutcome.read_outside sh ks i f x e o k) = in_place 11 i refl refl k
read-text-ends t before after _ (ReadTextOutcome.read_done sh ks f x e a k) = in_result tt

pack-size-ends : (t : List ℕ) (value : Value ℕ) → PackSizeOutcome t value → Ends text_pack_numbers OnlyReads value
unfolding OneOf is_one_of placed text_pack_numbers
pack-size-ends t _ (size_broken n b) = in_place 17 n refl refl tt
pack-size-ends t _ (size_found sh ks f x) =
    checks-end text_pack_numbers (air_size_checked sh (length ks)) (λ n. text-pack-number n sh (length ks))

-- ---- plans

-- the receiver's numbers are the plan receiver's
more_numbers : (n : ℕ) → OneOf receiver_numbers n → OneOf receive_plan_numbers n
unfolding OneOf receiver_numbers receive_plan_numbers
more_numbers n = one-of-more n (6 ∷ 7 ∷ 1 ∷ 2 ∷ 3 ∷ 10 ∷ 19 ∷ 9 ∷ 8 ∷ 4 ∷ 11 ∷ 13 ∷ 14 ∷ []) (18 ∷ [])

module _ (p : List ℕ) (m m' : Memory) (l : Lists) where
  passed-ends : (value : Value Reception) (counts : Counts) → ReceiveOutcome reduction p m m' value counts
      → Ends receiver_numbers (ReceiveLeaves p m m' counts) value → Ends receive_plan_numbers (PlanLeaves p m m' l l counts no_entries) value
  passed-ends _ counts o (in_result a) = in_result a
  passed-ends _ counts o (in_refusal n listed plain leaves) =
      in_refusal n (more_numbers n listed) plain (record { memory = of_receiver listed leaves; lists = refl; counts_none = leaves.counts_none; entries_none = refl })
  passed-ends _ counts o (in_place n i listed place leaves) =
      in_place n i (more_numbers n listed) place (record { memory = of_receiver listed leaves; lists = refl; counts_none = leaves.counts_none; entries_none = refl })

receive-plan-ends : (p : List ℕ) (m m' : Memory) (l l' : Lists) (value : Value Reception) (counts : Counts) (entries : PlanCounts)
    → ReceivePlanOutcome reduction p m m' l l' value counts entries → Ends receive_plan_numbers (PlanLeaves p m m' l l' counts entries) value
unfolding OneOf is_one_of placed receive_plan_numbers
receive-plan-ends p m m' l l' _ _ _ (no_file value counts o none e) = rw e (passed-ends p m m' l value counts o (receive-ends p m m' value counts o))
receive-plan-ends p m m' l l' _ _ _ (no_plan n k o at (read_broken _ _ e)) =
    in_place 18 at refl refl (record { memory = of_file refl n k o; lists = e; counts_none = refl; entries_none = refl })
receive-plan-ends p m m' l l' _ _ _ (no_room n k o (read_short _ _ e)) =
    in_refusal 4 refl refl (record { memory = of_file refl n k o; lists = e; counts_none = refl; entries_none = refl })
receive-plan-ends p m m' l l' _ _ _ (shown n k o e _) = in_result _

read-plan-ends : (f : List ℕ) (l l' : Lists) (value : Value PlanCounts) → ReadPlanOutcome f l l' value → Ends read_plan_numbers (λ n. l' ≡ l) value
unfolding OneOf is_one_of placed read_plan_numbers
read-plan-ends f l l' _ (read_broken at _ e) = in_place 18 at refl refl e
read-plan-ends f l l' _ (read_short _ _ e) = in_refusal 4 refl refl e
read-plan-ends f l l' _ (read_shown _ _ _) = in_result _

write-plan-ends : (l : Lists) (before after : List ℕ) (value : Value Unit) → WritePlanOutcome l before after value
    → Ends write_plan_numbers (Keeps before after) value
unfolding OneOf is_one_of placed write_plan_numbers
write-plan-ends l before after _ (write_inexact _ e) = in_refusal 4 refl refl e
write-plan-ends l before after _ (write_broken _ at _ e) = in_place 18 at refl refl e
write-plan-ends l before after _ (written _ _ _) = in_result tt

form-ends : {A : Type 0} (P : Plan) (len : ℕ) (a : A) (value : Value A) → FormOutcome P len a value → Ends form_numbers OnlyReads value
unfolding OneOf is_one_of placed form_numbers
form-ends P len a _ (formed _) = in_result a
form-ends P len a _ (broken at _) = in_place 18 at refl refl tt

pub demand1 : Demand1
demand1 =
    record {
      receive_pack = receive-ends;
      write_pack = write-ends;
      read_header = λ p. checked-ends header_numbers (header_of p) (λ n. header-number n p);
      read_job = λ p. checked-ends pack_numbers (job_of p) (λ n. job-number n p);
      read_air = λ p. checked-ends pack_numbers (air_of p) (λ n. air-number n p);
      read_plain_air = λ p. checked-ends plain_numbers (plain_air_of p) (λ n. plain-air-number n p);
      sent_cells = λ h. checked-ends sent_numbers (sent_checked h) (λ n. sent-number n h);
      written_bytes = λ h. checked-ends sent_numbers (written_checked h) (λ n. written-number n h);
      write_text = write-text-ends;
      read_text = read-text-ends;
      text_bytes = λ p. checked-ends plain_numbers (text_size_checked p) (λ n. text-size-number n p);
      text_pack_bytes = pack-size-ends;
      receive_plan = receive-plan-ends;
      read_plan = read-plan-ends;
      write_plan = write-plan-ends;
      measure_plan = λ f. form-ends (plan_in f) (length f) (plan_in f).counts;
      check_lists = λ l. form-ends (plan_of l) (plan_end (counts_of l)) tt;
      encode = encode-ends;
      complete = complete-ends;
      extract = extract-ends;
      read_data = read-ends;
      write_data = write-data-ends;
      set_data = set-data-ends;
      is_data_zero = zero-ends;
      is_code_cube = check-ends;
      fill = fill-ends;
      mend = mend-ends;
      mend_axis = axis-ends;
      write_air = air-ends;
      start_air = start-ends;
      measure = λ sh. checked-ends shape_numbers (shape_checked sh) (λ n. shape-number n sh);
      pack_bytes = λ sh. checked-ends shape_numbers (size_checked sh) (λ n. size_number n sh);
      axis_line = λ sh axis m. checked-ends shape_numbers (line_of sh axis m) (λ n. line-number n sh axis m);
      scan = λ fs sh axis m. checked-ends cube_numbers (scan_of fs sh axis m) (λ n. scan-number n fs sh axis m);
      air_bytes = λ sh k. checked-ends air_numbers (air_size_checked sh k) (λ n. air-size-number n sh k);
    }
