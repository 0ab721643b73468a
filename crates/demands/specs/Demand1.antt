-- The first demand: "A pack, written by anyone and cut or damaged in any way, ends in a file, a count of places left or a numbered refusal from
-- the table in document 01. The same goes for a cube or buffer handed to any public call; what each refusal returns and leaves in lent memory is
-- fixed there." For every input of each call, and for every outcome that its contract allows.
use Rattle.std.specs.Prelude.{◌≡◌, Bool, List, [], ◌∷◌, ℕ, length, replicate}
use Rattle.answer.specs.Values.{Value, gives, checked}
use Rattle.field.specs.Field.{reduction}
use Rattle.shape.specs.declared.Shape.{Shape}
use Rattle.shape.specs.declared.Sizes.{Sizes}
use Rattle.shape.specs.declared.Line.{Line}
use Rattle.shape.specs.Shapes.{shape_checked, line_of}
use Rattle.shape.specs.Flags.{missing}
use Rattle.erasures.specs.declared.ScanCounts.{ScanCounts}
use Rattle.erasures.specs.Scan.{scan_of}
use Rattle.data.specs.Calls.{ExtractOutcome, ReadOutcome, WriteOutcome as WriteDataOutcome, SetOutcome, ZeroOutcome}
use Rattle.cube.specs.Calls.{EncodeOutcome, CompleteOutcome, CheckOutcome}
use Rattle.fill.specs.Fill.{CellsLeft, Cleared, FillOutcome}
use Rattle.mend.specs.Mend.{MendOutcome, AxisOutcome}
use Rattle.cursor.specs.declared.Cursor.{Cursor}
use Rattle.pack.specs.declared.Header.{Header}
use Rattle.pack.specs.declared.Section.{Section}
use Rattle.pack.specs.Reading.{header_of, sent_checked, job_of, air_of, plain_air_of}
use Rattle.pack_writer.specs.Writing.{size_checked, written_checked, air_size_checked, StartOutcome, AirOutcome}
use Rattle.writer.specs.Write.{WriteOutcome}
use Rattle.receiver.specs.declared.Counts.{Counts}
use Rattle.receiver.specs.Gathering.{Reception, file, no_counts}
use Rattle.receiver.specs.Receive.{Memory, ReceiveOutcome}
use Rattle.plan_form.specs.declared.PlanCounts.{PlanCounts}
use Rattle.plan_form.specs.Form.{FormOutcome, plan_end, plan_in, Lists, counts_of, plan_of}
use Rattle.plan.specs.Calls.{WritePlanOutcome, ReadPlanOutcome}
use Rattle.plan.specs.Receiving.{no_entries, ReceivePlanOutcome}
use Rattle.text.specs.Text.{text_size_checked, WriteTextOutcome, ReadTextOutcome, PackSizeOutcome}
use Rattle.demands.specs.Ends.{OneOf, keeping, Ends, Keeps, OnlyReads}
use Rattle.demands.specs.Placed.{BeforeFilling}

-- ---- what a refusal leaves in lent memory, where a call has a number that changes some

pub record FillLeaves (sh : Shape) (xs fs xs' fs' : List ℕ) (n : ℕ) : Type 0 where
  -- "Numbers 1 to 11 and 15 change no lent byte"
  pub kept : OneOf keeping n → (xs' ≡ xs) × (fs' ≡ fs)
  -- "13: missing cells 00h, flags as before filling."
  pub contradiction : n ≡ 13 → Cleared sh xs (missing fs) xs' × (fs' ≡ fs)

pub record MendLeaves (before after : List ℕ) (n : ℕ) : Type 0 where
  pub kept : OneOf keeping n → after ≡ before
  -- "16: second cube all 00h."
  pub uncorrected : n ≡ 16 → after ≡ replicate (length before) 0

pub record ReceiveLeaves (p : List ℕ) (m m' : Memory) (counts : Counts) (n : ℕ) : Type 0 where
  pub kept : OneOf keeping n → (m'.cube ≡ m.cube) × (m'.flags ≡ m.flags)
  -- "13: missing cells 00h, flags as before filling."
  pub contradiction : n ≡ 13 →
      (b : BeforeFilling p m) × Cleared b.header.shape b.cube (missing b.flags) m'.cube × (m'.flags ≡ b.flags)
  -- "14: cube and flags as filled."
  pub bad_file : n ≡ 14 →
      (b : BeforeFilling p m)
      × FillOutcome reduction b.header.shape b.cube b.flags m'.cube m'.flags (gives (CellsLeft.left 0))
  -- "The file buffer never changes on a refusal."
  pub buffer : m'.buffer ≡ m.buffer
  -- "all counts with it are 0"
  pub counts_none : counts ≡ no_counts

-- ---- the numbers that a call can give, in the table's order

-- of a call that takes a shape
unfoldable pub shape_numbers : List ℕ
shape_numbers = 1 ∷ 2 ∷ 3 ∷ []

-- and slices
unfoldable pub cube_numbers : List ℕ
cube_numbers = 1 ∷ 2 ∷ 3 ∷ 4 ∷ []

unfoldable pub fill_numbers : List ℕ
fill_numbers = 1 ∷ 2 ∷ 3 ∷ 4 ∷ 5 ∷ 13 ∷ []

unfoldable pub mend_numbers : List ℕ
mend_numbers = 1 ∷ 2 ∷ 3 ∷ 4 ∷ 5 ∷ 15 ∷ 16 ∷ []

-- of a reader of section 1; request P5: "19, … after the capacity check of 10"
unfoldable pub header_numbers : List ℕ
header_numbers = 6 ∷ 7 ∷ 1 ∷ 2 ∷ 3 ∷ 10 ∷ 19 ∷ []

-- of a reader of the whole pack
unfoldable pub pack_numbers : List ℕ
pack_numbers = 6 ∷ 7 ∷ 1 ∷ 2 ∷ 3 ∷ 10 ∷ 19 ∷ 9 ∷ 8 ∷ []

unfoldable pub writer_numbers : List ℕ
writer_numbers = 6 ∷ 7 ∷ 1 ∷ 2 ∷ 3 ∷ 10 ∷ 19 ∷ 9 ∷ 8 ∷ 4 ∷ []

-- request P3: "Number 12 no longer occurs."
unfoldable pub receiver_numbers : List ℕ
receiver_numbers = 6 ∷ 7 ∷ 1 ∷ 2 ∷ 3 ∷ 10 ∷ 19 ∷ 9 ∷ 8 ∷ 4 ∷ 11 ∷ 13 ∷ 14 ∷ []

-- of a call that takes a header, and of one that is lent a cube and a pack besides
unfoldable pub sent_numbers : List ℕ
sent_numbers = 7 ∷ 1 ∷ 2 ∷ 3 ∷ 19 ∷ []

unfoldable pub write_air_numbers : List ℕ
write_air_numbers = 7 ∷ 1 ∷ 2 ∷ 3 ∷ 19 ∷ 4 ∷ []

-- of a call that takes a shape and counts the packets of an air pack, and of one that is lent that pack
unfoldable pub air_numbers : List ℕ
air_numbers = 1 ∷ 2 ∷ 3 ∷ 10 ∷ []

unfoldable pub start_numbers : List ℕ
start_numbers = 1 ∷ 2 ∷ 3 ∷ 10 ∷ 4 ∷ []

-- of a reader that keeps to count 5, which leaves nothing unsent
unfoldable pub plain_numbers : List ℕ
plain_numbers = 6 ∷ 7 ∷ 1 ∷ 2 ∷ 3 ∷ 10 ∷ 9 ∷ 8 ∷ []

-- request P1, the text of a pack and the pack of a text: "17 …, checked before 1; the text reader then checks 1, 2, 3, 10, 4 and 11"
unfoldable pub write_text_numbers : List ℕ
write_text_numbers = 6 ∷ 7 ∷ 1 ∷ 2 ∷ 3 ∷ 10 ∷ 9 ∷ 8 ∷ 4 ∷ 11 ∷ []

unfoldable pub read_text_numbers : List ℕ
read_text_numbers = 17 ∷ 1 ∷ 2 ∷ 3 ∷ 10 ∷ 4 ∷ 11 ∷ []

unfoldable pub text_pack_numbers : List ℕ
text_pack_numbers = 17 ∷ 1 ∷ 2 ∷ 3 ∷ 10 ∷ []

-- request P4: "18, …, after 14; then 4, a lent list too short"; the writer: "4 before its 18"
unfoldable pub receive_plan_numbers : List ℕ
receive_plan_numbers = 6 ∷ 7 ∷ 1 ∷ 2 ∷ 3 ∷ 10 ∷ 19 ∷ 9 ∷ 8 ∷ 4 ∷ 11 ∷ 13 ∷ 14 ∷ 18 ∷ []

unfoldable pub read_plan_numbers : List ℕ
read_plan_numbers = 18 ∷ 4 ∷ []

unfoldable pub write_plan_numbers : List ℕ
write_plan_numbers = 4 ∷ 18 ∷ []

unfoldable pub form_numbers : List ℕ
form_numbers = 18 ∷ []

-- Request P4: what a refusal leaves where a pack's plan is not shown. The receiver's own are as they were; with 18, and with the 4 of a list too
-- short, "the receiver's memory stands as File leaves it".
pub data PlanMemory (p : List ℕ) (m m' : Memory) (counts : Counts) (n : ℕ) : Type 0 where
  of_receiver : OneOf receiver_numbers n → ReceiveLeaves p m m' counts n → PlanMemory p m m' counts n
  of_file :
      OneOf (18 ∷ 4 ∷ []) n → (length : ℕ) (k : Counts) → ReceiveOutcome reduction p m m' (gives (file length)) k →
      PlanMemory p m m' counts n

pub record PlanLeaves (p : List ℕ) (m m' : Memory) (l l' : Lists) (counts : Counts) (entries : PlanCounts) (n : ℕ) : Type 0 where
  pub memory : PlanMemory p m m' counts n
  -- "otherwise no list changes"
  pub lists : l' ≡ l
  -- "all counts with it are 0"
  pub counts_none : counts ≡ no_counts
  pub entries_none : entries ≡ no_entries

-- ---- the demand, call by call

pub record Demand1 : Type 0 where
  -- "A pack, written by anyone and cut or damaged in any way, ends in a file, a count of places left or a numbered refusal"
  pub receive_pack :
      (p : List ℕ) (m m' : Memory) (value : Value Reception) (counts : Counts) → ReceiveOutcome reduction p m m' value counts →
      Ends receiver_numbers (ReceiveLeaves p m m' counts) value
  pub write_pack :
      (p xs out xs' out' : List ℕ) (value : Value Unit) → WriteOutcome reduction p xs out xs' out' value →
      Ends writer_numbers (λ n. Keeps xs xs' n × Keeps out out' n) value
  pub read_header :
      (p : List ℕ) (value : Value (Header × Cursor)) → value ≡ checked (header_of p) → Ends header_numbers OnlyReads value
  pub read_job :
      (p : List ℕ) (value : Value (Header × Section)) → value ≡ checked (job_of p) → Ends pack_numbers OnlyReads value
  pub read_air :
      (p : List ℕ) (value : Value (Header × Section)) → value ≡ checked (air_of p) → Ends pack_numbers OnlyReads value
  -- request P5: an air pack as the text twin reads it, and what a header sends
  pub read_plain_air :
      (p : List ℕ) (value : Value (Header × Section)) → value ≡ checked (plain_air_of p) → Ends plain_numbers OnlyReads value
  pub sent_cells :
      (h : Header) (value : Value ℕ) → value ≡ checked (sent_checked h) → Ends sent_numbers OnlyReads value
  pub written_bytes :
      (h : Header) (value : Value ℕ) → value ≡ checked (written_checked h) → Ends sent_numbers OnlyReads value
  -- request P1: a pack and its text
  pub write_text :
      (p before after : List ℕ) (value : Value Unit) → WriteTextOutcome p before after value →
      Ends write_text_numbers (Keeps before after) value
  pub read_text :
      (t before after : List ℕ) (value : Value Unit) → ReadTextOutcome t before after value →
      Ends read_text_numbers (Keeps before after) value
  pub text_bytes :
      (p : List ℕ) (value : Value ℕ) → value ≡ checked (text_size_checked p) → Ends plain_numbers OnlyReads value
  pub text_pack_bytes :
      (t : List ℕ) (value : Value ℕ) → PackSizeOutcome t value → Ends text_pack_numbers OnlyReads value
  -- request P4: a plan received, read, measured and written
  pub receive_plan :
      (p : List ℕ) (m m' : Memory) (l l' : Lists) (value : Value Reception) (counts : Counts) (entries : PlanCounts) →
      ReceivePlanOutcome reduction p m m' l l' value counts entries →
      Ends receive_plan_numbers (PlanLeaves p m m' l l' counts entries) value
  pub read_plan :
      (f : List ℕ) (l l' : Lists) (value : Value PlanCounts) → ReadPlanOutcome f l l' value →
      Ends read_plan_numbers (λ n. l' ≡ l) value
  pub write_plan :
      (l : Lists) (before after : List ℕ) (value : Value Unit) → WritePlanOutcome l before after value →
      Ends write_plan_numbers (Keeps before after) value
  pub measure_plan :
      (f : List ℕ) (value : Value PlanCounts) → FormOutcome (plan_in f) (length f) (plan_in f).counts value →
      Ends form_numbers OnlyReads value
  pub check_lists :
      (l : Lists) (value : Value Unit) → FormOutcome (plan_of l) (plan_end (counts_of l)) tt value → Ends form_numbers OnlyReads value
  -- "The same goes for a cube or buffer handed to any public call"
  pub encode :
      (sh : Shape) (ds before after : List ℕ) (value : Value Unit) → EncodeOutcome reduction sh ds before after value →
      Ends cube_numbers (Keeps before after) value
  pub complete :
      (sh : Shape) (before after : List ℕ) (value : Value Unit) → CompleteOutcome reduction sh before after value →
      Ends cube_numbers (Keeps before after) value
  pub extract :
      (sh : Shape) (xs before after : List ℕ) (value : Value Unit) → ExtractOutcome sh xs before after value →
      Ends cube_numbers (Keeps before after) value
  pub read_data :
      (sh : Shape) (xs : List ℕ) (from to n : ℕ) (before after : List ℕ) (value : Value Unit) → ReadOutcome sh xs from to n before after value →
      Ends cube_numbers (Keeps before after) value
  pub write_data :
      (sh : Shape) (src : List ℕ) (from to n : ℕ) (before after : List ℕ) (value : Value Unit) →
      WriteDataOutcome sh src from to n before after value → Ends cube_numbers (Keeps before after) value
  pub set_data :
      (sh : Shape) (from v : ℕ) (before after : List ℕ) (value : Value Unit) → SetOutcome sh from v before after value →
      Ends cube_numbers (Keeps before after) value
  pub is_data_zero :
      (sh : Shape) (xs : List ℕ) (from : ℕ) (value : Value Bool) → ZeroOutcome sh xs from value → Ends cube_numbers OnlyReads value
  pub is_code_cube :
      (sh : Shape) (xs : List ℕ) (value : Value Bool) → CheckOutcome reduction sh xs value → Ends cube_numbers OnlyReads value
  pub fill :
      (sh : Shape) (xs fs xs' fs' : List ℕ) (value : Value CellsLeft) → FillOutcome reduction sh xs fs xs' fs' value →
      Ends fill_numbers (FillLeaves sh xs fs xs' fs') value
  pub mend :
      (sh : Shape) (xs fs before after : List ℕ) (value : Value Unit) → MendOutcome reduction sh xs fs before after value →
      Ends mend_numbers (MendLeaves before after) value
  pub mend_axis :
      (sh : Shape) (axis : ℕ) (before after : List ℕ) (value : Value Unit) → AxisOutcome reduction sh axis before after value →
      Ends cube_numbers (Keeps before after) value
  pub write_air :
      (h : Header) (xs before after : List ℕ) (value : Value Unit) → AirOutcome h xs before after value →
      Ends write_air_numbers (Keeps before after) value
  pub start_air :
      (sh : Shape) (n : ℕ) (before after : List ℕ) (value : Value Cursor) → StartOutcome sh n before after value →
      Ends start_numbers (Keeps before after) value
  -- request P2: the count of holes on a line
  pub scan :
      (fs : List ℕ) (sh : Shape) (axis m : ℕ) (value : Value ScanCounts) → value ≡ checked (scan_of fs sh axis m) → Ends cube_numbers OnlyReads value
  -- the sizes and lines of a shape
  pub measure :
      (sh : Shape) (value : Value Sizes) → value ≡ checked (shape_checked sh) → Ends shape_numbers OnlyReads value
  pub pack_bytes :
      (sh : Shape) (value : Value ℕ) → value ≡ checked (size_checked sh) → Ends shape_numbers OnlyReads value
  pub axis_line :
      (sh : Shape) (axis m : ℕ) (value : Value Line) → value ≡ checked (line_of sh axis m) → Ends shape_numbers OnlyReads value
  pub air_bytes :
      (sh : Shape) (n : ℕ) (value : Value ℕ) → value ≡ checked (air_size_checked sh n) → Ends air_numbers OnlyReads value
