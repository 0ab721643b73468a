-- What an answer is to document 01: a result, or a refusal by its number and, where it names one, its place.
use Rattle.std.specs.Prelude.{Bool, cond, ◌≢◌, ℕ, Result, Ok, Err}
use Rattle.answer.specs.declared.Refusal.{Refusal}
use Rattle.answer.specs.declared.Refusal.TheVariants.{Plain, Packet, Line, Entry}
use Rattle.answer.specs.Refusals.{fault_number, packet_fault_number, line_fault_number, entry_fault_number}

-- "A refusal names its number and, for a packet, the packet's index from 0"; for a line of a text, its number from 1; for a plan, an
-- offset in its file. What a result carries is the call's own.
pub data Value (A : Type 0) : Type 0 where
  gives : A → Value A
  refused : (number : ℕ) → Value A
  refused_at : (number place : ℕ) → Value A

-- "Checks run down this table": what the checks before a call's work come to. None of them names a place.
pub data Checked (A : Type 0) : Type 0 where
  passes : A → Checked A
  fails : (number : ℕ) → Checked A

-- one row of the table: where its test holds the next rows decide
unfoldable pub check : {A : Type 0} → Bool → ℕ → Checked A → Checked A
check test number next = cond test next (fails number)

-- further checks, of what has passed
unfoldable pub and_then : {A B : Type 0} → Checked A → (A → Checked B) → Checked B
and_then (passes a) next = next a
and_then (fails n) next = fails n

-- what a call answers that does nothing but check
unfoldable pub checked : {A : Type 0} → Checked A → Value A
checked (passes a) = gives a
checked (fails n) = refused n

-- the value of a refusal
unfoldable pub refusal : {A : Type 0} → Refusal → Value A
refusal (Plain f) = refused (fault_number f)
refusal (Packet f i) = refused_at (packet_fault_number f) i
refusal (Line n) = refused_at line_fault_number n
refusal (Entry at) = refused_at entry_fault_number at

-- the value of what a call answers: its result, or its refusal
unfoldable pub value_of : {A : Type 0} → Result A Refusal → Value A
value_of (Ok a) = gives a
value_of (Err f) = refusal f

-- the number in the table, 0 with a result
unfoldable pub number_of : {A : Type 0} → Value A → ℕ
number_of (gives a) = 0
number_of (refused n) = n
number_of (refused_at n i) = n

-- Request P3: "Number 12 no longer occurs." No refusal has it: proofs/Values.antt shows `Retired 12`.
unfoldable pub Retired : ℕ → Type 0
Retired n = (f : Refusal) → number_of {A = Unit} (refusal f) ≢ n

-- the place that a refusal names, 0 where it names none
unfoldable pub place_of : {A : Type 0} → Value A → ℕ
place_of (gives a) = 0
place_of (refused n) = 0
place_of (refused_at n i) = i
