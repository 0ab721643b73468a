-- The calls on plans (request P4): what the writer and the reader of plans answer and leave for every input.
use Rattle.std.specs.Prelude.{◌≡◌, List, ◌++◌, ℕ, ◌+◌, ◌%◌, ◌≤◌, length, drop}
use Rattle.answer.specs.Values.{Value, gives, refused, refused_at}
use Rattle.plan_form.specs.declared.PlanCounts.{PlanCounts}
use Rattle.plan_form.specs.Form.{Broken, IsPlan, plan_end, plan_in, Lists, lists, counts_of, plan_of, plan_bytes, lists_in}

-- ---- the writer

-- "The writer takes exact lists and output": whole entries, and the bytes of the file
pub record Exact (l : Lists) (output : ℕ) : Type 0 where
  pub closures : length l.closures % 2 ≡ 0
  pub fibres : length l.fibres % 4 ≡ 0
  pub splices : length l.splices % 8 ≡ 0
  pub file : output ≡ 12 + length l.closures + length l.fibres + length l.splices

-- `write_plan`: "4 before its 18, which gives the offset the entry would have". A refusal changes no byte.
pub data WritePlanOutcome (l : Lists) (before after : List ℕ) : Value Unit → Type 0 where
  write_inexact : (Exact l (length before) → ⊥) → after ≡ before → WritePlanOutcome l before after (refused 4)
  write_broken :
      Exact l (length before) → (at : ℕ) → Broken (plan_of l) (plan_end (counts_of l)) at → after ≡ before →
      WritePlanOutcome l before after (refused_at 18 at)
  written :
      Exact l (length before) → IsPlan (plan_of l) (plan_end (counts_of l)) → after ≡ plan_bytes l →
      WritePlanOutcome l before after (gives tt)

-- ---- the reader

-- no list is "too short for a section's entries"
pub record Room (sections l : Lists) : Type 0 where
  pub closures : length sections.closures ≤ length l.closures
  pub fibres : length sections.fibres ≤ length l.fibres
  pub splices : length sections.splices ≤ length l.splices

-- "its entries begin the lists, the rest kept"
unfoldable pub begun : List ℕ → List ℕ → List ℕ
begun entries list = entries ++ drop (length entries) list

unfoldable pub lists_begun : Lists → Lists → Lists
lists_begun sections l =
    lists (begun sections.closures l.closures) (begun sections.fibres l.fibres) (begun sections.splices l.splices)

-- `read_plan`: 18; "then 4, a lent list too short". "A plan shown answers its three counts …; otherwise no list changes."
pub data ReadPlanOutcome (f : List ℕ) (l l' : Lists) : Value PlanCounts → Type 0 where
  read_broken : (at : ℕ) → Broken (plan_in f) (length f) at → l' ≡ l → ReadPlanOutcome f l l' (refused_at 18 at)
  read_short :
      IsPlan (plan_in f) (length f) → (Room (lists_in f) l → ⊥) → l' ≡ l →
      ReadPlanOutcome f l l' (refused 4)
  read_shown :
      IsPlan (plan_in f) (length f) → Room (lists_in f) l → l' ≡ lists_begun (lists_in f) l →
      ReadPlanOutcome f l l' (gives (plan_in f).counts)
