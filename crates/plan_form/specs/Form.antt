-- The form of a splice plan (request P4): its parts in the order of the file, the first byte that breaks the form, a plan's bytes.
use Rattle.std.specs.Prelude.{◌≡◌, List, ◌++◌, ℕ, ◌+◌, ◌*◌, ◌/◌, ◌≤◌, ◌<◌, length, take, drop}
use Rattle.answer.specs.Values.{Value, gives, refused_at}
use Rattle.cursor.specs.Steps.{word, word_bytes}
use Rattle.plan_form.specs.declared.PlanCounts.{PlanCounts}
use Rattle.plan_form.specs.Entries.{Entries, entries, ClosureRule, FibreRule, SpliceRule}

-- A plan as it is read: where the entries of each section stand, and how many they are.
pub record Plan : Type 0 where
  pub closures : Entries
  pub fibres : Entries
  pub splices : Entries
  pub counts : PlanCounts

-- "a plan of three sections in a fixed order, each after its four-byte count of entries"
pub data Part : Type 0 where
  closure_count : Part
  closure : (k : ℕ) → Part
  fibre_count : Part
  fibre : (k : ℕ) → Part
  splice_count : Part
  splice : (k : ℕ) → Part

-- the byte of the file where a part begins
unfoldable pub start : PlanCounts → Part → ℕ
start n closure_count = 0
start n (closure k) = 4 + 2 * k
start n fibre_count = 4 + 2 * n.closures
start n (fibre k) = 8 + 2 * n.closures + 4 * k
start n splice_count = 8 + 2 * n.closures + 4 * n.fibres
start n (splice k) = 12 + 2 * n.closures + 4 * n.fibres + 8 * k

-- the bytes of a part
unfoldable pub size : Part → ℕ
size closure_count = 4
size (closure k) = 2
size fibre_count = 4
size (fibre k) = 4
size splice_count = 4
size (splice k) = 8

-- the byte behind the last part
unfoldable pub plan_end : PlanCounts → ℕ
plan_end n = 12 + 2 * n.closures + 4 * n.fibres + 8 * n.splices

-- the parts of a plan with these counts
unfoldable pub Has : PlanCounts → Part → Type 0
Has n closure_count = Unit
Has n (closure k) = k < n.closures
Has n fibre_count = Unit
Has n (fibre k) = k < n.fibres
Has n splice_count = Unit
Has n (splice k) = k < n.splices

-- the rule of an entry; a count by itself has none
unfoldable pub Rule : Plan → Part → Type 0
Rule P closure_count = Unit
Rule P (closure k) = ClosureRule P.closures k
Rule P fibre_count = Unit
Rule P (fibre k) = FibreRule P.closures P.counts.closures P.fibres k
Rule P splice_count = Unit
Rule P (splice k) = SpliceRule P.fibres P.counts.fibres P.splices k

-- in a file of so many bytes a part is not cut, and keeps its rule
pub record Sound (P : Plan) (len : ℕ) (part : Part) : Type 0 where
  pub whole : start P.counts part + size part ≤ len
  pub kept : Rule P part

-- so is every part that begins before a byte
abbrev pub SoundBefore : Plan → ℕ → ℕ → Type 0
SoundBefore P len at = (part : Part) → Has P.counts part → start P.counts part < at → Sound P len part

-- 18: "the offset of the first entry or count that breaks a rule or is cut, or of the first byte left over"
pub data Broken (P : Plan) (len : ℕ) : ℕ → Type 0 where
  part_broken :
      (part : Part) → Has P.counts part → (Sound P len part → ⊥) → SoundBefore P len (start P.counts part) →
      Broken P len (start P.counts part)
  left_over :
      ((part : Part) → Has P.counts part → Sound P len part) → plan_end P.counts < len →
      Broken P len (plan_end P.counts)

-- every part is sound, and no byte is left over
pub record IsPlan (P : Plan) (len : ℕ) : Type 0 where
  pub sound : (part : Part) → Has P.counts part → Sound P len part
  pub ends : plan_end P.counts ≡ len

-- What a call answers that does nothing but judge a plan: a, or 18 with the offset.
pub data FormOutcome {A : Type 0} (P : Plan) (len : ℕ) (a : A) : Value A → Type 0 where
  formed : IsPlan P len → FormOutcome P len a (gives a)
  broken : (at : ℕ) → Broken P len at → FormOutcome P len a (refused_at 18 at)

-- ---- a plan in a file

abbrev pub plan_counts : ℕ → ℕ → ℕ → PlanCounts
plan_counts c n s = record { closures = c; fibres = n; splices = s }

-- with c closures, n fibres and s splices
unfoldable pub plan_with : List ℕ → ℕ → ℕ → ℕ → Plan
plan_with f c n s =
    record {
      closures = entries f 4;
      fibres = entries f (8 + 2 * c);
      splices = entries f (12 + 2 * c + 4 * n);
      counts = plan_counts c n s;
    }

-- each count stands behind the section before
unfoldable pub closures_in : List ℕ → ℕ
closures_in f = word f 0

unfoldable pub fibres_in : List ℕ → ℕ
fibres_in f = word f (4 + 2 * closures_in f)

unfoldable pub splices_in : List ℕ → ℕ
splices_in f = word f (8 + 2 * closures_in f + 4 * fibres_in f)

unfoldable pub plan_in : List ℕ → Plan
plan_in f = plan_with f (closures_in f) (fibres_in f) (splices_in f)

-- ---- a plan in three lists

-- the entries of each section, as bytes in the file's form: 2 a closure, 4 a fibre, 8 a splice
pub record Lists : Type 0 where
  pub closures : List ℕ
  pub fibres : List ℕ
  pub splices : List ℕ

abbrev pub lists : List ℕ → List ℕ → List ℕ → Lists
lists cs fs ss = record { closures = cs; fibres = fs; splices = ss }

unfoldable pub counts_of : Lists → PlanCounts
counts_of l = plan_counts (length l.closures / 2) (length l.fibres / 4) (length l.splices / 8)

unfoldable pub plan_of : Lists → Plan
plan_of l =
    record {
      closures = entries l.closures 0;
      fibres = entries l.fibres 0;
      splices = entries l.splices 0;
      counts = counts_of l;
    }

-- the file of a plan
unfoldable pub plan_bytes : Lists → List ℕ
plan_bytes l =
    word_bytes (counts_of l).closures ++ (l.closures ++
    (word_bytes (counts_of l).fibres ++ (l.fibres ++
    (word_bytes (counts_of l).splices ++ l.splices))))

-- the three sections of a file
unfoldable pub section : List ℕ → ℕ → ℕ → List ℕ
section f at n = take n (drop at f)

unfoldable pub lists_in : List ℕ → Lists
lists_in f =
    lists
    (section f 4 (2 * closures_in f))
    (section f (8 + 2 * closures_in f) (4 * fibres_in f))
    (section f (12 + 2 * closures_in f + 4 * fibres_in f) (8 * splices_in f))
