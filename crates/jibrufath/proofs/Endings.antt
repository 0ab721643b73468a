-- The receiver's endings as words, and refusals without a file or entries.
use Rattle.std.specs.Prelude.{unwrap_or, Result, Ok, Err}
use Rattle.std.specs.Result.{result_ok}
use mathlib.Core.Path.{◌≡◌, refl, sym, ap}
use Prim.Native.Nat.{ℕ, ◌*◌}
use mathlib.Core.List.{◌∷◌}
use lib.ListN.{replicate}
use Rattle.plan_form.specs.declared.PlanCounts.{PlanCounts}
use Rattle.answer.specs.declared.Refusal.{Refusal}
use Rattle.answer.specs.declared.Refusal.TheVariants.{Plain, Packet, Line, Entry}
use Rattle.answer.specs.Values.{gives, refusal, value_of}
use Rattle.receiver.specs.declared.Ending.{Ending}
use Rattle.receiver.specs.declared.Ending.TheVariants.{File, Left}
use Rattle.receiver.specs.Gathering.{no_counts}
use Rattle.receiver.specs.Receive.{reception_of}
use Rattle.jibrufath.specs.Exports.{beside, packed}
use Rattle.jibrufath.specs.Packs.{reception_left, file_bytes, places}
use Rattle.plan.specs.Receiving.{no_entries}
use Rattle.jibrufath.specs.Plans.{entry_places, entries_in}
use Rattle.jibrufath.proofs.Words.{packed-result}

module _ (e : Ending) where
  pub left-beside : (n : ℕ) → e ≡ Left n → beside reception_left (gives (reception_of e)) ≡ n
  unfolding beside reception_left reception_of
  left-beside n q = rw q

  pub file-word : (n : ℕ) → e ≡ File n → 0 ≡ packed reception_left (gives (reception_of e))
  unfolding reception_of reception_left
  file-word n q = sym (packed-result reception_left _ _ (ap (λ (x : Ending). gives (reception_of x)) q))

  pub left_word : (n : ℕ) → e ≡ Left n → 256 * n ≡ packed reception_left (gives (reception_of e))
  unfolding reception_of reception_left
  left_word n q = sym (packed-result reception_left _ _ (ap (λ (x : Ending). gives (reception_of x)) q))

-- no file comes out with a refusal
no_file : (f : Refusal) → 0 ≡ file_bytes (refusal f)
unfolding file_bytes refusal
no_file (Plain f) = refl
no_file (Packet f i) = refl
no_file (Line n) = refl
no_file (Entry n) = refl

pub refused-places : (f : Refusal) → replicate 16 0 ≡ places (refusal f) no_counts
unfolding places no_counts
refused-places f = ap (λ (x : ℕ). x ∷ replicate 15 0) (no_file f)

-- nor any entries
entries_none : (f : Refusal) → replicate 3 0 ≡ entries_in (refusal f)
unfolding entries_in refusal
entries_none (Plain f) = refl
entries_none (Packet f i) = refl
entries_none (Line n) = refl
entries_none (Entry n) = refl

pub entries-read : (read : Result PlanCounts Refusal) → entry_places (unwrap_or (result_ok read) no_entries) ≡ entries_in (value_of read)
unfolding value_of entry_places entries_in no_entries
entries-read (Ok n) = refl
entries-read (Err f) = entries_none f
