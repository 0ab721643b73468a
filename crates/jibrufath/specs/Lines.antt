-- The exported scan of a line (request P2): its two counts stand beside its word.
use Rattle.std.specs.Prelude.{◌≡◌, List, ◌∷◌, [], ℕ}
use Rattle.answer.specs.Values.{Checked, passes, fails, checked}
use Rattle.erasures.specs.declared.ScanCounts.{ScanCounts}
use Rattle.jibrufath.specs.Exports.{packed, uncounted}

-- "how many holes, at most 3, and how many places it read"; "all counts with it are 0" that are with a refusal
unfoldable pub scan_counts : Checked ScanCounts → List ℕ
scan_counts (passes s) = s.erasures ∷ s.read ∷ []
scan_counts (fails n) = 0 ∷ 0 ∷ []

-- What `jibrufath_scan` answers: the scan's checks, and nothing beside their number.
pub record ScanExport (scan : Checked ScanCounts) (counts : List ℕ) (word : ℕ) : Type 0 where
  pub word_packed : word ≡ packed uncounted (checked scan)
  pub counted : counts ≡ scan_counts scan
