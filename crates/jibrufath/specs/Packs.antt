-- The exported calls on packs: the receiver's counts stand in sixteen places beside its word.
use Rattle.std.specs.Prelude.{◌≡◌, List, ◌∷◌, ◌++◌, ℕ, replicate}
use Rattle.answer.specs.Values.{Value, gives, refused, refused_at}
use Rattle.receiver.specs.declared.Counts.{Counts}
use Rattle.receiver.specs.Gathering.{Reception, file, left}
use Rattle.jibrufath.specs.Exports.{packed}

-- the count in the receiver's word: the cells left
unfoldable pub reception_left : Reception → ℕ
reception_left (file n) = 0
reception_left (left k) = k

-- the bytes of the file that came out, 0 where none did
unfoldable pub file_bytes : Value Reception → ℕ
file_bytes (gives (file n)) = n
file_bytes (gives (left k)) = 0
file_bytes (refused n) = 0
file_bytes (refused_at n i) = 0

-- The sixteen places: 0 the file's bytes, 1 the packets, 2 the repeats, 13 the cells whose copies are not all equal. 3 to 9 are kept for more
-- repeats, 10 to 12 for a total of each axis: 0 today, as are 14 and 15.
unfoldable pub places : Value Reception → Counts → List ℕ
places v k = file_bytes v ∷ k.packets ∷ k.repeats ∷ (replicate 10 0 ++ (k.conflicts ∷ replicate 2 0))

-- What `jibrufath_receive_pack` answers: its word packs a value, and its places the counts, with which the receiver has ended.
pub record ReceiveExport (Outcome : Value Reception → Counts → Type 0) (counts : List ℕ) (word : ℕ) : Type 0 where
  pub value : Value Reception
  pub counted : Counts
  pub outcome : Outcome value counted
  pub word_packed : word ≡ packed reception_left value
  pub counts_placed : counts ≡ places value counted
