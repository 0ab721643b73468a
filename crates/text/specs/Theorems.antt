-- What request P1 says of texts and packs, as theorems about the two contracts; proofs/RoundTrip.antt has the proofs.
use Rattle.std.specs.Prelude.{◌≡◌, cond, List, [], ◌∷◌, ℕ, zero, ◌+◌, ◌<◌, eqb, length, get_or}
use Rattle.answer.specs.Values.{Value, gives}
use Rattle.shape.specs.declared.Shape.{Shape}
use Rattle.pack.specs.Packs.{Packet}
use Rattle.text.specs.Form.{text_of, InForm, Broken}
use Rattle.text.specs.Text.{WriteTextOutcome, ReadTextOutcome}

-- "Text made from a pack that passes 1 to 11 reads back to that pack": lent the pack's exact length, the reader gives the pack.
-- A pack that has a text has count 5, and so has what the reader makes.
unfoldable pub ReadsBack : Type 0
ReadsBack =
    (p before t q q' : List ℕ) (v : Value Unit) → ((i : ℕ) → get_or p i 0 < 256) → WriteTextOutcome p before t (gives tt) →
    ReadTextOutcome t q q' v → length q ≡ length p → (v ≡ gives tt) × (q' ≡ p)

-- "text that is accepted is rewritten to the same characters": lent the text's exact length, the writer gives the text.
unfoldable pub WritesBack : Type 0
WritesBack =
    (t q p before t' : List ℕ) (v : Value Unit) → ReadTextOutcome t q p (gives tt) → WriteTextOutcome p before t' v →
    length before ≡ length t → (v ≡ gives tt) × (t' ≡ t)

-- a text is made of one shape and one list of packets, and no line of it breaks the form
unfoldable pub OneReading : Type 0
OneReading =
    (sh sh' : Shape) (ks ks' : List Packet) → InForm sh ks → InForm sh' ks' → text_of sh ks ≡ text_of sh' ks' → (sh ≡ sh') × (ks ≡ ks')

unfoldable pub BrokenOrForm : Type 0
BrokenOrForm = (sh : Shape) (ks : List Packet) (n : ℕ) → InForm sh ks → Broken (text_of sh ks) n → ⊥

-- "the first line": one line is
unfoldable pub OneBroken : Type 0
OneBroken = (t : List ℕ) (m n : ℕ) → Broken t m → Broken t n → m ≡ n

-- "its number from 1": the lines of a text are its newlines, one for the shape and one a packet
unfoldable pub newlines : List ℕ → ℕ
newlines [] = zero
newlines (c ∷ cs) = cond (eqb c 10) 1 0 + newlines cs

unfoldable pub LinesCounted : Type 0
LinesCounted = (sh : Shape) (ks : List Packet) → InForm sh ks → newlines (text_of sh ks) ≡ length ks + 1
