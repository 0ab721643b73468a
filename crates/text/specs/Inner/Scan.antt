-- What the functions of `scan` answer.
use Rattle.std.specs.Prelude.{◌≡◌, List, ℕ, ◌+◌, ◌≤◌, ◌<◌, length, take, Result, Ok, Err}
use Rattle.answer.specs.declared.Refusal.{Refusal}
use Rattle.answer.specs.declared.Refusal.TheVariants.{Line}
use Rattle.shape.specs.declared.Shape.{Shape}
use Rattle.pack.specs.Packs.{Packet}
use Rattle.pack.specs.Packets.{packet_no}
use Rattle.text.specs.Form.{packet_lines, first_line, text_of, InForm, Broken}
use Rattle.text.specs.Text.{Inside}
use Rattle.text.specs.declared.scan.Contents.{Contents}

-- the first packet that is not inside, or the number of packets
pub record FirstOut (sh : Shape) (ks : List Packet) (r : ℕ) : Type 0 where
  pub bound : r ≤ length ks
  pub before : (j : ℕ) → j < r → Inside sh (packet_no ks j)
  pub here : r < length ks → Inside sh (packet_no ks r) → ⊥

-- the text is that of the shape and of packets ks
pub record Scanning (t : List ℕ) (s : Contents) (ks : List Packet) : Type 0 where
  pub form : InForm s.shape ks
  pub text : t ≡ text_of s.shape ks
  pub packets : s.packets ≡ length ks
  pub lines : s.lines ≡ length (first_line s.shape)
  pub inside : FirstOut s.shape ks s.inside

pub data ScanOutcome (t : List ℕ) : Result Contents Refusal → Type 0 where
  scan_whole : (s : Contents) (ks : List Packet) → Scanning t s ks → ScanOutcome t (Ok s)
  scan_broken : (n : ℕ) → Broken t n → ScanOutcome t (Err (Line n))

-- the packets inside from the first on, with packet n counted
pub data InsideNext (sh : Shape) (n inside a b c : ℕ) : ℕ → Type 0 where
  one_before : inside < n → InsideNext sh n inside a b c inside
  this_one : inside ≡ n → (a < sh.l1 → b < sh.l2 → c < sh.l3 → ⊥) → InsideNext sh n inside a b c inside
  none_yet : inside ≡ n → a < sh.l1 → b < sh.l2 → c < sh.l3 → InsideNext sh n inside a b c (inside + 1)

-- where the line of packet i begins; behind the last line, where the text ends
unfoldable pub line_at : Shape → List Packet → ℕ → ℕ
line_at sh ks i = length (first_line sh) + length (packet_lines (take i ks))
