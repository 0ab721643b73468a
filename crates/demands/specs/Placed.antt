-- The receiver "its packets once placed": cube and flags as filling finds them.
use Rattle.std.specs.Prelude.{◌≡◌, List, ℕ}
use Rattle.answer.specs.Values.{passes}
use Rattle.pack.specs.declared.Header.{Header}
use Rattle.pack.specs.declared.Section.{Section}
use Rattle.receiver.specs.Gathering.{Taken}
use Rattle.receiver.specs.Receive.{Memory, receive_checked}

-- The pack has passed its checks, every packet names a cell, and the packets stand in `cube` and `flags`.
pub record BeforeFilling (p : List ℕ) (m : Memory) : Type 0 where
  pub header : Header
  pub section : Section
  pub checks : receive_checked p m ≡ passes (header, section)
  pub cube : List ℕ
  pub flags : List ℕ
  pub taken : Taken p header section cube flags
