-- What the second turn over a text knows of it.
use Rattle.std.specs.Prelude.{◌≡◌, List, ◌++◌, ℕ, ◌<◌, drop}
use Rattle.pack.specs.Packs.{Packet}
use Rattle.text.specs.Form.{packet_line, Formed}
use Rattle.text.specs.Inner.Scan.{Scanning}
use Rattle.text.specs.declared.scan.Contents.{Contents}

-- the first turn found the text whole
pub record Read (t : List ℕ) (s : Contents) : Type 0 where
  pub list : List Packet
  pub scanning : Scanning t s list

-- the line of packet k, whose coordinates fit a byte each, begins at a place, and `rest` follows it
pub record LineOf (w : ℕ) (t : List ℕ) (at : ℕ) (k : Packet) (rest : List ℕ) : Type 0 where
  pub formed : Formed w k
  pub a_byte : k.a < 256
  pub b_byte : k.b < 256
  pub c_byte : k.c < 256
  pub stands : drop at t ≡ packet_line k ++ rest

pub record Line (w : ℕ) (t : List ℕ) (at : ℕ) : Type 0 where
  pub packet : Packet
  pub rest : List ℕ
  pub line : LineOf w t at packet rest
