-- The numbers of document 01, "Where each refusal is checked", and those that requests added.
use Rattle.std.specs.Prelude.{ℕ}
use Rattle.answer.specs.declared.Fault.{Fault}
use Rattle.answer.specs.declared.Fault.TheVariants.{Dimension, PacketSize, CubeSize, SliceLength, FlagValue, Truncated, HeaderCount, TrailingBytes, SectionCount, Capacity, Contradiction, FileLength, Erasure, Uncorrected, UsedCells}
use Rattle.answer.specs.declared.PacketFault.{PacketFault}
use Rattle.answer.specs.declared.PacketFault.TheVariants.{CellIndex}

unfoldable pub fault_number : Fault → ℕ
fault_number Dimension = 1
fault_number PacketSize = 2
fault_number CubeSize = 3
fault_number SliceLength = 4
fault_number FlagValue = 5
fault_number Truncated = 6
fault_number HeaderCount = 7
fault_number TrailingBytes = 8
fault_number SectionCount = 9
fault_number Capacity = 10
fault_number Contradiction = 13
fault_number FileLength = 14
fault_number Erasure = 15
fault_number Uncorrected = 16
-- request P5: "19, U below 1 or above the number of data cells"; "in the writer also U × W below 4 + file bytes"
fault_number UsedCells = 19

unfoldable pub packet_fault_number : PacketFault → ℕ
packet_fault_number CellIndex = 11

-- request P1: "17, the first line that breaks this form, with its number from 1"
abbrev pub line_fault_number : ℕ
line_fault_number = 17

-- request P4: "18, a plan that breaks any of this or has bytes left over, with the offset"
abbrev pub entry_fault_number : ℕ
entry_fault_number = 18
