-- The parts of an air pack: the checks before its packets and what `start_air` and `write_coordinates` answer.
use Rattle.std.specs.Prelude.{Result, Ok, Err}
use mathlib.Core.Path.{◌≡◌, refl, sym, ap, ◌∙◌}
use mathlib.Core.List.{List}
use Prim.Native.Nat.{ℕ, ◌+◌, ◌≤◌}
use lib.Dec.{eqb}
use lib.ListN.{length, set}
use borrow.Author.Tests.{leb-true, le-leb, eqb-true, eq-eqb, ne_eqb}
use Rattle.answer.specs.declared.Refusal.{Refusal}
use Rattle.answer.specs.Values.{refusal, Checked, passes, fails, check, checked, and_then, value_of}
use Rattle.answer.proofs.Values.{passes-injective, check-passed, checked-passes, checked-fails, then-passed}
use Rattle.shape.specs.declared.Shape.{Shape}
use Rattle.shape.specs.Shapes.{Valid, capacity, sizes, shape_checked}
use Rattle.shape.proofs.Valid.{shape-passed, valid-passes}
use Rattle.cursor.specs.declared.Cursor.{Cursor}
use Rattle.pack.specs.Packs.{air_size}
use Rattle.pack.specs.Reading.{header_for}
use Rattle.pack_writer.specs.Writing.{air_size_checked, start_checked, StartOutcome, start_refused, CoordinatesOutcome, coordinates_written}
use Rattle.pack_writer.proofs.Laying.{put_three}

-- ---- the checks

pub air-size-passed : (sh : Shape) (n size : ℕ) → air_size_checked sh n ≡ passes size → Valid sh × (4 ≤ capacity sh) × (size ≡ air_size (header_for sh) n)
unfolding air_size_checked sizes
air-size-passed sh n size e =
    let (z, passed, rest) = then-passed (shape_checked sh) _ size e in
    let (v, same) = shape-passed sh z passed in
    let (t, told) = check-passed _ 10 _ size rest in
    (v, rw same at (leb-true 4 z.capacity t), sym (passes-injective _ _ told))

pub start-passed : (sh : Shape) (n len : ℕ) → start_checked sh n len ≡ passes tt → Valid sh × (4 ≤ capacity sh) × (len ≡ air_size (header_for sh) n)
unfolding start_checked
start-passed sh n len e =
    let (size, passed, rest) = then-passed (air_size_checked sh n) _ tt e in
    let (v, room, same) = air-size-passed sh n size passed in
    (v, room, eqb-true len size (check-passed _ 4 _ tt rest).0 ∙ same)

-- what a caller learns from `air_bytes`
module _ (sh : Shape) (n : ℕ) (r : Result ℕ Refusal) (e : value_of r ≡ checked (air_size_checked sh n)) where
  pub air-size-given : (size : ℕ) → r ≡ Ok size → air_size_checked sh n ≡ passes size
  unfolding value_of
  air-size-given size q = checked-passes (air_size_checked sh n) size (rw q at e)

  pub air-size-refused : (f : Refusal) → r ≡ Err f → refusal {A = ℕ} f ≡ checked (air_size_checked sh n)
  unfolding value_of
  air-size-refused f q = rw q at e

-- ---- `start_air`

pub start-unfit : (sh : Shape) (n : ℕ) (s : List ℕ) (f : Refusal) → refusal {A = ℕ} f ≡ checked (air_size_checked sh n)
    → StartOutcome sh n s s (value_of (Err f))
unfolding value_of start_checked and_then
start-unfit sh n s f e =
    let (number, failed, value) = checked-fails {B = Cursor} (air_size_checked sh n) f e in
    let first : start_checked sh n (length s) ≡ fails number = ap (λ (c : Checked ℕ). and_then c (λ size. check (eqb (length s) size) 4 (passes tt))) failed in
    rw value (start_refused number first refl)

module _ (sh : Shape) (n len size : ℕ) (passed : air_size_checked sh n ≡ passes size) where
  pub start-short : (len ≡ size → ⊥) → start_checked sh n len ≡ fails 4
  unfolding start_checked and_then check
  start-short differ = rw (passed, ne_eqb len size differ)

  pub start_fits : len ≡ size → start_checked sh n len ≡ passes tt
  unfolding start_checked and_then check
  start_fits same = rw (passed, eq-eqb len size same)

-- a valid shape with room for a file's length passes, where the slice has the pack's length
pub start-passes : (sh : Shape) (n len : ℕ) → Valid sh → 4 ≤ capacity sh → len ≡ air_size (header_for sh) n → start_checked sh n len ≡ passes tt
unfolding air_size_checked and_then check sizes
start-passes sh n len v room same =
    let passed : air_size_checked sh n ≡ passes (air_size (header_for sh) n) = rw (valid-passes sh v, le-leb 4 (capacity sh) room) in
    start_fits sh n len (air_size (header_for sh) n) passed same

-- ---- `write_coordinates`

pub coordinates-laid : (s : List ℕ) (at : Cursor) (a b c : ℕ) → at.at + 3 ≤ length s
    → CoordinatesOutcome s at a b c (set (set (set s at.at a) (at.at + 1) b) (at.at + 2) c) (record { at = at.at + 3 })
coordinates-laid s at a b c room = coordinates_written room (record { put = put_three s at.at a b c room; behind = refl })
