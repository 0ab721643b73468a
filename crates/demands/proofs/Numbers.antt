-- The numbers by which each call's checks fail: they are in its list, none names a place, and all of them change no lent byte.
use mathlib.Core.Path.{◌≡◌, refl}
use mathlib.Core.Bool.{Bool, true, false, cond, not, false≢true}
use mathlib.Core.List.{List, [], ◌∷◌, ◌++◌}
use Prim.Native.Nat.{ℕ}
use lib.Dec.{eqb}
use lib.ListN.{length}
use borrow.Author.Tests.{not-true}
use Rattle.answer.specs.Values.{Checked, passes, fails, check, and_then}
use Rattle.answer.proofs.Values.{check-number, then-number, passes-number}
use Rattle.shape.specs.declared.Shape.{Shape}
use Rattle.shape.specs.declared.Sizes.{Sizes}
use Rattle.shape.specs.Shapes.{both, shape_checked, line_in, line_of}
use Rattle.shape.proofs.Valid.{both-parts}
use Rattle.erasures.specs.Scan.{scan_of}
use Rattle.data.specs.Calls.{slices_checked, cube_checked, read_checked}
use Rattle.fill.specs.Fill.{flags_checked}
use Rattle.mend.specs.Mend.{axis_checked, mend_checked, whole_checked}
use Rattle.pack.specs.Packs.{air_size, pack_size}
use Rattle.pack.specs.declared.Header.{Header}
use Rattle.pack.specs.Reading.{header_for, header_of, sent_checked, job_of, air_of, plain_air_of}
use Rattle.pack.proofs.Numbers.{shape-fails, header-fails, sent-fails, job-fails, air-fails, plain-air-fails}
use Rattle.pack_writer.specs.Writing.{size_checked, written_checked, air_size_checked, start_checked, air_checked}
use Rattle.writer.specs.Write.{write_checked}
use Rattle.receiver.specs.Receive.{Memory, receive_checked}
use Rattle.text.specs.Text.{text_in, text_size_checked, write_text_checked}
use Rattle.demands.specs.Demand1.{shape_numbers, cube_numbers, fill_numbers, mend_numbers, header_numbers, pack_numbers, plain_numbers, writer_numbers, receiver_numbers, sent_numbers, write_air_numbers, air_numbers, start_numbers, write_text_numbers, read_text_numbers, text_pack_numbers}
use Rattle.demands.specs.Demand2.{early_numbers}
use Rattle.demands.specs.Ends.{is_one_of, OneOf, placed, keeping}

-- a number of a list is one of any longer list
cond_more : (b : Bool) {x y : Bool} → (x ≡ true → y ≡ true) → cond b true x ≡ true → cond b true y ≡ true
cond_more true f q = refl
cond_more false f q = f q

pub one-of-more : (n : ℕ) (ms more : List ℕ) → is_one_of ms n ≡ true → is_one_of (ms ++ more) n ≡ true
unfolding is_one_of
one-of-more n [] more e = absurd (false≢true e)
one-of-more n (m ∷ ms) more e = cond_more (eqb m n) (one-of-more n ms more) e

-- a number of a list that names no place and changes no lent byte
pub record Plain (numbers : List ℕ) (n : ℕ) : Type 0 where
  pub listed : OneOf numbers n
  pub of_call : is_one_of placed n ≡ false
  pub keeps : OneOf keeping n

-- the same as a test
unfoldable is_plain : List ℕ → ℕ → Bool
is_plain numbers n = both (is_one_of numbers n) (both (not (is_one_of placed n)) (is_one_of keeping n))

abbrev Test : List ℕ → ℕ → Type 0
Test numbers n = is_plain numbers n ≡ true

plain : (numbers : List ℕ) (n : ℕ) → Test numbers n → Plain numbers n
unfolding is_plain OneOf
plain numbers n e =
    let (a, bc) = both-parts (is_one_of numbers n) _ e in
    let (b, c) = both-parts (not (is_one_of placed n)) (is_one_of keeping n) bc in
    record { listed = a; of_call = not-true _ b; keeps = c }

module _ (n : ℕ) where
  -- ---- shapes and cubes

  pub shape-number : (sh : Shape) → shape_checked sh ≡ fails n → Plain shape_numbers n
  unfolding is_plain is_one_of placed keeping both shape_numbers
  shape-number sh e = plain shape_numbers n (shape-fails (Test shape_numbers) n refl refl refl sh e)

  pub size_number : (sh : Shape) → size_checked sh ≡ fails n → Plain shape_numbers n
  unfolding size_checked
  size_number sh = then-number (Plain shape_numbers) n _ _ (shape-number sh) (λ z. passes-number (Plain shape_numbers) n (pack_size (header_for sh)))

  -- 1 of the axis or the line, and the numbers of the shape
  line-fails : (P : ℕ → Type 0) → P 1 → P 2 → P 3 → (sh : Shape) (axis m : ℕ) → line_of sh axis m ≡ fails n → P n
  unfolding line_of line_in
  line-fails P one two three sh axis m =
      check-number P n _ 1 _ one (then-number P n _ _ (shape-fails P n one two three sh) (λ z. check-number P n _ 1 _ one (passes-number P n _)))

  pub line-number : (sh : Shape) (axis m : ℕ) → line_of sh axis m ≡ fails n → Plain shape_numbers n
  unfolding is_plain is_one_of placed keeping both shape_numbers
  line-number sh axis m e = plain shape_numbers n (line-fails (Test shape_numbers) refl refl refl sh axis m e)

  -- those of a line, then 4
  pub scan-number : (fs : List ℕ) (sh : Shape) (axis m : ℕ) → scan_of fs sh axis m ≡ fails n → Plain cube_numbers n
  unfolding scan_of is_plain is_one_of placed keeping both cube_numbers
  scan-number fs sh axis m e =
      let P = Test cube_numbers in
      plain cube_numbers n
      (then-number P n _ _ (line-fails P refl refl refl sh axis m) (λ l. check-number P n _ 4 _ refl (passes-number P n _)) e)

  -- 1, 2, 3 of the shape, then 4 by a test of its sizes
  slices-fail : (test : Sizes → Bool) (sh : Shape)
      → ◌≡◌ {A = Checked Unit} (and_then (shape_checked sh) (λ z. check (test z) 4 (passes tt))) (fails n) → Plain cube_numbers n
  unfolding is_plain is_one_of placed keeping both cube_numbers
  slices-fail test sh e =
      let P = Test cube_numbers in
      plain cube_numbers n
      (then-number P n _ _ (shape-fails P n refl refl refl sh) (λ z. check-number P n _ 4 _ refl (passes-number P n tt)) e)

  pub slices-number : (sh : Shape) (d c : ℕ) → slices_checked sh d c ≡ fails n → Plain cube_numbers n
  unfolding slices_checked
  slices-number sh d c = slices-fail _ sh

  pub cube-number : (sh : Shape) (c : ℕ) → cube_checked sh c ≡ fails n → Plain cube_numbers n
  unfolding cube_checked
  cube-number sh c = slices-fail _ sh

  pub axis-number : (sh : Shape) (axis c : ℕ) → axis_checked sh axis c ≡ fails n → Plain cube_numbers n
  unfolding axis_checked is_plain is_one_of placed keeping both cube_numbers
  axis-number sh axis c = check-number (Plain cube_numbers) n _ 1 _ (plain cube_numbers 1 refl) (cube-number sh c)

  pub read_number : (sh : Shape) (c d from to k : ℕ) → read_checked sh c d from to k ≡ fails n → Plain cube_numbers n
  unfolding read_checked is_plain is_one_of placed keeping both cube_numbers
  read_number sh c d from to k e =
      let P = Test cube_numbers in
      plain cube_numbers n
      (then-number P n _ _ (shape-fails P n refl refl refl sh)
      (λ z. check-number P n _ 4 _ refl (check-number P n _ 4 _ refl (check-number P n _ 4 _ refl (passes-number P n tt)))) e)

  pub fill-number : (sh : Shape) (c : ℕ) (fs : List ℕ) → flags_checked sh c fs ≡ fails n → Plain fill_numbers n
  unfolding flags_checked is_plain is_one_of placed keeping both fill_numbers
  fill-number sh c fs e =
      let P = Test fill_numbers in
      plain fill_numbers n
      (then-number P n _ _ (shape-fails P n refl refl refl sh)
      (λ z. check-number P n _ 4 _ refl (check-number P n _ 5 _ refl (passes-number P n tt))) e)

  pub mend-number : (sh : Shape) (c d : ℕ) (fs : List ℕ) → mend_checked sh c fs d ≡ fails n → Plain mend_numbers n
  unfolding mend_checked whole_checked is_plain is_one_of placed keeping both mend_numbers
  mend-number sh c d fs e =
      let P = Test mend_numbers in
      plain mend_numbers n
      (then-number P n _ _ (shape-fails P n refl refl refl sh)
      (λ z. check-number P n _ 4 _ refl (check-number P n _ 5 _ refl (check-number P n _ 15 _ refl (passes-number P n tt)))) e)

  -- ---- packs

  pub header-number : (p : List ℕ) → header_of p ≡ fails n → Plain header_numbers n
  unfolding is_plain is_one_of placed keeping both header_numbers
  header-number p e = plain header_numbers n (header-fails (Test header_numbers) n refl refl refl refl refl refl refl p e)

  pub job-number : (p : List ℕ) → job_of p ≡ fails n → Plain pack_numbers n
  unfolding is_plain is_one_of placed keeping both pack_numbers
  job-number p e = plain pack_numbers n (job-fails (Test pack_numbers) n refl refl refl refl refl refl refl p refl refl e)

  pub air-number : (p : List ℕ) → air_of p ≡ fails n → Plain pack_numbers n
  unfolding is_plain is_one_of placed keeping both pack_numbers
  air-number p e = plain pack_numbers n (air-fails (Test pack_numbers) n refl refl refl refl refl refl refl p refl refl e)

  -- those of a reader that keeps to count 5
  pub plain-air-number : (p : List ℕ) → plain_air_of p ≡ fails n → Plain plain_numbers n
  unfolding is_plain is_one_of placed keeping both plain_numbers
  plain-air-number p e = plain plain_numbers n (plain-air-fails (Test plain_numbers) n refl refl refl refl refl refl p refl refl e)

  -- those of a header, and then 4
  pub sent-number : (h : Header) → sent_checked h ≡ fails n → Plain sent_numbers n
  unfolding is_plain is_one_of placed keeping both sent_numbers
  sent-number h e = plain sent_numbers n (sent-fails (Test sent_numbers) n refl refl refl refl refl h e)

  pub written-number : (h : Header) → written_checked h ≡ fails n → Plain sent_numbers n
  unfolding written_checked
  written-number h = then-number (Plain sent_numbers) n _ _ (sent-number h) (λ k. passes-number (Plain sent_numbers) n (air_size h k))

  pub write-air-number : (h : Header) (c d : ℕ) → air_checked h c d ≡ fails n → Plain write_air_numbers n
  unfolding air_checked written_checked is_plain is_one_of placed keeping both write_air_numbers
  write-air-number h c d e =
      let P = Test write_air_numbers in
      plain write_air_numbers n
      (then-number P n _ _ (then-number P n _ _ (sent-fails P n refl refl refl refl refl h) (λ k. passes-number P n (air_size h k)))
      (λ size. check-number P n _ 4 _ refl (passes-number P n tt)) e)

  pub write-number : (p : List ℕ) (c d : ℕ) → write_checked p c d ≡ fails n → Plain writer_numbers n
  unfolding write_checked is_plain is_one_of placed keeping both writer_numbers
  write-number p c d e =
      let P = Test writer_numbers in
      plain writer_numbers n
      (then-number P n _ _ (job-fails P n refl refl refl refl refl refl refl p refl refl)
      (λ j. check-number P n _ 4 _ refl (passes-number P n j)) e)

  receive-fails : (P : ℕ → Type 0) → P 6 → P 7 → P 1 → P 2 → P 3 → P 10 → P 19 → P 9 → P 8 → P 4 → (p : List ℕ) (m : Memory)
      → receive_checked p m ≡ fails n → P n
  unfolding receive_checked
  receive-fails P six seven one two three ten nineteen nine eight four p m =
      then-number P n _ _ (air-fails P n six seven one two three ten nineteen p nine eight) (λ a. check-number P n _ 4 _ four (passes-number P n a))

  pub receive-number : (p : List ℕ) (m : Memory) → receive_checked p m ≡ fails n → Plain receiver_numbers n
  unfolding is_plain is_one_of placed keeping both receiver_numbers
  receive-number p m e = plain receiver_numbers n (receive-fails (Test receiver_numbers) refl refl refl refl refl refl refl refl refl refl p m e)

  pub early-number : (p : List ℕ) (m : Memory) → receive_checked p m ≡ fails n → OneOf early_numbers n
  unfolding OneOf is_one_of early_numbers
  early-number = receive-fails (λ k. is_one_of early_numbers k ≡ true) refl refl refl refl refl refl refl refl refl refl

  -- ---- texts

  air-size-fails : (P : ℕ → Type 0) → P 1 → P 2 → P 3 → P 10 → (sh : Shape) (k : ℕ) → air_size_checked sh k ≡ fails n → P n
  unfolding air_size_checked
  air-size-fails P one two three ten sh k =
      then-number P n _ _ (shape-fails P n one two three sh) (λ z. check-number P n _ 10 _ ten (passes-number P n (air_size (header_for sh) k)))

  pub air-size-number : (sh : Shape) (k : ℕ) → air_size_checked sh k ≡ fails n → Plain air_numbers n
  unfolding is_plain is_one_of placed keeping both air_numbers
  air-size-number sh k e = plain air_numbers n (air-size-fails (Test air_numbers) refl refl refl refl sh k e)

  -- the same where 17 is listed before them
  pub text-pack-number : (sh : Shape) (k : ℕ) → air_size_checked sh k ≡ fails n → Plain text_pack_numbers n
  unfolding is_plain is_one_of placed keeping both text_pack_numbers
  text-pack-number sh k e = plain text_pack_numbers n (air-size-fails (Test text_pack_numbers) refl refl refl refl sh k e)

  start-fails : (P : ℕ → Type 0) → P 1 → P 2 → P 3 → P 10 → P 4 → (sh : Shape) (k d : ℕ) → start_checked sh k d ≡ fails n → P n
  unfolding start_checked
  start-fails P one two three ten four sh k d =
      then-number P n _ _ (air-size-fails P one two three ten sh k) (λ size. check-number P n _ 4 _ four (passes-number P n tt))

  pub start-number : (sh : Shape) (k d : ℕ) → start_checked sh k d ≡ fails n → Plain start_numbers n
  unfolding is_plain is_one_of placed keeping both start_numbers
  start-number sh k d e = plain start_numbers n (start-fails (Test start_numbers) refl refl refl refl refl sh k d e)

  pub read-text-number : (sh : Shape) (k d : ℕ) → start_checked sh k d ≡ fails n → Plain read_text_numbers n
  unfolding is_plain is_one_of placed keeping both read_text_numbers
  read-text-number sh k d e = plain read_text_numbers n (start-fails (Test read_text_numbers) refl refl refl refl refl sh k d e)

  pub text-size-number : (p : List ℕ) → text_size_checked p ≡ fails n → Plain plain_numbers n
  unfolding text_size_checked
  text-size-number p =
      then-number (Plain plain_numbers) n _ _ (plain-air-number p) (λ a. passes-number (Plain plain_numbers) n (length (text_in p a)))

  pub write-text-number : (p : List ℕ) (d : ℕ) → write_text_checked p d ≡ fails n → Plain write_text_numbers n
  unfolding write_text_checked is_plain is_one_of placed keeping both write_text_numbers
  write-text-number p d e =
      let P = Test write_text_numbers in
      plain write_text_numbers n
      (then-number P n _ _ (plain-air-fails P n refl refl refl refl refl refl p refl refl)
      (λ a. check-number P n _ 4 _ refl (passes-number P n a)) e)
