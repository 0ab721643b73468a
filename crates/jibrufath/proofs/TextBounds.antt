-- What the text calls name and count fits a word: a line or an index is below 2^45, and so are the sizes of a text and of its pack.
use Rattle.answer.specs.declared.Refusal.{Refusal}
use Rattle.std.specs.Prelude.{Result, Ok}
use mathlib.Core.Path.{◌≡◌, refl, sym, ◌∙◌}
use mathlib.Core.List.{List}
use Prim.Native.Nat.{ℕ, ◌^◌, ◌≤◌, ◌<◌}
use native.Mathlib.Omega.{arith}
use lib.ListN.{length, get_or}
use Rattle.answer.specs.Values.{Value, Checked, passes, fails, checked, value_of}
use Rattle.answer.proofs.Values.{check-passed, then-passed}
use Rattle.shape.specs.declared.Shape.{Shape}
use Rattle.pack.specs.declared.Header.{Header}
use Rattle.pack.specs.declared.Section.{Section}
use Rattle.pack.specs.Packs.{air_size}
use Rattle.pack.specs.Reading.{header_with, header_for, air_of, plain_air_of}
use Rattle.pack.proofs.Sound.{air-sound, plain-air, packets-le}
use Rattle.pack_writer.specs.Writing.{air_size_checked}
use Rattle.pack_writer.proofs.Starting.{air-size-passed}
use Rattle.text.specs.Form.{Broken, first_broken, packet_broken}
use Rattle.text.specs.Text.{text_in, write_text_checked, text_size_checked, WriteTextOutcome, write_refused, write_outside, write_done, ReadTextOutcome, read_broken, read_refused, read_outside, read_done, PackSizeOutcome, size_broken, size_found}
use Rattle.text_writer.proofs.TextLines.{text-le}
use Rattle.jibrufath.specs.Exports.{uncounted, whole, beside}

-- ---- places

broken-le : {t : List ℕ} {n : ℕ} → Broken t n → n ≤ 4294967297
broken-le (first_broken _) = omega arith
broken-le (packet_broken sh ks rest form _ _ _) = omega (arith, form.most)

read_first : (p : List ℕ) (n : ℕ) (h : Header) (s : Section) → write_text_checked p n ≡ passes (h, s) → air_of p ≡ passes (h, s)
unfolding write_text_checked
read_first p n h s e =
    let (air, read, rest) = then-passed (plain_air_of p) _ (h, s) e in
    let (_, told) = check-passed _ 4 _ (h, s) rest in
    plain-air p h s (read ∙ told)

pub write-text-lt : {p before after : List ℕ} {v : Value Unit} → WriteTextOutcome p before after v → ((i : ℕ) → get_or p i 0 < 256)
    → beside uncounted v < 2 ^ 45
unfolding beside uncounted
write-text-lt (write_refused _ _ _) small = omega arith
write-text-lt {p} {before} (write_outside h s i checks _ l _) small =
    omega (arith, (air-sound p h s (read_first p (length before) h s checks)).few small)
write-text-lt (write_done _ _ _ _ _) small = omega arith

pub read-text-lt : {t before after : List ℕ} {v : Value Unit} → ReadTextOutcome t before after v → beside uncounted v < 2 ^ 45
unfolding beside uncounted
read-text-lt (read_broken n b _) = omega (arith, broken-le b)
read-text-lt (read_refused _ _ _ _ _ _ _) = omega arith
read-text-lt (read_outside _ ks i form _ _ out _) = omega (arith, form.most, out.bound)
read-text-lt (read_done _ _ _ _ _ _ _) = omega arith

-- ---- sizes

pub text-size-lt : (p : List ℕ) (c : Checked ℕ) → c ≡ text_size_checked p → ((i : ℕ) → get_or p i 0 < 256) → beside whole (checked c) < 2 ^ 45
unfolding text_size_checked beside whole checked
text-size-lt p (passes n) e small =
    let ((h, s), plain, told) = then-passed (plain_air_of p) _ n (sym e) in
    let read = plain-air p h s plain in
    let size : length (text_in p (h, s)) ≡ n = cc in
    omega (arith, text-le p h s read, (air-sound p h s read).few small)
text-size-lt p (fails n) e small = omega arith

air-size-lt : (sh : Shape) (n : ℕ) (c : Checked ℕ) → c ≡ air_size_checked sh n → n ≤ 4294967295 → beside whole (checked c) < 2 ^ 45
unfolding beside whole checked air_size header_for header_with
air-size-lt sh n (passes size) e few =
    let (v, _, same) = air-size-passed sh n size (sym e) in
    omega (arith, packets-le n sh.w (omega arith) v.w_high)
air-size-lt sh n (fails m) e few = omega arith

pub pack-size-lt : {t : List ℕ} {v : Value ℕ} → PackSizeOutcome t v → beside whole v < 2 ^ 45
unfolding beside whole
pack-size-lt (size_broken n b) = omega (arith, broken-le b)
pack-size-lt (size_found sh ks form _) = air-size-lt sh (length ks) (air_size_checked sh (length ks)) refl form.most

pub size-beside : (size : Result ℕ Refusal) (n : ℕ) → size ≡ Ok n → beside whole (value_of size) ≡ n
unfolding beside whole value_of
size-beside size n e = rw e
