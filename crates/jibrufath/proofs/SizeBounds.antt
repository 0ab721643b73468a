-- Sizes of a shape that passes its checks, times 256, fit a machine word.
use Rattle.std.specs.Prelude.{Result, Ok, Err, MatchResult, IsOkAnd}
use mathlib.Core.Path.{◌≡◌, sym, ap, ◌∙◌}
use mathlib.Core.Bool.{Bool, true, false}
use mathlib.Core.List.{[], ◌∷◌}
use mir.Val.{bool_byte as from_bool}
use Prim.Native.Nat.{ℕ, ◌+◌, ◌-◌, ◌^◌, ◌≤◌, ◌<◌}
use native.Mathlib.Nat.{mul-le-mul}
use native.Mathlib.Omega.{arith}
use Rattle.answer.specs.declared.Refusal.{Refusal}
use Rattle.answer.specs.Values.{passes, checked, value_of, number_of}
use Rattle.answer.proofs.Values.{passes-injective, then-passed}
use Rattle.shape.specs.declared.Shape.{Shape}
use Rattle.shape.specs.declared.Sizes.{Sizes}
use Rattle.shape.specs.Shapes.{Valid, cells, capacity, sizes, shape_checked}
use Rattle.shape.proofs.Valid.{shape-passed, data-length-le, volume-le, bytes_le}
use Rattle.stopping.specs.Stopping.{number}
use Rattle.stopping.proofs.Number.{number-le}
use Rattle.pack.specs.Packs.{sends, air_size, pack_size}
use Rattle.pack.specs.Reading.{header_with, header_for}
use Rattle.pack.proofs.Sound.{cells_le}
use Rattle.pack.specs.declared.Header.{Header}
use Rattle.pack_writer.specs.Writing.{size_checked}
use Rattle.jibrufath.specs.Exports.{whole, beside, packed, truth}
use Rattle.jibrufath.specs.Needs.{needs_of}
use Rattle.jibrufath.proofs.Words.{refusal-number, refusal-beside, checked-below}

pub record Bounded (z : Sizes) : Type 0 where
  pub cells_le : z.cells ≤ 16581375
  pub bytes_le : z.bytes ≤ 268435456
  pub capacity_le : z.capacity ≤ 16979328000

pub sizes-bounded : (sh : Shape) (z : Sizes) → shape_checked sh ≡ passes z → Bounded z
unfolding sizes cells capacity
sizes-bounded sh z e =
    let (v, same) = shape-passed sh z e in
    let volume = volume-le _ _ _ (data-length-le _ v.l1_high) (data-length-le _ v.l2_high) (data-length-le _ v.l3_high) in
    record {
      cells_le = rw same (volume-le _ _ _ v.l1_high v.l2_high v.l3_high);
      bytes_le = rw same v.volume;
      capacity_le = rw same (bytes_le _ _ v.w_high volume);
    }

-- ---- a count, taken out of what a call answers

-- its word carries the count, where a call of the closure answers that
pub size-taken : {B : Type 0} (size : B → ℕ) (Call : B → ℕ → Type 0) (r : Result B Refusal) (m : Result ℕ Refusal)
    → MatchResult r (λ z. IsOkAnd m (Call z)) (λ f. m ≡ Err f) → ((z : B) (n : ℕ) → Call z n → n ≡ size z)
    → (packed whole (value_of m) ≡ packed size (value_of r)) × (beside whole (value_of m) ≡ beside size (value_of r))
unfolding packed beside whole value_of number_of
size-taken size Call (Ok z) (Ok n) h call = let e = call z n h in (rw e, e)
size-taken size Call (Ok z) (Err f) h call = absurd h
size-taken {B} size Call (Err f) m h call =
    let above = refusal-beside whole f ∙ sym (refusal-beside size f) in
    let number = refusal-number ℕ f ∙ sym (refusal-number B f) in
    (rw (h, number, above), rw h above)

-- 1 for true, 0 for false
pub truth-from : (b : Bool) (n : ℕ) → n ≡ from_bool b → n ≡ truth b
unfolding truth
truth-from true n e = e
truth-from false n e = e

module _ (size : Sizes → ℕ) (Call : Sizes → ℕ → Type 0) (sh : Shape) (r : Result Sizes Refusal) (m : Result ℕ Refusal)
    (measured : value_of r ≡ checked (shape_checked sh)) (taken : MatchResult r (λ z. IsOkAnd m (Call z)) (λ f. m ≡ Err f))
    (call : (z : Sizes) (n : ℕ) → Call z n → n ≡ size z) where
  pub size-lt : ((z : Sizes) → Bounded z → size z < 2 ^ 45) → beside whole (value_of m) < 2 ^ 45
  size-lt small =
      rw ((size-taken size Call r m taken call).1, measured)
      (checked-below size (shape_checked sh) (2 ^ 45) (omega arith) (λ z e. small z (sizes-bounded sh z e)))

  pub size-packed : packed whole (value_of m) ≡ packed size (checked (shape_checked sh))
  size-packed = (size-taken size Call r m taken call).0 ∙ ap (packed size) measured

-- ---- the size of a pack

-- a size was told of a valid shape, and is its pack's
size-valid : (sh : Shape) (n : ℕ) → size_checked sh ≡ passes n → Valid sh × (n ≡ pack_size (header_for sh))
unfolding size_checked
size-valid sh n e =
    let (z, passed, same) = then-passed (shape_checked sh) _ n e in
    ((shape-passed sh z passed).0, sym (passes-injective _ _ same))

pub pack-size-le : (sh : Shape) (n : ℕ) → size_checked sh ≡ passes n → n ≤ 17230233617
unfolding pack_size air_size header_for header_with
pack-size-le sh n e =
    let (v, same) = size-valid sh n e in
    let few : number (sends (header_for sh)) (cells sh) ≤ 16777216 = omega (arith, number-le (sends (header_for sh)) (cells sh), cells_le sh v) in
    let w : 3 + sh.w ≤ 1027 = omega (arith, v.w_high) in
    omega (arith, mul-le-mul few w)

-- ---- what a pack's calls are lent

pub needs-listed : (h : Header) (z : Sizes) (n : ℕ) → z ≡ sizes h.shape → n ≡ pack_size h
    → h.shape.l1 ∷ h.shape.l2 ∷ h.shape.l3 ∷ h.shape.w ∷ z.cells ∷ z.bytes ∷ z.capacity ∷ (z.capacity - 4) ∷ n ∷ h.used ∷ 0 ∷ 0 ∷ 0 ∷ 0 ∷ 0 ∷ 0 ∷ []
    ≡ needs_of h
unfolding needs_of sizes
needs-listed h z n e f = rw (e, f)
