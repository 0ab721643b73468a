-- The two ways out of each public call, refused with nothing changed and done; what a caller learns from an outcome; and that the inputs determine
-- the answer and every lent byte.
use Rattle.std.specs.Prelude.{Result, Ok, Err, IsErrAnd}
use Rattle.std.proofs.lemmas.Result.{err_from_is_err_and}
use mathlib.Core.Path.{◌≡◌, refl, sym, ap, ◌∙◌}
use mathlib.Core.Bool.{Bool, false, false≢true}
use mathlib.Core.List.{List}
use mathlib.Core.Logic.{◌≢◌}
use Prim.Native.Nat.{ℕ, ◌-◌, ◌≤◌, ◌<◌}
use lib.ListN.{length}
use Rattle.answer.specs.declared.Refusal.{Refusal}
use Rattle.answer.specs.Values.{Value, gives, refused, passes, checked, refusal, value_of}
use Rattle.answer.proofs.Values.{gives-injective, fails-injective, passes-fails, refusal-gives, checked-fails}
use Rattle.span.specs.Span.{Copied, SetTo}
use Rattle.span.proofs.Putting.{set-put}
use Rattle.shape.specs.declared.Shape.{Shape}
use Rattle.shape.specs.Shapes.{capacity}
use Rattle.data.specs.Data.{HoldsData, data_of, held_data, ParityKept}
use Rattle.span.specs.Decision.{Decides}
use Rattle.span.proofs.Decision.{decides-same}
use Rattle.data.specs.Calls.{slices_checked, cube_checked, read_checked, write_checked, ExtractOutcome, extract_refused, extract_done, ReadOutcome, read_refused, read_done, WriteOutcome, write_refused, write_done, SetOutcome, set_refused, set_done, ZeroOutcome, zero_refused, zero_done}
use Rattle.data.proofs.Checks.{cube-checked-done, read-checked-done}
use Rattle.data.proofs.HeldData.{held_data-holds}
use Rattle.data.proofs.Reading.{copied-determined, some-nonzero}
use Rattle.data.proofs.Writing.{data-determined}

-- ---- what the calls leave

-- what a `?` hands on is a refusal
pub refused-by : {A : Type 0} (P : Value A → Type 0) (f : Refusal) (answer : Result A Refusal) → IsErrAnd answer (λ g. g ≡ f)
    → P (refusal f) → P (value_of answer)
unfolding value_of
refused-by P f answer e p = let (g, is, same) = err_from_is_err_and answer e in rw (is, same) p

module _ (sh : Shape) (f : Refusal) where
  pub extract-unfit : (xs ds : List ℕ) → refusal {A = Unit} f ≡ checked (slices_checked sh (length ds) (length xs))
      → (answer : Result Unit Refusal) → IsErrAnd answer (λ g. g ≡ f) → ExtractOutcome sh xs ds ds (value_of answer)
  extract-unfit xs ds e answer r =
      let (n, failed, value) = checked-fails {B = Unit} (slices_checked sh (length ds) (length xs)) f e in
      refused-by (ExtractOutcome sh xs ds ds) f answer r (rw value (extract_refused n failed refl))

  pub read-unfit : (xs : List ℕ) (from to n : ℕ) (ds : List ℕ) → refusal {A = Unit} f ≡ checked (read_checked sh (length xs) (length ds) from to n)
      → (answer : Result Unit Refusal) → IsErrAnd answer (λ g. g ≡ f) → ReadOutcome sh xs from to n ds ds (value_of answer)
  read-unfit xs from to n ds e answer r =
      let (k, failed, value) = checked-fails {B = Unit} (read_checked sh (length xs) (length ds) from to n) f e in
      refused-by (ReadOutcome sh xs from to n ds ds) f answer r (rw value (read_refused k failed refl))

  pub write-unfit : (src : List ℕ) (from to n : ℕ) (xs : List ℕ) → refusal {A = Unit} f ≡ checked (write_checked sh (length xs) (length src) from to n)
      → (answer : Result Unit Refusal) → IsErrAnd answer (λ g. g ≡ f) → WriteOutcome sh src from to n xs xs (value_of answer)
  write-unfit src from to n xs e answer r =
      let (k, failed, value) = checked-fails {B = Unit} (write_checked sh (length xs) (length src) from to n) f e in
      refused-by (WriteOutcome sh src from to n xs xs) f answer r (rw value (write_refused k failed refl))

  pub set-unfit : (from v : ℕ) (xs : List ℕ) → refusal {A = Unit} f ≡ checked (cube_checked sh (length xs))
      → (answer : Result Unit Refusal) → IsErrAnd answer (λ g. g ≡ f) → SetOutcome sh from v xs xs (value_of answer)
  set-unfit from v xs e answer r =
      let (n, failed, value) = checked-fails {B = Unit} (cube_checked sh (length xs)) f e in
      refused-by (SetOutcome sh from v xs xs) f answer r (rw value (set_refused n failed refl))

  pub zero-unfit : (xs : List ℕ) (from : ℕ) → refusal {A = Unit} f ≡ checked (cube_checked sh (length xs))
      → (answer : Result Bool Refusal) → IsErrAnd answer (λ g. g ≡ f) → ZeroOutcome sh xs from (value_of answer)
  zero-unfit xs from e answer r =
      let (n, failed, value) = checked-fails {B = Bool} (cube_checked sh (length xs)) f e in
      refused-by (ZeroOutcome sh xs from) f answer r (rw value (zero_refused n failed))

-- ---- what a caller learns: a call whose checks pass is done

pub extract-works : {sh : Shape} {xs before after : List ℕ} {v : Value Unit} → slices_checked sh (length before) (length xs) ≡ passes tt
    → ExtractOutcome sh xs before after v → (v ≡ gives tt) × (after ≡ held_data sh xs)
extract-works e (extract_refused n f kept) = absurd (passes-fails tt n (sym e ∙ f))
extract-works e (extract_done checks same) = (refl, same)

pub extract-holds : (sh : Shape) (xs before after : List ℕ) → ExtractOutcome sh xs before after (gives tt) → HoldsData sh xs after
extract-holds sh xs before after (extract_done checks same) = rw same (held_data-holds sh xs)

pub read-works : {sh : Shape} {xs : List ℕ} {from to n : ℕ} {before after : List ℕ} {v : Value Unit}
    → read_checked sh (length xs) (length before) from to n ≡ passes tt → ReadOutcome sh xs from to n before after v
    → (v ≡ gives tt) × Copied (held_data sh xs) from before to n after
read-works e (read_refused n f kept) = absurd (passes-fails tt n (sym e ∙ f))
read-works e (read_done checks copied) = (refl, copied)

pub write-works : {sh : Shape} {src : List ℕ} {from to n : ℕ} {before after : List ℕ} {v : Value Unit}
    → write_checked sh (length before) (length src) from to n ≡ passes tt → WriteOutcome sh src from to n before after v
    → (v ≡ gives tt) × Copied src from (held_data sh before) to n (held_data sh after) × ParityKept sh before after
write-works e (write_refused n f kept) = absurd (passes-fails tt n (sym e ∙ f))
write-works e (write_done checks copied kept) = (refl, copied, kept)

pub set-works : {sh : Shape} {from v : ℕ} {before after : List ℕ} {answer : Value Unit}
    → cube_checked sh (length before) ≡ passes tt → SetOutcome sh from v before after answer
    → (answer ≡ gives tt) × SetTo (held_data sh before) from (capacity sh - from) v (held_data sh after) × ParityKept sh before after
set-works e (set_refused n f kept) = absurd (passes-fails tt n (sym e ∙ f))
set-works e (set_done checks set kept) = (refl, set, kept)

zero-given : {sh : Shape} {xs : List ℕ} {from : ℕ} {v : Value Bool} → cube_checked sh (length xs) ≡ passes tt → ZeroOutcome sh xs from v
    → (b : Bool) × (v ≡ gives b) × Decides ((q : ℕ) → from ≤ q → q < capacity sh → data_of sh xs q ≡ 0) b
zero-given e (zero_refused n f) = absurd (passes-fails tt n (sym e ∙ f))
zero-given e (zero_done b checks d) = (b, refl, d)

zero_is : (r : Result Bool Refusal) (b : Bool) → value_of r ≡ gives b → r ≡ Ok b
unfolding value_of
zero_is (Ok a) b e = ap Ok (gives-injective a b e)
zero_is (Err f) b e = absurd (refusal-gives f b e)

pub zero-works : {sh : Shape} {xs : List ℕ} {from : ℕ} (answer : Result Bool Refusal) → cube_checked sh (length xs) ≡ passes tt
    → ZeroOutcome sh xs from (value_of answer)
    → (b : Bool) × (answer ≡ Ok b) × Decides ((q : ℕ) → from ≤ q → q < capacity sh → data_of sh xs q ≡ 0) b
zero-works answer e o = let (b, value, d) = zero-given e o in (b, zero_is answer b value, d)

-- an answer that is not true names a byte of the data string that is not 00h
pub zero-nonzero : (sh : Shape) (xs : List ℕ) (from : ℕ) (b : Bool) → Decides ((q : ℕ) → from ≤ q → q < capacity sh → data_of sh xs q ≡ 0) b
    → b ≡ false → (q : ℕ) × (from ≤ q) × (q < capacity sh) × (data_of sh xs q ≢ 0)
zero-nonzero sh xs from b d e = some-nonzero (data_of sh xs) from (capacity sh) (λ all. false≢true (sym e ∙ d.yes_when all))

-- ---- the inputs determine the answer and every lent byte

pub extract-determined : {sh : Shape} {xs before after after' : List ℕ} {v v' : Value Unit}
    → ExtractOutcome sh xs before after v → ExtractOutcome sh xs before after' v' → (v ≡ v') × (after ≡ after')
extract-determined (extract_refused n e kept) (extract_refused m f kept') = (ap refused (fails-injective n m (sym e ∙ f)), kept ∙ sym kept')
extract-determined (extract_refused n e kept) (extract_done f same) = absurd (passes-fails tt n (sym f ∙ e))
extract-determined (extract_done e same) (extract_refused n f kept) = absurd (passes-fails tt n (sym e ∙ f))
extract-determined (extract_done e same) (extract_done f same') = (refl, same ∙ sym same')

pub read-determined : {sh : Shape} {xs : List ℕ} {from to n : ℕ} {before after after' : List ℕ} {v v' : Value Unit}
    → ReadOutcome sh xs from to n before after v → ReadOutcome sh xs from to n before after' v' → (v ≡ v') × (after ≡ after')
read-determined (read_refused n e kept) (read_refused m f kept') = (ap refused (fails-injective n m (sym e ∙ f)), kept ∙ sym kept')
read-determined (read_refused n e kept) (read_done f copied) = absurd (passes-fails tt n (sym f ∙ e))
read-determined (read_done e copied) (read_refused n f kept) = absurd (passes-fails tt n (sym e ∙ f))
read-determined (read_done e copied) (read_done f copied') = (refl, copied-determined _ _ _ _ _ _ _ copied copied')

pub write-determined : {sh : Shape} {src : List ℕ} {from to n : ℕ} {before after after' : List ℕ} {v v' : Value Unit}
    → WriteOutcome sh src from to n before after v → WriteOutcome sh src from to n before after' v' → (v ≡ v') × (after ≡ after')
write-determined (write_refused n e kept) (write_refused m f kept') = (ap refused (fails-injective n m (sym e ∙ f)), kept ∙ sym kept')
write-determined (write_refused n e kept) (write_done f copied' kept') = absurd (passes-fails tt n (sym f ∙ e))
write-determined (write_done e copied kept) (write_refused n f kept') = absurd (passes-fails tt n (sym e ∙ f))
write-determined (write_done e copied kept) (write_done f copied' kept') =
    let (v, size, _, _) = read-checked-done _ _ _ _ _ _ e in
    (refl, data-determined _ _ _ _ v size (copied-determined _ _ _ _ _ _ _ copied copied') kept kept')

pub set-determined : {sh : Shape} {from v : ℕ} {before after after' : List ℕ} {answer answer' : Value Unit}
    → SetOutcome sh from v before after answer → SetOutcome sh from v before after' answer' → (answer ≡ answer') × (after ≡ after')
set-determined (set_refused n e kept) (set_refused m f kept') = (ap refused (fails-injective n m (sym e ∙ f)), kept ∙ sym kept')
set-determined (set_refused n e kept) (set_done f set' kept') = absurd (passes-fails tt n (sym f ∙ e))
set-determined (set_done e set kept) (set_refused n f kept') = absurd (passes-fails tt n (sym e ∙ f))
set-determined (set_done e set kept) (set_done f set' kept') =
    let (v, size) = cube-checked-done _ _ e in
    (refl, data-determined _ _ _ _ v size (copied-determined _ _ _ _ _ _ _ (set-put set) (set-put set')) kept kept')

pub zero-determined : {sh : Shape} {xs : List ℕ} {from : ℕ} {v v' : Value Bool} → ZeroOutcome sh xs from v → ZeroOutcome sh xs from v' → v ≡ v'
zero-determined (zero_refused n e) (zero_refused m f) = ap refused (fails-injective n m (sym e ∙ f))
zero-determined (zero_refused n e) (zero_done b f d) = absurd (passes-fails tt n (sym f ∙ e))
zero-determined (zero_done b e d) (zero_refused n f) = absurd (passes-fails tt n (sym e ∙ f))
zero-determined (zero_done a e d) (zero_done b f d') = ap gives (decides-same a b d d')
