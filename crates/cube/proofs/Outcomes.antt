-- The two ways out of each public call, refused with nothing changed and done; what a caller learns from an outcome; and that the inputs determine
-- the answer and every lent byte.
use Rattle.std.specs.Prelude.{Result, IsErrAnd}
use mathlib.Core.Path.{◌≡◌, refl, sym, ap, ◌∙◌}
use mathlib.Core.Bool.{Bool}
use mathlib.Core.List.{List}
use Prim.Native.Nat.{ℕ, ◌<◌}
use lib.ListN.{length, get_or}
use Rattle.answer.specs.declared.Refusal.{Refusal}
use Rattle.answer.specs.Values.{Value, gives, refused, passes, checked, refusal, value_of}
use Rattle.answer.proofs.Values.{fails-injective, passes-fails, checked-fails}
use Rattle.field.specs.Field.{Primitive}
use Rattle.shape.specs.declared.Shape.{Shape}
use Rattle.data.specs.Data.{HoldsData, held_data}
use Rattle.cube.specs.Cube.{CodeCube}
use Rattle.cube.specs.Encoded.{encoded}
use Rattle.cube.specs.Theorems.{OnlyCodeCube, OneCodeCube}
use Rattle.span.specs.Decision.{Decides}
use Rattle.span.proofs.Decision.{decides-same}
use Rattle.data.specs.Calls.{slices_checked, cube_checked}
use Rattle.cube.specs.Calls.{EncodeOutcome, encode_refused, encode_done, CompleteOutcome, complete_refused, complete_done, CheckOutcome, check_refused, check_done}
use Rattle.data.proofs.Checks.{checked-done}
use Rattle.data.proofs.Outcomes.{refused-by}
use Rattle.cube.proofs.Existence.{one-code-cube}

-- ---- what the calls leave

module _ (sh : Shape) (f : Refusal) where
  pub encode-unfit : (r : ℕ) (ds xs : List ℕ) → refusal {A = Unit} f ≡ checked (slices_checked sh (length ds) (length xs))
      → (answer : Result Unit Refusal) → IsErrAnd answer (λ g. g ≡ f) → EncodeOutcome r sh ds xs xs (value_of answer)
  encode-unfit r ds xs e answer g =
      let (n, failed, value) = checked-fails {B = Unit} (slices_checked sh (length ds) (length xs)) f e in
      refused-by (EncodeOutcome r sh ds xs xs) f answer g (rw value (encode_refused n failed refl))

  pub complete-unfit : (r : ℕ) (xs : List ℕ) → refusal {A = Unit} f ≡ checked (cube_checked sh (length xs))
      → (answer : Result Unit Refusal) → IsErrAnd answer (λ g. g ≡ f) → CompleteOutcome r sh xs xs (value_of answer)
  complete-unfit r xs e answer g =
      let (n, failed, value) = checked-fails {B = Unit} (cube_checked sh (length xs)) f e in
      refused-by (CompleteOutcome r sh xs xs) f answer g (rw value (complete_refused n failed refl))

  pub check-unfit : (r : ℕ) (xs : List ℕ) → refusal {A = Unit} f ≡ checked (cube_checked sh (length xs))
      → (answer : Result Bool Refusal) → IsErrAnd answer (λ g. g ≡ f) → CheckOutcome r sh xs (value_of answer)
  check-unfit r xs e answer g =
      let (n, failed, value) = checked-fails {B = Bool} (cube_checked sh (length xs)) f e in
      refused-by (CheckOutcome r sh xs) f answer g (rw value (check_refused n failed))

-- ---- what a caller learns: a call whose checks pass is done

-- the cube that was encoded is the code cube of the data, and no other is
pub encode_one : (r : ℕ) (sh : Shape) (ds before after : List ℕ) → Primitive r → ((i : ℕ) → get_or ds i 0 < 256)
    → EncodeOutcome r sh ds before after (gives tt) → OnlyCodeCube r sh ds after
unfolding OneCodeCube
encode_one r sh ds before after p bytes (encode_done checks same) =
    let (v, size, _) = checked-done sh (length ds) (length before) checks in
    rw same (one-code-cube r p sh v ds size bytes)

module _ (r : ℕ) (sh : Shape) (ds before after : List ℕ) (p : Primitive r) (bytes : (i : ℕ) → get_or ds i 0 < 256) where
  pub encode-code : EncodeOutcome r sh ds before after (gives tt) → CodeCube r sh after
  encode-code o = (encode_one r sh ds before after p bytes o).code

  pub encode-holds : EncodeOutcome r sh ds before after (gives tt) → HoldsData sh after ds
  encode-holds o = (encode_one r sh ds before after p bytes o).holds

pub encode-works : {r : ℕ} {sh : Shape} {ds before after : List ℕ} {v : Value Unit} → slices_checked sh (length ds) (length before) ≡ passes tt
    → EncodeOutcome r sh ds before after v → (v ≡ gives tt) × (after ≡ encoded r sh ds)
encode-works e (encode_refused n f kept) = absurd (passes-fails tt n (sym e ∙ f))
encode-works e (encode_done checks same) = (refl, same)

pub complete-works : {r : ℕ} {sh : Shape} {before after : List ℕ} {v : Value Unit} → cube_checked sh (length before) ≡ passes tt
    → CompleteOutcome r sh before after v → (v ≡ gives tt) × (after ≡ encoded r sh (held_data sh before))
complete-works e (complete_refused n f kept) = absurd (passes-fails tt n (sym e ∙ f))
complete-works e (complete_done checks same) = (refl, same)

pub check-decides : (r : ℕ) (sh : Shape) (xs : List ℕ) (b : Bool) → CheckOutcome r sh xs (gives b) → Decides (CodeCube r sh xs) b
check-decides r sh xs b (check_done _ checks d) = d

-- ---- the inputs determine the answer and every lent byte

pub encode-determined : {r : ℕ} {sh : Shape} {ds before after after' : List ℕ} {v v' : Value Unit}
    → EncodeOutcome r sh ds before after v → EncodeOutcome r sh ds before after' v' → (v ≡ v') × (after ≡ after')
encode-determined (encode_refused n e kept) (encode_refused m f kept') = (ap refused (fails-injective n m (sym e ∙ f)), kept ∙ sym kept')
encode-determined (encode_refused n e kept) (encode_done f same) = absurd (passes-fails tt n (sym f ∙ e))
encode-determined (encode_done e same) (encode_refused n f kept) = absurd (passes-fails tt n (sym e ∙ f))
encode-determined (encode_done e same) (encode_done f same') = (refl, same ∙ sym same')

pub complete-determined : {r : ℕ} {sh : Shape} {before after after' : List ℕ} {v v' : Value Unit}
    → CompleteOutcome r sh before after v → CompleteOutcome r sh before after' v' → (v ≡ v') × (after ≡ after')
complete-determined (complete_refused n e kept) (complete_refused m f kept') = (ap refused (fails-injective n m (sym e ∙ f)), kept ∙ sym kept')
complete-determined (complete_refused n e kept) (complete_done f same) = absurd (passes-fails tt n (sym f ∙ e))
complete-determined (complete_done e same) (complete_refused n f kept) = absurd (passes-fails tt n (sym e ∙ f))
complete-determined (complete_done e same) (complete_done f same') = (refl, same ∙ sym same')

pub check-determined : {r : ℕ} {sh : Shape} {xs : List ℕ} {v v' : Value Bool} → CheckOutcome r sh xs v → CheckOutcome r sh xs v' → v ≡ v'
check-determined (check_refused n e) (check_refused m f) = ap refused (fails-injective n m (sym e ∙ f))
check-determined (check_refused n e) (check_done b f d) = absurd (passes-fails tt n (sym f ∙ e))
check-determined (check_done b e d) (check_refused n f) = absurd (passes-fails tt n (sym e ∙ f))
check-determined (check_done a e d) (check_done b f d') = ap gives (decides-same a b d d')
