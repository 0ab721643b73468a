-- The lengths of a cube and its flags are those of a valid shape where they are what its measure gives; where it gives none, the shape is not valid.
use Rattle.std.specs.Prelude.{Result, Ok, Err, MatchResult}
use mathlib.Core.Path.{◌≡◌, refl, sym, ap, ◌∙◌}
use mathlib.Core.Bool.{Bool, false}
use mathlib.Core.List.{List}
use Prim.Native.Nat.{ℕ}
use lib.ListN.{length}
use Rattle.answer.specs.declared.Refusal.{Refusal}
use Rattle.answer.specs.Values.{passes, checked, value_of}
use Rattle.answer.proofs.Values.{refusal-gives, value-passed, value-refused}
use Rattle.span.specs.Decision.{Decides}
use Rattle.span.proofs.Decision.{decides-no, decides-map}
use Rattle.shape.specs.declared.Shape.{Shape}
use Rattle.shape.specs.declared.Sizes.{Sizes}
use Rattle.shape.specs.Shapes.{sizes, shape_checked}
use Rattle.shape.proofs.Valid.{shape-passed, valid-passes}
use Rattle.peel.specs.Peel.{Sized}

module _ (sh : Shape) (xs fs : List ℕ) where
  module _ (z : Sizes) (fits : shape_checked sh ≡ passes z) where
    same : z ≡ sizes sh
    same = (shape-passed sh z fits).1

    pub passed-sized : length xs ≡ z.bytes → length fs ≡ z.cells → Sized sh xs fs
    unfolding sizes
    passed-sized p q =
        record {
          valid = (shape-passed sh z fits).0;
          bytes = p ∙ ap (λ (y : Sizes). y.bytes) same;
          flags = q ∙ ap (λ (y : Sizes). y.cells) same;
        }

    pub sized-bytes : Sized sh xs fs → length xs ≡ z.bytes
    unfolding sizes
    sized-bytes s = s.bytes ∙ sym (ap (λ (y : Sizes). y.bytes) same)

    pub sized-flags : Sized sh xs fs → length fs ≡ z.cells
    unfolding sizes
    sized-flags s = s.flags ∙ sym (ap (λ (y : Sizes). y.cells) same)

  pub refused-unsized : (m : Result Sizes Refusal) (f : Refusal) → value_of m ≡ checked (shape_checked sh) → m ≡ Err f → Sized sh xs fs → ⊥
  unfolding checked
  refused-unsized m f e p s = refusal-gives f (sizes sh) (value-refused m _ f e p ∙ ap checked (valid-passes sh s.valid))

  -- a test of both lengths against what the measure gives
  pub sized-decided : (m : Result Sizes Refusal) (b : Bool) → value_of m ≡ checked (shape_checked sh) → {Post : Sizes → Type 0}
      → ((z : Sizes) → Post z → Decides ((length xs ≡ z.bytes) × (length fs ≡ z.cells)) b) → MatchResult m Post (λ _. b ≡ false)
      → Decides (Sized sh xs fs) b
  sized-decided (Ok z) b h told p =
      let fits = value-passed (Ok z) _ z h refl in
      decides-map (λ (q : (length xs ≡ z.bytes) × (length fs ≡ z.cells)). passed-sized z fits q.0 q.1) (λ s. (sized-bytes z fits s, sized-flags z fits s)) (told z p)
  sized-decided (Err f) b h told p = rw p (decides-no (refused-unsized (Err f) f h refl))
