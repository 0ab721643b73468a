-- A test of every element of a list, as a fold makes it that joins all tests.
use mathlib.Core.Path.{◌≡◌, refl, sym, ap, ◌∙◌}
use mathlib.Core.Bool.{Bool, true, false, ◌&&◌}
use mathlib.Core.List.{List, [], ◌∷◌}
use Prim.Native.Nat.{ℕ}
use Rattle.std.specs.List.{fold}
use Rattle.shape.specs.Shapes.{both}

both-and : (a b c : Bool) → both (a && b) c ≡ both a (both b c)
unfolding both
both-and true b c = refl
both-and false b c = refl

module _ (every : List ℕ → Bool) (test : ℕ → Bool) (at-end : every [] ≡ true) (at-cons : (x : ℕ) (xs : List ℕ) → every (x ∷ xs) ≡ both (test x) (every xs)) where
  joined : (so : Bool) (xs : List ℕ) → fold (λ b x. b && test x) so xs ≡ both so (every xs)
  unfolding both
  joined true [] = sym at-end
  joined false [] = refl
  joined so (x ∷ xs) = joined (so && test x) xs ∙ both-and so (test x) (every xs) ∙ ap (both so) (sym (at-cons x xs))

  pub every-joined : (xs : List ℕ) → fold (λ b x. b && test x) true xs ≡ every xs
  unfolding both
  every-joined xs = joined true xs
