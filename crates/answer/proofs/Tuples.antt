-- What equal tuples say of their parts.
use Rattle.std.specs.Prelude.{◌≡◌, Option, Some}
use mathlib.Core.Path.{ap}

pub some-four : {A B C D : Type 0} (a a' : A) (b b' : B) (c c' : C) (d d' : D)
    → ◌≡◌ {A = Option (A × B × C × D)} (Some (a, b, c, d)) (Some (a', b', c', d')) → (a ≡ a') × (b ≡ b') × (c ≡ c') × (d ≡ d')
some-four {A} {B} {C} {D} a a' b b' c c' d d' e =
    let same : ◌≡◌ {A = A × B × C × D} (a, b, c, d) (a', b', c', d') = cc in (
      ap (λ (x : A × B × C × D). x.0) same,
      ap (λ (x : A × B × C × D). x.1) same,
      ap (λ (x : A × B × C × D). x.2) same,
      ap (λ (x : A × B × C × D). x.3) same,
    )
