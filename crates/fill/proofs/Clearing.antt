-- Cells made 00h one after the other. Cell n is the w bytes from n * w on, so that the bytes of two cells are apart.
use mathlib.Core.Path.{◌≡◌, refl, sym, ap, ◌∙◌}
use mathlib.Core.Bool.{Bool, true, false, true≢false}
use mathlib.Core.List.{List}
use mathlib.Core.Logic.{◌≢◌, ◌⊎◌, inl, inr}
use Prim.Native.Nat.{ℕ, ◌+◌, ◌*◌, ◌≤◌, ◌<◌}
use native.Mathlib.Decide.{ℕ_discrete, dec_lt}
use native.Mathlib.Omega.{arith}
use lib.ListN.{length, get_or}
use Rattle.span.specs.Span.{SetTo}
use Rattle.span.proofs.Keeping.{kept-beside}
use Rattle.span.proofs.Stretches.{stretch-end}
use Rattle.shape.specs.declared.Shape.{Shape}
use Rattle.shape.specs.Shapes.{cells}
use Rattle.data.specs.Data.{layer}
use Rattle.fill.specs.Fill.{Cleared}
use Rattle.peel.specs.Peel.{Sized}

pub cells-apart : (n m w t : ℕ) → n ≢ m → t < w → (n * w + t < m * w) ⊎ (m * w + w ≤ n * w + t)
cells-apart n m w t ne l =
    elim (dec_lt n m) [
      | yes a ↦ inl (omega (arith, stretch-end n m w a))
      | no b ↦ let a : m < n = omega arith in inr (omega (arith, stretch-end m n w a))
    ]

pub set-cell : (n m w t : ℕ) (xs ys : List ℕ) → SetTo xs (m * w) w 0 ys → n ≢ m → t < w → get_or ys (n * w + t) 0 ≡ get_or xs (n * w + t) 0
set-cell n m w t xs ys z ne l = kept-beside z.kept (n * w + t) (cells-apart n m w t ne l)

pub cell_room : (sh : Shape) (xs fs : List ℕ) → Sized sh xs fs → (n : ℕ) → n < length fs → n * sh.w + sh.w ≤ length xs
cell_room sh xs fs z n l =
    let m : n < cells sh = omega (arith, z.flags) in
    omega (arith, z.bytes, stretch-end n (cells sh) sh.w m)

-- the cells of M below `bound` are 00h, all others as they were
pub record ClearedTo (w : ℕ) (M : ℕ → Bool) (bound : ℕ) (xs ys : List ℕ) : Type 0 where
  pub size : length ys ≡ length xs
  pub missing : (n t : ℕ) → n < bound → t < w → M n ≡ true → get_or ys (n * w + t) 0 ≡ 0
  pub known : (n t : ℕ) → t < w → M n ≡ false → get_or ys (n * w + t) 0 ≡ get_or xs (n * w + t) 0
  pub later : (n t : ℕ) → t < w → bound ≤ n → get_or ys (n * w + t) 0 ≡ get_or xs (n * w + t) 0

module _ (w : ℕ) (M : ℕ → Bool) where
  pub cleared-none : (xs : List ℕ) → ClearedTo w M 0 xs xs
  cleared-none xs =
      record { size = refl; missing = λ n t l m e. absurd (omega arith); known = λ n t l e. refl; later = λ n t l b. refl }

  pub cleared-skip : (n : ℕ) (xs ys : List ℕ) → ClearedTo w M n xs ys → M n ≡ false → ClearedTo w M (n + 1) xs ys
  cleared-skip n xs ys h e =
      record {
        size = h.size;
        missing = λ m t l b f.
            elim (ℕ_discrete m n) [ yes g ↦ absurd (true≢false (sym f ∙ ap M g ∙ e)) | no ne ↦ h.missing m t (omega arith) b f ];
        known = h.known;
        later = λ m t l b. h.later m t l (omega arith);
      }

  pub cleared_more : (n : ℕ) (xs ys zs : List ℕ) → ClearedTo w M n xs ys → M n ≡ true → SetTo ys (n * w) w 0 zs → ClearedTo w M (n + 1) xs zs
  cleared_more n xs ys zs h e z =
      record {
        size = z.kept.size ∙ h.size;
        missing = λ m t l b f.
            elim (ℕ_discrete m n) [
              | yes g ↦ rw g (z.bytes t b)
              | no ne ↦ set-cell m n w t ys zs z ne b ∙ h.missing m t (omega arith) b f
            ];
        known = λ m t l f. set-cell m n w t ys zs z (λ g. true≢false (sym e ∙ sym (ap M g) ∙ f)) l ∙ h.known m t l f;
        later = λ m t l b. set-cell m n w t ys zs z (omega arith) l ∙ h.later m t l (omega arith);
      }

pub cleared-all : (sh : Shape) (M : ℕ → Bool) (xs ys : List ℕ) → ClearedTo sh.w M (cells sh) xs ys → Cleared sh xs M ys
unfolding layer
cleared-all sh M xs ys h =
    record { size = h.size; known = λ n t l b e. h.known n t b e; missing = λ n t l b e. h.missing n t l b e }

pub cleared-sized : (sh : Shape) (xs fs : List ℕ) (M : ℕ → Bool) (ys : List ℕ) → Sized sh xs fs → Cleared sh xs M ys → Sized sh ys fs
cleared-sized sh xs fs M ys z c = record { valid = z.valid; bytes = c.size ∙ z.bytes; flags = z.flags }
