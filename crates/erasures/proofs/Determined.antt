-- The contract of `scan_line` leaves nothing open: a line is looked at or it is not, and what is found on it is determined. What a caller of `scan`
-- learns from its answer.
use mathlib.Core.Path.{◌≡◌, sym, ◌∙◌}
use mathlib.Core.List.{List}
use mathlib.Core.Logic.{◌⊎◌, inl, inr, ⊎_elim}
use Prim.Native.Nat.{ℕ, ◌+◌, ◌-◌, ◌*◌}
use native.Mathlib.Decide.{dec_le, dec_lt}
use native.Mathlib.Omega.{arith}
use lib.ListN.{length}
use Rattle.shape.specs.Flags.{missing}
use Rattle.erasures.specs.Erasures.{Places, LineOutcome}
use Rattle.erasures.proofs.Inside.{places-last}
use Rattle.erasures.proofs.Scanning.{scanned-determined}

places-or-not : (fs : List ℕ) (first stride len : ℕ) → Places fs first stride len ⊎ (Places fs first stride len → ⊥)
places-or-not fs first stride len =
    elim (dec_le 1 len) [
      | no n ↦ inr (λ p. n p.some)
      | yes some ↦ elim (dec_le len 255) [
        | no n ↦ inr (λ p. n p.few)
        | yes few ↦ elim (dec_le stride 65025) [
          | no n ↦ inr (λ p. n p.near)
          | yes near ↦ elim (dec_lt (first + stride * (len - 1)) (length fs)) [
            | no n ↦ inr (λ p. n (p.within (len - 1) (omega arith)))
            | yes last ↦ inl (places-last fs first stride len some few near last)
          ]
        ]
      ]
    ]

pub scan-line-determined : (fs : List ℕ) (start stride len count read first last count' read' first' last' : ℕ)
    → LineOutcome fs start stride len count read first last → LineOutcome fs start stride len count' read' first' last'
    → (count ≡ count') × (read ≡ read') × (first ≡ first') × (last ≡ last')
scan-line-determined fs start stride len count read first last count' read' first' last' a b =
    ⊎_elim
    (λ p.
    let x = a.done p in
    let y = b.done p in
    let found = scanned-determined (missing fs) start stride len count first last x.0 count' first' last' y.0 in
    (found.0, x.1 ∙ sym y.1, found.1, found.2))
    (λ n.
    let x = a.refused n in
    let y = b.refused n in
    (x.0 ∙ sym y.0, x.1 ∙ sym y.1, x.2 ∙ sym y.2, x.3 ∙ sym y.3))
    (places-or-not fs start stride len)
