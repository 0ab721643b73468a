-- The kinds of characters three apart, as `pairs` compares them: the windows of four characters give the differences, and these, joined by or,
-- are 0 exactly when each is.
use Rattle.std.specs.Prelude.{Some, None}
use mathlib.Core.Path.{◌≡◌, refl, sym, ap, ap₂, ◌∙◌}
use mathlib.Core.Bool.{Bool, true, false}
use mathlib.Core.List.{List, [], ◌∷◌}
use Prim.Native.Nat.{ℕ, zero, suc, ◌+◌, ◌-◌, ◌*◌, ◌≤◌, ◌<◌}
use native.Mathlib.Omega.{arith}
use denote.Ref.{Bor}
use lib.Bits.{bit_or, bit_xor}
use lib.ListN.{length, get_or, take, drop, length-drop}
use lib.Dec.{ltb, eqb}
use lib.Seq.{get_or-take, get_or-drop, drop-drop}
use borrow.Author.Tests.{ltb-true, ltb-false}
use Rattle.span.specs.Decision.{Decides}
use Rattle.span.proofs.Decision.{decides_eq}
use Rattle.std.specs.List.{fold}
use Rattle.std.specs.Slice.Iter.{windows_rest, windows_size, windows_steps}
use Rattle.std.specs.declared.slice.Windows.{Windows}
use Rattle.std.proofs.lemmas.Iterator.{YieldsList}
use Rattle.std.proofs.lemmas.Iterator.Splits.{YieldsList-from_shown_while}
use Rattle.span.proofs.Joining.{or-zero, xor-zero, xor_same}
use Rattle.text.specs.Inner.Lines.{char_kind, Pair, Pairs}
use Rattle.text.proofs.Hexadecimal.{alike-pairs, pairs-alike}

-- how the first of a list's characters and the third behind it differ
unfoldable pub difference : List ℕ → ℕ
difference t = bit_xor (char_kind (get_or t 0 0)) (char_kind (get_or t 3 0))

-- the first n differences
unfoldable pub differences : List ℕ → ℕ → List ℕ
differences t zero = []
differences t (suc n) = difference t ∷ differences (drop 1 t) n

differences-at : (t : List ℕ) (n i : ℕ) → i < n → get_or (differences t n) i 0 ≡ difference (drop i t)
unfolding differences
differences-at t zero i l = absurd (omega arith)
differences-at t (suc n) zero l = refl
differences-at t (suc n) (suc i) l =
    let place : 1 + i ≡ suc i = omega arith in
    differences-at (drop 1 t) n i (omega arith) ∙ ap difference (drop-drop i 1 t ∙ ap (λ (k : ℕ). drop k t) place)

differences-past : (t : List ℕ) (n i : ℕ) → n ≤ i → get_or (differences t n) i 0 ≡ 0
unfolding differences
differences-past t zero i l = refl
differences-past t (suc n) zero l = absurd (omega arith)
differences-past t (suc n) (suc i) l = differences-past (drop 1 t) n i (omega arith)

-- a window of four has the difference of what it begins
windowed : (t : List ℕ) (n : ℕ) → 3 < n → difference (take n t) ≡ difference t
unfolding difference
windowed t n l =
    ap₂ (λ (a b : ℕ). bit_xor (char_kind a) (char_kind b)) (get_or-take n t 0 0 (omega arith)) (get_or-take n t 3 0 l)

module _ where
  shown : Windows ℕ → List ℕ
  shown s = differences (windows_rest s) (length (windows_rest s) - 3)

  none-left : (s u : Windows ℕ) → windows_size s ≡ 4 → windows_steps s None u → length (shown s) ≡ 0
  unfolding shown differences
  none-left s u size h =
      let none : length (windows_rest s) - 3 ≡ 0 = omega (arith, h.1.0) in
      ap (λ (n : ℕ). length (differences (windows_rest s) n)) none

  one-left : (s : Windows ℕ) (x : Bor (List ℕ)) (u : Windows ℕ) → windows_size s ≡ 4 → windows_steps s (Some x) u
      → (windows_size u ≡ 4) × (shown s ≡ difference x.now ∷ shown u)
  unfolding shown differences
  one-left s x u size h =
      let t = windows_rest s in
      let rest : windows_rest u ≡ drop 1 t = h.1.2 in
      let fewer : length t - 3 ≡ suc (length (windows_rest u) - 3) = omega (arith, h.1.0, ap length rest, length-drop 1 t) in
      let first : difference t ≡ difference x.now = sym (ap difference h.1.1 ∙ windowed t (windows_size s) (omega arith)) in (
        h.0 ∙ size,
        ap (differences t) fewer ∙ (λ i. first i ∷ differences (sym rest i) (length (windows_rest u) - 3)),
      )

-- the windows of four give them
pub windows-give : (s : Windows ℕ) (t : List ℕ) (n : ℕ) → windows_size s ≡ 4 → windows_rest s ≡ t → n ≡ length t - 3
    → YieldsList windows_steps (λ x. difference x.now) s (differences t n)
unfolding shown
windows-give s t n size rest many =
    rw (many, sym rest) (YieldsList-from_shown_while windows_steps (λ x. difference x.now) shown (λ u. windows_size u ≡ 4) none-left one-left s size)

-- ---- joined by or

all-zero : (xs : List ℕ) (a : ℕ) → fold bit_or a xs ≡ 0 → (a ≡ 0) × ((i : ℕ) → get_or xs i 0 ≡ 0)
all-zero [] a e = (e, λ i. refl)
all-zero (x ∷ xs) a e =
    let (joined, rest) = all-zero xs (bit_or a x) e in
    let (before, here) = or-zero a x joined in
    (before, below x xs here rest)
  where
    below : (x : ℕ) (xs : List ℕ) → x ≡ 0 → ((i : ℕ) → get_or xs i 0 ≡ 0) → (i : ℕ) → get_or (x ∷ xs) i 0 ≡ 0
    below x xs h r zero = h
    below x xs h r (suc i) = r i

zero-all : (xs : List ℕ) → ((i : ℕ) → get_or xs i 0 ≡ 0) → fold bit_or 0 xs ≡ 0
zero-all [] h = refl
zero-all (x ∷ xs) h = rw (h 0) (zero-all xs (λ i. h (suc i)))

-- every character is of the kind of the third before it exactly when the differences are 0 together
pub pairs-told : (t : List ℕ) (at w r : ℕ) → at + 3 * w ≤ length t → Pair t at → 0 < w
    → r ≡ fold bit_or 0 (differences (take (3 * w) (drop at t)) (3 * w - 3)) → Decides (Pairs t at w) (eqb r 0)
unfolding difference
pairs-told t at w r inside first some e =
    decides_eq _ _
    (λ h. e ∙ zero-all (differences line n) (λ i. zero-at h i (ltb i n) refl))
    (λ z. pairs-alike t at w first (λ i l. xor-zero _ _ (sym (place i l) ∙ (all-zero (differences line n) 0 (sym e ∙ z)).1 i)))
  where
    line : List ℕ
    line = take (3 * w) (drop at t)

    n : ℕ
    n = 3 * w - 3

    char : (i k j : ℕ) → i + k < 3 * w → at + (i + k) ≡ j → get_or (drop i line) k 0 ≡ get_or t j 0
    char i k j l here =
        get_or-drop i line k 0
        ∙ (get_or-take (3 * w) (drop at t) (i + k) 0 l ∙ (get_or-drop at t (i + k) 0 ∙ ap (λ (m : ℕ). get_or t m 0) here))

    place : (i : ℕ) → i < n → get_or (differences line n) i 0 ≡ bit_xor (char_kind (get_or t (at + i) 0)) (char_kind (get_or t (at + 3 + i) 0))
    place i l =
        differences-at line n i l
        ∙ ap₂ (λ (a b : ℕ). bit_xor (char_kind a) (char_kind b))
        (char i 0 (at + i) (omega arith) (omega arith)) (char i 3 (at + 3 + i) (omega arith) (omega arith))

    zero-at : Pairs t at w → (i : ℕ) (b : Bool) → ltb i n ≡ b → get_or (differences line n) i 0 ≡ 0
    zero-at h i true l = let below = ltb-true i n l in place i below ∙ xor_same _ _ (alike-pairs t at w h i below)
    zero-at h i false l = differences-past line n i (ltb-false i n l)
