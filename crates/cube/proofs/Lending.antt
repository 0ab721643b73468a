-- A part of a list that is lent, `s[a..a + n]`, and what the list has when the part is back.
use mathlib.Core.Path.{◌≡◌, sym, ap, ◌∙◌}
use mathlib.Core.List.{List, ◌++◌}
use Prim.Native.Nat.{ℕ, ◌+◌, ◌-◌, ◌≤◌, ◌<◌}
use native.Mathlib.Omega.{arith}
use lib.ListN.{length, get_or, take, drop, length-take, length-drop, get_or-append}
use lib.Seq.{length-take-le, get_or-take, get_or-drop, get_or-append-add}
use borrow.Rule.Slice.PartMut.{mid_of, post_of, put_mid, drop_put}

-- the n bytes from a on, and the list with ys in their place
abbrev pub lent : ℕ → ℕ → List ℕ → List ℕ
lent a n xs = mid_of a (a + n - a) xs

abbrev pub returned : ℕ → ℕ → List ℕ → List ℕ → List ℕ
returned a n xs ys = put_mid a (a + n - a) xs ys

pub lent_length : (a n : ℕ) (xs : List ℕ) → a + n ≤ length xs → length (lent a n xs) ≡ n
lent_length a n xs room = simp (length-take, length-drop) (omega arith)

pub lent_at : (a n : ℕ) (xs : List ℕ) (p : ℕ) → p < n → get_or (lent a n xs) p 0 ≡ get_or xs (a + p) 0
lent_at a n xs p l = get_or-take (a + n - a) (drop a xs) p 0 (omega arith) ∙ get_or-drop a xs p 0

module _ (a n : ℕ) (xs ys : List ℕ) (room : a ≤ length xs) where
  pub returned-at : (p : ℕ) → p < length ys → get_or (returned a n xs ys) (a + p) 0 ≡ get_or ys p 0
  returned-at p l =
      ap (λ (m : ℕ). get_or (returned a n xs ys) (m + p) 0) (sym (length-take-le a xs room))
      ∙ get_or-append-add (take a xs) (ys ++ post_of a (a + n - a) xs) p 0
      ∙ get_or-append ys (post_of a (a + n - a) xs) 0 p l

  pub returned-below : (p : ℕ) → p < a → get_or (returned a n xs ys) p 0 ≡ get_or xs p 0
  returned-below p l =
      let inside : p < length (take a xs) = omega (arith, length-take-le a xs room) in
      get_or-append (take a xs) (ys ++ post_of a (a + n - a) xs) 0 p inside ∙ get_or-take a xs p 0 l

pub returned-above : (a n : ℕ) (xs ys : List ℕ) → a + n ≤ length xs → length ys ≡ n → (p : ℕ) → a + n ≤ p
    → get_or (returned a n xs ys) p 0 ≡ get_or xs p 0
returned-above a n xs ys room size p l =
    let at : a + n + (p - (a + n)) ≡ p = omega arith in
    rw (← at)
    (sym (get_or-drop (a + n) (returned a n xs ys) (p - (a + n)) 0)
    ∙ ap (λ (zs : List ℕ). get_or zs (p - (a + n)) 0) (drop_put a (a + n) xs ys (omega arith) room (omega arith))
    ∙ get_or-drop (a + n) xs (p - (a + n)) 0)
