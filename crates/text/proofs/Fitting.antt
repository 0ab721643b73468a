-- The checks of a text's writer, of a pack that was read: 4, or none.
use mathlib.Core.Path.{◌≡◌}
use mathlib.Core.List.{List}
use Prim.Native.Nat.{ℕ}
use lib.ListN.{length}
use borrow.Author.Tests.{eq-eqb, ne_eqb}
use Rattle.answer.specs.Values.{passes, fails, check, and_then}
use Rattle.pack.specs.declared.Header.{Header}
use Rattle.pack.specs.declared.Section.{Section}
use Rattle.pack.specs.Reading.{plain_air_of}
use Rattle.text.specs.Text.{text_in, write_text_checked}

module _ (p : List ℕ) (h : Header) (s : Section) (read : plain_air_of p ≡ passes (h, s)) (len : ℕ) where
  pub text-short : (len ≡ length (text_in p (h, s)) → ⊥) → write_text_checked p len ≡ fails 4
  unfolding write_text_checked and_then check
  text-short differ = rw (read, ne_eqb len (length (text_in p (h, s))) differ)

  pub text-fits : len ≡ length (text_in p (h, s)) → write_text_checked p len ≡ passes (h, s)
  unfolding write_text_checked and_then check
  text-fits same = rw (read, eq-eqb len (length (text_in p (h, s))) same)
