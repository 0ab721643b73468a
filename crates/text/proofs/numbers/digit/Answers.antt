-- `text::numbers::digit` meets its contract.
use Rattle.std.proofs.Common.{rules}
use mathlib.Core.Path.{◌≡◌, refl, ◌∙◌}
use mathlib.Core.Bool.{Bool, true, false}
use mathlib.Core.List.{List}
use Prim.Native.Nat.{ℕ, ◌+◌, ◌-◌, ◌<◌}
use native.Mathlib.Omega.{arith}
use lib.ListN.{length, get_or, get_or-eq_default}
use Rattle.std.specs.Prelude.{Option, Some, None, is_some, IfSome}
use Rattle.std.specs.Bool.{MatchBool}
use Rattle.std.specs.Char.{IsAsciiDigit, IsNotAsciiDigit}
use Rattle.text.specs.Inner.Numbers.{DigitOutcome, digit_found, digit_nothing}
use Rattle.text.proofs.Standing.{cons-path, drop_head, drop-one}
use Rattle.text.proofs.numbers.digit.Goals as goal

pub returns-in_err-c : goal.returns-in_err-c
returns-in_err-c c =
    let a = c.args in
    rw c.from_residual.ensures
    (digit_nothing (rw (drop_head a.text.now a.at, get_or-eq_default a.text.now 0 {n = a.at} c.in_err-c.ensures.lookup.3) (omega arith)))

-- the answer to the test of a character, with the digit's value where it is one
told : {P : ℕ → Type 0} (t : List ℕ) (at x : ℕ) (r : Option ℕ) (b : Bool) → at < length t → get_or t at 0 ≡ x
    → MatchBool b (IsAsciiDigit x) (IsNotAsciiDigit x) → is_some r ≡ b → IfSome r P → ((d : ℕ) → P d → d ≡ x - 48) → DigitOutcome t at r
told t at x None true l e h s p v = absurd (let z : ◌≡◌ {A = ℕ} 0 1 = cc in omega arith)
told t at x None false l e h s p v = digit_nothing (rw (drop_head t at) (omega (arith, h)))
told t at x (Some d) true l e h s p v =
    let value = v d p in
    let here : get_or t at 0 ≡ 48 + d = omega (arith, h) in
    digit_found d (omega (arith, h)) l (drop-one t at l ∙ cons-path here refl)
told t at x (Some d) false l e h s p v = absurd (let z : ◌≡◌ {A = ℕ} 0 1 = cc in omega arith)

pub returns : goal.returns
returns c =
    let (inside, value) = c.in_ok-c.ensures.lookup.3 in
    told c.args.text.now c.args.at c.in_ok-c.field-0.now _ _ inside (omega (arith, value 0)) c.is_ascii_digit.ensures.cases c.then.ensures.variant c.then.ensures.some (λ d h. search rules)
