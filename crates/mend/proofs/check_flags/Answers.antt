-- `mend::check_flags` meets its contract. Assumes nothing.
use mathlib.Core.Path.{◌≡◌, sym, ◌∙◌}
use mathlib.Core.Bool.{true}
use Rattle.answer.specs.Refusals.{fault_number}
use Rattle.answer.specs.Values.{check, checked, refusal, value_of}
use Rattle.shape.specs.Flags.{flags_valid}
use Rattle.mend.specs.Mend.{whole_checked}
use Rattle.mend.proofs.check_flags.Goals as goal
use Rattle.mend.proofs.check_flags.Goals.{Else-not-valid}

valid-here : (c : Else-not-valid) → flags_valid c.args.flags.now ≡ true
valid-here c = sym c.valid.ensures ∙ c.if-not-valid.false

pub returns-then-not-valid : goal.returns-then-not-valid
unfolding whole_checked check checked value_of refusal fault_number
returns-then-not-valid c = rw (sym c.valid.ensures ∙ c.if-not-valid.true)

pub returns-then-not-none_missing : goal.returns-then-not-none_missing
unfolding whole_checked check checked value_of refusal fault_number
returns-then-not-none_missing c = rw (valid-here (goal.at.returns-then-not-none_missing c).Else-not-valid, sym c.none_missing.ensures ∙ c.if-not-none_missing.true)

pub returns : goal.returns
unfolding whole_checked check checked value_of
returns c = rw (valid-here (goal.at.returns c).Else-not-valid, sym c.none_missing.ensures ∙ c.if-not-none_missing.false)
