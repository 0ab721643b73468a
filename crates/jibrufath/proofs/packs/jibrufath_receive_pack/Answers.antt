-- `jibrufath::packs::jibrufath_receive_pack` meets its contract.
use native.Mathlib.Omega.{arith}
use mathlib.Core.Path.{refl}
use Prim.Native.Nat.{ℕ}
use Rattle.receiver.specs.Receive.{received_value, received_counts}
use Rattle.jibrufath.specs.Packs.{reception_left}
use Rattle.jibrufath.proofs.Words.{refusal-beside, refused-packed}
use Rattle.jibrufath.proofs.Endings.{refused-places}
use Rattle.jibrufath.proofs.Places.{receive-place-lt}
use Rattle.jibrufath.proofs.packs.jibrufath_receive_pack.Goals as goal

pub refusal_word-requires : goal.refusal_word-requires
unfolding received_value
refusal_word-requires c =
    omega (arith, refusal-beside reception_left c.in-Err.f, receive-place-lt c.in-Err.ensures (λ (i : ℕ). omega (arith, c.type_inv.air i)))

pub returns-in-Err : goal.returns-in-Err
unfolding received_value received_counts
returns-in-Err c =
    record {
      value = _;
      counted = _;
      outcome = c.in-Err.ensures;
      word_packed = refused-packed reception_left _ c.in-Err.f refl _ c.refusal_word.ensures;
      counts_placed = refused-places c.in-Err.f;
    }

pub ending_word-requires : goal.ending_word-requires
unfolding received_value
ending_word-requires c = receive-place-lt c.in-Ok.ensures (λ (i : ℕ). omega (arith, c.type_inv.air i))

pub returns-in-Ok : goal.returns-in-Ok
unfolding received_value received_counts
returns-in-Ok c =
    record {
      value = _;
      counted = _;
      outcome = c.in-Ok.ensures;
      word_packed = c.ending_word.ensures;
      counts_placed = c.receive_counts.ensures;
    }
