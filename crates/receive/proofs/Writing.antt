-- From the bytes that were read and the pieces that were written to what the program does to its reader and its writer.
use Rattle.std.proofs.Common.{◌≡◌, sym, List, ◌++◌, ℕ, ◌+◌, take, OnOk, append_assoc, append-nil, add-one, zero-add}
use Rattle.std.specs.Prelude.{Option, None, Some, IfSome, Result, Ok, Err}
use Rattle.std.specs.Option.{option_map}
use Rattle.std.specs.Io.KnownBytes.{Appends}
use Rattle.receive.specs.declared.receiving.Outcome.{Outcome}
use Rattle.receive.specs.Outcomes.{InputOutcome}
use Rattle.receive.specs.Printed.{joined, printed}
use Rattle.receive.specs.Pieces.{piece, pieces, PiecesJoined}
use Rattle.receive.specs.Writes.{text, Writes}
use Rattle.receive.proofs.Whole.{pieces-joined}

-- so many pieces are written, each behind those before it
pub appends_none : (known : Option (List ℕ)) (fs bs : List ℕ) (o : Outcome) → Appends known known (joined (piece fs bs o) 0 0)
unfolding joined
appends_none None fs bs o = tt
appends_none (Some xs) fs bs o = sym (append-nil xs)

appends-append : (before between after : Option (List ℕ)) (x y : List ℕ) → Appends before between x → Appends between after y → Appends before after (x ++ y)
appends-append None between after x y a b = tt
appends-append (Some xs) None after x y a b = elim a [ ]
appends-append (Some xs) (Some ys) None x y a b = elim b [ ]
appends-append (Some xs) (Some ys) (Some zs) x y a b = rw (b, a) (append_assoc xs x y)

pub appends_more : (before between after : Option (List ℕ)) (fs bs : List ℕ) (o : Outcome) (k : ℕ) (out : List ℕ)
    → Appends before between (joined (piece fs bs o) 0 k) → out ≡ piece fs bs o k → Appends between after out
    → Appends before after (joined (piece fs bs o) 0 (k + 1))
unfolding joined
appends_more before between after fs bs o k out a e b =
    rw (add-one k, zero-add k) (appends-append before between after (joined (piece fs bs o) 0 k) (piece fs bs o k) a (rw e at b))

-- all pieces are the whole text
pub appends-printed : (before after : Option (List ℕ)) (fs bs : List ℕ) (o : Outcome) (k : ℕ) → k ≡ pieces o
    → Appends before after (joined (piece fs bs o) 0 k) → Appends before after (printed fs bs o)
unfolding PiecesJoined
appends-printed before after fs bs o k e a = let b = rw e at a in rw (pieces-joined fs bs o) at b

pub text-written : {T E : Type 0} (r : Result T E) (input before after : Option (List ℕ)) (p fs bs : List ℕ) (o : Outcome)
    → IfSome (option_map (take 65537) input) (λ xs. p ≡ xs) → InputOutcome p fs bs o → OnOk r (Appends before after (printed fs bs o))
    → OnOk r (Writes input before after)
text-written (Err _) input before after p fs bs o e q a = tt
text-written (Ok _) None before after p fs bs o e q a = tt
text-written (Ok _) (Some xs) before after p fs bs o e q a = (printed fs bs o, rw e at (text fs bs o q), a)
