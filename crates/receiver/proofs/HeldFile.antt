-- The file in a whole cube: what its data string makes of opening it.
use Rattle.std.specs.Prelude.{Result}
use Rattle.std.specs.Result.{result_unwrap_or}
use mathlib.Core.Path.{◌≡◌, refl, sym, ap, subst, ◌∙◌}
use mathlib.Core.Bool.{Bool, true, false}
use mathlib.Core.List.{List, ◌++◌}
use Prim.Native.Nat.{ℕ, ◌+◌, ◌-◌, ◌*◌, ◌≤◌, ◌<◌}
use native.Mathlib.Omega.{arith}
use lib.ListN.{length, get_or, take, drop, length-drop, take-append-drop}
use lib.Seq.{ext_get_or, get_or-take, get_or-drop, length-take-le}
use Rattle.answer.specs.declared.Refusal.{Refusal}
use Rattle.answer.specs.Values.{gives, refused, value_of}
use Rattle.span.specs.Decision.{Decides}
use Rattle.span.specs.Span.{Copied}
use Rattle.shape.specs.declared.Shape.{Shape}
use Rattle.shape.specs.Shapes.{Valid, cells, capacity}
use Rattle.data.specs.Calls.{ReadOutcome, ZeroOutcome}
use Rattle.data.specs.Data.{layer, data_of, held_data}
use Rattle.data.proofs.HeldData.{length-held_data, held_data-at}
use Rattle.data.proofs.Tables.{tabulate-lt}
use Rattle.data.proofs.Checks.{cube-done-checked, read-done-checked}
use Rattle.data.proofs.Outcomes.{read-works, zero-works, zero-nonzero}
use Rattle.cursor.specs.Steps.{word}
use Rattle.receiver.specs.Opening.{long, later, OpenOutcome, held, bad}
use Rattle.pack.proofs.DataStrings.{string-of-file}

-- the data string of a cube of bytes is made of bytes
pub held_small : (sh : Shape) (xs : List ℕ) → ((p : ℕ) → get_or xs p 0 < 256) → (q : ℕ) → get_or (held_data sh xs) q 0 < 256
unfolding held_data data_of layer
held_small sh xs small q = tabulate-lt (capacity sh) (data_of sh xs) (λ i l. small _) q

-- what the test for 00h answers where the cube has its length
module _ (sh : Shape) (xs : List ℕ) (from : ℕ) (v : Valid sh) (size : length xs ≡ sh.w * cells sh) (r : Result Bool Refusal)
    (outcome : ZeroOutcome sh xs from (value_of r)) where
  pub zero-told : (b : Bool) → b ≡ result_unwrap_or r false → Decides ((q : ℕ) → from ≤ q → q < capacity sh → data_of sh xs q ≡ 0) b
  zero-told b e =
      let (b', e', d) = zero-works r (cube-done-checked sh _ v size) outcome in
      let same : b' ≡ b = ap (λ (q : Result Bool Refusal). result_unwrap_or q false) (sym e') ∙ sym e in
      rw same at d

-- what is read of the data string where the spans lie inside
pub read_told : (sh : Shape) (xs : List ℕ) (from to n : ℕ) (before after : List ℕ) (r : Result Unit Refusal) → Valid sh → length xs ≡ sh.w * cells sh
    → from + n ≤ capacity sh → to + n ≤ length before → ReadOutcome sh xs from to n before after (value_of r)
    → Copied (held_data sh xs) from before to n after
read_told sh xs from to n before after r v size l m outcome = (read-works (read-done-checked sh _ _ from to n v size l m) outcome).1

-- where the rest of the buffer is kept, the file stands before it
kept-rest : (n : ℕ) (bs cs : List ℕ) → length cs ≡ length bs → ((k : ℕ) → n ≤ k → get_or cs k 0 ≡ get_or bs k 0) → cs ≡ take n cs ++ drop n bs
kept-rest n bs cs size same =
    sym (take-append-drop n cs)
    ∙ ap (λ (ds : List ℕ). take n cs ++ ds)
    (ext_get_or 0 (drop n cs) (drop n bs) (length-drop n cs ∙ ap (λ (k : ℕ). k - n) size ∙ sym (length-drop n bs))
    (λ i l. get_or-drop n cs i 0 ∙ same (n + i) (omega arith) ∙ sym (get_or-drop n bs i 0)))

module _ (sh : Shape) (xs bs : List ℕ) (size : length bs ≡ capacity sh - 4) (n : ℕ) (word_held : n ≡ word (held_data sh xs) 0) where
  pub opened-long : length bs < n → OpenOutcome sh xs bs bs (refused 14)
  opened-long h = bad (long (omega arith)) refl

  module _ (b : Bool) (zero : Decides ((q : ℕ) → 4 + n ≤ q → q < capacity sh → data_of sh xs q ≡ 0) b) where
    pub opened-later : b ≡ false → OpenOutcome sh xs bs bs (refused 14)
    opened-later e =
        let (q, low, high, ne) = zero-nonzero sh xs (4 + n) b zero e in
        bad (later q (omega arith) high (λ z. ne (sym (held_data-at sh xs q high) ∙ z))) refl

    pub opened-held : (cs : List ℕ) → ((k : ℕ) → get_or (held_data sh xs) k 0 < 256) → 4 ≤ capacity sh → n ≤ length bs → b ≡ true
        → Copied (held_data sh xs) 4 bs 0 n cs → OpenOutcome sh xs bs cs (gives n)
    opened-held cs small room fits t copy =
        let e : length (take n cs) ≡ n = length-take-le n cs (omega (arith, copy.kept.size)) in
        subst (λ (k : ℕ). OpenOutcome sh xs bs cs (gives k)) e
        (held (take n cs) (omega arith)
        (string-of-file sh (held_data sh xs) (length-held_data sh xs) small (take n cs) (omega arith) (e ∙ word_held)
        (λ k l. let less : k < n = omega arith in get_or-take n cs k 0 less ∙ copied k less)
        (λ q l h. held_data-at sh xs q h ∙ zero.yes_then t q (omega arith) h))
        (rw e (kept-rest n bs cs copy.kept.size (λ k l. copy.kept.above k (omega arith)))))
      where
        copied : (k : ℕ) → k < n → get_or cs k 0 ≡ get_or (held_data sh xs) (4 + k) 0
        copied k less = let same : k ≡ 0 + k = omega arith in ap (λ (i : ℕ). get_or cs i 0) same ∙ copy.copied k less
