-- The data string read stretch by stretch: the bytes copied out of a cube, and the test for 00h.
use mathlib.Core.Path.{◌≡◌, sym, ap, subst, ◌∙◌}
use mathlib.Core.Bool.{Bool, true, false}
use mathlib.Core.List.{List, [], ◌∷◌}
use mathlib.Core.Logic.{◌≢◌}
use Prim.Native.Nat.{ℕ, zero, suc, ◌+◌, ◌-◌, ◌*◌, ◌≤◌, ◌<◌}
use native.Mathlib.Decide.{ℕ_discrete, dec_lt}
use native.Mathlib.Omega.{arith}
use lib.ListN.{length, get_or}
use lib.Seq.{ext_get_or}
use Rattle.span.specs.Span.{Copied, ZeroBytes}
use Rattle.span.proofs.Copying.{copied-whole}
use Rattle.span.proofs.Keeping.{kept-join}
use Rattle.shape.specs.declared.Shape.{Shape}
use Rattle.shape.specs.Shapes.{Valid, cells, capacity}
use denote.Param.Members.{Mut}
use Rattle.std.specs.Fn.{Called}
use Rattle.std.specs.Prelude.{Option, None, Some, MatchOption}
use Rattle.std.specs.Iterator.{Yields, YieldsThen}
use Rattle.span.specs.Decision.{Decides}
use Rattle.span.proofs.Decision.{decides-yes, decides-no}
use Rattle.std.specs.List.{FoldsTo}
use Rattle.data.specs.declared.place.Stretch.{Stretch}
use Rattle.data.specs.declared.place.Piece.{Piece}
use Rattle.data.specs.declared.place.Pieces.{Pieces}
use Rattle.data.specs.Inner.Walk.{walks}
use Rattle.data.specs.Data.{data_of, held_data}
use Rattle.data.specs.Inner.Place.{Standing}
use Rattle.data.proofs.HeldData.{length-held_data, held_data-at}
use Rattle.data.proofs.Placing.{standing-byte, standing-end, standing-inside, lies-ahead}

-- k bytes more, which stand elsewhere
pub copied-append : {src xs before mid after : List ℕ} {from to n at k : ℕ} → Copied src from before to n mid → Copied xs at mid (to + n) k after
    → ((i : ℕ) → i < k → get_or xs (at + i) 0 ≡ get_or src (from + n + i) 0) → Copied src from before to (n + k) after
copied-append {src} {xs} {before} {mid} {after} {from} {to} {n} {at} {k} h g same =
    record {
      copied = λ i l. elim (dec_lt i n) [
        | yes less ↦ g.kept.below (to + i) (omega arith) ∙ h.copied i less
        | no more ↦
            let place : to + n + (i - n) ≡ to + i = omega arith in
            let byte : from + n + (i - n) ≡ from + i = omega arith in
            ap (λ (p : ℕ). get_or after p 0) (sym place) ∙ g.copied (i - n) (omega arith) ∙ same (i - n) (omega arith)
            ∙ ap (λ (p : ℕ). get_or src p 0) byte
      ];
      kept = kept-join to (n + k) h.kept g.kept (omega arith, omega arith, omega arith, omega arith);
    }

-- a walk along the data string up to byte `end`, where all bytes before it are 00h
pub record ZerosBefore (sh : Shape) (xs : List ℕ) (from end : ℕ) (s : Pieces) : Type 0 where
  pub shape : s.sh ≡ sh
  pub ends : s.end ≡ end
  pub stands : s.q < s.end → Standing s.sh s.q s.next
  pub low : s.q < s.end → from ≤ s.q
  pub zeros : (p : ℕ) → from ≤ p → p < s.q → data_of sh xs p ≡ 0

module _ (sh : Shape) (xs : List ℕ) (v : Valid sh) where
  -- k bytes of a stretch copied
  pub read_more : (s : Stretch) (before mid after : List ℕ) (from to n k : ℕ) → Standing sh (from + n) s → k ≤ s.len → from + n + k ≤ capacity sh
      → Copied (held_data sh xs) from before to n mid → Copied xs s.at mid (to + n) k after → Copied (held_data sh xs) from before to (n + k) after
  read_more s before mid after from to n k h le room copied copy =
      copied-append copied copy
      (λ i l. sym (held_data-at sh xs (from + n + i) (omega arith) ∙ standing-byte sh (from + n) s v h xs i (omega arith)))

  -- k bytes of a stretch are 00h
  pub zero_more : (s : Stretch) (from q k : ℕ) → Standing sh q s → k ≤ s.len → ZeroBytes xs s.at k → ((p : ℕ) → from ≤ p → p < q → data_of sh xs p ≡ 0)
      → (p : ℕ) → from ≤ p → p < q + k → data_of sh xs p ≡ 0
  zero_more s from q k h le zeros done p low less =
      elim (dec_lt p q) [
        | yes before ↦ done p low before
        | no here ↦
            let place : q + (p - q) ≡ p = omega arith in
            ap (data_of sh xs) (sym place) ∙ standing-byte sh q s v h xs (p - q) (omega arith) ∙ zeros.bytes (p - q) (omega arith)
      ]

  pub zero-stretch : (s : Stretch) (q k : ℕ) → length xs ≡ sh.w * cells sh → Standing sh q s → k ≤ s.len → q < capacity sh
      → ((p : ℕ) → q ≤ p → p < capacity sh → data_of sh xs p ≡ 0) → ZeroBytes xs s.at k
  zero-stretch s q k size h le less zeros =
      record {
        inside = omega (arith, standing-inside sh q s v h less);
        bytes = λ i l.
            sym (standing-byte sh q s v h xs i (omega arith))
            ∙ zeros (q + i) (omega arith) (omega (arith, standing-end sh q s v h less));
      }

  -- calls that each found a piece 00h
  pub zeros-walked : {F : Type 0} (R : F → Piece → F → Type 0) (f : F) → ((p : Piece) (g : F) → R f p g → (g ≡ f) × ZeroBytes xs p.at p.len)
      → (from end : ℕ) → end ≤ capacity sh → (ps : List Piece) (s t : Pieces) (g : F) → Yields walks s ps t → FoldsTo R f ps g
      → ZerosBefore sh xs from end s → ZerosBefore sh xs from end t × (g ≡ f)
  zeros-walked R f each from end le [] s t g y c h = (subst (ZerosBefore sh xs from end) y h, sym c)
  zeros-walked R f each from end le (p ∷ ps) s t g y c h =
      let step = y.1 in
      let call = each p c.0 c.1 in
      let ahead = lies-ahead _ _ _ _ v h.shape (h.stands step.less) (omega (arith, step.less, h.ends)) in
      let low = h.low (omega (arith, step.less)) in
      zeros-walked R f each from end le ps y.0 t g y.2 (subst (λ k. FoldsTo R k ps g) call.0 c.2)
      (record {
        shape = step.shape ∙ h.shape;
        ends = step.end ∙ h.ends;
        stands = step.stands;
        low = λ l. omega (arith, step.next);
        zeros = rw step.next (zero_more _ _ _ _ ahead.standing step.part (rw step.place at call.1) h.zeros);
      })

  -- what `all` answers of a test of each piece for 00h
  pub zeros-tested : {F : Type 0} {g : Mut F (Piece × Unit {0}) Bool} (f : F) (from end : ℕ) (s u : Pieces) (r : Bool) → length xs ≡ sh.w * cells sh
      → end ≡ capacity sh
      → (ps : List Piece) × (o : Option Piece) × (j : F) × YieldsThen walks s ps o u × FoldsTo (λ p x q. Called g p (x, tt) true q) f ps j
      × MatchOption o (r ≡ true) (λ x. (r ≡ false) × ((h : F) × Called g j (x, tt) false h))
      → ZerosBefore sh xs from end s
      → ((x : Piece) (q : F) → Called g f (x, tt) true q → (q ≡ f) × ZeroBytes xs x.at x.len)
      → ((x : Piece) (q : F) → Called g f (x, tt) false q → ZeroBytes xs x.at x.len → ⊥)
      → Decides ((q : ℕ) → from ≤ q → q < capacity sh → data_of sh xs q ≡ 0) r
  zeros-tested {F} {g} f from end s u r size all (ps, o, j, (t, ran, stops), calls, told) start right wrong =
      let (h, same) = zeros-walked (λ p x q. Called g p (x, tt) true q) f right from end (omega (arith, all)) ps s t j ran calls start in
      by o stops (subst (λ k. MatchOption o (r ≡ true) (λ x. (r ≡ false) × ((l : F) × Called g k (x, tt) false l))) same told) h
    where
      by : (o : Option Piece) → walks t o u → MatchOption o (r ≡ true) (λ x. (r ≡ false) × ((l : F) × Called g f (x, tt) false l)) → ZerosBefore sh xs from end t
          → Decides ((q : ℕ) → from ≤ q → q < capacity sh → data_of sh xs q ≡ 0) r
      by None past told h = rw told (decides-yes (λ q low less. h.zeros q low (omega (arith, past, h.ends, all))))
      by (Some x) step told h =
          let ahead = lies-ahead _ _ _ _ v h.shape (h.stands step.less) (omega (arith, step.less, h.ends, all)) in
          let low = h.low step.less in
          rw told.0
          (decides-no
          (λ zeros.
          wrong x told.1.0 told.1.1 (rw step.place (zero-stretch _ _ _ size ahead.standing step.part ahead.below (λ p more. zeros p (omega arith))))))

  -- the whole data string
  pub read_whole : (before after : List ℕ) → length before ≡ capacity sh → Copied (held_data sh xs) 0 before 0 (length before) after
      → after ≡ held_data sh xs
  read_whole before after size copy =
      ext_get_or 0 after (held_data sh xs) (copy.kept.size ∙ size ∙ sym (length-held_data sh xs))
      (λ i l. let same : i ≡ 0 + i = omega arith in ap (λ (k : ℕ). get_or after k 0) same ∙ copied-whole copy i (omega (arith, copy.kept.size)))

-- a copy determines what is left
pub copied-determined : (src before xs ys : List ℕ) (from to n : ℕ) → Copied src from before to n xs → Copied src from before to n ys → xs ≡ ys
copied-determined src before xs ys from to n h g = ext_get_or 0 xs ys (h.kept.size ∙ sym g.kept.size) byte
  where
    byte : (p : ℕ) → p < length xs → get_or xs p 0 ≡ get_or ys p 0
    byte p l =
        elim (dec_lt p to) [
          | yes less ↦ h.kept.below p less ∙ sym (g.kept.below p less)
          | no more ↦
              elim (dec_lt p (to + n)) [
                | yes here ↦
                    let at : to + (p - to) ≡ p = omega arith in
                    rw at at (h.copied (p - to) (omega arith) ∙ sym (g.copied (p - to) (omega arith)))
                | no past ↦ h.kept.above p (omega arith) ∙ sym (g.kept.above p (omega arith))
              ]
        ]

-- where not all bytes of a stretch of numbers are 00h, one of them is not
pub some-nonzero : (f : ℕ → ℕ) (from n : ℕ) → (((q : ℕ) → from ≤ q → q < n → f q ≡ 0) → ⊥)
    → (q : ℕ) × (from ≤ q) × (q < n) × (f q ≢ 0)
some-nonzero f from zero h = absurd (h (λ q l m. absurd (omega arith)))
some-nonzero f from (suc n) h =
    elim (ℕ_discrete (f n) 0) [
      | yes e ↦
          let (q, low, less, ne) =
          some-nonzero f from n (λ all. h (λ q l m. elim (ℕ_discrete q n) [ yes same ↦ ap f same ∙ e | no other ↦ all q l (omega arith) ])) in
          (q, low, omega arith, ne)
      | no ne ↦
          elim (dec_lt n from) [
            | yes short ↦ absurd (h (λ q l m. absurd (omega arith)))
            | no ok ↦ (n, omega arith, omega arith, ne)
          ]
    ]
