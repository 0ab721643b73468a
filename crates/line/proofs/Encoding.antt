-- Encoded lines: the data places are copied and summed place by place, both parity places are solved as erasures, strip after strip.
use mathlib.Core.Path.{◌≡◌, refl, sym, ap, subst, fun_ext, ◌∙◌}
use mathlib.Core.List.{List}
use mathlib.Core.Logic.{◌≢◌, inl}
use Prim.Native.Nat.{ℕ, ◌+◌, ◌-◌, ◌*◌, ◌≤◌, ◌<◌}
use native.Mathlib.Decide.{ℕ_discrete, dec_lt}
use native.Mathlib.Omega.{arith}
use lib.ListN.{length, get_or}
use Rattle.span.specs.Span.{Copied}
use Rattle.span.proofs.Keeping.{kept-beside}
use Rattle.line.specs.declared.Run.{Run}
use Rattle.line.specs.declared.Erasures.{Erasures}
use Rattle.line.specs.Line.{syndrome0, syndrome1, with_parity}
use Rattle.line.specs.Run.{line_at, Inside, Off, ErasuresWritten, erasures_at, Feeds, Encoded}
use Rattle.line.specs.Inner.Block.{part, front, places, Syndromes, Combined, ToEnd}
use Rattle.line.specs.Inner.Encoder.{DataPlaced}
use Rattle.line.proofs.Syndrome.{syndrome0-cong, syndrome1-cong}
use Rattle.line.proofs.Erasure.{completed-cong}
use Rattle.line.proofs.Geometry.{off-place}
use Rattle.line.proofs.Runs.{Solved, written-solved, solved-lines}
use Rattle.line.proofs.Solving.{combining-end}
use Rattle.line.proofs.Parts.{off-first, off_next, part-inside, line-part, off_part}

-- ---- places copied

-- The places from lo up to hi of each line of `to` hold those of the lines of `from` in ds.
pub record Between (lo hi : ℕ) (from to : Run) (ds before after : List ℕ) : Type 0 where
  pub size : length after ≡ length before
  pub kept : (p : ℕ) → ((i : ℕ) → lo ≤ i → i < hi → Off to i p) → get_or after p 0 ≡ get_or before p 0
  pub placed :
      (t : ℕ) → t < to.width → (i : ℕ) → lo ≤ i → i < hi → line_at after to t i ≡ line_at ds from t i

pub between_none :
    (lo hi : ℕ) (from to : Run) (ds l : List ℕ) → hi ≤ lo → Between lo hi from to ds l l
between_none lo hi from to ds l h =
    record { size = refl; kept = λ p o. refl; placed = λ t a i b c. absurd (omega arith) }

pub between-all :
    {lo hi : ℕ} {from to : Run} {ds before after : List ℕ} → Between lo hi from to ds before after → lo ≡ 0 →
    hi ≡ from.len → DataPlaced from to ds before after
between-all b el eh =
    record {
      size = b.size;
      kept = λ p o. b.kept p (λ i l h. o i (omega arith));
      placed = λ t l i h. b.placed t l i (omega arith) (omega arith);
    }

-- one more place, at either end
pub between_more :
    {lo hi : ℕ} {from to : Run} {ds before mid after : List ℕ} → Between lo hi from to ds before mid → (low high j : ℕ) →
    Copied ds (from.first + from.stride * j) mid (to.first + to.stride * j) to.width after →
    to.width ≤ to.stride → (low ≤ j) × (j < high) × (low ≤ lo) × (hi ≤ high) →
    ((i : ℕ) → low ≤ i → i < high → i ≢ j → (lo ≤ i) × (i < hi)) → Between low high from to ds before after
between_more {lo} {hi} {from} {to} {ds} {before} {mid} {after} b low high j c apart ends other =
    record {
      size = c.kept.size ∙ b.size;
      kept =
          λ p o. kept-beside c.kept p (unfold Off in o j ends.0 ends.1)
          ∙ b.kept p (λ i l h. o i (omega arith) (omega arith));
      placed =
          λ t l i a h. elim (ℕ_discrete i j) [
            | yes e ↦ rw e (unfold line_at in c.copied t l)
            | no ne ↦ same t l i ne ∙ b.placed t l i (other i a h ne).0 (other i a h ne).1
          ];
    }
  where
    same : (t : ℕ) → t < to.width → (i : ℕ) → i ≢ j → line_at after to t i ≡ line_at mid to t i
    same t l i ne = unfold line_at Off in kept-beside c.kept _ (off-place to i j t apart (omega arith) ne)

-- ---- codewords

-- the parity places are the last two
module _ (r : ℕ) {n : ℕ} {from to : Run} {e : Erasures} (ee : e ≡ erasures_at r (to.len - 2) (to.len - 1))
    (feeds : Feeds from to n) where
  earlier-place : e.j ≡ from.len
  unfolding erasures_at
  earlier-place = ap (λ (x : Erasures). x.j) ee ∙ omega (arith, feeds.places)

  later-place : e.k ≡ from.len + 1
  unfolding erasures_at
  later-place = ap (λ (x : Erasures). x.k) ee ∙ omega (arith, feeds.places)

  pub parity-order : (e.j ≤ e.k) × (e.k < to.len)
  parity-order = (omega (arith, earlier-place, later-place), omega (arith, later-place, feeds.places))

  parity-end : ToEnd to e
  parity-end =
      record {
        some_place = omega (arith, earlier-place, feeds.inside.some_place);
        last = omega (arith, later-place, feeds.places);
        two = omega (arith, earlier-place, feeds.places);
      }

  -- the syndromes of what is copied are those of the places before the parity
  placed-syndromes :
      {ds before mid s0 s1 : List ℕ} → DataPlaced from to ds before mid → Syndromes r from ds s0 s1 →
      Syndromes r (places to e.j) mid s0 s1
  unfolding places line_at
  placed-syndromes {ds} {before} {mid} placed sy =
      record {
        first =
            λ t h. sy.first t (omega (arith, feeds.lines))
            ∙ syndrome0-cong (line_at ds from t) (line_at mid to t) from.len (λ i l. sym (placed.placed t h i l))
            ∙ ap (syndrome0 (line_at mid to t)) (sym earlier-place);
        second =
            λ t h. sy.second t (omega (arith, feeds.lines))
            ∙ syndrome1-cong r (line_at ds from t) (line_at mid to t) from.len (λ i l. sym (placed.placed t h i l))
            ∙ ap (syndrome1 r (line_at mid to t)) (sym earlier-place);
      }

  pub combined-written :
      {ds before mid after s0 s1 : List ℕ} → DataPlaced from to ds before mid × Syndromes r from ds s0 s1 →
      Combined r to e s0 s1 mid after → ErasuresWritten r to e mid after
  combined-written {ds} {before} {mid} {after} {s0} {s1} h co =
      combining-end parity-order.0 parity-end refl
      (record { s0 = s0; s1 = s1; syndromes = placed-syndromes h.0 h.1; combined = co })

-- data places that are copied, and parity that is solved behind them
pub written-encoded :
    {r n : ℕ} {from to : Run} {e : Erasures} {ds before mid after : List ℕ} → Inside to (length before) → Feeds from to n →
    e ≡ erasures_at r (to.len - 2) (to.len - 1) → DataPlaced from to ds before mid → ErasuresWritten r to e mid after →
    Encoded r from to ds before after
written-encoded {r} {n} {from} {to} {e} {ds} {before} {mid} {after} inside feeds ee placed w =
    record {
      size = solved.size ∙ placed.size;
      kept =
          λ q o. solved.kept q (o j (omega (arith, feeds.places))) (o k (omega (arith, feeds.places)))
          ∙ placed.kept q (λ i l. o i (omega (arith, feeds.places)));
      lines =
          λ t h i l. solved-lines r to j k mid after solved inside.apart (omega arith) t h i
          ∙ (unfold with_parity in
          completed-cong r to.len j k (line_at mid to t) (line_at ds from t)
          (λ q m nj nk. placed.placed t h q (omega (arith, feeds.places))) i l);
    }
  where
    j : ℕ
    j = to.len - 2

    k : ℕ
    k = to.len - 1

    solved : Solved r to j k mid after
    solved = written-solved (subst (λ (x : Erasures). ErasuresWritten r to x mid after) ee w)

-- the parity places as the code names them: the last place, and the one before it
pub parity-erasures :
    {e : Erasures} (r n : ℕ) → e ≡ erasures_at r (n - 1 - 1) (n - 1) → e ≡ erasures_at r (n - 2) (n - 1)
parity-erasures r n ee = ee ∙ ap (λ (a : ℕ). erasures_at r a (n - 1)) (omega arith)

-- ---- strip after strip

feeds-part :
    (from to : Run) (n a w : ℕ) → Feeds from to n → a + w ≤ to.width → Feeds (part from a w) (part to a w) n
unfolding part
feeds-part from to n a w h within =
    record {
      inside = part-inside from n a w h.inside (omega (arith, h.lines));
      places = h.places;
      lines = refl;
    }

-- a strip of 64 lines, as runs of their own
module _ (from to : Run) (a : ℕ) {source target : Run} (es : source ≡ part from a 64) (et : target ≡ part to a 64)
    (within : a + 64 ≤ to.width) where
  pub strip-inside : {n : ℕ} → Inside to n → Inside target n
  strip-inside {n} h = subst (λ (x : Run). Inside x n) (sym et) (part-inside to n a 64 h within)

  pub strip-feeds : {n : ℕ} → Feeds from to n → Feeds source target n
  strip-feeds {n} h =
      subst (λ (x : Run). Feeds x target n) (sym es)
      (subst (λ (x : Run). Feeds (part from a 64) x n) (sym et) (feeds-part from to n a 64 h within))

  pub strip-width : target.width ≡ 64
  unfolding part
  strip-width = ap (λ (x : Run). x.width) et

  pub strip-places : target.len ≡ to.len
  unfolding part
  strip-places = ap (λ (x : Run). x.len) et

  pub strip-encoded :
      {r n : ℕ} {e : Erasures} {ds before mid after s0 s1 : List ℕ} → Inside to (length before) →
      Feeds from to n → e ≡ erasures_at r (to.len - 2) (to.len - 1) →
      DataPlaced source target ds before mid × Syndromes r source ds s0 s1 → Combined r target e s0 s1 mid after →
      Encoded r (part from a 64) (part to a 64) ds before after
  strip-encoded {r} {n} {e} {ds} {before} {mid} {after} inside feeds ee placed co =
      subst (λ (x : Run). Encoded r x (part to a 64) ds before after) es
      (subst (λ (x : Run). Encoded r source x ds before after) et
      (written-encoded (strip-inside inside) (strip-feeds feeds) own placed.0
      (combined-written r own (strip-feeds feeds) placed co)))
    where
      own : e ≡ erasures_at r (target.len - 2) (target.len - 1)
      own = rw strip-places ee

pub encoded-none :
    (r : ℕ) (from to : Run) (ds l : List ℕ) → Encoded r (front from 0) (front to 0) ds l l
unfolding front
encoded-none r from to ds l =
    record {
      size = refl;
      kept = λ p o. refl;
      lines = λ t h. absurd (omega arith);
    }

pub encoded-all :
    {r a : ℕ} {from to : Run} {ds before after : List ℕ} → Encoded r (front from a) (front to a) ds before after →
    a ≡ to.width → Encoded r from to ds before after
unfolding front line_at Off
encoded-all h e =
    record {
      size = h.size;
      kept = λ p o. h.kept p (λ i l. rw e (o i l));
      lines = λ t l. h.lines t (omega arith);
    }

part-line :
    (s : List ℕ) (run : Run) (b w t : ℕ) → b ≤ t → line_at s (part run b w) (t - b) ≡ line_at s run t
part-line s run b w t h = line-part s run b w (t - b) ∙ ap (line_at s run) (omega arith)

-- The strip from line b on is encoded after the first a lines, whatever of these it reaches back into.
module _ {r : ℕ} (from to : Run) (a b w : ℕ) {ds before mid after : List ℕ}
    (one : Encoded r (front from a) (front to a) ds before mid)
    (two : Encoded r (part from b w) (part to b w) ds mid after) (reaches : b ≤ a) (covers : a ≤ b + w)
    (apart : b + w ≤ to.stride) where
  before-strip : (t : ℕ) → t < b → line_at after to t ≡ line_at mid to t
  unfolding line_at part
  before-strip t h = fun_ext (λ i. two.kept _ (λ k q. off_part to b w apart i k t (omega arith) (inl h)))

  own-lines :
      (t : ℕ) → t < w → (i : ℕ) → i < to.len →
      line_at after (part to b w) t i ≡ with_parity r to.len (line_at ds (part from b w) t) i
  unfolding part
  own-lines = two.lines

  strip-lines :
      (t : ℕ) → t < b + w → (i : ℕ) → i < to.len → line_at after to t i ≡ with_parity r to.len (line_at ds from t) i
  strip-lines t h i l =
      elim (dec_lt t b) [
        | yes m ↦ ap (λ (c : ℕ → ℕ). c i) (before-strip t m) ∙ (unfold front line_at in one.lines t (omega arith) i l)
        | no m ↦
            ap (λ (c : ℕ → ℕ). c i) (sym (part-line after to b w t (omega arith)))
            ∙ own-lines (t - b) (omega arith) i l
            ∙ ap (λ (c : ℕ → ℕ). with_parity r to.len c i) (part-line ds from b w t (omega arith))
      ]

  pub encoded-strip : Encoded r (front from (b + w)) (front to (b + w)) ds before after
  unfolding front line_at part
  encoded-strip =
      record {
        size = two.size ∙ one.size;
        kept =
            λ p o. two.kept p (λ i l. off_next to b w i p (o i l)) ∙ one.kept p (λ i l. off-first to a (b + w) i p covers (o i l));
        lines = strip-lines;
      }
