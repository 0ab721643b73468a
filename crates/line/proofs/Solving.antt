-- Erasures of a run's lines: cleared, gathered into syndromes, written from them.
use mathlib.Core.Path.{◌≡◌, refl, sym, ap, ap₂, subst, fun_ext, ◌∙◌}
use mathlib.Core.List.{List}
use mathlib.Core.Logic.{◌⊎◌, ◌≢◌, inl, inr, ⊎_elim}
use Prim.Native.Nat.{ℕ, ◌+◌, ◌*◌, ◌≤◌, ◌<◌}
use native.Mathlib.Decide.{ℕ_discrete}
use native.Mathlib.Omega.{arith}
use lib.ListN.{length, get_or}
use Rattle.span.specs.Span.{Copied, SetTo}
use Rattle.span.proofs.Keeping.{kept-beside}
use Rattle.span.proofs.Copying.{copied-whole}
use Rattle.field.specs.Field.{add, mul}
use Rattle.strip.specs.Strip.{Products, Sums}
use Rattle.line.specs.declared.Run.{Run}
use Rattle.line.specs.declared.Erasures.{Erasures}
use Rattle.line.specs.Line.{syndrome0, syndrome1, erased}
use Rattle.line.specs.Run.{line_at, Inside, Off, ErasuresWritten}
use Rattle.line.specs.Inner.Block.{places, ToEnd, Combined, Combining}
use Rattle.line.proofs.Erasure.{syndrome0-erased-end, syndrome1-erased-end}
use Rattle.line.proofs.Geometry.{off-place, off-width, stride-below}
use Rattle.line.proofs.Parts.{Changed}
use Rattle.solver.proofs.Pick.{pick-eq, pick-ne}

-- ---- what becomes of each line, and where

unfoldable pub Erased : ℕ → ℕ → ℕ → ℕ → Type 0
Erased j k n i = (i ≡ j) ⊎ (i ≡ k)

pub record ErasuresFilled (r : ℕ) (e : Erasures) (n : ℕ) (c d : ℕ → ℕ) : Type 0 where
  pub later :
      d e.k ≡
      add (mul r (syndrome0 (erased e.j e.k c) n) e.b) (mul r (syndrome1 r (erased e.j e.k c) n) e.d)
  pub earlier : e.j < e.k → d e.j ≡ add (syndrome0 (erased e.j e.k c) n) (d e.k)

module _ {r : ℕ} {run : Run} {e : Erasures} {before after : List ℕ} where
  pub written-changed : ErasuresWritten r run e before after → Changed (Erased e.j e.k) (ErasuresFilled r e) run before after
  unfolding Erased
  written-changed s =
      record {
        size = s.size;
        kept = λ p o. s.kept p (o e.j (inl refl)) (o e.k (inr refl));
        lines = λ t h. record { later = s.later t h; earlier = λ l. s.earlier l t h };
      }

  pub changed-written : Changed (Erased e.j e.k) (ErasuresFilled r e) run before after → ErasuresWritten r run e before after
  unfolding Erased
  changed-written c =
      record {
        size = c.size;
        kept =
            λ p oj ok. c.kept p
            (λ i q. ⊎_elim (λ (x : i ≡ e.j). rw x oj) (λ (x : i ≡ e.k). rw x ok) q);
        later = λ t h. (c.lines t h).later;
        earlier = λ l t h. (c.lines t h).earlier l;
      }

-- what is written looks at no byte at an erasure
erased-same :
    (j k n : ℕ) (c c' : ℕ → ℕ) → ((i : ℕ) → (Erased j k n i → ⊥) → c i ≡ c' i) → erased j k c' ≡ erased j k c
unfolding Erased erased
erased-same j k n c c' same =
    fun_ext
    (λ i. elim (ℕ_discrete i k) [
      | yes q ↦ pick-eq i k _ _ q ∙ sym (pick-eq i k _ _ q)
      | no nk ↦
          pick-ne i k _ _ nk
          ∙ elim (ℕ_discrete i j) [
            | yes q ↦ pick-eq i j _ _ q ∙ sym (pick-eq i j _ _ q)
            | no nj ↦ pick-ne i j _ _ nj ∙ sym (same i (λ o. ⊎_elim nj nk o)) ∙ sym (pick-ne i j _ _ nj)
          ]
          ∙ sym (pick-ne i k _ _ nk)
    ])

pub filled-again :
    (r : ℕ) (e : Erasures) (n : ℕ) (c c' d : ℕ → ℕ) → ((i : ℕ) → (Erased e.j e.k n i → ⊥) → c i ≡ c' i) →
    ErasuresFilled r e n c' d → ErasuresFilled r e n c d
filled-again r e n c c' d same f =
    record { later = rw z at f.later; earlier = λ l. rw z at (f.earlier l) }
  where
    z : erased e.j e.k c' ≡ erased e.j e.k c
    z = erased-same e.j e.k n c c' same

-- ---- one block

-- a line whose two erasures are cleared
cleared-line :
    (run : Run) (j k : ℕ) (l0 l1 l2 : List ℕ) → SetTo l0 (run.first + run.stride * j) run.width 0 l1 →
    SetTo l1 (run.first + run.stride * k) run.width 0 l2 → run.width ≤ run.stride →
    (t : ℕ) → t < run.width → line_at l2 run t ≡ erased j k (line_at l0 run t)
unfolding erased
cleared-line run j k l0 l1 l2 cj ck apart t h =
    fun_ext
    (λ i. elim (ℕ_discrete i k) [
      | yes e ↦ ap (line_at l2 run t) e ∙ zero l1 l2 k ck ∙ sym (pick-eq i k _ _ e)
      | no ne ↦
          kept l1 l2 k ck i ne
          ∙ elim (ℕ_discrete i j) [
            | yes e ↦ ap (line_at l1 run t) e ∙ zero l0 l1 j cj ∙ sym (pick-eq i j _ _ e)
            | no nj ↦ kept l0 l1 j cj i nj ∙ sym (pick-ne i j _ _ nj)
          ]
          ∙ sym (pick-ne i k _ _ ne)
    ])
  where
    zero : (b a : List ℕ) (n : ℕ) → SetTo b (run.first + run.stride * n) run.width 0 a → line_at a run t n ≡ 0
    zero b a n c = unfold line_at in c.bytes t h

    kept : (b a : List ℕ) (n : ℕ) → SetTo b (run.first + run.stride * n) run.width 0 a → (i : ℕ) → i ≢ n → line_at a run t i ≡ line_at b run t i
    kept b a n c i ne = unfold line_at Off in kept-beside c.kept _ (off-place run i n t apart (omega arith) ne)

-- both erasures of each line written from the syndromes of the erased lines, whatever stood at the erasures then
combined-erased :
    (r : ℕ) (run : Run) (e : Erasures) (l0 l1 l2 s0 s1 : List ℕ) → length l1 ≡ length l0 →
    ((p : ℕ) → Off run e.j p → Off run e.k p → get_or l1 p 0 ≡ get_or l0 p 0) →
    ((t : ℕ) → t < run.width → get_or s0 t 0 ≡ syndrome0 (erased e.j e.k (line_at l0 run t)) run.len) →
    ((t : ℕ) → t < run.width → get_or s1 t 0 ≡ syndrome1 r (erased e.j e.k (line_at l0 run t)) run.len) →
    Combined r run e s0 s1 l1 l2 → ErasuresWritten r run e l0 l2
combined-erased r run e l0 l1 l2 s0 s1 size kept first second co =
    record {
      size = co.size ∙ size;
      kept = λ p oj ok. co.kept p oj ok ∙ kept p oj ok;
      later =
          λ t h. co.later t h
          ∙ ap₂ (λ (x y : ℕ). add (mul r x e.b) (mul r y e.d)) (first t h) (second t h);
      earlier = λ l t h. co.earlier l t h ∙ ap (λ (x : ℕ). add x (line_at l2 run t e.k)) (first t h);
    }

-- both erasures of up to 64 lines, the later one written last
pub copied-combined :
    {r : ℕ} {run : Run} {e : Erasures} {w : ℕ} {s0 s1 x y l0 l1 l2 : List ℕ} → run.width ≡ w → w ≤ 64 → run.width ≤ run.stride →
    Products r e.b e.d s0 s1 y → Sums s0 y x →
    Copied x 0 l0 (run.first + run.stride * e.j) w l1 → Copied y 0 l1 (run.first + run.stride * e.k) w l2 →
    Combined r run e s0 s1 l0 l2
unfolding line_at
copied-combined {r} {run} {e} {w} {s0} {s1} same few apart ys xs sj sk =
    record {
      size = sk.kept.size ∙ sj.kept.size;
      kept =
          λ p oj ok. kept-beside sk.kept p (off-width run e.k p w (sym same) ok) ∙ kept-beside sj.kept p (off-width run e.j p w (sym same) oj);
      later = λ t h. copied-whole sk t (omega arith) ∙ ys.bytes t (omega arith);
      earlier =
          λ l t h. sk.kept.below _ (omega (arith, stride-below run.stride e.j e.k l))
          ∙ copied-whole sj t (omega arith) ∙ xs.bytes t (omega arith)
          ∙ ap (add (get_or s0 t 0)) (sym (copied-whole sk t (omega arith)));
    }

pub combining-cleared :
    {r : ℕ} {run : Run} {e : Erasures} {l0 l1 l2 l3 : List ℕ} → run.width ≤ run.stride → SetTo l0 (run.first + run.stride * e.j) run.width 0 l1 →
    SetTo l1 (run.first + run.stride * e.k) run.width 0 l2 → Combining r run run e l2 l3 → ErasuresWritten r run e l0 l3
combining-cleared {r} {run} {e} {l0} {l1} {l2} {l3} apart cj ck co =
    combined-erased r run e l0 l2 l3 co.s0 co.s1 (ck.kept.size ∙ cj.kept.size)
    (λ p oj ok. unfold Off in kept-beside ck.kept p ok ∙ kept-beside cj.kept p oj)
    (λ t h. co.syndromes.first t h ∙ ap (λ (c : ℕ → ℕ). syndrome0 c run.len) (line t h))
    (λ t h. co.syndromes.second t h ∙ ap (λ (c : ℕ → ℕ). syndrome1 r c run.len) (line t h)) co.combined
  where
    line : (t : ℕ) → t < run.width → line_at l2 run t ≡ erased e.j e.k (line_at l0 run t)
    line = cleared-line run e.j e.k l0 l1 l2 cj ck apart

-- ---- one block whose lines are erased to the end

pub places-inside :
    {run read : Run} {n m : ℕ} → read ≡ places run m → 0 < m → m ≤ run.len → Inside run n → Inside read n
unfolding places
places-inside {n = n} e some le h =
    subst (λ (x : Run). Inside x n) (sym e)
    (record {
      some_place = some;
      few_places = omega (arith, h.few_places);
      apart = h.apart;
      fits = λ i l. h.fits i (omega arith);
    })

pub places-width : (run read : Run) (m : ℕ) → read ≡ places run m → read.width ≡ run.width
unfolding places
places-width run read m e = ap (λ (x : Run). x.width) e

line-places : (s : List ℕ) (run : Run) (m t : ℕ) → line_at s (places run m) t ≡ line_at s run t
unfolding line_at places
line-places s run m t = fun_ext (λ i. refl)

pub combining-end :
    {r : ℕ} {run read : Run} {e : Erasures} {l0 l1 : List ℕ} → e.j ≤ e.k → ToEnd run e → read ≡ places run e.j →
    Combining r read run e l0 l1 → ErasuresWritten r run e l0 l1
unfolding places
combining-end {r} {run} {read} {e} {l0} {l1} le end eq given =
    combined-erased r run e l0 l0 l1 co.s0 co.s1 refl (λ p oj ok. refl)
    (λ t h. co.syndromes.first t h
    ∙ ap (λ (c : ℕ → ℕ). syndrome0 c e.j) (line-places l0 run e.j t)
    ∙ sym (syndrome0-erased-end run.len e.j e.k (line_at l0 run t) le end.last end.two))
    (λ t h. co.syndromes.second t h
    ∙ ap (λ (c : ℕ → ℕ). syndrome1 r c e.j) (line-places l0 run e.j t)
    ∙ sym (syndrome1-erased-end r run.len e.j e.k (line_at l0 run t) le end.last end.two))
    co.combined
  where
    co : Combining r (places run e.j) run e l0 l1
    co = subst (λ (x : Run). Combining r x run e l0 l1) eq given
