-- The syndromes of the tails of a run's lines, gathered side by side: Horner's steps, one place and four, from nothing to the whole lines.
use mathlib.Core.Path.{◌≡◌, refl, sym, ap, subst, ◌∙◌}
use mathlib.Core.List.{List}
use Prim.Native.Nat.{ℕ, ◌+◌, ◌*◌, ◌≤◌, ◌<◌}
use native.Mathlib.Nat.{mul-add}
use native.Mathlib.Omega.{arith}
use lib.ListN.{length, get_or, replicate, length-replicate, get_or-replicate}
use Rattle.span.specs.Span.{Piece}
use Rattle.field.specs.Field.{add, xtime}
use Rattle.field.proofs.Addition.{add_comm}
use Rattle.line.specs.declared.Run.{Run}
use Rattle.line.specs.Run.{line_at}
use Rattle.line.specs.Inner.Wide.{tail0, tail1, Empty, Tails, One, Four, horner0, horner1}
use Rattle.line.specs.Inner.Block.{Syndromes}
use Rattle.strip.specs.Strip.{Step}
use Rattle.line.proofs.Syndrome.{tail0-end, tail1-end, tail0-step, tail1-step, tail0-whole, tail1-whole}

pub step0 : (c : ℕ → ℕ) (n i next : ℕ) → next ≡ i + 1 → i < n → add (tail0 c n next) (c i) ≡ tail0 c n i
step0 c n i next e h = add_comm (tail0 c n next) (c i) ∙ rw e (sym (tail0-step c n i h))

pub step1 :
    (r : ℕ) (c : ℕ → ℕ) (n i next : ℕ) → r < 256 → c i < 256 → next ≡ i + 1 → i < n →
    add (xtime r (tail1 r c n next)) (c i) ≡ tail1 r c n i
step1 r c n i next fits byte e h =
    add_comm (xtime r (tail1 r c n next)) (c i) ∙ rw e (sym (tail1-step r c n i fits byte h))

four0 : (c : ℕ → ℕ) (n i : ℕ) → i + 3 < n → horner0 c i (tail0 c n (i + 4)) ≡ tail0 c n i
unfolding horner0
four0 c n i h =
    ap (λ (x : ℕ). add (add (add x (c (i + 2))) (c (i + 1))) (c i)) (step0 c n (i + 3) (i + 4) (omega arith) (omega arith))
    ∙ ap (λ (x : ℕ). add (add x (c (i + 1))) (c i)) (step0 c n (i + 2) (i + 3) (omega arith) (omega arith))
    ∙ ap (λ (x : ℕ). add x (c i)) (step0 c n (i + 1) (i + 2) (omega arith) (omega arith))
    ∙ step0 c n i (i + 1) refl (omega arith)

four1 :
    (r : ℕ) (c : ℕ → ℕ) (n i : ℕ) → r < 256 → ((k : ℕ) → c k < 256) → i + 3 < n →
    horner1 r c i (tail1 r c n (i + 4)) ≡ tail1 r c n i
unfolding horner1
four1 r c n i fits bytes h =
    ap (λ (x : ℕ). add (xtime r (add (xtime r (add (xtime r x) (c (i + 2)))) (c (i + 1)))) (c i))
    (step1 r c n (i + 3) (i + 4) fits (bytes (i + 3)) (omega arith) (omega arith))
    ∙ ap (λ (x : ℕ). add (xtime r (add (xtime r x) (c (i + 1)))) (c i))
    (step1 r c n (i + 2) (i + 3) fits (bytes (i + 2)) (omega arith) (omega arith))
    ∙ ap (λ (x : ℕ). add (xtime r x) (c i)) (step1 r c n (i + 1) (i + 2) fits (bytes (i + 1)) (omega arith) (omega arith))
    ∙ step1 r c n i (i + 1) fits (bytes i) refl (omega arith)

pub empty-replicate : (m n : ℕ) (l : List ℕ) → n ≤ m → l ≡ replicate m 0 → Empty n l
empty-replicate m n l few e =
    record {
      room = omega (arith, ap length e, length-replicate {A = ℕ} m 0);
      zero = λ t h. ap (λ (x : List ℕ). get_or x t 0) e ∙ get_or-replicate m t 0 0 (omega arith);
    }

pub tails-none : (r : ℕ) (run : Run) (s s0 s1 : List ℕ) → Empty run.width s0 → Empty run.width s1 → Tails r run run.len s s0 s1
tails-none r run s s0 s1 e0 e1 =
    record {
      room0 = e0.room;
      room1 = e1.room;
      first = λ t h. e0.zero t h ∙ sym (tail0-end _ _);
      second = λ t h. e1.zero t h ∙ sym (tail1-end _ _ _);
    }

pub tails-at :
    {r : ℕ} {run : Run} {s s0 s1 : List ℕ} (left next : ℕ) → left ≡ next → Tails r run left s s0 s1 →
    Tails r run next s s0 s1
tails-at {r} {run} {s} {s0} {s1} left next e h = subst (λ (x : ℕ). Tails r run x s s0 s1) e h

pub tails-whole : (r : ℕ) (run : Run) (s s0 s1 : List ℕ) → Tails r run 0 s s0 s1 → Syndromes r run s s0 s1
tails-whole r run s s0 s1 h =
    record {
      first = λ t l. h.first t l ∙ tail0-whole (line_at s run t) run.len;
      second = λ t l. h.second t l ∙ tail1-whole r (line_at s run t) run.len;
    }

line-byte : (s : List ℕ) (run : Run) → ((p : ℕ) → get_or s p 0 < 256) → (t i : ℕ) → line_at s run t i < 256
unfolding line_at
line-byte s run bytes t i = bytes _

module _ {r : ℕ} {run : Run} {left next : ℕ} {s a0 a1 : List ℕ} (fits : r < 256) (bytes : (p : ℕ) → get_or s p 0 < 256)
    (before : Tails r run next s a0 a1) {b0 b1 : List ℕ} where
  pub tails-one : One r run left s a0 a1 b0 b1 → next ≡ left + 1 → left < run.len → Tails r run left s b0 b1
  tails-one one e h =
      record {
        room0 = omega (arith, one.size0, before.room0);
        room1 = omega (arith, one.size1, before.room1);
        first =
            λ t l. one.first t l ∙ ap (λ (x : ℕ). add x (line_at s run t left)) (before.first t l)
            ∙ step0 (line_at s run t) run.len left next e h;
        second =
            λ t l. one.second t l ∙ ap (λ (x : ℕ). add (xtime r x) (line_at s run t left)) (before.second t l)
            ∙ step1 r (line_at s run t) run.len left next fits (line-byte s run bytes t left) e h;
      }

  pub tails-four : Four r run left s a0 a1 b0 b1 → next ≡ left + 4 → left + 3 < run.len → Tails r run left s b0 b1
  tails-four four e h =
      record {
        room0 = omega (arith, four.size0, before.room0);
        room1 = omega (arith, four.size1, before.room1);
        first =
            λ t l. four.first t l ∙ ap (horner0 (line_at s run t) left) (before.first t l)
            ∙ rw e (four0 (line_at s run t) run.len left h);
        second =
            λ t l. four.second t l ∙ ap (horner1 r (line_at s run t) left) (before.second t l)
            ∙ rw e (four1 r (line_at s run t) run.len left fits (line-byte s run bytes t) h);
      }

-- Horner's step by the bytes of the place `left`, for up to 64 lines
pub step-one :
    {r : ℕ} {run : Run} {left : ℕ} {s c a0 a1 b0 b1 : List ℕ} → run.width ≤ 64 → length a0 ≡ 64 → length a1 ≡ 64 →
    Piece s (run.first + run.stride * left) 64 c → Step r c a0 a1 b0 b1 → One r run left s a0 a1 b0 b1
unfolding line_at
step-one {r} {a0 = a0} {a1 = a1} few e0 e1 w st =
    record {
      size0 = st.size0;
      size1 = st.size1;
      first = λ t h. st.first e0 t (omega arith) ∙ ap (add (get_or a0 t 0)) (w.bytes t (omega arith));
      second = λ t h. st.second e1 t (omega arith) ∙ ap (add (xtime r (get_or a1 t 0))) (w.bytes t (omega arith));
    }

-- the code's places of four steps
module _ (s : List ℕ) (run : Run) (left t : ℕ) where
  place1 : run.first + run.stride * left + run.stride + t ≡ run.first + run.stride * (left + 1) + t
  place1 = omega (arith, mul-add run.stride left 1)

  place2 : run.first + run.stride * left + run.stride + run.stride + t ≡ run.first + run.stride * (left + 2) + t
  place2 = omega (arith, mul-add run.stride left 2)

  place3 :
      run.first + run.stride * left + run.stride + run.stride + run.stride + t ≡
      run.first + run.stride * (left + 3) + t
  place3 = omega (arith, mul-add run.stride left 3)

  pub horner0-at :
      (a : ℕ) →
      add
      (add
      (add
      (add a (get_or s (run.first + run.stride * left + run.stride + run.stride + run.stride + t) 0))
      (get_or s (run.first + run.stride * left + run.stride + run.stride + t) 0))
      (get_or s (run.first + run.stride * left + run.stride + t) 0))
      (get_or s (run.first + run.stride * left + t) 0) ≡
      horner0 (line_at s run t) left a
  unfolding horner0 line_at
  horner0-at a = rw (place1, place2, place3)

  pub horner1-at :
      (r a : ℕ) →
      add
      (xtime r
      (add
      (xtime r
      (add
      (xtime r
      (add (xtime r a) (get_or s (run.first + run.stride * left + run.stride + run.stride + run.stride + t) 0)))
      (get_or s (run.first + run.stride * left + run.stride + run.stride + t) 0)))
      (get_or s (run.first + run.stride * left + run.stride + t) 0)))
      (get_or s (run.first + run.stride * left + t) 0) ≡
      horner1 r (line_at s run t) left a
  unfolding horner1 line_at
  horner1-at r a = rw (place1, place2, place3)
