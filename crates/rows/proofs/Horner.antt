-- The syndromes of 64 gathered lines: Horner's steps, from nothing to the whole lines.
use mathlib.Core.Path.{◌≡◌, refl, sym, ap, ◌∙◌}
use mathlib.Core.List.{List}
use Prim.Native.Nat.{ℕ, ◌+◌, ◌*◌, ◌<◌}
use lib.ListN.{length, get_or, replicate, get_or-replicate}
use Rattle.field.specs.Field.{add, xtime}
use Rattle.strip.specs.Strip.{Step, AllZero}
use Rattle.line.specs.declared.Run.{Run}
use Rattle.line.specs.Inner.Wide.{tail0, tail1}
use Rattle.line.proofs.Syndrome.{tail0-end, tail1-end, tail0-whole, tail1-whole}
use Rattle.line.proofs.Tails.{step0, step1}
use Rattle.rows.specs.Inner.{lane, Gathered, LanesRight}

-- s0 and s1 hold the syndromes of the lines from the place `left` on.
pub record Lanes (r : ℕ) (run : Run) (gap left : ℕ) (s s0 s1 : List ℕ) : Type 0 where
  pub size0 : length s0 ≡ 64
  pub size1 : length s1 ≡ 64
  pub first : (u : ℕ) → u < 64 → get_or s0 u 0 ≡ tail0 (lane s run gap u) run.len left
  pub second : (u : ℕ) → u < 64 → get_or s1 u 0 ≡ tail1 r (lane s run gap u) run.len left

pub lanes-none : (r : ℕ) (run : Run) (gap : ℕ) (s : List ℕ) → Lanes r run gap run.len s (replicate 64 0) (replicate 64 0)
lanes-none r run gap s =
    record {
      size0 = refl;
      size1 = refl;
      first = λ u h. get_or-replicate 64 u 0 0 h ∙ sym (tail0-end _ _);
      second = λ u h. get_or-replicate 64 u 0 0 h ∙ sym (tail1-end _ _ _);
    }

lane_byte : (s : List ℕ) (run : Run) (gap : ℕ) → ((p : ℕ) → get_or s p 0 < 256) → (u i : ℕ) → lane s run gap u i < 256
unfolding lane
lane_byte s run gap bytes u i = bytes _

-- one place more
pub lanes_step :
    {r : ℕ} {run : Run} {gap next : ℕ} {s a0 a1 b0 b1 c : List ℕ} (left : ℕ) → r < 256 → ((p : ℕ) → get_or s p 0 < 256) → Lanes r run gap next s a0 a1 →
    Gathered s (run.first + run.stride * left) gap c → Step r c a0 a1 b0 b1 → next ≡ left + 1 → left < run.len → Lanes r run gap left s b0 b1
unfolding lane
lanes_step {r} {run} {gap} {next} {s} {a0} {a1} left fits bytes h g st e l =
    record {
      size0 = st.size0 ∙ h.size0;
      size1 = st.size1 ∙ h.size1;
      first =
          λ u b. st.first h.size0 u b ∙ ap (add (get_or a0 u 0)) (g.bytes u b)
          ∙ ap (λ (x : ℕ). add x (lane s run gap u left)) (h.first u b) ∙ step0 (lane s run gap u) run.len left next e l;
      second =
          λ u b. st.second h.size1 u b ∙ ap (add (xtime r (get_or a1 u 0))) (g.bytes u b)
          ∙ ap (λ (x : ℕ). add (xtime r x) (lane s run gap u left)) (h.second u b)
          ∙ step1 r (lane s run gap u) run.len left next fits (lane_byte s run gap bytes u left) e l;
    }

-- all syndromes are 0 exactly when all lines are codewords
module _ {r : ℕ} {run : Run} {gap left : ℕ} {s s0 s1 : List ℕ} (h : Lanes r run gap left s s0 s1) (whole : left ≡ 0) where
  pub zero-lanes : AllZero 64 s0 s1 → LanesRight r run gap s
  zero-lanes z u b =
      record {
        first = sym (tail0-whole _ _) ∙ rw whole at (sym (h.first u b)) ∙ z.first u b;
        second = sym (tail1-whole _ _ _) ∙ rw whole at (sym (h.second u b)) ∙ z.second u b;
      }

  pub lanes-zero : LanesRight r run gap s → AllZero 64 s0 s1
  lanes-zero c =
      record {
        first = λ u b. rw whole at (h.first u b) ∙ tail0-whole _ _ ∙ (c u b).first;
        second = λ u b. rw whole at (h.second u b) ∙ tail1-whole _ _ _ ∙ (c u b).second;
      }
