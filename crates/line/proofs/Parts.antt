-- A run block by block: what is done to the first lines, and then to the next ones, which may begin among them, is done to all together.
-- Said once for any change of the lines: P is what becomes of each line, and Q are the places that may change.
use mathlib.Core.Path.{◌≡◌, refl, sym, ap, subst, fun_ext, ◌∙◌}
use mathlib.Core.List.{List}
use mathlib.Core.Logic.{◌⊎◌, inl, inr, ⊎_elim}
use Prim.Native.Nat.{ℕ, ◌+◌, ◌-◌, ◌*◌, ◌≤◌, ◌<◌, min}
use native.Mathlib.Decide.{dec_lt}
use native.Mathlib.Nat.{mul-le-mul_left}
use native.Mathlib.Omega.{arith}
use lib.ListN.{length, get_or}
use Rattle.line.specs.declared.Run.{Run}
use Rattle.line.specs.Line.{Codeword}
use Rattle.line.specs.Run.{Inside, Off, line_at}
use Rattle.line.specs.Inner.Block.{part, front, Block, Cover, Roomy}
use Rattle.line.specs.Inner.Blocks.{Widened}
use Rattle.line.proofs.Geometry.{stride-below, off-place}

-- ---- parts of a run

pub part-inside : (run : Run) (n a w : ℕ) → Inside run n → a + w ≤ run.width → Inside (part run a w) n
unfolding part
part-inside run n a w h within =
    record {
      some_place = h.some_place;
      few_places = h.few_places;
      apart = omega (arith, h.apart);
      fits = λ i l. omega (arith, h.fits i l);
    }

pub part-block :
    {run next : Run} {a w : ℕ} → next ≡ part run a w → 0 < w → min 64 (run.width - a) ≤ w → w ≤ 4096 →
    a + w ≤ run.width → Block run a next
unfolding part
part-block {run} {next} {a} {w} e some enough few within =
    subst (Block run a) (sym e)
    (record { lines = refl; some_line = some; enough_lines = enough; few_lines = few; within = within })

-- a block of a run begins where it is to
pub block-cover : {run next : Run} {a : ℕ} → Block run a next → Cover run a next
block-cover {run} {next} {a} b =
    record {
      start = a;
      lines = b.lines;
      begins = omega arith;
      ends = omega (arith, b.some_line);
      few_lines = b.few_lines;
      within = b.within;
    }

-- a block of fewer than 64 lines is the last one, and the last 64 lines take its place
pub widened-last :
    {run b last : Run} {a : ℕ} → Block run a b → b.width < 64 → 64 ≤ run.width → last ≡ part run (run.width - 64) 64 →
    Widened run a b last
unfolding part
widened-last {run} {b} {last} {a} h short long e =
    subst (Widened run a b) (sym e)
    (record {
      cover =
          record {
            start = run.width - 64;
            lines = refl;
            begins = omega (arith, h.enough_lines);
            ends = omega (arith, h.some_line, h.within);
            few_lines = omega arith;
            within = omega arith;
          };
      ends = omega (arith, h.enough_lines, h.within);
    })

pub widened-none : {run b : Run} {a : ℕ} → Block run a b → Widened run a b b
unfolding block-cover
widened-none h = record { cover = block-cover h; ends = refl }

pub cover-inside : (run next : Run) (n a : ℕ) → Inside run n → Cover run a next → Inside next n
cover-inside run next n a h b =
    subst (λ (x : Run). Inside x n) (sym b.lines) (part-inside run n b.start next.width h b.within)

pub cover-place : (run next : Run) (a k : ℕ) → Cover run a next → k < run.len → k < next.len
unfolding part
cover-place run next a k b h = subst (λ (x : Run). k < x.len) (sym b.lines) h

-- what lies inside a list lies inside one of the same length
pub inside-size : {run : Run} {n m : ℕ} → Inside run n → m ≡ n → Inside run m
inside-size {run} h e = subst (Inside run) (sym e) h

pub line-part : (s : List ℕ) (run : Run) (a w t : ℕ) → line_at s (part run a w) t ≡ line_at s run (a + t)
unfolding line_at part
line-part s run a w t = fun_ext (λ i. ap (λ (p : ℕ). get_or s p 0) (omega arith))

-- a line is no line of a part, at any place
pub off_part :
    (run : Run) (a w : ℕ) → a + w ≤ run.stride → (i k t : ℕ) → t < run.stride → (t < a) ⊎ (a + w ≤ t) →
    Off (part run a w) k (run.first + run.stride * i + t)
unfolding Off part
off_part run a w apart i k t h o =
    elim (dec_lt i k) [
      | yes l ↦ inl (omega (arith, stride-below run.stride i k l))
      | no l ↦
          elim (dec_lt k i) [
            | yes m ↦ inr (omega (arith, stride-below run.stride k i m))
            | no m ↦
                let same : run.stride * i ≡ run.stride * k = ap (λ (x : ℕ). run.stride * x) (omega arith) in
                ⊎_elim (λ (x : t < a). inl (omega arith)) (λ (x : a + w ≤ t). inr (omega arith)) o
          ]
    ]

off-front : (run : Run) (w i p : ℕ) → Off (part run 0 w) i p → Off (front run w) i p
unfolding Off part front
off-front run w i p o =
    ⊎_elim (λ (x : p < run.first + 0 + run.stride * i). inl (omega arith))
    (λ (x : run.first + 0 + run.stride * i + w ≤ p). inr (omega arith)) o

-- off the first lines is off fewer of them, and off each part of them
pub off-first : (run : Run) (a w i p : ℕ) → a ≤ w → Off (front run w) i p → Off (front run a) i p
unfolding Off front
off-first run a w i p le o =
    ⊎_elim (λ (x : p < run.first + run.stride * i). inl x)
    (λ (x : run.first + run.stride * i + w ≤ p). inr (omega arith)) o

pub off_next : (run : Run) (a w i p : ℕ) → Off (front run (a + w)) i p → Off (part run a w) i p
unfolding Off front part
off_next run a w i p o =
    ⊎_elim (λ (x : p < run.first + run.stride * i). inl (omega arith))
    (λ (x : run.first + run.stride * i + (a + w) ≤ p). inr (omega arith)) o

-- ---- changes

pub record Changed (Q : ℕ → ℕ → Type 0) (P : ℕ → (ℕ → ℕ) → (ℕ → ℕ) → Type 0) (run : Run) (before after : List ℕ) : Type 0 where
  pub size : length after ≡ length before
  pub kept : (p : ℕ) → ((i : ℕ) → Q run.len i → Off run i p) → get_or after p 0 ≡ get_or before p 0
  pub lines : (t : ℕ) → t < run.width → P run.len (line_at before run t) (line_at after run t)

module _ (Q : ℕ → ℕ → Type 0) (P : ℕ → (ℕ → ℕ) → (ℕ → ℕ) → Type 0) (run : Run) where
  pub changed-none : (l : List ℕ) → Changed Q P (front run 0) l l
  unfolding front
  changed-none l = record { size = refl; kept = λ p o. refl; lines = λ t h. absurd (omega arith) }

  pub changed-all : (before after : List ℕ) (w : ℕ) → w ≡ run.width → Changed Q P (front run w) before after → Changed Q P run before after
  unfolding front
  changed-all before after w e c = subst (λ (x : ℕ). Changed Q P (front run x) before after) e c

  -- the lines after the first ones are not changed
  pub line-later :
      (a : ℕ) {before mid : List ℕ} → Changed Q P (front run a) before mid → a ≤ run.stride → (t : ℕ) → a ≤ t →
      t < run.stride → line_at mid run t ≡ line_at before run t
  unfolding line_at front
  line-later a one apart t h l =
      fun_ext (λ i. one.kept _ (λ k q. off-front run a k _ (off_part run 0 a (omega arith) i k t l (inr (omega arith)))))

  -- a second step, to w lines that begin among the first a or next to them; `back` says that what it makes of the lines that the
  -- first step left it makes of the lines before that
  module _ (start a w : ℕ) (begins : start ≤ a) (ends : a ≤ start + w) (within : start + w ≤ run.width)
      (apart : run.width ≤ run.stride) {before mid after : List ℕ} (one : Changed Q P (front run a) before mid)
      (two : Changed Q P (part run start w) mid after)
      (back :
      (t : ℕ) → start ≤ t → t < start + w → P run.len (line_at mid run t) (line_at after run t) →
      P run.len (line_at before run t) (line_at after run t)) where
    -- the lines before the second step's are not changed by it
    line_first : (t : ℕ) → t < start → line_at after run t ≡ line_at mid run t
    unfolding line_at part
    line_first t h =
        fun_ext (λ i. two.kept _ (λ k q. off_part run start w (omega arith) i k t (omega arith) (inl h)))

    lines-first : (t : ℕ) → t < start → P run.len (line_at before run t) (line_at after run t)
    unfolding front line_at
    lines-first t h =
        subst (P run.len (line_at before run t)) (sym (line_first t h)) (one.lines t (omega arith))

    lines_next : (t : ℕ) → t < w → P run.len (line_at mid run (start + t)) (line_at after run (start + t))
    unfolding part
    lines_next t h =
        subst (λ (c : ℕ → ℕ). P run.len c (line_at after run (start + t))) (line-part mid run start w t)
        (subst (P run.len (line_at mid (part run start w) t)) (line-part after run start w t) (two.lines t h))

    changed-both : Changed Q P (front run (start + w)) before after
    unfolding front part line_at
    changed-both =
        record {
          size = two.size ∙ one.size;
          kept =
              λ p o. two.kept p (λ i q. off_next run start w i p (o i q))
              ∙ one.kept p (λ i q. off-first run a (start + w) i p ends (o i q));
          lines =
              λ t h. elim (dec_lt t start) [
                | yes l ↦ lines-first t l
                | no l ↦
                    back t (omega arith) h
                    (subst (λ (x : ℕ). P run.len (line_at mid run x) (line_at after run x)) (omega arith)
                    (lines_next (t - start) (omega arith)))
              ];
        }

  -- the lines next to the first ones
  pub changed-more :
      (a w : ℕ) → a + w ≤ run.width → run.width ≤ run.stride → {before mid after : List ℕ} →
      Changed Q P (front run a) before mid → Changed Q P (part run a w) mid after →
      Changed Q P (front run (a + w)) before after
  changed-more a w within apart {before} {mid} {after} one two =
      changed-both a a w (omega arith) (omega arith) within apart one two
      (λ t h l x. subst (λ (c : ℕ → ℕ). P run.len c (line_at after run t)) (line-later a one (omega arith) t h (omega arith)) x)

  pub changed-next :
      {n a : ℕ} {next : Run} {before mid after : List ℕ} → Inside run n → Block run a next →
      Changed Q P (front run a) before mid → Changed Q P next mid after →
      Changed Q P (front run (a + next.width)) before after
  changed-next {n} {a} {next} {before} {mid} {after} h b one two =
      changed-more a next.width b.within h.apart one
      (subst (λ (x : Run). Changed Q P x mid after) b.lines two)

  -- lines that begin among the first ones, where the change looks at no place that may change
  pub changed-over :
      ((n : ℕ) (c c' d : ℕ → ℕ) → ((i : ℕ) → (Q n i → ⊥) → c i ≡ c' i) → P n c' d → P n c d) →
      {n a : ℕ} {block next : Run} {before mid after : List ℕ} → Inside run n → Widened run a block next →
      Changed Q P (front run a) before mid → Changed Q P next mid after →
      Changed Q P (front run (a + block.width)) before after
  changed-over again {n} {a} {block} {next} {before} {mid} {after} h wide one two =
      subst (λ (x : ℕ). Changed Q P (front run x) before after) wide.ends
      (changed-both b.start a next.width b.begins (omega (arith, b.ends)) b.within h.apart one
      (subst (λ (x : Run). Changed Q P x mid after) b.lines two)
      (λ t m l x. again run.len (line_at before run t) (line_at mid run t) (line_at after run t)
      (same t (omega (arith, b.within, h.apart))) x))
    where
      b : Cover run a next
      b = wide.cover

      narrow : a ≤ run.stride
      narrow = omega (arith, b.ends, b.within, h.apart)

      same : (t : ℕ) → t < run.stride → (i : ℕ) → (Q run.len i → ⊥) → line_at before run t i ≡ line_at mid run t i
      same t l i never =
          unfold line_at front in
          sym (one.kept _ (λ k q. off-place (front run a) i k t narrow l (λ e. never (subst (Q run.len) (sym e) q))))

-- ---- codewords

module _ (r : ℕ) (s : List ℕ) {run next : Run} {a : ℕ} (b : Cover run a next) where
  block-line : (t : ℕ) → Codeword r (line_at s run (b.start + t)) run.len → Codeword r (line_at s next t) next.len
  unfolding part
  block-line t h =
      subst (λ (x : Run). Codeword r (line_at s x t) x.len) (sym b.lines)
      (subst (λ (c : ℕ → ℕ). Codeword r c run.len) (sym (line-part s run b.start next.width t)) h)

  line-block : (t : ℕ) → Codeword r (line_at s next t) next.len → Codeword r (line_at s run (b.start + t)) run.len
  unfolding part
  line-block t h =
      subst (λ (c : ℕ → ℕ). Codeword r c run.len) (line-part s run b.start next.width t)
      (subst (λ (x : Run). Codeword r (line_at s x t) x.len) b.lines h)

  -- the lines of a block are lines of the run
  pub codewords-block :
      ((t : ℕ) → t < run.width → Codeword r (line_at s run t) run.len) → (t : ℕ) → t < next.width →
      Codeword r (line_at s next t) next.len
  codewords-block h t l = block-line t (h (b.start + t) (omega (arith, b.within)))

-- the first lines and a widened block's
pub codewords-more :
    (r : ℕ) (s : List ℕ) {run block next : Run} {a : ℕ} (b : Widened run a block next) →
    ((t : ℕ) → t < a → Codeword r (line_at s run t) run.len) →
    ((t : ℕ) → t < next.width → Codeword r (line_at s next t) next.len) → (t : ℕ) →
    t < a + block.width → Codeword r (line_at s run t) run.len
codewords-more r s {run} b h g t l =
    elim (dec_lt t b.cover.start) [
      | yes m ↦ h t (omega (arith, b.cover.begins))
      | no m ↦
          subst (λ (x : ℕ). Codeword r (line_at s run x) run.len) (omega arith)
          (line-block r s b.cover (t - b.cover.start) (g (t - b.cover.start) (omega (arith, b.ends))))
    ]

-- 64 lines have room, and so has any place of a run whose last one has
pub roomy-inside : {run : Run} {n : ℕ} → Inside run n → 64 ≤ run.width → Roomy run n
unfolding Roomy
roomy-inside h many i l = omega (arith, h.fits i l)

pub roomy-last : (run : Run) {n : ℕ} → run.first + run.stride * (run.len - 1) + 64 ≤ n → Roomy run n
unfolding Roomy
roomy-last run h i l = omega (arith, mul-le-mul_left {m = i} {n = run.len - 1} run.stride (omega arith))
