-- Lines visited: neighbouring lines at once, line after line, by groups, and a whole sweep, in which the lines of a quiet group need no visit.
use mathlib.Core.Path.{◌≡◌, refl, sym, ap, subst, ◌∙◌, ap₂}
use mathlib.Core.List.{List}
use mathlib.Core.Logic.{◌≢◌, ◌⊎◌, inl, inr, ⊎_elim}
use Prim.Native.Nat.{ℕ, ◌+◌, ◌-◌, ◌*◌, ◌%◌, ◌≤◌, ◌<◌, ◌/◌}
use native.Mathlib.Nat.{div-add-mod', div-lt_iff_lt-mul}
use native.Mathlib.Decide.{ℕ_discrete, dec_lt}
use native.Mathlib.Omega.{arith}
use lib.ListN.{get_or, length, set, length-set}
use Rattle.shape.specs.declared.Shape.{Shape}
use Rattle.shape.specs.Shapes.{Valid, AxisLine, along, stride_of, length_of, lines_of, first_of, line_of}
use Rattle.shape.proofs.Geometry.{axis-line-every, line-passed, line-is, outer_of, lines_of-outer, stride_of-pos}
use Rattle.stopping.specs.Stopping.{on_line}
use Rattle.shape.specs.Flags.{missing}
use Rattle.peel.specs.Peel.{Stops}
use Rattle.peel.specs.Inner.Wake.{mark_at, QuietIn, Quiet, Awake, Woken, AllQuiet}
use Rattle.peel.specs.Inner.Sweep.{AxisStops, Filled, LineStops, LinesStop, Calm, Visited}
use Rattle.peel.specs.Inner.OnLine.{Neighbours, Hole, earlier, later, Flagged, AllStop, LinesVisited}
use lib.Arith.{digits_lt, digits_div, digits_mod}
use lib.Seq.{get_or-set_same, get_or-set_other}
use Rattle.answer.specs.Values.{passes}
use Rattle.shape.specs.declared.Line.{Line}
use Rattle.peel.proofs.Reaching.{filled_none, filled-weaken, filled_next}
use Rattle.peel.proofs.Together.{hole-or-not}
use Rattle.shape.proofs.Axes.{lines-few}
use Rattle.peel.proofs.Awake.{keeps-refl, keeps-trans, quiet_keeps}

-- ---- the holes of neighbouring lines filled, line after line

module _ (fs : List ℕ) (a b : ℕ) where
  -- the flags with a and b marked
  abbrev both-marked : List ℕ
  both-marked = set (set fs a 3) b 3

  marked-length : length both-marked ≡ length fs
  marked-length = simp length-set

  marked_other : (n : ℕ) → n ≢ a → n ≢ b → get_or both-marked n 0 ≡ get_or fs n 0
  marked_other n na nb = get_or-set_other (set fs a 3) b n 3 0 nb ∙ get_or-set_other fs a n 3 0 na

  marked-last : b < length fs → get_or both-marked b 0 ≡ 3
  marked-last l = get_or-set_same (set fs a 3) b 3 0 (simp length-set l)

  marked-first : a < length fs → b < length fs → get_or both-marked a 0 ≡ 3
  marked-first la lb =
      elim (ℕ_discrete a b) [
        | yes e ↦ ap (λ (n : ℕ). get_or both-marked n 0) e ∙ marked-last lb
        | no ne ↦ get_or-set_other (set fs a 3) b a 3 0 ne ∙ get_or-set_same fs a 3 0 la
      ]

either : (a b m : ℕ) (P : ℕ → Type 0) → P a → P b → (m ≢ a → m ≢ b → P m) → P m
either a b m P pa pb other =
    elim (ℕ_discrete m a) [
      | yes g ↦ subst P (sym g) pa
      | no na ↦ elim (ℕ_discrete m b) [ yes g ↦ subst P (sym g) pb | no nb ↦ other na nb ]
    ]

hole-none : {first stride j k : ℕ} (m : ℕ) → Hole first stride 0 j k m → ⊥
hole-none _ (earlier q l) = omega arith
hole-none _ (later q l) = omega arith

hole-more : {first stride q j k : ℕ} (m : ℕ) → Hole first stride q j k m → Hole first stride (q + 1) j k m
hole-more _ (earlier p l) = earlier p (omega arith)
hole-more _ (later p l) = later p (omega arith)

hole-fewer : {first stride q j k : ℕ} (m : ℕ) → Hole first stride (q + 1) j k m → m ≢ first + q + stride * j → m ≢ first + q + stride * k → Hole first stride q j k m
hole-fewer {first} {stride} {q} {j} {k} _ (earlier p l) a b =
    elim (ℕ_discrete p q) [ yes e ↦ absurd (a (ap (λ (x : ℕ). first + x + stride * j) e)) | no ne ↦ earlier p (omega arith) ]
hole-fewer {first} {stride} {q} {j} {k} _ (later p l) a b =
    elim (ℕ_discrete p q) [ yes e ↦ absurd (b (ap (λ (x : ℕ). first + x + stride * k) e)) | no ne ↦ later p (omega arith) ]

module _ {sh : Shape} {first stride j k : ℕ} {fs ms : List ℕ} where
  pub flagged-none : Flagged sh first stride 0 j k fs ms fs ms
  flagged-none =
      record {
        flags = refl;
        size = refl;
        filled = λ m h. absurd (hole-none m h);
        others = λ m off. refl;
        falls = λ axis m q. q;
        through = λ m h. absurd (hole-none m h);
      }

  -- one line more
  pub flagged-more : {q : ℕ} {gs ns hs os is ps : List ℕ} → Flagged sh first stride q j k fs ms gs ns → first + q + stride * j < length gs
      → first + q + stride * k < length gs → Woken sh (first + q + stride * j) ns os → Woken sh (first + q + stride * k) os ps
      → hs ≡ set gs (first + q + stride * j) 3 → is ≡ set hs (first + q + stride * k) 3 → Flagged sh first stride (q + 1) j k fs ms is ps
  unfolding Awake
  flagged-more {q} {gs} {ns} {hs} {os} {is} {ps} d la lb wa wb ea eb =
      let a = first + q + stride * j in
      let b = first + q + stride * k in
      let e : is ≡ both-marked gs a b = eb ∙ ap (λ (fs : List ℕ). set fs b 3) ea in
      record {
        flags = ap length e ∙ marked-length gs a b ∙ d.flags;
        size = wb.size ∙ wa.size ∙ d.size;
        filled = λ m h.
            ap (λ (x : List ℕ). get_or x m 0) e
            ∙ either a b m (λ (x : ℕ). get_or (both-marked gs a b) x 0 ≡ 3) (marked-first gs a b la lb) (marked-last gs a b lb)
            (λ na nb. marked_other gs a b m na nb ∙ d.filled m (hole-fewer m h na nb));
        others = λ m off.
            ap (λ (x : List ℕ). get_or x m 0) e
            ∙ marked_other gs a b m (λ g. off (subst (Hole first stride (q + 1) j k) (sym g) (earlier q (omega arith))))
            (λ g. off (subst (Hole first stride (q + 1) j k) (sym g) (later q (omega arith))))
            ∙ d.others m (λ h. off (hole-more m h));
        falls = λ axis m h. d.falls axis m (wa.falls axis m (wb.falls axis m h));
        through = λ m h.
            either a b m (Awake sh ps) (λ axis l i p r o t. wa.through axis l i p r o (wb.falls axis l t)) wb.through
            (λ na nb axis l i p r o t. d.through m (hole-fewer m h na nb) axis l i p r o (wa.falls axis l (wb.falls axis l t)));
      }

-- ---- neighbouring lines visited

-- lines that miss the same one or two places
pub lines-recovered : {r : ℕ} {sh : Shape} {first stride len n j k : ℕ} {xs fs ms ys gs ns : List ℕ} {count : ℕ}
    → Filled r sh (AllStop first stride len n) xs fs ys gs count → AllStop first stride len n gs → Flagged sh first stride n j k fs ms gs ns
    → LinesVisited r sh first stride len n xs fs ms ys gs ns count
unfolding Awake
lines-recovered {first = first} {stride} {n = n} {j} {k} f s d =
    record {
      filled = f;
      keeps =
          quiet_keeps d.size d.falls
          (λ axis m i p q l t h.
          ⊎_elim (λ hole. absurd (d.through _ hole axis m i p q (record { line_lt = l; place_lt = t; here = refl }) h)) (λ off. d.others _ off)
          (hole-or-not first stride n j k _));
      after = s;
    }

-- a line that misses none or more than two
pub line-left : {r : ℕ} {sh : Shape} (xs fs ms : List ℕ) (first stride len : ℕ)
    → (on_line (missing fs) first stride len ≡ 0) ⊎ (3 ≤ on_line (missing fs) first stride len)
    → LinesVisited r sh first stride len 1 xs fs ms xs fs ms 0
unfolding AllStop Stops
line-left xs fs ms first stride len s =
    record { filled = filled_none (AllStop first stride len 1) xs fs one; keeps = keeps-refl fs ms; after = one }
  where
    one : (q : ℕ) → q < 1 → Stops fs (first + q) stride len
    one q l = subst (λ (f : ℕ). Stops fs f stride len) (omega arith) s

-- ---- the lines of a block

-- line m + q stands q cells further
first-beside : (sh : Shape) (axis m q : ℕ) → m % stride_of sh axis + q < stride_of sh axis → first_of sh axis (m + q) ≡ first_of sh axis m + q
unfolding first_of
first-beside sh axis m q b =
    let s = stride_of sh axis in
    let e : m + q ≡ m / s * s + (m % s + q) = omega (arith, div-add-mod' m s) in
    ap₂ (λ (d r : ℕ). d * (s * length_of sh axis) + r) (ap (λ (k : ℕ). k / s) e ∙ digits_div (m / s) b) (ap (λ (k : ℕ). k % s) e ∙ digits_mod (m / s) b)
    ∙ omega arith

-- what holds of a line found, in terms of its number
module _ (sh : Shape) (axis m : ℕ) (l : Line) (e : line_of sh axis m ≡ passes l) where
  abbrev found : Line
  found = record { first = first_of sh axis m; stride = stride_of sh axis; len = length_of sh axis }

  same_line : l ≡ found
  same_line = (line-passed sh axis m l e).4

  pub neighbours-of : (n : ℕ) → 1 ≤ n → m % l.stride + n ≤ l.stride → Neighbours sh l.first l.stride l.len n
  neighbours-of n some =
      subst (λ (x : Line). m % x.stride + n ≤ x.stride → Neighbours sh x.first x.stride x.len n) (sym same_line)
      (λ b.
      record {
        some = some;
        apart = omega arith;
        each = λ q h.
            along
            (subst (λ (f : ℕ). AxisLine sh axis f (stride_of sh axis) (length_of sh axis)) (first-beside sh axis m q (omega arith))
            (line-is sh axis (m + q) v (line-passed sh axis m l e).1 (line-passed sh axis m l e).2 (below q (omega arith))));
      })
    where
      v : Valid sh
      v = (line-passed sh axis m l e).0

      below : (q : ℕ) → m % stride_of sh axis + q < stride_of sh axis → m + q < lines_of sh axis
      below q h =
          let s = stride_of sh axis in
          let block : m / s < outer_of sh axis =
          (div-lt_iff_lt-mul (stride_of-pos sh axis v)).1 (rw (lines_of-outer sh axis) at (line-passed sh axis m l e).3) in
          omega (arith, lines_of-outer sh axis, div-add-mod' m s, digits_lt block h)

  lines_at : (n : ℕ) (hs : List ℕ) → m % l.stride + n ≤ l.stride → AllStop l.first l.stride l.len n hs
      → (k : ℕ) → m ≤ k → k < m + n → LineStops sh hs axis k
  unfolding LineStops AllStop
  lines_at n hs =
      subst
      (λ (x : Line).
      m % x.stride + n ≤ x.stride → AllStop x.first x.stride x.len n hs → (k : ℕ) → m ≤ k → k < m + n → LineStops sh hs axis k)
      (sym same_line)
      (λ b s k low high.
      let same : m + (k - m) ≡ k = omega arith in
      subst (λ (f : ℕ). Stops hs f (stride_of sh axis) (length_of sh axis))
      (sym (first-beside sh axis m (k - m) (omega arith)) ∙ ap (first_of sh axis) same) (s (k - m) (omega arith)))

-- ---- lines of an axis visited one after the other

lines_join : {sh : Shape} {axis lo mid hi : ℕ} {fs : List ℕ} → LinesStop sh axis lo mid fs → LinesStop sh axis mid hi fs → LinesStop sh axis lo hi fs
lines_join {mid = mid} a b =
    record { each = λ m low high l. elim (dec_lt m mid) [ yes h ↦ a.each m low h l | no n ↦ b.each m (omega arith) high l ] }

lines_none : {sh : Shape} {axis lo : ℕ} {fs : List ℕ} → LinesStop sh axis lo lo fs
lines_none = record { each = λ m p q. absurd (omega arith) }

module _ {r : ℕ} {sh : Shape} {axis : ℕ} where
  pub visited-none : (lo : ℕ) (xs fs ms : List ℕ) → Visited r sh axis lo lo xs fs ms xs fs ms 0
  visited-none lo xs fs ms =
      record {
        filled = filled_none (LinesStop sh axis lo lo) xs fs lines_none;
        keeps = keeps-refl fs ms;
        after = λ m p q. absurd (omega arith);
      }

  pub visited-next : {lo mid hi : ℕ} {xs fs ms ys gs ns zs hs os : List ℕ} {a b : ℕ} → 1 ≤ axis → axis ≤ 3
      → Visited r sh axis lo mid xs fs ms ys gs ns a → Visited r sh axis mid hi ys gs ns zs hs os b → Visited r sh axis lo hi xs fs ms zs hs os (a + b)
  visited-next {mid = mid} p q v w =
      record {
        filled = filled_next _ lines_join v.filled w.filled;
        keeps = keeps-trans v.keeps w.keeps;
        after = λ m low high l h.
            elim (dec_lt m mid) [
              | yes k ↦ w.keeps.stops axis m p q l h (v.after m low k l (w.keeps.falls axis m h))
              | no n ↦ w.after m (omega arith) high l h
            ];
      }

  -- fewer lines
  pub visited-fewer : {lo mid hi : ℕ} {xs fs ms ys gs ns : List ℕ} {a : ℕ} → hi ≤ mid → Visited r sh axis lo mid xs fs ms ys gs ns a → Visited r sh axis lo hi xs fs ms ys gs ns a
  visited-fewer {lo} {mid} {hi} le v =
      record {
        filled = filled-weaken (LinesStop sh axis lo hi) (λ s. record { each = λ m p q l. s.each m p (omega arith) l }) v.filled;
        keeps = v.keeps;
        after = λ m p q l h. v.after m p (omega arith) l h;
      }

  -- a number that is no line's
  pub visited-past : (m : ℕ) (xs fs ms : List ℕ) → lines_of sh axis ≤ m → Visited r sh axis m (m + 1) xs fs ms xs fs ms 0
  visited-past m xs fs ms past =
      record {
        filled = filled_none (LinesStop sh axis m (m + 1)) xs fs (record { each = λ k p q l. absurd (omega arith) });
        keeps = keeps-refl fs ms;
        after = λ k p q l. absurd (omega arith);
      }

  -- lines side by side
  pub visited-lines : (m : ℕ) (l : Line) {n : ℕ} {xs fs ms ys gs ns : List ℕ} {count : ℕ} → line_of sh axis m ≡ passes l → m % l.stride + n ≤ l.stride
      → LinesVisited r sh l.first l.stride l.len n xs fs ms ys gs ns count → Visited r sh axis m (m + n) xs fs ms ys gs ns count
  visited-lines m l {n} {xs} {fs} {ms} {ys} {gs} {ns} {count} e b v =
      record {
        filled = filled-weaken (LinesStop sh axis m (m + n)) (λ s. record { each = λ k p q _. lines_at sh axis m l e n fs b s k p q }) v.filled;
        keeps = v.keeps;
        after = λ k p q _ h. lines_at sh axis m l e n gs b v.after k p q;
      }

-- ---- a group visited

-- the lines that share a mark
mark-same : (a axis m g : ℕ) → 1 ≤ a → 1 ≤ axis → m < 65536 → g < 8192 → mark_at a (m / 8) ≡ mark_at axis g → (a ≡ axis) × (g * 8 ≤ m) × (m < g * 8 + 8)
mark-same a axis m g p q l b e = (omega arith, omega arith, omega arith)

-- a line of a group is awake by the group's mark, or it stops
awake-or-stops : {sh : Shape} {axis : ℕ} {fs ms : List ℕ} (g : ℕ) → Calm sh fs ms → 1 ≤ axis → axis ≤ 3 → (m : ℕ) → g * 8 ≤ m → m < g * 8 + 8 → m < lines_of sh axis
    → ((g * 8 + get_or ms (mark_at axis g) 0 / 8 ≤ m) × (m < g * 8 + (8 - get_or ms (mark_at axis g) 0 % 8))) ⊎ LineStops sh fs axis m
unfolding Quiet QuietIn
awake-or-stops {sh} {axis} {fs} {ms} g c p q m low high l =
    let x = get_or ms (mark_at axis g) 0 in
    let group : m / 8 ≡ g = omega arith in
    let quiet : QuietIn x (m % 8) → LineStops sh fs axis m = λ h. c.stops axis m p q l (subst (λ (k : ℕ). QuietIn (get_or ms (mark_at axis k) 0) (m % 8)) (sym group) h) in
    elim (dec_lt (m % 8) (x / 8)) [
      | yes h ↦ inr (quiet (inl h))
      | no a ↦ elim (dec_lt 7 (m % 8 + x % 8)) [ yes h ↦ inr (quiet (inr h)) | no b ↦ inl (omega arith, omega arith) ]
    ]

-- Marked first, then visited: a line of the group that is still quiet was left as one that stops, or was quiet already.
module _ {r : ℕ} {sh : Shape} {axis g : ℕ} {xs fs ms ys gs ns : List ℕ} {n : ℕ} (valid : Valid sh) (low : 1 ≤ axis) (high : axis ≤ 3) (b : g < 8192) (c : Calm sh fs ms)
    (v :
    Visited r sh axis (g * 8 + get_or ms (mark_at axis g) 0 / 8) (g * 8 + (8 - get_or ms (mark_at axis g) 0 % 8)) xs fs (set ms (mark_at axis g) 71) ys gs ns n) where
  pub group-calm : Calm sh gs ns
  unfolding Quiet
  group-calm =
      record {
        size = v.keeps.size ∙ simp length-set c.size;
        stops = λ a m p q l h.
            elim (ℕ_discrete (mark_at a (m / 8)) (mark_at axis g)) [
              | yes e ↦
                  let (same, from, to) = mark-same a axis m g p low (omega (arith, lines-few sh a valid)) b e in
                  subst (λ (x : ℕ). m < lines_of sh x → Quiet ns x m → LineStops sh gs x m) (sym same) (here m from to) l h
              | no ne ↦
                  v.keeps.stops a m p q l h
                  (c.stops a m p q l (subst (λ (x : ℕ). QuietIn x (m % 8)) (get_or-set_other ms (mark_at axis g) (mark_at a (m / 8)) 71 0 ne) (v.keeps.falls a m h)))
            ];
      }
    where
      here : (m : ℕ) → g * 8 ≤ m → m < g * 8 + 8 → m < lines_of sh axis → Quiet ns axis m → LineStops sh gs axis m
      here m from to l h =
          ⊎_elim (λ (i, j). v.after m i j l h) (λ s. v.keeps.stops axis m low high l h s) (awake-or-stops g c low high m from to l)

  pub group-filled : Filled r sh (LinesStop sh axis (g * 8) (g * 8 + 8)) xs fs ys gs n
  group-filled =
      filled-weaken (LinesStop sh axis (g * 8) (g * 8 + 8))
      (λ s. record { each = λ m from to l. ⊎_elim (λ (i, j). s.each m i j l) (λ t. t) (awake-or-stops g c low high m from to l) }) v.filled

-- ---- a sweep

all_quiet : (ms : List ℕ) (axis m : ℕ) → get_or ms (mark_at axis (m / 8)) 0 ≡ 71 → Quiet ms axis m
unfolding Quiet QuietIn
all_quiet ms axis m e = rw e (inl (omega arith))

module _ {r : ℕ} {sh : Shape} {axis : ℕ} {xs fs : List ℕ} where
  pub swept_none : Filled r sh (LinesStop sh axis 0 (0 * 8)) xs fs xs fs 0
  swept_none = filled_none (LinesStop sh axis 0 0) xs fs lines_none

  module _ {ys gs : List ℕ} {n : ℕ} where
    -- quiet groups passed over
    pub swept-quiet : {ms : List ℕ} {g h : ℕ} → 1 ≤ axis → axis ≤ 3 → Calm sh gs ms → AllQuiet ms axis g h
        → Filled r sh (LinesStop sh axis 0 (g * 8)) xs fs ys gs n → Filled r sh (LinesStop sh axis 0 (h * 8)) xs fs ys gs n
    unfolding Quiet
    swept-quiet {ms} {g} {h} p q c quiet f =
        record {
          reaches = f.reaches;
          fewer = f.fewer;
          idle = f.idle;
          stopped = λ e.
              lines_join (f.stopped e)
              (record {
                each = λ m low high l.
                    subst (λ (hs : List ℕ). LineStops sh hs axis m) (f.idle e)
                    (c.stops axis m p q l (all_quiet ms axis m (quiet.each (m / 8) (omega arith) (omega arith))));
              });
        }

    -- one more group visited
    pub swept-group : {zs hs : List ℕ} {k : ℕ} (g : ℕ) → Filled r sh (LinesStop sh axis 0 (g * 8)) xs fs ys gs n
        → Filled r sh (LinesStop sh axis (g * 8) (g * 8 + 8)) ys gs zs hs k → Filled r sh (LinesStop sh axis 0 ((g + 1) * 8)) xs fs zs hs (n + k)
    swept-group {zs} {hs} {k} g a b =
        let e : g * 8 + 8 ≡ (g + 1) * 8 = omega arith in
        filled_next _ lines_join a (rw e at b)

    -- all groups
    pub swept_all : (groups : ℕ) → Valid sh → lines_of sh axis ≤ groups * 8 → Filled r sh (LinesStop sh axis 0 (groups * 8)) xs fs ys gs n
        → Filled r sh (λ hs. AxisStops sh hs axis) xs fs ys gs n
    unfolding AxisStops LineStops
    swept_all groups v b f =
        filled-weaken (λ hs. AxisStops sh hs axis)
        (λ s first stride len l.
        let (m, low, high, below, found) = axis-line-every sh axis first stride len v l in
        subst (λ (x : Line). Stops fs x.first x.stride x.len) (sym (line-passed sh axis m _ found).4)
        (s.each m (omega arith) (omega arith) below)) f
