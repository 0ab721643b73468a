-- Peeling as a relation between two states. It is reflexive and transitive, so that a line, a sweep and the whole of peeling ensure the same.
use mathlib.Core.Path.{◌≡◌, refl, sym, subst, ◌∙◌}
use mathlib.Core.Bool.{Bool, true, false, true≢false}
use mathlib.Core.List.{List}
use mathlib.Core.Logic.{◌≢◌, ◌⊎◌, inl, inr, ⊎_elim}
use Prim.Native.Nat.{ℕ, zero, suc, ◌+◌, ◌-◌, ◌*◌, ◌%◌, ◌≤◌, ◌<◌}
use native.Mathlib.Omega.{arith}
use lib.ListN.{get_or}
use Rattle.shape.specs.declared.Shape.{Shape}
use Rattle.shape.specs.Shapes.{Valid, cells, IsLine}
use Rattle.stopping.specs.Stopping.{number, Stopping}
use Rattle.stopping.proofs.Number.{true-or-false, number-le}
use Rattle.shape.specs.Flags.{missing}
use Rattle.shape.proofs.Missing.{missing-one, missing-cong}
use Rattle.shape.proofs.Geometry.{all-axes}
use Rattle.peel.specs.Peel.{Sized}
use Rattle.peel.specs.Peel.{Stops, Agrees, Reaches, Peeled}
use Rattle.peel.specs.Inner.Sweep.{AxisStops, Filled}

-- ---- one state reaches another

pub reaches-refl : (r : ℕ) (sh : Shape) (xs fs : List ℕ) → Reaches r sh xs fs xs fs
reaches-refl r sh xs fs =
    record {
      size = refl;
      flags = refl;
      marks = λ n. inl refl;
      known = λ n w l m e. refl;
      left = λ n w l m e. refl;
      inside = λ S u. u.inside;
      agrees = λ K u v c a. a;
    }

module _ {r : ℕ} {sh : Shape} {xs fs ys gs : List ℕ} (h : Reaches r sh xs fs ys gs) where
  -- what is not missing stays so, and what is missing was so
  pub reaches_known : (n : ℕ) → missing fs n ≡ false → missing gs n ≡ false
  reaches_known n e =
      ⊎_elim (λ (k : get_or gs n 0 ≡ get_or fs n 0). missing-cong fs gs n k ∙ e)
      (λ (k : (get_or fs n 0 ≡ 1) × (get_or gs n 0 ≡ 3)). absurd (true≢false (sym (missing-one fs n k.0) ∙ e))) (h.marks n)

  pub reaches-missing : (n : ℕ) → missing gs n ≡ true → missing fs n ≡ true
  reaches-missing n e =
      ⊎_elim (λ t. t) (λ f. absurd (true≢false (sym e ∙ reaches_known n f))) (true-or-false (missing fs n))

  pub reaches-stopping : (S : ℕ → Bool) → Stopping (cells sh) (IsLine sh) (missing fs) S → Stopping (cells sh) (IsLine sh) (missing gs) S
  reaches-stopping S u = record { inside = h.inside S u; meets = u.meets }

pub reaches-trans : {r : ℕ} {sh : Shape} {xs fs ys gs zs hs : List ℕ} → Reaches r sh xs fs ys gs → Reaches r sh ys gs zs hs → Reaches r sh xs fs zs hs
unfolding Agrees
reaches-trans {r} {sh} {xs} {fs} {ys} {gs} {zs} {hs} p q =
    record {
      size = q.size ∙ p.size;
      flags = q.flags ∙ p.flags;
      marks = λ n.
          ⊎_elim
          (λ (a : get_or gs n 0 ≡ get_or fs n 0).
          ⊎_elim (λ (b : get_or hs n 0 ≡ get_or gs n 0). inl (b ∙ a))
          (λ (b : (get_or gs n 0 ≡ 1) × (get_or hs n 0 ≡ 3)). inr (sym a ∙ b.0, b.1)) (q.marks n))
          (λ (a : (get_or fs n 0 ≡ 1) × (get_or gs n 0 ≡ 3)).
          ⊎_elim (λ (b : get_or hs n 0 ≡ get_or gs n 0). inr (a.0, b ∙ a.1))
          (λ (b : (get_or gs n 0 ≡ 1) × (get_or hs n 0 ≡ 3)). inr (a.0, b.1)) (q.marks n)) (p.marks n);
      known = λ n w l m e. q.known n w l m (reaches_known p n e) ∙ p.known n w l m e;
      left = λ n w l m e. q.left n w l m e ∙ p.left n w l m (reaches-missing q n e);
      inside = λ S u. q.inside S (reaches-stopping p S u);
      agrees = λ K u v c a. q.agrees K (reaches-stopping p K u) v c (p.agrees K u v c a);
    }

pub reaches-sized : {r : ℕ} {sh : Shape} {xs fs ys gs : List ℕ} → Sized sh xs fs → Reaches r sh xs fs ys gs → Sized sh ys gs
reaches-sized z h = record { valid = z.valid; bytes = h.size ∙ z.bytes; flags = h.flags ∙ z.flags }

-- ---- steps of peeling

module _ {r : ℕ} {sh : Shape} where
  pub filled_none : (P : List ℕ → Type 0) (xs fs : List ℕ) → P fs → Filled r sh P xs fs xs fs 0
  filled_none P xs fs p =
      record { reaches = reaches-refl r sh xs fs; fewer = omega arith; idle = λ e. refl; stopped = λ e. p }

  pub filled-weaken : {P : List ℕ → Type 0} {xs fs ys gs : List ℕ} {n : ℕ} (Q : List ℕ → Type 0) → (P fs → Q fs) → Filled r sh P xs fs ys gs n
      → Filled r sh Q xs fs ys gs n
  filled-weaken Q f h = record { reaches = h.reaches; fewer = h.fewer; idle = h.idle; stopped = λ e. f (h.stopped e) }

  -- one after the other
  pub filled_next : {P Q : List ℕ → Type 0} {xs fs ys gs zs hs : List ℕ} {m n : ℕ} (R : List ℕ → Type 0) → (P fs → Q fs → R fs)
      → Filled r sh P xs fs ys gs m → Filled r sh Q ys gs zs hs n → Filled r sh R xs fs zs hs (m + n)
  filled_next {P} {Q} {xs} {fs} {ys} {gs} {zs} {hs} {m} {n} R f a b =
      record {
        reaches = reaches-trans a.reaches b.reaches;
        fewer = omega (arith, a.fewer, b.fewer);
        idle = λ e. b.idle (omega arith) ∙ a.idle (omega arith);
        stopped = λ e. f (a.stopped (omega arith)) (subst Q (a.idle (omega arith)) (b.stopped (omega arith)));
      }

  -- no more than there are cells
  pub filled-le : {P : List ℕ → Type 0} {xs fs ys gs : List ℕ} {n : ℕ} → Filled r sh P xs fs ys gs n → n ≤ cells sh
  filled-le {P} {xs} {fs} h = omega (arith, h.fewer, number-le (missing fs) (cells sh))

-- ---- the axes over and over

-- the last `idle` axes before `axis` have no line to peel
unfoldable pub Idle : Shape → List ℕ → ℕ → ℕ → Type 0
Idle sh fs axis idle = (k : ℕ) → k < idle → AxisStops sh fs ((axis + 1 + 2 * k) % 3 + 1)

module _ (sh : Shape) where
  pub idle-none : (fs : List ℕ) (axis : ℕ) → Idle sh fs axis 0
  unfolding Idle
  idle-none fs axis k l = absurd (omega arith)

  pub idle-next : (fs : List ℕ) (axis idle : ℕ) → 1 ≤ axis → axis ≤ 3 → Idle sh fs axis idle → AxisStops sh fs axis → Idle sh fs (axis % 3 + 1) (idle + 1)
  unfolding Idle
  idle-next fs axis idle p q h s zero l =
      let e : (axis % 3 + 1 + 1 + 2 * 0) % 3 + 1 ≡ axis = omega arith in
      subst (AxisStops sh fs) (sym e) s
  idle-next fs axis idle p q h s (suc k) l =
      let e : (axis % 3 + 1 + 1 + 2 * suc k) % 3 + 1 ≡ (axis + 1 + 2 * k) % 3 + 1 = omega arith in
      subst (AxisStops sh fs) (sym e) (h k (omega arith))

  pub idle-all : (fs : List ℕ) (axis : ℕ) → 1 ≤ axis → axis ≤ 3 → Idle sh fs axis 3 → (a : ℕ) → 1 ≤ a → a ≤ 3 → AxisStops sh fs a
  unfolding Idle
  idle-all fs axis p q h a low high =
      let e : (axis + 1 + 2 * ((2 * a + axis + 2) % 3)) % 3 + 1 ≡ a = omega arith in
      subst (AxisStops sh fs) e (h ((2 * a + axis + 2) % 3) (omega arith))

module _ {r : ℕ} {sh : Shape} {xs fs ys gs : List ℕ} {n : ℕ} (axis : ℕ) (h : Filled r sh (λ hs. AxisStops sh hs axis) xs fs ys gs n)
    (idle next : ℕ) (turn : ((n ≡ 0) × (next ≡ idle + 1)) ⊎ ((n ≢ 0) × (next ≡ 0))) where
  pub turn-idle : 1 ≤ axis → axis ≤ 3 → Idle sh fs axis idle → Idle sh gs (axis % 3 + 1) next
  turn-idle p q i =
      ⊎_elim
      (λ (t : (n ≡ 0) × (next ≡ idle + 1)).
      rw (t.1, h.idle t.0) (idle-next sh fs axis idle p q i (h.stopped t.0)))
      (λ (t : (n ≢ 0) × (next ≡ 0)). rw t.1 (idle-none sh gs (axis % 3 + 1))) turn

  pub turn-bound : idle < 3 → next ≤ 3
  turn-bound l =
      ⊎_elim (λ (t : (n ≡ 0) × (next ≡ idle + 1)). omega arith) (λ (t : (n ≢ 0) × (next ≡ 0)). omega arith) turn

  -- a sweep fills a cell or is idle
  pub turn-less : idle < 3 → number (missing gs) (cells sh) * 4 + (3 - next) < number (missing fs) (cells sh) * 4 + (3 - idle)
  turn-less l =
      ⊎_elim (λ (t : (n ≡ 0) × (next ≡ idle + 1)). omega (arith, h.fewer)) (λ (t : (n ≢ 0) × (next ≡ 0)). omega (arith, h.fewer)) turn

-- where the three axes have no line to peel, no line of the cube is left
pub axes-peeled : {r : ℕ} {sh : Shape} {xs fs ys gs : List ℕ} (axis : ℕ) → Valid sh → 1 ≤ axis → axis ≤ 3 → Idle sh gs axis 3 → Reaches r sh xs fs ys gs
    → Peeled r sh xs fs ys gs
unfolding AxisStops
axes-peeled {r} {sh} {xs} {fs} {ys} {gs} axis v p q i h =
    record { reaches = h; stops = all-axes (Stops gs) v (idle-all sh gs axis p q i) }
