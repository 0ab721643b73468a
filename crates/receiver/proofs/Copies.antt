-- The copies of a cell: which cells the first packets name, where all copies of one are equal, and where they differ.
use mathlib.Core.Path.{◌≡◌, refl, sym, ap, ◌∙◌}
use mathlib.Core.Bool.{Bool, true, false, not, true≢false, false≢true}
use mathlib.Core.Logic.{◌≢◌}
use Prim.Native.Nat.{ℕ, zero, suc, ◌+◌, ◌<◌}
use native.Mathlib.Decide.{ℕ_discrete}
use native.Mathlib.Numerals.{add-one}
use native.Mathlib.Omega.{arith}
use borrow.Author.Tests.{eq-eqb, ne_eqb, eqb-true}
use Rattle.shape.specs.declared.Shape.{Shape}
use Rattle.shape.specs.Shapes.{both}
use Rattle.shape.proofs.Valid.{both-parts, both_true}
use Rattle.stopping.proofs.Number.{not-true-false}
use Rattle.pack.specs.Packets.{Source}
use Rattle.receiver.specs.Placing.{among, every, alike, agreed, conflicting}
use Rattle.receiver.specs.Theorems.{AllEqual, AgreedExactly, NotRescued}

-- ---- cells that the first packets name

pub among-earlier : (s : Source) (n m : ℕ) → among s n m ≡ true → (j : ℕ) × (j < n) × (s.place j ≡ m)
unfolding among
among-earlier s zero m e = absurd (false≢true e)
among-earlier s (suc n) m e =
    elim (ℕ_discrete (s.place n) m) [
      | yes same ↦ (n, omega arith, same)
      | no ne ↦ let (j, l, same) = among-earlier s n m (rw (ne_eqb _ _ ne) at e) in (j, omega arith, same)
    ]

pub among_same : (s : Source) (n : ℕ) → among s (n + 1) (s.place n) ≡ true
unfolding among
among_same s n = rw (add-one n, eq-eqb (s.place n) (s.place n) refl)

pub among-other : (s : Source) (n m : ℕ) → m ≢ s.place n → among s (n + 1) m ≡ among s n m
unfolding among
among-other s n m ne = rw (add-one n, ne_eqb (s.place n) m (λ e. ne (sym e)))

pub earlier-among : (s : Source) (n j : ℕ) → j < n → among s n (s.place j) ≡ true
unfolding among
earlier-among s zero j l = absurd (omega arith)
earlier-among s (suc n) j l =
    elim (ℕ_discrete (s.place n) (s.place j)) [
      | yes e ↦ rw (eq-eqb _ _ e)
      | no ne ↦ rw (ne_eqb _ _ ne) (earlier-among s n j (below j n l ne))
    ]
  where
    below : (j n : ℕ) → j < suc n → s.place n ≢ s.place j → j < n
    below j n l ne =
        elim (ℕ_discrete n j) [
          | yes e ↦ absurd (ne (ap s.place e))
          | no d ↦ omega arith
        ]

-- where none came, nothing is agreed on
pub agreed-none : (sh : Shape) (s : Source) (n m : ℕ) → among s n m ≡ false → agreed sh s n m ≡ false
unfolding agreed both
agreed-none sh s n m e = rw e

-- ---- what `agreed` decides

every-then : (n : ℕ) (P : ℕ → Bool) → every n P ≡ true → (i : ℕ) → i < n → P i ≡ true
unfolding every
every-then zero P e i l = absurd (omega arith)
every-then (suc n) P e i l =
    let (here, below) = both-parts (P n) (every n P) e in
    elim (ℕ_discrete i n) [
      | yes same ↦ rw same here
      | no ne ↦ every-then n P below i (omega arith)
    ]

every-when : (n : ℕ) (P : ℕ → Bool) → ((i : ℕ) → i < n → P i ≡ true) → every n P ≡ true
unfolding every
every-when zero P h = refl
every-when (suc n) P h = both_true (P n) (every n P) (h n (omega arith)) (every-when n P (λ i l. h i (omega arith)))

module _ (sh : Shape) (s : Source) (m i j : ℕ) where
  alike_then : alike sh s m i j ≡ true → s.place i ≡ m → s.place j ≡ m → (w : ℕ) → w < sh.w → s.byte i w ≡ s.byte j w
  unfolding alike both
  alike_then e a b w l = eqb-true _ _ (every-then sh.w _ (rw (eq-eqb _ _ a, eq-eqb _ _ b) at e) w l)

  alike-when : (s.place i ≡ m → s.place j ≡ m → (w : ℕ) → w < sh.w → s.byte i w ≡ s.byte j w) → alike sh s m i j ≡ true
  unfolding alike both
  alike-when h =
      elim (ℕ_discrete (s.place i) m) [
        | yes a ↦ elim (ℕ_discrete (s.place j) m) [
          | yes b ↦ rw (eq-eqb _ _ a, eq-eqb _ _ b) (every-when sh.w _ (λ w l. eq-eqb _ _ (h a b w l)))
          | no nb ↦ rw (eq-eqb _ _ a, ne_eqb _ _ nb)
        ]
        | no na ↦ rw (ne_eqb _ _ na)
      ]

module _ (sh : Shape) (s : Source) (n m : ℕ) where
  pub agreed-then : agreed sh s n m ≡ true → AllEqual sh s n m
  unfolding agreed
  agreed-then e =
      let (came, all) = both-parts (among s n m) _ e in
      record { came = came; equal = λ i j k l. alike_then sh s m i j (every-then n _ (every-then n _ all i k) j l) }

  pub agreed-when : AllEqual sh s n m → agreed sh s n m ≡ true
  unfolding agreed
  agreed-when a =
      both_true (among s n m) _ a.came (every-when n _ (λ i k. every-when n _ (λ j l. alike-when sh s m i j (a.equal i j k l))))

pub agreed-exactly : AgreedExactly
unfolding AgreedExactly
agreed-exactly sh s n m = (agreed-then sh s n m, agreed-when sh s n m)

-- ---- copies that differ

module _ (sh : Shape) (s : Source) (n m : ℕ) where
  -- copies are not all equal where they came and are not agreed on
  pub conflict-when : among s n m ≡ true → agreed sh s n m ≡ false → conflicting sh s n m ≡ true
  unfolding conflicting both
  conflict-when came unequal = rw (came, unequal)

  pub conflict-then : conflicting sh s n m ≡ true → (among s n m ≡ true) × (agreed sh s n m ≡ false)
  unfolding conflicting
  conflict-then e =
      let (came, differ) = both-parts (among s n m) (not (agreed sh s n m)) e in
      (came, not-true-false _ (λ all. false≢true (rw all at differ)))

  -- where no two differ
  pub equal-conflict : ((i j : ℕ) → i < n → j < n → s.place i ≡ m → s.place j ≡ m → (w : ℕ) → w < sh.w → s.byte i w ≡ s.byte j w)
      → conflicting sh s n m ≡ false
  equal-conflict equal =
      not-true-false _
      (λ e.
      let (came, differ) = conflict-then e in
      true≢false (sym (agreed-when sh s n m (record { came = came; equal = equal })) ∙ differ))

  -- two that differ are enough
  pub differing-conflict : (i j w : ℕ) → i < n → j < n → s.place i ≡ m → s.place j ≡ m → w < sh.w → s.byte i w ≢ s.byte j w
      → conflicting sh s n m ≡ true
  differing-conflict i j w l r p q h ne =
      conflict-when (ap (among s n) (sym p) ∙ earlier-among s n i l)
      (not-true-false _ (λ e. ne ((agreed-then sh s n m e).equal i j l r p q w h)))

pub not-rescued : NotRescued
unfolding NotRescued
not-rescued sh s n k m l e =
    let (came, differ) = conflict-then sh s n m e in
    let (i, less, place) = among-earlier s n m came in
    conflict-when sh s k m (ap (among s k) (sym place) ∙ earlier-among s k i (omega arith))
    (not-true-false _
    (λ all.
    let a = agreed-then sh s k m all in
    let fewer = agreed-when sh s n m (record { came = came; equal = λ i j p q. a.equal i j (omega arith) (omega arith) }) in
    true≢false (sym fewer ∙ differ)))

-- ---- two sequences with the same packets

either_true : (b c : Bool) → (b ≡ true → c ≡ true) → (c ≡ true → b ≡ true) → b ≡ c
either_true true c f g = sym (f refl)
either_true false true f g = g refl
either_true false false f g = refl

pub among-cong : (s t : Source) (n : ℕ) → ((i : ℕ) → i < n → s.place i ≡ t.place i) → (m : ℕ) → among s n m ≡ among t n m
unfolding among
among-cong s t zero same m = refl
among-cong s t (suc n) same m = rw (same n (omega arith), among-cong s t n (λ i l. same i (omega arith)) m)

module _ (sh : Shape) (s t : Source) (n : ℕ) (places : (i : ℕ) → i < n → s.place i ≡ t.place i)
    (bytes : (i : ℕ) → i < n → (w : ℕ) → w < sh.w → s.byte i w ≡ t.byte i w) where
  pub agreed-cong : (m : ℕ) → agreed sh s n m ≡ agreed sh t n m
  agreed-cong m =
      either_true _ _
      (λ e.
      let a = agreed-then sh s n m e in
      agreed-when sh t n m (record {
        came = sym (among-cong s t n places m) ∙ a.came;
        equal = λ i j l r p q w h. sym (bytes i l w h) ∙ a.equal i j l r (places i l ∙ p) (places j r ∙ q) w h ∙ bytes j r w h;
      }))
      (λ e.
      let a = agreed-then sh t n m e in
      agreed-when sh s n m (record {
        came = among-cong s t n places m ∙ a.came;
        equal = λ i j l r p q w h. bytes i l w h ∙ a.equal i j l r (sym (places i l) ∙ p) (sym (places j r) ∙ q) w h ∙ sym (bytes j r w h);
      }))

  pub conflicts-cong : (m : ℕ) → conflicting sh s n m ≡ conflicting sh t n m
  unfolding conflicting
  conflicts-cong m = rw (among-cong s t n places m, agreed-cong m)

-- ---- one packet more

module _ (sh : Shape) (s : Source) (i : ℕ) where
  -- what is equal among more copies is equal among fewer
  pub agreed-before : (m : ℕ) → among s i m ≡ true → agreed sh s (i + 1) m ≡ true → agreed sh s i m ≡ true
  agreed-before m came e =
      let a = agreed-then sh s (i + 1) m e in
      agreed-when sh s i m (record { came = came; equal = λ j k l r. a.equal j k (omega arith) (omega arith) })

  -- a packet changes nothing for other cells
  pub agreed-other : (m : ℕ) → m ≢ s.place i → agreed sh s (i + 1) m ≡ agreed sh s i m
  agreed-other m ne =
      either_true _ _ (λ e. agreed-before m (sym (among-other s i m ne) ∙ (agreed-then sh s (i + 1) m e).came) e)
      (λ e.
      let a = agreed-then sh s i m e in
      agreed-when sh s (i + 1) m (record {
        came = among-other s i m ne ∙ a.came;
        equal = λ j k l r p q. a.equal j k (earlier j l p) (earlier k r q) p q;
      }))
    where
      earlier : (j : ℕ) → j < i + 1 → s.place j ≡ m → j < i
      earlier j l p =
          elim (ℕ_discrete j i) [
            | yes e ↦ absurd (ne (sym p ∙ ap s.place e))
            | no d ↦ omega arith
          ]

  -- a copy that equals all before it, of which there may be none
  pub agreed-more : ((j : ℕ) → j < i → s.place j ≡ s.place i → (w : ℕ) → w < sh.w → s.byte j w ≡ s.byte i w)
      → agreed sh s (i + 1) (s.place i) ≡ true
  agreed-more same =
      agreed-when sh s (i + 1) (s.place i) (record {
        came = among_same s i;
        equal = λ j k l r p q w h. as-last j l p w h ∙ sym (as-last k r q w h);
      })
    where
      as-last : (j : ℕ) → j < i + 1 → s.place j ≡ s.place i → (w : ℕ) → w < sh.w → s.byte j w ≡ s.byte i w
      as-last j l p w h =
          elim (ℕ_discrete j i) [
            | yes e ↦ ap (λ (k : ℕ). s.byte k w) e
            | no d ↦ same j (omega arith) p w h
          ]

  -- one that differs from an earlier copy
  pub agreed-differs : (j w : ℕ) → j < i → s.place j ≡ s.place i → w < sh.w → s.byte j w ≢ s.byte i w → agreed sh s (i + 1) (s.place i) ≡ false
  agreed-differs j w l same h ne =
      not-true-false _ (λ e. ne ((agreed-then sh s (i + 1) (s.place i) e).equal j i (omega arith) (omega arith) same refl w h))

  -- a third copy does not rescue a cell
  pub agreed-never : among s i (s.place i) ≡ true → agreed sh s i (s.place i) ≡ false → agreed sh s (i + 1) (s.place i) ≡ false
  agreed-never came unequal = not-true-false _ (λ e. true≢false (sym (agreed-before (s.place i) came e) ∙ unequal))
