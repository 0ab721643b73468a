-- The receiver's contract determines its answer, its counts and every lent byte. The pack determines whether it is refused before filling; else
-- it determines the flags and the known bytes with which filling starts, and these determine what filling leaves; a whole cube has one data
-- string, which holds one file or none.
use mathlib.Core.Path.{◌≡◌, refl, sym, ap, ◌∙◌}
use mathlib.Core.Bool.{Bool, true, false, cond, true≢false}
use mathlib.Core.List.{List, ◌++◌}
use mathlib.Core.Logic.{⊎_elim}
use Prim.Native.Nat.{ℕ, zero, suc, ◌-◌, ◌^◌, ◌≤◌, ◌<◌}
use native.Mathlib.Decide.{dec_lt}
use native.Mathlib.Omega.{arith}
use lib.Dec.{eqb}
use lib.ListN.{length, get_or, drop}
use lib.Seq.{ext_get_or}
use Rattle.answer.specs.Values.{Value, gives, refused, refused_at, Checked, passes, fails}
use Rattle.answer.proofs.Values.{passes-injective}
use Rattle.field.specs.Field.{Primitive}
use Rattle.shape.specs.declared.Shape.{Shape}
use Rattle.shape.specs.Shapes.{Valid, cells, capacity}
use Rattle.shape.specs.Flags.{missing}
use Rattle.data.specs.Data.{layer, held_data}
use Rattle.stopping.proofs.Number.{true-or-false}
use Rattle.fill.specs.Fill.{CellsLeft, FillOutcome}
use Rattle.fill.specs.Theorems.{SameKnown}
use Rattle.fill.proofs.Unique.{Same, outcome-determined, outcome-known}
use Rattle.pack.specs.declared.Header.{Header}
use Rattle.pack.specs.declared.Section.{Section}
use Rattle.cursor.specs.Steps.{word}
use Rattle.pack.specs.Packs.{data_string, unsent}
use Rattle.pack.specs.Packets.{Source, source, InRange}
use Rattle.receiver.specs.declared.Counts.{Counts}
use Rattle.receiver.specs.Placing.{agreed, flag_at, Placed}
use Rattle.receiver.specs.Gathering.{Reception, file, left, Gathered, ends, whole, counts_of, no_counts, Taken, GatherOutcome}
use Rattle.receiver.specs.Opening.{BadFile, OpenOutcome}
use Rattle.receiver.specs.Receive.{Memory, receive_checked, ReceiveOutcome}
use Rattle.receiver.specs.Theorems.{NothingLeftOpen}
use Rattle.receiver.proofs.Clash.{clash}
use Rattle.receiver.proofs.Copies.{among-earlier, agreed-then}
use Rattle.receiver.proofs.Outcomes.{accepted-ready, placed-checked}
use Rattle.pack.proofs.Sound.{capacity_le}
use Rattle.pack.proofs.DataStrings.{data-word, data-later, data-injective}

-- ---- placing

-- a cell that is sent and not missing came, and its copies are all equal
pub placed-agreed : {h : Header} {s : Source} {n : ℕ} {xs fs : List ℕ} → Placed h s n xs fs → (m : ℕ) → m < cells h.shape → unsent h m ≡ false
    → missing fs m ≡ false → agreed h.shape s n m ≡ true
unfolding missing flag_at
placed-agreed {h} {s} {n} {xs} {fs} placed m l sent e = known (agreed h.shape s n m) (rw (placed.flags m l, sent) at e)
  where
    known : (b : Bool) → eqb (cond b 0 1) 1 ≡ false → b ≡ true
    known true f = refl
    known false f = absurd (true≢false f)

-- the packets determine the flags
pub placed-flags : {h : Header} {s : Source} {n : ℕ} {xs fs ys gs : List ℕ} → Placed h s n xs fs → Placed h s n ys gs → fs ≡ gs
placed-flags {h} {s} {n} {xs} {fs} {ys} {gs} a b =
    ext_get_or 0 fs gs (a.flags_size ∙ sym b.flags_size)
    (λ m l. let less : m < cells h.shape = omega (arith, a.flags_size) in a.flags m less ∙ sym (b.flags m less))

-- and the bytes of known cells: those of unsent cells are 00h, those of the others came
pub placed-known : {h : Header} {s : Source} {n : ℕ} {xs fs ys gs : List ℕ} → Placed h s n xs fs → Placed h s n ys gs
    → SameKnown h.shape (missing fs) xs ys
placed-known {h} {s} {n} {xs} {fs} {ys} {gs} a b =
    record {
      size = a.cube_size ∙ sym b.cube_size;
      known = λ m w l lw e.
          ⊎_elim (λ (out : unsent h m ≡ true). a.blank m w l lw out ∙ sym (b.blank m w l lw out))
          (λ (sent : unsent h m ≡ false).
          let equal = placed-agreed a m l sent e in
          let (i, less, same) = among-earlier s n m (agreed-then h.shape s n m equal).came in
          let here : agreed h.shape s n (s.place i) ≡ true = ap (agreed h.shape s n) same ∙ equal in
          ap (layer h.shape xs w) (sym same) ∙ a.bytes i less here w lw ∙ sym (b.bytes i less here w lw) ∙ ap (layer h.shape ys w) same)
          (true-or-false (unsent h m));
    }

-- so they determine what filling answers and leaves
filled-same : {r : ℕ} {h : Header} {s : Source} {n : ℕ} {xs fs xs₂ fs₂ ys gs zs hs : List ℕ} {a b : Value CellsLeft} → Primitive r → Valid h.shape
    → Placed h s n xs fs → Placed h s n xs₂ fs₂ → FillOutcome r h.shape xs fs ys gs a → FillOutcome r h.shape xs₂ fs₂ zs hs b → Same a b ys zs gs hs
filled-same {r} {h} {s} {n} {xs} {fs} primitive v p q o o' =
    outcome-determined primitive (outcome-known (placed-known p q) (placed-checked h s n xs fs v p) o) (rw (placed-flags q p) at o')

-- ---- gathering

-- the first index with a property is one index
first-same : (P : ℕ → Type 0) (i j : ℕ) → P i → ((k : ℕ) → k < i → P k → ⊥) → P j → ((k : ℕ) → k < j → P k → ⊥) → i ≡ j
first-same P i j p none q none' =
    elim (dec_lt i j) [
      | yes less ↦ absurd (none' i less p)
      | no more ↦ elim (dec_lt j i) [
        | yes less ↦ absurd (none j less q)
        | no same ↦ omega arith
      ]
    ]

-- what the filling's answer makes of a gathering and of its counts
unfoldable pub filled_as : Value CellsLeft → Gathered
filled_as (gives (CellsLeft.left zero)) = whole
filled_as (gives (CellsLeft.left (suc k))) = ends (gives (left (suc k)))
filled_as (refused n) = ends (refused n)
filled_as (refused_at n i) = ends (refused_at n i)

unfoldable pub counted_as : Counts → Value CellsLeft → Counts
counted_as k (gives n) = k
counted_as k (refused n) = no_counts
counted_as k (refused_at n i) = no_counts

-- a gathering is refused before filling, or filled
pub data Stage (r : ℕ) (p : List ℕ) (checks : Checked (Header × Section)) (xs fs xs' fs' : List ℕ) : Gathered → Counts → Type 0 where
  unfit : (n : ℕ) → checks ≡ fails n → xs' ≡ xs → fs' ≡ fs → Stage r p checks xs fs xs' fs' (ends (refused n)) no_counts
  index :
      (a : Header × Section) → checks ≡ passes a →
      (i : ℕ) → i < a.1.count → (InRange p a.0 a.1 i → ⊥) → ((j : ℕ) → j < i → InRange p a.0 a.1 j) →
      xs' ≡ xs → fs' ≡ fs → Stage r p checks xs fs xs' fs' (ends (refused_at 11 i)) no_counts
  filled :
      (a : Header × Section) → checks ≡ passes a → (xs₁ fs₁ : List ℕ) → Taken p a.0 a.1 xs₁ fs₁ →
      (v : Value CellsLeft) → FillOutcome r a.0.shape xs₁ fs₁ xs' fs' v →
      Stage r p checks xs fs xs' fs' (filled_as v) (counted_as (counts_of a.0.shape (source p a.0 a.1)) v)

pub stage : {r : ℕ} {p : List ℕ} {checks : Checked (Header × Section)} {xs fs xs' fs' : List ℕ} {g : Gathered} {k : Counts}
    → GatherOutcome r p checks xs fs xs' fs' g k → Stage r p checks xs fs xs' fs' g k
unfolding filled_as counted_as
stage (GatherOutcome.unfit n c x y) = unfit n c x y
stage (GatherOutcome.index h s c i l out before x y) = index (h, s) c i l out before x y
stage (GatherOutcome.contradiction h s c xs₁ fs₁ t o) = filled (h, s) c xs₁ fs₁ t (refused 13) o
stage (GatherOutcome.some_left h s c xs₁ fs₁ t zero l o) = absurd (omega arith)
stage (GatherOutcome.some_left h s c xs₁ fs₁ t (suc k) l o) = filled (h, s) c xs₁ fs₁ t (gives (CellsLeft.left (suc k))) o
stage (GatherOutcome.none_left h s c xs₁ fs₁ t o) = filled (h, s) c xs₁ fs₁ t (gives (CellsLeft.left 0)) o

-- two gatherings end alike
pub record SameGathered (g g' : Gathered) (k k' : Counts) (xs ys fs gs : List ℕ) : Type 0 where
  pub ending : g ≡ g'
  pub counts : k ≡ k'
  pub cube : xs ≡ ys
  pub flags : fs ≡ gs

same-stage : {r : ℕ} {p : List ℕ} {checks : Checked (Header × Section)} {xs fs ys gs zs hs : List ℕ} {g g' : Gathered} {k k' : Counts}
    → Primitive r → ((a : Header × Section) → checks ≡ passes a → Valid a.0.shape) → Stage r p checks xs fs ys gs g k → Stage r p checks xs fs zs hs g' k'
    → SameGathered g g' k k' ys zs gs hs
same-stage primitive valid (unfit n c x y) (unfit n' c' x' y') =
    let same : n ≡ n' = cc in
    record { ending = ap (λ (m : ℕ). ends (refused m)) same; counts = refl; cube = x ∙ sym x'; flags = y ∙ sym y' }
same-stage primitive valid (unfit n c x y) (index a c' i l out before x' y') = clash cc
same-stage primitive valid (unfit n c x y) (filled a c' xs₁ fs₁ t v o) = clash cc
same-stage primitive valid (index a c i l out before x y) (unfit n c' x' y') = clash cc
same-stage {r} {p} primitive valid (index a c i l out before x y) (index a' c' i' l' out' before' x' y') =
    let same : a' ≡ a = cc in
    let e : i ≡ i' = first-same (λ (j : ℕ). InRange p a.0 a.1 j → ⊥) i i' out (λ j h no. no (before j h)) (rw same at out')
    (λ j h no. no ((rw same at before') j h)) in
    record { ending = ap (λ (j : ℕ). ends (refused_at 11 j)) e; counts = refl; cube = x ∙ sym x'; flags = y ∙ sym y' }
same-stage primitive valid (index a c i l out before x y) (filled a' c' xs₁ fs₁ t v o) =
    let same : a' ≡ a = cc in
    absurd (out ((rw same at t.indexes) i l))
same-stage primitive valid (filled a c xs₁ fs₁ t v o) (unfit n c' x' y') = clash cc
same-stage primitive valid (filled a c xs₁ fs₁ t v o) (index a' c' i l out before x' y') =
    let same : a ≡ a' = cc in
    absurd (out ((rw same at t.indexes) i l))
same-stage {r} {p} primitive valid (filled a c xs₁ fs₁ t v o) (filled a' c' xs₂ fs₂ t' v' o') =
    let same : a' ≡ a = cc in
    let all = filled-same primitive (valid a c) t.placed (rw same at t'.placed) o (rw same at o') in
    record {
      ending = ap filled_as all.answer;
      counts = rw same (ap (counted_as (counts_of a.0.shape (source p a.0 a.1))) all.answer);
      cube = all.cube;
      flags = all.flags;
    }

-- Pack, checks, cube and flags before determine how gathering ends and what it leaves.
pub gather-determined : {r : ℕ} {p : List ℕ} {checks : Checked (Header × Section)} {xs fs ys gs zs hs : List ℕ} {g g' : Gathered} {k k' : Counts}
    → Primitive r → ((a : Header × Section) → checks ≡ passes a → Valid a.0.shape) → GatherOutcome r p checks xs fs ys gs g k
    → GatherOutcome r p checks xs fs zs hs g' k' → SameGathered g g' k k' ys zs gs hs
gather-determined primitive valid o o' = same-stage primitive valid (stage o) (stage o')

-- ---- opening

module _ (sh : Shape) (valid : Valid sh) (xs : List ℕ) where
  short : (f : List ℕ) → length f ≤ capacity sh - 4 → length f < 2 ^ 32
  short f l = omega (arith, capacity_le sh valid)

  -- a data string that holds a file holds no other, and nothing that is refused
  pub one-file : (f g : List ℕ) → length f ≤ capacity sh - 4 → length g ≤ capacity sh - 4 → held_data sh xs ≡ data_string sh f
      → held_data sh xs ≡ data_string sh g → f ≡ g
  one-file f g lf lg hf hg = data-injective sh f g (short f lf) (short g lg) (sym hf ∙ hg)

  pub good-file : (f : List ℕ) → length f ≤ capacity sh - 4 → held_data sh xs ≡ data_string sh f → BadFile sh (held_data sh xs) → ⊥
  good-file f l same b =
      let held : word (held_data sh xs) 0 ≡ length f = ap (λ (es : List ℕ). word es 0) same ∙ data-word sh f (short f l) in
      elim b [
        | BadFile.long m ↦ omega arith
        | BadFile.later q low high ne ↦ ne (ap (λ (es : List ℕ). get_or es q 0) same ∙ data-later sh f q (omega arith) high)
      ]

  -- A cube and the buffer before determine what opening gives and leaves.
  pub open-determined : {bs cs ds : List ℕ} {v v' : Value ℕ} → OpenOutcome sh xs bs cs v → OpenOutcome sh xs bs ds v' → (v ≡ v') × (cs ≡ ds)
  open-determined {bs} (OpenOutcome.held f l h e) (OpenOutcome.held g l' h' e') =
      let same = one-file f g l l' h h' in
      (ap (λ (q : List ℕ). gives (length q)) same, e ∙ ap (λ (q : List ℕ). q ++ drop (length q) bs) same ∙ sym e')
  open-determined (OpenOutcome.held f l h e) (OpenOutcome.bad b e') = absurd (good-file f l h b)
  open-determined (OpenOutcome.bad b e) (OpenOutcome.held f l h e') = absurd (good-file f l h b)
  open-determined (OpenOutcome.bad b e) (OpenOutcome.bad b' e') = (refl, e ∙ sym e')

-- ---- receiving

-- two calls answer alike and leave the same bytes
pub record SameReceived (v v' : Value Reception) (k k' : Counts) (m m' : Memory) : Type 0 where
  pub answer : v ≡ v'
  pub counts : k ≡ k'
  pub cube : m.cube ≡ m'.cube
  pub flags : m.flags ≡ m'.flags
  pub buffer : m.buffer ≡ m'.buffer

module _ {r : ℕ} (primitive : Primitive r) (p : List ℕ) (m : Memory) where
  valid-shape : (a : Header × Section) → receive_checked p m ≡ passes a → Valid a.0.shape
  valid-shape a e = (accepted-ready p m a.0 a.1 e).valid

  same-gathered : {xs ys fs gs : List ℕ} {g g' : Gathered} {k k' : Counts} → GatherOutcome r p (receive_checked p m) m.cube m.flags xs fs g k
      → GatherOutcome r p (receive_checked p m) m.cube m.flags ys gs g' k' → SameGathered g g' k k' xs ys fs gs
  same-gathered o o' = gather-determined primitive valid-shape o o'

  -- the same whole cube, opened
  opened-same : {h h' : Header} {s s' : Section} {xs ys bs cs : List ℕ} {v v' : Value ℕ} → receive_checked p m ≡ passes (h, s)
      → receive_checked p m ≡ passes (h', s') → xs ≡ ys → OpenOutcome h.shape xs m.buffer bs v → OpenOutcome h'.shape ys m.buffer cs v'
      → (v ≡ v') × (bs ≡ cs)
  opened-same {h} {h'} {s} {s'} {xs} c c' cube o o' =
      let same : h' ≡ h = ap (λ (a : Header × Section). a.0) (passes-injective (h', s') (h, s) (sym c' ∙ c)) in
      open-determined h.shape (valid-shape (h, s) c) xs o (rw (same, ← cube) at o')

  -- The contract of `receive_pack` leaves nothing open.
  pub receive-determined : {a b : Memory} {v v' : Value Reception} {k k' : Counts} → ReceiveOutcome r p m a v k → ReceiveOutcome r p m b v' k'
      → SameReceived v v' k k' a b
  receive-determined (ReceiveOutcome.unopened v k g e) (ReceiveOutcome.unopened v' k' g' e') =
      let s = same-gathered g g' in
      record { answer = cc; counts = s.counts; cube = s.cube; flags = s.flags; buffer = e ∙ sym e' }
  receive-determined (ReceiveOutcome.unopened v k g e) (ReceiveOutcome.bad_file h t k' c g' o) = let s = same-gathered g g' in clash cc
  receive-determined (ReceiveOutcome.unopened v k g e) (ReceiveOutcome.opened h t k' c g' n o) = let s = same-gathered g g' in clash cc
  receive-determined (ReceiveOutcome.bad_file h t k c g o) (ReceiveOutcome.unopened v k' g' e) = let s = same-gathered g g' in clash cc
  receive-determined (ReceiveOutcome.bad_file h t k c g o) (ReceiveOutcome.bad_file h' t' k' c' g' o') =
      let s = same-gathered g g' in
      record { answer = refl; counts = refl; cube = s.cube; flags = s.flags; buffer = (opened-same c c' s.cube o o').1 }
  receive-determined (ReceiveOutcome.bad_file h t k c g o) (ReceiveOutcome.opened h' t' k' c' g' n o') =
      let e = (opened-same c c' (same-gathered g g').cube o o').0 in
      clash cc
  receive-determined (ReceiveOutcome.opened h t k c g n o) (ReceiveOutcome.unopened v k' g' e) = let s = same-gathered g g' in clash cc
  receive-determined (ReceiveOutcome.opened h t k c g n o) (ReceiveOutcome.bad_file h' t' k' c' g' o') =
      let e = (opened-same c c' (same-gathered g g').cube o o').0 in
      clash cc
  receive-determined (ReceiveOutcome.opened h t k c g n o) (ReceiveOutcome.opened h' t' k' c' g' n' o') =
      let s = same-gathered g g' in
      let (same, bytes) = opened-same c c' s.cube o o' in
      record { answer = ap (λ (l : ℕ). gives (file l)) cc; counts = s.counts; cube = s.cube; flags = s.flags; buffer = bytes }

memory-same : (a b : Memory) → a.cube ≡ b.cube → a.flags ≡ b.flags → a.buffer ≡ b.buffer → a ≡ b
memory-same a b x y z = λ i. record { cube = x i; flags = y i; buffer = z i }

pub nothing-left-open : NothingLeftOpen
unfolding NothingLeftOpen
nothing-left-open r primitive p m a b v v' k k' o o' =
    let same = receive-determined primitive p m o o' in
    (same.answer, same.counts, memory-same a b same.cube same.flags same.buffer)
