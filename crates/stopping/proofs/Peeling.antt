-- The largest stopping set of a list of lines, computed: lines with one or two cells are peeled until none is left, and what is left is the
-- largest. Each pass but the last takes a cell, so there are no more passes than cells.
use mathlib.Core.Path.{◌≡◌, refl, sym, ap, ◌∙◌}
use mathlib.Core.Bool.{Bool, true, false, cond, false≢true}
use mathlib.Core.Logic.{◌≢◌, ◌⊎◌, inl, inr, ⊎_elim}
use mathlib.Core.List.Memᴰ
use mathlib.Core.List.{List, [], ◌∷◌, Memᴰ}
use Prim.Native.Nat.{ℕ, zero, suc, ◌+◌, ◌*◌, ◌≤◌, ◌<◌}
use native.Mathlib.Decide.{ℕ_discrete}
use native.Mathlib.Omega.{arith}
use lib.ListN.{get_or, set}
use lib.Seq.{get_or-set_other}
use Rattle.shape.specs.declared.Line.{Line}
use Rattle.stopping.specs.Stopping.{number, on_line, Stopping, Largest}
use Rattle.stopping.proofs.Number.{true-or-false, number-mono, number-less, number-le, member}
use Rattle.stopping.proofs.Stopping.{Inside, Fits, peel-inside, peel-end}

-- ---- sets as lists of flags: a list is computed once, a function at each call

unfoldable pub has : List Bool → ℕ → Bool
has R n = get_or R n false

unfoldable pub listed : ℕ → (ℕ → Bool) → List Bool
listed zero P = []
listed (suc n) P = P 0 ∷ listed n (λ i. P (suc i))

pub has_listed : (n : ℕ) (P : ℕ → Bool) (i : ℕ) → i < n → has (listed n P) i ≡ P i
unfolding has listed
has_listed zero P i l = absurd (omega arith)
has_listed (suc n) P zero l = refl
has_listed (suc n) P (suc i) l = has_listed n (λ i. P (suc i)) i (omega arith)

has-set-same : (R : List Bool) (j : ℕ) → has (set R j false) j ≡ false
unfolding has
has-set-same [] j = refl
has-set-same (b ∷ R) zero = refl
has-set-same (b ∷ R) (suc j) = has-set-same R j

has-set-other : (R : List Bool) (j i : ℕ) → i ≢ j → has (set R j false) i ≡ has R i
unfolding has
has-set-other R j i ne = get_or-set_other R j i false false ne

-- ---- definitions

-- the lines of a list as a family
abbrev pub Among : List Line → ℕ → ℕ → ℕ → Type 0
Among ls f s n = Memᴰ (record { first = f; stride = s; len = n }) ls

-- every line of the list is one of the family
abbrev All : (ℕ → ℕ → ℕ → Type 0) → List Line → Type 0
All L ls = (l : Line) → Memᴰ l ls → L l.first l.stride l.len

unfoldable pub clear : ℕ → ℕ → ℕ → List Bool → List Bool
clear first stride zero R = R
clear first stride (suc n) R = set (clear first stride n R) (first + stride * n) false

-- one or two
unfoldable pub few : ℕ → Bool
few zero = false
few (suc zero) = true
few (suc (suc zero)) = true
few (suc (suc (suc n))) = false

unfoldable pub peels : Line → List Bool → Bool
peels l R = few (on_line (has R) l.first l.stride l.len)

unfoldable pub peel_line : Line → List Bool → List Bool
peel_line l R = let cleared = clear l.first l.stride l.len R in cond (peels l R) cleared R

unfoldable pub pass : List Line → List Bool → List Bool
pass [] R = R
pass (l ∷ ls) R = pass ls (peel_line l R)

unfoldable pub stable : List Line → List Bool → Bool
stable [] R = true
stable (l ∷ ls) R = cond (peels l R) false (stable ls R)

unfoldable pub peeled : ℕ → List Line → List Bool → List Bool
peeled zero ls R = R
peeled (suc k) ls R = let rest = peeled k ls (pass ls R) in cond (stable ls R) R rest

-- the largest stopping set among the missing cells M
unfoldable pub largest : ℕ → List Line → (ℕ → Bool) → List Bool
largest cells ls M = peeled cells ls (listed cells M)

-- ---- a line cleared

clear-off : (f s n : ℕ) (R : List Bool) (c : ℕ) → ((i : ℕ) → i < n → c ≢ f + s * i) → has (clear f s n R) c ≡ has R c
unfolding clear
clear-off f s zero R c h = refl
clear-off f s (suc n) R c h =
    has-set-other (clear f s n R) (f + s * n) c (h n (omega arith)) ∙ clear-off f s n R c (λ i l. h i (omega arith))

clear-on : (f s n : ℕ) (R : List Bool) (i : ℕ) → i < n → has (clear f s n R) (f + s * i) ≡ false
unfolding clear
clear-on f s zero R i l = absurd (omega arith)
clear-on f s (suc n) R i l =
    elim (ℕ_discrete (f + s * i) (f + s * n)) [
      | yes e ↦ ap (has (set (clear f s n R) (f + s * n) false)) e ∙ has-set-same (clear f s n R) (f + s * n)
      | no ne ↦
          elim (ℕ_discrete i n) [
            | yes e ↦ absurd (ne (ap (λ (q : ℕ). f + s * q) e))
            | no d ↦ has-set-other (clear f s n R) (f + s * n) (f + s * i) ne ∙ clear-on f s n R i (omega arith)
          ]
    ]

clear-inside : (f s n : ℕ) (R : List Bool) (c : ℕ) → has (clear f s n R) c ≡ true → has R c ≡ true
unfolding clear
clear-inside f s zero R c e = e
clear-inside f s (suc n) R c e =
    elim (ℕ_discrete c (f + s * n)) [
      | yes d ↦ absurd (false≢true (sym (has-set-same (clear f s n R) (f + s * n)) ∙ sym (ap (has (set (clear f s n R) (f + s * n) false)) d) ∙ e))
      | no ne ↦ clear-inside f s n R c (sym (has-set-other (clear f s n R) (f + s * n) c ne) ∙ e)
    ]

-- ---- one or two

few-true : (m : ℕ) → few m ≡ true → (1 ≤ m) × (m ≤ 2)
unfolding few
few-true zero e = absurd (false≢true e)
few-true (suc zero) e = omega arith
few-true (suc (suc zero)) e = omega arith
few-true (suc (suc (suc n))) e = absurd (false≢true e)

few-false : (m : ℕ) → few m ≡ false → (m ≡ 0) ⊎ (3 ≤ m)
unfolding few
few-false zero e = inl refl
few-false (suc zero) e = absurd (false≢true (sym e))
few-false (suc (suc zero)) e = absurd (false≢true (sym e))
few-false (suc (suc (suc n))) e = inr (omega arith)

peel_line-true : (l : Line) (R : List Bool) → peels l R ≡ true → peel_line l R ≡ clear l.first l.stride l.len R
unfolding peel_line
peel_line-true l R e = ap (λ (b : Bool). cond b (clear l.first l.stride l.len R) R) e

peel_line-false : (l : Line) (R : List Bool) → peels l R ≡ false → peel_line l R ≡ R
unfolding peel_line
peel_line-false l R e = ap (λ (b : Bool). cond b (clear l.first l.stride l.len R) R) e

peel_line-inside : (l : Line) (R : List Bool) (c : ℕ) → has (peel_line l R) c ≡ true → has R c ≡ true
peel_line-inside l R c e =
    ⊎_elim (λ t. clear-inside l.first l.stride l.len R c (rw (peel_line-true l R t) at e))
    (λ t. rw (peel_line-false l R t) at e) (true-or-false (peels l R))

pass-inside : (ls : List Line) (R : List Bool) (c : ℕ) → has (pass ls R) c ≡ true → has R c ≡ true
unfolding pass
pass-inside [] R c e = e
pass-inside (l ∷ ls) R c e = peel_line-inside l R c (pass-inside ls (peel_line l R) c e)

peeled-true : (k : ℕ) (ls : List Line) (R : List Bool) → stable ls R ≡ true → peeled (suc k) ls R ≡ R
unfolding peeled
peeled-true k ls R e = ap (λ (b : Bool). cond b R (peeled k ls (pass ls R))) e

peeled-false : (k : ℕ) (ls : List Line) (R : List Bool) → stable ls R ≡ false → peeled (suc k) ls R ≡ peeled k ls (pass ls R)
unfolding peeled
peeled-false k ls R e = ap (λ (b : Bool). cond b R (peeled k ls (pass ls R))) e

-- what holds of R and after each pass holds of what is left
peeled-keeps : (P : List Bool → Type 0) (k : ℕ) (ls : List Line) (R : List Bool) → ((Q : List Bool) → P Q → P (pass ls Q)) → P R → P (peeled k ls R)
unfolding peeled
peeled-keeps P zero ls R step p = p
peeled-keeps P (suc k) ls R step p =
    ⊎_elim (λ e. rw (peeled-true k ls R e) p)
    (λ e. rw (peeled-false k ls R e) (peeled-keeps P k ls (pass ls R) step (step R p))) (true-or-false (stable ls R))

stable-stops : (ls : List Line) (R : List Bool) → stable ls R ≡ true → (l : Line) → Memᴰ l ls → peels l R ≡ false
unfolding stable
stable-stops [] R e l m = absurd (Memᴰ.not-nil m)
stable-stops (k ∷ ls) R e l m =
    ⊎_elim (λ t. absurd (false≢true (sym (ap (λ (b : Bool). cond b false (stable ls R)) t) ∙ e)))
    (λ t.
    ⊎_elim (λ (d : l ≡ k). ap (λ (q : Line). peels q R) d ∙ t)
    (λ (n : Memᴰ l ls). stable-stops ls R (sym (ap (λ (b : Bool). cond b false (stable ls R)) t) ∙ e) l n)
    (Memᴰ.cases_cons m))
    (true-or-false (peels k R))

module _ {cells : ℕ} {L : ℕ → ℕ → ℕ → Type 0} (fits : Fits cells L) where
  peel_line-stopping : {M S : ℕ → Bool} → Stopping cells L M S → (l : Line) → L l.first l.stride l.len → (R : List Bool)
      → Inside cells S (has R) → Inside cells S (has (peel_line l R))
  unfolding peels
  peel_line-stopping {M} {S} u l line R h =
      ⊎_elim
      (λ t.
      rw (peel_line-true l R t)
      (peel-inside fits u h l.first l.stride l.len line (few-true _ t).1 (λ n m off e.
      clear-off l.first l.stride l.len R n off ∙ e)))
      (λ t. rw (peel_line-false l R t) h) (true-or-false (peels l R))

  peel_line-less : (l : Line) → L l.first l.stride l.len → (R : List Bool) → peels l R ≡ true
      → number (has (peel_line l R)) cells < number (has R) cells
  unfolding peels on_line
  peel_line-less l line R t =
      let (i, m, e) = member (λ i. has R (l.first + l.stride * i)) l.len (few-true _ t).0 in
      number-less (has (peel_line l R)) (has R) cells (l.first + l.stride * i) (λ c q. peel_line-inside l R c) (fits _ _ _ line i m)
      (rw (peel_line-true l R t) (clear-on l.first l.stride l.len R i m)) e

  pass-stopping : {M S : ℕ → Bool} → Stopping cells L M S → (ls : List Line)
      → All L ls → (R : List Bool) → Inside cells S (has R) → Inside cells S (has (pass ls R))
  unfolding pass
  pass-stopping u [] all R h = h
  pass-stopping u (l ∷ ls) all R h =
      pass-stopping u ls (λ k m. all k (Memᴰ.tail m)) (peel_line l R) (peel_line-stopping u l (all l (Memᴰ.head refl)) R h)

  pass-less : (ls : List Line) → All L ls → (R : List Bool)
      → stable ls R ≡ false → number (has (pass ls R)) cells < number (has R) cells
  unfolding pass stable
  pass-less [] all R e = absurd (false≢true (sym e))
  pass-less (l ∷ ls) all R e =
      ⊎_elim
      (λ t.
      omega (
        arith,
        peel_line-less l (all l (Memᴰ.head refl)) R t,
        number-mono (has (pass ls (peel_line l R))) (has (peel_line l R)) cells (λ c q. pass-inside ls (peel_line l R) c),
      ))
      (λ t.
      rw (peel_line-false l R t)
      (pass-less ls (λ k m. all k (Memᴰ.tail m)) R (sym (ap (λ (b : Bool). cond b false (stable ls R)) t) ∙ e)))
      (true-or-false (peels l R))

  none-stable : (ls : List Line) → All L ls → (R : List Bool)
      → number (has R) cells ≡ 0 → stable ls R ≡ true
  none-stable ls all R z = ⊎_elim (λ e. e) (λ e. absurd (omega (arith, pass-less ls all R e))) (true-or-false (stable ls R))

  peeled-stable : (k : ℕ) (ls : List Line) → All L ls → (R : List Bool)
      → number (has R) cells ≤ k → stable ls (peeled k ls R) ≡ true
  unfolding peeled
  peeled-stable zero ls all R z = none-stable ls all R (omega arith)
  peeled-stable (suc k) ls all R z =
      ⊎_elim (λ e. rw (peeled-true k ls R e) e)
      (λ e. rw (peeled-false k ls R e) (peeled-stable k ls all (pass ls R) (omega (arith, pass-less ls all R e))))
      (true-or-false (stable ls R))

-- the computed one is the largest, over any family that has the list's lines and no others
pub peeled-largest : {cells : ℕ} {L : ℕ → ℕ → ℕ → Type 0} → Fits cells L → (ls : List Line)
    → ((first stride len : ℕ) → L first stride len → Among ls first stride len)
    → ((first stride len : ℕ) → Among ls first stride len → L first stride len)
    → (M : ℕ → Bool) → Largest cells L M (has (largest cells ls M))
unfolding largest peels
peeled-largest {cells} {L} fits ls from to M = peel-end inside every stops
  where
    all : All L ls
    all l m = to l.first l.stride l.len m

    inside : Inside cells (has (peeled cells ls (listed cells M))) M
    inside =
        peeled-keeps (λ R. Inside cells (has R) M) cells ls (listed cells M) (λ R h n l e. h n l (pass-inside ls R n e))
        (λ n l e. sym (has_listed cells M n l) ∙ e)

    every : (S : ℕ → Bool) → Stopping cells L M S → Inside cells S (has (peeled cells ls (listed cells M)))
    every S u =
        peeled-keeps (λ R. Inside cells S (has R)) cells ls (listed cells M) (λ R h. pass-stopping fits u ls all R h)
        (λ n l e. has_listed cells M n l ∙ u.inside n l e)

    stops : (f s n : ℕ) → L f s n → (on_line (has (peeled cells ls (listed cells M))) f s n ≡ 0) ⊎ (3 ≤ on_line (has (peeled cells ls (listed cells M))) f s n)
    stops f s n l =
        few-false _
        (stable-stops ls (peeled cells ls (listed cells M)) (peeled-stable fits cells ls all (listed cells M) (number-le _ cells))
        (record { first = f; stride = s; len = n }) (from f s n l))
