-- The numbers by which the readers fail: what holds of each number that a reader can refuse with holds of the one it refuses with.
use mathlib.Core.Path.{◌≡◌, refl, sym, ap, subst, ◌∙◌}
use mathlib.Core.Bool.{true}
use mathlib.Core.List.{List}
use Prim.Native.Nat.{ℕ, ◌≤◌}
use native.Mathlib.Decide.{ℕ_discrete}
use native.Mathlib.Omega.{arith}
use lib.Dec.{eqb, leb}
use borrow.Author.Tests.{ne_eqb}
use Rattle.answer.specs.Values.{Checked, passes, fails, check, and_then}
use Rattle.answer.proofs.Values.{check-number, then-number, passes-number}
use Rattle.shape.specs.declared.Shape.{Shape}
use Rattle.shape.specs.Shapes.{within, data_cells, shape_checked}
use Rattle.shape.proofs.Valid.{shape-number, shape-passed, within-true}
use Rattle.cursor.specs.declared.Cursor.{Cursor}
use Rattle.pack.specs.declared.Header.{Header}
use Rattle.pack.specs.declared.Section.{Section}
use Rattle.cursor.specs.Steps.{word, count, bytes}
use Rattle.pack.specs.Reading.{end, used_by, header_with, headed, header_of, sent_checked, job_behind, job_of, air_behind, air_of, plain_air_of}
use Rattle.pack.proofs.Sound.{used-plain, data-some}

-- ---- the checks of a shape

one-to-three : (P : ℕ → Type 0) (n : ℕ) → P 1 → P 2 → P 3 → 1 ≤ n → n ≤ 3 → P n
one-to-three P n one two three low high =
    elim (ℕ_discrete n 1) [
      | yes e ↦ subst P (sym e) one
      | no not-one ↦ elim (ℕ_discrete n 2) [
        | yes e ↦ subst P (sym e) two
        | no not-two ↦ let e : 3 ≡ n = omega arith in subst P e three
      ]
    ]

pub shape-fails : (P : ℕ → Type 0) (n : ℕ) → P 1 → P 2 → P 3 → (sh : Shape) → shape_checked sh ≡ fails n → P n
shape-fails P n one two three sh e = let (low, high) = shape-number sh n e in one-to-three P n one two three low high

-- ---- the steps

module _ {A : Type 0} (P : ℕ → Type 0) (n : ℕ) (p : List ℕ) (c : Cursor) where
  count-fails : P 6 → (next : ℕ → Cursor → Checked A) → ((k : ℕ) (d : Cursor) → next k d ≡ fails n → P n) → count p c next ≡ fails n → P n
  unfolding count
  count-fails six next rest = check-number P n _ 6 _ six (rest _ _)

  bytes-fails : P 6 → (k : ℕ) (next : ℕ → Cursor → Checked A) → ((at : ℕ) (d : Cursor) → next at d ≡ fails n → P n) → bytes p c k next ≡ fails n → P n
  unfolding bytes
  bytes-fails six k next rest = check-number P n _ 6 _ six (rest _ _)

  end-fails : P 8 → (done : Checked A) → (done ≡ fails n → P n) → end p c done ≡ fails n → P n
  unfolding end
  end-fails eight done rest = check-number P n _ 8 _ eight rest

-- ---- the readers

pub sent-fails : (P : ℕ → Type 0) (n : ℕ) → P 7 → P 1 → P 2 → P 3 → P 19 → (h : Header) → sent_checked h ≡ fails n → P n
unfolding sent_checked
sent-fails P n seven one two three nineteen h =
    check-number P n _ 7 _ seven
    (then-number P n _ _ (shape-fails P n one two three _) (λ z. check-number P n _ 19 _ nineteen (passes-number P n _)))

-- sections 2 and 3 for the receiver
air-behind-fails : (P : ℕ → Type 0) (n : ℕ) → P 6 → P 9 → P 8 → (p : List ℕ) (h : Header) (c : Cursor) → air_behind p h c ≡ fails n → P n
unfolding air_behind
air-behind-fails P n six nine eight p h c =
    count-fails P n p _ six _
    (λ k third.
    check-number P n _ 9 _ nine
    (count-fails P n p _ six _
    (λ packets body.
    bytes-fails P n p _ six _ _
    (λ at rest. end-fails P n p _ eight _ (passes-number P n _)))))

module _ (P : ℕ → Type 0) (n : ℕ) (six : P 6) (seven : P 7) (one : P 1) (two : P 2) (three : P 3) (ten : P 10)
    (nineteen : P 19) (p : List ℕ) where
  pub header-fails : header_of p ≡ fails n → P n
  unfolding header_of headed
  header-fails =
      count-fails P n p _ six _
      (λ k body.
      check-number P n _ 7 _ seven
      (bytes-fails P n p _ six _ _
      (λ at next. then-number P n _ _ (shape-fails P n one two three _) (λ z.
      check-number P n _ 10 _ ten (check-number P n _ 19 _ nineteen (passes-number P n _))))))

  module _ (nine : P 9) (eight : P 8) where
    job-behind-fails : (h : Header) (c : Cursor) → job_behind p h c ≡ fails n → P n
    unfolding job_behind
    job-behind-fails h c =
        count-fails P n p _ six _
        (λ k file.
        check-number P n _ 10 _ ten
        (check-number P n _ 19 _ nineteen
        (bytes-fails P n p _ six _ _
        (λ at third.
        count-fails P n p _ six _
        (λ packets rest. check-number P n _ 9 _ nine (end-fails P n p _ eight _ (passes-number P n _)))))))

    pub job-fails : job_of p ≡ fails n → P n
    unfolding job_of
    job-fails = then-number P n _ _ header-fails (λ r. job-behind-fails r.0 r.1)

    pub air-fails : air_of p ≡ fails n → P n
    unfolding air_of
    air-fails = then-number P n _ _ header-fails (λ r. air-behind-fails P n six nine eight p r.0 r.1)

-- ---- with count 5 every data cell is in use, so 19 does not occur

abbrev Not19 : ℕ → Type 0
Not19 n = n ≡ 19 → ⊥

then-failed : {A B : Type 0} (c : Checked A) (next : A → Checked B) (n : ℕ) → (c ≡ fails n → ⊥) → ((a : A) → c ≡ passes a → next a ≡ fails n → ⊥)
    → and_then c next ≡ fails n → ⊥
unfolding and_then
then-failed (passes a) next n first later e = later a refl e
then-failed (fails m) next n first later e = let same : m ≡ n = cc in first (ap fails same)

headed-plain : (sh : Shape) (n u : ℕ) (next : Cursor) → n ≡ 5 → headed sh n u next ≡ fails 19 → ⊥
unfolding headed check
headed-plain sh n u next five =
    then-failed (shape_checked sh) _ 19 (λ e. shape-fails Not19 19 (λ q. omega arith) (λ q. omega arith) (λ q. omega arith) sh e refl)
    (λ z passed e.
    let (v, _) = shape-passed sh z passed in
    let all : within 1 (data_cells sh) (used_by sh n u) ≡ true =
    ap (within 1 (data_cells sh)) (used-plain sh n u five) ∙ within-true 1 (data_cells sh) (data_cells sh) (data-some sh v) (omega arith) in
    check-number Not19 19 (leb 4 z.capacity) 10 _ (λ q. omega arith) (passes-number Not19 19 (header_with sh n u, next)) (rw all at e) refl)

header-plain : (p : List ℕ) → word p 0 ≡ 5 → header_of p ≡ fails 19 → ⊥
unfolding header_of count bytes
header-plain p five e =
    check-number Not19 19 _ 6 _ (λ q. omega arith)
    (check-number Not19 19 _ 7 _ (λ q. omega arith)
    (check-number Not19 19 _ 6 _ (λ q. omega arith) (λ f. absurd (headed-plain _ _ _ _ five f)))) e refl

module _ (P : ℕ → Type 0) (n : ℕ) (six : P 6) (seven : P 7) (one : P 1) (two : P 2) (three : P 3) (ten : P 10) (p : List ℕ) (nine : P 9)
    (eight : P 8) where
  header-plain-fails : word p 0 ≡ 5 → header_of p ≡ fails n → P n
  header-plain-fails five e =
      header-fails (λ m. Not19 m → P m) n (λ _. six) (λ _. seven) (λ _. one) (λ _. two) (λ _. three) (λ _. ten) (λ never. absurd (never refl)) p e
      (λ q. header-plain p five (rw q at e))

  judged : check (eqb (word p 0) 5) 7 (air_of p) ≡ fails n → P n
  unfolding air_of check
  judged e =
      elim (ℕ_discrete (word p 0) 5) [
        | yes five ↦ check-number P n (eqb (word p 0) 5) 7 (air_of p) seven
            (then-number P n _ _ (header-plain-fails five) (λ r. air-behind-fails P n six nine eight p r.0 r.1)) e
        | no other ↦
            let seventh : ◌≡◌ {A = Checked (Header × Section)} (fails 7) (fails n) = rw (ne_eqb (word p 0) 5 other) at e in
            let same : 7 ≡ n = cc in
            subst P same seven
      ]

  pub plain-air-fails : plain_air_of p ≡ fails n → P n
  unfolding plain_air_of count
  plain-air-fails = check-number P n _ 6 _ six judged
