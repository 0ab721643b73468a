-- Single errors: a codeword is left as it is, and a codeword with one wrong place is restored.
use mathlib.Core.Path.{◌≡◌, sym, ap, ◌∙◌}
use mathlib.Core.Bool.{Bool, true, false}
use mathlib.Core.Logic.{◌≢◌}
use Prim.Native.Nat.{ℕ, ◌≤◌, ◌<◌}
use native.Mathlib.Decide.{ℕ_discrete}
use native.Mathlib.Omega.{arith}
use Rattle.field.specs.Field.{add, mul, pow, Primitive}
use Rattle.field.proofs.Addition.{add_zero_l, add_comm, add-self, add-eq-zero, add-cancel, add-lt}
use Rattle.field.proofs.Power.{pow-lt, mul-eq-zero}
use Rattle.solver.specs.Solver.{pick, ErrorAt, error_place}
use Rattle.line.specs.Line.{syndrome0, syndrome1, Codeword, corrected}
use Rattle.solver.proofs.Pick.{pick-eq, pick-ne}
use Rattle.solver.proofs.Places.{first-place, error-place-only}
use Rattle.line.proofs.Syndrome.{syndrome0-lt, syndrome0-change, syndrome1-change}

-- ---- the corrected line

pub corrected-first-zero : (r n : ℕ) (c : ℕ → ℕ) (i : ℕ) → syndrome0 c n ≡ 0 → corrected r n c i ≡ c i
unfolding corrected
corrected-first-zero r n c i z = pick-eq (syndrome0 c n) 0 _ _ z

pub corrected-codeword-same : (r n : ℕ) (c : ℕ → ℕ) → Codeword r c n → (i : ℕ) → corrected r n c i ≡ c i
corrected-codeword-same r n c w i = corrected-first-zero r n c i w.first

-- at the error's place
pub corrected-at : (r n : ℕ) (c : ℕ → ℕ) (j : ℕ) → ErrorAt r (syndrome0 c n) (syndrome1 r c n) n j
    → error_place r (syndrome0 c n) (syndrome1 r c n) n ≡ j → corrected r n c j ≡ add (c j) (syndrome0 c n)
unfolding corrected
corrected-at r n c j a first =
    pick-ne (syndrome0 c n) 0 _ _ a.first_nonzero
    ∙ pick-ne (syndrome1 r c n) 0 _ _ a.second_nonzero
    ∙ pick-eq j _ _ _ (sym first)

-- a place that is not the first of an error keeps its byte
pub corrected-off : (r n : ℕ) (c : ℕ → ℕ) (i : ℕ) → error_place r (syndrome0 c n) (syndrome1 r c n) n ≢ i → corrected r n c i ≡ c i
unfolding corrected
corrected-off r n c i other =
    elim (ℕ_discrete (syndrome0 c n) 0) [
      | yes z ↦ pick-eq (syndrome0 c n) 0 _ _ z
      | no nz ↦
          pick-ne (syndrome0 c n) 0 _ _ nz
          ∙ elim (ℕ_discrete (syndrome1 r c n) 0) [
            | yes z ↦ pick-eq (syndrome1 r c n) 0 _ _ z
            | no ny ↦ pick-ne (syndrome1 r c n) 0 _ _ ny ∙ pick-ne i _ _ _ (λ e. other (sym e))
          ]
    ]

pub corrected-none : (r n : ℕ) (c : ℕ → ℕ) → ((j : ℕ) → ErrorAt r (syndrome0 c n) (syndrome1 r c n) n j → ⊥)
    → (i : ℕ) → i < n → corrected r n c i ≡ c i
unfolding corrected
corrected-none r n c h i l =
    elim (ℕ_discrete (syndrome0 c n) 0) [
      | yes z ↦ pick-eq (syndrome0 c n) 0 _ _ z
      | no nz ↦
          pick-ne (syndrome0 c n) 0 _ _ nz
          ∙ elim (ℕ_discrete (syndrome1 r c n) 0) [
            | yes z ↦ pick-eq (syndrome1 r c n) 0 _ _ z
            | no ny ↦
                pick-ne (syndrome1 r c n) 0 _ _ ny
                ∙ pick-ne i _ _ _
                (λ e.
                let at : error_place r (syndrome0 c n) (syndrome1 r c n) n ≡ i = sym e in
                h i
                (record {
                  first_nonzero = nz;
                  second_nonzero = ny;
                  below = l;
                  factor = rw at at ((first-place r (syndrome0 c n) (syndrome1 r c n) n).found (rw e at l));
                }))
          ]
    ]

pick-lt : (t : Bool) (x y n : ℕ) → x < n → y < n → pick t x y < n
unfolding pick
pick-lt true x y n lx ly = lx
pick-lt false x y n lx ly = ly

-- it is a line of bytes
pub corrected-lt : (r n : ℕ) (c : ℕ → ℕ) → ((i : ℕ) → i < n → c i < 256) → (i : ℕ) → i < n → corrected r n c i < 256
unfolding corrected
corrected-lt r n c bytes i l =
    let changed : add (c i) (syndrome0 c n) < 256 = add-lt _ _ (bytes i l) (syndrome0-lt c n bytes) in
    pick-lt _ _ _ 256 (bytes i l) (pick-lt _ _ _ 256 (bytes i l) (pick-lt _ _ _ 256 changed (bytes i l)))

-- ---- a codeword with one wrong place

module _ (r n : ℕ) (c x : ℕ → ℕ) (j : ℕ) (w : Codeword r x n) (l : j < n) (h : (i : ℕ) → i < n → i ≢ j → c i ≡ x i) where
  -- the syndromes are those of the error alone
  pub syndrome0-error : syndrome0 c n ≡ add (x j) (c j)
  syndrome0-error = syndrome0-change x c n j h l ∙ ap (λ (s : ℕ). add s (add (x j) (c j))) w.first ∙ add_zero_l _

  pub syndrome1-error : syndrome1 r c n ≡ mul r (pow r j) (add (x j) (c j))
  syndrome1-error = syndrome1-change r x c n j h l ∙ ap (λ (s : ℕ). add s (mul r (pow r j) (add (x j) (c j)))) w.second ∙ add_zero_l _

  module _ (p : Primitive r) (few : n ≤ 255) (bc : (i : ℕ) → i < n → c i < 256) (bx : (i : ℕ) → i < n → x i < 256) where
    pub error-at : c j ≢ x j → ErrorAt r (syndrome0 c n) (syndrome1 r c n) n j
    error-at ne =
        record {
          first_nonzero = λ z. different (sym syndrome0-error ∙ z);
          second_nonzero =
              λ z.
              different
              (mul-eq-zero r (pow r j) (add (x j) (c j)) p (pow-lt r j p.fits) (add-lt (x j) (c j) (bx j l) (bc j l)) (sym syndrome1-error ∙ z)
              (p.nonzero j (omega arith)));
          below = l;
          factor = syndrome1-error ∙ ap (mul r (pow r j)) (sym syndrome0-error);
        }
      where
        different : add (x j) (c j) ≢ 0
        different z = ne (sym (add-eq-zero (x j) (c j) z))

    pub corrected-one : (i : ℕ) → i < n → corrected r n c i ≡ x i
    corrected-one i m =
        elim (ℕ_discrete (c j) (x j)) [
          | yes e ↦ corrected-first-zero r n c i (syndrome0-error ∙ ap (add (x j)) e ∙ add-self (x j)) ∙ same e
          | no ne ↦
              elim (ℕ_discrete i j) [
                | yes e ↦ ap (corrected r n c) e ∙ corrected-at r n c j (error-at ne) (only ne) ∙ restored ∙ ap x (sym e)
                | no d ↦ corrected-off r n c i (λ e. d (sym e ∙ only ne)) ∙ h i m d
              ]
        ]
      where
        same : c j ≡ x j → c i ≡ x i
        same e = elim (ℕ_discrete i j) [ yes f ↦ ap c f ∙ e ∙ ap x (sym f) | no d ↦ h i m d ]

        only : c j ≢ x j → error_place r (syndrome0 c n) (syndrome1 r c n) n ≡ j
        only ne = error-place-only r (syndrome0 c n) (syndrome1 r c n) n j p few (syndrome0-lt c n bc) (error-at ne)

        restored : add (c j) (syndrome0 c n) ≡ x j
        restored = ap (add (c j)) (syndrome0-error ∙ add_comm (x j) (c j)) ∙ add-cancel (c j) (x j)
