-- The lines of a cube as a list, so that its largest stopping set computes.
use mathlib.Core.Path.{◌≡◌, refl, sym, subst}
use mathlib.Core.Bool.{Bool}
use mathlib.Core.Logic.{⊎_elim}
use mathlib.Core.List.{List, [], ◌∷◌, ◌++◌, Memᴰ}
use Prim.Native.Nat.{ℕ, zero, suc, ◌*◌, ◌<◌}
use native.Mathlib.Decide.{ℕ_discrete}
use native.Mathlib.Omega.{arith}
use Rattle.shape.specs.declared.Shape.{Shape}
use Rattle.shape.specs.declared.Line.{Line}
use Rattle.shape.specs.Shapes.{cells, cell, IsLine, along, axis1, axis2, axis3}
use Rattle.stopping.specs.Stopping.{Largest}
use Rattle.stopping.proofs.Cube.{cube-fits}
use Rattle.stopping.proofs.Peeling.{Among, has, largest, peeled-largest}

-- f 0 .. f (n-1), one after the other
unfoldable pub table : ℕ → (ℕ → List Line) → List Line
table zero f = []
table (suc n) f = table n f ++ f n

table-has : (n : ℕ) (f : ℕ → List Line) (k : ℕ) (l : Line) → k < n → Memᴰ l (f k) → Memᴰ l (table n f)
unfolding table
table-has zero f k l h m = absurd (omega arith)
table-has (suc n) f k l h m =
    elim (ℕ_discrete k n) [
      | yes e ↦ mathlib.Core.List.Memᴰ.append_right (table n f) (subst (λ (q : ℕ). Memᴰ l (f q)) e m)
      | no ne ↦ mathlib.Core.List.Memᴰ.append_left (f n) (table-has n f k l (omega arith) m)
    ]

table-from : (n : ℕ) (f : ℕ → List Line) (l : Line) → Memᴰ l (table n f) → (k : ℕ) × (k < n) × Memᴰ l (f k)
unfolding table
table-from zero f l m = absurd (mathlib.Core.List.Memᴰ.not-nil m)
table-from (suc n) f l m =
    ⊎_elim (λ (a : Memᴰ l (table n f)). let (k, h, b) = table-from n f l a in (k, omega arith, b))
    (λ (a : Memᴰ l (f n)). (n, omega arith, a)) (mathlib.Core.List.Memᴰ.append_cases (table n f) m)

-- the lines f i q for i < x and q < y
unfoldable pub grid : ℕ → ℕ → (ℕ → ℕ → Line) → List Line
grid x y f = table y (λ q. table x (λ i. f i q ∷ []))

grid-has : (x y : ℕ) (f : ℕ → ℕ → Line) (i q : ℕ) → i < x → q < y → Memᴰ (f i q) (grid x y f)
unfolding grid
grid-has x y f i q li lq =
    table-has y (λ q. table x (λ i. f i q ∷ [])) q (f i q) lq (table-has x (λ i. f i q ∷ []) i (f i q) li (mathlib.Core.List.Memᴰ.head refl))

grid-from : (x y : ℕ) (f : ℕ → ℕ → Line) (l : Line) → Memᴰ l (grid x y f) → (i : ℕ) × (q : ℕ) × (i < x) × (q < y) × (l ≡ f i q)
unfolding grid
grid-from x y f l m =
    let (q, lq, n) = table-from y (λ q. table x (λ i. f i q ∷ [])) l m in
    let (i, li, o) = table-from x (λ i. f i q ∷ []) l n in
    (i, q, li, lq, mathlib.Core.List.Memᴰ.eq_of_singleton o)

unfoldable pub lines1 : Shape → ℕ → ℕ → Line
lines1 sh b c = record { first = cell sh 0 b c; stride = 1; len = sh.l1 }

unfoldable pub lines2 : Shape → ℕ → ℕ → Line
lines2 sh a c = record { first = cell sh a 0 c; stride = sh.l1; len = sh.l2 }

unfoldable pub lines3 : Shape → ℕ → ℕ → Line
lines3 sh a b = record { first = cell sh a b 0; stride = sh.l1 * sh.l2; len = sh.l3 }

unfoldable pub cube_lines : Shape → List Line
cube_lines sh = grid sh.l2 sh.l3 (lines1 sh) ++ (grid sh.l1 sh.l3 (lines2 sh) ++ grid sh.l1 sh.l2 (lines3 sh))

cube_lines-has : (sh : Shape) (first stride len : ℕ) → IsLine sh first stride len → Among (cube_lines sh) first stride len
unfolding cube_lines lines1 lines2 lines3
cube_lines-has sh _ _ _ (along (axis1 b c lb lc)) = mathlib.Core.List.Memᴰ.append_left _ (grid-has sh.l2 sh.l3 (lines1 sh) b c lb lc)
cube_lines-has sh _ _ _ (along (axis2 a c la lc)) =
    mathlib.Core.List.Memᴰ.append_right (grid sh.l2 sh.l3 (lines1 sh)) (mathlib.Core.List.Memᴰ.append_left _ (grid-has sh.l1 sh.l3 (lines2 sh) a c la lc))
cube_lines-has sh _ _ _ (along (axis3 a b la lb)) =
    mathlib.Core.List.Memᴰ.append_right (grid sh.l2 sh.l3 (lines1 sh))
    (mathlib.Core.List.Memᴰ.append_right (grid sh.l1 sh.l3 (lines2 sh)) (grid-has sh.l1 sh.l2 (lines3 sh) a b la lb))

Is : Shape → Line → Type 0
Is sh l = IsLine sh l.first l.stride l.len

cube_lines-from : (sh : Shape) (first stride len : ℕ) → Among (cube_lines sh) first stride len → IsLine sh first stride len
unfolding cube_lines lines1 lines2 lines3 Is
cube_lines-from sh first stride len m =
    ⊎_elim
    (λ (n : Memᴰ line (grid sh.l2 sh.l3 (lines1 sh))).
    let (b, c, lb, lc, e) = grid-from sh.l2 sh.l3 (lines1 sh) line n in
    subst (Is sh) (sym e) (along (axis1 b c lb lc)))
    (λ n.
    ⊎_elim
    (λ (o : Memᴰ line (grid sh.l1 sh.l3 (lines2 sh))).
    let (a, c, la, lc, e) = grid-from sh.l1 sh.l3 (lines2 sh) line o in
    subst (Is sh) (sym e) (along (axis2 a c la lc)))
    (λ (o : Memᴰ line (grid sh.l1 sh.l2 (lines3 sh))).
    let (a, b, la, lb, e) = grid-from sh.l1 sh.l2 (lines3 sh) line o in
    subst (Is sh) (sym e) (along (axis3 a b la lb)))
    (mathlib.Core.List.Memᴰ.append_cases (grid sh.l1 sh.l3 (lines2 sh)) n))
    (mathlib.Core.List.Memᴰ.append_cases (grid sh.l2 sh.l3 (lines1 sh)) m)
  where
    line : Line
    line = record { first = first; stride = stride; len = len }

-- the largest stopping set among the missing cells M of a cube
unfoldable pub cube_largest : Shape → (ℕ → Bool) → List Bool
cube_largest sh M = largest (cells sh) (cube_lines sh) M

pub cube-largest : (sh : Shape) (M : ℕ → Bool) → Largest (cells sh) (IsLine sh) M (has (cube_largest sh M))
unfolding cube_largest
cube-largest sh M = peeled-largest (cube-fits sh) (cube_lines sh) (cube_lines-has sh) (cube_lines-from sh) M
