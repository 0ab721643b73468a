-- Text appended to a buffer: a run of bytes that was copied, one text behind another, and a text that fits.
use mathlib.Core.Path.{◌≡◌, refl, sym, ap, ◌∙◌}
use mathlib.Core.List.{List, [], ◌∷◌, ◌++◌, append_assoc, append-nil}
use Prim.Native.Nat.{ℕ, zero, suc, ◌+◌, ◌-◌, ◌≤◌, ◌<◌, min}
use native.Mathlib.Nat.{zero-min, min-zero, suc-min-suc, min-le_left, min-le_right, le-min, min-eq_right}
use native.Mathlib.Numerals.{add-one}
use native.Mathlib.Omega.{arith}
use lib.ListN.{length, get_or, set, take, drop, length-append, length-take}
use lib.Seq.{paste, paste-suc, take_all, take-nil, take-append-le, take-append-add, length-take-le, take-paste, drop-paste, length-paste, drop-drop}
use Rattle.io.specs.Counts.{IsPrefixLen}
use Rattle.printing.specs.Append.{Appended}

-- ---- one run of bytes

take_min : (t : List ℕ) (n : ℕ) → take (min (length t) n) t ≡ take n t
take_min [] n = rw (zero-min n) (sym (take-nil n))
take_min (v ∷ t) zero = rw (min-zero (length (v ∷ t)))
take_min (v ∷ t) (suc n) = rw (suc-min-suc (length t) n) (ap (λ (l : List ℕ). v ∷ l) (take_min t n))

-- the buffer has room for k bytes of the text
pub append-paste : (b : List ℕ) (at : ℕ) (t : List ℕ) (k : ℕ) → at ≤ length b → k ≡ min (length t) (length b - at)
    → Appended b at t (paste b at t k) (at + k)
append-paste b at t k h e =
    let l = min-le_left (length t) (length b - at) in
    let r = min-le_right (length t) (length b - at) in
    let whole : length b ≡ length (take at b) + (length b - at) = omega (arith, length-take-le at b h) in
    record {
      size = length-paste b at t k (omega arith) (omega arith);
      inside = omega arith;
      written =
          take-paste b at t k h (omega arith)
          ∙ ap (λ (l : List ℕ). take at b ++ l) (ap (λ (n : ℕ). take n t) e ∙ take_min t (length b - at))
          ∙ sym (ap (λ (n : ℕ). take n (take at b ++ t)) whole ∙ take-append-add (take at b) t (length b - at));
      kept = drop-paste b at t k h (omega arith);
    }

-- so many bytes of the text fit
pub count_fits : (b t : List ℕ) (at k : ℕ) → at ≤ length b → k ≡ min (length t) (length b - at) → (k ≤ length t) × (at + k ≤ length b)
count_fits b t at k h e =
    let l = min-le_left (length t) (length b - at) in
    let r = min-le_right (length t) (length b - at) in
    (omega arith, omega arith)

-- one byte more
pub paste_more : (b : List ℕ) (at : ℕ) (t a : List ℕ) (i : ℕ) → a ≡ paste b at t i → at + i < length b → i < length t
    → set a (at + i) (get_or t i 0) ≡ paste b at t (i + 1)
paste_more b at t a i e h k = rw (e, add-one i) (paste-suc b at t i 0 h k)

-- no room is left behind the buffer's end
pub append-full : (b : List ℕ) (at : ℕ) (t : List ℕ) → length b < at → Appended b at t b (length b)
append-full b at t h =
    record {
      size = refl;
      inside = omega arith;
      written = rw (take_all at b (omega arith)) (sym (take-append-le (length b) b t (omega arith)));
      kept = refl;
    }

-- ---- one text behind another

take-take-append : (n : ℕ) (x y : List ℕ) → take n (take n x ++ y) ≡ take n (x ++ y)
take-take-append zero x y = refl
take-take-append (suc n) [] y = refl
take-take-append (suc n) (v ∷ x) y = ap (λ (l : List ℕ). v ∷ l) (take-take-append n x y)

-- the answer is the length of what stands before it
end-length : (b : List ℕ) (at : ℕ) (t a : List ℕ) (e : ℕ) → Appended b at t a e → e ≡ min (length b) (length (take at b ++ t))
end-length b at t a e p =
    let s = p.size in
    let i = p.inside in
    sym (length-take-le e a (omega arith)) ∙ ap length p.written ∙ length-take (length b) (take at b ++ t)

module _ (b : List ℕ) (at : ℕ) (t m : List ℕ) (e : ℕ) (u a : List ℕ) (f : ℕ) (first : Appended b at t m e) (second : Appended m e u a f) where
  ends-in-order : e ≤ f
  ends-in-order =
      let s = first.size in
      let i = first.inside in
      let n = length-append (take e m) u in
      let l = length-take-le e m (omega arith) in
      rw (end-length m e u a f second) (le-min (omega arith) (omega arith))

  pub append-append : Appended b at (t ++ u) a f
  append-append =
      record {
        size = second.size ∙ first.size;
        inside = rw (sym first.size) second.inside;
        written =
            second.written
            ∙ ap (λ (n : ℕ). take n (take e m ++ u)) first.size
            ∙ ap (λ (l : List ℕ). take (length b) (l ++ u)) first.written
            ∙ take-take-append (length b) (take at b ++ t) u
            ∙ ap (take (length b)) (append_assoc (take at b) t u);
        kept =
            let k : f ≡ e + (f - e) = omega (arith, ends-in-order) in
            second.kept ∙ ap (λ (n : ℕ). drop n m) k ∙ sym (drop-drop (f - e) e m)
            ∙ ap (drop (f - e)) first.kept
            ∙ drop-drop (f - e) e b ∙ sym (ap (λ (n : ℕ). drop n b) k);
      }

-- ---- a text that fits

-- where a text that fits ends
pub append-end : (b : List ℕ) (at : ℕ) (t a : List ℕ) (e : ℕ) → at + length t ≤ length b → Appended b at t a e → e ≡ at + length t
append-end b at t a e h p =
    let l : length (take at b ++ t) ≡ at + length t = omega (arith, length-append (take at b) t, length-take-le at b (omega arith)) in
    let fits : at + length t ≤ length b = h in
    end-length b at t a e p ∙ ap (min (length b)) l ∙ min-eq_right fits

pub append-nothing : (b : List ℕ) (at : ℕ) → at ≤ length b → Appended b at [] b at
append-nothing b at h =
    record {
      size = refl;
      inside = h;
      written =
          let l = length-take-le at b h in
          rw (append-nil (take at b)) (sym (take_all (length b) (take at b) (omega arith)));
      kept = refl;
    }

-- a text that fits stands whole at the start of the buffer
pub append-whole : (b t a : List ℕ) (e : ℕ) → length t ≤ length b → Appended b 0 t a e → IsPrefixLen e a × (take e a ≡ t)
append-whole b t a e h p =
    let i = p.inside in
    let s = p.size in
    let l : e ≤ length a = omega arith in
    ((l, sym (length-take-le e a l)), p.written ∙ take_all (length b) t h)

-- a text as long as the buffer is all of it
pub append-all : (b t a : List ℕ) (e : ℕ) → length b ≡ length t → Appended b 0 t a e → a ≡ t
append-all b t a e same p =
    let end = append-end b 0 t a e (omega arith) p in
    sym (take_all e a (omega (arith, p.size))) ∙ (append-whole b t a e (omega arith) p).1
