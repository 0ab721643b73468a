-- The contract leaves nothing open, and every file that fits is taken.
use mathlib.Core.Path.{◌≡◌, refl, sym, ap, subst, ◌∙◌}
use mathlib.Core.List.{List}
use Prim.Native.Nat.{ℕ, ◌+◌, ◌*◌, ◌≤◌}
use lib.Dec.{eqb}
use lib.ListN.{length}
use borrow.Author.Tests.{eq-eqb}
use Rattle.answer.specs.Values.{Value, refused, passes, check, and_then}
use Rattle.answer.proofs.Values.{passes-injective, fails-injective, passes-fails}
use Rattle.shape.specs.Shapes.{cells, capacity, sizes}
use Rattle.shape.proofs.Valid.{both_true}
use Rattle.pack.specs.declared.Header.{Header}
use Rattle.pack.specs.declared.Section.{Section}
use Rattle.pack.specs.Packs.{job_pack, air_pack, sent_packets, pack_size}
use Rattle.pack.specs.Reading.{file_of}
use Rattle.pack.proofs.Sound.{HeaderSound}
use Rattle.pack.proofs.Written.{job_read}
use Rattle.writer.specs.Write.{write_checked, Written, WriteOutcome, write_refused, write_done}

-- what the writer leaves is determined by the header and the file
written-determined : (r : ℕ) (h : Header) (file xs out ys put : List ℕ) → Written r h file xs out → Written r h file ys put → (xs ≡ ys) × (out ≡ put)
written-determined r h file xs out ys put v w =
    let same : xs ≡ ys = w.cube.only xs v.cube.code v.cube.holds in
    (same, v.pack ∙ ap (λ (zs : List ℕ). air_pack h (sent_packets h zs)) same ∙ sym w.pack)

-- the contract determines the answer and every lent byte
pub write-determined : (r : ℕ) (p xs out xs₁ out₁ xs₂ out₂ : List ℕ) (a b : Value Unit) → WriteOutcome r p xs out xs₁ out₁ a
    → WriteOutcome r p xs out xs₂ out₂ b → (a ≡ b) × (xs₁ ≡ xs₂) × (out₁ ≡ out₂)
write-determined r p xs out xs₁ out₁ xs₂ out₂ a b (write_refused n e c d) (write_refused m f g h) =
    (ap refused (fails-injective n m (sym e ∙ f)), c ∙ sym g, d ∙ sym h)
write-determined r p xs out xs₁ out₁ xs₂ out₂ a b (write_refused n e c d) (write_done h s f w) = absurd (passes-fails (h, s) n (sym f ∙ e))
write-determined r p xs out xs₁ out₁ xs₂ out₂ a b (write_done h s f w) (write_refused n e c d) = absurd (passes-fails (h, s) n (sym f ∙ e))
write-determined r p xs out xs₁ out₁ xs₂ out₂ a b (write_done h s f v) (write_done k t g w) =
    let same : ◌≡◌ {A = Header × Section} (k, t) (h, s) = passes-injective (k, t) (h, s) (sym g ∙ f) in
    let again : Written r h (file_of p s) xs₂ out₂
    = subst (λ (x : Header × Section). Written r x.0 (file_of p x.1) xs₂ out₂) same w in
    let (cube, pack) = written-determined r h (file_of p s) xs₁ out₁ xs₂ out₂ v again in
    (refl, cube, pack)

-- the job pack of a file that fits the cube and the cells in use is taken where the slices have the lengths that its header asks for
pub write-taken : (h : Header) (file : List ℕ) (bytes output : ℕ) → HeaderSound h → 4 + length file ≤ capacity h.shape
    → 4 + length file ≤ h.used * h.shape.w → bytes ≡ h.shape.w * cells h.shape → output ≡ pack_size h
    → (s : Section) × (write_checked (job_pack h file) bytes output ≡ passes (h, s)) × (file_of (job_pack h file) s ≡ file)
unfolding write_checked and_then check sizes
write-taken h file bytes output sound fits used p q =
    let (s, read, same) = job_read h file sound fits used in
    let size : bytes ≡ h.sizes.bytes = rw sound.measured p in
    let fit = both_true (eqb bytes h.sizes.bytes) (eqb output (pack_size h)) (eq-eqb _ _ size) (eq-eqb _ _ q) in
    (s, rw (read, fit), same)
