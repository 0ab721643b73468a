-- Lists in which copies of a cell differ: they may be heard, and the cell is lost.
use mathlib.Core.Path.{◌≡◌, refl, sym, ap, ◌∙◌}
use mathlib.Core.Bool.{true, false, true≢false, false≢true}
use mathlib.Core.List.{List, [], ◌∷◌, map}
use mathlib.Core.Logic.{◌≢◌, ◌⊎◌, inl, inr, ⊎_elim}
use Prim.Native.Nat.{ℕ, zero, suc, ◌+◌, ◌*◌, ◌%◌, ◌<◌}
use native.Mathlib.Decide.{dec_lt}
use native.Mathlib.Omega.{arith}
use lib.ListN.{length, get_or, length-map}
use Rattle.shape.specs.declared.Shape.{Shape}
use Rattle.shape.specs.Shapes.{Valid, cells}
use Rattle.stopping.proofs.Number.{true-or-false}
use Rattle.pack.specs.declared.Section.{Section}
use Rattle.pack.specs.Packs.{Packet, packet_of, sent_packets}
use Rattle.pack.specs.Reading.{header_with, header_for}
use Rattle.pack.specs.Packets.{packet_no, source_of}
use Rattle.pack.proofs.Written.{packet_of-length}
use Rattle.receiver.proofs.Copies.{among-earlier, earlier-among, differing-conflict}
use Rattle.demands.specs.Demand3.{heard, in_conflict, CountHolds, IsWritten, CopyOf, Heard, missed}
use Rattle.demands.specs.Wrong.{damaged}
use Rattle.demands.proofs.Heard.{OfCell, none_differ, same_copy, copy-place}
use Rattle.demands.proofs.Plain.{EveryCell, every-length, every-at}

-- ---- damaged copies

damaged-copy : (k : Packet) → CopyOf k (damaged k)
unfolding damaged
damaged-copy k = record { first = refl; second = refl; third = refl; size = length-map k.bytes _ }

next-differs : (b : ℕ) → (b + 1) % 256 ≢ b
next-differs b e = omega arith

first-differs : (bs : List ℕ) → 0 < length bs → get_or (map (λ b. (b + 1) % 256) bs) 0 0 ≢ get_or bs 0 0
first-differs [] some e = omega arith
first-differs (b ∷ bs) some e = next-differs b e

module _ (sh : Shape) (v : Valid sh) (x : List ℕ) (size : length x ≡ sh.w * cells sh) (some : 0 < sh.w) where
  -- a packet of x and a damaged copy of it
  differ : (ps : List Packet) (n i j : ℕ) → n < cells sh → i < length ps → j < length ps → packet_no ps i ≡ packet_of sh x n
      → packet_no ps j ≡ damaged (packet_of sh x n) → in_conflict sh ps n ≡ true
  unfolding in_conflict source_of damaged
  differ ps n i j inside l r own other =
      differing-conflict sh (source_of sh ps) (length ps) n j i 0 r l (copy-place sh x ps j n (rw other (damaged-copy (packet_of sh x n))))
      (copy-place sh x ps i n (same_copy own)) some
      (λ same.
      first-differs (packet_of sh x n).bytes (rw (packet_of-length sh x size n inside) some)
      (ap (λ (k : Packet). get_or k.bytes 0 0) (sym other) ∙ same ∙ ap (λ (k : Packet). get_or k.bytes 0 0) own))

  -- a list of packets of x, and of copies of cells whose copies differ
  module _ (output : List ℕ) (s : Section) (all : EveryCell sh x output s) (ps : List Packet) (few : length ps < 4294967296) where
    mixed-heard :
        ((i : ℕ) → i < length ps →
        (n : ℕ) × (n < cells sh) × CopyOf (packet_of sh x n) (packet_no ps i) × ((packet_no ps i ≡ packet_of sh x n) ⊎ (in_conflict sh ps n ≡ true))) →
        Heard (header_for sh) output s ps
    unfolding CountHolds IsWritten header_for header_with
    mixed-heard each =
        record {
          cell = λ i l.
              let (n, inside, copy, own) = each i l in
              (n, omega (arith, all.count), rw (all.every n inside) copy);
          written = λ i l none.
              let (n, inside, copy, own) = each i l in
              ⊎_elim (λ (e : packet_no ps i ≡ packet_of sh x n). (n, omega (arith, all.count), e ∙ sym (all.every n inside)))
              (λ (c : in_conflict sh ps n ≡ true).
              absurd (true≢false (sym c ∙ ap (in_conflict sh ps) (sym (copy-place sh x ps i n copy)) ∙ none)))
              own;
          count = few;
        }

  -- ---- every packet, and before them a damaged copy of the first

  module _ (inside : 0 < cells sh) where
    unfoldable pub first : List Packet
    first = damaged (packet_of sh x 0) ∷ sent_packets (header_for sh) x

    first-length : length first ≡ cells sh + 1
    unfolding first
    first-length = ap suc (every-length sh v x) ∙ omega arith

    first-later : (i : ℕ) → i < cells sh → packet_no first (suc i) ≡ packet_of sh x i
    unfolding first packet_no
    first-later i l = every-at sh v x i l

    first-copy : CopyOf (packet_of sh x 0) (packet_no first 0)
    unfolding first packet_no
    first-copy = damaged-copy (packet_of sh x 0)

    first-conflict : in_conflict sh first 0 ≡ true
    unfolding first packet_no
    first-conflict = differ first 0 1 0 inside (omega (arith, first-length)) (omega (arith, first-length)) (first-later 0 inside) refl

    pub first-heard : (output : List ℕ) (s : Section) → EveryCell sh x output s → cells sh < 4294967295 → Heard (header_for sh) output s first
    first-heard output s all few = mixed-heard output s all first (omega (arith, first-length)) each
      where
        each :
            (i : ℕ) → i < length first →
            (n : ℕ) × (n < cells sh) × CopyOf (packet_of sh x n) (packet_no first i)
            × ((packet_no first i ≡ packet_of sh x n) ⊎ (in_conflict sh first n ≡ true))
        each zero l = (0, inside, first-copy, inr first-conflict)
        each (suc i) l =
            let less : i < cells sh = omega (arith, first-length) in
            (i, less, same_copy (first-later i less), inl (first-later i less))

    -- only the first cell is missed
    pub first-missed : (n : ℕ) → n < cells sh → missed sh first n ≡ true → n < 1
    unfolding missed heard
    first-missed n l e =
        elim (dec_lt n 1) [
          | yes less ↦ less
          | no more ↦
              let place : (source_of sh first).place (suc n) ≡ n = copy-place sh x first (suc n) n (same_copy (first-later n l)) in
              let came : heard sh first n ≡ true =
              ap (heard sh first) (sym place) ∙ earlier-among (source_of sh first) _ (suc n) (omega (arith, first-length)) in
              let none : in_conflict sh first n ≡ false = none_differ sh x first n (own more) in
              absurd (false≢true (rw (came, none) at e))
        ]
      where
        own : (n < 1 → ⊥) → (i : ℕ) → i < length first → (source_of sh first).place i ≡ n → OfCell sh x (packet_no first i)
        own more zero r p = absurd (more (omega (arith, copy-place sh x first 0 0 first-copy)))
        own more (suc i) r p =
            let less : i < cells sh = omega (arith, first-length) in
            (i, less, first-later i less)

  -- ---- a packet, a damaged copy of it, and the packet again

  module _ (n : ℕ) (inside : n < cells sh) where
    unfoldable pub thrice : List Packet
    thrice = packet_of sh x n ∷ damaged (packet_of sh x n) ∷ packet_of sh x n ∷ []

    thrice-conflict : in_conflict sh thrice n ≡ true
    unfolding thrice packet_no
    thrice-conflict = differ thrice n 0 1 inside (omega arith) (omega arith) refl refl

    thrice-copy : (i : ℕ) → i < length thrice → CopyOf (packet_of sh x n) (packet_no thrice i)
    unfolding thrice packet_no
    thrice-copy zero l = same_copy refl
    thrice-copy (suc zero) l = damaged-copy (packet_of sh x n)
    thrice-copy (suc (suc zero)) l = same_copy refl
    thrice-copy (suc (suc (suc i))) l = absurd (omega arith)

    pub thrice-heard : (output : List ℕ) (s : Section) → EveryCell sh x output s → Heard (header_for sh) output s thrice
    unfolding thrice
    thrice-heard output s all =
        mixed-heard output s all thrice (omega arith) (λ i l. (n, inside, thrice-copy i l, inr thrice-conflict))

    -- every cell is missed
    pub thrice-missed : (m : ℕ) → missed sh thrice m ≡ true
    unfolding missed heard
    thrice-missed m =
        ⊎_elim
        (λ (came : heard sh thrice m ≡ true).
        let (i, l, p) = among-earlier (source_of sh thrice) (length thrice) m came in
        let same : m ≡ n = sym p ∙ copy-place sh x thrice i n (thrice-copy i l) in
        rw came (ap (in_conflict sh thrice) same ∙ thrice-conflict))
        (λ (none : heard sh thrice m ≡ false). rw none) (true-or-false (heard sh thrice m))
