-- Count 5 is the case with nothing unsent: every cell is sent, so the third demand as it was before request P5 follows.
use mathlib.Core.Path.{◌≡◌, refl, sym, ap, subst, fun_ext, ◌∙◌}
use mathlib.Core.Bool.{Bool, true, false, not}
use mathlib.Core.List.{List}
use Prim.Native.Nat.{ℕ, ◌+◌, ◌-◌, ◌*◌, ◌/◌, ◌%◌, ◌<◌}
use native.Mathlib.Decide.{dec_lt}
use native.Mathlib.Nat.{mul_comm, mul-pos, div-lt_iff_lt-mul}
use native.Mathlib.Omega.{arith}
use lib.Dec.{ltb}
use lib.ListN.{length, get_or}
use borrow.Author.Tests.{ltb-true}
use Rattle.shape.specs.declared.Shape.{Shape}
use Rattle.shape.specs.Shapes.{Valid, both, cells, data_cell, data_cells}
use Rattle.shape.proofs.Valid.{both-parts}
use Rattle.stopping.proofs.Number.{not-true-false, number-all}
use Rattle.pack.specs.declared.Header.{Header}
use Rattle.pack.specs.declared.Section.{Section}
use Rattle.pack.specs.Packs.{Packet, unsent, sends, sent_below, sent_packets, packet_of, up_from}
use Rattle.pack.specs.Packets.{packet_in, packet_no}
use Rattle.pack.specs.Reading.{used_by, header_with, header_for}
use Rattle.pack.proofs.Sent.{all-sent, sent_below-run}
use Rattle.pack.proofs.Written.{sent_packets-length, sent_packets-at, up_from-at}
use Rattle.demands.specs.Demand3.{AllWritten, missed, lost, Exact, Demanded, Demand3, Demand3Plain}
use Rattle.demands.proofs.Writing.{wrote-job}
use Rattle.demands.proofs.Demand3.{written_count, written_at, demand3}

-- ---- every cell is sent

-- a data cell is a cell
data-inside : (sh : Shape) (n : ℕ) → Valid sh → data_cell sh n ≡ true → n < cells sh
unfolding data_cell cells
data-inside sh n v e =
    let (_, rest) = both-parts (ltb (n % sh.l1) (sh.l1 - 2)) _ e in
    let (_, lc) = both-parts (ltb (n / sh.l1 % sh.l2) (sh.l2 - 2)) (ltb (n / (sh.l1 * sh.l2)) (sh.l3 - 2)) rest in
    let c : n / (sh.l1 * sh.l2) < sh.l3 = omega (arith, ltb-true (n / (sh.l1 * sh.l2)) (sh.l3 - 2) lc) in
    let one : 0 < sh.l1 = omega (arith, v.l1_low) in
    let two : 0 < sh.l2 = omega (arith, v.l2_low) in
    omega (arith, (div-lt_iff_lt-mul (mul-pos one two)).0 c, mul_comm (sh.l1 * sh.l2) sh.l3)

plain-full : (sh : Shape) → (header_for sh).used ≡ data_cells (header_for sh).shape
unfolding header_for header_with used_by
plain-full sh = refl

outside-sent : (h : Header) (n : ℕ) → data_cell h.shape n ≡ false → unsent h n ≡ false
unfolding unsent both
outside-sent h n e = rw e

plain-sends : (sh : Shape) → Valid sh → (n : ℕ) → sends (header_for sh) n ≡ true
unfolding sends header_for header_with
plain-sends sh v n =
    elim (dec_lt n (cells sh)) [
      | yes l ↦ ap not (all-sent (header_for sh) (plain-full sh) n l)
      | no more ↦ ap not (outside-sent (header_for sh) n (not-true-false (data_cell sh n) (λ e. more (data-inside sh n v e))))
    ]

plain-lost : (sh : Shape) (ps : List Packet) → Valid sh → (n : ℕ) → lost (header_for sh) ps n ≡ missed sh ps n
unfolding lost both header_for header_with
plain-lost sh ps v n = rw (plain-sends sh v n)

-- ---- the packets of every cell

module _ (sh : Shape) (v : Valid sh) (x : List ℕ) where
  pub every-length : length (sent_packets (header_for sh) x) ≡ cells sh
  unfolding header_for header_with
  every-length =
      sent_packets-length (header_for sh) x ∙ number-all (sends (header_for sh)) (cells sh) (λ n l. plain-sends sh v n)

  below : sent_below (header_for sh) (cells sh) ≡ up_from 0 (cells sh)
  unfolding sent_below header_for header_with
  below =
      let z : 0 + cells sh ≡ cells sh = omega arith in
      ap (sent_below (header_for sh)) (sym z)
      ∙ sent_below-run (header_for sh) 0 (cells sh) (λ i l. all-sent (header_for sh) (plain-full sh) (0 + i) (omega arith))

  pub every-at : (n : ℕ) → n < cells sh → packet_no (sent_packets (header_for sh) x) n ≡ packet_of sh x n
  unfolding header_for header_with
  every-at n l =
      let e : 0 + n ≡ n = omega arith in
      sent_packets-at (header_for sh) x n (omega (arith, every-length))
      ∙ ap (packet_of sh x) (ap (λ (ns : List ℕ). get_or ns n 0) below ∙ up_from-at 0 (cells sh) n l ∙ e)

-- what is written with count 5: every cell, in cell order
pub record EveryCell (sh : Shape) (x output : List ℕ) (s : Section) : Type 0 where
  pub count : s.count ≡ cells sh
  pub every : (n : ℕ) → n < cells sh → packet_in output (header_for sh) s n ≡ packet_of sh x n

pub every-cell : (sh : Shape) (contents x output : List ℕ) (s : Section) → Valid sh → AllWritten (header_for sh) contents x output s → EveryCell sh x output s
every-cell sh contents x output s v all =
    let count : s.count ≡ cells sh = written_count all ∙ every-length sh v x in
    record { count = count; every = λ n l. written_at all n (omega arith) ∙ every-at sh v x n l }

-- ---- demand 3 before request P5

pub demand3-plain : Demand3Plain
unfolding Demand3Plain Demand3 Demanded header_for header_with
demand3-plain p sh contents x output w =
    let (s, all, exact) = demand3 p (header_for sh) contents x output w in
    let v : Valid sh = (wrote-job p (header_for sh) contents x output w).sound.valid in (
      s,
      all,
      (every-cell sh contents x output s v all).count,
      λ ps m m' value counts heard l o.
          subst (λ (L : ℕ → Bool). Exact (header_for sh) contents x ps L m m' value counts) (fun_ext (plain-lost sh ps v))
          (exact ps m m' value counts heard l o),
    )
