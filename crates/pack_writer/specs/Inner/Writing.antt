-- What the private functions of `writing` leave at a cursor.
use Rattle.std.specs.Prelude.{◌≡◌, cond, List, map, ℕ, ◌+◌, ◌-◌, ◌*◌, ◌/◌, ◌%◌, min, ltb}
use Rattle.shape.specs.declared.Shape.{Shape}
use Rattle.shape.specs.Shapes.{both}
use Rattle.pack.specs.declared.Header.{Header}
use Rattle.pack.specs.Packs.{Packet, packet_of, up_from, sent_below}

-- cell n is (a,b,c)
pub record IsCell (sh : Shape) (n a b c : ℕ) : Type 0 where
  pub first : a ≡ n % sh.l1
  pub second : b ≡ n / sh.l1 % sh.l2
  pub third : c ≡ n / (sh.l1 * sh.l2)

-- the packets of k cells from cell n on
unfoldable pub packets_from : Shape → List ℕ → ℕ → ℕ → List Packet
packets_from sh xs n k = map (packet_of sh xs) (up_from n k)

-- the packets of the sent cells below n
unfoldable pub packets_below : Header → List ℕ → ℕ → List Packet
packets_below h xs n = map (packet_of h.shape xs) (sent_below h n)

-- How many of the first l1 - 2 cells of row q are sent: all of them in a parity row, and in a data row those in use.
unfoldable pub row_sent : Header → ℕ → ℕ
row_sent h q =
    cond (both (ltb (q % h.shape.l2) (h.shape.l2 - 2)) (ltb (q / h.shape.l2) (h.shape.l3 - 2)))
    (min (h.used - (h.shape.l1 - 2) * (q % h.shape.l2 + (h.shape.l2 - 2) * (q / h.shape.l2))) (h.shape.l1 - 2))
    (h.shape.l1 - 2)
