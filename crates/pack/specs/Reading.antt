-- Reading a pack (document 01, "Where each refusal is checked"): "Sections are read one after another, each from the byte where the one
-- before ended", and the checks run down the table.
use Rattle.std.specs.Prelude.{Bool, true, cond, List, ℕ, ◌+◌, ◌*◌, eqb, leb, length, get_or, take, drop}
use Rattle.answer.specs.Values.{Checked, passes, check, and_then}
use Rattle.shape.specs.declared.Shape.{Shape}
use Rattle.shape.specs.Shapes.{within, data_cells, sizes, shape_checked}
use Rattle.stopping.specs.Stopping.{number}
use Rattle.cursor.specs.declared.Cursor.{Cursor}
use Rattle.cursor.specs.Steps.{word, count, bytes}
use Rattle.pack.specs.declared.Section.{Section}
use Rattle.pack.specs.declared.Header.{Header}
use Rattle.pack.specs.Packs.{sends}

-- "bytes after section 3"
unfoldable pub end : {A : Type 0} → List ℕ → Cursor → Checked A → Checked A
end p c done = check (eqb (length p) c.at) 8 done

-- ---- the readers

-- the first five bytes of section 1
unfoldable pub shape_at : List ℕ → ℕ → Shape
shape_at p at =
    record {
      l1 = get_or p at 0;
      l2 = get_or p (at + 1) 0;
      l3 = get_or p (at + 2) 0;
      w = get_or p (at + 3) 0 + 256 * get_or p (at + 4) 0;
    }

-- U, the four bytes behind them where the count is 9
unfoldable pub given_at : List ℕ → ℕ → ℕ → ℕ
given_at p at n = cond (eqb n 9) (word p (at + 5)) 0

-- the data cells in use: U with count 9, else all
unfoldable pub used_by : Shape → ℕ → ℕ → ℕ
used_by sh n u = cond (eqb n 9) u (data_cells sh)

-- what section 1 with this shape, count and U is read as
unfoldable pub header_with : Shape → ℕ → ℕ → Header
header_with sh n u = record { shape = sh; sizes = sizes sh; count = n; used = used_by sh n u }

-- document 01's own section 1, count 5
unfoldable pub header_for : Shape → Header
header_for sh = header_with sh 5 0

-- 1, 2, 3, then "capacity below 4", then 19: "U below 1 or above the number of data cells, after the capacity check of 10"
unfoldable pub headed : Shape → ℕ → ℕ → Cursor → Checked (Header × Cursor)
headed sh n u next =
    and_then (shape_checked sh) (λ z.
    check (leb 4 z.capacity) 10
    (check (within 1 (data_cells sh) (used_by sh n u)) 19
    (passes (header_with sh n u, next))))

-- "7 now means neither 5 nor 9"
unfoldable pub is_count : ℕ → Bool
is_count n = cond (eqb n 5) true (eqb n 9)

-- Section 1: "a count is judged (7) before its five bytes are needed (6)".
unfoldable pub header_of : List ℕ → Checked (Header × Cursor)
header_of p =
    count p (record { at = 0 }) (λ n body.
    check (is_count n) 7
    (bytes p body n (λ at next.
    headed (shape_at p at) n (given_at p at n) next)))

-- A header that section 1 can have: 7, 1, 2, 3, 19. Its cells that are sent.
unfoldable pub sent_checked : Header → Checked ℕ
sent_checked h =
    check (is_count h.count) 7
    (and_then (shape_checked h.shape) (λ z.
    check (within 1 (data_cells h.shape) h.used) 19
    (passes (number (sends h) z.cells))))

-- Sections 2 and 3 for the writer: "count above capacity - 4", "at the others 9 and 10 come before 6"; 19: "in the writer also U × W below 4 + file
-- bytes, after 10 on section 2's count".
unfoldable pub job_behind : List ℕ → Header → Cursor → Checked (Header × Section)
job_behind p h second =
    count p second (λ n file.
    check (leb (4 + n) h.sizes.capacity) 10
    (check (leb (4 + n) (h.used * h.shape.w)) 19
    (bytes p file n (λ at third.
    count p third (λ packets rest.
    check (eqb packets 0) 9
    (end p rest
    (passes (h, record { at = at; count = n }))))))))

-- The whole pack, as the writer reads it: its header, and where the file stands.
unfoldable pub job_of : List ℕ → Checked (Header × Section)
job_of p = and_then (header_of p) (λ r. job_behind p r.0 r.1)

-- "packets of 3 + W bytes"
unfoldable pub packet_size : Header → ℕ
packet_size h = 3 + h.shape.w

-- Sections 2 and 3 for the receiver.
unfoldable pub air_behind : List ℕ → Header → Cursor → Checked (Header × Section)
air_behind p h second =
    count p second (λ n third.
    check (eqb n 0) 9
    (count p third (λ packets body.
    bytes p body (packets * packet_size h) (λ at rest.
    end p rest
    (passes (h, record { at = at; count = packets }))))))

-- The whole pack, as the receiver reads it: its header, and where the packets stand.
unfoldable pub air_of : List ℕ → Checked (Header × Section)
air_of p = and_then (header_of p) (λ r. air_behind p r.0 r.1)

-- The same for the text twin, which "keeps to count 5 and answers 7 otherwise".
unfoldable pub plain_air_of : List ℕ → Checked (Header × Section)
plain_air_of p = count p (record { at = 0 }) (λ n body. check (eqb n 5) 7 (air_of p))

-- the file in a job pack: the bytes that section 2 counts
unfoldable pub file_of : List ℕ → Section → List ℕ
file_of p s = take s.count (drop s.at p)
