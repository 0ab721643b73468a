-- Where a stretch of the data string stands in a cube.
use Rattle.std.specs.Prelude.{◌≡◌, ℕ, ◌+◌, ◌-◌, ◌*◌, ◌<◌}
use Rattle.shape.specs.declared.Shape.{Shape}
use Rattle.data.specs.declared.place.Stretch.{Stretch}

-- Byte q of the data string stands at s.at: byte y of the data row (b,c), of which s.len bytes are left.
pub record Standing (sh : Shape) (q : ℕ) (s : Stretch) : Type 0 where
  pub c : ℕ
  pub y : ℕ
  pub second : s.b < sh.l2 - 2
  pub number : q ≡ (s.b + (sh.l2 - 2) * c) * ((sh.l1 - 2) * sh.w) + y
  pub place : s.at ≡ sh.l1 * (s.b + sh.l2 * c) * sh.w + y
  pub rest : y + s.len ≡ (sh.l1 - 2) * sh.w
  pub some : 0 < s.len
