-- The packets of a list as they stand in a pack that carries them.
use mathlib.Core.Path.{◌≡◌, sym, ◌∙◌}
use mathlib.Core.List.{List}
use Prim.Native.Nat.{ℕ, ◌+◌, ◌≤◌, ◌<◌}
use native.Mathlib.Omega.{arith}
use lib.ListN.{length, take, drop, length-drop}
use lib.Seq.{length-take-le, get_or-take, get_or-drop, ext_get_or}
use Rattle.answer.specs.Values.{passes}
use Rattle.span.proofs.Stretches.{stretch-end}
use Rattle.pack.specs.declared.Section.{Section}
use Rattle.pack.specs.declared.Header.{Header}
use Rattle.pack.specs.Packs.{Packet}
use Rattle.pack.specs.Reading.{packet_size, air_of}
use Rattle.pack.specs.Packets.{packet_at, packet_in, packet_no, source, source_of}
use Rattle.pack.proofs.Sound.{air-sound}
use Rattle.pack.proofs.Written.{Sized, Carries}

module _ (p : List ℕ) (h : Header) (s : Section) (ps : List Packet) (read : air_of p ≡ passes (h, s)) (c : Carries p h s ps)
    (all : Sized h.shape.w ps) (i : ℕ) (l : i < length ps) where
  bytes-standing : take h.shape.w (drop (packet_at h s i + 3) p) ≡ (packet_no ps i).bytes
  unfolding packet_at packet_size source source_of
  bytes-standing =
      let inside : h.shape.w ≤ length (drop (packet_at h s i + 3) p) =
      omega (arith, (air-sound p h s read).ends, c.count, stretch-end i s.count (packet_size h) (omega (arith, c.count)), length-drop (packet_at h s i + 3) p) in
      ext_get_or 0 _ _ (length-take-le h.shape.w _ inside ∙ sym (all i l))
      (λ w m.
      let few : w < h.shape.w = omega (arith, length-take-le h.shape.w (drop (packet_at h s i + 3) p) inside) in
      get_or-take h.shape.w (drop (packet_at h s i + 3) p) w 0 few ∙ get_or-drop (packet_at h s i + 3) p w 0 ∙ c.byte i w l few)

  pub packet-standing : packet_in p h s i ≡ packet_no ps i
  unfolding packet_in
  packet-standing = rw (c.first i l, c.second i l, c.third i l, bytes-standing)
