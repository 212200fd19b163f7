-- The six pieces of a header, put one after the other, are the header; it has 86 bytes.
use Prim.Native.Nat.{ℕ, ◌≤◌}
use native.Mathlib.Omega.{arith}
use mathlib.Core.Path.{◌≡◌, refl, ◌∙◌}
use mathlib.Core.List.{List, ◌++◌, append_assoc}
use lib.ListN.{length, get_or, drop, length-append}
use Rattle.slices.specs.Put.{put}
use Rattle.slices.proofs.Puts.{put-put, put_zero}
use Rattle.spectrum.specs.declared.Machine.{Machine}
use Rattle.spectrum.specs.Valid.{Typed}
use Rattle.header_pieces.specs.Pieces.{first_registers, other_registers, register_bytes, switch_bytes, port_bytes, counter_bytes}
use Rattle.header_write.specs.Writing.{header_of}

six_puts : (d a b c s k e : List ℕ) → length a ≡ 27 → length b ≡ 7 → length c ≡ 5 → length s ≡ 16 → length k ≡ 6 → length e ≡ 25 → 86 ≤ length d
    → put (put (put (put (put (put d 0 a) 27 b) 34 c) 39 s) 55 k) 61 e ≡ (a ++ (b ++ (c ++ (s ++ (k ++ e))))) ++ drop 86 d
six_puts d a b c s k e ha hb hc hs hk he h =
    rw (
      put-put d a b 0 27 (omega arith) (omega arith),
      put-put d (a ++ b) c 0 34 (simp length-append (omega arith)) (omega arith),
      put-put d ((a ++ b) ++ c) s 0 39 (simp length-append (omega arith)) (omega arith),
      put-put d (((a ++ b) ++ c) ++ s) k 0 55 (simp length-append (omega arith)) (omega arith),
      put-put d ((((a ++ b) ++ c) ++ s) ++ k) e 0 61 (simp length-append (omega arith)) (omega arith),
    )
    (put_zero d (((((a ++ b) ++ c) ++ s) ++ k) ++ e) 86 (simp length-append (omega arith)) ∙ simp append_assoc)

-- bytes 0 to 26 in two pieces
pub registers_put : (p : List ℕ) (i r b : ℕ) (d e f x y : List ℕ) → 86 ≤ length d → x ≡ first_registers p i r b → y ≡ other_registers p
    → e ≡ put d 0 x → f ≡ put e 13 y → f ≡ put d 0 (register_bytes p i r b)
registers_put p i r b d e f x y h hx hy he hf = rw (hf, he, hx, hy) (put-put d (first_registers p i r b) (other_registers p) 0 13 refl (omega arith))

-- all written
pub all_put : (m : Machine) (d f g b : List ℕ) → length m.sound ≡ 16 → length m.side ≡ 25 → 86 ≤ length d
    → f ≡ put d 0 (register_bytes m.pairs m.i m.r m.switches.border)
    → g ≡ put (put f 27 (switch_bytes m.switches (get_or m.pairs 11 0))) 34 (port_bytes m)
    → b ≡ put (put (put g 39 m.sound) 55 (counter_bytes m.model m.position m.side59)) 61 m.side
    → b ≡ header_of m ++ drop 86 d
unfolding header_of
all_put m d f g b hs he h p q r = rw (r, q, p) (six_puts d _ _ _ _ _ _ refl refl refl hs refl he h)

pub header_86 : (m : Machine) → Typed m → length (header_of m) ≡ 86
unfolding header_of
header_86 m t = simp length-append (omega (arith, t.sound, t.side))
