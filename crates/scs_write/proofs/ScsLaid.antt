-- The blocks' pieces put one after the other.
use Prim.Native.Nat.{ℕ, ◌+◌, ◌-◌, ◌≤◌}
use native.Mathlib.Omega.{arith}
use mathlib.Core.Path.{◌≡◌, refl, sym, ap, ◌∙◌}
use mathlib.Core.List.{List, [], ◌∷◌, ◌++◌, append_assoc}
use lib.ListN.{length, take, drop, replicate, length-append, replicate-append-replicate}
use lib.Seq.{take_at}
use Rattle.slices.specs.Put.{put}
use Rattle.slices.proofs.Puts.{put-put, put_zero, length-put}
use Rattle.pages.specs.declared.Model.{Model}
use Rattle.spectrum.specs.declared.Machine.{Machine}
use Rattle.spectrum.specs.Valid.{Typed}
use Rattle.scs_blocks.specs.ScsIdentity.{sam_snap, hardware_of}
use Rattle.scs_pieces.specs.ScsPieces.{high_first_pairs, low_first_pairs, cpu_settings, scs_cpu, ports_front, scs_ports}
use Rattle.scs_memory.specs.ScsMemory.{memory_size}
use Rattle.scs_write.specs.ScsWritten.{scs_header, size_bytes, scs_block}

-- the name, the emulator and its version, then the hardware, and the head of the Memory block
pub front_put : (model : Model) (d o₁ o₂ a : List ℕ) → 20 ≤ length d → o₁ ≡ put d 0 (sam_snap ++ (0x41 ∷ 0x53 ∷ 0x43 ∷ 0x44 ∷ 0 ∷ 98 ∷ []))
    → a ≡ hardware_of model ∷ 3 ∷ size_bytes (memory_size model) → o₂ ≡ put o₁ 14 a → o₂ ≡ put d 0 (scs_header model ++ (3 ∷ size_bytes (memory_size model)))
front_put model d o₁ o₂ a l e₁ ea e₂ = rw (e₂, e₁, ea) (put-put d _ _ 0 14 refl (omega arith))

four_puts : (d h a b c : List ℕ) (place : ℕ) → length h ≡ 5 → length a ≡ 16 → length b ≡ 8 → place + 39 ≤ length d
    → put (put (put (put d place h) (place + 5) a) (place + 21) b) (place + 29) c ≡ put d place (h ++ (a ++ (b ++ c)))
four_puts d h a b c place lh la lb l =
    rw (
      put-put d h a place (place + 5) (omega arith) (omega arith),
      put-put d (h ++ a) b place (place + 21) (simp length-append (omega arith)) (omega arith),
      put-put d ((h ++ a) ++ b) c place (place + 29) (simp length-append (omega arith)) (omega arith),
    )
    (ap (put d place) (simp append_assoc))

pub cpu_put : (m : Machine) (d o₁ o₂ o₃ o₄ a b c : List ℕ) (place : ℕ) → place + 39 ≤ length d → o₁ ≡ put d place (1 ∷ 34 ∷ 0 ∷ 0 ∷ 0 ∷ [])
    → a ≡ high_first_pairs m.pairs → o₂ ≡ put o₁ (place + 5) a → b ≡ low_first_pairs m.pairs → o₃ ≡ put o₂ (place + 21) b
    → c ≡ cpu_settings m.i m.r m.switches → o₄ ≡ put o₃ (place + 29) c → o₄ ≡ put d place (scs_block 1 (scs_cpu m))
unfolding scs_cpu
cpu_put m d o₁ o₂ o₃ o₄ a b c place l e₁ ea e₂ eb e₃ ec e₄ = rw (e₄, e₃, e₂, e₁, ea, eb, ec) (four_puts d _ _ _ _ place refl refl refl l)

three_pieces : (d h a b : List ℕ) (place : ℕ) → length h ≡ 5 → length a ≡ 3 → place + 24 ≤ length d
    → put (put (put d place h) (place + 5) a) (place + 8) b ≡ put d place (h ++ (a ++ b))
three_pieces d h a b place lh la l =
    rw (put-put d h a place (place + 5) (omega arith) (omega arith), put-put d (h ++ a) b place (place + 8) (simp length-append (omega arith)) (omega arith))
    (ap (put d place) (append_assoc h a b))

pub ports_long : (m : Machine) → Typed m → length (scs_ports m) ≡ 19
unfolding scs_ports
ports_long m t = omega (arith, t.sound)

pub ports_put : (m : Machine) (d o₁ o₂ o₃ a : List ℕ) (place : ℕ) → Typed m → place + 24 ≤ length d → o₁ ≡ put d place (2 ∷ 19 ∷ 0 ∷ 0 ∷ 0 ∷ [])
    → a ≡ ports_front m → o₂ ≡ put o₁ (place + 5) a → o₃ ≡ put o₂ (place + 8) m.sound → o₃ ≡ put d place (scs_block 2 (scs_ports m))
unfolding scs_ports
ports_put m d o₁ o₂ o₃ a place t l e₁ ea e₂ e₃ =
    rw (e₃, e₂, e₁, ea)
    (three_pieces d _ _ _ place refl refl l ∙ sym (ap (λ (k : ℕ). put d place (2 ∷ (size_bytes k ++ (ports_front m ++ m.sound)))) (ports_long m t)))

-- four pieces from the start on, zeros behind them: the first five belong to the file
pub rows : (d f g c p : List ℕ) (n : ℕ) → length f ≡ 20 → length g ≡ n → length c ≡ 39 → length p ≡ 24 → 88 + n ≤ length d
    → (o : List ℕ) → o ≡ put (put (put (put d 0 f) 20 g) (20 + n) c) (20 + n + 39) p
    → take (20 + n + 63) o ++ replicate (length o - (20 + n + 63)) 0 ≡ (f ++ (g ++ (c ++ (p ++ replicate 5 0)))) ++ replicate (length d - (88 + n)) 0
rows d f g c p n lf lg lc lp h o e =
    let x = ((f ++ g) ++ c) ++ p in
    let k = length d - (88 + n) in
    let lx : length x ≡ 20 + n + 63 = simp length-append (omega arith) in
    let q : o ≡ put d 0 x =
    e
    ∙ rw (
      put-put d f g 0 20 (omega arith) (omega arith),
      put-put d (f ++ g) c 0 (20 + n) (simp length-append (omega arith)) (omega arith),
      put-put d ((f ++ g) ++ c) p 0 (20 + n + 39) (simp length-append (omega arith)) (omega arith),
    ) in
    let lo : length o ≡ length d = ap length q ∙ length-put d x 0 (omega arith) in
    let z : length o - (20 + n + 63) ≡ 5 + k = omega arith in
    let t : take (20 + n + 63) o ≡ x = ap (take (20 + n + 63)) (q ∙ put_zero d x (20 + n + 63) lx) ∙ take_at x (drop (20 + n + 63) d) (20 + n + 63) lx in
    (λ i. t i ++ replicate (z i) 0)
    ∙ ap (λ (l : List ℕ). x ++ l) (sym (replicate-append-replicate 5 k 0))
    ∙ simp append_assoc
