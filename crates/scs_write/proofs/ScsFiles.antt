-- The file as its pieces, and how long it is.
use Prim.Native.Nat.{ℕ, ◌+◌, ◌-◌, ◌≤◌}
use native.Mathlib.Omega.{arith}
use mathlib.Core.Path.{◌≡◌, refl, sym, ap, ◌∙◌}
use mathlib.Core.List.{List, ◌∷◌, ◌++◌}
use lib.ListN.{length, take, replicate, length-append}
use Rattle.slices.specs.Put.{put}
use Rattle.pages.specs.declared.Model.{Model}
use Rattle.pages.specs.declared.Model.TheVariants.{K48, K128}
use Rattle.spectrum.specs.declared.Machine.{Machine}
use Rattle.spectrum.specs.Valid.{Typed}
use Rattle.scs_pieces.specs.ScsPieces.{scs_cpu, scs_ports}
use Rattle.scs_memory.specs.ScsMemory.{memory_size, scs_data}
use Rattle.scs_memory.proofs.ScsLengths.{data_long}
use Rattle.scs_write.specs.ScsWritten.{scs_header, size_bytes, scs_block, scs_file_of}
use Rattle.scs_write.proofs.ScsLaid.{ports_long, rows}

abbrev front_of : Model → List ℕ
front_of model = scs_header model ++ (3 ∷ size_bytes (memory_size model))

pub cpu_long : (m : Machine) → length (scs_cpu m) ≡ 34
unfolding scs_cpu
cpu_long m = refl

-- the front, the memory, the two other blocks and five zeros
pub file_is : (m : Machine) (area : List ℕ) → length area ≡ 131072
    → scs_file_of m area ≡ front_of m.model ++ (scs_data m.model area ++ (scs_block 1 (scs_cpu m) ++ (scs_block 2 (scs_ports m) ++ replicate 5 0)))
unfolding scs_file_of
file_is m area l =
    ap (λ (k : ℕ). scs_header m.model ++ ((3 ∷ (size_bytes k ++ scs_data m.model area)) ++ (scs_block 1 (scs_cpu m) ++ (scs_block 2 (scs_ports m) ++ replicate 5 0))))
    (data_long m.model area l)

pieces_long : (f g c p : List ℕ) (n : ℕ) → length f ≡ 20 → length g ≡ n → length c ≡ 39 → length p ≡ 24 → length (f ++ (g ++ (c ++ (p ++ replicate 5 0)))) ≡ 88 + n
pieces_long f g c p n lf lg lc lp = simp length-append (omega arith)

module _ (m : Machine) (area : List ℕ) (t : Typed m) (l : length area ≡ 131072) where
  cpu_block : length (scs_block 1 (scs_cpu m)) ≡ 39
  cpu_block = omega (arith, cpu_long m)

  ports_block : length (scs_block 2 (scs_ports m)) ≡ 24
  ports_block = omega (arith, ports_long m t)

  pub scs_file_long : length (scs_file_of m area) ≡ 88 + memory_size m.model
  scs_file_long = ap length (file_is m area l) ∙ pieces_long (front_of m.model) (scs_data m.model area) (scs_block 1 (scs_cpu m)) (scs_block 2 (scs_ports m)) (memory_size m.model) refl (data_long m.model area l) cpu_block ports_block

  pub scs_file_48k : m.model ≡ K48 → length (scs_file_of m area) ≡ 49240
  scs_file_48k e = scs_file_long ∙ rw e

  pub scs_file_128k : m.model ≡ K128 → length (scs_file_of m area) ≡ 131160
  scs_file_128k e = scs_file_long ∙ rw e

  pub file_laid : (d o₁ o₂ o₃ o₄ o₅ : List ℕ) (n : ℕ) → 88 + memory_size m.model ≤ length d → n ≡ memory_size m.model → o₁ ≡ put d 0 (front_of m.model)
      → o₂ ≡ put o₁ 20 (scs_data m.model area) → o₃ ≡ put o₂ (20 + n) (scs_block 1 (scs_cpu m)) → o₄ ≡ put o₃ (20 + n + 39) (scs_block 2 (scs_ports m))
      → o₅ ≡ take (20 + n + 63) o₄ ++ replicate (length o₄ - (20 + n + 63)) 0 → o₅ ≡ scs_file_of m area ++ replicate (length d - length (scs_file_of m area)) 0
  file_laid d o₁ o₂ o₃ o₄ o₅ n h en e₁ e₂ e₃ e₄ e₅ =
      let c = scs_block 1 (scs_cpu m) in
      let p = scs_block 2 (scs_ports m) in
      let g = scs_data m.model area in
      let f = front_of m.model in
      let lg : length g ≡ n = data_long m.model area l ∙ sym en in
      let lo : 88 + n ≡ length (scs_file_of m area) = sym (scs_file_long ∙ ap (λ (k : ℕ). 88 + k) (sym en)) in
      e₅
      ∙ rows d f g c p n refl lg cpu_block ports_block (omega arith) o₄ (rw (e₄, e₃, e₂, e₁))
      ∙ (λ i. (f ++ (g ++ (c ++ (p ++ replicate 5 0)))) ++ replicate (length d - lo i) 0)
      ∙ ap (λ (x : List ℕ). x ++ replicate (length d - length (scs_file_of m area)) 0) (sym (file_is m area l))
