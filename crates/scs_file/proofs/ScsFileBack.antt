-- A file that was written reads back as what SCS keeps of the machine, and the memory.
use Prim.Native.Nat.{ℕ, ◌+◌, ◌-◌, ◌%◌, ◌<◌, ◌≤◌}
use native.Mathlib.Omega.{arith}
use mathlib.Core.Path.{◌≡◌, refl, sym, ap, ◌∙◌}
use mathlib.Core.Bool.{true}
use mathlib.Core.List.{List, ◌∷◌, ◌++◌}
use lib.ListN.{length, get_or, take, drop, replicate, length-drop}
use lib.Seq.{get_or-drop, take_at}
use borrow.Author.Tests.{le-ltb, ne_eqb}
use Rattle.slices.specs.Bytes.{at}
use Rattle.pages.specs.declared.Model.{Model}
use Rattle.pages.specs.declared.Model.TheVariants.{K48, K128}
use Rattle.z80read.specs.Read.{accepted_read}
use Rattle.spectrum.specs.declared.Machine.{Machine}
use Rattle.spectrum.specs.Valid.{Typed, valid_of}
use Rattle.spectrum.proofs.Validity.{valid_says}
use Rattle.z80write.specs.Written.{WriteResult}
use Rattle.z80file.specs.Clean.{Clean}
use Rattle.scs_blocks.specs.declared.ScsPart.TheVariants.{Stands}
use Rattle.scs_blocks.specs.declared.ScsSeen.{ScsSeen}
use Rattle.scs_blocks.specs.declared.ScsFound.{ScsFound}
use Rattle.scs_blocks.specs.declared.ScsFound.TheVariants.{Blocks}
use Rattle.scs_blocks.specs.ScsBlocks.{scs_blocks, zero_filled}
use Rattle.scs_blocks.proofs.ScsSoFar.{scs_begin, found_end}
use Rattle.scs_blocks.proofs.ScsFilled.{filled_whole}
use Rattle.scs_machine.specs.ScsMachine.{scs_mode, scs_machine}
use Rattle.scs_pieces.specs.ScsPieces.{scs_cpu, scs_ports}
use Rattle.scs_file.specs.ScsKeeps.{scs_keeps}
use Rattle.scs_file.proofs.ScsKept.{machine_kept}
use Rattle.scs_memory.specs.ScsMemory.{memory_size, scs_memory, scs_data}
use Rattle.scs_memory.proofs.ScsLengths.{data_long}
use Rattle.scs_head.specs.declared.ScsHead.{ScsHead}
use Rattle.scs_head.specs.declared.ScsHead.TheVariants.{Spectrum}
use Rattle.scs_head.specs.ScsHeads.{scs_head_of}
use Rattle.scs_read.specs.ScsReads.{scs_loaded, after_found, after_scs_head, scs_read_of}
use Rattle.scs_write.specs.ScsWritten.{scs_header, scs_block, scs_file_of, scs_written_of}
use Rattle.scs_write.proofs.ScsLaid.{ports_long}
use Rattle.scs_write.proofs.ScsFiles.{cpu_long, scs_file_long}
use Rattle.scs_write.proofs.ScsFits.{size_small, scs_fits}
use Rattle.scs_file.specs.ScsRoundTrip.{ScsBackOf}
use Rattle.scs_file.proofs.ScsAreas.{memory_back}
use Rattle.scs_file.proofs.ScsStepOver.{data_is, rest_is, step_over}

scs_head_back : (model : Model) (rest : List ℕ) → scs_head_of (scs_header model ++ (3 ∷ rest)) ≡ Spectrum model
unfolding scs_head_of
scs_head_back K48 rest = rw (le-ltb (length (scs_header K48 ++ (3 ∷ rest))) 15 (omega arith))
scs_head_back K128 rest = rw (le-ltb (length (scs_header K128 ++ (3 ∷ rest))) 15 (omega arith))

module _ (m : Machine) (area : List ℕ) (t : Typed m) (l : length area ≡ 131072) where
  abbrev file : List ℕ
  file = scs_file_of m area

  abbrev memory : List ℕ
  memory = scs_data m.model area

  abbrev behind_cpu : List ℕ
  behind_cpu = scs_block 2 (scs_ports m) ++ replicate 5 0

  abbrev behind_memory : List ℕ
  behind_memory = scs_block 1 (scs_cpu m) ++ behind_cpu

  memory_small : length memory < 4294967296
  memory_small = omega (arith, size_small m.model (length memory) (data_long m.model area l))

  -- where the blocks begin: Memory, CPU, Ports, the end
  at_memory : drop 15 file ≡ scs_block 3 memory ++ behind_memory
  unfolding scs_file_of
  at_memory = refl

  abbrev place₁ : ℕ
  place₁ = 15 + 5 + length memory

  at_cpu : drop place₁ file ≡ behind_memory
  at_cpu = rest_is file 15 3 memory behind_memory at_memory

  abbrev place₂ : ℕ
  place₂ = place₁ + 5 + length (scs_cpu m)

  at_ports : drop place₂ file ≡ behind_cpu
  at_ports = rest_is file place₁ 1 (scs_cpu m) behind_cpu at_cpu

  abbrev place₃ : ℕ
  place₃ = place₂ + 5 + length (scs_ports m)

  at_file_end : drop place₃ file ≡ replicate 5 0
  at_file_end = rest_is file place₂ 2 (scs_ports m) (replicate 5 0) at_ports

  abbrev written_seen : ScsSeen
  written_seen = record { cpu = Stands (place₁ + 5) (length (scs_cpu m)); ports = Stands (place₂ + 5) (length (scs_ports m)); memory = Stands (15 + 5) (length memory) }

  scs_blocks_back : Blocks written_seen ≡ scs_blocks file 15
  scs_blocks_back =
      let all = scs_blocks file 15 in
      let g₁ = step_over file 15 3 memory behind_memory at_memory all _ (scs_begin file 15) memory_small (λ e. omega arith) refl in
      let g₂ = step_over file place₁ 1 (scs_cpu m) behind_cpu at_cpu all _ g₁ (omega (arith, cpu_long m)) (λ e. omega arith) refl in
      let g₃ = step_over file place₂ 2 (scs_ports m) (replicate 5 0) at_ports all _ g₂ (omega (arith, ports_long m t)) (λ e. omega arith) refl in
      let left : 5 ≡ length file - place₃ = sym (ap length at_file_end) ∙ length-drop place₃ file in
      let z : place₃ + 0 ≡ place₃ = omega arith in
      found_end file all written_seen place₃ g₃ (omega arith)
      (ap (λ (k : ℕ). at file k) (sym z) ∙ sym (get_or-drop place₃ file 0 0) ∙ ap (λ (x : List ℕ). get_or x 0 0) at_file_end)

  -- the data of the three blocks
  loaded_back : after_found (Blocks written_seen) m.model file 131072 ≡ scs_loaded m.model (scs_cpu m) (scs_ports m) memory 131072
  loaded_back =
      λ i. scs_loaded m.model (data_is file place₁ 1 (scs_cpu m) behind_cpu at_cpu i) (data_is file place₂ 2 (scs_ports m) (replicate 5 0) at_ports i)
      (data_is file 15 3 memory behind_memory at_memory i) 131072

  whole_cpu : zero_filled 34 (scs_cpu m) ≡ scs_cpu m
  whole_cpu = filled_whole 34 (scs_cpu m) (cpu_long m)

  whole_ports : zero_filled 19 (scs_ports m) ≡ scs_ports m
  whole_ports = filled_whole 19 (scs_ports m) (ports_long m t)

  scs_mode_is : scs_mode (scs_cpu m) ≡ m.switches.im % 4
  unfolding scs_cpu
  scs_mode_is = refl

  module _ (v : valid_of m ≡ true) where
    mode_good : scs_mode (zero_filled 34 (scs_cpu m)) ≡ 3 → ⊥
    mode_good e =
        let q : m.switches.im % 4 ≡ 3 = sym (ap scs_mode whole_cpu ∙ scs_mode_is) ∙ e in
        omega (arith, q, (valid_says m t.sound v).im)

    accepted_back : scs_loaded m.model (scs_cpu m) (scs_ports m) memory 131072 ≡ accepted_read (scs_keeps m) (scs_memory m.model memory)
    accepted_back =
        rw (ne_eqb (scs_mode (zero_filled 34 (scs_cpu m))) 3 mode_good)
        (λ i. accepted_read (((λ j. scs_machine m.model (whole_cpu j) (whole_ports j)) ∙ machine_kept m t v) i) (scs_memory m.model memory))

    head_file : scs_head_of file ≡ Spectrum m.model
    unfolding scs_file_of
    head_file = scs_head_back m.model _

    read_back : scs_read_of file 131072 ≡ accepted_read (scs_keeps m) (scs_memory m.model memory)
    unfolding scs_read_of
    read_back =
        ap (λ (x : ScsHead). after_scs_head x file 131072) head_file
        ∙ ap (λ (x : ScsFound). after_found x m.model file 131072) (sym scs_blocks_back)
        ∙ loaded_back ∙ accepted_back

pub scs_file_back : (m : Machine) (area : List ℕ) → Typed m → valid_of m ≡ true → Clean m.model area
    → scs_read_of (scs_file_of m area) 131072 ≡ accepted_read (scs_keeps m) area
scs_file_back m area t v c =
    read_back m area t c.long v ∙ ap (λ (x : List ℕ). accepted_read (scs_keeps m) x) (memory_back m.model area c)

-- the file is what an output with room for it begins with
pub scs_out : (m : Machine) (area : List ℕ) (n : ℕ) → valid_of m ≡ true → length area ≡ 131072 → length (scs_file_of m area) ≤ n
    → take (scs_written_of m area n).size (scs_written_of m area n).out ≡ scs_file_of m area
scs_out m area n v l h = ap (λ (x : WriteResult). take x.size x.out) (scs_fits m area n v l h) ∙ take_at (scs_file_of m area) _ (length (scs_file_of m area)) refl

pub scs_back : ScsBackOf scs_read_of scs_written_of
scs_back m area t v c =
    let h : length (scs_file_of m area) ≤ 131160 = omega (arith, scs_file_long m area t c.long, size_small m.model (memory_size m.model) refl) in
    ap (λ (x : List ℕ). scs_read_of x 131072) (scs_out m area 131160 v c.long h) ∙ scs_file_back m area t v c
