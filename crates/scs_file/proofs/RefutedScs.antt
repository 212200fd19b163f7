-- Demand 2 for SCS is false of each empty version: what is written of a 128K machine and an area of zeros does not come back.
use Prim.Native.Nat.{ℕ, ◌≤◌}
use mathlib.Core.Path.{◌≡◌, refl, sym, ap, ◌∙◌}
use mathlib.Core.List.{List, ◌++◌}
use native.Mathlib.Omega.{arith}
use lib.ListN.{length, take}
use Rattle.std.specs.Prelude.{Err}
use Rattle.slices.specs.Blank.{blank}
use Rattle.pages.specs.declared.Model.TheVariants.{K128}
use Rattle.spectrum.specs.declared.Machine.{Machine}
use Rattle.spectrum.specs.Machine.{with_out}
use Rattle.numbers.specs.declared.Refusal.TheVariants.{FileShort, ScsMemoryNotFirst}
use Rattle.numbers.proofs.Numbers.{refused_not}
use Rattle.z80read.specs.Read.{ReadResult}
use Rattle.z80write.specs.Written.{WriteResult}
use Rattle.z80file.specs.Clean.{Clean}
use Rattle.z80file.specs.WrongFiles.{refuses_files}
use Rattle.z80file.proofs.CleanAreas.{clean_blank}
use Rattle.z80file.proofs.Sample.{sample, sample_typed, sample_valid}
use Rattle.z80file.proofs.RefutedFiles.{other_machine, other_typed, other_valid}
use Rattle.scs_head.specs.ScsHeads.{scs_head_of}
use Rattle.scs_read.specs.ScsReads.{scs_read_of}
use Rattle.scs_write.specs.ScsWritten.{scs_header, scs_file_of, scs_written_of}
use Rattle.scs_write.proofs.ScsFiles.{scs_file_128k}
use Rattle.scs_write.proofs.ScsFits.{scs_fits}
use Rattle.scs_file.specs.ScsKeeps.{scs_keeps}
use Rattle.scs_file.specs.ScsRoundTrip.{ScsBackOf}
use Rattle.scs_file.specs.WrongScs.{scs_fixed_machine, scs_invents_length}

area_of_zeros : List ℕ
area_of_zeros = blank 131072

clean_zeros : (m : Machine) → Clean m.model area_of_zeros
unfolding area_of_zeros
clean_zeros m = clean_blank m.model

pub refuted_scs_refuses : ScsBackOf refuses_files scs_written_of → ⊥
unfolding refuses_files
refuted_scs_refuses h = refused_not FileShort (ap (λ (o : ReadResult). o.answer) (h sample area_of_zeros sample_typed sample_valid (clean_zeros sample)))

-- one machine is read for both, where their last OUTs are 0 and 1
pub refuted_scs_fixed : (fixed : Machine) → ScsBackOf (scs_fixed_machine fixed) scs_written_of → ⊥
unfolding scs_fixed_machine scs_keeps other_machine with_out sample
refuted_scs_fixed fixed h =
    let one : fixed.out7ffd ≡ 0 = ap (λ (o : ReadResult). o.machine.out7ffd) (h sample area_of_zeros sample_typed sample_valid (clean_zeros sample)) in
    let two : fixed.out7ffd ≡ 1 = ap (λ (o : ReadResult). o.machine.out7ffd) (h other_machine area_of_zeros other_typed other_valid (clean_zeros other_machine)) in
    omega arith

-- a header alone is refused
header_only : (scs_read_of (scs_header K128) 131072).answer ≡ Err ScsMemoryNotFirst
unfolding scs_read_of scs_head_of
header_only = refl

sample_128k : sample.model ≡ K128
unfolding sample
sample_128k = refl

first_bytes : (rest : List ℕ) → take 15 (scs_file_of sample area_of_zeros ++ rest) ≡ scs_header K128
unfolding scs_file_of sample
first_bytes rest = refl

header_begins : take 15 (scs_written_of sample area_of_zeros 131160).out ≡ scs_header K128
header_begins =
    let l : length (scs_file_of sample area_of_zeros) ≤ 131160 = omega (arith, scs_file_128k sample area_of_zeros sample_typed (clean_zeros sample).long sample_128k) in
    ap (λ (o : WriteResult). take 15 o.out) (scs_fits sample area_of_zeros 131160 sample_valid (clean_zeros sample).long l) ∙ first_bytes _

pub refuted_scs_length : ScsBackOf scs_read_of scs_invents_length → ⊥
unfolding scs_invents_length
refuted_scs_length h =
    refused_not ScsMemoryNotFirst
    (sym header_only ∙ ap (λ (l : List ℕ). (scs_read_of l 131072).answer) (sym header_begins) ∙ ap (λ (o : ReadResult). o.answer) (h sample area_of_zeros sample_typed sample_valid (clean_zeros sample)))
