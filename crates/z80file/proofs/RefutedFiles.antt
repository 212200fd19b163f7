-- Demand 2 is false of each empty version: what is written of a 128K machine and an area of zeros does not come back.
use Prim.Native.Nat.{ℕ, ◌-◌}
use mathlib.Core.Path.{◌≡◌, refl, sym, ap, ◌∙◌}
use mathlib.Core.Bool.{true}
use mathlib.Core.List.{List, [], ◌++◌, append_assoc, append-nil}
use native.Mathlib.Omega.{arith}
use lib.ListN.{length, take, replicate}
use lib.Seq.{take_at, drop_at}
use Rattle.std.specs.Prelude.{Err}
use Rattle.slices.specs.Blank.{blank}
use Rattle.spectrum.specs.declared.Machine.{Machine}
use Rattle.numbers.specs.declared.Refusal.TheVariants.{FileShort, BlockMissing}
use Rattle.spectrum.specs.Machine.{with_out}
use Rattle.pages.specs.Pages.{slots}
use Rattle.spectrum.specs.Valid.{Typed, valid_of}
use Rattle.spectrum.proofs.Validity.{valid_says}
use Rattle.numbers.proofs.Numbers.{refused_not}
use Rattle.header.specs.declared.Version.TheVariants.{V3}
use Rattle.header.specs.declared.Head.{Head}
use Rattle.header_read.specs.Reading.{machine_of}
use Rattle.header_write.specs.Writing.{header_of}
use Rattle.header_write.proofs.WriteSteps.{header_86}
use Rattle.header_canonical.proofs.HeadBack.{head_back}
use Rattle.blocks.specs.Blocks.{BodyResult, body_refused, blocks, blocks_into}
use Rattle.block_pages.specs.Numbered.{all_there}
use Rattle.z80read.specs.Read.{ReadResult, after_body, after_head, read_of}
use Rattle.blocks_write.specs.Laid.{laid}
use Rattle.z80write.specs.Written.{file_of, WriteResult, written_of}
use Rattle.z80write.proofs.FileWritten.{written_fits}
use Rattle.numbers.specs.Faults.{missing}
use Rattle.z80write.proofs.Longest.{file_most}
use Rattle.z80file.specs.Clean.{Clean}
use Rattle.z80file.specs.RoundTrip.{BackOf}
use Rattle.z80file.specs.WrongFiles.{refuses_files, fixed_machine, invents_length}
use Rattle.z80file.proofs.CleanAreas.{clean_blank}
use Rattle.z80file.proofs.Sample.{sample, zero_at, sample_typed, sample_valid}

blank_area : List ℕ
blank_area = blank 131072

clean : Clean sample.model blank_area
unfolding blank_area
clean = clean_blank sample.model

-- what was written is refused, where it is to be accepted
pub refuted_refuses_files : BackOf refuses_files written_of → ⊥
unfolding refuses_files
refuted_refuses_files h = refused_not FileShort (ap (λ (o : ReadResult). o.answer) (h sample blank_area sample_typed sample_valid clean))

-- the sample with another last OUT
unfoldable pub other_machine : Machine
other_machine = with_out sample 1

pub other_typed : Typed other_machine
unfolding other_machine with_out sample
other_typed = record { pairs = λ k. omega (arith, zero_at 12 k); count = refl; r8 = omega arith; out = omega arith; sound = refl; side = refl }

pub other_valid : valid_of other_machine ≡ true
unfolding other_machine with_out sample valid_of
other_valid = refl

-- one machine is read for both, where their last OUTs are 0 and 1
pub refuted_fixed_machine : (fixed : Machine) → BackOf (fixed_machine fixed) written_of → ⊥
unfolding fixed_machine blank_area other_machine with_out sample
refuted_fixed_machine fixed h =
    let one : fixed.out7ffd ≡ 0 = ap (λ (o : ReadResult). o.machine.out7ffd) (h sample blank_area sample_typed sample_valid clean) in
    let two : fixed.out7ffd ≡ 1 = ap (λ (o : ReadResult). o.machine.out7ffd) (h other_machine blank_area other_typed other_valid (clean_blank other_machine.model)) in
    omega arith

-- of no blocks all eight are missing
no_blocks : blocks_into sample.model (blank 131072) 86 [] ≡ body_refused (missing 0 8)
unfolding sample blocks_into blocks all_there
no_blocks = refl

-- a header alone is refused
header_alone : (read_of (header_of sample ++ []) 131072).answer ≡ Err BlockMissing
unfolding read_of
header_alone =
    ap (λ (x : Head). (after_head x (header_of sample ++ []) 131072).answer) (head_back sample [] sample_typed (valid_says sample sample_typed.sound sample_valid))
    ∙ ap (λ (x : List ℕ). (after_body (blocks_into sample.model (blank 131072) 86 x) (machine_of V3 sample.model sample.attachment (header_of sample ++ [])) 131072).answer)
    (drop_at (header_of sample) [] 86 (header_86 sample sample_typed))
    ∙ ap (λ (x : BodyResult). (after_body x (machine_of V3 sample.model sample.attachment (header_of sample ++ [])) 131072).answer) no_blocks

-- the first 86 bytes of what is written are the header
header_first : take 86 (written_of sample blank_area 131182).out ≡ header_of sample ++ []
header_first =
    let tail = laid (slots sample.model) blank_area in
    let zs : List ℕ = replicate (131182 - length (file_of sample blank_area)) 0 in
    ap (λ (o : WriteResult). take 86 o.out) (written_fits sample blank_area 131182 sample_valid clean.long (file_most sample blank_area sample_typed))
    ∙ ap (take 86) (append_assoc (header_of sample) tail zs)
    ∙ take_at (header_of sample) (tail ++ zs) 86 (header_86 sample sample_typed)
    ∙ sym (append-nil (header_of sample))

-- what is read are the 86 header bytes alone, which are refused for want of blocks, where they are to be accepted
pub refuted_invented_length : BackOf read_of invents_length → ⊥
unfolding invents_length
refuted_invented_length h =
    refused_not BlockMissing
    (sym header_alone ∙ ap (λ (l : List ℕ). (read_of l 131072).answer) (sym header_first) ∙ ap (λ (o : ReadResult). o.answer) (h sample blank_area sample_typed sample_valid clean))
