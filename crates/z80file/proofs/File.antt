-- A file that was written reads back; a file that is read can be written.
use Prim.Native.Nat.{ℕ, ◌-◌, ◌≤◌}
use mathlib.Core.Path.{◌≡◌, refl, sym, ap, subst, ◌∙◌}
use mathlib.Core.Bool.{Bool, true, false}
use mathlib.Core.List.{List}
use native.Mathlib.Omega.{arith}
use lib.Dec.{eqb, leb}
use lib.ListN.{length, take, drop, replicate}
use lib.Seq.{take_at, drop_at}
use borrow.Author.Tests.{leb-true, eqb-true}
use Rattle.slices.specs.Choose.{choose}
use Rattle.slices.specs.Blank.{blank}
use Rattle.spectrum.specs.declared.Machine.{Machine}
use Rattle.pages.specs.declared.Model.{Model}
use Rattle.pages.specs.declared.Model.TheVariants.{K48}
use Rattle.spectrum.specs.declared.Attachment.{Attachment}
use Rattle.numbers.specs.declared.Refusal.TheVariants.{AreaLength, InvalidMachine, MemoryLength, OutputShort}
use Rattle.numbers.specs.Numbers.{accepted}
use Rattle.spectrum.specs.Valid.{Typed, valid_of}
use Rattle.spectrum.proofs.Validity.{valid_says}
use Rattle.numbers.proofs.Numbers.{refused_not}
use Rattle.header.specs.declared.Version.{Version}
use Rattle.header.specs.declared.Version.TheVariants.{V1, V2, V3}
use Rattle.header.specs.declared.Head.{Head}
use Rattle.header.specs.declared.Head.TheVariants.{Header}
use Rattle.slices.specs.Bytes.{bit_at}
use Rattle.header.specs.Heads.{byte12_of, head_of}
use Rattle.header_read.specs.Reading.{machine_of}
use Rattle.header_write.specs.Writing.{header_of}
use Rattle.header_write.proofs.WriteSteps.{header_86}
use Rattle.header_canonical.proofs.MachineBack.{machine_back}
use Rattle.header.proofs.AcceptedHeads.{opens}
use Rattle.header_read.proofs.MachineValid.{machine_valid}
use Rattle.header_canonical.proofs.HeadBack.{head_back}
use Rattle.blocks.specs.Blocks.{BodyResult, body_refused, body_read, blocks_into}
use Rattle.numbers.specs.Faults.{unplaced}
use Rattle.z80read.specs.Read.{memory_into, ReadResult, refused_read, accepted_read, after_body, after_head, read_of}
use Rattle.z80write.specs.declared.Written.{Written}
use Rattle.pages.specs.Pages.{slots}
use Rattle.blocks_write.specs.Laid.{laid}
use Rattle.z80write.specs.Written.{file_of, WriteResult, refused_write, accepted_write, written_of, Writes}
use Rattle.z80file.specs.Clean.{Clean, ReadGives}
use Rattle.z80file.proofs.BlocksBack.{blocks_back}
use Rattle.z80file.proofs.CleanAreas.{CleanBody, clean_blocks, clean_body}

-- reading the file of a valid machine and a clean memory gives both back
pub file_back : (m : Machine) (area : List ℕ) → Typed m → valid_of m ≡ true → Clean m.model area
    → read_of (file_of m area) 131072 ≡ accepted_read m area
unfolding read_of
file_back m area t h c =
    let v = valid_says m t.sound h in
    let rest = laid (slots m.model) area in
    let b : blocks_into m.model (blank 131072) 86 (drop 86 (file_of m area)) ≡ body_read area =
    ap (blocks_into m.model (blank 131072) 86) (drop_at (header_of m) rest 86 (header_86 m t)) ∙ blocks_back m.model area 86 c in
    ap (λ (x : Head). after_head x (file_of m area) 131072) (head_back m rest t v)
    ∙ ap (λ (x : BodyResult). after_body x (machine_of V3 m.model m.attachment (file_of m area)) 131072) b
    ∙ ap (λ (x : Machine). accepted_read x area) (machine_back m rest t v)

-- what an accepted write left begins with the file
pub out_is_file : (m : Machine) (area : List ℕ) (n : ℕ) → (written_of m area n).answer ≡ accepted → take (written_of m area n).size (written_of m area n).out ≡ file_of m area
unfolding written_of
out_is_file m area n = go (valid_of m) (eqb (length area) 131072) (leb (length (file_of m area)) n)
  where
    f : List ℕ
    f = file_of m area

    o : Bool → Bool → Bool → WriteResult
    o t u v = choose t (choose u (choose v (accepted_write f n) (refused_write OutputShort n)) (refused_write MemoryLength n)) (refused_write InvalidMachine n)

    go : (t u v : Bool) → (o t u v).answer ≡ accepted → take (o t u v).size (o t u v).out ≡ f
    go true true true h = take_at f (replicate (n - length f) 0) (length f) refl
    go true true false h = absurd (refused_not OutputShort h)
    go true false v h = absurd (refused_not MemoryLength h)
    go false u v h = absurd (refused_not InvalidMachine h)

size_inside : (m : Machine) (area : List ℕ) (n : ℕ) → (written_of m area n).size ≤ n
unfolding written_of
size_inside m area n = go (valid_of m) (eqb (length area) 131072) (leb (length (file_of m area)) n) refl
  where
    f : List ℕ
    f = file_of m area

    go : (t u v : Bool) → leb (length f) n ≡ v
        → (choose t (choose u (choose v (accepted_write f n) (refused_write OutputShort n)) (refused_write MemoryLength n)) (refused_write InvalidMachine n)).size ≤ n
    go true true true e = leb-true _ _ e
    go true true false e = omega arith
    go true false v e = omega arith
    go false u v e = omega arith

pub length_inside : (m : Machine) (area : List ℕ) (n : ℕ) (w : Written) (d : List ℕ) → Writes (written_of m area n) w d → w.length ≤ n
length_inside m area n w d g = subst (λ (k : ℕ). k ≤ n) (sym g.size) (size_inside m area n)

clean_memory : (v : Version) (model : Model) (s : List ℕ) → (v ≡ V1 → model ≡ K48) → CleanBody model (memory_into v model (blank 131072) s)
clean_memory V1 model s f = subst (λ (k : Model). CleanBody k (memory_into V1 k (blank 131072) s)) (sym (f refl)) (clean_body (bit_at (byte12_of s) 32) 30 (drop 30 s))
clean_memory V2 model s f = clean_blocks model 55 (drop 55 s)
clean_memory V3 model s f = clean_blocks model 86 (drop 86 s)

model_is : (v : Version) (model : Model) (a : Attachment) (s : List ℕ) → (machine_of v model a s).model ≡ model
unfolding machine_of
model_is v model a s = refl

accepted_start : (s : List ℕ) (n : ℕ) (v : Version) (model : Model) (a : Attachment) (x : BodyResult) → n ≡ 131072 → head_of s ≡ Header v model a → CleanBody model x
    → (after_body x (machine_of v model a s) n).answer ≡ accepted
    → ReadGives (after_body x (machine_of v model a s) n).machine (after_body x (machine_of v model a s) n).memory n
accepted_start s n v model a (body_refused w) l e g h = absurd (refused_not w.why h)
accepted_start s n v model a (body_read area) l e g h =
    record {
      whole_area = l;
      valid = machine_valid s v model a e;
      clean = subst (λ (k : Model). Clean k area) (sym (model_is v model a s)) g;
    }

pub read_start : (s : List ℕ) (n : ℕ) → (read_of s n).answer ≡ accepted → ReadGives (read_of s n).machine (read_of s n).memory n
unfolding read_of
read_start s n = go (eqb n 131072) refl (head_of s) refl
  where
    o : Bool → Head → ReadResult
    o t x = choose t (after_head x s n) (refused_read (unplaced AreaLength) n)

    go : (t : Bool) → eqb n 131072 ≡ t → (x : Head) → head_of s ≡ x → (o t x).answer ≡ accepted → ReadGives (o t x).machine (o t x).memory n
    go true e (Head.Refused w) q h = absurd (refused_not w.why h)
    go true e (Header v model a) q h =
        accepted_start s n v model a (memory_into v model (blank 131072) s) (eqb-true _ _ e) q (clean_memory v model s (opens s (head_of s) v model a refl q).first) h
    go false e x q h = absurd (refused_not AreaLength h)
