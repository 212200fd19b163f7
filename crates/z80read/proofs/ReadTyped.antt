-- The machine of an accepted read is as the types of the code say.
use Prim.Native.Nat.{ℕ, ◌<◌}
use mathlib.Core.Path.{◌≡◌, refl}
use mathlib.Core.Bool.{Bool, true, false}
use mathlib.Core.List.{List}
use lib.ListN.{get_or}
use lib.Dec.{eqb}
use Rattle.slices.specs.Choose.{choose}
use Rattle.slices.specs.Blank.{blank}
use Rattle.spectrum.specs.declared.Machine.{Machine}
use Rattle.numbers.specs.declared.Refusal.TheVariants.{AreaLength}
use Rattle.numbers.specs.Numbers.{accepted}
use Rattle.numbers.specs.Faults.{unplaced}
use Rattle.spectrum.specs.Valid.{Typed}
use Rattle.numbers.proofs.Numbers.{refused_not}
use Rattle.header.specs.declared.Head.{Head}
use Rattle.header.specs.declared.Head.TheVariants.{Header}
use Rattle.header_read.specs.Reading.{machine_of}
use Rattle.header.specs.Heads.{head_of}
use Rattle.header.proofs.AcceptedHeads.{opens}
use Rattle.header_read.proofs.MachineTyped.{machine_typed}
use Rattle.blocks.specs.Blocks.{BodyResult, body_refused, body_read}
use Rattle.z80read.specs.Read.{ReadResult, memory_into, refused_read, after_body, after_head, read_of}

result_typed : (x : BodyResult) (m : Machine) (n : ℕ) → Typed m → (after_body x m n).answer ≡ accepted → Typed (after_body x m n).machine
result_typed (body_refused w) m n t e = absurd (refused_not w.why e)
result_typed (body_read area) m n t e = t

pub read_typed : (s : List ℕ) (n : ℕ) → ((i : ℕ) → get_or s i 0 < 256) → (read_of s n).answer ≡ accepted → Typed (read_of s n).machine
unfolding read_of
read_typed s n h = go (eqb n 131072) (head_of s) refl
  where
    o : Bool → Head → ReadResult
    o t x = choose t (after_head x s n) (refused_read (unplaced AreaLength) n)

    go : (t : Bool) (x : Head) → head_of s ≡ x → (o t x).answer ≡ accepted → Typed (o t x).machine
    go true (Head.Refused w) q e = absurd (refused_not w.why e)
    go true (Header v k a) q e =
        result_typed (memory_into v k (blank 131072) s) (machine_of v k a s) n (machine_typed s h v k a (opens s (head_of s) v k a refl q).readable) e
    go false x q e = absurd (refused_not AreaLength e)
