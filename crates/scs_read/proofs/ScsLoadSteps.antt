-- The blocks that were seen, loaded: each return of the code.
use Prim.Native.Nat.{ℕ, ◌%◌}
use mathlib.Core.Path.{◌≡◌, ap, subst, ◌∙◌}
use mathlib.Core.Bool.{Bool, true, false}
use mathlib.Core.List.{List}
use borrow.Author.Tests.{eq-eqb, ne_eqb}
use Rattle.slices.specs.Bytes.{at}
use Rattle.pages.specs.declared.Model.{Model}
use Rattle.spectrum.specs.declared.Machine.{Machine}
use Rattle.numbers.specs.declared.Refusal.TheVariants.{InterruptMode, ScsBlockMissing}
use Rattle.numbers.specs.Numbers.{accepted}
use Rattle.numbers.specs.declared.FileFault.{FileFault}
use Rattle.numbers.specs.Faults.{unplaced}
use Rattle.z80read.specs.declared.Opened.{Opened}
use Rattle.z80read.specs.Read.{refused_read, ReadLeaves}
use Rattle.scs_blocks.specs.declared.ScsSeen.{ScsSeen}
use Rattle.scs_blocks.specs.ScsBlocks.{three_seen, data_of, zero_filled}
use Rattle.scs_machine.specs.ScsMachine.{scs_machine}
use Rattle.scs_memory.specs.ScsMemory.{scs_memory}
use Rattle.scs_read.specs.ScsReads.{after_seen}

module _ (seen : ScsSeen) (model : Model) (s : List ℕ) (n : ℕ) (r : Opened) (after : List ℕ) (t : Bool) (e : t ≡ three_seen seen) where
  pub loads_missing : (fault : FileFault) → t ≡ false → fault ≡ unplaced ScsBlockMissing → ReadLeaves (refused_read fault n) r after → ReadLeaves (after_seen seen model s n) r after
  loads_missing fault q f h = rw (← e, q) (subst (λ (x : FileFault). ReadLeaves (refused_read x n) r after) f h)

  module _ (q : t ≡ true) (cpu : List ℕ) (ec : cpu ≡ zero_filled 34 (data_of s seen.cpu)) where
    pub loads_mode : (fault : FileFault) → at cpu 26 % 4 ≡ 3 → fault ≡ unplaced InterruptMode → ReadLeaves (refused_read fault n) r after → ReadLeaves (after_seen seen model s n) r after
    loads_mode fault m f h = rw (← e, q, ← ec, eq-eqb (at cpu 26 % 4) 3 m) (subst (λ (x : FileFault). ReadLeaves (refused_read x n) r after) f h)

    pub loads_all : (ports memory : List ℕ) (machine : Machine) → (at cpu 26 % 4 ≡ 3 → ⊥) → ports ≡ zero_filled 19 (data_of s seen.ports) → memory ≡ data_of s seen.memory → after ≡ scs_memory model memory
        → machine ≡ scs_machine model cpu ports → r.answer ≡ accepted → r.place ≡ 0 → r.machine ≡ machine → ReadLeaves (after_seen seen model s n) r after
    loads_all ports memory machine m ep ed ea em ra rp rm = rw (← e, q, ← ec, ne_eqb (at cpu 26 % 4) 3 m, ← ep) (record { answer = ra; place = rp; machine = rm ∙ em; memory = ea ∙ ap (scs_memory model) ed })
