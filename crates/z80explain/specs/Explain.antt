-- Document 02, A3: "A new call takes a .Z80 file, no area, and gives the number, the offset, the block's ordinal from 1 .., and two figures, found
-- and due." Header, blocks and v1 body are refused here by the definitions that reading is made of; which figures each number has is in
-- `numbers/specs/Faults`.
use Rattle.std.specs.Prelude.{ℕ, List, Err}
use Rattle.slices.specs.Blank.{blank}
use Rattle.numbers.specs.declared.FileFault.{FileFault}
use Rattle.numbers.specs.Numbers.{accepted}
use Rattle.header.specs.declared.Head.{Head}
use Rattle.header.specs.declared.Head.TheVariants.{Header}
use Rattle.header.specs.Heads.{head_of}
use Rattle.blocks.specs.Blocks.{BodyResult, body_refused, body_read}
use Rattle.z80read.specs.Read.{memory_into}
use Rattle.z80explain.specs.declared.Explained.{Explained}

-- "a good file gives 0 throughout"
abbrev pub nothing_wrong : Explained
nothing_wrong = record { answer = accepted; place = 0; block = 0; found = 0; due = 0 }

-- all that a fault tells
abbrev pub told : FileFault → Explained
told fault = record { answer = Err fault.why; place = fault.place; block = fault.block; found = fault.found; due = fault.due }

-- what follows the header
abbrev pub told_body : BodyResult → Explained
told_body (body_refused fault) = told fault
told_body (body_read area) = nothing_wrong

-- "Refusals: none of its own": those of the header, then those of what follows it, as into an area of zeros
abbrev pub told_head : Head → List ℕ → Explained
told_head (Head.Refused fault) s = told fault
told_head (Header version model attachment) s = told_body (memory_into version model (blank 131072) s)

-- the file s explained
unfoldable pub explain_of : List ℕ → Explained
explain_of s = told_head (head_of s) s
