-- Document 01, "Packed data": "blocks to the end of the file, each a two-byte length, a page number, data". One block.
use Rattle.std.specs.Prelude.{ℕ, suc, ◌+◌, Bool, true, false, List, length, get_or, take, drop, eqb, ltb}
use Rattle.slices.specs.Choose.{choose}
use Rattle.slices.specs.Bytes.{word_at}
use Rattle.packed.specs.Packed.{Found, malformed, bytes, unpacked}
use Rattle.packed.specs.Unpacking.{length_counted}
use Rattle.pages.specs.declared.Model.{Model}
use Rattle.numbers.specs.declared.FileFault.{FileFault}
use Rattle.numbers.specs.declared.Refusal.TheVariants.{BlockCut, BlockNumber, BlockTwice, MalformedData}
use Rattle.numbers.specs.Faults.{fault_in, length_fault}
use Rattle.block_pages.specs.declared.Page.{Page}
use Rattle.block_pages.specs.declared.Page.TheVariants.{At, NoPage}
use Rattle.block_pages.specs.Numbered.{page_of, pages_seen}

-- what one block brings: a fault, or a page, its 16,384 bytes and what is left of the file
pub data Block : Type 0 where
  refused : FileFault → Block
  brought : ℕ → List ℕ → List ℕ → Block

-- how many bytes of data the word in a block's head means
abbrev pub size_of : ℕ → ℕ
size_of n = choose (eqb n 65535) 16384 n

-- "Length FFFF means 16,384 bytes as they are."
abbrev pub contents : Bool → List ℕ → Found
contents true body = bytes body
contents false body = unpacked body

-- which block this is, "from 1": the blocks before it were good, and each brought a page
abbrev pub ordinal : List Bool → ℕ
ordinal seen = suc (pages_seen seen)

-- 11 malformed, at the bad code: the data stand behind the three bytes of the head; then 12 wrong unpacked length, at the head
abbrev pub page_from : ℕ → ℕ → Found → ℕ → List ℕ → Block
page_from block place (malformed i) page rest = refused (fault_in block (place + 3 + i) MalformedData)
page_from block place (bytes xs) page rest =
    choose (eqb (length xs) 16384) (brought page xs rest) (refused (length_fault block place (length_counted (length xs)) 16384))

-- 9 a number not of this mode, then 10 twice, both at the head
abbrev pub on_page : ℕ → Page → List Bool → Found → List ℕ → Block
on_page place NoPage seen body rest = refused (fault_in (ordinal seen) place BlockNumber)
on_page place (At page) seen body rest =
    choose (get_or seen page false) (refused (fault_in (ordinal seen) place BlockTwice)) (page_from (ordinal seen) place body page rest)

-- the block at the front of s, whose head stands at a place of the file: 8 the head cut short, 8 the data cut short, 9, 10, 11, 12
unfoldable pub block_of : Model → List Bool → ℕ → List ℕ → Block
block_of model seen place s =
    choose (ltb (length s) 3) (refused (fault_in (ordinal seen) place BlockCut))
    (choose (ltb (length s) (3 + size_of (word_at s 0))) (refused (fault_in (ordinal seen) place BlockCut))
    (on_page place (page_of model (get_or s 2 0)) seen
    (contents (eqb (word_at s 0) 65535) (take (size_of (word_at s 0)) (drop 3 s)))
    (drop (3 + size_of (word_at s 0)) s)))
