-- Contracts of private functions: a reviewer may skip this file.
use Rattle.std.specs.Prelude.{ℕ, ◌-◌, List, ◌++◌, length, take, drop, replicate, ◌≡◌, eqb}
use Rattle.slices.specs.Choose.{choose}
use Rattle.slices.specs.Blank.{blank}
use Rattle.slices.specs.Put.{put}
use Rattle.packed.specs.Packed.{Found, malformed, bytes}
use Rattle.packed.specs.Unpacking.{answer_of}
use Rattle.packed.specs.declared.Unpacked.{Unpacked}
use Rattle.body_v1.specs.Body.{spread}

-- the page at `from` also at `to`
unfoldable pub page_moved : List ℕ → ℕ → ℕ → List ℕ
page_moved area from to = put area to (take 16384 (drop from area))

-- zeros in pages 6 and 7
unfoldable pub top_cleared : List ℕ → List ℕ
top_cleared area = take 98304 area ++ replicate (length area - 98304) 0

-- page 6 at 2 and page 7 at 0, and zeros in their places
unfoldable pub settled : List ℕ → List ℕ
settled area = top_cleared (page_moved (page_moved area 98304 32768) 114688 0)

-- what data that stand for the three pages leave in an area of zeros
abbrev pub pages_from : Found → List ℕ
pages_from (malformed i) = blank 131072
pages_from (bytes xs) = choose (eqb (length xs) 49152) (spread (blank 131072) xs) (blank 131072)

-- the answer, and what is left in an area of n bytes, where n is 131,072
pub record FillsPages (u : Found) (n : ℕ) (r : Unpacked) (after : List ℕ) : Type 0 where
  pub answer : r ≡ answer_of u 49152
  pub memory : n ≡ 131072 → after ≡ pages_from u
