-- The examples P1 to P11 of document 01, as one table under one statement; and packed data of the greatest length.
use Rattle.std.specs.Prelude.{ℕ, zero, suc, ◌≡◌, refl, List, [], ◌∷◌, ◌++◌, map, length, replicate}
use Rattle.std.proofs.Common.{ap}
use Rattle.packed.specs.Packed.{Found, malformed, bytes, unpacked, packed, packed_from}

pub data Example : Type 0 where
  packs : List ℕ → List ℕ → Example
  unpacks : List ℕ → Found → Example

abbrev pub computed : Example → Found
computed (packs xs ys) = bytes (packed xs)
computed (unpacks xs f) = unpacked xs

abbrev pub expected : Example → Found
expected (packs xs ys) = bytes ys
expected (unpacks xs f) = f

unfoldable pub table : List Example
table =
    packs (replicate 5 0) (0xED ∷ 0xED ∷ 5 ∷ 0 ∷ [])  -- P1
    ∷ packs (replicate 4 0) (replicate 4 0)  -- P2
    ∷ packs (0xED ∷ []) (0xED ∷ [])  -- P3
    ∷ packs (0xED ∷ 0xED ∷ []) (0xED ∷ 0xED ∷ 2 ∷ 0xED ∷ [])  -- P4
    ∷ packs (0xED ∷ replicate 6 0) (0xED ∷ 0 ∷ 0xED ∷ 0xED ∷ 5 ∷ 0 ∷ [])  -- P5
    ∷ packs (0xED ∷ replicate 5 0) (0xED ∷ replicate 5 0)  -- P6
    ∷ packs (replicate 256 0x41) (0xED ∷ 0xED ∷ 0xFF ∷ 0x41 ∷ 0x41 ∷ [])  -- P7
    ∷ packs (replicate 256 0xED ++ replicate 7 0) (0xED ∷ 0xED ∷ 0xFF ∷ 0xED ∷ 0xED ∷ 0 ∷ 0xED ∷ 0xED ∷ 6 ∷ 0 ∷ [])  -- P8
    ∷ packs [] []  -- P9
    ∷ unpacks (0xED ∷ 0xED ∷ 1 ∷ 0x41 ∷ []) (bytes (0x41 ∷ []))  -- P10
    ∷ unpacks (0xED ∷ 0xED ∷ 0 ∷ 0x41 ∷ []) (malformed 0)  -- P11
    ∷ unpacks (0xED ∷ 0xED ∷ 3 ∷ []) (malformed 0)  -- P11
    ∷ unpacks (0xED ∷ 0 ∷ 0xED ∷ 0xED ∷ 1 ∷ 0x41 ∷ 0xED ∷ 0xED ∷ 0 ∷ 0xED ∷ 0xED ∷ []) (malformed 6)  -- the first bad code, after two bytes and a code
    ∷ []

pub examples : map computed table ≡ map expected table
unfolding table unpacked packed packed_from
examples = refl

-- n times ED ED 00, and one 00
unfoldable pub worst : ℕ → List ℕ
worst zero = 0 ∷ []
worst (suc n) = 0xED ∷ 0xED ∷ 0 ∷ worst n

-- the bound of 16,384 bytes packed is reached
pub longest : (length (worst 5461) ≡ 16384) × (length (packed (worst 5461)) ≡ 27306)
unfolding worst packed packed_from
longest = (refl, refl)

-- k times ED 00
unfoldable pub mixed : ℕ → List ℕ
mixed zero = []
mixed (suc k) = 0xED ∷ 0 ∷ mixed k

-- it packs to itself, so that packing 16,384 such bytes saves none
pub mixed_packed : (k : ℕ) → packed (mixed k) ≡ mixed k
unfolding mixed packed packed_from
mixed_packed zero = refl
mixed_packed (suc k) = ap (λ (l : List ℕ). 0xED ∷ 0 ∷ l) (mixed_packed k)
