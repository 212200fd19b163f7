-- "v1 body: unpacked, exactly 49,152 bytes (4000 upwards); packed, the last four bytes are 00 ED ED 00 and what stands before
-- them unpacks to 49,152."
use Rattle.std.specs.Prelude.{ℕ, ◌+◌, ◌-◌, Bool, true, false, List, [], ◌∷◌, length, take, drop, eqb}
use Rattle.slices.specs.Choose.{choose}
use Rattle.slices.specs.Same.{same}
use Rattle.slices.specs.Put.{put}
use Rattle.packed.specs.Packed.{Found, malformed, bytes, unpacked}
use Rattle.packed.specs.Unpacking.{length_counted}
use Rattle.numbers.specs.declared.Refusal.TheVariants.{MalformedData, EndMarker}
use Rattle.numbers.specs.Faults.{fault_in, length_fault}
use Rattle.blocks.specs.Blocks.{BodyResult, body_refused, body_read}

-- 4000-7FFF is page 5, 8000-BFFF page 2, C000-FFFF page 0
unfoldable pub spread : List ℕ → List ℕ → List ℕ
spread area xs = put (put (put area 81920 (take 16384 xs)) 32768 (take 16384 (drop 16384 xs))) 0 (take 16384 (drop 32768 xs))

-- of a body that stands at a place of the file, "a v1 body is 1": 11 at the bad code, then 12 where the body starts
abbrev pub spread_from : ℕ → Found → List ℕ → BodyResult
spread_from place (malformed i) area = body_refused (fault_in 1 (place + i) MalformedData)
spread_from place (bytes xs) area =
    choose (eqb (length xs) 49152) (body_read (spread area xs)) (body_refused (length_fault 1 place (length_counted (length xs)) 49152))

-- whether the last four bytes are the end marker
abbrev pub marked : List ℕ → Bool
marked s = same (drop (length s - 4) s) (0x00 ∷ 0xED ∷ 0xED ∷ 0x00 ∷ [])

-- a packed body s, from a place to the end of the file, goes 14, where the file ends, 11, 12; a plain one 12
unfoldable pub body_into : Bool → List ℕ → ℕ → List ℕ → BodyResult
body_into true area place s =
    choose (marked s) (spread_from place (unpacked (take (length s - 4) s)) area) (body_refused (fault_in 1 (place + length s) EndMarker))
body_into false area place s = spread_from place (bytes s) area
