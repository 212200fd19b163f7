-- The pages of an area written out one after the other.
use Prim.Native.Nat.{ℕ, ◌+◌, ◌≤◌}
use native.Mathlib.Omega.{arith}
use mathlib.Core.Path.{◌≡◌, ap}
use mathlib.Core.List.{List, ◌++◌, append_assoc}
use lib.ListN.{length, length-append}
use Rattle.slices.specs.Put.{put}
use Rattle.slices.proofs.Puts.{put-put}
use Rattle.pages.specs.declared.Model.{Model}
use Rattle.pages.specs.declared.Model.TheVariants.{K48, K128}
use Rattle.pages.specs.Pages.{page_in}
use Rattle.pages.proofs.Inside.{page_long}
use Rattle.scs_memory.specs.ScsMemory.{memory_size, scs_data}

-- three pages put one after the other
three_puts : (d p q r : List ℕ) (place : ℕ) → length p ≡ 16384 → length q ≡ 16384 → place + 49152 ≤ length d
    → put (put (put d place p) (place + 16384) q) (place + 32768) r ≡ put d place (p ++ (q ++ r))
three_puts d p q r place hp hq h =
    rw (put-put d p q place (place + 16384) (omega arith) (omega arith), put-put d (p ++ q) r place (place + 32768) (simp length-append (omega arith)) (omega arith))
    (ap (put d place) (append_assoc p q r))

pub stored_48k : (area out a b c : List ℕ) (place : ℕ) → length area ≡ 131072 → place + 49152 ≤ length out
    → a ≡ put out place (page_in area 5) → b ≡ put a (place + 16384) (page_in area 2) → c ≡ put b (place + 32768) (page_in area 0) → c ≡ put out place (scs_data K48 area)
unfolding scs_data
stored_48k area out a b c place l h ha hb hc =
    rw (hc, hb, ha) (three_puts out (page_in area 5) (page_in area 2) (page_in area 0) place (page_long area 5 l (omega arith)) (page_long area 2 l (omega arith)) h)

module _ (model : Model) (area out after : List ℕ) (place : ℕ) where
  pub stores_48 : model ≡ K48 → after ≡ put out place (scs_data K48 area) → after ≡ put out place (scs_data model area)
  stores_48 e h = rw e h

  pub stores_128 : model ≡ K128 → after ≡ put out place area → after ≡ put out place (scs_data model area)
  unfolding scs_data
  stores_128 e h = rw e h

  pub room_48 : model ≡ K48 → place + memory_size model ≤ length out → place + 49152 ≤ length out
  room_48 e h = rw e at h

  pub room_128 : model ≡ K128 → length area ≡ 131072 → place + memory_size model ≤ length out → place + length area ≤ length out
  room_128 e l h = rw l (rw e at h)
