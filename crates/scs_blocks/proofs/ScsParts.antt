-- What was seen of a block by its number, and the bytes that are due of its data: each return of the code.
use Prim.Native.Nat.{ℕ, ◌+◌, ◌-◌, min}
use native.Mathlib.Omega.{arith}
use mathlib.Core.Path.{◌≡◌, sym, ap, ◌∙◌}
use mathlib.Core.Bool.{Bool}
use mathlib.Core.List.{List, [], ◌++◌}
use lib.ListN.{length, take, drop, replicate, length-append, length-take, length-drop}
use lib.Seq.{take_all, take_at}
use borrow.Author.Tests.{ne_eqb}
use Rattle.slices.specs.Choose.{both}
use Rattle.scs_blocks.specs.declared.ScsPart.{ScsPart}
use Rattle.scs_blocks.specs.declared.ScsPart.TheVariants.{Absent, Stands}
use Rattle.scs_blocks.specs.declared.ScsSeen.{ScsSeen}
use Rattle.scs_blocks.specs.ScsBlocks.{is_there, part_of, noted, three_seen, data_of, zero_filled}
use Rattle.scs_blocks.proofs.ScsLeast.{take_least, drop_least}

module _ (seen : ScsSeen) (n : ℕ) where
  pub part_1 : n ≡ 1 → seen.cpu ≡ part_of seen n
  part_1 e = rw e

  pub part_2 : n ≡ 2 → seen.ports ≡ part_of seen n
  part_2 e = rw e

  pub part_3 : n ≡ 3 → seen.memory ≡ part_of seen n
  part_3 e = rw e

  pub no_part : (n ≡ 1 → ⊥) → (n ≡ 2 → ⊥) → (n ≡ 3 → ⊥) → Absent ≡ part_of seen n
  no_part a b c = rw (ne_eqb n 1 a, ne_eqb n 2 b, ne_eqb n 3 c)

  module _ (p : ScsPart) where
    pub note_1 : n ≡ 1 → record { cpu = p; ports = seen.ports; memory = seen.memory } ≡ noted seen n p
    note_1 e = rw e

    pub note_2 : n ≡ 2 → record { cpu = seen.cpu; ports = p; memory = seen.memory } ≡ noted seen n p
    note_2 e = rw e

    pub note_3 : n ≡ 3 → record { cpu = seen.cpu; ports = seen.ports; memory = p } ≡ noted seen n p
    note_3 e = rw e

    pub note_none : (n ≡ 1 → ⊥) → (n ≡ 2 → ⊥) → (n ≡ 3 → ⊥) → seen ≡ noted seen n p
    note_none a b c = rw (ne_eqb n 1 a, ne_eqb n 2 b, ne_eqb n 3 c)

pub seen_all : (seen : ScsSeen) (a b c d r : Bool) → a ≡ is_there seen.cpu → b ≡ is_there seen.ports → c ≡ is_there seen.memory → d ≡ both b c → r ≡ both a d
    → r ≡ three_seen seen
seen_all seen a b c d r ha hb hc hd hr = rw (hr, hd, ha, hb, hc)

-- the data of a part
module _ (s : List ℕ) (p : ScsPart) where
  pub data_none : p ≡ Absent → [] ≡ data_of s p
  data_none e = rw e

  pub data_some : (from size start n : ℕ) → p ≡ Stands from size → start ≡ min from (length s) → n ≡ min size (length s - start) → take (start + n - start) (drop start s) ≡ data_of s p
  data_some from size start n e f g =
      let z : start + n - start ≡ n = omega arith in
      let k : n ≡ min size (length (drop start s)) = g ∙ ap (min size) (sym (length-drop start s)) in
      rw (e, z) (take_least (drop start s) size n k ∙ ap (take size) (drop_least s from start f))

-- the shorter of both lengths copied, and zeros past it
module _ (src dst : List ℕ) (n : ℕ) (e : n ≡ min (length src) (length dst)) where
  abbrev taken : List ℕ
  taken = take (n - 0) (drop 0 src)

  taken_long : length taken ≡ n
  taken_long = simp length-take (omega arith)

  pub filled_is : (part cleared : List ℕ) → part ≡ take n src
      → cleared ≡ take n (part ++ drop n dst) ++ replicate (length (part ++ drop n dst) - n) 0 → cleared ≡ zero_filled (length dst) src
  unfolding zero_filled
  filled_is part cleared p q =
      let copied : List ℕ = part ++ drop n dst in
      let z : n - 0 ≡ n = omega arith in
      let c : copied ≡ taken ++ drop n dst = ap (λ (l : List ℕ). l ++ drop n dst) (p ∙ ap (λ (j : ℕ). take j src) (sym z)) in
      let l : length copied ≡ length dst = ap length c ∙ length-append taken (drop n dst) ∙ omega (arith, taken_long, length-drop n dst) in
      let k : length copied - n ≡ length dst - length src = omega arith in
      q ∙ ap (λ (x : List ℕ). take n x ++ replicate (length copied - n) 0) c
      ∙ ap (λ (x : List ℕ). x ++ replicate (length copied - n) 0) (take_at taken (drop n dst) n taken_long ∙ ap (λ (j : ℕ). take j src) z ∙ take_least src (length dst) n (omega arith))
      ∙ ap (λ (j : ℕ). take (length dst) src ++ replicate j 0) k
