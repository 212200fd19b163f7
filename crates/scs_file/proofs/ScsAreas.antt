-- The memory that an SCS file gives is clean, and a clean memory comes back.
use Prim.Native.Nat.{ℕ, ◌/◌, ◌<◌}
use native.Mathlib.Omega.{arith}
use mathlib.Core.Path.{◌≡◌, refl, sym, ap, ◌∙◌}
use mathlib.Core.Bool.{Bool, true, false}
use mathlib.Core.List.{List, ◌++◌}
use lib.ListN.{length, get_or, take, drop}
use lib.Seq.{take_at, drop_at, drop-drop, take_all, ext_get_or}
use lib.Dec.{eqb}
use borrow.Author.Tests.{eqb-true, eqb-false, ne_eqb}
use Rattle.slices.specs.Put.{put}
use Rattle.slices.specs.Blank.{blank}
use Rattle.pages.specs.declared.Model.{Model}
use Rattle.pages.specs.declared.Model.TheVariants.{K48, K128}
use Rattle.pages.specs.Pages.{owned, page_in}
use Rattle.pages.proofs.PageSteps.{owned_all}
use Rattle.pages.proofs.Inside.{page_long}
use Rattle.body_v1.specs.Body.{spread}
use Rattle.z80file.specs.Clean.{Clean}
use Rattle.z80file.proofs.CleanAreas.{clean_spread}
use Rattle.z80file.proofs.PagesOfArea.{page_at, put_long, put_here, put_elsewhere, blank_at, blank_long}
use Rattle.scs_blocks.specs.ScsBlocks.{zero_filled}
use Rattle.scs_blocks.proofs.ScsFilled.{filled_long, filled_whole}
use Rattle.scs_memory.specs.ScsMemory.{scs_memory, scs_data}
use Rattle.scs_memory.proofs.ScsLengths.{data_long}

-- a 128K machine owns every page
clean_128 : (area : List ℕ) → length area ≡ 131072 → Clean K128 area
clean_128 area l =
    record {
      long = l;
      clear = λ i h e.
          let z : true ≡ false = owned_all K128 (i / 16384) refl (omega arith) ∙ e in
          let w : ◌≡◌ {A = ℕ} 0 1 = cc in
          absurd (omega arith);
    }

pub clean_scs_memory : (model : Model) (xs : List ℕ) → Clean model (scs_memory model xs)
unfolding scs_memory
clean_scs_memory K48 xs = clean_spread (zero_filled 49152 xs) (filled_long 49152 xs)
clean_scs_memory K128 xs = clean_128 (zero_filled 131072 xs) (filled_long 131072 xs)

-- the three pages of an area, put over zeros
module _ (area : List ℕ) (s : Clean K48 area) where
  abbrev ram_page : ℕ → List ℕ
  ram_page p = page_in area p

  long : (p : ℕ) → p < 8 → length (ram_page p) ≡ 16384
  long p h = page_long area p s.long h

  abbrev over5 : List ℕ
  over5 = put (blank 131072) 81920 (ram_page 5)

  abbrev over52 : List ℕ
  over52 = put over5 32768 (ram_page 2)

  over5_long : length over5 ≡ 131072
  over5_long = put_long (blank 131072) (ram_page 5) 5 (blank_long 131072) (long 5 (omega arith)) (omega arith)

  over52_long : length over52 ≡ 131072
  over52_long = put_long over5 (ram_page 2) 2 over5_long (long 2 (omega arith)) (omega arith)

  third_long : length (put over52 0 (ram_page 0)) ≡ 131072
  third_long = put_long over52 (ram_page 0) 0 over52_long (long 0 (omega arith)) (omega arith)

  byte_back : (i : ℕ) → i < 131072 → get_or (put over52 0 (ram_page 0)) i 0 ≡ get_or area i 0
  byte_back i h = go (eqb (i / 16384) 0) (eqb (i / 16384) 2) (eqb (i / 16384) 5) refl refl refl
    where
      over0 : (i / 16384 ≡ 0 → ⊥) → get_or (put over52 0 (ram_page 0)) i 0 ≡ get_or over52 i 0
      over0 n = put_elsewhere over52 (ram_page 0) 0 over52_long (long 0 (omega arith)) (omega arith) i n

      over2 : (i / 16384 ≡ 2 → ⊥) → get_or over52 i 0 ≡ get_or over5 i 0
      over2 n = put_elsewhere over5 (ram_page 2) 2 over5_long (long 2 (omega arith)) (omega arith) i n

      go : (a b c : Bool) → eqb (i / 16384) 0 ≡ a → eqb (i / 16384) 2 ≡ b → eqb (i / 16384) 5 ≡ c → get_or (put over52 0 (ram_page 0)) i 0 ≡ get_or area i 0
      go true b c ea eb ec =
          let q = eqb-true (i / 16384) 0 ea in
          put_here over52 (ram_page 0) 0 over52_long (long 0 (omega arith)) (omega arith) i q ∙ page_at area 0 i q
      go false true c ea eb ec =
          let q = eqb-true (i / 16384) 2 eb in
          over0 (eqb-false _ _ ea) ∙ put_here over5 (ram_page 2) 2 over5_long (long 2 (omega arith)) (omega arith) i q ∙ page_at area 2 i q
      go false false true ea eb ec =
          let q = eqb-true (i / 16384) 5 ec in
          over0 (eqb-false _ _ ea) ∙ over2 (eqb-false _ _ eb)
          ∙ put_here (blank 131072) (ram_page 5) 5 (blank_long 131072) (long 5 (omega arith)) (omega arith) i q ∙ page_at area 5 i q
      go false false false ea eb ec =
          let n0 = eqb-false (i / 16384) 0 ea in
          let n2 = eqb-false (i / 16384) 2 eb in
          let n5 = eqb-false (i / 16384) 5 ec in
          let o : owned K48 (i / 16384) ≡ false = rw (ne_eqb 2 (i / 16384) (λ e. n2 (sym e)), ne_eqb 0 (i / 16384) (λ e. n0 (sym e)), ne_eqb 5 (i / 16384) (λ e. n5 (sym e))) in
          over0 n0 ∙ over2 n2 ∙ put_elsewhere (blank 131072) (ram_page 5) 5 (blank_long 131072) (long 5 (omega arith)) (omega arith) i n5
          ∙ blank_at 131072 i h ∙ sym (s.clear i h o)

  pages_back : put over52 0 (ram_page 0) ≡ area
  pages_back = ext_get_or 0 (put over52 0 (ram_page 0)) area (third_long ∙ sym s.long) (λ i h. byte_back i (omega (arith, third_long)))

-- the parts of three pages in a row
three_parts : (p q r : List ℕ) → length p ≡ 16384 → length q ≡ 16384 → length r ≡ 16384
    → (take 16384 (p ++ (q ++ r)) ≡ p) × ((take 16384 (drop 16384 (p ++ (q ++ r))) ≡ q) × (take 16384 (drop 32768 (p ++ (q ++ r))) ≡ r))
three_parts p q r lp lq lr =
    let d : drop 16384 (p ++ (q ++ r)) ≡ q ++ r = drop_at p (q ++ r) 16384 lp in (
      take_at p (q ++ r) 16384 lp,
      (
        ap (take 16384) d ∙ take_at q r 16384 lq,
        ap (take 16384) (sym (drop-drop 16384 16384 (p ++ (q ++ r))) ∙ ap (drop 16384) d ∙ drop_at q r 16384 lq) ∙ take_all 16384 r (omega arith),
      ),
    )

spread_of : (xs : List ℕ) {a b c : List ℕ} → take 16384 xs ≡ a → take 16384 (drop 16384 xs) ≡ b → take 16384 (drop 32768 xs) ≡ c
    → spread (blank 131072) xs ≡ put (put (put (blank 131072) 81920 a) 32768 b) 0 c
unfolding spread
spread_of xs p q r = rw (p, q, r)

pub memory_back : (model : Model) (area : List ℕ) → Clean model area → scs_memory model (scs_data model area) ≡ area
unfolding scs_memory scs_data
memory_back K48 area s =
    let xs = scs_data K48 area in
    let p = three_parts (page_in area 5) (page_in area 2) (page_in area 0) (long area s 5 (omega arith)) (long area s 2 (omega arith)) (long area s 0 (omega arith)) in
    ap (spread (blank 131072)) (filled_whole 49152 xs (data_long K48 area s.long))
    ∙ spread_of xs p.0 p.1.0 p.1.1
    ∙ pages_back area s
memory_back K128 area s = filled_whole 131072 area s.long
