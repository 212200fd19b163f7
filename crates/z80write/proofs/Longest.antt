-- How long a file is at most, an area that reaches it, and the two edges: a page of exactly 16,384 packed bytes, and an exact fit.
use Prim.Native.Nat.{ℕ, zero, suc, ◌+◌, ◌-◌, ◌*◌, ◌≤◌, ◌<◌}
use native.Mathlib.Omega.{arith}
use mathlib.Core.Path.{◌≡◌, refl, ap, ◌∙◌}
use mathlib.Core.Bool.{true}
use mathlib.Core.List.{List, [], ◌∷◌, ◌++◌}
use lib.ListN.{length, take, drop, length-append, length-take}
use lib.Seq.{take_at, drop_at}
use Rattle.packed.specs.Packed.{packed}
use Rattle.packed.specs.Packed.Examples.{mixed, mixed_packed}
use Rattle.spectrum.specs.declared.Machine.{Machine}
use Rattle.pages.specs.declared.Model.{Model}
use Rattle.pages.specs.declared.Model.TheVariants.{K48, K128}
use Rattle.numbers.specs.Numbers.{accepted}
use Rattle.pages.specs.declared.Slot.{Slot}
use Rattle.pages.specs.Pages.{slots, page_in}
use Rattle.spectrum.specs.Valid.{valid_of, Typed}
use Rattle.block_write.specs.BlockFor.{block_for}
use Rattle.blocks_write.specs.Laid.{laid}
use Rattle.z80write.specs.Written.{file_of, WriteResult, accepted_write, written_of}
use Rattle.block_write.proofs.BlockWritten.{block_plain, block_most}
use Rattle.z80write.proofs.FileWritten.{file_long, written_fits}

laid_most : (more : List Slot) (area : List ℕ) → length (laid more area) ≤ length more * 16387
unfolding laid
laid_most [] area = omega arith
laid_most (x ∷ more) area =
    let p = page_in area x.page in
    let l : length p ≤ 16384 = omega (arith, length-take 16384 (drop (x.page * 16384) area)) in
    omega (arith, length-append (block_for x.number p) (laid more area), block_most x.number p l, laid_most more area)

slots_few : (model : Model) → length (slots model) ≤ 8
slots_few K48 = omega arith
slots_few K128 = omega arith

-- "the longest file is 86 + 8 * 16,387"
pub file_most : (m : Machine) (area : List ℕ) → Typed m → length (file_of m area) ≤ 131182
file_most m area t = omega (arith, file_long m area t, laid_most (slots m.model) area, slots_few m.model)

-- an output of that length is never too short
pub never_short : (m : Machine) (area : List ℕ) (n : ℕ) → Typed m → valid_of m ≡ true → length area ≡ 131072 → 131182 ≤ n → (written_of m area n).answer ≡ accepted
never_short m area n t v h k = ap (λ (o : WriteResult). o.answer) (written_fits m area n v h (omega (arith, file_most m area t)))

mixed_long : (k : ℕ) → length (mixed k) ≡ 2 * k
unfolding mixed
mixed_long zero = refl
mixed_long (suc k) = omega (arith, mixed_long k)

mixed_more : (j k : ℕ) → mixed (j + k) ≡ mixed j ++ mixed k
unfolding mixed
mixed_more zero k = let e : 0 + k ≡ k = omega arith in ap mixed e
mixed_more (suc j) k = let e : suc j + k ≡ suc (j + k) = omega arith in ap mixed e ∙ ap (λ (l : List ℕ). 237 ∷ 0 ∷ l) (mixed_more j k)

mixed_page : (page : ℕ) → page < 8 → page_in (mixed 65536) page ≡ mixed 8192
mixed_page page h =
    let a : 65536 ≡ page * 8192 + (65536 - page * 8192) = omega arith in
    let b : 65536 - page * 8192 ≡ 8192 + (57344 - page * 8192) = omega arith in
    let x : mixed 65536 ≡ mixed (page * 8192) ++ mixed (65536 - page * 8192) = ap mixed a ∙ mixed_more (page * 8192) (65536 - page * 8192) in
    ap (λ (l : List ℕ). take 16384 (drop (page * 16384) l)) x
    ∙ ap (take 16384) (drop_at (mixed (page * 8192)) (mixed (65536 - page * 8192)) (page * 16384) (mixed_long (page * 8192) ∙ omega arith))
    ∙ ap (take 16384) (ap mixed b ∙ mixed_more 8192 (57344 - page * 8192))
    ∙ take_at (mixed 8192) (mixed (57344 - page * 8192)) 16384 (mixed_long 8192 ∙ omega arith)

-- "shorter than 16,384": a page that packs to exactly 16,384 bytes goes plain
pub exactly_16384 : (number : ℕ) → length (packed (mixed 8192)) ≡ 16384 × block_for number (mixed 8192) ≡ 255 ∷ 255 ∷ number ∷ mixed 8192
exactly_16384 number =
    let e : length (packed (mixed 8192)) ≡ 16384 = ap length (mixed_packed 8192) ∙ mixed_long 8192 in
    (e, block_plain number (mixed 8192) (omega arith))

mixed_block : (number page : ℕ) → page < 8 → length (block_for number (page_in (mixed 65536) page)) ≡ 16387
mixed_block number page h =
    ap (λ (p : List ℕ). length (block_for number p)) (mixed_page page h)
    ∙ ap length (exactly_16384 number).1
    ∙ omega (arith, mixed_long 8192)

abbrev AllSmall : List Slot → Type 0
AllSmall [] = Unit {0}
AllSmall (x ∷ more) = (x.page < 8) × AllSmall more

mixed_laid : (more : List Slot) → AllSmall more → length (laid more (mixed 65536)) ≡ length more * 16387
unfolding laid
mixed_laid [] s = refl
mixed_laid (x ∷ more) s =
    omega (arith, length-append (block_for x.number (page_in (mixed 65536) x.page)) (laid more (mixed 65536)), mixed_block x.number x.page s.0, mixed_laid more s.1)

small : AllSmall (slots K128)
small = (omega arith, (omega arith, (omega arith, (omega arith, (omega arith, (omega arith, (omega arith, (omega arith, tt))))))))

-- an area whose file is that long
pub longest_file : (m : Machine) → Typed m → m.model ≡ K128 → length (mixed 65536) ≡ 131072 × length (file_of m (mixed 65536)) ≡ 131182
longest_file m t k =
    let e : length (laid (slots m.model) (mixed 65536)) ≡ 131096 = ap (λ (model : Model). length (laid (slots model) (mixed 65536))) k ∙ mixed_laid (slots K128) small in
    (mixed_long 65536, omega (arith, file_long m (mixed 65536) t))

-- an exact fit is taken
pub exact_fit : (m : Machine) (area : List ℕ) → valid_of m ≡ true → length area ≡ 131072
    → written_of m area (length (file_of m area)) ≡ accepted_write (file_of m area) (length (file_of m area))
exact_fit m area v h = written_fits m area (length (file_of m area)) v h (omega arith)
