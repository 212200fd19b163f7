-- What reading accepts is clean: pages that the machine does not own are zero, in every version.
use Prim.Native.Nat.{ℕ, zero, suc, ◌+◌, ◌-◌, ◌*◌, ◌/◌, ◌<◌, ◌≤◌}
use mathlib.Core.Path.{◌≡◌, refl, sym, ap, ◌∙◌}
use mathlib.Core.Bool.{Bool, true, false}
use mathlib.Core.List.{List}
use native.Mathlib.Omega.{arith}
use borrow.Author.Tests.{eqb-true}
use lib.Dec.{eqb, ltb}
use lib.ListN.{length, get_or, set, take, drop, length-drop, length-take}
use Rattle.slices.specs.Choose.{choose}
use Rattle.slices.specs.Bytes.{word_at}
use Rattle.slices.specs.Put.{put}
use Rattle.slices.specs.Blank.{blank}
use Rattle.packed.specs.Packed.{Found, malformed, unpacked, bytes}
use Rattle.packed.specs.Unpacking.{length_counted}
use Rattle.pages.specs.declared.Model.{Model}
use Rattle.pages.specs.declared.Model.TheVariants.{K48}
use Rattle.numbers.specs.declared.FileFault.{FileFault}
use Rattle.numbers.specs.Faults.{fault_in, length_fault, missing}
use Rattle.numbers.specs.declared.Refusal.TheVariants.{BlockCut, BlockTwice, EndMarker}
use Rattle.pages.specs.Pages.{owned}
use Rattle.block_pages.specs.declared.Page.{Page}
use Rattle.block_pages.specs.declared.Page.TheVariants.{At, NoPage}
use Rattle.block_read.specs.Block.{Block, refused, brought, size_of, contents, ordinal, page_from, on_page, block_of}
use Rattle.blocks.specs.Blocks.{BodyResult, body_refused, body_read, after_block, finished, blocks, none_seen, blocks_into}
use Rattle.block_pages.specs.Numbered.{page_of, all_there, pages_seen, pages_due}
use Rattle.pages.proofs.PageSteps.{owned_small}
use Rattle.block_pages.proofs.BlockNumbers.{page_owned}
use Rattle.blocks.proofs.BlocksSoFar.{blocks_onward}
use Rattle.body_v1.specs.Body.{spread, spread_from, marked, body_into}
use Rattle.z80file.specs.Clean.{Clean}
use Rattle.z80file.proofs.PagesOfArea.{put_long, put_elsewhere, blank_at, blank_long}

abbrev OwnedBlock : Model → Block → Type 0
OwnedBlock model (refused fault) = Unit {0}
OwnedBlock model (brought page xs rest) = (owned model page ≡ true) × ((page < 8) × (length xs ≡ 16384))

-- an area that is given is clean
abbrev pub CleanBody : Model → BodyResult → Type 0
CleanBody model (body_refused fault) = Unit {0}
CleanBody model (body_read a) = Clean model a

owned_refuse : (model : Model) (b : Bool) (fault : FileFault) (x : Block) → OwnedBlock model x → OwnedBlock model (choose b (refused fault) x)
owned_refuse model true fault x g = tt
owned_refuse model false fault x g = g

owned_data : (model : Model) (block place : ℕ) (d : Found) (page : ℕ) (rest : List ℕ) → owned model page ≡ true → page < 8 → OwnedBlock model (page_from block place d page rest)
owned_data model block place (malformed i) page rest o h = tt
owned_data model block place (bytes xs) page rest o h = go (eqb (length xs) 16384) refl
  where
    go : (b : Bool) → eqb (length xs) 16384 ≡ b → OwnedBlock model (choose b (brought page xs rest) (refused (length_fault block place (length_counted (length xs)) 16384)))
    go true e = (o, (h, eqb-true _ _ e))
    go false e = tt

pub owned_page : (model : Model) (n p : ℕ) → page_of model n ≡ At p → (owned model p ≡ true) × (p < 8)
owned_page model n p e = let o = page_owned model n p e in (o, owned_small model p o)

owned_on : (model : Model) (place n : ℕ) (f : Page) (seen : List Bool) (d : Found) (r : List ℕ) → page_of model n ≡ f → OwnedBlock model (on_page place f seen d r)
owned_on model place n NoPage seen d r e = tt
owned_on model place n (At p) seen d r e =
    let o = owned_page model n p e in
    owned_refuse model (get_or seen p false) (fault_in (ordinal seen) place BlockTwice) (page_from (ordinal seen) place d p r) (owned_data model (ordinal seen) place d p r o.0 o.1)

owned_block : (model : Model) (seen : List Bool) (place : ℕ) (s : List ℕ) → OwnedBlock model (block_of model seen place s)
unfolding block_of
owned_block model seen place s =
    let size = size_of (word_at s 0) in
    let body = contents (eqb (word_at s 0) 65535) (take size (drop 3 s)) in
    let cut = fault_in (ordinal seen) place BlockCut in
    let on = on_page place (page_of model (get_or s 2 0)) seen body (drop (3 + size) s) in
    owned_refuse model (ltb (length s) 3) cut (choose (ltb (length s) (3 + size)) (refused cut) on)
    (owned_refuse model (ltb (length s) (3 + size)) cut on (owned_on model place (get_or s 2 0) (page_of model (get_or s 2 0)) seen body (drop (3 + size) s) refl))

clean_put : (model : Model) (a xs : List ℕ) (page : ℕ) → Clean model a → owned model page ≡ true → page < 8 → length xs ≡ 16384 → Clean model (put a (page * 16384) xs)
clean_put model a xs page s o h l =
    record {
      long = put_long a xs page s.long l h;
      clear = λ i hi e. put_elsewhere a xs page s.long l h i (λ q. differ i q e) ∙ s.clear i hi e;
    }
  where
    differ : (i : ℕ) → i / 16384 ≡ page → owned model (i / 16384) ≡ false → ⊥
    differ i q e =
        let w : true ≡ false = sym o ∙ ap (owned model) (sym q) ∙ e in
        let z : ◌≡◌ {A = ℕ} 0 1 = cc in omega arith

clean_choose : (model : Model) (b : Bool) (x y : BodyResult) → CleanBody model x → CleanBody model y → CleanBody model (choose b x y)
clean_choose model true x y g h = g
clean_choose model false x y g h = h

clean_finished : (model : Model) (seen : List Bool) (a : List ℕ) → Clean model a → CleanBody model (finished model seen a)
clean_finished model seen a s = clean_choose model (all_there model seen) (body_read a) (body_refused (missing (pages_seen seen) (pages_due model))) s tt

clean_then : (model : Model) (x : Block) (f : ℕ → List ℕ → List ℕ → BodyResult) → OwnedBlock model x
    → ((page : ℕ) (xs rest : List ℕ) → owned model page ≡ true → page < 8 → length xs ≡ 16384 → CleanBody model (f page xs rest)) → CleanBody model (after_block x f)
clean_then model (refused fault) f g k = tt
clean_then model (brought page xs rest) f g k = k page xs rest g.0 g.1.0 g.1.1

clean_turns : (model : Model) (turns : ℕ) (seen : List Bool) (a : List ℕ) (place : ℕ) (s : List ℕ) → Clean model a → CleanBody model (blocks model turns seen a place s)
unfolding blocks
clean_turns model zero seen a place s k = clean_finished model seen a k
clean_turns model (suc turns) seen a place s k =
    let on = blocks_onward model turns seen a place s in
    clean_choose model (eqb (length s) 0) (finished model seen a) (after_block (block_of model seen place s) on) (clean_finished model seen a k)
    (clean_then model (block_of model seen place s) on (owned_block model seen place s)
    (λ page xs rest o h l. clean_turns model turns (set seen page true) (put a (page * 16384) xs) (place + (length s - length rest)) rest (clean_put model a xs page k o h l)))

pub clean_blank : (model : Model) → Clean model (blank 131072)
clean_blank model = record { long = blank_long 131072; clear = λ i h e. blank_at 131072 i h }

pub clean_blocks : (model : Model) (place : ℕ) (s : List ℕ) → CleanBody model (blocks_into model (blank 131072) place s)
unfolding blocks_into
clean_blocks model place s = clean_turns model (length s) none_seen (blank 131072) place s (clean_blank model)

-- v1: pages 5, 2 and 0 of a 48K machine
clean_part : (area xs : List ℕ) (page k : ℕ) → length xs ≡ 49152 → Clean K48 area → owned K48 page ≡ true → page < 8 → k + 16384 ≤ 49152
    → Clean K48 (put area (page * 16384) (take 16384 (drop k xs)))
clean_part area xs page k l c o h g =
    let p : length (take 16384 (drop k xs)) ≡ 16384 = simp (length-take, length-drop) (omega arith) in
    clean_put K48 area (take 16384 (drop k xs)) page c o h p

pub clean_spread : (xs : List ℕ) → length xs ≡ 49152 → Clean K48 (spread (blank 131072) xs)
unfolding spread
clean_spread xs l =
    clean_part _ xs 0 32768 l
    (clean_part _ xs 2 16384 l
    (clean_part (blank 131072) xs 5 0 l (clean_blank K48) refl (omega arith) (omega arith))
    refl (omega arith) (omega arith))
    refl (omega arith) (omega arith)

clean_found : (place : ℕ) (f : Found) → CleanBody K48 (spread_from place f (blank 131072))
clean_found place (malformed i) = tt
clean_found place (bytes xs) = go (eqb (length xs) 49152) refl
  where
    go : (b : Bool) → eqb (length xs) 49152 ≡ b → CleanBody K48 (choose b (body_read (spread (blank 131072) xs)) (body_refused (length_fault 1 place (length_counted (length xs)) 49152)))
    go true e = clean_spread xs (eqb-true _ _ e)
    go false e = tt

pub clean_body : (p : Bool) (place : ℕ) (s : List ℕ) → CleanBody K48 (body_into p (blank 131072) place s)
unfolding body_into
clean_body true place s =
    let u = unpacked (take (length s - 4) s) in
    clean_choose K48 (marked s) (spread_from place u (blank 131072)) (body_refused (fault_in 1 (place + length s) EndMarker)) (clean_found place u) tt
clean_body false place s = clean_found place (bytes s)
