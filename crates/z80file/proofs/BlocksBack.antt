-- Reading the blocks that the writer lays down gives the area back. Of `packed` only `unpacked_packed` is used.
use Prim.Native.Nat.{ℕ, zero, suc, ◌+◌, ◌-◌, ◌*◌, ◌/◌, ◌%◌, ◌<◌, ◌≤◌}
use mathlib.Core.Path.{◌≡◌, refl, sym, ap, ◌∙◌}
use mathlib.Core.Bool.{Bool, true, false}
use mathlib.Core.List.{List, [], ◌∷◌, ◌++◌}
use native.Mathlib.Omega.{arith}
use borrow.Author.Tests.{le-ltb, ne_eqb, ltb-true, eqb-true, eqb-false}
use lib.Dec.{eqb, ltb}
use lib.ListN.{length, get_or, set, take, drop, length-append, length-set, get_or-replicate}
use lib.Seq.{drop-drop, take_at, drop_at, get_or-set_same, get_or-set_other, ext_get_or}
use Rattle.slices.specs.Choose.{choose}
use Rattle.slices.specs.Bytes.{word_at}
use Rattle.slices.specs.Put.{put}
use Rattle.slices.specs.Blank.{blank}
use Rattle.packed.specs.Packed.{bytes, packed}
use Rattle.packed.proofs.Backs.{unpacked_packed}
use Rattle.pages.specs.declared.Model.{Model}
use Rattle.pages.specs.declared.Model.TheVariants.{K48, K128}
use Rattle.numbers.specs.Faults.{missing}
use Rattle.pages.specs.Pages.{slots, page_among, owned, page_in}
use Rattle.pages.proofs.Inside.{page_long}
use Rattle.block_pages.specs.declared.Page.TheVariants.{At}
use Rattle.block_read.specs.Block.{Block, brought, size_of, contents, on_page, block_of}
use Rattle.blocks.specs.Blocks.{body_read, body_refused, after_block, finished, blocks, none_seen, blocks_into}
use Rattle.block_pages.specs.Numbered.{page_of, all_there, pages_seen, pages_due}
use Rattle.blocks.proofs.BlocksSoFar.{blocks_onward, turn, ended}
use Rattle.pages.specs.declared.Slot.{Slot}
use Rattle.block_write.specs.BlockFor.{block_for}
use Rattle.blocks_write.specs.Laid.{laid}
use Rattle.z80file.specs.Clean.{Clean}
use Rattle.z80file.proofs.PagesOfArea.{page_at, put_long, put_here, put_elsewhere, blank_at, blank_long}

-- the block at the front of a list that holds it whole
front_block : (model : Model) (seen : List Bool) (place : ℕ) (s : List ℕ) (n size : ℕ) → word_at s 0 ≡ n → size ≡ size_of n → 3 + size ≤ length s
    → block_of model seen place s ≡ on_page place (page_of model (get_or s 2 0)) seen (contents (eqb n 65535) (take size (drop 3 s))) (drop (3 + size) s)
unfolding block_of
front_block model seen place s n size en es g =
    rw (le-ltb (length s) 3 (omega arith), en, ← es, le-ltb (length s) (3 + size) g)

-- head, data, rest: what they bring
module _ (model : Model) (seen : List Bool) (place number page : ℕ) (p rest : List ℕ) (f : page_of model number ≡ At page) (u : get_or seen page false ≡ false) (l : length p ≡ 16384) where
  brings_of : (a b n size : ℕ) (d : List ℕ) → a + 256 * b ≡ n → size ≡ size_of n → length d ≡ size → contents (eqb n 65535) d ≡ bytes p
      → block_of model seen place (a ∷ b ∷ number ∷ (d ++ rest)) ≡ brought page p rest
  brings_of a b n size d en es ed ec =
      let s = a ∷ b ∷ number ∷ (d ++ rest) in
      front_block model seen place s n size en es (omega (arith, length-append d rest))
      ∙ rw (← drop-drop size 3 s, f, u, take_at d rest size ed, drop_at d rest size ed, ec, l)

  one_block : block_of model seen place (block_for number p ++ rest) ≡ brought page p rest
  unfolding block_for
  one_block = go (ltb (length (packed p)) 16384) refl
    where
      go : (b : Bool) → ltb (length (packed p)) 16384 ≡ b
          → block_of model seen place (choose b (length (packed p) % 256 ∷ length (packed p) / 256 ∷ number ∷ packed p) (255 ∷ 255 ∷ number ∷ p) ++ rest) ≡ brought page p rest
      go true h =
          let n = length (packed p) in
          let small : n < 16384 = ltb-true n 16384 h in
          let e : eqb n 65535 ≡ false = ne_eqb n 65535 (λ q. omega arith) in
          brings_of (n % 256) (n / 256) n n (packed p) (omega arith) (rw e) refl (rw e (unpacked_packed p))
      go false h = brings_of 255 255 65535 16384 p refl refl l refl

-- where a page was seen the area is the target's, elsewhere it is still zero
abbrev Agree : List ℕ → List Bool → List ℕ → Type 0
Agree a seen t = (i : ℕ) → i < 131072 → get_or a i 0 ≡ get_or (choose (get_or seen (i / 16384) false) t (blank 131072)) i 0

agree_more : (a t : List ℕ) (seen : List Bool) (page : ℕ) → length a ≡ 131072 → length t ≡ 131072 → length seen ≡ 8 → page < 8 → Agree a seen t
    → Agree (put a (page * 16384) (page_in t page)) (set seen page true) t
agree_more a t seen page la lt ls h g i hi = go (eqb (i / 16384) page) refl
  where
    lp : length (page_in t page) ≡ 16384
    lp = page_long t page lt h

    go : (b : Bool) → eqb (i / 16384) page ≡ b
        → get_or (put a (page * 16384) (page_in t page)) i 0 ≡ get_or (choose (get_or (set seen page true) (i / 16384) false) t (blank 131072)) i 0
    go true e =
        let q : i / 16384 ≡ page = eqb-true _ _ e in
        let w : get_or (set seen page true) page false ≡ true = get_or-set_same seen page true false (rw ls h) in
        put_here a (page_in t page) page la lp h i q ∙ page_at t page i q ∙ rw (q, w)
    go false e =
        let q : i / 16384 ≡ page → ⊥ = eqb-false _ _ e in
        put_elsewhere a (page_in t page) page la lp h i q ∙ g i hi ∙ rw (get_or-set_other seen page (i / 16384) true false q)

-- the pages seen after a list of blocks, and that each is of this mode and new
abbrev flags_after : List Bool → List Slot → List Bool
flags_after seen [] = seen
flags_after seen (x ∷ more) = flags_after (set seen x.page true) more

abbrev Fresh : Model → List Bool → List Slot → Type 0
Fresh model seen [] = Unit {0}
Fresh model seen (x ∷ more) = (page_of model x.number ≡ At x.page) × ((get_or seen x.page false ≡ false) × ((x.page < 8) × Fresh model (set seen x.page true) more))

record ReadsBack (model : Model) (turns : ℕ) (seen : List Bool) (a : List ℕ) (place : ℕ) (s : List ℕ) (seen' : List Bool) (t : List ℕ) : Type 0 where
  last : List ℕ
  reading : blocks model turns seen a place s ≡ finished model seen' last
  long : length last ≡ 131072
  agree : Agree last seen' t

block_some : (number : ℕ) (p : List ℕ) → 0 < length (block_for number p)
unfolding block_for
block_some number p = go (ltb (length (packed p)) 16384)
  where
    go : (b : Bool) → 0 < length (choose b (length (packed p) % 256 ∷ length (packed p) / 256 ∷ number ∷ packed p) (255 ∷ 255 ∷ number ∷ p))
    go true = omega arith
    go false = omega arith

longer : (number : ℕ) (p rest : List ℕ) → length rest < length (block_for number p ++ rest)
longer number p rest = omega (arith, length-append (block_for number p) rest, block_some number p)

-- a block before blocks that read
one_more : (model : Model) (turns place number page : ℕ) (seen seen' : List Bool) (a p rest t : List ℕ)
    → page_of model number ≡ At page → get_or seen page false ≡ false → length p ≡ 16384
    → ReadsBack model turns (set seen page true) (put a (page * 16384) p) (place + (length (block_for number p ++ rest) - length rest)) rest seen' t
    → ReadsBack model (suc turns) seen a place (block_for number p ++ rest) seen' t
one_more model turns place number page seen seen' a p rest t f u l r =
    record {
      last = r.last;
      reading =
          turn model turns seen a place (block_for number p ++ rest) (omega (arith, longer number p rest))
          ∙ ap (λ (y : Block). after_block y (blocks_onward model turns seen a place (block_for number p ++ rest))) (one_block model seen place number page p rest f u l)
          ∙ r.reading;
      long = r.long;
      agree = r.agree;
    }

-- by induction over the blocks that are left
laid_read : (model : Model) (t : List ℕ) → length t ≡ 131072 → (more : List Slot) (turns : ℕ) (seen : List Bool) (a : List ℕ) (place : ℕ)
    → length (laid more t) ≤ turns → Fresh model seen more → length seen ≡ 8 → length a ≡ 131072 → Agree a seen t
    → ReadsBack model turns seen a place (laid more t) (flags_after seen more) t
unfolding laid
laid_read model t lt [] turns seen a place h f ls la g = record { last = a; reading = ended model turns seen a place [] refl; long = la; agree = g }
laid_read model t lt (x ∷ more) zero seen a place h f ls la g = absurd (omega (arith, longer x.number (page_in t x.page) (laid more t)))
laid_read model t lt (x ∷ more) (suc turns) seen a place h f ls la g =
    let p = page_in t x.page in
    let k = f.1.1.0 in
    let lp = page_long t x.page lt k in
    one_more model turns place x.number x.page seen _ a p (laid more t) t f.0 f.1.0 lp
    (laid_read model t lt more turns (set seen x.page true) _ _ (omega (arith, longer x.number p (laid more t))) f.1.1.1
    (length-set seen x.page true ∙ ls) (put_long a p x.page la lp k) (agree_more a t seen x.page la lt ls k g))

fresh : (model : Model) → Fresh model none_seen (slots model)
unfolding page_of
fresh K48 = (refl, (refl, (omega arith, (refl, (refl, (omega arith, (refl, (refl, (omega arith, tt)))))))))
fresh K128 = (
  refl,
  (
    refl,
    (
      omega arith,
      (
        refl,
        (
          refl,
          (
            omega arith,
            (
              refl,
              (
                refl,
                (
                  omega arith,
                  (
                    refl,
                    (
                      refl,
                      (
                        omega arith,
                        (refl, (refl, (omega arith, (refl, (refl, (omega arith, (refl, (refl, (omega arith, (refl, (refl, (omega arith, tt)))))))))))),
                      ),
                    ),
                  ),
                ),
              ),
            ),
          ),
        ),
      ),
    ),
  ),
)

-- the pages seen after a table's blocks are its pages
seen_among : (more : List Slot) (seen : List Bool) (page : ℕ) → page < length seen
    → get_or (flags_after seen more) page false ≡ choose (page_among more page) true (get_or seen page false)
seen_among [] seen page h = refl
seen_among (x ∷ more) seen page h =
    seen_among more (set seen x.page true) page (omega (arith, length-set seen x.page true)) ∙ go (eqb x.page page) (page_among more page) refl
  where
    go : (b c : Bool) → eqb x.page page ≡ b
        → choose c true (get_or (set seen x.page true) page false) ≡ choose (choose b true c) true (get_or seen page false)
    go true true e = refl
    go true false e =
        let q : x.page ≡ page = eqb-true _ _ e in
        rw q (get_or-set_same seen page true false h)
    go false true e = refl
    go false false e = get_or-set_other seen x.page page true false (λ q. eqb-false _ _ e (sym q))

abbrev all_slots : Model → List Bool
all_slots model = flags_after none_seen (slots model)

seen_owned : (model : Model) (page : ℕ) → page < 8 → get_or (all_slots model) page false ≡ owned model page
seen_owned model page h =
    seen_among (slots model) none_seen page h ∙ rw (get_or-replicate 8 page false false h) (go (owned model page))
  where
    go : (b : Bool) → choose b true false ≡ b
    go true = refl
    go false = refl

all_slots_there : (model : Model) → all_there model (all_slots model) ≡ true
unfolding all_there
all_slots_there K48 = refl
all_slots_there K128 = refl

agree_blank : (t : List ℕ) → Agree (blank 131072) none_seen t
agree_blank t i h = rw (get_or-replicate 8 (i / 16384) false false (omega arith))

same_area : (model : Model) (t last : List ℕ) → Clean model t → length last ≡ 131072 → Agree last (all_slots model) t → last ≡ t
same_area model t last s l g = ext_get_or 0 last t (l ∙ sym s.long) (λ i h. go i (omega arith) (owned model (i / 16384)) refl)
  where
    go : (i : ℕ) → i < 131072 → (b : Bool) → owned model (i / 16384) ≡ b → get_or last i 0 ≡ get_or t i 0
    go i h true e = g i h ∙ rw (seen_owned model (i / 16384) (omega arith), e)
    go i h false e = g i h ∙ rw (seen_owned model (i / 16384) (omega arith), e) (blank_at 131072 i h ∙ sym (s.clear i h e))

-- the round trip of the blocks
pub blocks_back : (model : Model) (area : List ℕ) (place : ℕ) → Clean model area → blocks_into model (blank 131072) place (laid (slots model) area) ≡ body_read area
unfolding blocks_into
blocks_back model area place s =
    let r = laid_read model area s.long (slots model) (length (laid (slots model) area)) none_seen (blank 131072) place (omega arith) (fresh model) refl (blank_long 131072) (agree_blank area) in
    let e : r.last ≡ area = same_area model area r.last s r.long r.agree in
    r.reading
    ∙ ap (λ (b : Bool). choose b (body_read r.last) (body_refused (missing (pages_seen (all_slots model)) (pages_due model)))) (all_slots_there model)
    ∙ ap body_read e
