-- The loop of `lay` over the blocks.
use Prim.Native.Nat.{ℕ, suc, ◌+◌, ◌-◌, ◌*◌, ◌≤◌, ◌<◌, min}
use native.Mathlib.Numerals.{add-one}
use native.Mathlib.Omega.{arith}
use mathlib.Core.Path.{◌≡◌, refl, sym, ap, subst, ◌∙◌}
use mathlib.Core.List.{List, [], ◌∷◌, ◌++◌, append_assoc, append-nil}
use lib.ListN.{length, take, drop, replicate, length-append, drop_of_length-le}
use lib.Seq.{drop-cons, length-take-le, take_at, take-append-add}
use borrow.Rule.Slice.PartMut.{put_mid, mid_of, post_of, mid_len, same_len_mid}
use Rattle.packed.specs.Packing.{Packs}
use Rattle.packed.specs.declared.Fit.{Fit}
use Rattle.packed.specs.declared.Fit.TheVariants.{Length, TooShort}
use Rattle.pages.specs.declared.Model.{Model}
use Rattle.pages.specs.declared.Slot.{Slot}
use Rattle.pages.specs.Pages.{slot, slots, page_in}
use Rattle.pages.proofs.Inside.{page_long}
use Rattle.block_write.specs.BlockFor.{block_for}
use Rattle.block_write.proofs.BlockWritten.{block_most}
use Rattle.block_write.proofs.Fits.{InRoom, OutOfRoom, FitSays, says, packs_stands, packs_over}
use Rattle.blocks_write.specs.Laid.{laid}
use Rattle.blocks_write.specs.Inner.{SlotAt}

-- the first blocks stand in d up to `at`, and those from i on are left
pub record LaidSoFar (model : Model) (area d₀ d : List ℕ) (i at : ℕ) : Type 0 where
  pub few : i ≤ length (slots model)
  pub reach : at ≤ length d
  pub long : length d ≡ length d₀
  pub same : take at d ++ laid (drop i (slots model)) area ≡ laid (slots model) area

pub laid_begin : (model : Model) (area d₀ : List ℕ) → LaidSoFar model area d₀ d₀ 0 0
laid_begin model area d₀ = record { few = omega arith; reach = omega arith; long = refl; same = refl }

laid_cons : (x : Slot) (more : List Slot) (area : List ℕ) → laid (x ∷ more) area ≡ block_for x.number (page_in area x.page) ++ laid more area
unfolding laid
laid_cons x more area = refl

laid_none : (area : List ℕ) → laid [] area ≡ []
unfolding laid
laid_none area = refl

-- the page that is lent
pub page_lent : (area : List ℕ) (page : ℕ) → take (page * 16384 + 16384 - page * 16384) (drop (page * 16384) area) ≡ page_in area page
page_lent area page = let e : page * 16384 + 16384 - page * 16384 ≡ 16384 = omega arith in rw e

module _ (model : Model) (area d₀ d : List ℕ) (i at : ℕ) (g : LaidSoFar model area d₀ d i at) where
  -- the next block
  next_laid : (x : Slot) → SlotAt model i x → i < length (slots model)
      → laid (drop i (slots model)) area ≡ block_for x.number (page_in area x.page) ++ laid (drop (i + 1) (slots model)) area
  next_laid x s h =
      ap (λ (l : List Slot). laid l area) (drop-cons (slots model) i (slot 0 0) h)
      ∙ ap (λ (y : Slot). laid (y ∷ drop (suc i) (slots model)) area) (sym s.which)
      ∙ laid_cons x (drop (suc i) (slots model)) area
      ∙ ap (λ (k : ℕ). block_for x.number (page_in area x.page) ++ laid (drop k (slots model)) area) (sym (add-one i))

  module _ (n : ℕ) (m : n ≡ length (slots model)) (h : i < n) (a : length area ≡ 131072) (x : Slot) (s : SlotAt model i x) (room : ℕ)
      (e : room ≡ min (length d - at) 16387) (r : Fit) (l : List ℕ)
      (w : Packs (block_for x.number (take (x.page * 16384 + 16384 - x.page * 16384) (drop (x.page * 16384) area))) (length (mid_of at (at + room - at) d)) r l) where
    abbrev b : List ℕ
    b = block_for x.number (page_in area x.page)

    block_room : length (mid_of at (at + room - at) d) ≡ room
    block_room = let f = g.reach in mid_len at (at + room) d (omega arith) ∙ (omega arith)

    block_says : FitSays b room r l
    block_says =
        says b room r l
        (subst (λ (k : ℕ). Packs b k r l) block_room (subst (λ (p : List ℕ). Packs (block_for x.number p) (length (mid_of at (at + room - at) d)) r l) (page_lent area x.page) w))

    -- the output then
    abbrev with_block : List ℕ
    with_block = put_mid at (at + room - at) d l

    with_block_long : length l ≡ room → length with_block ≡ length d₀
    with_block_long y = same_len_mid at (at + room - at) d l (y ∙ sym block_room) ∙ g.long

    pub going_room : (k : ℕ) → r ≡ Length k → at + k ≤ length d
    going_room k q = let f : InRoom b room k l = subst (λ (y : Fit). FitSays b room y l) q block_says in omega (arith, f.room, g.reach)

    pub laid_more : (k : ℕ) → r ≡ Length k → LaidSoFar model area d₀ with_block (i + 1) (at + k)
    laid_more k q =
        let f : InRoom b room k l = subst (λ (y : Fit). FitSays b room y l) q block_says in
        let t : length (take at d) ≡ at = length-take-le at d g.reach in
        let rest : List ℕ = replicate (room - length b) 0 in
        let past = post_of at (at + room - at) d in
        let wrote : take (at + k) with_block ≡ take at d ++ b =
        ap (λ (j : ℕ). take (j + k) with_block) (sym t)
        ∙ take-append-add (take at d) (l ++ past) k
        ∙ ap (λ (y : List ℕ). take at d ++ y)
        (ap (λ (y : List ℕ). take k (y ++ past)) f.there ∙ ap (take k) (append_assoc b rest past) ∙ take_at b (rest ++ past) k (sym f.size)) in
        record {
          few = omega arith;
          reach = omega (arith, with_block_long f.long, f.room, g.reach, g.long);
          long = with_block_long f.long;
          same =
              ap (λ (z : List ℕ). z ++ laid (drop (i + 1) (slots model)) area) wrote
              ∙ append_assoc (take at d) b (laid (drop (i + 1) (slots model)) area)
              ∙ ap (λ (z : List ℕ). take at d ++ z) (sym (next_laid x s (omega arith)))
              ∙ g.same;
        }

    pub going_over : r ≡ TooShort → (d' : List ℕ) → d' ≡ replicate (length with_block) 0 → Packs (laid (slots model) area) (length d₀) TooShort d'
    going_over q d' z =
        let f : OutOfRoom b room l = subst (λ (y : Fit). FitSays b room y l) q block_says in
        let t = laid (drop (i + 1) (slots model)) area in
        let a1 = ap length g.same in
        let a2 = length-append (take at d) (laid (drop i (slots model)) area) in
        let a4 = ap length (next_laid x s (omega arith)) in
        let a5 = length-append b t in
        let a6 = length-take-le at d g.reach in
        let most = block_most x.number (page_in area x.page) (omega (arith, page_long area x.page a s.page_small)) in
        packs_over (laid (slots model) area) (length d₀) d' (omega (arith, f.over, g.long, g.reach)) (z ∙ ap (λ (k : ℕ). replicate k 0) (with_block_long f.long))

  pub going_end : (n : ℕ) → n ≡ length (slots model) → n ≤ i → (d' : List ℕ) → d' ≡ take at d ++ replicate (length d - at) 0
      → Packs (laid (slots model) area) (length d₀) (Length at) d'
  going_end n m h d' z =
      let none : drop i (slots model) ≡ [] = drop_of_length-le (slots model) {i = i} (omega arith) in
      let e : take at d ≡ laid (slots model) area =
      sym (append-nil (take at d)) ∙ ap (λ (l : List ℕ). take at d ++ l) (sym (laid_none area) ∙ ap (λ (l : List Slot). laid l area) (sym none)) ∙ g.same in
      let k : at ≡ length (laid (slots model) area) = sym (length-take-le at d g.reach) ∙ ap length e in
      packs_stands (laid (slots model) area) (length d₀) d' at k (omega (arith, g.reach, g.long))
      (z ∙ ap (λ (l : List ℕ). l ++ replicate (length d - at) 0) e ∙ (λ j. laid (slots model) area ++ replicate (g.long j - k j) 0))
