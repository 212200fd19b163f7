-- The head at a place of the file, at each return of `head_at`, and what it tells of the block there: `head_at` and `block_of` with their tests put in.
-- The returns of `fill_page`.
use Prim.Native.Nat.{ℕ, ◌+◌, ◌-◌, ◌*◌, ◌<◌, ◌≤◌}
use mathlib.Core.Path.{◌≡◌, refl, sym, ap, subst, ◌∙◌}
use mathlib.Core.Bool.{Bool, true, false}
use mathlib.Core.List.{List}
use native.Mathlib.Omega.{arith}
use lib.Dec.{eqb, ltb}
use lib.ListN.{length, get_or, take, drop, replicate, length-drop}
use lib.Seq.{get_or-drop, drop-drop}
use borrow.Author.Tests.{lt-ltb, le-ltb, ltb-true, ltb-false, eq-eqb, ne_eqb}
use Rattle.slices.specs.Choose.{choose}
use Rattle.packed.specs.Packed.{unpacked}
use Rattle.packed.specs.Unpacking.{Unpacks, length_counted, answer_of}
use Rattle.packed.specs.declared.Unpacked.{Unpacked}
use Rattle.packed.specs.declared.Unpacked.TheVariants.{Good, WrongLength}
use Rattle.pages.specs.declared.Model.{Model}
use Rattle.numbers.specs.declared.Refusal.TheVariants.{BlockCut, BlockNumber, BlockTwice}
use Rattle.numbers.specs.Faults.{fault_in}
use Rattle.pages.proofs.PageSteps.{owned_small}
use Rattle.block_pages.specs.declared.Page.{Page}
use Rattle.block_pages.specs.declared.Page.TheVariants.{At, NoPage}
use Rattle.slices.specs.Bytes.{word_at}
use Rattle.block_read.specs.declared.BlockHead.{BlockHead}
use Rattle.block_read.specs.declared.BlockHead.TheVariants.{Bad, Data}
use Rattle.block_read.specs.Block.{refused, size_of, contents, ordinal, on_page, page_from, block_of}
use Rattle.block_pages.specs.Numbered.{page_of}
use Rattle.block_pages.proofs.BlockNumbers.{page_owned}
use Rattle.block_read.specs.Inner.{Fills, head_on, head_at, Refuses}

-- the block at a place is what the file's bytes from start to end give for a page
pub record BlockAt (model : Model) (seen : List Bool) (file : List ℕ) (at page start end : ℕ) (plain : Bool) : Type 0 where
  pub block : block_of model seen at (drop at file) ≡ page_from (ordinal seen) at (contents plain (take (end - start) (drop start file))) page (drop end file)
  pub page_small : page < 8
  pub behind : start ≡ at + 3
  pub ordered : start ≤ end
  pub within : end ≤ length file

abbrev pub HeadSays : Model → List Bool → List ℕ → ℕ → BlockHead → Type 0
HeadSays model seen file at (Bad why) = Refuses model seen file at (fault_in (ordinal seen) at why)
HeadSays model seen file at (Data page start end plain) = BlockAt model seen file at page start end plain

pub page_small : (k : Model) (n : ℕ) (f : Page) (p : ℕ) → f ≡ page_of k n → f ≡ At p → p < 8
page_small k n f p e h = owned_small k p (page_owned k n p (sym e ∙ h))

word_drop : (file : List ℕ) (at : ℕ) → word_at (drop at file) 0 ≡ word_at file at
word_drop file at =
    let z : at + 0 ≡ at = omega arith in
    rw (get_or-drop at file 0 0, get_or-drop at file 1 0, z)

module _ (model : Model) (seen : List Bool) (file : List ℕ) (at : ℕ) where
  pub head_short : length file - at < 3 → Bad BlockCut ≡ head_at model seen file at
  unfolding head_at
  head_short h = rw (lt-ltb _ _ h)

  module _ (n size : ℕ) (h : 3 ≤ length file - at) (en : n ≡ get_or file at 0 + 256 * get_or file (at + 1) 0) (es : size ≡ size_of n) where
    pub head_cut : length file - at - 3 < size → Bad BlockCut ≡ head_at model seen file at
    unfolding head_at
    head_cut l = rw (le-ltb _ _ h, ← en, ← es, lt-ltb _ _ l)

    head_opened : size ≤ length file - at - 3
        → head_at model seen file at ≡ head_on (page_of model (get_or file (at + 2) 0)) seen (at + 3) (at + 3 + size) (eqb n 65535)
    unfolding head_at
    head_opened l = rw (le-ltb _ _ h, ← en, ← es, le-ltb _ _ l)

    pub head_nowhere : (f : Page) → size ≤ length file - at - 3 → f ≡ page_of model (get_or file (at + 2) 0) → f ≡ NoPage → Bad BlockNumber ≡ head_at model seen file at
    head_nowhere f g e z = sym (head_opened g ∙ rw (← e, z))

    pub head_twice : (f : Page) (p : ℕ) → size ≤ length file - at - 3 → f ≡ page_of model (get_or file (at + 2) 0) → f ≡ At p → get_or seen p false ≡ true → Bad BlockTwice ≡ head_at model seen file at
    head_twice f p g e z s = sym (head_opened g ∙ rw (← e, z, s))

    pub head_data : (f : Page) (p : ℕ) → size ≤ length file - at - 3 → f ≡ page_of model (get_or file (at + 2) 0) → f ≡ At p → get_or seen p false ≡ false
        → Data p (at + 3) (at + 3 + size) (eqb n 65535) ≡ head_at model seen file at
    head_data f p g e z s = sym (head_opened g ∙ rw (← e, z, s))

  -- the block, with the file's own bytes in its tests
  block_tests : block_of model seen at (drop at file)
      ≡ choose (ltb (length file - at) 3) (refused (fault_in (ordinal seen) at BlockCut))
      (choose (ltb (length file - at) (3 + size_of (word_at file at))) (refused (fault_in (ordinal seen) at BlockCut))
      (on_page at (page_of model (get_or file (at + 2) 0)) seen
      (contents (eqb (word_at file at) 65535) (take (size_of (word_at file at)) (drop (at + 3) file)))
      (drop (at + (3 + size_of (word_at file at))) file)))
  unfolding block_of
  block_tests = rw (length-drop at file, word_drop file at, get_or-drop at file 2 0, drop-drop 3 at file, drop-drop (3 + size_of (word_at file at)) at file)

  -- what the head tells of the block
  pub head_says : (r : BlockHead) → at < length file → r ≡ head_at model seen file at → HeadSays model seen file at r
  unfolding head_at
  head_says r l e = subst (HeadSays model seen file at) (sym e) (first (ltb (length file - at) 3) refl)
    where
      size : ℕ
      size = size_of (word_at file at)

      there : BlockHead
      there = head_on (page_of model (get_or file (at + 2) 0)) seen (at + 3) (at + 3 + size) (eqb (word_at file at) 65535)

      third : 3 ≤ length file - at → ltb (length file - at) (3 + size) ≡ false → (f : Page) → page_of model (get_or file (at + 2) 0) ≡ f
          → HeadSays model seen file at (head_on f seen (at + 3) (at + 3 + size) (eqb (word_at file at) 65535))
      third h g NoPage q = record { block = block_tests ∙ rw (le-ltb _ _ h, g, q) }
      third h g (At p) q = go (get_or seen p false) refl
        where
          go : (b : Bool) → get_or seen p false ≡ b → HeadSays model seen file at (choose b (Bad BlockTwice) (Data p (at + 3) (at + 3 + size) (eqb (word_at file at) 65535)))
          go true s = record { block = block_tests ∙ rw (le-ltb _ _ h, g, q, s) }
          go false s =
              let a : at + (3 + size) ≡ at + 3 + size = omega arith in
              let b : at + 3 + size - (at + 3) ≡ size = omega arith in
              record {
                block = block_tests ∙ rw (le-ltb _ _ h, g, q, s, a, b);
                page_small = page_small model _ (At p) p (sym q) refl;
                behind = refl;
                ordered = omega arith;
                within = omega (arith, ltb-false (length file - at) (3 + size) g);
              }

      second : 3 ≤ length file - at → (b : Bool) → ltb (length file - at - 3) size ≡ b → HeadSays model seen file at (choose b (Bad BlockCut) there)
      second h true t = let g : length file - at - 3 < size = ltb-true _ _ t in record { block = block_tests ∙ rw (le-ltb _ _ h, lt-ltb (length file - at) (3 + size) (omega arith)) }
      second h false t =
          let g : size ≤ length file - at - 3 = ltb-false _ _ t in
          third h (le-ltb (length file - at) (3 + size) (omega arith)) (page_of model (get_or file (at + 2) 0)) refl

      first : (b : Bool) → ltb (length file - at) 3 ≡ b → HeadSays model seen file at (choose b (Bad BlockCut) (choose (ltb (length file - at - 3) size) (Bad BlockCut) there))
      first true t = record { block = block_tests ∙ rw t }
      first false t = second (ltb-false _ _ t) (ltb (length file - at - 3) size) refl

-- the answers of `would_fill`, and of `fill_page` with the page that is left
module _ (plain : Bool) (src : List ℕ) (due : ℕ) where
  pub would_plain : plain ≡ true → length src ≡ due → Good ≡ answer_of (contents plain src) due
  would_plain e l = rw (e, eq-eqb _ _ l)

  pub would_other : (n : ℕ) → plain ≡ true → (length src ≡ due → ⊥) → n ≡ length_counted (length src) → WrongLength n ≡ answer_of (contents plain src) due
  would_other n e l c = rw (e, ne_eqb _ _ l) (ap WrongLength c)

  pub would_packed : (r : Unpacked) → plain ≡ false → r ≡ answer_of (unpacked src) due → r ≡ answer_of (contents plain src) due
  would_packed r e q = rw e q

pub fills_plain : (plain : Bool) (src before after : List ℕ) → plain ≡ true → length src ≡ length before
    → after ≡ src → Fills plain src before after Good
fills_plain plain src before after e l q =
    record {
      answer = would_plain plain src (length before) e l;
      memory = rw (e, eq-eqb _ _ l) q;
    }

pub fills_other : (plain : Bool) (src before after : List ℕ) (n : ℕ) → plain ≡ true → (length src ≡ length before → ⊥) → n ≡ length_counted (length src)
    → after ≡ replicate (length before) 0 → Fills plain src before after (WrongLength n)
fills_other plain src before after n e l c q = record { answer = would_other plain src (length before) n e l c; memory = rw (e, ne_eqb _ _ l) q }

pub fills_packed : (plain : Bool) (src before after : List ℕ) (r : Unpacked) → plain ≡ false → Unpacks (unpacked src) (length before) r after → Fills plain src before after r
fills_packed plain src before after r e u = record { answer = would_packed plain src (length before) r e u.answer; memory = rw e u.memory }
