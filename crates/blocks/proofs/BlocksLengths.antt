-- How long what is read whole is at most.
use Prim.Native.Nat.{ℕ, zero, suc, ◌+◌, ◌*◌, ◌<◌, ◌≤◌}
use mathlib.Core.Path.{◌≡◌, refl, ap, ◌∙◌}
use mathlib.Core.Bool.{Bool, true, false}
use mathlib.Core.List.{List, [], ◌∷◌}
use native.Mathlib.Omega.{arith}
use native.Mathlib.Nat.{le_of_suc-le-suc, not-suc-le-zero}
use borrow.Author.Tests.{eqb-true, eqb-false}
use lib.Dec.{eqb, ltb}
use lib.ListN.{length, get_or, set, drop, length-drop, length-set}
use lib.Seq.{get_or-drop}
use Rattle.slices.specs.Choose.{choose}
use Rattle.slices.specs.Bytes.{word_at}
use Rattle.slices.specs.Put.{put}
use Rattle.slices.proofs.Chosen.{either}
use Rattle.packed.specs.Packed.{Found, malformed, bytes}
use Rattle.packed.specs.Unpacking.{length_counted}
use Rattle.pages.specs.declared.Model.{Model}
use Rattle.numbers.specs.declared.FileFault.{FileFault}
use Rattle.numbers.specs.Faults.{fault_in, length_fault}
use Rattle.numbers.specs.declared.Refusal.TheVariants.{BlockCut, BlockTwice}
use Rattle.block_pages.specs.declared.Page.{Page}
use Rattle.block_pages.specs.declared.Page.TheVariants.{At, NoPage}
use Rattle.block_read.specs.Block.{Block, refused, brought, size_of, ordinal, page_from, on_page, block_of}
use Rattle.blocks.specs.Blocks.{BodyResult, body_read, after_block, blocks, none_seen, blocks_into}
use Rattle.block_pages.specs.Numbered.{page_of}
use Rattle.block_read.proofs.BlockHeads.{page_small}

-- how many of the flags are not set
left : List Bool → ℕ
left [] = 0
left (b ∷ l) = choose b (left l) (suc (left l))

left_set : (l : List Bool) (p : ℕ) → p < length l → get_or l p false ≡ false → left l ≡ suc (left (set l p true))
unfolding left
left_set [] p h e = absurd (not-suc-le-zero h)
left_set (b ∷ l) zero h e = rw e
left_set (true ∷ l) (suc p) h e = left_set l p (le_of_suc-le-suc h) e
left_set (false ∷ l) (suc p) h e = ap suc (left_set l p (le_of_suc-le-suc h) e)

-- a block that is taken lies on a page that was not seen, and is followed by what stands behind it
module _ (P : Type 0) (seen : List Bool) (place : ℕ) (r a : List ℕ) (f : ℕ → List ℕ → List ℕ → BodyResult)
    (k : (page : ℕ) (xs : List ℕ) → page < 8 → get_or seen page false ≡ false → f page xs r ≡ body_read a → P) where
  past_check : (b : Bool) (fault : FileFault) (x : Block) → (b ≡ false → after_block x f ≡ body_read a → P) → after_block (choose b (refused fault) x) f ≡ body_read a → P
  past_check true fault x g e = let z : ◌≡◌ {A = ℕ} 0 1 = cc in absurd (omega arith)
  past_check false fault x g e = g refl e

  past_data : (d : Found) (page : ℕ) → page < 8 → get_or seen page false ≡ false → after_block (page_from (ordinal seen) place d page r) f ≡ body_read a → P
  past_data (malformed i) page h c e = let z : ◌≡◌ {A = ℕ} 0 1 = cc in absurd (omega arith)
  past_data (bytes xs) page h c e = go (eqb (length xs) 16384) e
    where
      go : (b : Bool) → after_block (choose b (brought page xs r) (refused (length_fault (ordinal seen) place (length_counted (length xs)) 16384))) f ≡ body_read a → P
      go true q = k page xs h c q
      go false q = let z : ◌≡◌ {A = ℕ} 0 1 = cc in absurd (omega arith)

  past_number : (model : Model) (n : ℕ) (p : Page) (d : Found) → p ≡ page_of model n → after_block (on_page place p seen d r) f ≡ body_read a → P
  past_number model n NoPage d q e = let z : ◌≡◌ {A = ℕ} 0 1 = cc in absurd (omega arith)
  past_number model n (At p) d q e = past_check (get_or seen p false) (fault_in (ordinal seen) place BlockTwice) (page_from (ordinal seen) place d p r) (past_data d p (page_small model n (At p) p q refl)) e

  past_block : (model : Model) (s : List ℕ) → r ≡ drop (3 + size_of (word_at s 0)) s → after_block (block_of model seen place s) f ≡ body_read a → P
  unfolding block_of
  past_block model s q e =
      past_check (ltb (length s) 3) (fault_in (ordinal seen) place BlockCut) _ (λ t. past_check (ltb (length s) (3 + size_of (word_at s 0))) (fault_in (ordinal seen) place BlockCut) _ (λ t. past_number model (get_or s 2 0) (page_of model (get_or s 2 0)) _ refl))
      (rw (← q) at e)

size_most : (s : List ℕ) → ((i : ℕ) → get_or s i 0 < 256) → size_of (word_at s 0) ≤ 65534
size_most s w =
    either (λ (n : ℕ). n ≤ 65534) (eqb (word_at s 0) 65535) 16384 (word_at s 0) (λ e. omega arith)
    (λ e. omega (arith, eqb-false (word_at s 0) 65535 e, w 0, w 1))

all_most : (model : Model) (turns : ℕ) (seen : List Bool) (area : List ℕ) (place : ℕ) (s a : List ℕ) → ((i : ℕ) → get_or s i 0 < 256) → length seen ≡ 8 → length s ≤ turns
    → blocks model turns seen area place s ≡ body_read a → length s ≤ 65537 * left seen
unfolding blocks
all_most model zero seen area place s a w l t e = omega arith
all_most model (suc turns) seen area place s a w l t e =
    let k = 3 + size_of (word_at s 0) in
    either (λ (x : BodyResult). x ≡ body_read a → length s ≤ 65537 * left seen) (eqb (length s) 0) _ _ (λ z q. omega (arith, eqb-true (length s) 0 z))
    (λ z. past_block (length s ≤ 65537 * left seen) seen place (drop k s) a _
    (λ page xs h c q.
    let ih = all_most model turns (set seen page true) (put area (page * 16384) xs) _ (drop k s) a (λ i. rw (get_or-drop k s i 0) (w (k + i)))
    (length-set seen page true ∙ l) (omega (arith, length-drop k s, eqb-false (length s) 0 z)) q in
    omega (arith, size_most s w, length-drop k s, left_set seen page (omega arith) c)) model s refl) e

-- eight blocks at most, no page coming twice, of 3 + 65,534 bytes at most
pub blocks_most : (model : Model) (area : List ℕ) (place : ℕ) (s a : List ℕ) → ((i : ℕ) → get_or s i 0 < 256) → blocks_into model area place s ≡ body_read a → length s ≤ 524296
unfolding blocks_into left
blocks_most model area place s a w e = omega (arith, all_most model (length s) none_seen area place s a w refl (omega arith) e)
