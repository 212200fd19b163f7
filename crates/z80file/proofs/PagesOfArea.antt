-- The bytes of an area by pages: with a page put over it, and of zeros.
use Prim.Native.Nat.{ℕ, ◌+◌, ◌-◌, ◌*◌, ◌/◌, ◌%◌, ◌<◌, ◌≤◌}
use mathlib.Core.Path.{◌≡◌, refl, sym, ap, ◌∙◌}
use mathlib.Core.Bool.{Bool, true, false}
use mathlib.Core.List.{List}
use native.Mathlib.Omega.{arith}
use borrow.Author.Tests.{ltb-true, ltb-false}
use lib.Dec.{ltb}
use lib.ListN.{length, get_or, drop, length-replicate, get_or-replicate}
use lib.Seq.{get_or-take, get_or-drop}
use Rattle.slices.specs.Put.{put}
use Rattle.slices.proofs.Puts.{length-put, put_in, put_below, put_above}
use Rattle.slices.specs.Blank.{blank}
use Rattle.pages.specs.Pages.{page_in}

in_page : (i page : ℕ) → i / 16384 ≡ page → page * 16384 + i % 16384 ≡ i
in_page i page q = omega arith

in_size : (i : ℕ) → i % 16384 < 16384
in_size i = omega arith

after_page : (i page : ℕ) → (i / 16384 ≡ page → ⊥) → page * 16384 ≤ i → page * 16384 + (16384 + (i - (page * 16384 + 16384))) ≡ i
after_page i page q y = omega arith

-- a byte of an area in its page
pub page_at : (t : List ℕ) (page i : ℕ) → i / 16384 ≡ page → get_or (page_in t page) (i % 16384) 0 ≡ get_or t i 0
page_at t page i q =
    get_or-take 16384 (drop (page * 16384) t) (i % 16384) 0 (in_size i)
    ∙ get_or-drop (page * 16384) t (i % 16384) 0
    ∙ ap (λ (n : ℕ). get_or t n 0) (in_page i page q)

-- a page put into an area: it is there, and no other page changes
module _ (a p : List ℕ) (page : ℕ) (la : length a ≡ 131072) (lp : length p ≡ 16384) (h : page < 8) where
  page_inside : page * 16384 + length p ≤ length a
  page_inside = omega arith

  pub put_long : length (put a (page * 16384) p) ≡ 131072
  put_long = length-put a p (page * 16384) page_inside ∙ la

  pub put_here : (i : ℕ) → i / 16384 ≡ page → get_or (put a (page * 16384) p) i 0 ≡ get_or p (i % 16384) 0
  put_here i q =
      ap (λ (n : ℕ). get_or (put a (page * 16384) p) n 0) (sym (in_page i page q))
      ∙ put_in a p (page * 16384) page_inside (i % 16384) (rw lp (in_size i))

  pub put_elsewhere : (i : ℕ) → (i / 16384 ≡ page → ⊥) → get_or (put a (page * 16384) p) i 0 ≡ get_or a i 0
  put_elsewhere i q = go (ltb i (page * 16384)) refl
    where
      go : (b : Bool) → ltb i (page * 16384) ≡ b → get_or (put a (page * 16384) p) i 0 ≡ get_or a i 0
      go true z = put_below a p (page * 16384) page_inside i (ltb-true _ _ z)
      go false z =
          let j = i - (page * 16384 + 16384) in
          let k : page * 16384 + (length p + j) ≡ i = rw lp (after_page i page q (ltb-false _ _ z)) in
          let k2 : page * 16384 + length p + j ≡ i = omega (arith, k) in
          ap (λ (n : ℕ). get_or (put a (page * 16384) p) n 0) (sym k)
          ∙ put_above a p (page * 16384) page_inside j
          ∙ ap (λ (n : ℕ). get_or a n 0) k2

pub blank_at : (n i : ℕ) → i < n → get_or (blank n) i 0 ≡ 0
unfolding blank
blank_at n i h = get_or-replicate n i 0 0 h

pub blank_long : (n : ℕ) → length (blank n) ≡ n
unfolding blank
blank_long n = length-replicate {A = ℕ} n 0
