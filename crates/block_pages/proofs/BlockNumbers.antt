-- The page of a block number at each arm of `page_of`, and the pages that must be there: each test is put in.
use Prim.Native.Nat.{ℕ, zero, suc, ◌+◌, ◌-◌, ◌<◌, ◌≤◌}
use native.Mathlib.Nat.{not-suc-le-zero, le_of_suc-le-suc}
use mathlib.Core.Path.{◌≡◌, refl, sym, ap}
use mathlib.Core.Bool.{Bool, true, false}
use mathlib.Core.List.{List, [], ◌∷◌}
use native.Mathlib.Omega.{arith}
use lib.Dec.{eqb}
use lib.ListN.{length, get_or, drop, drop_of_length-le}
use borrow.Author.Tests.{eqb-false, ne_eqb}
use Rattle.slices.specs.Choose.{choose, both}
use Rattle.pages.specs.declared.Model.{Model}
use Rattle.pages.specs.declared.Model.TheVariants.{K48, K128}
use Rattle.pages.specs.declared.Slot.{Slot}
use Rattle.pages.specs.Pages.{slots, page_among, owned}
use Rattle.block_pages.specs.declared.Page.{Page}
use Rattle.block_pages.specs.declared.Page.TheVariants.{At, NoPage}
use Rattle.block_pages.specs.Numbered.{page_numbered, page_of, all_there, pages_seen}

-- a page that has a number is a page of the table
among : (xs : List Slot) (n p : ℕ) → page_numbered xs n ≡ At p → page_among xs p ≡ true
among [] n p e = let z : ◌≡◌ {A = ℕ} 0 1 = cc in absurd (omega arith)
among (x ∷ more) n p e = go (eqb x.number n) (eqb x.page p) refl (among more n p) e
  where
    go : (b c : Bool) → eqb x.page p ≡ c → (page_numbered more n ≡ At p → page_among more p ≡ true) → choose b (At x.page) (page_numbered more n) ≡ At p → choose c true (page_among more p) ≡ true
    go b true h f q = refl
    go true false h f q = absurd (eqb-false x.page p h (cc))
    go false false h f q = f q

pub page_owned : (k : Model) (n p : ℕ) → page_of k n ≡ At p → owned k p ≡ true
unfolding page_of
page_owned k n p e = among (slots k) n p e

pub on_48 : (k : Model) (n m : ℕ) (p : Page) → k ≡ K48 → n ≡ m → p ≡ page_of K48 m → p ≡ page_of k n
on_48 k n m p e h q = rw (e, h) q

pub not_numbered : (k : Model) (n : ℕ) → k ≡ K48 → (n ≡ 4 → ⊥) → (n ≡ 5 → ⊥) → (n ≡ 8 → ⊥) → NoPage ≡ page_of k n
unfolding page_of
not_numbered k n e a b d = rw e (simp (ne_eqb 4 n (λ q. a (sym q)), ne_eqb 5 n (λ q. b (sym q)), ne_eqb 8 n (λ q. d (sym q))))

-- a number outside 3 to 10
outside : (n : ℕ) → ((i : ℕ) → 3 ≤ i → i ≤ 10 → i ≡ n → ⊥) → NoPage ≡ page_of K128 n
unfolding page_of
outside n f =
    simp
    (ne_eqb 3 n (f 3 (omega arith) (omega arith)), ne_eqb 4 n (f 4 (omega arith) (omega arith)), ne_eqb 5 n (f 5 (omega arith) (omega arith)), ne_eqb 6 n (f 6 (omega arith) (omega arith)), ne_eqb 7 n (f 7 (omega arith) (omega arith)), ne_eqb 8 n (f 8 (omega arith) (omega arith)), ne_eqb 9 n (f 9 (omega arith) (omega arith)), ne_eqb 10 n (f 10 (omega arith) (omega arith)))

pub below_numbers : (k : Model) (n : ℕ) → k ≡ K128 → n < 3 → NoPage ≡ page_of k n
below_numbers k n e h = rw e (outside n (λ i a b q. omega arith))

pub above_numbers : (k : Model) (n : ℕ) → k ≡ K128 → 3 ≤ n → 10 < n → NoPage ≡ page_of k n
above_numbers k n e a h = rw e (outside n (λ i b c q. omega arith))

pub between : (k : Model) (n : ℕ) → k ≡ K128 → 3 ≤ n → n ≤ 10 → At (n - 3) ≡ page_of k n
unfolding page_of
between k n e a h = rw e (go n a h)
  where
    go : (n : ℕ) → 3 ≤ n → n ≤ 10 → At (n - 3) ≡ page_of K128 n
    go zero a h = absurd (omega arith)
    go (suc zero) a h = absurd (omega arith)
    go (suc (suc zero)) a h = absurd (omega arith)
    go (suc (suc (suc zero))) a h = refl
    go (suc (suc (suc (suc zero)))) a h = refl
    go (suc (suc (suc (suc (suc zero))))) a h = refl
    go (suc (suc (suc (suc (suc (suc zero)))))) a h = refl
    go (suc (suc (suc (suc (suc (suc (suc zero))))))) a h = refl
    go (suc (suc (suc (suc (suc (suc (suc (suc zero)))))))) a h = refl
    go (suc (suc (suc (suc (suc (suc (suc (suc (suc zero))))))))) a h = refl
    go (suc (suc (suc (suc (suc (suc (suc (suc (suc (suc zero)))))))))) a h = refl
    go (suc (suc (suc (suc (suc (suc (suc (suc (suc (suc (suc n))))))))))) a h = absurd (omega arith)

pub all_48 : (k : Model) (s : List Bool) (a r : Bool) → k ≡ K48 → a ≡ both (get_or s 0 false) (get_or s 5 false) → r ≡ both (get_or s 2 false) a → r ≡ all_there k s
unfolding all_there
all_48 k s a r e p q = rw (e, q, p) (go (get_or s 2 false) (get_or s 0 false) (get_or s 5 false))
  where
    go : (a b c : Bool) → both a (both b c) ≡ both a (both b (both c true))
    go false b c = refl
    go true false c = refl
    go true true false = refl
    go true true true = refl

pub all_128 : (k : Model) (s : List Bool) (a b c d e f r : Bool) → k ≡ K128 → a ≡ both (get_or s 0 false) (get_or s 1 false) → b ≡ both (get_or s 2 false) (get_or s 3 false)
    → c ≡ both a b → d ≡ both (get_or s 4 false) (get_or s 5 false) → e ≡ both (get_or s 6 false) (get_or s 7 false) → f ≡ both d e → r ≡ both c f → r ≡ all_there k s
unfolding all_there
all_128 k s a b c d e f r ek p1 p2 p3 p4 p5 p6 p7 =
    rw (ek, p7, p3, p6, p1, p2, p4, p5)
    (go (get_or s 0 false) (get_or s 1 false) (get_or s 2 false) (get_or s 3 false) (get_or s 4 false) (get_or s 5 false) (get_or s 6 false) (get_or s 7 false))
  where
    go : (a b c d e f g h : Bool)
        → both (both (both a b) (both c d)) (both (both e f) (both g h)) ≡ both a (both b (both c (both d (both e (both f (both g (both h true)))))))
    go false b c d e f g h = refl
    go true false c d e f g h = refl
    go true true false d e f g h = refl
    go true true true false e f g h = refl
    go true true true true false f g h = refl
    go true true true true true false g h = refl
    go true true true true true true false h = refl
    go true true true true true true true false = refl
    go true true true true true true true true = refl

-- the pages seen, counted to the flag k
pub record SeenSoFar (seen : List Bool) (n k : ℕ) : Type 0 where
  pub reach : k ≤ 8
  pub few : n ≤ k
  pub rest : n + pages_seen (drop k seen) ≡ pages_seen seen

pub none_counted : (seen : List Bool) → SeenSoFar seen 0 0
none_counted seen = record { reach = omega arith; few = omega arith; rest = omega arith }

seen_one : (seen : List Bool) (k : ℕ) → k < length seen → pages_seen (drop k seen) ≡ choose (get_or seen k false) 1 0 + pages_seen (drop (suc k) seen)
seen_one [] k h = absurd (not-suc-le-zero h)
seen_one (b ∷ l) zero h = refl
seen_one (b ∷ l) (suc k) h = seen_one l k (le_of_suc-le-suc h)

module _ (seen : List Bool) (n k : ℕ) (g : SeenSoFar seen n k) where
  pub seen_there : k < 8 → length seen ≡ 8 → get_or seen k false ≡ true → SeenSoFar seen (n + 1) (k + 1)
  seen_there h l e = let q = rw e at (seen_one seen k (omega arith)) in
      let z : k + 1 ≡ suc k = omega arith in record { reach = omega arith; few = omega (arith, g.few); rest = rw z (omega (arith, g.rest)) }

  pub seen_absent : k < 8 → length seen ≡ 8 → get_or seen k false ≡ false → SeenSoFar seen n (k + 1)
  seen_absent h l e = let q = rw e at (seen_one seen k (omega arith)) in
      let z : k + 1 ≡ suc k = omega arith in record { reach = omega arith; few = omega (arith, g.few); rest = rw z (omega (arith, g.rest)) }

  pub all_counted : 8 ≤ k → length seen ≡ 8 → (n ≡ pages_seen seen) × (n ≤ 8)
  all_counted h l = let q : pages_seen (drop k seen) ≡ 0 = ap pages_seen (drop_of_length-le seen {i = k} (omega arith)) in (omega (arith, g.rest), omega (arith, g.few, g.reach))
