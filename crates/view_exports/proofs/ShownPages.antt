-- The page that a view returns: the bytes that `snap_view` points at, and what the test export copies out.
use Prim.Native.Nat.{ℕ, ◌+◌, ◌-◌, ◌≤◌, ◌<◌}
use native.Mathlib.Omega.{arith}
use mathlib.Core.Path.{◌≡◌, refl, sym, ap, ◌∙◌}
use mathlib.Core.Bool.{Bool, true, false}
use mathlib.Core.List.{List, [], ◌++◌}
use lib.ListN.{length, take, drop, replicate, length-replicate, replicate-append-replicate}
use lib.Dec.{eqb}
use lib.Seq.{drop_at}
use borrow.Author.Tests.{le-leb, lt-leb}
use Rattle.slices.specs.Choose.{choose}
use Rattle.slices.specs.Put.{put}
use Rattle.slices.proofs.Puts.{put_zero}
use Rattle.numbers.specs.Numbers.{number_of}
use Rattle.header_canonical.specs.declared.DecodedHeader.{DecodedHeader}
use Rattle.header_canonical.specs.Canonical.{decoded_of}
use Rattle.view.specs.declared.Part.{Part}
use Rattle.view.specs.declared.Part.TheVariants.{Nowhere, InArea, InRom}
use Rattle.view.specs.View.{view_answer, part_for, part_bytes, view_of}
use Rattle.view_bytes.specs.Views.{Shown, shown_as, show_decoded, show_of}
use Rattle.view_exports.specs.Viewed.{view_decoded, viewed_of, page_into}

-- the bytes that a view points at
abbrev pointed : Shown → List ℕ → List ℕ → List ℕ
pointed x rom area = take x.size (drop x.start (choose (eqb x.rom 1) rom area))

part_pointed : (n : ℕ) (p : Part) (rom area : List ℕ) → part_bytes p rom area ≡ pointed (shown_as n p) rom area
part_pointed n Nowhere rom area = refl
part_pointed n (InArea start) rom area = refl
part_pointed n (InRom start) rom area = refl

pub shown_bytes : (head rom area : List ℕ) (page : ℕ) → viewed_of head rom area page ≡ pointed (show_of head (length rom) (length area) page) rom area
unfolding viewed_of show_of
shown_bytes head rom area page = go (decoded_of head)
  where
    by : (c : Bool) (n : ℕ) (p : Part) → choose c (part_bytes p rom area) [] ≡ pointed (choose c (shown_as n p) (record { answer = 20; rom = 0; start = 0; size = 0 })) rom area
    by true n p = part_pointed n p rom area
    by false n p = refl

    go : (t : DecodedHeader) → view_decoded t rom area page ≡ pointed (show_decoded t (length rom) (length area) page) rom area
    go t =
        let a = view_answer t.machine (length rom) (length area) page in
        by t.canonical (number_of a) (part_for a page)

-- ---- the export

rest_zero : (n k : ℕ) → n ≤ k → drop {A = ℕ} n (replicate k 0) ≡ replicate (k - n) 0
rest_zero n k h =
    let e : k ≡ n + (k - n) = omega arith in
    ap (λ (i : ℕ). drop {A = ℕ} n (replicate i 0)) e ∙ sym (ap (drop {A = ℕ} n) (replicate-append-replicate n (k - n) 0))
    ∙ drop_at {A = ℕ} (replicate n 0) (replicate (k - n) 0) n (length-replicate {A = ℕ} n 0)

module _ (head rom area : List ℕ) (k : ℕ) (zeros : List ℕ) (page : ℕ) (t : DecodedHeader) (et : t ≡ decoded_of head) (ez : zeros ≡ replicate k 0) where
  view_here : List ℕ
  view_here = viewed_of head rom area page

  decoded_view : t.canonical ≡ true → view_here ≡ view_of t.machine rom area page
  unfolding view_here viewed_of
  decoded_view c = ap (λ (x : DecodedHeader). view_decoded x rom area page) (sym et) ∙ rw c

  pub page_none : t.canonical ≡ false → (0 ≡ length (viewed_of head rom area page)) × (zeros ≡ page_into (viewed_of head rom area page) k)
  unfolding viewed_of
  page_none c =
      let z : k - 0 ≡ k = omega arith in
      let none : page_into [] k ≡ replicate k 0 = rw (le-leb 0 k (omega arith)) (ap (λ (i : ℕ). replicate {A = ℕ} i 0) z) in
      let e : view_decoded (decoded_of head) rom area page ≡ [] = ap (λ (x : DecodedHeader). view_decoded x rom area page) (sym et) ∙ rw c in (
        sym (ap length e),
        ez ∙ sym (ap (λ (l : List ℕ). page_into l k) e ∙ none),
      )

  module _ (part : List ℕ) (r : ℕ) (c : t.canonical ≡ true) (ep : part ≡ view_of t.machine rom area page) (er : r ≡ length part) where
    part_is : part ≡ view_here
    part_is = ep ∙ sym (decoded_view c)

    pub page_shown : (out : List ℕ) → length part ≤ length zeros → out ≡ put zeros 0 part
        → (r ≡ length (viewed_of head rom area page)) × (out ≡ page_into (viewed_of head rom area page) k)
    unfolding view_here
    page_shown out h e =
        let l : length part ≤ k = omega (arith, ap length ez, length-replicate {A = ℕ} k 0) in
        let q : out ≡ page_into part k = e ∙ put_zero zeros part (length part) refl ∙ ap (λ (z : List ℕ). part ++ drop (length part) z) ez
        ∙ ap (λ (z : List ℕ). part ++ z) (rest_zero (length part) k l) ∙ sym (rw (le-leb (length part) k l)) in
        (er ∙ ap length part_is, q ∙ ap (λ (x : List ℕ). page_into x k) part_is)

    pub page_over : length zeros < length part → (r ≡ length (viewed_of head rom area page)) × (zeros ≡ page_into (viewed_of head rom area page) k)
    unfolding view_here
    page_over h =
        let l : k < length part = omega (arith, ap length ez, length-replicate {A = ℕ} k 0) in
        (er ∙ ap length part_is, ez ∙ sym (rw (lt-leb (length part) k l)) ∙ ap (λ (x : List ℕ). page_into x k) part_is)
