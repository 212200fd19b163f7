-- A refused call over bytes changes nothing: by value it changes nothing, and the header that is put back is the one that was taken.
use Prim.Native.Nat.{ℕ}
use mathlib.Core.Path.{◌≡◌, refl, sym, ap, ◌∙◌}
use mathlib.Core.Bool.{Bool, true, false}
use mathlib.Core.List.{List}
use Rattle.std.specs.Prelude.{Ok, Err}
use Rattle.slices.specs.Choose.{choose}
use Rattle.numbers.specs.Numbers.{Answer, accepted, number_of}
use Rattle.header_canonical.specs.Canonical.{decoded_of, bad_header}
use Rattle.header_canonical.proofs.Canonical.{decoded_same}
use Rattle.five_calls.specs.declared.Call.{Call}
use Rattle.session.specs.Session.{Session}
use Rattle.journal.specs.Journal.{journal_call}
use Rattle.claim.proofs.Still.{still}
use Rattle.journal_bytes.specs.Calls.{Buffers, buffers, session_for, session_bytes, answered_by, over_bytes, snap_call}

-- a refused call leaves every buffer as it was
pub byte_still : (c : Call) (b : Buffers) → ((snap_call c b).answer ≡ 0 → ⊥) → (snap_call c b).left ≡ b
unfolding over_bytes
byte_still c b h = go (decoded_of b.header).canonical refl h
  where
    d : Session
    d = session_for (decoded_of b.header).machine b

    same : (decoded_of b.header).canonical ≡ true → (a : Answer) → (journal_call c d).answer ≡ a → (number_of a ≡ 0 → ⊥) → (answered_by (journal_call c d)).left ≡ b
    same k (Ok u) e n = absurd (n refl)
    same k (Err why) e n =
        ap session_bytes (still c d why e)
        ∙ ap (λ (x : List ℕ). buffers x b.area b.log b.standing b.total) (sym (decoded_same b.header k))

    go : (t : Bool) → (decoded_of b.header).canonical ≡ t
        → ((choose t (answered_by (journal_call c d)) (record { answer = bad_header; left = b })).answer ≡ 0 → ⊥)
        → (choose t (answered_by (journal_call c d)) (record { answer = bad_header; left = b })).left ≡ b
    go true k n = same k (journal_call c d).answer refl n
    go false k n = refl
