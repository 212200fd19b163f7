-- Steps of the log and what they point at, at each return of the code.
use Prim.Native.Nat.{ℕ, ◌+◌, ◌*◌, ◌%◌, ◌≤◌}
use mathlib.Core.Path.{◌≡◌, sym, ap, ◌∙◌}
use mathlib.Core.Bool.{Bool}
use mathlib.Core.List.{List}
use borrow.Author.Tests.{eq-eqb, ne_eqb}
use lib.Dec.{ltb, eqb}
use lib.ListN.{length, get_or, set, get_or-eq_default}
use lib.Seq.{set_out}
use Rattle.slices.specs.Choose.{both}
use Rattle.spectrum.specs.declared.Machine.{Machine}
use Rattle.pages.specs.declared.Model.{Model}
use Rattle.spectrum.specs.Machine.{with_pair, with_out}
use Rattle.pages.specs.Pages.{owned}
use Rattle.log_steps.specs.declared.Step.{Step}
use Rattle.session.proofs.Given.{on}
use Rattle.step_places.specs.Pointed.{present, placed, two_bytes, is128, tag_intact}

module _ (m : Machine) (mem : List ℕ) (s : Step) where
  pub present_ram : (r : ℕ) → s.tag ≡ 1 → r ≡ get_or mem (s.index * 16384 + s.offset) 0 → r ≡ present s (on m mem)
  unfolding present
  present_ram r e q = rw (eq-eqb s.tag 1 e) q

  pub present_out_of : s.tag ≡ 1 → length mem ≤ s.index * 16384 + s.offset → 0 ≡ present s (on m mem)
  present_out_of e h = present_ram 0 e (sym (get_or-eq_default mem 0 {n = s.index * 16384 + s.offset} h))

  pub present_pair : (r : ℕ) → (s.tag ≡ 1 → ⊥) → s.tag ≡ 2 → r ≡ get_or m.pairs s.index 0 → r ≡ present s (on m mem)
  unfolding present
  present_pair r n e q = rw (ne_eqb s.tag 1 n, eq-eqb s.tag 2 e) q

  pub present_out : (r : ℕ) → (s.tag ≡ 1 → ⊥) → (s.tag ≡ 2 → ⊥) → r ≡ m.out7ffd → r ≡ present s (on m mem)
  unfolding present
  present_out r n e q = rw (ne_eqb s.tag 1 n, ne_eqb s.tag 2 e) q

  module _ (v : ℕ) where
    pub put_ram : s.tag ≡ 1 → on m (set mem (s.index * 16384 + s.offset) (v % 256)) ≡ placed s v (on m mem)
    unfolding placed
    put_ram e = rw (eq-eqb s.tag 1 e)

    pub put_out_of : s.tag ≡ 1 → length mem ≤ s.index * 16384 + s.offset → on m mem ≡ placed s v (on m mem)
    put_out_of e h = ap (on m) (sym (set_out mem (s.index * 16384 + s.offset) (v % 256) h)) ∙ put_ram e

    pub put_pair : (r : Machine) → (s.tag ≡ 1 → ⊥) → s.tag ≡ 2 → r ≡ with_pair m s.index v → on r mem ≡ placed s v (on m mem)
    unfolding placed
    put_pair r n e q = rw (ne_eqb s.tag 1 n, eq-eqb s.tag 2 e) (ap (λ (x : Machine). on x mem) q)

    pub put_out : (r : Machine) → (s.tag ≡ 1 → ⊥) → (s.tag ≡ 2 → ⊥) → r ≡ with_out m (v % 256) → on r mem ≡ placed s v (on m mem)
    unfolding placed
    put_out r n e q = rw (ne_eqb s.tag 1 n, ne_eqb s.tag 2 e) (ap (λ (x : Machine). on x mem) q)

-- the test of a step
module _ (k : Model) (s : Step) where
  pub tag_1 : (a b c d : Bool) → s.tag ≡ 1 → a ≡ two_bytes s.old s.new → b ≡ owned k s.index → c ≡ both (ltb s.offset 16384) a → d ≡ both b c → d ≡ tag_intact k s
  tag_1 a b c d e ea eb ec ed = rw (eq-eqb s.tag 1 e) (ed ∙ (λ j. both (eb j) ((ec ∙ ap (both (ltb s.offset 16384)) ea) j)))

  pub tag_2 : (d : Bool) → (s.tag ≡ 1 → ⊥) → s.tag ≡ 2 → d ≡ both (ltb s.index 12) (eqb s.offset 0) → d ≡ tag_intact k s
  tag_2 d n e ed = rw (ne_eqb s.tag 1 n, eq-eqb s.tag 2 e) ed

  pub tag_3 : (a b c d f g : Bool) → (s.tag ≡ 1 → ⊥) → (s.tag ≡ 2 → ⊥) → a ≡ two_bytes s.old s.new → b ≡ is128 k → c ≡ both (eqb s.offset 0) a → d ≡ both (eqb s.index 0) c
      → f ≡ both b d → g ≡ both (eqb s.tag 3) f → g ≡ tag_intact k s
  tag_3 a b c d f g n e ea eb ec ed ef eg =
      rw (ne_eqb s.tag 1 n, ne_eqb s.tag 2 e)
      (eg ∙ ap (both (eqb s.tag 3)) (ef ∙ (λ j. both (eb j) ((ed ∙ ap (both (eqb s.index 0)) (ec ∙ ap (both (eqb s.offset 0)) ea)) j))))
