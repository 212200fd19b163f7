-- What the code of a byte's correction shows at each return, taken to the definition that its contract cites.
use Prim.Native.Nat.{ℕ, ◌+◌, ◌*◌, ◌≤◌, ◌<◌}
use mathlib.Core.Path.{◌≡◌, sym, ap, ◌∙◌}
use mathlib.Core.List.{List}
use lib.ListN.{length, set, get_or}
use Rattle.spectrum.specs.declared.Machine.{Machine}
use Rattle.pages.specs.declared.Place.{Place}
use Rattle.pages.specs.declared.Place.TheVariants.{Rom, Ram}
use Rattle.numbers.specs.declared.Refusal.TheVariants.{RomAddress, JournalFull}
use Rattle.numbers.specs.Numbers.{Answer, accepted}
use Rattle.pages.specs.Pages.{place_of}
use Rattle.pages.proofs.Inside.{place_inside}
use Rattle.session.specs.declared.Counts.{Counts}
use Rattle.session.specs.declared.Done.{Done}
use Rattle.session.specs.Session.{session_on, result_of}
use Rattle.session.proofs.Given.{refused_done}
use Rattle.log_steps.specs.Steps.{capacity, put_step}
use Rattle.log_steps.specs.Inner.{Ready}
use Rattle.corrections.specs.Corrections.{byte_at, place_in, store, make, rom_first, room, correction_answer, step, byte_step, step_for, corrected}
use Rattle.corrections.proofs.CorrectionSteps.{added_done, refused_as, journal_full, open_room}
use Rattle.byte_correction.specs.Inner.{byte_made}

module _ (m : Machine) (mem log : List ℕ) (n : Counts) (cap : ℕ) (g : Ready mem log n cap) where
  module _ (a v : ℕ) (p : Place) (ep : p ≡ place_of m.model m.out7ffd a) where
    by_place : (x : Answer) → rom_first p x ≡ rom_first (place_in m a) x
    by_place x = ap (λ (q : Place). rom_first q x) ep

    pub byte_rom : (r : Done) → p ≡ Rom → r ≡ refused_done RomAddress m n → result_of r mem log ≡ corrected (byte_at a v) (session_on m mem log n)
    unfolding correction_answer
    byte_rom r e er = refused_as m mem log n cap g (byte_at a v) RomAddress r (sym (by_place _) ∙ ap (λ (q : Place). rom_first q (room cap n.standing)) e) er

    module _ (page offset : ℕ) (e : p ≡ Ram page offset) where
      pub byte_full : (r : Done) → cap ≤ n.standing → r ≡ refused_done JournalFull m n → result_of r mem log ≡ corrected (byte_at a v) (session_on m mem log n)
      unfolding correction_answer
      byte_full r h er = refused_as m mem log n cap g (byte_at a v) JournalFull r (sym (by_place _) ∙ ap (λ (q : Place). rom_first q (room cap n.standing)) e ∙ journal_full m mem log n cap g h) er

      pub byte_page : a < 65536 → page < 8
      byte_page w = (place_inside m.model m.out7ffd a page offset w (sym ep ∙ e)).small

      pub byte_offset : a < 65536 → offset < 16384
      byte_offset w = (place_inside m.model m.out7ffd a page offset w (sym ep ∙ e)).low

      pub byte_made_lem : (r : Done) (mem' log' : List ℕ) → n.standing < cap → result_of r mem' log' ≡ byte_made page offset v (session_on m mem log n) → result_of r mem' log' ≡ corrected (byte_at a v) (session_on m mem log n)
      unfolding corrected correction_answer make step_for
      byte_made_lem r mem' log' h q =
          let k : rom_first (place_in m a) (room (capacity (length log)) n.standing) ≡ accepted =
          sym (by_place _) ∙ ap (λ (x : Place). rom_first x (room (capacity (length log)) n.standing)) e ∙ ap (λ (c : ℕ). room c n.standing) (sym g.capped) ∙ open_room m mem log n cap g h in
          q ∙ sym (simp k (λ j. record {
            answer = accepted;
            session = record {
              state = record { machine = m; memory = store ((sym ep ∙ e) j) v mem };
              log = put_step log n.standing (byte_step ((sym ep ∙ e) j) v mem);
              standing = n.standing + 1;
              total = n.standing + 1;
            };
          }))

pub byte_done : (m : Machine) (mem log : List ℕ) (n : Counts) (page offset v old new : ℕ) (r : Done) (log' : List ℕ) → old ≡ get_or mem (page * 16384 + offset) 0 → new ≡ v
    → (r ≡ added_done m n) × (log' ≡ put_step log n.standing (step 1 page offset old new)) → result_of r (set mem (page * 16384 + offset) v) log' ≡ byte_made page offset v (session_on m mem log n)
byte_done m mem log n page offset v old new r log' eo en q = rw (q.0, q.1, eo, en)
