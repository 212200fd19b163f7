-- A correction that is accepted writes a step that can be taken back and made again: proved once, when it is made.
use Prim.Native.Nat.{ℕ, zero, suc, ◌+◌, ◌*◌, ◌/◌, ◌%◌, ◌≤◌, ◌<◌}
use mathlib.Core.Path.{◌≡◌, refl, ap, ◌∙◌}
use mathlib.Core.Bool.{true, not}
use mathlib.Core.List.{List, [], ◌∷◌}
use native.Mathlib.Omega.{arith}
use borrow.Author.Tests.{lt-ltb, ltb-true, ltb-false}
use lib.Dec.{ltb, eqb}
use lib.ListN.{length, set, get_or, length-set}
use lib.Seq.{get_or-set_same, set-set, set-get_or}
use Rattle.slices.proofs.Chosen.{not_flip}
use Rattle.spectrum.specs.declared.Machine.{Machine}
use Rattle.pages.specs.declared.Model.{Model}
use Rattle.pages.specs.declared.Model.TheVariants.{K48, K128}
use Rattle.pages.specs.declared.Place.{Place}
use Rattle.pages.specs.declared.Place.TheVariants.{Rom, Ram}
use Rattle.numbers.specs.declared.Refusal.TheVariants.{RomAddress, OutOn48k, PagingLocked, JournalFull, PairNumber}
use Rattle.numbers.specs.Numbers.{Answer, accepted}
use Rattle.spectrum.specs.Machine.{changed, with_pair, with_out}
use Rattle.spectrum.specs.State.{State}
use Rattle.spectrum.specs.Valid.{valid_of, ports_fit}
use Rattle.numbers.proofs.Numbers.{refused_not, refuse_not}
use Rattle.log_steps.specs.declared.Step.{Step}
use Rattle.log_steps.specs.Steps.{put_step, step_at}
use Rattle.step_places.specs.Pointed.{present, placed, intact}
use Rattle.log_steps.proofs.StepBytes.{step_at_same}
use Rattle.corrections.specs.Corrections.{Correction, byte_at, pair_to, out_to, place_in, store, make, rom_first, out_first, room, correction_answer, step, byte_step, step_for}
use Rattle.pages.proofs.Inside.{Inside, place_inside}
use Rattle.claim.specs.Claim.{ValidStart}

-- as wide as the types of the code have it
abbrev pub TypedCorrection : Correction → Type 0
TypedCorrection (byte_at address v) = (address < 65536) × (v < 256)
TypedCorrection (pair_to p v) = v < 65536
TypedCorrection (out_to v) = v < 256

-- the step at k is s, it leads from the state w to w', and it can be taken back and made again
pub record Holds (log : List ℕ) (k : ℕ) (s : Step) (w w' : State) : Type 0 where
  pub reads : step_at log k ≡ s
  pub whole : intact w.machine.model s ≡ true
  pub model : w'.machine.model ≡ w.machine.model
  pub new_there : present s w' ≡ s.new
  pub old_there : present s w ≡ s.old
  pub back : placed s s.old w' ≡ w
  pub forth : placed s s.new w ≡ w'
  pub before : ValidStart w
  pub after : ValidStart w'

-- the step at k is the correction c made on the state w
abbrev pub Held : List ℕ → ℕ → Correction → State → Type 0
Held log k c w = Holds log k (step_for c w) w (make c w)

has_room : (cap n : ℕ) → room cap n ≡ accepted → n < cap
has_room cap n e = ltb-true n cap (not_flip (ltb n cap) (refuse_not (not (ltb n cap)) JournalFull accepted e).0)

out_128 : (k : Model) (out : ℕ) (a : Answer) → out_first k out a ≡ accepted → (k ≡ K128) × (a ≡ accepted)
out_128 K48 out a e = absurd (refused_not OutOn48k e)
out_128 K128 out a e = (refl, (refuse_not (eqb (out / 32 % 2) 1) PagingLocked a e).1)

below_set : (n : ℕ) (l : List ℕ) (i v : ℕ) → ((j : ℕ) → get_or l j 0 < n) → v < n → (j : ℕ) → get_or (set l i v) j 0 < n
below_set n [] i v h b j = h j
below_set n (x ∷ xs) zero v h b zero = b
below_set n (x ∷ xs) zero v h b (suc j) = h (suc j)
below_set n (x ∷ xs) (suc i) v h b zero = h zero
below_set n (x ∷ xs) (suc i) v h b (suc j) = below_set n xs i v (λ k. h (suc k)) b j

byte_mod : (x : ℕ) → x < 256 → x % 256 ≡ x
byte_mod x h = omega arith

pair_back : (m : Machine) (p v : ℕ) → with_pair (with_pair m p v) p (get_or m.pairs p 0) ≡ m
unfolding with_pair
pair_back m p v = ap (λ (l : List ℕ). changed m l m.out7ffd) (set-set m.pairs p v (get_or m.pairs p 0) ∙ set-get_or m.pairs p 0)

out_back : (m : Machine) (v : ℕ) → with_out (with_out m v) m.out7ffd ≡ m
unfolding with_out
out_back m v = refl

pair_ports : (m : Machine) (p v : ℕ) (k : Model) → ports_fit k (with_pair m p v) ≡ ports_fit k m
unfolding with_pair
pair_ports m p v K48 = refl
pair_ports m p v K128 = refl

pair_valid : (m : Machine) (p v : ℕ) → valid_of (with_pair m p v) ≡ valid_of m
unfolding valid_of with_pair
pair_valid m p v = rw (pair_ports m p v m.model)

-- validity looks at the last OUT on a 48K machine only
out_valid : (m : Machine) (v : ℕ) → m.model ≡ K128 → valid_of (with_out m v) ≡ valid_of m
unfolding valid_of with_out
out_valid m v e = rw e

pair_model : (m : Machine) (p v : ℕ) → (with_pair m p v).model ≡ m.model
unfolding with_pair
pair_model m p v = refl

pair_set : (m : Machine) (p v : ℕ) → p < length m.pairs → get_or (with_pair m p v).pairs p 0 ≡ v
unfolding with_pair
pair_set m p v h = get_or-set_same m.pairs p v 0 h

out_model : (m : Machine) (v : ℕ) → (with_out m v).model ≡ m.model
unfolding with_out
out_model m v = refl

out_there : (m : Machine) (v : ℕ) → (with_out m v).out7ffd ≡ v
unfolding with_out
out_there m v = refl

pair_fit : (w : State) (p v : ℕ) → ValidStart w → v < 65536 → ValidStart (record { machine = with_pair w.machine p v; memory = w.memory })
unfolding with_pair
pair_fit w p v ok b =
    let t = ok.typed in
    record {
      valid = pair_valid w.machine p v ∙ ok.valid;
      area = ok.area;
      typed = record {
        pairs = below_set 65536 w.machine.pairs p v t.pairs b;
        count = length-set w.machine.pairs p v ∙ t.count;
        r8 = t.r8;
        out = t.out;
        sound = t.sound;
        side = t.side;
      };
      bytes = ok.bytes;
    }

out_fit : (w : State) (v : ℕ) → ValidStart w → v < 256 → w.machine.model ≡ K128 → ValidStart (record { machine = with_out w.machine v; memory = w.memory })
unfolding with_out
out_fit w v ok b e =
    let t = ok.typed in
    record {
      valid = out_valid w.machine v e ∙ ok.valid;
      area = ok.area;
      typed = record { pairs = t.pairs; count = t.count; r8 = t.r8; out = b; sound = t.sound; side = t.side };
      bytes = ok.bytes;
    }

-- a byte in a page
byte_holds : (v : ℕ) (w : State) (log : List ℕ) (k page offset : ℕ) → ValidStart w → v < 256 → Inside w.machine.model page offset → k * 11 + 11 ≤ length log
    → Holds (put_step log k (byte_step (Ram page offset) v w.memory)) k (byte_step (Ram page offset) v w.memory) w
    (record { machine = w.machine; memory = store (Ram page offset) v w.memory })
unfolding present placed intact
byte_holds v w log k page offset ok b i fits =
    let at = page * 16384 + offset in
    let old = get_or w.memory at 0 in
    let inside : at < length w.memory = omega (arith, ok.area, i.small, i.low) in
    record {
      reads = step_at_same log k _ fits;
      whole = simp (i.mine, lt-ltb offset 16384 i.low, lt-ltb old 256 (ok.bytes at), lt-ltb v 256 b);
      model = refl;
      new_there = get_or-set_same w.memory at v 0 inside;
      old_there = refl;
      back = simp (byte_mod old (ok.bytes at), set-set, set-get_or);
      forth = simp (byte_mod v b);
      before = ok;
      after = record { valid = ok.valid; area = length-set w.memory at v ∙ ok.area; typed = ok.typed; bytes = below_set 256 w.memory at v ok.bytes b };
    }

pair_holds : (p v : ℕ) (w : State) (log : List ℕ) (k : ℕ) → ValidStart w → v < 65536 → p ≤ 11 → k * 11 + 11 ≤ length log
    → Holds (put_step log k (step 2 p 0 (get_or w.machine.pairs p 0) v)) k (step 2 p 0 (get_or w.machine.pairs p 0) v) w
    (record { machine = with_pair w.machine p v; memory = w.memory })
unfolding present placed intact
pair_holds p v w log k ok b h fits =
    record {
      reads = step_at_same log k _ fits;
      whole = simp (lt-ltb p 12 (omega arith));
      model = pair_model w.machine p v;
      new_there = pair_set w.machine p v (omega (arith, ok.typed.count));
      old_there = refl;
      back = λ j. record { machine = pair_back w.machine p v j; memory = w.memory };
      forth = refl;
      before = ok;
      after = pair_fit w p v ok b;
    }

out_holds : (v : ℕ) (w : State) (log : List ℕ) (k : ℕ) → ValidStart w → v < 256 → w.machine.model ≡ K128 → k * 11 + 11 ≤ length log
    → Holds (put_step log k (step 3 0 0 w.machine.out7ffd v)) k (step 3 0 0 w.machine.out7ffd v) w
    (record { machine = with_out w.machine v; memory = w.memory })
unfolding present placed intact
out_holds v w log k ok b e fits =
    record {
      reads = step_at_same log k _ fits;
      whole = simp (e, lt-ltb w.machine.out7ffd 256 ok.typed.out, lt-ltb v 256 b);
      model = out_model w.machine v;
      new_there = out_there w.machine v;
      old_there = refl;
      back = simp (byte_mod w.machine.out7ffd ok.typed.out, out_back);
      forth = simp (byte_mod v b);
      before = ok;
      after = out_fit w v ok b e;
    }

-- a correction that is accepted, made on a start, is held by the step that it writes
pub held : (c : Correction) (w : State) (log : List ℕ) (cap k : ℕ) → ValidStart w → TypedCorrection c → correction_answer cap w k c ≡ accepted → k * 11 + 11 ≤ length log → Held (put_step log k (step_for c w)) k c w
unfolding step_for make correction_answer
held (byte_at a v) w log cap k ok wide e fits = go (place_in w.machine a) refl e
  where
    go : (p : Place) → place_in w.machine a ≡ p → rom_first p (room cap k) ≡ accepted
        → Holds (put_step log k (byte_step p v w.memory)) k (byte_step p v w.memory) w (record { machine = w.machine; memory = store p v w.memory })
    go Rom q h = absurd (refused_not RomAddress h)
    go (Ram page offset) q h = byte_holds v w log k page offset ok wide.1 (place_inside w.machine.model w.machine.out7ffd a page offset wide.0 q) fits
held (pair_to p v) w log cap k ok wide e fits = pair_holds p v w log k ok wide (ltb-false 11 p (refuse_not (ltb 11 p) PairNumber (room cap k) e).0) fits
held (out_to v) w log cap k ok wide e fits = out_holds v w log k ok wide (out_128 w.machine.model w.machine.out7ffd (room cap k) e).0 fits

pub answer_room : (cap : ℕ) (w : State) (n : ℕ) (c : Correction) → correction_answer cap w n c ≡ accepted → n < cap
unfolding correction_answer
answer_room cap w n (byte_at a v) e = go (place_in w.machine a) e
  where
    go : (p : Place) → rom_first p (room cap n) ≡ accepted → n < cap
    go Rom h = absurd (refused_not RomAddress h)
    go (Ram page offset) h = has_room cap n h
answer_room cap w n (pair_to p v) e = has_room cap n (refuse_not (ltb 11 p) PairNumber (room cap n) e).1
answer_room cap w n (out_to v) e = has_room cap n (out_128 w.machine.model w.machine.out7ffd (room cap n) e).1
