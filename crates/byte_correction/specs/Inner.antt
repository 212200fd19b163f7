-- Contracts of functions that only proved code calls: a reviewer may skip this file.
use Rattle.std.specs.Prelude.{ℕ, ◌+◌}
use Rattle.pages.specs.declared.Place.TheVariants.{Ram}
use Rattle.numbers.specs.Numbers.{accepted}
use Rattle.log_steps.specs.Steps.{put_step}
use Rattle.session.specs.Session.{Session, CallResult}
use Rattle.corrections.specs.Corrections.{store, byte_step}

-- a byte of a page corrected, its step written
abbrev pub byte_made : ℕ → ℕ → ℕ → Session → CallResult
byte_made page offset v d =
    record {
      answer = accepted;
      session = record {
        state = record { machine = d.state.machine; memory = store (Ram page offset) v d.state.memory };
        log = put_step d.log d.standing (byte_step (Ram page offset) v d.state.memory);
        standing = d.standing + 1;
        total = d.standing + 1;
      };
    }
