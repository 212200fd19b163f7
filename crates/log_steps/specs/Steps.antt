-- "A log step is one tagged field: tag (1 byte, 2 register, 3 OUT), two-byte length 8, then index, offset in the page or 0 (two bytes),
-- old (two), new (two), 0."
use Rattle.std.specs.Prelude.{ℕ, ◌+◌, ◌*◌, ◌/◌, ◌%◌, min, List, [], ◌∷◌, get_or}
use Rattle.slices.specs.Put.{put}
use Rattle.log_steps.specs.declared.Step.{Step}

-- "Capacity is the log's length divided by 11, rounded down, at most 4,096."
unfoldable pub capacity : ℕ → ℕ
capacity size = min (size / 11) 4096

-- a step's eleven bytes, and the step that stands at a number, counted from 0
abbrev pub step_bytes : Step → List ℕ
step_bytes s =
    s.tag ∷ (s.size % 256) ∷ (s.size / 256) ∷ s.index ∷ (s.offset % 256) ∷ (s.offset / 256)
    ∷ (s.old % 256) ∷ (s.old / 256) ∷ (s.new % 256) ∷ (s.new / 256) ∷ s.last ∷ []

unfoldable pub put_step : List ℕ → ℕ → Step → List ℕ
put_step log k s = put log (k * 11) (step_bytes s)

unfoldable pub step_at : List ℕ → ℕ → Step
step_at log k =
    record {
      tag = get_or log (k * 11) 0;
      size = get_or log (k * 11 + 1) 0 + 256 * get_or log (k * 11 + 2) 0;
      index = get_or log (k * 11 + 3) 0;
      offset = get_or log (k * 11 + 4) 0 + 256 * get_or log (k * 11 + 5) 0;
      old = get_or log (k * 11 + 6) 0 + 256 * get_or log (k * 11 + 7) 0;
      new = get_or log (k * 11 + 8) 0 + 256 * get_or log (k * 11 + 9) 0;
      last = get_or log (k * 11 + 10) 0;
    }
