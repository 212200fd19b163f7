-- Where a step of the log points, and when it is damaged.
use Rattle.std.specs.Prelude.{ℕ, ◌+◌, ◌*◌, ◌%◌, Bool, true, false, get_or, set, ltb, eqb}
use Rattle.slices.specs.Choose.{choose, both}
use Rattle.pages.specs.declared.Model.{Model}
use Rattle.pages.specs.declared.Model.TheVariants.{K48, K128}
use Rattle.pages.specs.Pages.{owned}
use Rattle.spectrum.specs.Machine.{with_pair, with_out}
use Rattle.spectrum.specs.State.{State}
use Rattle.log_steps.specs.declared.Step.{Step}

-- the value that stands where a step points, and another value put there: the page is the step's, whatever the paging is now
unfoldable pub present : Step → State → ℕ
present s w =
    choose (eqb s.tag 1) (get_or w.memory (s.index * 16384 + s.offset) 0)
    (choose (eqb s.tag 2) (get_or w.machine.pairs s.index 0) w.machine.out7ffd)

unfoldable pub placed : Step → ℕ → State → State
placed s v w =
    choose (eqb s.tag 1)
    (record { machine = w.machine; memory = set w.memory (s.index * 16384 + s.offset) (v % 256) })
    (choose (eqb s.tag 2)
    (record { machine = with_pair w.machine s.index v; memory = w.memory })
    (record { machine = with_out w.machine (v % 256); memory = w.memory }))

-- whether both are bytes
abbrev pub two_bytes : ℕ → ℕ → Bool
two_bytes old new = both (ltb old 256) (ltb new 256)

-- "tag 3 on a 48K machine"
abbrev pub is128 : Model → Bool
is128 K48 = false
is128 K128 = true

-- the conditions of 28 but for the present value: "tag not 1-3; length not 8; last byte not 0; tag 1 with a page not owned, offset above
-- 16,383, or old or new above 255; tag 2 with index above 11 or offset not 0; tag 3 on a 48K machine, index or offset not 0, or old or new above 255"
abbrev pub tag_intact : Model → Step → Bool
tag_intact model s =
    choose (eqb s.tag 1)
    (both (owned model s.index) (both (ltb s.offset 16384) (two_bytes s.old s.new)))
    (choose (eqb s.tag 2)
    (both (ltb s.index 12) (eqb s.offset 0))
    (both (eqb s.tag 3) (both (is128 model) (both (eqb s.index 0) (both (eqb s.offset 0) (two_bytes s.old s.new))))))

unfoldable pub intact : Model → Step → Bool
intact model s = both (eqb s.size 8) (both (eqb s.last 0) (tag_intact model s))
