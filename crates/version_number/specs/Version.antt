-- The library's version, 0.6.0: "10000 * major + 100 * minor + patch".
use Rattle.std.specs.Prelude.{ℕ, ◌+◌, ◌*◌}

abbrev pub library_version : ℕ
library_version = 10000 * 0 + 100 * 6 + 0
