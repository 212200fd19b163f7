-- Reading and writing meet what is asked of a reader and a writer of files.
use mathlib.Core.Path.{refl, ap, ◌∙◌}
use Prim.Native.Nat.{ℕ}
use mathlib.Core.List.{List}
use native.Mathlib.Omega.{arith}
use Rattle.z80read.specs.Read.{read_of}
use Rattle.z80write.specs.Written.{written_of}
use Rattle.z80write.proofs.Longest.{never_short}
use Rattle.z80file.specs.RoundTrip.{FilesOf}
use Rattle.z80file.proofs.File.{file_back, out_is_file}

pub files : FilesOf read_of written_of
files =
    record {
      reads = λ s n. refl;
      writes = λ m area n. refl;
      back = λ m area t v c.
          ap (λ (l : List ℕ). read_of l 131072) (out_is_file m area 131182 (never_short m area 131182 t v c.long (omega arith))) ∙ file_back m area t v c;
    }
