-- Document 01, "Packed data": what packed data stand for, and how bytes are packed.
-- The definitions are shut: outside this file and Packed/ only the laws of Packed/ speak of them.
pub mod CodeLaws
pub mod Promise
pub mod Examples
use Rattle.std.specs.Prelude.{ℕ, zero, suc, ◌+◌, ◌-◌, min, Bool, List, [], ◌∷◌, ◌++◌, take, replicate, eqb, leb}
use Rattle.slices.specs.Choose.{choose, both}

abbrev pub ED : ℕ
ED = 0xED

-- whether two bytes are ED ED, with which a code begins
abbrev pub escape : ℕ → ℕ → Bool
escape a b = both (eqb a ED) (eqb b ED)

-- what packed data stand for, or the offset where the first bad code starts
pub data Found : Type 0 where
  malformed : ℕ → Found
  bytes : List ℕ → Found

-- k bytes of packed data that stand for xs, and then what the rest stands for
abbrev pub before : ℕ → List ℕ → Found → Found
before k xs (malformed i) = malformed (k + i)
before k xs (bytes ys) = bytes (xs ++ ys)

-- a code for n times y, and then what the rest stands for; a count of 0 is malformed
abbrev pub run : ℕ → ℕ → Found → Found
run n y rest = choose (eqb n 0) (malformed 0) (before 4 (replicate n y) rest)

-- "Unpacking goes from the left. ED ED xx yy stands for xx times yy. Any other byte, a single ED included, stands for itself.
-- ED ED with fewer than two bytes after it, or with xx 0, is malformed." "With a malformed answer unpacking gives the offset where the first
-- bad code starts."
pub unpacked : List ℕ → Found
unpacked [] = bytes []
unpacked (a ∷ []) = bytes (a ∷ [])
unpacked (a ∷ b ∷ []) = choose (escape a b) (malformed 0) (before 1 (a ∷ []) (unpacked (b ∷ [])))
unpacked (a ∷ b ∷ n ∷ []) = choose (escape a b) (malformed 0) (before 1 (a ∷ []) (unpacked (b ∷ n ∷ [])))
unpacked (a ∷ b ∷ n ∷ y ∷ rest) = choose (escape a b) (run n y (unpacked rest)) (before 1 (a ∷ []) (unpacked (b ∷ n ∷ y ∷ rest)))

-- how many bytes at the front of a list are x
abbrev pub front : ℕ → List ℕ → ℕ
front x [] = 0
front x (y ∷ ys) = choose (eqb y x) (suc (front x ys)) 0

-- "Packing goes from the left over whole runs, n being what is left of the run. ED with n at least 2: ED ED min(n,255) ED.
-- ED with n = 1: ED, and the next byte, if there is one, is written plain. Another byte with n at least 5: ED ED min(n,255) byte.
-- Otherwise: one plain byte." The first k bytes are passed over: the code before stands for them.
pub packed_from : ℕ → List ℕ → List ℕ
packed_from k [] = []
packed_from (suc k) (x ∷ xs) = packed_from k xs
packed_from zero (x ∷ xs) =
    let n = suc (front x xs) in
    choose (eqb x ED)
    (choose (leb 2 n) (ED ∷ ED ∷ min n 255 ∷ ED ∷ packed_from (min n 255 - 1) xs) (ED ∷ (take 1 xs ++ packed_from 1 xs)))
    (choose (leb 5 n) (ED ∷ ED ∷ min n 255 ∷ x ∷ packed_from (min n 255 - 1) xs) (x ∷ packed_from 0 xs))

pub packed : List ℕ → List ℕ
packed xs = packed_from 0 xs
