-- Numbers and answers.
use Prim.Native.Nat.{ℕ, ◌<◌}
use mathlib.Core.Path.{◌≡◌, refl}
use mathlib.Core.Bool.{Bool, true, false}
use native.Mathlib.Omega.{arith}
use Rattle.std.specs.Prelude.{Ok, Err}
use Rattle.numbers.specs.declared.Refusal.{Refusal}
use Rattle.numbers.specs.declared.Refusal.TheVariants.{AreaLength, FileShort, UnknownVersion, ModeNotCarried, InterruptMode, CounterRange, Byte60, BlockCut, BlockNumber, BlockTwice, MalformedData, UnpackedLength, BlockMissing, EndMarker, InvalidMachine, MemoryLength, OutputShort, RomAddress, OutOn48k, PagingLocked, JournalFull, NothingToMove, StepDamaged, CountsDisagree, PageNotOwned, RomLength, PairNumber, ScsHeader, ScsBlockMissing, ScsBlockTwice, ScsMemoryNotFirst}
use Rattle.numbers.specs.Numbers.{Answer, accepted, refusal_number, number_of, refuse}

-- the numbers of refusals are bytes, and none is 0
number_in : (why : Refusal) → (0 < refusal_number why) × (refusal_number why < 256)
number_in AreaLength = (omega arith, omega arith)
number_in FileShort = (omega arith, omega arith)
number_in UnknownVersion = (omega arith, omega arith)
number_in ModeNotCarried = (omega arith, omega arith)
number_in InterruptMode = (omega arith, omega arith)
number_in CounterRange = (omega arith, omega arith)
number_in Byte60 = (omega arith, omega arith)
number_in BlockCut = (omega arith, omega arith)
number_in BlockNumber = (omega arith, omega arith)
number_in BlockTwice = (omega arith, omega arith)
number_in MalformedData = (omega arith, omega arith)
number_in UnpackedLength = (omega arith, omega arith)
number_in BlockMissing = (omega arith, omega arith)
number_in EndMarker = (omega arith, omega arith)
number_in InvalidMachine = (omega arith, omega arith)
number_in MemoryLength = (omega arith, omega arith)
number_in OutputShort = (omega arith, omega arith)
number_in RomAddress = (omega arith, omega arith)
number_in OutOn48k = (omega arith, omega arith)
number_in PagingLocked = (omega arith, omega arith)
number_in JournalFull = (omega arith, omega arith)
number_in NothingToMove = (omega arith, omega arith)
number_in StepDamaged = (omega arith, omega arith)
number_in CountsDisagree = (omega arith, omega arith)
number_in PageNotOwned = (omega arith, omega arith)
number_in RomLength = (omega arith, omega arith)
number_in PairNumber = (omega arith, omega arith)
number_in ScsHeader = (omega arith, omega arith)
number_in ScsBlockMissing = (omega arith, omega arith)
number_in ScsBlockTwice = (omega arith, omega arith)
number_in ScsMemoryNotFirst = (omega arith, omega arith)

pub number_0 : (a : Answer) → number_of a ≡ 0 → a ≡ accepted
number_0 (Ok u) e = refl
number_0 (Err why) e = absurd (omega (arith, (number_in why).0))

pub number_small : (a : Answer) → number_of a < 256
number_small (Ok u) = omega arith
number_small (Err why) = (number_in why).1

-- a refusal is not an acceptance
pub refused_not : (why : Refusal) → Err why ≡ accepted → ⊥
refused_not why p = let z : ◌≡◌ {A = ℕ} 0 1 = cc in omega arith

pub refuse_not : (t : Bool) (w : Refusal) (a : Answer) → refuse t w a ≡ accepted → (t ≡ false) × (a ≡ accepted)
refuse_not true w a e = absurd (refused_not w e)
refuse_not false w a e = (refl, e)
