-- Document 01, "Numbers a caller gets"; 40 to 43 are document 02's: "Numbers added here and in later requests join document 01's table."
use Rattle.std.specs.Prelude.{ℕ, Bool, true, false, Result, Ok, Err}
use Rattle.numbers.specs.declared.Refusal.{Refusal}
use Rattle.numbers.specs.declared.Refusal.TheVariants.{AreaLength, FileShort, UnknownVersion, ModeNotCarried, InterruptMode, CounterRange, Byte60, BlockCut, BlockNumber, BlockTwice, MalformedData, UnpackedLength, BlockMissing, EndMarker, InvalidMachine, MemoryLength, OutputShort, RomAddress, OutOn48k, PagingLocked, JournalFull, NothingToMove, StepDamaged, CountsDisagree, PageNotOwned, RomLength, PairNumber, ScsHeader, ScsBlockMissing, ScsBlockTwice, ScsMemoryNotFirst}

abbrev pub refusal_number : Refusal → ℕ
refusal_number AreaLength = 1
refusal_number FileShort = 2
refusal_number UnknownVersion = 3
refusal_number ModeNotCarried = 4
refusal_number InterruptMode = 5
refusal_number CounterRange = 6
refusal_number Byte60 = 7
refusal_number BlockCut = 8
refusal_number BlockNumber = 9
refusal_number BlockTwice = 10
refusal_number MalformedData = 11
refusal_number UnpackedLength = 12
refusal_number BlockMissing = 13
refusal_number EndMarker = 14
refusal_number InvalidMachine = 20
refusal_number MemoryLength = 21
refusal_number OutputShort = 22
refusal_number RomAddress = 23
refusal_number OutOn48k = 24
refusal_number PagingLocked = 25
refusal_number JournalFull = 26
refusal_number NothingToMove = 27
refusal_number StepDamaged = 28
refusal_number CountsDisagree = 29
refusal_number PageNotOwned = 30
refusal_number RomLength = 31
refusal_number PairNumber = 32
refusal_number ScsHeader = 40
refusal_number ScsBlockMissing = 41
refusal_number ScsBlockTwice = 42
refusal_number ScsMemoryNotFirst = 43

-- accepted, or refused with `Err` and why
abbrev pub Answer : Type 0
Answer = Result (Unit {0}) Refusal

abbrev pub accepted : Answer
accepted = Ok (record {})

-- 0 is accepted
abbrev pub number_of : Answer → ℕ
number_of (Ok u) = 0
number_of (Err why) = refusal_number why

-- refused where a test holds, else what follows: "the first number of its order that holds"
abbrev pub refuse : Bool → Refusal → Answer → Answer
refuse true why a = Err why
refuse false why a = a
