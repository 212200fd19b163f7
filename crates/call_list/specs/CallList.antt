-- A list of calls as bytes, four to a call.
use Rattle.std.specs.Prelude.{ℕ, zero, suc, ◌+◌, ◌*◌, ◌/◌, ◌%◌, min, List, [], ◌∷◌, ◌++◌, map, length, get_or, replicate, eqb}
use Rattle.slices.specs.Choose.{choose}
use Rattle.numbers.specs.Numbers.{Answer, number_of}
use Rattle.five_calls.specs.declared.Call.{Call}
use Rattle.five_calls.specs.declared.Call.TheVariants.{Byte, Pair, Out, Undo, Redo}

-- the call at a number: its kind, and three bytes of what it asks
unfoldable pub call_at : List ℕ → ℕ → Call
call_at b i =
    choose (eqb (get_or b (i * 4) 0) 0)
    (Byte (get_or b (i * 4 + 1) 0 + 256 * get_or b (i * 4 + 2) 0) (get_or b (i * 4 + 3) 0))
    (choose (eqb (get_or b (i * 4) 0) 1)
    (Pair (get_or b (i * 4 + 3) 0) (get_or b (i * 4 + 1) 0 + 256 * get_or b (i * 4 + 2) 0))
    (choose (eqb (get_or b (i * 4) 0) 2)
    (Out (get_or b (i * 4 + 1) 0))
    (choose (eqb (get_or b (i * 4) 0) 3) Undo Redo)))

-- a list of calls as bytes, four to a call
abbrev pub encode : List Call → List ℕ
encode [] = []
encode (Byte address v ∷ cs) = 0 ∷ address % 256 ∷ address / 256 ∷ v ∷ encode cs
encode (Pair p v ∷ cs) = 1 ∷ v % 256 ∷ v / 256 ∷ p ∷ encode cs
encode (Out v ∷ cs) = 2 ∷ v ∷ 0 ∷ 0 ∷ encode cs
encode (Undo ∷ cs) = 3 ∷ 0 ∷ 0 ∷ 0 ∷ encode cs
encode (Redo ∷ cs) = 4 ∷ 0 ∷ 0 ∷ 0 ∷ encode cs

-- k calls from number i on
abbrev pub calls_from : List ℕ → ℕ → ℕ → List Call
calls_from b i zero = []
calls_from b i (suc k) = call_at b i ∷ calls_from b (suc i) k

-- as many calls as the bytes hold, and no more than there is room for their numbers
abbrev pub call_count : List ℕ → ℕ → ℕ
call_count b room = min (length b / 4) room

abbrev pub calls_in : List ℕ → ℕ → List Call
calls_in b room = calls_from b 0 (call_count b room)

-- the numbers of the answers, then zeros for the room that is left
abbrev pub numbers_in : List Answer → ℕ → List ℕ
numbers_in answers left = map number_of answers ++ replicate left 0
