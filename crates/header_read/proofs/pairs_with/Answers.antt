use mathlib.Core.List.{[], ◌∷◌}
use Rattle.header_read.specs.Reading.{pairs_before}
use Rattle.header_read.proofs.pairs_with.Goals as goal

pub returns : goal.returns
unfolding pairs_before
returns c = λ k. c.word_of.ensures k ∷ c.word.ensures k
    ∷ c.word-2.ensures k ∷ c.word-3.ensures k
    ∷ c.word_of-2.ensures k ∷ c.word-4.ensures k
    ∷ c.word-5.ensures k ∷ c.word-6.ensures k ∷ c.word-7.ensures k
    ∷ c.word-8.ensures k ∷ c.word-9.ensures k ∷ c.args.pc ∷ []
