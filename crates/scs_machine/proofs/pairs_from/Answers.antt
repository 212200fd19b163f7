use mathlib.Core.List.{[], ◌∷◌}
use Rattle.scs_machine.specs.ScsMachine.{scs_pairs}
use Rattle.scs_machine.proofs.pairs_from.Goals as goal

pub returns : goal.returns
unfolding scs_pairs
returns c = λ k. c.word_of.ensures k
    ∷ c.word_of-2.ensures k
    ∷ c.word_of-3.ensures k
    ∷ c.word_of-4.ensures k
    ∷ c.word_of-5.ensures k
    ∷ c.word_of-6.ensures k
    ∷ c.word_of-7.ensures k
    ∷ c.word_of-8.ensures k
    ∷ c.word_of-9.ensures k
    ∷ c.word_of-10.ensures k
    ∷ c.word_of-11.ensures k
    ∷ c.word_of-12.ensures k ∷ []
