use Rattle.header_canonical.proofs.Compared.{compared_none, compared_more, compared_all, other_length}
use borrow.Author.Rules.{rules}
use Rattle.header_canonical.proofs.same_bytes.Goals as goal

pub returns-then-s-h : goal.returns-then-s-h
returns-then-s-h c = search other_length

pub loop-i-init : goal.loop-i-init
loop-i-init c = search compared_none

pub loop-i-preserved : goal.loop-i-preserved
loop-i-preserved c = compared_more _ _ _ _ c.loop-i.invariant _ (search rules) c.and-all.ensures

pub returns : goal.returns
returns c = search compared_all
