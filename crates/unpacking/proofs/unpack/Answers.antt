use Prim.Native.Nat.{◌-◌}
use Rattle.unpacking.proofs.UnpackLoop.{unpacking_none, unpacking_block, unpacking_zero, unpacking_full, unpacking_run, unpacking_short, rest_into}
use borrow.Author.Rules.{rules}
use Rattle.unpacking.proofs.unpack.Goals as goal

pub loop-i-init : goal.loop-i-init
loop-i-init c = search unpacking_none

pub returns-then-dst-o : goal.returns-then-dst-o
returns-then-dst-o c = search rest_into

pub loop-i-preserved-then-k-eq64 : goal.loop-i-preserved-then-k-eq64
loop-i-preserved-then-k-eq64 c = let g = c.loop-i.invariant in
    let l = c.look-codes.ensures in
    let f = c.first-k.ensures.0 in
    unpacking_block _ _ _ _ _ _ g _ _ _ l f (search rules) (search rules) c.if-k-eq64.true

pub returns-then-n-eq0 : goal.returns-then-n-eq0
returns-then-n-eq0 c = let g = c.loop-i.invariant in
    let l = c.look-codes.ensures in
    let f = c.first-k.ensures.0 in
    unpacking_zero _ _ _ _ _ _ g _ _ _ l f (search rules) (search rules) _ c.if-k-eq64.false c.wide-n.ensures.0 _ _ c.if-n-eq0.true c.refused_part.ensures

pub loop-i-preserved-then-n-le32 : goal.loop-i-preserved-then-n-le32
loop-i-preserved-then-n-le32 c = let g = c.loop-i.invariant in
    let l = c.look-codes.ensures in
    let f = c.first-k.ensures.0 in
    let p = c.fill_32.ensures in
    unpacking_short _ _ _ _ _ _ g _ _ _ l f (search rules) (search rules) _ c.if-k-eq64.false (search rules) _ (search rules) _ _ c.after.ensures c.after-codes.ensures p (search rules) (search rules)

pub returns-then-dst-e : goal.returns-then-dst-e
returns-then-dst-e c = let g = c.loop-i.invariant in
    let l = c.look-codes.ensures in
    let f = c.first-k.ensures.0 in
    unpacking_full _ _ _ _ _ _ g _ _ _ l f (search rules) (search rules) _ c.if-k-eq64.false c.wide-n.ensures.0 _ _ _ c.rest-why.ensures c.if-n-eq0.false c.if-dst-e.true c.refused_part-then-dst-e.ensures

pub loop-i-preserved : goal.loop-i-preserved
loop-i-preserved c = let g = c.loop-i.invariant in
    let l = c.look-codes.ensures in
    let f = c.first-k.ensures.0 in
    let p = c.fill_run.ensures in
    unpacking_run _ _ _ _ _ _ g _ _ _ l f (search rules) (search rules) _ c.if-k-eq64.false (search rules) _ (search rules) _ _ c.after-else-n-le32.ensures c.after-codes-else-n-le32.ensures p (search rules)

pub returns : goal.returns
returns c = search rest_into
