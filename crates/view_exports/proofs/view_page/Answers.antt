use mathlib.Core.Path.{refl}
use Rattle.view_exports.proofs.ShownPages.{page_none, page_shown, page_over}
use borrow.Author.Rules.{rules}
use Rattle.view_exports.proofs.view_page.Goals as goal

pub returns-then-n-out : goal.returns-then-n-out
returns-then-n-out c = page_shown _ _ _ _ _ _ _ c.decode_header-decoded.ensures c.fill.ensures _ _ (search rules) c.view-part.ensures refl _ (search rules) c.put_at.ensures

pub returns-else-n-out : goal.returns-else-n-out
returns-else-n-out c = page_over _ _ _ _ _ _ _ c.decode_header-decoded.ensures c.fill.ensures _ _ (search rules) c.view-part.ensures refl (search rules)

pub returns : goal.returns
returns c = page_none _ _ _ _ _ _ _ c.decode_header-decoded.ensures c.fill.ensures (search rules)
