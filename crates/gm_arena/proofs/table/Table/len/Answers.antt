use Rattle.std.proofs.Common.{sym, ap, ◌∙◌, length}
use Rattle.gm_arena.proofs.ListingLemmas.{length-listing}
use Rattle.gm_arena.proofs.table.Table.len.Goals as goal

pub returns : goal.returns
returns c = sym (ap length (sym c.self.view_is) ∙ length-listing _ _ _ _ _ c.self.invariant)
