use Rattle.gm_tool.proofs.Duals.{printed_dual, turned_within, unmade_within}
use Rattle.gm_tool.proofs.dual.map_text.Goals as goal

pub returns-in_err-dual-clause-most : goal.returns-in_err-dual-clause-most
returns-in_err-dual-clause-most g c = unmade_within c.args.arena.now.schema.dim c.args.arena.now.count _ _ c.dual_map.ensures.most

pub returns-clause-text : goal.returns-clause-text
returns-clause-text g c = printed_dual c.args.arena.now c.in_ok-dual.dual c.count.ensures.lawful c.count-2.ensures.lawful c.in_ok-dual.ensures.dual c.args.version c.print_map.result c.print_map.ensures.text

pub returns-clause-most : goal.returns-clause-most
returns-clause-most g c = turned_within c.args.arena.now c.in_ok-dual.dual c.count.ensures.lawful c.count-2.ensures.lawful c.in_ok-dual.ensures.dual _ _ _ c.dual_map.ensures.most c.print_map.ensures.most
