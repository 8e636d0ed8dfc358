use Rattle.std.proofs.Common.{length, sym, subst, ◌∙◌, ◌<◌}
use Rattle.gm_model.specs.Rules.{rule_of}
use Rattle.gm_walk.specs.inner.Walks.{names_of}
use Rattle.gm_match.proofs.EdgeRows.{edge_cost, edge_rows}
use Rattle.gm_match.proofs.edges.write_edge.Goals as goal

pub returns-clause-rows : goal.returns-clause-rows
returns-clause-rows g c = λ turns.
    let m = c.args.arena.now in
    let rule = rule_of c.args.plan.now.table in
    edge_rows m rule (names_of m c.args.darts.now) (names_of m c.args.walk.now) turns c.args.nodes (length c.args.walk.now) c.lay_hooks.new.slots c.follow_links.new.slots c.requires.one c.requires.short c.requires.walked.starts c.lay_hooks.ensures.laid
    (λ t h p less at. c.follow_links.ensures.hooks t h p less at) (c.requires.long ∙ sym (c.follow_links.ensures.long ∙ c.lay_hooks.ensures.long)) c.follow_links.ensures.live c.follow_links.ensures.forced

pub returns-clause-cost : goal.returns-clause-cost
returns-clause-cost g c = edge_cost _ _ _ _ _ _ c.requires.walked.some_position (subst (λ n. 0 < n) c.requires.walked.count c.requires.walked.some) c.lay_hooks.ensures.cost c.follow_links.ensures.cost

pub lay_hooks-requires-clause-one : goal.lay_hooks-requires-clause-one
lay_hooks-requires-clause-one g c = c.requires.one

pub lay_hooks-requires-clause-nodes : goal.lay_hooks-requires-clause-nodes
lay_hooks-requires-clause-nodes g c = c.requires.nodes

pub lay_hooks-requires-clause-few : goal.lay_hooks-requires-clause-few
lay_hooks-requires-clause-few g c = c.requires.few

pub lay_hooks-requires-clause-short : goal.lay_hooks-requires-clause-short
lay_hooks-requires-clause-short g c = c.requires.short

pub lay_hooks-requires-clause-long : goal.lay_hooks-requires-clause-long
lay_hooks-requires-clause-long g c = c.requires.long

pub lay_hooks-requires-clause-live : goal.lay_hooks-requires-clause-live
lay_hooks-requires-clause-live g c = c.requires.live

pub follow_links-requires-clause-matchable : goal.follow_links-requires-clause-matchable
follow_links-requires-clause-matchable g c = c.requires.walked.matchable

pub follow_links-requires-clause-nodes : goal.follow_links-requires-clause-nodes
follow_links-requires-clause-nodes g c = c.requires.nodes

pub follow_links-requires-clause-long : goal.follow_links-requires-clause-long
follow_links-requires-clause-long g c = c.requires.long ∙ sym c.lay_hooks.ensures.long

pub follow_links-requires-clause-live : goal.follow_links-requires-clause-live
follow_links-requires-clause-live g c = c.lay_hooks.ensures.live

pub returns-clause-long : goal.returns-clause-long
returns-clause-long g c = c.follow_links.ensures.long ∙ c.lay_hooks.ensures.long

pub lay_hooks-requires-clause-walked : goal.lay_hooks-requires-clause-walked
lay_hooks-requires-clause-walked g c = c.requires.walked
