use Rattle.std.proofs.Common.{◌≡◌, ◌<◌, length, refl, sym, subst, ◌∙◌, arith}
use Rattle.std.specs.Prelude.{slice_index}
use Rattle.gm_model.specs.Rules.{rule_of}
use Rattle.gm_walk.specs.inner.Walks.{names_of}
use Rattle.gm_match.specs.inner.Layout.{dart_at}
use Rattle.gm_match.proofs.Costs.{one_each}
use Rattle.gm_match.proofs.Growing.{one_hook}
use Rattle.gm_match.proofs.Hooks.{hooks_long, hook_at, hook_below}
use Rattle.gm_match.proofs.columns.write_columns.Goals as goal

pub bounds-as_slice-0 : goal.bounds-as_slice-0
bounds-as_slice-0 g c =
    subst (λ n. 0 < n) (sym (hooks_long c.args.plan.now.table c.rule.result.now c.as_slice.result.now c.rule.ensures.rule c.as_slice.ensures ∙ c.requires.one)) (omega arith)

pub lay_walk-requires-clause-node : goal.lay_walk-requires-clause-node
lay_walk-requires-clause-node g c =
    let some : 0 < length c.as_slice.result.now = subst (λ n. 0 < n) (sym (hooks_long c.args.plan.now.table c.rule.result.now c.as_slice.result.now c.rule.ensures.rule c.as_slice.ensures ∙ c.requires.one)) (omega arith) in
    hook_below c.args.plan.now.schema c.args.plan.now.table c.rule.result.now c.as_slice.result.now c.requires.matchable.planned c.rule.ensures.rule c.as_slice.ensures 0 some c.args.nodes c.requires.nodes

pub lay_walk-requires-clause-few : goal.lay_walk-requires-clause-few
lay_walk-requires-clause-few g c = c.requires.few

pub lay_walk-requires-clause-long : goal.lay_walk-requires-clause-long
lay_walk-requires-clause-long g c = c.requires.long

pub lay_walk-requires-clause-walk : goal.lay_walk-requires-clause-walk
lay_walk-requires-clause-walk g c = c.requires.walk

pub lay_walk-requires-clause-live : goal.lay_walk-requires-clause-live
lay_walk-requires-clause-live g c = c.requires.live

pub follow_links-requires-clause-matchable : goal.follow_links-requires-clause-matchable
follow_links-requires-clause-matchable g c = c.requires.matchable

pub follow_links-requires-clause-nodes : goal.follow_links-requires-clause-nodes
follow_links-requires-clause-nodes g c = c.requires.nodes

pub follow_links-requires-clause-few : goal.follow_links-requires-clause-few
follow_links-requires-clause-few g c = c.requires.few

pub follow_links-requires-clause-long : goal.follow_links-requires-clause-long
follow_links-requires-clause-long g c = c.requires.long ∙ sym c.lay_walk.ensures.long

pub follow_links-requires-clause-live : goal.follow_links-requires-clause-live
follow_links-requires-clause-live g c = c.lay_walk.ensures.live

pub returns-clause-long : goal.returns-clause-long
returns-clause-long g c =
    c.follow_links.ensures.long ∙ c.lay_walk.ensures.long

pub returns-clause-columns : goal.returns-clause-columns
returns-clause-columns g c =
    let m = c.args.arena.now in
    let rule = rule_of c.args.plan.now.table in
    let nodes = c.args.nodes in
    let some : 0 < length c.as_slice.result.now = subst (λ n. 0 < n) (sym (hooks_long c.args.plan.now.table c.rule.result.now c.as_slice.result.now c.rule.ensures.rule c.as_slice.ensures ∙ c.requires.one)) (omega arith) in
    let at = hook_at c.args.plan.now.schema c.args.plan.now.table c.rule.result.now c.as_slice.result.now c.requires.matchable.planned c.rule.ensures.rule c.as_slice.ensures 0 some in
    record {
      long = c.requires.long ∙ sym (c.follow_links.ensures.long ∙ c.lay_walk.ensures.long);
      live = c.follow_links.ensures.live;
      hooked = λ h p first less. c.follow_links.ensures.hooks 0 h p less first ∙ subst (λ x. dart_at m nodes c.lay_walk.new.slots x p ≡ slice_index (names_of m c.args.walk.now) p) (one_hook rule.hooks 0 0 _ h at first refl) (c.lay_walk.ensures.lies p less);
      forced = c.follow_links.ensures.forced;
    }

pub returns-clause-cost : goal.returns-clause-cost
returns-clause-cost g c = one_each _ _ _ _ _ c.requires.one c.follow_links.ensures.cost

pub returns-clause-least : goal.returns-clause-least
returns-clause-least g c = c.follow_links.ensures.least
