use Rattle.std.proofs.Common.{ℕ, get_or, refl, ◌∙◌, arith}
use Rattle.std.proofs.lemmas.Option.{slice_get-get_or}
use Rattle.gm_model.specs.Rules.{link_from, rule_of}
use Rattle.gm_match.specs.inner.Layout.{dart_at}
use Rattle.gm_match.proofs.Column.{links_cost}
use Rattle.gm_match.proofs.Paths.{from_left, to_left, low_label, few_links, hooks_reached, hooks_stay, all_forced, link_reached}
use Rattle.gm_match.proofs.columns.follow_links.Goals as goal

pub loop-link-init : goal.loop-link-init
loop-link-init g c =
    let m = c.args.arena.now in
    record {
      long = refl;
      live = c.requires.live;
      reached = λ p less. hooks_reached c.args.plan.now.schema (rule_of c.args.plan.now.table) c.requires.matchable.planned c.paths-link-items.result.now c.paths-link-items.ensures m (λ x. dart_at m c.args.nodes c.args.slots.now x p);
      cost = omega arith;
    }

pub follow_link-requires-clause-from : goal.follow_link-requires-clause-from
follow_link-requires-clause-from g c =
    let links = c.paths-link-items.result.now in
    (c.requires.nodes _).0 (from_left c.args.plan.now.schema (rule_of c.args.plan.now.table) c.requires.matchable.planned links c.paths-link-items.ensures _ _ (slice_get-get_or links c.loop-link.link-index (link_from 0 0 0) (omega arith)))

pub follow_link-requires-clause-to : goal.follow_link-requires-clause-to
follow_link-requires-clause-to g c =
    let links = c.paths-link-items.result.now in
    (c.requires.nodes _).0 (to_left c.args.plan.now.schema (rule_of c.args.plan.now.table) c.requires.matchable.planned links c.paths-link-items.ensures _ _ (slice_get-get_or links c.loop-link.link-index (link_from 0 0 0) (omega arith)))

pub follow_link-requires-clause-label : goal.follow_link-requires-clause-label
follow_link-requires-clause-label g c =
    let links = c.paths-link-items.result.now in
    rw c.requires.matchable.schema (low_label c.args.plan.now.schema (rule_of c.args.plan.now.table) c.requires.matchable.planned links c.paths-link-items.ensures _ _ (slice_get-get_or links c.loop-link.link-index (link_from 0 0 0) (omega arith)))

pub loop-link-preserved : goal.loop-link-preserved
loop-link-preserved g c =
    let m = c.args.arena.now in
    let nodes = c.args.nodes in
    let links = c.paths-link-items.result.now in
    let link = get_or links c.loop-link.link-index (link_from 0 0 0) in
    let at = slice_get-get_or links c.loop-link.link-index (link_from 0 0 0) (omega arith) in
    let i = c.loop-link.invariant in
    let led = c.follow_link.ensures in
    record {
      long = led.long ∙ i.long;
      live = led.live;
      reached = λ p less. link_reached c.args.plan.now.schema (rule_of c.args.plan.now.table) c.requires.matchable.planned links c.paths-link-items.ensures m (λ x. dart_at m nodes c.args.slots.now x p) c.loop-link.link-index link (λ x. dart_at m nodes c.loop-link.slots x p) (λ x. dart_at m nodes c.follow_link.new.slots x p) at (i.reached p less) (led.led p less)
          (λ x left apart. led.stays x p ((c.requires.nodes x).0 left) apart);
      cost = omega (arith, i.cost, led.cost);
    }

pub returns-clause-hooks : goal.returns-clause-hooks
returns-clause-hooks g c =
    let m = c.args.arena.now in
    let nodes = c.args.nodes in
    let schema = c.args.plan.now.schema in
    let rule = rule_of c.args.plan.now.table in
    let planned = c.requires.matchable.planned in
    let links = c.paths-link-items.result.now in
    let are = c.paths-link-items.ensures in
    let old : ℕ → ℕ → ℕ = λ p x. dart_at m nodes c.args.slots.now x p in
    let new : ℕ → ℕ → ℕ = λ p x. dart_at m nodes c.loop-link.slots x p in
    λ t h p less at. hooks_stay schema rule planned links are m (old p) c.loop-link.link-index (new p) (omega arith) (c.loop-link.invariant.reached p less) t h at

pub returns-clause-forced : goal.returns-clause-forced
returns-clause-forced g c =
    let m = c.args.arena.now in
    let nodes = c.args.nodes in
    let schema = c.args.plan.now.schema in
    let rule = rule_of c.args.plan.now.table in
    let planned = c.requires.matchable.planned in
    let links = c.paths-link-items.result.now in
    let are = c.paths-link-items.ensures in
    let old : ℕ → ℕ → ℕ = λ p x. dart_at m nodes c.args.slots.now x p in
    let new : ℕ → ℕ → ℕ = λ p x. dart_at m nodes c.loop-link.slots x p in
    λ x p hook path less to. all_forced schema rule planned links are m (old p) c.loop-link.link-index (new p) (omega arith) (c.loop-link.invariant.reached p less) x hook path to

pub returns-clause-cost : goal.returns-clause-cost
returns-clause-cost g c =
    let few = few_links c.args.plan.now.schema (rule_of c.args.plan.now.table) c.requires.matchable.planned c.paths-link-items.result.now c.paths-link-items.ensures in
    links_cost c.args.rows c.loop-link.link-index _ _ _ _ _ c.loop-link.auto.link-index-end few c.loop-link.invariant.cost
