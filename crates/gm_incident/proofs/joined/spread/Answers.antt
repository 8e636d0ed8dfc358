use Rattle.std.proofs.Common.{◌≢◌, ◌<◌, ◌≤◌, inl, true, length, get_or, set, sym, arith}
use Rattle.std.proofs.lemmas.Bool.{false≢true}
use Rattle.std.proofs.lemmas.List.{take_all, length-set}
use Rattle.std.proofs.lemmas.List.Elements.{All-more, Contains-get_or}
use Rattle.gm_model.specs.declared.rule.Link.{Link}
use Rattle.gm_model.specs.Rules.{IsLinked}
use Rattle.gm_incident.specs.inner.Reached.{is_reached, unreached}
use Rattle.gm_incident.proofs.Marks.{HasEvenEnds, spread_more, unreached_less, differ, agree}
use Rattle.gm_incident.proofs.joined.spread.Goals as goal
use Rattle.gm_incident.proofs.joined.spread.Goals.{then-reached-link, else-reached-link}

pub loop-link-preserved : goal.loop-link-preserved
loop-link-preserved c =
    let links = c.args.links.now in
    let k = c.loop-link.link-index in
    let r = c.loop-link.reached in
    let link : Link = get_or links k record { from = 0; label = 0; to = 0 } in
    let b : k < length links = c.loop-link-test.true in
    let bf : link.from < length r = rw c.loop-link.invariant.len (c.requires k record { from = 0; label = 0; to = 0 } b).0 in
    let bt : link.to < length r = rw c.loop-link.invariant.len (c.requires k record { from = 0; label = 0; to = 0 } b).1 in
    elim c.if-reached-link.branch [
      | then-reached-link w ↦ (
          let linked : IsLinked links link.from link.label link.to = inl (Contains-get_or links k _ b) in
          let ne : is_reached r link.from ≢ is_reached r link.to = differ _ _ w.if-reached-link.true in
          let less : unreached (set (set r link.from true) link.to true) < unreached r = unreached_less r link.from link.to bf bt ne in
          let before : unreached r ≤ unreached c.args.reached.now = c.loop-link.invariant.no_more in
          rw (w.reached-is, w.has_spread-is) record {
            len = rw (length-set, length-set) c.loop-link.invariant.len;
            spread = spread_more links c.args.reached.now r link.from link.label link.to bf bt c.loop-link.invariant.spread linked ne;
            more = λ _. omega arith;
            no_more = omega arith;
            done = λ e. absurd (false≢true (sym e));
          })
      | else-reached-link w ↦ rw (w.reached-is, w.has_spread-is) record {
        len = c.loop-link.invariant.len;
        spread = c.loop-link.invariant.spread;
        more = c.loop-link.invariant.more;
        no_more = c.loop-link.invariant.no_more;
        done = λ e. All-more (HasEvenEnds r) links k record { from = 0; label = 0; to = 0 } b (c.loop-link.invariant.done e) (agree _ _ w.if-reached-link.false);
      }
    ]

pub returns-clause-done : goal.returns-clause-done
returns-clause-done c = λ e. rw (take_all c.loop-link.link-index c.args.links.now c.loop-link-test.false) at (c.loop-link.invariant.done e)
