use Rattle.std.proofs.Common.{◌≡◌, ◌<◌, inl, true, length, get_or, sym, ◌∙◌}
use Rattle.std.proofs.lemmas.Bool.{false≢true}
use Rattle.std.proofs.lemmas.List.{take_all}
use Rattle.std.proofs.lemmas.List.Elements.{All-more, Contains-get_or}
use Rattle.gm_model.specs.declared.rule.Link.{Link}
use Rattle.gm_model.specs.Labels.{has}
use Rattle.gm_model.specs.Rules.{IsLinked}
use Rattle.gm_embcheck.specs.inner.Leaders.{leader_in, HasJoined}
use Rattle.gm_embcheck.proofs.Leaders.{IsClosed, closed_more, joined_more, are_leaders}
use Rattle.gm_embcheck.proofs.component.leaders_of.Goals as goal
use Rattle.gm_embcheck.proofs.component.leaders_of.Goals.{then-has, else-has}

pub loop-link-preserved : goal.loop-link-preserved
loop-link-preserved c =
    let links = c.args.links.now in
    let o = has c.args.mask in
    let k = c.loop-link.link-index in
    let old = c.loop-link.leaders in
    let link : Link = get_or links k record { from = 0; label = 0; to = 0 } in
    let b : k < length links = c.loop-link-test.true in
    let bounds = c.requires k record { from = 0; label = 0; to = 0 } b in
    elim c.if-has.branch [
      | then-has w ↦ (
          let linked : IsLinked links link.from link.label link.to = inl (Contains-get_or links k _ b) in
          let typed : o link.label ≡ true = rw (← c.has.ensures) w.if-has.true in
          let joined : HasJoined old w.join.new.leaders (leader_in old link.from) (leader_in old link.to) = w.join.ensures in
          rw w.leaders-is record {
            joined = joined_more links o old w.join.new.leaders link.from link.label link.to bounds.0 bounds.1 c.loop-link.invariant.joined typed linked joined;
            closed = closed_more links o old w.join.new.leaders k b c.requires c.loop-link.invariant.closed joined;
          })
      | else-has w ↦ rw w.leaders-is record {
        joined = c.loop-link.invariant.joined;
        closed = All-more (IsClosed old o) links k record { from = 0; label = 0; to = 0 } b c.loop-link.invariant.closed
            (λ h. absurd (false≢true (sym w.if-has.false ∙ c.has.ensures ∙ h)));
      }
    ]

pub returns : goal.returns
returns c =
    are_leaders c.args.links.now (has c.args.mask) c.requires c.loop-link.leaders c.loop-link.invariant.joined
    (rw (take_all c.loop-link.link-index c.args.links.now c.loop-link-test.false) at c.loop-link.invariant.closed)
