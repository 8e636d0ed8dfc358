use Rattle.std.proofs.Common.{◌+◌, ◌*◌, ap, subst, ◌∙◌, falls, inl, inr, le_of_eq, le_refl, le_trans, le-add_right, lt_irrefl}
use Rattle.std.proofs.lemmas.Bool.{cases_lt}
use Rattle.gm_arena.specs.inner.ArenaMap.{name_at}
use Rattle.gm_arena.proofs.InsideLemmas.{is_some_at}
use Rattle.gm_model.specs.declared.schema.Schema.{Schema}
use Rattle.gm_laws.specs.inner.Darts.{Commute}
use Rattle.gm_laws.proofs.CommuteLemmas.{above_fits, below_end, crosses, end_fits, label_upto, last_label, left_at, left_behind, meets, next_upto, no_less, none_between, three_each, three_more}
use Rattle.gm_laws.proofs.commuting.label_not_commuting.Goals as goal

pub overflow_step-j : goal.overflow_step-j
overflow_step-j g c = above_fits c.args.i c.args.arena.now.schema.dim c.requires.label c.requires.lawful.dim.1

pub overflow_add-j-end : goal.overflow_add-j-end
overflow_add-j-end g c = end_fits c.top-j-end.result c.schema.result.now.dim c.top-j-end.ensures.value c.top-j-end.ensures.greatest

pub loop-j-init : goal.loop-j-init
loop-j-init g c = record {
  commute = λ j past low. absurd (none_between j (c.args.i + 2) past low);
  from = le_refl _;
  upto = λ less. absurd (lt_irrefl _ less);
  cost = le_of_eq (ap (λ n. n + 3 * (c.args.i + 2)) c.alpha-to.ensures.cost);
  least = no_less c.args.steps.now c.args.steps.now c.alpha-to.new.steps 1 (le_refl _) c.alpha-to.ensures.cost;
}

pub alpha-across-requires : goal.alpha-across-requires
alpha-across-requires g c = record {
  live = c.requires.live;
  label = label_upto c.loop-j.j c.top-j-end.result c.args.arena.now.schema.dim c.loop-j-test.true (c.top-j-end.ensures.value ∙ ap (λ (s : Schema). s.dim) c.schema.ensures);
}

pub alpha-requires : goal.alpha-requires
alpha-requires g c = record { live = is_some_at _ _ c.alpha-across.ensures.neighbour; label = c.requires.label }

pub alpha-requires-in-loop-j : goal.alpha-requires-in-loop-j
alpha-requires-in-loop-j g c = record {
  live = is_some_at _ _ c.alpha-to.ensures.neighbour;
  label = label_upto c.loop-j.j c.top-j-end.result c.args.arena.now.schema.dim c.loop-j-test.true (c.top-j-end.ensures.value ∙ ap (λ (s : Schema). s.dim) c.schema.ensures);
}

pub returns-then-ne : goal.returns-then-ne
returns-then-ne g c =
    let m = c.args.arena.now in
    let i = c.loop-j.invariant in
    let j = c.loop-j.j in
    let low = label_upto j c.top-j-end.result m.schema.dim c.loop-j-test.true (c.top-j-end.ensures.value ∙ ap (λ (s : Schema). s.dim) c.schema.ensures) in
    let steps = three_more c.loop-j.steps c.alpha-across.new.steps c.alpha.new.steps c.alpha-in-loop-j.new.steps c.alpha-across.ensures.cost c.alpha.ensures.cost c.alpha-in-loop-j.ensures.cost in
    record {
      label = record {
        one = (i.from, low);
        fails = crosses m c.requires.lawful (name_at m c.args.slot.at) c.args.i j c.alpha-across.result.at c.alpha-to.result.at c.alpha.result.at c.alpha-in-loop-j.result.at
            c.alpha-across.ensures.neighbour c.alpha.ensures.neighbour c.alpha-to.ensures.neighbour c.alpha-in-loop-j.ensures.neighbour c.if-ne.ensures;
        before = λ k less distant. i.commute k distant.0 less;
      };
      cost = left_at c.args.steps.now c.args.i c.loop-j.steps c.alpha-in-loop-j.new.steps j m.schema.dim i.cost steps low;
      least = no_less c.args.steps.now c.loop-j.steps c.alpha-in-loop-j.new.steps 3 i.least steps;
    }

pub loop-j-smaller : goal.loop-j-smaller
loop-j-smaller g c = falls _ c.loop-j.j c.loop-j-test.true

pub loop-j-preserved : goal.loop-j-preserved
loop-j-preserved g c =
    let m = c.args.arena.now in
    let d = name_at m c.args.slot.at in
    let i = c.loop-j.invariant in
    let j = c.loop-j.j in
    let low = label_upto j c.top-j-end.result m.schema.dim c.loop-j-test.true (c.top-j-end.ensures.value ∙ ap (λ (s : Schema). s.dim) c.schema.ensures) in
    let steps = three_more c.loop-j.steps c.alpha-across.new.steps c.alpha.new.steps c.alpha-in-loop-j.new.steps c.alpha-across.ensures.cost c.alpha.ensures.cost c.alpha-in-loop-j.ensures.cost in
    let here = meets m c.requires.lawful d c.args.i j c.alpha-across.result.at c.alpha-to.result.at c.alpha.result.at c.alpha-in-loop-j.result.at
    c.alpha-across.ensures.neighbour c.alpha.ensures.neighbour c.alpha-to.ensures.neighbour c.alpha-in-loop-j.ensures.neighbour c.if-ne.ensures in
    record {
      commute = λ k past less. elim (cases_lt k j) [
        | inl before ↦ i.commute k past before
        | inr behind ↦ subst (Commute m d c.args.i) (last_label k j less behind) here
      ];
      from = le_trans i.from (le-add_right _ _);
      upto = λ more. next_upto j m.schema.dim low;
      cost = three_each c.args.steps.now (c.args.i + 2) c.loop-j.steps c.alpha-in-loop-j.new.steps j i.cost steps;
      least = no_less c.args.steps.now c.loop-j.steps c.alpha-in-loop-j.new.steps 3 i.least steps;
    }

pub returns : goal.returns
returns g c =
    let m = c.args.arena.now in
    let i = c.loop-j.invariant in
    record {
      label = λ j distant. i.commute j distant.0 (below_end j c.top-j-end.result m.schema.dim c.loop-j.j distant.1 (c.top-j-end.ensures.value ∙ ap (λ (s : Schema). s.dim) c.schema.ensures) c.loop-j-test.false);
      cost = left_behind c.args.steps.now c.args.i c.loop-j.steps c.loop-j.j m.schema.dim i.cost i.upto;
      least = i.least;
    }
