use Rattle.std.proofs.Common.{◌≡◌, ◌+◌, ◌*◌, ◌≤◌, ap, subst, ◌∙◌, falls, inl, inr, le_refl, le_trans, le-add_right}
use Rattle.std.proofs.lemmas.Bool.{cases_lt}
use Rattle.gm_arena.specs.inner.ArenaMap.{name_at}
use Rattle.gm_model.specs.declared.schema.Schema.{Schema}
use Rattle.gm_laws.specs.inner.Darts.{CommutesWith}
use Rattle.gm_laws.proofs.CommuteLemmas.{below_end, end_fits, label_upto, last_label, next_upto, none_yet}
use Rattle.gm_laws.proofs.CostLemmas.{in_all, one_more}
use Rattle.gm_laws.proofs.commuting.labels_not_commuting.Goals as goal

pub overflow_add-i-end : goal.overflow_add-i-end
overflow_add-i-end g c = end_fits c.top-i-end.result c.schema.result.now.dim c.top-i-end.ensures.value c.top-i-end.ensures.greatest

pub loop-i-init : goal.loop-i-init
loop-i-init g c = record { commute = λ i low. absurd (none_yet i low); cost = le-add_right _ _; least = le_refl _ }

pub label_not_commuting-requires : goal.label_not_commuting-requires
label_not_commuting-requires g c = record {
  lawful = c.requires.lawful;
  live = c.requires.live;
  label = label_upto c.loop-i.i c.top-i-end.result c.args.arena.now.schema.dim c.loop-i-test.true (c.top-i-end.ensures.value ∙ ap (λ (s : Schema). s.dim) c.schema.ensures);
}

pub returns-in-Some : goal.returns-in-Some
returns-in-Some g c =
    let dim = c.args.arena.now.schema.dim in
    let i = c.loop-i.invariant in
    let e = c.in-Some.ensures in
    let low = label_upto c.loop-i.i c.top-i-end.result dim c.loop-i-test.true (c.top-i-end.ensures.value ∙ ap (λ (s : Schema). s.dim) c.schema.ensures) in
    let cost = one_more c.args.steps.now c.loop-i.steps c.label_not_commuting.new.steps c.loop-i.i (3 * (dim + 1) + 1) i.cost e.cost in
    record {
      labels = (record { one = low; fails = λ all. e.label.fails (all c.in-Some.j e.label.one); before = λ k less label. i.commute k less }, e.label);
      cost = in_all c.args.steps.now c.label_not_commuting.new.steps (c.loop-i.i + 1) (dim + 1) (3 * (dim + 1) + 1) cost (next_upto c.loop-i.i dim low);
      least = le_trans i.least e.least;
    }

pub loop-i-smaller : goal.loop-i-smaller
loop-i-smaller g c = falls _ c.loop-i.i c.loop-i-test.true

pub loop-i-preserved : goal.loop-i-preserved
loop-i-preserved g c =
    let m = c.args.arena.now in
    let i = c.loop-i.invariant in
    let e = c.in_default.ensures in
    record {
      commute = λ k less. elim (cases_lt k c.loop-i.i) [
        | inl before ↦ i.commute k before
        | inr behind ↦ subst (CommutesWith m (name_at m c.args.slot.at)) (last_label k c.loop-i.i less behind) e.label
      ];
      cost = one_more c.args.steps.now c.loop-i.steps c.label_not_commuting.new.steps c.loop-i.i (3 * (m.schema.dim + 1) + 1) i.cost e.cost;
      least = le_trans i.least e.least;
    }

pub returns : goal.returns
returns g c =
    let dim = c.args.arena.now.schema.dim in
    let i = c.loop-i.invariant in
    let top : c.top-i-end.result ≡ dim = c.top-i-end.ensures.value ∙ ap (λ (s : Schema). s.dim) c.schema.ensures in
    record {
      labels = λ k low. i.commute k (below_end k c.top-i-end.result dim c.loop-i.i low top c.loop-i-test.false);
      cost = in_all c.args.steps.now c.loop-i.steps c.loop-i.i (dim + 1) (3 * (dim + 1) + 1) i.cost (subst (λ t. c.loop-i.i ≤ t + 1) top c.loop-i.auto.i-end);
      least = i.least;
    }
