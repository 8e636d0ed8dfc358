use Rattle.std.proofs.Common.{sym, ◌∙◌, ap}
use Rattle.gm_model.specs.declared.rule.Side.TheVariants.{Left}
use Rattle.gm_model.specs.Rules.{rule_of, letters, label_at}
use Rattle.gm_theory.proofs.Lists.{some_same, contained_at}
use Rattle.gm_match.proofs.EdgeRows.{only_letter}
use Rattle.std.proofs.lemmas.Option.{slice_get_within}
use Rattle.gm_arena.specs.inner.ArenaMap.{alpha, name_at}
use Rattle.gm_theory.proofs.Candidates.{letter_low}
use Rattle.gm_walk.proofs.NameLemmas.{at_name, live_at}
use Rattle.gm_match.proofs.EdgeWalks.{same_label}
use Rattle.gm_match.proofs.Hooks.{own_word}
use Rattle.gm_match.proofs.edges.hook_end.Goals as goal

pub unreachable-requires : goal.unreachable-requires
unreachable-requires g c =
    let letter = only_letter c.args.plan.now.schema c.args.plan.now.table c.rule.result.now c.args.hook c.word.result c.unwrap-word.result c.requires.matchable.planned c.requires.hook c.rule.ensures.rule c.word.ensures c.unwrap-word.ensures c.requires.one in
    c.in_default.not-At (label_at (letters (rule_of c.args.plan.now.table) Left c.args.hook) 0) (some_same _ _ (sym c.letter.ensures ∙ letter))

pub unwrap-word-requires : goal.unwrap-word-requires
unwrap-word-requires g c = own_word c.args.plan.now.schema c.args.plan.now.table c.rule.result.now c.args.hook c.word.result c.requires.matchable.planned c.requires.hook c.rule.ensures.rule c.word.ensures

pub letter-requires : goal.letter-requires
letter-requires g c = slice_get_within c.unwrap-word.result 0 _ (only_letter c.args.plan.now.schema c.args.plan.now.table c.rule.result.now c.args.hook c.word.result c.unwrap-word.result c.requires.matchable.planned c.requires.hook c.rule.ensures.rule c.word.ensures c.unwrap-word.ensures c.requires.one)

pub alpha-requires-clause-live : goal.alpha-requires-clause-live
alpha-requires-clause-live g c =
    c.requires.dart

pub alpha-requires-clause-label : goal.alpha-requires-clause-label
alpha-requires-clause-label g c =
    let planned = c.requires.matchable.planned in
    let same = same_label _ _ (sym c.in-At.is ∙ some_same _ _ (sym c.letter.ensures ∙ only_letter c.args.plan.now.schema c.args.plan.now.table c.rule.result.now c.args.hook c.word.result c.unwrap-word.result c.requires.matchable.planned c.requires.hook c.rule.ensures.rule c.word.ensures c.unwrap-word.ensures c.requires.one)) in
    rw (same, c.requires.matchable.schema) (letter_low c.args.plan.now.schema (rule_of c.args.plan.now.table) planned.accepted.in_range planned.accepted.incidence c.requires.hook.0 c.args.hook (contained_at (rule_of c.args.plan.now.table).hooks c.args.hook c.requires.hook) 0)

pub returns-clause-live : goal.returns-clause-live
returns-clause-live g c =
    live_at c.args.arena.now c.alpha.result.at _ c.alpha.ensures.neighbour

pub returns-clause-leads : goal.returns-clause-leads
returns-clause-leads g c =
    let m = c.args.arena.now in
    let same = same_label _ _ (sym c.in-At.is ∙ some_same _ _ (sym c.letter.ensures ∙ only_letter c.args.plan.now.schema c.args.plan.now.table c.rule.result.now c.args.hook c.word.result c.unwrap-word.result c.requires.matchable.planned c.requires.hook c.rule.ensures.rule c.word.ensures c.unwrap-word.ensures c.requires.one)) in
    at_name m c.alpha.result.at _ c.alpha.ensures.neighbour ∙ ap (λ i. alpha m i (name_at m c.args.dart.at)) same

pub returns-clause-cost : goal.returns-clause-cost
returns-clause-cost g c = c.alpha.ensures.cost
