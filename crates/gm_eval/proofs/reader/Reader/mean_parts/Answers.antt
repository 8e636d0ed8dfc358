use Rattle.std.proofs.Common.{sym, ◌∙◌}
use Rattle.std.proofs.lemmas.Bool.{false≢true}
use Rattle.gm_eval.proofs.Adding.{same_adds}
use Rattle.gm_eval.proofs.Sharing.{mean_within, own_path, same_kept, some_hand, some_room}
use Rattle.gm_eval.proofs.reader.Reader.mean_parts.Goals as goal

pub returns-else-is_keepable-clause-cost : goal.returns-else-is_keepable-clause-cost
returns-else-is_keepable-clause-cost g c = mean_within c.args.self.now c.args.kept.now c.args.mask c.args.term.now c.args.embed _ _
    (λ x y own owned at_hand there. false≢true (sym c.if-is_keepable.false ∙ c.is_keepable.ensures.1 (some_hand c.args.kept.now x at_hand, own.0)))
    c.sum_and_count.ensures.cost

pub returns-else-is_keepable-clause-stays : goal.returns-else-is_keepable-clause-stays
returns-else-is_keepable-clause-stays g c = same_kept _

pub returns-else-is_keepable-clause-adds : goal.returns-else-is_keepable-clause-adds
returns-else-is_keepable-clause-adds g c = same_adds _ _

pub returns-else-is_keepable-clause-left : goal.returns-else-is_keepable-clause-left
returns-else-is_keepable-clause-left g c = λ room x own shared.
    absurd (false≢true (sym c.if-is_keepable.false ∙ c.is_keepable.ensures.1 (some_room c.args.kept.now room, own_path c.args.mask c.args.term.now c.args.embed x own)))

pub kept_mean_parts-requires-clause-ready : goal.kept_mean_parts-requires-clause-ready
kept_mean_parts-requires-clause-ready g c = c.requires.ready

pub kept_mean_parts-requires-clause-fits : goal.kept_mean_parts-requires-clause-fits
kept_mean_parts-requires-clause-fits g c = c.requires.fits

pub kept_mean_parts-requires-clause-kept : goal.kept_mean_parts-requires-clause-kept
kept_mean_parts-requires-clause-kept g c = c.requires.kept

pub kept_mean_parts-requires-clause-open : goal.kept_mean_parts-requires-clause-open
kept_mean_parts-requires-clause-open g c = (c.is_keepable.ensures.0 c.if-is_keepable.true).0

pub kept_mean_parts-requires-clause-own : goal.kept_mean_parts-requires-clause-own
kept_mean_parts-requires-clause-own g c = (c.is_keepable.ensures.0 c.if-is_keepable.true).1

pub sum_and_count-requires-clause-ready : goal.sum_and_count-requires-clause-ready
sum_and_count-requires-clause-ready g c = c.requires.ready

pub sum_and_count-requires-clause-fits : goal.sum_and_count-requires-clause-fits
sum_and_count-requires-clause-fits g c = c.requires.fits

pub returns-then-is_keepable-clause-sum : goal.returns-then-is_keepable-clause-sum
returns-then-is_keepable-clause-sum g c = c.kept_mean_parts.ensures.sum

pub returns-then-is_keepable-clause-count : goal.returns-then-is_keepable-clause-count
returns-then-is_keepable-clause-count g c = c.kept_mean_parts.ensures.count

pub returns-then-is_keepable-clause-cost : goal.returns-then-is_keepable-clause-cost
returns-then-is_keepable-clause-cost g c = c.kept_mean_parts.ensures.cost

pub returns-then-is_keepable-clause-once : goal.returns-then-is_keepable-clause-once
returns-then-is_keepable-clause-once g c = c.kept_mean_parts.ensures.once

pub returns-then-is_keepable-clause-least : goal.returns-then-is_keepable-clause-least
returns-then-is_keepable-clause-least g c = c.kept_mean_parts.ensures.least

pub returns-then-is_keepable-clause-room : goal.returns-then-is_keepable-clause-room
returns-then-is_keepable-clause-room g c = c.kept_mean_parts.ensures.room

pub returns-then-is_keepable-clause-kept : goal.returns-then-is_keepable-clause-kept
returns-then-is_keepable-clause-kept g c = c.kept_mean_parts.ensures.kept

pub returns-then-is_keepable-clause-stays : goal.returns-then-is_keepable-clause-stays
returns-then-is_keepable-clause-stays g c = c.kept_mean_parts.ensures.stays

pub returns-then-is_keepable-clause-adds : goal.returns-then-is_keepable-clause-adds
returns-then-is_keepable-clause-adds g c = c.kept_mean_parts.ensures.adds

pub returns-then-is_keepable-clause-left : goal.returns-then-is_keepable-clause-left
returns-then-is_keepable-clause-left g c = c.kept_mean_parts.ensures.left

pub returns-else-is_keepable-clause-sum : goal.returns-else-is_keepable-clause-sum
returns-else-is_keepable-clause-sum g c = c.sum_and_count.ensures.sum

pub returns-else-is_keepable-clause-count : goal.returns-else-is_keepable-clause-count
returns-else-is_keepable-clause-count g c = c.sum_and_count.ensures.count

pub returns-else-is_keepable-clause-least : goal.returns-else-is_keepable-clause-least
returns-else-is_keepable-clause-least g c = c.sum_and_count.ensures.least

pub returns-else-is_keepable-clause-room : goal.returns-else-is_keepable-clause-room
returns-else-is_keepable-clause-room g c = c.sum_and_count.ensures.room

pub returns-else-is_keepable-clause-once : goal.returns-else-is_keepable-clause-once
returns-else-is_keepable-clause-once g c = c.sum_and_count.ensures.cost

pub returns-else-is_keepable-clause-kept : goal.returns-else-is_keepable-clause-kept
returns-else-is_keepable-clause-kept g c = c.requires.kept
