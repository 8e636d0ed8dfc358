use Rattle.std.proofs.Common.{sym, ◌∙◌}
use Rattle.std.proofs.lemmas.Bool.{false≢true}
use Rattle.gm_eval.proofs.Adding.{same_adds}
use Rattle.gm_eval.proofs.Sharing.{own_within, same_kept, some_hand, some_room}
use Rattle.gm_eval.proofs.reader.Reader.collected.Goals as goal

pub returns-else-is_keepable-clause-cost : goal.returns-else-is_keepable-clause-cost
returns-else-is_keepable-clause-cost g c = own_within c.args.self.now c.args.kept.now c.args.form c.args.mask c.args.term.now c.args.embed _ _
    (λ x own at_hand. false≢true (sym c.if-is_keepable.false ∙ c.is_keepable.ensures.1 (some_hand c.args.kept.now x at_hand, own.0)))
    c.computed.ensures.cost

pub returns-else-is_keepable-clause-stays : goal.returns-else-is_keepable-clause-stays
returns-else-is_keepable-clause-stays g c = same_kept _

pub returns-else-is_keepable-clause-adds : goal.returns-else-is_keepable-clause-adds
returns-else-is_keepable-clause-adds g c = same_adds _ _

pub returns-else-is_keepable-clause-left : goal.returns-else-is_keepable-clause-left
returns-else-is_keepable-clause-left g c = λ room x own shared. absurd (false≢true (sym c.if-is_keepable.false ∙ c.is_keepable.ensures.1 (some_room c.args.kept.now room, own.0)))

pub kept_or_computed-requires-clause-ready : goal.kept_or_computed-requires-clause-ready
kept_or_computed-requires-clause-ready g c = c.requires.ready

pub kept_or_computed-requires-clause-fits : goal.kept_or_computed-requires-clause-fits
kept_or_computed-requires-clause-fits g c = c.requires.fits

pub kept_or_computed-requires-clause-kept : goal.kept_or_computed-requires-clause-kept
kept_or_computed-requires-clause-kept g c = c.requires.kept

pub kept_or_computed-requires-clause-open : goal.kept_or_computed-requires-clause-open
kept_or_computed-requires-clause-open g c = (c.is_keepable.ensures.0 c.if-is_keepable.true).0

pub kept_or_computed-requires-clause-own : goal.kept_or_computed-requires-clause-own
kept_or_computed-requires-clause-own g c = (c.is_keepable.ensures.0 c.if-is_keepable.true).1

pub computed-requires-clause-ready : goal.computed-requires-clause-ready
computed-requires-clause-ready g c = c.requires.ready

pub computed-requires-clause-fits : goal.computed-requires-clause-fits
computed-requires-clause-fits g c = c.requires.fits

pub returns-then-is_keepable-clause-value : goal.returns-then-is_keepable-clause-value
returns-then-is_keepable-clause-value g c = c.kept_or_computed.ensures.value

pub returns-then-is_keepable-clause-cost : goal.returns-then-is_keepable-clause-cost
returns-then-is_keepable-clause-cost g c = c.kept_or_computed.ensures.cost

pub returns-then-is_keepable-clause-least : goal.returns-then-is_keepable-clause-least
returns-then-is_keepable-clause-least g c = c.kept_or_computed.ensures.least

pub returns-then-is_keepable-clause-room : goal.returns-then-is_keepable-clause-room
returns-then-is_keepable-clause-room g c = c.kept_or_computed.ensures.room

pub returns-then-is_keepable-clause-kept : goal.returns-then-is_keepable-clause-kept
returns-then-is_keepable-clause-kept g c = c.kept_or_computed.ensures.kept

pub returns-then-is_keepable-clause-stays : goal.returns-then-is_keepable-clause-stays
returns-then-is_keepable-clause-stays g c = c.kept_or_computed.ensures.stays

pub returns-then-is_keepable-clause-adds : goal.returns-then-is_keepable-clause-adds
returns-then-is_keepable-clause-adds g c = c.kept_or_computed.ensures.adds

pub returns-then-is_keepable-clause-left : goal.returns-then-is_keepable-clause-left
returns-then-is_keepable-clause-left g c = c.kept_or_computed.ensures.left

pub returns-else-is_keepable-clause-value : goal.returns-else-is_keepable-clause-value
returns-else-is_keepable-clause-value g c = c.computed.ensures.value

pub returns-else-is_keepable-clause-least : goal.returns-else-is_keepable-clause-least
returns-else-is_keepable-clause-least g c = c.computed.ensures.least

pub returns-else-is_keepable-clause-room : goal.returns-else-is_keepable-clause-room
returns-else-is_keepable-clause-room g c = c.computed.ensures.room

pub returns-else-is_keepable-clause-kept : goal.returns-else-is_keepable-clause-kept
returns-else-is_keepable-clause-kept g c = c.requires.kept
