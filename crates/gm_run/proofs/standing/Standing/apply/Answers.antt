use Rattle.std.proofs.Common.{refl}
use Rattle.gm_arena.specs.inner.ArenaAsMap.{as_map}
use Rattle.gm_run.specs.inner.Standing.{nearest, nearest_entries}
use Rattle.gm_run.proofs.Stepping.{entries_then, history_then, needs_none}
use Rattle.gm_run.proofs.standing.Standing.apply.Goals as goal

pub returns-then-keeps-clause-entries : goal.returns-then-keeps-clause-entries
returns-then-keeps-clause-entries g c told entries most remembers costs budget =
    let keeps = c.if-keeps.true in
    let r = remembers keeps in
    let may = costs keeps in
    entries_then c.apply.result c.args.self.now.keeps.on c.args.self.now.keeps.reach c.args.self.now.history c.apply.new.self c.args.arena.now c.apply.new.arena told.group most entries c.apply.ensures.schema may
    (c.apply.ensures.entries (nearest r.past r.future told) (nearest_entries may.past may.future entries) most r.stands may.costs budget) c.apply.ensures.stays

pub returns-then-keeps-clause-outcome : goal.returns-then-keeps-clause-outcome
returns-then-keeps-clause-outcome g c = c.apply.ensures.outcome

pub returns-then-keeps-clause-keeps : goal.returns-then-keeps-clause-keeps
returns-then-keeps-clause-keeps g c = refl

pub returns-then-keeps-clause-group : goal.returns-then-keeps-clause-group
returns-then-keeps-clause-group g c = refl

pub returns-then-keeps-clause-sound : goal.returns-then-keeps-clause-sound
returns-then-keeps-clause-sound g c = c.apply.ensures.sound

pub returns-then-keeps-clause-schema : goal.returns-then-keeps-clause-schema
returns-then-keeps-clause-schema g c = c.apply.ensures.schema

pub returns-then-keeps-clause-most : goal.returns-then-keeps-clause-most
returns-then-keeps-clause-most g c = c.apply.ensures.most

pub returns-then-keeps-clause-least : goal.returns-then-keeps-clause-least
returns-then-keeps-clause-least g c = c.apply.ensures.least

pub returns-then-keeps-clause-rises : goal.returns-then-keeps-clause-rises
returns-then-keeps-clause-rises g c = c.apply.ensures.rises

pub returns-then-keeps-clause-spare_stays : goal.returns-then-keeps-clause-spare_stays
returns-then-keeps-clause-spare_stays g c = c.apply.ensures.spare_stays

pub returns-then-keeps-clause-reserved_stays : goal.returns-then-keeps-clause-reserved_stays
returns-then-keeps-clause-reserved_stays g c = c.apply.ensures.reserved_stays

pub returns-else-keeps-clause-outcome : goal.returns-else-keeps-clause-outcome
returns-else-keeps-clause-outcome g c = c.apply-else-keeps.ensures.outcome

pub returns-else-keeps-clause-keeps : goal.returns-else-keeps-clause-keeps
returns-else-keeps-clause-keeps g c = refl

pub returns-else-keeps-clause-group : goal.returns-else-keeps-clause-group
returns-else-keeps-clause-group g c = refl

pub returns-else-keeps-clause-sound : goal.returns-else-keeps-clause-sound
returns-else-keeps-clause-sound g c = c.apply-else-keeps.ensures.sound

pub returns-else-keeps-clause-schema : goal.returns-else-keeps-clause-schema
returns-else-keeps-clause-schema g c = c.apply-else-keeps.ensures.schema

pub returns-else-keeps-clause-most : goal.returns-else-keeps-clause-most
returns-else-keeps-clause-most g c = c.apply-else-keeps.ensures.most

pub returns-else-keeps-clause-least : goal.returns-else-keeps-clause-least
returns-else-keeps-clause-least g c = c.apply-else-keeps.ensures.least

pub returns-else-keeps-clause-rises : goal.returns-else-keeps-clause-rises
returns-else-keeps-clause-rises g c = c.apply-else-keeps.ensures.rises

pub returns-else-keeps-clause-spare_stays : goal.returns-else-keeps-clause-spare_stays
returns-else-keeps-clause-spare_stays g c = c.apply-else-keeps.ensures.spare_stays

pub returns-else-keeps-clause-reserved_stays : goal.returns-else-keeps-clause-reserved_stays
returns-else-keeps-clause-reserved_stays g c = c.apply-else-keeps.ensures.reserved_stays

pub returns-then-keeps-clause-history : goal.returns-then-keeps-clause-history
returns-then-keeps-clause-history g c told remembers =
    let r = remembers c.if-keeps.true in
    history_then c.apply.result c.args.self.now.keeps.on c.args.self.now.keeps.reach c.args.self.now.history c.apply.new.self c.args.arena.now c.apply.new.arena (as_map c.args.arena.now) told r (c.apply.ensures.history (nearest r.past r.future told) r.stands)

pub returns-else-keeps-clause-history : goal.returns-else-keeps-clause-history
returns-else-keeps-clause-history g c told remembers = needs_none c.apply-else-keeps.result c.args.self.now.keeps.on _ _ c.if-keeps.false

pub returns-else-keeps-clause-entries : goal.returns-else-keeps-clause-entries
returns-else-keeps-clause-entries g c told entries most remembers costs budget = needs_none c.apply-else-keeps.result c.args.self.now.keeps.on _ _ c.if-keeps.false

pub apply-requires-clause-stands : goal.apply-requires-clause-stands
apply-requires-clause-stands g c = let r = c.requires.stands.1 c.if-keeps.true in (nearest r.past r.future c.requires.stands.0, r.stands)

pub apply-requires-clause-schema : goal.apply-requires-clause-schema
apply-requires-clause-schema g c = c.requires.schema

pub apply-requires-clause-hooks : goal.apply-requires-clause-hooks
apply-requires-clause-hooks g c = c.requires.hooks

pub apply-requires-clause-params : goal.apply-requires-clause-params
apply-requires-clause-params g c = c.requires.params

pub apply-requires-else-keeps-clause-sound : goal.apply-requires-else-keeps-clause-sound
apply-requires-else-keeps-clause-sound g c = c.requires.sound

pub apply-requires-else-keeps-clause-schema : goal.apply-requires-else-keeps-clause-schema
apply-requires-else-keeps-clause-schema g c = c.requires.schema

pub apply-requires-else-keeps-clause-hooks : goal.apply-requires-else-keeps-clause-hooks
apply-requires-else-keeps-clause-hooks g c = c.requires.hooks

pub apply-requires-else-keeps-clause-params : goal.apply-requires-else-keeps-clause-params
apply-requires-else-keeps-clause-params g c = c.requires.params
