use Rattle.gm_mapfile.specs.inner.Draft.{version_in}
use Rattle.gm_mapfile.proofs.Built.{steps_added, twice_of, live_of, not_below_of, link_ready_of, lack_of, held_of, steps_of, many_of}
use Rattle.gm_mapfile.proofs.building.fill.Goals as goal

pub returns-in-Some-clause-fault : goal.returns-in-Some-clause-fault
returns-in-Some-clause-fault g c = twice_of c.args.arena.now c.add_darts.new.arena c.args.numbers.now c.args.values.now c.add_darts.ensures.schema c.in-Some.dart c.in-Some.ensures.added

pub returns-in-Some-clause-most : goal.returns-in-Some-clause-most
returns-in-Some-clause-most g c = steps_added c.args.arena.now c.add_darts.new.arena c.args.numbers.now c.args.values.now c.args.steps.now c.add_darts.new.steps c.add_darts.ensures.most

pub set_stated-requires-clause-live : goal.set_stated-requires-clause-live
set_stated-requires-clause-live g c = live_of c.args.arena.now c.add_darts.new.arena c.args.numbers.now c.args.values.now c.add_darts.ensures.schema (version_in c.args.stated) c.in_default.ensures.added

pub returns-in-Some-set_stated-clause-fault : goal.returns-in-Some-set_stated-clause-fault
returns-in-Some-set_stated-clause-fault g c =
    not_below_of c.args.arena.now c.add_darts.new.arena c.args.numbers.now c.args.values.now c.add_darts.ensures.schema (version_in c.args.stated) c.in_default.ensures.added c.in-Some-set_stated.dart c.in-Some-set_stated.ensures.below

pub returns-in-Some-set_stated-clause-most : goal.returns-in-Some-set_stated-clause-most
returns-in-Some-set_stated-clause-most g c = steps_added c.args.arena.now c.add_darts.new.arena c.args.numbers.now c.args.values.now c.args.steps.now c.add_darts.new.steps c.add_darts.ensures.most

pub link_darts-requires : goal.link_darts-requires
link_darts-requires g c = record { added = link_ready_of c.args.arena.now c.add_darts.new.arena c.args.numbers.now c.args.values.now c.add_darts.ensures.schema (version_in c.args.stated) c.in_default.ensures.added c.set_stated.new.arena c.in_default-set_stated.ensures.set }

pub returns-in-Some-link_darts-clause-fault : goal.returns-in-Some-link_darts-clause-fault
returns-in-Some-link_darts-clause-fault g c =
    lack_of c.args.arena.now c.add_darts.new.arena c.args.numbers.now c.args.values.now c.add_darts.ensures.schema (version_in c.args.stated) c.in_default.ensures.added c.set_stated.new.arena c.in_default-set_stated.ensures.set
    c.in_default-set_stated.ensures.below c.in-Some-link_darts.dart c.in-Some-link_darts.label c.in-Some-link_darts.ensures.linked

pub returns-in-Some-link_darts-clause-most : goal.returns-in-Some-link_darts-clause-most
returns-in-Some-link_darts-clause-most g c =
    steps_of c.args.arena.now c.add_darts.new.arena c.args.numbers.now c.args.values.now c.add_darts.ensures.schema (version_in c.args.stated) c.in_default.ensures.added c.set_stated.new.arena c.in_default-set_stated.ensures.set
    c.args.steps.now c.add_darts.new.steps c.link_darts.new.steps c.add_darts.ensures.most c.link_darts.ensures.most

pub returns-clause-held : goal.returns-clause-held
returns-clause-held g c =
    held_of c.args.arena.now c.add_darts.new.arena c.args.numbers.now c.args.values.now c.add_darts.ensures.schema (version_in c.args.stated) c.in_default.ensures.added c.set_stated.new.arena c.in_default-set_stated.ensures.set
    c.link_darts.new.arena c.add_darts.ensures.values c.add_darts.ensures.next c.in_default-link_darts.ensures.relinked c.in_default-link_darts.ensures.linked

pub returns-clause-most : goal.returns-clause-most
returns-clause-most g c =
    steps_of c.args.arena.now c.add_darts.new.arena c.args.numbers.now c.args.values.now c.add_darts.ensures.schema (version_in c.args.stated) c.in_default.ensures.added c.set_stated.new.arena c.in_default-set_stated.ensures.set
    c.args.steps.now c.add_darts.new.steps c.link_darts.new.steps c.add_darts.ensures.most c.link_darts.ensures.most

pub returns-clause-least : goal.returns-clause-least
returns-clause-least g c =
    many_of c.args.arena.now c.add_darts.new.arena c.args.numbers.now c.args.values.now c.add_darts.ensures.schema (version_in c.args.stated) c.in_default.ensures.added c.set_stated.new.arena c.in_default-set_stated.ensures.set
    c.args.steps.now c.add_darts.new.steps c.link_darts.new.steps c.link_darts.new.arena
    (held_of c.args.arena.now c.add_darts.new.arena c.args.numbers.now c.args.values.now c.add_darts.ensures.schema (version_in c.args.stated) c.in_default.ensures.added c.set_stated.new.arena c.in_default-set_stated.ensures.set
    c.link_darts.new.arena c.add_darts.ensures.values c.add_darts.ensures.next c.in_default-link_darts.ensures.relinked c.in_default-link_darts.ensures.linked)
    c.add_darts.ensures.least c.link_darts.ensures.least

pub add_darts-requires-clause-fresh : goal.add_darts-requires-clause-fresh
add_darts-requires-clause-fresh g c = c.requires.fresh

pub add_darts-requires-clause-room : goal.add_darts-requires-clause-room
add_darts-requires-clause-room g c = c.requires.room

pub add_darts-requires-clause-spare : goal.add_darts-requires-clause-spare
add_darts-requires-clause-spare g c = c.requires.spare

pub add_darts-requires-clause-reserved : goal.add_darts-requires-clause-reserved
add_darts-requires-clause-reserved g c = c.requires.reserved

pub set_stated-requires-clause-next : goal.set_stated-requires-clause-next
set_stated-requires-clause-next g c = c.add_darts.ensures.next

pub set_stated-requires-clause-most : goal.set_stated-requires-clause-most
set_stated-requires-clause-most g c = c.requires.next
