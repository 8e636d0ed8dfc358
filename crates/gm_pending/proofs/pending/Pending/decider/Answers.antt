use Rattle.gm_pending.proofs.on_values.AnswersKept.{some_decider}
use Rattle.std.proofs.Common.{◌≡◌, None, ◌∙◌, ap}
use Rattle.std.specs.Option.{option_map}
use Rattle.std.proofs.lemmas.Option.{slice_get-get_or, slice_get-map}
use Rattle.gm_pending.specs.declared.deciding_instance.DecidingInstance.{DecidingInstance}
use Rattle.gm_pending.specs.inner.Results.{instances_of, place_of}
use Rattle.gm_pending.proofs.pending.Pending.decider.Goals as goal

pub orbits-requires : goal.orbits-requires
orbits-requires c = some_decider _ c.args.index c.requires

pub returns : goal.returns
returns c =
    let instances = instances_of c.args.self.now c.args.embed in
    let none : DecidingInstance = record { node = 0; position = 0; given = None } in
    let lent : c.deref.result.now ≡ instances = c.deref.ensures ∙ c.orbits.ensures.deciders in
    rw lent (slice_get-map place_of instances c.args.index ∙ ap (option_map place_of) (slice_get-get_or instances c.args.index none c.requires))
