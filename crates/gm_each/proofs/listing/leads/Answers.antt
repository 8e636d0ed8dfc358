use Rattle.std.proofs.Common.{◌≡◌, ◌*◌, ◌+◌, ◌<◌, ◌∙◌, [], ◌∷◌, replicate, false, subst, ap, arith}
use Rattle.std.proofs.Math.Nat.{le_refl, le_trans}
use Rattle.std.specs.Prelude.{IfSome}
use Rattle.gm_model.specs.declared.word.Letter.TheVariants.{At}
use Rattle.gm_model.proofs.Exits.{unless_ok}
use Rattle.gm_walk.proofs.MetLemmas.{steps_in_all}
use Rattle.gm_walk.proofs.WordLemmas.{set_within}
use Rattle.gm_each.proofs.StepLemmas.{named_least, named_only, none_taken}
use Rattle.gm_each.proofs.listing.leads.Goals as goal
use Rattle.gm_each.proofs.listing.leads.Goals.{then-is_none+in_ok-fit, else-is_none}

pub returns-in_err-fit-clause-leads : goal.returns-in_err-fit-clause-leads
returns-in_err-fit-clause-leads g c = unless_ok _ c.from_residual.result c.from_residual.ensures.0

pub returns-in_err-fit-clause-cost : goal.returns-in_err-fit-clause-cost
returns-in_err-fit-clause-cost g c = none_taken c.args.steps.now (8 * (c.args.arena.now.schema.dim + 1) * c.args.arena.now.count)

pub returns-in_err-fit-clause-least : goal.returns-in_err-fit-clause-least
returns-in_err-fit-clause-least g c = le_refl c.args.steps.now

pub returns-in_err-fit-clause-room : goal.returns-in_err-fit-clause-room
returns-in_err-fit-clause-room g c = c.fit.ensures.kept

pub returns-in_err-seen-clause-leads : goal.returns-in_err-seen-clause-leads
returns-in_err-seen-clause-leads g c = unless_ok _ c.from_residual-in_err-seen.result c.from_residual-in_err-seen.ensures.0

pub returns-in_err-seen-clause-cost : goal.returns-in_err-seen-clause-cost
returns-in_err-seen-clause-cost g c = none_taken c.args.steps.now (8 * (c.args.arena.now.schema.dim + 1) * c.args.arena.now.count)

pub returns-in_err-seen-clause-least : goal.returns-in_err-seen-clause-least
returns-in_err-seen-clause-least g c = le_refl c.args.steps.now

pub returns-in_err-seen-clause-room : goal.returns-in_err-seen-clause-room
returns-in_err-seen-clause-room g c = elim c.if-is_none.branch [
  | then-is_none+in_ok-fit w ↦ rw w.scratch-is w.fit.ensures.kept
  | else-is_none w ↦ rw w.scratch-is (le_refl c.args.scratch.now.bound)
]

pub returns-in_err-names-clause-leads : goal.returns-in_err-names-clause-leads
returns-in_err-names-clause-leads g c = unless_ok _ c.from_residual-in_err-names.result c.from_residual-in_err-names.ensures.0

pub returns-in_err-names-clause-cost : goal.returns-in_err-names-clause-cost
returns-in_err-names-clause-cost g c = named_only c.args.arena.now.schema.dim c.args.steps.now c.names.new.steps c.args.arena.now.count c.names.ensures.cost

pub returns-in_err-names-clause-least : goal.returns-in_err-names-clause-least
returns-in_err-names-clause-least g c = named_least c.args.steps.now c.names.new.steps c.args.arena.now.count c.names.ensures.cost

pub returns-in_err-names-clause-room : goal.returns-in_err-names-clause-room
returns-in_err-names-clause-room g c = elim c.if-is_none.branch [
  | then-is_none+in_ok-fit w ↦ rw w.scratch-is w.fit.ensures.kept
  | else-is_none w ↦ rw w.scratch-is (le_refl c.args.scratch.now.bound)
]

pub leads_among-requires-clause-generalised : goal.leads_among-requires-clause-generalised
leads_among-requires-clause-generalised g c = c.requires.generalised

pub leads_among-requires-clause-names : goal.leads_among-requires-clause-names
leads_among-requires-clause-names g c = c.deref.ensures.value ∙ c.in_ok-names.ensures.names

pub leads_among-requires-clause-mask : goal.leads_among-requires-clause-mask
leads_among-requires-clause-mask g c =
    let few : c.args.mask.bits < 256 = omega arith in
    set_within c.args.arena.now.schema.dim c.args.mask few c.requires.mask

pub leads_among-requires-clause-pair : goal.leads_among-requires-clause-pair
leads_among-requires-clause-pair g c = subst (λ word. IfSome c.pair_of-pair.result (λ labels. word ≡ At labels.0 ∷ At labels.1 ∷ [])) c.word_of.ensures c.pair_of-pair.ensures

pub leads_among-requires-clause-seen : goal.leads_among-requires-clause-seen
leads_among-requires-clause-seen g c = c.deref_mut.ensures.value ∙ c.in_ok-seen.ensures ∙ ap (λ slots. replicate slots false) c.bound.ensures.bound

pub returns-clause-leads : goal.returns-clause-leads
returns-clause-leads g c = c.leads_among.ensures.leads

pub returns-clause-cost : goal.returns-clause-cost
returns-clause-cost g c = steps_in_all c.args.arena.now.schema.dim c.args.steps.now c.names.new.steps c.leads_among.new.steps c.args.arena.now.count c.names.ensures.cost c.leads_among.ensures.cost

pub returns-clause-least : goal.returns-clause-least
returns-clause-least g c = le_trans (named_least c.args.steps.now c.names.new.steps c.args.arena.now.count c.names.ensures.cost) c.leads_among.ensures.least

pub returns-clause-room : goal.returns-clause-room
returns-clause-room g c =
    rw c.leads_among.ensures.bound
    (elim c.if-is_none.branch [
      | then-is_none+in_ok-fit w ↦ rw w.scratch-is w.fit.ensures.kept
      | else-is_none w ↦ rw w.scratch-is (le_refl c.args.scratch.now.bound)
    ])
