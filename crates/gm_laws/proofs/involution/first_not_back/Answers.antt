use Rattle.std.proofs.Common.{get_or, subst, arith}
use Rattle.gm_laws.specs.inner.Darts.{IsFirst, IsLabel, LeadsBack, IsBack}
use Rattle.gm_laws.proofs.NameLemmas.{has_slot, name_of_slot, first_name, all_names}
use Rattle.gm_laws.proofs.FirstLemmas.{one_way}
use Rattle.gm_laws.proofs.involution.first_not_back.Goals as goal

pub unwrap-slot-requires : goal.unwrap-slot-requires
unwrap-slot-requires g c = has_slot c.args.arena.now c.args.names.now c.requires.names c.loop-name.name-index 0 c.slot_of.result c.loop-name-test.true c.slot_of.ensures.slot

pub returns-in-Some-clause-breach : goal.returns-in-Some-clause-breach
returns-in-Some-clause-breach g c =
    let m = c.args.arena.now in
    let p = c.loop-name.name-index in
    let name = name_of_slot m (get_or c.args.names.now p 0) c.slot_of.result c.unwrap-slot.result c.slot_of.ensures.slot c.unwrap-slot.ensures in
    let label = subst (λ d. IsFirst (IsLabel m) (LeadsBack m d) c.in-Some.label) name c.in-Some.ensures.label in
    one_way m _ _ (first_name m c.args.names.now c.requires.names (IsBack m) p c.loop-name-test.true c.loop-name.invariant.back (λ back. label.fails (back c.in-Some.label label.one))) label

pub returns-clause-breach : goal.returns-clause-breach
returns-clause-breach g c =
    let m = c.args.arena.now in
    λ d i live within. all_names m c.args.names.now c.requires.names (IsBack m) (λ p h. c.loop-name.invariant.back p (omega (arith, c.loop-name-test.false))) d live i within
