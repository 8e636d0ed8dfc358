use Rattle.std.proofs.lemmas.List.Sorted.{IsPermutation-refl}
use Rattle.std.proofs.Common.{refl}
use Rattle.gm_model.proofs.Exits.{unless_ok}
use Rattle.gm_mapfile.proofs.OwnLines.{own_lines}
use Rattle.gm_mapfile.proofs.building.end_in_order.Goals as goal

pub are_own-requires : goal.are_own-requires
are_own-requires c = rw c.as_slice.ensures.value c.requires.room.few

pub returns-then-are_own-clause-own : goal.returns-then-are_own-clause-own
returns-then-are_own-clause-own c = own_lines c.args.schema.now c.args.numbers.now.items c.args.values.now.items c.as_slice.result.now c.as_slice.ensures.value c.requires.room (c.if-are_own.ensures.named refl) (c.if-are_own.ensures.within refl)

pub are_own-requires-2 : goal.are_own-requires-2
are_own-requires-2 c = rw c.as_slice-2.ensures.value c.in_ok-end.ensures.room.few

pub returns-then-are_own-2-clause-own : goal.returns-then-are_own-2-clause-own
returns-then-are_own-2-clause-own c = own_lines c.args.schema.now c.in_order.new.numbers.items c.in_order.new.values.items c.as_slice-2.result.now c.as_slice-2.ensures.value c.in_ok-end.ensures.room (c.if-are_own-2.ensures.named refl) (c.if-are_own-2.ensures.within refl)

pub returns-in_err-end-clause-room : goal.returns-in_err-end-clause-room
returns-in_err-end-clause-room c = unless_ok _ c.from_residual.result c.from_residual.ensures.0

pub returns-in_err-end-clause-darts : goal.returns-in_err-end-clause-darts
returns-in_err-end-clause-darts c = unless_ok _ c.from_residual.result c.from_residual.ensures.0

pub returns-in_err-end-clause-own : goal.returns-in_err-end-clause-own
returns-in_err-end-clause-own c = unless_ok _ c.from_residual.result c.from_residual.ensures.0

pub returns-in_err-end-clause-end : goal.returns-in_err-end-clause-end
returns-in_err-end-clause-end c = unless_ok _ c.from_residual.result c.from_residual.ensures.0

pub returns-in_err-end-clause-names : goal.returns-in_err-end-clause-names
returns-in_err-end-clause-names c = unless_ok _ c.from_residual.result c.from_residual.ensures.0

pub in_order-requires : goal.in_order-requires
in_order-requires c = record { room = c.requires.room }

pub returns-then-are_own-clause-room : goal.returns-then-are_own-clause-room
returns-then-are_own-clause-room c = c.requires.room

pub returns-then-are_own-clause-darts : goal.returns-then-are_own-clause-darts
returns-then-are_own-clause-darts c = IsPermutation-refl _

pub returns-then-are_own-2-clause-room : goal.returns-then-are_own-2-clause-room
returns-then-are_own-2-clause-room c = c.in_ok-end.ensures.room

pub returns-then-are_own-2-clause-darts : goal.returns-then-are_own-2-clause-darts
returns-then-are_own-2-clause-darts c = c.in_ok-end.ensures.darts

pub returns-clause-room : goal.returns-clause-room
returns-clause-room c = c.in_ok-end.ensures.room

pub returns-clause-darts : goal.returns-clause-darts
returns-clause-darts c = c.in_ok-end.ensures.darts

pub returns-clause-end : goal.returns-clause-end
returns-clause-end c = c.in_ok-end.ensures.end

pub returns-clause-names : goal.returns-clause-names
returns-clause-names c = c.in_ok-end.ensures.names
