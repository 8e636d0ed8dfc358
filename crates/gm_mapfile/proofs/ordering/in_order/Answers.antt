use Rattle.std.proofs.lemmas.List.Sorted.{IsPermutation-refl}
use Rattle.gm_mapfile.proofs.Chunks.{rows_below}
use Rattle.gm_mapfile.proofs.ordering.in_order.Goals as goal

pub returns-clause-end : goal.returns-clause-end
returns-clause-end c = rows_below c.args.schema.now.dim c.names_end.result c.order.new.numbers.items (rw c.as_slice-2.ensures.value at c.names_end.ensures.above)

pub ascending_end-requires : goal.ascending_end-requires
ascending_end-requires c = rw c.as_slice.ensures.value c.requires.room.small

pub order-requires : goal.order-requires
order-requires c = record { room = c.requires.room }

pub names_end-requires : goal.names_end-requires
names_end-requires c = rw c.as_slice-2.ensures.value c.in_ok-order.ensures.room.small

pub returns-in-Some-clause-room : goal.returns-in-Some-clause-room
returns-in-Some-clause-room c = c.requires.room

pub returns-in-Some-clause-end : goal.returns-in-Some-clause-end
returns-in-Some-clause-end c = rw (c.as_slice.ensures.value, c.top.ensures.value) at c.in-Some.ensures.end

pub returns-in-Some-clause-darts : goal.returns-in-Some-clause-darts
returns-in-Some-clause-darts c = IsPermutation-refl _

pub returns-in-Some-clause-names : goal.returns-in-Some-clause-names
returns-in-Some-clause-names c = c.in-Some.ensures.names

pub returns-clause-room : goal.returns-clause-room
returns-clause-room c = c.in_ok-order.ensures.room

pub returns-clause-darts : goal.returns-clause-darts
returns-clause-darts c = c.in_ok-order.ensures.darts

pub returns-clause-names : goal.returns-clause-names
returns-clause-names c = c.names_end.ensures.few
