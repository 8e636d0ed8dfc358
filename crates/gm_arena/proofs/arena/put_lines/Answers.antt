use Rattle.std.proofs.Common.{◌≡◌, ◌∙◌, ◌+◌, ◌/◌, ◌≤◌, length, refl, arith}
use Rattle.std.proofs.lemmas.Result.{on_ok_weaker}
use Rattle.slab.specs.Slab.{slab_len}
use Rattle.gm_model.proofs.Exits.{never_ok}
use Rattle.gm_arena.proofs.PartLemmas.{parts_fit, parts_of_fewer}
use Rattle.gm_arena.proofs.arena.put_lines.Goals as goal

pub overflow_add-count : goal.overflow_add-count
overflow_add-count c = omega (arith, c.requires.labels)

pub nonzero_div-count : goal.nonzero_div-count
nonzero_div-count c = omega arith

pub grown-requires-clause-fits : goal.grown-requires-clause-fits
grown-requires-clause-fits c = omega (arith, c.requires.capacity)

pub grown-requires-clause-few : goal.grown-requires-clause-few
grown-requires-clause-few c =
    let long : c.len.result ≡ length c.args.lines.items = omega (arith, c.len.ensures, c.args.lines.ok.0) in
    let none : slab_len c.args.places.now ≡ 0 = rw c.requires.places refl in
    rw (none, long) (omega (arith, c.requires.few))

pub overflow_mul-capacity : goal.overflow_mul-capacity
overflow_mul-capacity c = parts_fit c.capacity.result c.args.labels (omega (arith, c.capacity.ensures.value, c.in_ok-places.ensures.fits)) c.requires.labels

pub put_neighbours-requires-clause-labels : goal.put_neighbours-requires-clause-labels
put_neighbours-requires-clause-labels c = c.requires.labels

pub put_neighbours-requires-clause-room : goal.put_neighbours-requires-clause-room
put_neighbours-requires-clause-room c =
    let long : c.len.result ≡ length c.deref.result.now = omega (arith, c.len.ensures, c.deref.ensures.len) in
    let fewer : length c.deref.result.now / (c.args.labels + 1) ≤ c.capacity.result = rw (← long, c.capacity.ensures.value) (omega (arith, c.in_ok-places.ensures.room)) in
    let parts = parts_of_fewer _ _ c.args.labels _ fewer c.in_ok-widen.ensures.room in
    rw (c.in_ok-widen.ensures.items, c.requires.neighbours) (omega (arith, parts))

pub overflow_mul-capacity-2 : goal.overflow_mul-capacity-2
overflow_mul-capacity-2 c = parts_fit c.capacity-2.result c.args.width (omega (arith, c.capacity-2.ensures.value, c.in_ok-places.ensures.fits)) c.requires.width

pub number_places-requires-clause-none : goal.number_places-requires-clause-none
number_places-requires-clause-none c = c.in_ok-places.ensures.slots ∙ c.requires.places

pub number_places-requires-clause-room : goal.number_places-requires-clause-room
number_places-requires-clause-room c = omega (arith, c.in_ok-places.ensures.room)

pub number_places-requires-clause-few : goal.number_places-requires-clause-few
number_places-requires-clause-few c =
    let long : c.len.result ≡ length c.args.lines.items = omega (arith, c.len.ensures, c.args.lines.ok.0) in
    rw long c.requires.few

pub returns-in_err-places : goal.returns-in_err-places
returns-in_err-places c =
    record {
      numbered = never_ok _ c.from_residual.result c.from_residual.ensures.0;
      len = never_ok _ c.from_residual.result c.from_residual.ensures.0;
      fits = never_ok _ c.from_residual.result c.from_residual.ensures.0;
      room = never_ok _ c.from_residual.result c.from_residual.ensures.0;
      parts = never_ok _ c.from_residual.result c.from_residual.ensures.0;
      neighbours = never_ok _ c.from_residual.result c.from_residual.ensures.0;
      values = refl;
    }

pub returns-in_err-widen : goal.returns-in_err-widen
returns-in_err-widen c =
    record {
      numbered = never_ok _ c.from_residual-in_err-widen.result c.from_residual-in_err-widen.ensures.0;
      len = never_ok _ c.from_residual-in_err-widen.result c.from_residual-in_err-widen.ensures.0;
      fits = never_ok _ c.from_residual-in_err-widen.result c.from_residual-in_err-widen.ensures.0;
      room = never_ok _ c.from_residual-in_err-widen.result c.from_residual-in_err-widen.ensures.0;
      parts = never_ok _ c.from_residual-in_err-widen.result c.from_residual-in_err-widen.ensures.0;
      neighbours = never_ok _ c.from_residual-in_err-widen.result c.from_residual-in_err-widen.ensures.0;
      values = refl;
    }

pub returns-in_err-widen-2 : goal.returns-in_err-widen-2
returns-in_err-widen-2 c =
    record {
      numbered = never_ok _ c.from_residual-in_err-widen-2.result c.from_residual-in_err-widen-2.ensures.0;
      len = never_ok _ c.from_residual-in_err-widen-2.result c.from_residual-in_err-widen-2.ensures.0;
      fits = never_ok _ c.from_residual-in_err-widen-2.result c.from_residual-in_err-widen-2.ensures.0;
      room = never_ok _ c.from_residual-in_err-widen-2.result c.from_residual-in_err-widen-2.ensures.0;
      parts = never_ok _ c.from_residual-in_err-widen-2.result c.from_residual-in_err-widen-2.ensures.0;
      neighbours = never_ok _ c.from_residual-in_err-widen-2.result c.from_residual-in_err-widen-2.ensures.0;
      values = c.in_err-widen-2.ensures.items;
    }

pub returns : goal.returns
returns c =
    let long : c.len.result ≡ length c.args.lines.items = omega (arith, c.len.ensures, c.args.lines.ok.0) in
    record {
      numbered = rw (← long) c.number_places.ensures.numbered;
      len = rw (← long) c.number_places.ensures.len;
      fits = on_ok_weaker c.number_places.result (λ _. rw c.number_places.ensures.capacity c.in_ok-places.ensures.fits) c.number_places.ensures.len;
      room = on_ok_weaker c.number_places.result (λ _. rw (← long, c.number_places.ensures.capacity) (omega (arith, c.in_ok-places.ensures.room))) c.number_places.ensures.len;
      parts = on_ok_weaker c.number_places.result (λ _. record {
        linked = rw (c.number_places.ensures.capacity, ← c.capacity.ensures.value) (omega (arith, c.in_ok-widen.ensures.room, c.put_neighbours.ensures.capacity));
        long = rw (c.number_places.ensures.capacity, ← c.capacity-2.ensures.value) c.in_ok-widen-2.ensures.room;
      }) c.number_places.ensures.len;
      neighbours = on_ok_weaker c.number_places.result (λ _. rw (c.put_neighbours.ensures.items, c.in_ok-widen.ensures.items, c.requires.neighbours, c.deref.ensures.value) refl) c.number_places.ensures.len;
      values = c.in_ok-widen-2.ensures.items;
    }
