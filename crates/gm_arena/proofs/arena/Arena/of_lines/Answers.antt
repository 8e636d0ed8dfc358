use Rattle.std.proofs.Common.{◌≡◌, ◌+◌, ◌/◌, length, refl, ap, ap₂, ◌∙◌, arith}
use Rattle.gm_arena.specs.inner.Inside.{links_in}
use Rattle.gm_model.proofs.Exits.{unless_ok}
use Rattle.gm_arena.proofs.LinesLemmas.{AreParts, sound_made, holds_made, named_made, few_lines, cost_lines}
use Rattle.gm_arena.proofs.arena.Arena.of_lines.Given as given
use Rattle.gm_arena.proofs.arena.Arena.of_lines.Goals as goal

parts : (g : given.Over) (c : goal.In_ok-put_lines g) → AreParts c.args.schema c.args.lines.items c.args.values.items (c.top.result + 1) (length c.as_slice-width.result.now) (c.len.result / (c.top.result + 1 + 1)) c.put_lines.new.places c.put_lines.new.neighbours.items c.put_lines.new.values.items c.in_ok-table.table
parts g c =
    let labels : c.top.result + 1 ≡ c.args.schema.dim + 1 = omega (arith, c.top.ensures.value) in
    let size : c.top.result + 1 + 1 ≡ c.args.schema.dim + 2 = omega (arith, c.top.ensures.value) in
    let long : c.len.result ≡ length c.args.lines.items = omega (arith, c.len.ensures, c.args.lines.ok.0) in
    let count : c.len.result / (c.top.result + 1 + 1) ≡ length c.args.lines.items / (c.top.result + 1 + 1) = ap (λ n. n / (c.top.result + 1 + 1)) long in
    let put = c.in_ok-put_lines.ensures in
    record {
      lawful = c.requires.schema;
      some = c.top.ensures.least;
      few = c.top.ensures.greatest;
      lines_are = c.requires.lines;
      labels_are = labels;
      width_is = ap length c.as_slice-width.ensures;
      count_is = ap₂ (λ n k. n / k) long size;
      numbered = rw count put.numbered;
      full = rw count put.len;
      fits = put.fits;
      room = rw count put.room;
      links_are = put.neighbours ∙ ap₂ (λ k n. links_in k (length c.args.lines.items / n) c.args.lines.items) labels size;
      values_are = put.values;
      table_is = c.in_ok-table.ensures;
    }

pub invariant_of-result : goal.invariant_of-result
invariant_of-result g c = (sound_made _ _ _ _ _ _ _ _ _ _ (parts g c), c.in_ok-put_lines.ensures.parts, named_made _ _ _ _ _ _ _ _ _ _ (parts g c))

pub numbered-requires : goal.numbered-requires
numbered-requires g c = omega (arith, few_lines c.args.schema c.args.lines.items c.top.result c.len.result c.top.ensures.value (c.len.ensures ∙ c.args.lines.ok.0) c.requires.lines.few)

pub put_lines-requires-clause-few : goal.put_lines-requires-clause-few
put_lines-requires-clause-few g c = few_lines c.args.schema c.args.lines.items _ _ c.top.ensures.value refl c.requires.lines.few

pub top-requires : goal.top-requires
top-requires g c = tt

pub overflow_cast-labels : goal.overflow_cast-labels
overflow_cast-labels g c = omega (arith, c.top.ensures.greatest)

pub overflow_add-labels : goal.overflow_add-labels
overflow_add-labels g c = omega (arith, c.top.ensures.greatest)

pub overflow_add-count : goal.overflow_add-count
overflow_add-count g c = omega (arith, c.top.ensures.greatest)

pub nonzero_div-count : goal.nonzero_div-count
nonzero_div-count g c = omega arith

pub overflow_mul-labels : goal.overflow_mul-labels
overflow_mul-labels g c = omega (arith, c.top.ensures.greatest)

pub overflow_add-labels-2 : goal.overflow_add-labels-2
overflow_add-labels-2 g c = omega (arith, c.top.ensures.greatest)

pub put_lines-requires-clause-places : goal.put_lines-requires-clause-places
put_lines-requires-clause-places g c = c.new-places.ensures.empty

pub put_lines-requires-clause-capacity : goal.put_lines-requires-clause-capacity
put_lines-requires-clause-capacity g c = c.new-places.ensures.capacity

pub put_lines-requires-clause-neighbours : goal.put_lines-requires-clause-neighbours
put_lines-requires-clause-neighbours g c = c.new-neighbours.ensures.items

pub put_lines-requires-clause-labels : goal.put_lines-requires-clause-labels
put_lines-requires-clause-labels g c = omega (arith, c.top.ensures.greatest)

pub put_lines-requires-clause-width : goal.put_lines-requires-clause-width
put_lines-requires-clause-width g c = rw c.as_slice-width.ensures c.requires.schema.count

pub returns-in_err-table : goal.returns-in_err-table
returns-in_err-table g c =
    record {
      holds = unless_ok _ c.from_residual.result c.from_residual.ensures.0;
      cost = cost_lines c.args.schema c.args.lines.items _ _ c.top.ensures.value (c.len.ensures ∙ c.args.lines.ok.0) _ _ c.tick_times.ensures;
    }

pub returns-in_err-put_lines : goal.returns-in_err-put_lines
returns-in_err-put_lines g c =
    record {
      holds = unless_ok _ c.from_residual-in_err-put_lines.result c.from_residual-in_err-put_lines.ensures.0;
      cost = cost_lines c.args.schema c.args.lines.items _ _ c.top.ensures.value (c.len.ensures ∙ c.args.lines.ok.0) _ _ c.tick_times.ensures;
    }

pub returns : goal.returns
returns g c =
    record {
      holds = holds_made _ _ _ _ _ _ _ _ _ _ (parts g c);
      cost = cost_lines c.args.schema c.args.lines.items _ _ c.top.ensures.value (c.len.ensures ∙ c.args.lines.ok.0) _ _ c.tick_times.ensures;
    }
