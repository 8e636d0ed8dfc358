use Rattle.std.proofs.Common.{◌≡◌, ℕ, ◌+◌, ◌*◌, ◌<◌, ◌≤◌, ◌∷◌, [], ◌++◌, length, sym, ap, subst, ◌∙◌, arith}
use Rattle.std.proofs.Math.Nat.{le_refl, le_trans}
use Rattle.std.proofs.lemmas.List.{length_push}
use Rattle.std.specs.Slice.Iter.{chunks_exact_rest}
use Rattle.gm_mapfile.specs.inner.Rows.{row_in, rows_in}
use Rattle.gm_mapfile.specs.inner.Building.{AreLinkedUnless, AreWhole}
use Rattle.gm_mapfile.proofs.Chunks.{fewer_lines, byte_fits, width_fits, width_some, one_more, no_more}
use Rattle.gm_mapfile.proofs.Linking.{none_relinked, same_dim, slots_live}
use Rattle.gm_mapfile.proofs.LinkedLine.{line_live, line_linked, line_lacks, steps_more, neighbours_long}
use Rattle.gm_mapfile.proofs.building.link_darts.Goals as goal

-- steps, and a rest that is no line, as plain numbers
none_most : (first each : ℕ) → first ≤ first + each * 0
none_most first each = omega arith

one_most : (before after own n : ℕ) → after ≤ before + (2 * own + 3) → own ≡ n → after ≤ before + (2 * n + 3)
one_most before after own n most same = omega (arith, most, same)

all_short : (rest size n : ℕ) → rest < size → size ≡ n + 2 → rest < n + 2
all_short rest size n short wide = omega (arith, short, wide)

pub loop-line-init : goal.loop-line-init
loop-line-init g c =
    let n = c.args.arena.now.schema.dim in
    let rest : chunks_exact_rest c.into_iter-line-iterator.result ≡ c.args.numbers.now = cc (c.into_iter-line-iterator.ensures.into_iter_gives, c.chunks_exact-line-items.ensures.rest) in
    record {
      front = [];
      size = cc (c.into_iter-line-iterator.ensures.into_iter_gives, c.chunks_exact-line-items.ensures.size, c.top.ensures.value, c.schema.ensures);
      split = ap (rows_in n) rest;
      relinked = none_relinked n c.args.arena.now c.requires.added.whole;
      linked = λ d i live. absurd cc;
      most = none_most c.args.steps.now (2 * n + 3);
      least = le_refl _;
    }

pub link_dart-requires-clause-live : goal.link_dart-requires-clause-live
link_dart-requires-clause-live g c =
    let n = c.args.arena.now.schema.dim in
    let old = c.args.arena.now in
    let before = c.loop-line.invariant in
    let steps = c.in-Some.ensures.steps in
    let listed = line_live n old c.loop-line.arena c.loop-line.arena before.front c.args.numbers.now _ c.in-Some.line.now _ before.split steps.1.0 (steps.1.1 ∙ before.size) in
    before.relinked.live _ ∙ (c.requires.added.live _ ∙ listed)

pub loop-line-preserved-in-Some-link_dart : goal.loop-line-preserved-in-Some-link_dart
loop-line-preserved-in-Some-link_dart g c =
    let n = c.args.arena.now.schema.dim in
    let before = c.loop-line.invariant in
    let steps = c.in-Some.ensures.steps in
    let line = c.in-Some.line.now in
    let long = steps.1.1 ∙ before.size in
    let dim = same_dim before.relinked in
    let said = c.in-Some-link_dart.ensures.linked in
    let turn = line_lacks n c.args.arena.now c.loop-line.arena c.link_dart.new.arena before.front c.args.numbers.now _ line _ before.split steps.1.0 long c.requires.added.twice.0 before.relinked c.loop-line.missing before.linked dim c.in-Some-link_dart.label c.earlier.result said.0 said.1 c.earlier.ensures in
    record {
      front = before.front ++ row_in line ∷ [];
      size = steps.0 ∙ before.size;
      split = one_more n before.front _ _ line _ before.split steps.1.0 long;
      relinked = turn.0;
      linked = turn.1;
      most = steps_more (2 * n + 3) c.args.steps.now c.loop-line.steps c.link_dart.new.steps (length before.front) _ (length_push before.front (row_in line)) before.most (one_most _ _ _ _ c.in-Some-link_dart.ensures.most dim);
      least = le_trans before.least c.in-Some-link_dart.ensures.least;
    }

pub loop-line-preserved : goal.loop-line-preserved
loop-line-preserved g c =
    let n = c.args.arena.now.schema.dim in
    let before = c.loop-line.invariant in
    let steps = c.in-Some.ensures.steps in
    let line = c.in-Some.line.now in
    let long = steps.1.1 ∙ before.size in
    let dim = same_dim before.relinked in
    let turn = line_linked n c.args.arena.now c.loop-line.arena c.link_dart.new.arena before.front c.args.numbers.now _ line _ before.split steps.1.0 long c.requires.added.twice.0 before.relinked c.loop-line.missing before.linked dim c.in_default.ensures.linked in
    record {
      front = before.front ++ row_in line ∷ [];
      size = steps.0 ∙ before.size;
      split = one_more n before.front _ _ line _ before.split steps.1.0 long;
      relinked = turn.0;
      linked = turn.1;
      most = steps_more (2 * n + 3) c.args.steps.now c.loop-line.steps c.link_dart.new.steps (length before.front) _ (length_push before.front (row_in line)) before.most (one_most _ _ _ _ c.in_default.ensures.most dim);
      least = le_trans before.least c.in_default.ensures.least;
    }

pub returns-clause-linked : goal.returns-clause-linked
returns-clause-linked g c =
    let n = c.args.arena.now.schema.dim in
    let before = c.loop-line.invariant in
    let steps = c.in-None.ensures.steps in
    let whole = no_more n before.front (rows_in n c.args.numbers.now) _ before.split (all_short _ _ _ steps.1.0 before.size) in
    subst (λ rows. AreLinkedUnless n c.args.arena.now c.loop-line.arena rows c.loop-line.missing) whole before.linked

pub returns-clause-most : goal.returns-clause-most
returns-clause-most g c =
    let n = c.args.arena.now.schema.dim in
    let before = c.loop-line.invariant in
    let steps = c.in-None.ensures.steps in
    let whole = no_more n before.front (rows_in n c.args.numbers.now) _ before.split (all_short _ _ _ steps.1.0 before.size) in
    rw (ap length (sym whole)) before.most

pub link_dart-requires-clause-slots : goal.link_dart-requires-clause-slots
link_dart-requires-clause-slots g c = slots_live _ _ _ c.loop-line.invariant.relinked c.requires.added.slots

pub link_dart-requires-clause-whole : goal.link_dart-requires-clause-whole
link_dart-requires-clause-whole g c =
    let before = c.loop-line.invariant in
    subst (λ n. AreWhole n c.loop-line.arena) (sym (same_dim before.relinked)) before.relinked.whole

pub link_dart-requires-clause-labels : goal.link_dart-requires-clause-labels
link_dart-requires-clause-labels g c =
    let before = c.loop-line.invariant in
    neighbours_long c.in-Some.line.now _ (c.in-Some.ensures.steps.1.1 ∙ before.size ∙ ap (λ k. k + 2) (sym (same_dim before.relinked)))

pub returns-clause-relinked : goal.returns-clause-relinked
returns-clause-relinked g c = c.loop-line.invariant.relinked

pub returns-clause-least : goal.returns-clause-least
returns-clause-least g c = c.loop-line.invariant.least

pub overflow_cast-top : goal.overflow_cast-top
overflow_cast-top g c = byte_fits c.top.result c.top.type_inv

pub overflow_add-top : goal.overflow_add-top
overflow_add-top g c = width_fits c.top.result c.top.type_inv

pub chunks_exact-line-items-requires : goal.chunks_exact-line-items-requires
chunks_exact-line-items-requires g c = width_some c.top.result

pub loop-line-smaller-in-Some-link_dart : goal.loop-line-smaller-in-Some-link_dart
loop-line-smaller-in-Some-link_dart g c =
    let steps = c.in-Some.ensures.steps in
    fewer_lines c.args.arena.now.schema.dim _ _ _ c.in-Some.line.now _ steps.0 c.loop-line.invariant.size steps.1.0 steps.1.1

pub loop-line-smaller : goal.loop-line-smaller
loop-line-smaller g c =
    let steps = c.in-Some.ensures.steps in
    fewer_lines c.args.arena.now.schema.dim _ _ _ c.in-Some.line.now _ steps.0 c.loop-line.invariant.size steps.1.0 steps.1.1
