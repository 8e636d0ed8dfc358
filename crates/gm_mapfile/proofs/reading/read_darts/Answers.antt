use Rattle.std.proofs.Common.{ℕ, ◌+◌, ◌*◌, ◌/◌, ◌<◌, ◌≤◌, Fits, w64, List, length, replicate, ap, subst, arith}
use Rattle.std.proofs.Math.Nat.{le_antisymm, le_refl, mul-div-le}
use Rattle.std.proofs.lemmas.Nat.{mul-le}
use Rattle.std.proofs.lemmas.Result.{err_from_is_err_and}
use Rattle.gm_model.specs.Limits.{most_darts}
use Rattle.gm_model.specs.declared.schema.Embed.{Embed}
use Rattle.gm_mapfile.specs.MapText.{DartName}
use Rattle.gm_mapfile.specs.MapReading.{TheNumber, Misses, values_wants, ReadsNames, ReadsDarts, ReadsValues}
use Rattle.gm_model.proofs.Exits.{unless_ok}
use Rattle.gm_mapfile.proofs.Chunks.{byte_fits, width_fits}
use Rattle.gm_mapfile.proofs.DartReads.{lines_none, lines_more, stop_at_names, stop_at_values}
use Rattle.gm_mapfile.proofs.reading.read_darts.Goals as goal

-- a line has few names, and a text no more lines than bytes
line_fits : (n : ℕ) → n < 256 → Fits w64 (2 * (n + 2))
line_fits n low = omega (arith, low)

not_nothing : (n : ℕ) → 0 < 2 * (n + 2)
not_nothing n = omega arith

lines_fit : (bytes width : ℕ) → Fits w64 bytes → 2 ≤ width → Fits w64 (bytes / width + 1)
lines_fit bytes width fits wide = omega (arith, mul-le 2 (bytes / width) width (bytes / width) wide (le_refl _), mul-div-le bytes width)

at_least_two : (n : ℕ) → 2 ≤ 2 * (n + 2)
at_least_two n = omega arith

pub overflow_cast-width : goal.overflow_cast-width
overflow_cast-width c = byte_fits c.top.result c.top.type_inv

pub overflow_add-width : goal.overflow_add-width
overflow_add-width c = width_fits c.top.result c.top.type_inv

pub overflow_mul-width : goal.overflow_mul-width
overflow_mul-width c = line_fits c.top.result c.top.type_inv

pub nonzero_div-bytes : goal.nonzero_div-bytes
nonzero_div-bytes c = not_nothing c.top.result

pub overflow_add-bytes : goal.overflow_add-bytes
overflow_add-bytes c = lines_fit c.args.bytes (2 * (c.top.result + 2)) c.ranges.bytes (at_least_two c.top.result)

pub returns-in_err-numbers-clause-stops : goal.returns-in_err-numbers-clause-stops
returns-in_err-numbers-clause-stops c =
    let p = err_from_is_err_and c.from_residual.result c.from_residual.ensures.1 in
    rw (p.1, p.2) (λ head taken wants. tt)

pub returns-in_err-values-clause-stops : goal.returns-in_err-values-clause-stops
returns-in_err-values-clause-stops c =
    let p = err_from_is_err_and c.from_residual-in_err-values.result c.from_residual-in_err-values.ensures.1 in
    rw (p.1, p.2) (λ head taken wants. tt)

pub returns-clause-reads : goal.returns-clause-reads
returns-clause-reads c =
    let l = c.loop in
    subst (λ (n : ℕ). ReadsDarts c.args.schema.now n c.args.lexer.now l.ahead l.numbers.items l.values.items) (le_antisymm (l.auto.counter-end) c.loop-test.false) l.invariant

pub loop-init : goal.loop-init
loop-init c = rw (c.fork-ahead.ensures, c.in_ok-numbers.ensures.items, c.in_ok-values.ensures.items) (lines_none c.args.schema.now c.args.lexer.now)

pub returns-in_err-read_names-clause-stops : goal.returns-in_err-read_names-clause-stops
returns-in_err-read_names-clause-stops c =
    let p = err_from_is_err_and c.from_residual-in_err-read_names.result c.from_residual-in_err-read_names.ensures.1 in
    let l = c.loop in
    let fault = c.in_err-read_names.field-0.0 in
    let misses = subst (λ (n : ℕ). Misses (replicate (n + 2) (TheNumber DartName)) l.ahead fault) c.top.ensures.value c.in_err-read_names.ensures.stops in
    rw (p.1, p.2) (stop_at_names c.args.schema.now l.counter c.args.lexer.now l.ahead l.numbers.items l.values.items l.invariant c.args.count fault c.loop-test.true misses)

pub returns-in_err-read_values-clause-stops : goal.returns-in_err-read_values-clause-stops
returns-in_err-read_values-clause-stops c =
    let p = err_from_is_err_and c.from_residual-in_err-read_values.result c.from_residual-in_err-read_values.ensures.1 in
    let l = c.loop in
    let fault = c.in_err-read_values.field-0.0 in
    let behind = c.read_names.new.lexer in
    let names = c.read_names.new.names.items in
    let reads = subst (λ (n : ℕ). ReadsNames (n + 2) l.ahead behind l.numbers.items names) c.top.ensures.value c.in_ok-read_names.ensures.reads in
    let misses = subst (λ (embeds : List Embed). Misses (values_wants embeds) behind fault) c.as_slice-embeds.ensures c.in_err-read_values.ensures.stops in
    rw (p.1, p.2) (stop_at_values c.args.schema.now l.counter c.args.lexer.now l.ahead l.numbers.items l.values.items l.invariant c.args.count fault names behind c.loop-test.true reads misses)

pub loop-preserved : goal.loop-preserved
loop-preserved c =
    let l = c.loop in
    let behind = c.read_names.new.lexer in
    let names = c.read_names.new.names.items in
    let values = c.read_values.new.values.items in
    let reads = subst (λ (n : ℕ). ReadsNames (n + 2) l.ahead behind l.numbers.items names) c.top.ensures.value c.in_ok-read_names.ensures.reads in
    let more = subst (λ (embeds : List Embed). ReadsValues embeds behind c.read_values.new.lexer l.values.items values) c.as_slice-embeds.ensures c.in_ok-read_values.ensures.reads in
    lines_more c.args.schema.now l.counter c.args.lexer.now l.ahead l.numbers.items l.values.items l.invariant names values behind c.read_values.new.lexer reads more

pub returns-in_err-numbers-clause-reads : goal.returns-in_err-numbers-clause-reads
returns-in_err-numbers-clause-reads c = unless_ok _ c.from_residual.result c.from_residual.ensures.0

pub returns-in_err-values-clause-reads : goal.returns-in_err-values-clause-reads
returns-in_err-values-clause-reads c = unless_ok _ c.from_residual-in_err-values.result c.from_residual-in_err-values.ensures.0

pub returns-in_err-read_names-clause-reads : goal.returns-in_err-read_names-clause-reads
returns-in_err-read_names-clause-reads c = unless_ok _ c.from_residual-in_err-read_names.result c.from_residual-in_err-read_names.ensures.0

pub returns-in_err-read_values-clause-reads : goal.returns-in_err-read_values-clause-reads
returns-in_err-read_values-clause-reads c = unless_ok _ c.from_residual-in_err-read_values.result c.from_residual-in_err-read_values.ensures.0

pub loop-smaller : goal.loop-smaller
loop-smaller c = omega (arith, c.loop-test.true)

pub overflow_mul-room : goal.overflow_mul-room
overflow_mul-room c =
    let few : c.min-room.result ≤ most_darts = omega (arith, c.min-room.ensures, c.requires.few) in
    omega (arith, mul-le c.min-room.result (c.top.result + 2) most_darts 257 few (omega (arith, c.top.type_inv)))

pub overflow_mul-room-2 : goal.overflow_mul-room-2
overflow_mul-room-2 c =
    let few : c.min-room.result ≤ most_darts = omega (arith, c.min-room.ensures, c.requires.few) in
    let narrow : length c.as_slice-embeds.result.now ≤ 8 = omega (arith, ap length c.as_slice-embeds.ensures, c.requires.schema.count) in
    omega (arith, mul-le c.min-room.result (length c.as_slice-embeds.result.now) most_darts 8 few narrow)
