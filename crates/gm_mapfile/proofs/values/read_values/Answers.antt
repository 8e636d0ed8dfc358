use Rattle.std.proofs.Common.{◌+◌, List, [], ◌∷◌, ◌++◌, suc, take, drop, subst, sym, arith}
use Rattle.std.proofs.lemmas.List.{take_all}
use Rattle.std.proofs.lemmas.Result.{err_from_is_err_and}
use Rattle.gm_model.specs.declared.schema.Embed.{Embed}
use Rattle.gm_model.specs.declared.value.Value.{Value}
use Rattle.gm_mapfile.specs.MapReading.{Misses, values_wants, ReadsValues}
use Rattle.gm_model.proofs.Exits.{never_ok}
use Rattle.gm_mapfile.proofs.DartReads.{values_none, values_more, values_stop, taken_to, taken_at}
use Rattle.gm_mapfile.proofs.values.read_values.Goals as goal

pub loop-embed-init : goal.loop-embed-init
loop-embed-init c = values_none c.args.lexer.now c.args.values.now.items

pub returns-in_err-value-clause-stops : goal.returns-in_err-value-clause-stops
returns-in_err-value-clause-stops c =
    let p = err_from_is_err_and c.from_residual.result c.from_residual.ensures.1 in
    let embeds = c.args.embeds.now in
    let k = c.loop-embed.embed-index in
    let embed = c.embed-item.result in
    let fault = c.in_err-value.field-0.0 in
    rw (p.1, p.2)
    (subst (λ (es : List Embed). Misses (values_wants es) c.args.lexer.now fault) (taken_at embeds k embed c.loop-embed-test.true c.embed-item.is)
    (values_stop (take k embeds) (drop (suc k) embeds) embed c.args.lexer.now c.loop-embed.lexer c.args.values.now.items c.loop-embed.values.items fault c.loop-embed.invariant c.in_err-value.ensures.misses))

pub loop-embed-preserved : goal.loop-embed-preserved
loop-embed-preserved c =
    let embeds = c.args.embeds.now in
    let k = c.loop-embed.embed-index in
    let embed = c.embed-item.result in
    let value = c.in_ok-value.value in
    let more = values_more (take k embeds) embed c.args.lexer.now c.loop-embed.lexer c.read_value.new.lexer c.args.values.now.items c.loop-embed.values.items value c.loop-embed.invariant c.in_ok-value.ensures.takes c.in_ok-value.ensures.kind in
    let all = subst (λ (es : List Embed). ReadsValues es c.args.lexer.now c.read_value.new.lexer c.args.values.now.items (c.loop-embed.values.items ++ value ∷ [])) (taken_to embeds k embed c.loop-embed-test.true c.embed-item.is) more in
    subst (λ (values : List Value). ReadsValues (take (k + 1) embeds) c.args.lexer.now c.read_value.new.lexer c.args.values.now.items values) (sym {A = List Value} c.in_ok-push.ensures.items) all

pub returns-clause-reads : goal.returns-clause-reads
returns-clause-reads c =
    let all = take_all c.loop-embed.embed-index c.args.embeds.now (omega (arith, c.loop-embed-test.false)) in
    subst (λ (es : List Embed). ReadsValues es c.args.lexer.now c.loop-embed.lexer c.args.values.now.items c.loop-embed.values.items) all c.loop-embed.invariant

pub returns-in_err-value-clause-reads : goal.returns-in_err-value-clause-reads
returns-in_err-value-clause-reads c = never_ok _ c.from_residual.result c.from_residual.ensures.0

pub returns-in_err-push-clause-reads : goal.returns-in_err-push-clause-reads
returns-in_err-push-clause-reads c = never_ok _ c.from_residual-in_err-push.result c.from_residual-in_err-push.ensures.0
