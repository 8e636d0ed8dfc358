use Rattle.gm_undo.proofs.Sums.{never_more}
use Rattle.std.proofs.Common.{◌≡◌, Some, length}
use Rattle.std.specs.FinMap.{get}
use Rattle.gm_arena.specs.inner.ArenaMap.{Dart, name_at}
use Rattle.std.proofs.Common.{sym, ap, ◌∙◌, arith}
use Rattle.gm_arena.proofs.MapLemmas.{name_at-is}
use Rattle.gm_undo.proofs.OneDart.{named}
use Rattle.gm_arena.proofs.InsideLemmas.{some_of}
use Rattle.gm_arena.proofs.ValueLemmas.{length-values}
use Rattle.gm_undo.proofs.writing.link_row.Goals as goal

pub returns-clause-own : goal.returns-clause-own
returns-clause-own g c =
    let old = c.args.arena.now in
    let slot = c.in-Some.slot.at in
    let name : name_at old slot ≡ c.args.name = name_at-is old slot c.args.name c.in-Some.ensures.slot in
    let same : name_at c.link.new.arena slot ≡ name_at old slot = named old c.link.new.arena slot c.link.ensures.frame in
    let d : (dart : Dart) × (get old.darts c.args.name ≡ Some dart) = some_of (get old.darts c.args.name) c.requires.live in
    let dart = c.count.ensures.lawful.dart c.args.name d.0 d.1 in
    let linked = c.link.ensures.own d.0 (ap (get old.darts) name ∙ d.1) (omega (arith, dart.whole, c.requires.whole)) in
    let long : length d.0.values ≡ length c.args.values.now = length-values old.schema d.0.values dart.valued ∙ sym (length-values old.schema c.args.values.now c.requires.values) in
    let valued = c.set_values.ensures.own (record { alphas = c.args.neighbours.now; values = d.0.values }) (ap (get c.link.new.arena.darts) same ∙ linked) long in
    ap (get c.set_values.new.arena.darts) (sym (same ∙ name)) ∙ valued

pub prove-unreachable-requires : goal.prove-unreachable-requires
prove-unreachable-requires g c = never_more c.args.arena.now c.count.result c.count.ensures.lawful c.count.ensures.count c.if-prove.true
