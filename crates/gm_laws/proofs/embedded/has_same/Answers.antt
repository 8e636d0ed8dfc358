use Rattle.std.proofs.Common.{◌≡◌, ◌↔◌, true, sym, ap, ◌∙◌}
use Rattle.gm_arena.proofs.MapLemmas.{name_at-is}
use Rattle.gm_arena.specs.inner.ArenaAsMap.{value}
use Rattle.gm_laws.proofs.ValueLemmas.{same_told, same_value}
use Rattle.gm_laws.proofs.embedded.has_same.Goals as goal

pub returns-clause-same : goal.returns-clause-same
returns-clause-same g c =
    let m = c.args.arena.now in
    let e = c.args.embed in
    let there = c.value_at.ensures.value ∙ ap (value m e) (name_at-is m c.alpha-to.result.at _ c.alpha-to.ensures.neighbour) in
    let same : (c.eq.result ≡ true) ↔ (c.value_at.result ≡ c.args.own) = ((λ is. same_value c.value_at.result c.args.own (sym c.eq.ensures ∙ is)), (λ is. c.eq.ensures ∙ same_told c.value_at.result c.args.own is)) in
    ((λ is. sym there ∙ same.0 is ∙ c.requires.own), (λ is. same.1 (there ∙ is ∙ sym c.requires.own)))
