use Rattle.std.proofs.Common.{◌≡◌, ◌+◌, ◌-◌, ◌<◌, ◌≤◌, ℕ, List, length, drop, get_or, sym, subst, arith}
use Rattle.std.proofs.lemmas.List.{take-take}
use Rattle.gm_script.specs.inner.Reading.{IsLead}
use Rattle.gm_script.specs.declared.sight.Sight.TheVariants as sights
use Rattle.gm_script.proofs.NameLeads.{name_lead, name_of}
use Rattle.gm_script.proofs.near.lead_of_name.Goals as goal

pub returns : goal.returns
returns c =
    let text = c.args.bytes.now in
    let start = c.args.token.start in
    let end = c.args.token.end in
    let first : 0 < start = omega (arith, c.if-start-eq0.false) in
    let few : end - start + 2 ≤ 16 = omega (arith, c.if-end-start.false) in
    let within : end < length text = omega (arith, few, c.if-bytes-start-lt-LANES.false, c.requires.inside.order, c.requires.inside.within) in
    let before : get_or text (start - 1) 0 ≡ 32 = omega (arith, c.if-bytes-start-ne32.false) in
    let behind : get_or text end 0 ≡ 32 = omega (arith, c.if-bytes-end-ne32.false) in
    let lead = take-take (end - start + 2) 16 (drop (start - 1) text) few in
    record {
      lead_is = record {
        some = omega arith;
        few = few;
        is = subst (λ (l : List ℕ). IsLead l sights.Name) (sym lead) (name_lead text start end within first before behind c.requires.lexeme c.requires.sees);
      };
      index_is = rw (lead, name_of text start end first) (sym c.in_ok-index_of.ensures.index);
    }
