use Rattle.std.proofs.Common.{◌≡◌, ◌++◌, ◌<◌, length, map, codes, ap, refl, sym, subst, ◌∙◌}
use Rattle.std.specs.Prelude.{OnOk}
use Rattle.gm_model.specs.declared.rule.RuleTable.{RuleTable}
use Rattle.gm_model.specs.Reports.{rule_name, stat_words}
use Rattle.gm_model.specs.Rules.{rule_of}
use Rattle.gm_model.specs.Statements.{stat_of}
use Rattle.gm_run.specs.inner.Printing.{IsNamed}
use Rattle.gm_run.proofs.Told.{named_at, onward}
use Rattle.gm_run.proofs.printing.put_stat.Goals as goal

pub returns-in_ok-put-in-Each : goal.returns-in_ok-put-in-Each
returns-in_ok-put-in-Each c =
    let rules = c.args.rules.now in
    let within : c.in-Each.rule < length rules = subst (IsNamed (length rules)) (ap stat_of c.in-Each.is) c.requires in
    let name = rule_name (map rule_of rules) c.in-Each.rule in
    let bytes = c.bytes-in-Each.ensures.value ∙ sym (ap (λ (t : RuleTable). t.name) c.index-rules-rule.is) ∙ named_at rules c.in-Each.rule c.index-rules-rule.result within c.index-rules-rule.is in
    subst (λ stat. OnOk c.put-in-Each-2.result (c.put-in-Each-2.new.self ≡ c.args.text.now ++ stat_words (map rule_of rules) stat)) (sym (ap stat_of c.in-Each.is))
    (onward c.put-in-Each-2.result c.args.text.now (codes "each ") name (codes "each " ++ name) c.put-in-Each.new.self c.put-in-Each-2.new.self c.in_ok-put-in-Each.ensures.ok refl
    (subst (λ b. OnOk c.put-in-Each-2.result (c.put-in-Each-2.new.self ≡ c.put-in-Each.new.self ++ b)) bytes c.put-in-Each-2.ensures.ok))
