use Rattle.std.proofs.Common.{◌≡◌, ◌+◌, ◌∷◌, List, [], Option, None, Result, Vec, Global, map, drop, sym, ap, subst, ◌∙◌}
use Rattle.std.specs.List.{AllZip}
use Rattle.std.specs.Prelude.{IfOk}
use Rattle.std.specs.Result.{result_err}
use Rattle.std.proofs.lemmas.List.{drop_all, take_all}
use Rattle.gm_model.specs.declared.rule.RuleTable.{RuleTable}
use Rattle.gm_model.specs.Rules.{rule_of}
use Rattle.gm_forms.specs.BookText.{MeansRule}
use Rattle.gm_forms.specs.declared.form.RuleForm.{RuleForm}
use Rattle.gm_forms.specs.inner.Forms.{IsRuleIn, rule_form_of}
use Rattle.gm_forms.specs.inner.Held.{names_held}
use Rattle.gm_book.specs.declared.names.NameFault.{NameFault}
use Rattle.gm_book.specs.inner.FirstNameFault.{IsLeast, IsFaultBehind, least_of}
use Rattle.gm_book.specs.inner.Fitting.{IsFitting, HasExprs}
use Rattle.gm_book.proofs.Checked.{never_less}
use Rattle.gm_book.proofs.ReadSets.{each_read, zip_more}
use Rattle.gm_book.proofs.LeastOf.{least_regrouped, least_with_none}
use Rattle.gm_book.proofs.Onward.{left_on, each_on}
use Rattle.gm_book.proofs.RuleFaults.{least_behind, none_behind}
use Rattle.gm_model.proofs.Exits.{unless_ok}
use Rattle.gm_book.proofs.building.read_tables_behind.Goals as goal
use Rattle.gm_book.proofs.building.read_tables_behind.Goals.{in-Ok+in_ok-push-in-Ok, in-Err}

pub loop-rule-init : goal.loop-rule-init
loop-rule-init c = record {
  least = λ behind least. least;
  tables = λ none. subst (λ (made : List RuleTable). AllZip (MeansRule c.args.schema.now.dim c.args.schema.now.embeds) [] (map rule_of made)) (sym c.new-tables.ensures.items) tt;
}

pub named_table-requires-clause-within : goal.named_table-requires-clause-within
named_table-requires-clause-within c = each_on (IsRuleIn c.args.text.now) c.args.rules.now c.loop-rule.rule-index c.rule-item.result c.rule-item.result c.requires.within c.loop-rule-test.true c.rule-item.is

pub named_table-requires-clause-fits : goal.named_table-requires-clause-fits
named_table-requires-clause-fits c = each_read (IsFitting c.args.schema.now.dim) (rule_form_of c.args.text.now) c.args.rules.now c.loop-rule.rule-index c.rule-item.result c.rule-item.result c.requires.fits c.loop-rule-test.true c.rule-item.is

pub named_table-requires-clause-exprs : goal.named_table-requires-clause-exprs
named_table-requires-clause-exprs c = each_read (HasExprs c.args.schema.now.dim) (rule_form_of c.args.text.now) c.args.rules.now c.loop-rule.rule-index c.rule-item.result c.rule-item.result c.requires.exprs c.loop-rule-test.true c.rule-item.is

pub loop-rule-preserved : goal.loop-rule-preserved
loop-rule-preserved c =
    let text = c.args.text.now in
    let n = c.args.schema.now.dim in
    let embeds = c.args.schema.now.embeds in
    let rule = c.rule-item.result in
    let l = c.loop-rule in
    let names = names_held l.names in
    let others = map (rule_form_of text) (drop (l.rule-index + 1) c.args.rules.now) in
    let left : drop l.rule-index c.args.rules.now ≡ rule ∷ drop (l.rule-index + 1) c.args.rules.now = left_on c.args.rules.now l.rule-index rule c.loop-rule-test.true c.rule-item.is in
    let named = c.in_ok-table.ensures in
    let found = result_err c.in_ok-table.field-0 in
    let least = λ (behind : Option NameFault) (least : IsLeast (IsFaultBehind n embeds (names_held c.named_table.new.names) others) behind).
    let later = subst (λ ns. IsLeast (IsFaultBehind n embeds ns others) behind) named.held least in
    let joined = least_behind n embeds names (rule_form_of text rule) others found behind named.fault later in
    let there = subst (λ (rs : List RuleForm). IsLeast (IsFaultBehind n embeds names (map (rule_form_of text) rs)) (least_of found behind)) (sym left) joined in
    subst (IsLeast (IsFaultBehind n embeds (names_held c.args.names.now) (map (rule_form_of text) c.args.rules.now))) (sym (least_regrouped l.first found behind)) (l.invariant.least (least_of found behind) there) in
    let means = MeansRule n embeds in
    elim c.match-branch-2.branch [
      | in-Ok+in_ok-push-in-Ok w ↦
          let said : c.match-branch-2.first ≡ least_of l.first found = w.first-is ∙ sym (least_with_none l.first) ∙ ap (least_of l.first) (sym (ap result_err w.in-Ok.is)) in
          let meant = subst (λ (r : Result RuleTable NameFault). IfOk r (λ table. means (rule_form_of text rule) (rule_of table))) w.in-Ok.is named.table in
          record {
            least = λ behind later. subst (λ (f : Option NameFault). IsLeast (IsFaultBehind n embeds (names_held c.args.names.now) (map (rule_form_of text) c.args.rules.now)) (least_of f behind)) (sym said) (least behind later);
            tables = λ none. zip_more means (rule_form_of text) rule_of c.args.rules.now l.tables.items c.match-branch-2.tables.items l.rule-index rule rule w.in-Ok.table c.loop-rule-test.true c.rule-item.is
                (l.invariant.tables (sym w.first-is ∙ none)) meant (ap (λ (v : Vec RuleTable Global). v.items) w.tables-is ∙ w.in_ok-push-in-Ok.ensures.items);
          }
      | in-Err w ↦
          let said : c.match-branch-2.first ≡ least_of l.first found = w.first-is ∙ w.earlier-first.ensures ∙ ap (least_of l.first) (sym (ap result_err w.in-Err.is)) in
          record {
            least = λ behind later. subst (λ (f : Option NameFault). IsLeast (IsFaultBehind n embeds (names_held c.args.names.now) (map (rule_form_of text) c.args.rules.now)) (least_of f behind)) (sym said) (least behind later);
            tables = λ none. absurd (never_less l.first w.in-Err.fault (sym w.earlier-first.ensures ∙ (sym w.first-is ∙ none)));
          }
    ]

pub returns-in-Some-clause-fault : goal.returns-in-Some-clause-fault
returns-in-Some-clause-fault c =
    let text = c.args.text.now in
    let n = c.args.schema.now.dim in
    let embeds = c.args.schema.now.embeds in
    let l = c.loop-rule in
    let names = names_held l.names in
    let none : [] ≡ drop l.rule-index c.args.rules.now = sym (drop_all l.rule-index c.args.rules.now c.loop-rule-test.false) in
    let there = subst (λ (rs : List RuleForm). IsLeast (IsFaultBehind n embeds names (map (rule_form_of text) rs)) None) none (none_behind n embeds names) in
    subst (IsLeast (IsFaultBehind n embeds (names_held c.args.names.now) (map (rule_form_of text) c.args.rules.now))) (least_with_none l.first ∙ c.in-Some.is) (l.invariant.least None there)

pub returns-in-None-clause-fault : goal.returns-in-None-clause-fault
returns-in-None-clause-fault c =
    let text = c.args.text.now in
    let n = c.args.schema.now.dim in
    let embeds = c.args.schema.now.embeds in
    let l = c.loop-rule in
    let names = names_held l.names in
    let none : [] ≡ drop l.rule-index c.args.rules.now = sym (drop_all l.rule-index c.args.rules.now c.loop-rule-test.false) in
    let there = subst (λ (rs : List RuleForm). IsLeast (IsFaultBehind n embeds names (map (rule_form_of text) rs)) None) none (none_behind n embeds names) in
    subst (IsLeast (IsFaultBehind n embeds (names_held c.args.names.now) (map (rule_form_of text) c.args.rules.now))) (least_with_none l.first ∙ c.in-None.is) (l.invariant.least None there)

pub returns-in-None-clause-tables : goal.returns-in-None-clause-tables
returns-in-None-clause-tables c =
    subst (λ (forms : List RuleForm). AllZip (MeansRule c.args.schema.now.dim c.args.schema.now.embeds) (map (rule_form_of c.args.text.now) forms) (map rule_of c.loop-rule.tables.items))
    (take_all c.loop-rule.rule-index c.args.rules.now c.loop-rule-test.false) (c.loop-rule.invariant.tables c.in-None.is)

pub returns-in_err-table-clause-tables : goal.returns-in_err-table-clause-tables
returns-in_err-table-clause-tables c = unless_ok _ c.from_residual.result c.from_residual.ensures.0

pub returns-in_err-table-clause-fault : goal.returns-in_err-table-clause-fault
returns-in_err-table-clause-fault c = unless_ok _ c.from_residual.result c.from_residual.ensures.0

pub returns-in_err-push-in-Ok-clause-tables : goal.returns-in_err-push-in-Ok-clause-tables
returns-in_err-push-in-Ok-clause-tables c = unless_ok _ c.from_residual-in_err-push-in-Ok.result c.from_residual-in_err-push-in-Ok.ensures.0

pub returns-in_err-push-in-Ok-clause-fault : goal.returns-in_err-push-in-Ok-clause-fault
returns-in_err-push-in-Ok-clause-fault c = unless_ok _ c.from_residual-in_err-push-in-Ok.result c.from_residual-in_err-push-in-Ok.ensures.0
