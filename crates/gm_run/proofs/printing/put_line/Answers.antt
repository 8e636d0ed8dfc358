use Rattle.std.proofs.Common.{ℕ, ◌≡◌, ◌++◌, ◌<◌, ◌≤◌, List, length, map, codes, ap, sym, subst, ◌∙◌}
use Rattle.std.specs.Prelude.{IsSomeAnd, OnOk, decimal}
use Rattle.std.proofs.lemmas.List.{length-map}
use Rattle.gm_model.specs.declared.rule.RuleTable.{RuleTable}
use Rattle.gm_model.specs.Reports.{nodes_of, rule_name, stat_words}
use Rattle.gm_model.specs.Rules.{RuleNode, node_of, rule_of}
use Rattle.gm_model.specs.Statements.{stat_of}
use Rattle.gm_model.proofs.Exits.{never_ok}
use Rattle.gm_run.specs.inner.Lines.{outcome_of}
use Rattle.gm_run.specs.inner.Printing.{IsNamed, SpeaksOf, told_words}
use Rattle.gm_run.proofs.Told.{line_put, named_at}
use Rattle.gm_run.proofs.printing.put_line.Goals as goal

pub bounds-rules-line : goal.bounds-rules-line
bounds-rules-line c =
    let within : c.in-Apply-Done.line.rule < length c.args.book.now.rules = subst (IsNamed (length c.args.book.now.rules)) (ap stat_of c.in-Apply-Done.is-0) c.requires.named in
    subst (λ (l : List RuleTable). c.in-Apply-Done.line.rule < length l) (sym c.as_slice-rules.ensures) within

pub put_done_line-requires : goal.put_done_line-requires
put_done_line-requires c = subst (λ (b : List ℕ). length b ≤ 32) (sym c.bytes-name.ensures.value) c.bytes-name.ensures.name.0

pub returns-in-Apply-Done : goal.returns-in-Apply-Done
returns-in-Apply-Done c =
    let rule = c.in-Apply-Done.line.rule in
    let within : rule < length c.args.book.now.rules = subst (IsNamed (length c.args.book.now.rules)) (ap stat_of c.in-Apply-Done.is-0) c.requires.named in
    let name = c.bytes-name.ensures.value ∙ sym (ap (λ (t : RuleTable). t.name) c.index-rules-line.is) ∙ named_at c.as_slice-rules.result.now rule c.index-rules-line.result (subst (λ (l : List RuleTable). rule < length l) (sym c.as_slice-rules.ensures) within) c.index-rules-line.is ∙ ap (λ (l : List RuleTable). rule_name (map rule_of l) rule) c.as_slice-rules.ensures in
    let done = c.in-Apply-Done.applied in
    rw (c.in-Apply-Done.is-0, c.in-Apply-Done.is-1)
    (subst (λ bytes. OnOk c.put_done_line.result (c.put_done_line.new.text ≡ c.args.text.now ++ (decimal c.args.number ++ codes " " ++ bytes ++ codes " " ++ (codes "done added " ++ decimal done.added ++ codes " removed " ++ decimal done.removed) ++ codes "\n"))) name c.put_done_line.ensures)

pub put_stat-requires : goal.put_stat-requires
put_stat-requires c = subst (λ (l : List RuleTable). IsNamed (length l) (stat_of c.args.stat)) (sym c.as_slice-rules.ensures) c.requires.named

pub nodes_at-requires : goal.nodes_at-requires
nodes_at-requires c = subst (λ (l : List RuleTable). IsNamed (length l) (stat_of c.args.stat)) (sym c.as_slice-rules.ensures) c.requires.named

pub put_outcome-requires : goal.put_outcome-requires
put_outcome-requires c =
    let long = sym (length-map c.nodes_at.result.now node_of) ∙ ap length (c.nodes_at.ensures ∙ ap (λ (l : List RuleTable). nodes_of (map rule_of l) (stat_of c.args.stat)) c.as_slice-rules.ensures) in
    subst (λ n. IsSomeAnd (outcome_of c.args.outcome) (SpeaksOf n (length c.args.book.now.schema.embeds))) (sym long) c.requires.speaks

pub returns-in_err-number : goal.returns-in_err-number
returns-in_err-number c = never_ok _ c.from_residual.result c.from_residual.ensures.0

pub returns-in_err-put : goal.returns-in_err-put
returns-in_err-put c = never_ok _ c.from_residual-in_err-put.result c.from_residual-in_err-put.ensures.0

pub returns-in_err-put_stat : goal.returns-in_err-put_stat
returns-in_err-put_stat c = never_ok _ c.from_residual-in_err-put_stat.result c.from_residual-in_err-put_stat.ensures.0

pub returns-in_err-put-2 : goal.returns-in_err-put-2
returns-in_err-put-2 c = never_ok _ c.from_residual-in_err-put-2.result c.from_residual-in_err-put-2.ensures.0

pub returns-in_err-put_outcome : goal.returns-in_err-put_outcome
returns-in_err-put_outcome c = never_ok _ c.from_residual-in_err-put_outcome.result c.from_residual-in_err-put_outcome.ensures.0

pub returns : goal.returns
returns c =
    let schema = c.args.book.now.schema in
    let rules = map rule_of c.args.book.now.rules in
    let said = subst (λ (l : List RuleTable). c.put_stat.new.text ≡ c.put.new.self ++ stat_words (map rule_of l) (stat_of c.args.stat)) c.as_slice-rules.ensures c.in_ok-put_stat.ensures in
    let told = subst (λ (nodes : List RuleNode). c.put_outcome.new.text ≡ c.put-2.new.self ++ told_words schema nodes c.args.outcome) (c.nodes_at.ensures ∙ ap (λ (l : List RuleTable). nodes_of (map rule_of l) (stat_of c.args.stat)) c.as_slice-rules.ensures) c.in_ok-put_outcome.ensures in
    line_put c.put-3.result (decimal c.args.number) (codes " ") (stat_words rules (stat_of c.args.stat)) (codes " ") (told_words schema (nodes_of rules (stat_of c.args.stat)) c.args.outcome) (codes "\n")
    c.args.text.now c.number.new.self c.put.new.self c.put_stat.new.text c.put-2.new.self c.put_outcome.new.text c.put-3.new.self
    c.in_ok-number.ensures.ok c.in_ok-put.ensures.ok said c.in_ok-put-2.ensures.ok told c.put-3.ensures.ok
