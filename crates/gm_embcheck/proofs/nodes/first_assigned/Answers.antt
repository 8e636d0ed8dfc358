use Rattle.std.proofs.Common.{◌≡◌, ℕ, ◌+◌, ◌<◌, ◌≤◌, sym, subst, ◌∙◌, inl, inr, lt_irrefl, lt_of_lt_of_le, arith}
use Rattle.std.proofs.lemmas.Bool.{cases_lt, false≢true}
use Rattle.std.proofs.lemmas.Option.{slice_get_within}
use Rattle.gm_model.specs.Rules.{rule_of}
use Rattle.gm_embcheck.specs.inner.NodeSets.{IsAssignedIn}
use Rattle.gm_embcheck.proofs.nodes.first_assigned.Goals as goal
use Rattle.gm_embcheck.proofs.nodes.first_assigned.Goals.{else-component-node-via-then-component-node+else-assigns, else-component-node-via-else-component-node}

last_node : (x node : ℕ) → x < node + 1 → node ≤ x → x ≡ node
last_node x node low past = omega arith

pub loop-node-init : goal.loop-node-init
loop-node-init c = λ x past low assigned. lt_irrefl _ (lt_of_lt_of_le low past)

pub assigns-requires : goal.assigns-requires
assigns-requires c = subst (λ n. c.loop-node.node < n) c.node_count-node-end.ensures c.loop-node-test.true

pub returns-then-assigns : goal.returns-then-assigns
returns-then-assigns c = record {
  first = record { from = c.loop-node.auto.node; has = (c.if-component-node.true, c.assigns.ensures.0 c.if-assigns.true); before = c.loop-node.invariant };
  below = lt_of_lt_of_le (subst (λ n. c.loop-node.node < n) c.node_count-node-end.ensures c.loop-node-test.true) c.requires;
}

pub loop-node-preserved : goal.loop-node-preserved
loop-node-preserved c = λ x past low assigned. elim (cases_lt x c.loop-node.node) [
  | inl before ↦ c.loop-node.invariant x past before assigned
  | inr behind ↦ (
      let here = subst (IsAssignedIn (rule_of c.args.rule.now) c.args.embed c.args.component.now) (last_node x c.loop-node.node low behind) assigned in
      elim c.else-component-node.branch [
        | else-component-node-via-then-component-node+else-assigns w ↦ false≢true (sym w.if-assigns.false ∙ w.assigns.ensures.1 here.1)
        | else-component-node-via-else-component-node w ↦ false≢true (sym w.if-component-node.false ∙ here.0)
      ])
]

-- a node with an assignment is one of the rule
pub returns-clause-first : goal.returns-clause-first
returns-clause-first c = λ x past assigned.
    let there = slice_get_within (rule_of c.args.rule.now).nodes x assigned.1.1.0 assigned.1.1.1 in
    c.loop-node.invariant x past (lt_of_lt_of_le there (subst (λ n. n ≤ c.loop-node.node) c.node_count-node-end.ensures c.loop-node-test.false)) assigned
