use Rattle.std.proofs.Common.{◌≡◌, ℕ, ◌<◌, inl, inr, [], length, Some, None, below_more, ap, sym, ◌∙◌, refl, arith}
use Rattle.std.specs.List.{slice_get}
use Rattle.std.proofs.lemmas.Bool.{false≢true}
use Rattle.std.proofs.lemmas.Option.{slice_get_cases}
use Rattle.gm_model.specs.declared.rule.Side.{Side}
use Rattle.gm_model.specs.declared.word.Letter.{Letter}
use Rattle.gm_model.specs.Rules.{Rule, rule_of, letters, word_at}
use Rattle.gm_embcheck.proofs.places.has_letter_among.Goals as goal
use Rattle.gm_embcheck.proofs.places.has_letter_among.Goals.{else-nodes-node-via-then-nodes-node+else-has_letter, else-nodes-node-via-else-nodes-node}

-- what has a letter is a node
letter_below : (rule : Rule) (side : Side) (x m : ℕ) (letter : Letter) → slice_get (letters rule side x) m ≡ Some letter → x < length rule.nodes
letter_below rule side x m letter h = elim ((slice_get_cases rule.nodes x).1) [
  | inl found ↦ found.1
  | inr past ↦ absurd (let none : word_at rule side x ≡ None = rw past.1 refl in let word : letters rule side x ≡ [] = rw none refl in let e : None ≡ Some letter = sym (ap (λ w. slice_get w m) word) ∙ h in cc)
]

pub returns-then-has_letter : goal.returns-then-has_letter
returns-then-has_letter c = ((λ _. (c.loop-node.node, c.if-nodes-node.true, c.has_letter.ensures.0 c.if-has_letter.true)), (λ _. refl))

pub loop-node-preserved : goal.loop-node-preserved
loop-node-preserved c = below_more _ c.loop-node.node c.loop-node.invariant (λ is h. elim c.else-nodes-node.branch [
  | else-nodes-node-via-then-nodes-node+else-has_letter w ↦ false≢true (sym w.if-has_letter.false ∙ w.has_letter.ensures.1 h)
  | else-nodes-node-via-else-nodes-node w ↦ false≢true (sym w.if-nodes-node.false ∙ is)
])

pub returns : goal.returns
returns c = (
  (λ f. absurd (false≢true f)),
  (λ h. absurd (c.loop-node.invariant h.0 (let b = letter_below (rule_of c.args.rule.now) c.args.side h.0 c.args.place _ h.2.1 in omega (arith, b, c.loop-node-test.false, c.node_count-node-end.ensures)) h.1 h.2)),
)
