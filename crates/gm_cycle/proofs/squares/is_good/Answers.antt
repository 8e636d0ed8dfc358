use Rattle.std.proofs.Common.{◌≡◌, get_or, true, false, sym, ◌∙◌}
use Rattle.std.proofs.lemmas.Bool.{false≢true, true_from_ne_false}
use Rattle.gm_model.specs.Rules.{rule_of}
use Rattle.gm_cycle.proofs.Closing.{good_excused, good_closed, not_good}
use Rattle.gm_cycle.proofs.squares.is_good.Goals as goal
use Rattle.gm_cycle.proofs.squares.is_good.Goals.{then-stays-i, else-stays-i}

pub returns-then-is_excused : goal.returns-then-is_excused
returns-then-is_excused c =
    let rule = rule_of c.args.rule.now in
    let h = c.requires in (
      (λ p. elim c.if-stays-i.branch [
        | then-stays-i w ↦ good_excused rule c.args.right.now h.right h.ends c.args.node c.args.i c.args.j h.node h.i h.j c.args.stays.now h.stays h.on_right
            w.if-stays-i.true (sym w.is_excused-is ∙ p)
        | else-stays-i w ↦ absurd (false≢true (sym w.if-stays-i.false ∙ sym w.is_excused-is ∙ p))
      ]),
      (λ p. c.if-is_excused.true),
    )

pub returns-else-is_excused : goal.returns-else-is_excused
returns-else-is_excused c =
    let rule = rule_of c.args.rule.now in
    let rows = c.args.right.now in
    let h = c.requires in
    let stays = c.args.stays.now in
    let apart : get_or stays c.args.i false ≡ true → get_or stays c.args.j false ≡ true → ⊥ = (λ p q. elim c.if-stays-i.branch [
      | then-stays-i w ↦ false≢true (sym c.if-is_excused.false ∙ w.is_excused-is ∙ q)
      | else-stays-i w ↦ false≢true (sym w.if-stays-i.false ∙ p)
    ]) in (
      (λ p. good_closed rule rows h.right h.ends c.args.node c.args.i c.args.j h.node h.i h.j stays h.stays h.on_right (c.closes.ensures.0 p)),
      (λ p. true_from_ne_false c.closes.result (λ f. not_good rule rows h.right h.ends c.args.node c.args.i c.args.j h.node h.i h.j stays h.stays h.on_right
          apart (λ q. false≢true (sym f ∙ c.closes.ensures.1 q)) p)),
    )
