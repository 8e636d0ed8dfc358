use Rattle.std.proofs.Common.{◌≡◌, length, sym, ap, ◌∙◌, arith}
use Rattle.std.proofs.lemmas.Bool.{eq-eqb, eqb-true}
use Rattle.gm_walk.proofs.NameLemmas.{new_at_end}
use Rattle.gm_walk.proofs.scratch.Scratch.take_new.Goals as goal

pub returns-clause-new : goal.returns-clause-new
returns-clause-new c =
    let end : c.len-end.result ≡ length c.args.self.now.walked = omega (arith, c.len-end.ensures, c.self.inside.queue.ok.0, ap (λ r. length r.walked) c.self.view_is) in
    let told = new_at_end c.args.self.now c.args.slot c.take.new.self c.take.ensures.taken c.take.result c.take.ensures.place in
    ((λ yes. told.0 (eqb-true _ _ yes ∙ end)), (λ lacks. eq-eqb _ _ (told.1 lacks ∙ sym end)))
