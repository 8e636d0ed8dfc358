use Rattle.std.proofs.Common.{◌≡◌, ◌<◌, ℕ, length, take, drop, sym, ◌∙◌, arith}
use Rattle.std.proofs.lemmas.Bool.{leb-true}
use Rattle.std.proofs.lemmas.List.{length-take, length-drop, take-take}
use Rattle.gm_script.proofs.Alike.{mask, all_same, first_other, alike}
use Rattle.gm_script.proofs.near.stands_at.Goals as goal

pub returns-then-others-eq0 : goal.returns-then-others-eq0
returns-then-others-eq0 c = λ _.
    let there = drop c.args.place c.args.bytes.now in
    let long : length (take 16 there) ≡ 16 = omega (arith, c.requires.inside, length-take {A = ℕ}, length-drop {A = ℕ}) in
    let same : length (take 16 there) ≡ length c.args.lead = long ∙ sym c.fits-lead.0 in
    let all = all_same (take 16 there) c.args.lead long same c.if-others-eq0.true in
    sym (take-take c.args.size 16 there c.requires.few) ∙ alike (take 16 there) c.args.lead c.args.size (omega (arith, all, c.requires.few))

pub returns-else-others-eq0 : goal.returns-else-others-eq0
returns-else-others-eq0 c = λ is.
    let there = drop c.args.place c.args.bytes.now in
    let long : length (take 16 there) ≡ 16 = omega (arith, c.requires.inside, length-take {A = ℕ}, length-drop {A = ℕ}) in
    let same : length (take 16 there) ≡ length c.args.lead = long ∙ sym c.fits-lead.0 in
    let some : 0 < mask (take 16 there) c.args.lead long same = omega (arith, c.if-others-eq0.false) in
    let first = first_other (take 16 there) c.args.lead long same some in
    sym (take-take c.args.size 16 there c.requires.few) ∙ alike (take 16 there) c.args.lead c.args.size (omega (arith, first, leb-true c.args.size _ is))
