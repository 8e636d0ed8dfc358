use Rattle.std.proofs.Common.{◌≡◌, ℕ, ◌+◌, ◌≤◌, get_or, take, Fits, w16, ap, ◌∙◌, arith}
use Rattle.std.specs.List.{count_by}
use Rattle.std.proofs.lemmas.List.{take_all, length-take-le}
use Rattle.std.proofs.lemmas.List.Sums.{count_by-le-length}
use Rattle.gm_model.specs.declared.rule.Link.{Link}
use Rattle.gm_model.specs.Rules.{is_end}
use Rattle.gm_incident.proofs.counts.link_counts.Goals as goal

low : (count ends front k all : ℕ) → count ≡ ends → ends ≤ front → front ≡ k → k ≤ all → all ≤ 256 → Fits w16 (count + 1)
low count ends front k all same most is within few = omega arith

pub bounds-counts-link : goal.bounds-counts-link
bounds-counts-link c = c.requires.labels c.loop-link.link-index record { from = 0; label = 0; to = 0 } c.loop-link-test.true

pub bounds-counts-link-then-link-node : goal.bounds-counts-link-then-link-node
bounds-counts-link-then-link-node c = c.requires.labels c.loop-link.link-index record { from = 0; label = 0; to = 0 } c.loop-link-test.true

pub overflow_add-counts : goal.overflow_add-counts
overflow_add-counts c =
    let links = c.args.links.now in
    let k = c.loop-link.link-index in
    let link : Link = get_or links k record { from = 0; label = 0; to = 0 } in
    let same = c.loop-link.invariant.same link.label (c.requires.labels k record { from = 0; label = 0; to = 0 } c.loop-link-test.true) in
    let most = count_by-le-length (is_end c.args.node link.label) (take k links) in
    let front = length-take-le k links c.loop-link.auto.link-index-end in
    low _ _ _ _ _ same most front c.loop-link.auto.link-index-end c.requires.few

pub returns : goal.returns
returns c i b = c.loop-link.invariant.same i b ∙ ap (count_by (is_end c.args.node i)) (take_all c.loop-link.link-index c.args.links.now c.loop-link-test.false)
