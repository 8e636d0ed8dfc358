use Rattle.std.proofs.Common.{◌≡◌, [], ◌++◌, ◌∷◌, refl, sym, ap, ◌∙◌, subst, arith, append-nil, append_assoc}
use Rattle.std.proofs.lemmas.Bool.{false≢true}
use Rattle.std.specs.Vec.Iter.{into_iter_items}
use Rattle.gmr.proofs.Words.{behind_first, none_left}
use Rattle.gmr.proofs.behind_name.Goals as goal

pub loop-word-init : goal.loop-word-init
loop-word-init c =
    rw c.new-words.ensures.items
    (sym (behind_first (into_iter_items c.args.args) (into_iter_items c.next.new.self) c.next.result c.next.ensures.items (λ some. c.next.ensures.variant.1 (let long = c.args.args.rest.ok in omega (arith, some, long.0)))))

pub loop-word-smaller : goal.loop-word-smaller
loop-word-smaller c = let one = c.in-Some.ensures.len in omega (arith, one)

pub loop-word-preserved : goal.loop-word-preserved
loop-word-preserved c =
    rw c.in_ok-push.ensures.items (c.loop-word.invariant ∙ ap (λ rest. c.loop-word.words.items ++ rest) c.in-Some.ensures.items ∙ sym (append_assoc c.loop-word.words.items (c.in-Some.word ∷ []) (into_iter_items c.next-in-loop-word.new.self)))

pub returns : goal.returns
returns c =
    let long = c.loop-word.args.rest.ok in
    let none = none_left (into_iter_items c.loop-word.args) (λ some. false≢true (c.in_default.ensures.variant.1 (omega (arith, some, long.0)))) in
    sym (append-nil c.loop-word.words.items) ∙ ap (λ rest. c.loop-word.words.items ++ rest) (sym none) ∙ sym c.loop-word.invariant
