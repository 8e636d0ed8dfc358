use Rattle.std.proofs.Common.{◌≡◌, ◌+◌, ◌∷◌, Some, map, drop, sym, subst, ◌∙◌}
use Rattle.gm_forms.specs.BookText.{word_in}
use Rattle.gm_forms.specs.inner.Forms.{IsItemIn, item_of}
use Rattle.gm_book.proofs.Items.{word_there, no_word, link_no_word}
use Rattle.gm_book.proofs.Onward.{each_on, passed_on, found_on, none_on}
use Rattle.gm_book.proofs.table.word_of.Goals as goal
use Rattle.gm_book.proofs.table.word_of.Goals.{in-Node+else-eq, in_default}

pub bytes_in-requires : goal.bytes_in-requires
bytes_in-requires c =
    (subst (IsItemIn c.args.text.now) c.in-Node.is (each_on (IsItemIn c.args.text.now) c.args.items.now c.loop-item.item-index c.item-item.result c.item-item.result c.requires c.loop-item-test.true c.item-item.is)).0

pub returns-then-eq : goal.returns-then-eq
returns-then-eq c =
    let text = c.args.text.now in
    let l = c.loop-item in
    let n = c.in-Node in
    found_on (item_of text) (λ items. word_in items c.args.name.now) c.args.items.now l.item-index _ c.item-item.result (Some n.word) c.loop-item-test.true c.item-item.is
    (word_there text (map (item_of text) (drop (l.item-index + 1) c.args.items.now)) c.item-item.result n.node n.word n.hook n.sets n.is c.bytes_in.result.now c.bytes_in.ensures c.args.name.now (sym c.eq.ensures ∙ c.if-eq.true)) l.invariant

pub loop-item-preserved : goal.loop-item-preserved
loop-item-preserved c =
    let text = c.args.text.now in
    let name = c.args.name.now in
    let l = c.loop-item in
    let item = c.item-item.result in
    let behind = map (item_of text) (drop (l.item-index + 1) c.args.items.now) in
    let passed = λ (none : word_in (item_of text item ∷ behind) name ≡ word_in behind name). passed_on (item_of text) (λ items. word_in items name) c.args.items.now l.item-index _ item c.loop-item-test.true c.item-item.is none l.invariant in
    elim c.match-item.branch [
      | in-Node+else-eq w ↦ passed (no_word text behind item w.in-Node.node w.in-Node.word w.in-Node.hook w.in-Node.sets w.in-Node.is w.bytes_in.result.now w.bytes_in.ensures name (sym w.eq.ensures ∙ w.if-eq.false))
      | in_default w ↦ passed (link_no_word text behind item w.in_default.field-0 w.in_default.field-1 w.in_default.field-2 w.in_default.is name)
    ]

pub returns : goal.returns
returns c = none_on (item_of c.args.text.now) (λ items. word_in items c.args.name.now) c.args.items.now c.loop-item.item-index _ c.loop-item-test.false c.loop-item.invariant
