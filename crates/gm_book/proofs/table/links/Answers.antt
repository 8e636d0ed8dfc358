use Rattle.std.proofs.Common.{◌+◌, List, [], ◌∷◌, ◌++◌, Vec, Global, map, drop, ap, refl, subst, ◌∙◌}
use Rattle.gm_model.specs.declared.rule.Link.{Link}
use Rattle.gm_forms.specs.BookText.{links_in}
use Rattle.gm_forms.specs.inner.Forms.{IsItemIn, item_of}
use Rattle.gm_forms.specs.inner.Held.{names_held}
use Rattle.gm_book.proofs.Items.{link_there, node_no_link}
use Rattle.gm_book.proofs.Onward.{each_on, passed_on, gathered_on, gathered_all}
use Rattle.gm_model.proofs.Exits.{unless_ok}
use Rattle.gm_book.proofs.table.links.Goals as goal
use Rattle.gm_book.proofs.table.links.Goals.{in-Link+in_ok-push, in_default}

pub number-requires-clause-within : goal.number-requires-clause-within
number-requires-clause-within c =
    (subst (IsItemIn c.args.text.now) c.in-Link.is (each_on (IsItemIn c.args.text.now) c.args.items.now c.loop-item.item-index c.item-item.result c.item-item.result c.requires.within c.loop-item-test.true c.item-item.is)).0

pub number-requires-in-Link-clause-within : goal.number-requires-in-Link-clause-within
number-requires-in-Link-clause-within c =
    (subst (IsItemIn c.args.text.now) c.in-Link.is (each_on (IsItemIn c.args.text.now) c.args.items.now c.loop-item.item-index c.item-item.result c.item-item.result c.requires.within c.loop-item-test.true c.item-item.is)).1

pub loop-item-preserved : goal.loop-item-preserved
loop-item-preserved c =
    let text = c.args.text.now in
    let names = names_held c.args.names.now in
    let items = c.args.items.now in
    let l = c.loop-item in
    let item = c.item-item.result in
    let before = l.links.items in
    let behind = map (item_of text) (drop (l.item-index + 1) items) in
    elim c.match-item.branch [
      | in-Link+in_ok-push w ↦
          gathered_on (item_of text) (links_in names) items l.item-index _ before item (record { from = w.number.result; label = w.in-Link.label; to = w.number-in-Link.result } ∷ []) c.match-item.links.items c.loop-item-test.true c.item-item.is
          (link_there text behind item w.in-Link.from w.in-Link.label w.in-Link.to w.in-Link.is names w.number.result w.number-in-Link.result w.number.ensures w.number-in-Link.ensures)
          (ap (λ (v : Vec Link Global). v.items) w.links-is ∙ w.in_ok-push.ensures.items) l.invariant
      | in_default w ↦
          ap (λ (v : Vec Link Global). v.items ++ links_in names behind) w.links-is
          ∙ passed_on (item_of text) (λ is. before ++ links_in names is) items l.item-index (links_in names (map (item_of text) items)) item c.loop-item-test.true c.item-item.is
          (ap (λ (links : List Link). before ++ links) (node_no_link text behind item w.in_default.field-0 w.in_default.field-1 w.in_default.field-2 w.in_default.field-3 w.in_default.is names)) l.invariant
    ]

pub returns : goal.returns
returns c = gathered_all (item_of c.args.text.now) (links_in (names_held c.args.names.now)) c.args.items.now c.loop-item.item-index _ c.loop-item.links.items c.loop-item-test.false refl c.loop-item.invariant

pub returns-in_err-push : goal.returns-in_err-push
returns-in_err-push c = unless_ok _ c.from_residual.result c.from_residual.ensures.0
