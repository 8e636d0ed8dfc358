use Rattle.std.proofs.Common.{◌≡◌, ◌+◌, List, [], ◌∷◌, map, drop, sym, ap, subst, ◌∙◌}
use Rattle.std.specs.Prelude.{IfOk}
use Rattle.std.specs.Result.{MatchResult}
use Rattle.std.specs.List.{AllByRecursion, AllZip}
use Rattle.gm_model.specs.Rules.{assignment_of}
use Rattle.gm_tree.specs.inner.FirstNames.{first_names}
use Rattle.gm_forms.specs.declared.form.Item.{Item}
use Rattle.gm_forms.specs.declared.form.SetForm.{SetForm}
use Rattle.gm_forms.specs.BookText.{SetForm as Form, sets_in}
use Rattle.gm_forms.specs.inner.Forms.{IsSetIn, IsItemIn, set_form_of, item_of}
use Rattle.gm_book.specs.inner.Building.{IsKnownSet, HasKnownSets, IsSoundSet}
use Rattle.gm_book.specs.inner.FirstNameFault.{IsSetFault}
use Rattle.gm_book.proofs.Items.{sets_there, no_sets, link_no_sets}
use Rattle.gm_book.proofs.Onward.{each_on, passed_on, found_on, none_on}
use Rattle.gm_book.proofs.ReadSets.{each_read}
use Rattle.gm_book.proofs.table.sets_of.Goals as goal
use Rattle.gm_book.proofs.table.sets_of.Goals.{in-Node+else-eq, in_default}

pub sets-requires-clause-known : goal.sets-requires-clause-known
sets-requires-clause-known c =
    let env = c.args.env.now in
    let n = env.schema.now.dim in
    let names = first_names env.schema.now env.params.now env.nodes.now in
    let text = c.args.text.now in
    let item = c.item-item.result in
    let here = each_read (HasKnownSets n names) (item_of text) c.args.items.now c.loop-item.item-index item item c.requires.known c.loop-item-test.true c.item-item.is in
    let known = subst (λ (i : Item). HasKnownSets n names (item_of text i)) c.in-Node.is here in
    subst (λ (forms : List SetForm). AllByRecursion (IsKnownSet n names) (map (set_form_of text) forms)) (sym c.as_slice.ensures.value) known

pub bytes_in-requires : goal.bytes_in-requires
bytes_in-requires c =
    (subst (IsItemIn c.args.text.now) c.in-Node.is (each_on (IsItemIn c.args.text.now) c.args.items.now c.loop-item.item-index c.item-item.result c.item-item.result c.requires.within c.loop-item-test.true c.item-item.is)).0

pub sets-requires-clause-within : goal.sets-requires-clause-within
sets-requires-clause-within c =
    let here = subst (IsItemIn c.args.text.now) c.in-Node.is (each_on (IsItemIn c.args.text.now) c.args.items.now c.loop-item.item-index c.item-item.result c.item-item.result c.requires.within c.loop-item-test.true c.item-item.is) in
    subst (AllByRecursion (IsSetIn c.args.text.now)) (sym c.as_slice.ensures.value) here.1

pub returns-then-eq : goal.returns-then-eq
returns-then-eq c =
    let text = c.args.text.now in
    let name = c.args.name.now in
    let env = c.args.env.now in
    let l = c.loop-item in
    let n = c.in-Node in
    let found = found_on (item_of text) (λ items. sets_in items name) c.args.items.now l.item-index _ c.item-item.result _ c.loop-item-test.true c.item-item.is
    (sets_there text (map (item_of text) (drop (l.item-index + 1) c.args.items.now)) c.item-item.result n.node n.word n.hook n.forms n.is c.bytes_in.result.now c.bytes_in.ensures name (sym c.eq.ensures ∙ c.if-eq.true)) l.invariant in
    let same = ap (map (set_form_of text)) c.as_slice.ensures.value ∙ found in
    subst (λ (forms : List Form). IfOk c.sets.result (λ read. MatchResult read (λ sets. AllZip (IsSoundSet env.schema.now.dim env.schema.now.embeds env.params.now (first_names env.schema.now env.params.now env.nodes.now)) forms (map assignment_of sets.items)) (IsSetFault env.schema.now.dim env.schema.now.embeds env.params.now (first_names env.schema.now env.params.now env.nodes.now) forms))) same c.sets.ensures

pub loop-item-preserved : goal.loop-item-preserved
loop-item-preserved c =
    let text = c.args.text.now in
    let name = c.args.name.now in
    let l = c.loop-item in
    let item = c.item-item.result in
    let behind = map (item_of text) (drop (l.item-index + 1) c.args.items.now) in
    let passed = λ (none : sets_in (item_of text item ∷ behind) name ≡ sets_in behind name). passed_on (item_of text) (λ items. sets_in items name) c.args.items.now l.item-index _ item c.loop-item-test.true c.item-item.is none l.invariant in
    elim c.match-item.branch [
      | in-Node+else-eq w ↦ passed (no_sets text behind item w.in-Node.node w.in-Node.word w.in-Node.hook w.in-Node.forms w.in-Node.is w.bytes_in.result.now w.bytes_in.ensures name (sym w.eq.ensures ∙ w.if-eq.false))
      | in_default w ↦ passed (link_no_sets text behind item w.in_default.field-0 w.in_default.field-1 w.in_default.field-2 w.in_default.is name)
    ]

pub returns : goal.returns
returns c =
    let env = c.args.env.now in
    let none : [] ≡ sets_in (map (item_of c.args.text.now) c.args.items.now) c.args.name.now = none_on (item_of c.args.text.now) (λ items. sets_in items c.args.name.now) c.args.items.now c.loop-item.item-index _ c.loop-item-test.false c.loop-item.invariant in
    subst (λ (forms : List Form). AllZip (IsSoundSet env.schema.now.dim env.schema.now.embeds env.params.now (first_names env.schema.now env.params.now env.nodes.now)) forms (map assignment_of c.new.result.items)) none (subst (λ made. AllZip (IsSoundSet env.schema.now.dim env.schema.now.embeds env.params.now (first_names env.schema.now env.params.now env.nodes.now)) [] (map assignment_of made)) (sym c.new.ensures.items) tt)
