use Rattle.std.proofs.Common.{◌≡◌, ◌+◌, ℕ, List, [], ◌∷◌, ◌++◌, Vec, Global, map, drop, ap, refl, subst, ◌∙◌}
use Rattle.gm_forms.specs.BookText.{hooks_in}
use Rattle.gm_forms.specs.inner.Forms.{IsItemIn, item_of}
use Rattle.gm_forms.specs.inner.Held.{names_held}
use Rattle.gm_book.proofs.Items.{hook_there, no_hook, link_no_hook}
use Rattle.gm_book.proofs.Onward.{each_on, passed_on, gathered_on, gathered_all}
use Rattle.gm_book.proofs.table.hooks.Goals as goal
use Rattle.gm_book.proofs.table.hooks.Goals.{in-Node+then-hook+in_ok-push, in-Node+else-hook, in_default}

pub number-requires-clause-within : goal.number-requires-clause-within
number-requires-clause-within c =
    (subst (IsItemIn c.args.text.now) c.in-Node.is (each_on (IsItemIn c.args.text.now) c.args.items.now c.loop-item.item-index c.item-item.result c.item-item.result c.requires.within c.loop-item-test.true c.item-item.is)).0

pub loop-item-preserved : goal.loop-item-preserved
loop-item-preserved c =
    let text = c.args.text.now in
    let names = names_held c.args.names.now in
    let items = c.args.items.now in
    let l = c.loop-item in
    let item = c.item-item.result in
    let before = l.hooks.items in
    let behind = map (item_of text) (drop (l.item-index + 1) items) in
    let passed = λ (hooks : Vec ℕ Global) (e : hooks ≡ l.hooks) (none : hooks_in names (item_of text item ∷ behind) ≡ hooks_in names behind).
    ap (λ (v : Vec ℕ Global). v.items ++ hooks_in names behind) e
    ∙ passed_on (item_of text) (λ is. before ++ hooks_in names is) items l.item-index (hooks_in names (map (item_of text) items)) item c.loop-item-test.true c.item-item.is (ap (λ (hooks : List ℕ). before ++ hooks) none) l.invariant in
    elim c.match-item.branch [
      | in-Node+then-hook+in_ok-push w ↦
          gathered_on (item_of text) (hooks_in names) items l.item-index _ before item (w.number.result ∷ []) c.match-item.hooks.items c.loop-item-test.true c.item-item.is
          (hook_there text behind item w.in-Node.name w.in-Node.word w.in-Node.hook w.in-Node.sets w.in-Node.is names w.number.result w.if-hook.true w.number.ensures)
          (ap (λ (v : Vec ℕ Global). v.items) w.hooks-is ∙ w.in_ok-push.ensures.items) l.invariant
      | in-Node+else-hook w ↦ passed c.match-item.hooks w.hooks-is (no_hook text behind item w.in-Node.name w.in-Node.word w.in-Node.hook w.in-Node.sets w.in-Node.is names w.if-hook.false)
      | in_default w ↦ passed c.match-item.hooks w.hooks-is (link_no_hook text behind item w.in_default.field-0 w.in_default.field-1 w.in_default.field-2 w.in_default.is names)
    ]

pub returns : goal.returns
returns c = gathered_all (item_of c.args.text.now) (hooks_in (names_held c.args.names.now)) c.args.items.now c.loop-item.item-index _ c.loop-item.hooks.items c.loop-item-test.false refl c.loop-item.invariant
