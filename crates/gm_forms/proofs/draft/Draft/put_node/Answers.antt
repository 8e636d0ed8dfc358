use Rattle.std.proofs.Common.{◌≡◌, List, map, OnOk, subst}
use Rattle.std.specs.Option.{option_map}
use Rattle.gm_forms.specs.BookText.{NodeItem}
use Rattle.gm_forms.specs.declared.form.SetForm.{SetForm}
use Rattle.gm_forms.specs.inner.Forms.{mention_of, set_form_of}
use Rattle.gm_forms.specs.inner.Reading.{with_item}
use Rattle.gm_forms.specs.inner.Standing.{current_of}
use Rattle.gm_forms.proofs.draft.Draft.put_node.Goals as goal

pub returns-clause-current : goal.returns-clause-current
returns-clause-current c text =
    subst (λ (sets : List SetForm). OnOk c.put.result (current_of text c.put.new.self ≡ option_map (with_item c.args.side (NodeItem (mention_of text c.args.name) c.args.word c.args.hook (map (set_form_of text) sets))) (current_of text c.args.self.now)))
    c.new-sets.ensures.items (c.put.ensures.current text)
