use Rattle.std.proofs.Common.{List, [], ◌∷◌, ◌++◌, map, ap, sym, subst, ◌∙◌}
use Rattle.std.proofs.lemmas.List.{map-append}
use Rattle.std.specs.List.{AllByRecursion}
use Rattle.gm_forms.specs.BookText.{SetForm, NodeItem}
use Rattle.gm_forms.specs.declared.form.SetForm.{SetForm as CodeSet}
use Rattle.gm_forms.specs.inner.Forms.{IsItemIn, IsSetIn, mention_of, set_form_of}
use Rattle.gm_forms.proofs.form.Item.assign.Goals as goal

all_with : {X : Type 0} (P : X → Type 0) (xs : List X) (x : X) → AllByRecursion P xs → P x → AllByRecursion P (xs ++ x ∷ [])
all_with P [] x all one = (one, tt)
all_with P (y ∷ xs) x all one = (all.0, all_with P xs x all.1 one)

pub returns-in_ok-push-in-Node-clause-within : goal.returns-in_ok-push-in-Node-clause-within
returns-in_ok-push-in-Node-clause-within c text set_in item_in =
    let node_in = subst (IsItemIn text) c.in-Node.is item_in in
    (node_in.0, subst (λ (sets : List CodeSet). AllByRecursion (IsSetIn text) sets) (sym c.in_ok-push-in-Node.ensures.items) (all_with (IsSetIn text) c.in-Node.sets.items c.args.set node_in.1 set_in))

pub returns-in_ok-push-in-Node-clause-assigned : goal.returns-in_ok-push-in-Node-clause-assigned
returns-in_ok-push-in-Node-clause-assigned c text =
    rw c.in-Node.is (ap (λ (sets : List SetForm). NodeItem (mention_of text c.in-Node.name) c.in-Node.word c.in-Node.hook sets)
    (ap (map (set_form_of text)) c.in_ok-push-in-Node.ensures.items ∙ map-append (set_form_of text) c.in-Node.sets.items (c.args.set ∷ [])))

pub returns-in-Link-clause-within : goal.returns-in-Link-clause-within
returns-in-Link-clause-within c text set_in item_in = subst (IsItemIn text) c.in-Link.is item_in
