-- The names of a rule's nodes, as they are taken in.
use Rattle.std.proofs.Common.{◌≡◌, ℕ, zero, suc, ◌<◌, inl, inr, List, [], ◌∷◌, ◌++◌, length, get_or, map, arith, refl, ap, ◌∙◌}
use Rattle.std.proofs.lemmas.Bool.{cases_Bool}
use Rattle.std.specs.List.{AllByRecursion}
use Rattle.gm_forms.specs.BookText.{NodeItem, LinkItem, Count, RuleForm, with_name, counted, count_after, no_count, nodes_of}
use Rattle.gm_model.specs.Names.{is_among, IsName}
use Rattle.gm_forms.specs.BookText as text
use Rattle.gm_forms.specs.declared.key.NameKey.{NameKey}
use Rattle.gm_forms.specs.declared.form.Item.{Item}
use Rattle.gm_forms.specs.declared.form.Item.TheVariants.{Node, Link}
use Rattle.gm_forms.specs.inner.Forms.{IsItemIn, item_of}
use Rattle.gm_book.specs.inner.FirstNameFault.{with_items}
use Rattle.gm_forms.specs.inner.Held.{names_at}

pub names_counted : (items : List text.Item) (count : Count) → with_items count.nodes items ≡ (counted count items).nodes
names_counted [] count = refl
names_counted (NodeItem node word hook sets ∷ items) count = names_counted items (count_after count (NodeItem node word hook sets))
names_counted (LinkItem from label to ∷ items) count = names_counted items (count_after count (LinkItem from label to))

pub rule_names_counted : (rule : RuleForm) → with_items (with_items [] rule.left) rule.right ≡ nodes_of rule
rule_names_counted rule = ap (λ names. with_items names rule.right) (names_counted rule.left no_count) ∙ names_counted rule.right (counted no_count rule.left)

all_with : (names : List (List ℕ)) (name : List ℕ) → AllByRecursion IsName names → IsName name → AllByRecursion IsName (names ++ name ∷ [])
all_with [] name all good = (good, tt)
all_with (n ∷ names) name all good = (all.0, all_with names name all.1 good)

good_with : (names : List (List ℕ)) (name : List ℕ) → AllByRecursion IsName names → IsName name → AllByRecursion IsName (with_name names name)
good_with names name all good = elim (cases_Bool (is_among names name)) [
  | inl there ↦ rw there all
  | inr absent ↦ rw absent (all_with names name all good)
]

pub good_items : (bytes : List ℕ) (items : List Item) (names : List (List ℕ)) → AllByRecursion IsName names → AllByRecursion (IsItemIn bytes) items → AllByRecursion IsName (with_items names (map (item_of bytes) items))
good_items bytes [] names all within = all
good_items bytes (Node name word hook sets ∷ items) names all within = good_items bytes items _ (good_with names _ all within.0.0.2) within.1
good_items bytes (Link from label to ∷ items) names all within = good_items bytes items names all within.1

pub good_at : (keys : List NameKey) (k : ℕ) (d : NameKey) → AllByRecursion IsName (names_at keys) → k < length keys → IsName (get_or keys k d).bytes.now
good_at [] k d all within = absurd (omega arith)
good_at (key ∷ keys) zero d all within = all.0
good_at (key ∷ keys) (suc k) d all within = good_at keys k d all.1 (omega arith)
