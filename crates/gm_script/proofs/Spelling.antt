-- What is spelled where one more hook, label, value or statement stands behind others.
use Rattle.std.proofs.Common.{◌≡◌, ℕ, ◌+◌, List, [], ◌∷◌, ◌++◌, length, map, refl, ap, ◌∙◌, arith}
use Rattle.gm_model.specs.declared.word.Mask.{Mask}
use Rattle.gm_model.specs.Reading.{Part, number}
use Rattle.gm_text.specs.SchemaText.{with_label}
use Rattle.gm_script.specs.ScriptText.{ValueForm, StatForm, Role, Hook, LabelBehind, mask_of, spell_value, spell_values, spell_labels, spell_stat, spell_stats}

pub hooks_more : (hooks : List ℕ) (n : ℕ) (rest : List (Part Role)) → map (number Hook) (hooks ++ n ∷ []) ++ rest ≡ map (number Hook) hooks ++ number Hook n ∷ rest
hooks_more [] n rest = refl
hooks_more (hook ∷ hooks) n rest = ap (λ (ps : List (Part Role)). number Hook hook ∷ ps) (hooks_more hooks n rest)

pub labels_more : (n : ℕ) (mask : Mask) (labels : List ℕ) (label : ℕ) (rest : List (Part Role))
    → spell_labels n mask (labels ++ label ∷ []) rest ≡ spell_labels n mask labels (number (LabelBehind n (mask_of labels mask)) label ∷ rest)
labels_more n mask [] label rest = refl
labels_more n mask (first ∷ labels) label rest = ap (λ (ps : List (Part Role)). number (LabelBehind n mask) first ∷ ps) (labels_more n (with_label mask first) labels label rest)

pub mask_more : (labels : List ℕ) (label : ℕ) (mask : Mask) → mask_of (labels ++ label ∷ []) mask ≡ with_label (mask_of labels mask) label
mask_more [] label mask = refl
mask_more (first ∷ labels) label mask = mask_more labels label (with_label mask first)

pub values_more : (values : List ValueForm) (value : ValueForm) (rest : List (Part Role)) → spell_values (values ++ value ∷ []) rest ≡ spell_values values (spell_value value rest)
values_more [] value rest = refl
values_more (first ∷ values) value rest = ap (spell_value first) (values_more values value rest)

pub stats_more : (n k : ℕ) (forms : List StatForm) (form : StatForm) (rest : List (Part Role)) → spell_stats n k (forms ++ form ∷ []) rest ≡ spell_stats n k forms (spell_stat n (k + length forms + 1) form rest)
stats_more n k [] form rest = let e : k + 1 ≡ k + 0 + 1 = omega arith in ap (λ (m : ℕ). spell_stat n m form rest) e
stats_more n k (first ∷ forms) form rest =
    let e : k + 1 + length forms + 1 ≡ k + length (first ∷ forms) + 1 = omega arith in
    ap (spell_stat n (k + 1) first) (stats_more n (k + 1) forms form rest ∙ ap (λ (m : ℕ). spell_stats n (k + 1) forms (spell_stat n m form rest)) e)
