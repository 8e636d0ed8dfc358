-- What a finite map made of a tree map's entries answers, before and after an insertion.
use Rattle.std.proofs.Common.{◌≡◌, ℕ, Bool, true, false, cond, List, [], ◌∷◌, map, refl, sym, ap, ◌∙◌, Option, Some}
use Rattle.std.specs.Prelude.{Vec, String, string_bytes}
use Rattle.std.specs.Option.{option_map}
use Rattle.std.specs.Map.{lookup}
use Rattle.std.specs.Ordering.{nat_cmp, eq_by_cmp}
use Rattle.std.specs.Cmp.{nat_cmp_total, eq_by_cmp_equiv}
use Rattle.std.specs.Cmp.Lexicographic.{slice_cmp, nat_list_cmp_total, texts_ties}
use Rattle.std.specs.FinMap.{find, get, insert, from_entries, get-from_entries, get-insert, same_map, nat_cmp-IsAntisymmetric, slice_cmp-IsAntisymmetric}
use Rattle.std.specs.String.{string_cmp}
use Rattle.std.specs.Str.{bytes_eq}
use Rattle.std.specs.BTreeMap as tree
use Rattle.std.specs.BTreeMap.{BTreeMap, is_at}
use Rattle.std.proofs.lemmas.Map.Text.{btree_map_updates_text}
use Rattle.gm_host.specs.inner.Files.{files_of}

mapped_choice : {A B : Type 0} (f : A → B) (b : Bool) (v : A) (x : Option B) (y : Option A)
    → x ≡ option_map f y → cond b (Some (f v)) x ≡ option_map f (cond b (Some v) y)
mapped_choice f true v x y e = refl
mapped_choice f false v x y e = e

module _ {Y Z : Type 0} where
  find-named : (name : List ℕ) (entries : List (String Y × Vec ℕ Z))
      → find (slice_cmp nat_cmp) name (map (λ entry. (string_bytes entry.0, entry.1.items)) entries)
      ≡ option_map (λ bytes. bytes.items) (lookup (is_at (λ key. slice_cmp nat_cmp name (string_bytes key))) entries)
  find-named name [] = refl
  find-named name (e ∷ es) = mapped_choice (λ (bytes : Vec ℕ Z). bytes.items) _ e.1 _ _ (find-named name es)

  -- what the files of a tree map hold under a name
  pub get-files_of : (name : List ℕ) (files : BTreeMap (String Y) (Vec ℕ Z))
      → get (files_of files.entries) name ≡ option_map (λ bytes. bytes.items) (tree.get_by_text files name)
  get-files_of name files = get-from_entries nat_list_cmp_total _ name ∙ find-named name files.entries

  -- the files after an insertion
  pub files_of-insert : (name : List ℕ) (old new : BTreeMap (String Y) (Vec ℕ Z)) (bytes : Vec ℕ Z)
      → tree.UpdatesBy string_cmp (λ key. slice_cmp nat_cmp name (string_bytes key)) old new (Some bytes)
      → files_of new.entries ≡ insert (files_of old.entries) name bytes.items
  files_of-insert name old new bytes u =
      same_map nat_list_cmp_total (slice_cmp-IsAntisymmetric nat_cmp-IsAntisymmetric) _ _ (λ q.
      get-files_of q new
      ∙ ap (option_map (λ (held : Vec ℕ Z). held.items)) (btree_map_updates_text name old new (Some bytes) u q)
      ∙ sym (mapped_choice (λ (held : Vec ℕ Z). held.items) (bytes_eq name q) bytes _ _ (get-files_of q old))
      ∙ ap (λ b. cond b (Some bytes.items) (get (files_of old.entries) q))
      (texts_ties name q ∙ (eq_by_cmp_equiv nat_list_cmp_total).symm name q)
      ∙ sym (get-insert nat_list_cmp_total (files_of old.entries) name bytes.items q))

find-lookup : {X : Type 0} (key : ℕ) (entries : List (ℕ × X)) → find nat_cmp key entries ≡ lookup (is_at (nat_cmp key)) entries
find-lookup key [] = refl
find-lookup key (e ∷ es) = ap (cond (eq_by_cmp nat_cmp key e.0) (Some e.1)) (find-lookup key es)

-- what the finite map of a tree map with numbers as its keys holds
pub get-from_tree : {X : Type 0} (key : ℕ) (numbered : BTreeMap ℕ X)
    → get (from_entries {R = nat_cmp} numbered.entries) key ≡ tree.get_by (nat_cmp key) numbered
get-from_tree key numbered = get-from_entries nat_cmp_total _ key ∙ find-lookup key numbered.entries

-- the finite map after an insertion
pub from_tree-insert : {X : Type 0} (key : ℕ) (old new : BTreeMap ℕ X) (value : X)
    → tree.Updates nat_cmp old new key (Some value)
    → from_entries {R = nat_cmp} new.entries ≡ insert (from_entries old.entries) key value
from_tree-insert key old new value u =
    same_map nat_cmp_total nat_cmp-IsAntisymmetric _ _ (λ q.
    get-from_tree q new ∙ u.0 q
    ∙ ap (cond (eq_by_cmp nat_cmp key q) (Some value)) (sym (get-from_tree q old))
    ∙ ap (λ b. cond b (Some value) (get (from_entries {R = nat_cmp} old.entries) q)) ((eq_by_cmp_equiv nat_cmp_total).symm key q)
    ∙ sym (get-insert nat_cmp_total (from_entries old.entries) key value q))
