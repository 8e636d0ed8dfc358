-- One dart more of the dual of an arena's map, added or linked.
use Rattle.std.proofs.Common.{◌≡◌, ◌≢◌, ℕ, ◌+◌, ◌-◌, ◌<◌, ◌≤◌, List, [], ◌∷◌, true, map, pos, length, reverse, get_or, set, Option, Some, None, is_some, refl, sym, ap, subst, ◌∙◌, inl, inr, arith, get_or-set_same, get_or-set_other}
use Rattle.std.specs.FinMap.{get, get-empty, keys}
use Rattle.std.specs.Option.{option_map, option_map_or}
use Rattle.std.specs.Ordering.{nat_cmp}
use Rattle.std.proofs.Math.Path.{fun_ext}
use Rattle.std.proofs.lemmas.Bool.{cases_lt}
use Rattle.std.proofs.lemmas.List.{ext_get_or, get_or-reverse, length-replicate, length-reverse, length-set}
use Rattle.gm_model.specs.declared.schema.Embed.{Embed}
use Rattle.gm_model.specs.declared.schema.Schema.{Schema}
use Rattle.gm_model.specs.declared.value.Value.{Value}
use Rattle.gm_model.specs.declared.value.Value.TheVariants as values
use Rattle.gm_arena.specs.inner.ArenaAsMap.{as_map, value}
use Rattle.gm_arena.specs.inner.ArenaMap.{ArenaMap, Dart, IsLiveName, alpha}
use Rattle.gm_arena.specs.inner.Edits.{empty_map, free_dart, turned, with_alpha, with_dart}
use Rattle.gm_arena.specs.inner.Lawful.{AreGoodValues, IsLawful}
use Rattle.gm_arena.proofs.MapLemmas.{get-with_alpha_other, get-with_dart_other, get-with_dart_same}
use Rattle.gm_walk.proofs.CountLemmas.{is_live, is_named, rises}
use Rattle.gm_dual.specs.inner.Building.{AreAdded, AreLinked, IsAllBut, IsLinkedTo, dual_of, free_of}
use Rattle.gm_dual.specs.Duals.{dual_embed, dual_label, dual_map, dual_schema}
use Rattle.gm_dual.proofs.LabelLemmas.{turned_neighbour}

is_some_map : {A B : Type 0} (f : A → B) (o : Option A) → is_some (option_map f o) ≡ is_some o
is_some_map f None = refl
is_some_map f (Some x) = refl

kinds_dual : (n : ℕ) (embeds : List Embed) → map (λ (e : Embed). e.kind) (map (dual_embed n) embeds) ≡ map (λ (e : Embed). e.kind) embeds
kinds_dual n [] = refl
kinds_dual n (e ∷ embeds) = ap (λ ks. e.kind ∷ ks) (kinds_dual n embeds)

pub good_dual : (schema : Schema) (values : List Value) → AreGoodValues schema values → AreGoodValues (dual_schema schema) values
good_dual schema values good = record { kinds = good.kinds ∙ sym (kinds_dual schema.dim schema.embeds); ranges = good.ranges }

-- ---- the darts

module _ (m : ArenaMap) (names : List ℕ) (e : names ≡ keys m.darts) where
  pub apart : (p q : ℕ) → q < p → p < length names → get_or names q 0 ≢ get_or names p 0
  apart p q low within same = let up = rises (λ d. ℕ) m names e q p low within in omega (arith, up, same)

  pub added_more : (p slot : ℕ) (a after : ArenaMap) (dart : Dart) → AreAdded m names p a → p < length names → get m.darts (get_or names p 0) ≡ Some dart → after ≡ with_dart a slot (get_or names p 0) dart.values → AreAdded m names (p + 1) after
  added_more p slot a after dart s within there is = record {
    schema_is = ap (λ (x : ArenaMap). x.schema) is ∙ s.schema_is;
    added = λ q low. elim (cases_lt q p) [
      | inl before ↦ ap (λ (x : ArenaMap). get x.darts (get_or names q 0)) is ∙ (get-with_dart_other a slot (get_or names p 0) dart.values (get_or names q 0) (apart p q before within) ∙ s.added q before)
      | inr end ↦ (let same : p ≡ q = omega arith in subst (λ k. get after.darts (get_or names k 0) ≡ free_of m (get_or names k 0)) same here)
    ];
    none = λ name new. ap (λ (x : ArenaMap). get x.darts name) is ∙ (get-with_dart_other a slot (get_or names p 0) dart.values name (λ same. new p (omega arith) (sym same)) ∙ s.none name (λ q low. new q (omega (arith, low))));
    spare = rw is (omega (arith, s.spare, within));
    reserved = rw is s.reserved;
  }
    where
      here : get after.darts (get_or names p 0) ≡ free_of m (get_or names p 0)
      here = ap (λ (x : ArenaMap). get x.darts (get_or names p 0)) is
          ∙ (get-with_dart_same a slot (get_or names p 0) dart.values
          ∙ (ap (λ n. Some (free_dart n (get_or names p 0) dart.values)) (ap (λ (x : Schema). x.dim) s.schema_is)
          ∙ sym (ap (option_map (λ (dart : Dart). free_dart m.schema.dim (get_or names p 0) dart.values)) there)))

  -- where all are added, none is linked
  pub none_linked : (a : ArenaMap) → AreAdded m names (length names) a → AreLinked m names 0 a
  none_linked a s = record {
    schema_is = s.schema_is;
    linked = λ q low. absurd (omega arith);
    free = λ q low within. s.added q within;
    none = λ name dead. s.none name (λ q low same. dead (subst (IsLiveName m) same (is_live (λ d. ℕ) m names e q 0 low)));
  }

  pub linked_next : (p : ℕ) (a after : ArenaMap) → AreLinked m names p a → p < length names → IsAllBut (get_or names p 0) a after → get after.darts (get_or names p 0) ≡ dual_of m (get_or names p 0) → AreLinked m names (p + 1) after
  linked_next p a after s within but here = record {
    schema_is = ap (λ (x : ArenaMap). x.schema) but.rest ∙ s.schema_is;
    linked = λ q low. elim (cases_lt q p) [
      | inl before ↦ but.others (get_or names q 0) (apart p q before within) ∙ s.linked q before
      | inr end ↦ (let same : p ≡ q = omega arith in subst (λ k. get after.darts (get_or names k 0) ≡ dual_of m (get_or names k 0)) same here)
    ];
    free = λ q low more. but.others (get_or names q 0) (λ same. apart q p (omega arith) more (sym same)) ∙ s.free q (omega arith) more;
    none = λ name dead. but.others name (λ same. dead (subst (IsLiveName m) (sym same) (is_live (λ d. ℕ) m names e p 0 within))) ∙ s.none name dead;
  }

  pub live_linked : (p : ℕ) (a : ArenaMap) → AreLinked m names p a → (name : ℕ) → IsLiveName m name → IsLiveName a name
  live_linked p a s name live =
      let at = is_named (λ d. ℕ) m names e name live in
      subst (IsLiveName a) at.2 (elim (cases_lt at.0 p) [
        | inl l ↦ ap is_some (s.linked at.0 l) ∙ (is_some_map _ (get m.darts (get_or names at.0 0)) ∙ subst (IsLiveName m) (sym at.2) live)
        | inr l ↦ ap is_some (s.free at.0 l at.1) ∙ (is_some_map _ (get m.darts (get_or names at.0 0)) ∙ subst (IsLiveName m) (sym at.2) live)
      ])

  -- where all are linked, each dart is that of the dual
  pub all_linked : (a : ArenaMap) → AreLinked m names (length names) a → (name : ℕ) → get a.darts name ≡ dual_of m name
  all_linked a s name = go (get m.darts name) refl
    where
      go : (o : Option Dart) → get m.darts name ≡ o → get a.darts name ≡ dual_of m name
      go None is = s.none name (λ live. absurd (none_live (sym (ap is_some is) ∙ live))) ∙ sym (ap (option_map _) is)
        where
          none_live : is_some {T = Dart} None ≡ true → ⊥
          none_live h = cc
      go (Some dart) is =
          let at = is_named (λ d. ℕ) m names e name (ap is_some is) in
          subst (λ x. get a.darts x ≡ dual_of m x) at.2 (s.linked at.0 at.1)

-- ---- the neighbours of a dart

pub unlinked : (n name : ℕ) (dart : Dart) → IsLinkedTo n 0 dart (free_dart n name dart.values)
unlinked n name dart = record { values = refl; long = length-replicate (n + 1) name; neighbours = λ i low. absurd (omega arith) }

pub linked_more : (n i to : ℕ) (dart now : Dart) → IsLinkedTo n i dart now → i ≤ n → to ≡ get_or dart.alphas i 0 → IsLinkedTo n (i + 1) dart (turned now (n - i) to)
linked_more n i to dart now s low is = record {
  values = s.values;
  long = length-set now.alphas (n - i) to ∙ s.long;
  neighbours = λ k less. elim (cases_lt k i) [
    | inl l ↦ get_or-set_other now.alphas (n - i) (n - k) to 0 (λ same. omega (arith, same, l, low)) ∙ s.neighbours k l
    | inr l ↦ (let same : i ≡ k = omega arith in subst (λ k. get_or (set now.alphas (n - i) to) (n - k) 0 ≡ get_or dart.alphas k 0) same (get_or-set_same now.alphas (n - i) to 0 (omega (arith, s.long)) ∙ is))
  ];
}

pub all_neighbours : (n : ℕ) (dart now : Dart) → length dart.alphas ≡ n + 1 → IsLinkedTo n (n + 1) dart now → now ≡ record { alphas = reverse dart.alphas; values = dart.values }
all_neighbours n dart now whole s =
    let alphas : now.alphas ≡ reverse dart.alphas = ext_get_or 0 now.alphas (reverse dart.alphas) (s.long ∙ (sym whole ∙ sym (length-reverse dart.alphas))) (λ i h.
    let turn : n - (n - i) ≡ i = omega (arith, s.long, h) in
    let back : length dart.alphas - 1 - i ≡ n - i = omega (arith, whole) in
    ap (λ k. get_or now.alphas k 0) (sym turn) ∙ (s.neighbours (n - i) (omega arith) ∙ (ap (λ k. get_or dart.alphas k 0) (sym back) ∙ sym (get_or-reverse dart.alphas i 0 (omega (arith, s.long, whole, h)))))) in
    λ k. record { alphas = alphas k; values = s.values k }

pub all_but_more : (old a after : ArenaMap) (name label to : ℕ) → IsAllBut name old a → after ≡ with_alpha a name label to → IsAllBut name old after
all_but_more old a after name label to but is = record {
  rest = rw is (ap (λ (x : ArenaMap). record x { darts = (with_alpha a name label to).darts }) but.rest);
  others = λ other differs. ap (λ (x : ArenaMap). get x.darts other) is ∙ (get-with_alpha_other a name label to other differs ∙ but.others other differs);
}

-- ---- the whole map

pub none_added : (m : ArenaMap) (names : List ℕ) (schema : Schema) (empty reserved : ArenaMap) → schema ≡ dual_schema m.schema → empty ≡ empty_map schema → length names ≤ reserved.spare → m.next ≤ reserved.reserved
    → reserved ≡ record empty { spare = reserved.spare; reserved = reserved.reserved } → AreAdded m names 0 reserved
none_added m names schema empty reserved schema_is empty_is room below is = record {
  schema_is = ap (λ (x : ArenaMap). x.schema) is ∙ (ap (λ (x : ArenaMap). x.schema) empty_is ∙ schema_is);
  added = λ q low. absurd (omega arith);
  none = λ name new. ap (λ (x : ArenaMap). get x.darts name) is ∙ (ap (λ (x : ArenaMap). get x.darts name) empty_is ∙ get-empty nat_cmp name);
  spare = omega (arith, room);
  reserved = below;
}

pub as_dual : (m a : ArenaMap) → IsLawful m → a.schema ≡ dual_schema m.schema → a.next ≡ m.next → ((name : ℕ) → get a.darts name ≡ dual_of m name) → as_map a ≡ dual_map (as_map m)
as_dual m a lawful schema next darts =
    let live : (λ name. is_some (get a.darts name)) ≡ (λ name. is_some (get m.darts name)) = fun_ext (λ name. ap is_some (darts name) ∙ is_some_map _ (get m.darts name)) in
    let neighbours : alpha a ≡ (λ i. alpha m (dual_label m.schema.dim i)) = fun_ext (λ i. fun_ext (λ name. ap (λ o. option_map_or (λ (dart : Dart). get_or dart.alphas i name) o name) (darts name) ∙ turned_round i name (get m.darts name) (λ dart is. let l = lawful.dart name dart is in l.whole))) in
    let values : value a ≡ value m = fun_ext (λ e. fun_ext (λ name. ap (λ o. option_map_or (λ (dart : Dart). get_or dart.values e none) o none) (darts name) ∙ same_values e (get m.darts name))) in
    λ k. record { schema = schema k; live = live k; alpha = neighbours k; value = values k; next = next k }
  where
    none : Value
    none = values.Int (pos 0)

    turned_round : (i name : ℕ) (o : Option Dart) → ((dart : Dart) → o ≡ Some dart → length dart.alphas ≡ m.schema.dim + 1) → option_map_or (λ (dart : Dart). get_or dart.alphas i name) (option_map (λ (dart : Dart). record { alphas = reverse dart.alphas; values = dart.values }) o) name ≡ option_map_or (λ (dart : Dart). get_or dart.alphas (dual_label m.schema.dim i) name) o name
    turned_round i name None whole = refl
    turned_round i name (Some dart) whole = turned_neighbour m.schema.dim i name dart.alphas (whole dart refl)

    same_values : (e : ℕ) (o : Option Dart) → option_map_or (λ (dart : Dart). get_or dart.values e none) (option_map (λ (dart : Dart). record { alphas = reverse dart.alphas; values = dart.values }) o) none ≡ option_map_or (λ (dart : Dart). get_or dart.values e none) o none
    same_values e None = refl
    same_values e (Some dart) = refl
