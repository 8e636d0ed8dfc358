-- What is read without a fault is a schema: few embeddings, none of truths, labels up to the dimension, and names that are free and differ.
use Rattle.std.proofs.Common.{◌≡◌, ◌≢◌, ℕ, zero, suc, ◌+◌, ◌<◌, ◌≤◌, ◌^◌, ◌||◌, max, Bool, true, false, cond, List, [], ◌∷◌, ◌++◌, length, map, slice_get, Option, Some, None, refl, sym, ap, subst, ◌∙◌, codes, arith}
use Rattle.std.specs.Prelude.{IsTrue, nat_lt, ◌==◌}
use Rattle.std.specs.Cmp.{IsEquivalence}
use Rattle.std.specs.Int.{bit_at}
use Rattle.std.specs.Int.Bits.{bit_or}
use Rattle.std.specs.List.{AllByRecursion}
use Rattle.std.specs.Str.{bytes_eq}
use Rattle.std.proofs.lemmas.Bool.Decides.{nat_tests}
use Rattle.std.proofs.lemmas.List.{length-append, map-append}
use Rattle.std.proofs.lemmas.Nat.{or_lt}
use Rattle.std.proofs.Math.Pow.{pow-lt}
use Rattle.std.proofs.lemmas.Map.Views.{list_any-from_Contains}
use Rattle.std.proofs.lemmas.Nat.Bits.{bit_at-zero, bit_at_or, bit_at-pow_other}
use Rattle.std.proofs.lemmas.Slice.Eq.{bytes_eq-Decides}
use Rattle.gm_model.specs.declared.limit.LimitKind.{LimitKind}
use Rattle.gm_model.specs.declared.limit.LimitKind.TheVariants as limits
use Rattle.gm_model.specs.declared.schema.Embed.{Embed}
use Rattle.gm_model.specs.declared.schema.Schema.{Schema}
use Rattle.gm_model.specs.declared.value.Kind.TheVariants as kinds
use Rattle.gm_model.specs.declared.word.Mask.{Mask}
use Rattle.gm_model.specs.Labels.{has}
use Rattle.gm_model.specs.Maps.{IsSchema}
use Rattle.gm_model.specs.Names.{reserved, IsReserved, is_among}
use Rattle.gm_model.specs.Symbols.{Symbol, Mark, symbols}
use Rattle.gm_model.specs.Reading.{Part, IsWithin, symbols_in, word, sign}
use Rattle.gm_text.specs.inner.Cursor.{Cursor}
use Rattle.gm_text.specs.SchemaText.{LabelForm, EmbedForm, SchemaForm, Role, Fixed, passed_by, passed_of, no_labels, with_label, with_labels, embed_of, schema_of, names_in, kind_word, spell_labels, spell_embeds, spell, IsEmbed, IsForm, IsSentence}
use Rattle.gm_text.specs.inner.SchemaAnswers.{IsSchemaRead, marks_left}
use Rattle.gm_text.specs.inner.SchemaPrinting.{AreParts}
use Rattle.gm_text.proofs.Lexemes.{IsSound, words_are_lexemes}

abbrev AreWithin : List (Part Role) → Type 0
AreWithin parts = IsWithin IsSentence passed_of parts

-- ---- names as bytes

same_symm : (x y : List ℕ) → bytes_eq x y ≡ bytes_eq y x
same_symm x y = go (bytes_eq x y) (bytes_eq y x) refl refl
  where
    go : (a b : Bool) → bytes_eq x y ≡ a → bytes_eq y x ≡ b → bytes_eq x y ≡ bytes_eq y x
    go true b e f = let there : y ≡ x = sym ((bytes_eq-Decides x y).0 e) in e ∙ sym ((bytes_eq-Decides y x).1 there)
    go false true e f = let there : x ≡ y = sym ((bytes_eq-Decides y x).0 f) in let both : false ≡ true = sym e ∙ (bytes_eq-Decides x y).1 there in absurd cc
    go false false e f = e ∙ sym f

same_bytes : IsEquivalence bytes_eq
same_bytes = record {
  refl = λ x. (bytes_eq-Decides x x).1 refl;
  symm = same_symm;
  congr = λ x y z e. ap (λ (w : List ℕ). bytes_eq w z) ((bytes_eq-Decides x y).0 e);
}

not_reserved : (name : List ℕ) → is_among reserved name ≡ false → IsReserved name → ⊥
not_reserved name free among = let both : true ≡ false = sym (list_any-from_Contains same_bytes name reserved among) ∙ free in absurd cc

-- ---- labels

abbrev pub IsLow : ℕ → Mask → Type 0
IsLow n mask = (i : ℕ) → IsTrue (has mask i) → i ≤ n

pub low_none : (n : ℕ) → IsLow n no_labels
low_none n i there = let bit : bit_at 0 i ≡ 0 = bit_at-zero i in let no_way : false ≡ true = sym (ap (λ (b : ℕ). b == 1) bit) ∙ there in absurd cc

pub low_more : (n label : ℕ) (mask : Mask) → IsLow n mask → label ≤ n → IsLow n (with_label mask label)
low_more n label mask low small i there = go (i == label) refl
  where
    go : (b : Bool) → (i == label) ≡ b → i ≤ n
    go true e = let same : i ≡ label = grind (arith, nat_tests, e) in omega (arith, same, small)
    go false e =
        let other : i ≢ label = grind (arith, nat_tests, e) in
        let bit : bit_at (bit_or mask.bits (2 ^ label)) i ≡ bit_at mask.bits i = bit_at_or mask.bits (2 ^ label) i ∙ ap (max (bit_at mask.bits i)) (bit_at-pow_other label i other) ∙ omega arith in
        low i (sym (ap (λ (b : ℕ). b == 1) bit) ∙ there)

-- ---- what parts that pass nothing say

pub nothing_passed : (what : Option LimitKind) (again : Bool) → passed_by what again ≡ None → (what ≡ None) × (again ≡ false)
nothing_passed None false e = (refl, refl)
nothing_passed None true e = absurd cc
nothing_passed (Some what) again e = absurd cc

within_limit : (n m : ℕ) (what : LimitKind) → cond (nat_lt n m) (Some what) None ≡ None → m ≤ n
within_limit n m what e = go (nat_lt n m) refl e
  where
    go : (b : Bool) → nat_lt n m ≡ b → cond b (Some what) None ≡ None → m ≤ n
    go true f e = absurd cc
    go false f e = grind (arith, nat_tests, f)

labels_within : (n : ℕ) (mask : Mask) (labels : List LabelForm) (rest : List (Part Role)) → IsLow n mask → AreWithin (spell_labels n mask labels rest) → IsLow n (with_labels mask labels) × AreWithin rest
labels_within n mask [] rest low within = (low, within)
labels_within n mask (form ∷ labels) rest low within =
    let small = within_limit n form.label limits.Label (nothing_passed _ _ within.0).0 in
    labels_within n (with_label mask form.label) labels rest (low_more n form.label mask low small) within.1

-- ---- embeddings

pub record IsGood (n : ℕ) (embed : Embed) : Type 0 where
  pub kind : embed.kind ≢ kinds.Bool
  pub labels : IsLow n embed.mask
  pub free : is_among reserved embed.name ≡ false

abbrev pub IsNew : List Embed → Embed → Type 0
IsNew declared embed = is_among (names_in declared) embed.name ≡ false

-- each is new behind those before it
abbrev pub AreNew : List Embed → List Embed → Type 0
AreNew declared [] = Unit {0}
AreNew declared (embed ∷ embeds) = IsNew declared embed × AreNew (declared ++ embed ∷ []) embeds

pub record IsSoundFrom (n : ℕ) (declared embeds : List Embed) : Type 0 where
  pub good : AllByRecursion (IsGood n) embeds
  pub new : AreNew declared embeds
  pub few : length declared ≤ 8 → length declared + length embeds ≤ 8

pub sound_from : (n : ℕ) (declared : List Embed) (embeds : List EmbedForm) → AllByRecursion IsEmbed embeds → AreWithin (spell_embeds n declared embeds []) → IsSoundFrom n declared (map embed_of embeds)
sound_from n declared [] good within = record { good = tt; new = tt; few = λ few. omega (arith, few) }
sound_from n declared (embed ∷ embeds) good within =
    let few = within_limit 8 (length declared + 1) limits.Embeddings (nothing_passed _ _ within.0).0 in
    let new = (nothing_passed _ _ within.1.0).1 in
    let rest = spell_embeds n (declared ++ embed_of embed ∷ []) embeds [] in
    let labels = labels_within n no_labels embed.labels (sign Fixed (codes ">") ∷ word Fixed (kind_word embed.kind) ∷ rest) (low_none n) within.1.1.1 in
    let others = sound_from n (declared ++ embed_of embed ∷ []) embeds good.1 labels.1.1.1 in
    let count : length (declared ++ embed_of embed ∷ []) ≡ length declared + 1 = length-append declared (embed_of embed ∷ []) in
    record {
      good = (record { kind = good.0.1; labels = labels.0; free = good.0.0 }, others.good);
      new = (new, others.new);
      few = λ most. let all = others.few (omega (arith, count, few)) in omega (arith, count, all);
    }

-- ---- at places

good_at : (n : ℕ) (embeds : List Embed) → AllByRecursion (IsGood n) embeds → (e : ℕ) (embed : Embed) → slice_get embeds e ≡ Some embed → IsGood n embed
good_at n [] good e embed at = absurd cc
good_at n (first ∷ embeds) good zero embed at = let same : first ≡ embed = cc at in subst (IsGood n) same good.0
good_at n (first ∷ embeds) good (suc e) embed at = good_at n embeds good.1 e embed at

-- one that is new behind more is new behind the first of them
new_behind : (declared more : List Embed) (embed : Embed) → IsNew (declared ++ more) embed → IsNew declared embed
new_behind [] more embed new = refl
new_behind (first ∷ declared) more embed new = go (new_behind declared more embed) (bytes_eq embed.name first.name) refl
  where
    go : (IsNew (declared ++ more) embed → IsNew declared embed) → (b : Bool) → bytes_eq embed.name first.name ≡ b → IsNew (first ∷ declared) embed
    go behind true e = let no_way : true ≡ false = sym (ap (λ (b : Bool). b || is_among (names_in (declared ++ more)) embed.name) e) ∙ new in absurd cc
    go behind false e = ap (λ (b : Bool). b || is_among (names_in declared) embed.name) e ∙ behind (sym (ap (λ (b : Bool). b || is_among (names_in (declared ++ more)) embed.name) e) ∙ new)

new_at : (declared embeds : List Embed) → AreNew declared embeds → (e : ℕ) (embed : Embed) → slice_get embeds e ≡ Some embed → IsNew declared embed
new_at declared [] new e embed at = absurd cc
new_at declared (first ∷ embeds) new zero embed at = let same : first ≡ embed = cc at in subst (IsNew declared) same new.0
new_at declared (first ∷ embeds) new (suc e) embed at = new_behind declared (first ∷ []) embed (new_at (declared ++ first ∷ []) embeds new.1 e embed at)

-- what is new behind an embedding has another name
last_name : (declared : List Embed) (first embed : Embed) → IsNew (declared ++ first ∷ []) embed → embed.name ≡ first.name → ⊥
last_name [] first embed new same = let no_way : true ≡ false = sym (ap (λ (b : Bool). b || false) ((bytes_eq-Decides embed.name first.name).1 same)) ∙ new in absurd cc
last_name (other ∷ declared) first embed new same = go (λ others. last_name declared first embed others same) (bytes_eq embed.name other.name) refl
  where
    go : (IsNew (declared ++ first ∷ []) embed → ⊥) → (b : Bool) → bytes_eq embed.name other.name ≡ b → ⊥
    go others true e = let no_way : true ≡ false = sym (ap (λ (b : Bool). b || is_among (names_in (declared ++ first ∷ [])) embed.name) e) ∙ new in absurd cc
    go others false e = others (sym (ap (λ (b : Bool). b || is_among (names_in (declared ++ first ∷ [])) embed.name) e) ∙ new)

differ_at : (declared embeds : List Embed) → AreNew declared embeds → (e e' : ℕ) (embed embed' : Embed) → slice_get embeds e ≡ Some embed → slice_get embeds e' ≡ Some embed' → embed.name ≡ embed'.name → e ≡ e'
differ_at declared [] new e e' embed embed' at at' same = absurd cc
differ_at declared (first ∷ embeds) new zero zero embed embed' at at' same = refl
differ_at declared (first ∷ embeds) new zero (suc e') embed embed' at at' same =
    let one : first ≡ embed = cc at in absurd (last_name declared first embed' (new_at (declared ++ first ∷ []) embeds new.1 e' embed' at') (sym same ∙ ap (λ (x : Embed). x.name) (sym one)))
differ_at declared (first ∷ embeds) new (suc e) zero embed embed' at at' same =
    let one : first ≡ embed' = cc at' in absurd (last_name declared first embed (new_at (declared ++ first ∷ []) embeds new.1 e embed at) (same ∙ ap (λ (x : Embed). x.name) (sym one)))
differ_at declared (first ∷ embeds) new (suc e) (suc e') embed embed' at at' same = ap suc (differ_at (declared ++ first ∷ []) embeds new.1 e e' embed embed' at at' same)

pub form_sound : (form : SchemaForm) → IsForm form → AreWithin (spell form []) → IsSchema (schema_of form)
form_sound form good within =
    let sound = sound_from form.dim [] form.embeds good within.1.1 in
    let embeds = map embed_of form.embeds in
    record {
      count = let few = sound.few (omega arith) in omega (arith, few);
      kinds = λ e embed at. (good_at form.dim embeds sound.good e embed at).kind;
      labels = λ e i embed at there. (good_at form.dim embeds sound.good e embed at).labels i there;
      free = λ e embed at. not_reserved embed.name (good_at form.dim embeds sound.good e embed at).free;
      differ = differ_at [] embeds sound.new;
    }

-- ---- each name is one, and a mask has bits for the labels 0 to 7

abbrev pub AreSound : List (Part Role) → Type 0
AreSound parts = AllByRecursion IsSound (symbols_in parts)

small_labels : (n : ℕ) (mask : Mask) (labels : List LabelForm) (rest : List (Part Role)) → n ≤ 7 → mask.bits < 2 ^ 8 → AreWithin (spell_labels n mask labels rest) → AreSound (spell_labels n mask labels rest) → ((with_labels mask labels).bits < 2 ^ 8) × AreSound rest
small_labels n mask [] rest top small within sound = (small, sound)
small_labels n mask (form ∷ labels) rest top small within sound =
    let low = within_limit n form.label limits.Label (nothing_passed _ _ within.0).0 in
    let power = pow-lt {i = form.label} {j = 8} (omega (arith, low, top)) in
    small_labels n (with_label mask form.label) labels rest top (or_lt 8 mask.bits (2 ^ form.label) small power) within.1 sound.1

parts_from : (n : ℕ) (declared : List Embed) (embeds : List EmbedForm) → n ≤ 7 → AreWithin (spell_embeds n declared embeds []) → AreSound (spell_embeds n declared embeds []) → AreParts (map embed_of embeds)
parts_from n declared [] top within sound = tt
parts_from n declared (embed ∷ embeds) top within sound =
    let rest = spell_embeds n (declared ++ embed_of embed ∷ []) embeds [] in
    let behind = sign Fixed (codes ">") ∷ word Fixed (kind_word embed.kind) ∷ rest in
    let short = within_limit 32 (length embed.name.name) limits.Name (nothing_passed _ _ within.1.0).0 in
    let labels = labels_within n no_labels embed.labels behind (low_none n) within.1.1.1 in
    let small = small_labels n no_labels embed.labels behind top (omega arith) within.1.1.1 sound.1.1.1 in
    (((short, sound.1.0), small.0), parts_from n (declared ++ embed_of embed ∷ []) embeds top labels.1.1.1 small.1.1.1)

all_front : (front back : List Symbol) → AllByRecursion IsSound (front ++ back) → AllByRecursion IsSound front
all_front [] back all = tt
all_front (symbol ∷ front) back all = (all.0, all_front front back all.1)

dim_low : (n : ℕ) → cond ((n == 0) || nat_lt 7 n) (Some limits.Dimension) None ≡ None → n ≤ 7
dim_low n e = go ((n == 0) || nat_lt 7 n) refl e
  where
    go : (b : Bool) → ((n == 0) || nat_lt 7 n) ≡ b → cond b (Some limits.Dimension) None ≡ None → n ≤ 7
    go true f e = absurd cc
    go false f e = grind (arith, nat_tests, f)

pub dim_read : (form : SchemaForm) → AreWithin (spell form []) → form.dim ≤ 7
dim_read form within = dim_low form.dim (nothing_passed _ _ within.1.0).0

-- the names of a form whose symbols are tokens' are such
pub form_parts : (form : SchemaForm) → AreWithin (spell form []) → AreSound (spell form []) → AreParts (schema_of form).embeds
form_parts form within sound = parts_from form.dim [] form.embeds (dim_read form within) within.1.1 sound.1.1

pub read_parts : (old new : Cursor) (schema : Schema) → IsSchemaRead old new schema → AreParts schema.embeds
read_parts old new schema read =
    let form = read.form in
    let within = read.stands.within in
    let all = subst (λ (ms : List Mark). AllByRecursion IsSound (symbols ms)) read.stands.split (words_are_lexemes old.text old.place) in
    let front = all_front (symbols read.stands.before) (symbols (marks_left new)) (subst (AllByRecursion IsSound) (map-append (λ (mark : Mark). mark.symbol) read.stands.before (marks_left new)) all) in
    let sound : AreSound (spell form []) = subst (AllByRecursion IsSound) read.stands.spelled front in
    subst AreParts (sym (ap (λ (s : Schema). s.embeds) read.means)) (form_parts form within sound)

pub read_sound : (old new : Cursor) (schema : Schema) → IsSchemaRead old new schema → IsSchema schema
read_sound old new schema read = subst IsSchema (sym read.means) (form_sound read.form read.stands.good read.stands.within)
