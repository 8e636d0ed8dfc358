-- What a list of set values leaves: the last one that is set at a dart for an embedding, and the old one where there is none.
use Rattle.std.proofs.Common.{◌≡◌, ◌≢◌, ℕ, ◌<◌, ◌⊎◌, List, [], ◌∷◌, length, get_or, set, Option, Some, None, is_some, refl, sym, ap, ◌∙◌, subst, inl, inr, arith, pos}
use Rattle.std.specs.FinMap.{get}
use Rattle.std.specs.List.{Contains}
use Rattle.std.specs.Option.{option_map, option_map_or}
use Rattle.std.proofs.lemmas.Bool.{cases_eq}
use Rattle.std.proofs.lemmas.List.{get_or-set_same, get_or-set_other, length-set}
use Rattle.gm_model.specs.declared.value.Value.{Value}
use Rattle.gm_model.specs.declared.value.Value.TheVariants.{Int}
use Rattle.gm_arena.specs.inner.ArenaAsMap.{value}
use Rattle.gm_arena.specs.inner.ArenaMap.{ArenaMap, Dart, IsLiveName, alpha, name_at}
use Rattle.gm_arena.specs.inner.Edits.{put_if, revalued, with_value}
use Rattle.gm_arena.proofs.FilledLemmas.{get-insert_same, get-insert_other}
use Rattle.gm_arena.proofs.InsideLemmas.{some_of, some_from_map}
use Rattle.gm_commit.specs.declared.changes.ValueAt.{ValueAt}
use Rattle.gm_commit.specs.inner.WrittenMap.{values_at, with_values}
use Rattle.gm_commit.proofs.ListMembers.{contains_first, contains_later, contains_either, contains_none}
use Rattle.gm_commit.proofs.on_commit.WholeDarts.{is_some-map}

-- ---- the values of one dart

through : {A B C : Type 0} (f : A → B) (g : B → C) (z : C) (o : Option A) → option_map_or (λ x. g (f x)) o z ≡ option_map_or g (option_map f o) z
through f g z None = refl
through f g z (Some x) = refl

abbrev pub value_among : ℕ → Option (List Value) → Value
value_among e o = option_map_or (λ values. get_or values e (Int (pos 0))) o (Int (pos 0))

pub value_is : (m : ArenaMap) (e d : ℕ) → value m e d ≡ value_among e (values_at m d)
value_is m e d = through (λ (dart : Dart). dart.values) (λ values. get_or values e (Int (pos 0))) (Int (pos 0)) (get m.darts d)

pub value_alike : (m n : ArenaMap) (e d : ℕ) → values_at n d ≡ values_at m d → value n e d ≡ value m e d
value_alike m n e d same = value_is n e d ∙ ap (value_among e) same ∙ sym (value_is m e d)

-- each live dart has a value for each embedding
abbrev pub AreWide : ArenaMap → Type 0
AreWide m = (d : ℕ) (values : List Value) → values_at m d ≡ Some values → length values ≡ length m.schema.embeds

-- ---- one value more

module _ (m : ArenaMap) (name e : ℕ) (v : Value) where
  abbrev new : ArenaMap
  new = with_value m name e v

  here_at : (o : Option Dart) → get m.darts name ≡ o → get new.darts name ≡ option_map (λ dart. revalued dart e v) o
  here_at None is = rw is is
  here_at (Some dart) is = rw is (get-insert_same m.darts name (revalued dart e v))

  here : get new.darts name ≡ option_map (λ dart. revalued dart e v) (get m.darts name)
  here = here_at (get m.darts name) refl

  other_at : (o : Option Dart) (other : ℕ) → other ≢ name → get (put_if m.darts name (option_map (λ dart. revalued dart e v) o)) other ≡ get m.darts other
  other_at None other apart = refl
  other_at (Some dart) other apart = get-insert_other m.darts name (revalued dart e v) other apart

  elsewhere : (other : ℕ) → other ≢ name → get new.darts other ≡ get m.darts other
  elsewhere = other_at (get m.darts name)

  -- what a dart has beside its values stays
  unchanged : {A : Type 0} (read : Option Dart → A) → ((o : Option Dart) → read (option_map (λ dart. revalued dart e v) o) ≡ read o) → (d : ℕ) → read (get new.darts d) ≡ read (get m.darts d)
  unchanged read same d = elim (cases_eq d name) [
    | inl is ↦ rw is (ap read here ∙ same (get m.darts name))
    | inr apart ↦ ap read (elsewhere d apart)
  ]

  live_stays : (d : ℕ) → is_some (get new.darts d) ≡ is_some (get m.darts d)
  live_stays = unchanged is_some (λ o. is_some-map (λ dart. revalued dart e v) o)

  alpha_stays : (i d : ℕ) → alpha new i d ≡ alpha m i d
  alpha_stays i d = unchanged (λ o. option_map_or (λ (dart : Dart). get_or dart.alphas i d) o d) same d
    where
      same : (o : Option Dart) → option_map_or (λ (dart : Dart). get_or dart.alphas i d) (option_map (λ dart. revalued dart e v) o) d ≡ option_map_or (λ (dart : Dart). get_or dart.alphas i d) o d
      same None = refl
      same (Some dart) = refl

  values_here : values_at new name ≡ option_map (λ values. set values e v) (values_at m name)
  values_here = ap (option_map (λ (dart : Dart). dart.values)) here ∙ same (get m.darts name)
    where
      same : (o : Option Dart) → option_map (λ (dart : Dart). dart.values) (option_map (λ dart. revalued dart e v) o) ≡ option_map (λ values. set values e v) (option_map (λ (dart : Dart). dart.values) o)
      same None = refl
      same (Some dart) = refl

  values_elsewhere : (other : ℕ) → other ≢ name → values_at new other ≡ values_at m other
  values_elsewhere other apart = ap (option_map (λ (dart : Dart). dart.values)) (elsewhere other apart)

  wide_stays : AreWide m → AreWide new
  wide_stays wide d values is = elim (cases_eq d name) [
    | inl at ↦
        let now : values_at new name ≡ Some values = subst (λ c. values_at new c ≡ Some values) at is in
        let was = some_from_map (λ old. set old e v) (values_at m name) values (sym values_here ∙ now) in
        ap (λ (list : List Value). length list) was.2 ∙ (length-set was.0 e v ∙ wide name was.0 was.1)
    | inr apart ↦ wide d values (sym (values_elsewhere d apart) ∙ is)
  ]

  value_here : AreWide m → IsLiveName m name → e < length m.schema.embeds → value new e name ≡ v
  value_here wide live low =
      let was = some_of (get m.darts name) live in
      let before : values_at m name ≡ Some was.0.values = ap (option_map (λ (dart : Dart). dart.values)) was.1 in
      value_is new e name ∙ ap (value_among e) (values_here ∙ ap (option_map (λ values. set values e v)) before) ∙ get_or-set_same was.0.values e v (Int (pos 0)) (omega (arith, wide name was.0.values before))

  value_beside : (k : ℕ) → k ≢ e → value new k name ≡ value m k name
  value_beside k apart = value_is new k name ∙ ap (value_among k) values_here ∙ same (values_at m name) ∙ sym (value_is m k name)
    where
      same : (o : Option (List Value)) → value_among k (option_map (λ values. set values e v) o) ≡ value_among k o
      same None = refl
      same (Some values) = get_or-set_other values e k v (Int (pos 0)) apart

-- ---- a list of values

-- nothing but the darts is written
pub values_frame : (values : List ValueAt) (m : ArenaMap) → with_values m values ≡ record m { darts = (with_values m values).darts }
values_frame [] m = refl
values_frame (at ∷ values) m = values_frame values (with_value m (name_at m at.slot.at) at.embed at.value)

pub values_live : (values : List ValueAt) (m : ArenaMap) (d : ℕ) → is_some (get (with_values m values).darts d) ≡ is_some (get m.darts d)
values_live [] m d = refl
values_live (at ∷ values) m d = values_live values (with_value m (name_at m at.slot.at) at.embed at.value) d ∙ live_stays m (name_at m at.slot.at) at.embed at.value d

pub values_alpha : (values : List ValueAt) (m : ArenaMap) (i d : ℕ) → alpha (with_values m values) i d ≡ alpha m i d
values_alpha [] m i d = refl
values_alpha (at ∷ values) m i d = values_alpha values (with_value m (name_at m at.slot.at) at.embed at.value) i d ∙ alpha_stays m (name_at m at.slot.at) at.embed at.value i d

-- a dart that gets none of them stays as it is
pub values_kept : (values : List ValueAt) (m : ArenaMap) (d : ℕ) → ((at : ValueAt) → Contains values at → name_at m at.slot.at ≢ d) → get (with_values m values).darts d ≡ get m.darts d
values_kept [] m d apart = refl
values_kept (at ∷ values) m d apart =
    values_kept values (with_value m (name_at m at.slot.at) at.embed at.value) d (λ later among. apart later (contains_later at values later among))
    ∙ elsewhere m (name_at m at.slot.at) at.embed at.value d (λ e. apart at (contains_first at values) (sym e))

-- the list sets this value at d for the embedding
pub record IsSetAt (m : ArenaMap) (values : List ValueAt) (e d : ℕ) (v : Value) : Type 0 where
  pub at : ValueAt
  pub among : Contains values at
  pub embed : at.embed ≡ e
  pub name : name_at m at.slot.at ≡ d
  pub value : v ≡ at.value

abbrev pub IsUnset : ArenaMap → List ValueAt → ℕ → ℕ → Type 0
IsUnset m values e d = (at : ValueAt) → Contains values at → at.embed ≡ e → name_at m at.slot.at ≡ d → ⊥

abbrev pub AreFitting : ArenaMap → List ValueAt → Type 0
AreFitting m values = (at : ValueAt) → Contains values at → IsLiveName m (name_at m at.slot.at) × (at.embed < length m.schema.embeds)

abbrev pub IsSetOrKept : ArenaMap → List ValueAt → ℕ → ℕ → Value → Type 0
IsSetOrKept m values e d v = IsSetAt m values e d v ⊎ (IsUnset m values e d × (v ≡ value m e d))

pub values_set : (values : List ValueAt) (m : ArenaMap) → AreWide m → AreFitting m values → (e d : ℕ) → IsSetOrKept m values e d (value (with_values m values) e d)
values_set [] m wide fit e d = inr (λ at among. absurd (contains_none at among), refl)
values_set (first ∷ values) m wide fit e d = go (values_set values next (wide_stays m (name_at m first.slot.at) first.embed first.value wide) fits e d)
  where
    next : ArenaMap
    next = with_value m (name_at m first.slot.at) first.embed first.value

    fits : AreFitting (with_value m (name_at m first.slot.at) first.embed first.value) values
    fits at among =
        let was = fit at (contains_later first values at among) in
        (live_stays m (name_at m first.slot.at) first.embed first.value (name_at m at.slot.at) ∙ was.0, was.1)

    none : IsUnset m values e d → (first.embed ≡ e → name_at m first.slot.at ≡ d → ⊥) → IsUnset m (first ∷ values) e d
    none rest not_first at among embed name = elim (contains_either first values at among) [
      | inl is ↦ not_first (subst (λ (a : ValueAt). a.embed ≡ e) (sym is) embed) (subst (λ (a : ValueAt). name_at m a.slot.at ≡ d) (sym is) name)
      | inr later ↦ rest at later embed name
    ]

    go : IsSetOrKept (with_value m (name_at m first.slot.at) first.embed first.value) values e d (value (with_values (with_value m (name_at m first.slot.at) first.embed first.value) values) e d) →
        IsSetOrKept m (first ∷ values) e d (value (with_values (with_value m (name_at m first.slot.at) first.embed first.value) values) e d)
    go (inl s) = inl record { at = s.at; among = contains_later first values s.at s.among; embed = s.embed; name = s.name; value = s.value }
    go (inr (rest, same)) = elim (cases_eq d (name_at m first.slot.at)) [
      | inr apart ↦ inr (none rest (λ embed name. apart (sym name)), same ∙ value_alike m next e d (values_elsewhere m (name_at m first.slot.at) first.embed first.value d apart))
      | inl at ↦ elim (cases_eq e first.embed) [
        | inr apart ↦ inr (none rest (λ embed name. apart (sym embed)), same ∙ rw at (value_beside m (name_at m first.slot.at) first.embed first.value e apart))
        | inl embed ↦ inl record {
          at = first;
          among = contains_first first values;
          embed = sym embed;
          name = sym at;
          value = same ∙ rw (at, embed) (let fits_first = fit first (contains_first first values) in value_here m (name_at m first.slot.at) first.embed first.value wide fits_first.0 fits_first.1);
        }
      ]
    ]
