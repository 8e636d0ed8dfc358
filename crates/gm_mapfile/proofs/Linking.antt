-- One neighbour more, and one dart more whose neighbours are all linked, or one is no dart.
use Rattle.std.proofs.Common.{◌≡◌, ◌≢◌, ℕ, ◌+◌, ◌<◌, ◌≤◌, true, false, cond, ltb, List, [], ◌∷◌, ◌++◌, length, get_or, Option, Some, None, is_some, inl, inr, refl, sym, ap, ap₂, subst, ◌∙◌, arith}
use Rattle.std.specs.Prelude.{MatchOption, slice_index}
use Rattle.std.specs.Option.{option_map, option_map_or}
use Rattle.std.specs.FinMap.{get}
use Rattle.std.proofs.lemmas.Bool.{cases_eq, cases_Bool, ltb-true, ltb-false}
use Rattle.std.proofs.lemmas.List.{get_or_default, get_or-set_same, length-set}
use Rattle.gm_model.specs.GMap.{Row, row_of, IsLive}
use Rattle.gm_model.specs.GMap as written
use Rattle.gm_model.specs.Orbits.{IsPairBefore}
use Rattle.gm_arena.specs.inner.ArenaMap.{ArenaMap, Dart, IsAt, IsLiveName, IsLiveSlot, name_at, alpha}
use Rattle.gm_arena.specs.inner.Edits.{with_alpha, turned}
use Rattle.gm_arena.proofs.InsideLemmas.{some_of, some_from_map}
use Rattle.gm_arena.proofs.MapLemmas.{name_at-is, get-with_alpha_same, get-with_alpha_other, alpha-with_alpha_other, alpha-with_alpha_label}
use Rattle.gm_mapfile.specs.inner.Building.{values_at, AreWhole, AreSlotsLive, IsRelinked, IsDartLinked, IsLabelWithoutTarget, AreLinked, IsFirstLack, AreLinkedUnless}
use Rattle.gm_mapfile.proofs.Darts.{is_some-map}
use Rattle.gm_mapfile.proofs.Named.{row_of_push_other, live_push, alpha_push_new, alpha_push_other}

values-turned : (label to : ℕ) (o : Option Dart) → option_map (λ (dart : Dart). dart.values) (option_map (λ (dart : Dart). turned dart label to) o) ≡ option_map (λ (dart : Dart). dart.values) o
values-turned label to None = refl
values-turned label to (Some dart) = refl

-- ---- one neighbour more

pub same_dim : {n : ℕ} {old new : ArenaMap} → IsRelinked n old new → new.schema.dim ≡ old.schema.dim
same_dim relinked = ap (λ (x : ArenaMap). x.schema.dim) relinked.frame

pub none_relinked : (n : ℕ) (m : ArenaMap) → AreWhole n m → IsRelinked n m m
none_relinked n m whole = record { frame = refl; live = λ d. refl; values = λ d. refl; whole = whole }

pub none_linked : (n : ℕ) (m : ArenaMap) (name : ℕ) (neighbours : List ℕ) → AreWhole n m → IsDartLinked n m m name neighbours 0
none_linked n m name neighbours whole = record {
  relinked = none_relinked n m whole;
  others = λ d i apart. refl;
  linked = λ i lt. absurd (omega arith);
  targets = λ i lt. absurd (omega arith);
}

module _ (n : ℕ) (old m : ArenaMap) (name : ℕ) (neighbours : List ℕ) (label : ℕ) (so_far : IsDartLinked n old m name neighbours label) where
  abbrev to : ℕ
  to = slice_index neighbours label

  live_turned : (d : ℕ) → is_some (get (with_alpha m name label to).darts d) ≡ is_some (get m.darts d)
  live_turned d = elim (cases_eq d name) [
    | inl e ↦ rw e (ap is_some (get-with_alpha_same m name label to) ∙ is_some-map (λ dart. turned dart label to) (get m.darts name))
    | inr apart ↦ ap is_some (get-with_alpha_other m name label to d apart)
  ]

  values_turned : (d : ℕ) → values_at (with_alpha m name label to) d ≡ values_at m d
  values_turned d = elim (cases_eq d name) [
    | inl e ↦ rw e (ap (option_map (λ (dart : Dart). dart.values)) (get-with_alpha_same m name label to) ∙ values-turned label to (get m.darts name))
    | inr apart ↦ ap (option_map (λ (dart : Dart). dart.values)) (get-with_alpha_other m name label to d apart)
  ]

  whole_turned : AreWhole n (with_alpha m name label to)
  whole_turned d dart is = elim (cases_eq d name) [
    | inl e ↦
        let here : get (with_alpha m name label to).darts name ≡ Some dart = subst (λ x. get (with_alpha m name label to).darts x ≡ Some dart) e is in
        let was = some_from_map (λ (x : Dart). turned x label to) (get m.darts name) dart (sym (get-with_alpha_same m name label to) ∙ here) in
        ap (λ (x : Dart). length x.alphas) was.2 ∙ (length-set was.0.alphas label to ∙ so_far.relinked.whole name was.0 was.1)
    | inr apart ↦ so_far.relinked.whole d dart (sym (get-with_alpha_other m name label to d apart) ∙ is)
  ]

  turned_here : IsLiveName m name → label ≤ n → alpha (with_alpha m name label to) label name ≡ to
  turned_here live within =
      let was = some_of (get m.darts name) live in
      let long : length was.0.alphas ≡ n + 1 = so_far.relinked.whole name was.0 was.1 in
      ap (λ o. option_map_or (λ (dart : Dart). get_or dart.alphas label name) o name) (get-with_alpha_same m name label to ∙ ap (option_map (λ dart. turned dart label to)) was.1)
      ∙ get_or-set_same was.0.alphas label to name (omega (arith, long))

  pub linked_more : IsLiveName old name → label ≤ n → IsLiveName old to → IsDartLinked n old (with_alpha m name label to) name neighbours (label + 1)
  linked_more live within target = record {
    relinked = record {
      frame = ap (λ (x : ArenaMap). record x { darts = (with_alpha m name label to).darts }) so_far.relinked.frame;
      live = λ d. live_turned d ∙ so_far.relinked.live d;
      values = λ d. values_turned d ∙ so_far.relinked.values d;
      whole = whole_turned;
    };
    others = λ d i apart. alpha-with_alpha_other m name label to i d apart ∙ so_far.others d i apart;
    linked = λ i lt. elim (cases_eq i label) [
      | inl e ↦ rw e (turned_here (so_far.relinked.live name ∙ live) within)
      | inr apart ↦ alpha-with_alpha_label m name label to i apart ∙ so_far.linked i (omega arith)
    ];
    targets = λ i lt. elim (cases_eq i label) [
      | inl e ↦ rw e target
      | inr apart ↦ so_far.targets i (omega arith)
    ];
  }

-- ---- one dart more

pub relinked_twice : (n : ℕ) (old m m' : ArenaMap) → IsRelinked n old m → IsRelinked n m m' → IsRelinked n old m'
relinked_twice n old m m' first second = record {
  frame = second.frame ∙ ap (λ (x : ArenaMap). record x { darts = m'.darts }) first.frame;
  live = λ d. second.live d ∙ first.live d;
  values = λ d. second.values d ∙ first.values d;
  whole = second.whole;
}

module _ (n : ℕ) (old : ArenaMap) (front : List Row) (row : Row) (new_name : row_of front row.name ≡ None) (long : length row.alphas ≡ n + 1) where
  abbrev more : List Row
  more = front ++ row ∷ []

  own : (i : ℕ) → i ≤ n → written.alpha more i row.name ≡ slice_index row.alphas i
  own i within = alpha_push_new front row i new_name ∙ get_or_default row.alphas i row.name 0 (omega (arith, long))

  other : (i d : ℕ) → d ≢ row.name → written.alpha more i d ≡ written.alpha front i d
  other i d apart = alpha_push_other front row i d apart

  was_live : (d : ℕ) → d ≢ row.name → IsLive more d → IsLive front d
  was_live d apart live = sym (ap is_some (row_of_push_other front row d apart)) ∙ live

  now_live : (d : ℕ) → d ≢ row.name → IsLive front d → IsLive more d
  now_live d apart live = ap is_some (row_of_push_other front row d apart) ∙ live

  not_here : (d : ℕ) → IsLive front d → d ≢ row.name
  not_here d live same = let none : false ≡ true = rw (same, new_name) at live in absurd cc

  abbrev HasTarget : ℕ → Type 0
  HasTarget j = IsLiveName old (slice_index row.alphas j)

  low : (d i e j : ℕ) → e ≡ row.name → IsPairBefore e j d i → d ≢ row.name → row.name < d
  low d i e j same (inl lt) apart = omega (arith, same)
  low d i e j same (inr pair) apart = absurd (apart (sym pair.0 ∙ same))

  early : (label e j : ℕ) → e ≡ row.name → IsPairBefore e j row.name label → j < label
  early label e j same (inl lt) = absurd (omega (arith, same))
  early label e j same (inr pair) = pair.1

  less : (label e j : ℕ) → e ≢ row.name → IsPairBefore e j row.name label → e < row.name
  less label e j away (inl lt) = lt
  less label e j away (inr pair) = absurd (away pair.0)

  -- an earlier lack is still the first, unless this dart is before it and lacks one
  lack_kept : (d i : ℕ) → IsFirstLack n old front d i → (row.name < d → (j : ℕ) → j ≤ n → HasTarget j) → IsFirstLack n old more d i
  lack_kept d i lack targets = let apart = not_here d lack.live in record {
    live = now_live d apart lack.live;
    label = lack.label;
    fails = λ live. lack.fails (subst (IsLiveName old) (other i d apart) live);
    before = λ e j earlier live within. elim (cases_eq e row.name) [
      | inl same ↦ rw (same, own j within) (targets (low d i e j same earlier apart) j within)
      | inr away ↦ rw (other j e away) (lack.before e j earlier (was_live e away live) within)
    ];
  }

  -- this dart lacks one, and none before it
  lack_new : (label : ℕ) → label ≤ n → (HasTarget label → ⊥) → ((i : ℕ) → i < label → HasTarget i) → ((e j : ℕ) → e ≢ row.name → e < row.name → IsLive front e → j ≤ n → IsLiveName old (written.alpha front j e)) → IsFirstLack n old more row.name label
  lack_new label within fails targets before = record {
    live = live_push front row;
    label = within;
    fails = λ live. fails (subst (IsLiveName old) (own label within) live);
    before = λ e j earlier live below. elim (cases_eq e row.name) [
      | inl same ↦ rw (same, own j below) (targets j (early label e j same earlier))
      | inr away ↦ rw (other j e away) (before e j away (less label e j away earlier) (was_live e away live) below)
    ];
  }

  module _ (m m' : ArenaMap) (state : IsRelinked n old m) where
    in_old : (d : ℕ) → IsLiveName m d → IsLiveName old d
    in_old d live = sym (state.live d) ∙ live

    all_linked : IsDartLinked n m m' row.name row.alphas (n + 1) → AreLinked n old m front → AreLinked n old m' more
    all_linked linked before d i live within = elim (cases_eq d row.name) [
      | inl same ↦ rw (same, own i within) (linked.linked i (omega arith), in_old _ (linked.targets i (omega arith)))
      | inr away ↦
          let was = before d i (was_live d away live) within in
          rw (other i d away) (linked.others d i away ∙ was.0, was.1)
    ]

    pub step_linked : (missing : Option (ℕ × ℕ)) → IsDartLinked n m m' row.name row.alphas (n + 1) → AreLinkedUnless n old m front missing → AreLinkedUnless n old m' more missing
    step_linked None linked before = all_linked linked before
    step_linked (Some p) linked lack = lack_kept p.0 p.1 lack (λ lt j within. in_old _ (linked.targets j (omega arith)))

    pub step_lack : (missing : Option (ℕ × ℕ)) (label : ℕ) (r : ℕ × ℕ) → IsLabelWithoutTarget n m row.alphas label → MatchOption missing (r ≡ (row.name, label)) (λ p. r ≡ cond (ltb p.0 row.name) p (row.name, label))
        → AreLinkedUnless n old m front missing → IsFirstLack n old more r.0 r.1
    step_lack None label r lacks is before =
        subst (λ (p : ℕ × ℕ). IsFirstLack n old more p.0 p.1) (sym is)
        (lack_new label lacks.within (λ live. lacks.fails (state.live _ ∙ live)) (λ i lt. in_old _ (lacks.before i lt)) (λ e j away lt live within. (before e j live within).1))
    step_lack (Some p) label r lacks is lack = elim (cases_Bool (ltb p.0 row.name)) [
      | inl lt ↦
          let same : r ≡ p = rw lt at is in
          subst (λ (q : ℕ × ℕ). IsFirstLack n old more q.0 q.1) (sym same)
          (lack_kept p.0 p.1 lack (λ less. absurd (omega (arith, ltb-true p.0 row.name lt))))
      | inr ge ↦
          let same : r ≡ (row.name, label) = rw ge at is in
          subst (λ (q : ℕ × ℕ). IsFirstLack n old more q.0 q.1) (sym same)
          (lack_new label lacks.within (λ live. lacks.fails (state.live _ ∙ live)) (λ i lt. in_old _ (lacks.before i lt))
          (λ e j away lt live within. lack.before e j (inl (omega (arith, ltb-false p.0 row.name ge))) live within))
    ]

-- the same where the dart and its neighbour are known by their slots
pub linked_at : (n : ℕ) (old m m' : ArenaMap) (name : ℕ) (neighbours : List ℕ) (label slot to_slot : ℕ) → IsDartLinked n old m name neighbours label → IsAt old slot name → IsAt m to_slot (slice_index neighbours label)
    → m' ≡ with_alpha m (name_at m slot) label (name_at m to_slot) → AreSlotsLive old → IsLiveName old name → label ≤ n → IsDartLinked n old m' name neighbours (label + 1)
linked_at n old m m' name neighbours label slot to_slot so_far at to_at is slots live within =
    let slots_are : m.slots ≡ old.slots = ap (λ (x : ArenaMap). x.slots) so_far.relinked.frame in
    let own : name_at m slot ≡ name = name_at-is m slot name (ap (λ s. get s slot) slots_are ∙ at) in
    let there : name_at m to_slot ≡ slice_index neighbours label = name_at-is m to_slot (slice_index neighbours label) to_at in
    let target : IsLiveName old (slice_index neighbours label) = slots to_slot (slice_index neighbours label) (sym (ap (λ s. get s to_slot) slots_are) ∙ to_at) in
    subst (λ x. IsDartLinked n old x name neighbours (label + 1)) (sym (is ∙ ap₂ (λ a b. with_alpha m a label b) own there)) (linked_more n old m name neighbours label so_far live within target)

-- ---- what is live, and what isn't

pub not_live : (o : Option Dart) → o ≡ None → is_some o ≡ true → ⊥
not_live o e live = let none : false ≡ true = rw e at live in absurd cc

pub no_target : (n : ℕ) (old m : ArenaMap) (name : ℕ) (neighbours : List ℕ) (label there : ℕ) → IsDartLinked n old m name neighbours label → there ≡ slice_index neighbours label → get m.darts there ≡ None → label ≤ n → IsLabelWithoutTarget n old neighbours label
no_target n old m name neighbours label there so_far is none within = record {
  within = within;
  fails = λ live. not_live _ (subst (λ d. get m.darts d ≡ None) is none) (so_far.relinked.live _ ∙ live);
  before = so_far.targets;
}

pub slot_live : (n : ℕ) (old m : ArenaMap) (slot name : ℕ) → IsRelinked n old m → IsAt old slot name → IsLiveSlot m slot
slot_live n old m slot name state at =
    let here : get m.slots slot ≡ Some name = ap (λ (x : ArenaMap). get x.slots slot) state.frame ∙ at in
    rw here refl

pub slots_live : (n : ℕ) (old m : ArenaMap) → IsRelinked n old m → AreSlotsLive old → AreSlotsLive m
slots_live n old m state slots slot name at = state.live name ∙ slots slot name (sym (ap (λ (x : ArenaMap). get x.slots slot) state.frame) ∙ at)
