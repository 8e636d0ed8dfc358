-- One dart that is written label by label and value by value.
use Rattle.std.proofs.Common.{◌≡◌, ◌≢◌, ℕ, ◌+◌, ◌<◌, ◌≤◌, List, length, set, slice_get, get_or, Option, Some, None, refl, sym, ap, ◌∙◌, inl, inr, arith, pos}
use Rattle.std.specs.FinMap.{FinMap, get}
use Rattle.std.specs.Option.{option_map}
use Rattle.std.specs.Ordering.{nat_cmp}
use Rattle.std.proofs.lemmas.Bool.{cases_eq}
use Rattle.std.proofs.lemmas.Grind.{same_number_lists}
use Rattle.std.proofs.lemmas.List.{ext_get_or, get_or-set_same, get_or-set_other, length-set}
use Rattle.std.proofs.lemmas.Option.{same_Some, slice_get-map, slice_get-get_or}
use Rattle.gm_model.specs.declared.schema.Embed.{Embed}
use Rattle.gm_model.specs.declared.schema.Schema.{Schema}
use Rattle.gm_model.specs.declared.value.Value.{Value}
use Rattle.gm_model.specs.declared.value.Value.TheVariants.{Int}
use Rattle.gm_model.specs.Maps.{IsEmbedAt}
use Rattle.gm_model.specs.Values.{kind_of, IsValueOf}
use Rattle.gm_arena.specs.inner.ArenaMap.{ArenaMap, Dart, IsLiveName, alpha, name_at}
use Rattle.gm_arena.specs.inner.Lawful.{AreGoodValues}
use Rattle.gm_arena.proofs.ValueLemmas.{length-values}
use Rattle.gm_apply.proofs.ReadValues.{some_embed}
use Rattle.gm_arena.specs.inner.Edits.{put_if, turned, revalued, with_alpha, with_value}
use Rattle.gm_arena.proofs.FilledLemmas.{get-insert_same, get-insert_other}
use Rattle.gm_arena.proofs.MapLemmas.{alpha-with_alpha_label, get-with_alpha_same, get-with_alpha_other}
use Rattle.gm_commit.specs.inner.WrittenMap.{AreWhole}
use Rattle.gm_commit.proofs.on_commit.WholeDarts.{alpha_turned, live_turned, whole_turned}
use Rattle.gm_undo.specs.inner.Writing.{HasFrame}

pub no_frame : (m : ArenaMap) → HasFrame m m
no_frame m = refl

-- the darts are written once more
pub frame_more : (old m m' : ArenaMap) (darts : FinMap nat_cmp Dart) → HasFrame old m → m' ≡ record m { darts = darts } → HasFrame old m'
frame_more old m m' darts frame is = is ∙ ap (λ (k : ArenaMap). record k { darts = darts }) frame ∙ ap (λ (k : ArenaMap). record old { darts = k.darts }) (sym is)

-- ---- one value more

module _ (m : ArenaMap) (name e : ℕ) (v : Value) where
  revalued_at : (o : Option Dart) → get m.darts name ≡ o → get (with_value m name e v).darts name ≡ option_map (λ dart. revalued dart e v) o
  revalued_at None is = rw is is
  revalued_at (Some dart) is = rw is (get-insert_same m.darts name (revalued dart e v))

  get-with_value_same : get (with_value m name e v).darts name ≡ option_map (λ dart. revalued dart e v) (get m.darts name)
  get-with_value_same = revalued_at (get m.darts name) refl

  other_at : (o : Option Dart) (other : ℕ) → other ≢ name → get (put_if m.darts name (option_map (λ dart. revalued dart e v) o)) other ≡ get m.darts other
  other_at None other apart = refl
  other_at (Some dart) other apart = get-insert_other m.darts name (revalued dart e v) other apart

  get-with_value_other : (other : ℕ) → other ≢ name → get (with_value m name e v).darts other ≡ get m.darts other
  get-with_value_other = other_at (get m.darts name)

-- the slots are as they were
pub named : (old m : ArenaMap) (slot : ℕ) → HasFrame old m → name_at m slot ≡ name_at old slot
named old m slot frame = ap (λ (k : ArenaMap). name_at k slot) frame

-- each of good values is one of its embedding's kind
pub value_there : (schema : Schema) (values : List Value) (e : ℕ) → AreGoodValues schema values → e < length values → (embed : Embed) × IsEmbedAt schema e embed × IsValueOf embed.kind (get_or values e (Int (pos 0)))
value_there schema values e good h =
    let embed = some_embed schema.embeds e (omega (arith, h, length-values schema values good)) in
    (embed.0, embed.1, record { kind_is = kind embed.0 embed.1; range = good.ranges e (Int (pos 0)) h })
  where
    kind : (embed : Embed) → IsEmbedAt schema e embed → kind_of (get_or values e (Int (pos 0))) ≡ embed.kind
    kind embed at = same_Some _ _ (
        sym (slice_get-map kind_of values e ∙ ap (option_map kind_of) (slice_get-get_or values e (Int (pos 0)) h))
        ∙ (ap (λ kinds. slice_get kinds e) good.kinds ∙ (slice_get-map (λ (embed : Embed). embed.kind) schema.embeds e ∙ ap (option_map (λ (embed : Embed). embed.kind)) at))
        )

module _ (name : ℕ) (old : ArenaMap) where
  -- the dart is its own neighbour for the first labels
  pub record IsFreedTo (m : ArenaMap) (labels : ℕ) : Type 0 where
    pub free : (i : ℕ) → i < labels → alpha m i name ≡ name
    pub live : IsLiveName m name
    pub whole : AreWhole m
    pub others : (d : ℕ) → d ≢ name → get m.darts d ≡ get old.darts d
    pub frame : HasFrame old m

  pub free_none : IsLiveName old name → AreWhole old → IsFreedTo old 0
  free_none live whole = record { free = λ i h. absurd (omega (arith, h)); live = live; whole = whole; others = λ d apart. refl; frame = refl }

  pub free_more : (m m' : ArenaMap) (label : ℕ) → IsFreedTo m label → label ≤ m.schema.dim → m' ≡ with_alpha m name label name → IsFreedTo m' (label + 1)
  free_more m m' label freed low is = rw is (record {
    free = λ i h. elim (cases_eq i label) [
      | inl e ↦ rw e (alpha_turned m name label name freed.whole freed.live low)
      | inr apart ↦ alpha-with_alpha_label m name label name i apart ∙ freed.free i (omega arith)
    ];
    live = live_turned m name label name name ∙ freed.live;
    whole = whole_turned m name label name freed.whole;
    others = λ d apart. get-with_alpha_other m name label name d apart ∙ freed.others d apart;
    frame = frame_more old m (with_alpha m name label name) (with_alpha m name label name).darts freed.frame refl;
  })

  -- ---- neighbours

  -- the dart has the first of these neighbours
  pub record IsLinkedTo (neighbours : List ℕ) (m : ArenaMap) (labels : ℕ) : Type 0 where
    pub own : (dart : Dart) → get old.darts name ≡ Some dart → length dart.alphas ≡ length neighbours
        → (alphas : List ℕ) × (get m.darts name ≡ Some (record { alphas = alphas; values = dart.values })) × (length alphas ≡ length neighbours) × ((i : ℕ) → i < labels → get_or alphas i 0 ≡ get_or neighbours i 0)
    pub live : (d : ℕ) → IsLiveName old d → IsLiveName m d
    pub others : (d : ℕ) → d ≢ name → get m.darts d ≡ get old.darts d
    pub frame : HasFrame old m

  pub linked_none : (neighbours : List ℕ) → IsLinkedTo neighbours old 0
  linked_none neighbours = record { own = λ dart is long. (dart.alphas, is, long, λ i h. absurd (omega (arith, h))); live = λ d live. live; others = λ d apart. refl; frame = refl }

  pub linked_more : (neighbours : List ℕ) (m m' : ArenaMap) (label to : ℕ) → IsLinkedTo neighbours m label → label < length neighbours → to ≡ get_or neighbours label 0 → m' ≡ with_alpha m name label to → IsLinkedTo neighbours m' (label + 1)
  linked_more neighbours m m' label to linked low to_is is = rw is (record {
    own = λ dart here long.
        let before = linked.own dart here long in (
          set before.0 label to,
          get-with_alpha_same m name label to ∙ ap (option_map (λ (d : Dart). turned d label to)) before.1,
          length-set before.0 label to ∙ before.2,
          λ i h. elim (cases_eq i label) [
            | inl e ↦ rw e (get_or-set_same before.0 label to 0 (omega (arith, low, before.2)) ∙ to_is)
            | inr apart ↦ get_or-set_other before.0 label i to 0 apart ∙ before.3 i (omega arith)
          ],
        );
    live = λ d was. live_turned m name label to d ∙ linked.live d was;
    others = λ d apart. get-with_alpha_other m name label to d apart ∙ linked.others d apart;
    frame = frame_more old m (with_alpha m name label to) (with_alpha m name label to).darts linked.frame refl;
  })

  pub linked_all : (neighbours : List ℕ) (m : ArenaMap) → IsLinkedTo neighbours m (length neighbours) → (dart : Dart) → get old.darts name ≡ Some dart → length dart.alphas ≡ length neighbours → get m.darts name ≡ Some (record { alphas = neighbours; values = dart.values })
  linked_all neighbours m linked dart is long =
      let all = linked.own dart is long in
      all.1 ∙ ap (λ (alphas : List ℕ). Some (record { alphas = alphas; values = dart.values })) (same_number_lists all.0 neighbours all.2 (λ k h. all.3 k (omega (arith, h, all.2))))

  -- ---- values

  -- the dart has the first of these values
  pub record IsValuedTo (values : List Value) (m : ArenaMap) (embeds : ℕ) : Type 0 where
    pub own : (dart : Dart) → get old.darts name ≡ Some dart → length dart.values ≡ length values
        → (now : List Value) × (get m.darts name ≡ Some (record { alphas = dart.alphas; values = now })) × (length now ≡ length values) × ((e : ℕ) → e < embeds → get_or now e (Int (pos 0)) ≡ get_or values e (Int (pos 0)))
    pub others : (d : ℕ) → d ≢ name → get m.darts d ≡ get old.darts d
    pub frame : HasFrame old m

  pub valued_none : (values : List Value) → IsValuedTo values old 0
  valued_none values = record { own = λ dart is long. (dart.values, is, long, λ e h. absurd (omega (arith, h))); others = λ d apart. refl; frame = refl }

  pub valued_more : (values : List Value) (m m' : ArenaMap) (embed : ℕ) (v : Value) → IsValuedTo values m embed → embed < length values → v ≡ get_or values embed (Int (pos 0)) → m' ≡ with_value m name embed v → IsValuedTo values m' (embed + 1)
  valued_more values m m' embed v valued low v_is is = rw is (record {
    own = λ dart was long.
        let before = valued.own dart was long in (
          set before.0 embed v,
          get-with_value_same m name embed v ∙ ap (option_map (λ (d : Dart). revalued d embed v)) before.1,
          length-set before.0 embed v ∙ before.2,
          λ e h. elim (cases_eq e embed) [
            | inl same ↦ rw same (get_or-set_same before.0 embed v (Int (pos 0)) (omega (arith, low, before.2)) ∙ v_is)
            | inr apart ↦ get_or-set_other before.0 embed e v (Int (pos 0)) apart ∙ before.3 e (omega arith)
          ],
        );
    others = λ d apart. get-with_value_other m name embed v d apart ∙ valued.others d apart;
    frame = frame_more old m (with_value m name embed v) (with_value m name embed v).darts valued.frame refl;
  })

  pub valued_all : (values : List Value) (m : ArenaMap) → IsValuedTo values m (length values) → (dart : Dart) → get old.darts name ≡ Some dart → length dart.values ≡ length values → get m.darts name ≡ Some (record { alphas = dart.alphas; values = values })
  valued_all values m valued dart is long =
      let all = valued.own dart is long in
      all.1 ∙ ap (λ (now : List Value). Some (record { alphas = dart.alphas; values = now })) (ext_get_or (Int (pos 0)) all.0 values all.2 (λ e h. all.3 e (omega (arith, h, all.2))))
