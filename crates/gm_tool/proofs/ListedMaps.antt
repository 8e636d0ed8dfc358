-- Each sound map is alike to one that is listed: its darts in ascending order of their names, each with its neighbours and values.
use Rattle.std.proofs.Common.{◌≡◌, ◌⊎◌, ℕ, zero, suc, ◌+◌, ◌<◌, ◌≤◌, false, IsTrue, List, [], ◌∷◌, length, map, Some, None, is_some, slice_get, slice_index_or, pos, inl, inr, refl, sym, ap, ap₂, subst, ◌∙◌, arith}
use Rattle.std.specs.Int.{bit_at}
use Rattle.std.specs.List.{AllByRecursion}
use Rattle.std.specs.List.Sorted.{IsStrictlyIncreasing}
use Rattle.std.specs.Option.{option_map, option_map_or}
use Rattle.std.proofs.lemmas.Bool.{cases_eq, eq-eqb, ne_eqb, false≢true}
use Rattle.std.proofs.lemmas.Nat.Bits.{bit_at-zero}
use Rattle.std.proofs.lemmas.Option.{slice_get_within}
use Rattle.gm_mapfile.specs.MapReading.{AreOfKinds, IsWhole}
use Rattle.gm_mapfile.specs.MapText.{DartRow, ListedMap, MapText, bare, dart_of, map_of, names}
use Rattle.gm_mapfile.specs.declared.version.MapVersion.{MapVersion}
use Rattle.gm_mapfile.proofs.Again.{moved}
use Rattle.gm_mapfile.proofs.Darts.{live_dart, row_of_dart}
use Rattle.gm_mapfile.proofs.Listed.{listed_good}
use Rattle.gm_model.specs.declared.schema.Embed.{Embed}
use Rattle.gm_model.specs.declared.schema.Schema.{Schema}
use Rattle.gm_model.specs.declared.value.Kind.{Kind}
use Rattle.gm_model.specs.declared.value.Value.{Value}
use Rattle.gm_model.specs.declared.value.Value.TheVariants.{Int}
use Rattle.gm_model.specs.declared.word.Mask.{Mask}
use Rattle.gm_model.specs.GMap.{Row}
use Rattle.gm_model.specs.Labels.{has}
use Rattle.gm_model.specs.Maps.{Map, IsDart, IsSound, dimension}
use Rattle.gm_model.specs.Orbits.{IsLead, IsPathIn, follow}
use Rattle.gm_model.specs.Runs.{AreLeads}
use Rattle.gm_model.specs.Values.{IsValueOf}
use Rattle.gm_run.specs.inner.Alike.{AreAlike}
use Rattle.gm_theory.proofs.LeadsFound.{leads_exist}
use Rattle.gm_theory.proofs.Tests.{true_or_false}
use Rattle.gm_theory.proofs.ValuesLists.{IsIn, contains_in, in_contained}
use Rattle.gm_theory.specs.inner.Outcomes.{IsSoundOf}

-- the map is that of darts in ascending order, each whole
pub record IsListedMap (schema : Schema) (m : Map) : Type 0 where
  pub listed : ListedMap
  pub is : m ≡ map_of listed
  pub schema_is : listed.schema ≡ schema
  pub ascending : IsStrictlyIncreasing (names listed.darts)
  pub whole : AllByRecursion (IsWhole listed.schema) listed.darts

-- the darts of a map that a text stands for are whole
pub whole_darts : (text : List ℕ) (version : MapVersion) (listed : ListedMap) → MapText text version listed → AllByRecursion (IsWhole listed.schema) listed.darts
whole_darts text version listed stands = moved (IsWhole listed.schema) stands.darts listed.darts stands.same (listed_good text stands.written listed.schema stands.darts stands.listed).whole

-- ---- without labels each dart is the least of its orbit

abbrev no_labels : Mask
no_labels = record { bits = 0 }

none_has : (i : ℕ) → has no_labels i ≡ false
none_has i = ne_eqb (bit_at 0 i) 1 (λ one. let none : bit_at 0 i ≡ 0 = bit_at-zero i in omega (arith, none, one))

never : {A : Type 0} (i : ℕ) → IsTrue (has no_labels i) → A
never i h = absurd (false≢true (sym (none_has i) ∙ h))

alone : (m : Map) (d : ℕ) → IsDart m d → IsLead (IsDart m) m.alpha (has no_labels) d
alone m d live = record { live = live; least = λ e (path, all, is) there. stays path d e all is }
  where
    stays : (path : List ℕ) (d e : ℕ) → IsPathIn (has no_labels) path → follow m.alpha path d ≡ e → d ≤ e
    stays [] d e all is = omega (arith, is)
    stays (i ∷ path) d e all is = never i all.0

-- ---- a row for each dart

module _ (m : Map) where
  -- the neighbours along so many labels, from this one on
  abbrev alphas_from : ℕ → ℕ → ℕ → List ℕ
  alphas_from i zero d = []
  alphas_from i (suc count) d = m.alpha i d ∷ alphas_from (suc i) count d

  -- the values of these embeddings, the first of which has this number
  abbrev values_from : ℕ → List Embed → ℕ → List Value
  values_from e [] d = []
  values_from e (embed ∷ embeds) d = m.value e d ∷ values_from (suc e) embeds d

  abbrev row_at : ℕ → DartRow
  row_at d = record { name = d; alphas = alphas_from 0 (dimension m + 1) d; values = values_from 0 m.schema.embeds d }

  alphas_long : (i count d : ℕ) → length (alphas_from i count d) ≡ count
  alphas_long i zero d = refl
  alphas_long i (suc count) d = ap suc (alphas_long (suc i) count d)

  alpha_got : (i count k d x : ℕ) → k < count → slice_index_or (alphas_from i count d) k x ≡ m.alpha (i + k) d
  alpha_got i zero k d x h = absurd (omega (arith, h))
  alpha_got i (suc count) zero d x h = let same : i ≡ i + 0 = omega arith in ap (λ j. m.alpha j d) same
  alpha_got i (suc count) (suc k) d x h = let same : suc i + k ≡ i + suc k = omega arith in alpha_got (suc i) count k d x (omega (arith, h)) ∙ ap (λ j. m.alpha j d) same

  value_got : (e : ℕ) (embeds : List Embed) (k d : ℕ) (x : Value) → k < length embeds → slice_index_or (values_from e embeds d) k x ≡ m.value (e + k) d
  value_got e [] k d x h = absurd (omega (arith, h))
  value_got e (embed ∷ embeds) zero d x h = let same : e ≡ e + 0 = omega arith in ap (λ j. m.value j d) same
  value_got e (embed ∷ embeds) (suc k) d x h = let same : suc e + k ≡ e + suc k = omega arith in value_got (suc e) embeds k d x (omega (arith, h)) ∙ ap (λ j. m.value j d) same

  values_of_kinds : (e : ℕ) (embeds : List Embed) (d : ℕ) → ((k : ℕ) (embed : Embed) → slice_get embeds k ≡ Some embed → IsValueOf embed.kind (m.value (e + k) d)) → AreOfKinds embeds (values_from e embeds d)
  values_of_kinds e [] d each = refl
  values_of_kinds e (embed ∷ embeds) d each =
      let here : e + 0 ≡ e = omega arith in
      let first : IsValueOf embed.kind (m.value e d) = subst (λ j. IsValueOf embed.kind (m.value j d)) here (each 0 embed refl) in
      ap₂ (λ (k : Kind) (ks : List Kind). k ∷ ks) first.kind_is
      (values_of_kinds (suc e) embeds d (λ k other at. let same : e + suc k ≡ suc e + k = omega arith in subst (λ j. IsValueOf other.kind (m.value j d)) same (each (suc k) other at)))

  -- ---- rows of a list of darts

  names_same : (ds : List ℕ) → names (map row_at ds) ≡ ds
  names_same [] = refl
  names_same (d ∷ ds) = ap (λ xs. d ∷ xs) (names_same ds)

  row_found : (ds : List ℕ) (d : ℕ) → IsIn d ds → dart_of (map row_at ds) d ≡ Some (row_at d)
  row_found [] d i = absurd i
  row_found (c ∷ ds) d i = go (cases_eq c d) i (row_found ds d)
    where
      go : (c ≡ d) ⊎ (c ≡ d → ⊥) → (c ≡ d) ⊎ IsIn d ds → (IsIn d ds → dart_of (map row_at ds) d ≡ Some (row_at d)) → dart_of (map row_at (c ∷ ds)) d ≡ Some (row_at d)
      go (inl e) i rest = rw (eq-eqb c d e) (ap (λ x. Some (row_at x)) e)
      go (inr apart) (inl e) rest = absurd (apart e)
      go (inr apart) (inr j) rest = rw (ne_eqb c d apart) (rest j)

  row_missing : (ds : List ℕ) (d : ℕ) → (IsIn d ds → ⊥) → dart_of (map row_at ds) d ≡ None
  row_missing [] d none = refl
  row_missing (c ∷ ds) d none = rw (ne_eqb c d (λ e. none (inl e))) (row_missing ds d (λ i. none (inr i)))

  -- ---- all darts

  module _ (sound : IsSound m) (ds : List ℕ) (are : AreLeads m no_labels ds) where
    abbrev listing : ListedMap
    listing = record { schema = m.schema; darts = map row_at ds; next = m.next }

    live_in : (d : ℕ) → IsDart m d → IsIn d ds
    live_in d live = in_contained ds d ((are.same.same d).1 (alone m d live))

    in_live : (d : ℕ) → IsIn d ds → IsDart m d
    in_live d i = ((are.same.same d).0 (contains_in ds d i)).live

    found : (d : ℕ) → IsDart m d → dart_of listing.darts d ≡ Some (row_at d)
    found d live = row_found ds d (live_in d live)

    live_there : (d : ℕ) → IsDart m d → IsDart (map_of listing) d
    live_there d live = live_dart listing.darts d ∙ ap is_some (found d live)

    live_back : (d : ℕ) → IsDart (map_of listing) d → IsDart m d
    live_back d there = go (true_or_false (m.live d))
      where
        go : IsDart m d ⊎ (m.live d ≡ false) → IsDart m d
        go (inl live) = live
        go (inr dead) = absurd (false≢true (sym (live_dart listing.darts d ∙ ap is_some (row_missing ds d (λ i. false≢true (sym dead ∙ in_live d i)))) ∙ there))

    arc_there : (d i : ℕ) → IsDart m d → i ≤ dimension m → m.alpha i d ≡ (map_of listing).alpha i d
    arc_there d i live low =
        let zero_is : 0 + i ≡ i = omega arith in
        let within : i < dimension m + 1 = omega (arith, low) in
        sym (
        ap (λ o. option_map_or (λ (row : Row). slice_index_or row.alphas i d) o d) (row_of_dart listing.darts d ∙ ap (option_map bare) (found d live))
        ∙ (alpha_got 0 (dimension m + 1) i d d within ∙ ap (λ j. m.alpha j d) zero_is))

    value_there : (e d : ℕ) → IsDart m d → e < length m.schema.embeds → m.value e d ≡ (map_of listing).value e d
    value_there e d live within =
        let zero_is : 0 + e ≡ e = omega arith in
        sym (
        ap (λ o. option_map_or (λ (dart : DartRow). slice_index_or dart.values e (Int (pos 0))) o (Int (pos 0))) (found d live)
        ∙ (value_got 0 m.schema.embeds e d (Int (pos 0)) within ∙ ap (λ j. m.value j d) zero_is))

    alike_there : AreAlike m (map_of listing)
    alike_there = record {
      schema = refl;
      same = record { next = refl; darts = λ d. (live_there d, live_back d); arcs = arc_there };
      values = λ e d embed at live. value_there e d live (slice_get_within m.schema.embeds e embed at);
    }

    whole_each : (darts : List ℕ) → ((d : ℕ) → IsIn d darts → IsDart m d) → AllByRecursion (IsWhole m.schema) (map row_at darts)
    whole_each [] each = tt
    whole_each (d ∷ darts) each = (
      (
        alphas_long 0 (dimension m + 1) d,
        values_of_kinds 0 m.schema.embeds d (λ e embed at. let zero_is : e ≡ 0 + e = omega arith in subst (λ j. IsValueOf embed.kind (m.value j d)) zero_is (sound.is_map.values e d embed at (each d (inl refl)))),
      ),
      whole_each darts (λ c i. each c (inr i)),
    )

    is_listed : IsListedMap m.schema (map_of listing)
    is_listed = record {
      listed = listing;
      is = refl;
      schema_is = refl;
      ascending = subst IsStrictlyIncreasing (sym (names_same ds)) are.ascending;
      whole = whole_each ds in_live;
    }

pub settle : (schema : Schema) (m : Map) → IsSoundOf schema m → (other : Map) × AreAlike m other × IsListedMap schema other
settle schema m sound = go (leads_exist m sound.sound no_labels (λ i h. never i h))
  where
    go : (ds : List ℕ) × AreLeads m no_labels ds → (other : Map) × AreAlike m other × IsListedMap schema other
    go (ds, are) = (map_of (listing m sound.sound ds are), alike_there m sound.sound ds are, subst (λ s. IsListedMap s (map_of (listing m sound.sound ds are))) sound.schema_is (is_listed m sound.sound ds are))
