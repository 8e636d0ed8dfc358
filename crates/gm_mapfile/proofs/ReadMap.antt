-- What was read and built, said of the text.
use Rattle.std.proofs.Common.{◌≡◌, ℕ, ◌+◌, ◌*◌, ◌/◌, ◌<◌, ◌≤◌, List, [], ◌∷◌, ◌++◌, length, slice_get, All, Option, Some, None, is_some, option_map, refl, sym, ap, ap₂, subst, ◌∙◌, arith}
use Rattle.std.specs.List.{AllByRecursion}
use Rattle.std.proofs.lemmas.Nat.{mul-le}
use Rattle.std.proofs.lemmas.List.Elements.{All-from_recursion}
use Rattle.std.proofs.lemmas.List.Sorted.{length_permutation}
use Rattle.gm_model.specs.declared.schema.Embed.{Embed}
use Rattle.gm_model.specs.declared.schema.Schema.{Schema}
use Rattle.gm_model.specs.declared.value.Value.{Value}
use Rattle.gm_model.specs.Breaches.{IsFirstOneWay, IsFirstCrossing, IsFirstUnshared}
use Rattle.gm_model.specs.GMap.{row_of}
use Rattle.gm_model.specs.Limits.{most_names}
use Rattle.gm_model.specs.Maps.{IsGeneralised, IsWellEmbedded, IsSound}
use Rattle.gm_text.specs.declared.schema_fault.SchemaFault.{SchemaFault}
use Rattle.gm_text.specs.declared.schema_fault.SchemaFault.TheVariants as texts
use Rattle.gm_arena.specs.inner.ArenaAsMap.{as_map, value}
use Rattle.gm_arena.specs.inner.ArenaMap.{ArenaMap, IsLiveName, alpha}
use Rattle.gm_arena.specs.inner.Lawful.{IsLawful}
use Rattle.gm_arena.proofs.ArenaIsMap.{is_map}
use Rattle.gm_laws.specs.inner.Faults.{IsFault}
use Rattle.gm_laws.specs.declared.breach.LawFault.{LawFault}
use Rattle.gm_laws.specs.declared.breach.LawFault.TheVariants as laws
use Rattle.gm_laws.specs.declared.breach.MapBreach.TheVariants as breaches
use Rattle.gm_mapfile.specs.declared.fault.MapFault.{MapFault}
use Rattle.gm_mapfile.specs.declared.fault.MapFault.TheVariants as faults
use Rattle.gm_mapfile.specs.declared.version.MapVersion.{MapVersion}
use Rattle.gm_mapfile.specs.MapText.{Version, First, Second, DartRow, ListedMap, IsListed, IsNext, MapText, names, rows_of, dart_of, version_of}
use Rattle.gm_mapfile.specs.MapFaults as first
use Rattle.gm_mapfile.specs.inner.Answered.{map_fault_of_text, map_fault_of_laws, name_told}
use Rattle.gm_mapfile.specs.inner.Draft.{numbers_of, IsDraft, IsFaultIn}
use Rattle.gm_mapfile.specs.inner.Rows.{darts_in, darts_of, listed_of}
use Rattle.gm_mapfile.specs.inner.Faults.{IsFaultOf, IsNamedBreachOf, IsNamedFaultOf, IsNameFault}
use Rattle.gm_mapfile.specs.inner.Building.{AreInRoom, IsHeld}
use Rattle.gm_mapfile.proofs.Chunks.{AreLong, long_of_whole, lines_of_rows, darts_of_lines, values_of_lines}
use Rattle.gm_mapfile.proofs.GoodListing.{IsSmall, IsGoodListing}
use Rattle.gm_mapfile.proofs.HeldRows.{held_ascending, held_found, held_permuted, live_each, alpha_each, of_rows, map_of_listed}
use Rattle.gm_mapfile.proofs.Listed.{listed_good}
use Rattle.gm_mapfile.proofs.NamesOf.{next_moved}
use Rattle.gm_mapfile.proofs.OneListing.{one_listing}

-- a fault that is told with a name is one
pub without_name : (text : List ℕ) (fault : MapFault) (told : Option (List ℕ)) → IsNamedFaultOf text fault told → IsFaultOf text fault
without_name text (faults.Breach (breaches.Involution dart label)) told h = h
without_name text (faults.Breach (breaches.Cycle dart i j)) told h = h
without_name text (faults.Breach (breaches.Embedding embed dart other)) (Some name) h = (name, h)
without_name text (faults.Breach (breaches.Embedding embed dart other)) None h = absurd h
without_name text (faults.Text place) told h = h
without_name text (faults.Limit what place) told h = h
without_name text (faults.Twice place) told h = h
without_name text (faults.DartTwice dart) told h = h
without_name text (faults.Next dart) told h = h
without_name text (faults.NoTarget dart label) told h = h
without_name text faults.OutOfMemory told h = tt

-- a fault of the grammar has no name
pub text_fault_named : (text : List ℕ) (fault : SchemaFault) → IsFaultIn text fault → IsNamedFaultOf text (map_fault_of_text fault) None
text_fault_named text (texts.Text place) h = first.AtEnds place h
text_fault_named text (texts.Limit what place) h = first.AtPasses what place h
text_fault_named text (texts.Twice place) h = first.AtAgain place h
text_fault_named text texts.OutOfMemory h = tt

all_both : (P : ℕ → Type 0) (xs ys : List ℕ) → AllByRecursion P xs → AllByRecursion P ys → AllByRecursion P (xs ++ ys)
all_both P [] ys one other = other
all_both P (x ∷ xs) ys one other = (one.0, all_both P xs ys one.1 other)

small_numbers : (darts : List DartRow) → AllByRecursion IsSmall darts → AllByRecursion (λ x. x < most_names) (numbers_of darts)
small_numbers [] small = tt
small_numbers (dart ∷ darts) small = (small.0.0, all_both (λ x. x < most_names) dart.alphas (numbers_of darts) small.0.1 (small_numbers darts small.1))

both_within : (square size before middle after : ℕ) → middle ≤ before + 12 * square * size → after ≤ middle + 20 * square * size → after ≤ before + 32 * square * size
both_within square size before middle after one other = omega (arith, one, other)

module _ (text : List ℕ) (version : Version) (schema : Schema) (numbers : List ℕ) (values : List Value) (draft : IsDraft text version schema numbers values) where
  abbrev darts : List DartRow
  darts = draft.0

  abbrev cut : List DartRow
  cut = darts_in schema numbers values

  good : IsGoodListing version schema darts
  good = listed_good text version schema darts draft.1

  long : AreLong schema.dim darts
  long = long_of_whole schema darts good.whole

  darts_are : cut ≡ darts
  darts_are = ap₂ (darts_in schema) draft.2 draft.3 ∙ darts_of_lines schema darts good.whole

  listed : IsListed text version schema cut
  listed = subst (IsListed text version schema) (sym darts_are) draft.1

  lines_are : length numbers / (schema.dim + 2) ≡ length darts
  lines_are = ap (λ xs. length xs / (schema.dim + 2)) draft.2 ∙ lines_of_rows schema.dim darts long

  pub in_room : AreInRoom schema numbers values
  in_room = record {
    few = omega (arith, lines_are, good.few);
    small = subst (All (λ x. x < most_names)) (sym draft.2) (All-from_recursion (λ x. x < most_names) (numbers_of darts) (small_numbers darts good.small));
    long = ap length draft.3 ∙ (values_of_lines schema darts good.whole ∙ ap (λ xs. length xs / (schema.dim + 2) * length schema.embeds) (sym draft.2));
    good = subst (AllByRecursion _) (sym darts_are) good.values;
  }

  -- ---- faults of the names

  pub name_fault_of : (fault : MapFault) → IsNameFault version schema.dim cut fault → IsNamedFaultOf text fault None
  name_fault_of (faults.Text place) h = absurd h
  name_fault_of (faults.Limit what place) h = absurd h
  name_fault_of (faults.Twice place) h = absurd h
  name_fault_of (faults.DartTwice dart) h = first.AtTwice version schema cut dart listed h
  name_fault_of (faults.Next dart) h = next_fault version refl h
    where
      next_fault : (v : Version) → version ≡ v → IsNameFault v schema.dim cut (faults.Next dart) → IsFaultOf text (faults.Next dart)
      next_fault First same h = absurd h
      next_fault (Second next) same h = first.AtNotBelow next schema cut dart (record { listed = subst (λ v. IsListed text v schema cut) same listed; distinct = h.0 }) h.1
  name_fault_of (faults.NoTarget dart label) h = first.AtNoTarget version schema cut dart label (record { named = record { listed = listed; distinct = h.0 }; below = h.1 }) h.2
  name_fault_of (faults.Breach breach) h = absurd h
  name_fault_of faults.OutOfMemory h = tt

  module _ (m : ArenaMap) (held : IsHeld version schema cut m) where
    long_cut : AreLong schema.dim cut
    long_cut = subst (AreLong schema.dim) (sym darts_are) long

    found_in : (d : ℕ) → dart_of cut d ≡ dart_of (darts_of m) d
    found_in = held_found version schema cut m held long_cut

    -- ---- the map

    pub sound_of : IsLawful m → IsGeneralised (as_map m) → IsWellEmbedded (as_map m) → IsSound (as_map m)
    sound_of lawful generalised embedded = record { is_map = is_map m lawful; generalised = generalised; embedded = embedded }

    same_names : (d : ℕ) → is_some (row_of (rows_of cut) d) ≡ is_some (row_of (rows_of (darts_of m)) d)
    same_names d = live_each m cut found_in d ∙ sym (live_each m (darts_of m) (λ e. refl) d)

    pub text_of_held : (told : MapVersion) → told ≡ version_of version → IsSound (as_map m) → MapText text told (listed_of m)
    text_of_held told told_is sound = record {
      written = version;
      darts = cut;
      listed = subst (λ s. IsListed text version s cut) (sym held.schema_is) listed;
      version_is = told_is;
      same = held_permuted version schema cut m held long_cut;
      ascending = held_ascending m;
      next_is = next_moved version cut (darts_of m) m.next same_names held.next;
      sound = subst IsSound (map_of_listed m) sound;
    }

    -- ---- faults of the laws

    dim_is : m.schema.dim ≡ schema.dim
    dim_is = ap (λ (s : Schema). s.dim) held.schema_is

    below : (v : Version) → version ≡ v → IsLawful m → first.AreBelowStated v (rows_of cut)
    below First same lawful = tt
    below (Second next) same lawful = λ d live.
        let stated : m.next ≡ next = subst (λ v. IsNext v (names cut) m.next) same held.next in
        omega (arith, (is_map m lawful).below d (held.live d ∙ live), stated)

    joined : IsLawful m → first.AreJoined text version schema cut
    joined lawful = record { numbered = record { named = record { listed = listed; distinct = held.distinct }; below = below version refl lawful }; targets = held.targets }

    one_way_of : IsLawful m → (d i : ℕ) → IsFirstOneWay m.schema.dim (IsLiveName m) (alpha m) d i → first.IsFirstFault text (first.OneWay d i)
    one_way_of lawful d i h =
        let at : IsFirstOneWay schema.dim (IsLiveName m) (alpha m) d i = subst (λ n. IsFirstOneWay n (IsLiveName m) (alpha m) d i) dim_is h in
        first.AtOneWay version schema cut d i (joined lawful) (of_rows m cut found_in (λ l a v. IsFirstOneWay schema.dim l a d i) at)

    crossing_of : IsLawful m → (d i j : ℕ) → IsFirstCrossing m.schema.dim (IsLiveName m) (alpha m) d i j → first.IsFirstFault text (first.Crossing d i j)
    crossing_of lawful d i j h =
        let at : IsFirstCrossing schema.dim (IsLiveName m) (alpha m) d i j = subst (λ n. IsFirstCrossing n (IsLiveName m) (alpha m) d i j) dim_is h in
        first.AtCrossing version schema cut d i j (joined lawful) (of_rows m cut found_in (λ l a v. IsFirstCrossing schema.dim l a d i j) at)

    unshared_of : IsLawful m → (e d other l : ℕ) → IsFirstUnshared m.schema.dim (IsLiveName m) (alpha m) m.schema (value m) e d l → other ≡ alpha m l d → IsNamedBreachOf text (breaches.Embedding e d other) (name_told m.schema.embeds (laws.Breach (breaches.Embedding e d other)))
    unshared_of lawful e d other l h is =
        let at : IsFirstUnshared schema.dim (IsLiveName m) (alpha m) schema (value m) e d l = subst (λ (s : Schema). IsFirstUnshared s.dim (IsLiveName m) (alpha m) s (value m) e d l) held.schema_is h in
        let there : slice_get m.schema.embeds e ≡ Some at.embed = subst (λ (s : Schema). slice_get s.embeds e ≡ Some at.embed) (sym held.schema_is) at.embed_at in
        subst (λ o. IsNamedBreachOf text (breaches.Embedding e d other) (option_map (λ (embed : Embed). embed.name) o)) (sym there)
        (first.AtUnshared version schema cut e at.embed.name d other (joined lawful) (record {
          embed = at.embed;
          embed_at = at.embed_at;
          name_is = refl;
          label = l;
          other_is = is ∙ sym (alpha_each m cut found_in l d);
          first = of_rows m cut found_in (λ live a v. IsFirstUnshared schema.dim live a schema v e d l) at;
        }))

    pub law_fault_of : IsLawful m → (fault : LawFault) → IsFault m fault → IsNamedFaultOf text (map_fault_of_laws fault) (name_told m.schema.embeds fault)
    law_fault_of lawful laws.OutOfMemory h = tt
    law_fault_of lawful (laws.Breach (breaches.Involution dart label)) h = one_way_of lawful dart label h
    law_fault_of lawful (laws.Breach (breaches.Cycle dart i j)) h = crossing_of lawful dart i j h
    law_fault_of lawful (laws.Breach (breaches.Embedding embed dart other)) h = unshared_of lawful embed dart other h.0 h.1 h.2

  -- ---- steps

  same_size : (told : MapVersion) (map : ListedMap) → MapText text told map → (schema ≡ map.schema) × (length cut ≡ length map.darts)
  same_size told map stands =
      let one = one_listing text version stands.written schema map.schema cut stands.darts listed stands.listed in
      (one.1, ap length one.2 ∙ sym (length_permutation stands.darts map.darts stands.same))

  square_more : (2 * schema.dim + 5) ≤ 12 * ((schema.dim + 1) * (schema.dim + 1))
  square_more = let square : schema.dim + 1 ≤ (schema.dim + 1) * (schema.dim + 1) = omega (arith, mul-le 1 (schema.dim + 1) (schema.dim + 1) (schema.dim + 1) (omega arith) (omega arith)) in omega (arith, square)

  built_same : (before after size : ℕ) → length cut ≡ size → after ≤ before + (2 * schema.dim + 5) * length cut → after ≤ before + 12 * ((schema.dim + 1) * (schema.dim + 1)) * (size + 1)
  built_same before after size same h =
      let more = mul-le (2 * schema.dim + 5) size (12 * ((schema.dim + 1) * (schema.dim + 1))) (size + 1) square_more (omega arith) in
      omega (arith, h, ap (λ x. (2 * schema.dim + 5) * x) same, more)

  pub built_within : (before after : ℕ) → after ≤ before + (2 * schema.dim + 5) * length cut → (told : MapVersion) (map : ListedMap) → MapText text told map → after ≤ before + 12 * ((map.schema.dim + 1) * (map.schema.dim + 1)) * (length map.darts + 1)
  built_within before after h told map stands =
      let same = same_size told map stands in
      subst (λ (s : Schema). after ≤ before + 12 * ((s.dim + 1) * (s.dim + 1)) * (length map.darts + 1)) same.0 (built_same before after (length map.darts) same.1 h)

  checked_within : (before after : ℕ) (m : ArenaMap) → IsHeld version schema cut m → after ≤ before + 20 * ((m.schema.dim + 1) * (m.schema.dim + 1)) * (m.count + 1) → (told : MapVersion) (map : ListedMap) → MapText text told map
      → after ≤ before + 20 * ((map.schema.dim + 1) * (map.schema.dim + 1)) * (length map.darts + 1)
  checked_within before after m held h told map stands =
      let same = same_size told map stands in
      subst (λ x. after ≤ before + 20 * ((map.schema.dim + 1) * (map.schema.dim + 1)) * (x + 1)) (held.count ∙ same.1)
      (subst (λ (s : Schema). after ≤ before + 20 * ((s.dim + 1) * (s.dim + 1)) * (m.count + 1)) (held.schema_is ∙ same.0) h)

  pub all_within : (m : ArenaMap) → IsHeld version schema cut m → (before middle after : ℕ) → middle ≤ before + (2 * schema.dim + 5) * length cut → after ≤ middle + 20 * ((m.schema.dim + 1) * (m.schema.dim + 1)) * (m.count + 1)
      → (told : MapVersion) (map : ListedMap) → MapText text told map → after ≤ before + 32 * ((map.schema.dim + 1) * (map.schema.dim + 1)) * (length map.darts + 1)
  all_within m held before middle after one other told map stands =
      both_within ((map.schema.dim + 1) * (map.schema.dim + 1)) (length map.darts + 1) before middle after (built_within before middle one told map stands) (checked_within middle after m held other told map stands)
