-- A text stands for a map in one version, or has a first fault.
use Rattle.std.proofs.Common.{◌≡◌, ℕ, ◌<◌, ◌≤◌, ◌⊎◌, Bool, true, false, cond, pos, List, [], ◌∷◌, length, slice_get, slice_index_or, Option, Some, None, is_some, inl, inr, refl, sym, ap, subst, ◌∙◌}
use Rattle.std.specs.List.Sorted.{IsStrictlyIncreasing}
use Rattle.std.specs.Option.{option_map}
use Rattle.std.proofs.lemmas.Bool.{false≢true}
use Rattle.std.proofs.lemmas.List.{length-map}
use Rattle.std.proofs.lemmas.List.Sorted.{IsPermutation-sym}
use Rattle.std.proofs.lemmas.Option.{slice_get-map, slice_get-get_or, slice_get_within, same_Some}
use Rattle.gm_model.specs.declared.schema.Embed.{Embed}
use Rattle.gm_model.specs.declared.schema.Schema.{Schema}
use Rattle.gm_model.specs.declared.value.Value.{Value}
use Rattle.gm_model.specs.declared.value.Value.TheVariants.{Int}
use Rattle.gm_model.specs.GMap.{IsLive, alpha, IsGMap}
use Rattle.gm_model.specs.Maps.{IsEmbedAt, type_of}
use Rattle.gm_model.specs.Orbits.{follow, IsPathIn}
use Rattle.gm_model.specs.Reading.{Part, IsReadAs, IsWithin, symbols_in}
use Rattle.gm_model.specs.Symbols.{Symbol, marks_of}
use Rattle.gm_model.specs.Values.{kind_of, IsValueOf}
use Rattle.gm_text.specs.inner.Nested.{Outside, Inside}
use Rattle.gm_text.specs.inner.Nested as nested
use Rattle.gm_text.specs.inner.SchemaAnswers.{IsNoToken, AtStray, AtEnd}
use Rattle.gm_text.specs.inner.SchemaReading as schema
use Rattle.gm_text.specs.SchemaText.{LimitOf, Again, schema_of}
use Rattle.gm_text.proofs.AtLeast.{IsAnswered, Read, Ended, Passed, answered}
use Rattle.gm_text.proofs.SchemaAtLeast.{stands_still}
use Rattle.gm_text.proofs.TextMarks.{text_end}
use Rattle.gm_arena.specs.inner.Lawful.{AreGoodValues}
use Rattle.gm_mapfile.specs.MapFaults.{TextFault, AreBelowStated, IsFirstFault, AtEnds, AtPasses, AtAgain}
use Rattle.gm_mapfile.specs.MapFaults as first
use Rattle.gm_mapfile.specs.MapReading.{TheNumber, Component, TheSign, State, AtFormat, AtVersion, AtNext, AtNextName, AtDarts, AtCount, AtNumbers, Done, Whole, behind_state, outer_move, nesting, never, start}
use Rattle.gm_mapfile.specs.MapText.{Version, First, Second, MapForm, DartRow, ListedMap, Role, passed_of, embeds_of, IsSentence, IsWritten, IsListed, IsNext, MapText, names, rows_of, dart_of, value_in, version_of}
use Rattle.gm_mapfile.specs.inner.Printing.{behind_last}
use Rattle.gm_mapfile.specs.declared.version.MapVersion.{MapVersion}
use Rattle.gm_mapfile.proofs.Again.{least_above}
use Rattle.gm_mapfile.proofs.Darts.{live_dart, shape_found}
use Rattle.gm_mapfile.proofs.FormWithin.{form_good}
use Rattle.gm_mapfile.proofs.GoodListing.{IsGoodListing}
use Rattle.gm_mapfile.proofs.LawsFound.{AreLawful, fault_or_lawful}
use Rattle.gm_mapfile.proofs.Listed.{listed_good}
use Rattle.gm_mapfile.proofs.MapGrammar.{map_grammar}
use Rattle.gm_mapfile.proofs.MapRows.{declared_numbers}
use Rattle.gm_mapfile.proofs.Moved.{same_moved, of_look_ups}
use Rattle.gm_mapfile.proofs.NamesOf.{live_named}
use Rattle.gm_mapfile.proofs.RowsFound.{rows_made}
use Rattle.gm_mapfile.proofs.Sorting.{sort, sorted_same, sorted_ascends}

-- ---- what is read

-- what is no token ends a map
outer_end : (state : State) (next : Whole) (symbol : Symbol) → IsNoToken symbol → outer_move state symbol ≡ Some next → next ≡ Outside Done
outer_end AtFormat next symbol AtStray e = absurd cc
outer_end AtFormat next symbol AtEnd e = absurd cc
outer_end AtVersion next symbol AtStray e = absurd cc
outer_end AtVersion next symbol AtEnd e = absurd cc
outer_end (AtNext s) next symbol AtStray e = absurd cc
outer_end (AtNext s) next symbol AtEnd e = absurd cc
outer_end (AtNextName s) next symbol AtStray e = absurd cc
outer_end (AtNextName s) next symbol AtEnd e = absurd cc
outer_end (AtDarts head) next symbol AtStray e = absurd cc
outer_end (AtDarts head) next symbol AtEnd e = absurd cc
outer_end (AtCount head) next symbol AtStray e = absurd cc
outer_end (AtCount head) next symbol AtEnd e = absurd cc
outer_end (AtNumbers head taken []) next symbol AtEnd e = sym (cc e)
outer_end (AtNumbers head taken []) next symbol AtStray e = absurd cc
outer_end (AtNumbers head taken (TheNumber role ∷ wants)) next symbol AtStray e = absurd cc
outer_end (AtNumbers head taken (TheNumber role ∷ wants)) next symbol AtEnd e = absurd cc
outer_end (AtNumbers head taken (Component colour ∷ wants)) next symbol AtStray e = absurd cc
outer_end (AtNumbers head taken (Component colour ∷ wants)) next symbol AtEnd e = absurd cc
outer_end (AtNumbers head taken (TheSign found ∷ wants)) next symbol AtStray e = absurd cc
outer_end (AtNumbers head taken (TheSign found ∷ wants)) next symbol AtEnd e = absurd cc
outer_end Done next symbol AtStray e = absurd cc
outer_end Done next symbol AtEnd e = absurd cc

behind_end : (state next : Whole) (symbol : Symbol) → IsNoToken symbol → nested.move nesting state symbol ≡ Some next → next ≡ Outside Done
behind_end (Outside state) next symbol none e = outer_end state next symbol none e
behind_end (Inside within) next symbol none e = go (schema.is_whole within.state) (rw (stands_still within.state symbol none) at e)
  where
    go : (whole : Bool) → cond whole (outer_move (behind_state within.second within.state) symbol) None ≡ Some next → next ≡ Outside Done
    go true f = outer_end (behind_state within.second within.state) next symbol none f
    go false f = absurd cc

written : (text : List ℕ) (parts : List (Part Role)) → IsReadAs IsSentence passed_of (marks_of text) parts → (form : MapForm) × IsWritten text form
written text parts is =
    let (form, good, same) = is.sentence in
    (form, record { good = good; read = record { spelled = is.spelled ∙ ap symbols_in same; sentence = (form, good, refl); within = subst (IsWithin IsSentence passed_of) same is.within } })

listed : (text : List ℕ) (form : MapForm) → IsWritten text form → (darts : List DartRow) × IsListed text form.version (schema_of form.schema) darts
listed text form is =
    let (darts, rows) = rows_made form.schema.dim (embeds_of form) form.darts (declared_numbers form.schema.embeds is.good.0) is.good.1 (form_good form is.read.within).darts in
    (darts, record { form = form; written = is; version_is = refl; schema_is = refl; rows = rows })

-- ---- the map

module _ (text : List ℕ) (version : Version) (schema : Schema) (darts : List DartRow) (is : IsListed text version schema darts) (lawful : AreLawful text version schema darts is) where
  good : IsGoodListing version schema darts
  good = listed_good text version schema darts is

  distinct : first.AreNamedOnce (rows_of darts)
  distinct = lawful.joined.numbered.named.distinct

  generalised : IsGMap schema.dim (IsLive (rows_of darts)) (alpha (rows_of darts))
  generalised = record { stays = lawful.joined.targets; back = lawful.back; commutes = lawful.commute }

  -- a value among good ones
  value_good : (values : List Value) → AreGoodValues schema values → (e : ℕ) (embed : Embed) → IsEmbedAt schema e embed → IsValueOf embed.kind (slice_index_or values e (Int (pos 0)))
  value_good values are e embed at = record { kind_is = same_Some _ _ kinds; range = are.ranges e (Int (pos 0)) within }
    where
      long : length values ≡ length schema.embeds
      long = sym (length-map values _) ∙ (ap length are.kinds ∙ length-map schema.embeds _)

      within : e < length values
      within = subst (λ n. e < n) (sym long) (slice_get_within schema.embeds e embed at)

      kinds : Some (kind_of (slice_index_or values e (Int (pos 0)))) ≡ Some embed.kind
      kinds =
          sym (slice_get-map kind_of values e ∙ ap (option_map kind_of) (slice_get-get_or values e (Int (pos 0)) within))
          ∙ (ap (λ kinds. slice_get kinds e) are.kinds ∙ (slice_get-map (λ (embed : Embed). embed.kind) schema.embeds e ∙ ap (option_map (λ (embed : Embed). embed.kind)) at))

  values_good : (e d : ℕ) (embed : Embed) → IsEmbedAt schema e embed → IsLive (rows_of darts) d → IsValueOf embed.kind (value_in darts e d)
  values_good e d embed at live = go (dart_of darts d) refl
    where
      go : (found : Option DartRow) → dart_of darts d ≡ found → IsValueOf embed.kind (value_in darts e d)
      go None there = absurd (false≢true (sym (ap is_some there) ∙ (sym (live_dart darts d) ∙ live)))
      go (Some dart) there = rw there (value_good dart.values (shape_found (λ (r : DartRow). AreGoodValues schema r.values) darts d dart good.values there) e embed at)

  -- along a path of an orbit the value stays
  along : (e : ℕ) (embed : Embed) → IsEmbedAt schema e embed → (path : List ℕ) → IsPathIn (type_of embed) path → (d : ℕ) → IsLive (rows_of darts) d → value_in darts e d ≡ value_in darts e (follow (alpha (rows_of darts)) path d)
  along e embed at [] inside d live = refl
  along e embed at (i ∷ path) inside d live =
      let label : i ≤ schema.dim = good.declared.labels e i embed at inside.0 in
      sym (lawful.shared e embed d i at live label inside.0) ∙ along e embed at path inside.1 (alpha (rows_of darts) i d) (generalised.stays d i live label)

  -- whatever the darts are listed as
  record KeepsLaws (Live : ℕ → Type 0) (neighbour : ℕ → ℕ → ℕ) (value : ℕ → ℕ → Value) : Type 0 where
    is_gmap : IsGMap schema.dim Live neighbour
    values : (e d : ℕ) (embed : Embed) → IsEmbedAt schema e embed → Live d → IsValueOf embed.kind (value e d)
    embedded : (e : ℕ) (embed : Embed) → IsEmbedAt schema e embed → (d d' : ℕ) → Live d → (path : List ℕ) → IsPathIn (type_of embed) path → follow neighbour path d ≡ d' → value e d ≡ value e d'
    below : (next : ℕ) → version ≡ Second next → (d : ℕ) → Live d → d < next

  keeps : KeepsLaws (IsLive (rows_of darts)) (alpha (rows_of darts)) (value_in darts)
  keeps = record {
    is_gmap = generalised;
    values = values_good;
    embedded = λ e embed at d d' live path inside ends. along e embed at path inside d live ∙ ap (value_in darts e) ends;
    below = λ next stated d live. below_stated next (subst (λ (v : Version). AreBelowStated v (rows_of darts)) stated lawful.joined.numbered.below) d live;
  }
    where
      below_stated : (next : ℕ) → first.AreBelow (rows_of darts) next → (d : ℕ) → IsLive (rows_of darts) d → d < next
      below_stated next below = below

  kept : KeepsLaws (IsLive (rows_of (sort darts))) (alpha (rows_of (sort darts))) (value_in (sort darts))
  kept = of_look_ups (sort darts) darts (same_moved (sort darts) darts (IsPermutation-sym darts (sort darts) (sorted_same darts)) distinct) KeepsLaws keeps

  ascends : IsStrictlyIncreasing (names (sort darts))
  ascends = sorted_ascends darts distinct

  next_name : (v : Version) → version ≡ v → (next : ℕ) × IsNext v (names (sort darts)) next × ((d : ℕ) → IsLive (rows_of (sort darts)) d → d < next)
  next_name First stated = let least = least_above (names (sort darts)) ascends in (behind_last (names (sort darts)), least, live_named (λ name. name < behind_last (names (sort darts))) (sort darts) least.above)
  next_name (Second next) stated = (next, refl, kept.below next stated)

  pub map_stands : (map : ListedMap) × MapText text (version_of version) map
  map_stands =
      let (next, is_next, below) = next_name version refl in
      let listed_map : ListedMap = record { schema = schema; darts = sort darts; next = next } in (
        listed_map,
        record {
          written = version;
          darts = darts;
          listed = is;
          version_is = refl;
          same = sorted_same darts;
          ascending = ascends;
          next_is = is_next;
          sound = record {
            is_map = record { below = below; values = kept.values };
            generalised = kept.is_gmap;
            embedded = λ e embed at d d' live orbit. kept.embedded e embed at d d' live orbit.0 orbit.1 orbit.2;
          };
        },
      )

-- ---- the whole

module _ (text : List ℕ) where
  abbrev Stands : Type 0
  Stands = (version : MapVersion) × (map : ListedMap) × MapText text version map

  abbrev IsAtFault : Type 0
  IsAtFault = (fault : TextFault) × IsFirstFault text fault

  of_listed : (version : Version) (schema : Schema) (darts : List DartRow) → IsListed text version schema darts → Stands ⊎ IsAtFault
  of_listed version schema darts is = elim (fault_or_lawful text version schema darts is) [
    | inl fault ↦ inr fault
    | inr lawful ↦ (let stands = map_stands text version schema darts is lawful in inl (version_of version, stands.0, stands.1))
  ]

  pub stands_or_fault : Stands ⊎ IsAtFault
  stands_or_fault = go (answered passed_of never (nested.role_at nesting) (nested.move nesting) IsSentence start (Outside Done) map_grammar behind_end (marks_of text) (text_end text))
    where
      go : IsAnswered passed_of never (nested.role_at nesting) (nested.move nesting) IsSentence start (Outside Done) map_grammar (marks_of text) → Stands ⊎ IsAtFault
      go (Read read is) =
          let (form, is_written) = written text read.parts is in
          let (darts, is_listed) = listed text form is_written in
          of_listed form.version (schema_of form.schema) darts is_listed
      go (Ended place ends) = inr (first.Ends place, AtEnds place ends)
      go (Passed (LimitOf what) place passes) = inr (first.Passes what place, AtPasses what place passes)
      go (Passed Again place passes) = inr (first.Again place, AtAgain place passes)
