-- A text has one first fault at most, of whatever kind, and a text that has one stands for no map.
use Rattle.std.proofs.Common.{◌≡◌, ℕ, zero, suc, ◌<◌, ◌⊎◌, List, [], ◌∷◌, Option, Some, None, Result, Ok, Err, inl, inr, refl, sym, ap, ap₂, subst, ◌∙◌, arith}
use Rattle.std.proofs.lemmas.Bool.{cases_order}
use Rattle.gm_model.specs.declared.limit.LimitKind.{LimitKind}
use Rattle.gm_model.specs.declared.schema.Embed.{Embed}
use Rattle.gm_model.specs.declared.schema.Schema.{Schema}
use Rattle.gm_model.specs.declared.value.Value.{Value}
use Rattle.gm_model.specs.Breaches.{IsTripleBefore, IsFirstWithoutTarget, IsFirstOneWay, IsFirstCrossing, IsFirstUnshared, PointBack, Commute, AreShared}
use Rattle.gm_model.specs.GMap.{Row, IsLive, alpha, IsGMap}
use Rattle.gm_model.specs.Maps.{IsEmbedAt}
use Rattle.gm_model.specs.Orbits.{IsPairBefore}
use Rattle.gm_model.specs.Symbols.{marks_of}
use Rattle.gm_text.specs.inner.Machine.{Stop, Ends, Passes}
use Rattle.gm_text.specs.inner.Nested.{Outside}
use Rattle.gm_text.specs.inner.Nested as nested
use Rattle.gm_text.specs.SchemaText.{Passed, LimitOf}
use Rattle.gm_text.specs.SchemaText as schemas
use Rattle.gm_text.proofs.Machine.{reading_runs, ends_run, passes_run}
use Rattle.gm_mapfile.specs.MapText.{Version, First, Second, DartRow, ListedMap, names, rows_of, value_in, IsNext, IsSentence, passed_of, spelling, IsListed, IsTextFault, IsLimitFault, IsAgainFault, StandsForNoMap, MapText}
use Rattle.gm_mapfile.specs.MapFaults.{TextFault, Again, DartTwice, NotBelow, NoTarget, OneWay, Crossing, Unshared, IsLeastTwice, AreNamedOnce, AreBelow, IsLeastNotBelow, AreBelowStated, HaveTargets, IsFirstChange, IsFirstFault, AtEnds, AtPasses, AtAgain, AtTwice, AtNotBelow, AtNoTarget, AtOneWay, AtCrossing, AtUnshared}
use Rattle.gm_mapfile.specs.MapFaults as first
use Rattle.gm_mapfile.specs.MapReading.{Whole, Done, nesting, never, start, run_from}
use Rattle.gm_mapfile.specs.declared.version.MapVersion.{MapVersion}
use Rattle.gm_mapfile.proofs.MapGrammar.{map_grammar}
use Rattle.gm_mapfile.proofs.Moved.{distinct_moved, same_moved, of_look_ups}
use Rattle.gm_mapfile.proofs.OneListing.{one_listing}
use Rattle.gm_mapfile.proofs.Permuted.{distinct_ascending}

-- ---- what reading by states tells

-- the fault that a reading names
abbrev fault_of_run : Result Whole (Stop Whole Passed) → Option TextFault
fault_of_run (Ok state) = None
fault_of_run (Err (Ends state mark)) = Some (first.Ends mark.place)
fault_of_run (Err (Passes (LimitOf what) place)) = Some (first.Passes what place)
fault_of_run (Err (Passes schemas.Again place)) = Some (Again place)

abbrev read : List ℕ → Option TextFault
read text = fault_of_run (run_from start (marks_of text))

listed_read : (text : List ℕ) (version : Version) (schema : Schema) (darts : List DartRow) → IsListed text version schema darts → read text ≡ None
listed_read text version schema darts listed =
    ap fault_of_run (reading_runs passed_of never (nested.role_at nesting) (nested.move nesting) IsSentence start (Outside Done) map_grammar (marks_of text) (spelling listed.form) listed.written.read)

ends_read : (text : List ℕ) (place : ℕ) → IsTextFault text place → read text ≡ Some (first.Ends place)
ends_read text place fault =
    let (stop, mark, at, is) = ends_run passed_of never (nested.role_at nesting) (nested.move nesting) IsSentence start (Outside Done) map_grammar (marks_of text) place fault in
    ap fault_of_run is ∙ ap (λ (p : ℕ). Some (first.Ends p)) at

passes_read : (text : List ℕ) (what : LimitKind) (place : ℕ) → IsLimitFault text what place → read text ≡ Some (first.Passes what place)
passes_read text what place fault =
    ap fault_of_run (passes_run passed_of never (nested.role_at nesting) (nested.move nesting) IsSentence start (Outside Done) map_grammar (marks_of text) (LimitOf what) place fault)

again_read : (text : List ℕ) (place : ℕ) → IsAgainFault text place → read text ≡ Some (Again place)
again_read text place fault =
    ap fault_of_run (passes_run passed_of never (nested.role_at nesting) (nested.move nesting) IsSentence start (Outside Done) map_grammar (marks_of text) schemas.Again place fault)

-- ---- two kinds

-- a fault of the darts that the text lists
data IsOfDarts (version : Version) (schema : Schema) (darts : List DartRow) : TextFault → Type 0 where
  OfTwice : (d : ℕ) → IsLeastTwice (rows_of darts) d → IsOfDarts version schema darts (DartTwice d)
  OfNext : (next d : ℕ) → version ≡ Second next → AreNamedOnce (rows_of darts) → IsLeastNotBelow (rows_of darts) next d → IsOfDarts version schema darts (NotBelow d)
  OfTarget : (d i : ℕ) → AreNamedOnce (rows_of darts) → AreBelowStated version (rows_of darts) → IsFirstWithoutTarget schema.dim (IsLive (rows_of darts)) (alpha (rows_of darts)) d i → IsOfDarts version schema darts (NoTarget d i)
  OfWay : (d i : ℕ) → AreNamedOnce (rows_of darts) → AreBelowStated version (rows_of darts) → HaveTargets schema.dim (rows_of darts) → IsFirstOneWay schema.dim (IsLive (rows_of darts)) (alpha (rows_of darts)) d i
      → IsOfDarts version schema darts (OneWay d i)
  OfCrossing : (d i j : ℕ) → AreNamedOnce (rows_of darts) → AreBelowStated version (rows_of darts) → HaveTargets schema.dim (rows_of darts) → IsFirstCrossing schema.dim (IsLive (rows_of darts)) (alpha (rows_of darts)) d i j
      → IsOfDarts version schema darts (Crossing d i j)
  OfValue : (e : ℕ) (name : List ℕ) (d other : ℕ) → AreNamedOnce (rows_of darts) → AreBelowStated version (rows_of darts) → HaveTargets schema.dim (rows_of darts) → IsFirstChange schema darts e name d other
      → IsOfDarts version schema darts (Unshared e name d other)

abbrev IsOfListed : List ℕ → TextFault → Type 0
IsOfListed text fault = (version : Version) × (schema : Schema) × (darts : List DartRow) × IsListed text version schema darts × IsOfDarts version schema darts fault

kind_of : (text : List ℕ) (fault : TextFault) → IsFirstFault text fault → (read text ≡ Some fault) ⊎ IsOfListed text fault
kind_of text _ (AtEnds place ends) = inl (ends_read text place ends)
kind_of text _ (AtPasses what place passes) = inl (passes_read text what place passes)
kind_of text _ (AtAgain place again) = inl (again_read text place again)
kind_of text _ (AtTwice version schema darts d listed least) = inr (version, schema, darts, listed, OfTwice d least)
kind_of text _ (AtNotBelow next schema darts d named least) = inr (Second next, schema, darts, named.listed, OfNext next d refl named.distinct least)
kind_of text _ (AtNoTarget version schema darts d i numbered lack) = inr (version, schema, darts, numbered.named.listed, OfTarget d i numbered.named.distinct numbered.below lack)
kind_of text _ (AtOneWay version schema darts d i joined way) = inr (version, schema, darts, joined.numbered.named.listed, OfWay d i joined.numbered.named.distinct joined.numbered.below joined.targets way)
kind_of text _ (AtCrossing version schema darts d i j joined crossing) =
    inr (version, schema, darts, joined.numbered.named.listed, OfCrossing d i j joined.numbered.named.distinct joined.numbered.below joined.targets crossing)
kind_of text _ (AtUnshared version schema darts e name d other joined change) =
    inr (version, schema, darts, joined.numbered.named.listed, OfValue e name d other joined.numbered.named.distinct joined.numbered.below joined.targets change)

-- ---- of two pairs or triples one comes before the other, or they are the same

pair_order : (d i e j : ℕ) → ((d ≡ e) × (i ≡ j)) ⊎ (IsPairBefore d i e j ⊎ IsPairBefore e j d i)
pair_order d i e j =
    elim (cases_order d e) [
      | inl same ↦ elim (cases_order i j) [
        | inl alike ↦ inl (same, alike)
        | inr (inl less) ↦ inr (inl (inr (same, less)))
        | inr (inr more) ↦ inr (inr (inr (sym same, more)))
      ]
      | inr (inl less) ↦ inr (inl (inl less))
      | inr (inr more) ↦ inr (inr (inl more))
    ]

triple_order : (d i j e k l : ℕ) → ((d ≡ e) × (i ≡ k) × (j ≡ l)) ⊎ (IsTripleBefore d i j e k l ⊎ IsTripleBefore e k l d i j)
triple_order d i j e k l =
    elim (cases_order d e) [
      | inl same ↦ elim (pair_order i j k l) [
        | inl alike ↦ inl (same, alike.0, alike.1)
        | inr (inl less) ↦ inr (inl (inr (same, less)))
        | inr (inr more) ↦ inr (inr (inr (sym same, more)))
      ]
      | inr (inl less) ↦ inr (inl (inl less))
      | inr (inr more) ↦ inr (inr (inl more))
    ]

-- ---- of one kind there is one

one_least : (rows : List Row) (d e : ℕ) → IsLeastTwice rows d → IsLeastTwice rows e → d ≡ e
one_least rows d e a b =
    elim (cases_order d e) [
      | inl same ↦ same
      | inr (inl less) ↦ absurd (omega (arith, a.twice, b.least d less))
      | inr (inr more) ↦ absurd (omega (arith, b.twice, a.least e more))
    ]

one_not_below : (rows : List Row) (next d e : ℕ) → IsLeastNotBelow rows next d → IsLeastNotBelow rows next e → d ≡ e
one_not_below rows next d e a b =
    elim (cases_order d e) [
      | inl same ↦ same
      | inr (inl less) ↦ absurd (omega (arith, a.above, b.least d less a.live))
      | inr (inr more) ↦ absurd (omega (arith, b.above, a.least e more b.live))
    ]

module _ (n : ℕ) (Live : ℕ → Type 0) (neighbour : ℕ → ℕ → ℕ) where
  one_without : (d i e j : ℕ) → IsFirstWithoutTarget n Live neighbour d i → IsFirstWithoutTarget n Live neighbour e j → (d ≡ e) × (i ≡ j)
  one_without d i e j a b =
      elim (pair_order d i e j) [
        | inl same ↦ same
        | inr (inl less) ↦ absurd (a.fails (b.before d i less a.live a.label))
        | inr (inr more) ↦ absurd (b.fails (a.before e j more b.live b.label))
      ]

  one_one_way : (d i e j : ℕ) → IsFirstOneWay n Live neighbour d i → IsFirstOneWay n Live neighbour e j → (d ≡ e) × (i ≡ j)
  one_one_way d i e j a b =
      elim (pair_order d i e j) [
        | inl same ↦ same
        | inr (inl less) ↦ absurd (a.fails (b.before d i less a.live a.label))
        | inr (inr more) ↦ absurd (b.fails (a.before e j more b.live b.label))
      ]

  one_crossing : (d i j e k l : ℕ) → IsFirstCrossing n Live neighbour d i j → IsFirstCrossing n Live neighbour e k l → (d ≡ e) × (i ≡ k) × (j ≡ l)
  one_crossing d i j e k l a b =
      elim (triple_order d i j e k l) [
        | inl same ↦ same
        | inr (inl less) ↦ absurd (a.fails (b.before d i j less a.live a.apart a.label))
        | inr (inr more) ↦ absurd (b.fails (a.before e k l more b.live b.apart b.label))
      ]

  module _ (schema : Schema) (value : ℕ → ℕ → Value) where
    one_unshared : (e d l e' d' l' : ℕ) → IsFirstUnshared n Live neighbour schema value e d l → IsFirstUnshared n Live neighbour schema value e' d' l' → (e ≡ e') × (d ≡ d') × (l ≡ l')
    one_unshared e d l e' d' l' a b =
        elim (triple_order e d l e' d' l') [
          | inl same ↦ same
          | inr (inl less) ↦ absurd (a.fails (b.before e d l a.embed less a.embed_at a.live a.label a.of_type))
          | inr (inr more) ↦ absurd (b.fails (a.before e' d' l' b.embed more b.embed_at b.live b.label b.of_type))
        ]

one_change : (schema : Schema) (darts : List DartRow) (e e' : ℕ) (name name' : List ℕ) (d d' other other' : ℕ) → IsFirstChange schema darts e name d other → IsFirstChange schema darts e' name' d' other'
    → (e ≡ e') × (name ≡ name') × (d ≡ d') × (other ≡ other')
one_change schema darts e e' name name' d d' other other' a b =
    let same = one_unshared schema.dim (IsLive (rows_of darts)) (alpha (rows_of darts)) schema (value_in darts) e d a.label e' d' b.label a.first b.first in
    let there : IsEmbedAt schema e' a.embed = subst (λ (k : ℕ). IsEmbedAt schema k a.embed) same.0 a.embed_at in
    let both : Some a.embed ≡ Some b.embed = sym there ∙ b.embed_at in
    let embed : a.embed ≡ b.embed = cc both in (
      same.0,
      a.name_is ∙ ap (λ (x : Embed). x.name) embed ∙ sym b.name_is,
      same.1,
      a.other_is ∙ ap₂ (alpha (rows_of darts)) same.2 same.1 ∙ sym b.other_is,
    )

-- ---- the laws, in the order in which they are looked at

module _ (version : Version) (schema : Schema) (darts : List DartRow) where
  abbrev Law : ℕ → Type 0
  Law zero = AreNamedOnce (rows_of darts)
  Law (suc zero) = AreBelowStated version (rows_of darts)
  Law (suc (suc zero)) = HaveTargets schema.dim (rows_of darts)
  Law (suc (suc (suc zero))) = PointBack schema.dim (IsLive (rows_of darts)) (alpha (rows_of darts))
  Law (suc (suc (suc (suc zero)))) = Commute schema.dim (IsLive (rows_of darts)) (alpha (rows_of darts))
  Law (suc (suc (suc (suc (suc k))))) = AreShared schema.dim (IsLive (rows_of darts)) (alpha (rows_of darts)) schema (value_in darts)

  -- the first so many laws hold
  abbrev Laws : ℕ → Type 0
  Laws zero = Unit {0}
  Laws (suc k) = Laws k × Law k

  law_at : (k j : ℕ) → j < k → Laws k → Law j
  law_at zero j less laws = absurd (omega (arith, less))
  law_at (suc k) j less laws =
      elim (cases_order j k) [
        | inl same ↦ subst Law (sym same) laws.1
        | inr (inl lower) ↦ law_at k j lower laws.0
        | inr (inr higher) ↦ absurd (omega (arith, less, higher))
      ]

  -- which law a fault is of
  abbrev law_of : TextFault → ℕ
  law_of (DartTwice d) = 0
  law_of (NotBelow d) = 1
  law_of (NoTarget d i) = 2
  law_of (OneWay d i) = 3
  law_of (Crossing d i j) = 4
  law_of (Unshared e name d other) = 5
  law_of _ = 6

  -- those before it hold
  held : (fault : TextFault) → IsOfDarts version schema darts fault → Laws (law_of fault)
  held _ (OfTwice d least) = tt
  held _ (OfNext next d stated distinct least) = (tt, distinct)
  held _ (OfTarget d i distinct below lack) = ((tt, distinct), below)
  held _ (OfWay d i distinct below targets way) = (((tt, distinct), below), targets)
  held _ (OfCrossing d i j distinct below targets crossing) = ((((tt, distinct), below), targets), crossing.back)
  held _ (OfValue e name d other distinct below targets change) = (((((tt, distinct), below), targets), change.first.back), change.first.commute)

  -- and it does not
  broken : (fault : TextFault) → IsOfDarts version schema darts fault → Law (law_of fault) → ⊥
  broken _ (OfTwice d least) law = omega (arith, law d, least.twice)
  broken _ (OfNext next d stated distinct least) law =
      let below : AreBelow (rows_of darts) next = subst (λ (v : Version). AreBelowStated v (rows_of darts)) stated law in
      omega (arith, below d least.live, least.above)
  broken _ (OfTarget d i distinct below lack) law = lack.fails (law d i lack.live lack.label)
  broken _ (OfWay d i distinct below targets way) law = way.fails (law d i way.live way.label)
  broken _ (OfCrossing d i j distinct below targets crossing) law = crossing.fails (law d i j crossing.live crossing.apart crossing.label)
  broken _ (OfValue e name d other distinct below targets change) law = let at = change.first in at.fails (law e at.embed d change.label at.embed_at at.live at.label at.of_type)

  same_law : (fault other : TextFault) → IsOfDarts version schema darts fault → IsOfDarts version schema darts other → law_of fault ≡ law_of other → fault ≡ other
  same_law _ _ (OfTwice d least) (OfTwice e least') same = ap DartTwice (one_least (rows_of darts) d e least least')
  same_law _ _ (OfNext next d stated distinct least) (OfNext next' e stated' distinct' least') same =
      let both : Second next ≡ Second next' = sym stated ∙ stated' in
      let one : next ≡ next' = cc both in
      ap NotBelow (one_not_below (rows_of darts) next d e least (subst (λ (k : ℕ). IsLeastNotBelow (rows_of darts) k e) (sym one) least'))
  same_law _ _ (OfTarget d i distinct below lack) (OfTarget e j distinct' below' lack') same =
      let one = one_without schema.dim (IsLive (rows_of darts)) (alpha (rows_of darts)) d i e j lack lack' in
      ap₂ NoTarget one.0 one.1
  same_law _ _ (OfWay d i distinct below targets way) (OfWay e j distinct' below' targets' way') same =
      let one = one_one_way schema.dim (IsLive (rows_of darts)) (alpha (rows_of darts)) d i e j way way' in
      ap₂ OneWay one.0 one.1
  same_law _ _ (OfCrossing d i j distinct below targets crossing) (OfCrossing e k l distinct' below' targets' crossing') same =
      let one = one_crossing schema.dim (IsLive (rows_of darts)) (alpha (rows_of darts)) d i j e k l crossing crossing' in
      λ t. Crossing (one.0 t) (one.1 t) (one.2 t)
  same_law _ _ (OfValue e name d other distinct below targets change) (OfValue e' name' d' other' distinct' below' targets' change') same =
      let one = one_change schema darts e e' name name' d d' other other' change change' in
      λ t. Unshared (one.0 t) (one.1 t) (one.2 t) (one.3 t)
  same_law _ _ one two same = absurd cc

  one_of_darts : (fault other : TextFault) → IsOfDarts version schema darts fault → IsOfDarts version schema darts other → fault ≡ other
  one_of_darts fault other one two =
      elim (cases_order (law_of fault) (law_of other)) [
        | inl same ↦ same_law fault other one two same
        | inr (inl less) ↦ absurd (broken fault one (law_at (law_of other) (law_of fault) less (held other two)))
        | inr (inr more) ↦ absurd (broken other two (law_at (law_of fault) (law_of other) more (held fault one)))
      ]

  -- each is of one of the six laws
  of_law : (fault : TextFault) → IsOfDarts version schema darts fault → law_of fault < 6
  of_law _ (OfTwice d least) = omega arith
  of_law _ (OfNext next d stated distinct least) = omega arith
  of_law _ (OfTarget d i distinct below lack) = omega arith
  of_law _ (OfWay d i distinct below targets way) = omega arith
  of_law _ (OfCrossing d i j distinct below targets crossing) = omega arith
  of_law _ (OfValue e name d other distinct below targets change) = omega arith

  none_of_darts : (fault : TextFault) → IsOfDarts version schema darts fault → Laws 6 → ⊥
  none_of_darts fault one laws = broken fault one (law_at 6 (law_of fault) (of_law fault one) laws)

-- ---- the laws hold of a map

-- whatever its darts are listed as
record KeepsLaws (next : ℕ) (schema : Schema) (Live : ℕ → Type 0) (neighbour : ℕ → ℕ → ℕ) (value : ℕ → ℕ → Value) : Type 0 where
  below : (d : ℕ) → Live d → d < next
  generalised : IsGMap schema.dim Live neighbour
  shared : AreShared schema.dim Live neighbour schema value

map_lawful : (text : List ℕ) (version : MapVersion) (map : ListedMap) → MapText text version map → KeepsLaws map.next map.schema (IsLive (rows_of map.darts)) (alpha (rows_of map.darts)) (value_in map.darts)
map_lawful text version map stands = record {
  below = stands.sound.is_map.below;
  generalised = stands.sound.generalised;
  shared = λ e embed d l at live label of_type. sym (stands.sound.embedded e embed at d (alpha (rows_of map.darts) l d) live (l ∷ [], (of_type, tt), refl));
}

stated_below : (version : Version) (xs : List ℕ) (next : ℕ) (rows : List Row) → IsNext version xs next → AreBelow rows next → AreBelowStated version rows
stated_below First xs next rows is below = tt
stated_below (Second stated) xs next rows is below = subst (AreBelow rows) is below

map_laws : (text : List ℕ) (version : MapVersion) (map : ListedMap) → (stands : MapText text version map) → Laws stands.written map.schema stands.darts 6
map_laws text version map stands =
    let ordered : AreNamedOnce (rows_of map.darts) = distinct_ascending map.darts stands.ascending in
    let lawful = of_look_ups stands.darts map.darts (same_moved stands.darts map.darts stands.same ordered) (KeepsLaws map.next map.schema) (map_lawful text version map stands) in
    let distinct = distinct_moved stands.darts map.darts stands.same ordered in
    let below = stated_below stands.written (names map.darts) map.next (rows_of stands.darts) stands.next_is lawful.below in
    ((((((tt, distinct), below), lawful.generalised.stays), lawful.generalised.back), lawful.generalised.commutes), lawful.shared)

-- ---- the whole

abbrev IsOf : Version → Schema → List DartRow → TextFault → Type 0
IsOf version schema darts fault = IsOfDarts version schema darts fault

-- the darts are the only ones that the text lists
of_one : (text : List ℕ) (version other : Version) (schema second : Schema) (darts others : List DartRow) (fault : TextFault) → IsListed text version schema darts → IsListed text other second others → IsOf version schema darts fault → IsOf other second others fault
of_one text version other schema second darts others fault listed again of =
    let one = one_listing text version other schema second darts others listed again in
    subst (λ (ds : List DartRow). IsOf other second ds fault) one.2 (subst (λ (s : Schema). IsOf other s darts fault) one.1 (subst (λ (v : Version). IsOf v schema darts fault) one.0 of))

one_of_listed : (text : List ℕ) (fault other : TextFault) → IsOfListed text fault → IsOfListed text other → fault ≡ other
one_of_listed text fault other (version, schema, darts, listed, of) (version', schema', darts', again, of') =
    one_of_darts version schema darts fault other of (of_one text version' version schema' schema darts' darts other again listed of')

read_or_listed : (text : List ℕ) (fault : TextFault) (version : Version) (schema : Schema) (darts : List DartRow) → read text ≡ Some fault → IsListed text version schema darts → ⊥
read_or_listed text fault version schema darts is listed = let no_way : None ≡ Some fault = sym (listed_read text version schema darts listed) ∙ is in absurd cc

pub one_fault : (text : List ℕ) (fault other : TextFault) → IsFirstFault text fault → IsFirstFault text other → fault ≡ other
one_fault text fault other one two = go (kind_of text fault one) (kind_of text other two)
  where
    go : (read text ≡ Some fault) ⊎ IsOfListed text fault → (read text ≡ Some other) ⊎ IsOfListed text other → fault ≡ other
    go (inl a) (inl b) = let same : Some fault ≡ Some other = sym a ∙ b in cc same
    go (inl a) (inr b) = absurd (read_or_listed text fault b.0 b.1 b.2 a b.3)
    go (inr a) (inl b) = absurd (read_or_listed text other a.0 a.1 a.2 b a.3)
    go (inr a) (inr b) = one_of_listed text fault other a b

pub no_map_at_fault : (text : List ℕ) (fault : TextFault) → IsFirstFault text fault → StandsForNoMap text
no_map_at_fault text fault one version map stands = go (kind_of text fault one)
  where
    go : (read text ≡ Some fault) ⊎ IsOfListed text fault → ⊥
    go (inl a) = read_or_listed text fault stands.written map.schema stands.darts a stands.listed
    go (inr (v, schema, darts, listed, of)) =
        none_of_darts stands.written map.schema stands.darts fault (of_one text v stands.written schema map.schema darts stands.darts fault listed stands.listed of) (map_laws text version map stands)
