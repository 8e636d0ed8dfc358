-- Listed darts keep each law of a map, or there is a first fault of names or of the laws.
use Rattle.std.proofs.Common.{◌≡◌, ◌≢◌, ℕ, suc, ◌+◌, ◌<◌, ◌≤◌, ◌⊎◌, List, [], ◌∷◌, length, slice_get, Option, Some, None, is_some, inl, inr, refl, sym, ap, subst, ◌∙◌, arith}
use Rattle.std.specs.Prelude.{IsTrue}
use Rattle.std.specs.List.{AllByRecursion}
use Rattle.std.proofs.lemmas.Bool.{cases_lt}
use Rattle.std.proofs.lemmas.List.Elements.{All-from_recursion}
use Rattle.std.proofs.lemmas.Option.{slice_get_within}
use Rattle.gm_model.specs.declared.schema.Embed.{Embed}
use Rattle.gm_model.specs.declared.schema.Schema.{Schema}
use Rattle.gm_model.specs.Breaches.{PointBack, Commute, AreShared}
use Rattle.gm_model.specs.GMap.{Row, row_of, IsLive, alpha}
use Rattle.gm_model.specs.Labels.{has}
use Rattle.gm_model.specs.Maps.{IsEmbedAt}
use Rattle.gm_mapfile.specs.MapText.{Version, First, Second, DartRow, IsListed, names, rows_of, value_in}
use Rattle.gm_mapfile.specs.MapFaults.{TextFault, DartTwice, NotBelow, NoTarget, OneWay, Crossing, Unshared, rows_named, AreNamed, AreNumbered, AreJoined, IsFirstFault, AtTwice, AtNotBelow, AtNoTarget, AtOneWay, AtCrossing, AtUnshared}
use Rattle.gm_mapfile.proofs.Named.{named_none}
use Rattle.gm_mapfile.proofs.NamesOf.{live_named}
use Rattle.gm_mapfile.proofs.Searching.{IsDecided, stable, decide_both, decide_three, decide_four, decide_not, decide_true, decide_le, decide_eq, decide_value, IsFirst, HasFirst, first_number, IsBeforeIn, first_beside}

-- ---- a number above all names

abbrev above_all : List ℕ → ℕ
above_all [] = 0
above_all (n ∷ ns) = suc n + above_all ns

all_lower : (m : ℕ) (ns : List ℕ) → AllByRecursion (λ n. n < m) ns → (k : ℕ) → AllByRecursion (λ n. n < k + m) ns
all_lower m [] all k = tt
all_lower m (n ∷ ns) all k = (omega (arith, all.0), all_lower m ns all.1 k)

all_below : (ns : List ℕ) → AllByRecursion (λ n. n < above_all ns) ns
all_below [] = tt
all_below (n ∷ ns) = (omega arith, all_lower (above_all ns) ns (all_below ns) (suc n))

module _ (text : List ℕ) (version : Version) (schema : Schema) (darts : List DartRow) (listed : IsListed text version schema darts) where
  abbrev Live : ℕ → Type 0
  Live = IsLive (rows_of darts)

  abbrev neighbour : ℕ → ℕ → ℕ
  neighbour = alpha (rows_of darts)

  abbrev HasFault : Type 0
  HasFault = (fault : TextFault) × IsFirstFault text fault

  -- the darts keep each law
  pub record AreLawful : Type 0 where
    pub joined : AreJoined text version schema darts
    pub back : PointBack schema.dim (IsLive (rows_of darts)) (alpha (rows_of darts))
    pub commute : Commute schema.dim (IsLive (rows_of darts)) (alpha (rows_of darts))
    pub shared : AreShared schema.dim (IsLive (rows_of darts)) (alpha (rows_of darts)) schema (value_in darts)

  abbrev most : ℕ
  most = above_all (names darts)

  below : (d : ℕ) → Live d → d < most
  below d live = live_named (λ name. name < above_all (names darts)) darts (All-from_recursion (λ name. name < above_all (names darts)) (names darts) (all_below (names darts))) d live

  decide_live : (d : ℕ) → IsDecided (Live d)
  decide_live d = decide_true (is_some (row_of (rows_of darts) d))

  -- ---- values

  abbrev Differs : ℕ × (ℕ × ℕ) → Type 0
  Differs p = (embed : Embed) × IsEmbedAt schema p.0 embed × Live p.1.0 × (p.1.1 ≤ schema.dim) × IsTrue (has embed.mask p.1.1) × (value_in darts p.0 (neighbour p.1.1 p.1.0) ≢ value_in darts p.0 p.1.0)

  decide_differs : (e d l : ℕ) → IsDecided (Differs (e, (d, l)))
  decide_differs e d l = go (slice_get schema.embeds e) refl
    where
      same : (embed other : Embed) → slice_get schema.embeds e ≡ Some embed → IsEmbedAt schema e other → other ≡ embed
      same embed other is at = let both : Some other ≡ Some embed = sym at ∙ is in cc both

      at_embed : (embed : Embed) → IsEmbedAt schema e embed
          → IsDecided (Live d × (l ≤ schema.dim) × IsTrue (has embed.mask l) × (value_in darts e (neighbour l d) ≢ value_in darts e d)) → IsDecided (Differs (e, (d, l)))
      at_embed embed at (inl h) = inl (embed, at, h.0, h.1, h.2, h.3)
      at_embed embed at (inr none) = inr (λ h. none (subst (λ (x : Embed). Live d × (l ≤ schema.dim) × IsTrue (has x.mask l) × (value_in darts e (neighbour l d) ≢ value_in darts e d)) (same embed h.0 at h.1) (h.2, h.3, h.4, h.5)))

      go : (found : Option Embed) → slice_get schema.embeds e ≡ found → IsDecided (Differs (e, (d, l)))
      go None is = inr (λ h. let both : Some h.0 ≡ None = sym h.1 ∙ is in absurd cc)
      go (Some embed) is =
          at_embed embed is (decide_four (decide_live d) (decide_le l schema.dim) (decide_true (has embed.mask l)) (decide_not (decide_value (value_in darts e (neighbour l d)) (value_in darts e d))))

  first_differing : HasFirst (IsBeforeIn (IsBeforeIn ◌<◌)) Differs
  first_differing =
      first_beside (IsBeforeIn ◌<◌) Differs
      (λ e. first_beside ◌<◌ (λ p. Differs (e, p)) (λ d. first_number (λ l. Differs (e, (d, l))) (λ l. decide_differs e d l) (suc schema.dim) (λ l h. omega (arith, h.3))) most (λ d l h. below d h.2))
      (length schema.embeds) (λ e p h. slice_get_within schema.embeds e h.0 h.1)

  of_values : AreJoined text version schema darts → PointBack schema.dim Live neighbour → Commute schema.dim Live neighbour → HasFault ⊎ AreLawful
  of_values joined back commute = elim first_differing [
    | inl found ↦ inl (at found.0 found.1)
    | inr none ↦ inr (record { joined = joined; back = back; commute = commute; shared = λ e embed d l at live label of_type. stable (decide_value _ _) (λ other. none (e, (d, l)) (embed, at, live, label, of_type, other)) })
  ]
    where
      at : (p : ℕ × (ℕ × ℕ)) → IsFirst (IsBeforeIn (IsBeforeIn ◌<◌)) Differs p → HasFault
      at (e, (d, l)) first =
          let (embed, embed_at, live, label, of_type, other) = first.here in (
            Unshared e embed.name d (neighbour l d),
            AtUnshared version schema darts e embed.name d (neighbour l d) joined (record {
              embed = embed;
              embed_at = embed_at;
              name_is = refl;
              label = l;
              other_is = refl;
              first = record {
                back = back;
                commute = commute;
                embed = embed;
                embed_at = embed_at;
                live = live;
                label = label;
                of_type = of_type;
                fails = other;
                before = λ e' d' l' embed' earlier at' live' label' of_type'. stable (decide_value _ _) (λ other'. first.before (e', (d', l')) earlier (embed', at', live', label', of_type', other'));
              };
            }),
          )

  -- ---- distant labels

  abbrev Crosses : ℕ × (ℕ × ℕ) → Type 0
  Crosses p = Live p.0 × (p.1.0 + 2 ≤ p.1.1) × (p.1.1 ≤ schema.dim) × (neighbour p.1.0 (neighbour p.1.1 p.0) ≢ neighbour p.1.1 (neighbour p.1.0 p.0))

  decide_crosses : (d i j : ℕ) → IsDecided (Crosses (d, (i, j)))
  decide_crosses d i j = decide_four (decide_live d) (decide_le (i + 2) j) (decide_le j schema.dim) (decide_not (decide_eq (neighbour i (neighbour j d)) (neighbour j (neighbour i d))))

  first_crossing : HasFirst (IsBeforeIn (IsBeforeIn ◌<◌)) Crosses
  first_crossing =
      first_beside (IsBeforeIn ◌<◌) Crosses
      (λ d. first_beside ◌<◌ (λ p. Crosses (d, p)) (λ i. first_number (λ j. Crosses (d, (i, j))) (λ j. decide_crosses d i j) (suc schema.dim) (λ j h. omega (arith, h.2))) (suc schema.dim) (λ i j h. omega (arith, h.1, h.2)))
      most (λ d p h. below d h.0)

  of_labels : AreJoined text version schema darts → PointBack schema.dim Live neighbour → HasFault ⊎ AreLawful
  of_labels joined back = elim first_crossing [
    | inl found ↦ inl (at found.0 found.1)
    | inr none ↦ of_values joined back (λ d i j live apart label. stable (decide_eq _ _) (λ other. none (d, (i, j)) (live, apart, label, other)))
  ]
    where
      at : (p : ℕ × (ℕ × ℕ)) → IsFirst (IsBeforeIn (IsBeforeIn ◌<◌)) Crosses p → HasFault
      at (d, (i, j)) first = (
        Crossing d i j,
        AtCrossing version schema darts d i j joined (record {
          back = back;
          live = first.here.0;
          apart = first.here.1;
          label = first.here.2;
          fails = first.here.3;
          before = λ e k l earlier live apart label. stable (decide_eq _ _) (λ other. first.before (e, (k, l)) earlier (live, apart, label, other));
        }),
      )

  -- ---- neighbours

  abbrev GoesOneWay : ℕ × ℕ → Type 0
  GoesOneWay p = Live p.0 × (p.1 ≤ schema.dim) × (neighbour p.1 (neighbour p.1 p.0) ≢ p.0)

  first_one_way : HasFirst (IsBeforeIn ◌<◌) GoesOneWay
  first_one_way =
      first_beside ◌<◌ GoesOneWay
      (λ d. first_number (λ i. GoesOneWay (d, i)) (λ i. decide_three (decide_live d) (decide_le i schema.dim) (decide_not (decide_eq (neighbour i (neighbour i d)) d))) (suc schema.dim) (λ i h. omega (arith, h.1)))
      most (λ d i h. below d h.0)

  of_ways : AreJoined text version schema darts → HasFault ⊎ AreLawful
  of_ways joined = elim first_one_way [
    | inl found ↦ inl (at found.0 found.1)
    | inr none ↦ of_labels joined (λ d i live label. stable (decide_eq _ _) (λ other. none (d, i) (live, label, other)))
  ]
    where
      at : (p : ℕ × ℕ) → IsFirst (IsBeforeIn ◌<◌) GoesOneWay p → HasFault
      at (d, i) first = (
        OneWay d i,
        AtOneWay version schema darts d i joined (record {
          live = first.here.0;
          label = first.here.1;
          fails = first.here.2;
          before = λ e j earlier live label. stable (decide_eq _ _) (λ other. first.before (e, j) earlier (live, label, other));
        }),
      )

  abbrev LacksTarget : ℕ × ℕ → Type 0
  LacksTarget p = Live p.0 × (p.1 ≤ schema.dim) × (Live (neighbour p.1 p.0) → ⊥)

  first_lack : HasFirst (IsBeforeIn ◌<◌) LacksTarget
  first_lack =
      first_beside ◌<◌ LacksTarget
      (λ d. first_number (λ i. LacksTarget (d, i)) (λ i. decide_three (decide_live d) (decide_le i schema.dim) (decide_not (decide_live (neighbour i d)))) (suc schema.dim) (λ i h. omega (arith, h.1)))
      most (λ d i h. below d h.0)

  of_targets : AreNumbered text version schema darts → HasFault ⊎ AreLawful
  of_targets numbered = elim first_lack [
    | inl found ↦ inl (at found.0 found.1)
    | inr none ↦ of_ways (record { numbered = numbered; targets = λ d i live label. stable (decide_live (neighbour i d)) (λ lacks. none (d, i) (live, label, lacks)) })
  ]
    where
      at : (p : ℕ × ℕ) → IsFirst (IsBeforeIn ◌<◌) LacksTarget p → HasFault
      at (d, i) first = (
        NoTarget d i,
        AtNoTarget version schema darts d i numbered (record {
          live = first.here.0;
          label = first.here.1;
          fails = first.here.2;
          before = λ e j earlier live label. stable (decide_live (neighbour j e)) (λ lacks. first.before (e, j) earlier (live, label, lacks));
        }),
      )

  -- ---- names

  of_next : AreNamed text version schema darts → (stated : Version) → version ≡ stated → HasFault ⊎ AreLawful
  of_next named First e = of_targets (record { named = named; below = rw e tt })
  of_next named (Second next) e = elim (first_number (λ d. Live d × (next ≤ d)) (λ d. decide_both (decide_live d) (decide_le next d)) most (λ d h. below d h.0)) [
    | inl found ↦ inl (
      NotBelow found.0,
      AtNotBelow next schema darts found.0 (subst (λ (v : Version). AreNamed text v schema darts) e named) (record {
        live = found.1.here.0;
        above = found.1.here.1;
        least = λ d less live. under d (λ high. found.1.before d less (live, high));
      }),
    )
    | inr none ↦ of_targets (record { named = named; below = rw e (λ d live. under d (λ high. none d (live, high))) })
  ]
    where
      under : (d : ℕ) → (next ≤ d → ⊥) → d < next
      under d low = elim (cases_lt d next) [
        | inl less ↦ less
        | inr high ↦ absurd (low high)
      ]

  twice_below : (d : ℕ) → 1 < rows_named (rows_of darts) d → d < most
  twice_below d twice = go (row_of (rows_of darts) d) refl
    where
      go : (found : Option Row) → row_of (rows_of darts) d ≡ found → d < most
      go None is = absurd (omega (arith, twice, named_none (rows_of darts) d is))
      go (Some row) is = below d (ap is_some is)

  at_most_one : (d : ℕ) → (1 < rows_named (rows_of darts) d → ⊥) → rows_named (rows_of darts) d ≤ 1
  at_most_one d once = elim (cases_lt 1 (rows_named (rows_of darts) d)) [
    | inl twice ↦ absurd (once twice)
    | inr few ↦ few
  ]

  pub fault_or_lawful : HasFault ⊎ AreLawful
  fault_or_lawful = elim (first_number (λ d. 1 < rows_named (rows_of darts) d) (λ d. decide_le 2 (rows_named (rows_of darts) d)) most twice_below) [
    | inl found ↦ inl (DartTwice found.0, AtTwice version schema darts found.0 listed (record { twice = found.1.here; least = λ d less. at_most_one d (found.1.before d less) }))
    | inr none ↦ of_next (record { listed = listed; distinct = λ d. at_most_one d (none d) }) version refl
  ]
