-- What is collected over an orbit that holds a node at all positions has one value at all of them.
use Rattle.std.proofs.Common.{◌≡◌, ℕ, zero, suc, ◌+◌, ◌<◌, ◌≤◌, ◌↔◌, ◌⊎◌, IsTrue, List, [], ◌∷◌, ◌++◌, length, All, slice_get, Option, Some, None, MatchOption, refl, sym, ap, subst, ◌∙◌, inl, inr, arith}
use Rattle.std.specs.List.{Contains}
use Rattle.std.specs.Prelude.{IsSome}
use Rattle.std.proofs.lemmas.List.Elements.{All-append, All-cons, All-contains, All-nil, recursion_from_All}
use Rattle.std.proofs.lemmas.Bool.{cases_eq, false≢true}
use Rattle.gm_model.specs.declared.expr.DartTerm.{DartTerm}
use Rattle.gm_model.specs.declared.schema.Embed.{Embed}
use Rattle.gm_model.specs.declared.value.Value.{Value}
use Rattle.gm_model.specs.declared.word.Mask.{Mask}
use Rattle.gm_model.specs.Expressions.{Reading, HasValue, IsCollected, dart_at}
use Rattle.gm_model.specs.Kinds.{sum_kind}
use Rattle.gm_model.specs.Labels.{has}
use Rattle.gm_model.specs.Maps.{IsDart, IsGeneralised}
use Rattle.gm_model.specs.Orbits.{IsInOrbit, IsListOf, HasCount}
use Rattle.gm_model.specs.Trees.{Count, Sum, Least, Greatest}
use Rattle.gm_model.specs.Values.{kind_of}
use Rattle.gm_theory.proofs.Lists.{none_some, some_same}
use Rattle.gm_theory.proofs.ValuesLists.{IsIn, contains_in, in_contained}
use Rattle.gm_arena.specs.declared.slot.Slot.{Slot}
use Rattle.gm_arena.specs.inner.ArenaAsMap.{as_map, value}
use Rattle.gm_arena.specs.inner.ArenaMap.{ArenaMap, IsAt, IsLiveSlot, alpha, name_at}
use Rattle.gm_arena.proofs.MapLemmas.{IsAt-name_at, IsLiveName-name_at}
use Rattle.gm_plan.specs.inner.InArena.{slot_number}
use Rattle.gm_plan.specs.inner.Placed.{Placed, slot_at}
use Rattle.gm_walk.proofs.MarkLemmas.{same_slot}
use Rattle.gm_walk.proofs.OrbitLemmas.{orbit_back, orbit_join}
use Rattle.gm_eval.specs.declared.kept.Collector.{Collector}
use Rattle.gm_eval.specs.declared.kept.Entry.{Entry}
use Rattle.gm_eval.specs.declared.kept.Form.{Form}
use Rattle.gm_eval.specs.declared.kept.Form.TheVariants as forms
use Rattle.gm_eval.specs.declared.reader.Reader.{Reader}
use Rattle.gm_eval.specs.inner.Keeping.{AreKept, IsEverywhere, collector_at, own_term, tree_of_collector}
use Rattle.gm_eval.specs.inner.Places.{reading_in}
use Rattle.gm_eval.specs.inner.Sharing.{IsShared}
use Rattle.gm_eval.specs.inner.Readers.{IsHere, IsOrbit, IsReady, IsValueThere, reading_of}
use Rattle.gm_eval.proofs.Collected.{all_in, collected, slot_in as walked_at}
use Rattle.gm_eval.proofs.Operated.{found_as}
use Rattle.gm_eval.proofs.Ready.{count_ready, kinds_at, term_here, value_of_kind}
use Rattle.gm_eval.proofs.Terms.{slot_of_number}

some_embed : (embeds : List Embed) (e : ℕ) → e < length embeds → (embed : Embed) × (slice_get embeds e ≡ Some embed)
some_embed [] e within = absurd (omega (arith, within))
some_embed (embed ∷ embeds) zero within = (embed, refl)
some_embed (embed ∷ embeds) (suc e) within = some_embed embeds e (omega (arith, within))

-- ---- lists of the same darts

list_alike : (P Q : ℕ → Type 0) → ((d : ℕ) → P d ↔ Q d) → (darts : List ℕ) → IsListOf P darts → IsListOf Q darts
list_alike P Q same darts listed = record { distinct = listed.distinct; same = λ d. (λ c. (same d).0 ((listed.same d).0 c), λ q. (listed.same d).1 ((same d).1 q)) }

count_alike : (P Q : ℕ → Type 0) → ((d : ℕ) → P d ↔ Q d) → (count : ℕ) → HasCount P count → HasCount Q count
count_alike P Q same count (darts, listed, long) = (darts, list_alike P Q same darts listed, long)

-- ---- one orbit, one value

module _ (m : ArenaMap) (placed : Placed) (params : List Value) (p q e : ℕ) (mask : Mask) (term : DartTerm) where
  abbrev from : Reading
  from = reading_in m placed p params

  abbrev to : Reading
  to = reading_in m placed q params

  -- where the same darts are collected at two positions, and the values at both darts are of one kind, a collector has the same values
  module _ (form : Form) (same : (d : ℕ) → IsCollected from mask term d ↔ IsCollected to mask term d) (kinds : (f : Form) → f ≡ forms.Sum → form ≡ f → kind_of (value m e (dart_at from term)) ≡ kind_of (value m e (dart_at to term))) where
    moved_as : (f : Form) → form ≡ f → (v : Value) → HasValue from (collector_at f mask term e) v → HasValue to (collector_at f mask term e) v
    moved_as forms.Count is v (count, counted, made) = (count, count_alike (IsCollected from mask term) (IsCollected to mask term) same count counted, made)
    moved_as forms.Sum is v (darts, listed, kind, has, made) = (darts, list_alike (IsCollected from mask term) (IsCollected to mask term) same darts listed, kind, ap sum_kind (sym (kinds forms.Sum refl is)) ∙ has, made)
    moved_as forms.Least h v (x, is, (d, c, at), all) = (x, is, (d, (same d).0 c, at), λ f y g. all f y ((same f).1 g))
    moved_as forms.Greatest h v (x, is, (d, c, at), all) = (x, is, (d, (same d).0 c, at), λ f y g. all f y ((same f).1 g))

    pub moved : (v : Value) → HasValue from (collector_at form mask term e) v → HasValue to (collector_at form mask term e) v
    moved v h = moved_as form refl v h

-- ---- a node that lies in one orbit at all positions

-- the slots have the node's at each position
abbrev pub AreAllIn : Placed → ℕ → List Slot → Type 0
AreAllIn placed x slots = (p : ℕ) → p < placed.positions → (s : Slot) × (slot_at placed x p ≡ Some s) × Contains slots s

pub one_further : (placed : Placed) (x : ℕ) (slots : List Slot) (i : ℕ) (s : Slot) → slot_at placed x i ≡ Some s → Contains slots s → ((p : ℕ) → p < i → (t : Slot) × (slot_at placed x p ≡ Some t) × Contains slots t)
    → (p : ℕ) → p < i + 1 → (t : Slot) × (slot_at placed x p ≡ Some t) × Contains slots t
one_further placed x slots i s at among before p less = go (cases_eq p i)
  where
    go : (p ≡ i) ⊎ (p ≡ i → ⊥) → (t : Slot) × (slot_at placed x p ≡ Some t) × Contains slots t
    go (inl same) = (s, ap (slot_at placed x) same ∙ at, among)
    go (inr apart) = before p (omega (arith, less, apart))

abbrev with_path : ℕ → List ℕ → DartTerm
with_path x path = record { node = x; path = path }

pub owned : (term : DartTerm) → term.path ≡ [] → term ≡ own_term term.node
owned term h = ap (with_path term.node) h

-- where a collector can be read, so can the number of its darts
pub as_count : (reader : Reader) (form : Form) (mask : Mask) (term : DartTerm) (e : ℕ) → IsReady reader (collector_at form mask term e) → IsReady reader (Count mask term)
as_count reader forms.Count mask term e ready = ready
as_count reader forms.Sum mask term e ready = count_ready reader (Sum mask term e) ready mask term ready.typed.has_kind.in_range.0 ready.typed.has_kind.in_range.1
as_count reader forms.Least mask term e ready = count_ready reader (Least mask term e) ready mask term ready.typed.has_kind.in_range.0 ready.typed.has_kind.in_range.1
as_count reader forms.Greatest mask term e ready = count_ready reader (Greatest mask term e) ready mask term ready.typed.has_kind.in_range.0 ready.typed.has_kind.in_range.1

-- where a greatest number can be read, so can the least
pub as_least : (reader : Reader) (mask : Mask) (term : DartTerm) (e : ℕ) → IsReady reader (Greatest mask term e) → IsReady reader (Least mask term e)
as_least reader mask term e ready =
    let t = ready.typed in
    record { here = ready.here; typed = record { rule = t.rule; kind = t.kind; has_kind = record { in_range = t.has_kind.in_range; kind_is = t.has_kind.kind_is }; good_params = t.good_params; nodes_among = t.nodes_among } }

pub node_there : (reader : Reader) (form : Form) (mask : Mask) (term : DartTerm) (e : ℕ) → IsReady reader (collector_at form mask term e) → term.node < reader.found.now.nodes
node_there reader form mask term e ready =
    let counted = as_count reader form mask term e ready in
    (term_here reader (Count mask term) counted term counted.typed.has_kind.in_range.1).node

module _ (reader : Reader) (form : Form) (mask : Mask) (x e : ℕ) (ready : IsReady reader (collector_at form mask (own_term x) e)) (generalised : IsGeneralised (as_map reader.arena.now))
    (slots : List Slot) (orbit : IsOrbit reader mask (own_term x) slots) (all : AreAllIn reader.found.now x slots) where
  few : (i : ℕ) → IsTrue (has mask i) → i ≤ reader.arena.now.schema.dim
  few i h = (as_count reader form mask (own_term x) e ready).typed.has_kind.in_range.0 i h

  node : x < reader.found.now.nodes
  node = node_there reader form mask (own_term x) e ready

  abbrev m : ArenaMap
  m = reader.arena.now

  abbrev dart : ℕ → ℕ
  dart p = name_at m (slot_number reader.found.now x p)

  slot_in : (p : ℕ) → p < reader.found.now.positions → (s : Slot) × IsIn s slots × (dart p ≡ name_at m s.at)
  slot_in p within = let there = all p within in (there.0, in_contained slots there.0 there.2, ap (name_at m) (slot_of_number reader.found.now x p there.0 there.1))

  live_here : IsDart (as_map m) (dart reader.position)
  live_here = IsLiveName-name_at m (slot_number reader.found.now x reader.position) ready.here.lawful (ready.here.live x node)

  leads : (p : ℕ) → p < reader.found.now.positions → IsInOrbit (alpha m) (has mask) (dart reader.position) (dart p)
  leads p within = let there = slot_in p within in subst (IsInOrbit (alpha m) (has mask) (dart reader.position)) (sym there.2) (collected reader mask (own_term x) slots orbit there.0 there.1)

  same_darts : (p : ℕ) → p < reader.found.now.positions → (d : ℕ) → IsInOrbit (alpha m) (has mask) (dart reader.position) d ↔ IsInOrbit (alpha m) (has mask) (dart p) d
  same_darts p within d = (
    orbit_join (alpha m) (has mask) (dart p) (dart reader.position) d (orbit_back m.schema.dim (IsDart (as_map m)) (alpha m) (has mask) generalised few (dart reader.position) (dart p) live_here (leads p within)),
    orbit_join (alpha m) (has mask) (dart reader.position) (dart p) d (leads p within),
  )

  -- the two darts' values have the embedding's kind
  kinds_alike : (p : ℕ) → p < reader.found.now.positions → (embed : Embed) → slice_get m.schema.embeds e ≡ Some embed → kind_of (value m e (dart reader.position)) ≡ kind_of (value m e (dart p))
  kinds_alike p within embed at =
      let there = slot_in p within in
      (value_of_kind reader ready.here e (slot_number reader.found.now x reader.position) embed embed.kind at refl (ready.here.live x node)).kind_is
      ∙ sym (kinds_at reader ready.here e embed embed.kind at refl slots orbit.live there.0 there.1) ∙ ap (λ d. kind_of (value m e d)) (sym there.2)

  sums_alike : (p : ℕ) → p < reader.found.now.positions → (f : Form) → f ≡ forms.Sum → form ≡ f → kind_of (value m e (dart reader.position)) ≡ kind_of (value m e (dart p))
  sums_alike p within forms.Sum h is =
      let summed = subst (λ f. IsReady reader (collector_at f mask (own_term x) e)) is ready in
      let embed = some_embed m.schema.embeds e summed.typed.has_kind.in_range.2 in
      kinds_alike p within embed.0 embed.1
  sums_alike p within f h is = absurd cc

  pub everywhere : (o : Option Value) → IsValueThere reader (collector_at form mask (own_term x) e) o → IsEverywhere m reader.found.now reader.params.now (collector_at form mask (own_term x) e) o
  everywhere o h p within =
      let placed = reader.found.now in
      let params = reader.params.now in
      let q = reader.position in
      found_as (HasValue (reading_of reader) (collector_at form mask (own_term x) e)) (HasValue (reading_in m placed p params) (collector_at form mask (own_term x) e)) o
      (moved m placed params q p e mask (own_term x) form (same_darts p within) (λ f is same. sums_alike p within f is same))
      (moved m placed params p q e mask (own_term x) form (λ d. ((same_darts p within d).1, (same_darts p within d).0)) (λ f is same. sym (sums_alike p within f is same)))
      h

-- where an orbit holds the node at each position, its walk has the node's slot of each
pub shared_walked : (reader : Reader) → IsHere reader → (c : Collector) (slots : List Slot) → IsOrbit reader c.mask (own_term c.node) slots → IsShared reader.arena.now reader.found.now reader.position c
    → (p : ℕ) → p < reader.found.now.positions → (s : Slot) → slot_at reader.found.now c.node p ≡ Some s → Contains slots s
shared_walked reader here c slots orbit shared p within s at =
    let m = reader.arena.now in
    let number = slot_number reader.found.now c.node p in
    let there = shared p within in
    let walked = walked_at reader c.mask (own_term c.node) slots orbit (name_at m number) there.1 in
    let live : IsLiveSlot m walked.0.at = all_in (λ (t : Slot). IsLiveSlot m t.at) slots walked.0 (recursion_from_All (λ (t : Slot). IsLiveSlot m t.at) slots orbit.live) walked.1 in
    let same : number ≡ walked.0.at = here.lawful.one_slot walked.0.at number (name_at m number) (subst (IsAt m walked.0.at) walked.2 (IsAt-name_at m walked.0.at live)) (IsAt-name_at m number there.0) in
    subst (Contains slots) (same_slot walked.0 s (sym same ∙ slot_of_number reader.found.now c.node p s at)) (contains_in slots walked.0 walked.1)

-- ---- what is kept

module _ (m : ArenaMap) (placed : Placed) (params : List Value) where
  abbrev Right : Entry → Type 0
  Right entry = IsEverywhere m placed params (tree_of_collector entry.collector) entry.value

  pub one_more : (old new : Option (List Entry)) (collector : Collector) (o : Option Value) → IsEverywhere m placed params (tree_of_collector collector) o → AreKept m placed params old
      → (new ≡ old) ⊎ ((entries : List Entry) × (old ≡ Some entries) × (new ≡ Some (entries ++ record { collector = collector; value = o } ∷ []))) → AreKept m placed params new
  one_more old new collector o h kept (inl same) = subst (AreKept m placed params) (sym same) kept
  one_more old new collector o h kept (inr (entries, was, is)) = subst (AreKept m placed params) (sym is) (record {
    generalised = λ some. kept.generalised (subst IsSome (sym was) refl);
    right = λ now same. subst (All Right) (some_same (entries ++ record { collector = collector; value = o } ∷ []) now same)
        (All-append Right entries (record { collector = collector; value = o } ∷ []) (kept.right entries was) (All-cons Right (record { collector = collector; value = o }) [] h (All-nil Right)));
  })

  -- what was found is the value
  pub found_there : (kept : Option (List Entry)) (collector : Collector) (o : Option Value) → AreKept m placed params kept → (entries : List Entry) × (kept ≡ Some entries) × Contains entries (record { collector = collector; value = o })
      → IsEverywhere m placed params (tree_of_collector collector) o
  found_there kept collector o are (entries, is, among) =
      All-contains Right entries (record { collector = collector; value = o }) (are.right entries is) among

  pub none_kept : AreKept m placed params None
  none_kept = record { generalised = λ some. absurd (false≢true some); right = λ entries is. none_some entries is }

  pub nothing_yet : IsGeneralised (as_map m) → AreKept m placed params (Some [])
  nothing_yet generalised = record { generalised = λ some. generalised; right = λ entries is. subst (All Right) (some_same [] entries is) (All-nil Right) }

  -- what was kept is forgotten
  pub cleared : (old new : Option (List Entry)) → MatchOption old (new ≡ None) (λ entries. new ≡ Some []) → AreKept m placed params old → AreKept m placed params new
  cleared None new is kept = subst (AreKept m placed params) (sym is) none_kept
  cleared (Some entries) new is kept = subst (AreKept m placed params) (sym is) (nothing_yet (kept.generalised refl))
