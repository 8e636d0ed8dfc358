-- The values that decided orbits tell: written one after another, and the new values of old darts.
use Rattle.std.proofs.Common.{◌≡◌, ℕ, zero, suc, ◌+◌, ◌<◌, ◌≤◌, List, [], ◌∷◌, ◌++◌, length, drop, get_or, Option, Some, None, IsSome, slice_get, refl, sym, ap, ap₂, ◌∙◌, subst, arith, append_assoc}
use Rattle.std.specs.List.{Contains}
use Rattle.std.specs.Prelude.{unwrap_or}
use Rattle.std.proofs.lemmas.Bool.{false≢true}
use Rattle.std.proofs.lemmas.List.{append-nil, drop_more, length-map}
use Rattle.std.proofs.lemmas.List.Elements.{Contains-append_left, Contains-append_right}
use Rattle.std.proofs.lemmas.Option.{slice_get-get_or}
use Rattle.gm_model.specs.declared.rule.RuleTable.{RuleTable}
use Rattle.gm_model.specs.declared.schema.Embed.{Embed}
use Rattle.gm_model.specs.declared.value.Value.{Value}
use Rattle.gm_model.specs.Maps.{IsEmbedAt}
use Rattle.gm_arena.specs.declared.slot.Slot.{Slot}
use Rattle.gm_arena.specs.inner.ArenaMap.{ArenaMap, name_at}
use Rattle.gm_arena.specs.inner.Edits.{with_value}
use Rattle.gm_arena.proofs.InsideLemmas.{some_of}
use Rattle.gm_plan.specs.inner.Placed.{Placed}
use Rattle.gm_walk.specs.declared.at.At.{At}
use Rattle.gm_walk.specs.declared.at.At.TheVariants.{Old, New}
use Rattle.gm_commit.specs.declared.changes.ValueAt.{ValueAt}
use Rattle.gm_pending.specs.declared.decided_orbits.DecidedOrbits.{DecidedOrbits}
use Rattle.gm_pending.specs.declared.deciding_instance.DecidingInstance.{DecidingInstance}
use Rattle.gm_walk.specs.declared.mark.Mark.{Mark}
use Rattle.gm_pending.specs.inner.AskedOrbits.{AreDecidedOrbits, AreOrbitsOf, instances_in, pending_as}
use Rattle.gm_commit.specs.inner.EditLists.{AreNewValues}
use Rattle.gm_pending.specs.inner.ReachedDarts.{AreReached}
use Rattle.gm_pending.specs.inner.Results.{PendingOf, AllGiven, AreAllGiven, IsPrepared, IsValueIn, instances_of, name_of}
use Rattle.gm_pending.specs.inner.ValueSources.{given_of}
use Rattle.gm_commit.specs.inner.OldDartValues.{told_at, told_from, told_in, told_of, values_told}
use Rattle.gm_commit.specs.inner.WrittenMap.{with_values}
use Rattle.gm_pending.proofs.on_values.AnswersKept.{answered_at, answered_reached, unanswered_at}
use Rattle.gm_commit.proofs.on_old_darts.ValuesInTurn.{AreAllReached, AreGathered, AreGatheredBelow, AreGatheredFrom, all_below, all_gathered, all_reached, more_below, new_passed, none_below, none_gathered, old_gathered, value_at}
use Rattle.gm_commit.proofs.on_new_darts.GivenValues.{entry_given, entry_value}
use Rattle.gm_commit.proofs.ListMembers.{contains_first}

-- ---- one after another

pub with_values_append : (m : ArenaMap) (first rest : List ValueAt) → with_values m (first ++ rest) ≡ with_values (with_values m first) rest
with_values_append m [] rest = refl
with_values_append m (at ∷ first) rest = with_values_append (with_value m (name_at m at.slot.at) at.embed at.value) first rest

-- those of a marked dart, and of the later ones
module _ (e : ℕ) (instances : List DecidingInstance) (marks : List Mark) (i : ℕ) (mark : Mark) (h : i < length marks) (here : mark ≡ get_or marks i mark) where
  abbrev later : List ValueAt
  later = told_of e instances (drop (i + 1) marks)

  told_more : told_of e instances (drop i marks) ≡ told_at e mark.at (given_of instances mark.instance) ++ later
  told_more = ap (told_of e instances) (drop_more marks i mark h) ∙ ap (λ (m : Mark). told_at e m.at (given_of instances m.instance) ++ later) (sym here)

  pub told_value : (slot : Slot) (v : Value) → mark.at ≡ Old slot → given_of instances mark.instance ≡ Some v → told_of e instances (drop i marks) ≡ value_at slot e v ∷ told_of e instances (drop (i + 1) marks)
  told_value slot v at given = told_more ∙ ap₂ (λ a o. told_at e a o ++ later) at given

  pub told_ungiven : (slot : Slot) → mark.at ≡ Old slot → given_of instances mark.instance ≡ None → told_of e instances (drop i marks) ≡ told_of e instances (drop (i + 1) marks)
  told_ungiven slot at none = told_more ∙ ap₂ (λ a o. told_at e a o ++ later) at none

  pub told_elsewhere : (x p : ℕ) → mark.at ≡ New x p → told_of e instances (drop i marks) ≡ told_of e instances (drop (i + 1) marks)
  told_elsewhere x p at = told_more ∙ ap (λ a. told_at e a (given_of instances mark.instance) ++ later) at

-- those of an embedding, and of the later ones
pub told_next : (orbits : List (Option DecidedOrbits)) (i : ℕ) (d : Option DecidedOrbits) → i < length orbits → told_from i (drop i orbits) ≡ told_in i (get_or orbits i d) ++ told_from (i + 1) (drop (i + 1) orbits)
told_next orbits i d h = ap (told_from i) (drop_more orbits i d h)

-- each is among them
told_there : (e : ℕ) (instances : List DecidingInstance) (marks : List Mark) (i : ℕ) (d : Mark) (at : ValueAt) → i < length marks → Contains (told_at e (get_or marks i d).at (given_of instances (get_or marks i d).instance)) at → Contains (told_of e instances marks) at
told_there e instances [] i d at h among = absurd (omega arith)
told_there e instances (mark ∷ marks) zero d at h among = Contains-append_left (told_at e mark.at (given_of instances mark.instance)) (told_of e instances marks) at among
told_there e instances (mark ∷ marks) (suc i) d at h among = Contains-append_right (told_at e mark.at (given_of instances mark.instance)) (told_of e instances marks) at (told_there e instances marks i d at (omega arith) among)

pub value_there : (e : ℕ) (instances : List DecidingInstance) (marks : List Mark) (i : ℕ) (mark : Mark) (slot : Slot) (v : Value) → i < length marks → mark ≡ get_or marks i mark → mark.at ≡ Old slot → given_of instances mark.instance ≡ Some v → Contains (told_of e instances marks) (value_at slot e v)
value_there e instances marks i mark slot v h here at given =
    let first : Contains (told_at e mark.at (given_of instances mark.instance)) (value_at slot e v) = rw (at, given) (contains_first (value_at slot e v) []) in
    told_there e instances marks i mark (value_at slot e v) h (subst (λ (m : Mark). Contains (told_at e m.at (given_of instances m.instance)) (value_at slot e v)) here first)

told_beyond : (e : ℕ) (orbits : List (Option DecidedOrbits)) (i k : ℕ) (d : Option DecidedOrbits) (at : ValueAt) → k ≡ e + i → i < length orbits → Contains (told_in k (get_or orbits i d)) at → Contains (told_from e orbits) at
told_beyond e [] i k d at is h among = absurd (omega arith)
told_beyond e (first ∷ orbits) zero k d at is h among =
    let same : k ≡ e = omega (arith, is) in
    Contains-append_left (told_in e first) (told_from (e + 1) orbits) at (subst (λ n. Contains (told_in n first) at) same among)
told_beyond e (first ∷ orbits) (suc i) k d at is h among = Contains-append_right (told_in e first) (told_from (e + 1) orbits) at (told_beyond (e + 1) orbits i k d at (omega (arith, is)) (omega arith) among)

pub told_within : (orbits : List (Option DecidedOrbits)) (i : ℕ) (d : Option DecidedOrbits) (at : ValueAt) → i < length orbits → Contains (told_in i (get_or orbits i d)) at → Contains (values_told orbits) at
told_within orbits i d at h among = told_beyond 0 orbits i i d at (omega arith) h among

-- ---- the new values of old darts

module _ (app : PendingOf) (prepared : IsPrepared app) (e : ℕ) (low : e < length app.map.schema.embeds) (given : AreAllGiven app e) (reached : List Mark) (are : (embed : Embed) → IsEmbedAt app.map.schema e embed → AreReached app e embed (instances_of app e) reached) where
  all : AreAllReached app e reached
  all = all_reached app prepared e (instances_of app e) reached low are

  gathered_from : (rest : List Mark) (k : ℕ) (old mid : List ValueAt) → drop k reached ≡ rest → k + length rest ≡ length reached → AreGatheredFrom app e reached k old mid → AreGatheredFrom app e reached (length reached) old (mid ++ told_of e (instances_of app e) rest)
  gathered_from [] k old mid left long so_far =
      let end : k ≡ length reached = omega (arith, long) in
      subst (λ n. AreGatheredFrom app e reached n old (mid ++ [])) end (subst (AreGatheredFrom app e reached k old) (sym (append-nil mid)) so_far)
  gathered_from (entry ∷ rest) k old mid left long so_far = go (λ next from. gathered_from rest (k + 1) old next later (omega (arith, long)) from) entry.at refl
    where
      below : k < length reached
      below = omega (arith, long)

      split : get_or reached k entry ∷ drop (k + 1) reached ≡ entry ∷ rest
      split = sym (drop_more reached k entry below) ∙ left

      here : slice_get reached k ≡ Some entry
      here = slice_get-get_or reached k entry below ∙ ap (λ list. slice_get list 0) split

      later : drop (k + 1) reached ≡ rest
      later = ap (drop 1) split

      go : ((next : List ValueAt) → AreGatheredFrom app e reached (k + 1) old next → AreGatheredFrom app e reached (length reached) old (next ++ told_of e (instances_of app e) rest)) →
          (at : At) → entry.at ≡ at → AreGatheredFrom app e reached (length reached) old (mid ++ (told_at e entry.at (given_of (instances_of app e) entry.instance) ++ told_of e (instances_of app e) rest))
      go go_on (Old slot) is =
          let v = some_of (given_of (instances_of app e) entry.instance) (entry_given app prepared e reached low are k entry here given) in
          let value = entry_value app prepared e reached low are k entry here v.0 v.1 in
          let more = old_gathered app e reached all k old mid so_far entry here slot v.0 is low (λ embed at. subst (λ a. IsValueIn app e embed (name_of app a) v.0) is (value embed at)) in
          rw (is, v.1) (subst (AreGatheredFrom app e reached (length reached) old) (append_assoc mid (value_at slot e v.0 ∷ []) (told_of e (instances_of app e) rest))
          (go_on (mid ++ value_at slot e v.0 ∷ []) more))
      go go_on (New x p) is =
          let more = new_passed app e reached all k old mid so_far entry here (λ slot old_one. absurd (let both : New x p ≡ Old slot = sym is ∙ old_one in cc)) in
          rw is (go_on mid more)

  pub told_gathered : (old : List ValueAt) → AreGathered app e old (old ++ told_of e (instances_of app e) reached)
  told_gathered old = all_gathered app e reached all prepared (length reached) old _ refl (gathered_from reached 0 old old refl (omega arith) (none_gathered app e reached all old))

module _ (m : ArenaMap) (table : RuleTable) (placed : Placed) (answers : List (Option DecidedOrbits)) where
  abbrev app : PendingOf
  app = pending_as m table placed answers

  module _ (prepared : IsPrepared app) (decided : AreDecidedOrbits app answers) (given : AllGiven app) (long : length answers ≡ length m.schema.embeds) where
    one_more : (e : ℕ) (orbits : Option DecidedOrbits) (old : List ValueAt) → e < length answers → slice_get answers e ≡ Some orbits → AreGatheredBelow app e old → AreGatheredBelow app (e + 1) (old ++ told_in e orbits)
    one_more e None old below here so_far = absurd (false≢true (subst IsSome (unanswered_at answers e here) (given e (omega (arith, long))).0))
    one_more e (Some orbits) old below here so_far =
        let low : e < length m.schema.embeds = omega (arith, long) in
        let same : instances_of app e ≡ orbits.instances.items = ap (λ o. unwrap_or o []) (answered_at answers e orbits here) in
        let are : (embed : Embed) → IsEmbedAt m.schema e embed → AreReached app e embed (instances_of app e) orbits.marks = λ embed at. answered_reached m table placed answers e orbits embed at here decided in
        more_below app e old (old ++ told_in e (Some orbits)) low so_far
        (subst (λ instances. AreGathered app e old (old ++ told_of e instances orbits.marks)) same (told_gathered app prepared e low (given e low) orbits.marks are old))

    all_more : (rest : List (Option DecidedOrbits)) (e : ℕ) (old : List ValueAt) → drop e answers ≡ rest → e + length rest ≡ length answers → AreGatheredBelow app e old → AreGatheredBelow app (length answers) (old ++ told_from e rest)
    all_more [] e old left end so_far =
        let last : e ≡ length answers = omega (arith, end) in
        subst (λ n. AreGatheredBelow app n (old ++ [])) last (subst (AreGatheredBelow app e) (sym (append-nil old)) so_far)
    all_more (orbits ∷ rest) e old left end so_far =
        let below : e < length answers = omega (arith, end) in
        let split : get_or answers e orbits ∷ drop (e + 1) answers ≡ orbits ∷ rest = sym (drop_more answers e orbits below) ∙ left in
        let here : slice_get answers e ≡ Some orbits = slice_get-get_or answers e orbits below ∙ ap (λ list. slice_get list 0) split in
        subst (AreGatheredBelow app (length answers)) (append_assoc old (told_in e orbits) (told_from (e + 1) rest))
        (all_more rest (e + 1) (old ++ told_in e orbits) (ap (drop 1) split) (omega (arith, end)) (one_more e orbits old below here so_far))

    pub told_new : AreNewValues app (values_told answers)
    told_new = all_below app (length answers) (values_told answers) long (all_more answers 0 [] refl (omega arith) (none_below app))

-- ---- those of the orbits that an application was asked for

module _ (app : PendingOf) (orbits : List (Option DecidedOrbits)) (prepared : IsPrepared app) where
  orbits_long : AreOrbitsOf app orbits → length orbits ≡ length app.map.schema.embeds
  orbits_long are = sym (length-map orbits instances_in) ∙ sym (ap (λ (list : List (Option (List DecidingInstance))). length list) are.asked) ∙ prepared.each

  pub few_orbits : AreOrbitsOf app orbits → length orbits ≤ 255
  few_orbits are = omega (arith, orbits_long are, prepared.lawful.schema.count)

  pub orbits_told : AllGiven app → AreOrbitsOf app orbits → AreNewValues app (values_told orbits)
  orbits_told given are = subst (λ a. AreNewValues a (values_told orbits)) (sym same) (told_new app.map app.table app.placed orbits (subst IsPrepared same prepared) (subst (λ a. AreDecidedOrbits a orbits) same are.decided) (subst AllGiven same given) (orbits_long are))
    where
      same : app ≡ pending_as app.map app.table app.placed orbits
      same = λ i. record { map = app.map; table = app.table; placed = app.placed; asked = are.asked i }
