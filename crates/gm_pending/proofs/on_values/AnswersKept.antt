-- What was answered of each embedding, before anything was asked.
use Rattle.std.proofs.Common.{◌≡◌, ℕ, zero, suc, ◌<◌, [], List, ◌∷◌, length, map, replicate, Option, Some, None, IsSome, refl, ◌∙◌, ap, subst, arith}
use Rattle.std.proofs.lemmas.Bool.{false≢true}
use Rattle.std.proofs.lemmas.List.{length-replicate}
use Rattle.std.specs.Prelude.{slice_index_or, slice_get, unwrap_or}
use Rattle.gm_model.specs.declared.schema.Embed.{Embed}
use Rattle.gm_model.specs.Maps.{IsEmbedAt, IsSound}
use Rattle.gm_model.specs.Rules.{rule_of}
use Rattle.gm_model.specs.declared.rule.RuleTable.{RuleTable}
use Rattle.gm_arena.specs.inner.ArenaAsMap.{as_map}
use Rattle.gm_arena.specs.inner.ArenaMap.{ArenaMap}
use Rattle.gm_arena.specs.inner.Lawful.{IsLawful}
use Rattle.gm_plan.specs.inner.InArena.{AreMatched}
use Rattle.gm_plan.specs.inner.Placed.{Placed}
use Rattle.gm_plan.specs.inner.Plans.{IsPlanned}
use Rattle.gm_theory.proofs.Lists.{none_some, some_same}
use Rattle.gm_pending.specs.inner.AskedOrbits.{AreDecidedOrbits, instances_in, pending_as}
use Rattle.gm_pending.specs.inner.ReachedDarts.{AreReached}
use Rattle.gm_pending.specs.inner.Results.{PendingOf, IsAsked, IsPrepared, pending_of, deciding_of, instances_of}
use Rattle.gm_pending.specs.declared.decided_orbits.DecidedOrbits.{DecidedOrbits}
use Rattle.gm_pending.specs.declared.deciding_instance.DecidingInstance.{DecidingInstance}

pub none_answered : (n : ℕ) → map instances_in (replicate n None) ≡ replicate n None
none_answered zero = refl
none_answered (suc n) = ap (λ rest. None ∷ rest) (none_answered n)

none_at : {A : Type 0} (n e : ℕ) (x : A) → slice_index_or (replicate n x) e x ≡ x
none_at zero e x = refl
none_at (suc n) zero x = refl
none_at (suc n) (suc e) x = none_at n e x

no_answer_at : (n e : ℕ) (orbits : DecidedOrbits) → slice_get (replicate n None) e ≡ Some (Some orbits) → ⊥
no_answer_at zero e orbits h = none_some (Some orbits) h
no_answer_at (suc n) zero orbits h = none_some orbits (some_same None (Some orbits) h)
no_answer_at (suc n) (suc e) orbits h = no_answer_at n e orbits h

pub no_answers : (app : PendingOf) (n : ℕ) (answers : List (Option DecidedOrbits)) → answers ≡ replicate n None → AreDecidedOrbits app answers
no_answers app n answers none e embed orbits at h = absurd (no_answer_at n e orbits (rw none at h))

module _ (m : ArenaMap) (table : RuleTable) (placed : Placed) where
  pub nothing_answered : (orbits : List (Option DecidedOrbits)) → orbits ≡ replicate (length m.schema.embeds) None → pending_as m table placed orbits ≡ pending_of m table placed
  nothing_answered orbits e = ap (λ answers. record { map = m; table = table; placed = placed; asked = answers }) (ap (map instances_in) e ∙ none_answered (length m.schema.embeds))

  none_there : (e : ℕ) → deciding_of (pending_of m table placed) e ≡ None
  none_there e = none_at (length m.schema.embeds) e None

  pub nothing_prepared : IsLawful m → IsPlanned m.schema (rule_of table) → IsSound (as_map m) → (hooks : List ℕ) → AreMatched m (rule_of table) hooks placed → IsPrepared (pending_of m table placed)
  nothing_prepared lawful planned sound hooks matched = record {
    lawful = lawful;
    planned = planned;
    sound = sound;
    hooks = hooks;
    matched = matched;
    each = length-replicate (length m.schema.embeds) None;
    instances = λ e embed instances at is. none_some instances (rw (none_there e) at is);
    values = λ e x p embed v at given. absurd (let h : given.0 < 0 = rw (none_there e) at given.1 in omega arith);
  }

-- ---- what was answered

pub answered_at : (answers : List (Option DecidedOrbits)) (e : ℕ) (orbits : DecidedOrbits) → slice_get answers e ≡ Some (Some orbits) → slice_index_or (map instances_in answers) e None ≡ Some orbits.instances.items
answered_at [] e orbits h = none_some (Some orbits) h
answered_at (x ∷ answers) zero orbits h = ap instances_in (some_same x (Some orbits) h)
answered_at (x ∷ answers) (suc e) orbits h = answered_at answers e orbits h

pub unanswered_at : (answers : List (Option DecidedOrbits)) (e : ℕ) → slice_get answers e ≡ Some None → slice_index_or (map instances_in answers) e None ≡ None
unanswered_at [] e h = none_some None h
unanswered_at (x ∷ answers) zero h = ap instances_in (some_same x None h)
unanswered_at (x ∷ answers) (suc e) h = unanswered_at answers e h

-- an embedding with a decider was asked for
pub some_decider : (entry : Option (List DecidingInstance)) (k : ℕ) → k < length (unwrap_or entry []) → IsSome entry
some_decider None k h = absurd (omega arith)
some_decider (Some instances) k h = refl

pub answered_reached : (m : ArenaMap) (table : RuleTable) (placed : Placed) (answers : List (Option DecidedOrbits)) (e : ℕ) (orbits : DecidedOrbits) (embed : Embed) → IsEmbedAt m.schema e embed → slice_get answers e ≡ Some (Some orbits) → AreDecidedOrbits (pending_as m table placed answers) answers →
    AreReached (pending_as m table placed answers) e embed (instances_of (pending_as m table placed answers) e) orbits.marks
answered_reached m table placed answers e orbits embed at there all =
    let same : instances_of (pending_as m table placed answers) e ≡ orbits.instances.items = ap (λ o. unwrap_or o []) (answered_at answers e orbits there) in
    rw same (all e embed orbits at there)

asked_below : (answers : List (Option DecidedOrbits)) (e : ℕ) → IsSome (slice_index_or (map instances_in answers) e None) → e < length answers
asked_below [] e h = absurd (false≢true h)
asked_below (x ∷ answers) zero h = omega arith
asked_below (x ∷ answers) (suc e) h = let rest : e < length answers = asked_below answers e h in omega arith

pub asked_within : (m : ArenaMap) (table : RuleTable) (placed : Placed) (answers : List (Option DecidedOrbits)) (e : ℕ) → IsAsked (pending_as m table placed answers) e → e < length answers
asked_within m table placed answers e asked = asked_below answers e asked

-- ---- an index below the number of deciding instances that were kept

module _ (m : ArenaMap) (table : RuleTable) (placed : Placed) (answers : List (Option DecidedOrbits)) (e k : ℕ) (low : k < length (instances_of (pending_as m table placed answers) e)) where
  pub decided_within : e < length answers
  decided_within = asked_within m table placed answers e (some_decider _ k low)

  pub decider_within : (orbits : DecidedOrbits) → slice_get answers e ≡ Some (Some orbits) → k < length orbits.instances.items
  decider_within orbits there = subst (λ o. k < length (unwrap_or o [])) (answered_at answers e orbits there) low

entry_below : (orbits : List (Option (List DecidingInstance))) (e : ℕ) → IsSome (slice_index_or orbits e None) → e < length orbits
entry_below [] e h = absurd (false≢true h)
entry_below (x ∷ orbits) zero h = omega arith
entry_below (x ∷ orbits) (suc e) h = let rest : e < length orbits = entry_below orbits e h in omega arith

-- an embedding that was asked for is one of the schema
pub asked_embed : (app : PendingOf) → IsPrepared app → (e : ℕ) → IsAsked app e → e < length app.map.schema.embeds
asked_embed app prepared e asked = omega (arith, entry_below app.asked e asked, prepared.each)
