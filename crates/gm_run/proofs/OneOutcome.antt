-- An application has one outcome and one budget, over maps that are alike, and leaves maps that are alike.
use Rattle.std.proofs.Common.{◌≡◌, ℕ, ◌*◌, ◌≤◌, ◌↔◌, List, None, refl, sym, ap, ap₂, subst, ◌∙◌}
use Rattle.gm_model.specs.declared.schema.Schema.{Schema}
use Rattle.gm_model.specs.declared.value.Value.{Value}
use Rattle.gm_model.specs.Applications.{Application, IsDone, IsResult, IsBudget}
use Rattle.gm_model.specs.Maps.{Map, IsDart, dimension}
use Rattle.gm_model.specs.Matches.{IsCandidate}
use Rattle.gm_model.specs.Rules.{Rule}
use Rattle.gm_model.specs.Runs.{Outcome, Done, Refused, IsOutcome}
use Rattle.gm_model.specs.Unfolding.{IsGone, IsUnfolding, scene_of, added_nodes}
use Rattle.gm_apply.proofs.Counting.{count_same}
use Rattle.gm_apply.proofs.LikeApplications.{gone_there}
use Rattle.gm_apply.proofs.LikePlaces.{AreLikeAt, places_back}
use Rattle.gm_apply.proofs.LikeScenes.{unfolding_there}
use Rattle.gm_apply.proofs.LikeValues.{result_there}
use Rattle.gm_theory.specs.inner.Values.{KeepsWellEmbedded}
use Rattle.gm_theory.proofs.Candidates.{match_is_candidate}
use Rattle.gm_theory.proofs.Found.{hook_darts}
use Rattle.gm_theory.proofs.LikeCandidates.{candidates_like}
use Rattle.gm_theory.proofs.ValuesKept.{rules_keep_well_embedded_maps}
use Rattle.gm_theory.specs.inner.OneMatch.{IsLike}
use Rattle.gm_theory.proofs.ValuesUnique.{one_count}
use Rattle.gm_run.specs.inner.Alike.{AreAlike}
use Rattle.gm_run.proofs.AlikeLemmas.{Suits, suits_too, alike_at, alike_back}
use Rattle.gm_run.proofs.AlikeMatches.{candidate_there}
use Rattle.gm_run.proofs.AlikeWork.{ends_there, refused_there, budget_there}
use Rattle.gm_run.proofs.Endings.{refused_by, done_ends, one_cause, done_or_refused}

module _ (rule : Rule) (hooks : List ℕ) (params : List Value) where
  abbrev pub app_at : Map → Application
  app_at map = record { map = map; rule = rule; hooks = hooks; params = params }

  module _ (a b : Map) (ours : Suits rule b) (alike : AreAlike a b) where
    theirs : Suits rule a
    theirs = suits_too rule b a (alike_back a b alike) ours

    -- two that are done add and remove as many darts, and leave maps that are alike
    module _ (added removed added' removed' : ℕ) (after after' : Map) (first : IsDone (app_at a) after added removed) (second : IsDone (app_at b) after' added' removed') where
      candidate : IsCandidate b rule hooks first.place
      candidate = candidate_there rule hooks params a b theirs alike first.place (match_is_candidate a rule first.place theirs.accepted.in_range theirs.accepted.incidence hooks first.ready.matched) (hook_darts (app_at a) first.place theirs.accepted first.ready.matched)

      like : IsLike rule first.place second.place
      like = candidates_like (app_at b) ours.accepted.in_range ours.accepted.incidence first.place second.place candidate (match_is_candidate b rule second.place ours.accepted.in_range ours.accepted.incidence hooks second.ready.matched)

      both : AreLikeAt rule a b first.place second.place
      both = alike_at rule a b alike theirs first.place second.place like first.ready.matched.embedded.live

      unfolded : IsUnfolding (scene_of b rule second.place) (IsDart after) after.alpha after.next
      unfolded = unfolding_there rule a b first.place second.place both (IsDart after) after.alpha after.next first.result_is.unfolded

      same_added : added ≡ added'
      same_added = first.added_is ∙ ap (λ n. n * added_nodes rule) like.positions ∙ sym second.added_is

      same_removed : removed ≡ removed'
      same_removed = one_count (IsGone (scene_of b rule second.place)) removed removed' (count_same (IsGone (scene_of a rule first.place)) (IsGone (scene_of b rule second.place)) removed there first.removed_is) second.removed_is
        where
          there : (d : ℕ) → IsGone (scene_of a rule first.place) d ↔ IsGone (scene_of b rule second.place) d
          there d = (gone_there rule a b first.place second.place both d, gone_there rule b a second.place first.place (places_back rule a b first.place second.place both) d)

      same_schema : after.schema ≡ b.schema
      same_schema = first.result_is.schema ∙ alike.schema

      there : IsResult (app_at b) second.place after
      there = result_there rule hooks params a b first.place second.place both theirs.of_schema first.ready.matched after first.result_is

      kept : KeepsWellEmbedded (app_at b) second.place
      kept = rules_keep_well_embedded_maps (app_at b) second.place ours.of_schema ours.sound.is_map ours.sound.generalised ours.sound.embedded ours.accepted second.ready.matched

      results_alike : AreAlike after after'
      results_alike = record {
        schema = same_schema ∙ sym second.result_is.schema;
        same = record {
          next = unfolded.next_is ∙ sym second.result_is.unfolded.next_is;
          darts = λ d. (λ live. (second.result_is.unfolded.darts d).1 ((unfolded.darts d).0 live), λ live. (unfolded.darts d).1 ((second.result_is.unfolded.darts d).0 live));
          arcs = λ d i live h.
              let low : i ≤ dimension b = subst (λ (s : Schema). i ≤ s.dim) same_schema h in
              sym ((second.result_is.unfolded.arcs d i (after.alpha i d) low).1 ((unfolded.arcs d i (after.alpha i d) low).0 (live, refl))).1;
        };
        values = λ e d embed at live. kept.determined after after' there second.result_is e d embed at live;
      }

    -- two outcomes are one, and leave maps that are alike
    pub one_outcome : (o o' : Outcome) (after after' : Map) → IsOutcome (app_at a) o after → IsOutcome (app_at b) o' after' → (o ≡ o') × AreAlike after after'
    one_outcome (Done added removed) (Done added' removed') after after' first second =
        (ap₂ Done (same_added added removed added' removed' after after' first second) (same_removed added removed added' removed' after after' first second), results_alike added removed added' removed' after after' first second)
    one_outcome (Done added removed) (Refused cause) after after' first second =
        absurd (done_or_refused (app_at b) ours cause (ends_there rule hooks params a b theirs alike None (done_ends (app_at a) theirs after added removed first)) (refused_by (app_at b) ours cause second.0))
    one_outcome (Refused cause) (Done added removed) after after' first second =
        absurd (done_or_refused (app_at b) ours cause (done_ends (app_at b) ours after' added removed second) (refused_there rule hooks params a b theirs alike cause (refused_by (app_at a) theirs cause first.0)))
    one_outcome (Refused cause) (Refused cause') after after' first second = (
      ap Refused (one_cause (app_at b) ours cause cause' (refused_there rule hooks params a b theirs alike cause (refused_by (app_at a) theirs cause first.0)) (refused_by (app_at b) ours cause' second.0)),
      subst (λ m. AreAlike m after') (sym first.1) (subst (AreAlike a) (sym second.1) alike),
    )
    one_outcome (Done added removed) o' after after' first none = absurd none
    one_outcome (Refused cause) o' after after' first none = absurd none
    one_outcome o o' after after' none second = absurd none

    -- and a budget of one is one of the other
    pub same_budget : (most : ℕ) → IsBudget (app_at a) most → IsBudget (app_at b) most
    same_budget most budget = budget_there rule hooks params a b theirs alike most budget
