-- Where an application leaves a map, it leaves each map that is alike.
use Rattle.std.proofs.Common.{ℕ, ◌≤◌, sym, subst, ◌∙◌}
use Rattle.gm_model.specs.declared.schema.Schema.{Schema}
use Rattle.gm_model.specs.Applications.{Application, GivesValue, IsDone, IsResult}
use Rattle.gm_model.specs.Maps.{Map, IsDart, IsEmbedAt, dimension, type_of}
use Rattle.gm_model.specs.Matches.{Placement, IsMatch}
use Rattle.gm_model.specs.NewValues.{IsValueAfter}
use Rattle.gm_model.specs.Unfolding.{IsUnfolding, scene_of}
use Rattle.gm_theory.proofs.Agreement.{one_match}
use Rattle.gm_apply.proofs.LikePlaces.{AreLikeAt, same_map}
use Rattle.gm_apply.proofs.LikeResults.{AreLikeResults, results_like}
use Rattle.gm_apply.proofs.LikeValues.{value_after_there}
use Rattle.gm_run.specs.inner.Alike.{AreAlike, unvalued}
use Rattle.gm_run.proofs.AlikeLemmas.{Suits}

module _ (app : Application) (suits : Suits app.rule app.map) (after end : Map) (alike : AreAlike after end) where
  module _ (place : Placement) (matched : IsMatch app.map app.rule app.hooks place) (is : IsResult app place after) where
    unfolded : IsUnfolding (scene_of app.map app.rule place) (IsDart end) end.alpha end.next
    unfolded = record {
      darts = λ d. (λ live. (is.unfolded.darts d).0 ((alike.same.darts d).1 live), λ h. (alike.same.darts d).0 ((is.unfolded.darts d).1 h));
      arcs = λ d i e h.
          let low : i ≤ dimension after = subst (λ (s : Schema). i ≤ s.dim) (sym is.schema) h in (
            λ arc. let live = (alike.same.darts d).1 arc.0 in (is.unfolded.arcs d i e h).0 (live, alike.same.arcs d i live low ∙ arc.1),
            λ arc. let there = (is.unfolded.arcs d i e h).1 arc in ((alike.same.darts d).0 there.0, sym (alike.same.arcs d i there.0 low) ∙ there.1),
          );
      next_is = sym alike.same.next ∙ is.unfolded.next_is;
    }

    like : AreLikeAt app.rule app.map app.map place place
    like = same_map app.rule app.map place place suits.accepted suits.sound.is_map suits.sound.generalised (one_match app.map app.rule app.hooks place place suits.accepted.in_range suits.accepted.incidence matched matched) matched.embedded.live

    both : AreLikeResults app.rule app.map app.map place place (unvalued after) (unvalued end)
    both = results_like app.rule app.hooks app.map app.map place place like suits.of_schema matched (unvalued after) (unvalued end) is.unfolded unfolded

    result_alike : IsResult app place end
    result_alike = record {
      schema = sym alike.schema ∙ is.schema;
      unfolded = unfolded;
      values = λ e d embed at live.
          let old = (alike.same.darts d).1 live in
          subst (IsValueAfter app.map app.rule place end.alpha e (type_of embed) (GivesValue app place e) d)
          (alike.values e d embed (subst (λ (s : Schema). IsEmbedAt s e embed) (sym is.schema) at) old)
          (value_after_there app.rule app.hooks app.params app.map app.map place place (unvalued after) (unvalued end) both e d embed (after.value e d) at old (is.values e d embed at old));
    }

  pub done_alike : (added removed : ℕ) → IsDone app after added removed → IsDone app end added removed
  done_alike added removed done = record {
    place = done.place;
    ready = done.ready;
    result_is = result_alike done.place done.ready.matched done.result_is;
    added_is = done.added_is;
    removed_is = done.removed_is;
  }
