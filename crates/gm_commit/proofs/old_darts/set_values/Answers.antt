use Rattle.std.proofs.Common.{◌≡◌, ◌+◌, List, [], drop, get_or, length, refl, sym, ap, ap₂, ◌∙◌, subst, arith, Contains}
use Rattle.std.proofs.lemmas.List.{at_drop_all, length-append}
use Rattle.gm_arena.specs.inner.ArenaMap.{ArenaMap}
use Rattle.gm_commit.specs.declared.changes.ValueAt.{ValueAt}
use Rattle.gm_commit.specs.inner.OldDartValues.{told_from, told_in, told_of, values_told}
use Rattle.gm_commit.specs.inner.WrittenMap.{with_values}
use Rattle.gm_commit.proofs.on_old_darts.ValuesOfOrbits.{told_next, told_within, with_values_append}
use Rattle.gm_commit.proofs.on_old_darts.AfterValues.{values_frame}
use Rattle.gm_commit.proofs.old_darts.set_values.Goals as goal
use Rattle.gm_commit.proofs.old_darts.set_values.Goals.{in-Some, in_default}

pub loop-embed-init : goal.loop-embed-init
loop-embed-init g c = record { slots = refl; schema = refl; rest = refl; cost = refl }

pub set_values_of-requires : goal.set_values_of-requires
set_values_of-requires g c at among =
    let e = c.loop-embed.embed in
    let told = subst (λ o. Contains (told_in e o) at) (sym c.in-Some.is ∙ c.index-by_embed-embed.is) (rw (← c.deref.ensures, ← c.as_slice.ensures.reached) among) in
    let fit = c.requires.settable at (told_within c.args.by_embed.now e c.index-by_embed-embed.result at c.loop-embed-test.true told) in
    record {
      live = rw c.loop-embed.invariant.slots fit.live;
      embed = fit.embed;
      embed_at = rw c.loop-embed.invariant.schema fit.embed_at;
      value = fit.value;
    }

pub loop-embed-preserved : goal.loop-embed-preserved
loop-embed-preserved g c =
    let orbits = c.args.by_embed.now in
    let e = c.loop-embed.embed in
    let m = c.loop-embed.arena in
    let now = c.loop-embed.invariant in
    let here = get_or orbits e c.index-by_embed-embed.result in
    let later = told_from (e + 1) (drop (e + 1) orbits) in
    let next = told_next orbits e c.index-by_embed-embed.result c.loop-embed-test.true in
    let again : with_values (with_values m (told_in e here)) later ≡ with_values c.args.arena.now (values_told orbits) = sym (with_values_append m (told_in e here) later) ∙ ap (with_values m) (sym next) ∙ now.rest in
    elim c.match-by_embed-embed.branch [
      | in-Some w ↦
          let told : told_in e here ≡ told_of e w.deref.result.now w.as_slice.result.now = ap (told_in e) (sym c.index-by_embed-embed.is ∙ w.in-Some.is) ∙ sym (ap₂ (told_of e) w.deref.ensures w.as_slice.ensures.reached) in
          let is : c.match-by_embed-embed.arena ≡ with_values m (told_in e here) = w.arena-is ∙ w.set_values_of.ensures.map ∙ ap (with_values m) (sym told) in
          record {
            slots = ap (λ (n : ArenaMap). n.slots) is ∙ ap (λ (n : ArenaMap). n.slots) (values_frame (told_in e here) m) ∙ now.slots;
            schema = ap (λ (n : ArenaMap). n.schema) is ∙ ap (λ (n : ArenaMap). n.schema) (values_frame (told_in e here) m) ∙ now.schema;
            rest = ap (λ n. with_values n later) is ∙ again;
            cost = omega (arith, now.cost, ap (λ (list : List ValueAt). length list) next, length-append (told_in e here) later, ap (λ (list : List ValueAt). length list) told, w.steps-is, w.set_values_of.ensures.cost);
          }
      | in_default w ↦
          let none : told_in e here ≡ [] = ap (told_in e) (sym c.index-by_embed-embed.is ∙ w.in_default.is) in
          record {
            slots = ap (λ (n : ArenaMap). n.slots) w.arena-is ∙ now.slots;
            schema = ap (λ (n : ArenaMap). n.schema) w.arena-is ∙ now.schema;
            rest = ap (λ n. with_values n later) w.arena-is ∙ ap (λ list. with_values (with_values m list) later) (sym none) ∙ again;
            cost = omega (arith, now.cost, ap (λ (list : List ValueAt). length list) next, length-append (told_in e here) later, ap (λ (list : List ValueAt). length list) none, w.steps-is);
          }
    ]

pub returns-clause-map : goal.returns-clause-map
returns-clause-map g c = sym (at_drop_all (λ orbits. with_values c.loop-embed.arena (told_from c.loop-embed.embed orbits)) c.args.by_embed.now c.loop-embed.embed c.loop-embed-test.false) ∙ c.loop-embed.invariant.rest

pub returns-clause-cost : goal.returns-clause-cost
returns-clause-cost g c = omega (arith, c.loop-embed.invariant.cost, at_drop_all (λ orbits. length (told_from c.loop-embed.embed orbits)) c.args.by_embed.now c.loop-embed.embed c.loop-embed-test.false)
