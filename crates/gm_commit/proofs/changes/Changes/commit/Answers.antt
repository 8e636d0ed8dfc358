use Rattle.std.proofs.Common.{◌≡◌, ℕ, ◌+◌, ◌*◌, ◌≤◌, [], length, drop, refl, ap, ◌∙◌, subst, arith}
use Rattle.gm_commit.specs.inner.InstanceEdits.{told_by, made_in}
use Rattle.gm_commit.specs.inner.EditLists.{EditLists, AreEditsOf, HasSameRows}
use Rattle.gm_pending.specs.inner.Results.{PendingOf, rule_in}
use Rattle.gm_commit.specs.inner.OldDartValues.{values_told}
use Rattle.gm_commit.specs.inner.WrittenMap.{IsExtended, end_at, with_arcs, with_values}
use Rattle.gm_commit.proofs.on_commit.StagesInArena.{freeing, removing, adding_long, adding_values, adding_names, adding_room, linking, setting, committed, IsCommitted}
use Rattle.gm_commit.proofs.on_rewrite.SlotTable.{with_made}
use Rattle.gm_commit.proofs.changes.Changes.commit.Given.{Over}
use Rattle.gm_commit.proofs.changes.Changes.commit.Goals as goal

few_in_all : (start edits values dim instances reached : ℕ) → edits ≤ 4 * ((dim + 1) * instances) → values ≤ reached → start + edits + values ≤ start + 4 * (dim + 1) * (instances + reached + 1)
few_in_all start edits values dim instances reached few fewer =
    let whole : 4 * (dim + 1) * (instances + reached + 1) ≡ 4 * ((dim + 1) * instances) + 4 * ((dim + 1) * reached) + 4 * (dim + 1) = grind arith in
    let once : reached ≤ (dim + 1) * reached = grind arith in
    omega (arith, whole, once)

pub clear-requires : goal.clear-requires
clear-requires g c =
    let edits = c.requires.edits in
    let lists = ap (λ (e : EditLists). e.freed) c.self.view_is in
    let gone = ap (λ (e : EditLists). e.removed) c.self.view_is in
    record {
      slots = c.deref.ensures.value ∙ c.self.invariant.0;
      freed = rw lists (freeing edits.0 c.args.self c.args.arena.now edits.1 edits.2);
      removed = rw (lists, gone) (removing edits.0 c.args.self c.args.arena.now edits.1 edits.2 (with_arcs (end_at c.args.arena.now []) c.args.arena.now c.args.self.freed) refl);
    }

pub add_darts-requires : goal.add_darts-requires
add_darts-requires g c =
    let edits = c.requires.edits in
    let freed = with_arcs (end_at c.args.arena.now []) c.args.arena.now c.args.self.freed in
    let is_fewer = rw (ap (λ (e : EditLists). e.freed) c.self.view_is, ap (λ (e : EditLists). e.removed) c.self.view_is) at c.clear.ensures.map in
    record {
      long = rw (ap (λ (e : EditLists). e.added) c.self.view_is, c.deref-2.ensures.value, ap (λ (e : EditLists). e.added_values) c.self.view_is) (adding_long edits.0 c.args.self c.args.arena.now edits.1 edits.2 freed refl c.clear.new.arena is_fewer);
      values = rw (ap (λ (e : EditLists). e.added) c.self.view_is, c.deref-2.ensures.value, ap (λ (e : EditLists). e.added_values) c.self.view_is) (adding_values edits.0 c.args.self c.args.arena.now edits.1 edits.2 freed refl c.clear.new.arena is_fewer);
      names = rw (ap (λ (e : EditLists). e.added) c.self.view_is) (adding_names edits.0 c.args.self c.args.arena.now edits.1 edits.2 freed refl c.clear.new.arena is_fewer c.requires.names);
      room = rw (ap (λ (e : EditLists). e.added) c.self.view_is) (adding_room edits.0 c.args.self c.args.arena.now edits.1 edits.2 freed refl c.clear.new.arena is_fewer c.requires.room);
      capacity = c.self.invariant.1;
    }

pub write-requires : goal.write-requires
write-requires g c =
    let edits = c.requires.edits in
    let freed = with_arcs (end_at c.args.arena.now []) c.args.arena.now c.args.self.freed in
    let is_fewer = rw (ap (λ (e : EditLists). e.freed) c.self.view_is, ap (λ (e : EditLists). e.removed) c.self.view_is) at c.clear.ensures.map in
    let long : length (drop (length c.self.inside.slots.items) c.add_darts.new.slots.items) ≡ c.args.self.added = c.add_darts.ensures.made ∙ ap (λ (e : EditLists). e.added) c.self.view_is in
    let more = c.add_darts.new.arena in
    let is_more : IsExtended c.clear.new.arena c.args.self.added_values (drop (length c.self.inside.slots.items) c.add_darts.new.slots.items) more = subst (λ values. IsExtended c.clear.new.arena values (drop (length c.self.inside.slots.items) c.add_darts.new.slots.items) more) (c.deref-2.ensures.value ∙ ap (λ (e : EditLists). e.added_values) c.self.view_is) c.add_darts.ensures.map in
    let with = with_made (told_by c.self.inside.rewrite) c.self.inside.slots.items c.add_darts.new.slots.items c.deref-3.result.now c.self.invariant.0 c.add_darts.ensures.slots c.deref-3.ensures.value in
    record {
      slots = with.1;
      arcs = rw (ap (λ (e : EditLists). e.arcs) c.self.view_is, with.0) (linking edits.0 c.args.self c.args.arena.now edits.1 edits.2 freed refl c.clear.new.arena is_fewer (drop (length c.self.inside.slots.items) c.add_darts.new.slots.items) more is_more long);
    }

pub set_values-requires : goal.set_values-requires
set_values-requires g c =
    let edits = c.requires.edits in
    let freed = with_arcs (end_at c.args.arena.now []) c.args.arena.now c.args.self.freed in
    let is_fewer = rw (ap (λ (e : EditLists). e.freed) c.self.view_is, ap (λ (e : EditLists). e.removed) c.self.view_is) at c.clear.ensures.map in
    let long : length (drop (length c.self.inside.slots.items) c.add_darts.new.slots.items) ≡ c.args.self.added = c.add_darts.ensures.made ∙ ap (λ (e : EditLists). e.added) c.self.view_is in
    let more = c.add_darts.new.arena in
    let is_more : IsExtended c.clear.new.arena c.args.self.added_values (drop (length c.self.inside.slots.items) c.add_darts.new.slots.items) more = subst (λ values. IsExtended c.clear.new.arena values (drop (length c.self.inside.slots.items) c.add_darts.new.slots.items) more) (c.deref-2.ensures.value ∙ ap (λ (e : EditLists). e.added_values) c.self.view_is) c.add_darts.ensures.map in
    let is_linked : c.write.new.arena ≡ with_arcs (end_at more (drop (length c.self.inside.slots.items) c.add_darts.new.slots.items)) more c.args.self.arcs = c.write.ensures.map
    ∙ ap (λ arcs. with_arcs (end_at more (made_in (told_by c.self.inside.rewrite) c.deref-3.result.now)) more arcs) (ap (λ (e : EditLists). e.arcs) c.self.view_is)
    ∙ ap (λ made. with_arcs (end_at more made) more c.args.self.arcs) (with_made (told_by c.self.inside.rewrite) c.self.inside.slots.items c.add_darts.new.slots.items c.deref-3.result.now c.self.invariant.0 c.add_darts.ensures.slots c.deref-3.ensures.value).0 in
    record {
      few = rw c.deref-4.ensures.value c.self.invariant.3;
      settable = rw (c.deref-4.ensures.value, ap (λ (e : EditLists). e.values) c.self.view_is) (setting edits.0 c.args.self c.args.arena.now edits.1 edits.2 freed refl c.clear.new.arena is_fewer (drop (length c.self.inside.slots.items) c.add_darts.new.slots.items) more is_more long c.write.new.arena is_linked);
    }

-- what the stages leave, of whichever application the edits are
done : (g : Over) (c : goal.After-drop-added_values g) (app : PendingOf) → HasSameRows app.map c.args.arena.now → AreEditsOf app c.args.self → IsCommitted app c.args.self c.args.arena.now c.set_values.new.arena
done g c app same ok =
    let freed = with_arcs (end_at c.args.arena.now []) c.args.arena.now c.args.self.freed in
    let is_fewer = rw (ap (λ (e : EditLists). e.freed) c.self.view_is, ap (λ (e : EditLists). e.removed) c.self.view_is) at c.clear.ensures.map in
    let long : length (drop (length c.self.inside.slots.items) c.add_darts.new.slots.items) ≡ c.args.self.added = c.add_darts.ensures.made ∙ ap (λ (e : EditLists). e.added) c.self.view_is in
    let more = c.add_darts.new.arena in
    let is_more : IsExtended c.clear.new.arena c.args.self.added_values (drop (length c.self.inside.slots.items) c.add_darts.new.slots.items) more = subst (λ values. IsExtended c.clear.new.arena values (drop (length c.self.inside.slots.items) c.add_darts.new.slots.items) more) (c.deref-2.ensures.value ∙ ap (λ (e : EditLists). e.added_values) c.self.view_is) c.add_darts.ensures.map in
    let is_linked : c.write.new.arena ≡ with_arcs (end_at more (drop (length c.self.inside.slots.items) c.add_darts.new.slots.items)) more c.args.self.arcs = c.write.ensures.map
    ∙ ap (λ arcs. with_arcs (end_at more (made_in (told_by c.self.inside.rewrite) c.deref-3.result.now)) more arcs) (ap (λ (e : EditLists). e.arcs) c.self.view_is)
    ∙ ap (λ made. with_arcs (end_at more made) more c.args.self.arcs) (with_made (told_by c.self.inside.rewrite) c.self.inside.slots.items c.add_darts.new.slots.items c.deref-3.result.now c.self.invariant.0 c.add_darts.ensures.slots c.deref-3.ensures.value).0 in
    let is_valued : c.set_values.new.arena ≡ with_values c.write.new.arena c.args.self.values = c.set_values.ensures.map ∙ ap (with_values c.write.new.arena) (ap values_told c.deref-4.ensures.value ∙ ap (λ (e : EditLists). e.values) c.self.view_is) in
    committed app c.args.self c.args.arena.now same ok freed refl c.clear.new.arena is_fewer (drop (length c.self.inside.slots.items) c.add_darts.new.slots.items) more is_more long c.write.new.arena is_linked c.set_values.new.arena is_valued

-- a step for each edit
total_of : (start cleared more written end freed removed added arcs values freed_told removed_told added_told arcs_told values_told : ℕ) → cleared ≡ start + freed_told + removed_told → more ≡ cleared + added_told → written ≡ more + arcs_told → end ≡ written + values_told → freed_told ≡ freed → removed_told ≡ removed → added_told ≡ added → arcs_told ≡ arcs → values_told ≡ values → end ≡ start + (freed + removed + added + arcs) + values
total_of start cleared more written end freed removed added arcs values freed_told removed_told added_told arcs_told values_told a b c d e f g h i = omega arith

cost_told : (start freed removed added arcs values end : ℕ) → end ≡ start + (freed + removed + added + arcs) + values → end ≡ start + (freed + removed + added + arcs + values)
cost_told start freed removed added arcs values end is = omega arith

least_told : (start freed removed added arcs values end : ℕ) → end ≡ start + (freed + removed + added + arcs) + values → start + added + removed ≤ end
least_told start freed removed added arcs values end is = omega arith

pub returns : goal.returns
returns g c =
    let edits = c.requires.edits in
    let all = done g c edits.0 edits.1 edits.2 in
    let total : c.set_values.new.steps ≡ c.args.steps.now + (length c.args.self.freed + length c.args.self.removed + c.args.self.added + length c.args.self.arcs) + length c.args.self.values =
    total_of c.args.steps.now _ _ _ c.set_values.new.steps _ _ _ _ _ _ _ _ _ _ c.clear.ensures.cost c.add_darts.ensures.cost c.write.ensures.cost c.set_values.ensures.cost
    (ap (λ (e : EditLists). length e.freed) c.self.view_is) (ap (λ (e : EditLists). length e.removed) c.self.view_is) (ap (λ (e : EditLists). e.added) c.self.view_is) (ap (λ (e : EditLists). length e.arcs) c.self.view_is)
    (ap length (ap values_told c.deref-4.ensures.value ∙ ap (λ (e : EditLists). e.values) c.self.view_is)) in
    record {
      unfolded = λ app same ok. (done g c app same ok).result;
      generalised = all.generalised;
      elsewhere = all.elsewhere;
      schema = all.schema;
      count = all.count;
      spare = all.spare;
      reserved = all.reserved;
      cost = cost_told c.args.steps.now (length c.args.self.freed) (length c.args.self.removed) c.args.self.added (length c.args.self.arcs) (length c.args.self.values) _ total;
      most = λ app reached ok sum. rw total (few_in_all c.args.steps.now _ (length c.args.self.values) app.map.schema.dim (length (rule_in app).nodes * app.placed.positions) reached ok.few (ok.values.few reached sum));
      least = least_told c.args.steps.now (length c.args.self.freed) (length c.args.self.removed) c.args.self.added (length c.args.self.arcs) (length c.args.self.values) _ total;
    }
