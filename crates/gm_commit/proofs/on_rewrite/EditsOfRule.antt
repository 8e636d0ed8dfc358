-- The edits that are told, one after another, are those of the application.
use Rattle.std.proofs.Common.{◌≡◌, ℕ, zero, suc, ◌+◌, ◌*◌, ◌<◌, ◌≤◌, ◌⊎◌, not, false, ◌&&◌, List, [], ◌∷◌, length, Option, Some, None, IsTrue, refl, sym, ap, ◌∙◌, subst, inl, inr, arith, length-append}
use Rattle.std.specs.List.{Contains}
use Rattle.std.specs.Option.{option_map}
use Rattle.std.proofs.lemmas.Bool.{cases_lt, lt-ltb, le-ltb}
use Rattle.std.proofs.lemmas.Nat.{mul-le}
use Rattle.std.proofs.lemmas.Option.{none-some, same_Some}
use Rattle.gm_model.specs.declared.rule.Side.TheVariants.{Left, Right}
use Rattle.gm_model.specs.declared.step.Step.{Step}
use Rattle.gm_model.specs.declared.step.Step.TheVariants.{Absent, Exp, Imp}
use Rattle.gm_model.specs.Rules.{has_word, is_added, is_removed, step}
use Rattle.gm_model.specs.Unfolding.{IsStep, IsGone, IsCutAt, IsMadeArc, added_before, added_nodes}
use Rattle.gm_arena.specs.declared.slot.Slot.{Slot}
use Rattle.gm_arena.specs.inner.ArenaMap.{IsLiveSlot, name_at, alpha}
use Rattle.gm_plan.specs.inner.Changes.{is_same, is_steady, freed_by}
use Rattle.gm_plan.specs.inner.Counts.{removed_before, removed_nodes}
use Rattle.gm_plan.specs.inner.InArena.{slot_number}
use Rattle.gm_plan.specs.inner.Placed.{turn_at}
use Rattle.gm_theory.proofs.RuleSteps.{word_below}
use Rattle.gm_theory.proofs.Arcs.{kept_name}
use Rattle.gm_theory.proofs.Tests.{both_true, and_true, true_not, true_or_false}
use Rattle.gm_commit.specs.inner.Arcs.{Arc}
use Rattle.gm_commit.specs.inner.Arcs.End.{Old}
use Rattle.gm_commit.specs.declared.rewrite.Arcs.{Arcs}
use Rattle.gm_commit.specs.declared.rewrite.Arcs.TheVariants.{Freed, Made}
use Rattle.gm_commit.specs.inner.InstanceEdits.{RewriteOf, as_list, concat_below, slot_in, rewrite_of, end_of, labels, leads_to, written_step, arc_between, left_slots, left_slots_of, arc_by, arc_at, arcs_at, arcs_in, all_arcs, removed_at, removed_of, removed_in, all_removed}
use Rattle.gm_commit.specs.inner.EditLists.{EditLists, AreAddedValues, AreArcs, AreDistinct, AreNewValues, AreRemoved, AreEditsOf, AreMatchedIn, IsOldEnd, IsResultEnd, IsFreed, IsThere, IsNewArc, end_name}
use Rattle.gm_pending.specs.inner.Results.{PendingOf, IsPrepared, IsRightInstance, rule_in, scene_in}
use Rattle.gm_commit.proofs.on_rewrite.JoinedLists.{concat_contains, contains_concat, list_contains, contains_list, length_concat, length_same, length_list, distinct_concat, distinct_list}
use Rattle.gm_commit.proofs.on_rewrite.EndsOfInstances.{right_end}
use Rattle.gm_pending.proofs.on_pending.PreparedIsLawful.{law}
use Rattle.gm_pending.proofs.on_pending.SteadyArcs.{steady_there}
use Rattle.gm_commit.proofs.on_rewrite.SlotTable.{left_long}
use Rattle.gm_commit.proofs.ListMembers.{contains_first}

-- at most four entries for each label of an instance
few_numbers : (k count dim adds removes freed removed added made : ℕ) → freed ≤ count * ((dim + 1) * (k * 1)) → made ≤ count * ((dim + 1) * (k * 1)) → removed ≡ k * removes → added ≡ k * adds → removes ≤ count → adds ≤ count →
    freed + removed + added + made ≤ 4 * ((dim + 1) * (count * k))
few_numbers k count dim adds removes freed removed added made f m r a fewer fewer' =
    let whole : count * ((dim + 1) * (k * 1)) ≡ (dim + 1) * (count * k) = grind arith in
    let gone : k * removes ≤ count * k = grind arith in
    let come : k * adds ≤ count * k = grind arith in
    let once : count * k ≤ (dim + 1) * (count * k) = grind arith in
    omega (arith, whole, gone, come, once)

module _ (app : PendingOf) (prepared : IsPrepared app) where
  abbrev count : ℕ
  count = length (rule_in app).nodes

  abbrev pub rewrite : RewriteOf
  rewrite = rewrite_of app

  -- ---- where an arc of the list stands

  abbrev IsTold : Arcs → Arc → Type 0
  IsTold arcs arc = (x : ℕ) × (i : ℕ) × (p : ℕ) × (i < labels rewrite) × (p < app.placed.positions) × (arc_at rewrite arcs x i p ≡ Some arc)

  told : (arcs : Arcs) (arc : Arc) → Contains (all_arcs rewrite arcs) arc → IsTold arcs arc
  told arcs arc among =
      let node = concat_contains (arcs_in rewrite arcs) count arc among in
      let label = concat_contains (arcs_at rewrite arcs node.0) (labels rewrite) arc node.2 in
      let position = concat_contains (λ p. as_list (arc_at rewrite arcs node.0 label.0 p)) app.placed.positions arc label.2 in
      (node.0, label.0, position.0, label.1, position.1, list_contains (arc_at rewrite arcs node.0 label.0 position.0) arc position.2)

  listed : (arcs : Arcs) (x i p : ℕ) (arc : Arc) → x < count → i ≤ app.map.schema.dim → p < app.placed.positions → arc_at rewrite arcs x i p ≡ Some arc → Contains (all_arcs rewrite arcs) arc
  listed arcs x i p arc n h b e =
      contains_concat (arcs_in rewrite arcs) count x arc n
      (contains_concat (arcs_at rewrite arcs x) (labels rewrite) i arc (omega arith)
      (contains_concat (λ q. as_list (arc_at rewrite arcs x i q)) app.placed.positions p arc b
      (contains_list (arc_at rewrite arcs x i p) arc e)))

  -- ---- the arcs that are freed

  pub record IsFreedFrom (arc : Arc) : Type 0 where
    pub node : ℕ
    pub position : ℕ
    pub left : IsTrue (has_word (rule_in app) Left node)
    pub within : position < app.placed.positions
    pub label : arc.label ≤ app.map.schema.dim
    pub step : IsStep (step (rule_in app) Left node arc.label)
    pub gone : IsGone (scene_in app) (alpha app.map arc.label ((scene_in app).dart_of node position))
    pub from : arc.from ≡ Old (slot_in app.placed node position)
    pub to : arc.to ≡ Old (slot_in app.placed node position)

  abbrev freed_arc : ℕ → ℕ → ℕ → Arc
  freed_arc x p i = record { from = Old (slot_in app.placed x p); label = i; to = Old (slot_in app.placed x p) }

  freed_is : (x p i : ℕ) → IsTrue (has_word (rule_in app) Left x) → freed_arc x p i ≡ record { from = end_of rewrite x p; label = i; to = end_of rewrite x p }
  freed_is x p i l = rw (lt-ltb x app.placed.nodes ((prepared.matched.nodes x).0 l)) refl

  freed_from : (arc : Arc) → IsTold Freed arc → IsFreedFrom arc
  freed_from arc (x, i, p, h, b, e) = go (true_or_false (has_word (rule_in app) Left x))
    where
      within : i ≤ app.map.schema.dim
      within = omega arith

      is : IsTrue (has_word (rule_in app) Left x) → IsStep (step (rule_in app) Left x i) → IsGone (scene_in app) (alpha app.map i ((scene_in app).dart_of x p)) → Some (record { from = end_of rewrite x p; label = i; to = end_of rewrite x p }) ≡ Some arc → IsFreedFrom arc
      is l s gone g = subst IsFreedFrom (freed_is x p i l ∙ same_Some _ arc g) (record { node = x; position = p; left = l; within = b; label = within; step = s; gone = gone; from = refl; to = refl })

      by : IsTrue (has_word (rule_in app) Left x) → (s : Step) → step (rule_in app) Left x i ≡ s → arc_by rewrite Freed x p i (freed_by (rule_in app) x s) ≡ Some arc → IsFreedFrom arc
      by l Absent f g = absurd (none-some arc g)
      by l (Exp y) f g = elim (true_or_false (is_removed (rule_in app) y)) [
        | inl r ↦ is l (rw f tt) (y, p, r, b, (law app prepared).darts.links x p i y (l, b) within f) (rw r at g)
        | inr a ↦ absurd (none-some arc (rw a at g))
      ]
      by l (Imp m) f g = elim (true_or_false (is_removed (rule_in app) x)) [
        | inl r ↦ is l (rw f tt) (x, turn_at app.placed p m, r, (law app prepared).turns.within p m b ((law app prepared).steps.left_place x i m l f), (law app prepared).darts.letters x p i m (l, b) within f) (rw r at g)
        | inr a ↦ absurd (none-some arc (rw a at g))
      ]

      go : IsTrue (has_word (rule_in app) Left x) ⊎ (has_word (rule_in app) Left x ≡ false) → IsFreedFrom arc
      go (inl l) = by l (step (rule_in app) Left x i) refl (rw l at e)
      go (inr a) = absurd (none-some arc (rw a at e))

  removed_left : (x : ℕ) → IsTrue (is_removed (rule_in app) x) → IsTrue (has_word (rule_in app) Left x)
  removed_left x r = (both_true (has_word (rule_in app) Left x) (not (has_word (rule_in app) Right x)) r).0

  -- an arc that is cut and led to a dart that goes has its entry
  freed_entry : (d i e : ℕ) → IsFreed app d i e → (arc : Arc) × Contains (all_arcs rewrite Freed) arc × (end_name app arc.from ≡ d) × (arc.label ≡ i)
  freed_entry d i e f = go f.cut f.gone
    where
      go : IsCutAt (scene_in app) d i → IsGone (scene_in app) (alpha app.map i d) → (arc : Arc) × Contains (all_arcs rewrite Freed) arc × (end_name app arc.from ≡ d) × (arc.label ≡ i)
      go (x, p, l, b, s, from) (z, q, r, c, to) = (freed_arc x p i, listed Freed x i p (freed_arc x p i) (word_below (rule_in app) Left x l) f.label b (rw l (by (step (rule_in app) Left x i) refl)), sym from, refl)
        where
          goes : (y t : ℕ) → IsTrue (has_word (rule_in app) Left y) → t < app.placed.positions → alpha app.map i ((scene_in app).dart_of x p) ≡ (scene_in app).dart_of y t → IsTrue (is_removed (rule_in app) y)
          goes y t ly bt leads =
              let same : (y ≡ z) × (t ≡ q) = (law app prepared).darts.injective y t z q (ly, bt) (removed_left z r, c) (sym leads ∙ ap (alpha app.map i) (sym from) ∙ to) in
              subst (λ n. IsTrue (is_removed (rule_in app) n)) (sym same.0) r

          by : (t : Step) → step (rule_in app) Left x i ≡ t → arc_by rewrite Freed x p i (freed_by (rule_in app) x t) ≡ Some (freed_arc x p i)
          by Absent g = absurd (rw g at s)
          by (Exp y) g =
              let there : IsTrue (is_removed (rule_in app) y) = goes y p ((law app prepared).steps.left_back x i y l f.label g).0 b ((law app prepared).darts.links x p i y (l, b) f.label g) in
              rw there (ap Some (sym (freed_is x p i l)))
          by (Imp m) g =
              let there : IsTrue (is_removed (rule_in app) x) = goes x (turn_at app.placed p m) l ((law app prepared).turns.within p m b ((law app prepared).steps.left_place x i m l g)) ((law app prepared).darts.letters x p i m (l, b) f.label g) in
              rw there (ap Some (sym (freed_is x p i l)))

  freed_good : (arc : Arc) → IsFreedFrom arc → IsFreed app (end_name app arc.from) arc.label (end_name app arc.to)
  freed_good arc f =
      let here = Old (slot_in app.placed f.node f.position) in
      subst (λ a. IsFreed app (end_name app a) arc.label (end_name app arc.to)) (sym f.from)
      (subst (λ b. IsFreed app (end_name app here) arc.label (end_name app b)) (sym f.to) (record { cut = (f.node, f.position, f.left, f.within, f.step, refl); gone = f.gone; label = f.label; back = refl }))

  pub are_freed : AreArcs app (IsOldEnd app) (IsFreed app) (IsFreed app) (all_arcs rewrite Freed)
  are_freed = record {
    ends = λ arc among.
        let f = freed_from arc (told Freed arc among) in
        let live : IsLiveSlot app.map (slot_number app.placed f.node f.position) = prepared.matched.live f.node f.position ((prepared.matched.nodes f.node).0 f.left) f.within in
        (rw f.from live, rw f.to live);
    labels = λ arc among. (freed_from arc (told Freed arc among)).label;
    good = λ arc among. freed_good arc (freed_from arc (told Freed arc among));
    needed = freed_entry;
  }

  -- ---- the arcs that are made

  pub record IsMadeFrom (arc : Arc) : Type 0 where
    pub node : ℕ
    pub position : ℕ
    pub right : IsRightInstance app node position
    pub label : arc.label ≤ app.map.schema.dim
    pub ends : IsResultEnd app arc.from × IsResultEnd app arc.to
    pub made : IsMadeArc (scene_in app) (end_name app arc.from) arc.label (end_name app arc.to)

  made_from : (arc : Arc) → IsTold Made arc → IsMadeFrom arc
  made_from arc (x, i, p, h, b, e) = go (true_or_false (has_word (rule_in app) Right x && not (is_steady (rule_in app) x i)))
    where
      within : i ≤ app.map.schema.dim
      within = omega arith

      by : (r : IsTrue (has_word (rule_in app) Right x)) → (s : Step) → step (rule_in app) Right x i ≡ s → arc_by rewrite Made x p i s ≡ Some arc → IsMadeFrom arc
      by r Absent f g = absurd (none-some arc g)
      by r (Exp y) f g =
          let here = right_end app prepared x p (r, b) in
          let there = right_end app prepared y p (((law app prepared).steps.right_back x i y r within f).0, b) in
          subst IsMadeFrom (same_Some (record { from = end_of rewrite x p; label = i; to = end_of rewrite y p }) arc g) (record {
            node = x;
            position = p;
            right = (r, b);
            label = within;
            ends = (here.0, there.0);
            made = record { node = x; position = p; right = r; within = b; label = within; from = here.1; leads = rw f there.1 };
          })
      by r (Imp m) f g =
          let here = right_end app prepared x p (r, b) in
          let turned : turn_at app.placed p m < app.placed.positions = (law app prepared).turns.within p m b ((law app prepared).steps.right_place x i m r f) in
          let there = right_end app prepared x (turn_at app.placed p m) (r, turned) in
          subst IsMadeFrom (same_Some (record { from = end_of rewrite x p; label = i; to = end_of rewrite x (turn_at app.placed p m) }) arc g) (record {
            node = x;
            position = p;
            right = (r, b);
            label = within;
            ends = (here.0, there.0);
            made = record { node = x; position = p; right = r; within = b; label = within; from = here.1; leads = rw f there.1 };
          })

      go : IsTrue (has_word (rule_in app) Right x && not (is_steady (rule_in app) x i)) ⊎ (has_word (rule_in app) Right x && not (is_steady (rule_in app) x i) ≡ false) → IsMadeFrom arc
      go (inl w) = by (both_true (has_word (rule_in app) Right x) (not (is_steady (rule_in app) x i)) w).0 (step (rule_in app) Right x i) refl (rw w at e)
      go (inr a) = absurd (none-some arc (rw a at e))

  -- each arc of a right step that isn't there has its entry
  made_entry : (d i e : ℕ) → IsNewArc app d i e → (arc : Arc) × Contains (all_arcs rewrite Made) arc × (end_name app arc.from ≡ d) × (arc.label ≡ i)
  made_entry d i e (made, new) = elim (true_or_false (is_steady (rule_in app) made.node i)) [
    | inl steady ↦ absurd (new (steady_there app prepared d i e made steady))
    | inr moves ↦ by moves (step (rule_in app) Right made.node i) refl
  ]
    where
      from : end_name app (end_of rewrite made.node made.position) ≡ d
      from = (right_end app prepared made.node made.position (made.right, made.within)).1 ∙ sym made.from

      entry : is_steady (rule_in app) made.node i ≡ false → (arc : Arc) → arc.from ≡ end_of rewrite made.node made.position → arc.label ≡ i → arc_by rewrite Made made.node made.position i (step (rule_in app) Right made.node i) ≡ Some arc → (arc : Arc) × Contains (all_arcs rewrite Made) arc × (end_name app arc.from ≡ d) × (arc.label ≡ i)
      entry moves arc begins label is = (
        arc,
        listed Made made.node i made.position arc (word_below (rule_in app) Right made.node made.right) made.label made.within
            (rw (and_true (has_word (rule_in app) Right made.node) (not (is_steady (rule_in app) made.node i)) made.right (true_not (is_steady (rule_in app) made.node i) moves)) is),
        ap (end_name app) begins ∙ from,
        label,
      )

      by : is_steady (rule_in app) made.node i ≡ false → (s : Step) → step (rule_in app) Right made.node i ≡ s → (arc : Arc) × Contains (all_arcs rewrite Made) arc × (end_name app arc.from ≡ d) × (arc.label ≡ i)
      by moves Absent f = absurd (rw f at made.leads)
      by moves (Exp y) f = entry moves (record { from = end_of rewrite made.node made.position; label = i; to = end_of rewrite y made.position }) refl refl (rw f refl)
      by moves (Imp m) f = entry moves (record { from = end_of rewrite made.node made.position; label = i; to = end_of rewrite made.node (turn_at app.placed made.position m) }) refl refl (rw f refl)

  pub are_made : AreArcs app (IsResultEnd app) (IsMadeArc (scene_in app)) (IsNewArc app) (all_arcs rewrite Made)
  are_made = record {
    ends = λ arc among. (made_from arc (told Made arc among)).ends;
    labels = λ arc among. (made_from arc (told Made arc among)).label;
    good = λ arc among. (made_from arc (told Made arc among)).made;
    needed = made_entry;
  }

  -- ---- the darts that are removed

  pub record IsRemovedFrom (x p : ℕ) (slot : Slot) : Type 0 where
    pub removed : IsTrue (is_removed (rule_in app) x)
    pub is : slot ≡ slot_in app.placed x p

  removed_from : (x p : ℕ) (slot : Slot) → removed_at (rewrite_of app) x p ≡ Some slot → IsRemovedFrom x p slot
  removed_from x p slot e = go (true_or_false (is_removed (rule_in app) x))
    where
      go : IsTrue (is_removed (rule_in app) x) ⊎ (is_removed (rule_in app) x ≡ false) → IsRemovedFrom x p slot
      go (inl r) = record { removed = r; is = sym (same_Some (slot_in app.placed x p) slot (rw r at e)) }
      go (inr a) = absurd (none-some slot (rw a at e))

  removed_among : (slot : Slot) → Contains (all_removed (rewrite_of app)) slot → (x : ℕ) × (p : ℕ) × (p < app.placed.positions) × IsRemovedFrom x p slot
  removed_among slot among =
      let node = concat_contains (removed_in (rewrite_of app)) count slot among in
      let position = concat_contains (removed_of (rewrite_of app) node.0) app.placed.positions slot node.2 in
      (node.0, position.0, position.1, removed_from node.0 position.0 slot (list_contains (removed_at (rewrite_of app) node.0 position.0) slot position.2))

  removed_there : (x p : ℕ) → IsTrue (is_removed (rule_in app) x) → p < app.placed.positions → Contains (all_removed (rewrite_of app)) (slot_in app.placed x p)
  removed_there x p r b =
      contains_concat (removed_in (rewrite_of app)) count x (slot_in app.placed x p) (word_below (rule_in app) Left x (removed_left x r))
      (contains_concat (removed_of (rewrite_of app) x) app.placed.positions p (slot_in app.placed x p) b
      (contains_list (removed_at (rewrite_of app) x p) (slot_in app.placed x p) (rw r refl)))

  -- instances at one slot are one
  one_slot : (x p y q : ℕ) (s t : Slot) → IsRemovedFrom x p s → IsRemovedFrom y q t → p < app.placed.positions → q < app.placed.positions → t.at ≡ s.at → (x ≡ y) × (p ≡ q)
  one_slot x p y q s t r r' b b' e = (law app prepared).darts.injective x p y q (removed_left x r.removed, b) (removed_left y r'.removed, b')
      (ap (name_at app.map) (sym (ap (λ (z : Slot). z.at) r.is) ∙ sym e ∙ ap (λ (z : Slot). z.at) r'.is))

  distinct : AreDistinct (all_removed (rewrite_of app))
  distinct = distinct_concat (removed_in (rewrite_of app)) count
      (λ x h. distinct_concat (removed_of (rewrite_of app) x) app.placed.positions (λ p b. distinct_list (removed_at (rewrite_of app) x p)) (λ p q less b s t among among' e.
      let l : (x ≡ x) × (p ≡ q) = one_slot x p x q s t (removed_from x p s (list_contains (removed_at (rewrite_of app) x p) s among)) (removed_from x q t (list_contains (removed_at (rewrite_of app) x q) t among')) (omega arith) b e in
      omega (arith, l.1)))
      (λ x y less h s t among among' e.
      let at = concat_contains (removed_of (rewrite_of app) x) app.placed.positions s among in
      let at' = concat_contains (removed_of (rewrite_of app) y) app.placed.positions t among' in
      let l : (x ≡ y) × (at.0 ≡ at'.0) = one_slot x at.0 y at'.0 s t (removed_from x at.0 s (list_contains (removed_at (rewrite_of app) x at.0) s at.2)) (removed_from y at'.0 t (list_contains (removed_at (rewrite_of app) y at'.0) t at'.2)) at.1 at'.1 e in
      omega (arith, l.0))

  one_left : (x p y q : ℕ) (s t : Slot) → x < app.placed.nodes → y < app.placed.nodes → p < app.placed.positions → q < app.placed.positions → Contains (slot_in app.placed x p ∷ []) s → Contains (slot_in app.placed y q ∷ []) t → t.at ≡ s.at → (x ≡ y) × (p ≡ q)
  one_left x p y q s t h h' b b' among among' e =
      let s_is = same_Some _ s (list_contains (Some (slot_in app.placed x p)) s among) in
      let t_is = same_Some _ t (list_contains (Some (slot_in app.placed y q)) t among') in
      (law app prepared).darts.injective x p y q ((prepared.matched.nodes x).1 h, b) ((prepared.matched.nodes y).1 h', b')
      (ap (name_at app.map) (ap (λ (z : Slot). z.at) s_is ∙ sym e ∙ sym (ap (λ (z : Slot). z.at) t_is)))

  pub left_distinct : AreDistinct (left_slots (rewrite_of app))
  left_distinct = distinct_concat (left_slots_of (rewrite_of app)) app.placed.nodes
      (λ x h. distinct_concat (λ p. slot_in app.placed x p ∷ []) app.placed.positions (λ p b. distinct_list (Some (slot_in app.placed x p))) (λ p q less b s t among among' e.
      let l : (x ≡ x) × (p ≡ q) = one_left x p x q s t h h (omega arith) b among among' e in
      omega (arith, l.1)))
      (λ x y less h s t among among' e.
      let at = concat_contains (λ p. slot_in app.placed x p ∷ []) app.placed.positions s among in
      let at' = concat_contains (λ p. slot_in app.placed y p ∷ []) app.placed.positions t among' in
      let l : (x ≡ y) × (at.0 ≡ at'.0) = one_left x at.0 y at'.0 s t (omega arith) h at.1 at'.1 at.2 at'.2 e in
      omega (arith, l.0))

  pub are_removed : AreRemoved app (all_removed (rewrite_of app))
  are_removed = record {
    live = λ slot among.
        let r = removed_among slot among in
        let live : IsLiveSlot app.map (slot_number app.placed r.0 r.1) = prepared.matched.live r.0 r.1 ((prepared.matched.nodes r.0).0 (removed_left r.0 r.3.removed)) r.2 in
        rw r.3.is live;
    gone = λ slot among. let r = removed_among slot among in (r.0, r.1, r.3.removed, r.2, ap (λ (z : Slot). name_at app.map z.at) r.3.is);
    all = λ d gone. (slot_in app.placed gone.0 gone.1, removed_there gone.0 gone.1 gone.2 gone.3, sym gone.4);
    distinct = distinct;
  }

  -- ---- how many there are

  removed_count : (x : ℕ) → length (concat_below (removed_in (rewrite_of app)) x) ≡ app.placed.positions * removed_before (rule_in app) x
  removed_count zero = omega arith
  removed_count (suc x) = go (true_or_false (is_removed (rule_in app) x)) (removed_count x)
    where
      go : IsTrue (is_removed (rule_in app) x) ⊎ (is_removed (rule_in app) x ≡ false) → length (concat_below (removed_in (rewrite_of app)) x) ≡ app.placed.positions * removed_before (rule_in app) x → length (concat_below (removed_in (rewrite_of app)) (suc x)) ≡ app.placed.positions * removed_before (rule_in app) (suc x)
      go (inl r) earlier =
          let here : length (removed_in (rewrite_of app) x) ≡ app.placed.positions * 1 = length_same (removed_of (rewrite_of app) x) app.placed.positions 1 (λ p. rw r (omega arith)) in
          let more : removed_before (rule_in app) (suc x) ≡ removed_before (rule_in app) x + 1 = rw r refl in
          let product : app.placed.positions * removed_before (rule_in app) (suc x) ≡ app.placed.positions * removed_before (rule_in app) x + app.placed.positions = ap (λ n. app.placed.positions * n) more ∙ omega arith in
          omega (arith, length-append (concat_below (removed_in (rewrite_of app)) x) (removed_in (rewrite_of app) x), here, earlier, product)
      go (inr a) earlier =
          let here : length (removed_in (rewrite_of app) x) ≡ app.placed.positions * 0 = length_same (removed_of (rewrite_of app) x) app.placed.positions 0 (λ p. rw a refl) in
          let same : removed_before (rule_in app) (suc x) ≡ removed_before (rule_in app) x = rw a (omega arith) in
          let product : app.placed.positions * removed_before (rule_in app) (suc x) ≡ app.placed.positions * removed_before (rule_in app) x = ap (λ n. app.placed.positions * n) same in
          omega (arith, length-append (concat_below (removed_in (rewrite_of app)) x) (removed_in (rewrite_of app) x), here, earlier, product)

  few_removed : (x : ℕ) → removed_before (rule_in app) x ≤ x
  few_removed zero = omega arith
  few_removed (suc x) = go (true_or_false (is_removed (rule_in app) x)) (few_removed x)
    where
      go : IsTrue (is_removed (rule_in app) x) ⊎ (is_removed (rule_in app) x ≡ false) → removed_before (rule_in app) x ≤ x → removed_before (rule_in app) (suc x) ≤ suc x
      go (inl r) earlier = rw r (omega (arith, earlier))
      go (inr a) earlier = rw a (omega (arith, earlier))

  pub few_added : (x : ℕ) → added_before (rule_in app) x ≤ x
  few_added zero = omega arith
  few_added (suc x) = go (true_or_false (is_added (rule_in app) x)) (few_added x)
    where
      go : IsTrue (is_added (rule_in app) x) ⊎ (is_added (rule_in app) x ≡ false) → added_before (rule_in app) x ≤ x → added_before (rule_in app) (suc x) ≤ suc x
      go (inl r) earlier = rw r (omega (arith, earlier))
      go (inr a) earlier = rw a (omega (arith, earlier))

  most : (arcs : Arcs) → length (all_arcs rewrite arcs) ≤ count * (labels rewrite * (app.placed.positions * 1))
  most arcs = length_concat (arcs_in rewrite arcs) count (labels rewrite * (app.placed.positions * 1))
      (λ x. length_concat (arcs_at rewrite arcs x) (labels rewrite) (app.placed.positions * 1)
      (λ i. length_concat (λ p. as_list (arc_at rewrite arcs x i p)) app.placed.positions 1 (λ p. length_list (arc_at rewrite arcs x i p))))

  few : (added : ℕ) → added ≡ app.placed.positions * added_nodes (rule_in app) →
      length (all_arcs rewrite Freed) + length (all_removed rewrite) + added + length (all_arcs rewrite Made) ≤ 4 * ((app.map.schema.dim + 1) * (count * app.placed.positions))
  few added is = few_numbers app.placed.positions count app.map.schema.dim (added_nodes (rule_in app)) (removed_nodes (rule_in app)) _ _ added _
      (most Freed) (most Made) (removed_count count) is (few_removed count) (few_added count)

  -- ---- the darts that are matched

  matched_at : (x p : ℕ) → x < app.placed.nodes → p < app.placed.positions → Contains (left_slots rewrite) (slot_in app.placed x p)
  matched_at x p h b =
      contains_concat (left_slots_of rewrite) app.placed.nodes x (slot_in app.placed x p) h
      (contains_concat (λ q. slot_in app.placed x q ∷ []) app.placed.positions p (slot_in app.placed x p) b (contains_first (slot_in app.placed x p) []))

  matched_from : (slot : Slot) → Contains (left_slots rewrite) slot → (x : ℕ) × (p : ℕ) × (x < app.placed.nodes) × (p < app.placed.positions) × (slot ≡ slot_in app.placed x p)
  matched_from slot among =
      let node = concat_contains (left_slots_of rewrite) app.placed.nodes slot among in
      let position = concat_contains (λ q. slot_in app.placed node.0 q ∷ []) app.placed.positions slot node.2 in
      (node.0, position.0, node.1, position.1, sym (same_Some _ slot (list_contains (Some (slot_in app.placed node.0 position.0)) slot position.2)))

  source : (arcs : Arcs) (arc : Arc) → Contains (all_arcs rewrite arcs) arc → (slot : Slot) → arc.from ≡ Old slot → Contains (left_slots rewrite) slot
  source arcs arc among slot from = go (told arcs arc among)
    where
      begins : (x i p : ℕ) (to : Option (ℕ × ℕ)) → option_map (arc_between rewrite x p i) to ≡ Some arc → end_of rewrite x p ≡ arc.from
      begins x i p None e = absurd (none-some arc e)
      begins x i p (Some y) e = ap (λ (a : Arc). a.from) (same_Some (arc_between rewrite x p i y) arc e)

      go : IsTold arcs arc → Contains (left_slots rewrite) slot
      go (x, i, p, h, b, e) = elim (cases_lt x app.placed.nodes) [
        | inl l ↦
            let is : Old (slot_in app.placed x p) ≡ Old slot = rw (lt-ltb x app.placed.nodes l) at (begins x i p (leads_to rewrite arcs x p (written_step rewrite arcs x i)) e ∙ from) in
            subst (Contains (left_slots rewrite)) (old_slot is) (matched_at x p l b)
        | inr l ↦ absurd (let is = rw (le-ltb x app.placed.nodes l) at (begins x i p (leads_to rewrite arcs x p (written_step rewrite arcs x i)) e ∙ from) in cc)
      ]
        where
          old_slot : {s t : Slot} → Old s ≡ Old t → s ≡ t
          old_slot e = cc

  few_left : app.placed.nodes ≤ count
  few_left = elim (cases_lt count app.placed.nodes) [
    | inl more ↦ absurd (omega (arith, word_below (rule_in app) Left count ((prepared.matched.nodes count).1 more)))
    | inr few ↦ few
  ]

  are_matched : (edits : EditLists) → edits.matched ≡ left_slots rewrite → edits.freed ≡ all_arcs rewrite Freed → edits.removed ≡ all_removed rewrite → edits.arcs ≡ all_arcs rewrite Made → AreMatchedIn app edits
  are_matched edits matched freed removed arcs = record {
    live = λ slot among.
        let at = matched_from slot (rw matched at among) in
        let live : IsLiveSlot app.map (slot_number app.placed at.0 at.1) = prepared.matched.live at.0 at.1 at.2 at.3 in
        rw at.4 live;
    few = rw (matched, left_long rewrite) (mul-le app.placed.nodes app.placed.positions count app.placed.positions few_left (omega arith));
    freed = λ arc slot among from. rw matched (source Freed arc (rw freed at among) slot from);
    removed = λ slot among.
        let r = removed_among slot (rw removed at among) in
        rw (matched, r.3.is) (matched_at r.0 r.1 ((prepared.matched.nodes r.0).0 (removed_left r.0 r.3.removed)) r.2);
    made = λ arc slot among from. rw matched (source Made arc (rw arcs at among) slot from);
  }

  pub are_edits : (edits : EditLists) → AreAddedValues app edits.added edits.added_values → AreNewValues app edits.values → edits.matched ≡ left_slots (rewrite_of app) → edits.freed ≡ all_arcs (rewrite_of app) Freed → edits.removed ≡ all_removed (rewrite_of app) → edits.arcs ≡ all_arcs (rewrite_of app) Made → edits.added ≡ app.placed.positions * added_nodes (rule_in app) → AreEditsOf app edits
  are_edits edits added_values values matched freed removed arcs added = record {
    prepared = prepared;
    matched = are_matched edits matched freed removed arcs;
    added_values = added_values;
    values = values;
    freed = rw freed are_freed;
    removed = rw removed are_removed;
    arcs = rw arcs are_made;
    added_is = added;
    removed_is = ap (λ (slots : List Slot). length slots) removed ∙ removed_count count;
    few = rw (freed, removed, arcs) (few edits.added added);
  }
