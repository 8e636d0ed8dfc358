-- What the links of the least paths are, and that the darts to which they lead one after another are those to which the paths lead.
use Rattle.std.proofs.Common.{◌≡◌, ◌≢◌, ℕ, ◌+◌, ◌<◌, ◌≤◌, ◌⊎◌, inl, inr, IsTrue, List, [], ◌∷◌, ◌++◌, length, map, take, set, get_or, Some, refl, sym, ap, subst, ◌∙◌, arith, length-append, length-set, get_or-set_same, get_or-set_other}
use Rattle.std.proofs.lemmas.Bool.{cases_eq, cases_lt}
use Rattle.std.proofs.lemmas.List.{append-nil, append_assoc, length-map, map_push, take_all, take_more}
use Rattle.std.proofs.lemmas.List.Elements.{Contains-push_cases}
use Rattle.std.proofs.lemmas.Option.{slice_get-get_or, slice_get_past, slice_get_within, get_or_from_slice_get}
use Rattle.std.specs.List.{slice_get, Contains}
use Rattle.gm_model.specs.declared.rule.Link.{Link}
use Rattle.gm_model.specs.declared.rule.Side.TheVariants.{Left}
use Rattle.gm_model.specs.declared.schema.Schema.{Schema}
use Rattle.gm_model.specs.declared.step.Step.TheVariants.{Exp}
use Rattle.gm_model.specs.Matches.{IsPathTo}
use Rattle.gm_model.specs.Orbits.{follow}
use Rattle.gm_model.specs.Rules.{Rule, has_word, IsLinked}
use Rattle.gm_model.specs.Structure.{Leads}
use Rattle.gm_arena.specs.declared.slot.Slot.{Slot}
use Rattle.gm_arena.specs.inner.ArenaMap.{ArenaMap, IsAt, name_at, alpha}
use Rattle.gm_arena.proofs.MapLemmas.{name_at-is}
use Rattle.gm_plan.specs.inner.Paths.{IsLastLink, ArePaths, path_nodes}
use Rattle.gm_plan.specs.inner.Plans.{IsPlanned}
use Rattle.gm_plan.proofs.Distinct.{few_below}
use Rattle.gm_theory.proofs.Candidates.{hook_left}
use Rattle.gm_theory.proofs.LeastPaths.{hook_path, same_path}
use Rattle.gm_theory.proofs.Lists.{contained_at}
use Rattle.gm_theory.proofs.RuleLinks.{linked_in_range, linked_step}
use Rattle.gm_theory.proofs.RuleSteps.{word_below}
use Rattle.gm_match.specs.inner.Layout.{dart_in}
use Rattle.gm_match.specs.inner.Outcome.{name_of}

pub follow_more : (alphas : ℕ → ℕ → ℕ) (path : List ℕ) (i d : ℕ) → follow alphas (path ++ i ∷ []) d ≡ alphas i (follow alphas path d)
follow_more alphas [] i d = refl
follow_more alphas (j ∷ path) i d = follow_more alphas path i (alphas j d)

-- the last link of a path, and what is before it
last_link : (rule : Rule) (x : ℕ) (path : List ℕ) (i y : ℕ) → Leads rule.left_links x (path ++ i ∷ []) y → (z : ℕ) × Leads rule.left_links x path z × IsLinked rule.left_links z i y
last_link rule x [] i y (z, linked, e) = (x, refl, subst (IsLinked rule.left_links x i) e linked)
last_link rule x (j ∷ path) i y (z, linked, leads) = let rest = last_link rule z path i y leads in (rest.0, (z, linked, rest.1), rest.2)

-- ---- a row in which one slot is set

module _ (m : ArenaMap) (row : List Slot) (i : ℕ) (slot : Slot) where
  pub dart_set : i < length row → dart_in m (set row i slot) i ≡ name_at m slot.at
  dart_set within = ap (name_of m) (slice_get-get_or (set row i slot) i slot (rw length-set within) ∙ ap Some (get_or-set_same row i slot slot within))

  pub dart_stays : (x : ℕ) → x ≢ i → dart_in m (set row i slot) x ≡ dart_in m row x
  dart_stays x apart = elim (cases_lt x (length row)) [
    | inl within ↦ ap (name_of m) (slice_get-get_or (set row i slot) x slot (rw length-set within) ∙ ap Some (get_or-set_other row i x slot slot apart) ∙ sym (slice_get-get_or row x slot within))
    | inr past ↦ ap (name_of m) (slice_get_past (set row i slot) x (rw length-set past) ∙ sym (slice_get_past row x past))
  ]

module _ (schema : Schema) (rule : Rule) (planned : IsPlanned schema rule) where
  lead_left : (x : ℕ) (path : List ℕ) (y : ℕ) → Leads rule.left_links x path y → IsTrue (has_word rule Left x) → IsTrue (has_word rule Left y)
  lead_left x [] y e left = subst (λ z. IsTrue (has_word rule Left z)) e left
  lead_left x (i ∷ path) y (z, linked, leads) left = lead_left z path y leads (linked_in_range schema rule planned.accepted.in_range planned.accepted.incidence Left x i z linked).1

  -- a path leads to a left node
  pub path_left : (x h : ℕ) (path : List ℕ) → IsPathTo rule x h path → IsTrue (has_word rule Left x)
  path_left x h path to = lead_left h path x to.leads (hook_left schema rule planned.accepted.in_range planned.accepted.incidence to.index h to.hook_at)

  -- at a node there is one link at most with a label, so a list of labels leads to one node at most
  one_linked : (x i y z : ℕ) → IsLinked rule.left_links x i y → IsLinked rule.left_links x i z → y ≡ z
  one_linked x i y z linked other = let same : Exp y ≡ Exp z = sym (linked_step schema rule planned.accepted.in_range planned.accepted.incidence Left x i y linked) ∙ linked_step schema rule planned.accepted.in_range planned.accepted.incidence Left x i z other in cc

  one_end : (x : ℕ) (path : List ℕ) (y z : ℕ) → Leads rule.left_links x path y → Leads rule.left_links x path z → y ≡ z
  one_end x [] y z e f = sym e ∙ f
  one_end x (i ∷ path) y z (u, linked, leads) (v, other, further) = one_end u path y z leads (subst (λ w. Leads rule.left_links w path z) (one_linked x i v u other linked) further)

  -- the link that ends a path is one of the rule
  pub last_linked : (link : Link) → IsLastLink rule link → IsLinked rule.left_links link.from link.label link.to
  last_linked link last =
      let end = last_link rule last.hook last.front link.label link.to last.to_end.leads in
      subst (λ z. IsLinked rule.left_links z link.label link.to) (one_end last.hook last.front end.0 link.from end.1 last.to_from.leads) end.2

  pub hook_within : (t h : ℕ) → slice_get rule.hooks t ≡ Some h → h < 32
  hook_within t h at = omega (arith, word_below rule Left h (hook_left schema rule planned.accepted.in_range planned.accepted.incidence t h at), planned.within.nodes)

  module _ (links : List Link) (are : ArePaths rule links) where
    -- a link joins left nodes, with a label of the map
    module _ (t : ℕ) (link : Link) (at : slice_get links t ≡ Some link) where
      last : IsLastLink rule link
      last = are.ends t link at

      end : (z : ℕ) × Leads rule.left_links last.hook last.front z × IsLinked rule.left_links z link.label link.to
      end = last_link rule last.hook last.front link.label link.to last.to_end.leads

      pub from_left : IsTrue (has_word rule Left link.from)
      from_left = path_left link.from last.hook last.front last.to_from

      pub to_left : IsTrue (has_word rule Left link.to)
      to_left = path_left link.to last.hook (last.front ++ link.label ∷ []) last.to_end

      pub from_within : link.from < 32
      from_within = omega (arith, word_below rule Left link.from from_left, planned.within.nodes)

      pub to_within : link.to < 32
      to_within = omega (arith, word_below rule Left link.to to_left, planned.within.nodes)

      pub low_label : link.label ≤ schema.dim
      low_label = (linked_in_range schema rule planned.accepted.in_range planned.accepted.incidence Left end.0 link.label link.to end.2).2

    -- a hook or a link for each left node
    pub few_links : length rule.hooks + length links ≤ length rule.nodes
    few_links =
        let all : length (path_nodes rule links) ≤ length rule.nodes = few_below (path_nodes rule links) (length rule.nodes) are.nodes.distinct (λ x c. word_below rule Left x ((are.nodes.same x).0 c)) in
        omega (arith, length-append rule.hooks (map (λ (link : Link). link.to) links), length-map links (λ (link : Link). link.to))

    -- ---- the darts to which the links lead

    module _ (m : ArenaMap) (old : ℕ → ℕ) where
      -- the nodes to which the first links lead lie where their paths lead from the hooks' old darts
      abbrev pub AreReached : ℕ → (ℕ → ℕ) → Type 0
      AreReached t lies = (x : ℕ) → Contains (path_nodes rule (take t links)) x → (h : ℕ) (path : List ℕ) → IsPathTo rule x h path → lies x ≡ follow (alpha m) path (old h)

      pub hooks_reached : AreReached 0 old
      hooks_reached x c h path to = go (same_path rule x h x path [] to (hook_path rule planned.accepted.in_range.hooks_differ hooked.0 x (contained_at rule.hooks x hooked)))
        where
          hooked : Contains rule.hooks x
          hooked = subst (λ xs. Contains xs x) (append-nil rule.hooks) c

          go : (h ≡ x) × (path ≡ []) → old x ≡ follow (alpha m) path (old h)
          go (same, none) = rw (same, none) refl

      -- the nodes of one more link
      one_more : (t : ℕ) (link : Link) → slice_get links t ≡ Some link → path_nodes rule (take (t + 1) links) ≡ path_nodes rule (take t links) ++ link.to ∷ []
      one_more t link at =
          let more : take (t + 1) links ≡ take t links ++ link ∷ [] = take_more links t link (slice_get_within links t link at) ∙ ap (λ l. take t links ++ l ∷ []) (get_or_from_slice_get links t link link at) in
          ap (λ ls. rule.hooks ++ map (λ (l : Link). l.to) ls) more ∙ ap (λ xs. rule.hooks ++ xs) (map_push (λ (l : Link). l.to) (take t links) link) ∙ sym (append_assoc rule.hooks (map (λ (l : Link). l.to) (take t links)) (link.to ∷ []))

      pub link_reached : (t : ℕ) (link : Link) (lies next : ℕ → ℕ) → slice_get links t ≡ Some link → AreReached t lies → next link.to ≡ alpha m link.label (lies link.from) → ((x : ℕ) → IsTrue (has_word rule Left x) → x ≢ link.to → next x ≡ lies x) → AreReached (t + 1) next
      link_reached t link lies next at before leads stays x c h path to = go (cases_eq x link.to)
        where
          last : IsLastLink rule link
          last = are.ends t link at

          new : next link.to ≡ follow (alpha m) (last.front ++ link.label ∷ []) (old last.hook)
          new =
              leads
              ∙ ap (alpha m link.label) (before link.from (are.earlier t link at) last.hook last.front last.to_from)
              ∙ sym (follow_more (alpha m) last.front link.label (old last.hook))

          earlier : x ≢ link.to → Contains (path_nodes rule (take t links)) x
          earlier apart = pick (Contains-push_cases (path_nodes rule (take t links)) link.to x (subst (λ xs. Contains xs x) (one_more t link at) c))
            where
              pick : Contains (path_nodes rule (take t links)) x ⊎ (link.to ≡ x) → Contains (path_nodes rule (take t links)) x
              pick (inl k) = k
              pick (inr e) = absurd (apart (sym e))

          go : (x ≡ link.to) ⊎ (x ≢ link.to) → next x ≡ follow (alpha m) path (old h)
          go (inl e) = by (same_path rule link.to h last.hook path (last.front ++ link.label ∷ []) (subst (λ y. IsPathTo rule y h path) e to) last.to_end)
            where
              by : (h ≡ last.hook) × (path ≡ last.front ++ link.label ∷ []) → next x ≡ follow (alpha m) path (old h)
              by (same, along) = rw (e, same, along) new
          go (inr apart) = stays x (path_left x h path to) apart ∙ before x (earlier apart) h path to

      -- once all links are followed, the hooks have stayed
      module _ (t : ℕ) (lies : ℕ → ℕ) (end_at : length links ≤ t) (reached : AreReached t lies) where
        led : (x h : ℕ) (path : List ℕ) → IsPathTo rule x h path → lies x ≡ follow (alpha m) path (old h)
        led x h path to = reached x (subst (λ ls. Contains (path_nodes rule ls) x) (sym (take_all t links end_at)) ((are.nodes.same x).1 (path_left x h path to))) h path to

        pub hooks_stay : (k h : ℕ) → slice_get rule.hooks k ≡ Some h → lies h ≡ old h
        hooks_stay k h at = led h h [] (hook_path rule planned.accepted.in_range.hooks_differ k h at)

        -- and each node lies where its path leads from its hook
        pub all_forced : (x h : ℕ) (path : List ℕ) → IsPathTo rule x h path → lies x ≡ follow (alpha m) path (lies h)
        all_forced x h path to = led x h path to ∙ ap (follow (alpha m) path) (sym (hooks_stay to.index h to.hook_at))

-- a row in which the slot is set to which the link leads
pub link_set : (m : ArenaMap) (row : List Slot) (link : Link) (next : Slot) → link.to < length row → IsAt m next.at (alpha m link.label (dart_in m row link.from)) → dart_in m (set row link.to next) link.to ≡ alpha m link.label (dart_in m row link.from)
link_set m row link next within next_at = dart_set m row link.to next within ∙ name_at-is m next.at (alpha m link.label (dart_in m row link.from)) next_at

-- the dart of a row at a node, by its slot
pub row_name : (m : ArenaMap) (row : List Slot) (x : ℕ) (d : Slot) → x < length row → name_at m (get_or row x d).at ≡ dart_in m row x
row_name m row x d within = sym (ap (name_of m) (slice_get-get_or row x d within))
