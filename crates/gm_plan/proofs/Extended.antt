-- A search for the least paths follows a link to a node that is new.
use Rattle.std.proofs.Common.{◌≡◌, ◌≢◌, ℕ, zero, suc, ◌+◌, ◌<◌, ◌≤◌, ◌⊎◌, inl, inr, ◌↔◌, Bool, true, List, [], ◌∷◌, ◌++◌, length, map, take, Option, Some, None, get_or, sym, ap, subst, ◌∙◌, arith, append_assoc}
use Rattle.std.proofs.lemmas.Bool.{cases_lt}
use Rattle.std.proofs.lemmas.List.{get_or_append_left, get_or_push, length_push, map-append, take-append-le, take_all}
use Rattle.std.proofs.lemmas.List.Elements.{Contains-append_cases, Contains-append_left, Contains-append_right}
use Rattle.std.proofs.lemmas.Option.{get_or_from_slice_get, slice_get-get_or, slice_get_within}
use Rattle.std.specs.List.{Contains, slice_get}
use Rattle.gm_model.specs.declared.rule.Link.{Link}
use Rattle.gm_model.specs.declared.step.Step.{Step}
use Rattle.gm_model.specs.declared.step.Step.TheVariants.{Exp}
use Rattle.gm_model.specs.Rules.{link_from}
use Rattle.gm_plan.specs.inner.Searches.{StepsLead, IsAtMost, found_nodes, IsRankedLink}
use Rattle.gm_plan.proofs.Distinct.{distinct_push}
use Rattle.gm_plan.proofs.Search.{below_or_at, same_end, leads_on, IsDoneWithin, IsFollowed}
use Rattle.gm_theory.proofs.Lists.{none_some, some_same}
use Rattle.gm_theory.proofs.Tests.{same_or_not}

-- ---- one link more

module _ (links : List Link) (link : Link) where
  old_or_new : (k : ℕ) (other : Link) → slice_get (links ++ link ∷ []) k ≡ Some other → ((k < length links) × (slice_get links k ≡ Some other)) ⊎ ((k ≡ length links) × (link ≡ other))
  old_or_new k other e = go (cases_lt k (length links))
    where
      here : get_or (links ++ link ∷ []) k other ≡ other
      here = get_or_from_slice_get (links ++ link ∷ []) k other other e

      go : (k < length links) ⊎ (length links ≤ k) → ((k < length links) × (slice_get links k ≡ Some other)) ⊎ ((k ≡ length links) × (link ≡ other))
      go (inl b) = inl (b, slice_get-get_or links k other b ∙ ap Some (sym (get_or_append_left links (link ∷ []) other k b) ∙ here))
      go (inr b) =
          let last : length links ≡ k = omega (arith, b, length_push links link, slice_get_within (links ++ link ∷ []) k other e) in
          inr (sym last, sym (get_or_push links link other k last) ∙ here)

  first_links : (k : ℕ) → k ≤ length links → take k (links ++ link ∷ []) ≡ take k links
  first_links k b = take-append-le k links (link ∷ []) b

  nodes_pushed : (hooks : List ℕ) → found_nodes hooks (links ++ link ∷ []) ≡ found_nodes hooks links ++ link.to ∷ []
  nodes_pushed hooks = ap (λ ends. hooks ++ ends) (map-append (λ (l : Link). l.to) links (link ∷ [])) ∙ sym (append_assoc hooks (map (λ (l : Link). l.to) links) (link.to ∷ []))

pub only_element : {A : Type 0} (x y : A) → Contains (x ∷ []) y → x ≡ y
only_element x y (zero, b, e) = e
only_element x y (suc k, b, e) = absurd (omega arith)

module _ (steps : ℕ → ℕ → Step) (hooks : List ℕ) (rank rank' : ℕ → Option ℕ) (links : List Link) (count q l n : ℕ) (found : Bool) (h : IsFollowed steps hooks rank links count q l n found)
    (y : ℕ) (here : rank n ≡ Some q) (step_to : steps n l ≡ Exp y) (fresh : rank y ≡ None) (at_new : rank' y ≡ Some count) (at_others : (x : ℕ) → x ≢ y → rank' x ≡ rank x) where
  kept : (x t : ℕ) → rank x ≡ Some t → rank' x ≡ Some t
  kept x t e = at_others x (λ same. none_some t (sym fresh ∙ ap rank (sym same) ∙ e)) ∙ e

  old_rank : (x t : ℕ) → rank' x ≡ Some t → (rank x ≡ Some t) ⊎ ((x ≡ y) × (t ≡ count))
  old_rank x t e = elim (same_or_not x y) [
    | inl same ↦ inr (same, some_same t count (sym e ∙ ap rank' same ∙ at_new))
    | inr differ ↦ inl (sym (at_others x differ) ∙ e)
  ]

  leads : (x t : ℕ) → (rank x ≡ Some t) ⊎ ((x ≡ y) × (t ≡ count)) → (hook : ℕ) × Contains hooks hook × StepsLead steps hook (h.way t) x
  leads x t (inl e) = h.search.leads x t e
  leads x t (inr (e, f)) = go (h.search.leads n q here)
    where
      go : (hook : ℕ) × Contains hooks hook × StepsLead steps hook (h.way q) n → (hook : ℕ) × Contains hooks hook × StepsLead steps hook (h.way t) x
      go (hook, c, there) = (hook, c, rw (e, f, h.last) (leads_on steps hook (h.way q) n l y there step_to))

  closed : (x s i z : ℕ) → IsDoneWithin q l (n + 1) s i x → (rank x ≡ Some s) ⊎ ((x ≡ y) × (s ≡ count)) → steps x i ≡ Exp z → (t : ℕ) × (rank' z ≡ Some t) × IsAtMost (h.way t) (h.way s ++ i ∷ [])
  closed x s i z (inl (inl b)) (inr (e, f)) k = absurd (omega (arith, b, f, h.within))
  closed x s i z (inl (inr (p, b))) (inr (e, f)) k = absurd (omega (arith, p, f, h.within))
  closed x s i z (inr (p, r, b)) (inr (e, f)) k = absurd (omega (arith, p, f, h.within))
  closed x s i z (inl before) (inl e) k = lifted (h.search.closed x s i z (inl before) e k)
    where
      lifted : (t : ℕ) × (rank z ≡ Some t) × IsAtMost (h.way t) (h.way s ++ i ∷ []) → (t : ℕ) × (rank' z ≡ Some t) × IsAtMost (h.way t) (h.way s ++ i ∷ [])
      lifted (t, f, m) = (t, kept z t f, m)
  closed x s i z (inr (p, r, b)) (inl e) k = go (below_or_at x n b)
    where
      lifted : (t : ℕ) × (rank z ≡ Some t) × IsAtMost (h.way t) (h.way s ++ i ∷ []) → (t : ℕ) × (rank' z ≡ Some t) × IsAtMost (h.way t) (h.way s ++ i ∷ [])
      lifted (t, f, m) = (t, kept z t f, m)

      go : (x < n) ⊎ (x ≡ n) → (t : ℕ) × (rank' z ≡ Some t) × IsAtMost (h.way t) (h.way s ++ i ∷ [])
      go (inl c) = lifted (h.search.closed x s i z (inr (p, r, c)) e k)
      go (inr c) =
          let same : y ≡ z = same_end y z (sym step_to ∙ rw (c, r) at k) in
          (count, subst (λ w. rank' w ≡ Some count) same at_new, inl (rw (p, r) h.last))

  linked : (link : Link) → Contains links link ⊎ Contains (link_from n l y ∷ []) link → IsRankedLink steps rank' h.way link
  linked link (inl c) = let old : IsRankedLink steps rank h.way link = h.search.linked link c in record {
    before = old.before;
    behind = old.behind;
    from_rank = kept link.from old.before old.from_rank;
    to_rank = kept link.to old.behind old.to_rank;
    steps_to = old.steps_to;
    way_is = old.way_is;
  }
  linked link (inr c) = subst (IsRankedLink steps rank' h.way) (only_element (link_from n l y) link c) (record {
    before = q;
    behind = count;
    from_rank = kept n q here;
    to_rank = at_new;
    steps_to = step_to;
    way_is = h.last;
  })

  earlier : (k : ℕ) (link : Link) → slice_get (links ++ link_from n l y ∷ []) k ≡ Some link → Contains (found_nodes hooks (take k (links ++ link_from n l y ∷ []))) link.from
  earlier k link e = go (old_or_new links (link_from n l y) k link e)
    where
      go : ((k < length links) × (slice_get links k ≡ Some link)) ⊎ ((k ≡ length links) × (link_from n l y ≡ link)) → Contains (found_nodes hooks (take k (links ++ link_from n l y ∷ []))) link.from
      go (inl (b, f)) = let most : k ≤ length links = omega (arith, b) in rw (first_links links (link_from n l y) k most) (h.search.earlier k link f)
      go (inr (b, f)) =
          let most : k ≤ length links = omega (arith, b) in
          rw (first_links links (link_from n l y) k most, b, take_all (length links) links (omega arith)) (subst (λ (k : Link). Contains (found_nodes hooks links) k.from) f ((h.search.ranked n).1 (q, here)))

  is_new : Contains (found_nodes hooks links) y → ⊥
  is_new c = let e : (t : ℕ) × (rank y ≡ Some t) = (h.search.ranked y).0 c in none_some e.0 (sym fresh ∙ e.1)

  ranked : (x : ℕ) → Contains (found_nodes hooks links ++ y ∷ []) x ↔ ((t : ℕ) × (rank' x ≡ Some t))
  ranked x = ((λ c. to_rank (Contains-append_cases (found_nodes hooks links) (y ∷ []) x c)), (λ e. from_rank e (old_rank x e.0 e.1)))
    where
      to_rank : Contains (found_nodes hooks links) x ⊎ Contains (y ∷ []) x → (t : ℕ) × (rank' x ≡ Some t)
      to_rank (inl c) = let e : (t : ℕ) × (rank x ≡ Some t) = (h.search.ranked x).0 c in (e.0, kept x e.0 e.1)
      to_rank (inr c) = (count, subst (λ w. rank' w ≡ Some count) (only_element y x c) at_new)

      from_rank : (e : (t : ℕ) × (rank' x ≡ Some t)) → (rank x ≡ Some e.0) ⊎ ((x ≡ y) × (e.0 ≡ count)) → Contains (found_nodes hooks links ++ y ∷ []) x
      from_rank (t, e) (inl f) = Contains-append_left (found_nodes hooks links) (y ∷ []) x ((h.search.ranked x).1 (t, f))
      from_rank (t, e) (inr (f, g)) = Contains-append_right (found_nodes hooks links) (y ∷ []) x (0, omega arith, sym f)

  pub follow_finds : IsFollowed steps hooks rank' (links ++ link_from n l y ∷ []) count q l (n + 1) true
  follow_finds = record {
    way = h.way;
    search = record {
      starts = h.search.starts;
      hooks_first = λ hook c. kept hook 0 (h.search.hooks_first hook c);
      within = λ x t e. elim (old_rank x t e) [ inl f ↦ h.search.within x t f | inr f ↦ omega (arith, f.1) ];
      leads = λ x t e. leads x t (old_rank x t e);
      rising = h.search.rising;
      closed = λ x s i z done e. closed x s i z done (old_rank x s e);
      linked = λ link c. linked link (Contains-append_cases links (link_from n l y ∷ []) link c);
      earlier = earlier;
      distinct = rw (nodes_pushed links (link_from n l y) hooks) (distinct_push (found_nodes hooks links) y h.search.distinct is_new);
      ranked = λ x. rw (nodes_pushed links (link_from n l y) hooks) (ranked x);
    };
    within = h.within;
    last = h.last;
    few = omega (arith, h.few, length_push links (link_from n l y));
    unfound = λ no_link. absurd (cc);
  }
