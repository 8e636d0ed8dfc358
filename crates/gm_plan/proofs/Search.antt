-- The steps of a search for the least paths, and that it has found the least path to each node in the end.
use Rattle.std.proofs.Common.{◌≡◌, ◌≢◌, ℕ, ◌+◌, ◌<◌, ◌≤◌, ◌⊎◌, inl, inr, ◌↔◌, Bool, true, false, cond, eqb, List, [], ◌∷◌, ◌++◌, length, Option, Some, None, is_some, refl, sym, ap, subst, ◌∙◌, arith, append-nil, append_assoc}
use Rattle.std.specs.Prelude.{not}
use Rattle.std.specs.Option.{option_eq}
use Rattle.std.proofs.lemmas.Bool.{cases_lt, eq-eqb, ne_eqb, eqb-true, false≢true}
use Rattle.std.proofs.lemmas.Option.{same_Some}
use Rattle.std.specs.List.{Contains}
use Rattle.gm_model.specs.declared.rule.Link.{Link}
use Rattle.gm_model.specs.declared.step.Step.{Step}
use Rattle.gm_model.specs.declared.step.Step.TheVariants.{Exp}
use Rattle.gm_model.specs.Matches.{IsSmallerPath}
use Rattle.gm_model.specs.Orbits.{HasNoRepeats, IsPairBefore}
use Rattle.gm_plan.specs.inner.Searches.{StepsLead, IsAtMost, IsRankedLink, IsSearch, IsSearchedBy}
use Rattle.gm_plan.proofs.Orders.{smaller_push, smaller_last, at_most_trans, at_most_push}
use Rattle.gm_theory.proofs.LeastPaths.{smaller_trans}
use Rattle.gm_theory.proofs.Lists.{none_some}

-- below a number, or at it
pub below_or_at : (s n : ℕ) → s < n + 1 → (s < n) ⊎ (s ≡ n)
below_or_at s n h = elim (cases_lt s n) [ inl b ↦ inl b | inr b ↦ inr (omega arith) ]

pub same_end : (y z : ℕ) → Exp y ≡ Exp z → y ≡ z
same_end y z e = cc

-- ---- the end of a step, unless it has a rank

module _ (rank : ℕ → Option ℕ) (step : Step) (here : Option ℕ) (q : ℕ) where
  abbrev IsNewEnd : ℕ → Type 0
  IsNewEnd y = (here ≡ Some q) × (step ≡ Exp y) × (rank y ≡ None)

  none_new : ((y : ℕ) → IsNewEnd y → ⊥) → (y : ℕ) → (None ≡ Some y) ↔ IsNewEnd y
  none_new none y = (λ e. absurd cc, λ h. absurd (none y h))

  differ : true ≡ not (option_eq eqb here (Some q)) → here ≡ Some q → ⊥
  differ told same =
      let e : true ≡ not (eqb q q) = told ∙ ap (λ (o : Option ℕ). not (option_eq eqb o (Some q))) same in
      false≢true (sym (e ∙ ap not (eq-eqb q q refl)))

  same_rank : (o : Option ℕ) → false ≡ not (option_eq eqb o (Some q)) → o ≡ Some q
  same_rank None told = absurd cc
  same_rank (Some r) told = go (eqb r q) refl
    where
      go : (b : Bool) → eqb r q ≡ b → Some r ≡ Some q
      go true is = ap Some (eqb-true r q is)
      go false is = absurd (false≢true (told ∙ ap not is))

  no_rank : (o : Option ℕ) → false ≡ is_some o → o ≡ None
  no_rank None told = refl
  no_rank (Some r) told = absurd (false≢true told)

  pub other_rank : true ≡ not (option_eq eqb here (Some q)) → (y : ℕ) → (None ≡ Some y) ↔ IsNewEnd y
  other_rank told = none_new (λ y h. differ told h.0)

  pub no_end : ((y : ℕ) → step ≡ Exp y → ⊥) → (y : ℕ) → (None ≡ Some y) ↔ IsNewEnd y
  no_end none = none_new (λ y h. none y h.1)

  pub end_with_rank : (to : ℕ) → step ≡ Exp to → true ≡ is_some (rank to) → (y : ℕ) → (None ≡ Some y) ↔ IsNewEnd y
  end_with_rank to is told = none_new (λ y h. false≢true (sym (told ∙ ap is_some (ap rank (same_end to y (sym is ∙ h.1)) ∙ h.2))))

  pub new_end : false ≡ not (option_eq eqb here (Some q)) → (to : ℕ) → step ≡ Exp to → false ≡ is_some (rank to) → (y : ℕ) → (Some to ≡ Some y) ↔ IsNewEnd y
  new_end told to is free y = (
    λ e. let same : to ≡ y = same_Some to y e in (same_rank here told, is ∙ ap Exp same, sym (ap rank same) ∙ no_rank (rank to) free),
    λ h. ap Some (same_end to y (sym is ∙ h.1)),
  )

pub leads_on : (steps : ℕ → ℕ → Step) (x : ℕ) (path : List ℕ) (y i z : ℕ) → StepsLead steps x path y → steps y i ≡ Exp z → StepsLead steps x (path ++ i ∷ []) z
leads_on steps x [] y i z h e = (z, subst (λ w. steps w i ≡ Exp z) (sym h) e, refl)
leads_on steps x (j ∷ path) y i z h e = (h.0, h.1, leads_on steps h.0 path y i z h.2 e)

-- the pairs before (q, l) were followed, and of the rank q at the label l the nodes below n
abbrev pub IsDoneWithin : ℕ → ℕ → ℕ → ℕ → ℕ → ℕ → Type 0
IsDoneWithin q l n s i x = IsPairBefore s i q l ⊎ ((s ≡ q) × (i ≡ l) × (x < n))

-- The list of rank `count` is that of rank q, and then l: it was found if some link was followed that leads to a new node.
pub record IsFollowed (steps : ℕ → ℕ → Step) (hooks : List ℕ) (rank : ℕ → Option ℕ) (links : List Link) (count q l n : ℕ) (found : Bool) : Type 0 where
  pub way : ℕ → List ℕ
  pub search : IsSearch steps hooks rank way links (count + 1) (IsDoneWithin q l n)
  pub within : q < count
  pub last : way count ≡ way q ++ l ∷ []
  pub few : count + cond found 1 0 ≤ length links + 1
  pub unfound : found ≡ false → (x t : ℕ) → rank x ≡ Some t → t < count

module _ (steps : ℕ → ℕ → Step) (hooks : List ℕ) where
  -- ---- the hooks

  pub search_starts : (rank : ℕ → Option ℕ) → HasNoRepeats hooks → ((x t : ℕ) → (rank x ≡ Some t) ↔ (Contains hooks x × (t ≡ 0))) → IsSearchedBy steps hooks rank [] 1 0 0
  search_starts rank distinct are = record {
    way = λ t. [];
    search = record {
      starts = refl;
      hooks_first = λ h c. (are h 0).1 (c, refl);
      within = λ x t e. let z : t ≡ 0 = ((are x t).0 e).1 in omega arith;
      leads = λ x t e. (x, ((are x t).0 e).0, refl);
      rising = λ s t h k. absurd (omega arith);
      closed = λ x s i y before e f. absurd (none s i before);
      linked = λ link c. absurd (nothing link c);
      earlier = λ k link e. none_some link e;
      distinct = subst HasNoRepeats (sym (append-nil hooks)) distinct;
      ranked = λ x. ((λ c. (0, (are x 0).1 (subst (λ xs. Contains xs x) (append-nil hooks) c, refl))), (λ e. subst (λ xs. Contains xs x) (sym (append-nil hooks)) ((are x e.0).0 e.1).0));
    };
    below = λ t h k. tt;
    few = omega arith;
  }
    where
      none : (s i : ℕ) → IsPairBefore s i 0 0 → ⊥
      none s i (inl h) = omega arith
      none s i (inr (h, k)) = omega arith

      nothing : (link : Link) → Contains {X = Link} [] link → ⊥
      nothing link (k, b, e) = omega arith

  module _ (rank : ℕ → Option ℕ) (links : List Link) (count q l : ℕ) where
    -- ---- one label more

    pub follow_starts : IsSearchedBy steps hooks rank links count q l → q < count → IsFollowed steps hooks rank links count q l 0 false
    follow_starts h within = record {
      way = way';
      search = record {
        starts = same 0 (omega (arith, within)) ∙ h.search.starts;
        hooks_first = h.search.hooks_first;
        within = λ x t e. let b : t < count = h.search.within x t e in omega arith;
        leads = λ x t e. rw (same t (h.search.within x t e)) (h.search.leads x t e);
        rising = λ s t a b. rising s t a (below_or_at t count b);
        closed = closed;
        linked = λ link c. linked link (h.search.linked link c);
        earlier = h.search.earlier;
        distinct = h.search.distinct;
        ranked = h.search.ranked;
      };
      within = within;
      last = rw (eq-eqb count count refl, same q within) refl;
      few = omega (arith, h.few);
      unfound = λ no_link. h.search.within;
    }
      where
        way' : ℕ → List ℕ
        way' t = cond (eqb t count) (h.way q ++ l ∷ []) (h.way t)

        same : (t : ℕ) → t < count → way' t ≡ h.way t
        same t b = let ne : t ≢ count = omega arith in rw (ne_eqb t count ne) refl

        rising : (s t : ℕ) → s < t → (t < count) ⊎ (t ≡ count) → IsSmallerPath (way' s) (way' t)
        rising s t a (inl b) = let c : s < count = omega arith in rw (same s c, same t b) (h.search.rising s t a b)
        rising s t a (inr e) = let c : s < count = omega arith in rw (same s c, eq-eqb t count e) (h.below s within c)

        closed : (x s i y : ℕ) → IsDoneWithin q l 0 s i x → rank x ≡ Some s → steps x i ≡ Exp y → (t : ℕ) × (rank y ≡ Some t) × IsAtMost (way' t) (way' s ++ i ∷ [])
        closed x s i y (inr (e, f, b)) g k = absurd (omega arith)
        closed x s i y (inl before) g k = go (h.search.closed x s i y before g k)
          where
            go : (t : ℕ) × (rank y ≡ Some t) × IsAtMost (h.way t) (h.way s ++ i ∷ []) → (t : ℕ) × (rank y ≡ Some t) × IsAtMost (way' t) (way' s ++ i ∷ [])
            go (t, e, m) = (t, e, rw (same t (h.search.within y t e), same s (h.search.within x s g)) m)

        linked : (link : Link) → IsRankedLink steps rank h.way link → IsRankedLink steps rank way' link
        linked link r = record {
          before = r.before;
          behind = r.behind;
          from_rank = r.from_rank;
          to_rank = r.to_rank;
          steps_to = r.steps_to;
          way_is = rw (same r.behind (h.search.within link.to r.behind r.to_rank), same r.before (h.search.within link.from r.before r.from_rank)) r.way_is;
        }

    -- the nodes of the rank have no link step at the label to a new node
    pub follow_passes : (n : ℕ) (found : Bool) → IsFollowed steps hooks rank links count q l n found →
        ((y : ℕ) → rank n ≡ Some q → steps n l ≡ Exp y → (t : ℕ) × (rank y ≡ Some t)) → IsFollowed steps hooks rank links count q l (n + 1) found
    follow_passes n found h known = record {
      way = h.way;
      search = record {
        starts = h.search.starts;
        hooks_first = h.search.hooks_first;
        within = h.search.within;
        leads = h.search.leads;
        rising = h.search.rising;
        closed = closed;
        linked = h.search.linked;
        earlier = h.search.earlier;
        distinct = h.search.distinct;
        ranked = h.search.ranked;
      };
      within = h.within;
      last = h.last;
      few = h.few;
      unfound = h.unfound;
    }
      where
        here : (y : ℕ) → (t : ℕ) × (rank y ≡ Some t) → (t : ℕ) × (rank y ≡ Some t) × IsAtMost (h.way t) (h.way q ++ l ∷ [])
        here y (t, e) = (t, e, subst (IsAtMost (h.way t)) h.last (go (below_or_at t count (h.search.within y t e))))
          where
            go : (t < count) ⊎ (t ≡ count) → IsAtMost (h.way t) (h.way count)
            go (inl b) = inr (h.search.rising t count b (omega arith))
            go (inr f) = inl (ap h.way f)

        closed : (x s i y : ℕ) → IsDoneWithin q l (n + 1) s i x → rank x ≡ Some s → steps x i ≡ Exp y → (t : ℕ) × (rank y ≡ Some t) × IsAtMost (h.way t) (h.way s ++ i ∷ [])
        closed x s i y (inl before) g k = h.search.closed x s i y (inl before) g k
        closed x s i y (inr (e, f, b)) g k = go (below_or_at x n b)
          where
            go : (x < n) ⊎ (x ≡ n) → (t : ℕ) × (rank y ≡ Some t) × IsAtMost (h.way t) (h.way s ++ i ∷ [])
            go (inl c) = h.search.closed x s i y (inr (e, f, c)) g k
            go (inr c) = rw (e, f) (here y (known y (rw (c, e) at g) (rw (c, f) at k)))

    -- each node was followed
    pub follow_ends : (n : ℕ) (found : Bool) → IsFollowed steps hooks rank links count q l n found → ((x y : ℕ) → steps x l ≡ Exp y → x < n) →
        IsSearchedBy steps hooks rank links (count + cond found 1 0) q (l + 1)
    follow_ends n found h known = go found refl
      where
        closed : (x s i y : ℕ) → IsPairBefore s i q (l + 1) → rank x ≡ Some s → steps x i ≡ Exp y → (t : ℕ) × (rank y ≡ Some t) × IsAtMost (h.way t) (h.way s ++ i ∷ [])
        closed x s i y (inl b) g k = h.search.closed x s i y (inl (inl b)) g k
        closed x s i y (inr (e, b)) g k = at_label (below_or_at i l b)
          where
            at_label : (i < l) ⊎ (i ≡ l) → (t : ℕ) × (rank y ≡ Some t) × IsAtMost (h.way t) (h.way s ++ i ∷ [])
            at_label (inl c) = h.search.closed x s i y (inl (inr (e, c))) g k
            at_label (inr c) = h.search.closed x s i y (inr (e, c, known x y (subst (λ j. steps x j ≡ Exp y) c k))) g k

        below : (t : ℕ) → t < count + 1 → IsSmallerPath (h.way t) (h.way q ++ (l + 1) ∷ [])
        below t b = at_rank (below_or_at t count b)
          where
            higher : IsSmallerPath (h.way q ++ l ∷ []) (h.way q ++ (l + 1) ∷ [])
            higher = smaller_last (h.way q) l (l + 1) (omega arith)

            at_rank : (t < count) ⊎ (t ≡ count) → IsSmallerPath (h.way t) (h.way q ++ (l + 1) ∷ [])
            at_rank (inl c) = smaller_trans (h.way t) (h.way q ++ l ∷ []) (h.way q ++ (l + 1) ∷ []) (subst (IsSmallerPath (h.way t)) h.last (h.search.rising t count c (omega arith))) higher
            at_rank (inr e) = rw (e, h.last) higher

        searched : (top : ℕ) → top ≤ count + 1 → ((x t : ℕ) → rank x ≡ Some t → t < top) → top ≤ length links + 1 → IsSearchedBy steps hooks rank links top q (l + 1)
        searched top most within few = record {
          way = h.way;
          search = record {
            starts = h.search.starts;
            hooks_first = h.search.hooks_first;
            within = within;
            leads = h.search.leads;
            rising = λ s t a b. h.search.rising s t a (omega arith);
            closed = closed;
            linked = h.search.linked;
            earlier = h.search.earlier;
            distinct = h.search.distinct;
            ranked = h.search.ranked;
          };
          below = λ t a b. below t (omega arith);
          few = few;
        }

        go : (b : Bool) → found ≡ b → IsSearchedBy steps hooks rank links (count + cond b 1 0) q (l + 1)
        go true e = searched (count + 1) (omega arith) h.search.within (subst (λ b. count + cond b 1 0 ≤ length links + 1) e h.few)
        go false e = searched (count + 0) (omega arith) (λ x t f. omega (arith, h.unfound e x t f)) (subst (λ b. count + cond b 1 0 ≤ length links + 1) e h.few)

    -- ---- one rank more

    -- each label was followed
    pub search_moves : IsSearchedBy steps hooks rank links count q l → ((x i y : ℕ) → steps x i ≡ Exp y → i < l) → IsSearchedBy steps hooks rank links count (q + 1) 0
    search_moves h known = record {
      way = h.way;
      search = record {
        starts = h.search.starts;
        hooks_first = h.search.hooks_first;
        within = h.search.within;
        leads = h.search.leads;
        rising = h.search.rising;
        closed = closed;
        linked = h.search.linked;
        earlier = h.search.earlier;
        distinct = h.search.distinct;
        ranked = h.search.ranked;
      };
      below = λ t a b.
          let here : q < count = omega arith in
          let later : q < q + 1 = omega arith in
          smaller_trans (h.way t) (h.way q ++ l ∷ []) (h.way (q + 1) ++ 0 ∷ []) (h.below t here b) (smaller_push (h.way q) (h.way (q + 1)) l 0 (h.search.rising q (q + 1) later a));
      few = h.few;
    }
      where
        closed : (x s i y : ℕ) → IsPairBefore s i (q + 1) 0 → rank x ≡ Some s → steps x i ≡ Exp y → (t : ℕ) × (rank y ≡ Some t) × IsAtMost (h.way t) (h.way s ++ i ∷ [])
        closed x s i y (inr (e, b)) g k = absurd (omega arith)
        closed x s i y (inl b) g k = go (below_or_at s q b)
          where
            go : (s < q) ⊎ (s ≡ q) → (t : ℕ) × (rank y ≡ Some t) × IsAtMost (h.way t) (h.way s ++ i ∷ [])
            go (inl c) = h.search.closed x s i y (inl c) g k
            go (inr c) = h.search.closed x s i y (inr (c, known x i y k)) g k

    -- ---- the end

    -- where each rank was followed, each path from a hook leads to a node whose list is no greater
    module _ (h : IsSearchedBy steps hooks rank links count q l) (all : count ≤ q) where
      goes_on : (path done : List ℕ) (s x y : ℕ) → rank x ≡ Some s → IsAtMost (h.way s) done → StepsLead steps x path y → (t : ℕ) × (rank y ≡ Some t) × IsAtMost (h.way t) (done ++ path)
      goes_on [] done s x y e m same = (s, subst (λ w. rank w ≡ Some s) same e, subst (IsAtMost (h.way s)) (sym (append-nil done)) m)
      goes_on (i ∷ path) done s x y e m (z, f, there) = go (h.search.closed x s i z (inl (omega (arith, all, h.search.within x s e))) e f) (goes_on path (done ++ i ∷ []))
        where
          go : (t : ℕ) × (rank z ≡ Some t) × IsAtMost (h.way t) (h.way s ++ i ∷ []) →
              ((s x y : ℕ) → rank x ≡ Some s → IsAtMost (h.way s) (done ++ i ∷ []) → StepsLead steps x path y → (t : ℕ) × (rank y ≡ Some t) × IsAtMost (h.way t) ((done ++ i ∷ []) ++ path)) →
              (t : ℕ) × (rank y ≡ Some t) × IsAtMost (h.way t) (done ++ i ∷ path)
          go (t, g, n) rest = subst (λ w. (t : ℕ) × (rank y ≡ Some t) × IsAtMost (h.way t) w) (append_assoc done (i ∷ []) path)
              (rest t z y g (at_most_trans (h.way t) (h.way s ++ i ∷ []) (done ++ i ∷ []) n (at_most_push (h.way s) done i m)) there)

      pub search_ends : (hook : ℕ) (path : List ℕ) (x : ℕ) → Contains hooks hook → StepsLead steps hook path x → (t : ℕ) × (rank x ≡ Some t) × IsAtMost (h.way t) path
      search_ends hook path x c leads = goes_on path [] 0 hook x (h.search.hooks_first hook c) (inl h.search.starts) leads
