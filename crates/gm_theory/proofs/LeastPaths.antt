-- Every left node of a rule in range, with its structure and its arcs in order, has one least path.
use Rattle.std.proofs.Common.{◌≡◌, ℕ, zero, suc, ◌+◌, ◌<◌, ◌≤◌, ◌⊎◌, IsTrue, List, [], ◌∷◌, length, Some, refl, sym, ap, ◌∙◌, subst, inl, inr, arith, below_more}
use Rattle.std.proofs.lemmas.Bool.{cases_order, cases_lt}
use Rattle.std.proofs.lemmas.Option.{slice_get-get_or, slice_get_within, get_or_from_slice_get}
use Rattle.std.specs.List.{Contains}
use Rattle.std.specs.Prelude.{slice_get, slice_index}
use Rattle.gm_model.specs.declared.rule.Side.TheVariants.{Left}
use Rattle.gm_model.specs.declared.schema.Schema.{Schema}
use Rattle.gm_model.specs.declared.step.Step.{Step}
use Rattle.gm_model.specs.declared.step.Step.TheVariants.{Absent, Exp, Imp}
use Rattle.gm_model.specs.Matches.{IsPathTo, IsSmallerPath, IsPathBefore}
use Rattle.gm_model.specs.Orbits.{HasNoRepeats}
use Rattle.gm_model.specs.Rules.{Rule, has_word, step, IsLinked}
use Rattle.gm_model.specs.Structure.{IsInRange, HasIncidence, Leads, IsJoined, any_label}
use Rattle.gm_theory.proofs.Lists.{some_same, contained_at}
use Rattle.gm_theory.proofs.RuleLinks.{linked_in_range, linked_step}
use Rattle.gm_theory.proofs.RuleSteps.{word_below}
use Rattle.gm_theory.proofs.Tests.{same_or_not}
use Rattle.gm_theory.proofs.ValuesReadOff.{step_linked}

-- Where each number has P or N: some number below the bound has P, and each smaller one N, or each number below the bound has N.
least_below : (P N : ℕ → Type 0) → ((i : ℕ) → P i ⊎ N i) → (n : ℕ) → ((i : ℕ) × (i < n) × P i × ((j : ℕ) → j < i → N j)) ⊎ ((j : ℕ) → j < n → N j)
least_below P N tells zero = inr (λ j h. absurd (omega arith))
least_below P N tells (suc n) = go (least_below P N tells n) (tells n)
  where
    go : ((i : ℕ) × (i < n) × P i × ((j : ℕ) → j < i → N j)) ⊎ ((j : ℕ) → j < n → N j) → P n ⊎ N n → ((i : ℕ) × (i < suc n) × P i × ((j : ℕ) → j < i → N j)) ⊎ ((j : ℕ) → j < suc n → N j)
    go (inl (i, h, p, none)) here = inl (i, omega arith, p, none)
    go (inr none) (inl p) = inl (n, omega arith, p, none)
    go (inr none) (inr q) = inr (λ j h. below_more N n none q j (omega arith))

shorter_or_as_long : (p q : List ℕ) → IsSmallerPath p q → (length p < length q) ⊎ (length p ≡ length q)
shorter_or_as_long [] [] h = absurd h
shorter_or_as_long [] (j ∷ q) h = inl (omega arith)
shorter_or_as_long (i ∷ p) [] h = absurd h
shorter_or_as_long (i ∷ p) (j ∷ q) (inl shorter) = inl (omega (arith, shorter))
shorter_or_as_long (i ∷ p) (j ∷ q) (inr (same, rest)) = inr (omega (arith, same))

-- ---- the order of paths

-- how two paths compare behind their first labels i and j
abbrev Rest : ℕ → List ℕ → ℕ → List ℕ → Type 0
Rest i p j q = (length p < length q) ⊎ ((length p ≡ length q) × ((i < j) ⊎ ((i ≡ j) × IsSmallerPath p q)))

pub smaller_trans : (p q r : List ℕ) → IsSmallerPath p q → IsSmallerPath q r → IsSmallerPath p r
smaller_trans [] [] r h k = absurd h
smaller_trans [] (j ∷ q) [] h k = absurd k
smaller_trans [] (j ∷ q) (l ∷ r) h k = tt
smaller_trans (i ∷ p) [] r h k = absurd h
smaller_trans (i ∷ p) (j ∷ q) [] h k = absurd k
smaller_trans (i ∷ p) (j ∷ q) (l ∷ r) h k = go (smaller_trans p q r) h k
  where
    go : (IsSmallerPath p q → IsSmallerPath q r → IsSmallerPath p r) → Rest i p j q → Rest j q l r → Rest i p l r
    go rec (inl a) (inl b) = inl (omega arith)
    go rec (inl a) (inr (b, c)) = inl (omega arith)
    go rec (inr (a, c)) (inl b) = inl (omega arith)
    go rec (inr (a, inl x)) (inr (b, inl y)) = inr (a ∙ b, inl (omega arith))
    go rec (inr (a, inl x)) (inr (b, inr (e, s))) = inr (a ∙ b, inl (omega arith))
    go rec (inr (a, inr (e, s))) (inr (b, inl y)) = inr (a ∙ b, inl (omega arith))
    go rec (inr (a, inr (e, s))) (inr (b, inr (f, t))) = inr (a ∙ b, inr (e ∙ f, rec s t))

pub not_smaller : (p : List ℕ) → IsSmallerPath p p → ⊥
not_smaller [] h = h
not_smaller (i ∷ p) h = go (not_smaller p) h
  where
    go : (IsSmallerPath p p → ⊥) → Rest i p i p → ⊥
    go rec (inl a) = omega arith
    go rec (inr (a, inl b)) = omega arith
    go rec (inr (a, inr (e, s))) = rec s

pub smaller_or_same : (p q : List ℕ) → (p ≡ q) ⊎ (IsSmallerPath p q ⊎ IsSmallerPath q p)
smaller_or_same [] [] = inl refl
smaller_or_same [] (j ∷ q) = inr (inl tt)
smaller_or_same (i ∷ p) [] = inr (inr tt)
smaller_or_same (i ∷ p) (j ∷ q) = go (smaller_or_same p q) (cases_order (length p) (length q)) (cases_order i j)
  where
    go : (p ≡ q) ⊎ (IsSmallerPath p q ⊎ IsSmallerPath q p) → (length p ≡ length q) ⊎ ((length p < length q) ⊎ (length q < length p)) → (i ≡ j) ⊎ ((i < j) ⊎ (j < i)) →
        (i ∷ p ≡ j ∷ q) ⊎ (Rest i p j q ⊎ Rest j q i p)
    go rest (inr (inl a)) labels = inr (inl (inl a))
    go rest (inr (inr a)) labels = inr (inr (inl a))
    go rest (inl a) (inr (inl b)) = inr (inl (inr (a, inl b)))
    go rest (inl a) (inr (inr b)) = inr (inr (inr (sym a, inl b)))
    go (inl e) (inl a) (inl b) = inl (cc)
    go (inr (inl s)) (inl a) (inl b) = inr (inl (inr (a, inr (b, s))))
    go (inr (inr s)) (inl a) (inl b) = inr (inr (inr (sym a, inr (sym b, s))))

-- what is smaller is no longer
no_longer : (p q : List ℕ) (most : ℕ) → IsSmallerPath p q → length q ≤ most → length p ≤ most
no_longer p q most s b = go (shorter_or_as_long p q s)
  where
    go : (length p < length q) ⊎ (length p ≡ length q) → length p ≤ most
    go (inl h) = omega (arith, b)
    go (inr e) = omega (arith, b)

-- of two paths one comes first, or they are the same
path_order : (p q : List ℕ) (t u : ℕ) → ((p ≡ q) × (t ≡ u)) ⊎ (IsPathBefore p t q u ⊎ IsPathBefore q u p t)
path_order p q t u = go (smaller_or_same p q) (cases_order t u)
  where
    go : (p ≡ q) ⊎ (IsSmallerPath p q ⊎ IsSmallerPath q p) → (t ≡ u) ⊎ ((t < u) ⊎ (u < t)) → ((p ≡ q) × (t ≡ u)) ⊎ (IsPathBefore p t q u ⊎ IsPathBefore q u p t)
    go (inl e) (inl f) = inl (e, f)
    go (inl e) (inr (inl b)) = inr (inl (inr (e, b)))
    go (inl e) (inr (inr b)) = inr (inr (inr (sym e, b)))
    go (inr (inl s)) order = inr (inl (inl s))
    go (inr (inr s)) order = inr (inr (inl s))

-- a node has one least path, from one hook
pub same_path : (rule : Rule) (x h g : ℕ) (p q : List ℕ) → IsPathTo rule x h p → IsPathTo rule x g q → (h ≡ g) × (p ≡ q)
same_path rule x h g p q to_p to_q = go (path_order p q to_p.index to_q.index)
  where
    go : ((p ≡ q) × (to_p.index ≡ to_q.index)) ⊎ (IsPathBefore p to_p.index q to_q.index ⊎ IsPathBefore q to_q.index p to_p.index) → (h ≡ g) × (p ≡ q)
    go (inl (e, f)) = (some_same h g (sym to_p.hook_at ∙ ap (slice_get rule.hooks) f ∙ to_q.hook_at), e)
    go (inr (inl b)) = absurd (to_q.least to_p.index h p to_p.hook_at to_p.leads b)
    go (inr (inr b)) = absurd (to_p.least to_q.index g q to_q.hook_at to_q.leads b)

-- no path comes before the empty one, which leads to its hook alone
pub hook_path : (rule : Rule) → HasNoRepeats rule.hooks → (t h : ℕ) → slice_get rule.hooks t ≡ Some h → IsPathTo rule h h []
hook_path rule differ t h at = record { index = t; hook_at = at; leads = refl; least = least }
  where
    least : (u g : ℕ) (other : List ℕ) → slice_get rule.hooks u ≡ Some g → Leads rule.left_links g other h → IsPathBefore other u [] t → ⊥
    least u g [] there e (inl s) = s
    least u g [] there e (inr (same, before)) = differ u t before (slice_get_within rule.hooks t h at) (get_or_from_slice_get rule.hooks u g 0 there ∙ e ∙ sym (get_or_from_slice_get rule.hooks t h 0 at))
    least u g (i ∷ other) there leads (inl s) = s
    least u g (i ∷ other) there leads (inr (same, before)) = cc

-- ---- which path there is

same_node : (y z : ℕ) → Exp y ≡ Exp z → y ≡ z
same_node y z e = cc

module _ (schema : Schema) (rule : Rule) (in_range : IsInRange schema rule) (incidence : HasIncidence schema.dim rule) where
  -- ---- paths of one length

  module _ (x : ℕ) where
    -- a path of this length leads from y to x, and no smaller one of the length does
    record HasLeast (k y : ℕ) : Type 0 where
      pub path : List ℕ
      pub long : length path ≡ k
      pub leads : Leads rule.left_links y path x
      pub least : (other : List ℕ) → length other ≡ k → Leads rule.left_links y other x → IsSmallerPath other path → ⊥

    -- no path of this length leads from y to x
    abbrev HasNone : ℕ → ℕ → Type 0
    HasNone k y = (other : List ℕ) → length other ≡ k → Leads rule.left_links y other x → ⊥

    -- the same of the nodes behind a link of y
    record GoesOn (k y i : ℕ) : Type 0 where
      pub next : ℕ
      pub linked : IsLinked rule.left_links y i next
      pub rest : HasLeast k next

    abbrev GoesNowhere : ℕ → ℕ → ℕ → Type 0
    GoesNowhere k y i = (z : ℕ) → IsLinked rule.left_links y i z → HasNone k z

    -- at most one link of y has the label: it is the step of y
    one_link : (k y : ℕ) → ((z : ℕ) → HasLeast k z ⊎ HasNone k z) → (i : ℕ) → GoesOn k y i ⊎ GoesNowhere k y i
    one_link k y tells i = go (step rule Left y i) refl
      where
        no_link : ((z : ℕ) → step rule Left y i ≡ Exp z → ⊥) → GoesNowhere k y i
        no_link none z linked other long leads = none z (linked_step schema rule in_range incidence Left y i z linked)

        go : (s : Step) → step rule Left y i ≡ s → GoesOn k y i ⊎ GoesNowhere k y i
        go Absent e = inr (no_link (λ z f. absurd (let same : Absent ≡ Exp z = sym e ∙ f in cc)))
        go (Imp m) e = inr (no_link (λ z f. absurd (let same : Imp m ≡ Exp z = sym e ∙ f in cc)))
        go (Exp z) e = found (tells z)
          where
            found : HasLeast k z ⊎ HasNone k z → GoesOn k y i ⊎ GoesNowhere k y i
            found (inl least) = inl (record { next = z; linked = step_linked rule Left y i z e; rest = least })
            found (inr none) = inr (λ w linked. subst (HasNone k) (same_node z w (sym e ∙ linked_step schema rule in_range incidence Left y i w linked)) none)

    -- the least label behind which a path goes on begins the least path that is longer by one
    longer : (k y : ℕ) → ((i : ℕ) × (i < schema.dim + 1) × GoesOn k y i × ((j : ℕ) → j < i → GoesNowhere k y j)) ⊎ ((j : ℕ) → j < schema.dim + 1 → GoesNowhere k y j) → HasLeast (suc k) y ⊎ HasNone (suc k) y
    longer k y (inl (i, h, on, before)) = inl (record { path = i ∷ on.rest.path; long = omega (arith, here); leads = (on.next, on.linked, on.rest.leads); least = least })
      where
        here : length on.rest.path ≡ k
        here = on.rest.long

        same_next : (z : ℕ) → IsLinked rule.left_links y i z → z ≡ on.next
        same_next z linked = same_node z on.next (sym (linked_step schema rule in_range incidence Left y i z linked) ∙ linked_step schema rule in_range incidence Left y i on.next on.linked)

        least : (other : List ℕ) → length other ≡ suc k → Leads rule.left_links y other x → IsSmallerPath other (i ∷ on.rest.path) → ⊥
        least [] long leads smaller = omega (arith, long)
        least (j ∷ other) long (z, linked, leads) (inl shorter) = omega (arith, long, here, shorter)
        least (j ∷ other) long (z, linked, leads) (inr (same, inl lower)) = before j lower z linked other (omega (arith, long)) leads
        least (j ∷ other) long (z, linked, leads) (inr (same, inr (e, smaller))) =
            let there : z ≡ on.next = same_next z (subst (λ l. IsLinked rule.left_links y l z) e linked) in
            on.rest.least other (omega (arith, long)) (subst (λ w. Leads rule.left_links w other x) there leads) smaller
    longer k y (inr nowhere) = inr none
      where
        none : HasNone (suc k) y
        none [] long leads = omega (arith, long)
        none (j ∷ other) long (z, linked, leads) =
            let label : j ≤ schema.dim = (linked_in_range schema rule in_range incidence Left y j z linked).2 in
            nowhere j (omega (arith, label)) z linked other (omega (arith, long)) leads

    least_of_length : (k y : ℕ) → HasLeast k y ⊎ HasNone k y
    least_of_length zero y = go (same_or_not y x)
      where
        go : (y ≡ x) ⊎ (y ≡ x → ⊥) → HasLeast 0 y ⊎ HasNone 0 y
        go (inl e) = inl (record { path = []; long = refl; leads = e; least = least })
          where
            least : (other : List ℕ) → length other ≡ 0 → Leads rule.left_links y other x → IsSmallerPath other [] → ⊥
            least [] long leads smaller = smaller
            least (j ∷ other) long leads smaller = smaller
        go (inr differ) = inr none
          where
            none : HasNone 0 y
            none [] long leads = differ leads
            none (j ∷ other) long leads = omega (arith, long)
    least_of_length (suc k) y = longer k y (least_below (GoesOn k y) (GoesNowhere k y) (one_link k y (least_of_length k)) (schema.dim + 1))

  -- ---- the least path from one hook

  -- the least length at which a path leads from y to x has the least path of all, unless none within the bound leads there
  record HasLeastPath (x y most : ℕ) : Type 0 where
    pub path : List ℕ
    pub short : length path ≤ most
    pub leads : Leads rule.left_links y path x
    pub least : (other : List ℕ) → Leads rule.left_links y other x → IsSmallerPath other path → ⊥

  abbrev HasNoPath : ℕ → ℕ → ℕ → Type 0
  HasNoPath x y most = (other : List ℕ) → length other ≤ most → Leads rule.left_links y other x → ⊥

  least_from : (x y most : ℕ) → HasLeastPath x y most ⊎ HasNoPath x y most
  least_from x y most = go (least_below (λ k. HasLeast x k y) (λ k. HasNone x k y) (λ k. least_of_length x k y) (most + 1))
    where
      go : ((k : ℕ) × (k < most + 1) × HasLeast x k y × ((j : ℕ) → j < k → HasNone x j y)) ⊎ ((j : ℕ) → j < most + 1 → HasNone x j y) → HasLeastPath x y most ⊎ HasNoPath x y most
      go (inl (k, h, found, before)) = inl (record { path = found.path; short = omega (arith, found.long); leads = found.leads; least = least })
        where
          least : (other : List ℕ) → Leads rule.left_links y other x → IsSmallerPath other found.path → ⊥
          least other there smaller = by (shorter_or_as_long other found.path smaller)
            where
              by : (length other < length found.path) ⊎ (length other ≡ length found.path) → ⊥
              by (inl shorter) = before (length other) (subst (λ n. length other < n) found.long shorter) other refl there
              by (inr same) = found.least other (same ∙ found.long) there smaller
      go (inr none) = inr (λ other short there. none (length other) (omega (arith, short)) other refl there)

  -- ---- the least path from some hook

  -- of the first hooks, so many of them, one has the least path to x
  record IsBest (x most count : ℕ) : Type 0 where
    pub index : ℕ
    pub hook : ℕ
    pub within : index < count
    pub hook_at : slice_get rule.hooks index ≡ Some hook
    pub path : List ℕ
    pub short : length path ≤ most
    pub leads : Leads rule.left_links hook path x
    pub least : (t h : ℕ) (other : List ℕ) → t < count → slice_get rule.hooks t ≡ Some h → Leads rule.left_links h other x → IsPathBefore other t path index → ⊥

  abbrev HasNoneFrom : ℕ → ℕ → ℕ → Type 0
  HasNoneFrom x most count = (t h : ℕ) (other : List ℕ) → t < count → slice_get rule.hooks t ≡ Some h → length other ≤ most → Leads rule.left_links h other x → ⊥

  same_at : (t h g : ℕ) → slice_get rule.hooks t ≡ Some h → slice_get rule.hooks t ≡ Some g → h ≡ g
  same_at t h g at there = some_same h g (sym at ∙ there)

  module _ (x most count hook : ℕ) (at : slice_get rule.hooks count ≡ Some hook) where
    -- the last of the hooks has the path p, and each before it one that is greater, or none within the bound
    last_best : (p : HasLeastPath x hook most) → ((t h : ℕ) (other : List ℕ) → t < count → slice_get rule.hooks t ≡ Some h → Leads rule.left_links h other x → IsPathBefore other t p.path count → ⊥) → IsBest x most (suc count)
    last_best p earlier = record { index = count; hook = hook; within = omega arith; hook_at = at; path = p.path; short = p.short; leads = p.leads; least = least }
      where
        least : (t h : ℕ) (other : List ℕ) → t < suc count → slice_get rule.hooks t ≡ Some h → Leads rule.left_links h other x → IsPathBefore other t p.path count → ⊥
        least t h other b there leads before = go (cases_lt t count) before
          where
            go : (t < count) ⊎ (count ≤ t) → IsPathBefore other t p.path count → ⊥
            go (inl c) s = earlier t h other c there leads s
            go (inr c) (inl s) =
                let e : t ≡ count = omega arith in
                p.least other (subst (λ g. Leads rule.left_links g other x) (same_at count h hook (subst (λ u. slice_get rule.hooks u ≡ Some h) e there) at) leads) s
            go (inr c) (inr (same, less)) = omega arith

    -- or the best of those before it stays
    stays_best : (b : IsBest x most count) → ((other : List ℕ) → Leads rule.left_links hook other x → IsSmallerPath other b.path → ⊥) → IsBest x most (suc count)
    stays_best b last = record { index = b.index; hook = b.hook; within = omega (arith, b.within); hook_at = b.hook_at; path = b.path; short = b.short; leads = b.leads; least = least }
      where
        least : (t h : ℕ) (other : List ℕ) → t < suc count → slice_get rule.hooks t ≡ Some h → Leads rule.left_links h other x → IsPathBefore other t b.path b.index → ⊥
        least t h other d there leads before = go (cases_lt t count) before
          where
            go : (t < count) ⊎ (count ≤ t) → IsPathBefore other t b.path b.index → ⊥
            go (inl c) s = b.least t h other c there leads s
            go (inr c) (inl s) =
                let e : t ≡ count = omega arith in
                last other (subst (λ g. Leads rule.left_links g other x) (same_at count h hook (subst (λ u. slice_get rule.hooks u ≡ Some h) e there) at) leads) s
            go (inr c) (inr (same, less)) = omega (arith, b.within)

    better : IsBest x most count → HasLeastPath x hook most → IsBest x most (suc count)
    better b p = go (smaller_or_same p.path b.path)
      where
        go : (p.path ≡ b.path) ⊎ (IsSmallerPath p.path b.path ⊎ IsSmallerPath b.path p.path) → IsBest x most (suc count)
        go (inl e) = stays_best b (λ other leads s. p.least other leads (subst (IsSmallerPath other) (sym e) s))
        go (inr (inr greater)) = stays_best b (λ other leads s. p.least other leads (smaller_trans other b.path p.path s greater))
        go (inr (inl smaller)) = last_best p earlier
          where
            earlier : (t h : ℕ) (other : List ℕ) → t < count → slice_get rule.hooks t ≡ Some h → Leads rule.left_links h other x → IsPathBefore other t p.path count → ⊥
            earlier t h other c there leads (inl s) = b.least t h other c there leads (inl (smaller_trans other p.path b.path s smaller))
            earlier t h other c there leads (inr (same, less)) = b.least t h other c there leads (inl (subst (λ w. IsSmallerPath w b.path) (sym same) smaller))

    one_more : IsBest x most count ⊎ HasNoneFrom x most count → HasLeastPath x hook most ⊎ HasNoPath x hook most → IsBest x most (suc count) ⊎ HasNoneFrom x most (suc count)
    one_more (inl b) (inl p) = inl (better b p)
    one_more (inl b) (inr none) = inl (stays_best b (λ other leads s. absurd (none other (no_longer other b.path most s b.short) leads)))
    one_more (inr none) (inl p) = inl (last_best p earlier)
      where
        earlier : (t h : ℕ) (other : List ℕ) → t < count → slice_get rule.hooks t ≡ Some h → Leads rule.left_links h other x → IsPathBefore other t p.path count → ⊥
        earlier t h other c there leads (inl s) = none t h other c there (no_longer other p.path most s p.short) leads
        earlier t h other c there leads (inr (same, less)) = none t h other c there (omega (arith, ap length same, p.short)) leads
    one_more (inr none) (inr last) = inr all
      where
        all : HasNoneFrom x most (suc count)
        all t h other b there short leads = go (cases_lt t count)
          where
            go : (t < count) ⊎ (count ≤ t) → ⊥
            go (inl c) = none t h other c there short leads
            go (inr c) =
                let e : t ≡ count = omega arith in
                last other short (subst (λ g. Leads rule.left_links g other x) (same_at count h hook (subst (λ u. slice_get rule.hooks u ≡ Some h) e there) at) leads)

  best_of : (x most count : ℕ) → count ≤ length rule.hooks → IsBest x most count ⊎ HasNoneFrom x most count
  best_of x most zero b = inr (λ t h other c there short leads. omega arith)
  best_of x most (suc count) b =
      let hook : ℕ = slice_index rule.hooks count in
      (one_more x most count hook (slice_get-get_or rule.hooks count 0 (omega arith)) (best_of x most count (omega arith)) (least_from x hook most))

  pub least_path : (x : ℕ) → IsTrue (has_word rule Left x) → (hook : ℕ) × (path : List ℕ) × IsPathTo rule x hook path
  least_path x left = go (incidence.structured.connected x (word_below rule Left x left) left)
    where
      go : (h : ℕ) × Contains rule.hooks h × IsJoined rule.left_links any_label h x → (hook : ℕ) × (path : List ℕ) × IsPathTo rule x hook path
      go (h, c, (known, all, leads)) = of (best_of x (length known) (length rule.hooks) (omega arith))
        where
          of : IsBest x (length known) (length rule.hooks) ⊎ HasNoneFrom x (length known) (length rule.hooks) → (hook : ℕ) × (path : List ℕ) × IsPathTo rule x hook path
          of (inl b) = (b.hook, b.path, record { index = b.index; hook_at = b.hook_at; leads = b.leads; least = λ t g other there to before. b.least t g other (slice_get_within rule.hooks t g there) there to before })
          of (inr none) = absurd (none c.0 h known c.1 (contained_at rule.hooks h c) (omega arith) leads)
