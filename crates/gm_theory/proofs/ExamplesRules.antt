-- Tests of a rule, which compute, and the conditions that they show.
use Rattle.std.proofs.Common.{◌≡◌, ℕ, zero, suc, ◌+◌, ◌<◌, ◌≤◌, Bool, true, false, ◌&&◌, ◌||◌, ◌⊎◌, IsTrue, List, [], ◌∷◌, length, eqb, ltb, leb, Option, Some, None, slice_get, Contains, refl, sym, ◌∙◌, ap, ap₂, subst, inl, inr, arith}
use Rattle.std.proofs.lemmas.Bool.{eqb-true, eq-eqb, ltb-true, leb-true, le-leb, or_cases, cases_lt}
use Rattle.std.proofs.lemmas.Option.{slice_get_past, slice_get_within}
use Rattle.std.specs.List.{AllByRecursion}
use Rattle.std.specs.Option.{option_map_or}
use Rattle.gm_model.specs.declared.rule.Link.{Link}
use Rattle.gm_model.specs.declared.rule.Side.{Side}
use Rattle.gm_model.specs.declared.rule.Side.TheVariants.{Left, Right}
use Rattle.gm_model.specs.declared.schema.Schema.{Schema}
use Rattle.gm_model.specs.declared.step.Step.{Step}
use Rattle.gm_model.specs.declared.step.Step.TheVariants.{Absent, Exp, Imp}
use Rattle.gm_model.specs.declared.word.Letter.{Letter}
use Rattle.gm_model.specs.declared.word.Letter.TheVariants.{At, Gone}
use Rattle.gm_model.specs.Orbits.{Labels, IsPathIn}
use Rattle.gm_model.specs.Rules.{Rule, RuleNode, Assignment, has_word, is_preserved, is_removed, is_added, letters, links_on, link_from, step, width, hook_label, IsLinked}
use Rattle.gm_model.specs.Squares.{IsApart, ClosesBy, IsExcused, ClosesRight, IsSquareGood, HasSquares}
use Rattle.gm_model.specs.Structure.{HasLabelsUpTo, IsLinkInRange, IsInRange, IsPlainWord, HasPlainHook, HasWidth, IsJoined, Leads, any_label, IsConnected, IsStructured, arcs_at, HasArcs, HasIncidence, AreGood}
use Rattle.gm_theory.proofs.ExamplesChecks.{each_below, each, ◌implies◌, implied}
use Rattle.gm_theory.proofs.Lists.{some_same, none_some}
use Rattle.gm_theory.proofs.RuleSteps.{word_below}
use Rattle.gm_theory.proofs.Tests.{both_true, not_both}

-- ---- words

abbrev pub labels_up_to : ℕ → List Letter → Bool
labels_up_to n [] = true
labels_up_to n (At i ∷ word) = leb i n && labels_up_to n word
labels_up_to n (Gone ∷ word) = labels_up_to n word

labels_shown : (n : ℕ) (word : List Letter) → IsTrue (labels_up_to n word) → HasLabelsUpTo n word
labels_shown n [] h = tt
labels_shown n (At j ∷ word) h =
    let both : IsTrue (leb j n) × IsTrue (labels_up_to n word) = both_true (leb j n) (labels_up_to n word) h in
    (λ i e. let same : j ≡ i = cc in subst (λ k. k ≤ n) same (leb-true j n both.0), labels_shown n word both.1)
labels_shown n (Gone ∷ word) h = (λ i e. absurd (cc), labels_shown n word h)

abbrev is_at : Option Letter → Bool
is_at (Some (At i)) = true
is_at (Some Gone) = false
is_at None = true

abbrev same_label : Option Letter → Option Letter → Bool
same_label (Some (At i)) (Some (At j)) = eqb i j
same_label (Some Gone) l = false
same_label (Some (At i)) (Some Gone) = false
same_label (Some (At i)) None = false
same_label None l = false

abbrev plain_test : List Letter → Bool
plain_test word = each_below (length word) (λ m. is_at (slice_get word m) && each_below (length word) (λ m'. same_label (slice_get word m) (slice_get word m') implies eqb m m'))

plain_shown : (word : List Letter) → IsTrue (plain_test word) → IsPlainWord word
plain_shown word h = record {
  labels = λ m e. not_both (is_at (slice_get word m)) (here m (slice_get_within word m Gone e)).0 (rw e refl);
  distinct = λ m m' i e f. eqb-true m m' (implied (same_label (slice_get word m) (slice_get word m')) (eqb m m') (each (length word) _ (here m (slice_get_within word m (At i) e)).1 m' (slice_get_within word m' (At i) f)) (rw (e, f) (eq-eqb i i refl)));
}
  where
    here : (m : ℕ) → m < length word → IsTrue (is_at (slice_get word m)) × IsTrue (each_below (length word) (λ m'. same_label (slice_get word m) (slice_get word m') implies eqb m m'))
    here m b = both_true (is_at (slice_get word m)) _ (each (length word) _ h m b)

-- ---- in range

module _ (schema : Schema) (rule : Rule) where
  abbrev count : ℕ
  count = length rule.nodes

  abbrev link_test : Side → Link → Bool
  link_test side link = leb link.label schema.dim && has_word rule side link.from && has_word rule side link.to

  abbrev links_test : Side → List Link → Bool
  links_test side [] = true
  links_test side (link ∷ links) = link_test side link && links_test side links

  links_shown : (side : Side) (links : List Link) → IsTrue (links_test side links) → AllByRecursion (IsLinkInRange schema.dim rule side) links
  links_shown side [] h = tt
  links_shown side (link ∷ links) h =
      let both : IsTrue (link_test side link) × IsTrue (links_test side links) = both_true _ _ h in
      let ends : IsTrue (leb link.label schema.dim && has_word rule side link.from) × IsTrue (has_word rule side link.to) = both_true _ _ both.0 in
      let first : IsTrue (leb link.label schema.dim) × IsTrue (has_word rule side link.from) = both_true _ _ ends.0 in
      (record { label = leb-true link.label schema.dim first.0; from = first.1; to = ends.1 }, links_shown side links both.1)

  -- a node assigns at most one embedding, and it is added or preserved
  abbrev sets_test : ℕ → List Assignment → Bool
  sets_test x [] = true
  sets_test x (s ∷ []) = has_word rule Right x && ltb s.embed (length schema.embeds)
  sets_test x (s ∷ t ∷ sets) = false

  sets_shown : (x : ℕ) (sets : List Assignment) (s : Assignment) → IsTrue (sets_test x sets) → Contains sets s → IsTrue (has_word rule Right x) × (s.embed < length schema.embeds)
  sets_shown x [] s h (k, b, e) = absurd (omega arith)
  sets_shown x (t ∷ []) s h (zero, b, e) =
      let both : IsTrue (has_word rule Right x) × IsTrue (ltb t.embed (length schema.embeds)) = both_true _ _ h in
      (both.0, subst (λ (u : Assignment). u.embed < length schema.embeds) e (ltb-true t.embed (length schema.embeds) both.1))
  sets_shown x (t ∷ []) s h (suc k, b, e) = absurd (omega arith)
  sets_shown x (t ∷ u ∷ sets) s h c = not_both false h refl

  one_set : (x : ℕ) (sets : List Assignment) (k l : ℕ) (s t : Assignment) → IsTrue (sets_test x sets) → slice_get sets k ≡ Some s → slice_get sets l ≡ Some t → k ≡ l
  one_set x [] k l s t h e f = none_some s e
  one_set x (u ∷ []) zero zero s t h e f = refl
  one_set x (u ∷ []) (suc k) l s t h e f = none_some s e
  one_set x (u ∷ []) zero (suc l) s t h e f = none_some t f
  one_set x (u ∷ v ∷ sets) k l s t h e f = not_both false h refl

  abbrev sets_at : ℕ → List Assignment
  sets_at x = option_map_or (λ (node : RuleNode). node.sets) (slice_get rule.nodes x) []

  abbrev words_test : ℕ → Bool
  words_test x = labels_up_to schema.dim (letters rule Left x) && labels_up_to schema.dim (letters rule Right x) && (has_word rule Left x || has_word rule Right x) && each_below x (λ y. has_word rule Left x implies has_word rule Left y)

  abbrev node_test : ℕ → Bool
  node_test x = words_test x && sets_test x (sets_at x)

  abbrev pub range_test : Bool
  range_test = each_below count node_test && links_test Left rule.left_links && links_test Right rule.right_links

  pub range_shown : (h : ℕ) → rule.hooks ≡ h ∷ [] → IsTrue (has_word rule Left h) → IsTrue range_test → IsInRange schema rule
  range_shown h only left t = record {
    words = words;
    some_word = λ x b. or_cases (has_word rule Left x) (has_word rule Right x) (both_true _ _ (both_true _ _ (both_true _ _ (node x b)).0).0).1;
    left_first = λ x y b l. implied (has_word rule Left y) (has_word rule Left x) (each y _ (both_true _ _ (both_true _ _ (node y (word_below rule Left y l))).0).1 x b) l;
    links = links;
    hooks = rw only (left, tt);
    hooks_differ = λ p q b c. absurd (let one : length rule.hooks ≡ 1 = rw only refl in omega arith);
    sets = λ x n s at c. sets_shown x n.sets s (sets x n at) c;
    sets_differ = λ x n k l s u at e f g. one_set x n.sets k l s u (sets x n at) e f;
  }
    where
      links_of : IsTrue (each_below count node_test && links_test Left rule.left_links) × IsTrue (links_test Right rule.right_links)
      links_of = both_true _ _ t

      node : (x : ℕ) → x < count → IsTrue (node_test x)
      node x b = each count node_test (both_true _ _ links_of.0).0 x b

      links : (side : Side) → AllByRecursion (IsLinkInRange schema.dim rule side) (links_on rule side)
      links Left = links_shown Left rule.left_links (both_true _ _ links_of.0).1
      links Right = links_shown Right rule.right_links links_of.1

      sets : (x : ℕ) (n : RuleNode) → slice_get rule.nodes x ≡ Some n → IsTrue (sets_test x n.sets)
      sets x n at = subst (λ (o : Option RuleNode). IsTrue (sets_test x (option_map_or (λ (m : RuleNode). m.sets) o []))) at (both_true (words_test x) (sets_test x (sets_at x)) (node x (slice_get_within rule.nodes x n at))).1

      word : (x : ℕ) → x < count → IsTrue (labels_up_to schema.dim (letters rule Left x)) × IsTrue (labels_up_to schema.dim (letters rule Right x))
      word x b = both_true _ _ (both_true _ _ (both_true _ _ (both_true _ _ (node x b)).0).0).0

      at_side : (side : Side) (x : ℕ) → x < count → HasLabelsUpTo schema.dim (letters rule side x)
      at_side Left x b = labels_shown schema.dim (letters rule Left x) (word x b).0
      at_side Right x b = labels_shown schema.dim (letters rule Right x) (word x b).1

      words : (side : Side) (x : ℕ) → HasLabelsUpTo schema.dim (letters rule side x)
      words side x = go (cases_lt x count)
        where
          go : (x < count) ⊎ (count ≤ x) → HasLabelsUpTo schema.dim (letters rule side x)
          go (inl b) = at_side side x b
          go (inr b) = rw (slice_get_past rule.nodes x b) tt

-- ---- structure and arcs

module _ (n : ℕ) (rule : Rule) where
  abbrev width_test : Side → ℕ → Bool
  width_test side x = has_word rule side x implies eqb (length (letters rule side x)) (width rule)

  abbrev joins : ℕ → ℕ → Link → Bool
  joins h x link = eqb link.from h && eqb link.to x

  abbrev linked_test : ℕ → ℕ → List Link → Bool
  linked_test h x [] = false
  linked_test h x (link ∷ links) = (eqb link.from h && eqb link.to x) || linked_test h x links

  linked_shown : (h x : ℕ) (links : List Link) → IsTrue (linked_test h x links) → (i : ℕ) × Contains links (link_from h i x)
  linked_shown h x [] t = not_both false t refl
  linked_shown h x (link ∷ links) t = go (or_cases (eqb link.from h && eqb link.to x) (linked_test h x links) t) (λ u. linked_shown h x links u)
    where
      go : IsTrue (eqb link.from h && eqb link.to x) ⊎ IsTrue (linked_test h x links) → (IsTrue (linked_test h x links) → (i : ℕ) × Contains links (link_from h i x)) → (i : ℕ) × Contains (link ∷ links) (link_from h i x)
      go (inl u) further = let both : IsTrue (eqb link.from h) × IsTrue (eqb link.to x) = both_true _ _ u in
          (link.label, (0, omega arith, ap₂ (λ y z. link_from y link.label z) (eqb-true link.from h both.0) (eqb-true link.to x both.1)))
      go (inr u) further = let rest : (i : ℕ) × Contains links (link_from h i x) = further u in (rest.0, (suc rest.1.0, omega (arith, rest.1.1), rest.1.2))

  abbrev pub arcs_test : ℕ → ℕ → Bool
  arcs_test x i = leb (arcs_at rule Left x i) 1 && leb (arcs_at rule Right x i) 1 && (is_removed rule x implies ltb 0 (arcs_at rule Left x i)) && (is_added rule x implies ltb 0 (arcs_at rule Right x i)) && (is_preserved rule x implies eqb (arcs_at rule Left x i) (arcs_at rule Right x i))

  pub arcs_shown : (x : ℕ) → ((i : ℕ) → i < n + 1 → IsTrue (arcs_test x i)) → HasArcs n rule x
  arcs_shown x arc = record {
    left_once = λ i c. leb-true _ _ (both_true _ _ (both_true _ _ (both_true _ _ (both_true _ _ (arc i c)).0).0).0).0;
    right_once = λ i c. leb-true _ _ (both_true _ _ (both_true _ _ (both_true _ _ (both_true _ _ (arc i c)).0).0).0).1;
    one_sided = λ i c. ((λ r. ltb-true _ _ (implied (is_removed rule x) _ (both_true _ _ (both_true _ _ (both_true _ _ (arc i c)).0).0).1 r)), (λ a. ltb-true _ _ (implied (is_added rule x) _ (both_true _ _ (both_true _ _ (arc i c)).0).1 a)));
    both = λ i c k. let same : arcs_at rule Left x i ≡ arcs_at rule Right x i = eqb-true _ _ (implied (is_preserved rule x) _ (both_true _ _ (arc i c)).1 k) in
        ((λ some. subst (λ m. 0 < m) same some), (λ some. subst (λ m. 0 < m) (sym same) some));
  }

  abbrev shape_test : ℕ → ℕ → Bool
  shape_test h x = width_test Left x && width_test Right x && (has_word rule Left x implies (eqb h x || linked_test h x rule.left_links))

  -- each left node is the hook, or a left link leads to it from there
  abbrev pub structure_test : ℕ → Bool
  structure_test h = plain_test (letters rule Left h) && each_below (length rule.nodes) (shape_test h)

  pub structure_shown : (h : ℕ) → rule.hooks ≡ h ∷ [] → IsTrue (has_word rule Left h) → IsTrue (structure_test h) → IsStructured rule
  structure_shown h only left t = record { hook = ((λ x l. rw only (omega arith)), (λ none. not_both (has_word rule Left h) left (none h))); plain = plain; widths = widths; connected = connected }
    where
      shape : (x : ℕ) → x < length rule.nodes → IsTrue (shape_test h x)
      shape x b = each (length rule.nodes) (shape_test h) (both_true (plain_test (letters rule Left h)) (each_below (length rule.nodes) (shape_test h)) t).1 x b

      plain : AreGood (HasPlainHook rule) (length rule.hooks)
      plain k b g e = go k (rw only at e)
        where
          go : (k : ℕ) → slice_get (h ∷ []) k ≡ Some g → IsPlainWord (letters rule Left g)
          go zero f = subst (λ z. IsPlainWord (letters rule Left z)) (some_same h g f) (plain_shown (letters rule Left h) (both_true (plain_test (letters rule Left h)) (each_below (length rule.nodes) (shape_test h)) t).0)
          go (suc k) f = none_some g f

      widths : AreGood (HasWidth rule) (length rule.nodes)
      widths x b Left w = eqb-true _ _ (implied (has_word rule Left x) _ (both_true _ _ (both_true _ _ (shape x b)).0).0 w)
      widths x b Right w = eqb-true _ _ (implied (has_word rule Right x) _ (both_true _ _ (both_true _ _ (shape x b)).0).1 w)

      connected : AreGood (IsConnected rule) (length rule.nodes)
      connected x b l = (h, subst (λ hooks. Contains hooks h) (sym only) (0, omega arith, refl), go (or_cases (eqb h x) (linked_test h x rule.left_links) (implied (has_word rule Left x) (eqb h x || linked_test h x rule.left_links) (both_true (width_test Left x && width_test Right x) (has_word rule Left x implies (eqb h x || linked_test h x rule.left_links)) (shape x b)).1 l)))
        where
          go : IsTrue (eqb h x) ⊎ IsTrue (linked_test h x rule.left_links) → IsJoined rule.left_links any_label h x
          go (inl e) = ([], tt, eqb-true h x e)
          go (inr k) = let found : (i : ℕ) × Contains rule.left_links (link_from h i x) = linked_shown h x rule.left_links k in (found.0 ∷ [], (refl, tt), (x, inl found.1, refl))

  abbrev pub incidence_test : ℕ → Bool
  incidence_test h = structure_test h && each_below (length rule.nodes) (λ x. each_below (n + 1) (arcs_test x))

  pub incidence_shown : (h : ℕ) → rule.hooks ≡ h ∷ [] → IsTrue (has_word rule Left h) → IsTrue (incidence_test h) → HasIncidence n rule
  incidence_shown h only left t = record {
    structured = structure_shown h only left (both_true _ _ t).0;
    arcs = λ x b. arcs_shown x (λ i c. each (n + 1) (arcs_test x) (each (length rule.nodes) (λ x. each_below (n + 1) (arcs_test x)) (both_true _ _ t).1 x b) i c);
  }

-- ---- squares

abbrev same_step : Step → Step → Bool
same_step Absent Absent = true
same_step (Exp x) (Exp y) = eqb x y
same_step (Imp m) (Imp k) = eqb m k
same_step Absent (Exp y) = false
same_step Absent (Imp k) = false
same_step (Exp x) Absent = false
same_step (Exp x) (Imp k) = false
same_step (Imp m) Absent = false
same_step (Imp m) (Exp y) = false

same_shown : (s t : Step) → IsTrue (same_step s t) → s ≡ t
same_shown Absent Absent h = refl
same_shown (Exp x) (Exp y) h = ap Exp (eqb-true x y h)
same_shown (Imp m) (Imp k) h = ap Imp (eqb-true m k h)
same_shown Absent (Exp y) h = not_both false h refl
same_shown Absent (Imp k) h = not_both false h refl
same_shown (Exp x) Absent h = not_both false h refl
same_shown (Exp x) (Imp k) h = not_both false h refl
same_shown (Imp m) Absent h = not_both false h refl
same_shown (Imp m) (Exp y) h = not_both false h refl

abbrev apart_test : ℕ → ℕ → Bool
apart_test i j = leb (i + 2) j || leb (j + 2) i

module _ (steps : ℕ → ℕ → Step) (label : ℕ → ℕ) where
  abbrev is_exp : Step → Step → Bool
  is_exp (Exp w) (Exp v) = eqb w v
  is_exp (Exp w) Absent = false
  is_exp (Exp w) (Imp m) = false
  is_exp Absent t = false
  is_exp (Imp m) t = false

  exp_shown : (s t : Step) → IsTrue (is_exp s t) → (w : ℕ) × (s ≡ Exp w) × (t ≡ Exp w)
  exp_shown (Exp w) (Exp v) h = (w, refl, ap Exp (sym (eqb-true w v h)))
  exp_shown (Exp w) Absent h = not_both false h refl
  exp_shown (Exp w) (Imp m) h = not_both false h refl
  exp_shown Absent t h = not_both false h refl
  exp_shown (Imp m) t h = not_both false h refl

  abbrev closes_test : ℕ → ℕ → Step → Step → Bool
  closes_test i j (Exp y) (Exp z) = is_exp (steps y j) (steps z i)
  closes_test i j (Exp y) (Imp m) = same_step (steps y j) (Imp m)
  closes_test i j (Imp m) (Exp z) = same_step (steps z i) (Imp m)
  closes_test i j (Imp m) (Imp k) = apart_test (label m) (label k)
  closes_test i j Absent t = false
  closes_test i j (Exp y) Absent = false
  closes_test i j (Imp m) Absent = false

  closes_shown : (i j : ℕ) (s t : Step) → IsTrue (closes_test i j s t) → ClosesBy steps label i j s t
  closes_shown i j (Exp y) (Exp z) h = exp_shown (steps y j) (steps z i) h
  closes_shown i j (Exp y) (Imp m) h = same_shown (steps y j) (Imp m) h
  closes_shown i j (Imp m) (Exp z) h = same_shown (steps z i) (Imp m) h
  closes_shown i j (Imp m) (Imp k) h = go (or_cases (leb (label m + 2) (label k)) (leb (label k + 2) (label m)) h)
    where
      go : IsTrue (leb (label m + 2) (label k)) ⊎ IsTrue (leb (label k + 2) (label m)) → IsApart (label m) (label k)
      go (inl a) = inl (leb-true _ _ a)
      go (inr a) = inr (leb-true _ _ a)
  closes_shown i j Absent t h = not_both false h refl
  closes_shown i j (Exp y) Absent h = not_both false h refl
  closes_shown i j (Imp m) Absent h = not_both false h refl

module _ (n : ℕ) (rule : Rule) where
  abbrev excused_test : ℕ → ℕ → ℕ → Bool
  excused_test x i j = is_preserved rule x && same_step (step rule Left x i) (step rule Right x i) && same_step (step rule Left x j) (step rule Right x j)

  abbrev pub square_test : ℕ → ℕ → ℕ → Bool
  square_test x i j = has_word rule Right x implies (excused_test x i j || closes_test (step rule Right) (hook_label rule) i j (step rule Right x i) (step rule Right x j))

  pub square_shown : (x i j : ℕ) → IsTrue (square_test x i j) → IsSquareGood rule x i j
  square_shown x i j t r = go (or_cases _ _ (implied (has_word rule Right x) _ t r))
    where
      go : IsTrue (excused_test x i j) ⊎ IsTrue (closes_test (step rule Right) (hook_label rule) i j (step rule Right x i) (step rule Right x j)) → IsExcused rule x i j ⊎ ClosesRight rule x i j
      go (inl e) = inl record {
        preserved = (both_true _ _ (both_true _ _ e).0).0;
        same_i = same_shown _ _ (both_true _ _ (both_true _ _ e).0).1;
        same_j = same_shown _ _ (both_true _ _ e).1;
      }
      go (inr c) = inr (closes_shown (step rule Right) (hook_label rule) i j (step rule Right x i) (step rule Right x j) c)

  abbrev pub squares_test : Bool
  squares_test = each_below (length rule.nodes) (λ x. each_below (n + 1) (λ j. each_below (n + 1) (λ i. leb (i + 2) j implies square_test x i j)))

  pub squares_shown : IsTrue squares_test → HasSquares n rule
  squares_shown t x i j far h r = square_shown x i j (implied (leb (i + 2) j) _ (each (n + 1) _ (each (n + 1) _ (each (length rule.nodes) _ t x (word_below rule Right x r)) j (omega arith)) i (omega arith)) (le-leb (i + 2) j far)) r

-- ---- components

-- links with labels of the set join nodes of one part
abbrev pub parts_test : Labels → (ℕ → ℕ) → List Link → Bool
parts_test o part [] = true
parts_test o part (link ∷ links) = (o link.label implies eqb (part link.from) (part link.to)) && parts_test o part links

parts_linked : (o : Labels) (part : ℕ → ℕ) (links : List Link) (link : Link) → IsTrue (parts_test o part links) → Contains links link → IsTrue (o link.label) → part link.from ≡ part link.to
parts_linked o part [] link t (k, b, e) h = absurd (omega arith)
parts_linked o part (l ∷ links) link t (zero, b, e) h = subst (λ (k : Link). IsTrue (o k.label) → part k.from ≡ part k.to) e (λ g. eqb-true _ _ (implied (o l.label) _ (both_true _ _ t).0 g)) h
parts_linked o part (l ∷ links) link t (suc k, b, e) h = parts_linked o part links link (both_true _ _ t).1 (k, omega arith, e) h

pub same_part : (o : Labels) (part : ℕ → ℕ) (links : List Link) → IsTrue (parts_test o part links) → (x y : ℕ) → IsJoined links o x y → part x ≡ part y
same_part o part links t x y (path, all, leads) = go x path all leads
  where
    one : (z i w : ℕ) → IsTrue (o i) → IsLinked links z i w → part z ≡ part w
    one z i w h (inl c) = parts_linked o part links (link_from z i w) t c h
    one z i w h (inr c) = sym (parts_linked o part links (link_from w i z) t c h)

    go : (z : ℕ) (path : List ℕ) → IsPathIn o path → Leads links z path y → part z ≡ part y
    go z [] all e = ap part e
    go z (i ∷ path) all (w, l, leads) = one z i w all.0 l ∙ go w path all.1 leads
