-- Whether links with labels of a set join two nodes can be decided, link by link.
use Rattle.std.proofs.Common.{◌≡◌, ℕ, ◌⊎◌, List, [], ◌∷◌, IsTrue, refl, sym, ap, subst, inl, inr}
use Rattle.std.proofs.lemmas.Bool.{cases_eq}
use Rattle.std.specs.List.{Contains}
use Rattle.gm_model.specs.declared.rule.Link.{Link}
use Rattle.gm_model.specs.Orbits.{Labels, IsPathIn}
use Rattle.gm_model.specs.Rules.{IsLinked, link_from}
use Rattle.gm_model.specs.Structure.{Leads, IsJoined}
use Rattle.gm_embcheck.proofs.Joined.{joined_all, joined_back, joined_one, joined_same}
use Rattle.gm_plan.proofs.Decided.{decide_true, decide_both, decide_either}
use Rattle.gm_theory.proofs.ValuesLists.{IsIn, in_contained, contains_in}
use Rattle.gm_theory.proofs.ValuesReach.{IsDecided}

-- the link lies on the way from x to y
abbrev IsOnWay : List Link → Labels → Link → ℕ → ℕ → Type 0
IsOnWay links o link x y = IsTrue (o link.label) × ((IsJoined links o x link.from × IsJoined links o link.to y) ⊎ (IsJoined links o x link.to × IsJoined links o link.from y))

module _ (o : Labels) (link : Link) (links : List Link) where
  more_contained : (other : Link) → Contains links other → Contains (link ∷ links) other
  more_contained other c = contains_in (link ∷ links) other (inr (in_contained links other c))

  more_linked : (x i y : ℕ) → IsLinked links x i y → IsLinked (link ∷ links) x i y
  more_linked x i y (inl c) = inl (more_contained (link_from x i y) c)
  more_linked x i y (inr c) = inr (more_contained (link_from y i x) c)

  more_leads : (path : List ℕ) (x y : ℕ) → Leads links x path y → Leads (link ∷ links) x path y
  more_leads [] x y e = e
  more_leads (i ∷ path) x y (z, l, rest) = (z, more_linked x i z l, more_leads path z y rest)

  more_joined : (x y : ℕ) → IsJoined links o x y → IsJoined (link ∷ links) o x y
  more_joined x y (path, all, leads) = (path, all, more_leads path x y leads)

  first_linked : IsLinked (link ∷ links) link.from link.label link.to
  first_linked = inl (contains_in (link ∷ links) link (inl refl))

  first_joined : IsTrue (o link.label) → IsJoined (link ∷ links) o link.from link.to
  first_joined t = joined_one (link ∷ links) o link.from link.label link.to t first_linked

  by_way : (x y : ℕ) → IsOnWay links o link x y → IsJoined (link ∷ links) o x y
  by_way x y (t, inl (a, b)) = joined_all (link ∷ links) o x link.from y (more_joined x link.from a) (joined_all (link ∷ links) o link.from link.to y (first_joined t) (more_joined link.to y b))
  by_way x y (t, inr (a, b)) = joined_all (link ∷ links) o x link.to y (more_joined x link.to a) (joined_all (link ∷ links) o link.to link.from y (joined_back (link ∷ links) o link.from link.to (first_joined t)) (more_joined link.from y b))

  abbrev IsEither : ℕ → ℕ → Type 0
  IsEither x y = IsJoined links o x y ⊎ IsOnWay links o link x y

  -- a way that begins with one of the other links
  behind_other : (x z y : ℕ) → IsJoined links o x z → IsEither z y → IsEither x y
  behind_other x z y a (inl b) = inl (joined_all links o x z y a b)
  behind_other x z y a (inr (t, inl (b, c))) = inr (t, inl (joined_all links o x z link.from a b, c))
  behind_other x z y a (inr (t, inr (b, c))) = inr (t, inr (joined_all links o x z link.to a b, c))

  -- and with this one, in either direction
  behind_first : (y : ℕ) → IsTrue (o link.label) → IsEither link.to y → IsEither link.from y
  behind_first y t (inl b) = inr (t, inl (joined_same links o link.from link.from refl, b))
  behind_first y t (inr (s, inl (b, c))) = inr (t, inl (joined_same links o link.from link.from refl, c))
  behind_first y t (inr (s, inr (b, c))) = inl c

  behind_back : (y : ℕ) → IsTrue (o link.label) → IsEither link.from y → IsEither link.to y
  behind_back y t (inl b) = inr (t, inr (joined_same links o link.to link.to refl, b))
  behind_back y t (inr (s, inl (b, c))) = inl c
  behind_back y t (inr (s, inr (b, c))) = inr (t, inr (joined_same links o link.to link.to refl, c))

  split : (path : List ℕ) (x y : ℕ) → IsPathIn o path → Leads (link ∷ links) x path y → IsEither x y
  split [] x y all e = inl (joined_same links o x y e)
  split (i ∷ path) x y all (z, l, rest) = go l (split path z y all.1 rest)
    where
      forth : IsIn (link_from x i z) (link ∷ links) → IsEither z y → IsEither x y
      forth (inr c) on = behind_other x z y (joined_one links o x i z all.0 (inl (contains_in links (link_from x i z) c))) on
      forth (inl e) on =
          let from : link.from ≡ x = ap (λ (l : Link). l.from) e in
          let label : link.label ≡ i = ap (λ (l : Link). l.label) e in
          let to : link.to ≡ z = ap (λ (l : Link). l.to) e in
          subst (λ u. IsEither u y) from (behind_first y (subst (λ k. IsTrue (o k)) (sym label) all.0) (subst (λ u. IsEither u y) (sym to) on))

      back : IsIn (link_from z i x) (link ∷ links) → IsEither z y → IsEither x y
      back (inr c) on = behind_other x z y (joined_one links o x i z all.0 (inr (contains_in links (link_from z i x) c))) on
      back (inl e) on =
          let from : link.from ≡ z = ap (λ (l : Link). l.from) e in
          let label : link.label ≡ i = ap (λ (l : Link). l.label) e in
          let to : link.to ≡ x = ap (λ (l : Link). l.to) e in
          subst (λ u. IsEither u y) to (behind_back y (subst (λ k. IsTrue (o k)) (sym label) all.0) (subst (λ u. IsEither u y) (sym from) on))

      go : IsLinked (link ∷ links) x i z → IsEither z y → IsEither x y
      go (inl c) on = forth (in_contained (link ∷ links) (link_from x i z) c) on
      go (inr c) on = back (in_contained (link ∷ links) (link_from z i x) c) on

  one_more : (x y : ℕ) → IsDecided (IsEither x y) → IsDecided (IsJoined (link ∷ links) o x y)
  one_more x y (inl (inl joined)) = inl (more_joined x y joined)
  one_more x y (inl (inr way)) = inl (by_way x y way)
  one_more x y (inr none) = inr (λ h. none (split h.0 x y h.1 h.2))

pub decide_joined : (links : List Link) (o : Labels) (x y : ℕ) → IsDecided (IsJoined links o x y)
decide_joined [] o x y = go (cases_eq x y)
  where
    alone : (path : List ℕ) → Leads [] x path y → x ≡ y
    alone [] e = e
    alone (i ∷ path) (z, inl c, rest) = absurd (in_contained [] (link_from x i z) c)
    alone (i ∷ path) (z, inr c, rest) = absurd (in_contained [] (link_from z i x) c)

    go : (x ≡ y) ⊎ (x ≡ y → ⊥) → IsDecided (IsJoined [] o x y)
    go (inl e) = inl (joined_same [] o x y e)
    go (inr apart) = inr (λ h. apart (alone h.0 h.2))
decide_joined (link ∷ links) o x y = one_more o link links x y
    (decide_either (decide_joined links o x y)
    (decide_both (decide_true (o link.label)) (decide_either
    (decide_both (decide_joined links o x link.from) (decide_joined links o link.to y))
    (decide_both (decide_joined links o x link.to) (decide_joined links o link.from y)))))
