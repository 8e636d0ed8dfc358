-- How the leaders of nodes come about link by link, and that they are those of the components once no link is left.
use Rattle.std.proofs.Common.{◌≡◌, ◌≢◌, ℕ, ◌+◌, ◌<◌, ◌≤◌, ◌⊎◌, inl, inr, ◌↔◌, Bool, true, eqb, min, List, [], ◌∷◌, length, get_or, take, refl, sym, subst, ◌∙◌, arith}
use Rattle.std.specs.List.{All}
use Rattle.std.proofs.lemmas.Bool.{cases_Bool, cases_lt, eqb-true, eqb-false}
use Rattle.std.proofs.lemmas.List.Elements.{All-contains, All-more, All-take}
use Rattle.gm_model.specs.declared.rule.Link.{Link}
use Rattle.gm_model.specs.Orbits.{Labels, IsPathIn}
use Rattle.gm_model.specs.Rules.{IsLinked, link_from}
use Rattle.gm_model.specs.Structure.{Leads, IsJoined}
use Rattle.gm_embcheck.specs.inner.Bounds.{HasLinkBounds}
use Rattle.gm_embcheck.specs.inner.Leaders.{leader_in, AreLeaders, HasJoined}
use Rattle.gm_embcheck.specs.inner.NodeSets.{IsIn}
use Rattle.gm_embcheck.proofs.Joined.{joined_all, joined_back, joined_one, joined_same}

pub equal_or_not : (a b : ℕ) → (a ≡ b) ⊎ (a ≢ b)
equal_or_not a b = elim (cases_Bool (eqb a b)) [ inl e ↦ inl (eqb-true a b e) | inr e ↦ inr (eqb-false a b e) ]

-- both ends of the link have one leader, if it has a label of the type
abbrev pub IsClosed : List ℕ → Labels → Link → Type 0
IsClosed leaders o link = o link.label ≡ true → leader_in leaders link.from ≡ leader_in leaders link.to

-- what had one leader keeps one
pub same_more : (old new : List ℕ) (a b x y : ℕ) → HasJoined old new a b → x < 32 → y < 32 → leader_in old x ≡ leader_in old y → leader_in new x ≡ leader_in new y
same_more old new a b x y j bx by e = elim (equal_or_not (leader_in old x) a) [
  | inl p ↦ j.these x bx (inl p) ∙ sym (j.these y by (inl (sym e ∙ p)))
  | inr p ↦ elim (equal_or_not (leader_in old x) b) [
    | inl q ↦ j.these x bx (inr q) ∙ sym (j.these y by (inr (sym e ∙ q)))
    | inr q ↦ j.others x bx p q ∙ e ∙ sym (j.others y by (λ r. p (e ∙ r)) (λ r. q (e ∙ r)))
  ]
]

abbrev pub HasEndsBelow : Link → Type 0
HasEndsBelow link = (link.from < 32) × (link.to < 32) × (link.label ≤ 7)

abbrev pub no_link : Link
no_link = record { from = 0; label = 0; to = 0 }

-- once the ends of one more link have one leader
pub closed_more : (links : List Link) (o : Labels) (old new : List ℕ) (k : ℕ) → k < length links → HasLinkBounds links → All (IsClosed old o) (take k links) →
    HasJoined old new (leader_in old (get_or links k no_link).from) (leader_in old (get_or links k no_link).to) → All (IsClosed new o) (take (k + 1) links)
closed_more links o old new k b bounds closed j =
    let link : Link = get_or links k no_link in
    let here = bounds k no_link b in
    let a = leader_in old link.from in
    let z = leader_in old link.to in
    let before : All (IsClosed new o) (take k links) = λ m d bm t.
    let earlier : All HasEndsBelow (take k links) = All-take HasEndsBelow k links bounds in
    let ends = earlier m d bm in
    same_more old new a z (get_or (take k links) m d).from (get_or (take k links) m d).to j ends.0 ends.1 (closed m d bm t) in
    All-more (IsClosed new o) links k no_link b before (λ t. j.these link.from here.0 (inl refl) ∙ sym (j.these link.to here.1 (inr refl)))

module _ (links : List Link) (o : Labels) where
  -- each leader is joined with its node, which isn't before it
  pub record AreJoined (leaders : List ℕ) : Type 0 where
    pub joined : (x : ℕ) → x < 32 → IsJoined links o x (leader_in leaders x)
    pub early : (x : ℕ) → x < 32 → leader_in leaders x ≤ x

  pub alone_joined : (leaders : List ℕ) → ((x : ℕ) → x < 32 → leader_in leaders x ≡ x) → AreJoined leaders
  alone_joined leaders h = record {
    joined = λ x b. joined_same links o x (leader_in leaders x) (sym (h x b));
    early = λ x b. let e = h x b in omega arith;
  }

  -- ---- one turn of the loop over the links

  lesser : (x a b : ℕ) → IsJoined links o x a → IsJoined links o x b → IsJoined links o x (min a b)
  lesser x a b ja jb = elim (cases_lt a b) [
    | inl h ↦ (let e : min a b ≡ a = omega arith in subst (IsJoined links o x) (sym e) ja)
    | inr h ↦ (let e : min a b ≡ b = omega arith in subst (IsJoined links o x) (sym e) jb)
  ]

  module _ (old new : List ℕ) (f i t : ℕ) (bf : f < 32) (bt : t < 32) (h : AreJoined old) (typed : o i ≡ true) (linked : IsLinked links f i t) (j : HasJoined old new (leader_in old f) (leader_in old t)) where
    first_second : IsJoined links o (leader_in old f) (leader_in old t)
    first_second = joined_all links o (leader_in old f) f (leader_in old t) (joined_back links o f (leader_in old f) (h.joined f bf))
        (joined_all links o f t (leader_in old t) (joined_one links o f i t typed linked) (h.joined t bt))

    of_first : (x : ℕ) → x < 32 → leader_in old x ≡ leader_in old f → IsJoined links o x (leader_in new x) × (leader_in new x ≤ x)
    of_first x b e =
        let here : IsJoined links o x (leader_in old f) = subst (IsJoined links o x) e (h.joined x b) in
        let there = joined_all links o x (leader_in old f) (leader_in old t) here first_second in
        let is : leader_in new x ≡ min (leader_in old f) (leader_in old t) = j.these x b (inl e) in
        let early = h.early x b in
        (subst (IsJoined links o x) (sym is) (lesser x (leader_in old f) (leader_in old t) here there), omega arith)

    of_second : (x : ℕ) → x < 32 → leader_in old x ≡ leader_in old t → IsJoined links o x (leader_in new x) × (leader_in new x ≤ x)
    of_second x b e =
        let here : IsJoined links o x (leader_in old t) = subst (IsJoined links o x) e (h.joined x b) in
        let there = joined_all links o x (leader_in old t) (leader_in old f) here (joined_back links o (leader_in old f) (leader_in old t) first_second) in
        let is : leader_in new x ≡ min (leader_in old f) (leader_in old t) = j.these x b (inr e) in
        let early = h.early x b in
        (subst (IsJoined links o x) (sym is) (lesser x (leader_in old f) (leader_in old t) there here), omega arith)

    of_other : (x : ℕ) → x < 32 → leader_in new x ≡ leader_in old x → IsJoined links o x (leader_in new x) × (leader_in new x ≤ x)
    of_other x b e = let early = h.early x b in (subst (IsJoined links o x) (sym e) (h.joined x b), omega arith)

    of_each : (x : ℕ) → x < 32 → IsJoined links o x (leader_in new x) × (leader_in new x ≤ x)
    of_each x b = elim (equal_or_not (leader_in old x) (leader_in old f)) [
      | inl e ↦ of_first x b e
      | inr p ↦ elim (equal_or_not (leader_in old x) (leader_in old t)) [ inl e ↦ of_second x b e | inr q ↦ of_other x b (j.others x b p q) ]
    ]

    pub joined_more : AreJoined new
    joined_more = record { joined = λ x b. (of_each x b).0; early = λ x b. (of_each x b).1 }

  -- ---- when no link is left

  module _ (bounds : HasLinkBounds links) where
    linked_below : (x i y : ℕ) → IsLinked links x i y → (x < 32) × (y < 32)
    linked_below x i y (inl l) = let b = All-contains (λ (link : Link). (link.from < 32) × (link.to < 32) × (link.label ≤ 7)) links (link_from x i y) bounds l in (b.0, b.1)
    linked_below x i y (inr l) = let b = All-contains (λ (link : Link). (link.from < 32) × (link.to < 32) × (link.label ≤ 7)) links (link_from y i x) bounds l in (b.1, b.0)

    below_along : (x : ℕ) (path : List ℕ) (y : ℕ) → Leads links x path y → x < 32 → y < 32
    below_along x [] y l b = subst (λ z. z < 32) l b
    below_along x (i ∷ path) y l b = below_along l.0 path y l.2 (linked_below x i l.0 l.1).1

    module _ (leaders : List ℕ) (h : AreJoined leaders) (closed : All (IsClosed leaders o) links) where
      linked_same : (x i y : ℕ) → o i ≡ true → IsLinked links x i y → leader_in leaders x ≡ leader_in leaders y
      linked_same x i y t (inl l) = All-contains (IsClosed leaders o) links (link_from x i y) closed l t
      linked_same x i y t (inr l) = sym (All-contains (IsClosed leaders o) links (link_from y i x) closed l t)

      same_along : (x : ℕ) (path : List ℕ) (y : ℕ) → IsPathIn o path → Leads links x path y → (leader_in leaders x ≡ leader_in leaders y)
      same_along x [] y t l = subst (λ z. leader_in leaders x ≡ leader_in leaders z) l refl
      same_along x (i ∷ path) y t l = linked_same x i l.0 t.0 l.1 ∙ same_along l.0 path y t.1 l.2

      pub are_leaders : AreLeaders links o leaders
      are_leaders = record {
        joined = h.joined;
        least = λ x y b p.
            let same : leader_in leaders x ≡ leader_in leaders y = same_along x p.0 y p.1 p.2 in
            let early : leader_in leaders y ≤ y = h.early y (below_along x p.0 y p.2 b) in
            omega arith;
      }

  -- ---- the nodes with one leader are those of a component

  module _ (leaders : List ℕ) (h : AreLeaders links o leaders) (x y : ℕ) (bx : x < 32) (by : y < 32) where
    pub same_leader : IsJoined links o x y → leader_in leaders y ≡ leader_in leaders x
    same_leader p =
        let first : leader_in leaders x ≤ leader_in leaders y = h.least x (leader_in leaders y) bx (joined_all links o x y (leader_in leaders y) p (h.joined y by)) in
        let back = joined_back links o x y p in
        let second : leader_in leaders y ≤ leader_in leaders x = h.least y (leader_in leaders x) by (joined_all links o y x (leader_in leaders x) back (h.joined x bx)) in
        omega arith

    pub led_joined : leader_in leaders y ≡ leader_in leaders x → IsJoined links o x y
    led_joined e =
        let there : IsJoined links o x (leader_in leaders y) = subst (IsJoined links o x) (sym e) (h.joined x bx) in
        joined_all links o x (leader_in leaders y) y there (joined_back links o y (leader_in leaders y) (h.joined y by))

  pub nodes_joined : HasLinkBounds links → (leaders : List ℕ) → AreLeaders links o leaders → (x : ℕ) → x < 32 → (nodes : List Bool) →
      ((y : ℕ) → IsIn nodes y ↔ ((y < 32) × (leader_in leaders y ≡ leader_in leaders x))) → (y : ℕ) → IsIn nodes y ↔ IsJoined links o x y
  nodes_joined bounds leaders h x b nodes have y = (
    (λ p. let q = (have y).0 p in led_joined leaders h x y b q.0 q.1),
    (λ p. let by = below_along bounds x p.0 y p.2 b in (have y).1 (by, same_leader leaders h x y b by p)),
  )
