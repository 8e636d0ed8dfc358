-- How marks spread along links, and that no mark is missing once they have spread.
use Rattle.std.proofs.Common.{◌≡◌, ◌≢◌, ℕ, ◌+◌, ◌<◌, ◌⊎◌, inl, inr, ◌↔◌, Bool, true, false, not, cond, eqb, List, [], ◌∷◌, ◌++◌, length, get_or, set, take, replicate, refl, ap, sym, subst, ◌∙◌, arith}
use mathlib.Core.Bool.{beq}
use Rattle.std.specs.List.{All, Contains}
use Rattle.std.proofs.lemmas.Bool.{cases_Bool, cases_lt, eqb-true, eqb-false, true_from_ne_false}
use Rattle.std.proofs.Math.ListN.{get_or-eq_default}
use Rattle.std.proofs.lemmas.List.{get_or-set_same, get_or-set_other, get_or-replicate, length-replicate, length-set, take_more}
use Rattle.std.proofs.lemmas.List.Elements.{All-contains, Contains-append_left, Contains-push, Contains-push_cases}
use Rattle.std.proofs.lemmas.List.Sums.{sum_by-set}
use Rattle.gm_model.specs.declared.rule.Link.{Link}
use Rattle.gm_model.specs.Orbits.{IsPathIn}
use Rattle.gm_model.specs.Rules.{IsLinked, link_from}
use Rattle.gm_model.specs.Structure.{Leads, IsJoined, any_label}
use Rattle.gm_incident.specs.inner.Reached.{is_reached, IsReached, unreached, IsJoinedToHook, HasSpread}

-- ---- marks

pub nothing_marked : (n x : ℕ) → get_or (replicate n false) x false ≡ true → ⊥
nothing_marked n x h = elim (cases_lt x n) [
  | inl b ↦ (let e : get_or (replicate n false) x false ≡ false = get_or-replicate n x false false b in cc)
  | inr b ↦ (let e : get_or (replicate n false) x false ≡ false = get_or-eq_default (replicate n false) false (rw length-replicate b) in cc)
]

pub mark_kept : (r : List Bool) (y x : ℕ) → y < length r → IsReached r x → IsReached (set r y true) x
mark_kept r y x b h = elim (cases_Bool (eqb y x)) [
  | inl e ↦ (let e' : y ≡ x = eqb-true y x e in rw (← e') (get_or-set_same r y true false b))
  | inr e ↦ (let ne : x ≢ y = (λ p. eqb-false y x e (sym p)) in rw (get_or-set_other r y x true false ne) h)
]

pub mark_set : (r : List Bool) (y x : ℕ) → IsReached (set r y true) x → IsReached r x ⊎ (y ≡ x)
mark_set r y x h = elim (cases_Bool (eqb y x)) [
  | inl e ↦ inr (eqb-true y x e)
  | inr e ↦ (let ne : x ≢ y = (λ p. eqb-false y x e (sym p)) in inl (rw (get_or-set_other r y x true false ne) at h))
]

-- ---- paths

any_path : (path : List ℕ) → IsPathIn any_label path
any_path [] = tt
any_path (i ∷ path) = (refl, any_path path)

leads_on : (links : List Link) (x : ℕ) (path : List ℕ) (y i z : ℕ) → Leads links x path y → IsLinked links y i z → Leads links x (path ++ i ∷ []) z
leads_on links x [] y i z h l = (z, subst (λ w. IsLinked links w i z) (sym h) l, refl)
leads_on links x (j ∷ path) y i z h l = (h.0, h.1, leads_on links h.0 path y i z h.2 l)

leads_all : (links : List Link) (x : ℕ) (path path' : List ℕ) (y z : ℕ) → Leads links x path y → Leads links y path' z → Leads links x (path ++ path') z
leads_all links x [] path' y z h l = subst (λ w. Leads links w path' z) (sym h) l
leads_all links x (j ∷ path) path' y z h l = (h.0, h.1, leads_all links h.0 path path' y z h.2 l)

joined_on : (links : List Link) (x y i z : ℕ) → IsJoined links any_label x y → IsLinked links y i z → IsJoined links any_label x z
joined_on links x y i z h l = (h.0 ++ i ∷ [], any_path (h.0 ++ i ∷ []), leads_on links x h.0 y i z h.2 l)

joined_all : (links : List Link) (x y z : ℕ) → IsJoined links any_label x y → IsJoined links any_label y z → IsJoined links any_label x z
joined_all links x y z h l = (h.0 ++ l.0, any_path (h.0 ++ l.0), leads_all links x h.0 l.0 y z h.2 l.2)

-- ---- marks of the nodes of a list

-- one more node marked
pub marked_more : (nodes : List ℕ) (k : ℕ) (r : List Bool) → k < length nodes → get_or nodes k 0 < length r →
    ((x : ℕ) → IsReached r x ↔ Contains (take k nodes) x) → (x : ℕ) → IsReached (set r (get_or nodes k 0) true) x ↔ Contains (take (k + 1) nodes) x
marked_more nodes k r b w held x = rw (take_more nodes k 0 b) (
  (λ h. elim (mark_set r (get_or nodes k 0) x h) [
    | inl p ↦ Contains-append_left (take k nodes) _ x ((held x).0 p)
    | inr e ↦ subst (λ y. Contains (take k nodes ++ get_or nodes k 0 ∷ []) y) e (Contains-push (take k nodes) (get_or nodes k 0))
  ]),
  (λ h. elim (Contains-push_cases (take k nodes) (get_or nodes k 0) x h) [
    | inl p ↦ mark_kept r (get_or nodes k 0) x w ((held x).1 p)
    | inr e ↦ subst (λ y. IsReached (set r (get_or nodes k 0) true) y) e (get_or-set_same r (get_or nodes k 0) true false w)
  ]),
)

-- ---- one turn of the loop over the links

linked_back : (links : List Link) (x i y : ℕ) → IsLinked links x i y → IsLinked links y i x
linked_back links x i y (inl h) = inr h
linked_back links x i y (inr h) = inl h

-- a node from which links lead to x
abbrev Source : List Link → List Bool → ℕ → Type 0
Source links old x = (y : ℕ) × IsReached old y × IsJoined links any_label y x

source_on : (links : List Link) (old : List Bool) (x i z : ℕ) → IsLinked links x i z → Source links old x → Source links old z
source_on links old x i z l h = (h.0, h.1, joined_on links h.0 x i z h.2 l)

-- a link of which just one end is marked leads from a node that was marked to both
both_sources : (links : List Link) (old r : List Bool) (f i t : ℕ) → HasSpread links old r → IsLinked links f i t → is_reached r f ≢ is_reached r t →
    Source links old f × Source links old t
both_sources links old r f i t h l ne = elim (cases_Bool (is_reached r f)) [
  | inl p ↦ (h.joined f p, source_on links old f i t l (h.joined f p))
  | inr p ↦ (let q : is_reached r t ≡ true = true_from_ne_false (is_reached r t) (λ e. ne (p ∙ sym e)) in
      (source_on links old t i f (linked_back links f i t l) (h.joined t q), h.joined t q))
]

pub spread_more : (links : List Link) (old r : List Bool) (f i t : ℕ) → f < length r → t < length r → HasSpread links old r → IsLinked links f i t →
    is_reached r f ≢ is_reached r t → HasSpread links old (set (set r f true) t true)
spread_more links old r f i t bf bt h l ne =
    let bt' : t < length (set r f true) = rw length-set bt in
    let both = both_sources links old r f i t h l ne in
    record {
      kept = λ x p. mark_kept (set r f true) t x bt' (mark_kept r f x bf (h.kept x p));
      joined = λ x p. elim (mark_set (set r f true) t x p) [
        | inr e ↦ subst (Source links old) e both.1
        | inl q ↦ elim (mark_set r f x q) [
          | inr e ↦ subst (Source links old) e both.0
          | inl k ↦ h.joined x k
        ]
      ];
    }

-- one node less is unmarked
one_less : (g : Bool → ℕ) (a b : Bool) (n m k : ℕ) → g true ≡ 0 → g false ≡ 1 → a ≢ b → m + g a ≡ n + g true → k + g b ≡ m + g true → k < n
one_less g true true n m k t f ne p q = absurd (ne refl)
one_less g true false n m k t f ne p q = omega arith
one_less g false true n m k t f ne p q = omega arith
one_less g false false n m k t f ne p q = absurd (ne refl)

pub unreached_less : (r : List Bool) (f t : ℕ) → f < length r → t < length r → is_reached r f ≢ is_reached r t → unreached (set (set r f true) t true) < unreached r
unreached_less r f t bf bt ne =
    let bt' : t < length (set r f true) = rw length-set bt in
    let apart : t ≢ f = (λ e. ne (ap (is_reached r) (sym e))) in
    let other : get_or (set r f true) t false ≡ get_or r t false = get_or-set_other r f t true false apart in
    let g : Bool → ℕ = λ b. cond (not b) 1 0 in
    let p : unreached (set r f true) + g (get_or r f false) ≡ unreached r + g true = sum_by-set g r f true false bf in
    let q : unreached (set (set r f true) t true) + g (get_or (set r f true) t false) ≡ unreached (set r f true) + g true = sum_by-set g (set r f true) t true false bt' in
    one_less g (get_or r f false) (get_or r t false) (unreached r) (unreached (set r f true)) (unreached (set (set r f true) t true)) refl refl ne p (rw other at q)

pub differ : (a b : Bool) → not (beq a b) ≡ true → a ≢ b
differ true true h = λ e. cc
differ true false h = λ e. cc
differ false true h = λ e. cc
differ false false h = λ e. cc

pub agree : (a b : Bool) → not (beq a b) ≡ false → a ≡ b
agree true true h = refl
agree true false h = cc
agree false true h = cc
agree false false h = refl

-- ---- when marks no longer spread

abbrev pub HasEvenEnds : List Bool → Link → Type 0
HasEvenEnds r link = is_reached r link.from ≡ is_reached r link.to

even_linked : (links : List Link) (r : List Bool) (x i y : ℕ) → All (HasEvenEnds r) links → IsLinked links x i y → IsReached r x → IsReached r y
even_linked links r x i y h (inl l) p = sym (All-contains (HasEvenEnds r) links (link_from x i y) h l) ∙ p
even_linked links r x i y h (inr l) p = All-contains (HasEvenEnds r) links (link_from y i x) h l ∙ p

pub even_along : (links : List Link) (r : List Bool) → All (HasEvenEnds r) links → (x : ℕ) (path : List ℕ) (y : ℕ) → Leads links x path y → IsReached r x → IsReached r y
even_along links r h x [] y l p = subst (IsReached r) l p
even_along links r h x (i ∷ path) y l p = even_along links r h l.0 path y l.2 (even_linked links r x i l.0 h l.1 p)

-- what was joined to a hook stays so as marks spread
pub joined_more : (links : List Link) (hooks : List ℕ) (old new : List Bool) → HasSpread links old new → ((x : ℕ) → IsReached old x → IsJoinedToHook links hooks x) →
    (x : ℕ) → IsReached new x → IsJoinedToHook links hooks x
joined_more links hooks old new h held x p =
    let source = h.joined x p in
    let first = held source.0 source.1 in
    (first.0, first.1, joined_all links first.0 source.0 x first.2 source.2)
