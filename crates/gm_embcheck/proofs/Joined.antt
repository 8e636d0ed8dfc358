-- Paths of links with labels of a type: one after the other, and back.
use Rattle.std.proofs.Common.{◌≡◌, ℕ, true, inl, inr, List, [], ◌∷◌, ◌++◌, refl, sym, subst}
use Rattle.std.proofs.lemmas.List.Elements.{All-contains}
use Rattle.gm_model.specs.declared.rule.Link.{Link}
use Rattle.gm_model.specs.declared.rule.Side.{Side}
use Rattle.gm_model.specs.Orbits.{Labels, IsPathIn}
use Rattle.gm_model.specs.Rules.{Rule, has_word, IsLinked, link_from, links_on}
use Rattle.gm_model.specs.Structure.{Leads, IsJoined}
use Rattle.gm_embcheck.specs.inner.Bounds.{HasBounds}

module _ (links : List Link) (o : Labels) where
  pub linked_back : (x i y : ℕ) → IsLinked links x i y → IsLinked links y i x
  linked_back x i y (inl h) = inr h
  linked_back x i y (inr h) = inl h

  path_all : (path path' : List ℕ) → IsPathIn o path → IsPathIn o path' → IsPathIn o (path ++ path')
  path_all [] path' h h' = h'
  path_all (i ∷ path) path' h h' = (h.0, path_all path path' h.1 h')

  leads_all : (x : ℕ) (path path' : List ℕ) (y z : ℕ) → Leads links x path y → Leads links y path' z → Leads links x (path ++ path') z
  leads_all x [] path' y z h l = subst (λ w. Leads links w path' z) (sym h) l
  leads_all x (j ∷ path) path' y z h l = (h.0, h.1, leads_all h.0 path path' y z h.2 l)

  pub joined_same : (x y : ℕ) → x ≡ y → IsJoined links o x y
  joined_same x y e = ([], tt, e)

  pub joined_all : (x y z : ℕ) → IsJoined links o x y → IsJoined links o y z → IsJoined links o x z
  joined_all x y z h l = (h.0 ++ l.0, path_all h.0 l.0 h.1 l.1, leads_all x h.0 l.0 y z h.2 l.2)

  pub joined_one : (x i y : ℕ) → o i ≡ true → IsLinked links x i y → IsJoined links o x y
  joined_one x i y t l = (i ∷ [], (t, tt), (y, l, refl))

  back : (x : ℕ) (path : List ℕ) (y : ℕ) → IsPathIn o path → Leads links x path y → IsJoined links o y x
  back x [] y t l = joined_same y x (sym l)
  back x (i ∷ path) y t l = joined_all y l.0 x (back l.0 path y t.1 l.2) (joined_one l.0 i x t.0 (linked_back x i l.0 l.1))

  pub joined_back : (x y : ℕ) → IsJoined links o x y → IsJoined links o y x
  joined_back x y h = back x h.0 y h.1 h.2

-- links of a side lead from its nodes to its nodes
module _ (rule : Rule) (bounds : HasBounds rule) (side : Side) (o : Labels) where
  abbrev HasEnds : Link → Type 0
  HasEnds link = (has_word rule side link.from ≡ true) × (has_word rule side link.to ≡ true)

  linked_word : (x i y : ℕ) → IsLinked (links_on rule side) x i y → has_word rule side y ≡ true
  linked_word x i y (inl h) = (All-contains HasEnds (links_on rule side) (link_from x i y) (bounds.ends side) h).1
  linked_word x i y (inr h) = (All-contains HasEnds (links_on rule side) (link_from y i x) (bounds.ends side) h).0

  word_along : (x : ℕ) (path : List ℕ) (y : ℕ) → Leads (links_on rule side) x path y → has_word rule side x ≡ true → has_word rule side y ≡ true
  word_along x [] y l w = subst (λ z. has_word rule side z ≡ true) l w
  word_along x (i ∷ path) y l w = word_along l.0 path y l.2 (linked_word x i l.0 l.1)

  pub joined_word : (x y : ℕ) → IsJoined (links_on rule side) o x y → has_word rule side x ≡ true → has_word rule side y ≡ true
  joined_word x y h w = word_along x h.0 y h.2 w
