-- Which rules are in range, what structure and incident arcs a rule must have, and which fault of these is the first.
use Rattle.std.specs.Prelude.{◌≡◌, ◌≢◌, ℕ, ◌+◌, ◌<◌, ◌≤◌, true, ◌⊎◌, ◌↔◌, List, [], ◌∷◌, length, Some, slice_get, IsTrue, IsFalse}
use Rattle.std.specs.List.{AllByRecursion, Contains, count_by}
use Rattle.gm_model.specs.declared.limit.TheConstants.{MOST_LINKS, MOST_NODES, MOST_PARAMS}
use Rattle.gm_model.specs.declared.word.Letter.{Letter}
use Rattle.gm_model.specs.declared.word.Letter.TheVariants.{At, Gone}
use Rattle.gm_model.specs.declared.rule.Link.{Link}
use Rattle.gm_model.specs.declared.rule.RuleFault.{RuleFault}
use Rattle.gm_model.specs.declared.rule.RuleFault.TheVariants as faults
use Rattle.gm_model.specs.declared.rule.Side.{Side}
use Rattle.gm_model.specs.declared.rule.Side.TheVariants.{Left, Right}
use Rattle.gm_model.specs.declared.schema.Schema.{Schema}
use Rattle.gm_model.specs.Orbits.{Labels, IsPathIn, HasNoRepeats}
use Rattle.gm_model.specs.Rules.{Rule, RuleNode, Assignment, has_word, is_preserved, is_removed, is_added, letters, links_on, is_end, is_label, IsLinked, width}

-- ---- the first of a list of tests

-- the least number below `count` at which the test fails
pub record IsFirstBad (IsGood : ℕ → Type 0) (count bad : ℕ) : Type 0 where
  pub within : bad < count
  pub fails : IsGood bad → ⊥
  pub before : (x : ℕ) → x < bad → IsGood x

abbrev pub AreGood : (ℕ → Type 0) → ℕ → Type 0
AreGood IsGood count = (x : ℕ) → x < count → IsGood x

-- ---- in range

-- the letters are labels up to n, and gaps
abbrev pub HasLabelsUpTo : ℕ → List Letter → Type 0
HasLabelsUpTo n word = AllByRecursion (λ letter. (i : ℕ) → letter ≡ At i → i ≤ n) word

-- a link has a label up to n, and joins nodes of its side
pub record IsLinkInRange (n : ℕ) (rule : Rule) (side : Side) (link : Link) : Type 0 where
  pub label : link.label ≤ n
  pub from : IsTrue (has_word rule side link.from)
  pub to : IsTrue (has_word rule side link.to)

-- Expressions are not spoken of here: `IsTyped` says when they are in range.
pub record IsInRange (schema : Schema) (rule : Rule) : Type 0 where
  pub words : (side : Side) (x : ℕ) → HasLabelsUpTo schema.dim (letters rule side x)
  pub some_word : (x : ℕ) → x < length rule.nodes → IsTrue (has_word rule Left x) ⊎ IsTrue (has_word rule Right x)
  pub left_first : (x y : ℕ) → x < y → IsTrue (has_word rule Left y) → IsTrue (has_word rule Left x)
  pub links : (side : Side) → AllByRecursion (IsLinkInRange schema.dim rule side) (links_on rule side)
  pub hooks : AllByRecursion (λ h. IsTrue (has_word rule Left h)) rule.hooks
  pub hooks_differ : HasNoRepeats rule.hooks
  pub sets : (x : ℕ) (node : RuleNode) (s : Assignment) → slice_get rule.nodes x ≡ Some node → Contains node.sets s → IsTrue (has_word rule Right x) × (s.embed < length schema.embeds)
  pub sets_differ : (x : ℕ) (node : RuleNode) (k l : ℕ) (s t : Assignment) → slice_get rule.nodes x ≡ Some node → slice_get node.sets k ≡ Some s → slice_get node.sets l ≡ Some t → s.embed ≡ t.embed → k ≡ l

-- the limits on the parts of a rule
pub record IsWithinLimits (rule : Rule) : Type 0 where
  pub nodes : length rule.nodes ≤ MOST_NODES
  pub left_links : length rule.left_links ≤ MOST_LINKS
  pub right_links : length rule.right_links ≤ MOST_LINKS
  pub params : length rule.params ≤ MOST_PARAMS

-- ---- structure

-- a rule with left nodes has a hook, and a creation rule has none
abbrev pub HasHook : Rule → Type 0
HasHook rule = ((x : ℕ) → IsTrue (has_word rule Left x) → 0 < length rule.hooks) × (((x : ℕ) → IsFalse (has_word rule Left x)) → rule.hooks ≡ [])

-- each letter is a label, and no two are the same
pub record IsPlainWord (word : List Letter) : Type 0 where
  pub labels : (m : ℕ) → slice_get word m ≢ Some Gone
  pub distinct : (m m' i : ℕ) → slice_get word m ≡ Some (At i) → slice_get word m' ≡ Some (At i) → m ≡ m'

-- the left word of the hook at this index is plain
abbrev pub HasPlainHook : Rule → ℕ → Type 0
HasPlainHook rule t = (h : ℕ) → slice_get rule.hooks t ≡ Some h → IsPlainWord (letters rule Left h)

-- each word of node x is as long as the first hook's
abbrev pub HasWidth : Rule → ℕ → Type 0
HasWidth rule x = (side : Side) → IsTrue (has_word rule side x) → length (letters rule side x) ≡ width rule

-- links lead from x to y along these labels, the first of them first
abbrev pub Leads : List Link → ℕ → List ℕ → ℕ → Type 0
Leads links x [] y = x ≡ y
Leads links x (i ∷ path) y = (z : ℕ) × IsLinked links x i z × Leads links z path y

-- some path of links with labels of the set leads from x to y
abbrev pub IsJoined : List Link → Labels → ℕ → ℕ → Type 0
IsJoined links o x y = (path : List ℕ) × IsPathIn o path × Leads links x path y

abbrev pub any_label : Labels
any_label i = true

-- a left node is joined to a hook by left links
abbrev pub IsConnected : Rule → ℕ → Type 0
IsConnected rule x = IsTrue (has_word rule Left x) → (h : ℕ) × Contains rule.hooks h × IsJoined rule.left_links any_label h x

pub record IsStructured (rule : Rule) : Type 0 where
  pub hook : HasHook rule
  pub plain : AreGood (HasPlainHook rule) (length rule.hooks)
  pub widths : AreGood (HasWidth rule) (length rule.nodes)
  pub connected : AreGood (IsConnected rule) (length rule.nodes)

-- the first fault of structure
pub data IsStructureFault (rule : Rule) : RuleFault → Type 0 where
  BadHooks : (HasHook rule → ⊥) → IsStructureFault rule faults.Hooks
  BadHookWord : (t h : ℕ) → HasHook rule → IsFirstBad (HasPlainHook rule) (length rule.hooks) t → slice_get rule.hooks t ≡ Some h → IsStructureFault rule (faults.HookWord h)
  BadLength : (x : ℕ) → HasHook rule → AreGood (HasPlainHook rule) (length rule.hooks) → IsFirstBad (HasWidth rule) (length rule.nodes) x → IsStructureFault rule (faults.WordLength x)
  Unconnected : (x : ℕ) → HasHook rule → AreGood (HasPlainHook rule) (length rule.hooks) → AreGood (HasWidth rule) (length rule.nodes) → IsFirstBad (IsConnected rule) (length rule.nodes) x → IsStructureFault rule (faults.NotConnected x)

-- ---- incident arcs

-- how often node x has the label on the side, letters and links counted together; a link from x to x counts once
abbrev pub arcs_at : Rule → Side → ℕ → ℕ → ℕ
arcs_at rule side x i = count_by (is_end x i) (links_on rule side) + count_by (is_label i) (letters rule side x)

abbrev pub HasOnce : Rule → Side → ℕ → ℕ → Type 0
HasOnce rule side x i = arcs_at rule side x i ≤ 1

abbrev pub HasLabel : Rule → Side → ℕ → ℕ → Type 0
HasLabel rule side x i = 0 < arcs_at rule side x i

-- a removed node has the label on the left, an added one on the right
abbrev pub HasWhereOneSided : Rule → ℕ → ℕ → Type 0
HasWhereOneSided rule x i = (IsTrue (is_removed rule x) → HasLabel rule Left x i) × (IsTrue (is_added rule x) → HasLabel rule Right x i)

-- a preserved node has the label on both sides or on neither
abbrev pub HasOnBoth : Rule → ℕ → ℕ → Type 0
HasOnBoth rule x i = IsTrue (is_preserved rule x) → (HasLabel rule Left x i ↔ HasLabel rule Right x i)

pub record HasArcs (n : ℕ) (rule : Rule) (x : ℕ) : Type 0 where
  pub left_once : AreGood (HasOnce rule Left x) (n + 1)
  pub right_once : AreGood (HasOnce rule Right x) (n + 1)
  pub one_sided : AreGood (HasWhereOneSided rule x) (n + 1)
  pub both : AreGood (HasOnBoth rule x) (n + 1)

-- the first fault of the arcs at node x
pub data IsNodeArcFault (n : ℕ) (rule : Rule) (x : ℕ) : RuleFault → Type 0 where
  TwiceLeft : (i : ℕ) → IsFirstBad (HasOnce rule Left x) (n + 1) i → IsNodeArcFault n rule x (faults.ArcTwice x i Left)
  TwiceRight : (i : ℕ) → AreGood (HasOnce rule Left x) (n + 1) → IsFirstBad (HasOnce rule Right x) (n + 1) i → IsNodeArcFault n rule x (faults.ArcTwice x i Right)
  Missing : (i : ℕ) → AreGood (HasOnce rule Left x) (n + 1) → AreGood (HasOnce rule Right x) (n + 1) → IsFirstBad (HasWhereOneSided rule x) (n + 1) i → IsNodeArcFault n rule x (faults.ArcMissing x i)
  Differs : (i : ℕ) → AreGood (HasOnce rule Left x) (n + 1) → AreGood (HasOnce rule Right x) (n + 1) → IsFirstBad (HasOnBoth rule x) (n + 1) i → IsNodeArcFault n rule x (faults.ArcSetDiffers x i)

-- the first fault of the arcs, at the first node that has one
pub data IsArcFault (n : ℕ) (rule : Rule) (fault : RuleFault) : Type 0 where
  AtNode : (x : ℕ) → x < length rule.nodes → AreGood (HasArcs n rule) x → IsNodeArcFault n rule x fault → IsArcFault n rule fault

-- ---- both

pub record HasIncidence (n : ℕ) (rule : Rule) : Type 0 where
  pub structured : IsStructured rule
  pub arcs : AreGood (HasArcs n rule) (length rule.nodes)

pub data IsIncidenceFault (n : ℕ) (rule : Rule) (fault : RuleFault) : Type 0 where
  OfStructure : IsStructureFault rule fault → IsIncidenceFault n rule fault
  OfArcs : IsStructured rule → IsArcFault n rule fault → IsIncidenceFault n rule fault
