-- What the dual is of a map, of a rule and of a book: label i and label n - i trade places, and all else stays.
use Rattle.std.specs.Prelude.{◌≡◌, ◌↔◌, Some, slice_get, ℕ, zero, suc, ◌+◌, ◌-◌, ◌*◌, Bool, nat_lt, if◌then◌else◌, List, length, map}
use Rattle.std.specs.Option.{option_map}
use Rattle.gm_model.specs.declared.expr.DartTerm.{DartTerm}
use Rattle.gm_model.specs.declared.rule.Book.{Book}
use Rattle.gm_model.specs.declared.rule.Link.{Link}
use Rattle.gm_model.specs.declared.rule.RuleTable.{RuleTable}
use Rattle.gm_model.specs.declared.schema.Embed.{Embed}
use Rattle.gm_model.specs.declared.schema.Schema.{Schema}
use Rattle.gm_model.specs.declared.value.Value.{Value}
use Rattle.gm_model.specs.declared.word.Letter.{Letter}
use Rattle.gm_model.specs.declared.word.Letter.TheVariants.{At, Gone}
use Rattle.gm_model.specs.declared.word.Mask.{Mask}
use Rattle.gm_model.specs.Acceptance.{IsAccepted}
use Rattle.gm_model.specs.Applications.{Application, Cause, IsDone, IsRefused}
use Rattle.gm_model.specs.Applications as causes
use Rattle.gm_model.specs.Kinds.{AreGoodParams}
use Rattle.gm_model.specs.Labels.{has}
use Rattle.gm_model.specs.Maps.{IsSound, Map, dimension}
use Rattle.gm_model.specs.Rules.{Assignment, Rule, RuleNode, rule_of}
use Rattle.gm_model.specs.Trees.{Tree, Number, Truth, Param, Field, Same, Count, Sum, Least, Greatest, Unary, Binary, If, MakeVec2, MakeVec3, MakeRgb}

-- ---- labels

-- the label that trades places with i; a number above the dimension is no label, and stays
abbrev pub dual_label : ℕ → ℕ → ℕ
dual_label n i = if nat_lt n i then i else n - i

-- the number whose first bits are the truths from i on
abbrev pub bits_from : (ℕ → Bool) → ℕ → ℕ → ℕ
bits_from f zero i = 0
bits_from f (suc count) i = (if f i then 1 else 0) + 2 * bits_from f count (suc i)

abbrev pub dual_mask : ℕ → Mask → Mask
dual_mask n mask = record { bits = bits_from (λ i. has mask (dual_label n i)) 8 0 }

-- ---- rules

module _ (n : ℕ) where
  abbrev pub dual_letter : Letter → Letter
  dual_letter (At i) = At (dual_label n i)
  dual_letter Gone = Gone

  -- each letter stays at its place
  abbrev pub dual_word : List Letter → List Letter
  dual_word word = map dual_letter word

  abbrev pub dual_link : Link → Link
  dual_link link = record { from = link.from; label = dual_label n link.label; to = link.to }

  abbrev pub dual_term : DartTerm → DartTerm
  dual_term term = record { node = term.node; path = map (dual_label n) term.path }

  abbrev pub dual_tree : Tree → Tree
  dual_tree (Number k) = Number k
  dual_tree (Truth b) = Truth b
  dual_tree (Param k) = Param k
  dual_tree (Field d e) = Field (dual_term d) e
  dual_tree (Same d d') = Same (dual_term d) (dual_term d')
  dual_tree (Count o d) = Count (dual_mask n o) (dual_term d)
  dual_tree (Sum o d e) = Sum (dual_mask n o) (dual_term d) e
  dual_tree (Least o d e) = Least (dual_mask n o) (dual_term d) e
  dual_tree (Greatest o d e) = Greatest (dual_mask n o) (dual_term d) e
  dual_tree (Unary op a) = Unary op (dual_tree a)
  dual_tree (Binary op a b) = Binary op (dual_tree a) (dual_tree b)
  dual_tree (If c a b) = If (dual_tree c) (dual_tree a) (dual_tree b)
  dual_tree (MakeVec2 a b) = MakeVec2 (dual_tree a) (dual_tree b)
  dual_tree (MakeVec3 a b c) = MakeVec3 (dual_tree a) (dual_tree b) (dual_tree c)
  dual_tree (MakeRgb a b c) = MakeRgb (dual_tree a) (dual_tree b) (dual_tree c)

  abbrev pub dual_assignment : Assignment → Assignment
  dual_assignment s = record { embed = s.embed; tree = dual_tree s.tree }

  abbrev pub dual_node : RuleNode → RuleNode
  dual_node node = record { name = node.name; left = option_map dual_word node.left; right = option_map dual_word node.right; sets = map dual_assignment node.sets }

  -- nodes, links and hooks stay in their order
  abbrev pub dual_rule : Rule → Rule
  dual_rule rule = record {
    name = rule.name;
    params = rule.params;
    nodes = map dual_node rule.nodes;
    left_links = map dual_link rule.left_links;
    right_links = map dual_link rule.right_links;
    hooks = rule.hooks;
    pre = option_map dual_tree rule.pre;
  }

  abbrev pub dual_embed : Embed → Embed
  dual_embed embed = record { name = embed.name; mask = dual_mask n embed.mask; kind = embed.kind }

abbrev pub dual_schema : Schema → Schema
dual_schema schema = record { dim = schema.dim; embeds = map (dual_embed schema.dim) schema.embeds }

-- ---- maps

-- darts, values and the next name stay
abbrev pub dual_map : Map → Map
dual_map map = record { schema = dual_schema map.schema; live = map.live; alpha = λ i. map.alpha (dual_label (dimension map) i); value = map.value; next = map.next }

-- the dual rule on the dual map, at the same darts and with the same values
abbrev pub dual_application : Application → Application
dual_application app = record { map = dual_map app.map; rule = dual_rule (dimension app.map) app.rule; hooks = app.hooks; params = app.params }

-- ---- books

-- the rule of a table, applied to the map
abbrev pub application_of : Map → RuleTable → List ℕ → List Value → Application
application_of before rule hooks params = record { map = before; rule = rule_of rule; hooks = hooks; params = params }

-- the second book is the dual of the first
pub record IsDualBook (book dual : Book) : Type 0 where
  pub version : dual.version ≡ book.version
  pub schema : dual.schema ≡ dual_schema book.schema
  pub rules : map rule_of dual.rules ≡ map (dual_rule book.schema.dim) (map rule_of book.rules)

-- of each rule, the dual is accepted exactly where the rule is
abbrev pub AreAcceptedAlike : Book → Book → Type 0
AreAcceptedAlike book dual = (r : ℕ) (rule other : RuleTable) → slice_get book.rules r ≡ Some rule → slice_get dual.rules r ≡ Some other → IsAccepted book.schema (rule_of rule) ↔ IsAccepted dual.schema (rule_of other)

-- Where one application is done, so is the other, with the dual of its result, and as many darts added and removed.
abbrev pub LeadsTo : Application → Application → Type 0
LeadsTo app other = (result : Map) (added removed : ℕ) → IsDone app result added removed → IsDone other (dual_map result) added removed

-- an application of an accepted rule is done exactly where that of its dual to the dual map is, with the dual of its result
abbrev pub AreAppliedAlike : Book → Book → Type 0
AreAppliedAlike book dual = (r : ℕ) (rule other : RuleTable) (before : Map) (hooks : List ℕ) (params : List Value) → slice_get book.rules r ≡ Some rule → slice_get dual.rules r ≡ Some other → IsAccepted book.schema (rule_of rule) → before.schema ≡ book.schema
    → LeadsTo (application_of before rule hooks params) (application_of (dual_map before) other hooks params) × LeadsTo (application_of (dual_map before) other hooks params) (application_of before rule hooks params)

-- the cause is that there is no match at the hooks: an arc that isn't there, or a dart that is taken twice
abbrev pub IsOfMatch : Cause → Type 0
IsOfMatch (causes.Arc x p i) = Unit {0}
IsOfMatch (causes.Same x p y q) = Unit {0}
IsOfMatch _ = ⊥

-- Where an application of an accepted rule to a sound map is not done, but refused, so is that of its dual. The causes may differ.
abbrev pub AreRefusedAlike : Book → Book → Type 0
AreRefusedAlike book dual = (r : ℕ) (rule other : RuleTable) (before : Map) (hooks : List ℕ) (params : List Value) → slice_get book.rules r ≡ Some rule → slice_get dual.rules r ≡ Some other → IsAccepted book.schema (rule_of rule) → before.schema ≡ book.schema
    → IsSound before → length hooks ≡ length rule.hooks → AreGoodParams (rule_of rule) params
    → ((result : Map) (added removed : ℕ) → IsDone (application_of before rule hooks params) result added removed → ⊥) → (cause : Cause) × IsRefused (application_of (dual_map before) other hooks params) cause
