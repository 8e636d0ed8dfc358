-- No good form of a tree has fewer parts than the canonical one, which passes no limit where some form passes none.
use Rattle.std.proofs.Common.{◌≡◌, ℕ, ◌+◌, ◌*◌, ◌≤◌, ℤ, Bool, true, false, if◌then◌else◌, List, [], ◌∷◌, ◌++◌, length, Option, Some, None, codes, refl, sym, ap, ap₂, ◌∙◌, arith}
use Rattle.std.specs.List.{AllByRecursion}
use Rattle.std.specs.Prelude.{nat_lt}
use Rattle.std.specs.Str.{bytes_eq}
use Rattle.std.proofs.lemmas.Bool.Decides.{nat_tests}
use Rattle.gm_model.specs.declared.expr.BinOp.{BinOp}
use Rattle.gm_model.specs.declared.expr.BinOp.TheVariants as ops
use Rattle.gm_model.specs.declared.expr.DartTerm.{DartTerm}
use Rattle.gm_model.specs.declared.expr.UnOp.{UnOp}
use Rattle.gm_model.specs.declared.expr.UnOp.TheVariants as unary
use Rattle.gm_model.specs.declared.limit.LimitKind.{LimitKind}
use Rattle.gm_model.specs.declared.limit.LimitKind.TheVariants as limits
use Rattle.gm_model.specs.declared.rule.Param.{Param}
use Rattle.gm_model.specs.declared.schema.Embed.{Embed}
use Rattle.gm_model.specs.declared.word.Mask.{Mask}
use Rattle.gm_model.specs.Names.{Mention}
use Rattle.gm_model.specs.Reading.{Part, word, sign}
use Rattle.gm_model.specs.Rules.{RuleNode, name_at}
use Rattle.gm_model.specs.Symbols.{Word, Mark}
use Rattle.gm_model.specs.inner.Collectors.{collector_count, most_collectors}
use Rattle.gm_model.specs.Trees.{Tree, Number, Truth, Param as Parameter, Field, Same, Count, Sum, Least, Greatest, Unary, Binary, If, MakeVec2, MakeVec3, MakeRgb}
use Rattle.gm_text.specs.SchemaText.{LabelForm, labels_in}
use Rattle.gm_parse.specs.declared.function.Function.{Function}
use Rattle.gm_parse.specs.declared.function.Function.TheVariants as functions
use Rattle.gm_parse.specs.declared.key.Collector.{Collector}
use Rattle.gm_parse.specs.declared.key.Collector.TheVariants as collectors
use Rattle.gm_parse.specs.Forms.{TermForm, Form, NumberForm, TruthForm, ParamForm, FieldForm, SameForm, CountForm, CollectForm, CallForm, ParenForm, MinusForm, NotForm, BinaryForm, IfForm, Arguments, First, Further, level_of, IsGood, AreGood}
use Rattle.gm_parse.specs.Levels.{unary_level, least_of_part, least_on_left, least_on_right}
use Rattle.gm_parse.specs.Meaning.{Names, function_named, call_of, tree_in, trees_in}
use Rattle.gm_parse.specs.Spelling.{Role, Fixed, NameAt, Counted, greatest, limit_of, passed_by, limit_in, operator, spell_orbit, spell_term, spell_field, spell, spell_arguments, counted_from, parts_of}
use Rattle.gm_parse.proofs.SpelledParts.{spell_labels, spell_path}
use Rattle.gm_expr.specs.ExprText.{level, param_name, embed_name}
use Rattle.gm_expr.specs.inner.Writable.{AreGoodNames, IsGoodEmbed, IsGoodTerm, IsGoodMask, IsWritable}
use Rattle.gm_expr.proofs.Found.{param_low, embed_low, node_low}
use Rattle.gm_expr.proofs.Canonical.{behind, place_in, at, labels_at, behind_orbit, orbit_at, behind_term, written, function_name, unary_form, within_unary, is_wrapped, enclosed, within, behind_tree, term_at, embed_at, collect_at, form_at}
use Rattle.gm_expr.proofs.CanonicalMeaning.{good_at}
use Rattle.gm_expr.proofs.MaskLabels.{labels_fewest, all_labels}

-- ---- how many parts a form has

abbrev pub path_size : List ℕ → ℕ
path_size [] = 0
path_size (label ∷ path) = path_size path + 2

abbrev mutual
  pub size_in : Form → ℕ
  size_in (NumberForm value) = 1
  size_in (TruthForm b) = 1
  size_in (ParamForm name) = 1
  size_in (FieldForm term embed) = path_size term.path + 3
  size_in (SameForm left right) = path_size left.path + path_size right.path + 6
  size_in (CountForm orbit term) = length orbit + path_size term.path + 6
  size_in (CollectForm collector orbit term embed) = length orbit + path_size term.path + 8
  size_in (CallForm name arguments) = arguments_size arguments + 3
  size_in (ParenForm part) = size_in part + 2
  size_in (MinusForm part) = size_in part + 1
  size_in (NotForm part) = size_in part + 1
  size_in (BinaryForm op left right) = size_in left + size_in right + 1
  size_in (IfForm c a b) = size_in c + size_in a + size_in b + 3

  pub arguments_size : Arguments → ℕ
  arguments_size (First form) = size_in form
  arguments_size (Further arguments form) = arguments_size arguments + size_in form + 1

module _ (n : ℕ) where
  labels_length : (orbit : List LabelForm) (rest : List (Part Role)) → length (spell_labels n orbit rest) ≡ length orbit + length rest
  labels_length [] rest = omega arith
  labels_length (form ∷ orbit) rest = let behind_it = labels_length orbit rest in omega (arith, behind_it)

  path_length : (path : List ℕ) (rest : List (Part Role)) → length (spell_path n path rest) ≡ path_size path + length rest
  path_length [] rest = omega arith
  path_length (label ∷ path) rest = let behind_it = path_length path rest in omega (arith, behind_it)

  term_length : (term : TermForm) (rest : List (Part Role)) → length (spell_term n term rest) ≡ path_size term.path + 1 + length rest
  term_length term rest = let path = path_length term.path rest in omega (arith, path)

  mutual
    pub spell_length : (form : Form) (rest : List (Part Role)) → length (spell n form rest) ≡ size_in form + length rest
    spell_length (NumberForm value) rest = omega arith
    spell_length (TruthForm b) rest = omega arith
    spell_length (ParamForm name) rest = omega arith
    spell_length (FieldForm term embed) rest = omega (arith, path_length)
    spell_length (SameForm left right) rest = omega (arith, path_length)
    spell_length (CountForm orbit term) rest = omega (arith, labels_length, path_length)
    spell_length (CollectForm collector orbit term embed) rest = omega (arith, labels_length, path_length)
    spell_length (CallForm function arguments) rest = let inside = arguments_length arguments (sign Fixed (codes ")") ∷ rest) in omega (arith, inside)
    spell_length (ParenForm part) rest = let inside = spell_length part (sign Fixed (codes ")") ∷ rest) in omega (arith, inside)
    spell_length (MinusForm part) rest = let inside = spell_length part rest in omega (arith, inside)
    spell_length (NotForm part) rest = let inside = spell_length part rest in omega (arith, inside)
    spell_length (BinaryForm op left right) rest =
        let second = spell_length right rest in
        let first = spell_length left (operator op ∷ spell n right rest) in
        omega (arith, first, second)
    spell_length (IfForm c a b) rest =
        let third = spell_length b rest in
        let second = spell_length a (word Fixed (codes "else") ∷ spell n b rest) in
        let first = spell_length c (word Fixed (codes "then") ∷ spell n a (word Fixed (codes "else") ∷ spell n b rest)) in
        omega (arith, first, second, third)

    arguments_length : (arguments : Arguments) (rest : List (Part Role)) → length (spell_arguments n arguments rest) ≡ arguments_size arguments + length rest
    arguments_length (First form) rest = spell_length form rest
    arguments_length (Further arguments form) rest =
        let second = spell_length form rest in
        let first = arguments_length arguments (sign Fixed (codes ",") ∷ spell n form rest) in
        omega (arith, first, second)

-- ---- how many the canonical form of a tree has

abbrev wrap_size : Bool → ℕ
wrap_size true = 2
wrap_size false = 0

-- in parentheses where its place asks for more
abbrev wrapped_size : ℕ → Tree → ℕ
wrapped_size least tree = wrap_size (is_wrapped least tree)

abbrev head_size : UnOp → ℕ
head_size unary.Neg = 1
head_size unary.Not = 1
head_size _ = 3

abbrev tree_size : Tree → ℕ
tree_size (Number z) = 1
tree_size (Truth b) = 1
tree_size (Parameter k) = 1
tree_size (Field d e) = path_size d.path + 3
tree_size (Same d d') = path_size d.path + path_size d'.path + 6
tree_size (Count o d) = length (labels_in o) + path_size d.path + 6
tree_size (Sum o d e) = length (labels_in o) + path_size d.path + 8
tree_size (Least o d e) = length (labels_in o) + path_size d.path + 8
tree_size (Greatest o d e) = length (labels_in o) + path_size d.path + 8
tree_size (Unary op a) = tree_size a + wrapped_size (least_of_part op) a + head_size op
tree_size (Binary op a b) = tree_size a + wrapped_size (least_on_left op) a + (tree_size b + wrapped_size (least_on_right op) b) + 1
tree_size (If c a b) = tree_size c + tree_size a + tree_size b + 3
tree_size (MakeVec2 a b) = tree_size a + tree_size b + 4
tree_size (MakeVec3 a b c) = tree_size a + tree_size b + tree_size c + 5
tree_size (MakeRgb a b c) = tree_size a + tree_size b + tree_size c + 5

-- a collector takes six parts, and one stands between two
collectors_take : (tree : Tree) → 7 * collector_count tree ≤ tree_size tree + 1
collectors_take (Number z) = omega arith
collectors_take (Truth b) = omega arith
collectors_take (Parameter k) = omega arith
collectors_take (Field d e) = omega arith
collectors_take (Same d d') = omega arith
collectors_take (Count o d) = omega arith
collectors_take (Sum o d e) = omega arith
collectors_take (Least o d e) = omega arith
collectors_take (Greatest o d e) = omega arith
collectors_take (Unary op a) = let part = collectors_take a in omega (arith, part)
collectors_take (Binary op a b) = let left = collectors_take a in let right = collectors_take b in omega (arith, left, right)
collectors_take (If c a b) = let first = collectors_take c in let second = collectors_take a in let third = collectors_take b in omega (arith, first, second, third)
collectors_take (MakeVec2 a b) = let first = collectors_take a in let second = collectors_take b in omega (arith, first, second)
collectors_take (MakeVec3 a b c) = let first = collectors_take a in let second = collectors_take b in let third = collectors_take c in omega (arith, first, second, third)
collectors_take (MakeRgb a b c) = let first = collectors_take a in let second = collectors_take b in let third = collectors_take c in omega (arith, first, second, third)

labels_many : (marks : List Mark) (labels : List ℕ) → length (labels_at marks labels) ≡ length labels
labels_many marks [] = refl
labels_many marks (label ∷ labels) = let others = labels_many (behind marks) labels in omega (arith, others)

enclosed_size : (wrapped : Bool) (form : Form) → size_in (enclosed wrapped form) ≡ size_in form + wrap_size wrapped
enclosed_size true form = refl
enclosed_size false form = omega arith

unary_size : (op : UnOp) (name : Mention) (part : Form) → size_in (unary_form op name part) ≡ size_in part + head_size op
unary_size unary.Neg name part = refl
unary_size unary.Not name part = refl
unary_size unary.X name part = refl
unary_size unary.Y name part = refl
unary_size unary.Z name part = refl
unary_size unary.Red name part = refl
unary_size unary.Green name part = refl
unary_size unary.Blue name part = refl

module _ (embeds : List Embed) (params : List Param) (nodes : List RuleNode) where
  canonical_size : (tree : Tree) (marks : List Mark) → size_in (form_at embeds params nodes marks tree) ≡ tree_size tree
  canonical_size (Number z) marks = refl
  canonical_size (Truth b) marks = refl
  canonical_size (Parameter k) marks = refl
  canonical_size (Field d e) marks = refl
  canonical_size (Same d d') marks = refl
  canonical_size (Count o d) marks = let labels = labels_many (behind (behind marks)) (labels_in o) in omega (arith, labels)
  canonical_size (Sum o d e) marks = let labels = labels_many (behind (behind marks)) (labels_in o) in omega (arith, labels)
  canonical_size (Least o d e) marks = let labels = labels_many (behind (behind marks)) (labels_in o) in omega (arith, labels)
  canonical_size (Greatest o d e) marks = let labels = labels_many (behind (behind marks)) (labels_in o) in omega (arith, labels)
  canonical_size (Unary op a) marks =
      let wrapped = is_wrapped (least_of_part op) a in
      let inside = within wrapped (within_unary op marks) in
      let form = form_at embeds params nodes inside a in
      let whole = unary_size op (at marks (function_name op)) (enclosed wrapped form) in
      let part = enclosed_size wrapped form in
      let same = canonical_size a inside in
      omega (arith, whole, part, same)
  canonical_size (Binary op a b) marks =
      let left = is_wrapped (least_on_left op) a in
      let right = is_wrapped (least_on_right op) b in
      let first = within left marks in
      let second = within right (behind (within left (behind_tree a first))) in
      let one = enclosed_size left (form_at embeds params nodes first a) in
      let other = enclosed_size right (form_at embeds params nodes second b) in
      let same = canonical_size a first in
      let too = canonical_size b second in
      omega (arith, one, other, same, too)
  canonical_size (If c a b) marks =
      let second = behind (behind_tree c (behind marks)) in
      let one = canonical_size c (behind marks) in
      let two = canonical_size a second in
      let three = canonical_size b (behind (behind_tree a second)) in
      omega (arith, one, two, three)
  canonical_size (MakeVec2 a b) marks =
      let first = behind (behind marks) in
      let one = canonical_size a first in
      let two = canonical_size b (behind (behind_tree a first)) in
      omega (arith, one, two)
  canonical_size (MakeVec3 a b c) marks =
      let first = behind (behind marks) in
      let second = behind (behind_tree a first) in
      let one = canonical_size a first in
      let two = canonical_size b second in
      let three = canonical_size c (behind (behind_tree b second)) in
      omega (arith, one, two, three)
  canonical_size (MakeRgb a b c) marks =
      let first = behind (behind marks) in
      let second = behind (behind_tree a first) in
      let one = canonical_size a first in
      let two = canonical_size b second in
      let three = canonical_size c (behind (behind_tree b second)) in
      omega (arith, one, two, three)

-- ---- a form has no fewer

-- a place that asks for no more needs no parentheses
unwrapped : (least : ℕ) (tree : Tree) → least ≤ level tree → wrapped_size least tree ≡ 0
unwrapped least tree enough = let none : nat_lt (level tree) least ≡ false = grind (arith, nat_tests, enough) in ap wrap_size none

wrap_most : (wrapped : Bool) → wrap_size wrapped ≤ 2
wrap_most true = omega arith
wrap_most false = omega arith

abbrev list_size : List Tree → ℕ
list_size [] = 0
list_size (tree ∷ trees) = tree_size tree + 1 + list_size trees

list_last : (trees : List Tree) (tree : Tree) → list_size (trees ++ tree ∷ []) ≡ list_size trees + tree_size tree + 1
list_last [] tree = omega arith
list_last (first ∷ trees) tree = let others = list_last trees tree in omega (arith, others)

unary_most : (op : UnOp) (a : Tree) → tree_size (Unary op a) ≤ tree_size a + 3
unary_most unary.Neg a = let most = wrap_most (is_wrapped 7 a) in omega (arith, most)
unary_most unary.Not a = let most = wrap_most (is_wrapped 3 a) in omega (arith, most)
unary_most unary.X a = let none = unwrapped 0 a (omega arith) in omega (arith, none)
unary_most unary.Y a = let none = unwrapped 0 a (omega arith) in omega (arith, none)
unary_most unary.Z a = let none = unwrapped 0 a (omega arith) in omega (arith, none)
unary_most unary.Red a = let none = unwrapped 0 a (omega arith) in omega (arith, none)
unary_most unary.Green a = let none = unwrapped 0 a (omega arith) in omega (arith, none)
unary_most unary.Blue a = let none = unwrapped 0 a (omega arith) in omega (arith, none)

call_most : (found : Option Function) (trees : List Tree) → tree_size (call_of found trees) ≤ list_size trees + 2
call_most (Some functions.Vec2) (a ∷ b ∷ []) = omega arith
call_most (Some functions.Vec3) (a ∷ b ∷ c ∷ []) = omega arith
call_most (Some functions.Rgb) (a ∷ b ∷ c ∷ []) = omega arith
call_most (Some (functions.Part op)) (a ∷ []) = let most = unary_most op a in omega (arith, most)
call_most _ _ = omega arith

abbrev function_level : Option Function → ℕ
function_level (Some (functions.Part op)) = unary_level op
function_level _ = 8

if_binds : (test : Bool) (function : Function) (other : Option Function) → function_level (Some function) ≡ 8 → function_level other ≡ 8 → function_level (if test then Some function else other) ≡ 8
if_binds true function other first second = first
if_binds false function other first second = second

-- a function binds as tightly as anything
function_binds : (name : List ℕ) → function_level (function_named name) ≡ 8
function_binds name =
    if_binds (bytes_eq name (codes "vec2")) functions.Vec2 _ refl
    (if_binds (bytes_eq name (codes "vec3")) functions.Vec3 _ refl
    (if_binds (bytes_eq name (codes "rgb")) functions.Rgb _ refl
    (if_binds (bytes_eq name (codes "x")) (functions.Part unary.X) _ refl
    (if_binds (bytes_eq name (codes "y")) (functions.Part unary.Y) _ refl
    (if_binds (bytes_eq name (codes "z")) (functions.Part unary.Z) _ refl
    (if_binds (bytes_eq name (codes "red")) (functions.Part unary.Red) _ refl
    (if_binds (bytes_eq name (codes "green")) (functions.Part unary.Green) _ refl
    (if_binds (bytes_eq name (codes "blue")) (functions.Part unary.Blue) _ refl refl))))))))

call_binds : (found : Option Function) (trees : List Tree) → function_level found ≡ 8 → 8 ≤ level (call_of found trees)
call_binds (Some functions.Vec2) (a ∷ b ∷ []) is = omega arith
call_binds (Some functions.Vec3) (a ∷ b ∷ c ∷ []) is = omega arith
call_binds (Some functions.Rgb) (a ∷ b ∷ c ∷ []) is = omega arith
call_binds (Some (functions.Part op)) (a ∷ []) is = omega (arith, is)
call_binds _ _ is = omega arith

-- where the place asks for no more than the tree has, a form as large as the tree is large enough
plainly : (least : ℕ) (tree : Tree) (size : ℕ) → least ≤ level tree → tree_size tree ≤ size → tree_size tree + wrapped_size least tree ≤ size
plainly least tree size enough fits = let none = unwrapped least tree enough in omega (arith, none, fits)

collect_least : (collector : Collector) (least : ℕ) (orbit : List LabelForm) (term : TermForm) (names : Names) (embed : Mention) → least ≤ 8
    → tree_size (tree_in names (CollectForm collector orbit term embed)) + wrapped_size least (tree_in names (CollectForm collector orbit term embed)) ≤ length orbit + path_size term.path + 8
collect_least collectors.Sum least orbit term names embed low = let labels = labels_fewest orbit in let none = unwrapped least (tree_in names (CollectForm collectors.Sum orbit term embed)) low in omega (arith, labels, none)
collect_least collectors.Least least orbit term names embed low = let labels = labels_fewest orbit in let none = unwrapped least (tree_in names (CollectForm collectors.Least orbit term embed)) low in omega (arith, labels, none)
collect_least collectors.Greatest least orbit term names embed low = let labels = labels_fewest orbit in let none = unwrapped least (tree_in names (CollectForm collectors.Greatest orbit term embed)) low in omega (arith, labels, none)

module _ (names : Names) where
  mutual
    -- with the parentheses that a tree needs at a place it is no larger than a form that fits there
    fewest : (form : Form) → IsGood form → (least : ℕ) → least ≤ level_of form → tree_size (tree_in names form) + wrapped_size least (tree_in names form) ≤ size_in form
    fewest (NumberForm value) good least low = plainly least (tree_in names (NumberForm value)) 1 low (omega arith)
    fewest (TruthForm b) good least low = plainly least (tree_in names (TruthForm b)) 1 low (omega arith)
    fewest (ParamForm name) good least low = plainly least (tree_in names (ParamForm name)) 1 low (omega arith)
    fewest (FieldForm term embed) good least low = plainly least (tree_in names (FieldForm term embed)) (size_in (FieldForm term embed)) low (omega arith)
    fewest (SameForm left right) good least low = plainly least (tree_in names (SameForm left right)) (size_in (SameForm left right)) low (omega arith)
    fewest (CountForm orbit term) good least low =
        let labels = labels_fewest orbit in
        plainly least (tree_in names (CountForm orbit term)) (size_in (CountForm orbit term)) low (omega (arith, labels))
    fewest (CollectForm collector orbit term embed) good least low = collect_least collector least orbit term names embed low
    fewest (CallForm name arguments) good least low =
        let call = call_most (function_named name.name) (trees_in names arguments) in
        let inside = fewest_arguments arguments good.1 in
        let binds = call_binds (function_named name.name) (trees_in names arguments) (function_binds name.name) in
        plainly least (tree_in names (CallForm name arguments)) (size_in (CallForm name arguments)) (omega (arith, binds, low)) (omega (arith, call, inside))
    fewest (ParenForm part) good least low =
        let inside = fewest part good 0 (omega arith) in
        let most = wrap_most (is_wrapped least (tree_in names part)) in
        omega (arith, inside, most)
    fewest (MinusForm part) good least low =
        let inside = fewest part good.1 (least_of_part unary.Neg) good.0 in
        plainly least (tree_in names (MinusForm part)) (size_in (MinusForm part)) low (omega (arith, inside))
    fewest (NotForm part) good least low =
        let inside = fewest part good.1 (least_of_part unary.Not) good.0 in
        plainly least (tree_in names (NotForm part)) (size_in (NotForm part)) low (omega (arith, inside))
    fewest (BinaryForm op left right) good least low =
        let first = fewest left good.2 (least_on_left op) good.0 in
        let second = fewest right good.3 (least_on_right op) good.1 in
        plainly least (tree_in names (BinaryForm op left right)) (size_in (BinaryForm op left right)) low (omega (arith, first, second))
    fewest (IfForm c a b) good least low =
        let first = fewest c good.0 0 (omega arith) in
        let second = fewest a good.1 0 (omega arith) in
        let third = fewest b good.2 0 (omega arith) in
        plainly least (tree_in names (IfForm c a b)) (size_in (IfForm c a b)) low (omega (arith, first, second, third))

    fewest_arguments : (arguments : Arguments) → AreGood arguments → list_size (trees_in names arguments) ≤ arguments_size arguments + 1
    fewest_arguments (First form) good = let only = fewest form good 0 (omega arith) in omega (arith, only)
    fewest_arguments (Further arguments form) good =
        let before = fewest_arguments arguments good.0 in
        let last = fewest form good.1 0 (omega arith) in
        let both = list_last (trees_in names arguments) (tree_in names form) in
        omega (arith, before, last, both)

module _ (embeds : List Embed) (params : List Param) (nodes : List RuleNode) where
  pub no_form_is_shorter : (n : ℕ) (names : Names) (form : Form) (tree : Tree) → IsGood form → tree ≡ tree_in names form → (marks : List Mark) → length (spell n (form_at embeds params nodes marks tree) []) ≤ length (spell n form [])
  no_form_is_shorter n names form tree good means marks =
      let canonical = spell_length n (form_at embeds params nodes marks tree) [] in
      let other = spell_length n form [] in
      let size = canonical_size embeds params nodes tree marks in
      let same = ap tree_size means in
      let fits = fewest names form good 0 (omega arith) in
      omega (arith, canonical, other, size, same, fits)

-- ---- limits

abbrev pub AreWithin : List (Part Counted) → Type 0
AreWithin parts = AllByRecursion (λ part. limit_in part.role part.symbol ≡ None) parts

-- none passes a limit of its own
abbrev pub AreLimited : List (Part Role) → Type 0
AreLimited parts = AllByRecursion (λ part. limit_of part.role part.symbol ≡ None) parts

not_beyond : (limit : Option LimitKind) → passed_by limit true ≡ None → ⊥
not_beyond (Some what) none = absurd cc
not_beyond None none = absurd cc

-- parts that pass no limit are no more than there can be
within_many : (k : ℕ) (parts : List (Part Role)) → k ≤ 256 → AreWithin (counted_from k parts) → k + length parts ≤ 256
within_many k [] low within = omega (arith, low)
within_many k (part ∷ parts) low within = go (nat_lt 256 (k + 1)) refl (within_many (k + 1) parts)
  where
    go : (beyond : Bool) → nat_lt 256 (k + 1) ≡ beyond → (k + 1 ≤ 256 → AreWithin (counted_from (k + 1) parts) → k + 1 + length parts ≤ 256) → k + length (part ∷ parts) ≤ 256
    go true is others = absurd (not_beyond (limit_of part.role part.symbol) (ap (passed_by (limit_of part.role part.symbol)) (sym is) ∙ within.0))
    go false is others = let first : k + 1 ≤ 256 = grind (arith, nat_tests, is) in let rest = others first within.1 in omega (arith, rest)

few_within : (k : ℕ) (parts : List (Part Role)) → k + length parts ≤ 256 → AreLimited parts → AreWithin (counted_from k parts)
few_within k [] few limited = tt
few_within k (part ∷ parts) few limited =
    let first : k + 1 ≤ 256 = omega (arith, few) in
    let here : nat_lt 256 (k + 1) ≡ false = grind (arith, nat_tests, first) in
    (ap₂ passed_by limited.0 here, few_within (k + 1) parts (omega (arith, few)) limited.1)

not_above : (most k : ℕ) → k ≤ most → nat_lt most k ≡ false
not_above most k low = grind (arith, nat_tests, low)

name_limited : (place : ℕ) (name : List ℕ) → length name ≤ 32 → limit_of (NameAt place) (Word name) ≡ None
name_limited place name short = ap (λ (b : Bool). if b then Some limits.Name else None) (not_above 32 (length name) short)

operator_limited : (op : BinOp) → limit_of (operator op).role (operator op).symbol ≡ None
operator_limited ops.Or = refl
operator_limited ops.And = refl
operator_limited ops.Eq = refl
operator_limited ops.Ne = refl
operator_limited ops.Lt = refl
operator_limited ops.Le = refl
operator_limited ops.Gt = refl
operator_limited ops.Ge = refl
operator_limited ops.Add = refl
operator_limited ops.Sub = refl
operator_limited ops.Mul = refl
operator_limited ops.Div = refl
operator_limited ops.Rem = refl

module _ (n : ℕ) where
  labels_limited : (marks : List Mark) (labels : List ℕ) (rest : List (Part Role)) → AllByRecursion (λ i. i ≤ n) labels → AreLimited rest → AreLimited (spell_labels n (labels_at marks labels) rest)
  labels_limited marks [] rest low limited = limited
  labels_limited marks (label ∷ labels) rest low limited =
      (ap (λ (b : Bool). if b then Some limits.Label else None) (not_above n label low.0), labels_limited (behind marks) labels rest low.1 limited)

  path_limited : (path : List ℕ) (rest : List (Part Role)) → AllByRecursion (λ i. i ≤ n) path → AreLimited rest → AreLimited (spell_path n path rest)
  path_limited [] rest low limited = limited
  path_limited (label ∷ path) rest low limited = (refl, (ap (λ (b : Bool). if b then Some limits.Label else None) (not_above n label low.0), path_limited path rest low.1 limited))

  -- whatever limited parts stand behind
  abbrev IsLimited : Form → Type 0
  IsLimited form = (rest : List (Part Role)) → AreLimited rest → AreLimited (spell n form rest)

  enclosed_limited : (wrapped : Bool) (form : Form) → IsLimited form → IsLimited (enclosed wrapped form)
  enclosed_limited true form inside rest limited = (refl, inside (sign Fixed (codes ")") ∷ rest) (refl, limited))
  enclosed_limited false form inside rest limited = inside rest limited

  unary_limited : (op : UnOp) (marks : List Mark) (part : Form) → IsLimited part → IsLimited (unary_form op (at marks (function_name op)) part)
  unary_limited unary.Neg marks part inside rest limited = (refl, inside rest limited)
  unary_limited unary.Not marks part inside rest limited = (refl, inside rest limited)
  unary_limited unary.X marks part inside rest limited = (refl, (refl, inside (sign Fixed (codes ")") ∷ rest) (refl, limited)))
  unary_limited unary.Y marks part inside rest limited = (refl, (refl, inside (sign Fixed (codes ")") ∷ rest) (refl, limited)))
  unary_limited unary.Z marks part inside rest limited = (refl, (refl, inside (sign Fixed (codes ")") ∷ rest) (refl, limited)))
  unary_limited unary.Red marks part inside rest limited = (refl, (refl, inside (sign Fixed (codes ")") ∷ rest) (refl, limited)))
  unary_limited unary.Green marks part inside rest limited = (refl, (refl, inside (sign Fixed (codes ")") ∷ rest) (refl, limited)))
  unary_limited unary.Blue marks part inside rest limited = (refl, (refl, inside (sign Fixed (codes ")") ∷ rest) (refl, limited)))

module _ (embeds : List Embed) (params : List Param) (nodes : List RuleNode) (good : AreGoodNames embeds params nodes) (n : ℕ) where
  abbrev canon : List Mark → Tree → Form
  canon = form_at embeds params nodes

  node_limited : (term : DartTerm) (place : ℕ) → IsGoodTerm embeds params nodes n term → limit_of (NameAt place) (Word (name_at nodes term.node)) ≡ None
  node_limited term place is =
      name_limited place (name_at nodes term.node) (good_at (λ (node : RuleNode). node.name) nodes term.node good.nodes_are (node_low embeds params nodes n term is)).0.0

  embed_limited : (e place : ℕ) → IsGoodEmbed embeds params nodes e → limit_of (NameAt place) (Word (embed_name embeds e)) ≡ None
  embed_limited e place is = name_limited place (embed_name embeds e) (good_at (λ (embed : Embed). embed.name) embeds e good.embeds_are (embed_low embeds params nodes e is)).0.0

  term_limited : (marks : List Mark) (term : DartTerm) (rest : List (Part Role)) → IsGoodTerm embeds params nodes n term → AreLimited rest → AreLimited (spell_term n (term_at embeds params nodes marks term) rest)
  term_limited marks term rest is limited = (node_limited term (place_in marks) is, path_limited n term.path rest is.1 limited)

  field_limited : (marks behind_it : List Mark) (term : DartTerm) (e : ℕ) (rest : List (Part Role)) → IsGoodTerm embeds params nodes n term → IsGoodEmbed embeds params nodes e → AreLimited rest
      → AreLimited (spell_field n (term_at embeds params nodes marks term) (embed_at embeds params nodes behind_it e) rest)
  field_limited marks behind_it term e rest is low limited = term_limited marks term _ is (refl, (embed_limited e (place_in behind_it) low, limited))

  orbit_limited : (marks : List Mark) (mask : Mask) (rest : List (Part Role)) → IsGoodMask embeds params nodes n mask → AreLimited rest → AreLimited (spell_orbit n (orbit_at marks mask) rest)
  orbit_limited marks mask rest is limited = (refl, labels_limited n (behind marks) (labels_in mask) (sign Fixed (codes ">") ∷ rest) (all_labels (λ i. i ≤ n) mask is) (refl, limited))

  collect_limited : (collector : Collector) (marks : List Mark) (mask : Mask) (term : DartTerm) (e : ℕ) → IsGoodMask embeds params nodes n mask → IsGoodTerm embeds params nodes n term → IsGoodEmbed embeds params nodes e → IsLimited n (collect_at embeds params nodes marks collector mask term e)
  collect_limited collector marks mask term e small is low rest limited =
      (refl, orbit_limited (behind marks) mask _ small (refl, field_limited (behind (behind_orbit mask (behind marks))) (behind (behind_term term (behind (behind_orbit mask (behind marks))))) term e (sign Fixed (codes ")") ∷ rest) is low (refl, limited)))

  tree_limited : (tree : Tree) → IsWritable embeds params nodes n tree → (marks : List Mark) → IsLimited n (form_at embeds params nodes marks tree)
  tree_limited (Number z) (k, is, low) marks rest limited =
      (ap (λ (y : ℤ). if nat_lt greatest (written y) then Some limits.Integer else None) is ∙ ap (λ (b : Bool). if b then Some limits.Integer else None) (not_above greatest k low), limited)
  tree_limited (Truth b) is marks rest limited = (refl, limited)
  tree_limited (Parameter k) is marks rest limited = (name_limited (place_in marks) (param_name params k) (good_at (λ (param : Param). param.name) params k good.params_are (param_low embeds params nodes k is)).0.0, limited)
  tree_limited (Field d e) is marks rest limited = field_limited marks (behind (behind_term d marks)) d e rest is.0 is.1 limited
  tree_limited (Same d d') is marks rest limited =
      let first = behind (behind marks) in
      (refl, (refl, term_limited first d _ is.0 (refl, term_limited (behind (behind_term d first)) d' (sign Fixed (codes ")") ∷ rest) is.1 (refl, limited))))
  tree_limited (Count o d) is marks rest limited =
      (refl, orbit_limited (behind marks) o _ is.0 (refl, term_limited (behind (behind_orbit o (behind marks))) d (sign Fixed (codes ")") ∷ rest) is.1 (refl, limited)))
  tree_limited (Sum o d e) is marks rest limited = collect_limited collectors.Sum marks o d e is.0 is.1 is.2 rest limited
  tree_limited (Least o d e) is marks rest limited = collect_limited collectors.Least marks o d e is.0 is.1 is.2 rest limited
  tree_limited (Greatest o d e) is marks rest limited = collect_limited collectors.Greatest marks o d e is.0 is.1 is.2 rest limited
  tree_limited (Unary op a) is marks rest limited =
      let wrapped = is_wrapped (least_of_part op) a in
      let inside = within wrapped (within_unary op marks) in
      unary_limited n op marks (enclosed wrapped (canon inside a)) (enclosed_limited n wrapped (canon inside a) (tree_limited a is inside)) rest limited
  tree_limited (Binary op a b) is marks rest limited =
      let left = is_wrapped (least_on_left op) a in
      let right = is_wrapped (least_on_right op) b in
      let first = within left marks in
      let second = within right (behind (within left (behind_tree a first))) in
      enclosed_limited n left (canon first a) (tree_limited a is.0 first) (operator op ∷ spell n (enclosed right (canon second b)) rest)
      (operator_limited op, enclosed_limited n right (canon second b) (tree_limited b is.1 second) rest limited)
  tree_limited (If c a b) is marks rest limited =
      let second = behind (behind_tree c (behind marks)) in
      let third = behind (behind_tree a second) in
      let last : List (Part Role) = word Fixed (codes "else") ∷ spell n (canon third b) rest in
      (refl, tree_limited c is.0 (behind marks) (word Fixed (codes "then") ∷ spell n (canon second a) last) (refl, tree_limited a is.1 second last (refl, tree_limited b is.2 third rest limited)))
  tree_limited (MakeVec2 a b) is marks rest limited =
      let first = behind (behind marks) in
      let second = behind (behind_tree a first) in
      let end : List (Part Role) = sign Fixed (codes ")") ∷ rest in
      (refl, (refl, tree_limited a is.0 first (sign Fixed (codes ",") ∷ spell n (canon second b) end) (refl, tree_limited b is.1 second end (refl, limited))))
  tree_limited (MakeVec3 a b c) is marks rest limited =
      let first = behind (behind marks) in
      let second = behind (behind_tree a first) in
      let third = behind (behind_tree b second) in
      let end : List (Part Role) = sign Fixed (codes ")") ∷ rest in
      let last : List (Part Role) = sign Fixed (codes ",") ∷ spell n (canon third c) end in
      (refl, (refl, tree_limited a is.0 first (sign Fixed (codes ",") ∷ spell n (canon second b) last) (refl, tree_limited b is.1 second last (refl, tree_limited c is.2 third end (refl, limited)))))
  tree_limited (MakeRgb a b c) is marks rest limited =
      let first = behind (behind marks) in
      let second = behind (behind_tree a first) in
      let third = behind (behind_tree b second) in
      let end : List (Part Role) = sign Fixed (codes ")") ∷ rest in
      let last : List (Part Role) = sign Fixed (codes ",") ∷ spell n (canon third c) end in
      (refl, (refl, tree_limited a is.0 first (sign Fixed (codes ",") ∷ spell n (canon second b) last) (refl, tree_limited b is.1 second last (refl, tree_limited c is.2 third end (refl, limited)))))

  -- where it has few parts
  pub short_within : (tree : Tree) → IsWritable embeds params nodes n tree → (marks : List Mark) → length (spell n (form_at embeds params nodes marks tree) []) ≤ 256 → AreWithin (parts_of n (form_at embeds params nodes marks tree))
  short_within tree is marks few = few_within 0 (spell n (canon marks tree) []) (omega (arith, few)) (tree_limited tree is marks [] tt)

  -- where some form of the tree does
  pub tree_within : (names : Names) (form : Form) (tree : Tree) → IsGood form → tree ≡ tree_in names form → AreWithin (parts_of n form) → IsWritable embeds params nodes n tree → (marks : List Mark) → AreWithin (parts_of n (form_at embeds params nodes marks tree))
  tree_within names form tree good_form means within is marks =
      let many = within_many 0 (spell n form []) (omega arith) within in
      let shorter = no_form_is_shorter embeds params nodes n names form tree good_form means marks in
      short_within tree is marks (omega (arith, many, shorter))

-- a tree whose canonical form passes no limit has few collectors
pub few_collectors : (embeds : List Embed) (params : List Param) (nodes : List RuleNode) (n : ℕ) (tree : Tree) (marks : List Mark) → AreWithin (parts_of n (form_at embeds params nodes marks tree)) → collector_count tree ≤ most_collectors
few_collectors embeds params nodes n tree marks within =
    let form = form_at embeds params nodes marks tree in
    let many = within_many 0 (spell n form []) (omega arith) within in
    let long = spell_length n form [] in
    let size = canonical_size embeds params nodes tree marks in
    let taken = collectors_take tree in
    let few : collector_count tree ≤ 36 = omega (arith, many, long, size, taken) in
    few
