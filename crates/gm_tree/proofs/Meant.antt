-- What is built over the spelling of a form is what the form means, with the least of its faults.
use Rattle.std.proofs.Common.{◌≡◌, ◌<◌, ◌≤◌, ℕ, pos, Bool, true, false, cond, List, [], ◌∷◌, ◌++◌, length, min, Option, Some, None, refl, sym, ap, subst, ◌∙◌, append_assoc, arith, codes}
use Rattle.std.proofs.lemmas.Bool.Decides.{nat_tests}
use Rattle.std.proofs.lemmas.List.{append-nil, length-append}
use Rattle.std.specs.Option.{unwrap_or}
use Rattle.std.specs.Prelude.{is_some, nat_le, nat_eq}
use Rattle.gm_model.specs.declared.expr.BinOp.{BinOp}
use Rattle.gm_model.specs.declared.expr.BinOp.TheVariants as ops
use Rattle.gm_model.specs.declared.expr.DartTerm.{DartTerm}
use Rattle.gm_model.specs.declared.word.Mask.{Mask}
use Rattle.gm_model.specs.Labels.{has}
use Rattle.gm_model.specs.Names.{Mention, IsFree}
use Rattle.gm_model.specs.Reading.{Part, word, number, sign}
use Rattle.gm_model.specs.Symbols.{Symbol, Word, Mark}
use Rattle.gm_model.specs.Trees.{Tree, Number as Quantity_tree, Truth}
use Rattle.gm_text.specs.SchemaText.{LabelForm, no_labels, with_label, with_labels}
use Rattle.gm_text.specs.ValueText.{truth_text}
use Rattle.gm_parse.specs.declared.function.Function.{Function}
use Rattle.gm_parse.specs.declared.function.Function.TheVariants as functions
use Rattle.gm_parse.specs.declared.key.Collector.{Collector}
use Rattle.gm_parse.specs.declared.key.Collector.TheVariants as collectors
use Rattle.gm_parse.specs.declared.key.Key.{Key}
use Rattle.gm_parse.specs.declared.key.Key.TheVariants as keys
use Rattle.gm_tree.specs.declared.partial.Callee.{Callee}
use Rattle.gm_tree.specs.declared.partial.Head.{Head}
use Rattle.gm_tree.specs.declared.partial.Head.TheVariants as heads
use Rattle.gm_tree.specs.declared.partial.Lead.{Lead}
use Rattle.gm_tree.specs.declared.partial.Lead.TheVariants as leads
use Rattle.gm_tree.specs.declared.partial.Named.{Named}
use Rattle.gm_parse.specs.Forms.{TermForm, Form, NumberForm, TruthForm, ParamForm, FieldForm, SameForm, CountForm, CollectForm, CallForm, ParenForm, MinusForm, NotForm, BinaryForm, IfForm, Arguments, First, Further, count_of, level_of, IsGood, AreGood}
use Rattle.gm_parse.specs.Levels.{binary_level, least_on_left, least_on_right}
use Rattle.gm_parse.specs.Spelling.{Role, Fixed, Quantity, LabelAt, StepAt, greatest, IsPlacedAt, spell, spell_arguments, spell_term, operator, name, collector_word}
use Rattle.gm_parse.proofs.SpelledParts.{spell_path, spell_labels}
use Rattle.gm_tree.specs.inner.Small.{IsSmall, AreSmall, IsSmallPath, IsSmallOrbit}
use Rattle.gm_parse.specs.inner.Reading.{key_of}
use Rattle.gm_parse.specs.Meaning.{Names, NameFault, UnknownAt, TwiceAt, node_number, embed_number, param_number, function_named, function_of, with_arity, arity, unknown, again_in, orbit_faults, term_faults, field_faults, faults_in, argument_faults, call_of, mask_of, term_in, embed_in, tree_in, trees_in}
use Rattle.gm_tree.specs.inner.Building.{Frame, LeftOf, MinusOf, NotOf, ElseOf, GroupOf, FirstOf, SecondOf, ThirdOf, BeyondOf, IfOf, ThenOf, Part as Piece, Nothing, Value, Name, InOrbit, BeforeTerm, BehindTerm, BehindField, Work, work, earlier, noted, missed, least_in, least_of, is_bracket, Held, held, settled, reduced, misfit, misfitted, enclosed, next_frame, behind_value, before_operator, close_held, next_held, param_of, param_missed, term_at, lead_of, named_at, built, built_all, take_in, field_part}
use Rattle.gm_parse.proofs.Keys.{key_operator, key_name}
use Rattle.gm_parse.proofs.Leading.{is_after}

-- ---- marks that are parts

-- the marks are these parts, each name and label at its place
abbrev pub Fits : List Mark → List (Part Role) → Type 0
Fits [] [] = Unit {0}
Fits [] (part ∷ parts) = ⊥
Fits (mark ∷ marks) [] = ⊥
Fits (mark ∷ marks) (part ∷ parts) = (mark.symbol ≡ part.symbol) × IsPlacedAt mark.place part.role × Fits marks parts

-- ---- faults

pub noted-append : (least : Option NameFault) (xs ys : List NameFault) → noted least (xs ++ ys) ≡ noted (noted least xs) ys
noted-append least [] ys = refl
noted-append least (x ∷ xs) ys = noted-append (earlier least x) xs ys

noted_unknown : {A : Type 0} (least : Option NameFault) (mention : Mention) (found : Option A) → noted least (unknown mention found) ≡ missed least mention.place found
noted_unknown least mention None = refl
noted_unknown least mention (Some found) = refl

noted_again : (again : Bool) (least : Option NameFault) (fault : NameFault) (rest : List NameFault) → noted (cond again (earlier least fault) least) rest ≡ noted least (cond again (fault ∷ []) [] ++ rest)
noted_again true least fault rest = refl
noted_again false least fault rest = refl

-- ---- what a form leaves open on its right

module _ (names : Names) where
  abbrev pub pending : Form → List Frame → List Frame
  pending (MinusForm part) frames = pending part (MinusOf ∷ frames)
  pending (NotForm part) frames = pending part (NotOf ∷ frames)
  pending (BinaryForm op left right) frames = pending right (LeftOf op (tree_in names left) ∷ frames)
  pending (IfForm c a b) frames = pending b (ElseOf (tree_in names c) (tree_in names a) ∷ frames)
  pending _ frames = frames

  -- the tree of its last operand
  abbrev pub last_tree : Form → Tree
  last_tree (MinusForm part) = last_tree part
  last_tree (NotForm part) = last_tree part
  last_tree (BinaryForm op left right) = last_tree right
  last_tree (IfForm c a b) = last_tree b
  last_tree form = tree_in names form

  pub settled_pending : (form : Form) (frames : List Frame) → settled (pending form frames) (last_tree form) ≡ settled frames (tree_in names form)
  settled_pending (MinusForm part) frames = settled_pending part (MinusOf ∷ frames)
  settled_pending (NotForm part) frames = settled_pending part (NotOf ∷ frames)
  settled_pending (BinaryForm op left right) frames = settled_pending right (LeftOf op (tree_in names left) ∷ frames)
  settled_pending (IfForm c a b) frames = settled_pending b (ElseOf (tree_in names c) (tree_in names a) ∷ frames)
  settled_pending (NumberForm n) frames = refl
  settled_pending (TruthForm b) frames = refl
  settled_pending (ParamForm param) frames = refl
  settled_pending (FieldForm term embed) frames = refl
  settled_pending (SameForm left right) frames = refl
  settled_pending (CountForm orbit term) frames = refl
  settled_pending (CollectForm collector orbit term embed) frames = refl
  settled_pending (CallForm function arguments) frames = refl
  settled_pending (ParenForm part) frames = refl

-- what an operator owes here by the tables
record Bounds (op : BinOp) : Type 0 where
  left : binary_level op ≤ least_on_left op
  right : binary_level op < least_on_right op
  low : least_on_left op ≤ 3 → binary_level op < 3
  some : 1 ≤ least_on_left op
  most : binary_level op < 7

bounds : (op : BinOp) → Bounds op
bounds ops.Or = record { left = omega arith; right = omega arith; low = λ low. omega arith; some = omega arith; most = omega arith }
bounds ops.And = record { left = omega arith; right = omega arith; low = λ low. omega arith; some = omega arith; most = omega arith }
bounds ops.Eq = record { left = omega arith; right = omega arith; low = λ low. absurd (omega (arith, low)); some = omega arith; most = omega arith }
bounds ops.Ne = record { left = omega arith; right = omega arith; low = λ low. absurd (omega (arith, low)); some = omega arith; most = omega arith }
bounds ops.Lt = record { left = omega arith; right = omega arith; low = λ low. absurd (omega (arith, low)); some = omega arith; most = omega arith }
bounds ops.Le = record { left = omega arith; right = omega arith; low = λ low. absurd (omega (arith, low)); some = omega arith; most = omega arith }
bounds ops.Gt = record { left = omega arith; right = omega arith; low = λ low. absurd (omega (arith, low)); some = omega arith; most = omega arith }
bounds ops.Ge = record { left = omega arith; right = omega arith; low = λ low. absurd (omega (arith, low)); some = omega arith; most = omega arith }
bounds ops.Add = record { left = omega arith; right = omega arith; low = λ low. absurd (omega (arith, low)); some = omega arith; most = omega arith }
bounds ops.Sub = record { left = omega arith; right = omega arith; low = λ low. absurd (omega (arith, low)); some = omega arith; most = omega arith }
bounds ops.Mul = record { left = omega arith; right = omega arith; low = λ low. absurd (omega (arith, low)); some = omega arith; most = omega arith }
bounds ops.Div = record { left = omega arith; right = omega arith; low = λ low. absurd (omega (arith, low)); some = omega arith; most = omega arith }
bounds ops.Rem = record { left = omega arith; right = omega arith; low = λ low. absurd (omega (arith, low)); some = omega arith; most = omega arith }

above : (least level : ℕ) → level < least → nat_le least level ≡ false
above least level more = grind (arith, nat_tests, more)

-- the operator's left operand is whole before it
reduced_pending : (names : Names) (op : BinOp) (form : Form) (frames : List Frame) → IsGood form → least_on_left op ≤ level_of form → reduced (binary_level op) (pending names form frames) (last_tree names form) ≡ reduced (binary_level op) frames (tree_in names form)
reduced_pending names op (MinusForm part) frames good low =
    let high : nat_le 7 (binary_level op) ≡ false = above 7 (binary_level op) (bounds op).most in
    reduced_pending names op part (MinusOf ∷ frames) good.1 (omega (arith, low, good.0)) ∙ rw high refl
reduced_pending names op (NotForm part) frames good low =
    let high : nat_le 3 (binary_level op) ≡ false = above 3 (binary_level op) ((bounds op).low low) in
    reduced_pending names op part (NotOf ∷ frames) good.1 (omega (arith, low, good.0)) ∙ rw high refl
reduced_pending names op (BinaryForm other left right) frames good low =
    let high : nat_le (least_on_right other) (binary_level op) ≡ false = above (least_on_right other) (binary_level op) (omega (arith, (bounds op).left, (bounds other).right, low)) in
    reduced_pending names op right (LeftOf other (tree_in names left) ∷ frames) good.3 (omega (arith, low, (bounds other).right, good.1)) ∙ rw high refl
reduced_pending names op (IfForm c a b) frames good low = absurd (omega (arith, low, (bounds op).some))
reduced_pending names op (NumberForm n) frames good low = refl
reduced_pending names op (TruthForm b) frames good low = refl
reduced_pending names op (ParamForm param) frames good low = refl
reduced_pending names op (FieldForm term embed) frames good low = refl
reduced_pending names op (SameForm left right) frames good low = refl
reduced_pending names op (CountForm orbit term) frames good low = refl
reduced_pending names op (CollectForm collector orbit term embed) frames good low = refl
reduced_pending names op (CallForm function arguments) frames good low = refl
reduced_pending names op (ParenForm part) frames good low = refl

reduced_none : (level : ℕ) (frames : List Frame) (tree : Tree) → least_of frames ≤ level → reduced level frames tree ≡ held frames tree
reduced_none level [] tree low = refl
reduced_none level (frame ∷ frames) tree low = let at : nat_le (least_in frame) level ≡ true = grind (arith, nat_tests, low) in rw at refl

settled_bracket : (frame : Frame) (frames : List Frame) (tree : Tree) → is_bracket frame ≡ true → settled (frame ∷ frames) tree ≡ held (frame ∷ frames) tree
settled_bracket frame frames tree is = rw is refl

-- ---- runs

-- a name by itself is a parameter once something else stands behind it
abbrev pub done_part : List Frame → Option NameFault → Piece → Work
done_part frames least (Name named) = work frames (param_missed least named) (Value (param_of named))
done_part frames least piece = work frames least piece

abbrev pub done : Work → Work
done w = done_part w.frames w.fault w.part

module _ (n : ℕ) (names : Names) where
  -- over some marks it becomes the other work, and marks are left that are the rest
  pub record Runs (w : Work) (marks : List Mark) (to : Work) (rest : List (Part Role)) : Type 0 where
    pub left : List Mark
    pub fits : Fits left rest
    pub runs : built_all names w marks ≡ built_all names to left

  runs_then : (w middle to : Work) (marks : List Mark) (between rest : List (Part Role)) → Runs w marks middle between → ((left : List Mark) → Fits left between → Runs middle left to rest) → Runs w marks to rest
  runs_then w middle to marks between rest one more =
      let two = more one.left one.fits in
      record { left = two.left; fits = two.fits; runs = one.runs ∙ two.runs }

  by_part : (w to : Work) (part : Part Role) (rest : List (Part Role)) (marks : List Mark) → Fits marks (part ∷ rest) → ((place : ℕ) → IsPlacedAt place part.role → built names w (record { symbol = part.symbol; place = place }) ≡ to) → Runs w marks to rest
  by_part w to part rest [] fits comes = absurd fits
  by_part w to part rest (mark ∷ marks) fits comes = record {
    left = marks;
    fits = fits.2;
    runs = ap (λ (v : Work). built_all names v marks) (ap (λ (s : Symbol). built names w (record { symbol = s; place = mark.place })) fits.0 ∙ comes mark.place fits.1);
  }

  named_part : (frames : List Frame) (least : Option NameFault) (to : Work) (piece : Piece) (mention : Mention) (rest : List (Part Role)) (marks : List Mark) → IsFree mention → Fits marks (name mention ∷ rest)
      → take_in names frames least piece keys.Name (record { symbol = Word mention.name; place = mention.place }) ≡ to → Runs (work frames least piece) marks to rest
  named_part frames least to piece mention rest marks free fits comes =
      by_part (work frames least piece) to (name mention) rest marks fits
      (λ place placed. ap (λ (k : Key). take_in names frames least piece k (record { symbol = Word mention.name; place = place })) (key_name mention.name free) ∙ ap (λ (p : ℕ). take_in names frames least piece keys.Name (record { symbol = Word mention.name; place = p })) (sym placed) ∙ comes)

  -- ---- orbits and terms

  label_small : (label : ℕ) → n ≤ 7 → label ≤ n → min label 7 ≡ label
  label_small label top low = omega (arith, top, low)

  runs_labels : n ≤ 7 → (frames : List Frame) (least : Option NameFault) (head : Head) (mask : Mask) (orbit : List LabelForm) (rest : List (Part Role)) (marks : List Mark) → IsSmallOrbit n orbit → Fits marks (spell_labels n orbit rest)
      → Runs (work frames least (InOrbit head mask)) marks (work frames (noted least (again_in mask orbit)) (InOrbit head (with_labels mask orbit))) rest
  runs_labels top frames least head mask [] rest marks small fits = record { left = marks; fits = fits; runs = refl }
  runs_labels top frames least head mask (form ∷ orbit) rest marks small fits =
      let after = cond (has mask form.label) (earlier least (TwiceAt form.place)) least in
      runs_then (work frames least (InOrbit head mask)) (work frames after (InOrbit head (with_label mask form.label))) _ marks (spell_labels n orbit rest) rest
      (by_part (work frames least (InOrbit head mask)) (work frames after (InOrbit head (with_label mask form.label))) (number (LabelAt n form.place) form.label) (spell_labels n orbit rest) marks fits
      (λ place placed. ap (λ (k : ℕ). work frames (cond (has mask k) (earlier least (TwiceAt place)) least) (InOrbit head (with_label mask k))) (label_small form.label top small.0)
      ∙ ap (λ (p : ℕ). work frames (cond (has mask form.label) (earlier least (TwiceAt p)) least) (InOrbit head (with_label mask form.label))) (sym placed)))
      (λ left fits. subst (λ (l : Option NameFault). Runs (work frames after (InOrbit head (with_label mask form.label))) left (work frames l (InOrbit head (with_labels (with_label mask form.label) orbit))) rest) (noted_again (has mask form.label) least (TwiceAt form.place) (again_in (with_label mask form.label) orbit))
      (runs_labels top frames after head (with_label mask form.label) orbit rest left small.1 fits))

  runs_path : n ≤ 7 → (frames : List Frame) (least : Option NameFault) (lead : Lead) (term : DartTerm) (path : List ℕ) (rest : List (Part Role)) (marks : List Mark) → IsSmallPath n path → Fits marks (spell_path n path rest)
      → Runs (work frames least (BehindTerm lead term)) marks (work frames least (BehindTerm lead (record term { path = term.path ++ path }))) rest
  runs_path top frames least lead term [] rest marks small fits = record { left = marks; fits = fits; runs = ap (λ (p : List ℕ). built_all names (work frames least (BehindTerm lead (record term { path = p }))) marks) (sym (append-nil term.path)) }
  runs_path top frames least lead term (label ∷ path) rest marks small fits =
      let here = work frames least (BehindTerm lead term) in
      let along : DartTerm = record term { path = term.path ++ label ∷ [] } in
      runs_then here here _ marks (number (StepAt n) label ∷ spell_path n path rest) rest (by_part here here (sign Fixed (codes "@")) (number (StepAt n) label ∷ spell_path n path rest) marks fits (λ place placed. refl))
      (λ left fits. runs_then here (work frames least (BehindTerm lead along)) _ left (spell_path n path rest) rest
      (by_part here (work frames least (BehindTerm lead along)) (number (StepAt n) label) (spell_path n path rest) left fits (λ place placed. ap (λ (k : ℕ). work frames least (BehindTerm lead (record term { path = term.path ++ k ∷ [] }))) (label_small label top small.0)))
      (λ more fits. subst (λ (p : List ℕ). Runs (work frames least (BehindTerm lead along)) more (work frames least (BehindTerm lead (record term { path = p }))) rest) (append_assoc term.path (label ∷ []) path) (runs_path top frames least lead along path rest more small.1 fits)))

  runs_term : n ≤ 7 → (frames : List Frame) (least : Option NameFault) (lead : Lead) (term : TermForm) (rest : List (Part Role)) (marks : List Mark) → IsFree term.node → IsSmallPath n term.path → Fits marks (spell_term n term rest)
      → Runs (work frames least (BeforeTerm lead)) marks (work frames (noted least (term_faults names term)) (BehindTerm lead (term_in names term))) rest
  runs_term top frames least lead term rest marks free small fits =
      let after = work frames (missed least term.node.place (node_number names term.node)) (BehindTerm lead (term_at (node_number names term.node))) in
      subst (λ (l : Option NameFault). Runs (work frames least (BeforeTerm lead)) marks (work frames l (BehindTerm lead (term_in names term))) rest) (sym (noted_unknown least term.node (node_number names term.node)))
      (runs_then (work frames least (BeforeTerm lead)) after _ marks (spell_path n term.path rest) rest (named_part frames least after (BeforeTerm lead) term.node (spell_path n term.path rest) marks free fits refl)
      (λ left fits. runs_path top frames (missed least term.node.place (node_number names term.node)) lead (term_at (node_number names term.node)) term.path rest left small fits))

  abbrev field_work : List Frame → Option NameFault → Lead → DartTerm → Mention → Work
  field_work frames least lead term embed = work frames (missed least embed.place (embed_number names embed)) (field_part lead term (embed_in names embed))

  -- behind a whole term
  runs_field_end : (frames : List Frame) (least : Option NameFault) (lead : Lead) (term : DartTerm) (embed : Mention) (rest : List (Part Role)) (marks : List Mark) → IsFree embed → Fits marks (sign Fixed (codes ".") ∷ name embed ∷ rest)
      → Runs (work frames least (BehindTerm lead term)) marks (field_work frames least lead term embed) rest
  runs_field_end frames least lead term embed rest marks free fits =
      let here = work frames least (BehindTerm lead term) in
      runs_then here here (field_work frames least lead term embed) marks (name embed ∷ rest) rest (by_part here here (sign Fixed (codes ".")) (name embed ∷ rest) marks fits (λ place placed. refl))
      (λ left fits. named_part frames least (field_work frames least lead term embed) (BehindTerm lead term) embed rest left free fits refl)

  -- behind a name that is a node
  runs_named_field : n ≤ 7 → (frames : List Frame) (least : Option NameFault) (named : Named) (path : List ℕ) (embed : Mention) (rest : List (Part Role)) (marks : List Mark) → IsFree embed → IsSmallPath n path
      → Fits marks (spell_path n path (sign Fixed (codes ".") ∷ name embed ∷ rest))
      → Runs (work frames least (Name named)) marks (field_work frames (missed least named.place named.node) leads.Plain (record { node = unwrap_or named.node 0; path = path }) embed) rest
  runs_named_field top frames least named [] embed rest marks free small fits =
      let at = missed least named.place named.node in
      let begun = work frames at (BehindTerm leads.Plain (term_at named.node)) in
      runs_then (work frames least (Name named)) begun _ marks (name embed ∷ rest) rest (by_part (work frames least (Name named)) begun (sign Fixed (codes ".")) (name embed ∷ rest) marks fits (λ place placed. refl))
      (λ left fits. named_part frames at (field_work frames at leads.Plain (term_at named.node) embed) (BehindTerm leads.Plain (term_at named.node)) embed rest left free fits refl)
  runs_named_field top frames least named (label ∷ path) embed rest marks free small fits =
      let at = missed least named.place named.node in
      let begun = work frames at (BehindTerm leads.Plain (term_at named.node)) in
      let first : DartTerm = record { node = unwrap_or named.node 0; path = label ∷ [] } in
      let whole : DartTerm = record { node = unwrap_or named.node 0; path = label ∷ path } in
      let field = sign Fixed (codes ".") ∷ name embed ∷ rest in
      runs_then (work frames least (Name named)) begun (field_work frames at leads.Plain whole embed) marks (number (StepAt n) label ∷ spell_path n path field) rest (by_part (work frames least (Name named)) begun (sign Fixed (codes "@")) (number (StepAt n) label ∷ spell_path n path field) marks fits (λ place placed. refl))
      (λ left fits. runs_then begun (work frames at (BehindTerm leads.Plain first)) (field_work frames at leads.Plain whole embed) left (spell_path n path field) rest
      (by_part begun (work frames at (BehindTerm leads.Plain first)) (number (StepAt n) label) (spell_path n path field) left fits (λ place placed. ap (λ (k : ℕ). let t : DartTerm = record { node = unwrap_or named.node 0; path = k ∷ [] } in work frames at (BehindTerm leads.Plain t)) (label_small label top small.0)))
      (λ more fits. runs_then (work frames at (BehindTerm leads.Plain first)) (work frames at (BehindTerm leads.Plain whole)) (field_work frames at leads.Plain whole embed) more field rest (runs_path top frames at leads.Plain first path field more small.1 fits)
      (λ last fits. runs_field_end frames at leads.Plain whole embed rest last free fits)))

  runs_orbit : n ≤ 7 → (frames : List Frame) (least : Option NameFault) (head : Head) (orbit : List LabelForm) (rest : List (Part Role)) (marks : List Mark) → IsSmallOrbit n orbit
      → Fits marks (sign Fixed (codes "<") ∷ spell_labels n orbit (sign Fixed (codes ">") ∷ sign Fixed (codes "(") ∷ rest))
      → Runs (work frames least (InOrbit head no_labels)) marks (work frames (noted least (orbit_faults orbit)) (BeforeTerm (lead_of head (mask_of orbit)))) rest
  runs_orbit top frames least head orbit rest marks small fits =
      let here = work frames least (InOrbit head no_labels) in
      let labelled = work frames (noted least (orbit_faults orbit)) (InOrbit head (mask_of orbit)) in
      let before = work frames (noted least (orbit_faults orbit)) (BeforeTerm (lead_of head (mask_of orbit))) in
      let behind = sign Fixed (codes ">") ∷ sign Fixed (codes "(") ∷ rest in
      runs_then here here before marks (spell_labels n orbit behind) rest (by_part here here (sign Fixed (codes "<")) (spell_labels n orbit behind) marks fits (λ place placed. refl))
      (λ left fits. runs_then here labelled before left behind rest (runs_labels top frames least head no_labels orbit behind left small fits)
      (λ more fits. runs_then labelled labelled before more (sign Fixed (codes "(") ∷ rest) rest (by_part labelled labelled (sign Fixed (codes ">")) (sign Fixed (codes "(") ∷ rest) more fits (λ place placed. refl))
      (λ last fits. by_part labelled before (sign Fixed (codes "(")) rest last fits (λ place placed. refl))))

  -- ---- behind a form

  -- what is left of a form that was read: its value is done
  pub record RunsForm (w : Work) (marks : List Mark) (to : Work) (rest : List (Part Role)) : Type 0 where
    pub end : Work
    pub runs : Runs w marks end rest
    pub is : done end ≡ to

  after_done : (end : Work) (frames : List Frame) (least : Option NameFault) (tree : Tree) (symbol : Symbol) (place : ℕ) (key : Key) → done end ≡ work frames least (Value tree) → key_of symbol ≡ key → is_after key ≡ true
      → built names end (record { symbol = symbol; place = place }) ≡ behind_value frames least tree key
  after_done end frames least tree symbol place key is at after =
      ap (λ (k : Key). take_in names end.frames end.fault end.part k (record { symbol = symbol; place = place })) at ∙ go end.part is
    where
      same : (piece : Piece) → work end.frames end.fault piece ≡ work frames least (Value tree) → take_in names end.frames end.fault piece key (record { symbol = symbol; place = place }) ≡ behind_value frames least tree key
      same piece e = ap (λ (w : Work). take_in names w.frames w.fault w.part key (record { symbol = symbol; place = place })) e

      named_after : (named : Named) (key : Key) → is_after key ≡ true → take_in names end.frames end.fault (Name named) key (record { symbol = symbol; place = place }) ≡ behind_value end.frames (param_missed end.fault named) (param_of named) key
      named_after named (keys.Operator op) after = refl
      named_after named keys.Close after = refl
      named_after named keys.Comma after = refl
      named_after named keys.Then after = refl
      named_after named keys.Else after = refl
      named_after named _ after = absurd cc

      go : (piece : Piece) → done_part end.frames end.fault piece ≡ work frames least (Value tree) → take_in names end.frames end.fault piece key (record { symbol = symbol; place = place }) ≡ behind_value frames least tree key
      go (Name named) e = named_after named key after ∙ ap (λ (w : Work). take_in names w.frames w.fault w.part key (record { symbol = symbol; place = place })) e
      go Nothing e = same Nothing e
      go (Value t) e = same (Value t) e
      go (InOrbit head mask) e = same (InOrbit head mask) e
      go (BeforeTerm lead) e = same (BeforeTerm lead) e
      go (BehindTerm lead term) e = same (BehindTerm lead term) e
      go (BehindField collector mask term embed) e = same (BehindField collector mask term embed) e

  -- a form, and a fixed symbol behind it
  form_then : (w to next : Work) (frames : List Frame) (least : Option NameFault) (tree : Tree) (marks : List Mark) (part : Part Role) (rest more : List (Part Role)) (key : Key) → RunsForm w marks (work frames least (Value tree)) (part ∷ rest)
      → key_of part.symbol ≡ key → is_after key ≡ true → behind_value frames least tree key ≡ next → ((left : List Mark) → Fits left rest → RunsForm next left to more) → RunsForm w marks to more
  form_then w to next frames least tree marks part rest more key one at after comes go =
      let step = runs_then w one.end next marks (part ∷ rest) rest one.runs (λ left fits. by_part one.end next part rest left fits (λ place placed. after_done one.end frames least tree part.symbol place key one.is at after ∙ comes)) in
      let behind = go step.left step.fits in
      record { end = behind.end; runs = record { left = behind.runs.left; fits = behind.runs.fits; runs = step.runs ∙ behind.runs.runs }; is = behind.is }

  runs_before : (w middle to : Work) (marks : List Mark) (between rest : List (Part Role)) → Runs w marks middle between → ((left : List Mark) → Fits left between → RunsForm middle left to rest) → RunsForm w marks to rest
  runs_before w middle to marks between rest one go =
      let behind = go one.left one.fits in
      record { end = behind.end; runs = record { left = behind.runs.left; fits = behind.runs.fits; runs = one.runs ∙ behind.runs.runs }; is = behind.is }

  whole : (w : Work) (marks : List Mark) (frames : List Frame) (least : Option NameFault) (tree : Tree) (rest : List (Part Role)) → Runs w marks (work frames least (Value tree)) rest → RunsForm w marks (work frames least (Value tree)) rest
  whole w marks frames least tree rest one = record { end = work frames least (Value tree); runs = one; is = refl }

  faults_are : (w : Work) (marks : List Mark) (frames : List Frame) (one other : Option NameFault) (tree : Tree) (rest : List (Part Role)) → one ≡ other → RunsForm w marks (work frames one (Value tree)) rest → RunsForm w marks (work frames other (Value tree)) rest
  faults_are w marks frames one other tree rest same runs = subst (λ (l : Option NameFault). RunsForm w marks (work frames l (Value tree)) rest) same runs

  -- a fixed symbol first
  prefix : (w middle to : Work) (marks : List Mark) (part : Part Role) (between rest : List (Part Role)) → Fits marks (part ∷ between) → ((place : ℕ) → built names w (record { symbol = part.symbol; place = place }) ≡ middle)
      → ((left : List Mark) → Fits left between → RunsForm middle left to rest) → RunsForm w marks to rest
  prefix w middle to marks part between rest fits comes go = runs_before w middle to marks between rest (by_part w middle part between marks fits (λ place placed. comes place)) go

  -- ---- functions

  abbrev last_argument : Arguments → Form
  last_argument (First form) = form
  last_argument (Further arguments form) = form

  -- the bracket of a function before the last of its arguments
  abbrev bracket : Callee → Arguments → Frame
  bracket callee (First a) = FirstOf callee
  bracket callee (Further (First a) b) = SecondOf callee (tree_in names a)
  bracket callee (Further (Further (First a) b) c) = ThirdOf callee (tree_in names a) (tree_in names b)
  bracket callee (Further (Further (Further arguments b) c) d) = BeyondOf callee

  bracket_is : (callee : Callee) (arguments : Arguments) → is_bracket (bracket callee arguments) ≡ true
  bracket_is callee (First a) = refl
  bracket_is callee (Further (First a) b) = refl
  bracket_is callee (Further (Further (First a) b) c) = refl
  bracket_is callee (Further (Further (Further arguments b) c) d) = refl

  next_is : (callee : Callee) (arguments : Arguments) (form : Form) → next_frame keys.Comma (bracket callee arguments) (tree_in names (last_argument arguments)) ≡ bracket callee (Further arguments form)
  next_is callee (First a) form = refl
  next_is callee (Further (First a) b) form = refl
  next_is callee (Further (Further (First a) b) c) form = refl
  next_is callee (Further (Further (Further arguments b) c) d) form = refl

  misfit_is : {A : Type 0} (least : Option NameFault) (mention : Mention) (found : Option A) → misfitted least (cond (is_some found) None (Some mention.place)) ≡ noted least (unknown mention found)
  misfit_is least mention None = refl
  misfit_is least mention (Some found) = refl

  arity_most : (function : Function) → arity function ≤ 3
  arity_most functions.Vec2 = omega arith
  arity_most functions.Vec3 = omega arith
  arity_most functions.Rgb = omega arith
  arity_most (functions.Part op) = omega arith

  no_arity : (function : Option Function) (count : ℕ) → 4 ≤ count → with_arity function count ≡ None
  no_arity None count many = refl
  no_arity (Some function) count many =
      let most = arity_most function in
      let other : nat_eq (arity function) count ≡ false = grind (arith, nat_tests, most, many) in
      rw other refl

  long_call : (function : Option Function) (trees : List Tree) → 4 ≤ length trees → call_of function trees ≡ Truth false
  long_call function [] many = absurd (omega (arith, many))
  long_call function (a ∷ []) many = absurd (omega (arith, many))
  long_call function (a ∷ b ∷ []) many = absurd (omega (arith, many))
  long_call function (a ∷ b ∷ c ∷ []) many = absurd (omega (arith, many))
  long_call None (a ∷ b ∷ c ∷ d ∷ trees) many = refl
  long_call (Some functions.Vec2) (a ∷ b ∷ c ∷ d ∷ trees) many = refl
  long_call (Some functions.Vec3) (a ∷ b ∷ c ∷ d ∷ trees) many = refl
  long_call (Some functions.Rgb) (a ∷ b ∷ c ∷ d ∷ trees) many = refl
  long_call (Some (functions.Part op)) (a ∷ b ∷ c ∷ d ∷ trees) many = refl

  trees_count : (arguments : Arguments) → length (trees_in names arguments) ≡ count_of arguments
  trees_count (First form) = refl
  trees_count (Further arguments form) = omega (arith, length-append (trees_in names arguments) (tree_in names form ∷ []), trees_count arguments)

  count_some : (arguments : Arguments) → 1 ≤ count_of arguments
  count_some (First form) = omega arith
  count_some (Further arguments form) = omega arith

  abbrev callee_at : Mention → Callee
  callee_at mention = record { function = function_named mention.name; place = mention.place }

  closes : (frames : List Frame) (least : Option NameFault) (mention : Mention) (arguments : Arguments) (callee : Callee) → callee ≡ record { function = function_named mention.name; place = mention.place }
      → work frames (misfitted least (misfit (bracket callee arguments))) (Value (enclosed (bracket callee arguments) (tree_in names (last_argument arguments))))
      ≡ work frames (noted least (unknown mention (function_of mention.name (count_of arguments)))) (Value (call_of (function_named mention.name) (trees_in names arguments)))
  closes frames least mention (First a) callee is = rw is (ap (λ (l : Option NameFault). work frames l (Value (call_of (function_named mention.name) (tree_in names a ∷ [])))) (misfit_is least mention (with_arity (function_named mention.name) 1)))
  closes frames least mention (Further (First a) b) callee is = rw is (ap (λ (l : Option NameFault). work frames l (Value (call_of (function_named mention.name) (tree_in names a ∷ tree_in names b ∷ [])))) (misfit_is least mention (with_arity (function_named mention.name) 2)))
  closes frames least mention (Further (Further (First a) b) c) callee is =
      rw is (ap (λ (l : Option NameFault). work frames l (Value (call_of (function_named mention.name) (tree_in names a ∷ tree_in names b ∷ tree_in names c ∷ [])))) (misfit_is least mention (with_arity (function_named mention.name) 3)))
  closes frames least mention (Further (Further (Further arguments b) c) d) callee is =
      let all = Further (Further (Further arguments b) c) d in
      let many : 4 ≤ count_of all = omega (arith, count_some arguments) in
      let none : function_of mention.name (count_of all) ≡ None = no_arity (function_named mention.name) (count_of all) many in
      let tree : call_of (function_named mention.name) (trees_in names all) ≡ Truth false = long_call (function_named mention.name) (trees_in names all) (omega (arith, trees_count all, many)) in
      let unknown_is : earlier least (UnknownAt mention.place) ≡ noted least (unknown mention (function_of mention.name (count_of all))) = ap (λ (f : Option Function). noted least (unknown mention f)) (sym none) in
      rw is (ap (λ (l : Option NameFault). work frames l (Value (Truth false))) unknown_is ∙ ap (λ (t : Tree). work frames (noted least (unknown mention (function_of mention.name (count_of all)))) (Value t)) (sym tree))

  -- a function of an orbit begins
  collect_word : (collector : Collector) (frames : List Frame) (least : Option NameFault) (rest : List (Part Role)) (marks : List Mark) → Fits marks (word Fixed (collector_word collector) ∷ rest)
      → Runs (work frames least Nothing) marks (work frames least (InOrbit (heads.Collect collector) no_labels)) rest
  collect_word collectors.Sum frames least rest marks fits = by_part (work frames least Nothing) (work frames least (InOrbit (heads.Collect collectors.Sum) no_labels)) (word Fixed (codes "sum")) rest marks fits (λ place placed. refl)
  collect_word collectors.Least frames least rest marks fits = by_part (work frames least Nothing) (work frames least (InOrbit (heads.Collect collectors.Least) no_labels)) (word Fixed (codes "min")) rest marks fits (λ place placed. refl)
  collect_word collectors.Greatest frames least rest marks fits = by_part (work frames least Nothing) (work frames least (InOrbit (heads.Collect collectors.Greatest) no_labels)) (word Fixed (codes "max")) rest marks fits (λ place placed. refl)

  least_bracket : (callee : Callee) (arguments : Arguments) (form : Form) (frames : List Frame) → least_of (bracket callee arguments ∷ frames) ≤ level_of form
  least_bracket callee (First a) form frames = omega arith
  least_bracket callee (Further (First a) b) form frames = omega arith
  least_bracket callee (Further (Further (First a) b) c) form frames = omega arith
  least_bracket callee (Further (Further (Further arguments b) c) d) form frames = omega arith

  -- ---- forms

  -- what is built over the form, where an operand begins behind the frames
  abbrev after_form : List Frame → Option NameFault → Form → Work
  after_form frames least form = work (pending names form frames) (noted least (faults_in names form)) (Value (last_tree names form))

  abbrev IsBuilt : Form → Type 0
  IsBuilt form = (frames : List Frame) (least : Option NameFault) (rest : List (Part Role)) (marks : List Mark) → IsGood form → IsSmall n form → least_of frames ≤ level_of form → Fits marks (spell n form rest)
      → RunsForm (work frames least Nothing) marks (after_form frames least form) rest

  abbrev after_arguments : List Frame → Option NameFault → Callee → Arguments → Work
  after_arguments frames least callee arguments = work (pending names (last_argument arguments) (bracket callee arguments ∷ frames)) (noted least (argument_faults names arguments)) (Value (last_tree names (last_argument arguments)))

  abbrev AreBuilt : Arguments → Type 0
  AreBuilt arguments = (frames : List Frame) (least : Option NameFault) (callee : Callee) (rest : List (Part Role)) (marks : List Mark) → AreGood arguments → AreSmall n arguments → Fits marks (spell_arguments n arguments rest)
      → RunsForm (work (FirstOf callee ∷ frames) least Nothing) marks (after_arguments frames least callee arguments) rest

  -- in a bracket a form ends before what closes it, or before its next part
  in_bracket : (form : Form) (frame : Frame) (frames : List Frame) → is_bracket frame ≡ true → settled (pending names form (frame ∷ frames)) (last_tree names form) ≡ held (frame ∷ frames) (tree_in names form)
  in_bracket form frame frames is = settled_pending names form (frame ∷ frames) ∙ settled_bracket frame frames (tree_in names form) is

  module _ (top : n ≤ 7) where
    mutual
      pub is_built : (form : Form) → IsBuilt form
      is_built (NumberForm value) frames least rest marks good small fits_in fits =
          let low : min value greatest ≡ value = omega (arith, small) in
          whole (work frames least Nothing) marks frames least (tree_in names (NumberForm value)) rest
          (by_part (work frames least Nothing) (work frames least (Value (tree_in names (NumberForm value)))) (number Quantity value) rest marks fits (λ place placed. ap (λ (k : ℕ). work frames least (Value (Quantity_tree (pos k)))) low))
      is_built (TruthForm true) frames least rest marks good small fits_in fits = whole (work frames least Nothing) marks frames least (Truth true) rest (by_part (work frames least Nothing) (work frames least (Value (Truth true))) (word Fixed (truth_text true)) rest marks fits (λ place placed. refl))
      is_built (TruthForm false) frames least rest marks good small fits_in fits = whole (work frames least Nothing) marks frames least (Truth false) rest (by_part (work frames least Nothing) (work frames least (Value (Truth false))) (word Fixed (truth_text false)) rest marks fits (λ place placed. refl))
      is_built (ParamForm param) frames least rest marks good small fits_in fits =
          let named = named_at names param.name param.place in
          record {
            end = work frames least (Name named);
            runs = named_part frames least (work frames least (Name named)) Nothing param rest marks good fits refl;
            is = ap (λ (l : Option NameFault). work frames l (Value (tree_in names (ParamForm param)))) (sym (noted_unknown least param (param_number names param)));
          }
      is_built (FieldForm term embed) frames least rest marks good small fits_in fits =
          let named = named_at names term.node.name term.node.place in
          let at = missed least term.node.place (node_number names term.node) in
          let same : missed at embed.place (embed_number names embed) ≡ noted least (field_faults names term embed) =
          sym (noted-append least (term_faults names term) (unknown embed (embed_number names embed)) ∙ ap (λ (l : Option NameFault). noted l (unknown embed (embed_number names embed))) (noted_unknown least term.node (node_number names term.node)) ∙ noted_unknown at embed (embed_number names embed)) in
          faults_are (work frames least Nothing) marks frames (missed at embed.place (embed_number names embed)) (noted least (field_faults names term embed)) (tree_in names (FieldForm term embed)) rest same
          (whole (work frames least Nothing) marks frames (missed at embed.place (embed_number names embed)) (tree_in names (FieldForm term embed)) rest
          (runs_then (work frames least Nothing) (work frames least (Name named)) (field_work frames at leads.Plain (term_in names term) embed) marks (spell_path n term.path (sign Fixed (codes ".") ∷ name embed ∷ rest)) rest
          (named_part frames least (work frames least (Name named)) Nothing term.node (spell_path n term.path (sign Fixed (codes ".") ∷ name embed ∷ rest)) marks good.0 fits refl)
          (λ left fits. runs_named_field top frames least named term.path embed rest left good.1 small fits)))
      is_built (SameForm one two) frames least rest marks good small fits_in fits =
          let first = noted least (term_faults names one) in
          let both = noted first (term_faults names two) in
          let before = work frames least (BeforeTerm leads.First) in
          let second = work frames first (BeforeTerm (leads.Second (term_in names one))) in
          let tree = tree_in names (SameForm one two) in
          let close = sign Fixed (codes ")") ∷ rest in
          let comma = sign Fixed (codes ",") ∷ spell_term n two close in
          faults_are (work frames least Nothing) marks frames both (noted least (faults_in names (SameForm one two))) tree rest (sym (noted-append least (term_faults names one) (term_faults names two)))
          (prefix (work frames least Nothing) before (work frames both (Value tree)) marks (word Fixed (codes "same")) (sign Fixed (codes "(") ∷ spell_term n one comma) rest fits (λ place. refl)
          (λ left fits. prefix before before (work frames both (Value tree)) left (sign Fixed (codes "(")) (spell_term n one comma) rest fits (λ place. refl)
          (λ left fits. runs_before before (work frames first (BehindTerm leads.First (term_in names one))) (work frames both (Value tree)) left comma rest (runs_term top frames least leads.First one comma left good.0 small.0 fits)
          (λ left fits. prefix (work frames first (BehindTerm leads.First (term_in names one))) second (work frames both (Value tree)) left (sign Fixed (codes ",")) (spell_term n two close) rest fits (λ place. refl)
          (λ left fits. runs_before second (work frames both (BehindTerm (leads.Second (term_in names one)) (term_in names two))) (work frames both (Value tree)) left close rest (runs_term top frames first (leads.Second (term_in names one)) two close left good.1 small.1 fits)
          (λ left fits. whole (work frames both (BehindTerm (leads.Second (term_in names one)) (term_in names two))) left frames both tree rest
          (by_part (work frames both (BehindTerm (leads.Second (term_in names one)) (term_in names two))) (work frames both (Value tree)) (sign Fixed (codes ")")) rest left fits (λ place placed. refl))))))))
      is_built (CountForm orbit term) frames least rest marks good small fits_in fits =
          let first = noted least (orbit_faults orbit) in
          let both = noted first (term_faults names term) in
          let lead = leads.Counted (mask_of orbit) in
          let tree = tree_in names (CountForm orbit term) in
          let close = sign Fixed (codes ")") ∷ rest in
          let counted = work frames least (InOrbit heads.Count no_labels) in
          let angle = sign Fixed (codes "<") ∷ spell_labels n orbit (sign Fixed (codes ">") ∷ sign Fixed (codes "(") ∷ spell_term n term close) in
          faults_are (work frames least Nothing) marks frames both (noted least (faults_in names (CountForm orbit term))) tree rest (sym (noted-append least (orbit_faults orbit) (term_faults names term)))
          (prefix (work frames least Nothing) counted (work frames both (Value tree)) marks (word Fixed (codes "count")) angle rest fits (λ place. refl)
          (λ left fits. runs_before counted (work frames first (BeforeTerm lead)) (work frames both (Value tree)) left (spell_term n term close) rest (runs_orbit top frames least heads.Count orbit (spell_term n term close) left small.0 fits)
          (λ left fits. runs_before (work frames first (BeforeTerm lead)) (work frames both (BehindTerm lead (term_in names term))) (work frames both (Value tree)) left close rest (runs_term top frames first lead term close left good small.1 fits)
          (λ left fits. whole (work frames both (BehindTerm lead (term_in names term))) left frames both tree rest (by_part (work frames both (BehindTerm lead (term_in names term))) (work frames both (Value tree)) (sign Fixed (codes ")")) rest left fits (λ place placed. refl))))))
      is_built (CollectForm collector orbit term embed) frames least rest marks good small fits_in fits =
          let first = noted least (orbit_faults orbit) in
          let second = noted first (term_faults names term) in
          let third = missed second embed.place (embed_number names embed) in
          let lead = leads.Collected collector (mask_of orbit) in
          let head = heads.Collect collector in
          let tree = tree_in names (CollectForm collector orbit term embed) in
          let close = sign Fixed (codes ")") ∷ rest in
          let dot = sign Fixed (codes ".") ∷ name embed ∷ close in
          let collected = work frames least (InOrbit head no_labels) in
          let angle = sign Fixed (codes "<") ∷ spell_labels n orbit (sign Fixed (codes ">") ∷ sign Fixed (codes "(") ∷ spell_term n term dot) in
          let field = work frames third (BehindField collector (mask_of orbit) (term_in names term) (embed_in names embed)) in
          let same : third ≡ noted least (faults_in names (CollectForm collector orbit term embed)) =
          sym (noted-append least (orbit_faults orbit) (field_faults names term embed) ∙ noted-append first (term_faults names term) (unknown embed (embed_number names embed)) ∙ noted_unknown second embed (embed_number names embed)) in
          faults_are (work frames least Nothing) marks frames third (noted least (faults_in names (CollectForm collector orbit term embed))) tree rest same
          (runs_before (work frames least Nothing) collected (work frames third (Value tree)) marks angle rest (collect_word collector frames least angle marks fits)
          (λ left fits. runs_before collected (work frames first (BeforeTerm lead)) (work frames third (Value tree)) left (spell_term n term dot) rest (runs_orbit top frames least head orbit (spell_term n term dot) left small.0 fits)
          (λ left fits. runs_before (work frames first (BeforeTerm lead)) (work frames second (BehindTerm lead (term_in names term))) (work frames third (Value tree)) left dot rest (runs_term top frames first lead term dot left good.0 small.1 fits)
          (λ left fits. runs_before (work frames second (BehindTerm lead (term_in names term))) field (work frames third (Value tree)) left close rest (runs_field_end frames second lead (term_in names term) embed close left good.1 fits)
          (λ left fits. whole field left frames third tree rest (by_part field (work frames third (Value tree)) (sign Fixed (codes ")")) rest left fits (λ place placed. refl)))))))
      is_built (CallForm function arguments) frames least rest marks good small fits_in fits =
          let named = named_at names function.name function.place in
          let callee = callee_at function in
          let inside = noted least (argument_faults names arguments) in
          let tree = tree_in names (CallForm function arguments) in
          let close = sign Fixed (codes ")") ∷ rest in
          let to = work frames (noted inside (unknown function (function_of function.name (count_of arguments)))) (Value tree) in
          let shut : behind_value (pending names (last_argument arguments) (bracket callee arguments ∷ frames)) inside (last_tree names (last_argument arguments)) keys.Close ≡ to =
          ap (close_held inside) (in_bracket (last_argument arguments) (bracket callee arguments) frames (bracket_is callee arguments)) ∙ closes frames inside function arguments callee refl in
          faults_are (work frames least Nothing) marks frames (noted inside (unknown function (function_of function.name (count_of arguments)))) (noted least (faults_in names (CallForm function arguments))) tree rest (sym (noted-append least (argument_faults names arguments) (unknown function (function_of function.name (count_of arguments)))))
          (runs_before (work frames least Nothing) (work frames least (Name named)) to marks (sign Fixed (codes "(") ∷ spell_arguments n arguments close) rest (named_part frames least (work frames least (Name named)) Nothing function (sign Fixed (codes "(") ∷ spell_arguments n arguments close) marks good.0 fits refl)
          (λ left fits. prefix (work frames least (Name named)) (work (FirstOf callee ∷ frames) least Nothing) to left (sign Fixed (codes "(")) (spell_arguments n arguments close) rest fits (λ place. refl)
          (λ left fits. form_then (work (FirstOf callee ∷ frames) least Nothing) to to (pending names (last_argument arguments) (bracket callee arguments ∷ frames)) inside (last_tree names (last_argument arguments)) left (sign Fixed (codes ")")) rest rest keys.Close
          (are_built arguments frames least callee close left good.1 small fits) refl refl shut
          (λ left fits. whole to left frames (noted inside (unknown function (function_of function.name (count_of arguments)))) tree rest (record { left = left; fits = fits; runs = refl })))))
      is_built (ParenForm part) frames least rest marks good small fits_in fits =
          let inside = noted least (faults_in names part) in
          let to = work frames inside (Value (tree_in names part)) in
          let close = sign Fixed (codes ")") ∷ rest in
          let shut : behind_value (pending names part (GroupOf ∷ frames)) inside (last_tree names part) keys.Close ≡ to = ap (close_held inside) (in_bracket part GroupOf frames refl) in
          prefix (work frames least Nothing) (work (GroupOf ∷ frames) least Nothing) to marks (sign Fixed (codes "(")) (spell n part close) rest fits (λ place. refl)
          (λ left fits. form_then (work (GroupOf ∷ frames) least Nothing) to to (pending names part (GroupOf ∷ frames)) inside (last_tree names part) left (sign Fixed (codes ")")) rest rest keys.Close (is_built part (GroupOf ∷ frames) least close left good small (omega arith) fits) refl refl shut
          (λ left fits. whole to left frames inside (tree_in names part) rest (record { left = left; fits = fits; runs = refl })))
      is_built (MinusForm part) frames least rest marks good small fits_in fits =
          prefix (work frames least Nothing) (work (MinusOf ∷ frames) least Nothing) (after_form frames least (MinusForm part)) marks (sign Fixed (codes "-")) (spell n part rest) rest fits (λ place. refl)
          (λ left fits. is_built part (MinusOf ∷ frames) least rest left good.1 small good.0 fits)
      is_built (NotForm part) frames least rest marks good small fits_in fits =
          prefix (work frames least Nothing) (work (NotOf ∷ frames) least Nothing) (after_form frames least (NotForm part)) marks (word Fixed (codes "not")) (spell n part rest) rest fits (λ place. refl)
          (λ left fits. is_built part (NotOf ∷ frames) least rest left good.1 small good.0 fits)
      is_built (BinaryForm op left right) frames least rest marks good small fits_in fits =
          let first = noted least (faults_in names left) in
          let frame = LeftOf op (tree_in names left) in
          let middle = work (frame ∷ frames) first Nothing in
          let to = after_form (frame ∷ frames) first right in
          let goes : behind_value (pending names left frames) first (last_tree names left) (keys.Operator op) ≡ middle =
          ap (λ (h : Held). work (before_operator op h) first Nothing) (reduced_pending names op left frames good.2 good.0 ∙ reduced_none (binary_level op) frames (tree_in names left) fits_in) in
          faults_are (work frames least Nothing) marks (pending names right (frame ∷ frames)) (noted first (faults_in names right)) (noted least (faults_in names (BinaryForm op left right))) (last_tree names right) rest (sym (noted-append least (faults_in names left) (faults_in names right)))
          (form_then (work frames least Nothing) to middle (pending names left frames) first (last_tree names left) marks (operator op) (spell n right rest) rest (keys.Operator op)
          (is_built left frames least (operator op ∷ spell n right rest) marks good.2 small.0 (omega (arith, fits_in, (bounds op).left, good.0)) fits) (key_operator op) refl goes
          (λ more fits. is_built right (frame ∷ frames) first rest more good.3 small.1 good.1 fits))
      is_built (IfForm c a b) frames least rest marks good small fits_in fits =
          let first = noted least (faults_in names c) in
          let second = noted first (faults_in names a) in
          let on_then = work (ThenOf (tree_in names c) ∷ frames) first Nothing in
          let frame = ElseOf (tree_in names c) (tree_in names a) in
          let on_else = work (frame ∷ frames) second Nothing in
          let to = after_form (frame ∷ frames) second b in
          let tail = word Fixed (codes "else") ∷ spell n b rest in
          let middle = word Fixed (codes "then") ∷ spell n a tail in
          let then_is : behind_value (pending names c (IfOf ∷ frames)) first (last_tree names c) keys.Then ≡ on_then = ap (λ (h : Held). work (next_held keys.Then h) first Nothing) (in_bracket c IfOf frames refl) in
          let else_is : behind_value (pending names a (ThenOf (tree_in names c) ∷ frames)) second (last_tree names a) keys.Else ≡ on_else = ap (λ (h : Held). work (next_held keys.Else h) second Nothing) (in_bracket a (ThenOf (tree_in names c)) frames refl) in
          let same : noted second (faults_in names b) ≡ noted least (faults_in names (IfForm c a b)) =
          sym (noted-append least (faults_in names c ++ faults_in names a) (faults_in names b) ∙ ap (λ (l : Option NameFault). noted l (faults_in names b)) (noted-append least (faults_in names c) (faults_in names a))) in
          faults_are (work frames least Nothing) marks (pending names b (frame ∷ frames)) (noted second (faults_in names b)) (noted least (faults_in names (IfForm c a b))) (last_tree names b) rest same
          (prefix (work frames least Nothing) (work (IfOf ∷ frames) least Nothing) to marks (word Fixed (codes "if")) (spell n c middle) rest fits (λ place. refl)
          (λ left fits. form_then (work (IfOf ∷ frames) least Nothing) to on_then (pending names c (IfOf ∷ frames)) first (last_tree names c) left (word Fixed (codes "then")) (spell n a tail) rest keys.Then (is_built c (IfOf ∷ frames) least middle left good.0 small.0 (omega arith) fits) refl refl then_is
          (λ left fits. form_then on_then to on_else (pending names a (ThenOf (tree_in names c) ∷ frames)) second (last_tree names a) left (word Fixed (codes "else")) (spell n b rest) rest keys.Else (is_built a (ThenOf (tree_in names c) ∷ frames) first tail left good.1 small.1 (omega arith) fits) refl refl else_is
          (λ left fits. is_built b (frame ∷ frames) second rest left good.2 small.2 (omega arith) fits))))

      are_built : (arguments : Arguments) → AreBuilt arguments
      are_built (First form) frames least callee rest marks good small fits = is_built form (FirstOf callee ∷ frames) least rest marks good small (omega arith) fits
      are_built (Further arguments form) frames least callee rest marks good small fits =
          let first = noted least (argument_faults names arguments) in
          let frame = bracket callee (Further arguments form) in
          let middle = work (frame ∷ frames) first Nothing in
          let to = after_form (frame ∷ frames) first form in
          let goes : behind_value (pending names (last_argument arguments) (bracket callee arguments ∷ frames)) first (last_tree names (last_argument arguments)) keys.Comma ≡ middle =
          ap (λ (h : Held). work (next_held keys.Comma h) first Nothing) (in_bracket (last_argument arguments) (bracket callee arguments) frames (bracket_is callee arguments)) ∙ ap (λ (f : Frame). work (f ∷ frames) first Nothing) (next_is callee arguments form) in
          faults_are (work (FirstOf callee ∷ frames) least Nothing) marks (pending names form (frame ∷ frames)) (noted first (faults_in names form)) (noted least (argument_faults names (Further arguments form))) (last_tree names form) rest (sym (noted-append least (argument_faults names arguments) (faults_in names form)))
          (form_then (work (FirstOf callee ∷ frames) least Nothing) to middle (pending names (last_argument arguments) (bracket callee arguments ∷ frames)) first (last_tree names (last_argument arguments)) marks (sign Fixed (codes ",")) (spell n form rest) rest keys.Comma
          (are_built arguments frames least callee (sign Fixed (codes ",") ∷ spell n form rest) marks good.0 small.0 fits) refl refl goes
          (λ left fits. is_built form (frame ∷ frames) first rest left good.1 small.1 (least_bracket callee (Further arguments form) form frames) fits))
