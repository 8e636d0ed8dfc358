-- What the calls that read an expression answer, as a whole and by states.
use Rattle.std.specs.Prelude.{◌≡◌, ℕ, ◌+◌, ◌<◌, ◌≤◌, false, List, [], ◌∷◌, ◌++◌, length, Some, None, Result, Ok, Err, IsTrue, Option, is_some, slice_get}
use Rattle.gm_model.specs.declared.limit.LimitKind.{LimitKind}
use Rattle.gm_model.specs.declared.rule.Node.{Node}
use Rattle.gm_model.specs.declared.rule.Param.{Param}
use Rattle.gm_model.specs.declared.rule.Side.TheVariants.{Left}
use Rattle.gm_model.specs.declared.schema.Schema.{Schema}
use Rattle.gm_model.specs.declared.token.Token.{Token}
use Rattle.gm_model.specs.Kinds.{IsTreeInRange}
use Rattle.gm_model.specs.Reading.{TextEndsAt, LimitStandsAt}
use Rattle.gm_model.specs.Rules.{Rule, has_word}
use Rattle.gm_model.specs.Symbols.{Mark}
use Rattle.gm_model.specs.Trees.{Tree}
use Rattle.gm_text.specs.inner.Cursor.{Cursor}
use Rattle.gm_text.specs.inner.Lexing.{GoesOverTokens}
use Rattle.gm_text.specs.inner.Machine.{Stop, Ends, Passes, run}
use Rattle.gm_text.specs.inner.SchemaAnswers.{marks_left, IsNext}
use Rattle.gm_parse.specs.declared.fault.ExprFault.{ExprFault}
use Rattle.gm_parse.specs.declared.fault.ExprFault.TheVariants as faults
use Rattle.gm_parse.specs.declared.fault.SyntaxFault.{SyntaxFault}
use Rattle.gm_parse.specs.declared.fault.SyntaxFault.TheVariants as syntax_faults
use Rattle.gm_parse.specs.Forms.{Form}
use Rattle.gm_parse.specs.Spelling.{limit_in, IsSentence, Stands}
use Rattle.gm_parse.specs.inner.Reading.{State, Spot, move, spot_at, first_spot, spot_move, spot_role, is_whole_spot, never}
use Rattle.gm_parse.specs.Meaning.{Names, NameFault, UnknownAt, TwiceAt, faults_in, tree_in, IsFirstFault}

-- ---- as a whole

-- the longest expression that stands there passes no limit, and the lexer goes past it
pub record IsExprSkipped (n : ℕ) (old new : Cursor) : Type 0 where
  pub form : Form
  pub stands : Stands n form (marks_left old) (marks_left new)

-- an expression without a fault of the grammar stands there
abbrev pub HasExpr : ℕ → Cursor → Type 0
HasExpr n cursor = (form : Form) × (rest : List Mark) × Stands n form (marks_left cursor) rest

-- the fault is the first by the grammar and its limits
abbrev pub IsSyntaxFault : ℕ → List Mark → SyntaxFault → Type 0
IsSyntaxFault n marks (syntax_faults.Text place) = TextEndsAt (IsSentence n) limit_in marks place
IsSyntaxFault n marks (syntax_faults.Limit what place) = LimitStandsAt (IsSentence n) limit_in never marks what place

-- the names of the longest expression that stands there are known, it means the tree, and the lexer goes past it
pub record IsExprRead (n : ℕ) (names : Names) (old new : Cursor) (tree : Tree) : Type 0 where
  pub form : Form
  pub stands : Stands n form (marks_left old) (marks_left new)
  pub known : faults_in names form ≡ []
  pub means : tree ≡ tree_in names form

-- the longest expression that stands there has this first fault of names
pub record HasFirstFault (n : ℕ) (names : Names) (marks : List Mark) (fault : NameFault) : Type 0 where
  pub form : Form
  pub rest : List Mark
  pub stands : Stands n form marks rest
  pub first : IsFirstFault names form fault

-- the fault is the first of the names, or memory ran out
abbrev pub IsExprFault : ℕ → Names → List Mark → ExprFault → Type 0
IsExprFault n names marks (faults.Unknown place) = HasFirstFault n names marks (UnknownAt place)
IsExprFault n names marks (faults.Twice place) = HasFirstFault n names marks (TwiceAt place)
IsExprFault n names marks faults.OutOfMemory = Unit {0}

-- each of the nodes that is a left one is a left one of the rule
abbrev pub HasLeftNodes : List Node → Rule → Type 0
HasLeftNodes nodes rule = (x : ℕ) (node : Node) → slice_get nodes x ≡ Some node → IsTrue (is_some node.left) → IsTrue (has_word rule Left x)

-- in each rule with the parameters and left nodes the numbers of the tree are in range
abbrev pub IsInRangeOf : Schema → List Param → List Node → Tree → Type 0
IsInRangeOf schema params nodes tree = (rule : Rule) → rule.params ≡ params → HasLeftNodes nodes rule → IsTreeInRange schema rule tree

-- ---- by states

abbrev pub run_in : ℕ → Spot → ℕ → List Mark → Result Spot (Stop Spot LimitKind)
run_in n spot last marks = run limit_in never (spot_role n) spot_move spot last marks

-- the lexer goes on over marks that lead from the one spot to the other
pub record Reads (n : ℕ) (spot : Spot) (old new : Cursor) (to : Spot) : Type 0 where
  pub before : List Mark
  pub split : marks_left old ≡ before ++ marks_left new
  pub runs : (last : ℕ) → run_in n spot last before ≡ Ok to
  pub text : new.text ≡ old.text
  pub onward : old.place ≤ new.place
  pub over : GoesOverTokens old new

-- what is left can't go on from the spot
pub record EndsBefore (spot : Spot) (marks : List Mark) : Type 0 where
  pub next : Mark
  pub others : List Mark
  pub split : marks ≡ next ∷ others
  pub none : spot_move spot next.symbol ≡ None

-- the lexer goes over a whole expression, up to where it can't go on
pub record SkipsExpr (n : ℕ) (old new : Cursor) : Type 0 where
  pub last : Spot
  pub reads : Reads n first_spot old new last
  pub whole : IsTrue (is_whole_spot last)
  pub ends : EndsBefore last (marks_left new)

-- with a mark no expression goes on at a spot where none can end
pub record EndsIn (n : ℕ) (spot : Spot) (old : Cursor) (place : ℕ) : Type 0 where
  pub stop : Spot
  pub mark : Mark
  pub part : is_whole_spot stop ≡ false
  pub here : mark.place ≡ place
  pub ends : (last : ℕ) → run_in n spot last (marks_left old) ≡ Err (Ends stop mark)

-- from the spot on the fault is the first
abbrev pub Stops : ℕ → Spot → Cursor → SyntaxFault → Type 0
Stops n spot old (syntax_faults.Text place) = EndsIn n spot old place
Stops n spot old (syntax_faults.Limit what place) = (last : ℕ) → run_in n spot last (marks_left old) ≡ Err (Passes what place)

-- After a refusal the state stays where what stands next can't follow. Where it can and passes a limit, the state is the one after it.
abbrev pub LeavesState : Cursor → State → State → SyntaxFault → Type 0
LeavesState cursor old new (syntax_faults.Text place) = new ≡ old
LeavesState cursor old new (syntax_faults.Limit what place) = (next : Mark) × (others : List Mark) × (marks_left cursor ≡ next ∷ others) × (move old next.symbol ≡ Some new)

-- one token further, to this state; or the expression ends, and nothing has changed
abbrev pub Advances : ℕ → Spot → Cursor → Option Token → State → Cursor → Type 0
Advances n spot old (Some token) state new =
    Reads n spot old new (spot_at (spot.count + 1) state) × (old.place < new.place) × (new.place ≤ length new.text) × (spot.count < 256) × (length state.open_brackets ≤ spot.count + 1) × IsNext old token new
Advances n spot old None state new = (state ≡ spot.state) × (new ≡ old) × IsTrue (is_whole_spot spot) × EndsBefore spot (marks_left old)
