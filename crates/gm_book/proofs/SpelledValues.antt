-- The tokens of the canonical form of an expression: they spell it, each with the place of its mark, and their symbols stand in its canonical text.
use Rattle.std.proofs.Common.{◌≡◌, ℕ, ◌+◌, ◌≤◌, List, [], ◌∷◌, ◌++◌, map, refl, sym, ap, ◌∙◌}
use Rattle.std.specs.List.{AllByRecursion}
use Rattle.gm_model.specs.declared.rule.Param.{Param}
use Rattle.gm_model.specs.declared.schema.Embed.{Embed}
use Rattle.gm_model.specs.Reading.{Part, symbols_in}
use Rattle.gm_model.specs.Rules.{RuleNode}
use Rattle.gm_model.specs.Symbols.{Symbol, Mark}
use Rattle.gm_model.specs.Trees.{Tree}
use Rattle.gm_text.proofs.Printed.{symbols_from}
use Rattle.gm_parse.specs.Spelling.{Role, Fixed, Counted, counted_from, parts_of, spell, IsPlacedAt}
use Rattle.gm_expr.specs.ExprText.{tree_text}
use Rattle.gm_expr.proofs.Canonical.{behind, place_in}
use Rattle.gm_expr.proofs.Canonical as trees
use Rattle.gm_expr.proofs.CanonicalPlaces.{tree_holds}
use Rattle.gm_expr.proofs.CanonicalSymbols.{IsBehind, tree_symbols}
use Rattle.gm_expr.proofs.SpelledBefore.{spell_before}
use Rattle.gm_expr.specs.inner.Writable.{AreGoodNames, IsWritable}
use Rattle.gm_forms.specs.BookText.{ExprToken, IsTokenPlaced, part_of}
use Rattle.gm_book.proofs.CanonicalForm.{tokens_from}

abbrev Parts : Type 0
Parts = List (Part Role)

-- ---- tokens

abbrev pub token_symbols : List ExprToken → List Symbol
token_symbols tokens = map (λ (token : ExprToken). token.symbol) tokens

tokens_counted : (k : ℕ) (marks : List Mark) (parts : Parts) → token_symbols (tokens_from marks (counted_from k parts)) ≡ symbols_in parts
tokens_counted k marks [] = refl
tokens_counted k marks (part ∷ parts) = ap (λ (ss : List Symbol). part.symbol ∷ ss) (tokens_counted (k + 1) (behind marks) parts)

pub tokens_spell : (marks : List Mark) (parts : List (Part Counted)) → map part_of (tokens_from marks parts) ≡ parts
tokens_spell marks [] = refl
tokens_spell marks (part ∷ parts) = ap (λ (ps : List (Part Counted)). part ∷ ps) (tokens_spell (behind marks) parts)

-- each part has its place, also where no mark is left
abbrev AreFilled : List Mark → Parts → Type 0
AreFilled marks [] = Unit {0}
AreFilled marks (part ∷ parts) = IsPlacedAt (place_in marks) part.role × AreFilled (behind marks) parts

filled_tokens : (k : ℕ) (marks : List Mark) (parts : Parts) → AreFilled marks parts → AllByRecursion IsTokenPlaced (tokens_from marks (counted_from k parts))
filled_tokens k marks [] filled = tt
filled_tokens k marks (part ∷ parts) filled = (filled.0, filled_tokens (k + 1) (behind marks) parts filled.1)

-- what stands behind as parts of an expression
abbrev others : List Symbol → Parts
others symbols = map (λ (symbol : Symbol). let p : Part Role = record { symbol = symbol; role = Fixed } in p) symbols

other_symbols : (symbols : List Symbol) → symbols_in (others symbols) ≡ symbols
other_symbols [] = refl
other_symbols (symbol ∷ symbols) = ap (λ (ss : List Symbol). symbol ∷ ss) (other_symbols symbols)

symbols_append : (front rest : Parts) → symbols_in (front ++ rest) ≡ symbols_in front ++ symbols_in rest
symbols_append [] rest = refl
symbols_append (part ∷ front) rest = ap (λ (ss : List Symbol). part.symbol ∷ ss) (symbols_append front rest)

module _ (embeds : List Embed) (params : List Param) (nodes : List RuleNode) (n : ℕ) where
  abbrev tokens_at : List Mark → Tree → List ExprToken
  tokens_at marks tree = tokens_from marks (parts_of n (trees.form_at embeds params nodes marks tree))

  pub value_placed : (marks : List Mark) (tree : Tree) → AllByRecursion IsTokenPlaced (tokens_at marks tree)
  value_placed marks tree = filled_tokens 0 marks _ (tree_holds AreFilled (λ marks part parts here later. (here, later)) n embeds params nodes tree marks [] tt)

  -- the text of an expression, and then what stands behind it
  pub value_symbols : n ≤ 7 → AreGoodNames embeds params nodes → (tree : Tree) → IsWritable embeds params nodes n tree → (marks : List Mark) (more : List ℕ) (symbols : List Symbol) → IsBehind more → symbols_from more ≡ symbols
      → symbols_from (tree_text embeds params nodes tree ++ more) ≡ token_symbols (tokens_at marks tree) ++ symbols
  value_symbols low names tree can marks more symbols stops rest =
      let form = trees.form_at embeds params nodes marks tree in
      tree_symbols embeds params nodes n low names tree can marks more (others symbols) stops (rest ∙ sym (other_symbols symbols))
      ∙ ap symbols_in (spell_before n form [] (others symbols)) ∙ symbols_append (spell n form []) (others symbols)
      ∙ ap (λ (ss : List Symbol). symbols_in (spell n form []) ++ ss) (other_symbols symbols)
      ∙ ap (λ (ss : List Symbol). ss ++ symbols) (sym (tokens_counted 0 marks (spell n form [])))
