use Rattle.std.proofs.Common.{◌≡◌, List, ℕ, ℤ, pos, min, sym, ap, ◌∙◌, arith, w64, to_z, of_z}
use Rattle.std.proofs.lemmas.Int.{ints, to_z-of_z}
use Rattle.gm_model.specs.Tokens.{bytes_of}
use Rattle.gm_model.specs.declared.token.TokenKind.{TokenKind}
use Rattle.gm_model.specs.Symbols.{symbol_of_kind, value_of}
use Rattle.gm_model.specs.Trees.{Number}
use Rattle.gm_parse.specs.declared.key.Key.{Key}
use Rattle.gm_parse.specs.declared.key.Key.TheVariants as keys
use Rattle.gm_parse.specs.Meaning.{Names}
use Rattle.gm_parse.specs.inner.Reading.{key_of}
use Rattle.gm_parse.specs.Spelling.{greatest}
use Rattle.gm_tree.specs.inner.Building.{Name, Value, begin_part, named_at}
use Rattle.gm_tree.specs.inner.FirstNames.{first_names}
use Rattle.gm_parse.proofs.Keys.{kind_of_number}
use Rattle.gm_tree.proofs.LookUp.{begin_name, number_of_token}
use Rattle.gm_tree.proofs.taking.begin_operand.Goals as goal

small : (n : ℕ) → to_z w64 (of_z w64 (pos (min n greatest))) ≡ pos (min n greatest)
small n = to_z-of_z w64 (pos (min n greatest)) (omega (arith, ints))

begin_number : (names : Names) (key : Key) (kind : TokenKind) (bytes : List ℕ) (place : ℕ) (read : ℤ) → key ≡ keys.Number → key ≡ key_of (symbol_of_kind kind bytes) → read ≡ pos (min (value_of bytes) greatest)
    → Value (Number (to_z w64 (of_z w64 read))) ≡ begin_part names key (record { symbol = symbol_of_kind kind bytes; place = place })
begin_number names key kind bytes place read number is done =
    rw (number, done) (ap (λ (z : ℤ). Value (Number z)) (small (value_of bytes)) ∙ ap (λ (n : ℕ). Value (Number (pos (min n greatest)))) (sym (number_of_token kind bytes (sym number ∙ is))))

pub returns-in-Name : goal.returns-in-Name
returns-in-Name c =
    let names = first_names c.args.env.now.schema.now c.args.env.now.params.now c.args.env.now.nodes.now in
    ap Name (c.look_up.ensures ∙ ap (λ (w : List ℕ). named_at names w c.args.token.now.start) c.text.ensures)
    ∙ sym (begin_name names c.args.key c.args.token.now.kind (bytes_of c.args.lexer.now.text c.args.token.now) c.args.token.now.start c.in-Name.is c.requires.key)

pub number_at-requires-clause-kind : goal.number_at-requires-clause-kind
number_at-requires-clause-kind c = kind_of_number c.args.token.now.kind (bytes_of c.args.lexer.now.text c.args.token.now) (sym c.requires.key ∙ c.in-Number.is)

pub returns-in-Number : goal.returns-in-Number
returns-in-Number c =
    begin_number (first_names c.args.env.now.schema.now c.args.env.now.params.now c.args.env.now.nodes.now) c.args.key c.args.token.now.kind (bytes_of c.args.lexer.now.text c.args.token.now) c.args.token.now.start
    c.number_at.result c.in-Number.is c.requires.key c.number_at.ensures
