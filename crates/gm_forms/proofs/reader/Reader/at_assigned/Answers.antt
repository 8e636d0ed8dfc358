use Rattle.std.proofs.Common.{rules, ◌≡◌, false, codes}
use Rattle.std.specs.Str.{bytes_eq}
use Rattle.gm_model.specs.Tokens.{bytes_of}
use Rattle.gm_forms.proofs.Behind.{assigned_moves}
use Rattle.gm_forms.proofs.reader.Reader.at_assigned.Goals as goal

pub returns-clause-moves : goal.returns-clause-moves
returns-clause-moves c =
    let text = c.args.lexer.now.text in
    let other : bytes_eq (bytes_of text c.args.token) (codes "with") ≡ false = search rules in
    assigned_moves text c.args.self.now.nodes c.args.self.now.draft c.args.spot c.on_right-2.result (bytes_of text c.args.token) c.args.token.start c.at_right_item.result c.at_right_item.new.self.nodes c.at_right_item.new.self.draft
    c.on_right-2.ensures other c.at_right_item.ensures.moves
