use Rattle.std.proofs.Common.{ℕ, sym, ap, ◌∙◌}
use Rattle.std.specs.Option.{option_map}
use Rattle.gm_model.specs.Tokens.{bytes_of}
use Rattle.gm_tree.specs.inner.Building.{frames_of, name_fault, labelled}
use Rattle.gm_parse.proofs.Keys.{kind_of_number}
use Rattle.gm_tree.proofs.LookUp.{orbit_number}
use Rattle.gm_tree.proofs.builder.Builder.go_in_orbit.Goals as goal

pub returns-in-Number : goal.returns-in-Number
returns-in-Number c =
    let frames = frames_of c.args.self.now.waiting.items in
    let least = option_map name_fault c.args.self.now.least in
    c.label.ensures ∙ ap (λ (k : ℕ). labelled frames least c.args.head c.args.mask k c.args.token.now.start) c.label_at.ensures
    ∙ sym (orbit_number frames least c.args.key c.args.token.now.kind (bytes_of c.args.lexer.now.text c.args.token.now) c.args.token.now.start c.requires.key c.args.head c.args.mask c.in-Number.is)

pub label_at-requires-clause-kind : goal.label_at-requires-clause-kind
label_at-requires-clause-kind c = kind_of_number c.args.token.now.kind (bytes_of c.args.lexer.now.text c.args.token.now) (sym c.requires.key ∙ c.in-Number.is)
