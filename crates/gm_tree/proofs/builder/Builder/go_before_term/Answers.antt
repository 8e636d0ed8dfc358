use Rattle.std.proofs.Common.{ℕ, sym, ap, ◌∙◌, List}
use Rattle.std.specs.Option.{option_map}
use Rattle.gm_model.specs.Tokens.{bytes_of}
use Rattle.gm_tree.specs.inner.Building.{frames_of, name_fault, term_in}
use Rattle.gm_tree.specs.inner.FirstNames.{first_names}
use Rattle.gm_tree.proofs.LookUp.{before_name}
use Rattle.gm_tree.proofs.builder.Builder.go_before_term.Goals as goal

pub returns-in-Name : goal.returns-in-Name
returns-in-Name c =
    let frames = frames_of c.args.self.now.waiting.items in
    let least = option_map name_fault c.args.self.now.least in
    let names = first_names c.args.env.now.schema.now c.args.env.now.params.now c.args.env.now.nodes.now in
    c.begin_term.ensures ∙ ap (λ (w : List ℕ). term_in names frames least c.args.lead w c.args.token.now.start) c.text.ensures
    ∙ sym (before_name frames least c.args.key c.args.token.now.kind (bytes_of c.args.lexer.now.text c.args.token.now) c.args.token.now.start c.requires.key names c.args.lead c.in-Name.is)
