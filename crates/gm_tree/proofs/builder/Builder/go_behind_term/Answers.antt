use Rattle.std.proofs.Common.{◌≡◌, ℕ, min, sym, ap, ◌∙◌, List, [], ◌∷◌, ◌++◌}
use Rattle.std.specs.Prelude.{Result, Ok, Err, IfOk}
use Rattle.std.specs.Option.{option_map}
use Rattle.gm_model.specs.Symbols.{value_of}
use Rattle.gm_model.specs.Tokens.{bytes_of}
use Rattle.gm_tree.specs.inner.Building.{BehindTerm, Part, field_in, frames_of, name_fault, part_of, work}
use Rattle.gm_tree.specs.inner.FirstNames.{first_names}
use Rattle.gm_parse.proofs.Keys.{kind_of_number}
use Rattle.gm_tree.proofs.LookUp.{behind_embed, behind_number}
use Rattle.gm_tree.proofs.builder.Builder.go_behind_term.Goals as goal

where_ok : {T E : Type 0} {P Q : T → Type 0} (r : Result T E) → ((x : T) → P x → Q x) → IfOk r P → IfOk r Q
where_ok (Ok x) goes p = goes x p
where_ok (Err e) goes p = tt

pub returns-in-Number : goal.returns-in-Number
returns-in-Number c =
    let frames = frames_of c.args.self.now.waiting.items in
    let least = option_map name_fault c.args.self.now.least in
    let names = first_names c.args.env.now.schema.now c.args.env.now.params.now c.args.env.now.nodes.now in
    let bytes = bytes_of c.args.lexer.now.text c.args.token.now in
    let along : ℕ → Part = λ label. BehindTerm c.args.lead (record c.args.term { path = c.args.term.path ++ label ∷ [] }) in
    let same : work frames least (along c.label_at.result) ≡ work frames least (along (min (value_of bytes) 7)) = ap (λ (label : ℕ). work frames least (along label)) c.label_at.ensures in
    where_ok {P = λ partial. part_of partial ≡ along c.label_at.result} c.go_along_behind.result
    (λ partial is. ap (work frames least) is ∙ same ∙ sym (behind_number frames least c.args.key c.args.token.now.kind bytes c.args.token.now.start c.requires.key names c.args.lead c.args.term c.in-Number.is))
    c.go_along_behind.ensures

pub returns-in-Name : goal.returns-in-Name
returns-in-Name c =
    let frames = frames_of c.args.self.now.waiting.items in
    let least = option_map name_fault c.args.self.now.least in
    let names = first_names c.args.env.now.schema.now c.args.env.now.params.now c.args.env.now.nodes.now in
    c.field.ensures ∙ ap (λ (w : List ℕ). field_in names frames least c.args.lead c.args.term w c.args.token.now.start) c.text.ensures
    ∙ sym (behind_embed frames least c.args.key c.args.token.now.kind (bytes_of c.args.lexer.now.text c.args.token.now) c.args.token.now.start c.requires.key names c.args.lead c.args.term c.in-Name.is)

pub label_at-requires-clause-kind : goal.label_at-requires-clause-kind
label_at-requires-clause-kind c = kind_of_number c.args.token.now.kind (bytes_of c.args.lexer.now.text c.args.token.now) (sym c.requires.key ∙ c.in-Number.is)
