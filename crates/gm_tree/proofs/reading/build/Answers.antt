use Rattle.std.proofs.Common.{◌≡◌, ◌≤◌, [], List, Option, None, length, sym, ap, subst, ◌∙◌, arith}
use Rattle.std.specs.Option.{option_map}
use Rattle.gm_model.specs.declared.token.Token.{Token}
use Rattle.gm_text.specs.inner.SchemaAnswers.{mark_at}
use Rattle.gm_parse.specs.declared.key.Key.{Key}
use Rattle.gm_parse.specs.inner.Answers.{Advances}
use Rattle.gm_tree.specs.inner.Building.{Frame, Nothing, Work, work, work_of, frames_of, name_fault, part_of, take_in}
use Rattle.gm_tree.specs.inner.Built.{IsUnderway}
use Rattle.gm_parse.specs.Meaning.{NameFault}
use Rattle.gm_tree.specs.inner.FirstNames.{first_names}
use Rattle.gm_parse.specs.inner.Reading.{State, spot_at, start}
use Rattle.gm_tree.proofs.Underway.{underway_start, underway_on, underway_ends, no_stop}
use Rattle.gm_tree.proofs.reading.build.Goals as goal

pub loop-token-init : goal.loop-token-init
loop-token-init c =
    let n = c.args.env.now.schema.now.dim in
    let names = first_names c.args.env.now.schema.now c.args.env.now.params.now c.args.env.now.nodes.now in
    let frames : frames_of c.new-builder.result.waiting.items ≡ [] = c.new-builder.ensures.waiting in
    let least : option_map name_fault c.new-builder.result.least ≡ None = ap (option_map name_fault) c.new-builder.ensures.least in
    let same : work [] None Nothing ≡ work (frames_of c.new-builder.result.waiting.items) (option_map name_fault c.new-builder.result.least) Nothing =
    ap (λ (fs : List Frame). work fs None Nothing) (sym frames) ∙ ap (λ (l : Option NameFault). work (frames_of c.new-builder.result.waiting.items) l Nothing) (sym least) in
    let state = sym c.new-state.ensures in
    let none : length start.open_brackets ≤ 0 = omega arith in (
      omega arith,
      subst (λ (s : State). length s.open_brackets ≤ 0) state none,
      subst (λ (s : State). IsUnderway n names c.args.lexer.now c.args.lexer.now (spot_at 0 s) (work (frames_of c.new-builder.result.waiting.items) (option_map name_fault c.new-builder.result.least) Nothing)) state
          (subst (λ (w : Work). IsUnderway n names c.args.lexer.now c.args.lexer.now (spot_at 0 start) w) same (underway_start n names c.args.lexer.now)),
    )

pub loop-token-preserved : goal.loop-token-preserved
loop-token-preserved c =
    let n = c.args.env.now.schema.now.dim in
    let names = first_names c.args.env.now.schema.now c.args.env.now.params.now c.args.env.now.nodes.now in
    let l = c.loop-token in
    let advances = subst (λ (found : Option Token). Advances n (spot_at l.count l.state) l.lexer found c.go_on.new.state c.go_on.new.lexer) c.in-Some.is c.go_on.ensures in
    let mark = mark_at c.go_on.new.lexer.text c.in-Some.token in
    let takes = c.in_ok-partial.ensures ∙ ap (λ (k : Key). take_in names (frames_of l.builder.waiting.items) (option_map name_fault l.builder.least) (part_of l.partial) k mark) c.key_at-key.ensures in
    (omega (arith, advances.3), advances.4, underway_on n names c.args.lexer.now l.lexer c.go_on.new.lexer (spot_at l.count l.state) c.go_on.new.state c.in-Some.token (work_of l.builder l.partial) (work_of c.take_in.new.self c.in_ok-partial.partial) l.invariant.2 advances takes)

pub returns-clause-over : goal.returns-clause-over
returns-clause-over c =
    let n = c.args.env.now.schema.now.dim in
    let names = first_names c.args.env.now.schema.now c.args.env.now.params.now c.args.env.now.nodes.now in
    let l = c.loop-token in
    let advances = subst (λ (found : Option Token). Advances n (spot_at l.count l.state) l.lexer found c.go_on.new.state c.go_on.new.lexer) c.in_default.is c.go_on.ensures in
    underway_ends n names c.args.lexer.now l.lexer c.go_on.new.lexer (spot_at l.count l.state) c.go_on.new.state (work_of l.builder l.partial) l.invariant.2 advances

pub go_on-requires-clause-faultless : goal.go_on-requires-clause-faultless
go_on-requires-clause-faultless c fault stops =
    let l = c.loop-token in
    no_stop c.args.env.now.schema.now.dim (first_names c.args.env.now.schema.now c.args.env.now.params.now c.args.env.now.nodes.now) c.args.lexer.now l.lexer (spot_at l.count l.state) fault (work_of l.builder l.partial) l.invariant.2 c.requires stops
