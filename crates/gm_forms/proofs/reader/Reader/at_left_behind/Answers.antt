use Rattle.std.proofs.Common.{[], rules, ◌≡◌, Bool, true, false, codes, refl, ap, ◌∙◌, map}
use Rattle.std.specs.Option.{option_map}
use Rattle.std.specs.Str.{bytes_eq}
use Rattle.gm_model.specs.declared.rule.Side.TheVariants.{Left}
use Rattle.gm_model.specs.Tokens.{bytes_of}
use Rattle.gm_forms.specs.BookText.{NodeItem}
use Rattle.gm_forms.specs.inner.Forms.{rule_form_of, mention_of}
use Rattle.gm_forms.specs.inner.Reading.{with_item, takes_hook, is_hook_on}
use Rattle.gm_forms.specs.inner.Standing.{rules_of, current_of}
use Rattle.gm_forms.proofs.Behind.{also_in, behind_moves, hook_moves}
use Rattle.gm_model.proofs.Exits.{unless_ok}
use Rattle.gm_forms.proofs.Stops.{memory_wanting}
use Rattle.gm_forms.proofs.reader.Reader.at_left_behind.Goals as goal

pub returns-then-hook-clause-moves : goal.returns-then-hook-clause-moves
returns-then-hook-clause-moves c last =
    let text = c.args.lexer.now.text in
    let old = c.args.self.now.draft in
    let hook : bytes_eq (bytes_of text c.args.token) (codes "hook") ≡ true = search rules in
    let takes : takes_hook c.args.spot.heading.version c.args.spot.hooked ≡ true = search rules in
    let listed = c.in_ok-put_node.ensures.current text ∙ ap (λ (b : Bool). option_map (with_item Left (NodeItem (mention_of text c.args.name) c.args.word b [])) (current_of text old)) c.if-hook.true in
    hook_moves text c.args.self.now.nodes old c.put_node.new.self c.args.spot c.args.name c.args.word _ c.args.token.start
    (ap (λ rs. map (rule_form_of text) rs.items) c.in_ok-put_node.ensures.rules) listed c.requires.side hook takes last

pub returns-clause-moves : goal.returns-clause-moves
returns-clause-moves c =
    let text = c.args.lexer.now.text in
    let old = c.args.self.now.draft in
    let put = c.put_node.new.self in
    let nodes = c.args.self.now.nodes in
    let plain : is_hook_on Left (takes_hook c.args.spot.heading.version c.args.spot.hooked) (bytes_of text c.args.token) ≡ false = search rules in
    let listed = c.in_ok-put_node.ensures.current text ∙ ap (λ (b : Bool). option_map (with_item Left (NodeItem (mention_of text c.args.name) c.args.word b [])) (current_of text old)) c.if-hook.false in
    behind_moves text nodes old put c.args.spot c.args.name c.args.word (bytes_of text c.args.token) c.args.token.start c.at_left_item.result nodes put
    (ap (λ rs. map (rule_form_of text) rs.items) c.in_ok-put_node.ensures.rules) (rw c.requires.side listed) (rw c.requires.side plain) (rw c.requires.side refl)
    (λ last. c.at_left_item.ensures.leads nodes (rules_of text put) (current_of text put) last)

pub returns-in_err-put_node-clause-moves : goal.returns-in_err-put_node-clause-moves
returns-in_err-put_node-clause-moves c last = memory_wanting _ c.from_residual.result _ c.from_residual.ensures.1

pub returns-in_err-put_node-clause-within : goal.returns-in_err-put_node-clause-within
returns-in_err-put_node-clause-within c state_in draft_in = unless_ok _ c.from_residual.result c.from_residual.ensures.0

pub returns-then-hook-clause-within : goal.returns-then-hook-clause-within
returns-then-hook-clause-within c state_in draft_in = (tt, c.in_ok-put_node.ensures.within c.args.lexer.now.text state_in draft_in)

pub returns-clause-within : goal.returns-clause-within
returns-clause-within c state_in draft_in = let text = c.args.lexer.now.text in also_in text c.put_node.new.self c.at_left_item.result (c.at_left_item.ensures.within tt) (c.in_ok-put_node.ensures.within text state_in draft_in)
