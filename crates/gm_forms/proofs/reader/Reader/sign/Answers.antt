use Rattle.gm_forms.specs.inner.Standing.{sign_mark, rules_of, current_of}
use Rattle.gm_forms.proofs.Behind.{moves_from, stays_at, stays_keeps_at}
use Rattle.gm_forms.proofs.Stops.{sign_stops}
use Rattle.gm_forms.proofs.reader.Reader.sign.Goals as goal

pub returns-in-Left-clause-moves : goal.returns-in-Left-clause-moves
returns-in-Left-clause-moves c = stays_at c.args.lexer.now.text c.args.self.now.nodes c.args.self.now.draft (sign_mark c.args.lexer.now.text c.args.token) c.at_open.result c.in-Left.is c.at_open.ensures.leads c.args.last

pub returns-in-Left-clause-within : goal.returns-in-Left-clause-within
returns-in-Left-clause-within c = stays_keeps_at c.args.lexer.now.text c.args.self.now.draft c.at_open.result c.in-Left.is c.at_open.ensures.within

pub returns-in-Letter-clause-moves : goal.returns-in-Letter-clause-moves
returns-in-Letter-clause-moves c = stays_at c.args.lexer.now.text c.args.self.now.nodes c.args.self.now.draft (sign_mark c.args.lexer.now.text c.args.token) c.at_word_end.result c.in-Letter.is c.at_word_end.ensures.leads c.args.last

pub returns-in-Letter-clause-within : goal.returns-in-Letter-clause-within
returns-in-Letter-clause-within c = stays_keeps_at c.args.lexer.now.text c.args.self.now.draft c.at_word_end.result c.in-Letter.is c.at_word_end.ensures.within

pub returns-in-Dash-clause-moves : goal.returns-in-Dash-clause-moves
returns-in-Dash-clause-moves c = stays_at c.args.lexer.now.text c.args.self.now.nodes c.args.self.now.draft (sign_mark c.args.lexer.now.text c.args.token) c.at_dash.result c.in-Dash.is c.at_dash.ensures.leads c.args.last

pub returns-in-Dash-clause-within : goal.returns-in-Dash-clause-within
returns-in-Dash-clause-within c = stays_keeps_at c.args.lexer.now.text c.args.self.now.draft c.at_dash.result c.in-Dash.is c.at_dash.ensures.within

pub returns-in-Sign-clause-within : goal.returns-in-Sign-clause-within
returns-in-Sign-clause-within c = stays_keeps_at c.args.lexer.now.text c.args.self.now.draft c.at_sign.result c.in-Sign.is c.at_sign.ensures.within

pub returns-in-Sign-clause-moves : goal.returns-in-Sign-clause-moves
returns-in-Sign-clause-moves c =
    let draft = c.args.self.now.draft in
    let text = c.args.lexer.now.text in
    moves_from c.args.last c.args.lexer.now.text c.args.self.now.nodes c.args.self.now.draft (sign_mark c.args.lexer.now.text c.args.token) c.at_sign.result c.at_sign.new.nodes draft c.in-Sign.is (c.at_sign.ensures.leads (rules_of text draft) (current_of text draft))

pub returns-in-Colon-clause-moves : goal.returns-in-Colon-clause-moves
returns-in-Colon-clause-moves c = stays_at c.args.lexer.now.text c.args.self.now.nodes c.args.self.now.draft (sign_mark c.args.lexer.now.text c.args.token) c.at_colon.result c.in-Colon.is c.at_colon.ensures.leads c.args.last

pub returns-in-Colon-clause-within : goal.returns-in-Colon-clause-within
returns-in-Colon-clause-within c = stays_keeps_at c.args.lexer.now.text c.args.self.now.draft c.at_colon.result c.in-Colon.is c.at_colon.ensures.within

pub returns-in-Comma-clause-moves : goal.returns-in-Comma-clause-moves
returns-in-Comma-clause-moves c = stays_at c.args.lexer.now.text c.args.self.now.nodes c.args.self.now.draft (sign_mark c.args.lexer.now.text c.args.token) c.at_comma.result c.in-Comma.is c.at_comma.ensures.leads c.args.last

pub returns-in-Comma-clause-within : goal.returns-in-Comma-clause-within
returns-in-Comma-clause-within c = stays_keeps_at c.args.lexer.now.text c.args.self.now.draft c.at_comma.result c.in-Comma.is c.at_comma.ensures.within

pub returns-in-Equal-clause-moves : goal.returns-in-Equal-clause-moves
returns-in-Equal-clause-moves c = stays_at c.args.lexer.now.text c.args.self.now.nodes c.args.self.now.draft (sign_mark c.args.lexer.now.text c.args.token) c.at_equal.result c.in-Equal.is c.at_equal.ensures.leads c.args.last

pub returns-in-Equal-clause-within : goal.returns-in-Equal-clause-within
returns-in-Equal-clause-within c = stays_keeps_at c.args.lexer.now.text c.args.self.now.draft c.at_equal.result c.in-Equal.is c.at_equal.ensures.within

pub returns-in_default-clause-moves : goal.returns-in_default-clause-moves
returns-in_default-clause-moves c = sign_stops c.args.lexer.now.text c.args.self.now.nodes c.args.self.now.draft c.args.token c.args.state c.requires.outside c.in_default.not-Left c.in_default.not-Colon c.in_default.not-Comma c.in_default.not-Sign c.in_default.not-Letter c.in_default.not-Equal c.in_default.not-Dash c.args.last

pub returns-in_default-clause-within : goal.returns-in_default-clause-within
returns-in_default-clause-within c state_in draft_in = tt
