use Rattle.std.proofs.Common.{refl}
use Rattle.gm_forms.proofs.Behind.{stays_keeps_at}
use Rattle.gm_forms.specs.inner.Standing.{rules_of, current_of}
use Rattle.gm_forms.proofs.reader.Reader.step.Goals as goal

pub returns-in-Gone-clause-within : goal.returns-in-Gone-clause-within
returns-in-Gone-clause-within c = stays_keeps_at c.args.lexer.now.text c.args.self.now.draft c.gone.result refl (c.gone.ensures.within c.args.lexer.now.text)

pub returns-in-Name-clause-moves : goal.returns-in-Name-clause-moves
returns-in-Name-clause-moves c = rw c.in-Name.is (c.word.ensures.moves c.args.last)

pub returns-in-Name-clause-within : goal.returns-in-Name-clause-within
returns-in-Name-clause-within c = c.word.ensures.within

pub returns-in-Number-clause-moves : goal.returns-in-Number-clause-moves
returns-in-Number-clause-moves c = rw c.in-Number.is (c.at_number.ensures.leads c.args.self.now.nodes (rules_of c.args.lexer.now.text c.args.self.now.draft) (current_of c.args.lexer.now.text c.args.self.now.draft) c.args.last)

pub returns-in-Number-clause-within : goal.returns-in-Number-clause-within
returns-in-Number-clause-within c = stays_keeps_at c.args.lexer.now.text c.args.self.now.draft c.at_number.result refl c.at_number.ensures.within

pub returns-in-Gone-clause-moves : goal.returns-in-Gone-clause-moves
returns-in-Gone-clause-moves c = rw c.in-Gone.is (c.gone.ensures.leads c.args.lexer.now.text c.args.self.now.nodes (rules_of c.args.lexer.now.text c.args.self.now.draft) (current_of c.args.lexer.now.text c.args.self.now.draft) c.args.last)

pub returns-in-Sign-clause-moves : goal.returns-in-Sign-clause-moves
returns-in-Sign-clause-moves c = rw c.in-Sign.is c.sign.ensures.moves

pub returns-in-Sign-clause-within : goal.returns-in-Sign-clause-within
returns-in-Sign-clause-within c = c.sign.ensures.within
