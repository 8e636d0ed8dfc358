use Rattle.gm_forms.specs.inner.Standing.{word_mark}
use Rattle.gm_forms.proofs.Behind.{moves_at, stays_at, keeps_in_at, stays_keeps_at}
use Rattle.gm_forms.proofs.Stops.{word_stops}
use Rattle.gm_forms.proofs.reader.Reader.word.Goals as goal

pub returns-in-Rules-clause-moves : goal.returns-in-Rules-clause-moves
returns-in-Rules-clause-moves c = stays_at c.args.lexer.now.text c.args.self.now.nodes c.args.self.now.draft (word_mark c.args.lexer.now.text c.args.token) c.at_rules.result c.in-Rules.is c.at_rules.ensures.leads

pub returns-in-Rules-clause-within : goal.returns-in-Rules-clause-within
returns-in-Rules-clause-within c = stays_keeps_at c.args.lexer.now.text c.args.self.now.draft c.at_rules.result c.in-Rules.is c.at_rules.ensures.within

pub returns-in-Name-clause-moves : goal.returns-in-Name-clause-moves
returns-in-Name-clause-moves c = moves_at c.args.lexer.now.text c.args.self.now.nodes c.args.self.now.draft (word_mark c.args.lexer.now.text c.args.token) c.at_name.result c.at_name.new.self.nodes c.at_name.new.self.draft c.in-Name.is c.at_name.ensures.moves

pub returns-in-Name-clause-within : goal.returns-in-Name-clause-within
returns-in-Name-clause-within c = keeps_in_at c.args.lexer.now.text c.args.self.now.draft c.at_name.result c.at_name.new.self.draft c.in-Name.is c.at_name.ensures.within

pub returns-in-Left-clause-moves : goal.returns-in-Left-clause-moves
returns-in-Left-clause-moves c = moves_at c.args.lexer.now.text c.args.self.now.nodes c.args.self.now.draft (word_mark c.args.lexer.now.text c.args.token) c.at_left.result c.at_left.new.self.nodes c.at_left.new.self.draft c.in-Left.is c.at_left.ensures.moves

pub returns-in-Left-clause-within : goal.returns-in-Left-clause-within
returns-in-Left-clause-within c = keeps_in_at c.args.lexer.now.text c.args.self.now.draft c.at_left.result c.at_left.new.self.draft c.in-Left.is c.at_left.ensures.within

pub returns-in-Item-clause-moves : goal.returns-in-Item-clause-moves
returns-in-Item-clause-moves c = moves_at c.args.lexer.now.text c.args.self.now.nodes c.args.self.now.draft (word_mark c.args.lexer.now.text c.args.token) c.at_item.result c.at_item.new.self.nodes c.at_item.new.self.draft c.in-Item.is c.at_item.ensures.moves

pub returns-in-Item-clause-within : goal.returns-in-Item-clause-within
returns-in-Item-clause-within c = keeps_in_at c.args.lexer.now.text c.args.self.now.draft c.at_item.result c.at_item.new.self.draft c.in-Item.is c.at_item.ensures.within

pub returns-in-Behind-clause-moves : goal.returns-in-Behind-clause-moves
returns-in-Behind-clause-moves c = moves_at c.args.lexer.now.text c.args.self.now.nodes c.args.self.now.draft (word_mark c.args.lexer.now.text c.args.token) c.at_behind.result c.at_behind.new.self.nodes c.at_behind.new.self.draft c.in-Behind.is c.at_behind.ensures.moves

pub returns-in-Behind-clause-within : goal.returns-in-Behind-clause-within
returns-in-Behind-clause-within c = keeps_in_at c.args.lexer.now.text c.args.self.now.draft c.at_behind.result c.at_behind.new.self.draft c.in-Behind.is c.at_behind.ensures.within

pub returns-in-To-clause-moves : goal.returns-in-To-clause-moves
returns-in-To-clause-moves c = moves_at c.args.lexer.now.text c.args.self.now.nodes c.args.self.now.draft (word_mark c.args.lexer.now.text c.args.token) c.at_to.result c.at_to.new.self.nodes c.at_to.new.self.draft c.in-To.is c.at_to.ensures.moves

pub returns-in-To-clause-within : goal.returns-in-To-clause-within
returns-in-To-clause-within c = keeps_in_at c.args.lexer.now.text c.args.self.now.draft c.at_to.result c.at_to.new.self.draft c.in-To.is c.at_to.ensures.within

pub returns-in-Param-clause-moves : goal.returns-in-Param-clause-moves
returns-in-Param-clause-moves c = stays_at c.args.lexer.now.text c.args.self.now.nodes c.args.self.now.draft (word_mark c.args.lexer.now.text c.args.token) c.at_param.result c.in-Param.is c.at_param.ensures.leads

pub returns-in-Param-clause-within : goal.returns-in-Param-clause-within
returns-in-Param-clause-within c = stays_keeps_at c.args.lexer.now.text c.args.self.now.draft c.at_param.result c.in-Param.is c.at_param.ensures.within

pub returns-in-Kind-clause-moves : goal.returns-in-Kind-clause-moves
returns-in-Kind-clause-moves c = moves_at c.args.lexer.now.text c.args.self.now.nodes c.args.self.now.draft (word_mark c.args.lexer.now.text c.args.token) c.at_kind.result c.args.self.now.nodes c.at_kind.new.draft c.in-Kind.is (c.at_kind.ensures.moves c.args.self.now.nodes)

pub returns-in-Kind-clause-within : goal.returns-in-Kind-clause-within
returns-in-Kind-clause-within c = keeps_in_at c.args.lexer.now.text c.args.self.now.draft c.at_kind.result c.at_kind.new.draft c.in-Kind.is c.at_kind.ensures.within

pub returns-in-Body-clause-moves : goal.returns-in-Body-clause-moves
returns-in-Body-clause-moves c = moves_at c.args.lexer.now.text c.args.self.now.nodes c.args.self.now.draft (word_mark c.args.lexer.now.text c.args.token) c.at_left-in-Body.result c.at_left-in-Body.new.self.nodes c.at_left-in-Body.new.self.draft c.in-Body.is c.at_left-in-Body.ensures.body_moves

pub returns-in-Body-clause-within : goal.returns-in-Body-clause-within
returns-in-Body-clause-within c = keeps_in_at c.args.lexer.now.text c.args.self.now.draft c.at_left-in-Body.result c.at_left-in-Body.new.self.draft c.in-Body.is c.at_left-in-Body.ensures.body_within

pub returns-in-Assigned-clause-moves : goal.returns-in-Assigned-clause-moves
returns-in-Assigned-clause-moves c = moves_at c.args.lexer.now.text c.args.self.now.nodes c.args.self.now.draft (word_mark c.args.lexer.now.text c.args.token) c.at_assigned.result c.at_assigned.new.self.nodes c.at_assigned.new.self.draft c.in-Assigned.is c.at_assigned.ensures.moves

pub returns-in-Assigned-clause-within : goal.returns-in-Assigned-clause-within
returns-in-Assigned-clause-within c = keeps_in_at c.args.lexer.now.text c.args.self.now.draft c.at_assigned.result c.at_assigned.new.self.draft c.in-Assigned.is c.at_assigned.ensures.within

pub returns-in-Set-clause-moves : goal.returns-in-Set-clause-moves
returns-in-Set-clause-moves c = stays_at c.args.lexer.now.text c.args.self.now.nodes c.args.self.now.draft (word_mark c.args.lexer.now.text c.args.token) c.at_set.result c.in-Set.is c.at_set.ensures.leads

pub returns-in-Set-clause-within : goal.returns-in-Set-clause-within
returns-in-Set-clause-within c = stays_keeps_at c.args.lexer.now.text c.args.self.now.draft c.at_set.result c.in-Set.is c.at_set.ensures.within

pub returns-in-RuleEnd-clause-moves : goal.returns-in-RuleEnd-clause-moves
returns-in-RuleEnd-clause-moves c = moves_at c.args.lexer.now.text c.args.self.now.nodes c.args.self.now.draft (word_mark c.args.lexer.now.text c.args.token) c.at_rule_end.result c.at_rule_end.new.self.nodes c.at_rule_end.new.self.draft c.in-RuleEnd.is c.at_rule_end.ensures.moves

pub returns-in-RuleEnd-clause-within : goal.returns-in-RuleEnd-clause-within
returns-in-RuleEnd-clause-within c = keeps_in_at c.args.lexer.now.text c.args.self.now.draft c.at_rule_end.result c.at_rule_end.new.self.draft c.in-RuleEnd.is c.at_rule_end.ensures.within

pub returns-in_default-clause-moves : goal.returns-in_default-clause-moves
returns-in_default-clause-moves c = word_stops c.args.lexer.now.text c.args.self.now.nodes c.args.self.now.draft c.args.token c.args.state c.requires.outside c.in_default.not-Rules c.in_default.not-Name c.in_default.not-Left c.in_default.not-Param c.in_default.not-Kind c.in_default.not-Body c.in_default.not-Item c.in_default.not-Behind c.in_default.not-Assigned c.in_default.not-Set c.in_default.not-RuleEnd c.in_default.not-To

pub returns-in_default-clause-within : goal.returns-in_default-clause-within
returns-in_default-clause-within c state_in draft_in = tt
