use Rattle.gm_forms.proofs.Behind.{keeps_in_at}
use Rattle.gm_forms.proofs.reader.Reader.past_value.Goals as goal

pub returns-in-Value-clause-past : goal.returns-in-Value-clause-past
returns-in-Value-clause-past c last = rw c.in-Value.is (c.past_set_value.ensures.past c.args.self.now.nodes last)

pub returns-in-Pre-clause-past : goal.returns-in-Pre-clause-past
returns-in-Pre-clause-past c last = rw c.in-Pre.is (c.past_pre_value.ensures.past c.args.self.now.nodes last)

pub returns-in-Value-clause-text : goal.returns-in-Value-clause-text
returns-in-Value-clause-text c = c.past_set_value.ensures.text

pub returns-in-Value-clause-onward : goal.returns-in-Value-clause-onward
returns-in-Value-clause-onward c = c.past_set_value.ensures.onward

pub returns-in-Value-clause-outside : goal.returns-in-Value-clause-outside
returns-in-Value-clause-outside c = c.past_set_value.ensures.outside

pub returns-in-Value-clause-within : goal.returns-in-Value-clause-within
returns-in-Value-clause-within c = keeps_in_at c.args.lexer.now.text c.args.self.now.draft c.past_set_value.result c.past_set_value.new.draft c.in-Value.is c.past_set_value.ensures.within

pub returns-in-Pre-clause-text : goal.returns-in-Pre-clause-text
returns-in-Pre-clause-text c = c.past_pre_value.ensures.text

pub returns-in-Pre-clause-onward : goal.returns-in-Pre-clause-onward
returns-in-Pre-clause-onward c = c.past_pre_value.ensures.onward

pub returns-in-Pre-clause-outside : goal.returns-in-Pre-clause-outside
returns-in-Pre-clause-outside c = c.past_pre_value.ensures.outside

pub returns-in-Pre-clause-within : goal.returns-in-Pre-clause-within
returns-in-Pre-clause-within c = keeps_in_at c.args.lexer.now.text c.args.self.now.draft c.past_pre_value.result c.past_pre_value.new.draft c.in-Pre.is c.past_pre_value.ensures.within
