use Rattle.std.proofs.Common.{◌≢◌, ℕ, refl, sym, subst, ◌∙◌}
use Rattle.gm_tool.specs.Tool.{words_of, EndsAs}
use Rattle.gmr.specs.inner.Seen.{seen_of}
use Rattle.gmr.proofs.run_over_files.Goals as goal

pub returns-clause-ends : goal.returns-clause-ends
returns-clause-ends g c = subst (EndsAs (words_of c.args.words.now) (seen_of c.args.store.now) (seen_of c.tool.new.store)) (sym c.from.ensures) c.tool.ensures.ends

pub returns-clause-one_put : goal.returns-clause-one_put
returns-clause-one_put g c = c.tool.ensures.one_put

pub returns-clause-put : goal.returns-clause-put
returns-clause-put g c other = c.tool.ensures.put (subst (λ (n : ℕ). n ≢ 7) c.from.ensures other)

pub returns-clause-put_failed : goal.returns-clause-put_failed
returns-clause-put_failed g c six = c.tool.ensures.put_failed (sym c.from.ensures ∙ six)

pub returns-clause-no_put_failed : goal.returns-clause-no_put_failed
returns-clause-no_put_failed g c other = c.tool.ensures.no_put_failed (subst (λ (n : ℕ). n ≢ 6) c.from.ensures other)

pub returns-clause-none_put : goal.returns-clause-none_put
returns-clause-none_put g c seven = c.tool.ensures.none_put refl (sym c.from.ensures ∙ seven)
