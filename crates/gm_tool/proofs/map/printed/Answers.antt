use Rattle.std.proofs.Common.{subst, sym, ℕ, List}
use Rattle.gm_mapfile.specs.inner.Rows.{listed_of}
use Rattle.gm_mapfile.specs.MapText.{canonical}
use Rattle.gm_tool.specs.Answer.{IsOutput, Show, Shown}
use Rattle.gm_tool.proofs.Judging.{output_judged}
use Rattle.gm_tool.proofs.map.printed.Goals as goal

pub returns-clause-judged : goal.returns-clause-judged
returns-clause-judged g c bytes stands =
    let output : IsOutput bytes Show 0 (canonical c.args.version (listed_of c.args.arena.now)) = Shown c.args.version (listed_of c.args.arena.now) stands in
    output_judged bytes Show 0 c.in_ok-text.text.items c.reply_within_limit.result (subst (λ (t : List ℕ). IsOutput bytes Show 0 t) (sym c.in_ok-text.ensures.text) output) c.reply_within_limit.ensures
