use Rattle.std.proofs.Common.{◌≡◌, ℕ, ◌<◌, get_or}
use Rattle.gm_model.specs.declared.schema.Embed.{Embed}
use Rattle.gm_tool.proofs.running.same_embeds.Given as goal

-- the first embeddings are the same
abbrev pub invariant-loop-at : goal.invariant-loop-at
invariant-loop-at l = (k : ℕ) (d : Embed) → k < l.at → get_or l.embeds k d ≡ get_or l.others k d
