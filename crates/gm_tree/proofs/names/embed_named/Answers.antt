use Rattle.std.proofs.Common.{List, take, bytes_eq, ap, ◌∙◌}
use Rattle.std.specs.List.{position}
use Rattle.gm_model.specs.declared.schema.Embed.{Embed}
use Rattle.gm_tree.proofs.LookUp.{position-first}
use Rattle.gm_tree.proofs.names.embed_named.Goals as goal

pub returns : goal.returns
returns c =
    c.byte_of.ensures ∙ c.embed_index.ensures.value
    ∙ ap (λ (es : List Embed). position (λ (e : Embed). bytes_eq c.args.name.now e.name) es) (c.first_ones-embeds.ensures.value ∙ ap (take 256) c.as_slice.ensures)
    ∙ position-first (λ (e : Embed). e.name) (bytes_eq c.args.name.now) c.args.env.now.schema.now.embeds
