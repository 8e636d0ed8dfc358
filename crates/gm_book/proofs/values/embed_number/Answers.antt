use Rattle.std.proofs.Common.{List, bytes_eq, sym, ap, ◌∙◌}
use Rattle.std.specs.List.{position}
use Rattle.gm_model.specs.declared.schema.Embed.{Embed}
use Rattle.gm_tree.proofs.LookUp.{position-map}
use Rattle.gm_book.proofs.values.embed_number.Goals as goal

pub returns : goal.returns
returns c =
    c.embed_index.ensures.value ∙ ap (λ (es : List Embed). position (λ (e : Embed). bytes_eq c.args.name.now e.name) es) c.as_slice.ensures
    ∙ sym (position-map (λ (e : Embed). e.name) (bytes_eq c.args.name.now) c.args.schema.now.embeds)
