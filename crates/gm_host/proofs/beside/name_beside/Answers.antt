use Rattle.std.proofs.Common.{◌∙◌, ap, ◌++◌, ◌∷◌, decimal}
use Rattle.std.proofs.lemmas.Fmt.{contents_after_writes}
use Rattle.gm_host.proofs.beside.name_beside.Goals as goal

pub returns : goal.returns
returns c =
    contents_after_writes _ (λ text. text.bytes) (λ text bytes later took. took) _ _ _ c.in_ok-write.ensures.writes
    ∙ ap (λ front. front ++ (c.args.name.now ++ 46 ∷ decimal c.args.number)) c.new-beside.ensures
