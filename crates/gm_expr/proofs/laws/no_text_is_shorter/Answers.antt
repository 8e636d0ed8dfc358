use Rattle.std.proofs.Common.{refl}
use Rattle.gm_expr.specs.inner.Writable.{names_of}
use Rattle.gm_expr.proofs.NoShorter.{no_shorter}
use Rattle.gm_expr.proofs.ReadWritable.{read_writable}
use Rattle.gm_expr.proofs.laws.no_text_is_shorter.Goals as goal

pub returns : goal.returns
returns c n schema rule old new tree top good read =
    let names = names_of schema.embeds rule.params rule.nodes in
    no_shorter schema rule n top good tree (read_writable schema.embeds rule.params rule.nodes n names refl refl refl old new tree read) names old new read
