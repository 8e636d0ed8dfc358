use Rattle.std.proofs.Common.{refl}
use Rattle.gm_expr.specs.inner.Writable.{names_of}
use Rattle.gm_expr.proofs.CanonicalRead.{short_read, again_read, all_known}
use Rattle.gm_expr.proofs.ReadWritable.{read_writable}
use Rattle.gm_expr.proofs.laws.what_is_printed_is_read_again.Goals as goal

pub returns-clause-written : goal.returns-clause-written
returns-clause-written c n schema rule tree top good writable few =
    short_read schema.embeds rule.params rule.nodes good n top tree writable (names_of schema.embeds rule.params rule.nodes) refl refl refl few

pub returns-clause-read : goal.returns-clause-read
returns-clause-read c n schema rule old new tree top good read =
    let names = names_of schema.embeds rule.params rule.nodes in
    let writable = read_writable schema.embeds rule.params rule.nodes n names refl refl refl old new tree read in
    again_read schema.embeds rule.params rule.nodes good n top tree writable names refl refl refl old new read

pub returns-clause-names : goal.returns-clause-names
returns-clause-names c = all_known
