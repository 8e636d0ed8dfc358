use Rattle.gm_model.specs.Names.{IsName}
use Rattle.gm_model.proofs.Padded.{copied-padded, take-copied}
use Rattle.gm_model.proofs.name.Name.new.Goals as goal

pub invariant_of-result : goal.invariant_of-result
invariant_of-result c =
    let name : IsName c.args.bytes.now = (c.if-bytes-gt-MOST_NAME_BYTES.false, c.is_name_token.ensures.0 c.if-not-is_name_token.false) in
    (copied-padded 32 0 _ _ c.copy_from_slice.ensures.after name.0, rw (take-copied _ _ _ c.copy_from_slice.ensures.after) name)
