use Rattle.std.proofs.Common.{ap, ◌∙◌}
use Rattle.std.specs.List.{position, position_or_len}
use Rattle.std.specs.Option.{unwrap_or}
use Rattle.std.specs.Str.{bytes_eq}
use Rattle.gm_forms.specs.declared.key.NameKey.{NameKey}
use Rattle.gm_forms.specs.inner.Held.{names_at}
use Rattle.gm_forms.proofs.HeldNames.{same_bytes, numbered, place_or_count}
use Rattle.gm_book.proofs.table.number.Goals as goal

pub returns : goal.returns
returns c =
    let keys = c.args.names.now.keys in
    let key : NameKey = record { bytes = c.bytes_in-bytes.result } in
    c.unwrap_or.ensures
    ∙ (ap (λ found. unwrap_or found c.len.result) c.get_index_of-number.ensures.index
    ∙ (ap (unwrap_or (position (same_bytes key) keys)) c.len.ensures.len
    ∙ (place_or_count (same_bytes key) keys
    ∙ (numbered keys key ∙ ap (λ name. position_or_len (bytes_eq name) (names_at keys)) c.bytes_in-bytes.ensures))))
