use Rattle.gm_mapfile.proofs.Joined.{if_err, if_ok_both}
use Rattle.gm_mapfile.proofs.MapReadings.{draft_listed, fault_first}
use Rattle.gm_mapfile.proofs.reading.read_text.Goals as goal

pub returns-clause-draft : goal.returns-clause-draft
returns-clause-draft c =
    if_ok_both c.read_all.result (λ draft schema reads. draft_listed c.args.bytes.now draft.stated draft.schema draft.numbers.items draft.values.items schema reads) c.read_all.ensures.schema c.read_all.ensures.reads

pub returns-clause-fault : goal.returns-clause-fault
returns-clause-fault c = if_err c.read_all.result (λ fault stops. fault_first c.args.bytes.now fault stops) c.read_all.ensures.stops
