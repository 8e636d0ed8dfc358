use Rattle.gm_forms.proofs.reader.Reader.end_item.Goals as goal

pub returns-in_ok-close-in-Right-clause-within : goal.returns-in_ok-close-in-Right-clause-within
returns-in_ok-close-in-Right-clause-within c text draft_in = (c.in_ok-close-in-Right.ensures.within text draft_in).0
