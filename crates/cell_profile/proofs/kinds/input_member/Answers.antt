use Rattle.cell_profile.proofs.kinds.input_member.Goals as goal

pub returns : goal.returns
returns c = c.choice_member.ensures
