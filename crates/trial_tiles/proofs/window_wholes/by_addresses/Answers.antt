use Rattle.trial_tiles.proofs.window_wholes.by_addresses.Goals as goal

pub glued-requires-clause-stand : goal.glued-requires-clause-stand
glued-requires-clause-stand c = c.in-Ok.ensures.stand
