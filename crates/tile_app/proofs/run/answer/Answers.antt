use Rattle.tile_app.proofs.run.answer.Goals as goal

-- the answer is whole
pub write_answer-requires : goal.write_answer-requires
write_answer-requires g c = let h = c.in-Ok.ensures.printed in record { whole = (h.2.0, h.2.2) }
