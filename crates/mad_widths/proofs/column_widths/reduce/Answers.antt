use Rattle.mad_widths.proofs.column_widths.reduce.Goals as goal

pub first_step-requires-clause-turns : goal.first_step-requires-clause-turns
first_step-requires-clause-turns c = rw (c.deref.ensures.value, ← c.requires.naturals) c.in_ok-turns.ensures

pub second_step-requires-clause-turns : goal.second_step-requires-clause-turns
second_step-requires-clause-turns c = rw (c.deref-2.ensures.value, ← c.requires.naturals) c.in_ok-turns.ensures
