use Rattle.termimad_command.proofs.SayLemmas.{fault_told, mistake_said, refusal_said}
use Rattle.termimad_command.specs.declared.refusals.Refusal.TheVariants.{Lacking, Misplaced, NotUtf8, Memory}
use Rattle.termimad_command.proofs.refusals.say_refusal.Goals as goal

pub returns-in-Mistaken : goal.returns-in-Mistaken
returns-in-Mistaken g c = mistake_said _ c.in-Mistaken.text _ _ _ c.in-Mistaken.is c.deref.ensures c.say.ensures

pub returns-in-Lacking : goal.returns-in-Lacking
returns-in-Lacking g c = refusal_said _ Lacking _ _ c.in-Lacking.is c.say-in-Lacking.ensures

pub returns-in-Misplaced : goal.returns-in-Misplaced
returns-in-Misplaced g c = refusal_said _ Misplaced _ _ c.in-Misplaced.is c.say-in-Misplaced.ensures

pub returns-in-FaultySkin : goal.returns-in-FaultySkin
returns-in-FaultySkin g c = fault_told _ c.in-FaultySkin.line _ _ _ c.in-FaultySkin.is c.deref-in-FaultySkin.ensures c.say-in-FaultySkin.ensures

pub returns-in-Memory : goal.returns-in-Memory
returns-in-Memory g c = refusal_said _ Memory _ _ c.in-Memory.is c.say-in-Memory.ensures

pub returns-in-NotUtf8 : goal.returns-in-NotUtf8
returns-in-NotUtf8 g c = refusal_said _ NotUtf8 _ _ c.in-NotUtf8.is c.say-in-NotUtf8.ensures
