use Rattle.mad_fitting.proofs.InsideLemmas.{inside_more, inside_none, inside_one}
use Rattle.mad_fitting.proofs.parts.inside.Goals as goal

pub returns-in_default : goal.returns-in_default
returns-in_default c = inside_none c.args.text.now c.in_default.ensures

pub returns-in-Some-last_char : goal.returns-in-Some-last_char
returns-in-Some-last_char c = inside_more c.args.text.now c.in-Some.others.now _ _ _ c.utf8.text c.in-Some.ensures.1 c.in-Some-last_char.ensures.0 c.in-Some-last_char.ensures.1 c.in-Some.ensures.0

pub returns-in-None : goal.returns-in-None
returns-in-None c = inside_one c.args.text.now c.in-Some.others.now _ c.utf8.text c.in-Some.ensures.1 c.in-None.ensures
