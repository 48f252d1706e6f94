use Rattle.mad_page_skin_laws.proofs.PageMarkLemmas.{dark_marks, light_marks, plain_marks, sixteen_marks}
use Rattle.mad_page_skin_laws.proofs.page_marks_are_shown.Goals as goal

pub returns : goal.returns
returns c = record { dark = dark_marks; light = light_marks; sixteen = sixteen_marks; plain = plain_marks }
