-- The exact texts of a screen's refusals.
use Rattle.std.specs.Prelude.{ℕ, List, codes}
use Rattle.mad_screen.specs.declared.reader.NotPlain.{NotPlain}
use Rattle.mad_screen.specs.declared.reader.NotPlain.TheVariants.{Undefined, Memory}

-- what the refusal of a text by the plain terminal is shown as
abbrev pub refused_text : NotPlain → List ℕ
refused_text Undefined = codes "not plain terminal output"
refused_text Memory = codes "want of memory"
