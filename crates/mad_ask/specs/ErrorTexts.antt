-- The exact texts of what asking refuses by.
use Rattle.std.specs.Prelude.{ℕ, List, Option, Some, None, codes}
use Rattle.mad_ask.specs.declared.ask_error.AskError.{AskError}
use Rattle.mad_ask.specs.declared.ask_error.AskError.TheVariants.{IO, EndOfInput, NotUtf8, Memory}

-- what it is shown as; what a device's own error is shown as is not known here
abbrev pub ask_error_text : AskError → Option (List ℕ)
ask_error_text (IO e) = None
ask_error_text EndOfInput = Some (codes "end of input")
ask_error_text NotUtf8 = Some (codes "not UTF-8")
ask_error_text Memory = Some (codes "want of memory")
