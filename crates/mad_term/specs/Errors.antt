-- The exact texts of errors.
use Rattle.std.specs.Prelude.{ℕ, List, ◌++◌, Option, Some, None, codes, decimal}
use Rattle.mad_term.specs.declared.errors.Error.{Error}
use Rattle.mad_term.specs.declared.errors.Error.TheVariants.{IO, InsufficientWidth, Memory}
use Rattle.mad_term.specs.declared.errors.InsufficientWidthError.{InsufficientWidthError}

-- what a refused width is shown as
abbrev pub width_error_text : InsufficientWidthError → List ℕ
width_error_text e = codes "Insufficient available width (" ++ decimal e.available_width ++ codes ")"

-- what an error is shown as; what a device's own error is shown as is not known here
abbrev pub error_text : Error → Option (List ℕ)
error_text (IO e) = None
error_text (InsufficientWidth e) = Some (codes "InsufficientWidth: " ++ width_error_text e)
error_text Memory = Some (codes "want of memory")
