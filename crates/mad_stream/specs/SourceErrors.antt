-- What writing a source refuses by.
use Rattle.std.specs.Prelude.{ℕ, List, Option, Some, None, codes}
use Rattle.mad_term.specs.declared.errors.Error.{Error}
use Rattle.mad_term.specs.declared.errors.Error.TheVariants as writing
use Rattle.mad_stream.specs.declared.source_error.SourceError.{SourceError}
use Rattle.mad_stream.specs.declared.source_error.SourceError.TheVariants.{Source, Device, NotUtf8, Memory}

-- what an error is shown as; what a device's own error is shown as is not known here
abbrev pub source_error_text : SourceError → Option (List ℕ)
source_error_text (Source e) = None
source_error_text (Device e) = None
source_error_text NotUtf8 = Some (codes "not UTF-8")
source_error_text Memory = Some (codes "out of memory")

-- what a refused writing of rows is told as; rows are never refused for their width
abbrev pub refusal_of : Error → SourceError
refusal_of (writing.IO e) = Device e
refusal_of (writing.InsufficientWidth e) = Memory
refusal_of writing.Memory = Memory
