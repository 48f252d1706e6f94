-- How a run ends that fails while its text comes.
use Rattle.mad_stream.specs.declared.SourceError.{SourceError}
use Rattle.mad_stream.specs.declared.SourceError.TheVariants as source_error
use Rattle.termimad_words.specs.declared.failure.Failure.{Failure}
use Rattle.termimad_words.specs.declared.failure.Failure.TheVariants.{Io, NotUtf8, Memory}

-- what makes of a run that a source wasn't written whole
abbrev pub streamed_failure : SourceError → Failure
streamed_failure (source_error.Source e) = Io
streamed_failure (source_error.Device e) = Io
streamed_failure source_error.NotUtf8 = NotUtf8
streamed_failure source_error.Memory = Memory
