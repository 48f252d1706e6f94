-- The exact texts of what a present refuses by.
use Rattle.std.specs.Prelude.{◌≡◌, ℕ, Bool, true, false, List, Option, Some, None, codes}
use Rattle.mad_term.specs.declared.errors.Error as drawing
use Rattle.mad_term.specs.declared.errors.Error.TheVariants as errors
use Rattle.mad_screen.specs.declared.reader.NotPlain as reading
use Rattle.mad_screen.specs.declared.reader.NotPlain.TheVariants as not_plain
use Rattle.mad_frames.specs.declared.errors.PresentError.{PresentError}
use Rattle.mad_frames.specs.declared.errors.PresentError.TheVariants.{IO, Undefined, Memory}

-- what it is shown as; what a device's own error is shown as is not known here
abbrev pub present_error_text : PresentError → Option (List ℕ)
present_error_text (IO e) = None
present_error_text Undefined = Some (codes "not plain terminal output")
present_error_text Memory = Some (codes "want of memory")

-- what refuses a reading, as what refuses a present
abbrev pub present_error_of : reading.NotPlain → PresentError
present_error_of not_plain.Undefined = Undefined
present_error_of not_plain.Memory = Memory

-- a device's error
abbrev pub is_io : drawing.Error → Bool
is_io (errors.IO e) = true
is_io _ = false

-- What refuses a present, as what refuses a drawing. Where there is no drawing of that kind, it is a device's error.
abbrev pub IsErrorOf : PresentError → drawing.Error → Type 0
IsErrorOf (IO e) r = r ≡ errors.IO e
IsErrorOf Undefined r = is_io r ≡ true
IsErrorOf Memory r = r ≡ errors.Memory
