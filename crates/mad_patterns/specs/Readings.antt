-- What a text is read as that is to be sought.
use Rattle.std.specs.Prelude.{◌≡◌, ℕ, Bool, true, false, not, List, [], ◌∷◌, Option, Some, None, codes}
use Rattle.regex.specs.Patterns.{Re, Config, default_config}
use Rattle.regex.specs.Failures.{IsRightKind}
use Rattle.regex.specs.Sources.{IsRefusal}
use Rattle.regex.specs.Strings.{IsReadFromSource, regex_config, regex_pattern, regex_source}
use Rattle.regex.specs.declared.error.Error.{Error}
use Rattle.regex.specs.declared.error.Error.TheVariants.{Syntax, OutOfMemory}
use Rattle.regex.specs.declared.string.regex.Regex.{Regex}
use Rattle.regex_syntax.specs.declared.error.ErrorKind.{ErrorKind}
use Rattle.regex_syntax.specs.declared.error.ErrorKind.TheVariants as kind
use Rattle.mad_patterns.specs.Capitals.{has_capital}
use Rattle.mad_patterns.specs.declared.faults.Fault.{Fault}
use Rattle.mad_patterns.specs.declared.faults.Fault.TheVariants as fault
use Rattle.mad_patterns.specs.declared.readings.Sought.{Sought}
use Rattle.mad_patterns.specs.declared.readings.Sought.TheVariants.{Nothing, Pattern, Refused}

-- ---- a regular expression

-- the options that a text is read under: it stands for any case, where it has no capital
abbrev pub options : List ℕ → Config
options text = record default_config { flags = record default_config.flags { case_insensitive = not (has_capital text) } }

-- A text is read as this: it is what the kit reads in the text under those options.
pub record IsReadAs (text : List ℕ) (re : Re) : Type 0 where
  pub regex : Regex
  pub pattern : regex_pattern regex ≡ re
  pub source : regex_source regex ≡ text
  pub under : regex_config regex ≡ options text
  pub read : IsReadFromSource regex

-- ---- a text that is none

-- what is said of a text that the kit refuses by an error of this kind
abbrev pub fault_of_kind : ErrorKind → Fault
fault_of_kind kind.GroupUnclosed = fault.UnclosedGroup
fault_of_kind kind.GroupUnopened = fault.UnopenedGroup
fault_of_kind kind.ClassUnclosed = fault.UnclosedClass
fault_of_kind kind.ClassRangeInvalid = fault.WrongRange
fault_of_kind kind.ClassRangeLiteral = fault.WrongRange
fault_of_kind kind.RepetitionMissing = fault.NothingRepeated
fault_of_kind kind.DecimalInvalid = fault.WrongCount
fault_of_kind kind.RepetitionCountDecimalEmpty = fault.WrongCount
fault_of_kind kind.RepetitionCountInvalid = fault.WrongCount
fault_of_kind kind.RepetitionCountUnclosed = fault.WrongCount
fault_of_kind kind.ClassEscapeInvalid = fault.WrongBackslash
fault_of_kind kind.EscapeHexEmpty = fault.WrongBackslash
fault_of_kind kind.EscapeHexInvalid = fault.WrongBackslash
fault_of_kind kind.EscapeHexInvalidDigit = fault.WrongBackslash
fault_of_kind kind.EscapeUnexpectedEof = fault.WrongBackslash
fault_of_kind kind.EscapeUnrecognized = fault.WrongBackslash
fault_of_kind kind.UnsupportedBackreference = fault.WrongBackslash
fault_of_kind kind.SpecialWordBoundaryUnclosed = fault.WrongBackslash
fault_of_kind kind.SpecialWordBoundaryUnrecognized = fault.WrongBackslash
fault_of_kind kind.SpecialWordOrRepetitionUnexpectedEof = fault.WrongBackslash
fault_of_kind kind.UnicodeClassInvalid = fault.UnknownClass
fault_of_kind kind.UnicodePropertyNotFound = fault.UnknownClass
fault_of_kind kind.UnicodePropertyValueNotFound = fault.UnknownClass
fault_of_kind kind.FlagDanglingNegation = fault.WrongGroup
fault_of_kind kind.FlagDuplicate = fault.WrongGroup
fault_of_kind kind.FlagRepeatedNegation = fault.WrongGroup
fault_of_kind kind.FlagUnexpectedEof = fault.WrongGroup
fault_of_kind kind.FlagUnrecognized = fault.WrongGroup
fault_of_kind kind.GroupNameDuplicate = fault.WrongGroup
fault_of_kind kind.GroupNameEmpty = fault.WrongGroup
fault_of_kind kind.GroupNameInvalid = fault.WrongGroup
fault_of_kind kind.GroupNameUnexpectedEof = fault.WrongGroup
fault_of_kind kind.UnsupportedLookAround = fault.LooksAround
fault_of_kind kind.CaptureLimitExceeded = fault.TooLarge
fault_of_kind kind.NestLimitExceeded = fault.TooLarge
fault_of_kind kind.InvalidUtf8 = fault.NoPattern
fault_of_kind kind.UnicodeNotAllowed = fault.NoPattern
fault_of_kind kind.OutOfMemory = fault.NoPattern

-- the same by its error; what isn't wrong is too large
abbrev pub fault_of : Error → Fault
fault_of (Syntax e) = fault_of_kind e.kind
fault_of error = fault.TooLarge

-- the words of it
abbrev pub fault_words : Fault → List ℕ
fault_words fault.UnclosedGroup = codes "unclosed ("
fault_words fault.UnopenedGroup = codes "unopened )"
fault_words fault.UnclosedClass = codes "unclosed ["
fault_words fault.WrongRange = codes "no such range"
fault_words fault.NothingRepeated = codes "nothing to repeat"
fault_words fault.WrongCount = codes "no such count"
fault_words fault.WrongBackslash = codes "no such \\"
fault_words fault.UnknownClass = codes "no such class"
fault_words fault.WrongGroup = codes "no such (?"
fault_words fault.LooksAround = codes "no looking around"
fault_words fault.TooLarge = codes "too large"
fault_words fault.NoPattern = codes "no pattern"

-- an error is out of memory
abbrev pub is_of_memory : Error → Bool
is_of_memory OutOfMemory = true
is_of_memory error = false

-- This is said of a text: the kit refuses it under those options, by an error of the right kind that isn't out of memory. A text that is too large is one
-- that the grammar reads, and one that is wrong has an error of syntax that the grammar allows.
pub record IsRefusedBy (text : List ℕ) (fault : Fault) : Type 0 where
  pub error : Error
  pub refusal : IsRefusal (options text) text error
  pub right : IsRightKind (options text) text error
  pub other : is_of_memory error ≡ false
  pub said : fault ≡ fault_of error

-- ---- what is sought

-- what is sought, if anything is, and why it isn't, where a text is no regular expression
pub record Reading : Type 0 where
  pub pattern : Option Re
  pub fault : Option Fault

-- nothing is sought
abbrev pub nothing_read : Reading
nothing_read = record { pattern = None; fault = None }

-- that of what was read
abbrev pub reading_of : Sought → Reading
reading_of Nothing = nothing_read
reading_of (Pattern regex) = record { pattern = Some (regex_pattern regex); fault = None }
reading_of (Refused fault) = record { pattern = None; fault = Some fault }

-- this says an error that isn't out of memory
pub record IsSaidOf (error : Error) (sought : Sought) : Type 0 where
  pub other : is_of_memory error ≡ false
  pub said : reading_of sought ≡ record { pattern = None; fault = Some (fault_of error) }

-- some text is read as a regular expression, or refused
abbrev pub IsReadOrRefused : List ℕ → Option Re → Option Fault → Type 0
IsReadOrRefused text (Some re) (Some fault) = ⊥
IsReadOrRefused text (Some re) None = IsReadAs text re
IsReadOrRefused text None (Some fault) = IsRefusedBy text fault
IsReadOrRefused text None None = ⊥

-- a text is read so; an empty one as nothing
abbrev pub IsReadingOf : List ℕ → Reading → Type 0
IsReadingOf [] reading = reading ≡ nothing_read
IsReadingOf (c ∷ cs) reading = IsReadOrRefused (c ∷ cs) reading.pattern reading.fault
