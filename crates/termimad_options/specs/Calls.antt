-- What the words of a call ask for.
use Rattle.std.specs.Prelude.{◌≡◌, ◌⊎◌, ◌&&◌, ◌-◌, ℕ, nat_lt, Bool, false, List, [], map, option_map, option_and_then, is_some, unwrap_or, slice_get, length, Option, Some, None, codes, if◌then◌else◌}
use Rattle.std.specs.Char.{digit_value}
use Rattle.std.specs.List.{list_all}
use Rattle.std.specs.Option.{option_map_or}
use Rattle.std.specs.Str.{bytes_eq}
use Rattle.std.specs.Str.Parse.{digits_value, without_leading_plus}
use Rattle.clap.specs.Words.{HasKind, Kinds, Row, Text, all_of, fault_of, first_of, found_of, kind_of, matches_of, rows_of, takes}
use Rattle.clap.specs.declared.parser.matches.ArgMatches.{ArgMatches}
use Rattle.clap.specs.declared.error.Error.{Error}
use Rattle.clap.specs.declared.error.kind.ErrorKind.{ErrorKind}
use Rattle.clap.specs.declared.error.kind.ErrorKind.TheVariants.{DisplayHelp, DisplayVersion, InvalidValue, OutOfMemory}
use Rattle.termimad_options.specs.Rules.{termimad_rules}
use Rattle.termimad_options.specs.declared.calls.Call.{Call}
use Rattle.termimad_options.specs.declared.calls.Grammar.{Grammar}
use Rattle.termimad_options.specs.declared.calls.Grammar.TheVariants.{Markdown, Lines, Plain, Code}
use Rattle.termimad_options.specs.declared.calls.Links.{Links}
use Rattle.termimad_options.specs.declared.calls.Links.TheVariants.{Auto, Always, Never}

-- the last value of an option, if it has one
abbrev pub last_said : Text → List Row → Option Text
last_said id rows = option_and_then (λ values. slice_get values (length values - 1)) (all_of id rows)

-- an option without a value was there
abbrev pub is_said : Text → List Row → Bool
is_said id rows = option_map_or (λ text. bytes_eq text (codes "true")) (first_of id rows) false

-- so many columns: the number below 65,536 that digits write, a plus sign before them or none
abbrev pub columns_written : Text → Option ℕ
columns_written text =
    let digits = without_leading_plus text in
    if nat_lt 0 (length digits) && list_all (λ digit. nat_lt (digit_value digit) 10) digits && nat_lt (digits_value 10 digits) 65536
    then Some (digits_value 10 digits) else None

-- how a text is read: as people write Markdown, in the smaller grammar line by line, as no Markdown, or as code in the language of a word
pub data Reading : Type 0 where
  as_markdown by_lines as_plain : Reading
  as_code : Text → Reading

-- a language before all else, then that texts aren't Markdown, then the smaller grammar
abbrev pub reading_by : Option Text → Bool → Bool → Option Reading
reading_by (Some language) is_plain has_lines = Some (as_code language)
reading_by None is_plain has_lines = if is_plain then Some as_plain else if has_lines then Some by_lines else None

-- how the options say that texts are read, if they do
abbrev pub reading_said : List Row → Option Reading
reading_said rows = reading_by (last_said (codes "code") rows) (is_said (codes "plain") rows) (is_said (codes "lines") rows)

-- what a grammar says
abbrev pub reading_of : Grammar → Reading
reading_of Markdown = as_markdown
reading_of Lines = by_lines
reading_of Plain = as_plain
reading_of (Code language) = as_code language.now

-- when it is written where links lead, by the name of that
abbrev pub links_named : Text → Option Links
links_named name =
    if bytes_eq name (codes "auto") then Some Auto
    else if bytes_eq name (codes "always") then Some Always
    else if bytes_eq name (codes "never") then Some Never
    else None

-- when the options say that it is written where links lead; nothing where they say another word
abbrev pub links_said : List Row → Option Links
links_said rows = option_map_or links_named (last_said (codes "links") rows) (Some Auto)

-- The options ask for this call: each option's last value, and whether those without a value are there.
pub record IsAskedBy (rows : List Row) (call : Call) : Type 0 where
  pub files : map (λ file. file.now) call.files.items ≡ unwrap_or (all_of (codes "FILE") rows) []
  pub width : call.width ≡ option_and_then columns_written (last_said (codes "width") rows)
  pub skin : option_map (λ text. text.now) call.skin ≡ last_said (codes "skin") rows
  pub grammar : option_map reading_of call.grammar ≡ reading_said rows
  pub links : Some call.links ≡ links_said rows
  pub streams : call.streams ≡ is_said (codes "stream") rows
  pub lives : call.lives ≡ is_said (codes "live") rows
  pub writes : call.writes ≡ is_said (codes "no-pager") rows
  pub fits : call.fits ≡ is_said (codes "fits") rows

-- words ask for this call: their matches by the options that there are do
abbrev pub IsCallOf : List Text → Call → Type 0
IsCallOf words call = IsAskedBy (matches_of termimad_rules words) call

-- words are options that there are, each with a value that it takes
abbrev pub is_call : List Text → Bool
is_call words = takes termimad_rules words && is_some (links_said (matches_of termimad_rules words))

-- the kinds of mistakes that words have as options; none, where they are options that there are
abbrev pub mistakes_of : List Text → Kinds
mistakes_of words = fault_of termimad_rules words

-- words that are options say another word of links
abbrev pub AreOtherLinks : List Text → Type 0
AreOtherLinks words = (mistakes_of words ≡ []) × (links_said (matches_of termimad_rules words) ≡ None)

-- the error is of a mistake that the words have, or of a wrong word for links; or memory ran out
abbrev pub IsErrorOf : List Text → Error → Type 0
IsErrorOf words e = HasKind (mistakes_of words) e ⊎ ((kind_of e ≡ InvalidValue) × AreOtherLinks words)

-- the error is of another word of links in these matches; or memory ran out
abbrev pub IsErrorIn : ArgMatches → Error → Type 0
IsErrorIn matches e = (kind_of e ≡ OutOfMemory) ⊎ ((kind_of e ≡ InvalidValue) × (links_said (rows_of (found_of matches)) ≡ None))

-- the kind is of an answer, help or the version, and no mistake
abbrev pub IsAnswer : ErrorKind → Type 0
IsAnswer kind = (kind ≡ DisplayHelp) ⊎ (kind ≡ DisplayVersion)
