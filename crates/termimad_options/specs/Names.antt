-- How a text is read by its file's name.
use Rattle.std.specs.Prelude.{◌-◌, ◌||◌, Bool, length, drop, Option, is_some, unwrap_or, codes, if◌then◌else◌}
use Rattle.std.specs.Str.{bytes_eq}
use Rattle.clap.specs.Words.{Text}
use Rattle.code_names.specs.Names.{language_of}
use Rattle.code_words.specs.Words.{language_word, names_language}
use Rattle.termimad_options.specs.Calls.{Reading, as_code, as_markdown, as_plain}

-- the name ends with this
abbrev pub ends_with : Text → Text → Bool
ends_with name ending = bytes_eq (drop (length name - length ending) name) ending

-- text that isn't Markdown: .txt, .log
abbrev pub is_plain_name : Text → Bool
is_plain_name name = ends_with name (codes ".txt") || ends_with name (codes ".log")

-- how a file is read by its name: as code, if that is of a language, or else as no Markdown, or as Markdown
abbrev pub reading_by_name : Text → Reading
reading_by_name name = if names_language name then as_code name else if is_plain_name name then as_plain else as_markdown

-- how a file is read: as an option says, or else by its name
abbrev pub reading_of_file : Option Reading → Text → Reading
reading_of_file said name = unwrap_or said (reading_by_name name)

-- a word of --code is understood: it says that there is no language, or names one, or a file of one
abbrev pub is_understood : Text → Bool
is_understood word = bytes_eq word (codes "text") || bytes_eq word (codes "plain") || is_some (language_of (language_word word))
