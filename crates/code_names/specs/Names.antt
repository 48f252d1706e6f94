-- The names of languages, and the language that is named behind a fence.
use Rattle.std.specs.Prelude.{ℕ, ◌==◌, ◌||◌, ◌&&◌, Bool, true, false, List, [], ◌∷◌, Option, Some, None, codes, if◌then◌else◌}
use Rattle.std.specs.Borrow.{Bor}
use Rattle.std.specs.Char.{to_ascii_lowercase}
use Rattle.code_tables.specs.declared.rules.Language.{Language}
use Rattle.code_tables.specs.declared.rules.Language.TheVariants.{Sh, Console, Python, Pycon, Rust, Javascript, Typescript, Json, Yaml, Toml, Ini, Diff, Xml, Html, Css, C, Cpp, Java, Csharp, Kotlin, Swift, Go, Protobuf, Php, Ruby, Perl, Lua, Sql, Make, Dockerfile, Cmake, Lisp, Haskell}

-- a name of a language
pub record LanguageName : Type 0 where
  pub name : List ℕ
  pub language : Language

abbrev pub name : List ℕ → Language → LanguageName
name word language = record { name = word; language = language }

-- the one that an entry of the code's list says
abbrev pub name_of : Bor (List ℕ) × Language → LanguageName
name_of row = name row.0.now row.1

-- the byte stands in front of the first word: a blank, a brace or a period
abbrev pub is_before_word : ℕ → Bool
is_before_word b = (b == 32) || (b == 9) || (b == 123) || (b == 125) || (b == 46)

-- it ends a word: a blank, or one of , { } : ;
abbrev pub ends_word : ℕ → Bool
ends_word b = (b == 32) || (b == 9) || (b == 44) || (b == 123) || (b == 125) || (b == 58) || (b == 59)

-- what stands behind a fence, from its first word on
abbrev pub word_onward : List ℕ → List ℕ
word_onward [] = []
word_onward (b ∷ bs) = if is_before_word b then word_onward bs else b ∷ bs

-- the first word is this name, in small or in capital letters
abbrev pub named_by : List ℕ → List ℕ → Bool
named_by [] [] = true
named_by [] (b ∷ bs) = ends_word b
named_by (a ∷ more) [] = false
named_by (a ∷ more) (b ∷ bs) = (a == to_ascii_lowercase b) && named_by more bs

-- the language whose name the first word is
abbrev pub named_among : List LanguageName → List ℕ → Option Language
named_among [] word = None
named_among (n ∷ ns) word = if named_by n.name word then Some n.language else named_among ns word

-- the names of languages
unfoldable pub language_names : List LanguageName
language_names =
    name (codes "sh") Sh ∷
    name (codes "bash") Sh ∷
    name (codes "shell") Sh ∷
    name (codes "zsh") Sh ∷
    name (codes "ksh") Sh ∷
    name (codes "shell-script") Sh ∷
    name (codes "console") Console ∷
    name (codes "shell-session") Console ∷
    name (codes "shellsession") Console ∷
    name (codes "sh-session") Console ∷
    name (codes "bash-session") Console ∷
    name (codes "terminal") Console ∷
    name (codes "python") Python ∷
    name (codes "py") Python ∷
    name (codes "python3") Python ∷
    name (codes "py3") Python ∷
    name (codes "pyi") Python ∷
    name (codes "pycon") Pycon ∷
    name (codes "python-console") Pycon ∷
    name (codes "rust") Rust ∷
    name (codes "rs") Rust ∷
    name (codes "no_run") Rust ∷
    name (codes "compile_fail") Rust ∷
    name (codes "should_panic") Rust ∷
    name (codes "ignore") Rust ∷
    name (codes "notrust") Rust ∷
    name (codes "edition2018") Rust ∷
    name (codes "edition2021") Rust ∷
    name (codes "javascript") Javascript ∷
    name (codes "js") Javascript ∷
    name (codes "node") Javascript ∷
    name (codes "jsx") Javascript ∷
    name (codes "mjs") Javascript ∷
    name (codes "cjs") Javascript ∷
    name (codes "typescript") Typescript ∷
    name (codes "ts") Typescript ∷
    name (codes "tsx") Typescript ∷
    name (codes "mts") Typescript ∷
    name (codes "cts") Typescript ∷
    name (codes "json") Json ∷
    name (codes "json5") Json ∷
    name (codes "jsonc") Json ∷
    name (codes "geojson") Json ∷
    name (codes "yaml") Yaml ∷
    name (codes "yml") Yaml ∷
    name (codes "toml") Toml ∷
    name (codes "ini") Ini ∷
    name (codes "cfg") Ini ∷
    name (codes "conf") Ini ∷
    name (codes "properties") Ini ∷
    name (codes "dosini") Ini ∷
    name (codes "editorconfig") Ini ∷
    name (codes "desktop") Ini ∷
    name (codes "systemd") Ini ∷
    name (codes "diff") Diff ∷
    name (codes "patch") Diff ∷
    name (codes "udiff") Diff ∷
    name (codes "xml") Xml ∷
    name (codes "svg") Xml ∷
    name (codes "xsd") Xml ∷
    name (codes "xsl") Xml ∷
    name (codes "rss") Xml ∷
    name (codes "plist") Xml ∷
    name (codes "html") Html ∷
    name (codes "htm") Html ∷
    name (codes "xhtml") Html ∷
    name (codes "vue") Html ∷
    name (codes "svelte") Html ∷
    name (codes "css") Css ∷
    name (codes "scss") Css ∷
    name (codes "less") Css ∷
    name (codes "sass") Css ∷
    name (codes "c") C ∷
    name (codes "h") C ∷
    name (codes "cpp") Cpp ∷
    name (codes "c++") Cpp ∷
    name (codes "cc") Cpp ∷
    name (codes "cxx") Cpp ∷
    name (codes "hpp") Cpp ∷
    name (codes "hxx") Cpp ∷
    name (codes "h++") Cpp ∷
    name (codes "arduino") Cpp ∷
    name (codes "java") Java ∷
    name (codes "csharp") Csharp ∷
    name (codes "cs") Csharp ∷
    name (codes "c#") Csharp ∷
    name (codes "kotlin") Kotlin ∷
    name (codes "kt") Kotlin ∷
    name (codes "kts") Kotlin ∷
    name (codes "swift") Swift ∷
    name (codes "go") Go ∷
    name (codes "golang") Go ∷
    name (codes "protobuf") Protobuf ∷
    name (codes "proto") Protobuf ∷
    name (codes "php") Php ∷
    name (codes "php3") Php ∷
    name (codes "php5") Php ∷
    name (codes "phtml") Php ∷
    name (codes "ruby") Ruby ∷
    name (codes "rb") Ruby ∷
    name (codes "rake") Ruby ∷
    name (codes "gemfile") Ruby ∷
    name (codes "perl") Perl ∷
    name (codes "pl") Perl ∷
    name (codes "pm") Perl ∷
    name (codes "lua") Lua ∷
    name (codes "sql") Sql ∷
    name (codes "mysql") Sql ∷
    name (codes "postgresql") Sql ∷
    name (codes "postgres") Sql ∷
    name (codes "plpgsql") Sql ∷
    name (codes "sqlite") Sql ∷
    name (codes "psql") Sql ∷
    name (codes "make") Make ∷
    name (codes "makefile") Make ∷
    name (codes "mk") Make ∷
    name (codes "mf") Make ∷
    name (codes "dockerfile") Dockerfile ∷
    name (codes "docker") Dockerfile ∷
    name (codes "containerfile") Dockerfile ∷
    name (codes "cmake") Cmake ∷
    name (codes "lisp") Lisp ∷
    name (codes "elisp") Lisp ∷
    name (codes "emacs-lisp") Lisp ∷
    name (codes "el") Lisp ∷
    name (codes "scheme") Lisp ∷
    name (codes "common-lisp") Lisp ∷
    name (codes "cl") Lisp ∷
    name (codes "racket") Lisp ∷
    name (codes "clojure") Lisp ∷
    name (codes "clj") Lisp ∷
    name (codes "haskell") Haskell ∷
    name (codes "hs") Haskell ∷
    []

-- the language that is named behind a fence, if one is
abbrev pub language_of : List ℕ → Option Language
language_of info = named_among language_names (word_onward info)
