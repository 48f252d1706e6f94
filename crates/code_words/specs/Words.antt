-- The word that names the language of a text: the word of a fence, or the name of a file.
use Rattle.std.specs.Prelude.{ℕ, ◌==◌, ◌&&◌, ◌||◌, Bool, List, [], ◌∷◌, Option, Some, None, is_some, unwrap_or, codes, if◌then◌else◌}
use Rattle.std.specs.Borrow.{Bor}
use Rattle.std.specs.Char.{is_ascii_alphanumeric}
use Rattle.std.specs.List.{list_all}
use Rattle.std.specs.Str.{str_eq_ignore_ascii_case}
use Rattle.code_names.specs.Names.{language_of}

-- the name of a file, or how names end, and a name of the language that such a file is in
pub record FileName : Type 0 where
  pub name : List ℕ
  pub word : List ℕ

abbrev pub file : List ℕ → List ℕ → FileName
file name word = record { name = name; word = word }

-- the one that an entry of the code's list says
abbrev pub file_of : Bor (List ℕ) × Bor (List ℕ) → FileName
file_of row = file row.0.now row.1.now

-- the language's name for the first of these that a name is, in small or in capital letters
abbrev pub word_among : List FileName → List ℕ → Option (List ℕ)
word_among [] name = None
word_among (f ∷ fs) name = if str_eq_ignore_ascii_case f.name name then Some f.word else word_among fs name

-- the files whose names say their language otherwise than by a name of it
unfoldable pub file_names : List FileName
file_names =
    file (codes "bashrc") (codes "sh") ∷
    file (codes "bash_profile") (codes "sh") ∷
    file (codes "bash_aliases") (codes "sh") ∷
    file (codes "bash_logout") (codes "sh") ∷
    file (codes "profile") (codes "sh") ∷
    file (codes "zshrc") (codes "sh") ∷
    file (codes "zshenv") (codes "sh") ∷
    file (codes "zprofile") (codes "sh") ∷
    file (codes "zlogin") (codes "sh") ∷
    file (codes "kshrc") (codes "sh") ∷
    file (codes "pkgbuild") (codes "sh") ∷
    file (codes "apkbuild") (codes "sh") ∷
    file (codes "ebuild") (codes "sh") ∷
    file (codes "bats") (codes "sh") ∷
    file (codes "pyw") (codes "python") ∷
    file (codes "bzl") (codes "python") ∷
    file (codes "sconstruct") (codes "python") ∷
    file (codes "sconscript") (codes "python") ∷
    file (codes "wscript") (codes "python") ∷
    file (codes "jsm") (codes "javascript") ∷
    file (codes "jsonl") (codes "json") ∷
    file (codes "ndjson") (codes "json") ∷
    file (codes "webmanifest") (codes "json") ∷
    file (codes "ipynb") (codes "json") ∷
    file (codes "babelrc") (codes "json") ∷
    file (codes "composer.lock") (codes "json") ∷
    file (codes "pipfile.lock") (codes "json") ∷
    file (codes "flake.lock") (codes "json") ∷
    file (codes "clang-format") (codes "yaml") ∷
    file (codes "clang-tidy") (codes "yaml") ∷
    file (codes "cargo.lock") (codes "toml") ∷
    file (codes "poetry.lock") (codes "toml") ∷
    file (codes "pipfile") (codes "toml") ∷
    file (codes "gitconfig") (codes "ini") ∷
    file (codes "gitmodules") (codes "ini") ∷
    file (codes "npmrc") (codes "ini") ∷
    file (codes "service") (codes "ini") ∷
    file (codes "socket") (codes "ini") ∷
    file (codes "timer") (codes "ini") ∷
    file (codes "rej") (codes "diff") ∷
    file (codes "xslt") (codes "xml") ∷
    file (codes "wsdl") (codes "xml") ∷
    file (codes "rdf") (codes "xml") ∷
    file (codes "atom") (codes "xml") ∷
    file (codes "opml") (codes "xml") ∷
    file (codes "gpx") (codes "xml") ∷
    file (codes "kml") (codes "xml") ∷
    file (codes "csproj") (codes "xml") ∷
    file (codes "xaml") (codes "xml") ∷
    file (codes "shtml") (codes "html") ∷
    file (codes "hh") (codes "cpp") ∷
    file (codes "ipp") (codes "cpp") ∷
    file (codes "tpp") (codes "cpp") ∷
    file (codes "ino") (codes "cpp") ∷
    file (codes "csx") (codes "csharp") ∷
    file (codes "php4") (codes "php") ∷
    file (codes "php7") (codes "php") ∷
    file (codes "php8") (codes "php") ∷
    file (codes "rakefile") (codes "ruby") ∷
    file (codes "gemspec") (codes "ruby") ∷
    file (codes "podfile") (codes "ruby") ∷
    file (codes "podspec") (codes "ruby") ∷
    file (codes "vagrantfile") (codes "ruby") ∷
    file (codes "brewfile") (codes "ruby") ∷
    file (codes "ru") (codes "ruby") ∷
    file (codes "psgi") (codes "perl") ∷
    file (codes "cpanfile") (codes "perl") ∷
    file (codes "rockspec") (codes "lua") ∷
    file (codes "gnumakefile") (codes "make") ∷
    file (codes "bsdmakefile") (codes "make") ∷
    file (codes "mak") (codes "make") ∷
    file (codes "am") (codes "make") ∷
    file (codes "cmakelists.txt") (codes "cmake") ∷
    file (codes "lsp") (codes "lisp") ∷
    file (codes "asd") (codes "lisp") ∷
    file (codes "scm") (codes "lisp") ∷
    file (codes "ss") (codes "lisp") ∷
    file (codes "rkt") (codes "lisp") ∷
    file (codes "cljs") (codes "lisp") ∷
    file (codes "cljc") (codes "lisp") ∷
    file (codes "edn") (codes "lisp") ∷
    file (codes "emacs") (codes "lisp") ∷
    []

-- what stands behind the last of these bytes, where there is one; else what was behind the one before
abbrev pub behind_from : ℕ → List ℕ → List ℕ → List ℕ
behind_from byte before [] = before
behind_from byte before (b ∷ bs) = if b == byte then behind_from byte bs bs else behind_from byte before bs

-- what stands behind the last of these bytes, or all
abbrev pub behind_last : ℕ → List ℕ → List ℕ
behind_last byte bytes = behind_from byte bytes bytes

-- the name of a file without its folders: what stands behind the last slash
abbrev pub file_name : List ℕ → List ℕ
file_name word = behind_last 47 word

-- how it ends: what stands behind its last period
abbrev pub ending : List ℕ → List ℕ
ending word = behind_last 46 (file_name word)

-- how the name ends, if that names a language, and else the word itself
abbrev pub ending_or : List ℕ → List ℕ
ending_or word = if is_some (language_of (ending word)) then ending word else word

-- The word of a fence for a word, which may be the name of a file: what is known of that name, or of how it ends, or else its end or the word itself.
abbrev pub language_word : List ℕ → List ℕ
language_word word = unwrap_or (word_among file_names (file_name word)) (unwrap_or (word_among file_names (ending word)) (ending_or word))

-- the bytes are letters and digits, and a name of a language
abbrev pub is_language : List ℕ → Bool
is_language word = list_all is_ascii_alphanumeric word && is_some (language_of word)

-- a file is in a language by its name: that is known, or how it ends is, or this is a name of a language
abbrev pub names_language : List ℕ → Bool
names_language name =
    is_some (word_among file_names (file_name name)) || is_some (word_among file_names (ending name)) || is_language (ending name)
