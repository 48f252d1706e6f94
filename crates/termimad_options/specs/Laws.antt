-- What callers rely on.
use Rattle.std.specs.Prelude.{◌≡◌, ℕ, true, false, List, [], ◌∷◌, Some, None, codes}
use Rattle.std.specs.Borrow.{Bor}
use Rattle.std.specs.Str.{bytes_eq}
use Rattle.clap.specs.Words.{Row, Text, matches_of}
use Rattle.termimad_options.specs.Rules.{termimad_rules}
use Rattle.termimad_options.specs.Calls.{IsCallOf, Reading, as_code, as_markdown, as_plain, columns_written, is_call, is_said, last_said}
use Rattle.termimad_options.specs.Names.{is_understood, reading_of_file}
use Rattle.termimad_options.specs.Places.{has_controls, is_place}
use Rattle.termimad_options.specs.Plans.{columns_of, obeys, says_links, screen_of, skin_of, suiting, way_of}
use Rattle.termimad_options.specs.declared.calls.Call.{Call}
use Rattle.termimad_options.specs.declared.calls.Links.{Links}
use Rattle.termimad_options.specs.declared.calls.Links.TheVariants.{Auto}
use Rattle.termimad_options.specs.declared.plans.Surroundings.{Surroundings}
use Rattle.termimad_options.specs.declared.plans.Way.TheVariants.{Pages, Writes}

-- where standard output is no terminal, texts are written, nothing is redrawn, and where no skin is named there are no styles, nor what only a terminal is told
abbrev pub PipesStayPlain : Type 0
PipesStayPlain = (call : Call) (around : Surroundings) → around.is_terminal ≡ false
    → (way_of call around ≡ Writes)
    × (screen_of call around ≡ None)
    × (call.skin ≡ None → around.skin ≡ None → skin_of call around ≡ codes "none")
    × (says_links Auto around (skin_of call around) ≡ false)

-- an option wins: over a file's name, over what the terminal says, and over what is set
abbrev pub OptionsWin : Type 0
OptionsWin = ((said : Reading) (name : Text) → reading_of_file (Some said) name ≡ said)
    × ((call : Call) (around : Surroundings) (columns : ℕ) → call.width ≡ Some columns → columns_of call around ≡ columns)
    × ((call : Call) (around : Surroundings) (skin : Bor Text) → call.skin ≡ Some skin → bytes_eq skin.now (codes "auto") ≡ false
    → skin_of call around ≡ skin.now)

-- without a style it is written nowhere where links lead, whatever is said
abbrev pub LinksNeedStyles : Type 0
LinksNeedStyles = (links : Links) (around : Surroundings) → says_links links around (codes "none") ≡ false

-- What a call without options asks for: no file, no width, no skin and no grammar, and what the terminal suggests of links and of paging.
pub record AsksNothing (call : Call) : Type 0 where
  pub files : call.files.items ≡ []
  pub width : call.width ≡ None
  pub skin : call.skin ≡ None
  pub grammar : call.grammar ≡ None
  pub links : call.links ≡ Auto
  pub streams : call.streams ≡ false
  pub lives : call.lives ≡ false
  pub writes : call.writes ≡ false
  pub fits : call.fits ≡ false

-- a call of the program's name alone asks for nothing
abbrev pub NamesAskNothing : Type 0
NamesAskNothing = (program : Text) (call : Call) → IsCallOf (program ∷ []) call → AsksNothing call

-- a call that asks for nothing pages on a terminal that obeys commands, in its columns and in the skin that suits it, where nothing else is set
abbrev pub TerminalsPage : Type 0
TerminalsPage = (call : Call) (around : Surroundings) → AsksNothing call → obeys around ≡ true
    → (way_of call around ≡ Pages)
    × ((columns : ℕ) → around.columns ≡ Some columns → columns_of call around ≡ columns)
    × (around.skin ≡ None → around.is_colorless ≡ false → skin_of call around ≡ suiting around)

-- the matches of words behind the program's name
abbrev pub rows_for : List Text → List Row
rows_for words = matches_of termimad_rules (codes "termimad" ∷ words)

-- words behind the program's name are options with values that these take
abbrev pub takes_all : List Text → Type 0
takes_all words = is_call (codes "termimad" ∷ words) ≡ true

abbrev pub refuses : List Text → Type 0
refuses words = is_call (codes "termimad" ∷ words) ≡ false

-- Some calls: what is taken, what is refused, and what it says.
pub record SomeCalls : Type 0 where
  pub all : takes_all (codes "-w80" ∷ codes "--skin=dark" ∷ codes "--links" ∷ codes "never" ∷ codes "-F" ∷ codes "--" ∷ codes "--lines" ∷ [])
  pub twice : takes_all (codes "--lines" ∷ codes "--lines" ∷ codes "-w=40" ∷ codes "--width" ∷ codes "60" ∷ [])
  pub last : last_said (codes "width") (rows_for (codes "-w=40" ∷ codes "--width" ∷ codes "60" ∷ [])) ≡ Some (codes "60")
  pub flag : is_said (codes "lines") (rows_for (codes "--lines" ∷ codes "--lines" ∷ [])) ≡ true
  pub file : last_said (codes "FILE") (rows_for (codes "a.md" ∷ codes "-" ∷ codes "--" ∷ codes "--plain" ∷ [])) ≡ Some (codes "--plain")
  pub no_flag : is_said (codes "plain") (rows_for (codes "--" ∷ codes "--plain" ∷ [])) ≡ false
  pub unknown : refuses (codes "--wide" ∷ [])
  pub zero_columns : refuses (codes "-w" ∷ codes "0" ∷ [])
  pub many_columns : refuses (codes "-w" ∷ codes "65536" ∷ [])
  pub no_columns : refuses (codes "-w" ∷ codes "wide" ∷ [])
  pub no_value : refuses (codes "--skin" ∷ [])
  pub other_links : refuses (codes "--links=sometimes" ∷ [])
  pub columns : columns_written (codes "65535") ≡ Some 65535

-- Some files' names: how these files are read.
pub record SomeNames : Type 0 where
  pub rust : reading_of_file None (codes "src/main.rs") ≡ as_code (codes "src/main.rs")
  pub make : reading_of_file None (codes "Makefile") ≡ as_code (codes "Makefile")
  pub cmake : reading_of_file None (codes "CMakeLists.txt") ≡ as_code (codes "CMakeLists.txt")
  pub words : reading_of_file None (codes "go on.md") ≡ as_markdown
  pub text : reading_of_file None (codes "notes.txt") ≡ as_plain
  pub log : reading_of_file None (codes "build.log") ≡ as_plain
  pub markdown : reading_of_file None (codes "README.md") ≡ as_markdown
  pub other : reading_of_file None (codes "README") ≡ as_markdown
  pub input : reading_of_file None (codes "-") ≡ as_markdown

-- Some words of --code: whether they are understood.
pub record SomeLanguages : Type 0 where
  pub rust : is_understood (codes "rust") ≡ true
  pub file : is_understood (codes "src/main.rs") ≡ true
  pub known : is_understood (codes "CMakeLists.txt") ≡ true
  pub none : is_understood (codes "text") ≡ true
  pub unknown : is_understood (codes "zzz") ≡ false
  pub other_file : is_understood (codes "notes.zzz") ≡ false
  pub empty : is_understood [] ≡ false

-- Some words: whether they say where a text is shown first.
pub record SomePlaces : Type 0 where
  pub row : is_place (codes "+20") ≡ true
  pub end : is_place (codes "+G") ≡ true
  pub follows : is_place (codes "+F") ≡ true
  pub on : is_place (codes "+/it's (so|no)") ≡ true
  pub back : is_place (codes "+?a") ≡ true
  pub nothing : is_place (codes "+") ≡ false
  pub no_text : is_place (codes "+/") ≡ false
  pub word : is_place (codes "+Go") ≡ false
  pub mixed : is_place (codes "+2G") ≡ false
  pub file : is_place (codes "a+20") ≡ false
  pub escape : has_controls (43 ∷ 47 ∷ 27 ∷ []) ≡ true
  pub text : has_controls (codes "+/it's so") ≡ false
