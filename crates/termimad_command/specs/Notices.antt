-- What is said before texts are shown: what isn't known.
use Rattle.std.specs.Prelude.{◌≡◌, ◌++◌, ℕ, List, [], ◌∷◌, Option, Some, codes, if◌then◌else◌}
use Rattle.std.specs.List.{flat_map}
use Rattle.mad_measure.specs.KeptCells.{shown_bytes}
use Rattle.mad_term.specs.Trace.{Trace}
use Rattle.termimad_options.specs.Calls.{Reading, as_code}
use Rattle.termimad_options.specs.Names.{is_understood}
use Rattle.termimad_words.specs.Failures.{SaysOnce}

-- a line: what it says of a word, and what is printable of that
abbrev pub notice_line : List ℕ → List ℕ → List ℕ
notice_line says word = says ++ (shown_bytes word ++ codes "\n")

-- the line for a key of a skin that names no part of one
abbrev pub key_line : List ℕ → List ℕ
key_line key = notice_line (codes "termimad: SKIN: unknown key: ") key

-- a line for each of these
abbrev pub key_lines : List (List ℕ) → List ℕ
key_lines keys = flat_map key_line keys

-- a line for a language that isn't known
abbrev pub language_lines : Option Reading → List ℕ
language_lines (Some (as_code word)) = if is_understood word then [] else notice_line (codes "termimad: unknown language: ") word
language_lines _ = []

-- all lines of a call: for the keys, and for the language that --code says
abbrev pub notices : Option Reading → List (List ℕ) → List ℕ
notices said keys = key_lines keys ++ language_lines said

-- these lines are said at once; nothing happens where there is none
abbrev pub SaysNotices : List ℕ → Trace → Trace → Type 0
SaysNotices [] old new = new ≡ old
SaysNotices (b ∷ bs) old new = SaysOnce old (b ∷ bs) new
