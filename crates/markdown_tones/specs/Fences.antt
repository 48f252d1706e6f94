-- The marks of code behind a fence.
use Rattle.std.specs.Prelude.{ℕ, Bool, true, false, List, [], ◌∷◌, Option, Some, None, ◌==◌, ◌&&◌, if◌then◌else◌}
use Rattle.code_names.specs.Names.{language_of}
use Rattle.code_tables.specs.declared.rules.Language.{Language}
use Rattle.code_tables.specs.declared.rules.Language.TheVariants.{Sh, Console}
use Rattle.code_tones.specs.Tones.{tones_of}
use Rattle.mad_mark_runs.specs.Values.{joined}
use Rattle.mad_mark_runs.specs.declared.mark_runs.MarkRun.{MarkRun}
use Rattle.markdown_marks.specs.Remaining.{Remaining}
use Rattle.markdown_tones.specs.CodeSource.{code_source}

-- a line of a session: a dollar and a blank
abbrev pub is_prompt : List ℕ → Bool
is_prompt (a ∷ b ∷ bytes) = (a == 36) && (b == 32)
is_prompt _ = false

-- the first line is one
abbrev pub begins_session : List Remaining → Bool
begins_session [] = false
begins_session (line ∷ lines) = is_prompt line.bytes

-- a shell's lines, or a session with their answers
abbrev pub session_of : Bool → Language
session_of prompt = if prompt then Console else Sh

-- lines of a shell are a session, if the first is a prompt
abbrev pub spoken : Option Language → List Remaining → Option Language
spoken (Some Sh) code = Some (session_of (begins_session code))
spoken language code = language

-- the language of a fence's code, by what stands behind the fence
abbrev pub fence_language : Remaining → List Remaining → Option Language
fence_language info code = spoken (language_of info.bytes) code

-- the marks of lines of code: their tones in a language; without one they have none
abbrev pub marks_in : Option Language → List Remaining → List MarkRun
marks_in None code = []
marks_in (Some language) code = joined (tones_of (Some language) (code_source code))

-- THE DEFINITION: those of a fence's code; the first line is what stands behind the fence
abbrev pub fence_marks : List Remaining → List MarkRun
fence_marks [] = []
fence_marks (info ∷ code) = marks_in (fence_language info code) code
