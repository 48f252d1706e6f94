-- A text that comes: what a look at its mark found.
use Rattle.std.proofs.Common.{◌≡◌, ℕ, ◌<◌, Bool, true, false, List, length, Option, Some, None, is_some, refl, sym, arith}
use Rattle.std.proofs.lemmas.List.{take_all}
use Rattle.mad_term.specs.Trace.{Trace, Filled}
use Rattle.termimad_page_run.proofs.RunLemmas.{ended_input}
use Rattle.termimad_page_run.specs.Comings.{IsFrontShown, IsLooked, IsMarkRead, arrival}

-- a fill that put nothing says that the mark has no byte
pub mark_unread : (old new : Trace) (buffer : List ℕ) (count : ℕ) → count ≡ 0 → Filled old buffer count new → 0 < length buffer → IsMarkRead old None new
mark_unread old new buffer count none filled some =
    let ended = ended_input old new buffer count none filled some in
    (ended.read, ended.ended)

-- a mark that had none before, and has none now, was looked at
pub looked_by : (text mark new : Trace) (ended : Option ℕ) (is_whole : Bool) → is_some ended ≡ false → IsMarkRead mark None new
    → IsLooked (arrival text mark ended is_whole) (arrival text new ended is_whole)
looked_by text mark new None is_whole none read = record {
  before = λ byte is. let given : None ≡ Some byte = is in absurd (cc);
  mark = λ _. read;
  text = refl;
  is_whole = refl;
}
looked_by text mark new (Some byte) is_whole none read = absurd (cc)

-- where no more comes all is shown
pub whole_shown : (read : List ℕ) (is_whole : Bool) → is_whole ≡ true → IsFrontShown read is_whole read
whole_shown read true is = (length read, refl, sym (take_all (length read) read (omega arith)))
whole_shown read false is = absurd (cc)
