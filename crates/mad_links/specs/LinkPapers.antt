-- A terminal that scrolls and passes over the commands of links.
use Rattle.std.specs.Prelude.{◌≡◌, ◌↔◌, ℕ, Bool, false, List, Some}
use Rattle.std.specs.Str.{chars, IsUtf8}
use Rattle.mad_live.specs.Papers.{Paper, PaperMode, PaperReading, Plain, Switching, Reads, at_rest, feed_on}
use Rattle.mad_links.specs.LinkLaws.{IsWoven}
use Rattle.mad_links.specs.SkippingTerminal.{Reader, after_escape, passing, skip_all}

-- right after ESC
abbrev pub begins_command : PaperMode → Bool
begins_command (Plain mode) = after_escape mode
begins_command (Switching now) = false

-- the terminal that scrolls, as what passes over links needs to know it
abbrev pub paper_reader : Reader PaperReading
paper_reader = record { feed = λ r c. feed_on r.mode r.paper c; at_escape = λ r. begins_command r.mode; before_escape = λ r. at_rest r.paper }

-- it reads these bytes, passing over the commands of links, and is then so
pub record ReadsSkipping (p : Paper) (bytes : List ℕ) (q : Paper) : Type 0 where
  pub text : IsUtf8 bytes
  pub leads : skip_all paper_reader (chars bytes) (passing (at_rest p)) ≡ Some (passing (at_rest q))

-- it ends as the terminal that scrolls does without links, and reads what that can read
abbrev pub PapersAreTheSame : Type 0
PapersAreTheSame = (linked plain : List ℕ) → IsWoven linked plain → (p q : Paper) → ReadsSkipping p linked q ↔ Reads p plain q
