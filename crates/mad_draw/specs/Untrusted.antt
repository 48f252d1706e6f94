-- Printable texts keep the premise on control characters: no part of one that is shown has any.
use Rattle.std.specs.Prelude.{◌≡◌, ℕ, true, List, ◌++◌, map, chars}
use Rattle.std.specs.List.{AllByRecursion}
use Rattle.std.specs.Str.{IsUtf8}
use Rattle.mad_md.specs.Flagged.{run_at}
use Rattle.mad_md.specs.Inline.{Item, IsInlineReading, runs}
use Rattle.mad_md.specs.Parts.{HasNoNewline}
use Rattle.mad_measure.specs.Printable.{are_printable}
use Rattle.mad_screen.specs.Painting.{IsPrinted}

-- a printable text without a newline has no control character
abbrev pub PrintableLinesArePrinted : Type 0
PrintableLinesArePrinted = (text : List ℕ) → IsUtf8 text → are_printable (chars text) ≡ true → HasNoNewline text → IsPrinted (chars text)

-- nor has a slice of a printable text, if it holds no newline
abbrev pub PrintableSlicesArePrinted : Type 0
PrintableSlicesArePrinted = (text front slice back : List ℕ) → text ≡ front ++ (slice ++ back) → IsUtf8 text → IsUtf8 slice → are_printable (chars text) ≡ true → HasNoNewline slice → IsPrinted (chars slice)

-- nor has what is read of a printable line by its marks
abbrev pub PrintableInlinesArePrinted : Type 0
PrintableInlinesArePrinted =
    (text : List ℕ) → IsUtf8 text → are_printable (chars text) ≡ true → HasNoNewline text → (reading : List Item) → IsInlineReading text reading → AllByRecursion (λ r. IsPrinted (chars r.text)) (map (run_at text) (runs reading))
