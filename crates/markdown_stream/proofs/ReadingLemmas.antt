-- Lines that were read before change nothing of what the next ones tell.
use Rattle.std.proofs.Common.{◌≡◌, ℕ, List, [], ◌∷◌, ◌++◌, length, refl, sym, ap, ◌∙◌, append-nil}
use Rattle.markdown_blocks.specs.Events.{Event, leaves, step_events, events_from, events_of}
use Rattle.markdown_blocks.specs.Lines.{text_lines}
use Rattle.markdown_blocks.specs.Steps.{step}
use Rattle.markdown_leaves.specs.Gather.{Gathering, closed}
use Rattle.markdown_leaves.specs.Parts.{PartContent}
use Rattle.markdown_leaves.specs.Told.{happened, told, parts_of}
use Rattle.markdown_laws.proofs.BehindLemmas.{behind, closed_behind, told_behind}
use Rattle.markdown_stream.specs.Laws.{PartsComeInTurn}
use Rattle.markdown_stream.specs.Readings.{Reading, nothing_read, line_read, lines_read, parts_read, parts_at_end, handed_on}

told_joined : (events others : List Event) (g : Gathering) → told g (events ++ others) ≡ told (told g events) others
unfolding told
told_joined [] others g = refl
told_joined (event ∷ events) others g = told_joined events others (happened event g)

-- ---- reading line by line is reading the text

abbrev at_end : Gathering → List Event → List PartContent
at_end g events = (closed (told g events)).parts

read_on : (lines : List (List ℕ)) (r : Reading) → at_end r.gathering (events_from r.state lines) ≡ parts_at_end (lines_read r lines)
unfolding events_from lines_read
read_on [] r = refl
read_on (line ∷ lines) r =
    ap (λ (g : Gathering). (closed g).parts) (told_joined (step_events r.state (step r.state line)) (events_from (step r.state line).state lines) r.gathering)
    ∙ read_on lines (line_read r line)

-- the parts of a text are all that are told where its lines end
pub read_whole : (text : List ℕ) → parts_of text ≡ parts_at_end (lines_read nothing_read (text_lines text))
unfolding parts_of events_of
read_whole text = read_on (text_lines text) nothing_read

-- lines are read on where those before them end
pub read_joined : (lines later : List (List ℕ)) (r : Reading) → lines_read r (lines ++ later) ≡ lines_read (lines_read r lines) later
unfolding lines_read
read_joined [] later r = refl
read_joined (line ∷ lines) later r = read_joined lines later (line_read r line)

-- ---- parts in front

-- these parts were told before
abbrev pub told_before : List PartContent → Reading → Reading
told_before before r = record r { gathering = behind before r.gathering }

line_behind : (line : List ℕ) (before : List PartContent) (r : Reading) → line_read (told_before before r) line ≡ told_before before (line_read r line)
line_behind line before r =
    ap (λ (g : Gathering). record { state = (step r.state line).state; gathering = g }) (told_behind (step_events r.state (step r.state line)) before r.gathering)

lines_behind : (lines : List (List ℕ)) (before : List PartContent) (r : Reading) → lines_read (told_before before r) lines ≡ told_before before (lines_read r lines)
unfolding lines_read
lines_behind [] before r = refl
lines_behind (line ∷ lines) before r = ap (λ (s : Reading). lines_read s lines) (line_behind line before r) ∙ lines_behind lines before (line_read r line)

end_behind : (before : List PartContent) (r : Reading) → parts_at_end (told_before before r) ≡ before ++ parts_at_end r
end_behind before r =
    ap (λ (g : Gathering). (closed g).parts) (told_behind (leaves (length r.state.containers)) before r.gathering)
    ∙ ap (λ (g : Gathering). g.parts) (closed_behind before (told r.gathering (leaves (length r.state.containers))))

-- a reading is its parts, and behind them what goes on
kept : (r : Reading) → r ≡ told_before (parts_read r) (handed_on r)
kept r = ap (λ (ps : List PartContent). record r { gathering = record r.gathering { parts = ps } }) (sym (append-nil (parts_read r)))

-- so a line is read
pub read_behind : (line : List ℕ) (r : Reading) → line_read r line ≡ told_before (parts_read r) (line_read (handed_on r) line)
read_behind line r = ap (λ (s : Reading). line_read s line) (kept r) ∙ line_behind line (parts_read r) (handed_on r)

-- parts that were handed on stand before those that the next lines tell
pub hand_on : (lines : List (List ℕ)) (r : Reading) → parts_at_end (lines_read r lines) ≡ parts_read r ++ parts_at_end (lines_read (handed_on r) lines)
hand_on lines r =
    ap (λ (s : Reading). parts_at_end (lines_read s lines)) (kept r)
    ∙ ap parts_at_end (lines_behind lines (parts_read r) (handed_on r))
    ∙ end_behind (parts_read r) (lines_read (handed_on r) lines)

-- parts that lines complete are the first ones of the text, whatever comes after
pub parts_come_in_turn : PartsComeInTurn
parts_come_in_turn text lines later joins =
    read_whole text
    ∙ ap (λ (ls : List (List ℕ)). parts_at_end (lines_read nothing_read ls)) joins
    ∙ ap parts_at_end (read_joined lines later nothing_read)
    ∙ hand_on later (lines_read nothing_read lines)
