-- Parts that were told before change nothing of what is told after them.
use Rattle.std.proofs.Common.{◌≡◌, ◌-◌, Bool, true, false, ◌&&◌, ◌==◌, List, [], ◌∷◌, ◌++◌, length, take, drop, refl, ap, ◌∙◌, append_assoc, if◌then◌else◌}
use Rattle.markdown_marks.specs.Remaining.{Remaining}
use Rattle.markdown_blocks.specs.Events.{Event, leave, enter, line}
use Rattle.markdown_blocks.specs.declared.containers.Container.{Container}
use Rattle.markdown_blocks.specs.declared.leaves.Deed.{Deed}
use Rattle.markdown_blocks.specs.declared.leaves.Deed.TheVariants.{Blank, Begins, Html as HtmlDeed, GoesOn, Closes, Underlines, Tabulates, Heading as HeadingDeed, Rule as RuleDeed}
use Rattle.markdown_leaves.specs.Defining.{cut_lines}
use Rattle.markdown_leaves.specs.Gather.{Gathering, add_unless_empty, add_words, words_closed, closed_as, closed_as_it_is, closed, begun_in, begun, blank_in, entered_in, left_in, kind_of, first_text, line_done}
use Rattle.markdown_leaves.specs.Parts.{PartContent, block}
use Rattle.markdown_leaves.specs.Told.{happened, told}
use Rattle.markdown_leaves.specs.declared.parts.Kind.{Kind}
use Rattle.markdown_leaves.specs.declared.parts.Kind.TheVariants.{Nothing, Paragraph, Heading, Indented, Fenced, Html, Table, Rule, Definitions}

-- these parts in front
abbrev pub behind : List PartContent → Gathering → Gathering
behind before g = record g { parts = before ++ g.parts }

chosen : (before parts : List PartContent) (part : PartContent) (none : Bool) → (if none then before ++ parts else (before ++ parts) ++ part ∷ []) ≡ before ++ (if none then parts else parts ++ part ∷ [])
chosen before parts part true = refl
chosen before parts part false = append_assoc before parts (part ∷ [])

unless_empty : (before : List PartContent) (kind : Kind) (apart : Bool) (lines : List Remaining) (parts : List PartContent)
    → add_unless_empty kind apart lines (before ++ parts) ≡ before ++ add_unless_empty kind apart lines parts
unless_empty before kind apart lines parts = chosen before parts (block (record { kind = kind; apart = apart; lines = lines })) (length lines == 0)

words : (before : List PartContent) (kind : Kind) (apart : Bool) (lines : List Remaining) (parts : List PartContent) → add_words kind apart lines (before ++ parts) ≡ before ++ add_words kind apart lines parts
words before kind apart lines parts =
    let cut = cut_lines lines in
    ap (λ (ps : List PartContent). add_unless_empty kind (apart && (cut == 0)) (drop cut lines) ps) (unless_empty before Definitions apart (take cut lines) parts)
    ∙ unless_empty before kind (apart && (cut == 0)) (drop cut lines) (add_unless_empty Definitions apart (take cut lines) parts)

-- with other parts, and nothing else
abbrev with_parts : Gathering → List PartContent → Gathering
with_parts g parts = record g { parts = parts }

closed_behind_as : (kind : Kind) (before : List PartContent) (g : Gathering) → closed_as kind (behind before g) ≡ behind before (closed_as kind g)
closed_behind_as Nothing before g = refl
closed_behind_as Paragraph before g = ap (λ (ps : List PartContent). with_parts (words_closed Paragraph g) ps) (words before Paragraph g.apart g.lines g.parts)
closed_behind_as (Heading level) before g = ap (λ (ps : List PartContent). with_parts (closed_as_it_is g) ps) (append_assoc before g.parts _)
closed_behind_as Indented before g = ap (λ (ps : List PartContent). with_parts (closed_as Indented g) ps) (append_assoc before g.parts _)
closed_behind_as Fenced before g = ap (λ (ps : List PartContent). with_parts (closed_as_it_is g) ps) (append_assoc before g.parts _)
closed_behind_as Html before g = ap (λ (ps : List PartContent). with_parts (closed_as_it_is g) ps) (append_assoc before g.parts _)
closed_behind_as (Table columns) before g = ap (λ (ps : List PartContent). with_parts (closed_as_it_is g) ps) (append_assoc before g.parts _)
closed_behind_as Rule before g = ap (λ (ps : List PartContent). with_parts (closed_as_it_is g) ps) (append_assoc before g.parts _)
closed_behind_as Definitions before g = ap (λ (ps : List PartContent). with_parts (closed_as_it_is g) ps) (append_assoc before g.parts _)

-- a leaf ends behind these parts as it does without them
pub closed_behind : (before : List PartContent) (g : Gathering) → closed (behind before g) ≡ behind before (closed g)
unfolding closed
closed_behind before g = closed_behind_as g.kind before g

single_behind : (before : List PartContent) (kind : Kind) (text : Remaining) (g : Gathering)
    → closed_as_it_is (begun_in kind text (behind before g)) ≡ behind before (closed_as_it_is (begun_in kind text g))
single_behind before kind text g = ap (λ (ps : List PartContent). with_parts (closed_as_it_is (begun_in kind text g)) ps) (append_assoc before g.parts _)

one_line : (before : List PartContent) (kind : Kind) (text : Remaining) (g : Gathering)
    → closed_as_it_is (begun kind text (behind before g)) ≡ behind before (closed_as_it_is (begun kind text g))
one_line before kind text g = ap (λ (h : Gathering). closed_as_it_is (begun_in kind text h)) (closed_behind before g) ∙ single_behind before kind text (closed g)

-- so does a line what it does to the leaves
pub line_behind : (deed : Deed) (text : Remaining) (before : List PartContent) (g : Gathering) → line_done deed text (behind before g) ≡ behind before (line_done deed text g)
unfolding line_done
line_behind Blank text before g = ap blank_in (closed_behind before g)
line_behind (Begins leaf) text before g = ap (begun_in (kind_of leaf) (first_text leaf text)) (closed_behind before g)
line_behind HtmlDeed text before g = one_line before Html text g
line_behind GoesOn text before g = refl
line_behind Closes text before g = closed_behind before g
line_behind (Underlines level) text before g = ap (λ (ps : List PartContent). with_parts (words_closed (Heading level) g) ps) (words before (Heading level) g.apart g.lines g.parts)
line_behind (Tabulates columns) text before g =
    ap (λ (ps : List PartContent). with_parts (line_done (Tabulates columns) text g) ps) (words before Paragraph g.apart (take (length g.lines - 1) g.lines) g.parts)
line_behind (HeadingDeed level) text before g = one_line before (Heading level) _ g
line_behind RuleDeed text before g = one_line before Rule text g

entered_behind : (container : Container) (before : List PartContent) (g : Gathering) → entered_in container (behind before g) ≡ behind before (entered_in container g)
entered_behind container before g = ap (λ (ps : List PartContent). with_parts (entered_in container g) ps) (append_assoc before g.parts _)

left_behind : (before : List PartContent) (g : Gathering) → left_in (behind before g) ≡ behind before (left_in g)
left_behind before g = ap (λ (ps : List PartContent). with_parts (left_in g) ps) (append_assoc before g.parts _)

-- so does any event
pub happened_behind : (event : Event) (before : List PartContent) (g : Gathering) → happened event (behind before g) ≡ behind before (happened event g)
happened_behind leave before g = ap left_in (closed_behind before g) ∙ left_behind before (closed g)
happened_behind (enter container) before g = ap (entered_in container) (closed_behind before g) ∙ entered_behind container before (closed g)
happened_behind (line deed text) before g = ap (λ (h : Gathering). record h { fresh = false }) (line_behind deed text before g)

-- so do events, one after the other
pub told_behind : (events : List Event) (before : List PartContent) (g : Gathering) → told (behind before g) events ≡ behind before (told g events)
unfolding told
told_behind [] before g = refl
told_behind (event ∷ events) before g = ap (λ (h : Gathering). told h events) (happened_behind event before g) ∙ told_behind events before (happened event g)
