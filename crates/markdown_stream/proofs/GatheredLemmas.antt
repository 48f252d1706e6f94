-- What is gathered of a line that was read.
use Rattle.std.proofs.Common.{◌≡◌, ℕ, zero, suc, ◌+◌, ◌-◌, Bool, true, false, ◌==◌, ◌&&◌, List, [], ◌∷◌, ◌++◌, map, length, drop, refl, sym, ap, ◌∙◌, arith, append_assoc}
use Rattle.std.proofs.lemmas.Bool.{and_parts}
use Rattle.mad_md.proofs.PartsLemmas.{true_test}
use Rattle.markdown_marks.specs.Remaining.{Remaining}
use Rattle.markdown_blocks.specs.Events.{Event, line, leaves, enter}
use Rattle.markdown_blocks.specs.Steps.{Step, Line, step}
use Rattle.markdown_blocks.specs.declared.containers.Container.{Container}
use Rattle.markdown_blocks.specs.declared.leaves.Deed.{Deed}
use Rattle.markdown_blocks.specs.declared.leaves.Deed.TheVariants.{Blank, Begins, Html, GoesOn, Closes, Underlines, Tabulates, Heading, Rule}
use Rattle.markdown_leaves.specs.Gather as gather
use Rattle.markdown_leaves.specs.Gather.{Gathering, gone_on}
use Rattle.markdown_leaves.specs.Parts.{PartContent}
use Rattle.markdown_leaves.specs.Told.{told, happened, events_between}
use Rattle.markdown_stream.specs.Readings.{step_read, without_parts}
use Rattle.markdown_stream.specs.Streamed.{Streamed, parts_streamed}
use Rattle.markdown_stream.specs.Streaming.{Streaming, come_to, line_come, gathered, goes_on, is_text}

told_line_last : (events : List Event) (g : Gathering) (deed : Deed) (text : Remaining) → (told g (events ++ line deed text ∷ [])).fresh ≡ false
unfolding told
told_line_last [] g deed text = refl
told_line_last (event ∷ events) g deed text = told_line_last events (happened event g) deed text

-- after a line no item is new
pub fresh_after : (g now : Gathering) (before : ℕ) (read : Line) (containers : List Container) → now ≡ told g (events_between before read containers) → now.fresh ≡ false
fresh_after g now before read containers is =
    let begun = map enter (drop read.kept containers) in
    ap (λ (n : Gathering). n.fresh) (is ∙ ap (told g) (sym (append_assoc (leaves (before - read.kept)) begun (line read.deed read.text ∷ []))))
    ∙ told_line_last (leaves (before - read.kept) ++ begun) g read.deed read.text

-- what is gathered of a line that was read is shown, and the rest is kept
pub gathers : (s : Streaming) (g leaf : Gathering) (streamed : Streamed) (before : ℕ) (read : Line)
    → g ≡ told s.reading.gathering (events_between before read s.reading.state.containers) → leaf ≡ without_parts g → streamed ≡ parts_streamed g.parts s.streamed
    → record { reading = record { state = s.reading.state; gathering = leaf }; streamed = streamed } ≡ gathered before read s
gathers s g leaf streamed before read g_is leaf_is streamed_is =
    ap (λ (l : Gathering). let n : Streaming = record { reading = record { state = s.reading.state; gathering = l }; streamed = streamed } in n) leaf_is
    ∙ ap (λ (t : Streamed). let n : Streaming = record { reading = record { state = s.reading.state; gathering = without_parts g }; streamed = t } in n) streamed_is
    ∙ ap (λ (h : Gathering). come_to s (record { state = s.reading.state; gathering = h })) g_is

-- what a line that was read tells is what comes with it
pub line_gathered : (s now : Streaming) (text : List ℕ) (done : Step) (before : ℕ) → done ≡ step s.reading.state text → before ≡ length s.reading.state.containers
    → now ≡ gathered before done.line (record s { reading = record s.reading { state = done.state } }) → now ≡ line_come text s
line_gathered s now text done before done_is before_is now_is =
    now_is
    ∙ ap (λ (n : ℕ). gathered n done.line (record s { reading = record s.reading { state = done.state } })) before_is
    ∙ ap (λ (d : Step). come_to s (step_read s.reading d)) done_is

drop_all : (count : ℕ) (xs : List Container) → length xs ≡ count → drop count xs ≡ []
drop_all zero [] h = refl
drop_all zero (x ∷ xs) h = absurd (omega arith)
drop_all (suc n) [] h = refl
drop_all (suc n) (x ∷ xs) h = drop_all n xs (omega arith)

text_told : (deed : Deed) (text : Remaining) (g : Gathering) → is_text deed ≡ true → told g (line deed text ∷ []) ≡ record (gone_on text g) { fresh = false }
unfolding told gather.line_done
text_told GoesOn text g h = refl
text_told Blank text g h = absurd (let no : false ≡ true = h in cc)
text_told (Begins leaf) text g h = absurd (let no : false ≡ true = h in cc)
text_told Html text g h = absurd (let no : false ≡ true = h in cc)
text_told Closes text g h = absurd (let no : false ≡ true = h in cc)
text_told (Underlines level) text g h = absurd (let no : false ≡ true = h in cc)
text_told (Tabulates columns) text g h = absurd (let no : false ≡ true = h in cc)
text_told (Heading level) text g h = absurd (let no : false ≡ true = h in cc)
text_told Rule text g h = absurd (let no : false ≡ true = h in cc)

-- where a line goes on with the open leaf, its text is all that is gathered
pub text_gathered : (before : ℕ) (read : Line) (containers : List Container) (g : Gathering) → goes_on before read ≡ true → length containers ≡ read.kept + read.opened
    → told g (events_between before read containers) ≡ record (gone_on read.text g) { fresh = false }
text_gathered before read containers g test counted =
    let parts = and_parts (read.kept == before) ((read.opened == 0) && is_text read.deed) test in
    let others = and_parts (read.opened == 0) (is_text read.deed) parts.1 in
    let all : read.kept ≡ before = true_test read.kept before parts.0 in
    let none : read.opened ≡ 0 = true_test read.opened 0 others.0 in
    let nothing : before - read.kept ≡ 0 = omega (arith, all) in
    let no_leaves : leaves (before - read.kept) ≡ [] = ap leaves nothing in
    let no_others : drop read.kept containers ≡ [] = drop_all read.kept containers (omega (arith, counted, none)) in
    ap (λ (es : List Event). told g (es ++ (map enter (drop read.kept containers) ++ line read.deed read.text ∷ []))) no_leaves
    ∙ ap (λ (cs : List Container). told g (map enter cs ++ line read.deed read.text ∷ [])) no_others
    ∙ text_told read.deed read.text g others.1

-- so the leaf has one more line, and nothing is shown
pub text_comes : (s : Streaming) (before : ℕ) (read : Line) (leaf : Gathering) → goes_on before read ≡ true → length s.reading.state.containers ≡ read.kept + read.opened
    → s.reading.gathering.parts ≡ [] → s.reading.gathering.fresh ≡ false → leaf ≡ gone_on read.text s.reading.gathering
    → record s { reading = record s.reading { gathering = leaf } } ≡ gathered before read s
unfolding parts_streamed
text_comes s before read leaf test counted none fresh leaf_is =
    let g = s.reading.gathering in
    let more : Gathering = gone_on read.text g in
    ap (λ (l : Gathering). let n : Streaming = record s { reading = record s.reading { gathering = l } } in n) leaf_is
    ∙ ap (λ (ps : List PartContent). let n : Streaming = record { reading = record s.reading { gathering = record more { parts = ps } }; streamed = parts_streamed [] s.streamed } in n) none
    ∙ ap (λ (b : Bool). let n : Streaming = record { reading = record s.reading { gathering = record more { parts = []; fresh = b } }; streamed = parts_streamed [] s.streamed } in n) fresh
    ∙ ap (λ (ps : List PartContent). let n : Streaming = record { reading = record s.reading { gathering = record more { parts = []; fresh = false } }; streamed = parts_streamed ps s.streamed } in n) (sym none)
    ∙ ap (λ (h : Gathering). come_to s (record s.reading { gathering = h })) (sym (text_gathered before read s.reading.state.containers g test counted))
