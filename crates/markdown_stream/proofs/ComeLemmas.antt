-- How lines and pieces come, and what was shown of a text.
use Rattle.std.proofs.Common.{◌≡◌, ℕ, zero, suc, ◌+◌, ◌-◌, Bool, true, false, ◌==◌, ◌&&◌, List, [], ◌∷◌, ◌++◌, map, length, drop, refl, sym, ap, ◌∙◌, subst, arith, append_assoc, append-nil, string_bytes}
use Rattle.std.proofs.lemmas.Bool.{and_parts}
use Rattle.mad_md.specs.Parts.{HasNoNewline}
use Rattle.mad_md.proofs.PartsLemmas.{true_test}
use Rattle.mad_sections.specs.Sections.{SectionContent}
use Rattle.markdown_blocks.specs.Lines.{text_lines}
use Rattle.markdown_leaves.specs.Parts.{PartContent}
use Rattle.markdown_reader.specs.Mapping.{LinkSaid, Mapping}
use Rattle.markdown_stream.specs.Come.{HasCome, Comes, Takes, Ends, lines_streamed, streamed_after, sections_there}
use Rattle.mad_stream.specs.Lines.{IsFirstLine}
use Rattle.markdown_blocks.specs.Steps.{State, state_of}
use Rattle.markdown_leaves.specs.Gather.{Gathering}
use Rattle.markdown_stream.specs.Held.{gathering_held, streaming_of}
use Rattle.markdown_stream.specs.ShowingOf.{streamed_of}
use Rattle.markdown_stream.specs.Readings.{Reading, nothing_read, step_read, line_read, lines_read, parts_read, parts_at_end, without_parts, handed_on}
use Rattle.markdown_stream.specs.Streamed.{Streamed, nothing_streamed, parts_streamed, streamed_sections}
use Rattle.markdown_stream.specs.Streaming.{Streaming, taken_from, shown_after, come_to, line_come, lines_come, text_come, gathered, goes_on, is_text, end_shown, nothing_come}
use Rattle.markdown_stream.specs.declared.section_stream.SectionStream.{SectionStream}
use Rattle.markdown_stream.proofs.HeldLemmas.{lines_come_in_turn}
use Rattle.markdown_stream.proofs.MappingLemmas.{kept}
use Rattle.markdown_stream.proofs.ReadingLemmas.{read_whole, read_joined, read_behind, hand_on, parts_come_in_turn}
use Rattle.markdown_stream.proofs.StreamingLemmas.{parts_behind, streamed_joined}

-- ---- lines

-- where no text is left, its lines have come
pub no_more_come : (rest : List ℕ) (now all : Streaming) → length rest ≡ 0 → lines_come (text_lines rest) now ≡ all → now ≡ all
unfolding lines_come text_lines
no_more_come [] now all none is = is
no_more_come (b ∷ rest) now all none is = absurd (omega arith)

-- one more line has come
pub one_more_comes : (rest line after_ : List ℕ) (now next all : Streaming) → text_lines rest ≡ line ∷ text_lines after_ → next ≡ line_come line now → lines_come (text_lines rest) now ≡ all → lines_come (text_lines after_) next ≡ all
unfolding lines_come
one_more_comes rest line after_ now next all cut next_is is =
    ap (lines_come (text_lines after_)) next_is ∙ ap (λ (ls : List (List ℕ)). lines_come ls now) (sym cut) ∙ is

-- ---- a text

-- of these lines the first were read, and what they show but for these sections and links is there
record HasShown (done : List (List ℕ)) (sections : List SectionContent) (links : List LinkSaid) (s : Streaming) : Type 0 where
  reading : s.reading ≡ handed_on (lines_read nothing_read done)
  shown : lines_streamed done ≡ streamed_after sections links s.streamed

line_shown : (done : List (List ℕ)) (line : List ℕ) (sections : List SectionContent) (links : List LinkSaid) (s : Streaming) → HasShown done sections links s → HasShown (done ++ line ∷ []) sections links (line_come line s)
unfolding lines_read
line_shown done line sections links s h =
    let r = lines_read nothing_read done in
    let more : lines_read nothing_read (done ++ line ∷ []) ≡ line_read r line = read_joined done (line ∷ []) nothing_read in
    let behind = read_behind line r in
    let here : line_read s.reading line ≡ line_read (handed_on r) line = ap (λ (q : Reading). line_read q line) h.reading in
    record {
      reading = ap handed_on here ∙ sym (ap handed_on (more ∙ behind));
      shown =
          ap (λ (q : Reading). parts_streamed (parts_read q) nothing_streamed) (more ∙ behind)
          ∙ streamed_joined (parts_read r) (parts_read (line_read (handed_on r) line)) nothing_streamed
          ∙ ap (parts_streamed (parts_read (line_read (handed_on r) line))) h.shown
          ∙ parts_behind (parts_read (line_read (handed_on r) line)) sections links s.streamed
          ∙ ap (λ (q : Reading). streamed_after sections links (parts_streamed (parts_read q) s.streamed)) (sym here);
    }

lines_shown_on : (lines done : List (List ℕ)) (sections : List SectionContent) (links : List LinkSaid) (s : Streaming) → HasShown done sections links s → HasShown (done ++ lines) sections links (lines_come lines s)
unfolding lines_come
lines_shown_on [] done sections links s h = subst (λ (ls : List (List ℕ)). HasShown ls sections links s) (sym (append-nil done)) h
lines_shown_on (line ∷ lines) done sections links s h =
    subst (λ (ls : List (List ℕ)). HasShown ls sections links (lines_come lines (line_come line s))) (append_assoc done (line ∷ []) lines)
    (lines_shown_on lines (done ++ line ∷ []) sections links (line_come line s) (line_shown done line sections links s h))

shown_so_far : (read : List ℕ) (sections : List SectionContent) (links : List LinkSaid) (s : SectionStream) → (h : HasCome read sections links s) → HasShown h.done sections links (streaming_of s)
shown_so_far read sections links s h = record { reading = h.reading; shown = h.shown }

-- before the first piece nothing has come
pub starts : (s : SectionStream) → streaming_of s ≡ nothing_come → string_bytes s.line ≡ [] → HasCome [] [] [] s
unfolding lines_read parts_streamed
starts s is line = record {
  done = [];
  joins = λ later. ap (λ (l : List ℕ). text_lines (l ++ later)) (sym line);
  begun = subst HasNoNewline (sym line) tt;
  reading = ap (λ (t : Streaming). t.reading) is;
  shown = sym (ap (λ (t : Streaming). streamed_after [] [] t.streamed) is);
}

ends_line : (begun line part later : List ℕ) → line ≡ part ++ 10 ∷ [] → text_lines (begun ++ (line ++ later)) ≡ text_lines (begun ++ line) ++ text_lines later
ends_line begun line part later ends =
    ap (λ (l : List ℕ). text_lines (begun ++ (l ++ later))) ends
    ∙ ap text_lines (ap (λ (l : List ℕ). begun ++ l) (append_assoc part (10 ∷ []) later) ∙ sym (append_assoc begun part (10 ∷ later)))
    ∙ lines_come_in_turn (begun ++ part) later
    ∙ ap (λ (l : List ℕ). text_lines l ++ text_lines later) (append_assoc begun part (10 ∷ []) ∙ ap (λ (l : List ℕ). begun ++ l) (sym ends))

-- a line that has begun ends, with a newline
line_ends : (old new : SectionStream) (line part : List ℕ) → line ≡ part ++ 10 ∷ [] → string_bytes new.line ≡ [] → streaming_of new ≡ text_come (string_bytes old.line ++ line) (streaming_of old) → Comes old line new
line_ends old new line part ends empty come read sections links h =
    let lines = text_lines (string_bytes old.line ++ line) in
    let shown : HasShown (h.done ++ lines) sections links (streaming_of new) =
    subst (λ (s : Streaming). HasShown (h.done ++ lines) sections links s) (sym come) (lines_shown_on lines h.done sections links (streaming_of old) (shown_so_far read sections links old h)) in
    record {
      done = h.done ++ lines;
      joins = λ later.
          ap text_lines (append_assoc read line later) ∙ h.joins (line ++ later)
          ∙ ap (λ (ls : List (List ℕ)). h.done ++ ls) (ends_line (string_bytes old.line) line part later ends)
          ∙ sym (append_assoc h.done lines (text_lines later)) ∙ ap (λ (l : List ℕ). (h.done ++ lines) ++ text_lines (l ++ later)) (sym empty);
      begun = subst HasNoNewline (sym empty) tt;
      reading = shown.reading;
      shown = shown.shown;
    }

no_newline_both : (a b : List ℕ) → HasNoNewline a → HasNoNewline b → HasNoNewline (a ++ b)
no_newline_both [] b h k = k
no_newline_both (x ∷ a) b h k = (h.0, no_newline_both a b h.1 k)

-- the line that has begun goes on
line_goes_on : (old new : SectionStream) (rest : List ℕ) → HasNoNewline rest → string_bytes new.line ≡ string_bytes old.line ++ rest → streaming_of new ≡ streaming_of old → Comes old rest new
line_goes_on old new rest none line same read sections links h =
    let shown : HasShown h.done sections links (streaming_of new) = subst (λ (s : Streaming). HasShown h.done sections links s) (sym same) (shown_so_far read sections links old h) in
    record {
      done = h.done;
      joins = λ later. ap text_lines (append_assoc read rest later) ∙ h.joins (rest ++ later)
          ∙ ap (λ (l : List ℕ). h.done ++ text_lines l) (sym (append_assoc (string_bytes old.line) rest later) ∙ ap (λ (l : List ℕ). l ++ later) (sym line));
      begun = subst HasNoNewline (sym line) (no_newline_both (string_bytes old.line) rest h.begun none);
      reading = shown.reading;
      shown = shown.shown;
    }

-- ---- a piece

-- this front of a piece was taken
pub record TakenSoFar (piece rest : List ℕ) (old new : SectionStream) : Type 0 where
  pub front : List ℕ
  pub joins : piece ≡ front ++ rest
  pub come : Comes old front new

come_of : (read other : List ℕ) (sections : List SectionContent) (links : List LinkSaid) (s : SectionStream) → other ≡ read → HasCome read sections links s → HasCome other sections links s
come_of read other sections links s is h = subst (λ (r : List ℕ). HasCome r sections links s) (sym is) h

-- at first nothing of the piece was taken
pub taken_start : (piece : List ℕ) (old : SectionStream) → TakenSoFar piece piece old old
taken_start piece old = record { front = []; joins = refl; come = λ read sections links h. come_of read (read ++ []) sections links old (append-nil read) h }

comes_on : (old mid new : SectionStream) (first next : List ℕ) → Comes old first mid → Comes mid next new → Comes old (first ++ next) new
comes_on old mid new first next c d read sections links h =
    come_of ((read ++ first) ++ next) (read ++ (first ++ next)) sections links new (sym (append_assoc read first next)) (d (read ++ first) sections links (c read sections links h))

-- one more line of the piece was taken
pub taken_more : (piece rest line after_ : List ℕ) (old mid new : SectionStream) → TakenSoFar piece rest old mid → IsFirstLine rest line after_
    → string_bytes new.line ≡ [] → streaming_of new ≡ text_come (string_bytes mid.line ++ line) (streaming_of mid) → TakenSoFar piece after_ old new
taken_more piece rest line after_ old mid new t first empty come = record {
  front = t.front ++ line;
  joins = t.joins ∙ ap (λ (l : List ℕ). t.front ++ l) first.joins ∙ sym (append_assoc t.front line after_);
  come = comes_on old mid new t.front line t.come (line_ends mid new line first.part first.ends empty come);
}

-- where no newline is left, all of the piece is taken
pub taken_all : (piece rest : List ℕ) (old mid new : SectionStream) → TakenSoFar piece rest old mid → HasNoNewline rest → string_bytes new.line ≡ string_bytes mid.line ++ rest → streaming_of new ≡ streaming_of mid → Comes old piece new
taken_all piece rest old mid new t none line same =
    subst (λ (l : List ℕ). Comes old l new) (sym t.joins) (comes_on old mid new t.front rest t.come (line_goes_on mid new rest none line same))

-- what was there was taken
pub takes : (old new : SectionStream) → new.line ≡ old.line → (streaming_of new).reading ≡ (streaming_of old).reading → (streaming_of new).streamed ≡ taken_from (streaming_of old).streamed → Takes old new
takes old new line reading taken read sections links h =
    let s = (streaming_of old).streamed in
    let all = streamed_after sections links s in
    record {
      done = h.done;
      joins = λ later. h.joins later ∙ ap (λ (l : _). h.done ++ text_lines (string_bytes l ++ later)) (sym line);
      begun = subst (λ (l : _). HasNoNewline (string_bytes l)) (sym line) h.begun;
      reading = reading ∙ h.reading;
      shown = h.shown ∙ ap (λ (m : Mapping). let n : Streamed = record s { mapping = m } in n) (kept all.mapping) ∙ ap (streamed_after all.mapping.sections all.mapping.links) (sym taken);
    }

whole_end : (r : Reading) → parts_at_end r ≡ parts_read r ++ parts_at_end (handed_on r)
unfolding lines_read
whole_end r = hand_on [] r

-- at the end all is there that wasn't taken
pub ends_text : (old mid new : SectionStream) → streaming_of mid ≡ text_come (string_bytes old.line ++ []) (streaming_of old) → (streaming_of new).streamed ≡ end_shown (streaming_of mid) → Ends old new
unfolding streamed_sections
ends_text old mid new come ended read sections links h =
    let lines = text_lines (string_bytes old.line ++ []) in
    let all = h.done ++ lines in
    let r = lines_read nothing_read all in
    let s = streaming_of mid in
    let shown : HasShown all sections links s =
    subst (λ (t : Streaming). HasShown all sections links t) (sym come) (lines_shown_on lines h.done sections links (streaming_of old) (shown_so_far read sections links old h)) in
    let whole : text_lines read ≡ all = ap text_lines (sym (append-nil read)) ∙ h.joins [] in
    ap (λ (t : Streamed). t.mapping.sections) (
    ap (λ (ps : List PartContent). parts_streamed ps nothing_streamed) (read_whole read ∙ ap (λ (ls : List (List ℕ)). parts_at_end (lines_read nothing_read ls)) whole ∙ whole_end r)
    ∙ streamed_joined (parts_read r) (parts_at_end (handed_on r)) nothing_streamed
    ∙ ap (parts_streamed (parts_at_end (handed_on r))) shown.shown
    ∙ ap (λ (q : Reading). parts_streamed (parts_at_end q) (streamed_after sections links s.streamed)) (sym shown.reading)
    ∙ parts_behind (parts_at_end s.reading) sections links s.streamed
    ∙ ap (streamed_after sections links) (sym ended)
    )

-- a stream whose parts are new is new
pub new_streaming : (s : SectionStream) → state_of s.reader ≡ nothing_read.state → gathering_held s.leaf ≡ nothing_read.gathering → streamed_of s.showing ≡ nothing_streamed → streaming_of s ≡ nothing_come
new_streaming s state gathering streamed =
    ap (λ (st : State). let n : Streaming = record { reading = record { state = st; gathering = gathering_held s.leaf }; streamed = streamed_of s.showing } in n) state
    ∙ ap (λ (g : Gathering). let n : Streaming = record { reading = record { state = nothing_read.state; gathering = g }; streamed = streamed_of s.showing } in n) gathering
    ∙ ap (λ (t : Streamed). let n : Streaming = record { reading = nothing_read; streamed = t } in n) streamed

-- whatever comes, the sections that were taken are the first of the text
pub shown_on : (read next : List ℕ) (sections : List SectionContent) (links : List LinkSaid) (s : SectionStream) → HasCome read sections links s → (rest : List SectionContent) × (streamed_sections (read ++ next) ≡ sections ++ rest)
unfolding streamed_sections
shown_on read next sections links s h =
    let more = text_lines (string_bytes s.line ++ next) in
    let later = parts_at_end (lines_read (handed_on (lines_read nothing_read h.done)) more) in (
      (parts_streamed later (streaming_of s).streamed).mapping.sections,
      ap (λ (t : Streamed). t.mapping.sections) (
          ap (λ (ps : List PartContent). parts_streamed ps nothing_streamed) (parts_come_in_turn (read ++ next) h.done more (h.joins next))
          ∙ streamed_joined (parts_read (lines_read nothing_read h.done)) later nothing_streamed
          ∙ ap (parts_streamed later) h.shown
          ∙ parts_behind later sections links (streaming_of s).streamed
          ),
    )

-- where nothing is there, the sections that were taken are those of the lines
pub all_taken : (done : List (List ℕ)) (sections : List SectionContent) (links : List LinkSaid) (s : SectionStream) → lines_streamed done ≡ streamed_after sections links (streaming_of s).streamed → sections_there s ≡ [] → (lines_streamed done).mapping.sections ≡ sections
all_taken done sections links s shown empty = ap (λ (t : Streamed). t.mapping.sections) shown ∙ ap (λ (ss : List SectionContent). sections ++ ss) empty ∙ append-nil sections
