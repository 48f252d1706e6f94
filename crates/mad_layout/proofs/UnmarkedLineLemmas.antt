-- Unmarked lines, which are written as they are.
use Rattle.std.proofs.Common.{◌≡◌, ℕ, ◌+◌, ◌-◌, ◌<◌, ◌≤◌, ◌^◌, true, false, List, [], ◌∷◌, ◌++◌, map, length, drop, get_or, chars, Option, None, Some, Result, Ok, Err, Vec, Global, Bor, refl, ap, sym, ◌∙◌, subst, arith, inl, append_assoc}
use Rattle.std.specs.Prelude.{nat_eq, OnOk}
use Rattle.std.specs.List.{AllByRecursion}
use Rattle.std.specs.Str.{IsUtf8, bytes_eq}
use Rattle.std.specs.Result.{IsErrAnd}
use Rattle.std.proofs.StrCases.{chars_of_empty}
use Rattle.std.proofs.lemmas.Bool.Decides.{nat_tests}
use Rattle.std.proofs.lemmas.Grind.{flat_map-append}
use Rattle.std.proofs.lemmas.List.{append-nil, length-append, length-drop}
use Rattle.mad_md.proofs.UnmarkedLemmas.{and_not, unmarked_low}
use Rattle.mad_md.specs.Flagged.{Run, unflagged, flagged, flagged_text, run_of}
use Rattle.mad_md.specs.Lines.{LineContent}
use Rattle.mad_md.specs.TypedLines.{IsTypedRun}
use Rattle.mad_md.specs.UnmarkedLines.{AreUnmarkedBytes, is_unmarked_byte}
use Rattle.mad_md.specs.ReadRaw.{raw_runs, unflagged_line}
use Rattle.mad_md.specs.declared.compound.Compound.{Compound}
use Rattle.mad_style.specs.LineStyles.{margins_at}
use Rattle.mad_style.specs.declared.kinds.CompositeKind.TheVariants.{Paragraph}
use Rattle.mad_measure.specs.TextColumns.{columns, width_of}
use Rattle.mad_measure.specs.Completions.{left_completion}
use Rattle.mad_measure.proofs.AllLemmas.{all_push}
use Rattle.mad_measure.proofs.FlaggedLemmas.{width_of-flagged}
use Rattle.mad_measure.proofs.AsciiFrontLemmas.{ascii_front_is}
use Rattle.mad_term.specs.Styles.{IsUnstyled}
use Rattle.mad_term.specs.Draws.{Refused}
use Rattle.mad_term.specs.Trace.{Trace, after}
use Rattle.mad_term.specs.declared.errors.Error.{Error}
use Rattle.mad_term.proofs.Exits.{refused_in_second}
use Rattle.mad_term.proofs.Traces.{took_both, took_none}
use Rattle.mad_draw.specs.Pieces.{pieces_bytes, spaces}
use Rattle.mad_format.specs.CompositeWraps.{IsCompositeWrap}
use Rattle.mad_blocks.specs.Layouts.{IsLayoutAt}
use Rattle.mad_format.specs.FmtLines.{IsLineRead}
use Rattle.mad_blocks.specs.LayoutParts.{wrap_width, IsLineAt}
use Rattle.mad_blocks.specs.PartCursors.{LaidPart}
use Rattle.mad_layout.specs.UnmarkedRows.{IsAlone, IsUnmarkedWidth, HandsOnUnmarked}
use Rattle.mad_rows.specs.Rows.{compound_piece, left_of_place, line_bytes, text_bytes}
use Rattle.mad_rows.specs.RowStyles.{line_rules, compound_style, ellipsis_bytes}
use Rattle.mad_format.specs.WrappedLines.{line_with}
use Rattle.mad_layout.specs.WrittenParts.{HandsOn, WritesPartsOf}
use Rattle.mad_rows.specs.declared.row_skin.RowSkin.{RowSkin}
use Rattle.mad_format.specs.declared.composite.FmtComposite.{FmtComposite}
use Rattle.mad_format.specs.declared.line.FmtLine.{FmtLine}
use Rattle.mad_format.specs.declared.line.FmtLine.TheVariants.{Normal}
use Rattle.mad_layout.proofs.FlaggedTokens.{if_false}
use Rattle.mad_blocks.specs.TextParts.{apart}
use Rattle.mad_blocks.proofs.LayoutJoins.{apart_front, layouts_joined}
use Rattle.mad_blocks.proofs.PartCursorLemmas.{LaidSoFar, apart_after, laid_more, single_apart}
use Rattle.mad_rows.proofs.PieceLemmas.{bare_piece}
use Rattle.mad_layout.proofs.WrittenLemmas.{hands_refused, WrittenSoFar, written_more, written_refused, no_whole}

-- ---- the line that an unmarked text is

-- a vector of at most one compound, in whatever memory
abbrev holding : Vec FmtLine Global → List ℕ → Bor (List ℕ) → Vec Compound Global
holding v [] text = record { ptr = v.ptr; len = 0; cap = 0; alloc = v.alloc; items = []; ok = (refl, omega arith); small = omega arith }
holding v (b ∷ bs) text = record { ptr = v.ptr; len = 1; cap = 1; alloc = v.alloc; items = record { src = text; bold = false; italic = false; code = false; strikeout = false; link = false; picture = false; picture_sign = false } ∷ []; ok = (refl, omega arith); small = omega arith }

-- what was read, and the line that it becomes
abbrev source : Vec FmtLine Global → List ℕ → Bor (List ℕ) → FmtComposite
source v bs text = record { kind = Paragraph; compounds = holding v bs text; visible_length = length bs; spacing = None; margins = None }

-- the line that an unmarked text becomes
abbrev pub made : Vec FmtLine Global → List ℕ → Bor (List ℕ) → FmtLine
made v bs text = line_with (0, 0) (source v bs text)

abbrev AllUnmarked : List ℕ → Type 0
AllUnmarked bs = AreUnmarkedBytes bs (length bs)

abbrev one_run : List ℕ → List Run
one_run t = record { flags = unflagged; text = t } ∷ []

holding_says : (v : Vec FmtLine Global) (bs : List ℕ) (text : Bor (List ℕ)) → text.now ≡ bs → map run_of (holding v bs text).items ≡ raw_runs bs
holding_says v [] text is = refl
holding_says v (b ∷ bs) text is = ap one_run is

holding_width : (v : Vec FmtLine Global) (bs : List ℕ) (text : Bor (List ℕ)) → text.now ≡ bs → width_of (flagged_text (holding v bs text).items) ≡ columns (chars bs)
holding_width v [] text is = ap columns (sym (chars_of_empty [] refl))
holding_width v (b ∷ bs) text is =
    ap width_of (append-nil (flagged unflagged (chars text.now))) ∙ width_of-flagged unflagged (chars text.now) ∙ ap (λ t. columns (chars t)) is

raw_typed : (bs : List ℕ) → IsUtf8 bs → AllByRecursion IsTypedRun (raw_runs bs)
raw_typed [] utf8 = tt
raw_typed (b ∷ bs) utf8 = (utf8, tt)

high : (b : ℕ) → is_unmarked_byte b ≡ true → b < 127
high b h = grind (arith, nat_tests)

unmarked_columns : (bs : List ℕ) → IsUtf8 bs → AllUnmarked bs → columns (chars bs) ≡ length bs
unmarked_columns bs utf8 h =
    let front = ascii_front_is bs (length bs) utf8 (omega arith) (λ k below. (unmarked_low (get_or bs k 0) (h k below), high (get_or bs k 0) (h k below))) in
    let none : columns (chars (drop (length bs) bs)) ≡ 0 = ap columns (chars_of_empty (drop (length bs) bs) (omega (arith, length-drop (length bs) bs))) in
    omega (arith, front.columns_are, none)

-- ---- its layout

read_unmarked : (skin : RowSkin) (v : Vec FmtLine Global) (bs : List ℕ) (text : Bor (List ℕ)) → text.now ≡ bs → IsUtf8 bs → AllUnmarked bs → length bs < 2 ^ 64 → IsLineRead (line_rules skin) (unflagged_line bs) (Normal (source v bs text))
read_unmarked skin v bs text is utf8 h range = record {
  kind = refl;
  text = holding_says v bs text is;
  measured = omega (arith, holding_width v bs text is, unmarked_columns bs utf8 h, range);
  spacing = refl;
  margins = refl;
  known = record { style = tt; runs = raw_typed bs utf8 };
}

both : (m : ℕ × ℕ) → m.0 ≡ 0 → m.1 ≡ 0 → m ≡ (0, 0)
both (a, b) h k = ap (λ (n : ℕ). (n, b)) h ∙ ap (λ (n : ℕ). (0, n)) k

stays_unmarked : (skin : RowSkin) (width : Option ℕ) (most : ℕ) (v : Vec FmtLine Global) (bs : List ℕ) (text : Bor (List ℕ)) → IsUnmarkedWidth skin width most → length bs ≤ most
    → IsLineAt IsCompositeWrap (line_rules skin) (wrap_width width) (Normal (source v bs text)) (made v bs text ∷ [])
stays_unmarked skin width most v bs text h fits =
    let left = h.left_margin in
    let right = h.right_margin in
    let margins : margins_at skin.paragraph (Some most) ≡ (0, 0) = both _ h.left_margin h.right_margin in
    subst (λ (w : Option ℕ). IsLineAt IsCompositeWrap (line_rules skin) w (Normal (source v bs text)) (made v bs text ∷ [])) (sym h.wraps)
    (inl (omega (arith, fits, left, right), ap (λ (m : ℕ × ℕ). line_with m (source v bs text) ∷ []) (sym margins)))

-- an unmarked text that fits has this line as its layout
pub unmarked_layout : (skin : RowSkin) (width : Option ℕ) (most : ℕ) (v : Vec FmtLine Global) (bs : List ℕ) (text : Bor (List ℕ)) → IsUnmarkedWidth skin width most → length bs ≤ most → text.now ≡ bs → IsUtf8 bs → AllUnmarked bs → length bs < 2 ^ 64
    → IsLayoutAt (line_rules skin) width (unflagged_line bs ∷ []) (made v bs text ∷ [])
unmarked_layout skin width most v bs text h fits is utf8 all range = record {
  read = Normal (source v bs text) ∷ [];
  reads = (read_unmarked skin v bs text is utf8 all range, tt);
  laid = (made v bs text ∷ [], [], refl, (made v bs text ∷ [], [], refl, stays_unmarked skin width most v bs text h fits, refl), refl);
}

-- ---- its bytes

no_left : (skin : RowSkin) (width : Option ℕ) (n : ℕ) → ((rest : ℕ) → left_completion skin.paragraph.align rest ≡ 0) → left_of_place skin.paragraph.align n width ≡ 0
no_left skin None n h = refl
no_left skin (Some outer) n h = h (outer - n)

other_text : (b : ℕ) (bs text : List ℕ) → text ≡ b ∷ bs → is_unmarked_byte b ≡ true → bytes_eq text ellipsis_bytes ≡ false
other_text b bs text is h =
    let other : nat_eq b 226 ≡ false = grind (arith, nat_tests) in
    ap (λ t. bytes_eq t ellipsis_bytes) is ∙ and_not _ _ other

text_piece : (skin : RowSkin) (v : Vec FmtLine Global) (bs : List ℕ) (text : Bor (List ℕ)) → IsUnstyled skin.paragraph.compound_style.object_style → text.now ≡ bs → AllUnmarked bs
    → pieces_bytes (map (compound_piece skin skin.paragraph) (holding v bs text).items) ≡ bs
text_piece skin v [] text unstyled is h = refl
text_piece skin v (b ∷ bs) text unstyled is h =
    let p : Compound = record { src = text; bold = false; italic = false; code = false; strikeout = false; link = false; picture = false; picture_sign = false } in
    let same : compound_style skin skin.paragraph (run_of p) ≡ skin.paragraph.compound_style = if_false _ _ _ (other_text b bs text.now is (h 0 (omega arith))) in
    append-nil _ ∙ sym (bare_piece skin skin.paragraph p unstyled same) ∙ is

-- its row is the text, and a newline
pub unmarked_bytes : (skin : RowSkin) (width : Option ℕ) (most : ℕ) (v : Vec FmtLine Global) (bs : List ℕ) (text : Bor (List ℕ)) → IsUnmarkedWidth skin width most → text.now ≡ bs → AllUnmarked bs
    → line_bytes skin width (made v bs text) ≡ bs ++ 10 ∷ []
unmarked_bytes skin width most v bs text h is all =
    let ps = map (compound_piece skin skin.paragraph) (holding v bs text).items in
    let none : left_of_place skin.paragraph.align (length bs + 0 + 0) width + 0 ≡ 0 = omega (arith, no_left skin width (length bs + 0 + 0) h.left) in
    ap (λ n. pieces_bytes (spaces skin.paragraph.compound_style n ++ (ps ++ [])) ++ 10 ∷ []) none
    ∙ ap (λ qs. pieces_bytes qs ++ 10 ∷ []) (append-nil ps)
    ∙ ap (λ (t : List ℕ). t ++ 10 ∷ []) (text_piece skin v bs text h.style is all)

-- ---- what is written so far

-- each of the lines is a part by itself
abbrev pub AllAlone : List LineContent → Type 0
AllAlone ls = AllByRecursion IsAlone ls

-- The first lines are rows that went out or are kept.
pub record UnmarkedSoFar (skin : RowSkin) (width : Option ℕ) (before left : List LineContent) (bytes kept : List ℕ) (old new : Trace) : Type 0 where
  pub taken : List LineContent
  pub lines : List FmtLine
  pub sent : List ℕ
  pub joins : before ≡ taken ++ left
  pub alone : AllAlone taken
  pub layout : IsLayoutAt (line_rules skin) width taken lines
  pub both : bytes ++ text_bytes skin width lines ≡ sent ++ kept
  pub went : new ≡ after old sent

-- the bytes in front were handed on, and no line was taken yet
pub unmarked_start : (skin : RowSkin) (width : Option ℕ) (before : List LineContent) (bytes kept : List ℕ) (old new : Trace) → HandsOn {T = Unit {0}} old bytes (Ok (tt {0})) new kept → UnmarkedSoFar skin width before before bytes kept old new
unmarked_start skin width before bytes kept old new (sent, both, went) = record {
  taken = [];
  lines = [];
  sent = sent;
  joins = refl;
  alone = tt;
  layout = record { read = []; reads = tt; laid = refl };
  both = append-nil bytes ∙ both;
  went = went;
}

-- no part goes on from such lines
pub alone_apart : (front rest : List LineContent) → AllAlone front → apart front rest ≡ true
alone_apart [] rest h = refl
alone_apart (c ∷ []) rest h = single_apart c rest h.0.0 h.0.1
alone_apart (c ∷ d ∷ cs) rest h = alone_apart (d ∷ cs) rest h.1

-- one more line is kept
pub unmarked_more : (skin : RowSkin) (width : Option ℕ) (before left later : List LineContent) (c : LineContent) (l : FmtLine) (bytes kept new_kept : List ℕ) (old new : Trace)
    → UnmarkedSoFar skin width before left bytes kept old new → left ≡ c ∷ later → IsAlone c → IsLayoutAt (line_rules skin) width (c ∷ []) (l ∷ []) → new_kept ≡ kept ++ line_bytes skin width l
    → UnmarkedSoFar skin width before later bytes new_kept old new
unmarked_more skin width before left later c l bytes kept new_kept old new h is kind laid row =
    let more : text_bytes skin width (h.lines ++ l ∷ []) ≡ text_bytes skin width h.lines ++ line_bytes skin width l =
    flat_map-append (line_bytes skin width) h.lines (l ∷ []) ∙ ap (λ (t : List ℕ). text_bytes skin width h.lines ++ t) (append-nil (line_bytes skin width l)) in
    record {
      taken = h.taken ++ c ∷ [];
      lines = h.lines ++ l ∷ [];
      sent = h.sent;
      joins = h.joins ∙ ap (λ (ls : List LineContent). h.taken ++ ls) is ∙ sym (append_assoc h.taken (c ∷ []) later);
      alone = all_push _ h.taken c h.alone kind;
      layout = layouts_joined (line_rules skin) width h.taken (c ∷ []) h.lines (l ∷ []) (alone_apart h.taken (c ∷ []) h.alone) h.layout laid;
      both = ap (λ (t : List ℕ). bytes ++ t) more ∙ sym (append_assoc bytes (text_bytes skin width h.lines) (line_bytes skin width l)) ∙ ap (λ (t : List ℕ). t ++ line_bytes skin width l) h.both
          ∙ append_assoc h.sent kept (line_bytes skin width l) ∙ ap (λ (t : List ℕ). h.sent ++ t) (sym row);
      went = h.went;
    }

-- what was kept is handed on
pub unmarked_sent : (skin : RowSkin) (width : Option ℕ) (before left : List LineContent) (bytes kept new_kept : List ℕ) (old mid new : Trace)
    → UnmarkedSoFar skin width before left bytes kept old mid → HandsOn {T = Unit {0}} mid kept (Ok (tt {0})) new new_kept → UnmarkedSoFar skin width before left bytes new_kept old new
unmarked_sent skin width before left bytes kept new_kept old mid new h (sent, both, went) = record {
  taken = h.taken;
  lines = h.lines;
  sent = h.sent ++ sent;
  joins = h.joins;
  alone = h.alone;
  layout = h.layout;
  both = h.both ∙ ap (λ (t : List ℕ). h.sent ++ t) both ∙ sym (append_assoc h.sent sent new_kept);
  went = took_both old mid new h.sent sent h.went went;
}

-- ---- exits

-- the lines that are left, once no more is taken
unmarked_ended : {T : Type 0} (skin : RowSkin) (width : Option ℕ) (before left rest : List LineContent) (bytes kept new_kept : List ℕ) (r : Result T Error) (old mid new : Trace) → (h : UnmarkedSoFar skin width before left bytes kept old mid)
    → HandsOn old (bytes ++ text_bytes skin width h.lines) r new new_kept → OnOk r (rest ≡ left) → HandsOnUnmarked skin width before bytes old r new new_kept rest
unmarked_ended {T} skin width before left rest bytes kept new_kept r old mid new h handed is = record {
  taken = h.taken;
  later = left;
  joins = h.joins;
  alone = h.alone;
  lines = h.lines;
  layout = h.layout;
  handed = handed;
  rest = is;
}

-- where no more is taken, the lines so far are handed on
pub unmarked_done : (skin : RowSkin) (width : Option ℕ) (before left : List LineContent) (bytes kept : List ℕ) (old new : Trace) → UnmarkedSoFar skin width before left bytes kept old new
    → HandsOnUnmarked {T = Unit {0}} skin width before bytes old (Ok (tt {0})) new kept left
unmarked_done skin width before left bytes kept old new h = unmarked_ended skin width before left left bytes kept kept (Ok (tt {0})) old new new h (h.sent, h.both, h.went) refl

-- the bytes that are kept were refused
pub unmarked_refused : {T : Type 0} (skin : RowSkin) (width : Option ℕ) (before left rest : List LineContent) (bytes kept new_kept : List ℕ) (r : Result T Error) (e : Error) (old mid new : Trace) → UnmarkedSoFar skin width before left bytes kept old mid
    → IsErrAnd r (λ d. d ≡ e) → Refused mid kept e new → HandsOnUnmarked skin width before bytes old r new new_kept rest
unmarked_refused {T} skin width before left rest bytes kept new_kept r e old mid new h is refused = unmarked_ended skin width before left rest bytes kept new_kept r old mid new h
    (hands_refused r e old new (bytes ++ text_bytes skin width h.lines) new_kept is (subst (λ (b : List ℕ). Refused old b e new) (sym h.both) (refused_in_second e old mid new h.sent kept h.went refused)))
    (no_whole r e (rest ≡ left) is)

-- the lines in front were refused
pub unmarked_none : {T : Type 0} (skin : RowSkin) (width : Option ℕ) (before rest : List LineContent) (bytes kept : List ℕ) (r : Result T Error) (e : Error) (old new : Trace) → IsErrAnd r (λ d. d ≡ e) → Refused old bytes e new
    → HandsOnUnmarked skin width before bytes old r new kept rest
unmarked_none {T} skin width before rest bytes kept r e old new is refused =
    unmarked_refused skin width before before rest bytes bytes kept r e old old new (unmarked_start skin width before bytes bytes old old ([], refl, took_none old)) is refused

-- a text and a newline after the rows that are kept
pub row_put : (kept text mid new row : List ℕ) → mid ≡ kept ++ text → new ≡ mid ++ 10 ∷ [] → row ≡ text ++ 10 ∷ [] → new ≡ kept ++ row
row_put kept text mid new row first last is = last ∙ ap (λ (t : List ℕ). t ++ 10 ∷ []) first ∙ append_assoc kept text (10 ∷ []) ∙ ap (λ (t : List ℕ). kept ++ t) (sym is)

-- an unmarked line more, whose bytes and newline were put after those that are kept
pub unmarked_put : (skin : RowSkin) (width : Option ℕ) (most : ℕ) (v : Vec FmtLine Global) (text : Bor (List ℕ)) (before left later : List LineContent) (bytes kept mid new_kept : List ℕ) (old new : Trace)
    → IsUnmarkedWidth skin width most → length text.now ≤ most → IsUtf8 text.now → AllUnmarked text.now → length text.now < 2 ^ 64
    → left ≡ unflagged_line text.now ∷ later → mid ≡ kept ++ text.now → new_kept ≡ mid ++ 10 ∷ []
    → UnmarkedSoFar skin width before left bytes kept old new → UnmarkedSoFar skin width before later bytes new_kept old new
unmarked_put skin width most v text before left later bytes kept mid new_kept old new h fits utf8 all range is first last so_far =
    let laid = unmarked_layout skin width most v text.now text h fits refl utf8 all range in
    let row = row_put kept text.now mid new_kept (line_bytes skin width (made v text.now text)) first last (unmarked_bytes skin width most v text.now text h refl all) in
    unmarked_more skin width before left later (unflagged_line text.now) (made v text.now text) bytes kept new_kept old new so_far is (refl, refl) laid row

-- ---- after the part in front

apart_both : (front taken later : List LineContent) → apart front (taken ++ later) ≡ true → AllAlone taken → apart (front ++ taken) later ≡ true
apart_both front [] later whole alone = subst (λ (ls : List LineContent). apart ls later ≡ true) (sym (append-nil front)) whole
apart_both front (c ∷ cs) later whole alone = apart_after front cs c later (alone_apart (c ∷ cs) later alone)

-- lines that are parts by themselves follow
laid_alone : (skin : RowSkin) (width : Option ℕ) (all left taken later : List LineContent) (done own : List FmtLine) → LaidSoFar (line_rules skin) width all left done → left ≡ taken ++ later → AllAlone taken → IsLayoutAt (line_rules skin) width taken own
    → LaidSoFar (line_rules skin) width all later (done ++ own)
laid_alone skin width all left taken later done own h is alone laid =
    let whole : apart h.front (taken ++ later) ≡ true = subst (λ (ls : List LineContent). apart h.front ls ≡ true) is h.whole in
    record {
      front = h.front ++ taken;
      joins = h.joins ∙ ap (λ (ls : List LineContent). h.front ++ ls) is ∙ sym (append_assoc h.front taken later);
      whole = apart_both h.front taken later whole alone;
      layout = layouts_joined (line_rules skin) width h.front taken done own (apart_front h.front taken later whole) h.layout laid;
    }

-- A part was laid out where no lines were, and it and the unmarked lines after it are more than what was laid out.
unmarked_laid : {T : Type 0} (skin : RowSkin) (width : Option ℕ) (all left later rest : List LineContent) (done lines new : List FmtLine) (bytes kept : List ℕ) (r : Result T Error) (mid end : Trace) → LaidSoFar (line_rules skin) width all left done
    → (p : LaidPart (line_rules skin) width left lines later new) → (q : HandsOnUnmarked skin width later bytes mid r end kept rest) → LaidSoFar (line_rules skin) width all q.later (done ++ (p.own ++ q.lines))
unmarked_laid {T} skin width all left later rest done lines new bytes kept r mid end h p q =
    subst (LaidSoFar (line_rules skin) width all q.later) (append_assoc done p.own q.lines)
    (laid_alone skin width all later q.taken q.later (done ++ p.own) q.lines (laid_more (line_rules skin) width all left later done lines new h p) q.joins q.alone q.layout)

rows_both : (skin : RowSkin) (width : Option ℕ) (kept : List ℕ) (lines new own more : List FmtLine) → new ≡ lines ++ own → lines ≡ [] → (kept ++ text_bytes skin width new) ++ text_bytes skin width more ≡ kept ++ text_bytes skin width (own ++ more)
rows_both skin width kept lines new own more added none =
    ap (λ (ls : List FmtLine). (kept ++ text_bytes skin width ls) ++ text_bytes skin width more) (added ∙ ap (λ (ls : List FmtLine). ls ++ own) none)
    ∙ append_assoc kept (text_bytes skin width own) (text_bytes skin width more) ∙ ap (λ (t : List ℕ). kept ++ t) (sym (flat_map-append (line_bytes skin width) own more))

-- a part and the unmarked lines after it are handed on
pub written_unmarked : (skin : RowSkin) (width : Option ℕ) (all left later rest : List LineContent) (lines new : List FmtLine) (kept new_kept : List ℕ) (old mid end : Trace) → WrittenSoFar skin width all left kept old mid
    → LaidPart (line_rules skin) width left lines later new → lines ≡ [] → HandsOnUnmarked {T = Unit {0}} skin width later (kept ++ text_bytes skin width new) mid (Ok (tt {0})) end new_kept rest → WrittenSoFar skin width all rest new_kept old end
written_unmarked skin width all left later rest lines new kept new_kept old mid end h p none q =
    let handed = q.handed in
    subst (λ (ls : List LineContent). WrittenSoFar skin width all ls new_kept old end) (sym q.rest)
    (written_more skin width all left q.later (p.own ++ q.lines) kept new_kept old mid end h (unmarked_laid skin width all left later rest h.done lines new _ new_kept (Ok (tt {0})) mid end h.laid p q)
    (handed.0, sym (rows_both skin width kept lines new p.own q.lines p.added none) ∙ handed.1, handed.2))

-- they are refused
pub written_unmarked_refused : {T : Type 0} (skin : RowSkin) (width : Option ℕ) (all left later rest : List LineContent) (lines new : List FmtLine) (kept new_kept : List ℕ) (r : Result T Error) (e : Error) (old mid end : Trace)
    → WrittenSoFar skin width all left kept old mid → LaidPart (line_rules skin) width left lines later new → lines ≡ []
    → HandsOnUnmarked {T = Unit {0}} skin width later (kept ++ text_bytes skin width new) mid (Err e) end new_kept rest → IsErrAnd r (λ d. d ≡ e) → WritesPartsOf skin width all old r end
written_unmarked_refused {T} skin width all left later rest lines new kept new_kept r e old mid end h p none q is =
    written_refused skin width all left q.later (p.own ++ q.lines) kept r e old mid end h (unmarked_laid skin width all left later rest h.done lines new _ new_kept (Err e) mid end h.laid p q) is
    (subst (λ (b : List ℕ). Refused mid b e end) (rows_both skin width kept lines new p.own q.lines p.added none) q.handed)

-- no more lines are left than were
pub unmarked_shorter : (skin : RowSkin) (width : Option ℕ) (before left : List LineContent) (bytes kept : List ℕ) (old new : Trace) → HandsOnUnmarked {T = Unit {0}} skin width before bytes old (Ok (tt {0})) new kept left → length left ≤ length before
unmarked_shorter skin width before left bytes kept old new q = omega (arith, ap length q.joins, ap length q.rest, length-append q.taken q.later)
