use Rattle.std.proofs.Common.{List, ◌<◌, ◌+◌, ◌^◌, ◌++◌, ◌∷◌, [], map, string_bytes, ap, sym, ◌∙◌, subst, arith}
use Rattle.mad_md.specs.Flagged.{flagged_text}
use Rattle.mad_md.specs.declared.compound.Compound.{Compound}
use Rattle.mad_measure.specs.TextColumns.{width_of}
use Rattle.mad_draw.specs.Pieces.{pieces_bytes}
use Rattle.mad_format.specs.Indents.{room_of}
use Rattle.mad_rows.specs.Rows.{compound_piece}
use Rattle.mad_measure.specs.TokenPositions.{bytes_of}
use Rattle.mad_wrap.specs.CleanCut.{is_cut_clean}
use Rattle.mad_read_rows.specs.ReadRows.{WritesWrap}
use Rattle.mad_read_rows.specs.WordRows.{WritesWordWrap}
use Rattle.mad_rows.specs.RowStyles.{line_rules}
use Rattle.mad_rows.specs.declared.composites.CompositeFront.{CompositeFront}
use Rattle.mad_read_rows.proofs.ReadLemmas.{read_whole, read_wrapped, read_words, front_text}
use Rattle.mad_read_rows.proofs.read_rows.append_read.Goals as goal

pub returns-in-Some : goal.returns-in-Some
returns-in-Some c =
    let skin = c.args.skin.now in
    let kind = c.from-kind.result in
    let margins = c.margins_and_rest-margin.result.0 in
    let line = c.line_style-style.result.now in
    read_whole skin c.args.width c.in-Some._columns c.args.composite.now.style line kind c.args.composite.now.compounds margins c.room_of-room.result (string_bytes c.args.rows.now) (string_bytes c.append_whole.new.rows)
    c.from-kind.ensures c.line_style-style.ensures c.margins_and_rest-margin.ensures.margins (c.room_of-room.ensures ∙ ap (room_of (line_rules skin) kind) c.margins_and_rest-margin.ensures.inner) (c.is_aligned_left.ensures c.if-not-is_aligned_left.false)
    (c.in-Some.ensures.0 ∙ ap (λ (ps : List Compound). width_of (flagged_text ps)) c.as_slice-compounds.ensures.value) c.in-Some.ensures.1 c.ranges.width.fits
    (c.in_ok-append_whole.ensures ∙ ap (λ (ps : List Compound). string_bytes c.args.rows.now ++ (front_text skin kind margins.0 ++ (pieces_bytes (map (compound_piece skin line) ps) ++ 10 ∷ []))) c.as_slice-compounds.ensures.value)
    c.typed_composite.ensures

pub returns : goal.returns
returns c =
    let skin = c.args.skin.now in
    let kind = c.from-kind.result in
    let margins = c.margins_and_rest-margin.result.0 in
    let line = c.line_style-style.result.now in
    let r = c.room_of-room.result in
    let old = string_bytes c.args.rows.now in
    let new = string_bytes c.append_wrap.new.rows in
    let same = c.as_slice-compounds.ensures.value in
    let front : CompositeFront = record { skin = c.args.skin; style = c.line_style-style.result; kind = kind; outer = margins.0; inner = 0 } in
    let w = subst (λ (ps : List Compound). WritesWrap front r ps old new) same c.in_ok-append_wrap.ensures in
    read_wrapped skin c.args.width c.args.composite.now.style line kind c.args.composite.now.compounds margins r w.tokens w.out old new
    c.from-kind.ensures c.line_style-style.ensures c.margins_and_rest-margin.ensures.margins (c.room_of-room.ensures ∙ ap (room_of (line_rules skin) kind) c.margins_and_rest-margin.ensures.inner) (c.is_aligned_left.ensures c.if-not-is_aligned_left.false)
    (subst (λ (ps : List Compound). r.width < r.first + width_of (flagged_text ps)) same c.in_default.ensures)
    c.if-room.false
    (ap (is_cut_clean r) (sym same) ∙ sym c.is_cut_clean.ensures ∙ c.if-is_cut_clean.false)
    (subst (λ (ps : List Compound). bytes_of ps < 2 ^ 62) same (c.are_short.ensures c.if-not-are_short.false))
    (omega (arith, c.if-width-eq18446744073709551615.false, c.ranges.width.fits))
    w.cut w.rows w.bytes c.typed_composite.ensures

pub returns-then-room : goal.returns-then-room
returns-then-room c =
    let skin = c.args.skin.now in
    let kind = c.from-kind.result in
    let margins = c.margins_and_rest-margin.result.0 in
    let line = c.line_style-style.result.now in
    let r = c.room_of-room.result in
    let old = string_bytes c.args.rows.now in
    let new = string_bytes c.append_word_wrap.new.rows in
    let same = c.as_slice-compounds.ensures.value in
    let front : CompositeFront = record { skin = c.args.skin; style = c.line_style-style.result; kind = kind; outer = margins.0; inner = 0 } in
    let w = subst (λ (ps : List Compound). WritesWordWrap front r ps old new) same c.in_ok-append_word_wrap.ensures in
    read_words skin c.args.width c.args.composite.now.style line kind c.args.composite.now.compounds margins r w.tokens w.after w.out old new
    c.from-kind.ensures c.line_style-style.ensures c.margins_and_rest-margin.ensures.margins (c.room_of-room.ensures ∙ ap (room_of (line_rules skin) kind) c.margins_and_rest-margin.ensures.inner) (c.is_aligned_left.ensures c.if-not-is_aligned_left.false)
    (subst (λ (ps : List Compound). r.width < r.first + width_of (flagged_text ps)) same c.in_default.ensures)
    c.if-room.true
    (subst (λ (ps : List Compound). bytes_of ps < 2 ^ 62) same (c.are_short.ensures c.if-not-are_short.false))
    (omega (arith, c.if-width-eq18446744073709551615.false, c.ranges.width.fits))
    w.cut w.writes w.bytes c.typed_composite.ensures
