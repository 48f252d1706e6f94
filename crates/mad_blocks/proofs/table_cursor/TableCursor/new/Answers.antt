use Rattle.std.proofs.Common.{◌≡◌, ◌⊎◌, ◌<◌, [], List, map, ap, sym, ◌∙◌, subst, rules}
use Rattle.mad_md.specs.Lines.{content_of}
use Rattle.mad_md.specs.declared.line.Line.{Line}
use Rattle.mad_blocks.specs.Layouts.{AreRead}
use Rattle.mad_blocks.specs.Tables.{centered}
use Rattle.mad_blocks.specs.TextParts.{columns_among}
use Rattle.mad_blocks.proofs.ReadTables.{table_by_lines, table_stays}
use Rattle.mad_blocks.proofs.table_cursor.TableCursor.new.Goals as goal

pub returns-then-nbcols-eq0 : goal.returns-then-nbcols-eq0
returns-then-nbcols-eq0 g c =
    let count : c.columns_among-nbcols.result ≡ columns_among (map content_of c.args.table.items) = c.columns_among-nbcols.ensures ∙ ap (λ (ls : List Line). columns_among (map content_of ls)) c.deref.ensures.value in
    let none : (c.columns_among-nbcols.result ≡ 0) ⊎ (c.args.width ≡ 0) = search rules in
    λ lines h. table_stays (g.S.LineSkin.rules c.args.skin.now) c.args.width c.columns_among-nbcols.result (map content_of c.args.table.items) _ [] [] lines (ap (map content_of) c.into_iter.ensures.rest) count none h

pub returns : goal.returns
returns g c =
    let skin = g.S.LineSkin.rules c.args.skin.now in
    let count : c.columns_among-nbcols.result ≡ columns_among (map content_of c.args.table.items) = c.columns_among-nbcols.ensures ∙ ap (λ (ls : List Line). columns_among (map content_of ls)) c.deref.ensures.value in
    let some : 0 < c.columns_among-nbcols.result = search rules in
    let wide : 0 < c.args.width = search rules in
    λ lines h. table_by_lines skin c.args.width c.columns_among-nbcols.result (map content_of c.args.table.items) _ c.in_ok-widths.widths.items c.in_ok-columns.columns.items lines (ap (map content_of) c.into_iter-2.ensures.rest) count some wide
    (λ read reads. c.in_ok-widths.ensures read (subst (λ (ls : List Line). AreRead skin (map content_of ls) read) (sym c.deref-2.ensures.value) reads)) (c.in_ok-columns.ensures ∙ ap centered c.deref-3.ensures.value) h
