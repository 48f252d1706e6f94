use Rattle.std.proofs.Common.{◌≡◌, ◌∷◌, [], List, ℕ, Vec, Global, length, map, refl, ap, ◌∙◌, subst, arith}
use Rattle.std.specs.Vec.Iter.{into_iter_items}
use Rattle.std.proofs.lemmas.Grind.{common_steps}
use Rattle.mad_md.specs.Lines.{content_of}
use Rattle.mad_md.specs.declared.line.Line.{Line}
use Rattle.mad_measure.specs.declared.spacing.Spacing.{Spacing}
use Rattle.mad_format.specs.CompositeWraps.{IsCompositeWrap}
use Rattle.mad_format.proofs.ReadLemmas.{line_measured}
use Rattle.mad_blocks.specs.Tables.{columns_from, IsTableLineBy}
use Rattle.mad_blocks.proofs.ReadTables.{line_laid, line_stays, nothing_becomes}
use Rattle.mad_blocks.proofs.table_cursor.TableCursor.lay_next.Goals as goal

pub returns-in_default : goal.returns-in_default
returns-in_default g c =
    let none : into_iter_items c.args.self.now.lines ≡ [] = grind (arith, common_steps) in
    (refl, nothing_becomes _ _ _ _ _ _ (ap (map content_of) none))

pub push_table_line-requires : goal.push_table_line-requires
push_table_line-requires g c = line_measured (g.S.LineSkin.rules c.args.skin.now) (content_of c.in-Some.read) c.in_ok-line.line c.in_ok-line.ensures

pub returns-then-self : goal.returns-then-self
returns-then-self g c = (
  ap (λ (ls : List Line). length (map content_of ls)) c.in-Some.ensures.cases.0,
  (
    c.in_ok-line.line ∷ [],
    c.in_ok-put_line.ensures,
    λ more h. line_stays (g.S.LineSkin.rules c.args.skin.now) c.args.self.now.widths.items c.args.self.now.columns.items c.args.self.now.first (map content_of (into_iter_items c.args.self.now.lines)) (map content_of (into_iter_items c.next.new.self)) (content_of c.in-Some.read) c.in_ok-line.line c.args.self.now.stays more
        c.if-self.true (ap (map content_of) c.in-Some.ensures.cases.0) c.in_ok-line.ensures h,
  ),
)

pub returns : goal.returns
returns g c =
    let skin = g.S.LineSkin.rules c.args.skin.now in
    let self = c.args.self.now in
    let line = c.in_ok-line.line in
    let own = c.in_ok-push_table_line.ensures in
    let columns = c.in_ok-self.ensures ∙ ap (λ (ws : List ℕ). columns_from ws c.replace-above.result.items line) c.deref.ensures.value ∙ ap (λ (v : Vec Spacing Global). columns_from self.widths.items v.items line) c.replace-above.ensures.value in
    let left : c.len.result ≡ length (map content_of (into_iter_items c.next.new.self)) = grind (arith, common_steps) in (
      ap (λ (ls : List Line). length (map content_of ls)) c.in-Some.ensures.cases.0,
      (
        own.0,
        own.1,
        λ more h. line_laid skin self.widths.items self.columns.items _ self.first c.position_at-position.result c.len.result (map content_of (into_iter_items self.lines)) (map content_of (into_iter_items c.next.new.self)) (content_of c.in-Some.read) line self.stays own.0 more
            c.if-self.false (ap (map content_of) c.in-Some.ensures.cases.0) c.in_ok-line.ensures columns left c.position_at-position.ensures (subst (λ (xs : List Spacing). IsTableLineBy IsCompositeWrap skin xs c.position_at-position.result line own.0) c.deref-2.ensures.value own.2) h,
      ),
    )
