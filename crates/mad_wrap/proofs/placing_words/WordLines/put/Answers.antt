use Rattle.std.proofs.Common.{◌∷◌, [], ◌++◌, refl, ap, ◌∙◌}
use Rattle.mad_wrap.specs.Words.{alone}
use Rattle.mad_wrap.specs.declared.placing_words.WordLines.{WordLines}
use Rattle.mad_wrap.specs.declared.wrapped_line.WrappedLine.{WrappedLine}
use Rattle.mad_wrap.proofs.WordLineLemmas.{HasLine, line_stays, line_begins, alone_is, takes_one}
use Rattle.mad_wrap.proofs.placing_words.WordLines.put.Goals as goal
use Rattle.mad_wrap.proofs.placing_words.WordLines.put.Goals.{in-OnLine, in-OnNext+in_ok-next-in-OnNext+in_ok-push-in-OnNext}

pub returns : goal.returns
returns c =
    let s = c.args.self.now in
    let m = c.match-put.self in
    let part = c.to_compound.ensures in
    let added = c.in_ok-add.ensures in
    let line = elim c.match-put.branch as (λ _. HasLine s c.args.token m) [
      | in-OnLine w ↦ line_stays s m c.args.token _ w.in-OnLine.ensures w.self-is
      | in-OnNext+in_ok-next-in-OnNext+in_ok-push-in-OnNext w ↦
          let next = w.in_ok-next-in-OnNext.ensures in
          line_begins s m m c.args.token _ w.in-OnNext.ensures (record {
            lines_are = ap (λ (x : WordLines). x.lines.items) w.self-is ∙ w.in_ok-push-in-OnNext.ensures.items ∙ ap (λ l. s.lines.items ++ l ∷ []) w.replace.ensures.value;
            line_is = record {
              empty = ap (λ (x : WordLines). x.line.compounds.items) w.self-is ∙ ap (λ (l : WrappedLine). l.compounds.items) w.replace.ensures.after ∙ next.empty;
              columns_are = ap (λ (x : WordLines). x.line.columns) w.self-is ∙ ap (λ (l : WrappedLine). l.columns) w.replace.ensures.after ∙ next.columns;
            };
            fit_is = ap (λ (x : WordLines). x.fit) w.self-is;
          }) refl
    ] in
    line (alone c.args.token) (record m { line = c.add.new.self }) (alone_is c.args.token) refl refl
    (takes_one _ _ c.args.token (record { compound = c.to_compound.result; bytes = part.text; flags = part.flags; text = added.text; columns = added.columns }))
