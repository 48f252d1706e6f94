use Rattle.std.proofs.Common.{◌≡◌, ◌+◌, ◌==◌, ◌++◌, ℕ, List, take, get_or, length, string_bytes, ap, arith, sym, ◌∙◌}
use Rattle.std.proofs.lemmas.List.{length-take, take_all}
use Rattle.mad_format.specs.declared.line.FmtLine.{FmtLine}
use Rattle.mad_patterns.specs.Searches.{joined, places, row_text, row_texts}
use Rattle.mad_patterns.proofs.FoundLemmas.{joined_more, place_more, row_more, row_texts_long, start_is}
use Rattle.mad_patterns.proofs.found.joined.Goals as goal

pub loop-index-preserved : goal.loop-index-preserved
loop-index-preserved c =
    let rows = c.args.rows.now in
    let i = c.loop-index.index in
    let done : List (List ℕ) = take i (row_texts rows) in
    let own : List ℕ = row_text (i + 1 == length rows) (get_or rows i c.index-rows-index.result) in
    let long : i ≡ length done = omega (arith, length-take i (row_texts rows), row_texts_long rows) in
    let put : string_bytes c.push_row.new.text ≡ string_bytes c.push_break.new.text ++ own = c.in_ok-push_row.ensures ∙ ap (λ (l : FmtLine). string_bytes c.push_break.new.text ++ row_text (i + 1 == length rows) l) c.index-rows-index.is in
    let at : c.len-start.result ≡ length (string_bytes c.push_break.new.text) = c.len-start.ensures ∙ c.push_break.new.text.bytes.ok.0 in
    let start = start_is done _ _ i c.len-start.result long c.loop-index.invariant.text c.in_ok-push_break.ensures at in
    record {
      text = joined_more done own _ _ _ i long c.loop-index.invariant.text c.in_ok-push_break.ensures put ∙ ap joined (sym (row_more rows i c.index-rows-index.result (omega arith)));
      places =
          place_more done own _ _ _ _ c.len-start.result c.len.result c.loop-index.invariant.places start at put (c.len.ensures ∙ c.push_row.new.text.bytes.ok.0) c.in_ok-push.ensures.items
          ∙ ap (places 0) (sym (row_more rows i c.index-rows-index.result (omega arith)));
    }

pub returns : goal.returns
returns c =
    let rows = c.args.rows.now in
    let whole : take c.loop-index.index (row_texts rows) ≡ row_texts rows = take_all c.loop-index.index (row_texts rows) (omega (arith, row_texts_long rows)) in
    record { text = c.loop-index.invariant.text ∙ ap joined whole; places = c.loop-index.invariant.places ∙ ap (places 0) whole }
