use Rattle.std.proofs.Common.{ap, length, map, refl, ◌∙◌}
use Rattle.regex.specs.Strings.{regex_pattern}
use Rattle.mad_patterns.specs.Searches.{hits}
use Rattle.mad_hits.specs.Hits.{marked_of}
use Rattle.mad_hits.proofs.OwnRowLemmas.{own_put}
use Rattle.mad_hits.proofs.own_rows.hits_of_row.Goals as goal

pub returns : goal.returns
returns c =
    let spelt = c.in_ok-text.ensures in
    own_put (regex_pattern c.args.sought.now) c.args.row.now c.as_bytes.result.now c.as_slice.result.now c.len.result _ _
    (ap (map marked_of) c.new-hits.ensures.items) (c.as_bytes.ensures.value ∙ (c.as_str-2.ensures.value ∙ spelt))
    (c.as_slice.ensures.value ∙ (c.in_ok-found.ensures ∙ ap (hits (regex_pattern c.args.sought.now)) (c.as_str.ensures.value ∙ spelt))) (c.len.ensures ∙ (c.in_ok-text.text.bytes.ok.0 ∙ ap length spelt))
    (c.in_ok-push_parts.ensures 0 refl)
