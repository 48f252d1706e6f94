use Rattle.std.proofs.Common.{◌∷◌, [], ◌∙◌, ap, map, sym}
use Rattle.std.specs.Prelude.{string_bytes}
use Rattle.mad_marked_rows.specs.LinkedTexts.{pieces_on}
use Rattle.mad_marked_rows.specs.Written.{seen_link}
use Rattle.mad_marked_rows.specs.declared.seen.SeenChar.{SeenChar}
use Rattle.mad_marked_rows.proofs.WrittenLemmas.{seen_done, seen_gone}
use Rattle.mad_marked_rows.proofs.written.append_seen.Goals as goal

pub loop-one-preserved : goal.loop-one-preserved
loop-one-preserved c =
    let before = c.loop-one in
    seen_gone c.args.addresses.now (string_bytes before.rows, before.link) (string_bytes c.append_one.new.rows, c.in_ok-link.link) _ c.args.seen.now before.one-index c.one-item.result c.loop-one-test.true
    (ap (λ (s : SeenChar). pieces_on c.args.addresses.now (string_bytes before.rows, before.link) (seen_link s ∷ [])) (sym c.one-item.is) ∙ c.in_ok-link.ensures) before.invariant

pub returns : goal.returns
returns c =
    let last = c.loop-one in
    seen_done c.args.addresses.now (string_bytes last.rows, last.link) (string_bytes c.args.rows.now) (string_bytes c.push_end.new.row) (map seen_link c.args.seen.now) c.args.seen.now last.one-index c.loop-one-test.false last.invariant c.in_ok-push_end.ensures
