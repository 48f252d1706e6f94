use Rattle.std.proofs.Common.{Bool, not, ap}
use Rattle.std.proofs.lemmas.Bool.{ne_eqb}
use Rattle.std.proofs.lemmas.Result.{on_ok_weaker}
use Rattle.markdown_lines.specs.LinksOf.{defined_of}
use Rattle.markdown_stream.specs.Openings.{openings_of}
use Rattle.markdown_stream.specs.Provisional.{Opening, with_labels}
use Rattle.markdown_stream.proofs.ProvisionalLemmas.{closed, opened, other_read}
use Rattle.markdown_stream.proofs.provisional.read_byte.Goals as goal

pub returns-in_ok-push : goal.returns-in_ok-push
returns-in_ok-push c =
    let open_at : Bool → Opening = λ free. record { behind = c.args.next.now; free = free } in
    opened (defined_of c.args.definitions.now) c.args.opens.now.items c.push.new.self.items _ c.args.before c.args.b c.args.next.now c.if-b-eq91.true c.in_ok-push.ensures.items
    (ap (λ t. open_at (not t)) c.is_word-free.ensures)

pub returns-then-b-eq93 : goal.returns-then-b-eq93
returns-then-b-eq93 c =
    on_ok_weaker c.close.result
    (λ e. closed (defined_of c.args.definitions.now) (defined_of c.close.new.definitions) (openings_of c.args.opens.now.items) (openings_of c.close.new.opens.items) c.args.before c.args.b c.args.next.now c.if-b-eq93.true e c.close.ensures.opens)
    c.close.ensures.labels

pub returns-else-b-eq93 : goal.returns-else-b-eq93
returns-else-b-eq93 c =
    ap (with_labels (defined_of c.args.definitions.now))
    (other_read (openings_of c.args.opens.now.items) c.args.before c.args.b c.args.next.now (ne_eqb c.args.b 91 c.if-b-eq91.false) (ne_eqb c.args.b 93 c.if-b-eq93.false))
