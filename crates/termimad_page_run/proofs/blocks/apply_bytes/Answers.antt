use Rattle.std.proofs.Common.{◌≡◌, ◌+◌, [], ◌++◌, Some, None, refl, sym, ap, ◌∙◌}
use Rattle.mad_pager.specs.Pagers.{view_of}
use Rattle.mad_pager.specs.Sessions.{asks_size, end_of}
use Rattle.mad_pager.specs.declared.session.Turn.TheVariants.{Ends}
use Rattle.mad_input.specs.Hearing.{all_heard}
use Rattle.termimad_page_run.specs.Blocks.{turn_told}
use Rattle.termimad_page_run.proofs.BlockLemmas.{byte_read, session_more, ended, ends_is, none_some, block_read, block_paused}
use Rattle.termimad_page_run.proofs.blocks.apply_bytes.Goals as goal

pub loop-b-init : goal.loop-b-init
loop-b-init c = record { heard = []; told = (refl, refl); session = (refl, refl) }

pub loop-b-preserved : goal.loop-b-preserved
loop-b-preserved c =
    let inv = c.loop-b.invariant in
    let goes : end_of (turn_told c.byte-heard.result (view_of c.loop-b.pager)) ≡ None = ap end_of (sym c.in_ok-turn.ensures.turn) ∙ (sym c.end.ensures ∙ c.in_default.is) in
    record {
      heard = inv.heard ++ all_heard c.byte-heard.result;
      told = byte_read _ _ _ _ _ _ _ c.loop-b-test.true inv.told c.byte-heard.ensures;
      session = session_more _ _ _ _ _ _ _ inv.session c.in_ok-turn.ensures.step goes (c.asks_size-asks.ensures ∙ ap asks_size c.in_ok-turn.ensures.turn);
    }

pub returns-in-Some-clause-goes : goal.returns-in-Some-clause-goes
returns-in-Some-clause-goes c = λ none. let e : Some c.in-Some.end ≡ None = none in absurd (cc)

pub returns-in-Some-clause-ends : goal.returns-in-Some-clause-ends
returns-in-Some-clause-ends c = λ end is.
    let inv = c.loop-b.invariant in
    let over : turn_told c.byte-heard.result (view_of c.loop-b.pager) ≡ Ends c.in-Some.end = sym c.in_ok-turn.ensures.turn ∙ ends_is _ _ (sym c.end.ensures ∙ c.in-Some.is) in
    let given : Some c.in-Some.end ≡ Some end = is in
    let same : c.in-Some.end ≡ end = cc in
    ended _ _ (c.loop-b.b-index + 1) _ inv.heard _ _ c.byte-heard.result _ end (byte_read _ _ _ _ _ _ _ c.loop-b-test.true inv.told c.byte-heard.ensures) inv.session (over ∙ ap Ends same)

pub returns-then-pauses-clause-goes : goal.returns-then-pauses-clause-goes
returns-then-pauses-clause-goes c = λ differs.
    let inv = c.loop-b.invariant in
    let it = c.in_ok-apply_pause.ensures in
    block_paused _ _ c.loop-b.b-index _ inv.heard _ _ _ _ _ it.0 _ _ c.loop-b-test.false c.if-pauses.true inv.told inv.session c.turn_after-turn.ensures.asks it.1 it.2

pub returns-then-pauses-clause-ends : goal.returns-then-pauses-clause-ends
returns-then-pauses-clause-ends c = λ end is. absurd (none_some end (sym c.turn_after-turn.ensures.goes ∙ is))

pub returns-clause-goes : goal.returns-clause-goes
returns-clause-goes c = λ differs.
    let inv = c.loop-b.invariant in
    block_read _ _ c.loop-b.b-index _ inv.heard _ _ _ _ _ c.loop-b-test.false c.if-pauses.false inv.told inv.session c.turn_after-turn.ensures.asks

pub returns-clause-ends : goal.returns-clause-ends
returns-clause-ends c = λ end is. absurd (none_some end (sym c.turn_after-turn.ensures.goes ∙ is))
