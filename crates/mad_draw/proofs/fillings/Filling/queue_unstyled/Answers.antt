use Rattle.std.proofs.Common.{◌%◌, ◌/◌, ℕ, List, ◌++◌, subst, ap, ◌∙◌, arith}
use Rattle.std.specs.Prelude.{encode_utf8}
use Rattle.std.specs.List.{repeat}
use Rattle.mad_term.specs.Draws.{Draws, Refused}
use Rattle.mad_term.proofs.Exits.{refused_exit, refused_in_first}
use Rattle.mad_draw.specs.Fillings.{piece_chars}
use Rattle.mad_draw.proofs.FillingLemmas.{piece_chars_is, repeat_in_pieces}
use Rattle.mad_draw.proofs.PartLemmas.{draws_after}
use Rattle.mad_draw.proofs.fillings.Filling.queue_unstyled.Goals as goal

pub front-requires : goal.front-requires
front-requires g c = omega (arith, piece_chars_is)

-- the text is the kept one many times, and a front of it
pub returns-in_err-put_times-clause-writes : goal.returns-in_err-put_times-clause-writes
returns-in_err-put_times-clause-writes g c =
    let text = encode_utf8 c.args.self.now.filling_char in
    let n = c.args.len in
    let error = c.in_err-put_times.field-0.0 in
    let old = g.O.Out.seen c.args.out.now in
    let new = g.O.Out.seen c.put_times.new.out in
    refused_exit _ _ _ _ _ c.from_residual.ensures.1
    (subst (λ (t : List ℕ). Refused old t error new) (repeat_in_pieces n text)
    (refused_in_first error old new (repeat (n / 1000) (repeat piece_chars text)) (repeat (n % 1000) text)
    (subst (λ (t : List ℕ). Refused old (repeat (n / 1000) t) error new) (c.deref.ensures ∙ c.args.self.now.whole) c.in_err-put_times.ensures.writes)))

pub returns-clause-writes : goal.returns-clause-writes
returns-clause-writes g c =
    let text = encode_utf8 c.args.self.now.filling_char in
    let n = c.args.len in
    let old = g.O.Out.seen c.args.out.now in
    let mid = g.O.Out.seen c.put_times.new.out in
    let new = g.O.Out.seen c.put_text.new.out in
    subst (λ (t : List ℕ). Draws old t c.put_text.result new) (ap (λ (t : List ℕ). repeat (n / 1000) t ++ c.front.result.now) (c.deref.ensures ∙ c.args.self.now.whole) ∙ ap (λ (t : List ℕ). repeat (n / 1000) (repeat piece_chars text) ++ t) c.front.ensures ∙ repeat_in_pieces n text)
    (draws_after c.put_text.result old mid new (repeat (n / 1000) c.deref.result.now) c.front.result.now c.in_ok-put_times.ensures.writes c.put_text.ensures.writes)
